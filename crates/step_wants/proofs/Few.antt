-- How many names there are.
use Rattle.std.proofs.Common.{◌≡◌, ℕ, zero, suc, ◌+◌, ◌-◌, ◌*◌, ◌≤◌, List, [], ◌∷◌, ◌++◌, length, Bool, true, false, cond, Option, None, Some, refl, arith, length-append}
use Rattle.std.specs.Prelude.{nat_le}
use Rattle.std.specs.declared.cmp.Ordering.{Ordering}
use Rattle.std.proofs.lemmas.List.{length-map}
use Rattle.std.proofs.lemmas.Bool.Decides.{nat_tests}
use Rattle.machine_names.specs.declared.names.ForkName.{ForkName}
use Rattle.machine_names.specs.declared.names.Kind.TheVariants.{Write}
use Rattle.machine_names.specs.declared.names.PageName.{PageName}
use Rattle.machine_names.specs.declared.names.Slot.{Slot}
use Rattle.plain_pages.specs.declared.map.MapEntry.{MapEntry}
use Rattle.plain_pages.specs.declared.map.MapEntry.TheVariants.{Empty, Follows, Names}
use Rattle.plain_pages.specs.Maps.{Entries, entry_at, followed, maps_from, maps_on_way, maps_within}
use Rattle.plain_pages.specs.PlainPages.{PlainPages}
use Rattle.plain_pages.specs.References.{Spot, in_file, in_map, page_at, slot_at}
use Rattle.plain_units.specs.Steps.{Asked, Progress, Steps, asked_at, calls, ends, goes, is_accumulator, keeps, plainly, referred, refers, stops, traps, widened, widens, word_taken}
use Rattle.plain_units.specs.declared.unit.TheConstants.{MOST_REFERENCES}
use Rattle.step_wants.specs.Naming.{AskAgainLast, EndAtOnce}
use Rattle.step_wants.specs.Names.{Housed, a_map, maps_to, names_at, names_of_steps, names_on_way, page_named, where_granted}

maps_few : (n : ℕ) (entries : Entries) (s : Slot) → length (maps_within n entries s) ≤ n
unfolding maps_within
maps_few zero entries s = omega arith
maps_few (suc n) entries s = by (entries s) (maps_few n entries)
  where
    by : (o : Option MapEntry) → ((r : Slot) → length (maps_within n entries r) ≤ n) → length (maps_from s o (maps_within n entries)) ≤ suc n
    by None rest = omega arith
    by (Some Empty) rest = omega arith
    by (Some (Names m a)) rest = omega arith
    by (Some (Follows serial page a)) rest = let more = rest (followed s serial page) in omega (arith, more)

pub page_few : (o : Option PageName) → length (page_named o) ≤ 1
page_few None = omega arith
page_few (Some n) = omega arith

module _ {K : Type 0} {file_cmp : K → K → Ordering} where
  pub maps_to_few : (p : PlainPages file_cmp) (at : Spot K) → length (maps_to p at) ≤ 4
  unfolding maps_on_way
  maps_to_few p (in_map s) = let few = maps_few 4 (entry_at p.maps) s in omega (arith, few, length-map (maps_within 4 (entry_at p.maps) s) a_map)
  maps_to_few p (in_file f) = omega arith

  pub way_few : (p : PlainPages file_cmp) (at : Spot K) → length (names_on_way p at) ≤ 5
  way_few p at = omega (arith, length-append (maps_to p at) (page_named (page_at p at)), maps_to_few p at, page_few (page_at p at))

  at_few : (p : PlainPages file_cmp) (f : ForkName) (a : ℕ) → length (names_at p f a) ≤ 5
  at_few p f a = by (is_accumulator a)
    where
      by : (b : Bool) → length (cond b [] (names_on_way p (in_map (slot_at f a)))) ≤ 5
      by true = omega arith
      by false = way_few p (in_map (slot_at f a))

  granted_few : (most : ℕ) (asked : Asked ⊥ (PlainPages file_cmp)) (next : PlainPages file_cmp → List Housed) → ((p : PlainPages file_cmp) → length (next p) ≤ most) → length (where_granted asked next) ≤ most
  granted_few most (goes p) next few = few p
  granted_few most (stops why) next few = omega arith

  pub steps_few : (f : ForkName) (steps : Steps) (t : Progress file_cmp) → AskAgainLast steps → length t.refs ≤ 16 → length (names_of_steps f steps t) + 5 * length t.refs ≤ 85
  unfolding names_of_steps
  steps_few f (refers a kind next) t last low = by (nat_le MOST_REFERENCES (length t.refs)) refl (λ w u. steps_few f (next w) u (last w))
    where
      behind : PlainPages file_cmp → List Housed
      behind p = names_of_steps f (next (word_taken f (referred t a kind p) a)) (referred t a kind p)

      by : (b : Bool) → nat_le MOST_REFERENCES (length t.refs) ≡ b → ((w : ℕ) (u : Progress file_cmp) → length u.refs ≤ 16 → length (names_of_steps f (next w) u) + 5 * length u.refs ≤ 85)
          → length (cond b [] (names_at t.pages f a ++ where_granted (asked_at (plainly f) f t.pages a kind) behind)) + 5 * length t.refs ≤ 85
      by true is rest = omega (arith, low)
      by false is rest =
          let room : length t.refs + 1 ≤ 16 = grind (arith, nat_tests, is) in
          let longer : length (t.refs ++ record { address = a; kind = kind } ∷ []) ≡ length t.refs + 1 = length-append t.refs (record { address = a; kind = kind } ∷ []) in
          let later = granted_few (80 - 5 * length t.refs) (asked_at (plainly f) f t.pages a kind) behind
          (λ p. let more = rest (word_taken f (referred t a kind p) a) (referred t a kind p) (omega (arith, longer, room)) in omega (arith, more, longer, room)) in
          omega (arith, room, later, at_few t.pages f a, length-append (names_at t.pages f a) (where_granted (asked_at (plainly f) f t.pages a kind) behind))
  steps_few f (widens a next) t last low = by next last
    where
      by : (s : Steps) → EndAtOnce s → length (names_at t.pages f a ++ where_granted (asked_at (plainly f) f t.pages a Write) (λ p. names_of_steps f s (widened t a p))) + 5 * length t.refs ≤ 85
      by (ends e) at_once =
          let none = granted_few 0 (asked_at (plainly f) f t.pages a Write) (λ p. []) (λ p. omega arith) in
          omega (arith, low, none, at_few t.pages f a, length-append (names_at t.pages f a) (where_granted (asked_at (plainly f) f t.pages a Write) (λ p. [])))
      by (refers b kind more) at_once = absurd at_once
      by (widens b more) at_once = absurd at_once
      by (keeps b w more) at_once = absurd at_once
      by (traps channel) at_once = absurd at_once
      by (calls number) at_once = absurd at_once
  steps_few f (keeps a w next) t last low = steps_few f next (record t { kept = Some (record { at = a; word = w }) }) last low
  steps_few f (ends e) t last low = omega (arith, low)
  steps_few f (traps channel) t last low = omega (arith, low)
  steps_few f (calls number) t last low = omega (arith, low)
