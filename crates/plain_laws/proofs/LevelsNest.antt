-- Levels nest: what is delivered goes before what is in progress, and when it is over the levels are as they were.
use Rattle.std.proofs.Common.{◌≡◌, ℕ, zero, suc, ◌+◌, ◌-◌, ◌<◌, ◌≤◌, ◌&&◌, Bool, true, false, cond, not, List, [], ◌∷◌, length, Option, None, Some, refl, ◌∙◌, ap, subst, arith}
use Rattle.std.specs.Prelude.{find, nat_le, nat_lt, slice_index, slice_index_or, slice_set, take}
use Rattle.std.specs.List.{filter, list_any, range_with_len}
use Rattle.std.specs.Option.{option_map_or}
use Rattle.std.proofs.lemmas.Bool.{cond_both}
use Rattle.std.proofs.lemmas.Bool.Decides.{nat_tests}
use Rattle.word36.specs.Words.{left, right}
use Rattle.machine_names.specs.declared.names.ForkName.{ForkName}
use Rattle.plain_pages.specs.PlainPages.{NamedPages}
use Rattle.plain_units.specs.Steps.{Planned, call, done, stopped}
use Rattle.plain_units.specs.Blocks.{steps_on}
use Rattle.plain_units.proofs.PageRuns.{PlanLeaves}
use Rattle.machine_names.specs.Orders.{name_cmp}
use Rattle.plain_model.specs.declared.call.End.TheVariants.{Done}
use Rattle.plain_model.specs.declared.fork.Fork.{Fork}
use Rattle.plain_model.specs.declared.fork.Psi.{Psi}
use Rattle.plain_model.specs.declared.interrupt.Delivery.{Delivery}
use Rattle.plain_model.specs.declared.interrupt.Found.{Found}
use Rattle.plain_model.specs.declared.interrupt.Inspected.{Inspected}
use Rattle.plain_model.specs.declared.interrupt.Inspected.TheVariants.{Nothing, Delivers, Forces}
use Rattle.plain_model.specs.declared.interrupt.TheConstants.{CHANNELS, LEVELS}
use Rattle.plain_model.specs.Calls.{ends, no_files, turn_on}
use Rattle.plain_model.specs.Inspections.{better, chosen, goes_before, inspected_by, inspecting, inspection, is_wanted, judged, least_level, wanted, with_level}
use Rattle.plain_model.specs.InterruptCalls.{without_level}
use Rattle.plain_model.specs.Interrupts.{is_panic}
use Rattle.plain_model.specs.Readings.{Reading, words, read, with_reading}
use Rattle.plain_model.specs.State.{PlainState}
use Rattle.plain_model.proofs.Turns.{Comes, takes_comes}
use Rattle.plain_laws.specs.InterruptLaws.{Finds, GoesBefore, HasLevels, IsLevel}

-- ---- what is found

-- what a reading may come to
abbrev pub AllRead : {A : Type 0} → (A → Type 0) → Reading A → Type 0
AllRead Good (words steps rest) = (w : ℕ) → AllRead Good (rest w)
AllRead Good (read found) = Good found

anyhow : (f : ForkName) (r : Planned name_cmp ⊥) → PlanLeaves (λ q. Unit {0}) f r
anyhow f (done t e) = tt
anyhow f (stopped why) = tt
anyhow f (call number) = tt

-- channels that are all active and pending
abbrev AreWanted : Psi → List ℕ → Type 0
AreWanted psi [] = Unit {0}
AreWanted psi (channel ∷ channels) = (channel < CHANNELS) × (is_wanted psi channel ≡ true) × AreWanted psi channels

-- so is what a turn finds that reads, where it may be forced
module _ (f : Fork) (Good : Inspected → Type 0) (forced : (channel : ℕ) → Good (Forces channel)) where
  pub turn_good : (r : Reading Inspected) → AllRead Good r → (q : NamedPages) → Comes no_files q (λ e x. Good (inspected_by e)) (with_reading f.name f.body.regs r (λ what. ends (Done what f.body.regs None None)))
  unfolding with_reading turn_on
  turn_good (words steps rest) good q =
      takes_comes no_files q (λ e x. Good (inspected_by e)) (λ x. Unit {0}) f.name f.body.regs steps (λ e. with_reading f.name f.body.regs (rest (slice_index e.regs.ac 0)) (λ what. ends (Done what f.body.regs None None)))
      (anyhow f.name (steps_on f.name f.body.regs steps q)) (λ x e k. turn_good (rest (slice_index e.regs.ac 0)) (good (slice_index e.regs.ac 0)) x) (λ channel. forced channel)
  turn_good (read found) good q = good

module _ (f : Fork) where
  -- a channel that was found may be delivered
  abbrev MayBe : Found → Type 0
  MayBe found = (found.channel < CHANNELS) × (is_wanted f.body.psi found.channel ≡ true) × GoesBefore f.body.psi found

  abbrev Best : Option Found → Type 0
  Best None = Unit {0}
  Best (Some found) = MayBe found

  abbrev Good : Inspected → Type 0
  Good Nothing = Unit {0}
  Good (Delivers d) = MayBe d.found
  Good (Forces channel) = Unit {0}

  chosen_good : (table : ℕ) (best : Option Found) → Best best → AllRead Good (chosen f.body.regs table best)
  chosen_good table None good = tt
  chosen_good table (Some found) good = λ w old. good

  better_good : (new : Found) (best : Option Found) → MayBe new → Best best → MayBe (better new best)
  better_good new None here good = here
  better_good new (Some found) here good = cond_both (nat_lt new.level found.level) new found MayBe (λ less. here) (λ more. good)

  pub level_is : (l : ℕ) → not (nat_le 1 l && nat_le l LEVELS) ≡ false → IsLevel l
  level_is l h = by (nat_le 1 l) (nat_le l LEVELS) refl refl h
    where
      first : nat_le 1 l ≡ true → 1 ≤ l
      first e = grind (arith, nat_tests)

      last : nat_le l LEVELS ≡ true → l ≤ LEVELS
      last e = grind (arith, nat_tests)

      by : (a b : Bool) → nat_le 1 l ≡ a → nat_le l LEVELS ≡ b → not (a && b) ≡ false → IsLevel l
      by true true x y e = (first x, last y)
      by true false x y e = absurd (cc e)
      by false b x y e = absurd (cc e)

  judged_good : (channel w : ℕ) (best : Option Found) (next : Option Found → Reading Inspected) → channel < CHANNELS → is_wanted f.body.psi channel ≡ true → Best best → ((b : Option Found) → Best b → AllRead Good (next b)) → AllRead Good (judged f.body.psi channel w best next)
  judged_good channel w best next fits wants good goes =
      let new : Found = record { channel = channel; level = left w; to = right w } in
      cond_both (not (nat_le 1 (left w) && nat_le (left w) LEVELS)) _ _ (AllRead Good) (λ bad. tt) (λ is.
      cond_both (goes_before (left w) f.body.psi) _ _ (AllRead Good) (λ before. goes (Some (better new best)) (better_good new best (fits, wants, (level_is (left w) is, before)) good)) (λ after.
      cond_both (is_panic channel) _ _ (AllRead Good) (λ panics. tt) (λ waits. goes best good)))

  inspecting_good : (table : ℕ) (channels : List ℕ) (best : Option Found) → AreWanted f.body.psi channels → Best best → AllRead Good (inspecting f table channels best)
  unfolding inspecting
  inspecting_good table [] best each good = chosen_good table best good
  inspecting_good table (channel ∷ channels) best each good = λ w. judged_good channel w best (inspecting f table channels) each.0 each.1 good (λ b h. inspecting_good table channels b each.2 h)

  wanted_each : (from n : ℕ) → from + n ≤ CHANNELS → AreWanted f.body.psi (filter (is_wanted f.body.psi) (range_with_len from n))
  wanted_each from zero fits = tt
  wanted_each from (suc n) fits = by (is_wanted f.body.psi from) refl (wanted_each (from + 1) n (omega (arith, fits)))
    where
      rest : List ℕ
      rest = filter (is_wanted f.body.psi) (range_with_len (from + 1) n)

      by : (b : Bool) → is_wanted f.body.psi from ≡ b → AreWanted f.body.psi rest → AreWanted f.body.psi (cond b (from ∷ rest) rest)
      by true is more = (omega (arith, fits), is, more)
      by false is more = more

  inspection_good : AllRead Good (inspection f)
  inspection_good = by f.body.psi.table
    where
      by : (o : Option ℕ) → AllRead Good (option_map_or (λ table. inspecting f table (wanted f.body.psi) None) o (read Nothing))
      by None = tt
      by (Some table) = inspecting_good table (wanted f.body.psi) None (wanted_each 0 CHANNELS (omega arith)) tt

-- WHAT IS DELIVERED goes before what is in progress
pub delivered_before : (s : PlainState) (f : Fork) (d : Delivery) → Finds s f (Delivers d) → (d.found.channel < CHANNELS) × (is_wanted f.body.psi d.found.channel ≡ true) × GoesBefore f.body.psi d.found
delivered_before s f d is = subst (Good f) is (turn_good f (Good f) (λ channel. tt) (inspection f) (inspection_good f) s.pages)

-- ---- levels

-- three levels, of which one is a number
abbrev Nests : List Bool → ℕ → Type 0
Nests levels level =
    not (list_any (λ on. on) (take level levels)) ≡ true
    → (let now = slice_set levels (level - 1) true in (find (λ l. slice_index_or now (l - 1) false) (range_with_len 1 LEVELS) ≡ Some level) × (slice_set now (level - 1) false ≡ levels))

three : (a b c : Bool) (level : ℕ) → IsLevel level → Nests (a ∷ b ∷ c ∷ []) level
three a b c zero is = absurd (omega (arith, is.0))
three false b c (suc zero) is = λ h. (refl, refl)
three true b c (suc zero) is = λ h. absurd (cc h)
three false false c (suc (suc zero)) is = λ h. (refl, refl)
three false true c (suc (suc zero)) is = λ h. absurd (cc h)
three true b c (suc (suc zero)) is = λ h. absurd (cc h)
three false false false (suc (suc (suc zero))) is = λ h. (refl, refl)
three false false true (suc (suc (suc zero))) is = λ h. absurd (cc h)
three false true c (suc (suc (suc zero))) is = λ h. absurd (cc h)
three true b c (suc (suc (suc zero))) is = λ h. absurd (cc h)
three a b c (suc (suc (suc (suc n)))) is = absurd (omega (arith, is.1))

nests : (levels : List Bool) (level : ℕ) → length levels ≡ LEVELS → IsLevel level → Nests levels level
nests (a ∷ b ∷ c ∷ []) level few is = three a b c level is
nests [] level few is = absurd (cc few)
nests (a ∷ []) level few is = absurd (cc few)
nests (a ∷ b ∷ []) level few is = absurd (cc few)
nests (a ∷ b ∷ c ∷ d ∷ rest) level few is = absurd (let more : 4 ≤ length (a ∷ b ∷ c ∷ d ∷ rest) = omega arith in omega (arith, few, more))

-- the level of a delivery is the least in progress then
pub level_least : (psi : Psi) (found : Found) → HasLevels psi → GoesBefore psi found → least_level (with_level psi found) ≡ Some found.level
level_least psi found has before = (nests psi.levels found.level has before.0 before.1).0

-- and where it is over the levels are as they were
pub level_over : (f g : Fork) (found : Found) → HasLevels f.body.psi → GoesBefore f.body.psi found → g.body.psi.levels ≡ (with_level f.body.psi found).levels → (without_level g.body found.level).psi.levels ≡ f.body.psi.levels
level_over f g found has before same = ap (λ (l : List Bool). slice_set l (found.level - 1) false) same ∙ (nests f.body.psi.levels found.level has before.0 before.1).1
