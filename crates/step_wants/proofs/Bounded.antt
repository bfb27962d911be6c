-- Steps and turns that refer to so many pages at most, beside the maps of one terminal's forks.
use Rattle.std.proofs.Common.{◌≡◌, ℕ, zero, suc, ◌+◌, ◌-◌, ◌≤◌, List, [], ◌∷◌, ◌++◌, length, Bool, true, false, cond, Option, None, Some, refl, arith, length-append}
use Rattle.std.specs.Prelude.{nat_le, slice_index}
use Rattle.std.specs.Option.{option_and_then, option_map_or}
use Rattle.std.specs.declared.cmp.Ordering.{Ordering}
use Rattle.std.proofs.lemmas.Bool.Decides.{nat_tests}
use Rattle.machine_names.specs.declared.names.ForkName.{ForkName}
use Rattle.machine_names.specs.declared.names.Kind.TheVariants.{Write}
use Rattle.machine_names.specs.declared.names.PageName.{PageName}
use Rattle.machine_names.specs.declared.names.Tty.{Tty}
use Rattle.plain_pages.specs.declared.map.MapEntry.{MapEntry}
use Rattle.plain_pages.specs.PlainPages.{PlainPages}
use Rattle.plain_pages.specs.References.{Referred, Spot, denied, full, granted, in_file, in_map, page_at, reference, slot_at, word_at}
use Rattle.plain_pages.specs.Room.{HasRoom}
use Rattle.plain_pages.specs.NewMaps.{with_map}
use Rattle.plain_units.specs.declared.registers.Regs.{Regs}
use Rattle.plain_units.specs.declared.unit.TheConstants.{MOST_REFERENCES}
use Rattle.plain_units.specs.Blocks.{steps_on}
use Rattle.plain_units.specs.Steps.{Asked, Ending, Planned, Progress, Steps, asked_at, begun, call, calls, done, ends as steps_end, goes, is_accumulator, keeps, need, pages_left, plainly, referred, refers, stopped, stops, trap, traps, widened, widens, word_taken}
use Rattle.plain_model.specs.Calls.{Sight, Turn, adds, ends, entry_of, finds, looks, makes, reads, sees, spot_of, stepped, takes, touched, touches, with_added}
use Rattle.plain_model.specs.Readings.{Reading, read, with_reading, words}
use Rattle.plain_model.specs.declared.call.End.{End}
use Rattle.plain_model.specs.declared.call.Touched.{Touched}
use Rattle.plain_model.specs.declared.call.Touched.TheVariants as came
use Rattle.step_wants.specs.Naming.{AskAgainLast, EndAtOnce}
use Rattle.step_wants.specs.Names.{Housed, a_map, maps_to, names_at, names_of_steps, names_of_turn, names_on_way, where_granted}
use Rattle.step_wants.proofs.Few.{maps_to_few, way_few}
use Rattle.step_wants.proofs.Small.{AreAll, IsSmall, all_small, both_small, more_small, none_small, way_small}

-- steps that refer so many times at most
abbrev pub StepsAtMost : ℕ → Steps → Type 0
StepsAtMost (suc n) (refers a kind next) = (w : ℕ) → StepsAtMost n (next w)
StepsAtMost zero (refers a kind next) = ⊥
StepsAtMost (suc n) (widens a next) = StepsAtMost n next
StepsAtMost zero (widens a next) = ⊥
StepsAtMost n (keeps a w next) = StepsAtMost n next
StepsAtMost n (steps_end e) = Unit {0}
StepsAtMost n (traps channel) = Unit {0}
StepsAtMost n (calls number) = Unit {0}

-- a reading that does
abbrev pub ReadsAtMost : {A : Type 0} → ℕ → Reading A → Type 0
ReadsAtMost n (words steps rest) = (k : ℕ) × (m : ℕ) × (m + k ≤ n) × StepsAtMost k steps × ((w : ℕ) → ReadsAtMost m (rest w))
ReadsAtMost n (read found) = Unit {0}

-- a turn that does, and takes steps of forks of a terminal alone; what its end refers to says who hands it in
abbrev pub TurnAtMost : {F C : Type 0} → Tty → (ℕ → End C → Type 0) → ℕ → Turn F C → Type 0
TurnAtMost t EndAtMost n (sees s next) = (m : ℕ) × (m + 1 ≤ n) × ((e : MapEntry) → TurnAtMost t EndAtMost m (next e))
TurnAtMost t EndAtMost n (finds at next) = (m : ℕ) × (m + 4 ≤ n) × ((x : Option PageName) → TurnAtMost t EndAtMost m (next x))
TurnAtMost t EndAtMost n (reads f offset next) = (m : ℕ) × (m + 5 ≤ n) × ((w : ℕ) → TurnAtMost t EndAtMost m (next w))
TurnAtMost t EndAtMost n (touches owner at kind next) = (m : ℕ) × (m + 5 ≤ n) × ((x : Touched) → TurnAtMost t EndAtMost m (next x))
TurnAtMost t EndAtMost n (takes f regs steps next) = (k : ℕ) × (m : ℕ) × (m + k ≤ n) × (f.tty ≡ t) × StepsAtMost k steps × ((e : Ending) → TurnAtMost t EndAtMost m (next e))
TurnAtMost t EndAtMost n (adds f entries next) = (b : Bool) → TurnAtMost t EndAtMost n (next b)
TurnAtMost t EndAtMost n (looks name next) = (b : Bool) → TurnAtMost t EndAtMost n (next b)
TurnAtMost t EndAtMost n (makes name next) = (b : Bool) → TurnAtMost t EndAtMost n (next b)
TurnAtMost t EndAtMost n (ends e) = EndAtMost n e

-- a turn that reads, and then goes on
pub reading_at_most : {A F C : Type 0} (t : Tty) (EndAtMost : ℕ → End C → Type 0) (f : ForkName) (regs : Regs) (next : A → Turn F C) (n : ℕ) → f.tty ≡ t → ((x : A) (m : ℕ) → n ≤ m → TurnAtMost t EndAtMost m (next x))
    → (k : ℕ) (r : Reading A) → ReadsAtMost k r → TurnAtMost t EndAtMost (n + k) (with_reading f regs r next)
unfolding with_reading
reading_at_most t EndAtMost f regs next n same each k (words steps rest) low =
    let fits = low.2 in
    (low.0, n + low.1, omega (arith, fits), same, low.3, λ e. reading_at_most t EndAtMost f regs next n same each low.1 (rest (slice_index e.regs.ac 0)) (low.4 (slice_index e.regs.ac 0)))
reading_at_most t EndAtMost f regs next n same each k (read found) low = each found (n + k) (omega arith)

module _ (map_home : ForkName → Option ℕ) (page_home : PageName → Option ℕ) (t : Tty) (own : List ForkName) (owns : AreAll map_home page_home t own) where
  abbrev Small : ℕ → List Housed → Type 0
  Small n names = IsSmall map_home page_home t own owns n names

  more : (n m : ℕ) (names : List Housed) → n ≤ m → Small n names → Small m names
  more n m names le small = more_small map_home page_home t own owns n m names le small

  none : (n : ℕ) → Small n []
  none n = more 0 n [] (omega arith) (none_small map_home page_home t own owns)

  both : (n m : ℕ) (xs ys : List Housed) → Small n xs → Small m ys → Small (n + m) (xs ++ ys)
  both n m xs ys x y = both_small map_home page_home t own owns n m xs ys x y

  counted : (n : ℕ) (names : List Housed) → length names ≤ n → Small n names
  counted n names few = all_small map_home page_home t own owns names n few

  front : (k m n : ℕ) (xs ys : List Housed) → m + k ≤ n → Small k xs → Small m ys → Small n (xs ++ ys)
  front k m n xs ys le x y = more (k + m) n (xs ++ ys) (omega (arith, le)) (both k m xs ys x y)

  module _ {K : Type 0} {file_cmp : K → K → Ordering} where
    at_small : (p : PlainPages file_cmp) (f : ForkName) (a : ℕ) → f.tty ≡ t → Small 1 (names_at p f a)
    at_small p f a same = by (is_accumulator a)
      where
        by : (b : Bool) → Small 1 (cond b [] (names_on_way p (in_map (slot_at f a))))
        by true = none 1
        by false = way_small map_home page_home t own owns p (slot_at f a) same

    granted_small : (n : ℕ) (asked : Asked ⊥ (PlainPages file_cmp)) (next : PlainPages file_cmp → List Housed) → ((p : PlainPages file_cmp) → Small n (next p)) → Small n (where_granted asked next)
    granted_small n (goes p) next small = small p
    granted_small n (stops why) next small = none n

    -- one reference, and what is behind it
    one_more : (n m : ℕ) (p : PlainPages file_cmp) (f : ForkName) (a : ℕ) (asked : Asked ⊥ (PlainPages file_cmp)) (next : PlainPages file_cmp → List Housed) → f.tty ≡ t → n + 1 ≤ m → ((q : PlainPages file_cmp) → Small n (next q))
        → Small m (names_at p f a ++ where_granted asked next)
    one_more n m p f a asked next same le small =
        more (1 + n) m (names_at p f a ++ where_granted asked next) (omega (arith, le)) (both 1 n (names_at p f a) (where_granted asked next) (at_small p f a same) (granted_small n asked next small))

    pub steps_small : (f : ForkName) → f.tty ≡ t → (n : ℕ) (steps : Steps) (u : Progress file_cmp) → StepsAtMost n steps → Small n (names_of_steps f steps u)
    unfolding names_of_steps
    steps_small f same (suc n) (refers a kind next) u low = by (nat_le MOST_REFERENCES (length u.refs)) (λ w v. steps_small f same n (next w) v (low w))
      where
        behind : PlainPages file_cmp → List Housed
        behind p = names_of_steps f (next (word_taken f (referred u a kind p) a)) (referred u a kind p)

        by : (b : Bool) → ((w : ℕ) (v : Progress file_cmp) → Small n (names_of_steps f (next w) v)) → Small (suc n) (cond b [] (names_at u.pages f a ++ where_granted (asked_at (plainly f) f u.pages a kind) behind))
        by true rest = none (suc n)
        by false rest = one_more n (suc n) u.pages f a (asked_at (plainly f) f u.pages a kind) behind same (omega arith) (λ p. rest (word_taken f (referred u a kind p) a) (referred u a kind p))
    steps_small f same zero (refers a kind next) u low = absurd low
    steps_small f same (suc n) (widens a next) u low =
        one_more n (suc n) u.pages f a (asked_at (plainly f) f u.pages a Write) (λ p. names_of_steps f next (widened u a p)) same (omega arith) (λ p. steps_small f same n next (widened u a p) low)
    steps_small f same zero (widens a next) u low = absurd low
    steps_small f same n (keeps a w next) u low = steps_small f same n next (record u { kept = Some (record { at = a; word = w }) }) low
    steps_small f same n (steps_end e) u low = none n
    steps_small f same n (traps channel) u low = none n
    steps_small f same n (calls number) u low = none n

    -- steps that refer as often as a unit may, and ask again only right before they end
    pub capped_small : (f : ForkName) → f.tty ≡ t → (n : ℕ) (steps : Steps) (u : Progress file_cmp) → AskAgainLast steps → length u.refs ≤ 16 → length u.refs + n ≡ 17 → Small n (names_of_steps f steps u)
    unfolding names_of_steps
    capped_small f same n (refers a kind next) u last low sum = by (nat_le MOST_REFERENCES (length u.refs)) refl (λ m w v. capped_small f same m (next w) v (last w))
      where
        behind : PlainPages file_cmp → List Housed
        behind p = names_of_steps f (next (word_taken f (referred u a kind p) a)) (referred u a kind p)

        by : (b : Bool) → nat_le MOST_REFERENCES (length u.refs) ≡ b → ((m w : ℕ) (v : Progress file_cmp) → length v.refs ≤ 16 → length v.refs + m ≡ 17 → Small m (names_of_steps f (next w) v))
            → Small n (cond b [] (names_at u.pages f a ++ where_granted (asked_at (plainly f) f u.pages a kind) behind))
        by true is rest = none n
        by false is rest =
            let room : length u.refs + 1 ≤ 16 = grind (arith, nat_tests, is) in
            let longer : length (u.refs ++ record { address = a; kind = kind } ∷ []) ≡ length u.refs + 1 = length-append u.refs (record { address = a; kind = kind } ∷ []) in
            one_more (n - 1) n u.pages f a (asked_at (plainly f) f u.pages a kind) behind same (omega (arith, room, sum))
            (λ p. rest (n - 1) (word_taken f (referred u a kind p) a) (referred u a kind p) (omega (arith, longer, room)) (omega (arith, longer, room, sum)))
    capped_small f same n (widens a next) u last low sum = by next last
      where
        by : (s : Steps) → EndAtOnce s → Small n (names_at u.pages f a ++ where_granted (asked_at (plainly f) f u.pages a Write) (λ p. names_of_steps f s (widened u a p)))
        by (steps_end e) at_once = one_more 0 n u.pages f a (asked_at (plainly f) f u.pages a Write) (λ p. []) same (omega (arith, low, sum)) (λ p. none 0)
        by (refers b kind rest) at_once = absurd at_once
        by (widens b rest) at_once = absurd at_once
        by (keeps b w rest) at_once = absurd at_once
        by (traps channel) at_once = absurd at_once
        by (calls number) at_once = absurd at_once
    capped_small f same n (keeps a w next) u last low sum = capped_small f same n next (record u { kept = Some (record { at = a; word = w }) }) last low sum
    capped_small f same n (steps_end e) u last low sum = none n
    capped_small f same n (traps channel) u last low sum = none n
    capped_small f same n (calls number) u last low sum = none n

    -- what a turn goes on with behind steps of a fork
    stepped_small : (n : ℕ) (f : ForkName) (x : Planned file_cmp ⊥) (next : PlainPages file_cmp → Ending → List Housed) → ((p : PlainPages file_cmp) (e : Ending) → Small n (next p e)) → Small n (stepped f x next (λ channel. []))
    stepped_small n f (done u e) next small = small (pages_left f u e) e
    stepped_small n f (stopped (trap channel)) next small = none n
    stepped_small n f (stopped (need nothing)) next small = absurd nothing
    stepped_small n f (call number) next small = none n

    touched_small : (n : ℕ) (p : PlainPages file_cmp) (x : Referred file_cmp) (next : PlainPages file_cmp → Touched → List Housed) → ((q : PlainPages file_cmp) (what : Touched) → Small n (next q what)) → Small n (touched p x next)
    touched_small n p (granted q) next small = small q came.Granted
    touched_small n p (denied kind) next small = small p came.Denied
    touched_small n p full next small = small p came.Full

    module _ {F C : Type 0} (sight : Sight F K) (at_end : End C → List Housed) (EndAtMost : ℕ → End C → Type 0) (end_small : (n : ℕ) (e : End C) → EndAtMost n e → Small n (at_end e)) where
      -- at a spot, if there is one
      spot_few : (p : PlainPages file_cmp) (o : Option (Spot K)) → length (option_map_or (names_on_way p) o []) ≤ 5
      spot_few p None = omega arith
      spot_few p (Some at) = way_few p at

      found_few : (p : PlainPages file_cmp) (o : Option (Spot K)) → length (option_map_or (maps_to p) o []) ≤ 4
      found_few p None = omega arith
      found_few p (Some at) = maps_to_few p at

      pub turn_small : (n : ℕ) (turn : Turn F C) (p : PlainPages file_cmp) → TurnAtMost t EndAtMost n turn → Small n (names_of_turn sight at_end p turn)
      unfolding names_of_turn
      turn_small n (sees s next) p low = front 1 low.0 n (a_map s.fork ∷ []) (names_of_turn sight at_end p (next (entry_of p s))) low.1 (counted 1 (a_map s.fork ∷ []) (omega arith)) (turn_small low.0 (next (entry_of p s)) p (low.2 (entry_of p s)))
      turn_small n (finds at next) p low =
          let found = option_and_then (page_at p) (spot_of sight at) in let xs = option_map_or (maps_to p) (spot_of sight at) [] in
          front 4 low.0 n xs (names_of_turn sight at_end p (next found)) low.1 (counted 4 xs (found_few p (spot_of sight at))) (turn_small low.0 (next found) p (low.2 found))
      turn_small n (reads f offset next) p low =
          let word = option_map_or (λ at. word_at p at offset) (spot_of sight (in_file f)) 0 in let xs = option_map_or (names_on_way p) (spot_of sight (in_file f)) [] in
          front 5 low.0 n xs (names_of_turn sight at_end p (next word)) low.1 (counted 5 xs (spot_few p (spot_of sight (in_file f)))) (turn_small low.0 (next word) p (low.2 word))
      turn_small n (touches owner at kind next) p low =
          let xs = option_map_or (names_on_way p) (spot_of sight at) [] in
          let referred_as = option_map_or (λ s. reference p s kind owner) (spot_of sight at) (denied kind) in
          front 5 low.0 n xs (touched p referred_as (λ q what. names_of_turn sight at_end q (next what))) low.1 (counted 5 xs (spot_few p (spot_of sight at)))
          (touched_small low.0 p referred_as (λ q what. names_of_turn sight at_end q (next what)) (λ q what. turn_small low.0 (next what) q (low.2 what)))
      turn_small n (takes f regs steps next) p low =
          let xs = names_of_steps f steps (begun p regs.ac) in
          let ys = stepped f (steps_on f regs steps p) (λ q e. names_of_turn sight at_end q (next e)) (λ channel. []) in
          front low.0 low.1 n xs ys low.2 (steps_small f low.3 low.0 steps (begun p regs.ac) low.4)
          (stepped_small low.1 f (steps_on f regs steps p) (λ q e. names_of_turn sight at_end q (next e)) (λ q e. turn_small low.1 (next e) q (low.5 e)))
      turn_small n (adds f entries next) p low =
          let room = HasRoom (with_map p f entries) f.tty in turn_small n (next room) (with_added p f entries room) (low room)
      turn_small n (looks name next) p low = turn_small n (next (sight.is_name name)) p (low (sight.is_name name))
      turn_small n (makes name next) p low = turn_small n (next sight.has_more) p (low sight.has_more)
      turn_small n (ends e) p low = end_small n e low
