-- Who starts and who stops are all that can run afterwards and could not before, and all that could and can't any more.
use Rattle.std.proofs.Common.{◌≡◌, ◌⊎◌, inl, inr, ℕ, zero, suc, ◌+◌, ◌≤◌, ◌<◌, Bool, true, false, cond, not, List, [], ◌∷◌, ◌++◌, Option, None, Some, refl, sym, ◌∙◌, ap, subst, arith}
use Rattle.std.specs.Prelude.{◌||◌, ◌&&◌, map}
use Rattle.std.specs.List.{cons_option, filter, filter_map, flat_map, list_any, range_with_len}
use Rattle.std.specs.Option.{option_map_or}
use Rattle.std.specs.FinMap as map_of
use Rattle.std.proofs.lemmas.Bool.{cases_Bool, cases_lt}
use Rattle.machine_names.specs.declared.names.TheConstants.{TERMINALS, MOST_FORKS}
use Rattle.machine_names.specs.declared.names.Tty.{Tty}
use Rattle.machine_names.specs.declared.names.ForkName.{ForkName}
use Rattle.machine_names.specs.Orders.{same_fork}
use Rattle.plain_model.specs.declared.fork.Fork.{Fork}
use Rattle.plain_model.specs.Forks.{ForkMap, can_run, fork_in, forks_by_slot, runs_in}
use Rattle.plain_model.specs.Moves.{Move, Stops, Starts, lets_run, moves, names_of, stopped_of, waits_in}
use Rattle.fork_tree.specs.Trees.{AreSlotted}
use Rattle.fork_tree.proofs.Slots.{in_found, names_same, same_itself}
use Rattle.plain_laws.specs.MoveLaws.{starts_it, stops_it}

or_assoc : (a b c : Bool) → ((a || b) || c) ≡ (a || (b || c))
or_assoc true b c = refl
or_assoc false b c = refl

or_true : (b : Bool) → (b || true) ≡ true
or_true true = refl
or_true false = refl

and_false : (b : Bool) → (b && false) ≡ false
and_false true = refl
and_false false = refl

or_none : (b : Bool) → (b || false) ≡ b
or_none true = refl
or_none false = refl

module _ {A : Type 0} (p : A → Bool) where
  any_append : (xs ys : List A) → list_any p (xs ++ ys) ≡ (list_any p xs || list_any p ys)
  any_append [] ys = refl
  any_append (x ∷ xs) ys = ap (λ b. p x || b) (any_append xs ys) ∙ sym (or_assoc (p x) (list_any p xs) (list_any p ys))

  any_map : {B : Type 0} (f : B → A) (xs : List B) → list_any p (map f xs) ≡ list_any (λ x. p (f x)) xs
  any_map f [] = refl
  any_map f (x ∷ xs) = ap (λ b. p (f x) || b) (any_map f xs)

  -- one among those that pass a test or among those that don't is one among all
  any_split : (w : A → Bool) (xs : List A) → (list_any p (filter w xs) || list_any p (filter (λ x. not (w x)) xs)) ≡ list_any p xs
  any_split w [] = refl
  any_split w (x ∷ xs) = by (w x) (any_split w xs)
    where
      a : Bool
      a = list_any p (filter w xs)

      b : Bool
      b = list_any p (filter (λ y. not (w y)) xs)

      moved : (d : Bool) → (a || (d || b)) ≡ (d || (a || b))
      moved true = or_true a
      moved false = refl

      by : (c : Bool) → (a || b) ≡ list_any p xs → (list_any p (cond c (x ∷ filter w xs) (filter w xs)) || list_any p (cond (not c) (x ∷ filter (λ y. not (w y)) xs) (filter (λ y. not (w y)) xs))) ≡ (p x || list_any p xs)
      by true same = or_assoc (p x) a b ∙ ap (λ d. p x || d) same
      by false same = moved (p x) ∙ ap (λ d. p x || d) same

-- one of the numbers of a range
any_at : (q : ℕ → Bool) (from n k : ℕ) → from ≤ k → k < from + n → q k ≡ true → list_any q (range_with_len from n) ≡ true
any_at q from zero k low high is = absurd (omega (arith, low, high))
any_at q from (suc n) k low high is = by (λ less. any_at q (from + 1) n k (omega (arith, less)) (omega (arith, high)) is) (cases_lt from k)
  where
    by : (from < k → list_any q (range_with_len (from + 1) n) ≡ true) → (from < k) ⊎ (k ≤ from) → (q from || list_any q (range_with_len (from + 1) n)) ≡ true
    by rest (inl less) = ap (λ b. q from || b) (rest less) ∙ or_true (q from)
    by rest (inr not_less) =
        let same : from ≡ k = omega (arith, low, not_less) in
        ap (λ b. b || list_any q (range_with_len (from + 1) n)) (ap q same ∙ is)

module _ (f : ForkName) where
  abbrev is_it : ForkName → Bool
  is_it g = same_fork g f

  -- one name among those that pass a test is there and passes it
  any_passing : (q : ForkName → Bool) (xs : List ForkName) → list_any is_it (filter q xs) ≡ (list_any is_it xs && q f)
  any_passing q [] = refl
  any_passing q (g ∷ xs) = by (cases_Bool (is_it g)) (any_passing q xs)
    where
      rest : Bool
      rest = list_any is_it (filter q xs)

      passed : (b : Bool) → list_any is_it (cond b (g ∷ filter q xs) (filter q xs)) ≡ ((b && is_it g) || rest)
      passed true = refl
      passed false = refl

      joined : (b r x : Bool) → r ≡ (x && b) → ((b && true) || r) ≡ b
      joined true r x same = refl
      joined false r x same = same ∙ and_false x

      dropped : (b : Bool) → ((b && false) || rest) ≡ rest
      dropped true = refl
      dropped false = refl

      by : (is_it g ≡ true) ⊎ (is_it g ≡ false) → rest ≡ (list_any is_it xs && q f) → list_any is_it (filter q (g ∷ xs)) ≡ ((is_it g || list_any is_it xs) && q f)
      by (inl is) same =
          passed (q g)
          ∙ ap (λ b. (q g && b) || rest) is
          ∙ joined (q g) rest (list_any is_it xs) (same ∙ ap (λ n. list_any is_it xs && q n) (sym (names_same g f is)))
          ∙ ap q (names_same g f is)
          ∙ ap (λ b. (b || list_any is_it xs) && q f) (sym is)
      by (inr isnt) same = passed (q g) ∙ ap (λ b. (q g && b) || rest) isnt ∙ dropped (q g) ∙ same ∙ ap (λ b. (b || list_any is_it xs) && q f) (sym isnt)

  -- the name of a fork that lives is among those of all forks
  module _ (forks : ForkMap) (slotted : AreSlotted forks) where
    slot_there : (t : Tty) (k : Fork) (slots : List ℕ) → list_any (λ slot. option_map_or (λ g. is_it g.name) (fork_in forks t slot) false) slots ≡ list_any is_it (map (λ g. g.name) (filter_map (fork_in forks t) slots))
    slot_there t k [] = refl
    slot_there t k (slot ∷ slots) = by (fork_in forks t slot) (slot_there t k slots)
      where
        by : (o : Option Fork) → list_any (λ s. option_map_or (λ g. is_it g.name) (fork_in forks t s) false) slots ≡ list_any is_it (map (λ g. g.name) (filter_map (fork_in forks t) slots))
            → (option_map_or (λ g. is_it g.name) o false || list_any (λ s. option_map_or (λ g. is_it g.name) (fork_in forks t s) false) slots) ≡ list_any is_it (map (λ g. g.name) (cons_option o (filter_map (fork_in forks t) slots)))
        by None same = same
        by (Some g) same = ap (λ b. is_it g.name || b) same

    any_of_all : (h : ℕ → List ForkName) (ts : List ℕ) → list_any (λ t. list_any is_it (h t)) ts ≡ list_any is_it (flat_map h ts)
    any_of_all h [] = refl
    any_of_all h (t ∷ ts) = ap (λ b. list_any is_it (h t) || b) (any_of_all h ts) ∙ sym (any_append is_it (h t) (flat_map h ts))

    is_named : (k : Fork) → map_of.get forks f ≡ Some k → list_any is_it (names_of forks) ≡ true
    is_named k lives =
        sym (any_of_all (λ t. map (λ g. g.name) (forks_by_slot forks (record { 0 = t }))) (range_with_len 0 TERMINALS))
        ∙ any_at (λ t. list_any is_it (map (λ g. g.name) (forks_by_slot forks (record { 0 = t })))) 0 TERMINALS f.tty.0 (omega arith) (omega (arith, terminal)) here
      where
        name : k.name ≡ f
        name = slotted.own f k lives

        own : map_of.get forks k.name ≡ Some k
        own = ap (map_of.get forks) name ∙ lives

        terminal : f.tty.0 < TERMINALS
        terminal = subst (λ (n : ForkName). n.tty.0 < TERMINALS) name (slotted.named k own).0

        there : fork_in forks f.tty k.slot ≡ Some k
        there = in_found forks slotted f.tty k.slot k (own, ap (λ (n : ForkName). n.tty.0) name, refl)

        here : list_any is_it (map (λ g. g.name) (forks_by_slot forks f.tty)) ≡ true
        here =
            sym (slot_there f.tty k (range_with_len 1 MOST_FORKS))
            ∙ any_at (λ slot. option_map_or (λ g. is_it g.name) (fork_in forks f.tty slot) false) 1 MOST_FORKS k.slot (slotted.first k own) (omega (arith, slotted.last k own))
            (ap (λ (o : Option Fork). option_map_or (λ g. is_it g.name) o false) there ∙ ap is_it name ∙ same_itself f)

    -- of the names of all forks those that pass a test are the forks that pass it, if only forks that live do
    named_passing : (q : ForkName → Bool) → (map_of.get forks f ≡ None → q f ≡ false) → list_any is_it (filter q (names_of forks)) ≡ q f
    named_passing q none = any_passing q (names_of forks) ∙ by (map_of.get forks f) refl
      where
        by : (o : Option Fork) → map_of.get forks f ≡ o → (list_any is_it (names_of forks) && q f) ≡ q f
        by None is = ap (λ b. list_any is_it (names_of forks) && b) (none is) ∙ and_false (list_any is_it (names_of forks)) ∙ sym (none is)
        by (Some k) is = ap (λ b. b && q f) (is_named k is)

  none_runs : (forks : ForkMap) → map_of.get forks f ≡ None → runs_in forks f ≡ false
  none_runs forks none = ap (λ (o : Option Fork). option_map_or (can_run forks) o false) none

  never : {A : Type 0} (xs : List A) → list_any (λ x. false) xs ≡ false
  never [] = refl
  never (x ∷ xs) = never xs

  module _ (before after : ForkMap) where
    -- who starts
    pub starts_told : AreSlotted after → list_any (starts_it f) (moves before after) ≡ (runs_in after f && not (runs_in before f))
    unfolding moves
    starts_told slotted =
        any_append (starts_it f) (map Stops (stopped_of before after)) starting
        ∙ ap (λ b. b || list_any (starts_it f) starting) (any_map (starts_it f) Stops (stopped_of before after) ∙ never (stopped_of before after))
        ∙ any_append (starts_it f) (map Starts (filter (waits_in before) (lets_run before after))) (map Starts (filter (λ g. not (waits_in before g)) (lets_run before after)))
        ∙ ap (λ b. b || list_any (starts_it f) (map Starts (filter (λ g. not (waits_in before g)) (lets_run before after)))) (any_map (starts_it f) Starts (filter (waits_in before) (lets_run before after)))
        ∙ ap (λ b. list_any is_it (filter (waits_in before) (lets_run before after)) || b) (any_map (starts_it f) Starts (filter (λ g. not (waits_in before g)) (lets_run before after)))
        ∙ any_split is_it (waits_in before) (lets_run before after)
        ∙ named_passing after slotted (λ g. runs_in after g && not (runs_in before g)) (λ none. ap (λ b. b && not (runs_in before f)) (none_runs after none))
      where
        starting : List Move
        starting = map Starts (filter (waits_in before) (lets_run before after)) ++ map Starts (filter (λ g. not (waits_in before g)) (lets_run before after))

    -- who stops
    pub stops_told : AreSlotted before → list_any (stops_it f) (moves before after) ≡ (runs_in before f && not (runs_in after f))
    unfolding moves
    stops_told slotted =
        any_append (stops_it f) (map Stops (stopped_of before after)) starting
        ∙ ap (λ b. list_any (stops_it f) (map Stops (stopped_of before after)) || b) (any_append (stops_it f) (map Starts first) (map Starts others)
        ∙ ap (λ b. b || list_any (stops_it f) (map Starts others)) (any_map (stops_it f) Starts first ∙ never first) ∙ any_map (stops_it f) Starts others ∙ never others)
        ∙ or_none (list_any (stops_it f) (map Stops (stopped_of before after)))
        ∙ any_map (stops_it f) Stops (stopped_of before after)
        ∙ named_passing before slotted (λ g. runs_in before g && not (runs_in after g)) (λ none. ap (λ b. b && not (runs_in after f)) (none_runs before none))
      where
        first : List ForkName
        first = filter (waits_in before) (lets_run before after)

        others : List ForkName
        others = filter (λ g. not (waits_in before g)) (lets_run before after)

        starting : List Move
        starting = map Starts first ++ map Starts others
