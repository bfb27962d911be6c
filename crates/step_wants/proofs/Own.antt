-- The forks of a terminal are few, and no other's map has a home there.
use Rattle.std.proofs.Common.{◌≡◌, ◌≢◌, ℕ, zero, suc, ◌+◌, ◌<◌, ◌≤◌, List, [], ◌∷◌, length, map, true, false, Option, None, Some, ◌⊎◌, inl, inr, refl, sym, ◌∙◌, ap, arith}
use Rattle.std.specs.Prelude.{is_some}
use Rattle.std.specs.List.{cons_option, filter_map, range_with_len}
use Rattle.std.specs.FinMap as map_of
use Rattle.std.proofs.lemmas.List.{length-map}
use Rattle.std.proofs.lemmas.Bool.Decides.{eqb_tells}
use Rattle.machine_names.specs.declared.names.ForkName.{ForkName}
use Rattle.machine_names.specs.declared.names.PageName.{PageName}
use Rattle.machine_names.specs.declared.names.Tty.{Tty}
use Rattle.machine_names.specs.declared.names.TheConstants.{MOST_FORKS}
use Rattle.plain_model.specs.declared.fork.Fork.{Fork}
use Rattle.plain_model.specs.Forks.{fork_in, forks_by_slot}
use Rattle.plain_model.specs.Trees.{PlainTree}
use Rattle.fork_tree.specs.Trees.{IsTree, Lives}
use Rattle.fork_tree.proofs.Slots.{in_found}
use Rattle.step_wants.specs.Names.{a_map, is_named}
use Rattle.step_wants.proofs.Away.{named_behind, named_first}
use Rattle.step_wants.proofs.Small.{AreAll}

-- the names of the forks of a terminal
abbrev pub own_forks : PlainTree → Tty → List ForkName
own_forks tree t = map (λ (k : Fork). k.name) (forks_by_slot tree.forks t)

picked_few : {X Y : Type 0} (h : X → Option Y) (xs : List X) → length (filter_map h xs) ≤ length xs
picked_few h [] = omega arith
picked_few h (x ∷ xs) = by (h x) (picked_few h xs)
  where
    by : (o : Option _) → length (filter_map h xs) ≤ length xs → length (cons_option o (filter_map h xs)) ≤ suc (length xs)
    by None rest = omega arith
    by (Some y) rest = omega arith

range_long : (a n : ℕ) → length (range_with_len a n) ≡ n
range_long a zero = refl
range_long a (suc n) = ap suc (range_long (a + 1) n)

pub own_few : (tree : PlainTree) (t : Tty) → length (own_forks tree t) ≤ 30
own_few tree t =
    omega (arith, length-map (forks_by_slot tree.forks t) (λ (k : Fork). k.name), picked_few (fork_in tree.forks t) (range_with_len 1 MOST_FORKS), range_long 1 MOST_FORKS)

module _ (map_home : ForkName → Option ℕ) (page_home : PageName → Option ℕ) (tree : PlainTree) (t : Tty) where
  abbrev named_among : List Fork → ℕ → Type 0
  named_among ks h = is_named map_home page_home (map a_map (map (λ (k : Fork). k.name) ks)) h ≡ true

  -- the fork of a slot is among those of a range of slots
  in_range : (k : Fork) (slot h : ℕ) → fork_in tree.forks t slot ≡ Some k → map_home k.name ≡ Some h → (n a : ℕ) → a ≤ slot → slot < a + n → named_among (filter_map (fork_in tree.forks t) (range_with_len a n)) h
  in_range k slot h found home zero a low high = absurd (omega (arith, low, high))
  in_range k slot h found home (suc n) a low high = by (apart a slot) (in_range k slot h found home n (a + 1))
    where
      rest : List Fork
      rest = filter_map (fork_in tree.forks t) (range_with_len (a + 1) n)

      apart : (m l : ℕ) → (m ≡ l) ⊎ (m ≢ l)
      apart m l = elim (eqb_tells m l) [ inl e ↦ inl e.1 | inr e ↦ inr e.1 ]

      behind : (o : Option Fork) → named_among rest h → named_among (cons_option o rest) h
      behind None there = there
      behind (Some g) there = named_behind map_home page_home h (a_map g.name) (map a_map (map (λ (j : Fork). j.name) rest)) there

      by : (a ≡ slot) ⊎ (a ≢ slot) → (a + 1 ≤ slot → slot < a + 1 + n → named_among rest h) → named_among (cons_option (fork_in tree.forks t a) rest) h
      by (inl same) later =
          let here : fork_in tree.forks t a ≡ Some k = ap (fork_in tree.forks t) same ∙ found in
          ap (λ (o : Option Fork). is_named map_home page_home (map a_map (map (λ (j : Fork). j.name) (cons_option o rest))) h) here
          ∙ named_first map_home page_home h (a_map k.name) (map a_map (map (λ (j : Fork). j.name) rest)) home
      by (inr other) later = behind (fork_in tree.forks t a) (later (omega (arith, low, other)) (omega (arith, high)))

  pub own_all : IsTree tree → ((g : ForkName) (h : ℕ) → map_home g ≡ Some h → map_of.contains_key tree.forks g ≡ true) → AreAll map_home page_home t (own_forks tree t)
  own_all is living g h of_terminal home = by (map_of.get tree.forks g) refl (living g h home)
    where
      by : (o : Option Fork) → map_of.get tree.forks g ≡ o → is_some (map_of.get tree.forks g) ≡ true → named_among (forks_by_slot tree.forks t) h
      by None at there = absurd (let no : false ≡ true = ap is_some (sym at) ∙ there in cc no)
      by (Some k) at there =
          let own : k.name ≡ g = is.slotted.own g k at in
          let lives : Lives tree.forks k = ap (map_of.get tree.forks) own ∙ at in
          let first = is.slotted.first k lives in
          let last = is.slotted.last k lives in
          let of_its : k.name.tty.0 ≡ t.0 = ap (λ (f : ForkName). f.tty.0) own ∙ ap (λ (u : Tty). u.0) of_terminal in
          in_range k k.slot h (in_found tree.forks is.slotted t k.slot k (lives, of_its, refl)) (ap map_home own ∙ home) 30 1 first (omega (arith, last))
