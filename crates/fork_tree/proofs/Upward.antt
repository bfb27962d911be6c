-- A fork's ancestors: there are fewer than a job may have forks.
use Rattle.std.proofs.Common.{◌≡◌, ℕ, zero, suc, ◌+◌, ◌-◌, ◌<◌, ◌≤◌, Bool, true, false, cond, ◌||◌, Option, None, Some, refl, sym, ◌∙◌, ap, subst, arith, ◌⊎◌, inl, inr}
use Rattle.std.specs.Prelude.{nat_le}
use Rattle.std.specs.Option.{option_and_then, option_map_or}
use Rattle.std.proofs.lemmas.Bool.{cases_Bool, cases_lt}
use Rattle.std.proofs.lemmas.Bool.Decides.{nat_tests}
use Rattle.plain_model.specs.Forks.{ForkMap, fork_in, superior_of, any_upward}
use Rattle.machine_names.specs.declared.names.Tty.{Tty}
use Rattle.machine_names.specs.declared.names.TheConstants.{MOST_FORKS}
use Rattle.plain_model.specs.declared.fork.Fork.{Fork}
use Rattle.plain_model.specs.Trees.{PlainTree}
use Rattle.fork_tree.specs.Trees.{IsAncestor, IsIn, IsTree, Lives, above}
use Rattle.fork_tree.proofs.Slots.{in_found, in_tells}

pub or_true : (b c : Bool) → c ≡ true → (b || c) ≡ true
or_true true c h = refl
or_true false c h = h

-- one step of the look upward
module _ (p : Fork → Bool) (forks : ForkMap) where
  pub look_none : (n : ℕ) → any_upward p n forks None ≡ false
  look_none zero = refl
  look_none (suc n) = refl

  pub look_some : (n : ℕ) (f : Fork) → 0 < n → any_upward p n forks (Some f) ≡ (p f || any_upward p (n - 1) forks (superior_of forks f))
  look_some zero f h = absurd (omega arith)
  look_some (suc n) f h = let e : n ≡ suc n - 1 = omega arith in ap (λ k. p f || any_upward p k forks (superior_of forks f)) e

  pub look_over : (n : ℕ) (o : Option Fork) → n ≡ 0 → any_upward p n forks o ≡ false
  look_over zero o h = refl
  look_over (suc n) o h = absurd (omega arith)

-- how many numbers from one on pass a test
pub tally : (ℕ → Bool) → ℕ → ℕ → ℕ
tally p from zero = 0
tally p from (suc n) = cond (p from) 1 0 + tally p (from + 1) n

abbrev one : Bool → ℕ
one b = cond b 1 0

tally_suc : (p : ℕ → Bool) (from n : ℕ) → tally p from (suc n) ≡ cond (p from) 1 0 + tally p (from + 1) n
unfolding tally
tally_suc p from n = refl

tally_zero : (p : ℕ → Bool) (from : ℕ) → tally p from 0 ≡ 0
unfolding tally
tally_zero p from = refl

below_one : (b : Bool) → cond b 1 0 ≤ 1
below_one true = omega arith
below_one false = omega arith

pub tally_most : (p : ℕ → Bool) (from n : ℕ) → tally p from n ≤ n
tally_most p from zero = omega (arith, tally_zero p from)
tally_most p from (suc n) = omega (arith, tally_suc p from n, tally_most p (from + 1) n, below_one (p from))

more : (a b : Bool) → (a ≡ true → b ≡ true) → cond a 1 0 ≤ cond b 1 0
more true true h = omega arith
more true false h = absurd (cc (h refl))
more false b h = omega arith

module _ (p q : ℕ → Bool) (each : (k : ℕ) → p k ≡ true → q k ≡ true) where
  tally_more : (from n : ℕ) → tally p from n ≤ tally q from n
  tally_more from zero = omega (arith, tally_zero p from)
  tally_more from (suc n) = omega (arith, tally_suc p from n, tally_suc q from n, tally_more (from + 1) n, more (p from) (q from) (each from))

  -- a test that passes a number more
  pub tally_above : (from n k : ℕ) → from ≤ k → k < from + n → p k ≡ false → q k ≡ true → tally p from n < tally q from n
  tally_above from zero k low high fails passes = absurd (omega arith)
  tally_above from (suc n) k low high fails passes = by (tally_above (from + 1) n k) (cases_lt from k)
    where
      by : (from + 1 ≤ k → k < from + 1 + n → p k ≡ false → q k ≡ true → tally p (from + 1) n < tally q (from + 1) n) → (from < k) ⊎ (k ≤ from) → tally p from (suc n) < tally q from (suc n)
      by rest (inl later) = let r = rest (omega arith) (omega arith) fails passes in omega (arith, tally_suc p from n, tally_suc q from n, r, more (p from) (q from) (each from))
      by rest (inr at) =
          let is : k ≡ from = omega arith in
          let a : cond (p from) 1 0 ≡ 0 = ap one (ap p (sym is) ∙ fails) in
          let b : cond (q from) 1 0 ≡ 1 = ap one (ap q (sym is) ∙ passes) in
          omega (arith, tally_suc p from n, tally_suc q from n, tally_more (from + 1) n, a, b)

module _ (tree : PlainTree) (is : IsTree tree) where
  -- whether the fork in a slot of a job is no younger than a serial
  pub old_in : Tty → ℕ → ℕ → Bool
  old_in t serial slot = option_map_or (λ g. nat_le g.name.serial serial) (fork_in tree.forks t slot) false

  old_is : (t : Tty) (serial slot : ℕ) (o : Option Fork) → fork_in tree.forks t slot ≡ o → old_in t serial slot ≡ option_map_or (λ g. nat_le g.name.serial serial) o false
  unfolding old_in
  old_is t serial slot o e = ap (λ x. option_map_or (λ g. nat_le g.name.serial serial) x false) e

  -- how many forks of its job are no younger than a fork
  pub rank : Fork → ℕ
  rank f = tally (old_in f.name.tty f.name.serial) 1 MOST_FORKS

  rank_most : (f : Fork) → rank f ≤ MOST_FORKS
  unfolding rank
  rank_most f = tally_most (old_in f.name.tty f.name.serial) 1 MOST_FORKS

  older_still : (a b : ℕ) (o : Option Fork) → a ≤ b → option_map_or (λ (g : Fork). nat_le g.name.serial a) o false ≡ true → option_map_or (λ (g : Fork). nat_le g.name.serial b) o false ≡ true
  older_still a b None h e = absurd (cc e)
  older_still a b (Some g) h e = grind (arith, nat_tests)

  -- the superior of a fork is in the slot that the fork names
  pub superior_in : (f g : Fork) → superior_of tree.forks f ≡ Some g → (slot : ℕ) × (f.superior ≡ Some slot) × IsIn tree.forks f.name.tty slot g
  superior_in f g e = by f.superior refl e
    where
      by : (o : Option ℕ) → f.superior ≡ o → option_and_then (fork_in tree.forks f.name.tty) o ≡ Some g → (slot : ℕ) × (f.superior ≡ Some slot) × IsIn tree.forks f.name.tty slot g
      by None is_none found = absurd (cc found)
      by (Some slot) is_some found = (slot, is_some, in_tells tree.forks is.slotted f.name.tty slot g found)

  -- a superior lives, in the same job, and is older
  pub superior_lives : (f g : Fork) → Lives tree.forks f → superior_of tree.forks f ≡ Some g → Lives tree.forks g × (g.name.tty.0 ≡ f.name.tty.0) × (g.name.serial < f.name.serial)
  superior_lives f g lives e =
      let s = superior_in f g e in
      let o = is.superiors f s.0 lives s.1 in
      let same : o.0 ≡ g = is.slotted.once f.name.tty s.0 o.0 g o.1 s.2 in
      (s.2.0, s.2.1, subst (λ (k : Fork). k.name.serial < f.name.serial) same o.2)

  -- a superior has fewer forks no younger than itself
  rank_falls : (f g : Fork) → Lives tree.forks f → superior_of tree.forks f ≡ Some g → rank g < rank f
  unfolding rank
  rank_falls f g lives e =
      let s = superior_lives f g lives e in
      let p = old_in g.name.tty g.name.serial in let q = old_in f.name.tty f.name.serial in
      tally_above p q (λ k passes. each k passes s.1 s.2) 1 MOST_FORKS f.slot (is.slotted.first f lives) (omega (arith, is.slotted.last f lives)) (here_not s.1 s.2) here
    where
      slots_same : (k : ℕ) → g.name.tty.0 ≡ f.name.tty.0 → fork_in tree.forks g.name.tty k ≡ fork_in tree.forks f.name.tty k
      slots_same k t = ap (λ n. fork_in tree.forks (record { 0 = n }) k) t

      each : (k : ℕ) → old_in g.name.tty g.name.serial k ≡ true → g.name.tty.0 ≡ f.name.tty.0 → g.name.serial < f.name.serial → old_in f.name.tty f.name.serial k ≡ true
      each k passes t less =
          old_is f.name.tty f.name.serial k (fork_in tree.forks g.name.tty k) (sym (slots_same k t))
          ∙ older_still g.name.serial f.name.serial (fork_in tree.forks g.name.tty k) (omega (arith, less)) (sym (old_is g.name.tty g.name.serial k (fork_in tree.forks g.name.tty k) refl) ∙ passes)

      in_slot : fork_in tree.forks f.name.tty f.slot ≡ Some f
      in_slot = in_found tree.forks is.slotted f.name.tty f.slot f (lives, refl, refl)

      here : old_in f.name.tty f.name.serial f.slot ≡ true
      here = old_is f.name.tty f.name.serial f.slot (Some f) in_slot ∙ grind (arith, nat_tests)

      here_not : g.name.tty.0 ≡ f.name.tty.0 → g.name.serial < f.name.serial → old_in g.name.tty g.name.serial f.slot ≡ false
      here_not t less = old_is g.name.tty g.name.serial f.slot (Some f) (slots_same f.slot t ∙ in_slot) ∙ grind (arith, nat_tests)

  rank_some : (f : Fork) → Lives tree.forks f → 0 < rank f
  unfolding rank
  rank_some f lives = by (tally_above (λ k. false) (old_in f.name.tty f.name.serial) (λ k e. absurd (cc e)) 1 MOST_FORKS f.slot (is.slotted.first f lives) (omega (arith, is.slotted.last f lives)) refl here)
    where
      here : old_in f.name.tty f.name.serial f.slot ≡ true
      here = old_is f.name.tty f.name.serial f.slot (Some f) (in_found tree.forks is.slotted f.name.tty f.slot f (lives, refl, refl)) ∙ grind (arith, nat_tests)

      by : tally (λ k. false) 1 MOST_FORKS < tally (old_in f.name.tty f.name.serial) 1 MOST_FORKS → 0 < tally (old_in f.name.tty f.name.serial) 1 MOST_FORKS
      by h = omega (arith, h)

  -- above so many forks nobody is
  top_above : (n : ℕ) (f : Fork) → Lives tree.forks f → rank f ≤ n → above n tree.forks f ≡ None
  top_above zero f lives h = absurd (omega (arith, h, rank_some f lives))
  top_above (suc n) f lives h = by (top_above n) (superior_of tree.forks f) refl
    where
      by : ((g : Fork) → Lives tree.forks g → rank g ≤ n → above n tree.forks g ≡ None) → (o : Option Fork) → superior_of tree.forks f ≡ o → option_and_then (above n tree.forks) o ≡ None
      by rest None e = refl
      by rest (Some g) e = rest g (superior_lives f g lives e).0 (omega (arith, rank_falls f g lives e, h))

  pub nobody_above : (f : Fork) → Lives tree.forks f → above MOST_FORKS tree.forks f ≡ None
  nobody_above f lives = top_above MOST_FORKS f lives (rank_most f)

  module _ (p : Fork → Bool) where
    -- to look at more forks than a fork has ancestors makes no difference
    pub any_stable : (n k : ℕ) (f : Fork) → Lives tree.forks f → rank f ≤ n → rank f ≤ k → any_upward p n tree.forks (superior_of tree.forks f) ≡ any_upward p k tree.forks (superior_of tree.forks f)
    any_stable zero k f lives a b = by (superior_of tree.forks f) refl
      where
        by : (o : Option Fork) → superior_of tree.forks f ≡ o → any_upward p zero tree.forks o ≡ any_upward p k tree.forks o
        by None e = sym (look_none p tree.forks k)
        by (Some g) e = absurd (omega (arith, rank_falls f g lives e, a))
    any_stable (suc n) zero f lives a b = by (superior_of tree.forks f) refl
      where
        by : (o : Option Fork) → superior_of tree.forks f ≡ o → any_upward p (suc n) tree.forks o ≡ any_upward p zero tree.forks o
        by None e = refl
        by (Some g) e = absurd (omega (arith, rank_falls f g lives e, b))
    any_stable (suc n) (suc k) f lives a b = by (any_stable n k) (superior_of tree.forks f) refl
      where
        by : ((g : Fork) → Lives tree.forks g → rank g ≤ n → rank g ≤ k → any_upward p n tree.forks (superior_of tree.forks g) ≡ any_upward p k tree.forks (superior_of tree.forks g))
            → (o : Option Fork) → superior_of tree.forks f ≡ o → any_upward p (suc n) tree.forks o ≡ any_upward p (suc k) tree.forks o
        by rest None e = refl
        by rest (Some g) e =
            let falls = rank_falls f g lives e in
            ap (λ b. p g || b) (rest g (superior_lives f g lives e).0 (omega (arith, falls, a)) (omega (arith, falls, b)))

    -- one more makes none either, where there are only so many
    any_last : (n : ℕ) (f : Fork) → Lives tree.forks f → rank f ≤ suc n → any_upward p n tree.forks (superior_of tree.forks f) ≡ any_upward p (suc n) tree.forks (superior_of tree.forks f)
    any_last zero f lives h = by (superior_of tree.forks f) refl
      where
        by : (o : Option Fork) → superior_of tree.forks f ≡ o → any_upward p zero tree.forks o ≡ any_upward p 1 tree.forks o
        by None e = refl
        by (Some g) e = absurd (omega (arith, rank_falls f g lives e, h, rank_some g (superior_lives f g lives e).0))
    any_last (suc n) f lives h = by (any_last n) (superior_of tree.forks f) refl
      where
        by : ((g : Fork) → Lives tree.forks g → rank g ≤ suc n → any_upward p n tree.forks (superior_of tree.forks g) ≡ any_upward p (suc n) tree.forks (superior_of tree.forks g))
            → (o : Option Fork) → superior_of tree.forks f ≡ o → any_upward p (suc n) tree.forks o ≡ any_upward p (suc (suc n)) tree.forks o
        by rest None e = refl
        by rest (Some g) e = ap (λ b. p g || b) (rest g (superior_lives f g lives e).0 (omega (arith, rank_falls f g lives e, h)))

    pub any_whole : (f : Fork) → Lives tree.forks f → any_upward p 29 tree.forks (superior_of tree.forks f) ≡ any_upward p MOST_FORKS tree.forks (superior_of tree.forks f)
    any_whole f lives = any_last 29 f lives (rank_most f)

    -- so many forks as a job may have are enough, and one fewer above a superior
    pub any_enough : (f g : Fork) → Lives tree.forks f → superior_of tree.forks f ≡ Some g → any_upward p MOST_FORKS tree.forks (superior_of tree.forks f) ≡ (p g || any_upward p MOST_FORKS tree.forks (superior_of tree.forks g))
    any_enough f g lives e =
        let falls = rank_falls f g lives e in
        ap (any_upward p MOST_FORKS tree.forks) e
        ∙ ap (λ b. p g || b) (any_stable 29 MOST_FORKS g (superior_lives f g lives e).0 (omega (arith, falls, rank_most f)) (rank_most g))

    above_suc : (n : ℕ) (f g : Fork) → superior_of tree.forks f ≡ Some g → above (suc n) tree.forks f ≡ above n tree.forks g
    above_suc n f g e = ap (option_and_then (above n tree.forks)) e

    -- some ancestor passes where the look upward says so
    pub any_ancestor : (n : ℕ) (f : Fork) → any_upward p n tree.forks (superior_of tree.forks f) ≡ true → (g : Fork) × IsAncestor tree.forks g f × (p g ≡ true)
    any_ancestor zero f e = absurd (cc e)
    any_ancestor (suc n) f e = by (any_ancestor n) (superior_of tree.forks f) refl e
      where
        by : ((h : Fork) → any_upward p n tree.forks (superior_of tree.forks h) ≡ true → (g : Fork) × IsAncestor tree.forks g h × (p g ≡ true))
            → (o : Option Fork) → superior_of tree.forks f ≡ o → any_upward p (suc n) tree.forks o ≡ true → (g : Fork) × IsAncestor tree.forks g f × (p g ≡ true)
        by rest None is_none found = absurd (cc found)
        by rest (Some h) is_some found = elim (cases_Bool (p h)) [
          | inl passes ↦ (h, (0, above_suc 0 f h is_some), passes)
          | inr fails ↦
              let r = rest h (ap (λ b. b || any_upward p n tree.forks (superior_of tree.forks h)) (sym fails) ∙ found) in
              (r.0, (suc r.1.0, above_suc (suc r.1.0) f h is_some ∙ r.1.1), r.2)
        ]

    -- and says so where an ancestor passes
    pub ancestor_any : (n : ℕ) (f g : Fork) → Lives tree.forks f → above (suc n) tree.forks f ≡ Some g → p g ≡ true → any_upward p MOST_FORKS tree.forks (superior_of tree.forks f) ≡ true
    ancestor_any zero f g lives e passes = by (superior_of tree.forks f) refl e
      where
        by : (o : Option Fork) → superior_of tree.forks f ≡ o → option_and_then (above 0 tree.forks) o ≡ Some g → any_upward p MOST_FORKS tree.forks (superior_of tree.forks f) ≡ true
        by None is_none found = absurd (cc found)
        by (Some h) is_some found =
            let same : h ≡ g = cc found in
            any_enough f h lives is_some ∙ ap (λ b. b || any_upward p MOST_FORKS tree.forks (superior_of tree.forks h)) (ap p same ∙ passes)
    ancestor_any (suc n) f g lives e passes = by (λ h there found. ancestor_any n h g there found passes) (superior_of tree.forks f) refl e
      where
        by : ((h : Fork) → Lives tree.forks h → above (suc n) tree.forks h ≡ Some g → any_upward p MOST_FORKS tree.forks (superior_of tree.forks h) ≡ true)
            → (o : Option Fork) → superior_of tree.forks f ≡ o → option_and_then (above (suc n) tree.forks) o ≡ Some g → any_upward p MOST_FORKS tree.forks (superior_of tree.forks f) ≡ true
        by rest None is_none found = absurd (cc found)
        by rest (Some h) is_some found =
            any_enough f h lives is_some ∙ or_true (p h) (any_upward p MOST_FORKS tree.forks (superior_of tree.forks h)) (rest h (superior_lives f h lives is_some).0 found)

    -- an ancestor lives, in the same job, and is older
    pub ancestor_lives : (n : ℕ) (f g : Fork) → Lives tree.forks f → above (suc n) tree.forks f ≡ Some g → Lives tree.forks g × (g.name.tty.0 ≡ f.name.tty.0) × (g.name.serial < f.name.serial)
    ancestor_lives zero f g lives e = by (superior_of tree.forks f) refl e
      where
        by : (o : Option Fork) → superior_of tree.forks f ≡ o → option_and_then (above 0 tree.forks) o ≡ Some g → Lives tree.forks g × (g.name.tty.0 ≡ f.name.tty.0) × (g.name.serial < f.name.serial)
        by None is_none found = absurd (cc found)
        by (Some h) is_some found = superior_lives f g lives (is_some ∙ found)
    ancestor_lives (suc n) f g lives e = by (λ h there found. ancestor_lives n h g there found) (superior_of tree.forks f) refl e
      where
        by : ((h : Fork) → Lives tree.forks h → above (suc n) tree.forks h ≡ Some g → Lives tree.forks g × (g.name.tty.0 ≡ h.name.tty.0) × (g.name.serial < h.name.serial))
            → (o : Option Fork) → superior_of tree.forks f ≡ o → option_and_then (above (suc n) tree.forks) o ≡ Some g → Lives tree.forks g × (g.name.tty.0 ≡ f.name.tty.0) × (g.name.serial < f.name.serial)
        by rest None is_none found = absurd (cc found)
        by rest (Some h) is_some found =
            let s = superior_lives f h lives is_some in
            let r = rest h s.0 found in
            (r.0, r.1 ∙ s.1, omega (arith, r.2, s.2))
