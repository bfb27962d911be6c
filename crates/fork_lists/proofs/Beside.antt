-- Which forks can run, and in which slots they are, where one has another body and one was made.
use Rattle.std.proofs.Common.{◌≡◌, ◌≢◌, ◌⊎◌, ℕ, zero, suc, Bool, false, not, ◌&&◌, ◌||◌, Option, None, Some, refl, sym, ◌∙◌, ap, subst, inl, inr}
use Rattle.std.specs.Option.{option_and_then, option_map_or}
use Rattle.std.specs.FinMap as map
use Rattle.machine_names.specs.declared.names.ForkName.{ForkName}
use Rattle.machine_names.specs.declared.names.Tty.{Tty}
use Rattle.machine_names.specs.declared.names.TheConstants.{MOST_FORKS}
use Rattle.plain_model.specs.declared.fork.Fork.{Fork}
use Rattle.plain_model.specs.Forks.{ForkMap, can_run, fork_in, is_frozen, is_run, runs_in, superior_of}
use Rattle.plain_model.specs.Trees.{PlainTree, with_body}
use Rattle.plain_model.proofs.ForkMaps.{cases_name}
use Rattle.fork_tree.specs.Making.{AddsBeside, last_name}
use Rattle.fork_tree.specs.Trees.{IsIn, IsTree, Lives}
use Rattle.fork_tree.proofs.Slots.{held_lives, in_found, in_none, in_tells}
use Rattle.fork_lists.proofs.Tied.{some_is}

-- whether whoever is found can run
abbrev found_runs : ForkMap → Option Fork → Bool
found_runs forks o = option_map_or (can_run forks) o false

-- a slot is another than this one
abbrev pub IsElsewhere : Tty → ℕ → Tty → ℕ → Type 0
IsElsewhere u k t slot = (u.0 ≢ t.0) ⊎ (k ≢ slot)

module _ (who : ForkName) (old now : PlainTree) (trees : IsTree old) (still : IsTree now) (adds : AddsBeside who old now) where
  -- a fork as it was and as it is
  record Both (k g : Fork) : Type 0 where
    pub was : Lives old.forks k
    pub here : Lives now.forks g
    pub names : g.name ≡ k.name
    pub slots : g.slot ≡ k.slot
    pub superiors : g.superior ≡ k.superior
    pub marks : g.frozen ≡ k.frozen

  -- what looks find, as it was and as it is
  abbrev Alike : Option Fork → Option Fork → Type 0
  Alike None None = Unit {0}
  Alike None (Some g) = ⊥
  Alike (Some k) None = ⊥
  Alike (Some k) (Some g) = Both k g

  -- each fork that lived lives, with another body at most
  now_of : (k : Fork) → Lives old.forks k → (g : Fork) × Both k g
  now_of k lives = elim (cases_name k.name who) [
    | inl same ↦
        let own = adds.own k (ap (map.get old.forks) (sym same) ∙ lives) in
        (with_body own.0 k, record { was = lives; here = ap (map.get now.forks) same ∙ own.1; names = refl; slots = refl; superiors = refl; marks = refl })
    | inr other ↦ (k, record { was = lives; here = adds.kept k.name k other lives; names = refl; slots = refl; superiors = refl; marks = refl })
  ]

  -- so a superior is who it was, as it is in a slot that was in use
  superior_alike : (k g : Fork) → Both k g → Alike (superior_of old.forks k) (superior_of now.forks g)
  superior_alike k g both =
      subst (λ o. Alike (superior_of old.forks k) (option_and_then (fork_in now.forks g.name.tty) o)) (sym both.superiors)
      (subst (λ n. Alike (superior_of old.forks k) (option_and_then (fork_in now.forks n.tty) k.superior)) (sym both.names) (by k.superior refl))
    where
      by : (o : Option ℕ) → k.superior ≡ o → Alike (option_and_then (fork_in old.forks k.name.tty) o) (option_and_then (fork_in now.forks k.name.tty) o)
      by None is = tt
      by (Some slot) is =
          let up = trees.superiors k slot both.was is in
          let at : IsIn old.forks k.name.tty slot up.0 = up.1 in
          let one = now_of up.0 at.0 in
          let found : fork_in now.forks k.name.tty slot ≡ Some one.0 = in_found now.forks still.slotted k.name.tty slot one.0 (one.1.here, ap (λ (x : ForkName). x.tty.0) one.1.names ∙ at.1, one.1.slots ∙ at.2) in
          subst (λ o. Alike o (fork_in now.forks k.name.tty slot)) (sym (in_found old.forks trees.slotted k.name.tty slot up.0 at)) (subst (Alike (Some up.0)) (sym found) one.1)

  frozen_alike : (n : ℕ) (o p : Option Fork) → Alike o p → is_frozen n now.forks p ≡ is_frozen n old.forks o
  frozen_alike zero o p alike = refl
  frozen_alike (suc n) None None alike = refl
  frozen_alike (suc n) None (Some g) alike = absurd alike
  frozen_alike (suc n) (Some k) None alike = absurd alike
  frozen_alike (suc n) (Some k) (Some g) alike =
      ap (λ b. b || is_frozen n now.forks (superior_of now.forks g)) alike.marks
      ∙ ap (λ b. k.frozen || b) (frozen_alike n (superior_of old.forks k) (superior_of now.forks g) (superior_alike k g alike))

  -- whoever lived, but the one, can run where it could
  pub runs_as : (name : ForkName) (k : Fork) → name ≢ who → map.get old.forks name ≡ Some k → runs_in now.forks name ≡ runs_in old.forks name
  runs_as name k other is =
      let there = adds.kept name k other is in
      let same : Both k k = record { was = held_lives old.forks trees.slotted name k is; here = held_lives now.forks still.slotted name k there; names = refl; slots = refl; superiors = refl; marks = refl } in
      ap (found_runs now.forks) there ∙ ap (λ b. is_run k.body.status && not b) (frozen_alike MOST_FORKS (Some k) (Some k) same) ∙ sym (ap (found_runs old.forks) is)

  -- whoever lives lived, but the one that was made last
  pub has_lived : (name : ForkName) (g : Fork) → name ≢ last_name now who.tty → map.get now.forks name ≡ Some g → (k : Fork) × (map.get old.forks name ≡ Some k)
  has_lived name g other is = by (map.get old.forks name) refl
    where
      by : (o : Option Fork) → map.get old.forks name ≡ o → (k : Fork) × (map.get old.forks name ≡ Some k)
      by None none = absurd (other (adds.added name none (some_is (map.get now.forks name) g is)))
      by (Some k) there = (k, there)

  module _ (slot : ℕ) (f : Fork) (there : IsIn old.forks who.tty slot f) (named : f.name ≡ who) where
    lives : map.get old.forks who ≡ Some f
    lives = ap (map.get old.forks) (sym named) ∙ there.0

    -- each slot has the fork that it had, but that of the one, and that of the one that was made last
    pub in_as : (u : Tty) (k : ℕ) → IsElsewhere u k who.tty slot → ((h : Fork) → map.get now.forks (last_name now who.tty) ≡ Some h → IsElsewhere u k who.tty h.slot)
        → fork_in now.forks u k ≡ fork_in old.forks u k
    in_as u k apart beside = by (fork_in old.forks u k) refl
      where
        not_at : {A : Type 0} (g : Fork) (n : ℕ) → g.name.tty.0 ≡ u.0 → g.slot ≡ k → g.name.tty.0 ≡ who.tty.0 → g.slot ≡ n → IsElsewhere u k who.tty n → A
        not_at g n job place here at (inl other) = absurd (other (sym job ∙ here))
        not_at g n job place here at (inr other) = absurd (other (sym place ∙ at))

        not_who : (g : Fork) → IsIn old.forks u k g → g.name ≢ who
        not_who g at same =
            let one : g ≡ f = (let both : Some g ≡ Some f = sym at.0 ∙ ap (map.get old.forks) same ∙ lives in cc both) in
            not_at g slot at.1 at.2 (ap (λ (x : ForkName). x.tty.0) same) (ap (λ (x : Fork). x.slot) one ∙ there.2) apart

        not_last : (g : Fork) → IsIn now.forks u k g → g.name ≢ last_name now who.tty
        not_last g at same = not_at g g.slot at.1 at.2 (ap (λ (x : ForkName). x.tty.0) same) refl (beside g (ap (map.get now.forks) (sym same) ∙ at.0))

        -- whoever is there now was there
        was : (g : Fork) → IsIn now.forks u k g → IsIn old.forks u k g
        was g at = elim (cases_name g.name who) [
          | inl same ↦
              let own = adds.own f lives in
              let one : g ≡ with_body own.0 f = (let both : Some g ≡ Some (with_body own.0 f) = sym at.0 ∙ ap (map.get now.forks) same ∙ own.1 in cc both) in
              not_at g slot at.1 at.2 (ap (λ (x : ForkName). x.tty.0) same) (ap (λ (x : Fork). x.slot) one ∙ there.2) apart
          | inr other ↦
              let before = has_lived g.name g (not_last g at) at.0 in
              let one : before.0 ≡ g = (let both : Some before.0 ≡ Some g = sym (adds.kept g.name before.0 other before.1) ∙ at.0 in cc both) in
              (before.1 ∙ ap Some one, at.1, at.2)
        ]

        by : (o : Option Fork) → fork_in old.forks u k ≡ o → fork_in now.forks u k ≡ o
        by None none = in_none now.forks still.slotted u k (λ g at. let no : None ≡ Some g = sym none ∙ in_found old.forks trees.slotted u k g (was g at) in cc no)
        by (Some g) found =
            let at = in_tells old.forks trees.slotted u k g found in
            in_found now.forks still.slotted u k g (adds.kept g.name g (not_who g at) at.0, at.1, at.2)
