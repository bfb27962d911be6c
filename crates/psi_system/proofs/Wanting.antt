-- When a fork looks at its channels, by the tests that code makes.
use Rattle.std.proofs.Common.{◌≡◌, ℕ, Bool, true, false, refl}
use Rattle.std.specs.Prelude.{◌==◌, ◌&&◌, not, is_some}
use Rattle.std.proofs.lemmas.Bool.{eqb-true}
use Rattle.plain_model.specs.declared.fork.Psi.{Psi}
use Rattle.plain_model.specs.Inspections.{is_interrupted, wants_one}
use Rattle.fork_tree.proofs.Wanted.{none_wanted}

-- a number that isn't other than 0
pub zero_is : (n : ℕ) → not (n == 0) ≡ false → n ≡ 0
zero_is n h = by (n == 0) refl h
  where
    by : (b : Bool) → (n == 0) ≡ b → not b ≡ false → n ≡ 0
    by true is g = eqb-true n 0 is
    by false is g = absurd (cc g)

module _ (psi : Psi) where
  -- a fork looks at its channels
  pub looks : psi.on ≡ true → is_some psi.table ≡ true → wants_one psi ≡ is_interrupted psi
  unfolding is_interrupted
  looks on there = rw (on, there) refl

  -- or it doesn't: its interrupts are off, or no channel is pending, or it has no table
  pub off : psi.on ≡ false → false ≡ is_interrupted psi
  unfolding is_interrupted
  off is = rw is refl

  pub no_channel : psi.pending ≡ 0 → false ≡ is_interrupted psi
  unfolding is_interrupted
  no_channel is = by psi.on (is_some psi.table)
    where
      by : (on there : Bool) → false ≡ (on && there && wants_one psi)
      by true true = none_wanted psi is
      by true false = refl
      by false there = refl

  pub no_table : is_some psi.table ≡ false → false ≡ is_interrupted psi
  unfolding is_interrupted
  no_table is = by psi.on
    where
      by : (on : Bool) → false ≡ (on && is_some psi.table && wants_one psi)
      by true = rw is refl
      by false = refl
