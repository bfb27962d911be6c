-- Sums and counts of which no flag comes.
use Rattle.std.proofs.Common.{◌≡◌, ℕ, ◌-◌, Bool, true, false, Some, refl, ◌∙◌, ap, subst}
use Rattle.std.specs.Prelude.{nat_lt, if◌then◌else◌}
use Rattle.std.proofs.Math.Bool.{or-false}
use Rattle.word36.specs.declared.flags.Flags.{Flags}
use Rattle.word36.specs.Flags.{no_flags}
use Rattle.word36.specs.Arithmetic.{Outcome, added, moved}
use Rattle.word36.specs.Tests.{condition_holds}
use Rattle.word36.specs.Words.{signed}
use Rattle.ka10_table.specs.declared.families.OpMode.{OpMode}
use Rattle.ka10_table.specs.declared.families.OpMode.TheVariants.{Basic, Immediate, Memory, Both, Own}
use Rattle.plain_units.specs.declared.registers.Regs.{Regs}
use Rattle.plain_units.specs.Deeds.{Deed, back, by_mode, counts, next_pc, nothing_done, operated, overflow_post, set_with, skip_pc, unless_zero}
use Rattle.ka10_deeds.specs.KnownSums.{counted_to}

-- where no flag is to be set, none is
pub set_none : (f : Flags) → set_with f no_flags ≡ f
set_none f = rw (or-false f.overflow, or-false f.carry0, or-false f.carry1, or-false f.fov, or-false f.bis, or-false f.nodiv) refl

-- an operation of which no flag comes leaves its word by its mode
pub operated_plainly : (mode : OpMode) (regs : Regs) (ac e word : ℕ) → operated mode regs ac e (Some (moved word)) ≡ by_mode mode regs ac e word
operated_plainly Memory regs ac e word = ap (λ (f : Flags). record (by_mode Memory regs ac e word) { flags = f }) (set_none regs.flags)
operated_plainly Basic regs ac e word = ap (λ (f : Flags). record (by_mode Basic regs ac e word) { flags = f }) (set_none regs.flags)
operated_plainly Immediate regs ac e word = ap (λ (f : Flags). record (by_mode Immediate regs ac e word) { flags = f }) (set_none regs.flags)
operated_plainly Both regs ac e word = ap (λ (f : Flags). record (by_mode Both regs ac e word) { flags = f }) (set_none regs.flags)
operated_plainly Own regs ac e word = ap (λ (f : Flags). record (by_mode Own regs ac e word) { flags = f }) (set_none regs.flags)

-- a count of which no flag comes
pub counts_plainly : (n code : ℕ) (regs : Regs) (ac a e m word : ℕ) → added (if nat_lt code 8 then a else m) n ≡ moved word → counts n code regs ac a e m ≡ counted_to code regs ac e word
counts_plainly n code regs ac a e m word = by (nat_lt code 8) refl
  where
    by : (b : Bool) → nat_lt code 8 ≡ b → added (if nat_lt code 8 then a else m) n ≡ moved word → counts n code regs ac a e m ≡ counted_to code regs ac e word
    by true low h =
        let same : added a n ≡ moved word = subst (λ (b : Bool). added (if b then a else m) n ≡ moved word) low h in
        let jumped : Outcome → Flags → Deed = λ o f. record (nothing_done regs) { ac = Some o.word; flags = f; pc = if condition_holds code (signed o.word) then e else next_pc regs; post = overflow_post o.flags.overflow } in
        rw low (ap (λ (o : Outcome). jumped o (set_with regs.flags o.flags)) same ∙ ap (jumped (moved word)) (set_none regs.flags))
    by false high h =
        let same : added m n ≡ moved word = subst (λ (b : Bool). added (if b then a else m) n ≡ moved word) high h in
        let skipped : Outcome → Flags → Deed = λ o f. record (nothing_done regs) {
          ac = unless_zero ac o.word;
          flags = f;
          pc = if condition_holds (code - 8) (signed o.word) then skip_pc regs else next_pc regs;
          store = back e o.word;
          post = overflow_post o.flags.overflow;
        } in
        rw high (ap (λ (o : Outcome). skipped o (set_with regs.flags o.flags)) same ∙ ap (skipped (moved word)) (set_none regs.flags))
