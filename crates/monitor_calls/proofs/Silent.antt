-- Units in a row that post nothing.
use Rattle.std.proofs.Common.{◌≡◌, ℕ, suc, List, false, cond, Option, None, Some, refl, sym, ◌∙◌, ap}
use Rattle.std.specs.Ordering.{nat_cmp}
use Rattle.std.specs.Option.{option_and_then}
use Rattle.std.specs.declared.cmp.Ordering.{Ordering}
use Rattle.plain_model.specs.declared.fork.Fork.{Fork}
use Rattle.plain_units.specs.declared.registers.Regs.{Regs}
use Rattle.machine_names.specs.declared.names.ForkName.{ForkName}
use Rattle.plain_pages.specs.PlainPages.{PlainPages, NumberedPages}
use Rattle.plain_units.specs.Steps.{Planned, Progress, Ending, done, stopped, call, pages_left}
use Rattle.plain_model.specs.Forks.{with_regs, counted}
use Rattle.plain_model.specs.Calls.{posted_if}
use Rattle.plain_model.specs.Inspections.{is_interrupted}
use Rattle.plain_units.specs.Units.{unit_on}
use Rattle.ka10_spots.specs.Once.{After, once, in_a_row, unless_posted, went_through}
use Rattle.step_shown.specs.Shown.{nothing}
use Rattle.monitor_calls.specs.ForkUnit.{Rest, behind, behind_instruction, behind_interrupted, behind_unit, left_so, post_shown}

-- a unit that went through, and what it left
went_as : {K : Type 0} {file_cmp : K → K → Ordering} (f : ForkName) (x : Planned file_cmp ⊥) (a : After file_cmp) → went_through f x ≡ Some a → (t : Progress file_cmp) × (e : Ending) × (x ≡ done t e) × (record { pages = pages_left f t e; regs = e.regs; post = e.post } ≡ a)
went_as f (done t e) a h = (t, e, refl, cc h)
went_as f (stopped why) a h = absurd (cc h)
went_as f (call number) a h = absurd (cc h)

pub once_as : {K : Type 0} {file_cmp : K → K → Ordering} (f : ForkName) (p : PlainPages file_cmp) (regs : Regs) (a : After file_cmp) → once f p regs ≡ Some a → (t : Progress file_cmp) × (e : Ending) × (unit_on f p regs ≡ done t e) × (record { pages = pages_left f t e; regs = e.regs; post = e.post } ≡ a)
unfolding once
once_as f p regs a h = went_as f (unit_on f p regs) a h

-- one unit more in a row
pub record OneMore {K : Type 0} {file_cmp : K → K → Ordering} (f : ForkName) (n : ℕ) (p : PlainPages file_cmp) (regs : Regs) (b : After file_cmp) : Type 0 where
  pub before : After file_cmp
  pub row : in_a_row f n p regs ≡ Some before
  pub unit : once f before.pages before.regs ≡ Some b
  pub silent : b.post ≡ None

pub row_more : {K : Type 0} {file_cmp : K → K → Ordering} (f : ForkName) (n : ℕ) (p : PlainPages file_cmp) (regs : Regs) (b : After file_cmp) → in_a_row f (suc n) p regs ≡ Some b → OneMore f n p regs b
unfolding in_a_row
row_more {file_cmp = file_cmp} f n p regs b h = by (in_a_row f n p regs) refl h
  where
    last : (a : After file_cmp) (q : PlainPages file_cmp) (left : Regs) (post : Option ℕ) → in_a_row f n p regs ≡ Some a → once f a.pages a.regs ≡ Some (record { pages = q; regs = left; post = post }) → unless_posted (record { pages = q; regs = left; post = post }) ≡ Some b → OneMore f n p regs b
    last a q left None row unit is = let same : record { pages = q; regs = left; post = None } ≡ b = cc is in record { before = a; row = row; unit = unit ∙ ap Some same; silent = ap (λ (c : After file_cmp). c.post) (sym same) }
    last a q left (Some channel) row unit is = absurd (cc is)

    then : (a : After file_cmp) (o : Option (After file_cmp)) → in_a_row f n p regs ≡ Some a → once f a.pages a.regs ≡ o → option_and_then unless_posted o ≡ Some b → OneMore f n p regs b
    then a None row unit is = absurd (cc is)
    then a (Some c) row unit is = last a c.pages c.regs c.post row unit is

    by : (o : Option (After file_cmp)) → in_a_row f n p regs ≡ o → option_and_then (λ a. option_and_then unless_posted (once f a.pages a.regs)) o ≡ Some b → OneMore f n p regs b
    by None row is = absurd (cc is)
    by (Some a) row is = then a (once f a.pages a.regs) row refl is

-- what is behind a unit of a fork that isn't interrupted
pub instruction_alone : (key : List ℕ → ℕ) (rest : Rest) (f : Fork) (p : NumberedPages) → is_interrupted f.body.psi ≡ false → behind_unit key rest f p ≡ behind_instruction key rest f p
instruction_alone key rest f p alone = ap (λ b. cond b (behind_interrupted key rest f p) (behind_instruction key rest f p)) alone

-- what is behind a unit that went through and posts nothing
pub silent_unit : (key : List ℕ → ℕ) (rest : Rest) (f : Fork) (p : NumberedPages) (b : After nat_cmp) → is_interrupted f.body.psi ≡ false → once f.name p f.body.regs ≡ Some b → b.post ≡ None → behind_unit key rest f p ≡ left_so rest (counted (with_regs f b.regs)) b.pages nothing
silent_unit key rest f p b alone went silent =
    let o = once_as f.name p f.body.regs b went in
    instruction_alone key rest f p alone
    ∙ ap (behind key rest f p) o.2 ∙ (λ i. left_so rest (counted (posted_if (with_regs f (o.3 i).regs) (o.3 i).post)) (o.3 i).pages (post_shown f.body.psi (o.3 i).post))
    ∙ (λ i. left_so rest (counted (posted_if (with_regs f b.regs) (silent i))) b.pages (post_shown f.body.psi (silent i)))
