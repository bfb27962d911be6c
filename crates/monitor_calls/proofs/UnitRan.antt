-- What units of a fork come to, by how they came out.
use Rattle.std.proofs.Common.{◌≡◌, ℕ, zero, suc, ◌+◌, ◌≤◌, List, false, Option, None, Some, refl, sym, ◌∙◌, ap, arith}
use Rattle.std.specs.Option.{option_and_then}
use Rattle.std.specs.Ordering.{nat_cmp}
use Rattle.std.specs.FinMap as map
use Rattle.plain_model.specs.declared.fork.Fork.{Fork}
use Rattle.plain_units.specs.declared.registers.Regs.{Regs}
use Rattle.plain_model.specs.Forks.{with_regs, counted}
use Rattle.plain_model.specs.Inspections.{is_interrupted}
use Rattle.plain_model.specs.Interrupts.{posted}
use Rattle.plain_pages.specs.PlainPages.{NumberedPages}
use Rattle.plain_units.specs.Steps.{stopped, trap}
use Rattle.plain_model.specs.Calls.{posted_if}
use Rattle.plain_units.specs.Units.{unit_on}
use Rattle.machine_names.proofs.OrderLemmas.{fork_cmp_total, fork_cmp_apart}
use Rattle.plain_model.proofs.Posted.{posted_same}
use Rattle.ka10_spots.specs.Once.{After, once, in_a_row}
use Rattle.ka10_in_place.specs.Bursts.{and_one_more}
use Rattle.step_shown.specs.Shown.{nothing}
use Rattle.monitor_calls.specs.ForkUnit.{Behind, IsCall, RanUnits, RanUpTo, Rest, behind, behind_instruction, behind_unit, called_behind, left_so, post_shown, put_in, ran_on}
use Rattle.step_shown.specs.declared.shown.Shown.{Shown}
use Rattle.monitor_calls.proofs.Maps.{insert_twice}
use Rattle.monitor_calls.proofs.Silent.{instruction_alone, once_as, row_more, silent_unit}

-- a fork that is put back twice
pub put_twice : (rest : Rest) (f g : Fork) (q : NumberedPages) (shown : Shown) → g.name ≡ f.name → left_so (put_in rest f) g q shown ≡ left_so rest g q shown
put_twice rest f g q shown same =
    let forks = ap (λ name. map.insert (map.insert rest.tree.forks name f) g.name g) (sym same) ∙ insert_twice fork_cmp_total fork_cmp_apart rest.tree.forks g.name f g in
    λ i. record { rest = record rest { tree = record rest.tree { forks = forks i } }; fork = g; pages = q; shown = shown }

-- a fork to which a channel is posted keeps its name
ended_name : (h : Fork) (post : Option ℕ) → (posted_if h post).name ≡ h.name
ended_name h None = refl
ended_name h (Some channel) = let same = posted_same h channel in same.0

module _ (key : List ℕ → ℕ) (rest : Rest) (f : Fork) (p q : NumberedPages) (regs : Regs) where
  -- it is done
  pub done_behind : (post : Option ℕ) → once f.name p f.body.regs ≡ Some (record { pages = q; regs = regs; post = post })
      → behind_instruction key rest f p ≡ left_so rest (counted (posted_if (with_regs f regs) post)) q (post_shown f.body.psi post)
  done_behind post went =
      let o = once_as f.name p f.body.regs (record { pages = q; regs = regs; post = post }) went in
      ap (behind key rest f p) o.2 ∙ (λ i. left_so rest (counted (posted_if (with_regs f (o.3 i).regs) (o.3 i).post)) (o.3 i).pages (post_shown f.body.psi (o.3 i).post))

  -- it traps
  pub trap_behind : (channel : ℕ) → unit_on f.name p f.body.regs ≡ stopped (trap channel) → q ≡ p → regs ≡ f.body.regs
      → behind_instruction key rest f p ≡ left_so rest (counted (posted (with_regs f regs) channel)) q (post_shown f.body.psi (Some channel))
  trap_behind channel traps same regs_same =
      ap (behind key rest f p) traps ∙ (λ i. left_so rest (counted (posted (with_regs f (sym regs_same i)) channel)) (sym same i) (post_shown f.body.psi (Some channel)))

-- units in a row, and the one behind them
module _ (key : List ℕ → ℕ) (rest : Rest) (f : Fork) (p : NumberedPages) (n : ℕ) (alone : 1 ≤ n → is_interrupted f.body.psi ≡ false) where
  pub one_behind : (a : After nat_cmp) (last : Behind) → in_a_row f.name n p f.body.regs ≡ Some a → behind_unit key (put_in rest (ran_on f n a.regs)) (ran_on f n a.regs) a.pages ≡ last → RanUnits key rest f p (n + 1) last
  one_behind a last row is = record { before = n; counts = omega arith; after = a; row = row; alone = alone; ends = is }

  -- it is a monitor call
  pub call_behind : (g : Fork) (q : NumberedPages) (number : ℕ) (last : Behind) → RanUpTo f p n g q → IsCall behind_unit g q number → called_behind key (put_in rest g) g q number ≡ last → RanUnits key rest f p (n + 1) last
  call_behind g q number last r calls is =
      one_behind r.after last r.row
      ((λ i. behind_unit key (put_in rest (r.fork i)) (r.fork i) (r.pages i)) ∙ calls key (put_in rest g) ∙ is)

-- units in a row of a fork that isn't interrupted, and one behind them that posts
pub post_behind : (key : List ℕ → ℕ) (rest : Rest) (f : Fork) (p : NumberedPages) (n : ℕ) → is_interrupted f.body.psi ≡ false → (b : After nat_cmp) → and_one_more f.name n p f.body.regs ≡ Some b
    → RanUnits key rest f p (n + 1) (left_so rest (counted (posted_if (ran_on f n b.regs) b.post)) b.pages (post_shown f.body.psi b.post))
post_behind key rest f p n alone b h = by (in_a_row f.name n p f.body.regs) refl h
  where
    by : (o : Option (After nat_cmp)) → in_a_row f.name n p f.body.regs ≡ o → option_and_then (λ a. once f.name a.pages a.regs) o ≡ Some b
        → RanUnits key rest f p (n + 1) (left_so rest (counted (posted_if (ran_on f n b.regs) b.post)) b.pages (post_shown f.body.psi b.post))
    by None row is = absurd (cc is)
    by (Some a) row is =
        let last = counted (posted_if (ran_on f n b.regs) b.post) in
        one_behind key rest f p n (λ some. alone) a _ row
        (instruction_alone key (put_in rest (ran_on f n a.regs)) (ran_on f n a.regs) a.pages alone
        ∙ done_behind key (put_in rest (ran_on f n a.regs)) (ran_on f n a.regs) a.pages b.pages b.regs b.post is
        ∙ put_twice rest (ran_on f n a.regs) last b.pages (post_shown f.body.psi b.post) (ended_name (ran_on f n b.regs) b.post))

-- units in a row alone
pub row_ran : (key : List ℕ → ℕ) (rest : Rest) (f : Fork) (p : NumberedPages) (n : ℕ) (b : After nat_cmp) → is_interrupted f.body.psi ≡ false → 1 ≤ n → in_a_row f.name n p f.body.regs ≡ Some b → RanUnits key rest f p n (left_so rest (ran_on f n b.regs) b.pages nothing)
row_ran key rest f p zero b alone some row = absurd (omega arith)
row_ran key rest f p (suc n) b alone some row =
    let more = row_more f.name n p f.body.regs b row in
    let a = more.before in
    let on = put_in rest (ran_on f n a.regs) in
    let counts : f.body.units + n + 1 ≡ f.body.units + suc n = omega arith in
    record {
      before = n;
      counts = refl;
      after = a;
      row = more.row;
      alone = λ any. alone;
      ends = silent_unit key on (ran_on f n a.regs) a.pages b alone more.unit more.silent
          ∙ put_twice rest (ran_on f n a.regs) (counted (with_regs (ran_on f n a.regs) b.regs)) b.pages nothing refl
          ∙ (λ i. left_so rest (record f { body = record f.body { regs = b.regs; units = counts i } }) b.pages nothing);
    }
