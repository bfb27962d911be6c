use Rattle.std.proofs.Common.{◌≡◌, ◌-◌, ◌+◌, None, sym, ◌∙◌, ap, arith, get_or, inl, inr}
use Rattle.std.proofs.lemmas.Bool.{cases_lt}
use Rattle.std.proofs.lemmas.List.{get_or_read}
use Rattle.fork_tree.specs.Places.{place_in}
use Rattle.fork_tree.proofs.Slots.{empty_of}
use Rattle.fork_tree.proofs.fork_table.last_used.Goals as goal

pub returns-then-is_some-clause-none : goal.returns-then-is_some-clause-none
returns-then-is_some-clause-none c = λ slot above upto. c.loop-below.invariant slot (omega arith) upto

pub loop-below-preserved : goal.loop-below-preserved
loop-below-preserved c = λ slot above upto. elim (cases_lt c.loop-below.below slot) [
  | inr here ↦
      let is : slot ≡ c.loop-below.below - 1 + 1 = omega arith in
      ap (λ s. get_or c.args.places.now (place_in c.args.tty s) None) is
      ∙ (ap (λ i. get_or c.args.places.now i None) (sym c.place_in.ensures)
      ∙ (sym (get_or_read c.args.places.now c.place_in.result c.index-places-place_in.result (omega (arith, c.place_in.ensures)) c.index-places-place_in.is None)
      ∙ empty_of c.index-places-place_in.result (sym c.if-is_some.ensures)))
  | inl later ↦ c.loop-below.invariant slot later upto
]
