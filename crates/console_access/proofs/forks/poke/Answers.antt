use Rattle.std.proofs.Common.{◌%◌, refl, ◌∙◌, subst}
use Rattle.std.specs.Prelude.{IfOk}
use Rattle.ka10_spots.proofs.Stored.{lost_none}
use Rattle.outside.specs.declared.TheConstants.{PAGE_WORDS}
use Rattle.console_access.specs.Writing.{Writes, with_accumulator}
use Rattle.console_access.proofs.Changing.{poked_tree, unchanged_tree}
use Rattle.console_access.proofs.forks.poke.Goals as goal
use Rattle.console_access.proofs.forks.poke.Goals.{in-Some, in_default}

pub returns-then-address-lt-ACCUMULATORS-clause-low : goal.returns-then-address-lt-ACCUMULATORS-clause-low
returns-then-address-lt-ACCUMULATORS-clause-low g c low = (
  refl,
  elim c.match-body_mut.branch [
    | in-Some w ↦ w.tree-is ∙ poked_tree c.args.tree.now c.args.fork c.args.address c.args.word w.in-Some.body.now w.in-Some.ensures.body
    | in_default w ↦ w.tree-is ∙ unchanged_tree c.args.tree.now c.args.fork (with_accumulator c.args.address c.args.word) w.in_default.ensures.body
  ],
  refl,
)

pub returns-then-address-lt-ACCUMULATORS-clause-loses : goal.returns-then-address-lt-ACCUMULATORS-clause-loses
returns-then-address-lt-ACCUMULATORS-clause-loses g c = lost_none g.P.Pages.means c.args.pages.now

pub returns-clause-high : goal.returns-clause-high
returns-clause-high g c high = (
  refl,
  subst (λ s. IfOk c.write_word.result (Writes g.P.Pages.means c.args.pages.now c.write_word.new.pages s (c.args.address % PAGE_WORDS) c.args.word)) c.slot_at-slot.ensures.slot
      (subst (λ o. IfOk c.write_word.result (Writes g.P.Pages.means c.args.pages.now c.write_word.new.pages c.slot_at-slot.result o c.args.word)) c.offset_in_page.ensures.offset c.write_word.ensures.told),
)
