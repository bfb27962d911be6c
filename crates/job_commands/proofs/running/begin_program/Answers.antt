use Rattle.std.proofs.Common.{sym, subst}
use Rattle.std.specs.FinMap as map
use Rattle.plain_model.specs.Forks.{OthersStay}
use Rattle.plain_model.specs.Trees.{PlainTree, changed}
use Rattle.plain_model.proofs.OtherJobs.{named_others}
use Rattle.plain_model.specs.Commands.{begun_at}
use Rattle.fork_tree.proofs.Slots.{held_lives}
use Rattle.job_forks.proofs.Holdings.{grown_made, holds_same, holds_still}
use Rattle.job_forks.proofs.Places.{Keep, changed_keeps}
use Rattle.job_forks.proofs.Tops.{same_tops}
use Rattle.job_commands.proofs.Begun.{begun_mild}
use Rattle.job_commands.proofs.running.begin_program.Goals as goal

-- the fork begins where it stood, and no page is made
pub returns-clause-leaves : goal.returns-clause-leaves
returns-clause-leaves g c =
    let means = g.P.Pages.means in
    let top = c.args.top in
    let old = c.args.tree.now.forks in
    let last = c.begin_at.new.tree.forks in
    let pages = c.args.pages.now in
    let grown = c.map_program.ensures.grows in
    let slotted = c.are_trees.ensures.slotted in
    let begun : Keep old (changed old (begun_at c.args.address) (map.get old top)) =
    changed_keeps old slotted.own (begun_at c.args.address) (map.get old top) (λ f e. (held_lives old slotted top f e, begun_mild c.args.address f c.requires.address)) in
    let keep : Keep old last = subst (λ (t : PlainTree). Keep old t.forks) (sym c.begin_at.ensures) begun in
    record {
      holds = holds_same means c.map_program.new.pages old last slotted c.are_trees-2.ensures.slotted keep.same (holds_still means pages c.map_program.new.pages old grown.lives grown.forks c.requires.holds);
      kept = keep.come;
      tops = same_tops old last keep.same;
      others = subst (λ (t : PlainTree). OthersStay top.tty old t.forks) (sym c.begin_at.ensures) (named_others c.args.tree.now slotted.own top (begun_at c.args.address));
      made = grown_made means top.tty 0 pages c.map_program.new.pages grown;
      loses = grown.loses;
    }
