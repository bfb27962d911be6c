use Rattle.std.proofs.Common.{ℕ, sym, ◌∙◌, subst}
use Rattle.machine_names.specs.declared.names.Kind.TheVariants.{Read}
use Rattle.ka10_unit.specs.Gathers.{framed}
use Rattle.job_forks.specs.Asking.{asked}
use Rattle.fork_calls.specs.Blocks.{TookBlock}
use Rattle.job_forks.proofs.CallLeaving.{none_grown}
use Rattle.fork_calls.proofs.TurnBlocks.{read_accumulators}
use Rattle.fork_calls.proofs.making.accumulators.Goals as goal

pub returns-then-asks-clause-told : goal.returns-then-asks-clause-told
returns-then-asks-clause-told g c d tree fits =
    let p = framed g.P.Pages.means c.args.pages.now d in
    let q = g.P.Pages.means.plain c.block.new.pages d in
    let t = c.block.ensures.told d fits in
    (t.0, read_accumulators (asked c.args.who c.args.regs.now tree) p q c.block.result (sym c.asks.ensures ∙ c.if-asks.true) (subst (λ (a : ℕ). TookBlock c.args.who c.args.regs.now a Read p q c.block.result) c.address_named.ensures.address t.1))

pub returns-else-asks-clause-grows : goal.returns-else-asks-clause-grows
returns-else-asks-clause-grows g c = none_grown g.P.Pages.means c.args.who.tty c.args.pages.now
