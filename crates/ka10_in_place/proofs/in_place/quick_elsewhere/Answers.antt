use Rattle.machine_names.specs.declared.names.Kind.TheVariants.{Execute}
use Rattle.ka10_in_place.specs.Fetches.{Executes, FetchedUnit}
use Rattle.ka10_spots.proofs.Ready.{takes_low}
use Rattle.ka10_in_place.proofs.Fetching.{unit_fetched}
use Rattle.ka10_in_place.proofs.Finishing.{for_all}
use Rattle.ka10_in_place.proofs.Placing.{in_place_more, slow_in_place}
use Rattle.ka10_in_place.proofs.in_place.quick_elsewhere.Goals as goal

pub returns-then-at-lt-ACCUMULATORS : goal.returns-then-at-lt-ACCUMULATORS
returns-then-at-lt-ACCUMULATORS g c =
    let regs = c.args.regs.now in
    let kept = c.args.kept.now in
    in_place_more g.P.Pages.means c.args.space (Executes regs c.word_of_accumulator.result) (FetchedUnit regs kept kept) c.args.pages.now c.execute.new.pages regs c.execute.new.regs c.execute.result c.execute.ensures
    (λ d f fits is. for_all c.execute.result _ (λ post done can.
    unit_fetched f (g.P.Pages.means.plain c.args.pages.now d) regs _ _ kept can (takes_low f _ regs.ac regs.pc Execute _ c.if-at-lt-ACCUMULATORS.true c.word_of_accumulator.ensures) done))

pub returns : goal.returns
returns g c = slow_in_place g.P.Pages.means c.args.space _ c.args.pages.now c.args.regs.now c.requires.pc
