use Rattle.ka10_in_place.specs.Fetches.{Executes, FetchedUnit}
use Rattle.ka10_in_place.proofs.Fetching.{there_still, unit_fetched}
use Rattle.ka10_in_place.proofs.Finishing.{for_all}
use Rattle.ka10_in_place.proofs.Placing.{in_place_more}
use Rattle.ka10_in_place.proofs.in_place.quick.Goals as goal

pub returns-in-Some-clause-there : goal.returns-in-Some-clause-there
returns-in-Some-clause-there g c = there_still g.P.Pages.means c.args.space c.args.pages.now c.execute.new.pages c.fetch.new.kept c.execute.ensures.stays c.fetch.ensures.there

pub returns-in-Some-clause-unit : goal.returns-in-Some-clause-unit
returns-in-Some-clause-unit g c =
    let regs = c.args.regs.now in
    let word = c.in-Some.fetched.word in
    in_place_more g.P.Pages.means c.args.space (Executes regs word) (FetchedUnit regs c.args.kept.now c.fetch.new.kept) c.args.pages.now c.execute.new.pages regs c.execute.new.regs c.execute.result c.execute.ensures
    (λ d f fits is. for_all c.execute.result _ (λ post done can.
    let told = c.in-Some.ensures.told d f fits is can in
    unit_fetched f (g.P.Pages.means.plain c.args.pages.now d) regs word _ c.fetch.new.kept told.0 told.1 done))

pub returns-in-None-clause-there : goal.returns-in-None-clause-there
returns-in-None-clause-there g c = there_still g.P.Pages.means c.args.space c.args.pages.now c.quick_elsewhere.new.pages c.fetch.new.kept c.quick_elsewhere.ensures.stays c.fetch.ensures.there

pub returns-in-None-clause-unit : goal.returns-in-None-clause-unit
returns-in-None-clause-unit g c =
    let regs = c.args.regs.now in
    let kept = c.fetch.new.kept in
    in_place_more g.P.Pages.means c.args.space (FetchedUnit regs kept kept) (FetchedUnit regs c.args.kept.now kept) c.args.pages.now c.quick_elsewhere.new.pages regs c.quick_elsewhere.new.regs c.quick_elsewhere.result c.quick_elsewhere.ensures
    (λ d f fits is. for_all c.quick_elsewhere.result _ (λ post done can. done (c.fetch.ensures.told d f fits is can).0))
