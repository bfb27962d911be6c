use Rattle.std.proofs.Common.{Ok, ap, sym, ◌∙◌, subst}
use Rattle.call_turns.specs.Needing.{DrivenTo}
use Rattle.call_turns.specs.Numbers.{by_number}
use Rattle.call_turns.specs.Turns.{reading}
use Rattle.call_turns.proofs.Touches.{is_there, reads_none, reads_there, reads_wait}
use Rattle.call_turns.proofs.touching.read.Goals as goal

pub returns-in-Ok-Some-clause-told : goal.returns-in-Ok-Some-clause-told
returns-in-Ok-Some-clause-told g c d owner seen f o =
    let p = g.P.Pages.means.plain c.args.pages.now d in
    let scene = g.P.Pages.means.scene c.args.pages.now in
    let found = ap Ok (sym c.in-Ok-Some.field-0-is) ∙ c.in-Ok-Some.ensures.told d f in
    let there = is_there seen scene p owner c.args.end c.args.slot c.in-Ok-Some.field-0-0 found in
    reads_there seen scene p owner c.args.end c.args.slot c.in-Ok-Some.field-0-0 found c.read_there.result (c.read_there.ensures.told d owner seen f o there.0 there.1)

pub returns-in-Ok-None-clause-told : goal.returns-in-Ok-None-clause-told
returns-in-Ok-None-clause-told g c d owner seen f o =
    let p = g.P.Pages.means.plain c.args.pages.now d in
    let scene = g.P.Pages.means.scene c.args.pages.now in
    subst (DrivenTo (by_number seen) scene p owner (reading owner c.args.slot c.args.end)) (ap Ok (sym c.refused.ensures))
    (reads_none seen scene p owner c.args.end c.args.slot (ap Ok (sym c.in-Ok-None.field-0-is) ∙ c.in-Ok-None.ensures.told d f))

pub returns-in-Err-clause-told : goal.returns-in-Err-clause-told
returns-in-Err-clause-told g c d owner seen f o =
    reads_wait seen (g.P.Pages.means.scene c.args.pages.now) (g.P.Pages.means.plain c.args.pages.now d) owner c.args.end c.args.slot c.in-Err.need (c.in-Err.ensures.told d f)
