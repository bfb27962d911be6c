use Rattle.std.proofs.Common.{◌<◌, arith}
use Rattle.call_turns.proofs.DrivenTurns.{ended, fills_last, reads_last, spent, goes_on, stops}
use Rattle.call_turns.proofs.driving.+driven.Goals as goal

pub returns-in-Ends-clause-told : goal.returns-in-Ends-clause-told
returns-in-Ends-clause-told g t c d owner seen f o = ended (g.S.Rest.later c.args.parts.now) seen (g.P.Pages.means.scene c.args.pages.now) (g.P.Pages.means.plain c.args.pages.now d) owner c.args.turn c.args.most c.in-Ends.end c.in-Ends.is

pub returns-in-Reads-clause-told : goal.returns-in-Reads-clause-told
returns-in-Reads-clause-told g t c d owner seen f o =
    reads_last (g.S.Rest.later c.args.parts.now) seen (g.P.Pages.means.scene c.args.pages.now) (g.P.Pages.means.plain c.args.pages.now d) owner c.args.turn c.args.most c.in-Reads.slot c.in-Reads.end c.read.result c.in-Reads.is (c.read.ensures.told d owner seen f o)

pub returns-in-Fills-clause-told : goal.returns-in-Fills-clause-told
returns-in-Fills-clause-told g t c d owner seen f o =
    fills_last (g.S.Rest.later c.args.parts.now) seen (g.P.Pages.means.scene c.args.pages.now) (g.P.Pages.means.plain c.args.pages.now d) owner c.args.turn c.args.most c.in-Fills.file c.in-Fills.page c.in-Fills.end c.in-Fills.full c.fill.result c.in-Fills.is (c.fill.ensures.told d owner seen f o)

pub returns-then-most-eq0-clause-told : goal.returns-then-most-eq0-clause-told
returns-then-most-eq0-clause-told g t c d owner seen f o =
    spent (g.S.Rest.later c.args.parts.now) seen (g.P.Pages.means.scene c.args.pages.now) (g.P.Pages.means.plain c.args.pages.now d) owner c.args.turn c.args.most c.in-Asks.what c.in-Asks.rest c.in-Asks.is c.if-most-eq0.true

pub returns-in-Ok-clause-told : goal.returns-in-Ok-clause-told
returns-in-Ok-clause-told g t c d owner seen f o =
    let some : 0 < c.args.most = omega (arith, c.if-most-eq0.false) in
    goes_on (g.S.Rest.later c.args.parts.now) seen (g.P.Pages.means.scene c.args.pages.now) (g.P.Pages.means.plain c.args.pages.now d) owner c.args.turn c.later.result c.args.most c.in-Asks.what c.in-Asks.rest c.in-Ok.reply c.driven.result c.in-Asks.is some (c.in-Ok.ensures.told d f) c.later.ensures.later
    (c.driven.ensures.told d owner seen f o)

pub returns-in-Err-clause-told : goal.returns-in-Err-clause-told
returns-in-Err-clause-told g t c d owner seen f o =
    let some : 0 < c.args.most = omega (arith, c.if-most-eq0.false) in
    stops (g.S.Rest.later c.args.parts.now) seen (g.P.Pages.means.scene c.args.pages.now) (g.P.Pages.means.plain c.args.pages.now d) owner c.args.turn c.args.most c.in-Asks.what c.in-Asks.rest c.in-Err.need c.in-Asks.is some (c.in-Err.ensures.told d f)
