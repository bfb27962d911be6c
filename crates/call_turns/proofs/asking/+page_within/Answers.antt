use Rattle.std.proofs.Common.{◌<◌, ◌∙◌, sym, ap, arith}
use Rattle.std.specs.Prelude.{Ok}
use Rattle.call_turns.proofs.Looks.{none_told, empty_told, named_told, followed_told, needs_told}
use Rattle.call_turns.proofs.asking.+page_within.Goals as goal

pub returns-then-links-eq0-clause-told : goal.returns-then-links-eq0-clause-told
returns-then-links-eq0-clause-told g t c d f = none_told (g.P.Pages.means.plain c.args.pages.now d) (g.P.Pages.means.scene c.args.pages.now) c.args.slot c.args.links c.if-links-eq0.true

pub returns-in-Empty-clause-told : goal.returns-in-Empty-clause-told
returns-in-Empty-clause-told g t c d f =
    let some : 0 < c.args.links = omega (arith, c.if-links-eq0.false) in
    empty_told (g.P.Pages.means.plain c.args.pages.now d) (g.P.Pages.means.scene c.args.pages.now) c.args.slot c.args.links some (ap Ok (sym c.in-Empty.is) ∙ c.in-Ok.ensures.told d f)

pub returns-in-Names-clause-told : goal.returns-in-Names-clause-told
returns-in-Names-clause-told g t c d f =
    let some : 0 < c.args.links = omega (arith, c.if-links-eq0.false) in
    named_told (g.P.Pages.means.plain c.args.pages.now d) (g.P.Pages.means.scene c.args.pages.now) c.args.slot c.args.links some c.in-Names.name c.in-Names.field-1 (ap Ok (sym c.in-Names.is) ∙ c.in-Ok.ensures.told d f)

pub returns-in-Follows-clause-told : goal.returns-in-Follows-clause-told
returns-in-Follows-clause-told g t c d f =
    let some : 0 < c.args.links = omega (arith, c.if-links-eq0.false) in
    followed_told (g.P.Pages.means.plain c.args.pages.now d) (g.P.Pages.means.scene c.args.pages.now) c.args.slot c.args.links some c.in-Follows.serial c.in-Follows.page c.in-Follows.field-2 c.page_within.result (ap Ok (sym c.in-Follows.is) ∙ c.in-Ok.ensures.told d f) (c.page_within.ensures.told d f)

pub returns-in-Err-clause-told : goal.returns-in-Err-clause-told
returns-in-Err-clause-told g t c d f =
    let some : 0 < c.args.links = omega (arith, c.if-links-eq0.false) in
    needs_told (g.P.Pages.means.plain c.args.pages.now d) (g.P.Pages.means.scene c.args.pages.now) c.args.slot c.args.links some c.in-Err.need (c.in-Err.ensures.told d f)
