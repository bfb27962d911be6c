use Rattle.std.proofs.Common.{◌≡◌, false, true, ap, sym, ◌∙◌, subst}
use Rattle.std.specs.Prelude.{is_some}
use Rattle.machine_names.specs.declared.names.Kind.TheVariants as kind
use Rattle.plain_pages.specs.References.{in_map}
use Rattle.call_turns.specs.Needing.{DrivenTo}
use Rattle.call_turns.specs.Numbers.{by_number}
use Rattle.call_turns.specs.Turns.{touching}
use Rattle.call_turns.specs.declared.turn.WhenFull.TheVariants as full
use Rattle.call_turns.proofs.Looks.{absent_way, missing_page}
use Rattle.call_turns.proofs.Touches.{read_matches}
use Rattle.call_turns.proofs.touching.read_there.Goals as goal

pub returns-in-Is-clause-told : goal.returns-in-Is-clause-told
returns-in-Is-clause-told g c d owner seen f o way there =
    let p = g.P.Pages.means.plain c.args.pages.now d in
    let scene = g.P.Pages.means.scene c.args.pages.now in
    subst (DrivenTo (by_number seen) scene p owner (touching owner (in_map c.args.slot) kind.Read c.args.end full.Refused)) (sym c.read_by.ensures)
    (read_matches seen scene p owner c.args.end full.Refused c.args.slot there c.touch.result (c.touch.ensures.told d owner f o))

pub returns-in-Missing-clause-told : goal.returns-in-Missing-clause-told
returns-in-Missing-clause-told g c d owner seen f o way there =
    let none = missing_page (g.P.Pages.means.plain c.args.pages.now d) (g.P.Pages.means.scene c.args.pages.now) c.args.slot (c.in-Missing.ensures.told d f) in
    absurd (let two : false ≡ true = sym (ap is_some none) ∙ there in cc two)

pub returns-in-Absent-clause-told : goal.returns-in-Absent-clause-told
returns-in-Absent-clause-told g c d owner seen f o way there =
    absurd (absent_way (g.P.Pages.means.plain c.args.pages.now d) (g.P.Pages.means.scene c.args.pages.now) c.args.slot c.in-Absent.home (c.in-Absent.ensures.told d f) way)
