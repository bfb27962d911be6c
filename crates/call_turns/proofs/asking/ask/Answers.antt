use Rattle.std.proofs.Common.{◌∙◌, sym, ap}
use Rattle.machine_names.specs.Orders.{file_page}
use Rattle.call_turns.specs.Telling.{ask_need, told, told_of}
use Rattle.call_turns.proofs.Looks.{entry_needed, entry_told, filed_told, page_needed, page_told}
use Rattle.call_turns.proofs.asking.ask.Goals as goal

pub returns-in-Ok-clause-told : goal.returns-in-Ok-clause-told
returns-in-Ok-clause-told g c d f =
    let p = g.P.Pages.means.plain c.args.pages.now d in
    let scene = g.P.Pages.means.scene c.args.pages.now in
    entry_told p scene c.in-Sees.slot c.in-Ok.entry (c.in-Ok.ensures.told d f) ∙ sym (ap (λ x. told (ask_need scene p x) (told_of p x)) c.in-Sees.is)

pub returns-in-Err-clause-told : goal.returns-in-Err-clause-told
returns-in-Err-clause-told g c d f =
    let p = g.P.Pages.means.plain c.args.pages.now d in
    let scene = g.P.Pages.means.scene c.args.pages.now in
    entry_needed p scene c.in-Sees.slot c.in-Err.need (c.in-Err.ensures.told d f) ∙ sym (ap (λ x. told (ask_need scene p x) (told_of p x)) c.in-Sees.is)

pub returns-in-Ok-page_at-clause-told : goal.returns-in-Ok-page_at-clause-told
returns-in-Ok-page_at-clause-told g c d f =
    let p = g.P.Pages.means.plain c.args.pages.now d in
    let scene = g.P.Pages.means.scene c.args.pages.now in
    page_told p scene c.in-Finds.slot c.in-Ok-page_at.page (c.in-Ok-page_at.ensures.told d f) ∙ sym (ap (λ x. told (ask_need scene p x) (told_of p x)) c.in-Finds.is)

pub returns-in-Err-page_at-clause-told : goal.returns-in-Err-page_at-clause-told
returns-in-Err-page_at-clause-told g c d f =
    let p = g.P.Pages.means.plain c.args.pages.now d in
    let scene = g.P.Pages.means.scene c.args.pages.now in
    page_needed p scene c.in-Finds.slot c.in-Err-page_at.need (c.in-Err-page_at.ensures.told d f) ∙ sym (ap (λ x. told (ask_need scene p x) (told_of p x)) c.in-Finds.is)

pub returns-in-FindsFile-clause-told : goal.returns-in-FindsFile-clause-told
returns-in-FindsFile-clause-told g c d f =
    let p = g.P.Pages.means.plain c.args.pages.now d in
    let scene = g.P.Pages.means.scene c.args.pages.now in
    let agrees = g.met.P.Pages.agrees c.args.pages.now d f in
    filed_told p (file_page c.in-FindsFile.file.0 c.in-FindsFile.page) (g.P.Pages.means.filed c.args.pages.now) c.page_of.result agrees.filed c.page_of.ensures ∙ sym (ap (λ x. told (ask_need scene p x) (told_of p x)) c.in-FindsFile.is)
