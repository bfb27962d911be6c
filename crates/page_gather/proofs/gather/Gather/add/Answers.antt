use Rattle.std.proofs.Common.{◌≡◌, [], ◌∷◌, ◌++◌, length, sym, ◌∙◌, ap, subst, rules}
use Rattle.machine_names.specs.declared.names.Place.TheVariants.{Fork}
use Rattle.machine_names.specs.declared.names.Slot.{Slot}
use Rattle.page_contracts.specs.declared.answers.Touch.TheVariants.{Ready}
use Rattle.page_contracts.specs.Pages.{spot_of, touch_of}
use Rattle.plain_pages.specs.References.{in_map}
use Rattle.page_gather.specs.declared.reference.Added.TheVariants.{Went}
use Rattle.page_gather.specs.Gathering.{Gathering, Adds}
use Rattle.page_gather.proofs.Judged.{ready_told, no_changes}
use Rattle.page_gather.proofs.gather.Gather.add.Goals as goal

pub returns-in-Ready-clause-told : goal.returns-in-Ready-clause-told
returns-in-Ready-clause-told g c d fits k slot at =
    let is_fork : Fork c.slot_of.result ≡ Fork slot = c.slot_of.ensures.is ∙ at in
    let same : c.slot_of.result ≡ slot = cc is_fork in
    let few : length c.self.inside.changes.items ≡ 0 = search rules in
    let none : c.args.self.now.changes ≡ [] = sym (ap (λ (x : Gathering). x.changes) c.self.view_is) ∙ no_changes c.self.inside.changes.items few in
    let ready : Ready ≡ touch_of (g.P.Pages.means.plain c.args.pages.now d) (g.P.Pages.means.scene c.args.pages.now) (in_map slot) c.args.kind c.args.self.now.owner =
    c.in-Ready.ensures.told d c.args.self.now.owner fits k.own ∙ ap (λ x. touch_of (g.P.Pages.means.plain c.args.pages.now d) (g.P.Pages.means.scene c.args.pages.now) (spot_of x) c.args.kind c.args.self.now.owner) at in
    let added = ready_told (g.P.Pages.means.plain c.args.pages.now d) (g.P.Pages.means.scene c.args.pages.now) c.args.self.now k (record { slot = slot; kind = c.args.kind }) none ready c.push.inside.homes (ap (λ (x : Gathering). x.homes) c.push.view_is) in
    subst (λ (x : Gathering). Adds (g.P.Pages.means.plain c.args.pages.now d) (g.P.Pages.means.scene c.args.pages.now) c.args.self.now x (record { slot = slot; kind = c.args.kind }) Went)
    (sym (c.push-in-Ready.ensures ∙ ap (λ (s : Slot). record { owner = c.args.self.now.owner; references = c.args.self.now.references ++ record { slot = s; kind = c.args.kind } ∷ []; changes = c.args.self.now.changes; homes = c.push.inside.homes }) same)) added
