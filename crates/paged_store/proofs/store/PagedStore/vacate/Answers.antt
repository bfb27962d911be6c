use Rattle.std.proofs.Common.{◌∙◌, refl, sym, ap, subst, rules}
use Rattle.page_contracts.specs.declared.answers.Need.{Need}
use Rattle.paged_store.specs.UntoldNeeds.{Needs, IsBelow}
use Rattle.paged_store.proofs.Vacating.{vacated_unpinned, vacated_kept, told_below}
use Rattle.paged_store.proofs.store.PagedStore.vacate.Goals as goal

pub vacate-requires-clause-unpinned : goal.vacate-requires-clause-unpinned
vacate-requires-clause-unpinned c = vacated_unpinned c.args.self.now c.args.f.0 c.args.home.0 c.requires.given c.requires.unheld

pub note-requires : goal.note-requires
note-requires c =
    let s = c.args.self.now in
    subst (λ (need : Need). IsBelow s.untold.homes need) (sym c.told_by.ensures) (told_below s c.args.f.0 c.args.home.0 c.in-Some.transfer c.requires.given (sym c.vacate.ensures.answer ∙ search rules))

pub invariant_of-self : goal.invariant_of-self
invariant_of-self c =
    let s = c.args.self.now in
    record { kept = vacated_kept s c.vacate.new.self s.untold c.args.f.0 c.args.home.0 c.requires.unheld c.vacate.ensures.taken c.vacate.ensures.queue refl }

pub invariant_of-self-2 : goal.invariant_of-self-2
invariant_of-self-2 c =
    let s = c.args.self.now in
    record { kept = vacated_kept s c.vacate.new.self c.note.new.self c.args.f.0 c.args.home.0 c.requires.unheld c.vacate.ensures.taken c.vacate.ensures.queue (ap (λ (u : Needs). u.homes) c.note.ensures) }
