use Rattle.std.proofs.Common.{◌∙◌, Option, sym, subst}
use Rattle.std.specs.Prelude.{IsSome}
use Rattle.machine_names.specs.declared.names.Kind.{Kind}
use Rattle.machine_names.specs.declared.names.Kind.TheVariants.{Read, Write}
use Rattle.machine_names.specs.declared.names.Tty.{Tty}
use Rattle.page_contracts.specs.declared.answers.Found.{Found}
use Rattle.machine_names.specs.Bounds.{IsOwner}
use Rattle.flat_tables.specs.TableSteps.{tables_of}
use Rattle.flat_pages.proofs.Settling.{sized_of}
use Rattle.flat_tables.specs.HeldMaps.{fork_at}
use Rattle.flat_tables.proofs.WalkSteps.{some_fork}
use Rattle.flat_pages.proofs.Meeting.{place_told, space_fork, change_touched, touched_change, lives_at}
use Rattle.flat_pages.proofs.flat_slots.FlatSlotsPages.find_to_change.Goals as goal

pub found-requires-clause-lives : goal.found-requires-clause-lives
found-requires-clause-lives g c = some_fork (fork_at c.args.self.now.tables.maps.held.items c.args.space.0) c.requires.space.fork (space_fork c.args.self.now.tables.maps.held.items c.requires.space.fork c.args.space c.requires.space.is)

pub returns-clause-ready : goal.returns-clause-ready
returns-clause-ready g c f is =
    let s = c.args.self.now in
    let t = tables_of (g.S.Store.means.homes s.store) s.tables in
    let frames = g.S.Store.means.spare s.store in
    let found = g.S.Store.means.found s.store in
    let finds = (g.met.S.Store.sound s.store).finds in
    let there = space_fork s.tables.maps.held.items f c.args.space is in (
      λ some. change_touched t s.agree found finds c.args.space.0 c.args.page f there frames (subst (λ (o : Option Found). IsSome o) c.found.ensures some),
      λ ready. subst (λ (o : Option Found). IsSome o) (sym c.found.ensures) (touched_change t s.agree found finds c.args.space.0 c.args.page f there frames ready),
    )

pub returns-clause-told : goal.returns-clause-told
returns-clause-told g c d f fits is some =
    let s = c.args.self.now in
    let t = tables_of (g.S.Store.means.homes s.store) s.tables in
    let frames = g.S.Store.means.spare s.store in
    let found = g.S.Store.means.found s.store in
    let sound = g.met.S.Store.sound s.store in
    let there = space_fork s.tables.maps.held.items f c.args.space is in
    let both = change_touched t s.agree found sound.finds c.args.space.0 c.args.page f there frames (subst (λ (o : Option Found). IsSome o) c.found.ensures some) in
    let told = λ (kind : Kind) (owner : Tty) (own : IsOwner owner). place_told t s.agree frames d (sized_of t.places d fits sound.pages) owner own (record { fork = f; page = c.args.page }) kind (lives_at t s.agree found sound.finds c.args.space.0 c.args.page f there) in
    (λ owner own. told Read owner own ∙ both.0, λ owner own. told Write owner own ∙ both.1)
