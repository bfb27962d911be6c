use Rattle.std.proofs.Common.{◌≡◌, ◌∙◌, Option, sym, ap, subst}
use Rattle.std.specs.Prelude.{IsSome}
use Rattle.std.specs.Option.{option_and_then}
use Rattle.flat_tables.specs.TableSteps.{tables_of}
use Rattle.flat_pages.proofs.Settling.{sized_of}
use Rattle.page_contracts.specs.declared.answers.Found.{Found}
use Rattle.flat_tables.specs.HeldMaps.{fork_at}
use Rattle.flat_tables.specs.Walks.{walk, use_of, ready_home}
use Rattle.flat_tables.proofs.WalkSteps.{some_fork}
use Rattle.flat_pages.proofs.Meeting.{place_told, space_fork, find_from, find_to, lives_at}
use Rattle.flat_pages.proofs.flat_slots.FlatSlotsPages.find.Goals as goal

pub found-requires-clause-lives : goal.found-requires-clause-lives
found-requires-clause-lives g c = some_fork (fork_at c.args.self.now.tables.maps.held.items c.args.space.0) c.requires.space.fork (space_fork c.args.self.now.tables.maps.held.items c.requires.space.fork c.args.space c.requires.space.is)

pub returns-clause-ready : goal.returns-clause-ready
returns-clause-ready g c f is =
    let s = c.args.self.now in
    let t = tables_of (g.S.Store.means.homes s.store) s.tables in
    let frames = g.S.Store.means.spare s.store in
    let found = g.S.Store.means.found s.store in
    let finds = (g.met.S.Store.sound s.store).finds in
    let there = space_fork s.tables.maps.held.items f c.args.space is in
    let result : c.found.result ≡ option_and_then (λ h. found h.0) (option_and_then (ready_home (use_of c.args.kind)) (walk s.tables.maps.held.items (record { map = c.args.space.0; page = c.args.page }))) =
    c.found.ensures ∙ ap (λ u. option_and_then (λ h. found h.0) (option_and_then (ready_home u) (walk s.tables.maps.held.items (record { map = c.args.space.0; page = c.args.page })))) c.of.ensures in (
      λ some. find_from t s.agree found finds c.args.space.0 c.args.page f there c.args.kind frames (subst (λ (o : Option Found). IsSome o) result some),
      λ ready. subst (λ (o : Option Found). IsSome o) (sym result) (find_to t s.agree found finds c.args.space.0 c.args.page f there c.args.kind frames ready),
    )

pub returns-clause-told : goal.returns-clause-told
returns-clause-told g c d f fits is some owner own =
    let s = c.args.self.now in
    let t = tables_of (g.S.Store.means.homes s.store) s.tables in
    let frames = g.S.Store.means.spare s.store in
    let found = g.S.Store.means.found s.store in
    let sound = g.met.S.Store.sound s.store in
    let there = space_fork s.tables.maps.held.items f c.args.space is in
    let result : c.found.result ≡ option_and_then (λ h. found h.0) (option_and_then (ready_home (use_of c.args.kind)) (walk s.tables.maps.held.items (record { map = c.args.space.0; page = c.args.page }))) =
    c.found.ensures ∙ ap (λ u. option_and_then (λ h. found h.0) (option_and_then (ready_home u) (walk s.tables.maps.held.items (record { map = c.args.space.0; page = c.args.page })))) c.of.ensures in
    place_told t s.agree frames d (sized_of t.places d fits sound.pages) owner own (record { fork = f; page = c.args.page }) c.args.kind (lives_at t s.agree found sound.finds c.args.space.0 c.args.page f there)
    ∙ find_from t s.agree found sound.finds c.args.space.0 c.args.page f there c.args.kind frames (subst (λ (o : Option Found). IsSome o) result some)
