use Rattle.std.proofs.Common.{◌≡◌, ◌∙◌, false, ℕ, sym, arith}
use Rattle.std.proofs.lemmas.Bool.Decides.{nat_tests}
use Rattle.std.specs.Prelude.{nat_lt}
use Rattle.page_residence.proofs.Seating.{frame_has, home_below}
use Rattle.paged_store.specs.KeptHomes.{uncounted}
use Rattle.paged_store.proofs.KeptThrough.{unheld_away}
use Rattle.paged_store.proofs.store.PagedStore.is_held.Goals as goal

pub is_pinned-requires : goal.is_pinned-requires
is_pinned-requires c =
    let seats = c.args.self.now.core.frames.seats in
    home_below seats c.in-Some.f.0 c.args.home.0 (frame_has seats c.args.home.0 c.in-Some.f.0 c.in-Some.ensures)

-- none is above none alone
not_above : (n : ℕ) → nat_lt 0 n ≡ false → n ≡ 0
not_above n none = grind (arith, nat_tests, none)

pub returns-in-Some : goal.returns-in-Some
returns-in-Some c free k =
    let s = c.args.self.now in
    let count = s.kept.pinned c.in-Some.f.0 c.args.home.0 (frame_has s.core.frames.seats c.args.home.0 c.in-Some.f.0 c.in-Some.ensures) in
    uncounted s.holders k c.args.home.0 (sym count ∙ not_above _ (sym c.is_pinned.ensures ∙ free))

pub returns-in-None : goal.returns-in-None
returns-in-None c free =
    let s = c.args.self.now in
    unheld_away s.core.frames.seats s.core.queue.queued s.homes s.holders s.untold s.kept c.args.home.0 c.in-None.ensures
