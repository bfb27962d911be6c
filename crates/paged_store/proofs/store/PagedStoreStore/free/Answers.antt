use Rattle.std.proofs.Common.{◌≡◌, ◌∙◌, ℕ, List, Bool, None, true, false, refl, sym, ap, subst, set, get_or, rules}
use Rattle.page_contracts.specs.Stores.{is_taken, place}
use Rattle.paged_store.specs.declared.store.PagedStore.{PagedStore}
use Rattle.paged_store.specs.HeldHomes.{held_by}
use Rattle.paged_store.specs.Keeping.{IsKept, is_among}
use Rattle.paged_store.proofs.HeldLists.{others_none}
use Rattle.page_residence.proofs.Placing.{taken_at}
use Rattle.page_residence.specs.Resident.{frame_for}
use Rattle.page_residence.proofs.Seating.{frame_has}
use Rattle.paged_store.specs.StoreMeaning.{homes_of}
use Rattle.paged_store.proofs.Vacating.{freed_by, freed_away, freed_frame, kept_freed, gone_after}
use Rattle.paged_store.proofs.store.PagedStoreStore.free.Goals as goal

-- the home stays marked until it is given up
still_marked : (s mid : PagedStore) (h : ℕ) → mid.homes ≡ s.homes → is_taken (place (homes_of s) h) ≡ true → get_or mid.homes h false ≡ true
still_marked s mid h same taken =
    ap (λ (flags : List Bool). get_or flags h false) same ∙ sym (taken_at s.homes s.core.frames.seats s.core.frames.words s.core.queue.queued h) ∙ taken

pub release-requires : goal.release-requires
release-requires c = still_marked c.args.self.now c.release_all.new.self c.args.home.0 c.release_all.ensures.rests.homes c.requires

pub invariant_of-self : goal.invariant_of-self
invariant_of-self c =
    let mid = c.release_all.new.self in
    let gone : frame_for mid.core.frames.seats c.args.home.0 ≡ None = search rules in
    record {
      kept = subst (λ (flags : List Bool). IsKept mid.core.frames.seats mid.core.queue.queued flags mid.holders mid.untold) (sym c.release.ensures)
          (kept_freed mid.core.frames.seats mid.core.queue.queued mid.homes mid.holders mid.untold c.args.home.0 mid.kept gone);
    }

pub returns-in_default : goal.returns-in_default
returns-in_default c =
    let s = c.args.self.now in
    let mid = c.release_all.new.self in
    let gone : frame_for mid.core.frames.seats c.args.home.0 ≡ None = search rules in
    let taken = still_marked s mid c.args.home.0 c.release_all.ensures.rests.homes c.requires in
    freed_by s mid _ c.args.home.0 c.release_all.ensures.rests c.release_all.ensures.queue c.release_all.ensures.untold c.release_all.ensures.holders
    (freed_away mid _ c.args.home.0 gone taken refl c.release.ensures refl refl)

pub vacate-requires-clause-given : goal.vacate-requires-clause-given
vacate-requires-clause-given c = frame_has c.release_all.new.self.core.frames.seats c.args.home.0 c.in-Some.f.0 c.in-Some.ensures

pub vacate-requires-clause-unheld : goal.vacate-requires-clause-unheld
vacate-requires-clause-unheld c k = ap (is_among c.args.home.0) (c.release_all.ensures.holders k) ∙ others_none (held_by c.args.self.now.holders k) c.args.home.0

pub release-requires-2 : goal.release-requires-2
release-requires-2 c =
    ap (λ (flags : List Bool). get_or flags c.args.home.0 false) c.vacate.ensures.homes
    ∙ still_marked c.args.self.now c.release_all.new.self c.args.home.0 c.release_all.ensures.rests.homes c.requires

pub invariant_of-self-2 : goal.invariant_of-self-2
invariant_of-self-2 c =
    let mid = c.release_all.new.self in
    let vac = c.vacate.new.self in
    let gone = gone_after mid.core.frames.seats vac.core.frames.seats c.in-Some.f.0 c.args.home.0 mid.core.resident.single c.vacate.ensures.taken in
    record {
      kept = subst (λ (flags : List Bool). IsKept vac.core.frames.seats vac.core.queue.queued flags vac.holders vac.untold) (sym c.release-2.ensures)
          (kept_freed vac.core.frames.seats vac.core.queue.queued vac.homes vac.holders vac.untold c.args.home.0 vac.kept gone);
    }

pub returns : goal.returns
returns c =
    let s = c.args.self.now in
    let mid = c.release_all.new.self in
    let vac = c.vacate.new.self in
    let taken = still_marked s mid c.args.home.0 c.release_all.ensures.rests.homes c.requires in
    freed_by s mid _ c.args.home.0 c.release_all.ensures.rests c.release_all.ensures.queue c.release_all.ensures.untold c.release_all.ensures.holders
    (freed_frame mid _ vac.core c.in-Some.f.0 c.args.home.0 c.in-Some.ensures taken c.vacate.ensures.taken c.vacate.ensures.uses c.vacate.ensures.words c.vacate.ensures.queue refl
    (c.release-2.ensures ∙ ap (λ (flags : List Bool). set flags c.args.home.0 false) c.vacate.ensures.homes) c.vacate.ensures.untold c.vacate.ensures.holders)
