use Rattle.std.proofs.Common.{◌≡◌, ◌<◌, ◌≤◌, ◌∙◌, ◌⊎◌, inl, ℕ, List, [], ◌∷◌, Some, None, true, false, refl, sym, ap, subst, length, map, set, get_or, slice_get, arith, rules}
use Rattle.std.proofs.lemmas.Bool.{false≢true, true≢false}
use Rattle.std.proofs.lemmas.List.{get_or-set_same}
use Rattle.page_contracts.specs.declared.answers.Need.TheVariants.{Page, Frame}
use Rattle.page_contracts.specs.Stores.{HomePlace, free, away, here, place, is_here, is_taken, Ends}
use Rattle.page_contracts.specs.Stores as meaning
use Rattle.drum_queue.specs.declared.transfer.Transfer.{Transfer}
use Rattle.drum_queue.specs.declared.transfer.Transfer.TheVariants.{Read, Write}
use Rattle.paged_store.specs.declared.store.PagedStore.{PagedStore}
use Rattle.page_residence.specs.Resident.{home_at, page_in, framed, IsRenewed}
use Rattle.page_residence.proofs.Agreeing.{agrees}
use Rattle.page_residence.proofs.Placing.{places_length, taken_all}
use Rattle.paged_store.specs.StoreMeaning.{homes_of}
use Rattle.paged_store.specs.StoreSound.{marked}
use Rattle.paged_store.proofs.Taking.{flag_below}
use Rattle.page_residence.proofs.Steps.{oldest_home, oldest_is}
use Rattle.paged_store.proofs.Ending.{HasArrived, HasDeparted, head_meant, homes_in, arrived, departed, unread, kept_arrived, kept_departed, moved_unpinned}
use Rattle.paged_store.proofs.Completing.{content_read, content_written, fits_read, fits_written, taken_stays, told_words}
use Rattle.paged_store.proofs.Resting.{stored_same}
use Rattle.paged_store.proofs.store.PagedStoreStore.complete.Goals as goal

-- the home of the oldest transfer is taken
home_taken : (s : PagedStore) (t : Transfer) → slice_get s.core.queue.queued 0 ≡ Some t → get_or s.homes (Rattle.page_residence.specs.Resident.home_of t) false ≡ true
home_taken s t first =
    marked s (Rattle.drum_queue.specs.Transfers.frame_of t) (Rattle.page_residence.specs.Resident.home_of t) (oldest_home s.core.frames s.core.queue t (agrees s.core.frames s.core.queue s.core.resident) first)

home_within : (s : PagedStore) (t : Transfer) → slice_get s.core.queue.queued 0 ≡ Some t → Rattle.page_residence.specs.Resident.home_of t < length (homes_of s)
home_within s t first =
    let below = flag_below s.homes (Rattle.page_residence.specs.Resident.home_of t) (home_taken s t first) in
    omega (arith, below, places_length s.homes (framed s.core.frames.seats s.core.frames.words s.core.queue.queued))

pub arrive-requires-clause-page : goal.arrive-requires-clause-page
arrive-requires-clause-page g c =
    let within = home_within c.args.self.now (Read c.in-Some-Read.f c.in-Some-Read.home) (search rules) in
    omega (arith, within, c.requires)

pub depart-requires-clause-page : goal.depart-requires-clause-page
depart-requires-clause-page g c =
    let within = home_within c.args.self.now (Write c.in-Some-Write.f c.in-Some-Write.home) (search rules) in
    omega (arith, within, c.requires)

pub invariant_of-self : goal.invariant_of-self
invariant_of-self g c =
    let s = c.args.self.now in
    record {
      kept = kept_arrived s.homes s.core c.arrive.new.self c.in-Some-Read.f c.in-Some-Read.home s.holders s.untold s.kept c.arrive.result (search rules) c.arrive.ensures.seats c.arrive.ensures.queue c.arrive.ensures.failed;
    }

pub depart-requires-clause-unpinned : goal.depart-requires-clause-unpinned
depart-requires-clause-unpinned g c =
    let s = c.args.self.now in
    let first : slice_get s.core.queue.queued 0 ≡ Some (Write c.in-Some-Write.f c.in-Some-Write.home) = search rules in
    let r = agrees s.core.frames s.core.queue s.core.resident in
    moved_unpinned s.homes s.core s.core c.in-Some-Write.f c.in-Some-Write.home s.holders s.untold s.kept (Write c.in-Some-Write.f c.in-Some-Write.home)
    (oldest_home s.core.frames s.core.queue (Write c.in-Some-Write.f c.in-Some-Write.home) r first) (oldest_is (Write c.in-Some-Write.f c.in-Some-Write.home) s.core.queue.queued r.once first).own

pub invariant_of-self-in-Some-Write : goal.invariant_of-self-in-Some-Write
invariant_of-self-in-Some-Write g c =
    let s = c.args.self.now in
    let first : slice_get s.core.queue.queued 0 ≡ Some (Write c.in-Some-Write.f c.in-Some-Write.home) = search rules in
    let r = agrees s.core.frames s.core.queue s.core.resident in
    record {
      kept = kept_departed s.homes s.core c.depart.new.self c.in-Some-Write.f c.in-Some-Write.home s.holders s.untold s.kept c.depart.result first
          (moved_unpinned s.homes s.core s.core c.in-Some-Write.f c.in-Some-Write.home s.holders s.untold s.kept (Write c.in-Some-Write.f c.in-Some-Write.home)
          (oldest_home s.core.frames s.core.queue (Write c.in-Some-Write.f c.in-Some-Write.home) r first) (oldest_is (Write c.in-Some-Write.f c.in-Some-Write.home) s.core.queue.queued r.once first).own)
          c.depart.ensures.taken c.depart.ensures.queue c.depart.ensures.failed;
    }

pub returns-in-None-clause-ends : goal.returns-in-None-clause-ends
returns-in-None-clause-ends g c =
    let s = c.args.self.now in
    record {
      nothing = (λ e. none_meant s.core.queue.queued (search rules), λ e. refl);
      same = λ e. (refl, refl);
      done = λ need e. absurd cc;
      cause = λ e. absurd cc;
      later = omega arith;
      read = λ home e. absurd cc;
      wrote = λ e. absurd cc;
      reads_later = omega arith;
      writes_later = omega arith;
      failed = λ e. absurd cc;
      uncounted = λ e. absurd cc;
      size = refl;
    }
  where
    none_meant : (q : List Transfer) → slice_get q 0 ≡ None → map Rattle.page_residence.specs.Resident.meant q ≡ []
    none_meant [] e = refl
    none_meant (t ∷ ts) e = absurd cc

-- the page that has come in, from what the call says
arrival : (s : PagedStore) (n : Rattle.page_residence.specs.declared.residence.Residence.Residence) (f : Rattle.page_homes.specs.declared.homes.FrameId.FrameId) (h : Rattle.page_homes.specs.declared.homes.Home.Home)
    → slice_get s.core.queue.queued 0 ≡ Some (Read f h) → Rattle.page_residence.specs.Resident.SeatsStay s.core.frames.seats n.frames.seats → IsRenewed f.0 s.core.frames.seats n.frames.seats s.core.frames.uses n.frames.uses → (x : (ws : List ℕ) × (n.frames.words ≡ set s.core.frames.words f.0 ws))
    → n.queue.queued ≡ Rattle.std.proofs.Common.drop 1 s.core.queue.queued → HasArrived s.homes s.core n f.0 h.0
arrival s n f h first stays renewed words queue = arrived s.homes s.core n f h first (home_taken s (Read f h) first) stays renewed words.0 words.1 queue

arrived_here : (ps qs : List HomePlace) (h : ℕ) (p : HomePlace) → qs ≡ set ps h p → h < length ps → place qs h ≡ p
arrived_here ps qs h p is below = ap (λ (xs : List HomePlace). place xs h) is ∙ get_or-set_same ps h p free below

pub returns-in-Ok-clause-ends : goal.returns-in-Ok-clause-ends
returns-in-Ok-clause-ends g c =
    let s = c.args.self.now in
    let first : slice_get s.core.queue.queued 0 ≡ Some (Read c.in-Some-Read.f c.in-Some-Read.home) = search rules in
    let a = arrival s c.arrive.new.self c.in-Some-Read.f c.in-Some-Read.home first c.in-Ok.ensures.seats c.in-Ok.ensures.renews c.in-Ok.ensures.words c.in-Ok.ensures.queue in
    let at = arrived_here (homes_of s) (homes_in s.homes c.arrive.new.self) c.in-Some-Read.home.0 (here (page_in c.arrive.new.self.frames.words c.in-Some-Read.f.0)) a.homes (home_within s (Read c.in-Some-Read.f c.in-Some-Read.home) first) in
    record {
      nothing = (λ e. absurd cc, λ e. (let no : meaning.arrival c.in-Some-Read.home.0 ∷ map Rattle.page_residence.specs.Resident.meant c.arrive.new.self.queue.queued ≡ [] = sym a.oldest ∙ e in absurd cc));
      same = λ e. absurd cc;
      done = λ need e.
          let told : Page c.in-Some-Read.home ≡ need = cc in
          record {
            transfer = meaning.arrival c.in-Some-Read.home.0;
            oldest = a.oldest;
            told = sym told;
            moved = ap is_here at;
            taken = ap is_taken at;
            homes = a.homes ∙ ap (set (homes_of s) c.in-Some-Read.home.0) (sym at);
            frames = c.in-Ok.ensures.seats.size;
            found = a.found;
            tenants = a.tenants;
            spare = c.in-Ok.ensures.seats.spare ∙ sym (Rattle.std.proofs.Common.add-zero _);
            untold = refl;
            holds = refl;
            members = ap Rattle.page_contracts.specs.Stores.members_of c.in-Ok.ensures.seats.size;
            came = λ is. a.came;
            went = λ is. absurd (true≢false is);
          };
      cause = λ e. absurd cc;
      later = c.in-Ok.ensures.later;
      read = λ home e. (c.in-Ok.ensures.counted, c.in-Ok.ensures.writes);
      wrote = λ e. absurd cc;
      reads_later = c.in-Ok.ensures.reads_later;
      writes_later = omega (arith, c.in-Ok.ensures.writes);
      failed = λ e. absurd cc;
      uncounted = λ e. absurd cc;
      size = c.in-Ok.ensures.size;
    }

pub returns-in-Ok-clause-taken : goal.returns-in-Ok-clause-taken
returns-in-Ok-clause-taken g c =
    let s = c.args.self.now in
    let a = arrival s c.arrive.new.self c.in-Some-Read.f c.in-Some-Read.home (search rules) c.in-Ok.ensures.seats c.in-Ok.ensures.renews c.in-Ok.ensures.words c.in-Ok.ensures.queue in
    taken_stays (homes_of s) (homes_in s.homes c.arrive.new.self) c.in-Some-Read.home.0 (here (page_in c.arrive.new.self.frames.words c.in-Some-Read.f.0)) a.homes (sym (ap is_taken a.was))

pub returns-in-Ok-clause-content : goal.returns-in-Ok-clause-content
returns-in-Ok-clause-content g c d stands fits no_fault =
    let s = c.args.self.now in
    let first : slice_get s.core.queue.queued 0 ≡ Some (Read c.in-Some-Read.f c.in-Some-Read.home) = search rules in
    let a = arrival s c.arrive.new.self c.in-Some-Read.f c.in-Some-Read.home first c.in-Ok.ensures.seats c.in-Ok.ensures.renews c.in-Ok.ensures.words c.in-Ok.ensures.queue in
    let told = told_words _ d stands in (
      d,
      inl (c.in-Ok.ensures.held d told),
      fits_read (homes_of s) (homes_in s.homes c.arrive.new.self) d d c.in-Some-Read.home.0 (here (page_in c.arrive.new.self.frames.words c.in-Some-Read.f.0)) a.homes fits,
      content_read (homes_of s) (homes_in s.homes c.arrive.new.self) d d c.in-Some-Read.home.0 (page_in c.arrive.new.self.frames.words c.in-Some-Read.f.0) a.homes a.was (c.in-Ok.ensures.given d told)
          (home_within s (Read c.in-Some-Read.f c.in-Some-Read.home) first),
    )

departure : (s : PagedStore) (n : Rattle.page_residence.specs.declared.residence.Residence.Residence) (f : Rattle.page_homes.specs.declared.homes.FrameId.FrameId) (h : Rattle.page_homes.specs.declared.homes.Home.Home)
    → slice_get s.core.queue.queued 0 ≡ Some (Write f h) → Rattle.page_residence.specs.Resident.IsTakenFrom h.0 f.0 s.core.frames.seats n.frames.seats → n.frames.words ≡ s.core.frames.words
    → n.queue.queued ≡ Rattle.std.proofs.Common.drop 1 s.core.queue.queued → HasDeparted s.homes s.core n f.0 h.0
departure s n f h first from words queue = departed s.homes s.core n f h first (home_taken s (Write f h) first) from words queue

pub returns-in-Ok-depart-clause-ends : goal.returns-in-Ok-depart-clause-ends
returns-in-Ok-depart-clause-ends g c =
    let s = c.args.self.now in
    let first : slice_get s.core.queue.queued 0 ≡ Some (Write c.in-Some-Write.f c.in-Some-Write.home) = search rules in
    let a = departure s c.depart.new.self c.in-Some-Write.f c.in-Some-Write.home first c.in-Ok-depart.ensures.taken c.in-Ok-depart.ensures.words c.in-Ok-depart.ensures.queue in
    let at = arrived_here (homes_of s) (homes_in s.homes c.depart.new.self) c.in-Some-Write.home.0 away a.homes (home_within s (Write c.in-Some-Write.f c.in-Some-Write.home) first) in
    record {
      nothing = (λ e. absurd cc, λ e. (let no : meaning.departure c.in-Some-Write.home.0 ∷ map Rattle.page_residence.specs.Resident.meant c.depart.new.self.queue.queued ≡ [] = sym a.oldest ∙ e in absurd cc));
      same = λ e. absurd cc;
      done = λ need e.
          let told : Frame ≡ need = cc in
          record {
            transfer = meaning.departure c.in-Some-Write.home.0;
            oldest = a.oldest;
            told = sym told;
            moved = ap is_here at;
            taken = ap is_taken at;
            homes = a.homes ∙ ap (set (homes_of s) c.in-Some-Write.home.0) (sym at);
            frames = ap (λ (ss : Rattle.page_residence.specs.Resident.Seats). length ss) c.in-Ok-depart.ensures.taken.seats ∙ Rattle.std.proofs.lemmas.List.length-set _ _ _;
            found = a.found;
            tenants = λ frame apart. a.tenants frame;
            spare = a.spare;
            untold = refl;
            holds = refl;
            members = ap Rattle.page_contracts.specs.Stores.members_of (ap (λ (ss : Rattle.page_residence.specs.Resident.Seats). length ss) c.in-Ok-depart.ensures.taken.seats ∙ Rattle.std.proofs.lemmas.List.length-set _ _ _);
            came = λ is. absurd (false≢true is);
            went = λ is. (a.went, c.in-Ok-depart.ensures.uses);
          };
      cause = λ e. absurd cc;
      later = c.in-Ok-depart.ensures.later;
      read = λ home e. absurd cc;
      wrote = λ e. (c.in-Ok-depart.ensures.counted, c.in-Ok-depart.ensures.reads);
      reads_later = omega (arith, c.in-Ok-depart.ensures.reads);
      writes_later = c.in-Ok-depart.ensures.writes_later;
      failed = λ e. absurd cc;
      uncounted = λ e. absurd cc;
      size = c.in-Ok-depart.ensures.size;
    }

pub returns-in-Ok-depart-clause-taken : goal.returns-in-Ok-depart-clause-taken
returns-in-Ok-depart-clause-taken g c =
    let s = c.args.self.now in
    let a = departure s c.depart.new.self c.in-Some-Write.f c.in-Some-Write.home (search rules) c.in-Ok-depart.ensures.taken c.in-Ok-depart.ensures.words c.in-Ok-depart.ensures.queue in
    taken_stays (homes_of s) (homes_in s.homes c.depart.new.self) c.in-Some-Write.home.0 away a.homes (sym (ap is_taken a.was))

pub returns-in-Ok-depart-clause-content : goal.returns-in-Ok-depart-clause-content
returns-in-Ok-depart-clause-content g c d stands fits no_fault =
    let s = c.args.self.now in
    let first : slice_get s.core.queue.queued 0 ≡ Some (Write c.in-Some-Write.f c.in-Some-Write.home) = search rules in
    let a = departure s c.depart.new.self c.in-Some-Write.f c.in-Some-Write.home first c.in-Ok-depart.ensures.taken c.in-Ok-depart.ensures.words c.in-Ok-depart.ensures.queue in
    let told = told_words _ d stands in
    let words : List ℕ = page_in s.core.frames.words c.in-Some-Write.f.0 in
    let within = home_within s (Write c.in-Some-Write.f c.in-Some-Write.home) first in (
      set d c.in-Some-Write.home.0 words,
      inl (c.in-Ok-depart.ensures.held d told),
      fits_written (homes_of s) (homes_in s.homes c.depart.new.self) d (set d c.in-Some-Write.home.0 words) c.in-Some-Write.home.0 away words a.homes refl a.page fits,
      content_written (homes_of s) (homes_in s.homes c.depart.new.self) d (set d c.in-Some-Write.home.0 words) c.in-Some-Write.home.0 words a.homes a.was refl within (omega (arith, within, fits.enough)),
    )

pub returns-in-Err-clause-ends : goal.returns-in-Err-clause-ends
returns-in-Err-clause-ends g c =
    let s = c.args.self.now in
    let first : slice_get s.core.queue.queued 0 ≡ Some (Read c.in-Some-Read.f c.in-Some-Read.home) = search rules in
    let head = head_meant s.core.queue.queued (Read c.in-Some-Read.f c.in-Some-Read.home) first in
    let e = c.in-Err.ensures in
    record {
      nothing = (λ is. absurd cc, λ is. (let no : meaning.arrival c.in-Some-Read.home.0 ∷ map Rattle.page_residence.specs.Resident.meant (Rattle.std.proofs.Common.drop 1 s.core.queue.queued) ≡ [] = sym head ∙ is in absurd cc));
      same = λ is. absurd cc;
      done = λ need is. absurd cc;
      cause = λ is. e.cause;
      later = e.later;
      read = λ home is. absurd cc;
      wrote = λ is. absurd cc;
      reads_later = e.reads_later;
      writes_later = omega (arith, e.writes);
      failed = λ is. stored_same s _ e.unused e.uncounted_use e.failed (unread s.homes s.core c.arrive.new.self c.in-Some-Read.f c.in-Some-Read.home first e.unused e.words.0 e.words.1 e.failed) refl refl;
      uncounted = λ is. (e.uncounted, e.writes);
      size = e.size;
    }

pub returns-in-Err-clause-taken : goal.returns-in-Err-clause-taken
returns-in-Err-clause-taken g c =
    let s = c.args.self.now in
    let n = c.arrive.new.self in
    taken_all s.homes n.frames.seats n.frames.words n.queue.queued ∙ sym (taken_all s.homes s.core.frames.seats s.core.frames.words s.core.queue.queued)
