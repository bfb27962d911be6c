use Rattle.std.proofs.Common.{◌≡◌, ◌<◌, ◌≤◌, ◌+◌, ◌∙◌, inr, is_some, ℕ, List, [], ◌∷◌, ◌++◌, Some, None, refl, sym, ap, subst, length, map, count_by, arith, rules}
use Rattle.std.specs.Prelude.{is_none}
use Rattle.std.proofs.lemmas.List.{map-append, length-set}
use Rattle.page_homes.specs.declared.homes.FrameId.{FrameId}
use Rattle.page_contracts.specs.declared.answers.Need.TheVariants.{Page}
use Rattle.page_contracts.specs.Stores.{awaited, begins}
use Rattle.drum_queue.specs.declared.transfer.Transfer.TheVariants.{Read}
use Rattle.drum_queue.specs.Transfers.{transfer_of}
use Rattle.page_residence.specs.declared.residence.Residence.{Residence}
use Rattle.paged_store.specs.UntoldNeeds.{Needs}
use Rattle.page_residence.specs.Victims.{victim_of}
use Rattle.page_residence.specs.Resident.{Seats, frame_for, meant, reads}
use Rattle.paged_store.specs.StoreSteps.{departing}
use Rattle.paged_store.proofs.Taking.{flag_below}
use Rattle.paged_store.proofs.Fetching.{away_taken, joins_at, begins_at, waits_at, given_spare, expected_homes, expected_found, kept_expected, read_own, read_other}
use Rattle.paged_store.proofs.Fetched.{fetched_at, fetched_same, fetched_waits, rest_moved}
use Rattle.page_residence.proofs.Renewing.{ages_begun, tenants_begun}
use Rattle.paged_store.proofs.store.PagedStore.fetch_page.Goals as goal

pub returns-in-Some-clause-answer : goal.returns-in-Some-clause-answer
returns-in-Some-clause-answer c =
    let s = c.args.self.now in
    sym (ap awaited (joins_at s.homes s.core c.args.home.0 c.requires c.in-Some._joined.0 (count_by is_none s.core.frames.seats) c.in-Some.ensures))

pub returns-in-Some-clause-fetched : goal.returns-in-Some-clause-fetched
returns-in-Some-clause-fetched c =
    let s = c.args.self.now in
    fetched_same s (Page c.args.home) c.args.home.0 (joins_at s.homes s.core c.args.home.0 c.requires c.in-Some._joined.0 (count_by is_none s.core.frames.seats) c.in-Some.ensures)

pub expect-requires-clause-home : goal.expect-requires-clause-home
expect-requires-clause-home c =
    let s = c.args.self.now in
    let below = flag_below s.homes c.args.home.0 (away_taken s.homes s.core c.args.home.0 c.requires) in
    let few = s.kept.few in
    omega (arith, below, few)

pub invariant_of-self : goal.invariant_of-self
invariant_of-self c =
    let s = c.args.self.now in
    let gone : frame_for s.core.frames.seats c.args.home.0 ≡ None = search rules in
    record {
      kept = kept_expected s.homes s.holders s.untold s.core c.expect.new.self c.args.home s.kept gone (away_taken s.homes s.core c.args.home.0 c.requires) c.expect.result
          c.expect.ensures.same c.expect.ensures.given c.expect.ensures.queue;
    }

pub returns-in_default-expect-clause-answer : goal.returns-in_default-expect-clause-answer
returns-in_default-expect-clause-answer c =
    let s = c.args.self.now in
    let gone : frame_for s.core.frames.seats c.args.home.0 ≡ None = search rules in
    let none : c.expect.result ≡ None = search rules in
    sym (ap awaited (waits_at s.homes s.core c.args.home.0 c.requires (count_by is_none s.core.frames.seats) gone (c.expect.ensures.none none)))

pub returns-in_default-expect-clause-fetched : goal.returns-in_default-expect-clause-fetched
returns-in_default-expect-clause-fetched c =
    let s = c.args.self.now in
    let gone : frame_for s.core.frames.seats c.args.home.0 ≡ None = search rules in
    let none : c.expect.result ≡ None = search rules in
    let same = c.expect.ensures.same none in
    fetched_waits s c.send_off.new.self (Page c.args.home)
    (waits_at s.homes s.core c.args.home.0 c.requires (count_by is_none s.core.frames.seats) gone (c.expect.ensures.none none))
    (rest_moved s c.send_off.new.self c.expect.new.self same c.send_off.ensures.rests.seats c.send_off.ensures.rests.ages c.send_off.ensures.rests.uses c.send_off.ensures.rests.words c.send_off.ensures.rests.reads_stay c.send_off.ensures.rests.homes)
    (c.send_off.ensures.queue ∙ ap (λ (x : Residence). map meant x.queue.queued ++ departing x.frames.seats (victim_of x.frames.seats)) same)
    (ap (λ (u : Needs). u.needs) c.send_off.ensures.untold) c.send_off.ensures.holders

given_is : (o : Rattle.std.proofs.Common.Option FrameId) (f : FrameId) → o ≡ Some f → o ≡ Some (record { 0 = f.0 })
given_is o f is = is

pub returns-clause-answer : goal.returns-clause-answer
returns-clause-answer c =
    let s = c.args.self.now in
    let gone : frame_for s.core.frames.seats c.args.home.0 ≡ None = search rules in
    let some : c.expect.result ≡ Some c.in-Some-expect._given = search rules in
    let given = c.expect.ensures.given c.in-Some-expect._given.0 some in
    let spare = given_spare s.core.frames.seats c.expect.new.self.frames.seats c.args.home.0 c.in-Some-expect._given.0 given in
    sym (ap awaited (begins_at s.homes s.core c.args.home.0 c.requires (count_by is_none s.core.frames.seats) gone (omega (arith, spare))))

pub returns-clause-fetched : goal.returns-clause-fetched
returns-clause-fetched c =
    let s = c.args.self.now in
    let n = c.expect.new.self in
    let f = c.in-Some-expect._given in
    let gone : frame_for s.core.frames.seats c.args.home.0 ≡ None = search rules in
    let some : c.expect.result ≡ Some f = search rules in
    let given = c.expect.ensures.given f.0 some in
    let idle = c.expect.ensures.idle f.0 some in
    let queue = c.expect.ensures.queue f.0 some in
    let spare = given_spare s.core.frames.seats n.frames.seats c.args.home.0 f.0 given in
    let others : (g : ℕ) → (g ≡ f.0 → ⊥) → reads (transfer_of g n.queue.queued) ≡ reads (transfer_of g s.core.queue.queued) = λ g other. ap reads (read_other f c.args.home s.core.queue.queued n.queue.queued queue g other) in
    let own = read_own f c.args.home s.core.queue.queued n.queue.queued queue idle in
    fetched_at s _ (Page c.args.home) (begins c.args.home.0)
    (begins_at s.homes s.core c.args.home.0 c.requires (count_by is_none s.core.frames.seats) gone (omega (arith, spare)))
    (expected_homes s.core n c.args.home.0 f.0 gone given s.homes c.expect.ensures.words others own)
    (ap (map meant) queue ∙ map-append meant s.core.queue.queued (Read f c.args.home ∷ []))
    spare refl refl
    (expected_found s.core n c.args.home.0 f.0 gone given others own)
    (ap (λ (ss : Seats). length ss) given.seats ∙ length-set s.core.frames.seats f.0 (Some given.tenant))
    (ages_begun s.core.frames.seats n.frames.seats s.core.queue.queued n.queue.queued f.0 c.args.home.0 others given)
    (tenants_begun s.core.frames.seats n.frames.seats s.core.queue.queued n.queue.queued f.0 c.args.home.0 others given own)
    (inr (c.expect.ensures.uses (ap is_some some)))
