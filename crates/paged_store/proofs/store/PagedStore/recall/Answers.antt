use Rattle.std.proofs.Common.{◌∙◌, refl, ap, List}
use Rattle.drum_queue.specs.declared.transfer.Transfer.{Transfer}
use Rattle.drum_queue.specs.Transfers.{transfer_of}
use Rattle.paged_store.specs.UntoldNeeds.{Needs}
use Rattle.paged_store.proofs.KeptThrough.{kept_stays}
use Rattle.paged_store.proofs.Resting.{rescued_idle, rescued_reads, rests_of}
use Rattle.page_residence.specs.Resident.{reads}
use Rattle.paged_store.proofs.store.PagedStore.recall.Goals as goal

pub invariant_of-self : goal.invariant_of-self
invariant_of-self c =
    let s = c.args.self.now in
    record {
      kept = kept_stays s.core.frames.seats s.core.queue.queued s.homes s.holders s.untold s.kept c.rescue.new.self.frames.seats c.rescue.new.self.queue.queued s.untold s.core.resident.single c.rescue.ensures.seats
          (λ g pinned idle. ap (λ (ts : List Transfer). transfer_of g ts) c.rescue.ensures.queue ∙ rescued_idle c.args.f.0 s.core.queue.queued c.rescue.result g idle) refl;
    }

pub invariant_of-self-2 : goal.invariant_of-self-2
invariant_of-self-2 c =
    let s = c.args.self.now in
    record {
      kept = kept_stays s.core.frames.seats s.core.queue.queued s.homes s.holders s.untold s.kept c.rescue.new.self.frames.seats c.rescue.new.self.queue.queued c.note.new.self s.core.resident.single c.rescue.ensures.seats
          (λ g pinned idle. ap (λ (ts : List Transfer). transfer_of g ts) c.rescue.ensures.queue ∙ rescued_idle c.args.f.0 s.core.queue.queued c.rescue.result g idle)
          (ap (λ (u : Needs). u.homes) c.note.ensures);
    }

pub returns-clause-stays : goal.returns-clause-stays
returns-clause-stays c =
    let s = c.args.self.now in
    record {
      seats = rests_of s.core.frames.seats c.rescue.new.self.frames.seats c.rescue.ensures.seats;
      words = c.rescue.ensures.words;
      reads_stay = λ g. ap (λ (ts : List Transfer). reads (transfer_of g ts)) c.rescue.ensures.queue ∙ rescued_reads c.args.f.0 s.core.queue.queued c.rescue.result c.rescue.ensures.answer g;
      homes = refl;
    }
