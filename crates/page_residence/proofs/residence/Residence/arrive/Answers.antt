use Rattle.std.proofs.Common.{◌≡◌, ℕ, false, refl, ap, sym, ◌∙◌, subst, rules}
use Rattle.std.proofs.lemmas.Bool.{true≢false}
use Rattle.outside.specs.Drums.{IsPage}
use Rattle.frame_table.specs.Core.{Core, used, words_of}
use Rattle.drum_queue.specs.declared.transfer.Transfer.TheVariants.{Read}
use Rattle.page_residence.specs.Resident.{AgesStay, IsRenewed, reads}
use Rattle.page_residence.proofs.Agreeing.{agrees, resides}
use Rattle.page_residence.proofs.Seating.{home_below}
use Rattle.page_residence.proofs.Steps.{resident_arrived, resident_words, arrived_stays, oldest_home, oldest_is, home_taken, words_own}
use Rattle.page_residence.proofs.Renewing.{used_renews, renewed_after, marked_ages}
use Rattle.page_residence.proofs.Numbered.{tenant_aged, used_aged, words_aged}
use Rattle.page_residence.proofs.residence.Residence.arrive.Goals as goal

pub read_into-requires-clause-taken : goal.read_into-requires-clause-taken
read_into-requires-clause-taken g c =
    let s = c.args.self.now in
    let has = oldest_home s.frames s.queue (Read c.args.f c.args.home) (agrees s.frames s.queue s.resident) c.requires.oldest in
    let some = home_taken s.frames.seats c.args.f.0 c.args.home.0 has in
    search rules

pub invariant_of-self : goal.invariant_of-self
invariant_of-self g c =
    let s = c.args.self.now in
    let r = agrees s.frames s.queue s.resident in
    let has = oldest_home s.frames s.queue (Read c.args.f c.args.home) r c.requires.oldest in
    let own = (oldest_is (Read c.args.f c.args.home) s.queue.queued r.once c.requires.oldest).own in
    record {
      resident = rw c.read_into.ensures.frames.1
          (resides _ _ (resident_words s.frames s.queue c.args.f.0 c.read_into.ensures.frames.0 r (home_below s.frames.seats c.args.f.0 c.args.home.0 has)
          (λ still. absurd (true≢false (sym (ap reads own) ∙ still)))));
      aged = rw c.read_into.ensures.frames.1 (words_aged s.frames c.args.f.0 c.read_into.ensures.frames.0 s.aged);
    }

pub invariant_of-self-2 : goal.invariant_of-self-2
invariant_of-self-2 g c =
    let s = c.args.self.now in
    let r = agrees s.frames s.queue s.resident in
    let has = oldest_home s.frames s.queue (Read c.args.f c.args.home) r c.requires.oldest in
    let below = home_below s.frames.seats c.args.f.0 c.args.home.0 has in
    let same : words_of c.read_into.new.frames c.args.f.0 ≡ c.read_into.ensures.frames.0 =
    ap (λ (d : Core). words_of d c.args.f.0) c.read_into.ensures.frames.1 ∙ words_own s.frames s.queue c.args.f.0 c.read_into.ensures.frames.0 r below in
    record {
      resident = rw (c.touch_age.ensures.used, c.set_transfer.ensures, c.finish.ensures, c.read_into.ensures.frames.1)
          (resides _ _ (resident_arrived s.frames s.queue c.args.f c.args.home c.read_into.ensures.frames.0 r c.requires.oldest (subst IsPage same c.in_ok-read_into.ensures.page)));
      aged = rw c.touch_age.ensures.used
          (used_aged c.set_transfer.new.self c.args.f.0 c.touch_age.ensures.whole
          (rw (c.set_transfer.ensures, c.read_into.ensures.frames.1) (tenant_aged _ c.args.f.0 (λ t. record t { in_transfer = false }) below (λ t. refl) (words_aged s.frames c.args.f.0 c.read_into.ensures.frames.0 s.aged))));
    }

pub returns-clause-seats : goal.returns-clause-seats
returns-clause-seats g c =
    let s = c.args.self.now in
    let has = oldest_home s.frames s.queue (Read c.args.f c.args.home) (agrees s.frames s.queue s.resident) c.requires.oldest in
    rw (c.touch_age.ensures.used, c.set_transfer.ensures, c.read_into.ensures.frames.1)
    (arrived_stays s.frames c.args.f.0 c.read_into.ensures.frames.0 (home_below s.frames.seats c.args.f.0 c.args.home.0 has))

pub returns-clause-renews : goal.returns-clause-renews
returns-clause-renews g c =
    let s = c.args.self.now in
    let has = oldest_home s.frames s.queue (Read c.args.f c.args.home) (agrees s.frames s.queue s.resident) c.requires.oldest in
    let mid = c.set_transfer.new.self in
    let ages : AgesStay s.frames.seats mid.seats = rw (c.set_transfer.ensures, c.read_into.ensures.frames.1) (marked_ages s.frames c.args.f.0 false (home_below s.frames.seats c.args.f.0 c.args.home.0 has)) in
    let same : mid.uses ≡ s.frames.uses = ap (λ (d : Core). d.uses) c.set_transfer.ensures ∙ ap (λ (d : Core). d.uses) c.read_into.ensures.frames.1 in
    rw c.touch_age.ensures.used
    (subst (λ (n : ℕ). IsRenewed c.args.f.0 s.frames.seats (used mid c.args.f.0).seats n (used mid c.args.f.0).uses) same
    (renewed_after c.args.f.0 mid.uses (used mid c.args.f.0).uses s.frames.seats mid.seats (used mid c.args.f.0).seats ages (used_renews mid c.args.f.0 c.touch_age.ensures.whole)))
