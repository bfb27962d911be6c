use Rattle.std.proofs.Common.{◌≡◌, ◌∙◌, ℕ, List, [], ◌∷◌, ◌++◌, Some, refl, sym, ap, map}
use Rattle.std.proofs.lemmas.List.{map-append}
use Rattle.page_contracts.specs.Stores as meaning
use Rattle.drum_queue.specs.declared.transfer.Transfer.TheVariants.{Write}
use Rattle.paged_store.specs.UntoldNeeds.{Needs}
use Rattle.paged_store.specs.HeldHomes.{held_by}
use Rattle.page_residence.specs.Resident.{meant}
use Rattle.page_residence.proofs.Aging.{tenant_given}
use Rattle.paged_store.specs.StoreSound.{may_can, can_may}
use Rattle.paged_store.proofs.Resting.{stays_there, rest_same}
use Rattle.paged_store.proofs.store.PagedStoreStore.evict.Goals as goal

pub returns-in_default : goal.returns-in_default
returns-in_default c =
    let s = c.args.self.now in
    record {
      leaves = λ home can. absurd (c.in_default.ensures home (can_may s c.args.frame.0 home can));
      none = λ no_home. refl;
      stays = stays_there s s (rest_same s);
      untold = refl;
      holds = refl;
    }

pub returns : goal.returns
returns c =
    let s = c.args.self.now in
    let may = c.in-Some.ensures in
    record {
      leaves = λ home can.
          let two : Some c.in-Some.home.0 ≡ Some home = sym may.given ∙ (tenant_given s.core.frames.seats s.core.queue.queued c.args.frame.0 home can.there).0 in
          let same : c.in-Some.home.0 ≡ home = cc in
          ap (map meant) c.dismiss.ensures.queue ∙ map-append meant s.core.queue.queued (Write c.args.frame c.in-Some.home ∷ [])
          ∙ ap (λ (k : ℕ). map meant s.core.queue.queued ++ (meaning.departure k ∷ [])) same;
      none = λ no_home. absurd (no_home c.in-Some.home.0 (may_can s c.args.frame.0 c.in-Some.home.0 may));
      stays = stays_there s c.dismiss.new.self c.dismiss.ensures.rests;
      untold = ap (λ (u : Needs). u.needs) c.dismiss.ensures.untold;
      holds = ap (λ (hs : List (List ℕ)). let f : ℕ → List ℕ = λ k. held_by hs k in f) c.dismiss.ensures.holders;
    }
