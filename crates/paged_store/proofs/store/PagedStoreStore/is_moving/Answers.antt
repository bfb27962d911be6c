use Rattle.std.proofs.Common.{◌≡◌, ◌↔◌, List, [], ◌∷◌, Bool, false, refl, sym, ◌∙◌, ap, subst, map, slice_get, is_some}
use Rattle.drum_queue.specs.declared.transfer.Transfer.{Transfer}
use Rattle.page_residence.specs.Resident.{meant}
use Rattle.paged_store.proofs.store.PagedStoreStore.is_moving.Goals as goal

none_moves : (queue : List Transfer) → (is_some (slice_get queue 0) ≡ false) ↔ (map meant queue ≡ [])
none_moves [] = (λ none. refl, λ empty. refl)
none_moves (t ∷ ts) = (λ none. absurd (cc none), λ empty. absurd (cc empty))

pub returns : goal.returns
returns c =
    let queue = c.args.self.now.core.queue.queued in
    subst (λ (moves : Bool). (moves ≡ false) ↔ (map meant queue ≡ [])) (sym (c.is_some.ensures ∙ ap is_some c.next.ensures)) (none_moves queue)
