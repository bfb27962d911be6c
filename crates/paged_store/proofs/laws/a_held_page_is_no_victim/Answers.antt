use Rattle.std.proofs.Common.{◌≡◌, ◌∙◌, ℕ, Contains, Option, Some, MatchOption, sym, subst}
use Rattle.page_contracts.specs.Stores.{AllStay, IsNext}
use Rattle.paged_store.specs.StoreMeaning.{paged_meaning}
use Rattle.paged_store.specs.StoreSound.{paged_sound}
use Rattle.paged_store.proofs.laws.a_held_page_is_no_victim.Goals as goal

pub returns : goal.returns
returns c s holder frame home held has is =
    let next : IsNext paged_meaning s frame = subst (λ (o : Option ℕ). MatchOption o (AllStay paged_meaning s) (IsNext paged_meaning s)) is (paged_sound s).next in
    let two : Some next.home ≡ Some home = sym next.leaves.there ∙ has in
    let same : next.home ≡ home = cc in
    next.leaves.unheld holder (subst (λ (h : ℕ). Contains (paged_meaning.holds s holder) h) (sym same) held)
