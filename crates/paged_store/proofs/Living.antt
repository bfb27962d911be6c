-- Pages keep their words through whatever is done.
use Rattle.std.proofs.Common.{◌≡◌, ◌≢◌, ℕ, ◌==◌, ◌||◌, List, [], ◌∷◌, Option, Bool, true, false, refl, sym, ◌∙◌, ap, set}
use Rattle.std.proofs.lemmas.Bool.{true≢false, eq-eqb}
use Rattle.std.proofs.lemmas.List.{get_or-set_other}
use Rattle.outside.specs.Drums.{page_at}
use Rattle.page_contracts.specs.DrumWords.{DrumWords}
use Rattle.page_contracts.specs.Stores.{HomePlace, content, free, over_drum, place, with_word_in}
use Rattle.paged_store.specs.declared.store.PagedStore.{PagedStore}
use Rattle.paged_store.specs.Lives.{Deed, HasDone, ends, gives_up, is_changed, makes, puts, rests}
use Rattle.paged_store.specs.StoreMeaning.{homes_of}

-- another home has another place
changed_other : (old new : List HomePlace) (d : DrumWords) (h k : ℕ) (p : HomePlace) → new ≡ set old h p → k ≢ h → content new d k ≡ content old d k
unfolding content
changed_other old new d h k p is other = ap (λ (q : HomePlace). over_drum q (page_at d k)) (ap (λ (ps : List HomePlace). place ps k) is ∙ get_or-set_other old h k p free other)

neither : (a b : Bool) → (a || b) ≡ false → (a ≡ false) × (b ≡ false)
neither true b is = absurd (true≢false is)
neither false b is = (refl, is)

-- a home that isn't changed is another than one that is
apart : (home other : ℕ) → (home == other) ≡ false → home ≢ other
apart home other is same = true≢false (sym (eq-eqb home other same) ∙ is)

pub keeps_words : (deeds : List Deed) (s n : PagedStore) (d e : DrumWords) (home : ℕ) → HasDone deeds s n d e → is_changed home deeds ≡ false → content (homes_of n) e home ≡ content (homes_of s) d home
keeps_words [] s n d e home done kept = ap (λ (x : PagedStore). content (homes_of x) e home) (sym done.0) ∙ ap (λ (x : DrumWords). content (homes_of s) x home) (sym done.1)
keeps_words (rests ∷ deeds) s n d e home done kept =
    keeps_words deeds done.0 n done.1 e home done.3 kept
    ∙ ap (λ (ps : List HomePlace). content ps done.1 home) done.2.0 ∙ ap (λ (x : DrumWords). content (homes_of s) x home) done.2.1
keeps_words (makes other page ∷ deeds) s n d e home done kept =
    let parts = neither (home == other) (is_changed home deeds) kept in
    keeps_words deeds done.0 n done.1 e home done.3 parts.1
    ∙ changed_other (homes_of s) (homes_of done.0) done.1 other home page done.2.0.homes (apart home other parts.0)
    ∙ ap (λ (x : DrumWords). content (homes_of s) x home) done.2.1
keeps_words (puts other at word ∷ deeds) s n d e home done kept =
    let parts = neither (home == other) (is_changed home deeds) kept in
    keeps_words deeds done.0 n done.1 e home done.3 parts.1
    ∙ changed_other (homes_of s) (homes_of done.0) done.1 other home (with_word_in (place (homes_of s) other) at word) done.2.0 (apart home other parts.0)
    ∙ ap (λ (x : DrumWords). content (homes_of s) x home) done.2.1
keeps_words (gives_up other ∷ deeds) s n d e home done kept =
    let parts = neither (home == other) (is_changed home deeds) kept in
    keeps_words deeds done.0 n done.1 e home done.3 parts.1
    ∙ changed_other (homes_of s) (homes_of done.0) done.1 other home free done.2.0.homes (apart home other parts.0)
    ∙ ap (λ (x : DrumWords). content (homes_of s) x home) done.2.1
keeps_words (ends ∷ deeds) s n d e home done kept = keeps_words deeds done.0 n done.1 e home done.3 kept ∙ ap (λ (f : ℕ → Option (List ℕ)). f home) done.2
