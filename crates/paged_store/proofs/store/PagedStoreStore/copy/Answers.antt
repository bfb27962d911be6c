use Rattle.std.proofs.Common.{◌≡◌, ◌∙◌, ℕ, List, Some, true, sym, ap, subst}
use Rattle.page_contracts.specs.declared.answers.Found.{Found}
use Rattle.page_contracts.specs.Stores.{HomePlace, IsMade, here, is_here, place}
use Rattle.paged_store.specs.declared.store.PagedStore.{PagedStore}
use Rattle.page_residence.specs.Resident.{found_at, page_in}
use Rattle.page_residence.proofs.Placing.{found_frame}
use Rattle.page_residence.proofs.Seating.{frame_has}
use Rattle.paged_store.proofs.Using.{shown_words, has_words, no_here}
use Rattle.std.proofs.lemmas.Bool.{false≢true}
use Rattle.paged_store.specs.StoreMeaning.{homes_of, paged_meaning}
use Rattle.paged_store.proofs.store.PagedStoreStore.copy.Goals as goal

-- the words of the page that is copied
copied : (s : PagedStore) (h : ℕ) (found : Found) → found_at s.core.frames.seats s.core.queue.queued h ≡ Some found → is_here (place (homes_of s) h) ≡ true → (words : List ℕ) → words ≡ page_in s.core.frames.words found.0
    → place (homes_of s) h ≡ here words
copied s h found is there words same =
    let own = found_frame s.core.frames.seats s.core.queue.queued h found is in
    shown_words s found.0 h (frame_has s.core.frames.seats h found.0 own.0) own.1 ∙ ap here (sym same)

pub returns-clause-made : goal.returns-clause-made
returns-clause-made c =
    let s = c.args.self.now in
    let page = copied s c.args.from.0 c.in-Some.found (sym c.in-Some.ensures) c.requires.from c.page-words.result c.page-words.ensures.words in
    subst (λ (p : HomePlace). IsMade paged_meaning c.make_page.result.0 p s c.make_page.new.self) (sym page) c.make_page.ensures.made

pub page-words-requires : goal.page-words-requires
page-words-requires c =
    let s = c.args.self.now in
    has_words s.core.frames.seats s.core.queue.queued c.args.from.0 c.in-Some.found (sym c.in-Some.ensures)

pub unreachable-requires : goal.unreachable-requires
unreachable-requires c = let no = no_here c.args.self.now c.args.from.0 c.in-None.ensures ∙ c.requires.from in false≢true no
