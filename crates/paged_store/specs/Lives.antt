-- What calls do to the pages of a store and the words of a drum, one after another.
use Rattle.std.specs.Prelude.{◌≡◌, ℕ, ◌==◌, ◌||◌, List, [], ◌∷◌, Bool, false, slice_set}
use Rattle.page_contracts.specs.DrumWords.{DrumWords}
use Rattle.page_contracts.specs.Stores.{HomePlace, IsFreed, IsMade, content, place, with_word_in}
use Rattle.paged_store.specs.declared.store.PagedStore.{PagedStore}
use Rattle.paged_store.specs.StoreMeaning.{paged_meaning}

-- a call that leaves each page where it is, as a use, which takes a write from the queue, what asks for a page or sends one off, and what
-- holds pages or lets them go; a home that is taken for a page, of zero words or of those of another; a word that is put into a page; a home
-- that is given up; a transfer that has ended
pub data Deed : Type 0 where
  rests : Deed
  makes : ℕ → HomePlace → Deed
  puts : ℕ → ℕ → ℕ → Deed
  gives_up : ℕ → Deed
  ends : Deed

-- over these words of the drum before and after; of an end what `complete` says
abbrev pub DoesOne : Deed → PagedStore → PagedStore → DrumWords → DrumWords → Type 0
DoesOne rests s n d e = (paged_meaning.homes n ≡ paged_meaning.homes s) × (e ≡ d)
DoesOne (makes home page) s n d e = IsMade paged_meaning home page s n × (e ≡ d)
DoesOne (puts home at word) s n d e = (paged_meaning.homes n ≡ slice_set (paged_meaning.homes s) home (with_word_in (place (paged_meaning.homes s) home) at word)) × (e ≡ d)
DoesOne (gives_up home) s n d e = IsFreed paged_meaning home s n × (e ≡ d)
DoesOne ends s n d e = content (paged_meaning.homes n) e ≡ content (paged_meaning.homes s) d

abbrev pub HasDone : List Deed → PagedStore → PagedStore → DrumWords → DrumWords → Type 0
HasDone [] s n d e = (s ≡ n) × (d ≡ e)
HasDone (deed ∷ deeds) s n d e = (m : PagedStore) × (c : DrumWords) × (DoesOne deed s m d c) × HasDone deeds m n c e

-- whether a home is taken, given up, or has a word put into its page
abbrev pub is_changed : ℕ → List Deed → Bool
is_changed home [] = false
is_changed home (rests ∷ deeds) = is_changed home deeds
is_changed home (makes other page ∷ deeds) = (home == other) || is_changed home deeds
is_changed home (puts other at word ∷ deeds) = (home == other) || is_changed home deeds
is_changed home (gives_up other ∷ deeds) = (home == other) || is_changed home deeds
is_changed home (ends ∷ deeds) = is_changed home deeds
