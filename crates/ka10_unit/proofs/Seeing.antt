-- The words of pages that were asked for.
use Rattle.std.proofs.Common.{◌≡◌, ℕ, ◌%◌, Bool, true, false, Option, None, Some, refl, sym, ◌∙◌, ap}
use Rattle.std.specs.Prelude.{◌==◌, ◌&&◌, slice_index}
use Rattle.std.specs.Option.{option_map_or}
use Rattle.outside.specs.declared.TheConstants.{PAGE_WORDS}
use Rattle.machine_names.specs.declared.names.ForkName.{ForkName}
use Rattle.machine_names.specs.declared.names.PageName.{PageName}
use Rattle.machine_names.specs.declared.names.Slot.{Slot}
use Rattle.plain_pages.specs.PlainPages.{NumberedPages}
use Rattle.plain_pages.specs.Room.{same_page}
use Rattle.plain_pages.specs.References.{in_map, page_at, slot_at, word_at, words_of}
use Rattle.machine_names.specs.PageWords.{zero_words}
use Rattle.page_gather.specs.Gathering.{are_same}
use Rattle.ka10_unit.specs.Taking.{stands_at}

-- the word of a page that is there
pub word_named : (q : NumberedPages) (s : Slot) (offset : ℕ) (n : PageName) → page_at q (in_map s) ≡ Some n → word_at q (in_map s) offset ≡ slice_index (words_of q n) offset
word_named q s offset n h = ap (λ (m : Option PageName). slice_index (option_map_or (words_of q) m zero_words) offset) h

-- a word stored at the same offset stands where the page is the same
pub stands_same : (f : ForkName) (q : NumberedPages) (stored a : ℕ) (n : PageName) → (stored % PAGE_WORDS == a % PAGE_WORDS) ≡ true → page_at q (in_map (slot_at f a)) ≡ Some n
    → are_same (page_at q (in_map (slot_at f a))) (page_at q (in_map (slot_at f stored))) ≡ stands_at f q stored a n
stands_same f q stored a n same there =
    ap (λ (m : Option PageName). are_same m (page_at q (in_map (slot_at f stored)))) there ∙ by (page_at q (in_map (slot_at f stored)))
    ∙ sym (ap (λ b. option_map_or (same_page n) (page_at q (in_map (slot_at f stored))) false && b) same ∙ and_true (option_map_or (same_page n) (page_at q (in_map (slot_at f stored))) false))
  where
    by : (m : Option PageName) → are_same (Some n) m ≡ option_map_or (same_page n) m false
    by None = refl
    by (Some m) = refl

    and_true : (b : Bool) → (b && true) ≡ b
    and_true true = refl
    and_true false = refl
