-- A byte that is written into a file leaves the same under two kinds of keys.
use Rattle.std.proofs.Common.{◌≡◌, ℕ, List, Option, None, Some, refl, ◌∙◌, ap, Ordering}
use Rattle.std.specs.Prelude.{slice_index}
use Rattle.std.specs.Option.{option_map_or}
use Rattle.std.specs.FinMap as map
use Rattle.word36.specs.Bytes.{deposited}
use Rattle.machine_names.specs.declared.names.PageName.{PageName}
use Rattle.machine_names.specs.Orders.{file_page_cmp}
use Rattle.machine_names.specs.PageWords.{zero_words}
use Rattle.plain_files.specs.OpenFiles.{OpenFile}
use Rattle.plain_pages.specs.PlainPages.{PlainPages, refiled}
use Rattle.plain_pages.specs.References.{page_at, with_word, words_of}
use Rattle.plain_model.specs.MapCalls.{keyed}
use Rattle.plain_model.specs.ByteCalls.{byte_offset, byte_page, byte_pointer, pages_put}

-- the pages with a byte at which a JFN stands, where this page has it
abbrev byte_in : {K : Type 0} {file_cmp : K → K → Ordering} → PlainPages file_cmp → OpenFile → ℕ → Option PageName → PlainPages file_cmp
byte_in p j byte n = option_map_or (with_word p (byte_offset j) (deposited (byte_pointer j) (slice_index (option_map_or (words_of p) n zero_words) (byte_offset j)) byte)) n p

module _ {K L : Type 0} {file_cmp : K → K → Ordering} (other_cmp : L → L → Ordering) (key : List ℕ → K) (other_key : List ℕ → L) (files : map.FinMap (file_page_cmp other_cmp) PageName) (p : PlainPages file_cmp) (j : OpenFile) (byte : ℕ) where
  pub byte_refiled : map.get files (keyed other_key j.file (byte_page j)) ≡ map.get p.files (keyed key j.file (byte_page j)) → pages_put other_key (refiled other_cmp p files) j byte ≡ refiled other_cmp (pages_put key p j byte) files
  unfolding page_at
  byte_refiled same = ap (byte_in (refiled other_cmp p files) j byte) same ∙ by (map.get p.files (keyed key j.file (byte_page j)))
    where
      by : (n : Option PageName) → byte_in (refiled other_cmp p files) j byte n ≡ refiled other_cmp (byte_in p j byte n) files
      by None = refl
      by (Some n) = refl

-- files name the pages that they named
module _ {K : Type 0} {file_cmp : K → K → Ordering} (key : List ℕ → K) (p : PlainPages file_cmp) (j : OpenFile) (byte : ℕ) where
  pub byte_leaves : (pages_put key p j byte).files ≡ p.files
  unfolding page_at
  byte_leaves = by (map.get p.files (keyed key j.file (byte_page j)))
    where
      by : (n : Option PageName) → (byte_in p j byte n).files ≡ p.files
      by None = refl
      by (Some n) = refl
