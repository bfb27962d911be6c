-- The bytes of files, and of their image, file by file.
use Rattle.std.proofs.Common.{◌≡◌, ℕ, true, List, [], ◌∷◌, ◌++◌, length, codes, map as each, Option, None, Some, refl, sym, ap, ◌∙◌, append_assoc}
use Rattle.std.specs.List.{filter, flat_map}
use Rattle.std.specs.Option.{IsSomeAnd}
use Rattle.std.specs.FinMap as map
use Rattle.std.proofs.lemmas.Grind.{flat_map-append}
use Rattle.std.proofs.lemmas.List.{append-nil, length-map}
use Rattle.byteorder.specs.Endian.{big_bytes}
use Rattle.machine_names.specs.declared.names.TheConstants.{FILE_PAGES}
use Rattle.machine_names.specs.Orders.{name_cmp}
use Rattle.plain_files.specs.NamedFiles.{AreFiled, name_of}
use Rattle.plain_files.specs.Sizes.{PlainFile}
use Rattle.plain_pages.specs.PlainPages.{NamedPages, NumberedPages}
use Rattle.file_tables.specs.declared.tables.FileTables.{FileTables}
use Rattle.file_image.specs.Parts.{ImagePage, header, head, page, part_bytes, parts_bytes}
use Rattle.file_image.specs.Images.{file_parts, image}
use Rattle.file_image.specs.Files.{image_file, image_files, pages_in}
use Rattle.file_image.specs.Reading.{file_text, named, pages_text}
use Rattle.file_image.proofs.Pages.{pages_same}

-- the bytes of a file by its number
pub file_is : (files : FileTables) (p : NumberedPages) (filed : AreFiled files.dir p.files) (f : ℕ) (there : map.contains_key files.dir f ≡ true) (kept : PlainFile)
    → file_text (named files p) (name_of files.dir f, kept)
    ≡ part_bytes (head (record { name = name_of files.dir f; size = kept.size; length = kept.length; pages = length (pages_in p f) })) ++ pages_text p f FILE_PAGES
file_is files p filed f there kept =
    ap (λ (l : List ImagePage). part_bytes (head (record { name = name_of files.dir f; size = kept.size; length = kept.length; pages = length l })) ++ parts_bytes (each page l))
    (pages_same files.dir files.sound.numbers p filed f there FILE_PAGES)

-- as its head and its pages were written
pub file_written : (files : FileTables) (p : NumberedPages) (filed : AreFiled files.dir p.files) (f : ℕ) (there : map.contains_key files.dir f ≡ true) (kept : PlainFile)
    (name : List ℕ) (size count pages : ℕ) → name ≡ name_of files.dir f → size ≡ kept.size → count ≡ kept.length → pages ≡ length (pages_in p f)
    → part_bytes (head (record { name = name; size = size; length = count; pages = pages })) ++ pages_text p f FILE_PAGES ≡ file_text (named files p) (name_of files.dir f, kept)
file_written files p filed f there kept name size count pages name_is size_is count_is pages_are =
    (λ i. part_bytes (head (record { name = name_is i; size = size_is i; length = count_is i; pages = pages_are i })) ++ pages_text p f FILE_PAGES)
    ∙ sym (file_is files p filed f there kept)

-- the bytes of a head, and of a header, from their pieces
pub head_pieces : (text name number count : List ℕ) (size bytes pages : ℕ) → text ≡ name → number ≡ big_bytes 8 bytes → count ≡ big_bytes 2 pages
    → length text ∷ (text ++ size ∷ (number ++ (count ++ []))) ≡ part_bytes (head (record { name = name; size = size; length = bytes; pages = pages }))
head_pieces text name number count size bytes pages text_is number_is count_is =
    (λ i. length (text_is i) ∷ (text_is i ++ size ∷ (number_is i ++ (count_is i ++ []))))
    ∙ ap (λ l. length name ∷ (name ++ size ∷ (big_bytes 8 bytes ++ l))) (append-nil (big_bytes 2 pages))

pub header_pieces : (number : List ℕ) (count files : ℕ) → number ≡ big_bytes 4 count → count ≡ files → codes "TENEXIM1" ++ (number ++ []) ≡ part_bytes (header files)
header_pieces number count files number_is count_is =
    ap (λ l. codes "TENEXIM1" ++ l) (append-nil number ∙ number_is) ∙ ap (λ k. part_bytes (header k)) count_is

-- the bytes of an image
module _ (p : NamedPages) where
  parts_are : (es : List (List ℕ × PlainFile)) → parts_bytes (flat_map file_parts (each (image_file p) es)) ≡ flat_map (file_text p) es
  parts_are [] = refl
  parts_are (e ∷ es) =
      flat_map-append part_bytes (file_parts (image_file p e)) (flat_map file_parts (each (image_file p) es)) ∙ ap (λ l. file_text p e ++ l) (parts_are es)

  pub image_is : (files : map.FinMap name_cmp PlainFile) → image (image_files files p) ≡ part_bytes (header (map.len files)) ++ flat_map (file_text p) (map.entries files)
  unfolding image
  image_is files =
      let count : length (image_files files p) ≡ map.len files = length-map (map.entries files) (image_file p) ∙ sym (map.len-entries files) in
      (λ i. part_bytes (header (count i)) ++ parts_bytes (flat_map file_parts (image_files files p)))
      ∙ ap (λ l. part_bytes (header (map.len files)) ++ l) (parts_are (map.entries files))

  -- what is left of it behind some files
  module _ (whole text : List ℕ) (es rest : List (List ℕ × PlainFile)) (e : List ℕ × PlainFile) (left : whole ≡ text ++ flat_map (file_text p) es) (next : es ≡ e ∷ rest) where
    pub with_next : whole ≡ text ++ (file_text p e ++ flat_map (file_text p) rest)
    with_next = left ∙ ap (λ l. text ++ flat_map (file_text p) l) next

    pub behind_next : whole ≡ (text ++ file_text p e) ++ flat_map (file_text p) rest
    behind_next = with_next ∙ sym (append_assoc text (file_text p e) (flat_map (file_text p) rest))

pub found_file : {P : PlainFile → Type 0} (o : Option PlainFile) → IsSomeAnd o P → (kept : PlainFile) × (o ≡ Some kept) × P kept
found_file None h = absurd h
found_file (Some kept) h = (kept, refl, h)

pub all_pass : (es : List (List ℕ × PlainFile)) → filter (λ e. true) es ≡ es
all_pass [] = refl
all_pass (e ∷ es) = ap (λ l. e ∷ l) (all_pass es)
