-- A file that is there: what the tables have of it, and how many pages it has.
use Rattle.std.proofs.Common.{◌≡◌, ℕ, ◌*◌, ◌/◌, ◌<◌, ◌≤◌, ◌^◌, cond, List, length, Option, None, Some, sym, ◌∙◌, ap, arith, nat_le}
use Rattle.std.specs.Prelude.{is_some, unwrap_or}
use Rattle.std.specs.Option.{IsSomeAnd, option_map_or}
use Rattle.std.specs.FinMap as map
use Rattle.std.proofs.Math.Nat.{div-le_self, mul-le-mul_left}
use Rattle.outside.specs.declared.TheConstants.{PAGE_WORDS}
use Rattle.machine_names.specs.declared.names.TheConstants.{FILE_PAGES}
use Rattle.plain_files.specs.declared.bounds.TheConstants.{LARGEST_BYTE}
use Rattle.plain_files.specs.declared.jfn.Jfn.{Jfn}
use Rattle.plain_files.specs.NamedFiles.{name_of}
use Rattle.plain_files.specs.Sizes.{FitsFile, PlainFile, file_at, length_in, new_file, reaching}
use Rattle.plain_pages.specs.PlainPages.{NumberedPages}
use Rattle.plain_pages.specs.FilePages.{names_of_file}
use Rattle.plain_model.specs.ByteCalls.{files_reaching, pages_of}
use Rattle.file_tables.specs.declared.tables.FileTables.{FileTables}
use Rattle.file_tables.specs.Tables.{files_of}
use Rattle.file_tables.proofs.Names.{by_name_at, named}
use Rattle.file_tables.specs.Keys.{IsKnown, key_of}
use Rattle.file_bytes.specs.Asking.{file_kept}

-- a length is a word
pub fits_word : (o : Option PlainFile) (length : ℕ) → IsSomeAnd o (λ file. (length ≡ file.length) × FitsFile file) → length < 2 ^ 36
fits_word None length h = absurd h
fits_word (Some file) length h =
    let per_word : LARGEST_BYTE / file.size ≤ LARGEST_BYTE = div-le_self LARGEST_BYTE file.size in
    let room : FILE_PAGES * PAGE_WORDS * (LARGEST_BYTE / file.size) ≤ FILE_PAGES * PAGE_WORDS * LARGEST_BYTE = mul-le-mul_left (FILE_PAGES * PAGE_WORDS) per_word in
    omega (arith, h.0, h.1.1, room)

module _ (tables : FileTables) (jfn : Jfn) (known : IsKnown tables jfn.file) where
  abbrev name : List ℕ
  name = name_of tables.dir jfn.file.0

  -- its file is there, by its name
  pub kept_there : map.get (files_of tables) name ≡ Some (file_kept tables jfn)
  kept_there = let is = at in is ∙ ap (λ (o : Option PlainFile). Some (unwrap_or o new_file)) (sym is)
    where
      at : map.get (files_of tables) name ≡ Some (file_at tables.lengths jfn.file.0)
      at = by_name_at tables.dir tables.sound.numbers (file_at tables.lengths) jfn.file.0 name (named tables.dir jfn.file.0 known.there)

  -- it has as many pages as are named there
  pub counted : (p : NumberedPages) → length (names_of_file p jfn.file.0) ≡ pages_of (key_of tables) (files_of tables) p name
  counted p =
      ap (λ (k : ℕ). length (names_of_file p k)) (sym known.number)
      ∙ ap (λ (o : Option PlainFile). cond (is_some o) (length (names_of_file p (key_of tables name))) 0) (sym kept_there)

  -- it reaches at least to an end
  pub reaches : (end far length : ℕ) → far ≡ length_in jfn.size (file_kept tables jfn) → length ≡ cond (nat_le far end) end far
      → map.insert (files_of tables) name (record { length = length; size = jfn.size }) ≡ files_reaching (files_of tables) name jfn.size end
  reaches end far length is chosen =
      let file : record { length = length; size = jfn.size } ≡ reaching jfn.size end (file_kept tables jfn) =
      ap (λ (n : ℕ). record { length = n; size = jfn.size }) chosen ∙ ap (λ (n : ℕ). record { length = cond (nat_le n end) end n; size = jfn.size }) is in
      ap (map.insert (files_of tables) name) file
      ∙ ap (λ (o : Option PlainFile). option_map_or (λ f. map.insert (files_of tables) name (reaching jfn.size end f)) o (files_of tables)) (sym kept_there)
