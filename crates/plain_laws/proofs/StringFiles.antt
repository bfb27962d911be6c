-- Bytes that are written one behind another stand so in their file.
use Rattle.std.proofs.Common.{◌≡◌, ◌≢◌, inl, inr, ℕ, ◌+◌, ◌%◌, ◌^◌, ◌<◌, List, [], ◌∷◌, length, Option, None, Some, refl, sym, ◌∙◌, ap, subst, arith}
use Rattle.std.specs.Prelude.{IsSome, map as each}
use Rattle.std.specs.Cmp.Lexicographic.{nat_list_cmp_total}
use Rattle.std.specs.FinMap as map
use Rattle.std.proofs.lemmas.Bool.{cases_eq}
use Rattle.word36.specs.Bytes.{deposited}
use Rattle.machine_names.specs.declared.names.PageName.{PageName}
use Rattle.plain_files.specs.Bytes.{IsByteSize}
use Rattle.plain_files.specs.OpenFiles.{OpenFile, moved_file}
use Rattle.plain_pages.specs.PlainPages.{NamedPages}
use Rattle.plain_pages.specs.References.{Spot, in_file, page_at, word_at}
use Rattle.plain_pages.specs.WholePages.{AreWhole}
use Rattle.plain_units.proofs.PageRuns.{stored_files, stored_whole}
use Rattle.plain_model.specs.ByteCalls.{byte_offset, byte_page, byte_pointer}
use Rattle.plain_laws.specs.ByteLaws.{byte_of, page_of_jfn, with_byte}
use Rattle.plain_laws.specs.CommandLaws.{page_of_file}
use Rattle.plain_laws.specs.StringLaws.{HasPagesOf, NamesOnce, bytes_of, with_bytes}
use Rattle.plain_laws.specs.WholeFiles.{FilePages}
use Rattle.plain_laws.proofs.ByteWords.{keeps_byte, keeps_page, writes_byte}

-- a byte leaves whole pages whole, and what files name
module _ (p : NamedPages) (j : OpenFile) (byte : ℕ) where
  abbrev here : Spot (List ℕ)
  here = in_file (page_of_jfn j)

  abbrev word : ℕ
  word = deposited (byte_pointer j) (word_at p here (byte_offset j)) byte

  byte_whole : AreWhole p → AreWhole (with_byte p j byte)
  byte_whole w = stored_whole nat_list_cmp_total p w here (byte_offset j) word

  byte_files : (with_byte p j byte).files ≡ p.files
  byte_files = stored_files p here (byte_offset j) word

  once_still : (file : List ℕ) → NamesOnce p file → NamesOnce (with_byte p j byte) file
  once_still file once = subst (λ (m : FilePages). (k n : ℕ) (x : PageName) → map.get m (page_of_file file k) ≡ Some x → map.get m (page_of_file file n) ≡ Some x → k ≡ n) (sym byte_files) once

  there_still : (i : OpenFile) → IsSome (map.get p.files (page_of_jfn i)) → IsSome (map.get (with_byte p j byte).files (page_of_jfn i))
  there_still i there = subst (λ (m : FilePages). IsSome (map.get m (page_of_jfn i))) (sym byte_files) there

  -- another byte of the file stays
  other_stays : (i : OpenFile) → AreWhole p → IsByteSize j.size → NamesOnce p j.file → i.file ≡ j.file → i.size ≡ j.size → i.at ≢ j.at → IsSome (map.get p.files (page_of_jfn i)) → byte_of (with_byte p j byte) i ≡ byte_of p i
  unfolding page_at
  other_stays i w is_size once file size ne there = elim (cases_eq (byte_page i) (byte_page j)) [
    | inl same ↦ keeps_byte p w j byte is_size i file size same ne
    | inr apart ↦ keeps_page p i j byte (λ e. apart (by (map.get p.files (page_of_jfn i)) refl there e))
  ]
    where
      by : (o : Option PageName) → map.get p.files (page_of_jfn i) ≡ o → IsSome o → map.get p.files (page_of_jfn i) ≡ map.get p.files (page_of_jfn j) → byte_page i ≡ byte_page j
      by (Some x) is some e = once (byte_page i) (byte_page j) x (ap (λ name. map.get p.files (page_of_file name (byte_page i))) (sym file) ∙ is) (sym e ∙ is)
      by None is some e = absurd (cc some)

-- bytes that are written behind a byte leave it
earlier_stays : (bytes : List ℕ) (p : NamedPages) (i j : OpenFile) → AreWhole p → IsByteSize j.size → NamesOnce p j.file → i.file ≡ j.file → i.size ≡ j.size → i.at < j.at → IsSome (map.get p.files (page_of_jfn i))
    → byte_of (with_bytes p j bytes) i ≡ byte_of p i
earlier_stays [] p i j w is_size once file size before there = refl
earlier_stays (byte ∷ bytes) p i j w is_size once file size before there =
    earlier_stays bytes (with_byte p j byte) i (moved_file (j.at + 1) j) (byte_whole p j byte w) is_size (once_still p j byte j.file once) file size (omega (arith, before)) (there_still p j byte i there)
    ∙ other_stays p j byte i w is_size once file size (λ e. omega (arith, before, e)) there

-- so each is there at the end
pub bytes_there : (bytes : List ℕ) (p : NamedPages) (j : OpenFile) → AreWhole p → IsByteSize j.size → NamesOnce p j.file → HasPagesOf p j (length bytes) → bytes_of (with_bytes p j bytes) j (length bytes) ≡ each (λ b. b % 2 ^ j.size) bytes
bytes_there [] p j w is_size once have = refl
bytes_there (byte ∷ bytes) p j w is_size once have =
    let next = moved_file (j.at + 1) j in
    let q = with_byte p j byte in
    let whole = byte_whole p j byte w in
    let still = once_still p j byte j.file once in
    let there = have j.at (omega arith) (omega arith) in
    let first : byte_of (with_bytes q next bytes) j ≡ byte % 2 ^ j.size =
    earlier_stays bytes q j next whole is_size still refl refl (omega arith) (there_still p j byte j there) ∙ writes_byte p w j byte is_size j there (record { file = refl; size = refl; at = refl }) in
    let rest = bytes_there bytes q next whole is_size still (λ at low high. there_still p j byte (moved_file at j) (have at (omega (arith, low)) (omega (arith, high)))) in
    λ k. first k ∷ rest k
