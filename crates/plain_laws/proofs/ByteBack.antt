-- What is written at a JFN is read back by another at the same byte.
use Rattle.std.proofs.Common.{◌≡◌, ℕ, ◌+◌, ◌%◌, ◌^◌, ◌<◌, ◌≤◌, true, List, Option, None, Some, refl, sym, ◌∙◌, ap, subst, arith}
use Rattle.std.specs.Prelude.{is_some}
use Rattle.std.specs.Option.{option_map_or, unwrap_or}
use Rattle.std.specs.Cmp.Lexicographic.{nat_list_cmp_total}
use Rattle.std.specs.FinMap as map
use Rattle.machine_names.specs.Bounds.{IsOwner}
use Rattle.machine_names.specs.Orders.{name_cmp}
use Rattle.machine_names.specs.declared.names.Kind.TheVariants.{Write}
use Rattle.machine_names.proofs.Keys.{get_put}
use Rattle.machine_names.proofs.OrderLemmas.{name_cmp_apart}
use Rattle.plain_files.specs.Bytes.{most_bytes}
use Rattle.plain_files.specs.OpenFiles.{OpenFile}
use Rattle.plain_files.specs.Sizes.{PlainFile, length_in, new_file, reaching}
use Rattle.plain_pages.specs.PlainPages.{NamedPages}
use Rattle.plain_pages.specs.References.{granted, in_file, reference}
use Rattle.plain_pages.specs.WholePages.{AreWhole}
use Rattle.plain_pages.proofs.ReferencesMade.{reference_whole}
use Rattle.plain_model.specs.declared.fork.Fork.{Fork}
use Rattle.plain_model.specs.ByteCalls.{files_reaching}
use Rattle.plain_model.specs.MapCalls.{is_read}
use Rattle.plain_model.specs.State.{PlainState}
use Rattle.plain_laws.specs.ByteLaws.{ReadsByte, StandTogether, byte_of, end_of, page_of_jfn, with_byte}
use Rattle.plain_laws.specs.JfnLaws.{Lives, NamesJfn, jfn_named}
use Rattle.plain_laws.specs.Whole.{IsWholeMachine}
use Rattle.plain_laws.proofs.ByteSizes.{reached}
use Rattle.plain_laws.proofs.ByteTurns.{read_so}
use Rattle.plain_laws.proofs.ByteWords.{writes_byte}
use Rattle.plain_laws.proofs.FileMakings.{page_then}
use Rattle.plain_laws.proofs.WholeBytes.{held_fits}
use Rattle.plain_laws.proofs.WholeJfns.{file_of_held}

-- a file that is there reaches behind what is written
reaches : (files : map.FinMap name_cmp PlainFile) (name : List ℕ) (size end : ℕ) → map.contains_key files name ≡ true → end ≤ length_in size (unwrap_or (map.get (files_reaching files name size end) name) new_file)
reaches files name size end there = by (map.get files name) refl there
  where
    by : (o : Option PlainFile) → map.get files name ≡ o → is_some o ≡ true → end ≤ length_in size (unwrap_or (map.get (option_map_or (λ f. map.insert files name (reaching size end f)) o files) name) new_file)
    by None is some = absurd (cc some)
    by (Some f) is some = subst (λ (o : Option PlainFile). end ≤ length_in size (unwrap_or o new_file)) (sym (get_put nat_list_cmp_total name_cmp_apart files name name (reaching size end f) refl)) (reached size end f)

-- a byte that is written at a JFN, in pages that are whole; and what another JFN at that byte reads then
module _ (s u : PlainState) (f : Fork) (i j : OpenFile) (byte : ℕ) (p q : NamedPages) (w : IsWholeMachine s) (sound : AreWhole p) (own : IsOwner f.name.tty) (held : NamesJfn s f j)
    (grants : reference p (in_file (page_of_jfn j)) Write f.name.tty ≡ granted q) (pages : u.pages ≡ with_byte q j byte) (files : u.files ≡ files_reaching s.files j.file j.size (j.at + 1)) (together : StandTogether i j) where
  pub byte_then : byte_of u.pages i ≡ byte % 2 ^ j.size
  byte_then =
      let fits = file_of_held s w f.name.tty (jfn_named f) j held in
      ap (λ (x : NamedPages). byte_of x i) pages
      ∙ writes_byte q (reference_whole nat_list_cmp_total f.name.tty (in_file (page_of_jfn j)) Write own p q sound grants) j byte fits.2.1 i (page_then p q f.name.tty (page_of_jfn j) nat_list_cmp_total grants) together

  pub before_end : i.at < end_of u i
  before_end =
      let fits = file_of_held s w f.name.tty (jfn_named f) j held in
      let far = reaches s.files j.file j.size (j.at + 1) fits.2.0 in
      let at : end_of u i ≡ length_in j.size (unwrap_or (map.get (files_reaching s.files j.file j.size (j.at + 1)) j.file) new_file) =
      (λ k. length_in (together.size k) (unwrap_or (map.get (files k) (together.file k)) new_file)) in
      omega (arith, far, at, together.at)

  pub read_back : (g : Fork) → IsWholeMachine u → Lives u g → NamesJfn u g i → is_read i ≡ true → ReadsByte u g i (byte % 2 ^ j.size)
  read_back g whole lives named ready = subst (ReadsByte u g i) byte_then (read_so u g lives whole i named ready before_end)

-- the file of a JFN has room for the bytes that it has, of the JFN's size
pub end_fits : (s : PlainState) → IsWholeMachine s → (f : Fork) (j : OpenFile) → NamesJfn s f j → end_of s j ≤ most_bytes j.size
end_fits s w f j held = let fits = held_fits s w f (jfn_named f) j held in fits.room
