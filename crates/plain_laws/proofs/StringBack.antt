-- What SOUT has written SIN gives back into a string.
use Rattle.std.proofs.Common.{◌≡◌, ℕ, ◌+◌, ◌-◌, ◌/◌, ◌%◌, ◌^◌, ◌<◌, ◌≤◌, true, List, min, Some, ◌∙◌, ap, subst, arith, get_or-set_same}
use Rattle.std.specs.Prelude.{slice_index}
use Rattle.std.specs.Cmp.Lexicographic.{nat_list_cmp_total}
use Rattle.std.proofs.lemmas.Nat.{pow_pos}
use Rattle.std.proofs.Math.Nat.{mod-eq_of_lt, mod-lt}
use Rattle.std.proofs.Math.Pow.{pow_mono}
use Rattle.word36.specs.Bytes.{deposited, loaded, position, size}
use Rattle.ka10_bytes.proofs.Placing.{loads}
use Rattle.machine_names.specs.Orders.{name_cmp}
use Rattle.machine_names.specs.Bounds.{IsOwner}
use Rattle.machine_names.specs.declared.names.Kind.TheVariants.{Read, Write}
use Rattle.machine_names.specs.declared.names.PageName.{PageName}
use Rattle.outside.specs.declared.TheConstants.{PAGE_WORDS}
use Rattle.plain_pages.specs.PlainPages.{NamedPages}
use Rattle.plain_pages.specs.References.{granted, in_file, in_map, page_at, reference, slot_at, word_at, words_at}
use Rattle.plain_pages.specs.WholePages.{AreWhole}
use Rattle.plain_pages.proofs.Makings.{page_fits}
use Rattle.plain_pages.proofs.ReferencesMade.{reference_whole}
use Rattle.plain_units.specs.Steps.{begun}
use Rattle.plain_units.proofs.PageRuns.{Keeps, kept_itself, run_kept}
use Rattle.plain_files.specs.OpenFiles.{OpenFile}
use Rattle.plain_model.specs.declared.fork.Fork.{Fork}
use Rattle.plain_model.specs.ByteCalls.{files_reaching}
use Rattle.plain_model.specs.Calls.{Came, ends, no_files, turn_on}
use Rattle.plain_model.specs.MapCalls.{is_read}
use Rattle.plain_model.specs.PointedTexts.{byte_at}
use Rattle.plain_model.specs.Readings.{Reading}
use Rattle.plain_model.specs.State.{PlainState}
use Rattle.plain_model.proofs.JfnEnds.{reading_comes}
use Rattle.plain_laws.specs.StringLaws.{IsInSpace, ReadsNext, TakesNext, address_of, byte_pointed, next_of, offset_pointed, spot_pointed, with_byte_pointed}
use Rattle.plain_laws.specs.ByteLaws.{StandTogether, page_of_jfn, with_byte}
use Rattle.plain_laws.specs.JfnLaws.{Lives, NamesJfn, ReadsSo}
use Rattle.plain_laws.specs.Whole.{IsWholeMachine}
use Rattle.plain_laws.proofs.ByteBack.{before_end, byte_then}
use Rattle.plain_laws.proofs.Copying.{page_made}
use Rattle.plain_laws.proofs.ReadTurns.{telling, told}
use Rattle.plain_laws.proofs.StringTurns.{sin_takes}
use Rattle.plain_laws.proofs.WholeForks.{sound}
use Rattle.plain_laws.proofs.Stored.{stored_read}

-- a byte has as many bits as its pointer says
pub loaded_below : (p w : ℕ) → loaded p w < 2 ^ size p
unfolding loaded
loaded_below p w = mod-lt (w / 2 ^ position p) (pow_pos (size p))

-- what is deposited in a word is loaded from it
pub loads_back : (p w byte : ℕ) → position p + size p ≤ 36 → loaded p (deposited p w byte) ≡ byte % 2 ^ size p
unfolding loaded deposited
loads_back p w byte inside =
    let few : min (size p) (36 - position p) ≡ size p = omega (arith, inside) in
    loads (position p) (size p) w byte ∙ ap (λ n. byte % 2 ^ n) few

-- so is what is deposited in a page that is there
module _ (q : NamedPages) (w : AreWhole q) (f : Fork) (p byte : ℕ) where
  pub byte_there : (n : PageName) → page_at q (spot_pointed f p) ≡ Some n → position p + size p ≤ 36 → byte_pointed (with_byte_pointed q f p byte) f p ≡ byte % 2 ^ size p
  byte_there n is inside =
      let at = spot_pointed f p in
      let offset = offset_pointed f p in
      let word = deposited p (word_at q at offset) byte in
      let within : offset < PAGE_WORDS = mod-lt (address_of f p) (omega arith) in
      ap (λ (ws : List ℕ). loaded p (slice_index ws offset)) (stored_read q at offset word at n is is)
      ∙ ap (loaded p) (get_or-set_same (words_at q at) offset word 0 (omega (arith, within, page_fits nat_list_cmp_total q w (page_at q at))))
      ∙ loads_back p (word_at q at offset) byte inside

-- what a fork reads leaves whole pages whole
pub read_whole : {A : Type 0} (s : PlainState) (w : IsWholeMachine s) (f : Fork) → IsOwner f.name.tty → (r : Reading A) (found : A) (q : NamedPages) → ReadsSo s f r found q → AreWhole q
unfolding turn_on
read_whole {A = A} s w f own r found q is = subst (λ (c : Came name_cmp A). AreWhole c.pages) is comes.sound.whole
  where
    finished : (x : NamedPages) (y : A) → Keeps s.pages x → Keeps s.pages (turn_on (no_files {K = List ℕ}) x (ends (told f.body.regs y))).pages
    finished x y k = k

    comes : Keeps s.pages (turn_on no_files s.pages (telling f.name f.body.regs r)).pages
    comes = reading_comes no_files (λ e x. Keeps s.pages x) (λ x. Keeps s.pages x) f.name f.body.regs (λ x k steps. run_kept nat_list_cmp_total s.pages f.name own steps (begun x f.body.regs.ac) k) (λ x channel k. k)
        (λ x. ends (told f.body.regs x)) (λ x y k. finished x y k) r s.pages (kept_itself s.pages (sound s w))

-- what SOUT has written at a JFN, SIN takes back at that byte of the file
module _ (s u : PlainState) (f g : Fork) (i j : OpenFile) (byte : ℕ) (p q : NamedPages) (w : IsWholeMachine s) (own : IsOwner f.name.tty) (held : NamesJfn s f j) (found : ReadsNext s f 2 byte p)
    (grants : reference p (in_file (page_of_jfn j)) Write f.name.tty ≡ granted q) (pages : u.pages ≡ with_byte q j byte) (files : u.files ≡ files_reaching s.files j.file j.size (j.at + 1)) (together : StandTogether i j) where
  pub given_back : (x z : NamedPages) → IsWholeMachine u → Lives u g → IsOwner g.name.tty → NamesJfn u g i → is_read i ≡ true → IsInSpace g (next_of g 2)
      → reference u.pages (spot_pointed g (next_of g 2)) Read g.name.tty ≡ granted x → reference x (spot_pointed g (next_of g 2)) Write g.name.tty ≡ granted z → TakesNext u g i (byte % 2 ^ j.size) z
  given_back x z whole lives owns named ready place reading writing =
      let sound_pages = read_whole s w f own (byte_at f.body.regs (next_of f 2)) byte p found in
      let before = before_end s u f i j byte p q w sound_pages own held grants pages files together in
      subst (λ b. TakesNext u g i b z) (byte_then s u f i j byte p q w sound_pages own held grants pages files together) (sin_takes u g lives whole i named x z owns ready before place reading writing)

-- and it is in the string then, if both have room for its bits
module _ (u : PlainState) (w : IsWholeMachine u) (g : Fork) (own : IsOwner g.name.tty) (x z : NamedPages) where
  pub same_byte : (bits byte : ℕ) → reference u.pages (spot_pointed g (next_of g 2)) Read g.name.tty ≡ granted x → reference x (spot_pointed g (next_of g 2)) Write g.name.tty ≡ granted z
      → byte < 2 ^ bits → bits ≤ size (next_of g 2) → position (next_of g 2) + size (next_of g 2) ≤ 36 → byte_pointed (with_byte_pointed z g (next_of g 2) (byte % 2 ^ bits)) g (next_of g 2) ≡ byte
  same_byte bits byte reading writing small fits inside =
      let at = slot_at g.name (address_of g (next_of g 2)) in
      let there = page_made nat_list_cmp_total g.name.tty x z at Write writing in
      let whole = reference_whole nat_list_cmp_total g.name.tty (in_map at) Write own x z (reference_whole nat_list_cmp_total g.name.tty (in_map at) Read own u.pages x w.pages reading) writing in
      byte_there z whole g (next_of g 2) (byte % 2 ^ bits) there.0 there.1 inside
      ∙ ap (λ b. b % 2 ^ size (next_of g 2)) (mod-eq_of_lt small) ∙ mod-eq_of_lt (wider bits (size (next_of g 2)) byte small fits)
    where
      wider : (m n b : ℕ) → b < 2 ^ m → m ≤ n → b < 2 ^ n
      wider m n b less le = omega (arith, less, pow_mono le)
