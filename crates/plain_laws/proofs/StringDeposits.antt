-- Bytes that are deposited one behind another stand so in a fork's space.
use Rattle.std.proofs.Common.{◌≡◌, ◌≢◌, ◌⊎◌, inl, inr, ℕ, zero, suc, ◌+◌, ◌-◌, ◌%◌, ◌^◌, ◌<◌, ◌≤◌, All, List, [], ◌∷◌, length, Option, None, Some, refl, sym, ◌∙◌, ap, subst, arith, get_or-set_same, get_or-set_other}
use Rattle.std.specs.Prelude.{IsSome, map as each, nat_le, slice_index}
use Rattle.std.specs.Cmp.Lexicographic.{nat_list_cmp_total}
use Rattle.std.proofs.lemmas.Bool.{cond_both}
use Rattle.std.proofs.lemmas.List.Elements.{All-head, All-tail}
use Rattle.std.proofs.Math.Nat.{mod-eq_of_lt, mod-lt}
use Rattle.std.proofs.Math.Pow.{pow_mono}
use Rattle.plain_files.specs.Bytes.{IsByteSize}
use Rattle.plain_files.specs.OpenFiles.{OpenFile}
use Rattle.word36.specs.Bytes.{deposited, in_next_word, incremented, increments, loaded, position, size, with_position}
use Rattle.machine_names.specs.declared.names.PageName.{PageName}
use Rattle.outside.specs.declared.TheConstants.{PAGE_WORDS}
use Rattle.plain_pages.specs.PlainPages.{NamedPages}
use Rattle.plain_pages.specs.References.{in_map, page_at, slot_at, word_at, words_at}
use Rattle.plain_pages.specs.WholePages.{AreWhole}
use Rattle.plain_pages.proofs.Counts.{page_tells}
use Rattle.plain_pages.proofs.Makings.{page_fits}
use Rattle.plain_units.proofs.PageRuns.{stored_whole}
use Rattle.plain_model.specs.declared.fork.Fork.{Fork}
use Rattle.plain_laws.specs.StringLaws.{AreApart, HasPagesOf, IsInWord, IsString, NamesOnce, address_of, byte_pointed, bytes_of, offset_pointed, spot_pointed, string_at, with_byte_pointed, with_bytes, with_string}
use Rattle.plain_laws.proofs.ByteWords.{byte_stays}
use Rattle.plain_laws.proofs.Stored.{stored_other, stored_page, stored_read}
use Rattle.plain_laws.proofs.StringBack.{byte_there}
use Rattle.plain_laws.proofs.StringFiles.{bytes_there}

-- a pointer that is incremented names bytes of the same size
next_size : (p : ℕ) → size (incremented p) ≡ size p
unfolding incremented
next_size p = cond_both (nat_le (size p) (position p)) (with_position p (position p - size p)) (with_position (in_next_word p) ((36 + 64 - size p) % 64)) (λ n. size n ≡ size p) (λ is. omega arith) (λ is. omega arith)

-- increments begin with one
behind_first : (k p : ℕ) → increments k (incremented p) ≡ increments (suc k) p
unfolding increments
behind_first zero p = refl
behind_first (suc k) p = ap incremented (behind_first k p)

-- a byte that is deposited leaves whole pages whole, and what slots name
module _ (q : NamedPages) (w : AreWhole q) (f : Fork) (p byte : ℕ) where
  abbrev new_word : ℕ
  new_word = deposited p (word_at q (spot_pointed f p) (offset_pointed f p)) byte

  byte_whole : AreWhole (with_byte_pointed q f p byte)
  byte_whole = stored_whole nat_list_cmp_total q w (spot_pointed f p) (offset_pointed f p) new_word

  page_stays : (o : ℕ) → page_at (with_byte_pointed q f p byte) (spot_pointed f o) ≡ page_at q (spot_pointed f o)
  page_stays o = stored_page q (spot_pointed f p) (offset_pointed f p) new_word (spot_pointed f o)

  there_still : (o : ℕ) → IsSome (page_at q (spot_pointed f o)) → IsSome (page_at (with_byte_pointed q f p byte) (spot_pointed f o))
  there_still o there = subst IsSome (sym (page_stays o)) there

  apart_still : (x y : ℕ) → AreApart q f x y → AreApart (with_byte_pointed q f p byte) f x y
  apart_still x y (inl one) = inl one
  apart_still x y (inr (inl two)) = inr (inl two)
  apart_still x y (inr (inr two)) = inr (inr (λ e. two (sym (page_stays x) ∙ e ∙ page_stays y)))

  -- the string behind the byte is one still
  rest_still : (n : ℕ) → IsString q f p (suc n) → IsString (with_byte_pointed q f p byte) f (incremented p) n
  rest_still n string = record {
    inside = λ k less. subst IsInWord (sym (behind_first k p)) (string.inside (suc k) (omega (arith, less)));
    there = λ k less. subst (λ x. IsSome (page_at (with_byte_pointed q f p byte) (spot_pointed f x))) (sym (behind_first k p)) (there_still (increments (suc k) p) (string.there (suc k) (omega (arith, less))));
    apart = λ k l before less. apart_behind (increments k (incremented p)) l (subst (λ x. AreApart q f x (increments (suc l) p)) (sym (behind_first k p)) (string.apart (suc k) (suc l) (omega (arith, before)) (omega (arith, less))));
  }
    where
      apart_behind : (x l : ℕ) → AreApart q f x (increments (suc l) p) → AreApart (with_byte_pointed q f p byte) f x (increments l (incremented p))
      apart_behind x l apart = subst (λ y. AreApart (with_byte_pointed q f p byte) f x y) (sym (behind_first l p)) (apart_still x (increments (suc l) p) apart)

-- another byte stays where one is deposited
module _ (q : NamedPages) (w : AreWhole q) (f : Fork) (o p byte : ℕ) where
  in_one_word : (n : PageName) → page_at q (spot_pointed f p) ≡ Some n → address_of f o ≡ address_of f p → (position o + size o ≤ position p) ⊎ (position p + size p ≤ position o) → position o + size o ≤ 36 → byte_pointed (with_byte_pointed q f p byte) f o ≡ byte_pointed q f o
  unfolding loaded deposited
  in_one_word n is same side inside =
      let within : offset_pointed f p < PAGE_WORDS = mod-lt (address_of f p) (omega arith) in
      ap (λ a. loaded o (word_at (with_byte_pointed q f p byte) (in_map (slot_at f.name a)) (a % PAGE_WORDS))) same
      ∙ ap (λ (ws : List ℕ). loaded o (slice_index ws (offset_pointed f p))) (stored_read q (spot_pointed f p) (offset_pointed f p) (new_word q w f p byte) (spot_pointed f p) n is is)
      ∙ ap (loaded o) (get_or-set_same (words_at q (spot_pointed f p)) (offset_pointed f p) (new_word q w f p byte) 0 (omega (arith, within, page_fits nat_list_cmp_total q w (page_at q (spot_pointed f p)))))
      ∙ byte_stays (position p) (size p) (word_at q (spot_pointed f p) (offset_pointed f p)) byte (position o) (size o) side inside
      ∙ sym (ap (λ a. loaded o (word_at q (in_map (slot_at f.name a)) (a % PAGE_WORDS))) same)

  in_two_words : (offset_pointed f o ≢ offset_pointed f p) ⊎ (page_at q (spot_pointed f o) ≢ page_at q (spot_pointed f p)) → (n : PageName) → page_at q (spot_pointed f p) ≡ Some n → (m : PageName) → page_at q (spot_pointed f o) ≡ Some m → byte_pointed (with_byte_pointed q f p byte) f o ≡ byte_pointed q f o
  in_two_words apart n is m there = elim (page_tells n m) [
    | inl same ↦ by apart same.1
    | inr other ↦ elsewhere (λ e. (let both : Some m ≡ Some n = sym there ∙ e ∙ is in let names : n ≡ m = cc both in other.1 names))
  ]
    where
      elsewhere : page_at q (spot_pointed f o) ≢ page_at q (spot_pointed f p) → byte_pointed (with_byte_pointed q f p byte) f o ≡ byte_pointed q f o
      elsewhere ne = ap (λ (ws : List ℕ). loaded o (slice_index ws (offset_pointed f o))) (stored_other q (spot_pointed f p) (offset_pointed f p) (new_word q w f p byte) (spot_pointed f o) ne)

      by : (offset_pointed f o ≢ offset_pointed f p) ⊎ (page_at q (spot_pointed f o) ≢ page_at q (spot_pointed f p)) → n ≡ m → byte_pointed (with_byte_pointed q f p byte) f o ≡ byte_pointed q f o
      by (inr ne) same = elsewhere ne
      by (inl ne) same =
          ap (λ (ws : List ℕ). loaded o (slice_index ws (offset_pointed f o))) (stored_read q (spot_pointed f p) (offset_pointed f p) (new_word q w f p byte) (spot_pointed f o) n is (there ∙ ap Some (sym same)))
          ∙ ap (loaded o) (get_or-set_other (words_at q (spot_pointed f o)) (offset_pointed f p) (offset_pointed f o) (new_word q w f p byte) 0 ne)

  pub deposit_stays : AreApart q f o p → IsInWord o → IsSome (page_at q (spot_pointed f o)) → IsSome (page_at q (spot_pointed f p)) → byte_pointed (with_byte_pointed q f p byte) f o ≡ byte_pointed q f o
  deposit_stays apart inside there_o there_p = by (page_at q (spot_pointed f p)) refl there_p (page_at q (spot_pointed f o)) refl there_o apart
    where
      by : (a : Option PageName) → page_at q (spot_pointed f p) ≡ a → IsSome a → (b : Option PageName) → page_at q (spot_pointed f o) ≡ b → IsSome b → AreApart q f o p → byte_pointed (with_byte_pointed q f p byte) f o ≡ byte_pointed q f o
      by (Some n) is some (Some m) there also (inl same) = in_one_word n is same.0 same.1 inside
      by (Some n) is some (Some m) there also (inr two) = in_two_words two n is m there
      by None is some b there also h = absurd (cc some)
      by (Some n) is some None there also h = absurd (cc also)

-- bytes that are deposited behind a byte leave it
earlier_stays : (bytes : List ℕ) (q : NamedPages) (f : Fork) (o p : ℕ) → AreWhole q → IsString q f p (length bytes) → ((k : ℕ) → k < length bytes → AreApart q f o (increments k p)) → IsInWord o → IsSome (page_at q (spot_pointed f o))
    → byte_pointed (with_string q f p bytes) f o ≡ byte_pointed q f o
unfolding increments
earlier_stays [] q f o p w string apart inside there = refl
earlier_stays (byte ∷ bytes) q f o p w string apart inside there =
    earlier_stays bytes (with_byte_pointed q f p byte) f o (incremented p) (byte_whole q w f p byte) (rest_still q w f p byte (length bytes) string) later inside (there_still q w f p byte o there)
    ∙ deposit_stays q w f o p byte (apart 0 (omega arith)) inside there (string.there 0 (omega arith))
  where
    later : (k : ℕ) → k < length bytes → AreApart (with_byte_pointed q f p byte) f o (increments k (incremented p))
    later k less = subst (λ x. AreApart (with_byte_pointed q f p byte) f o x) (sym (behind_first k p)) (apart_still q w f p byte o (increments (suc k) p) (apart (suc k) (omega (arith, less))))

-- so each is there at the end
pub string_there : (bytes : List ℕ) (q : NamedPages) (f : Fork) (p : ℕ) → AreWhole q → IsString q f p (length bytes) → string_at (with_string q f p bytes) f p (length bytes) ≡ each (λ b. b % 2 ^ size p) bytes
unfolding increments
string_there [] q f p w string = refl
string_there (byte ∷ bytes) q f p w string =
    let rest = string_there bytes (with_byte_pointed q f p byte) f (incremented p) (byte_whole q w f p byte) (rest_still q w f p byte (length bytes) string) in
    λ k. first k ∷ (rest ∙ ap (λ n. each (λ b. b % 2 ^ n) bytes) (next_size p)) k
  where
    r : NamedPages
    r = with_byte_pointed q f p byte

    there : IsSome (page_at q (spot_pointed f p))
    there = string.there 0 (omega arith)

    own_byte : (o : Option PageName) → page_at q (spot_pointed f p) ≡ o → IsSome o → byte_pointed r f p ≡ byte % 2 ^ size p
    own_byte (Some n) is some = byte_there q w f p byte n is (string.inside 0 (omega arith))
    own_byte None is some = absurd (cc some)

    later : (k : ℕ) → k < length bytes → AreApart r f p (increments k (incremented p))
    later k less = subst (λ x. AreApart r f p x) (sym (behind_first k p)) (apart_still q w f p byte p (increments (suc k) p) (string.apart 0 (suc k) (omega arith) (omega (arith, less))))

    first : byte_pointed (with_string r f (incremented p) bytes) f p ≡ byte % 2 ^ size p
    first = earlier_stays bytes r f p (incremented p) (byte_whole q w f p byte) (rest_still q w f p byte (length bytes) string) later (string.inside 0 (omega arith)) (there_still q w f p byte p there)
        ∙ own_byte (page_at q (spot_pointed f p)) refl there

-- bytes that are small enough are cut nowhere
pub cut_nowhere : (m n : ℕ) (bytes : List ℕ) → m ≤ n → All (λ b. b < 2 ^ m) bytes → each (λ b. b % 2 ^ n) bytes ≡ bytes
cut_nowhere m n [] fits small = refl
cut_nowhere m n (byte ∷ bytes) fits small =
    let head = All-head (λ b. b < 2 ^ m) byte bytes small in
    let below : byte < 2 ^ n = omega (arith, head, pow_mono fits) in
    let rest = cut_nowhere m n bytes fits (All-tail (λ b. b < 2 ^ m) byte bytes small) in
    λ k. mod-eq_of_lt below k ∷ rest k

-- a string that goes into a file and from there into a string is the same
pub string_back : (bytes : List ℕ) (p q : NamedPages) (j : OpenFile) (g : Fork) (o : ℕ) → AreWhole p → IsByteSize j.size → NamesOnce p j.file → HasPagesOf p j (length bytes) → AreWhole q → IsString q g o (length bytes)
    → All (λ b. b < 2 ^ j.size) bytes → j.size ≤ size o → string_at (with_string q g o (bytes_of (with_bytes p j bytes) j (length bytes))) g o (length bytes) ≡ bytes
string_back bytes p q j g o whole is_size once have sound string small fits =
    ap (λ taken. string_at (with_string q g o taken) g o (length bytes)) (bytes_there bytes p j whole is_size once have ∙ cut_nowhere j.size j.size bytes (omega arith) small)
    ∙ string_there bytes q g o sound string ∙ cut_nowhere j.size (size o) bytes fits small
