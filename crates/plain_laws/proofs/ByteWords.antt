-- A byte that is written into a word of a file's page, and the other bytes.
use Rattle.std.proofs.Common.{◌≡◌, ◌≢◌, ℕ, ◌+◌, ◌-◌, ◌*◌, ◌/◌, ◌%◌, ◌^◌, ◌<◌, ◌≤◌, ◌⊎◌, List, min, Option, None, Some, inl, inr, refl, sym, ◌∙◌, ap, arith, get_or-set_same, get_or-set_other}
use Rattle.std.specs.Prelude.{IsSome, slice_index, slice_set}
use Rattle.std.specs.Int.{bit_at}
use Rattle.std.specs.Option.{option_map_or}
use Rattle.std.specs.Cmp.Lexicographic.{nat_list_cmp_total}
use Rattle.std.specs.FinMap as map
use Rattle.std.proofs.lemmas.Bool.{cases_lt}
use Rattle.std.proofs.lemmas.Nat.{div-add-mod'}
use Rattle.std.proofs.lemmas.Nat.Bits.{same_from_bits}
use Rattle.std.proofs.Math.Nat.{mod-lt, mul-div-le, mul-le-mul_left}
use Rattle.word36.specs.Bytes.{byte_at, deposited, loaded, position, size as pointer_size, with_byte_at}
use Rattle.word36.proofs.SingleBits.{bit_at_div, bit_at_mod, bit_at_mod_above}
use Rattle.ka10_bytes.proofs.Placing.{left_of_place, loads, right_of_place}
use Rattle.machine_names.specs.declared.names.PageName.{PageName}
use Rattle.machine_names.specs.Orders.{FilePage}
use Rattle.plain_files.specs.declared.bounds.TheConstants.{LARGEST_BYTE}
use Rattle.plain_files.specs.Bytes.{IsByteSize, bytes_per_word, offset_of_byte, page_of_byte, pointer_to_byte, position_of_byte, word_of_byte}
use Rattle.plain_files.specs.OpenFiles.{OpenFile}
use Rattle.plain_pages.specs.PlainPages.{NamedPages}
use Rattle.plain_pages.specs.References.{in_file, page_at, with_word, word_at, words_at}
use Rattle.plain_pages.specs.WholePages.{AreWhole}
use Rattle.plain_pages.proofs.Makings.{page_fits}
use Rattle.plain_model.specs.ByteCalls.{byte_offset, byte_page, byte_pointer, page_in}
use Rattle.plain_laws.specs.ByteLaws.{StandTogether, byte_of, page_of_jfn, with_byte}
use Rattle.plain_laws.proofs.ByteSizes.{bytes_some, offset_within}
use Rattle.plain_laws.proofs.Stored.{stored_other, stored_read}

-- a byte of a word that another lies wholly to the left or to the right of stays
module _ (p s w b q t : ℕ) where
  stays_by : (q + t ≤ p) ⊎ (p + s ≤ q) → q + t ≤ 36 → (i : ℕ) → bit_at (with_byte_at p s w b / 2 ^ q % 2 ^ t) i ≡ bit_at (w / 2 ^ q % 2 ^ t) i
  stays_by side inside i = elim (cases_lt i t) [
    | inr past ↦ bit_at_mod_above (with_byte_at p s w b / 2 ^ q) t i past ∙ sym (bit_at_mod_above (w / 2 ^ q) t i past)
    | inl few ↦
        bit_at_mod (with_byte_at p s w b / 2 ^ q) t i few ∙ bit_at_div (with_byte_at p s w b) q i (q + i) refl
        ∙ by side few
        ∙ sym (bit_at_mod (w / 2 ^ q) t i few ∙ bit_at_div w q i (q + i) refl)
  ]
    where
      by : (q + t ≤ p) ⊎ (p + s ≤ q) → i < t → bit_at (with_byte_at p s w b) (q + i) ≡ bit_at w (q + i)
      by (inl right) few = right_of_place p s w b (q + i) (omega (arith, few, inside)) (omega (arith, few, right))
      by (inr left) few = left_of_place p s w b (q + i) (omega (arith, few, inside)) (omega (arith, left))

  pub byte_stays : (q + t ≤ p) ⊎ (p + s ≤ q) → q + t ≤ 36 → byte_at q t (with_byte_at p s w b) ≡ byte_at q t w
  byte_stays side inside = same_from_bits (byte_at q t (with_byte_at p s w b)) (byte_at q t w) (stays_by side inside)

-- what a pointer has that is made of a position and a size
pointer_position : (p s : ℕ) → s < 64 → position (p * 2 ^ 30 + s * 2 ^ 24) ≡ p
pointer_position p s small = omega (arith, small)

pointer_bits : (p s : ℕ) → s < 64 → pointer_size (p * 2 ^ 30 + s * 2 ^ 24) ≡ s
pointer_bits p s small = omega (arith, small)

module _ (size : ℕ) (is_size : IsByteSize size) where
  per_word : size * bytes_per_word size ≤ LARGEST_BYTE
  per_word = mul-div-le LARGEST_BYTE size

  -- the byte stands within its word
  placed : (r : ℕ) → r < bytes_per_word size → size * (1 + r) ≤ LARGEST_BYTE
  placed r below = omega (arith, per_word, mul-le-mul_left {m = 1 + r} {n = bytes_per_word size} size (omega (arith, below)))

  ordinal : ℕ → ℕ
  ordinal at = at % bytes_per_word size

  ordinal_below : (at : ℕ) → at % bytes_per_word size < bytes_per_word size
  ordinal_below at = mod-lt at (omega (arith, bytes_some size is_size))

  inside : (at : ℕ) → position_of_byte size at + size ≤ 36
  inside at = omega (arith, placed (at % bytes_per_word size) (ordinal_below at))

  pointed : (at : ℕ) → position (pointer_to_byte size at) ≡ position_of_byte size at
  pointed at = pointer_position (position_of_byte size at) size (omega (arith, is_size.1))

  sized : (at : ℕ) → pointer_size (pointer_to_byte size at) ≡ size
  sized at = pointer_bits (position_of_byte size at) size (omega (arith, is_size.1))

  -- what is loaded and deposited at a byte of a file
  pub loaded_at : (at w : ℕ) → loaded (pointer_to_byte size at) w ≡ byte_at (position_of_byte size at) size w
  unfolding loaded
  loaded_at at w = ap (λ p. byte_at p (pointer_size (pointer_to_byte size at)) w) (pointed at) ∙ ap (λ s. byte_at (position_of_byte size at) s w) (sized at)

  pub deposited_at : (at w byte : ℕ) → deposited (pointer_to_byte size at) w byte ≡ with_byte_at (position_of_byte size at) size w byte
  unfolding deposited
  deposited_at at w byte = ap (λ p. with_byte_at p (pointer_size (pointer_to_byte size at)) w byte) (pointed at) ∙ ap (λ s. with_byte_at (position_of_byte size at) s w byte) (sized at)

  pub loads_deposited : (at w byte : ℕ) → loaded (pointer_to_byte size at) (deposited (pointer_to_byte size at) w byte) ≡ byte % 2 ^ size
  loads_deposited at w byte =
      let p = position_of_byte size at in
      let few : min size (36 - p) ≡ size = omega (arith, inside at) in
      ap (loaded (pointer_to_byte size at)) (deposited_at at w byte) ∙ loaded_at at (with_byte_at p size w byte) ∙ loads p size w byte ∙ ap (λ n. byte % 2 ^ n) few

  -- two bytes of one word
  to_the_right : (r q : ℕ) → r < q → q < bytes_per_word size → LARGEST_BYTE - size * (1 + q) + size ≤ LARGEST_BYTE - size * (1 + r)
  to_the_right r q less below = omega (arith, placed q below, mul-le-mul_left {m = 1 + r} {n = q} size (omega (arith, less)))

  apart : (at to : ℕ) → word_of_byte size at ≡ word_of_byte size to → at ≢ to → (position_of_byte size at + size ≤ position_of_byte size to) ⊎ (position_of_byte size to + size ≤ position_of_byte size at)
  apart at to same ne = elim (cases_lt (at % bytes_per_word size) (to % bytes_per_word size)) [
    | inl less ↦ inr (to_the_right (at % bytes_per_word size) (to % bytes_per_word size) less (ordinal_below to))
    | inr more ↦ elim (cases_lt (to % bytes_per_word size) (at % bytes_per_word size)) [
      | inl less ↦ inl (to_the_right (to % bytes_per_word size) (at % bytes_per_word size) less (ordinal_below at))
      | inr most ↦ absurd (ne (
          let k = bytes_per_word size in
          let words : at / k * k ≡ to / k * k = ap (λ n. n * k) same in
          omega (arith, div-add-mod' at k, div-add-mod' to k, words, more, most)))
    ]
  ]

  pub other_loads : (at to w byte : ℕ) → word_of_byte size at ≡ word_of_byte size to → at ≢ to → loaded (pointer_to_byte size at) (deposited (pointer_to_byte size to) w byte) ≡ loaded (pointer_to_byte size at) w
  other_loads at to w byte same ne =
      ap (loaded (pointer_to_byte size at)) (deposited_at to w byte) ∙ loaded_at at (with_byte_at (position_of_byte size to) size w byte)
      ∙ byte_stays (position_of_byte size to) size w byte (position_of_byte size at) size (apart at to same ne) (inside at) ∙ sym (loaded_at at w)

module _ (p : NamedPages) (w : AreWhole p) (j : OpenFile) (byte : ℕ) (is_size : IsByteSize j.size) where
  abbrev here : FilePage (List ℕ)
  here = page_of_jfn j

  abbrev new_word : ℕ
  new_word = deposited (byte_pointer j) (word_at p (in_file here) (byte_offset j)) byte

  -- the words of the page then
  words_then : (n : PageName) → page_at p (in_file here) ≡ Some n → words_at (with_byte p j byte) (in_file here) ≡ slice_set (words_at p (in_file here)) (byte_offset j) new_word
  words_then n is = stored_read p (in_file here) (byte_offset j) new_word (in_file here) n is is

  put_here : (n : PageName) → page_at p (in_file here) ≡ Some n → word_at (with_byte p j byte) (in_file here) (byte_offset j) ≡ new_word
  put_here n is =
      ap (λ (ws : List ℕ). slice_index ws (byte_offset j)) (words_then n is)
      ∙ get_or-set_same (words_at p (in_file here)) (byte_offset j) new_word 0 (omega (arith, offset_within j.size j.at is_size, page_fits nat_list_cmp_total p w (page_at p (in_file here))))

  -- the byte itself
  own_byte : (n : PageName) → page_at p (in_file here) ≡ Some n → byte_of (with_byte p j byte) j ≡ byte % 2 ^ j.size
  own_byte n is = ap (loaded (byte_pointer j)) (put_here n is) ∙ loads_deposited j.size is_size j.at (word_at p (in_file here) (byte_offset j)) byte

  -- another byte of the page
  another : (i : OpenFile) → i.file ≡ j.file → i.size ≡ j.size → byte_page i ≡ byte_page j → i.at ≢ j.at → (n : PageName) → page_at p (in_file here) ≡ Some n → byte_of (with_byte p j byte) i ≡ byte_of p i
  another i file size page ne n is = elim (cases_lt (byte_offset i) (byte_offset j)) [
    | inl less ↦ elsewhere (λ e. absurd (omega (arith, less, e)))
    | inr more ↦ elim (cases_lt (byte_offset j) (byte_offset i)) [
      | inl less ↦ elsewhere (λ e. absurd (omega (arith, less, e)))
      | inr most ↦ same_word (omega (arith, more, most))
    ]
  ]
    where
      at : page_of_jfn i ≡ here
      at = λ k. page_in (record j { file = file k }) (page k)

      words_of_i : words_at (with_byte p j byte) (in_file (page_of_jfn i)) ≡ slice_set (words_at p (in_file (page_of_jfn i))) (byte_offset j) new_word
      words_of_i = ap (λ (f : FilePage (List ℕ)). words_at (with_byte p j byte) (in_file f)) at ∙ words_then n is ∙ sym (ap (λ (f : FilePage (List ℕ)). slice_set (words_at p (in_file f)) (byte_offset j) new_word) at)

      elsewhere : byte_offset i ≢ byte_offset j → byte_of (with_byte p j byte) i ≡ byte_of p i
      elsewhere other = ap (loaded (byte_pointer i)) (ap (λ (ws : List ℕ). slice_index ws (byte_offset i)) words_of_i ∙ get_or-set_other (words_at p (in_file (page_of_jfn i))) (byte_offset j) (byte_offset i) new_word 0 other)

      same_word : byte_offset i ≡ byte_offset j → byte_of (with_byte p j byte) i ≡ byte_of p i
      same_word off =
          let word : word_of_byte j.size i.at ≡ word_of_byte j.size j.at = words_same in
          ap (loaded (byte_pointer i)) (ap (λ o. word_at (with_byte p j byte) (in_file (page_of_jfn i)) o) off ∙ ap (λ (f : FilePage (List ℕ)). word_at (with_byte p j byte) (in_file f) (byte_offset j)) at ∙ put_here n is)
          ∙ ap (λ s. loaded (pointer_to_byte s i.at) new_word) size
          ∙ other_loads j.size is_size i.at j.at (word_at p (in_file here) (byte_offset j)) byte word ne
          ∙ sym (ap (λ s. loaded (pointer_to_byte s i.at) (word_at p (in_file here) (byte_offset j))) size)
          ∙ sym (ap (loaded (byte_pointer i)) (ap (λ o. word_at p (in_file (page_of_jfn i)) o) off ∙ ap (λ (f : FilePage (List ℕ)). word_at p (in_file f) (byte_offset j)) at))
        where
          words_same : word_of_byte j.size i.at ≡ word_of_byte j.size j.at
          words_same =
              let pages : page_of_byte j.size i.at ≡ page_of_byte j.size j.at = ap (λ s. page_of_byte s i.at) (sym size) ∙ page in
              let offsets : offset_of_byte j.size i.at ≡ offset_of_byte j.size j.at = ap (λ s. offset_of_byte s i.at) (sym size) ∙ off in
              omega (arith, pages, offsets)

  pub writes_byte : (i : OpenFile) → IsSome (map.get p.files here) → StandTogether i j → byte_of (with_byte p j byte) i ≡ byte % 2 ^ j.size
  unfolding page_at
  writes_byte i there together = by (map.get p.files here) refl there
    where
      same : byte_of (with_byte p j byte) i ≡ byte_of (with_byte p j byte) j
      same = λ k. byte_of (with_byte p j byte) (record j { file = together.file k; size = together.size k; at = together.at k })

      by : (o : Option PageName) → map.get p.files here ≡ o → IsSome o → byte_of (with_byte p j byte) i ≡ byte % 2 ^ j.size
      by (Some n) is some = same ∙ own_byte n is
      by None is some = absurd (cc some)

  pub keeps_byte : (i : OpenFile) → i.file ≡ j.file → i.size ≡ j.size → byte_page i ≡ byte_page j → i.at ≢ j.at → byte_of (with_byte p j byte) i ≡ byte_of p i
  unfolding page_at
  keeps_byte i file size page ne = by (map.get p.files here) refl
    where
      by : (o : Option PageName) → map.get p.files here ≡ o → byte_of (with_byte p j byte) i ≡ byte_of p i
      by (Some n) is = another i file size page ne n is
      by None is = ap (λ (o : Option PageName). byte_of (option_map_or (with_word p (byte_offset j) new_word) o p) i) is

-- a byte of another page
pub keeps_page : (p : NamedPages) (i j : OpenFile) (byte : ℕ) → page_at p (in_file (page_of_jfn i)) ≢ page_at p (in_file (page_of_jfn j)) → byte_of (with_byte p j byte) i ≡ byte_of p i
keeps_page p i j byte other =
    ap (λ (ws : List ℕ). loaded (byte_pointer i) (slice_index ws (byte_offset i)))
    (stored_other p (in_file (page_of_jfn j)) (byte_offset j) (deposited (byte_pointer j) (word_at p (in_file (page_of_jfn j)) (byte_offset j)) byte) (in_file (page_of_jfn i)) other)
