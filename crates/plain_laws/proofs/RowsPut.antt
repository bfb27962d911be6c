-- A WORDS that is not refused puts its row into the page, and leaves all else.
use Rattle.std.proofs.Common.{◌≡◌, ◌≢◌, ℕ, ◌+◌, ◌*◌, ◌<◌, ◌≤◌, Bool, true, false, cond, List, [], length, Option, None, Some, ◌⊎◌, inl, inr, refl, sym, ◌∙◌, ap, subst, arith}
use Rattle.std.specs.Prelude.{is_some, slice_index, if◌then◌else◌, nat_le}
use Rattle.std.specs.Option.{option_map_or, unwrap_or}
use Rattle.std.specs.Cmp.Lexicographic.{nat_list_cmp_total}
use Rattle.std.specs.FinMap as map
use Rattle.std.proofs.lemmas.Bool.Decides.{nat_tests}
use Rattle.outside.specs.declared.TheConstants.{PAGE_WORDS}
use Rattle.machine_names.specs.declared.names.PageName.{PageName}
use Rattle.machine_names.specs.Orders.{FilePage}
use Rattle.machine_names.specs.PageWords.{zero_words}
use Rattle.machine_names.proofs.Keys.{get_put, get_put_other}
use Rattle.machine_names.proofs.OrderLemmas.{page_cmp_total, page_cmp_apart, name_cmp_apart, file_page_total, file_page_apart}
use Rattle.plain_files.specs.declared.bounds.TheConstants.{LARGEST_BYTE}
use Rattle.plain_files.specs.Sizes.{PlainFile, length_in, reaching}
use Rattle.plain_pages.specs.PlainPages.{NamedPages}
use Rattle.plain_pages.specs.Room.{HasRoom, live}
use Rattle.plain_pages.specs.References.{in_file, make, next_page, page_at, words_at, words_of}
use Rattle.plain_pages.specs.WholePages.{AreWhole}
use Rattle.plain_pages.proofs.FileWrites.{filled}
use Rattle.plain_pages.proofs.Makings.{words_fit}
use Rattle.plain_model.specs.State.{PlainState}
use Rattle.plain_model.specs.Unit.{Effect, refused}
use Rattle.plain_model.specs.FileEvents.{console, page_named, write_words}
use Rattle.script_texts.specs.declared.event.Refusal.TheVariants.{NoFile, FileFull}
use Rattle.plain_laws.specs.Whole.{IsWholeMachine}
use Rattle.plain_laws.specs.FileLaws.{HasPage, PutsRow, WritesRow, file_word}
use Rattle.plain_laws.proofs.Rows.{with_row, beside_row, within_row, row_maps, row_files, row_live, row_page, row_others, row_words}
use Rattle.plain_laws.proofs.WordsWritten.{Outcome, no_file, no_room, there, made, outcome, spot, after, filled_whole, filled_live}

-- how many pages more live where a spot names this page, or none
abbrev more_of : Option PageName → ℕ
more_of o = if is_some o then 0 else 1

-- a file that reaches somewhere has at least so many bytes, and no fewer than it had
reaches : (f : PlainFile) (end : ℕ) → (end ≤ (reaching LARGEST_BYTE end f).length) × (length_in LARGEST_BYTE f ≤ (reaching LARGEST_BYTE end f).length)
reaches f end = by (nat_le (length_in LARGEST_BYTE f) end) refl
  where
    by : (b : Bool) → nat_le (length_in LARGEST_BYTE f) end ≡ b → (end ≤ cond b end (length_in LARGEST_BYTE f)) × (length_in LARGEST_BYTE f ≤ cond b end (length_in LARGEST_BYTE f))
    by true is = (omega arith, grind (arith, nat_tests, is))
    by false is = (grind (arith, nat_tests, is), omega arith)

-- the page that a file names
pub file_page : (p : NamedPages) (f : FilePage (List ℕ)) → page_at p (in_file f) ≡ map.get p.files f
unfolding page_at
file_page p f = refl

module _ (s : PlainState) (name : List ℕ) (page offset : ℕ) (words : List ℕ) where
  -- where no file has the name
  pub no_such_file : map.contains_key s.files name ≡ false → write_words s name page offset words ≡ refused s (NoFile name)
  no_such_file absent = by (outcome s name page offset words)
    where
      no_way : (f : PlainFile) → map.get s.files name ≡ Some f → ⊥
      no_way f is = let no : true ≡ false = sym (ap is_some is) ∙ absent in cc no

      by : Outcome s name page offset words → write_words s name page offset words ≡ refused s (NoFile name)
      by (no_file none is) = is
      by (no_room found none room is) = absurd (let no : true ≡ false = sym found ∙ absent in cc no)
      by (there f n found has is) = absurd (no_way f found)
      by (made f found none room is) = absurd (no_way f found)

module _ (s : PlainState) (w : IsWholeMachine s) (name : List ℕ) (page offset : ℕ) (words : List ℕ) where
  abbrev at : FilePage (List ℕ)
  at = spot s name page offset words

  -- pages that have the page, with the words that it had, and all others as they were
  record HasIt (q : NamedPages) : Type 0 where
    it : PageName
    named : page_at q (in_file at) ≡ Some it
    whole : AreWhole q
    held : words_of q it ≡ words_at s.pages (in_file at)
    objects : (n : PageName) → n ≢ it → map.get q.objects n ≡ map.get s.pages.objects n
    maps : q.maps ≡ s.pages.maps
    pages : (other : FilePage (List ℕ)) → other ≢ at → map.get q.files other ≡ map.get s.pages.files other
    lives : live q ≡ live s.pages + more_of (page_at s.pages (in_file at))

  was_there : (n : PageName) → map.get s.pages.files at ≡ Some n → HasIt s.pages
  was_there n is =
      let named = file_page s.pages at ∙ is in
      record {
        it = n;
        named = named;
        whole = w.pages;
        held = ap (λ (o : Option PageName). option_map_or (words_of s.pages) o zero_words) (sym named);
        objects = λ m other. refl;
        maps = refl;
        pages = λ other apart. refl;
        lives = omega (arith, ap (λ (o : Option PageName). more_of o) named);
      }

  is_made : map.get s.pages.files at ≡ None → HasIt (filled s.pages console at)
  unfolding make
  is_made none =
      let q = filled s.pages console at in
      let n = next_page s.pages console in
      let before = file_page s.pages at ∙ none in
      record {
        it = n;
        named = file_page q at ∙ get_put (file_page_total nat_list_cmp_total) (file_page_apart name_cmp_apart) s.pages.files at at n refl;
        whole = filled_whole s name page offset words w none;
        held = ap (λ (o : Option (List ℕ)). unwrap_or o zero_words) (get_put page_cmp_total page_cmp_apart s.pages.objects n n zero_words refl) ∙ ap (λ (o : Option PageName). option_map_or (words_of s.pages) o zero_words) (sym before);
        objects = λ m other. get_put_other page_cmp_total page_cmp_apart s.pages.objects n m zero_words other;
        maps = refl;
        pages = λ other apart. get_put_other (file_page_total nat_list_cmp_total) (file_page_apart name_cmp_apart) s.pages.files at other n apart;
        lives = omega (arith, filled_live s name page offset words w none, ap (λ (o : Option PageName). more_of o) before);
      }

  module _ (within : offset + length words ≤ PAGE_WORDS) (q : NamedPages) (h : HasIt q) (f : PlainFile) where
    abbrev new : PlainState
    new = after s name page offset words q f

    named_now : page_at new.pages (in_file at) ≡ Some h.it
    named_now = row_page (in_file at) q offset words (in_file at) ∙ h.named

    word_now : (k : ℕ) → file_word new name page k ≡ slice_index (with_row (words_of q h.it) offset words) k
    word_now k =
        ap (λ (o : Option PageName). slice_index (option_map_or (words_of new.pages) o zero_words) k) named_now
        ∙ ap (λ ws. slice_index ws k) (row_words (in_file at) words q offset h.it h.named)

    row_put : PutsRow s new name page offset words
    row_put = record {
      there = ap is_some named_now;
      put = λ i below. word_now (offset + i) ∙ within_row words (words_of q h.it) offset i (omega (arith, within, words_fit nat_list_cmp_total q h.whole h.it (map.get q.objects h.it) refl)) below;
      kept = λ k apart. word_now k ∙ beside_row words (words_of q h.it) offset k apart ∙ ap (λ ws. slice_index ws k) h.held;
      objects = λ n other.
          let not_it : page_at q (in_file at) ≢ Some n = λ is. other (named_now ∙ sym h.named ∙ is) in
          row_others (in_file at) q offset words n not_it ∙ h.objects n (λ same. not_it (h.named ∙ ap Some (sym same)));
      maps = row_maps (in_file at) q offset words ∙ h.maps;
      pages = λ other apart. ap (λ (m : map.FinMap _ PageName). map.get m other) (row_files (in_file at) q offset words) ∙ h.pages other apart;
    }

    row_written : map.get s.files name ≡ Some f → WritesRow s new name page offset words
    row_written found = record {
      row = row_put;
      file = reaching LARGEST_BYTE (page * PAGE_WORDS + offset + length words) f;
      named = get_put nat_list_cmp_total name_cmp_apart s.files name name _ refl;
      size = refl;
      reaches = (reaches f (page * PAGE_WORDS + offset + length words)).0;
      longer = λ was is. (let both : Some f ≡ Some was = sym found ∙ is in let same : f ≡ was = cc both in
          subst (λ (g : PlainFile). length_in LARGEST_BYTE g ≤ (reaching LARGEST_BYTE (page * PAGE_WORDS + offset + length words) f).length) same (reaches f (page * PAGE_WORDS + offset + length words)).1);
      others = λ other apart. get_put_other nat_list_cmp_total name_cmp_apart s.files name other _ apart;
      rest = refl;
      live = row_live (in_file at) q offset words ∙ h.lives;
    }

  module _ (exists : map.contains_key s.files name ≡ true) where
    no_none : map.get s.files name ≡ None → ⊥
    no_none none = let no : false ≡ true = sym (ap is_some none) ∙ exists in cc no

    -- where its page is not there, and no page more has room
    pub no_room_for_it : page_at s.pages (page_named name page) ≡ None → s.pages.limit ≤ live s.pages → write_words s name page offset words ≡ refused s (FileFull name)
    unfolding HasRoom make
    no_room_for_it none least = by (outcome s name page offset words)
      where
        by : Outcome s name page offset words → write_words s name page offset words ≡ refused s (FileFull name)
        by (no_file absent is) = absurd (no_none absent)
        by (no_room found absent room is) = is
        by (there f n found has is) = absurd (let no : None ≡ Some n = sym none ∙ file_page s.pages at ∙ has in cc no)
        by (made f found absent room is) = absurd (let more = filled_live s name page offset words w absent in grind (arith, nat_tests, room, more, least))

    -- else the row is written
    pub written : offset + length words ≤ PAGE_WORDS → HasPage s name page ⊎ (live s.pages < s.pages.limit)
        → ((write_words s name page offset words).items ≡ []) × WritesRow s (write_words s name page offset words).state name page offset words
    unfolding HasRoom make
    written within room = by (outcome s name page offset words)
      where
        Written : Effect → Type 0
        Written e = (e.items ≡ []) × WritesRow s e.state name page offset words

        no_way : map.get s.pages.files at ≡ None → HasRoom (filled s.pages console at) console ≡ false → HasPage s name page ⊎ (live s.pages < s.pages.limit) → ⊥
        no_way none full (inl has) = let no : false ≡ true = sym (ap is_some (file_page s.pages at ∙ none)) ∙ has in cc no
        no_way none full (inr fewer) = let more = filled_live s name page offset words w none in grind (arith, nat_tests, full, more, fewer)

        by : Outcome s name page offset words → Written (write_words s name page offset words)
        by (no_file absent is) = absurd (no_none absent)
        by (no_room found absent full is) = absurd (no_way absent full room)
        by (there f n found has is) = subst Written (sym is) (refl, row_written within s.pages (was_there n has) f found)
        by (made f found absent fits is) = subst Written (sym is) (refl, row_written within (filled s.pages console at) (is_made absent) f found)

-- a page of a file has its file
pub page_there : (s : PlainState) → IsWholeMachine s → (name : List ℕ) (page : ℕ) → HasPage s name page → map.contains_key s.files name ≡ true
page_there s w name page has =
    let at : FilePage (List ℕ) = record { file = name; page = page } in
    (w.files.placed at (sym (ap is_some (file_page s.pages at)) ∙ has)).0
