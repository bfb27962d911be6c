-- A page of a file is shown with each of its words that isn't 0.
use Rattle.std.proofs.Common.{◌≡◌, ◌≢◌, ℕ, zero, suc, ◌+◌, Bool, true, false, cond, List, [], ◌∷◌, ◌++◌, Option, None, Some, ◌⊎◌, inl, inr, refl, sym, ◌∙◌, ap, subst, arith}
use Rattle.std.specs.Prelude.{◌==◌, is_some, IsSome, slice_index}
use Rattle.std.specs.Option.{option_map_or}
use Rattle.std.specs.List.{Contains}
use Rattle.std.specs.FinMap as map
use Rattle.std.proofs.lemmas.Bool.{eqb-true, eq-eqb}
use Rattle.machine_names.specs.declared.names.PageName.{PageName}
use Rattle.machine_names.specs.PageWords.{zero_words}
use Rattle.script_texts.specs.declared.event.Item.{Item}
use Rattle.script_texts.specs.declared.event.Item.TheVariants.{PageLine, PageWord}
use Rattle.script_texts.specs.declared.event.Refusal.TheVariants.{NoFile, NoFilePage}
use Rattle.plain_files.specs.Sizes.{PlainFile}
use Rattle.plain_pages.specs.References.{page_at, words_of}
use Rattle.plain_model.specs.State.{PlainState}
use Rattle.plain_model.specs.Unit.{Effect, refused}
use Rattle.plain_model.specs.FileEvents.{page_named, words_shown, show_page}
use Rattle.plain_laws.specs.FileLaws.{HasPage, file_word}

in_rest : {X : Type 0} (y x : X) (xs : List X) → Contains xs x → Contains (y ∷ xs) x
in_rest y x xs has = (suc has.0, omega (arith, has.1), has.2)

first_or_rest : {X : Type 0} (y x : X) (xs : List X) → Contains (y ∷ xs) x → (y ≡ x) ⊎ Contains xs x
first_or_rest y x xs (zero, below, is) = inl is
first_or_rest y x xs (suc k, below, is) = inr (k, omega (arith, below), is)

-- where a word of a list is shown, it stands there, and isn't 0
shown_stands : (ws : List ℕ) (from offset word : ℕ) → Contains (words_shown from ws) (PageWord offset word) → (i : ℕ) × (offset ≡ from + i) × (slice_index ws i ≡ word) × (word ≢ 0)
shown_stands [] from offset word has = absurd (omega (arith, has.1))
shown_stands (w ∷ ws) from offset word has = by (λ rest. shown_stands ws (from + 1) offset word rest) (w == 0) refl has
  where
    Stands : Type 0
    Stands = (i : ℕ) × (offset ≡ from + i) × (slice_index (w ∷ ws) i ≡ word) × (word ≢ 0)

    InRest : Type 0
    InRest = Contains (words_shown (from + 1) ws) (PageWord offset word)

    Later : Type 0
    Later = (i : ℕ) × (offset ≡ from + 1 + i) × (slice_index ws i ≡ word) × (word ≢ 0)

    later : Later → Stands
    later r = (suc r.0, omega (arith, r.1), r.2, r.3)

    here : (w == 0) ≡ false → PageWord from w ≡ PageWord offset word → Stands
    here some same =
        let at : from ≡ offset = cc same in
        let is : w ≡ word = cc same in
        (0, omega (arith, at), is, λ none. (let no : true ≡ false = sym (eq-eqb w 0 (is ∙ none)) ∙ some in cc no))

    by : (InRest → Later) → (b : Bool) → (w == 0) ≡ b → Contains (cond b [] (PageWord from w ∷ []) ++ words_shown (from + 1) ws) (PageWord offset word) → Stands
    by further true none rest = later (further rest)
    by further false some either = elim (first_or_rest (PageWord from w) (PageWord offset word) (words_shown (from + 1) ws) either) [
      | inl same ↦ here some same
      | inr rest ↦ later (further rest)
    ]

-- and each word that isn't 0 is shown
stands_shown : (ws : List ℕ) (from i : ℕ) → slice_index ws i ≢ 0 → Contains (words_shown from ws) (PageWord (from + i) (slice_index ws i))
stands_shown [] from i some = absurd (some refl)
stands_shown (w ∷ ws) from zero some = by (w == 0) refl
  where
    by : (b : Bool) → (w == 0) ≡ b → Contains (cond b [] (PageWord from w ∷ []) ++ words_shown (from + 1) ws) (PageWord (from + 0) w)
    by true none = absurd (some (eqb-true w 0 none))
    by false is = (0, omega arith, ap (λ k. PageWord k w) (omega arith))
stands_shown (w ∷ ws) from (suc i) some =
    let at : from + 1 + i ≡ from + suc i = omega arith in
    by (subst (λ k. Contains (words_shown (from + 1) ws) (PageWord k (slice_index ws i))) at (stands_shown ws (from + 1) i some)) (w == 0)
  where
    by : Contains (words_shown (from + 1) ws) (PageWord (from + suc i) (slice_index ws i)) → (b : Bool) → Contains (cond b [] (PageWord from w ∷ []) ++ words_shown (from + 1) ws) (PageWord (from + suc i) (slice_index ws i))
    by rest true = rest
    by rest false = in_rest (PageWord from w) (PageWord (from + suc i) (slice_index ws i)) (words_shown (from + 1) ws) rest

module _ (s : PlainState) (name : List ℕ) (page : ℕ) where
  -- the items of a page that is there
  abbrev items_of : PageName → List Item
  items_of n = PageLine name page ∷ words_shown 0 (words_of s.pages n)

  abbrev shows : PlainFile → Effect
  shows f = option_map_or (λ n. record { state = s; items = items_of n }) (page_at s.pages (page_named name page)) (refused s (NoFilePage name))

  found : (o : Option PlainFile) → map.get s.files name ≡ o → show_page s name page ≡ option_map_or shows o (refused s (NoFile name))
  found o is = ap (λ (x : Option PlainFile). option_map_or shows x (refused s (NoFile name))) is

  placed : (o : Option PageName) → page_at s.pages (page_named name page) ≡ o → (f : PlainFile) → shows f ≡ option_map_or (λ n. record { state = s; items = items_of n }) o (refused s (NoFilePage name))
  placed o is f = ap (λ (x : Option PageName). option_map_or (λ n. record { state = s; items = items_of n }) x (refused s (NoFilePage name))) is

  -- where it is refused
  pub no_such_file : map.contains_key s.files name ≡ false → show_page s name page ≡ refused s (NoFile name)
  no_such_file absent = by (map.get s.files name) refl absent
    where
      by : (o : Option PlainFile) → map.get s.files name ≡ o → is_some o ≡ false → show_page s name page ≡ refused s (NoFile name)
      by None is none = found None is
      by (Some f) is none = absurd (cc none)

  with_file : map.contains_key s.files name ≡ true → (o : Option PageName) → page_at s.pages (page_named name page) ≡ o → show_page s name page ≡ option_map_or (λ n. record { state = s; items = items_of n }) o (refused s (NoFilePage name))
  with_file there o is = by (map.get s.files name) refl there
    where
      by : (x : Option PlainFile) → map.get s.files name ≡ x → is_some x ≡ true → show_page s name page ≡ option_map_or (λ n. record { state = s; items = items_of n }) o (refused s (NoFilePage name))
      by None none some = absurd (cc some)
      by (Some f) at some = found (Some f) at ∙ placed o is f

  pub no_such_page : map.contains_key s.files name ≡ true → page_at s.pages (page_named name page) ≡ None → show_page s name page ≡ refused s (NoFilePage name)
  no_such_page there none = with_file there None none

  -- nothing changes
  pub shown_stays : (show_page s name page).state ≡ s
  shown_stays = by (map.get s.files name) refl
    where
      at : (f : PlainFile) (o : Option PageName) → page_at s.pages (page_named name page) ≡ o → (shows f).state ≡ s
      at f None is = ap (λ (e : Effect). e.state) (placed None is f)
      at f (Some n) is = ap (λ (e : Effect). e.state) (placed (Some n) is f)

      by : (o : Option PlainFile) → map.get s.files name ≡ o → (show_page s name page).state ≡ s
      by None is = ap (λ (e : Effect). e.state) (found None is)
      by (Some f) is = ap (λ (e : Effect). e.state) (found (Some f) is) ∙ at f (page_at s.pages (page_named name page)) refl

  -- what it shows is each word that isn't 0, and no other
  module _ (there : map.contains_key s.files name ≡ true) (has : HasPage s name page) where
    abbrev the_page : Type 0
    the_page = (n : PageName) × (page_at s.pages (page_named name page) ≡ Some n)

    its_page : the_page
    its_page = by (page_at s.pages (page_named name page)) refl has
      where
        by : (o : Option PageName) → page_at s.pages (page_named name page) ≡ o → IsSome o → the_page
        by None none some = absurd (cc some)
        by (Some n) is some = (n, is)

    shows_it : (show_page s name page).items ≡ items_of its_page.0
    shows_it = ap (λ (e : Effect). e.items) (with_file there (Some its_page.0) its_page.1)

    word_is : (offset : ℕ) → file_word s name page offset ≡ slice_index (words_of s.pages its_page.0) offset
    word_is offset = ap (λ (o : Option PageName). slice_index (option_map_or (words_of s.pages) o zero_words) offset) its_page.1

    pub is_shown : (offset word : ℕ) → file_word s name page offset ≡ word → word ≢ 0 → Contains (show_page s name page).items (PageWord offset word)
    is_shown offset word is some =
        let ws = words_of s.pages its_page.0 in
        let same : slice_index ws offset ≡ word = sym (word_is offset) ∙ is in
        let from : 0 + offset ≡ offset = omega arith in
        let stands = subst (λ k. Contains (words_shown 0 ws) (PageWord k (slice_index ws offset))) from (stands_shown ws 0 offset (λ none. some (sym same ∙ none))) in
        let shown : Contains (words_shown 0 ws) (PageWord offset word) = subst (λ x. Contains (words_shown 0 ws) (PageWord offset x)) same stands in
        subst (λ xs. Contains xs (PageWord offset word)) (sym shows_it) (in_rest (PageLine name page) (PageWord offset word) (words_shown 0 ws) shown)

    pub was_shown : (offset word : ℕ) → Contains (show_page s name page).items (PageWord offset word) → (file_word s name page offset ≡ word) × (word ≢ 0)
    was_shown offset word shown = elim (first_or_rest (PageLine name page) (PageWord offset word) (words_shown 0 ws) (subst (λ xs. Contains xs (PageWord offset word)) shows_it shown)) [
      | inl line ↦ absurd (cc line)
      | inr rest ↦ (let r = shown_stands ws 0 offset word rest in (word_is offset ∙ ap (slice_index ws) (r.1 ∙ omega arith) ∙ r.2, r.3))
    ]
      where
        ws : List ℕ
        ws = words_of s.pages its_page.0
