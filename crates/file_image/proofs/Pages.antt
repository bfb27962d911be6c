-- The pages of a file, number by number, and by the name of the file.
use Rattle.std.proofs.Common.{◌≡◌, ℕ, zero, suc, ◌+◌, ◌-◌, ◌<◌, true, cond, List, [], ◌∷◌, ◌++◌, length, map as each, Option, None, Some, refl, sym, ap, ◌∙◌, arith, append_assoc, length-append}
use Rattle.std.specs.List.{cons_option, filter_map, range_with_len}
use Rattle.std.specs.Prelude.{is_some}
use Rattle.std.specs.Option.{option_map, option_map_or}
use Rattle.std.specs.declared.cmp.Ordering.{Ordering}
use Rattle.std.specs.FinMap as map
use Rattle.std.proofs.lemmas.List.{append-nil}
use Rattle.std.proofs.lemmas.List.Elements.{filter_map-append}
use Rattle.machine_names.specs.Orders.{file_page, name_cmp}
use Rattle.machine_names.specs.declared.names.PageName.{PageName}
use Rattle.plain_files.specs.Directory.{Files}
use Rattle.plain_files.specs.NamedFiles.{AreFiled, AreNumbers, name_of, pages_named}
use Rattle.plain_pages.specs.PlainPages.{NumberedPages, PlainPages, refiled}
use Rattle.machine_names.specs.PageWords.{zero_words}
use Rattle.plain_pages.specs.References.{in_file, words_at, words_of, page_at as named_at}
use Rattle.file_tables.proofs.Pages.{page_at}
use Rattle.file_image.specs.Parts.{ImagePage, page, part_bytes, parts_bytes}
use Rattle.file_image.specs.Files.{page_in, pages_below}
use Rattle.file_image.specs.Reading.{page_text, pages_text}

range_more : (a n : ℕ) → range_with_len a (suc n) ≡ range_with_len a n ++ (a + n) ∷ []
range_more a zero = ap (λ k. k ∷ []) (omega arith)
range_more a (suc n) = ap (λ l. a ∷ l) (range_more (a + 1) n ∙ ap (λ k. range_with_len (a + 1) n ++ k ∷ []) (omega arith))

module _ {K : Type 0} {file_cmp : K → K → Ordering} (p : PlainPages file_cmp) (file : K) where
  pub below_none : pages_below p file 0 ≡ []
  unfolding pages_below
  below_none = refl

  pub below_more : (n : ℕ) → pages_below p file (suc n) ≡ pages_below p file n ++ cons_option (page_in p file n) []
  unfolding pages_below
  below_more n =
      ap (filter_map (page_in p file)) (range_more 0 n ∙ ap (λ k. range_with_len 0 n ++ k ∷ []) (omega arith))
      ∙ filter_map-append (page_in p file) (range_with_len 0 n) (n ∷ [])

next : (n : ℕ) → suc n ≡ n + 1
next n = omega arith

module _ (p : NumberedPages) (f : ℕ) where
  -- how many there are, with one number more
  pub count_there : (n : ℕ) (name : PageName) → map.get p.files (file_page f n) ≡ Some name → length (pages_below p f (suc n)) ≡ length (pages_below p f n) + 1
  count_there n name is =
      let page_is : page_in p f n ≡ Some (record { number = n; words = words_of p name }) = ap (option_map (λ m. record { number = n; words = words_of p m })) is in
      ap length (below_more p f n) ∙ length-append (pages_below p f n) (cons_option (page_in p f n) [])
      ∙ ap (λ (o : Option ImagePage). length (pages_below p f n) + length (cons_option o [])) page_is

  pub count_none : (n : ℕ) → map.get p.files (file_page f n) ≡ None → length (pages_below p f (suc n)) ≡ length (pages_below p f n)
  count_none n is =
      let page_is : page_in p f n ≡ None = ap (option_map (λ m. record { number = n; words = words_of p m })) is in
      ap length (below_more p f n ∙ ap (λ (o : Option ImagePage). pages_below p f n ++ cons_option o []) page_is ∙ append-nil (pages_below p f n))

  one_text : (o : Option ImagePage) → parts_bytes (each page (cons_option o [])) ≡ option_map_or (λ q. part_bytes (page q)) o []
  one_text None = refl
  one_text (Some q) = append-nil (part_bytes (page q))

  each_append : (xs ys : List ImagePage) → parts_bytes (each page (xs ++ ys)) ≡ parts_bytes (each page xs) ++ parts_bytes (each page ys)
  each_append [] ys = refl
  each_append (x ∷ xs) ys = ap (λ l. part_bytes (page x) ++ l) (each_append xs ys) ∙ sym (append_assoc (part_bytes (page x)) (parts_bytes (each page xs)) (parts_bytes (each page ys)))

  pub text_none : pages_text p f 0 ≡ []
  text_none = ap (λ l. parts_bytes (each page l)) (below_none p f)

  pub text_more : (n : ℕ) → pages_text p f (suc n) ≡ pages_text p f n ++ page_text p f n
  text_more n =
      ap (λ l. parts_bytes (each page l)) (below_more p f n) ∙ each_append (pages_below p f n) (cons_option (page_in p f n) [])
      ∙ ap (λ l. pages_text p f n ++ l) (one_text (page_in p f n))

  pub text_next : (n : ℕ) → pages_text p f n ++ page_text p f n ≡ pages_text p f (n + 1)
  text_next n = sym (text_more n) ∙ ap (pages_text p f) (omega arith)

  -- a text of more pages begins with that of fewer
  longer : (n k : ℕ) → (more : List ℕ) × (pages_text p f (n + k) ≡ pages_text p f n ++ more)
  longer n zero = ([], ap (pages_text p f) (omega arith) ∙ sym (append-nil (pages_text p f n)))
  longer n (suc k) =
      let l = longer n k in (
        l.0 ++ page_text p f (n + k),
        ap (pages_text p f) (omega arith) ∙ text_more (n + k) ∙ ap (λ t. t ++ page_text p f (n + k)) l.1 ∙ append_assoc (pages_text p f n) l.0 (page_text p f (n + k)),
      )

  pub text_at : (n m : ℕ) → n < m → (more : List ℕ) × (pages_text p f m ≡ pages_text p f n ++ (page_text p f n ++ more))
  text_at n m below =
      let l = longer (suc n) (m - suc n) in (
        l.0,
        ap (pages_text p f) (omega (arith, below)) ∙ l.1 ∙ ap (λ t. t ++ l.0) (text_more n) ∙ append_assoc (pages_text p f n) (page_text p f n) l.0,
      )

  pub none_text : (n : ℕ) → map.get p.files (file_page f n) ≡ None → page_text p f n ≡ []
  none_text n is = ap (λ (o : Option PageName). option_map_or (λ q. part_bytes (page q)) (option_map (λ m. record { number = n; words = words_of p m }) o) []) is

  pub some_text : (n : ℕ) (name : PageName) → map.get p.files (file_page f n) ≡ Some name
      → part_bytes (page (record { number = n; words = words_at p (in_file (file_page f n)) })) ≡ page_text p f n
  unfolding named_at
  some_text n name is =
      let words : words_at p (in_file (file_page f n)) ≡ words_of p name = ap (λ (o : Option PageName). option_map_or (words_of p) o zero_words) is in
      ap (λ ws. part_bytes (page (record { number = n; words = ws }))) words
      ∙ sym (ap (λ (o : Option PageName). option_map_or (λ q. part_bytes (page q)) (option_map (λ m. record { number = n; words = words_of p m }) o) []) is)

  -- how many pages there are, with one number more
  pub count_next : (n count more : ℕ) (o : Option PageName) → o ≡ map.get p.files (file_page f n) → more ≡ cond (is_some o) 1 0 → count ≡ length (pages_below p f n)
      → count + more ≡ length (pages_below p f (n + 1))
  count_next n count more None is one so_far = omega (arith, one, so_far, count_none n (sym is), ap (λ k. length (pages_below p f k)) (next n))
  count_next n count more (Some name) is one so_far = omega (arith, one, so_far, count_there n name (sym is), ap (λ k. length (pages_below p f k)) (next n))

  -- what was written of a page that is there
  pub page_written : (n : ℕ) (o : Option PageName) (words bytes : List ℕ) → is_some o ≡ true → o ≡ map.get p.files (file_page f n) → words ≡ words_at p (in_file (file_page f n))
      → bytes ≡ part_bytes (page (record { number = n; words = words })) → bytes ≡ page_text p f n
  page_written n None words bytes some is words_are bytes_are = absurd (cc some)
  page_written n (Some name) words bytes some is words_are bytes_are =
      bytes_are ∙ ap (λ ws. part_bytes (page (record { number = n; words = ws }))) words_are ∙ some_text n name (sym is)

-- the pages of a file are those under its name
module _ (m : Files) (a : AreNumbers m) (p : NumberedPages) (filed : AreFiled m p.files) (f : ℕ) (there : map.contains_key m f ≡ true) where
  page_same : (n : ℕ) → page_in (refiled name_cmp p (pages_named m p.files)) (name_of m f) n ≡ page_in p f n
  page_same n = ap (option_map (λ name. record { number = n; words = words_of p name })) (page_at m a p.files filed (file_page f n) there)

  pub pages_same : (n : ℕ) → pages_below (refiled name_cmp p (pages_named m p.files)) (name_of m f) n ≡ pages_below p f n
  unfolding pages_below
  pages_same n = ap (λ (h : ℕ → Option ImagePage). filter_map h (range_with_len 0 n)) (λ i k. page_same k i)
