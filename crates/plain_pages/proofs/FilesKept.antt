-- What a change of a file's pages leaves: the pages that are still named, with their words.
use Rattle.std.proofs.Common.{◌≡◌, ◌≢◌, ℕ, zero, suc, ◌+◌, ◌≤◌, Bool, true, false, cond, ◌||◌, List, [], ◌∷◌, Option, None, Some, inl, inr, refl, sym, ◌∙◌, ap, subst, arith, Ordering}
use Rattle.std.specs.Prelude.{nat_lt}
use Rattle.std.specs.List.{sum_by, count_by}
use Rattle.std.specs.Option.{option_map_or}
use Rattle.std.specs.Ordering.{eq_by_cmp}
use Rattle.std.specs.Cmp.{IsTotalOrder, Equal-is}
use Rattle.std.specs.FinMap as map
use Rattle.std.proofs.lemmas.Cmp.{tied_itself}
use Rattle.std.proofs.lemmas.Bool.Decides.{nat_tests}
use Rattle.machine_names.specs.declared.names.PageName.{PageName}
use Rattle.machine_names.specs.Orders.{FilePage, file_page_cmp}
use Rattle.plain_pages.specs.PlainPages.{PlainPages, Maps}
use Rattle.plain_pages.specs.Room.{same_page, uses, live}
use Rattle.plain_pages.specs.References.{drop_unnamed, drop_all_unnamed}
use Rattle.plain_pages.specs.FilePages.{files_with, with_file, other_files, names_of_file, without_file}
use Rattle.plain_pages.specs.WholePages.{AreWhole}
use Rattle.machine_names.proofs.OrderLemmas.{file_page_total, file_page_apart}
use Rattle.plain_pages.proofs.Counts.{has, has_count, total_insert, total_without, values_split, page_tells}
use Rattle.plain_pages.proofs.Whole.{tally, uses_are, live_whole}
use Rattle.plain_pages.proofs.Makings.{uses_objects}
use Rattle.plain_pages.proofs.Kept.{AreStill, still_same, still_on, still_by, still_whole, drop_all_leaves, drop_all_len}

fewer : (j k : ℕ) → j ≤ k → nat_lt 0 k ≡ false → nat_lt 0 j ≡ false
fewer j k le g = grind (arith, nat_tests)

more : (j k : ℕ) → j ≤ k → nat_lt 0 j ≡ true → nat_lt 0 k ≡ true
more j k le g = grind (arith, nat_tests)

-- how often an option names a page
abbrev pub named_by : PageName → Option PageName → ℕ
named_by x n = option_map_or (tally x) n 0

abbrev pub once : Option PageName → List PageName
once n = option_map_or (λ m. m ∷ []) n []

not_once : (x : PageName) (n : Option PageName) → has x (once n) ≡ false → named_by x n ≡ 0
not_once x None h = refl
not_once x (Some m) h = ap (λ b. cond b 1 0) (first (same_page x m) h)
  where
    first : (b : Bool) → (b || false) ≡ false → b ≡ false
    first true k = absurd (cc k)
    first false k = refl

-- a page that is named so is there
there_once : {K : Type 0} {file_cmp : K → K → Ordering} (p : PlainPages file_cmp) → AreWhole p → (x : PageName) (n : Option PageName) → ((m : PageName) → n ≡ Some m → map.contains_key p.objects m ≡ true) → 1 ≤ named_by x n → nat_lt 0 (uses p x) ≡ true
there_once p w x None there some = absurd (omega (arith, some))
there_once p w x (Some m) there some = elim (page_tells x m) [
  | inl e ↦ sym (w.named x) ∙ ap (map.contains_key p.objects) e.1 ∙ there m refl
  | inr e ↦ absurd (let z : named_by x (Some m) ≡ 0 = ap (λ b. cond b 1 0) e.0 in omega (arith, z, some))
]

module _ {K : Type 0} {file_cmp : K → K → Ordering} (o : IsTotalOrder file_cmp) (same : map.IsAntisymmetric file_cmp) where
  abbrev Files : Type 0
  Files = map.FinMap (file_page_cmp file_cmp) PageName

  itself : (f : FilePage K) → eq_by_cmp (file_page_cmp file_cmp) f f ≡ true
  itself f = (Equal-is (file_page_cmp file_cmp f f)).1 (tied_itself (file_page_total o) f)

  apart : (f g : FilePage K) → f ≢ g → eq_by_cmp (file_page_cmp file_cmp) f g ≡ false
  apart f g ne = by (eq_by_cmp (file_page_cmp file_cmp) f g) refl
    where
      by : (b : Bool) → eq_by_cmp (file_page_cmp file_cmp) f g ≡ b → b ≡ false
      by true is = absurd (ne (file_page_apart same f g ((Equal-is (file_page_cmp file_cmp f g)).0 is)))
      by false is = refl

  -- what a file names at the page that was set, and what it and others name elsewhere
  pub set_here : (p : PlainPages file_cmp) (f : FilePage K) (n : Option PageName) → map.get (files_with p f n) f ≡ n
  set_here p f None = map.get-remove (file_page_total o) p.files f f ∙ ap (λ b. cond b None (map.get p.files f)) (itself f)
  set_here p f (Some n) = map.get-insert (file_page_total o) p.files f n f ∙ ap (λ b. cond b (Some n) (map.get p.files f)) (itself f)

  pub set_elsewhere : (p : PlainPages file_cmp) (f g : FilePage K) (n : Option PageName) → g ≢ f → map.get (files_with p f n) g ≡ map.get p.files g
  set_elsewhere p f g None ne = map.get-remove (file_page_total o) p.files f g ∙ ap (λ b. cond b None (map.get p.files g)) (apart g f ne)
  set_elsewhere p f g (Some n) ne = map.get-insert (file_page_total o) p.files f n g ∙ ap (λ b. cond b (Some n) (map.get p.files g)) (apart g f ne)

  -- what files name is known page by page
  pub same_files : (m n : Files) → ((f : FilePage K) → map.get m f ≡ map.get n f) → m ≡ n
  same_files m n each = map.same_map (file_page_total o) (file_page_apart same) m n each

  pub files_apart : (f g : FilePage K) (c : Bool) → eq_by_cmp (file_page_cmp file_cmp) f g ≡ c → (c ≡ true → f ≡ g) × (c ≡ false → f ≢ g)
  files_apart f g c is = (
    λ yes. file_page_apart same f g ((Equal-is (file_page_cmp file_cmp f g)).0 (is ∙ yes)),
    λ no e. (let z : true ≡ false = sym (itself f) ∙ ap (eq_by_cmp (file_page_cmp file_cmp) f) e ∙ is ∙ no in cc z),
  )

  -- the names that files have then
  names_with : (p : PlainPages file_cmp) (f : FilePage K) (n : Option PageName) (x : PageName) → sum_by (tally x) (map.values (files_with p f n)) + named_by x (map.get p.files f) ≡ sum_by (tally x) (map.values p.files) + named_by x n
  names_with p f (Some n) x = total_insert (file_page_total o) (tally x) p.files f n
  names_with p f None x = by (map.get p.files f) refl
    where
      by : (old : Option PageName) → map.get p.files f ≡ old → sum_by (tally x) (map.values (map.remove p.files f)) + named_by x old ≡ sum_by (tally x) (map.values p.files) + 0
      by None is = ap (λ (m : Files). sum_by (tally x) (map.values m) + 0) (same_files (map.remove p.files f) p.files each)
        where
          each : (g : FilePage K) → map.get (map.remove p.files f) g ≡ map.get p.files g
          each g = map.get-remove (file_page_total o) p.files f g ∙ at (eq_by_cmp (file_page_cmp file_cmp) g f) refl
            where
              at : (b : Bool) → eq_by_cmp (file_page_cmp file_cmp) g f ≡ b → cond b None (map.get p.files g) ≡ map.get p.files g
              at true e = sym (ap (map.get p.files) ((files_apart g f true e).0 refl) ∙ is)
              at false e = refl
      by (Some v) is = omega (arith, total_without (file_page_total o) (file_page_apart same) (tally x) p.files f v is)

  module _ (p : PlainPages file_cmp) (f : FilePage K) (n : Option PageName) where
    abbrev set : PlainPages file_cmp
    set = record p { files = files_with p f n }

    -- the page that was named there is dropped, where nothing names it any more
    filed_drops : with_file p f n ≡ drop_all_unnamed set (once (map.get p.files f))
    unfolding with_file
    filed_drops = by (map.get p.files f)
      where
        by : (old : Option PageName) → option_map_or (drop_unnamed set) old set ≡ drop_all_unnamed set (once old)
        by None = refl
        by (Some m) = refl

    filed_is : with_file p f n ≡ record set { objects = (drop_all_unnamed set (once (map.get p.files f))).objects }
    filed_is = filed_drops ∙ drop_all_leaves set (once (map.get p.files f))

    pub filed_files : (with_file p f n).files ≡ files_with p f n
    filed_files = ap (λ (r : PlainPages file_cmp). r.files) filed_is

    pub filed_maps : (with_file p f n).maps ≡ p.maps
    filed_maps = ap (λ (r : PlainPages file_cmp). r.maps) filed_is

    pub uses_filed : (x : PageName) → uses (with_file p f n) x + named_by x (map.get p.files f) ≡ uses p x + named_by x n
    uses_filed x =
        let is : uses (with_file p f n) x ≡ uses set x = ap (λ (r : PlainPages file_cmp). uses r x) filed_is ∙ uses_objects set (drop_all_unnamed set (once (map.get p.files f))).objects x in
        omega (arith, is, uses_are set x, uses_are p x, names_with p f n x)

    module _ (w : AreWhole p) where
      -- the pages that are still named are kept
      pub filed_still : AreStill p (with_file p f n)
      filed_still = subst (λ (r : PlainPages file_cmp). AreStill p r) (sym filed_drops) (still_by p set (once (map.get p.files f)) w refl lost)
        where
          lost : (x : PageName) → has x (once (map.get p.files f)) ≡ false → nat_lt 0 (uses set x) ≡ false → nat_lt 0 (uses p x) ≡ false
          lost x none gone = fewer (uses p x) (uses set x) (omega (arith, uses_are set x, uses_are p x, names_with p f n x, not_once x (map.get p.files f) none)) gone

      module _ (there : (m : PageName) → n ≡ Some m → map.contains_key p.objects m ≡ true) where
        old_named : (x : PageName) → nat_lt 0 (uses (with_file p f n) x) ≡ true → nat_lt 0 (uses p x) ≡ true
        old_named x named = by (named_by x n) refl
          where
            by : (k : ℕ) → named_by x n ≡ k → nat_lt 0 (uses p x) ≡ true
            by zero is = more (uses (with_file p f n) x) (uses p x) (omega (arith, uses_filed x, is)) named
            by (suc k) is = there_once p w x n there (omega (arith, is))

        -- whole pages stay whole, where the page is there
        pub filed_whole : AreWhole (with_file p f n)
        filed_whole = still_whole p (with_file p f n) w filed_still (λ g m h. w.entries g m (sym (ap (λ (q : Maps). map.get q g) filed_maps) ∙ h)) (λ g h. sym (ap (λ (q : Maps). map.contains_key q g) filed_maps) ∙ h) old_named

        -- and there is no page more
        pub live_filed : live (with_file p f n) ≤ live p
        live_filed =
            let objects : map.len (with_file p f n).objects ≤ map.len p.objects = subst (λ (r : PlainPages file_cmp). map.len r.objects ≤ map.len p.objects) (sym filed_drops) (drop_all_len set (once (map.get p.files f))) in
            omega (arith, live_whole p w, live_whole (with_file p f n) filed_whole, objects, ap map.len filed_maps)

  -- a page that is set after it was dropped is set
  pub filed_again : (p : PlainPages file_cmp) → AreWhole p → (f : FilePage K) (n : PageName) → nat_lt 0 (uses (with_file p f None) n) ≡ true → with_file (with_file p f None) f (Some n) ≡ with_file p f (Some n)
  filed_again p w f n named =
      let none : (m : PageName) → None ≡ Some m → map.contains_key p.objects m ≡ true = λ m e. absurd (cc e) in
      let v = filed_whole p f None w none in
      still_same p (with_file (with_file p f None) f (Some n)) (with_file p f (Some n))
      (still_on p (with_file p f None) (with_file (with_file p f None) f (Some n)) (filed_still p f None w) (filed_still (with_file p f None) f (Some n) v)
      (old_named (with_file p f None) f (Some n) v (λ m e. (let is : n ≡ m = cc e in v.named m ∙ ap (λ (x : PageName). nat_lt 0 (uses (with_file p f None) x)) (sym is) ∙ named))))
      (filed_still p f (Some n) w)
      (filed_maps (with_file p f None) f (Some n) ∙ filed_maps p f None ∙ sym (filed_maps p f (Some n)))
      (filed_files (with_file p f None) f (Some n) ∙ same_files (map.insert (with_file p f None).files f n) (map.insert p.files f n) each ∙ sym (filed_files p f (Some n)))
    where
      each : (g : FilePage K) → map.get (map.insert (with_file p f None).files f n) g ≡ map.get (map.insert p.files f n) g
      each g =
          map.get-insert (file_page_total o) (with_file p f None).files f n g
          ∙ by (eq_by_cmp (file_page_cmp file_cmp) g f) refl
          ∙ sym (map.get-insert (file_page_total o) p.files f n g)
        where
          by : (b : Bool) → eq_by_cmp (file_page_cmp file_cmp) g f ≡ b → cond b (Some n) (map.get (with_file p f None).files g) ≡ cond b (Some n) (map.get p.files g)
          by true e = refl
          by false e = ap (λ (m : Files). map.get m g) (filed_files p f None) ∙ set_elsewhere p f g None ((files_apart g f false e).1 refl)

  -- the pages without those of a file
  module _ (p : PlainPages file_cmp) (file : K) where
    abbrev removed : PlainPages file_cmp
    removed = record p { files = other_files p file }

    without_is : without_file p file ≡ record removed { objects = (drop_all_unnamed removed (names_of_file p file)).objects }
    unfolding without_file
    without_is = drop_all_leaves removed (names_of_file p file)

    pub without_files : (without_file p file).files ≡ other_files p file
    without_files = ap (λ (r : PlainPages file_cmp). r.files) without_is

    pub without_maps : (without_file p file).maps ≡ p.maps
    without_maps = ap (λ (r : PlainPages file_cmp). r.maps) without_is

    names_removed : (x : PageName) → uses removed x + sum_by (tally x) (names_of_file p file) ≡ uses p x
    names_removed x = omega (arith, uses_are removed x, uses_are p x, values_split (file_page_cmp file_cmp) (tally x) (file_page_total o) (file_page_apart same) p.files (λ f. eq_by_cmp file_cmp f.file file))

    pub uses_without : (x : PageName) → uses (without_file p file) x + sum_by (tally x) (names_of_file p file) ≡ uses p x
    uses_without x =
        let is : uses (without_file p file) x ≡ uses removed x = ap (λ (r : PlainPages file_cmp). uses r x) without_is ∙ uses_objects removed (drop_all_unnamed removed (names_of_file p file)).objects x in
        omega (arith, is, names_removed x)

    module _ (w : AreWhole p) where
      pub without_still : AreStill p (without_file p file)
      unfolding without_file
      without_still = still_by p removed (names_of_file p file) w refl lost
        where
          lost : (x : PageName) → has x (names_of_file p file) ≡ false → nat_lt 0 (uses removed x) ≡ false → nat_lt 0 (uses p x) ≡ false
          lost x none gone =
              let zero : nat_lt 0 (count_by (same_page x) (names_of_file p file)) ≡ false = sym (has_count x (names_of_file p file)) ∙ none in
              neither (uses removed x) (count_by (same_page x) (names_of_file p file)) (uses p x) (names_removed x) gone zero
            where
              neither : (j k i : ℕ) → j + k ≡ i → nat_lt 0 j ≡ false → nat_lt 0 k ≡ false → nat_lt 0 i ≡ false
              neither j k i is a b = grind (arith, nat_tests)

      pub without_whole : AreWhole (without_file p file)
      without_whole = still_whole p (without_file p file) w without_still (λ g m h. w.entries g m (sym (ap (λ (q : Maps). map.get q g) without_maps) ∙ h)) (λ g h. sym (ap (λ (q : Maps). map.contains_key q g) without_maps) ∙ h) (λ x named. more (uses (without_file p file) x) (uses p x) (omega (arith, uses_without x)) named)

      pub live_without : live (without_file p file) ≤ live p
      unfolding without_file
      live_without = omega (arith, live_whole p w, live_whole (without_file p file) without_whole, drop_all_len removed (names_of_file p file), ap map.len without_maps)
