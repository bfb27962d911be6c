-- Pages without the maps of some forks: it is the same whether these go at once or one after another, and whatever files are known by.
use Rattle.std.proofs.Common.{◌≡◌, ℕ, ◌+◌, ◌≤◌, ◌&&◌, ◌||◌, Bool, true, false, cond, not, List, [], Option, None, Some, inl, inr, refl, sym, ◌∙◌, ap, arith, Ordering}
use Rattle.std.specs.Prelude.{◌==◌, nat_lt}
use Rattle.std.specs.List.{count_by, sum_by, filter_map}
use Rattle.std.specs.Option.{option_map_or}
use Rattle.std.specs.FinMap as map
use Rattle.std.proofs.lemmas.Bool.Decides.{nat_tests}
use Rattle.machine_names.specs.declared.names.ForkName.{ForkName}
use Rattle.machine_names.specs.declared.names.PageName.{PageName}
use Rattle.machine_names.specs.Orders.{file_page_cmp, fork_cmp, same_fork}
use Rattle.machine_names.proofs.OrderLemmas.{fork_cmp_apart, fork_cmp_total, page_cmp_apart}
use Rattle.plain_pages.specs.PlainPages.{Map, Maps, PlainPages, refiled}
use Rattle.plain_pages.specs.Room.{page_in, same_page, uses}
use Rattle.plain_pages.specs.References.{drop_all_unnamed, names_in, without_fork}
use Rattle.plain_pages.proofs.Counts.{count_filtered, has, has_count, values_split}
use Rattle.plain_pages.proofs.Kept.{drop_all_leaves, same_pages, total_remove}
use Rattle.plain_pages.proofs.Makings.{uses_objects}
use Rattle.plain_pages.proofs.Refiled.{NameAlike, uses_refiled}
use Rattle.plain_pages.proofs.Whole.{map_uses, uses_are}
use Rattle.plain_model.specs.ForkCalls.{without_maps}
use Rattle.plain_model.proofs.Dropped.{drop_all_objects}
use Rattle.plain_model.proofs.ForkMaps.{cases_name, get_gone, get_gone_other, gone_itself, names_same, same_forks, same_itself}

-- what is left where some forks go
pub get_left : {X : Type 0} (m : map.FinMap fork_cmp X) (goes : ForkName → Bool) (q : ForkName) → map.get (map.retain_keys m (λ f. not (goes f))) q ≡ cond (not (goes q)) (map.get m q) None
get_left m goes q = map.get-retain_keys m (λ f. not (goes f)) q (λ x tied. ap (λ n. not (goes n)) (sym (fork_cmp_apart q x tied)))

-- who goes with the others or with one
pub left_twice : {X : Type 0} (m : map.FinMap fork_cmp X) (a b : ForkName → Bool) → map.retain_keys (map.retain_keys m (λ f. not (a f))) (λ f. not (b f)) ≡ map.retain_keys m (λ f. not (a f || b f))
left_twice {X} m a b = same_forks _ _ (λ q. get_left (map.retain_keys m (λ f. not (a f))) b q ∙ ap (λ o. cond (not (b q)) o None) (get_left m a q) ∙ by (a q) (b q) (map.get m q) ∙ sym (get_left m (λ f. a f || b f) q))
  where
    by : (c d : Bool) (o : Option X) → cond (not d) (cond (not c) o None) None ≡ cond (not (c || d)) o None
    by true true o = refl
    by true false o = refl
    by false true o = refl
    by false false o = refl

-- one alone
pub left_one : {X : Type 0} (m : map.FinMap fork_cmp X) (f : ForkName) → map.retain_keys m (λ k. not (same_fork k f)) ≡ map.remove m f
left_one m f = same_forks _ _ (λ q. get_left m (λ k. same_fork k f) q ∙ elim (cases_name q f) [
  | inl e ↦ ap (λ b. cond (not b) (map.get m q) None) (ap (λ k. same_fork k f) e ∙ same_itself f) ∙ sym (get_gone m f q e)
  | inr ne ↦ ap (λ b. cond (not b) (map.get m q) None) (apart q ne (same_fork q f) refl) ∙ sym (get_gone_other m f q ne)
])
  where
    apart : (q : ForkName) → (q ≡ f → ⊥) → (b : Bool) → same_fork q f ≡ b → same_fork q f ≡ false
    apart q ne true is = absurd (ne (names_same q f is))
    apart q ne false is = is

-- none
pub left_all : {X : Type 0} (m : map.FinMap fork_cmp X) → map.retain_keys m (λ f. not false) ≡ m
left_all m = same_forks _ _ (λ q. get_left m (λ f. false) q)

-- whether a page stays that was named so often, and then is
abbrev pub stays : ℕ → ℕ → Bool
stays i j = (i == 0) || nat_lt 0 j

stays_twice : {X : Type 0} (i j k : ℕ) (o : Option X) → j ≤ i → k ≤ j → cond (stays j k) (cond (stays i j) o None) None ≡ cond (stays i k) o None
stays_twice i j k o first second = by (i == 0) (j == 0) (nat_lt 0 j) (nat_lt 0 k) refl refl refl refl
  where
    by : (a b c d : Bool) → (i == 0) ≡ a → (j == 0) ≡ b → nat_lt 0 j ≡ c → nat_lt 0 k ≡ d → cond (b || d) (cond (a || c) o None) None ≡ cond (a || d) o None
    by a true true d x y z w = absurd (let no : true ≡ false = grind (arith, nat_tests, y, z) in cc no)
    by a false false d x y z w = absurd (let no : true ≡ false = grind (arith, nat_tests, y, z) in cc no)
    by a true false true x y z w = absurd (let no : true ≡ false = grind (arith, nat_tests, y, w, second) in cc no)
    by true true false false x y z w = refl
    by false true false false x y z w = refl
    by true false true d x y z w = absurd (let no : true ≡ false = grind (arith, nat_tests, x, z, first) in cc no)
    by false false true true x y z w = refl
    by false false true false x y z w = refl

-- a page that loses the names of one map
stays_dropped : {X : Type 0} (i j k : ℕ) (o : Option X) → j + k ≡ i → cond (nat_lt 0 k && (j == 0)) None o ≡ cond (stays i j) o None
stays_dropped i j k o is = by (i == 0) (j == 0) (nat_lt 0 j) (nat_lt 0 k) refl refl refl refl
  where
    by : (a b c d : Bool) → (i == 0) ≡ a → (j == 0) ≡ b → nat_lt 0 j ≡ c → nat_lt 0 k ≡ d → cond (d && b) None o ≡ cond (a || c) o None
    by a true true d x y z w = absurd (let no : true ≡ false = grind (arith, nat_tests, y, z) in cc no)
    by a false false d x y z w = absurd (let no : true ≡ false = grind (arith, nat_tests, y, z) in cc no)
    by true true false true x y z w = absurd (let no : true ≡ false = grind (arith, nat_tests, x, w, is) in cc no)
    by false true false true x y z w = refl
    by true true false false x y z w = refl
    by false true false false x y z w = absurd (let no : true ≡ false = grind (arith, nat_tests, x, y, w, is) in cc no)
    by true false true d x y z w = absurd (let no : true ≡ false = grind (arith, nat_tests, x, y, is) in cc no)
    by false false true true x y z w = refl
    by false false true false x y z w = refl

module _ {K : Type 0} {file_cmp : K → K → Ordering} where
  -- the pages with the maps that are left
  abbrev pub maps_left : PlainPages file_cmp → (ForkName → Bool) → PlainPages file_cmp
  maps_left p goes = record p { maps = map.retain_keys p.maps (λ f. not (goes f)) }

  -- each page is named as often as it was, or less often
  pub left_uses : (p : PlainPages file_cmp) (goes : ForkName → Bool) (n : PageName) → uses (maps_left p goes) n ≤ uses p n
  left_uses p goes n = omega (arith, uses_are (maps_left p goes) n, uses_are p n, values_split fork_cmp (map_uses n) fork_cmp_total fork_cmp_apart p.maps goes)

  -- the words of those that keep a name
  pub still_words : (old new : PlainPages file_cmp) (n : PageName) → map.get (map.retain_keys new.objects (λ m. stays (uses old m) (uses new m))) n ≡ cond (stays (uses old n) (uses new n)) (map.get new.objects n) None
  still_words old new n = map.get-retain_keys new.objects (λ x. stays (uses old x) (uses new x)) n (λ x tied. ap (λ y. stays (uses old y) (uses new y)) (sym (page_cmp_apart n x tied)))

  pub gone_words : (p : PlainPages file_cmp) (goes : ForkName → Bool) (n : PageName) → map.get (without_maps p goes).objects n ≡ cond (stays (uses p n) (uses (maps_left p goes) n)) (map.get p.objects n) None
  unfolding without_maps
  gone_words p goes n = still_words p (maps_left p goes) n

  -- but for its words it is the pages with the maps that are left
  pub gone_leaves : (p : PlainPages file_cmp) (goes : ForkName → Bool) → without_maps p goes ≡ record (maps_left p goes) { objects = (without_maps p goes).objects }
  unfolding without_maps
  gone_leaves p goes = refl

  pub gone_uses : (p : PlainPages file_cmp) (goes : ForkName → Bool) (n : PageName) → uses (without_maps p goes) n ≡ uses (maps_left p goes) n
  gone_uses p goes n = ap (λ (q : PlainPages file_cmp). uses q n) (gone_leaves p goes) ∙ uses_objects (maps_left p goes) (without_maps p goes).objects n

  -- two are one after the other
  pub gone_twice : (p : PlainPages file_cmp) (a b : ForkName → Bool) → without_maps (without_maps p a) b ≡ without_maps p (λ f. a f || b f)
  gone_twice p a b =
      same_pages (without_maps mid b) (without_maps p both) words
      (ap (λ (q : PlainPages file_cmp). q.maps) (gone_leaves mid b) ∙ maps ∙ sym (ap (λ (q : PlainPages file_cmp). q.maps) (gone_leaves p both)))
      (ap (λ (q : PlainPages file_cmp). q.files) others) (ap (λ (q : PlainPages file_cmp). q.page_serials) others)
      (ap (λ (q : PlainPages file_cmp). q.console_serial) others) (ap (λ (q : PlainPages file_cmp). q.limit) others)
    where
      both : ForkName → Bool
      both f = a f || b f

      mid : PlainPages file_cmp
      mid = without_maps p a

      maps : map.retain_keys mid.maps (λ f. not (b f)) ≡ map.retain_keys p.maps (λ f. not (both f))
      maps = ap (λ (q : PlainPages file_cmp). map.retain_keys q.maps (λ f. not (b f))) (gone_leaves p a) ∙ left_twice p.maps a b

      same_but : maps_left mid b ≡ record (maps_left p both) { objects = mid.objects }
      same_but = ap (λ (q : PlainPages file_cmp). maps_left q b) (gone_leaves p a) ∙ (λ i. record p { maps = left_twice p.maps a b i; objects = mid.objects })

      uses_then : (n : PageName) → uses (maps_left mid b) n ≡ uses (maps_left p both) n
      uses_then n = ap (λ (q : PlainPages file_cmp). uses q n) same_but ∙ uses_objects (maps_left p both) mid.objects n

      words : (n : PageName) → map.get (without_maps mid b).objects n ≡ map.get (without_maps p both).objects n
      words n =
          gone_words mid b n
          ∙ ap (λ o. cond (stays (uses mid n) (uses (maps_left mid b) n)) o None) (gone_words p a n)
          ∙ ap (λ j. cond (stays j (uses (maps_left mid b) n)) (cond (stays (uses p n) (uses (maps_left p a) n)) (map.get p.objects n) None) None) (gone_uses p a n)
          ∙ stays_twice (uses p n) (uses (maps_left p a) n) (uses (maps_left mid b) n) (map.get p.objects n) (left_uses p a n) (omega (arith, left_uses mid b n, gone_uses p a n))
          ∙ ap (λ k. cond (stays (uses p n) k) (map.get p.objects n) None) (uses_then n)
          ∙ sym (gone_words p both n)

      -- but for the words and the maps
      others : record (without_maps mid b) { objects = p.objects; maps = p.maps } ≡ record (without_maps p both) { objects = p.objects; maps = p.maps }
      others =
          ap (λ (q : PlainPages file_cmp). record q { objects = p.objects; maps = p.maps }) (gone_leaves mid b ∙ ap (λ (q : PlainPages file_cmp). record (maps_left q b) { objects = (without_maps mid b).objects }) (gone_leaves p a))
          ∙ sym (ap (λ (q : PlainPages file_cmp). record q { objects = p.objects; maps = p.maps }) (gone_leaves p both))

  -- the names of a fork's map
  module _ (p : PlainPages file_cmp) (f : ForkName) where
    abbrev removed : PlainPages file_cmp
    removed = record p { maps = map.remove p.maps f }

    one_maps : maps_left p (λ k. same_fork k f) ≡ removed
    one_maps = λ i. record p { maps = left_one p.maps f i }

    its_uses : (n : PageName) → uses removed n + count_by (same_page n) (names_in p f) ≡ uses p n
    its_uses n = by (map.get p.maps f) refl
      where
        by : (o : Option Map) → map.get p.maps f ≡ o → uses removed n + count_by (same_page n) (option_map_or (filter_map page_in) o []) ≡ uses p n
        by None none = omega (arith, ap (λ (m : Maps). uses (record p { maps = m }) n) (gone_itself p.maps f none))
        by (Some m) there = omega (arith, uses_are removed n, uses_are p n, total_remove (map_uses n) p.maps f m there, count_filtered (same_page n) page_in m)

    -- one alone is the fork's end
    pub gone_one : without_maps p (λ k. same_fork k f) ≡ without_fork p f
    unfolding without_fork
    gone_one =
        same_pages (without_maps p (λ k. same_fork k f)) (drop_all_unnamed removed (names_in p f)) words
        (ap (λ (q : PlainPages file_cmp). q.maps) others) (ap (λ (q : PlainPages file_cmp). q.files) others)
        (ap (λ (q : PlainPages file_cmp). q.page_serials) others) (ap (λ (q : PlainPages file_cmp). q.console_serial) others) (ap (λ (q : PlainPages file_cmp). q.limit) others)
      where
        others : record (without_maps p (λ k. same_fork k f)) { objects = p.objects } ≡ record (drop_all_unnamed removed (names_in p f)) { objects = p.objects }
        others =
            ap (λ (q : PlainPages file_cmp). record q { objects = p.objects }) (gone_leaves p (λ k. same_fork k f)) ∙ one_maps
            ∙ sym (ap (λ (q : PlainPages file_cmp). record q { objects = p.objects }) (drop_all_leaves removed (names_in p f)))

        words : (n : PageName) → map.get (without_maps p (λ k. same_fork k f)).objects n ≡ map.get (drop_all_unnamed removed (names_in p f)).objects n
        words n =
            gone_words p (λ k. same_fork k f) n
            ∙ ap (λ (q : PlainPages file_cmp). cond (stays (uses p n) (uses q n)) (map.get p.objects n) None) one_maps
            ∙ sym (stays_dropped (uses p n) (uses removed n) (count_by (same_page n) (names_in p f)) (map.get p.objects n) (its_uses n))
            ∙ ap (λ b. cond (b && (uses removed n == 0)) None (map.get p.objects n)) (sym (has_count n (names_in p f)))
            ∙ sym (drop_all_objects removed (names_in p f) n)

  -- nobody goes
  pub gone_none : (p : PlainPages file_cmp) → without_maps p (λ f. false) ≡ p
  gone_none p =
      same_pages (without_maps p (λ f. false)) p words (ap (λ (q : PlainPages file_cmp). q.maps) others) (ap (λ (q : PlainPages file_cmp). q.files) others)
      (ap (λ (q : PlainPages file_cmp). q.page_serials) others) (ap (λ (q : PlainPages file_cmp). q.console_serial) others) (ap (λ (q : PlainPages file_cmp). q.limit) others)
    where
      maps : maps_left p (λ f. false) ≡ p
      maps = λ i. record p { maps = left_all p.maps i }

      others : record (without_maps p (λ f. false)) { objects = p.objects } ≡ p
      others = ap (λ (q : PlainPages file_cmp). record q { objects = p.objects }) (gone_leaves p (λ f. false)) ∙ maps

      words : (n : PageName) → map.get (without_maps p (λ f. false)).objects n ≡ map.get p.objects n
      words n = gone_words p (λ f. false) n ∙ ap (λ (q : PlainPages file_cmp). cond (stays (uses p n) (uses q n)) (map.get p.objects n) None) maps ∙ always (uses p n) (map.get p.objects n)
        where
          always : (k : ℕ) (o : Option (List ℕ)) → cond (stays k k) o None ≡ o
          always k o = by (k == 0) (nat_lt 0 k) refl refl
            where
              by : (a b : Bool) → (k == 0) ≡ a → nat_lt 0 k ≡ b → cond (a || b) o None ≡ o
              by true b x y = refl
              by false true x y = refl
              by false false x y = absurd (let no : true ≡ false = grind (arith, nat_tests, x, y) in cc no)

-- and it does not depend on what files are known by
pub gone_refiled : {K L : Type 0} {file_cmp : K → K → Ordering} (other_cmp : L → L → Ordering) (files : map.FinMap (file_page_cmp other_cmp) PageName) (p : PlainPages file_cmp) (goes : ForkName → Bool) → NameAlike other_cmp p files
    → without_maps (refiled other_cmp p files) goes ≡ refiled other_cmp (without_maps p goes) files
unfolding without_maps
gone_refiled {file_cmp = file_cmp} other_cmp files p goes alike = λ i. record (refiled other_cmp (maps_left p goes) files) { objects = map.retain_keys p.objects (λ n. stays (uses_refiled other_cmp p files alike n i) (uses_refiled other_cmp (maps_left p goes) files alike n i)) }
