-- What an entry that is set anew, and a fork that ends, leave: the pages that are still named, with their words.
use Rattle.std.proofs.Common.{◌≡◌, ℕ, zero, suc, ◌+◌, ◌-◌, ◌<◌, ◌≤◌, Bool, true, false, cond, ◌&&◌, ◌||◌, List, [], ◌∷◌, length, Option, None, Some, inl, inr, refl, sym, ◌∙◌, ap, subst, arith, Ordering}
use Rattle.std.specs.Prelude.{◌==◌, nat_lt, is_some, slice_get, slice_index, slice_set, IsSome}
use Rattle.std.specs.List.{sum_by, filter_map}
use Rattle.std.specs.Option.{option_map_or, option_and_then}
use Rattle.std.specs.Ordering.{eq_by_cmp, is_eq}
use Rattle.std.specs.FinMap as map
use Rattle.std.proofs.lemmas.Cmp.{tied_itself}
use Rattle.std.proofs.lemmas.List.{length-set}
use Rattle.std.proofs.lemmas.Bool.Decides.{nat_tests}
use Rattle.outside.specs.declared.TheConstants.{PAGE_WORDS}
use Rattle.machine_names.specs.declared.names.TheConstants.{SPACE_PAGES}
use Rattle.machine_names.specs.declared.names.ForkName.{ForkName}
use Rattle.machine_names.specs.declared.names.PageName.{PageName}
use Rattle.machine_names.specs.declared.names.Slot.{Slot}
use Rattle.machine_names.specs.declared.names.Access.{Access}
use Rattle.plain_pages.specs.declared.map.MapEntry.{MapEntry}
use Rattle.plain_pages.specs.declared.map.MapEntry.TheVariants.{Empty, Names, Follows}
use Rattle.plain_pages.specs.declared.map.NewEntry.{NewEntry}
use Rattle.plain_pages.specs.declared.map.NewEntry.TheVariants.{Empty as SetEmpty, FilePage as SetFilePage, Follows as SetFollows, Narrow as SetNarrow}
use Rattle.plain_pages.specs.PlainPages.{PlainPages, NumberedPages, Map, Maps, page_serial}
use Rattle.machine_names.specs.Orders.{FilePage, fork_cmp, file_page_cmp}
use Rattle.plain_pages.specs.Maps.{entry_at, set_entry, narrow}
use Rattle.plain_pages.specs.Room.{same_page, page_in, uses, live}
use Rattle.plain_pages.specs.References.{drop_unnamed, drop_all_unnamed, with_entry, without_fork}
use Rattle.plain_pages.specs.NewEntries.{IsNewEntry, entry_to, changed}
use Rattle.plain_pages.specs.WholePages.{AreWhole}
use Rattle.machine_names.proofs.OrderLemmas.{page_tied, page_cmp_total, page_cmp_apart, fork_cmp_total, fork_cmp_apart}
use Rattle.plain_pages.proofs.Counts.{has, has_count, count_filtered, weight, total_without, value_counted, Same, page_tells, same_itself}
use Rattle.plain_pages.proofs.Chains.{entry_map, entry_set, keys_set, len_set}
use Rattle.plain_pages.proofs.Whole.{map_uses, tally, uses_are, live_whole}
use Rattle.plain_pages.proofs.Makings.{names_set, uses_objects}

-- pages are equal where their parts are
pub same_pages : {K : Type 0} {file_cmp : K → K → Ordering} (p q : PlainPages file_cmp) → ((n : PageName) → map.get p.objects n ≡ map.get q.objects n) → p.maps ≡ q.maps → p.files ≡ q.files → p.page_serials ≡ q.page_serials → p.console_serial ≡ q.console_serial → p.limit ≡ q.limit → p ≡ q
same_pages p q objects maps files page_serials console_serial limit =
    let same = map.same_map page_cmp_total page_cmp_apart p.objects q.objects objects in
    λ i. record { objects = same i; maps = maps i; files = files i; page_serials = page_serials i; console_serial = console_serial i; limit = limit i }

-- a sum over the maps of forks, without one of them
pub total_remove : {X : Type 0} (w : X → ℕ) (m : map.FinMap fork_cmp X) (f : ForkName) (v : X) → map.get m f ≡ Some v → sum_by w (map.values (map.remove m f)) + w v ≡ sum_by w (map.values m)
total_remove = total_without fork_cmp_total fork_cmp_apart

module _ {K : Type 0} {file_cmp : K → K → Ordering} where
  -- the pages of one that the other still names, each with its words, and the other parts but the maps and what files name
  pub record AreStill (p q : PlainPages file_cmp) : Type 0 where
    pub objects : (n : PageName) → map.get q.objects n ≡ cond (nat_lt 0 (uses q n)) (map.get p.objects n) None
    pub page_serials : q.page_serials ≡ p.page_serials
    pub console_serial : q.console_serial ≡ p.console_serial
    pub limit : q.limit ≡ p.limit

  -- the pages of one that the other still names, each with its words, and the other parts but the maps
  pub record AreKept (p q : PlainPages file_cmp) : Type 0 where
    pub objects : (n : PageName) → map.get q.objects n ≡ cond (nat_lt 0 (uses q n)) (map.get p.objects n) None
    pub files : q.files ≡ p.files
    pub page_serials : q.page_serials ≡ p.page_serials
    pub console_serial : q.console_serial ≡ p.console_serial
    pub limit : q.limit ≡ p.limit

  pub still : (p q : PlainPages file_cmp) → AreKept p q → AreStill p q
  still p q k = record { objects = k.objects; page_serials = k.page_serials; console_serial = k.console_serial; limit = k.limit }

  -- they are known by their maps and by what files name
  pub still_same : (p q r : PlainPages file_cmp) → AreStill p q → AreStill p r → q.maps ≡ r.maps → q.files ≡ r.files → q ≡ r
  still_same p q r k l maps files = same_pages q r each maps files (k.page_serials ∙ sym l.page_serials) (k.console_serial ∙ sym l.console_serial) (k.limit ∙ sym l.limit)
    where
      alike : (n : PageName) → uses q n ≡ uses r n
      alike n = uses_are q n ∙ (λ i. sum_by (map_uses n) (map.values (maps i)) + sum_by (tally n) (map.values (files i))) ∙ sym (uses_are r n)

      each : (n : PageName) → map.get q.objects n ≡ map.get r.objects n
      each n = k.objects n ∙ ap (λ k. cond (nat_lt 0 k) (map.get p.objects n) None) (alike n) ∙ sym (l.objects n)

  pub kept_same : (p q r : PlainPages file_cmp) → AreKept p q → AreKept p r → q.maps ≡ r.maps → q ≡ r
  kept_same p q r k l maps = still_same p q r (still p q k) (still p r l) maps (k.files ∙ sym l.files)

  -- what is kept of what was kept
  pub still_on : (p q r : PlainPages file_cmp) → AreStill p q → AreStill q r → ((n : PageName) → nat_lt 0 (uses r n) ≡ true → nat_lt 0 (uses q n) ≡ true) → AreStill p r
  still_on p q r k l old = record {
    objects = λ n. l.objects n ∙ by n (nat_lt 0 (uses r n)) refl;
    page_serials = l.page_serials ∙ k.page_serials;
    console_serial = l.console_serial ∙ k.console_serial;
    limit = l.limit ∙ k.limit;
  }
    where
      by : (n : PageName) (b : Bool) → nat_lt 0 (uses r n) ≡ b → cond b (map.get q.objects n) None ≡ cond b (map.get p.objects n) None
      by n true is = k.objects n ∙ ap (λ b. cond b (map.get p.objects n) None) (old n is)
      by n false is = refl

  pub kept_on : (p q r : PlainPages file_cmp) → AreKept p q → AreKept q r → ((n : PageName) → nat_lt 0 (uses r n) ≡ true → nat_lt 0 (uses q n) ≡ true) → AreKept p r
  kept_on p q r k l old =
      let s = still_on p q r (still p q k) (still q r l) old in
      record { objects = s.objects; files = l.files ∙ k.files; page_serials = s.page_serials; console_serial = s.console_serial; limit = s.limit }

  -- they are whole, where no fork more has a map, each map has its entries and none names a page that was not named
  pub still_whole : (p q : PlainPages file_cmp) → AreWhole p → AreStill p q → ((f : ForkName) (m : Map) → map.get q.maps f ≡ Some m → length m ≡ SPACE_PAGES) → ((f : ForkName) → map.contains_key q.maps f ≡ true → map.contains_key p.maps f ≡ true) → ((n : PageName) → nat_lt 0 (uses q n) ≡ true → nat_lt 0 (uses p n) ≡ true) → AreWhole q
  still_whole p q w k entries keys old = record { named = named; words = λ n ws h. there n ws (nat_lt 0 (uses q n)) (sym (k.objects n) ∙ h); entries = entries; owned = λ f h. w.owned f (keys f h); old = λ n h. serial n (nat_lt 0 (uses q n)) refl h; owners = ap length k.page_serials ∙ w.owners }
    where
      named : (n : PageName) → map.contains_key q.objects n ≡ nat_lt 0 (uses q n)
      named n = ap is_some (k.objects n) ∙ by (nat_lt 0 (uses q n)) refl
        where
          by : (b : Bool) → nat_lt 0 (uses q n) ≡ b → is_some (cond b (map.get p.objects n) None) ≡ b
          by true is = w.named n ∙ old n is
          by false is = refl

      there : (n : PageName) (ws : List ℕ) (b : Bool) → cond b (map.get p.objects n) None ≡ Some ws → length ws ≡ PAGE_WORDS
      there n ws true h = w.words n ws h
      there n ws false h = absurd (cc h)

      serial : (n : PageName) (b : Bool) → nat_lt 0 (uses q n) ≡ b → map.contains_key q.objects n ≡ true → n.serial < page_serial q n.tty
      serial n true is h =
          let before = w.old n (w.named n ∙ old n is) in
          let same : page_serial q n.tty ≡ page_serial p n.tty = λ i. cond (n.tty.0 == 255) (k.console_serial i) (slice_index (k.page_serials i) n.tty.0) in
          omega (arith, before, same)
      serial n false is h = absurd (let z : true ≡ false = sym h ∙ named n ∙ is in cc z)

  pub kept_whole : (p q : PlainPages file_cmp) → AreWhole p → AreKept p q → ((f : ForkName) (m : Map) → map.get q.maps f ≡ Some m → length m ≡ SPACE_PAGES) → ((f : ForkName) → map.contains_key q.maps f ≡ true → map.contains_key p.maps f ≡ true) → ((n : PageName) → nat_lt 0 (uses q n) ≡ true → nat_lt 0 (uses p n) ≡ true) → AreWhole q
  kept_whole p q w k = still_whole p q w (still p q k)

or_zero : (k : ℕ) → (k == 0) ≡ true → nat_lt 0 k ≡ false
or_zero k h = grind (arith, nat_tests)

or_some : (k : ℕ) → (k == 0) ≡ false → nat_lt 0 k ≡ true
or_some k h = grind (arith, nat_tests)

at_least : (j k : ℕ) → nat_lt 0 j ≡ true → j ≤ k → nat_lt 0 k ≡ true
at_least j k h le = grind (arith, nat_tests)

nothing_there : (o : Option (List ℕ)) → is_some o ≡ false → o ≡ None
nothing_there None h = refl
nothing_there (Some w) h = absurd (cc h)

-- a map that has a key is not empty
some_length : {K X : Type 0} {R : K → K → Ordering} (m : map.FinMap R X) (n : K) → map.contains_key m n ≡ true → 1 ≤ map.len m
some_length {X = X} {R = R} m n there = by (map.len m) refl
  where
    by : (k : ℕ) → map.len m ≡ k → 1 ≤ k
    by zero is = absurd (let no : true ≡ false = sym there ∙ ap (λ (o : Option X). is_some o) (ap (λ (q : map.FinMap R X). map.get q n) (map.empty_of_len m is) ∙ map.get-empty R n) in cc no)
    by (suc k) is = omega arith

pub named_some : (k : ℕ) → 0 < k → nat_lt 0 k ≡ true
named_some k h = grind (arith, nat_tests)

-- a page that nothing names is not there
pub unnamed_gone : {K : Type 0} {file_cmp : K → K → Ordering} (p : PlainPages file_cmp) → AreWhole p → (n : PageName) → nat_lt 0 (uses p n) ≡ false → map.get p.objects n ≡ None
unnamed_gone p w n h = nothing_there (map.get p.objects n) (w.named n ∙ h)

module _ {K : Type 0} {file_cmp : K → K → Ordering} (q : PlainPages file_cmp) where
  -- dropping a page changes the objects alone
  abbrev pub Leaves : PlainPages file_cmp → Type 0
  Leaves r = r ≡ record q { objects = r.objects }

  drop_leaves : (n : PageName) → Leaves (drop_unnamed q n)
  drop_leaves n = by (uses q n == 0)
    where
      by : (b : Bool) → Leaves (cond b (record q { objects = map.remove q.objects n }) q)
      by true = refl
      by false = refl

  -- of the page that is dropped, and of each other
  drop_objects : (n x : PageName) → map.get (drop_unnamed q n).objects x ≡ cond (same_page x n && (uses q x == 0)) None (map.get q.objects x)
  drop_objects n x = by (uses q n == 0) refl (page_tells x n)
    where
      by : (b : Bool) → (uses q n == 0) ≡ b → Same x n → map.get (cond b (record q { objects = map.remove q.objects n }) q).objects x ≡ cond (same_page x n && (uses q x == 0)) None (map.get q.objects x)
      by true is (inl e) = map.get-remove page_cmp_total q.objects n x ∙ ap (λ b. cond b None (map.get q.objects x)) (page_tied x n ∙ e.0) ∙ ap (λ b. cond b None (map.get q.objects x)) (sym (ap (λ b. b && (uses q x == 0)) e.0 ∙ ap (λ y. uses q y == 0) e.1 ∙ is))
      by true is (inr e) = map.get-remove page_cmp_total q.objects n x ∙ ap (λ b. cond b None (map.get q.objects x)) (page_tied x n ∙ e.0) ∙ ap (λ b. cond b None (map.get q.objects x)) (sym (ap (λ b. b && (uses q x == 0)) e.0))
      by false is (inl e) = ap (λ b. cond b None (map.get q.objects x)) (sym (ap (λ b. b && (uses q x == 0)) e.0 ∙ ap (λ y. uses q y == 0) e.1 ∙ is))
      by false is (inr e) = ap (λ b. cond b None (map.get q.objects x)) (sym (ap (λ b. b && (uses q x == 0)) e.0))

module _ {K : Type 0} {file_cmp : K → K → Ordering} where
  dropped_uses : (q : PlainPages file_cmp) (n x : PageName) → uses (drop_unnamed q n) x ≡ uses q x
  dropped_uses q n x = ap (λ (r : PlainPages file_cmp). uses r x) (drop_leaves q n) ∙ uses_objects q (drop_unnamed q n).objects x

  pub drop_all_leaves : (q : PlainPages file_cmp) (ns : List PageName) → Leaves q (drop_all_unnamed q ns)
  drop_all_leaves q [] = refl
  drop_all_leaves q (n ∷ ns) =
      drop_all_leaves (drop_unnamed q n) ns ∙ ap (λ (r : PlainPages file_cmp). record r { objects = (drop_all_unnamed (drop_unnamed q n) ns).objects }) (drop_leaves q n)

  drop_len : (q : PlainPages file_cmp) (n : PageName) → map.len (drop_unnamed q n).objects ≤ map.len q.objects
  drop_len q n = by (uses q n == 0)
    where
      fewer : (c : Bool) → cond c (map.len q.objects - 1) (map.len q.objects) ≤ map.len q.objects
      fewer true = omega arith
      fewer false = omega arith

      by : (b : Bool) → map.len (cond b (record q { objects = map.remove q.objects n }) q).objects ≤ map.len q.objects
      by true = subst (λ k. k ≤ map.len q.objects) (sym (map.len-remove page_cmp_total q.objects n)) (fewer (map.contains_key q.objects n))
      by false = omega arith

  pub drop_all_len : (q : PlainPages file_cmp) (ns : List PageName) → map.len (drop_all_unnamed q ns).objects ≤ map.len q.objects
  drop_all_len q [] = omega arith
  drop_all_len q (n ∷ ns) = omega (arith, drop_len q n, drop_all_len (drop_unnamed q n) ns)

  drop_all_objects : (q : PlainPages file_cmp) (ns : List PageName) (x : PageName) → map.get (drop_all_unnamed q ns).objects x ≡ cond (has x ns && (uses q x == 0)) None (map.get q.objects x)
  drop_all_objects q [] x = refl
  drop_all_objects q (n ∷ ns) x =
      drop_all_objects (drop_unnamed q n) ns x
      ∙ ap (λ k. cond (has x ns && (k == 0)) None (map.get (drop_unnamed q n).objects x)) (dropped_uses q n x)
      ∙ ap (cond (has x ns && (uses q x == 0)) None) (drop_objects q n x)
      ∙ both (same_page x n) (has x ns) (uses q x == 0)
    where
      both : (a b c : Bool) → cond (b && c) None (cond (a && c) None (map.get q.objects x)) ≡ cond ((a || b) && c) None (map.get q.objects x)
      both true true true = refl
      both true true false = refl
      both true false true = refl
      both true false false = refl
      both false true true = refl
      both false true false = refl
      both false false c = refl

  -- of pages whose maps or files changed those are kept that are still named, where what is dropped are pages that lost a name
  pub still_by : (p q : PlainPages file_cmp) (ns : List PageName) → AreWhole p → q ≡ record p { maps = q.maps; files = q.files } → ((n : PageName) → has n ns ≡ false → nat_lt 0 (uses q n) ≡ false → nat_lt 0 (uses p n) ≡ false) → AreStill p (drop_all_unnamed q ns)
  still_by p q ns w same lost =
      let leaves = drop_all_leaves q ns in
      record {
        objects = λ n. drop_all_objects q ns n ∙ by n (has n ns) (uses q n == 0) refl refl ∙ ap (λ k. cond (nat_lt 0 k) (map.get p.objects n) None) (sym (ap (λ (r : PlainPages file_cmp). uses r n) leaves ∙ uses_objects q (drop_all_unnamed q ns).objects n));
        page_serials = ap (λ (r : PlainPages file_cmp). r.page_serials) leaves ∙ ap (λ (r : PlainPages file_cmp). r.page_serials) same;
        console_serial = ap (λ (r : PlainPages file_cmp). r.console_serial) leaves ∙ ap (λ (r : PlainPages file_cmp). r.console_serial) same;
        limit = ap (λ (r : PlainPages file_cmp). r.limit) leaves ∙ ap (λ (r : PlainPages file_cmp). r.limit) same;
      }
    where
      words : (n : PageName) → map.get q.objects n ≡ map.get p.objects n
      words n = ap (λ (r : PlainPages file_cmp). map.get r.objects n) same

      by : (n : PageName) (a b : Bool) → has n ns ≡ a → (uses q n == 0) ≡ b → cond (a && b) None (map.get q.objects n) ≡ cond (nat_lt 0 (uses q n)) (map.get p.objects n) None
      by n true true is none = ap (λ b. cond b (map.get p.objects n) None) (sym (or_zero (uses q n) none))
      by n true false is some = words n ∙ ap (λ b. cond b (map.get p.objects n) None) (sym (or_some (uses q n) some))
      by n false true is none = words n ∙ unnamed_gone p w n (lost n is (or_zero (uses q n) none)) ∙ ap (λ b. cond b (map.get p.objects n) None) (sym (or_zero (uses q n) none))
      by n false false is some = words n ∙ ap (λ b. cond b (map.get p.objects n) None) (sym (or_some (uses q n) some))

  kept_by : (p q : PlainPages file_cmp) (ns : List PageName) → AreWhole p → q ≡ record p { maps = q.maps } → ((n : PageName) → has n ns ≡ false → nat_lt 0 (uses q n) ≡ false → nat_lt 0 (uses p n) ≡ false) → AreKept p (drop_all_unnamed q ns)
  kept_by p q ns w same lost =
      let files = ap (λ (r : PlainPages file_cmp). r.files) same in
      let k = still_by p q ns w (same ∙ λ i. record p { maps = q.maps; files = sym files i }) lost in
      record {
        objects = k.objects;
        files = ap (λ (r : PlainPages file_cmp). r.files) (drop_all_leaves q ns) ∙ files;
        page_serials = k.page_serials;
        console_serial = k.console_serial;
        limit = k.limit;
      }

  module _ (p : PlainPages file_cmp) (w : AreWhole p) (s : Slot) (e y : MapEntry) (h : entry_at p.maps s ≡ Some e) where
    abbrev set : PlainPages file_cmp
    set = record p { maps = set_entry p.maps s y }

    abbrev old_names : List PageName
    old_names = option_map_or (λ n. n ∷ []) (page_in e) []

    -- another entry in a slot drops the page that the old one named
    entry_drops : with_entry p s y ≡ drop_all_unnamed set old_names
    unfolding with_entry
    entry_drops = ap (λ (o : Option MapEntry). option_map_or (drop_unnamed set) (option_and_then page_in o) set) h ∙ by (page_in e)
      where
        by : (n : Option PageName) → option_map_or (drop_unnamed set) n set ≡ drop_all_unnamed set (option_map_or (λ n. n ∷ []) n [])
        by None = refl
        by (Some n) = refl

    -- the uses that the two entries make
    pub uses_set : (n : PageName) → uses set n + weight (same_page n) page_in e ≡ uses p n + weight (same_page n) page_in y
    uses_set n = omega (arith, uses_are set n, uses_are p n, names_set p.maps s e y n h)

    pub entry_maps : (with_entry p s y).maps ≡ set_entry p.maps s y
    entry_maps = ap (λ (r : PlainPages file_cmp). r.maps) (entry_drops ∙ drop_all_leaves set old_names)

    pub uses_entry : (n : PageName) → uses (with_entry p s y) n + weight (same_page n) page_in e ≡ uses p n + weight (same_page n) page_in y
    uses_entry n =
        let same : uses (with_entry p s y) n ≡ uses set n = ap (λ (r : PlainPages file_cmp). uses r n) (entry_drops ∙ drop_all_leaves set old_names) ∙ uses_objects set (drop_all_unnamed set old_names).objects n in
        omega (arith, same, uses_set n)

    no_weight : (n : PageName) → has n old_names ≡ false → weight (same_page n) page_in e ≡ 0
    no_weight n none = by (page_in e) none
      where
        by : (m : Option PageName) → has n (option_map_or (λ k. k ∷ []) m []) ≡ false → option_map_or (tally n) m 0 ≡ 0
        by None g = refl
        by (Some m) g = ap (λ b. cond b 1 0) (first (same_page n m) g)
          where
            first : (b : Bool) → (b || false) ≡ false → b ≡ false
            first true k = absurd (cc k)
            first false k = refl

    -- the pages that are still named are kept
    pub entry_kept : AreKept p (with_entry p s y)
    entry_kept = subst (λ (r : PlainPages file_cmp). AreKept p r) (sym entry_drops) (kept_by p set old_names w refl lost)
      where
        lost : (n : PageName) → has n old_names ≡ false → nat_lt 0 (uses set n) ≡ false → nat_lt 0 (uses p n) ≡ false
        lost n none gone = fewer (uses p n) (uses set n) (omega (arith, uses_set n, no_weight n none)) gone
          where
            fewer : (j k : ℕ) → j ≤ k → nat_lt 0 k ≡ false → nat_lt 0 j ≡ false
            fewer j k le g = grind (arith, nat_tests)

    -- another entry leaves whole pages whole, where it names no page that is not there
    pub entry_whole : ((n : PageName) → page_in y ≡ Some n → map.contains_key p.objects n ≡ true) → AreWhole (with_entry p s y)
    entry_whole there = kept_whole p (with_entry p s y) w entry_kept entries (λ f there. sym (ap (λ (q : Maps). map.contains_key q f) entry_maps ∙ keys_set p.maps s e y h f) ∙ there) old
      where
        m : (n : Map) × (map.get p.maps s.fork ≡ Some n) × (slice_get n s.page ≡ Some e)
        m = entry_map (map.get p.maps s.fork) s.page e h

        entries : (f : ForkName) (n : Map) → map.get (with_entry p s y).maps f ≡ Some n → length n ≡ SPACE_PAGES
        entries f n g = choose (eq_by_cmp fork_cmp f s.fork) (sym (map.get-insert fork_cmp_total p.maps s.fork (slice_set m.0 s.page y) f) ∙ sym (ap (λ (q : Maps). map.get q f) is) ∙ sym (ap (λ (q : Maps). map.get q f) entry_maps) ∙ g)
          where
            is : set_entry p.maps s y ≡ map.insert p.maps s.fork (slice_set m.0 s.page y)
            is = ap (λ (q : Option Map). option_map_or (λ k. map.insert p.maps s.fork (slice_set k s.page y)) q p.maps) m.1

            choose : (b : Bool) → cond b (Some (slice_set m.0 s.page y)) (map.get p.maps f) ≡ Some n → length n ≡ SPACE_PAGES
            choose true k = let same : slice_set m.0 s.page y ≡ n = cc k in ap length (sym same) ∙ length-set m.0 s.page y ∙ w.entries s.fork m.0 m.1
            choose false k = w.entries f n k

        old : (n : PageName) → nat_lt 0 (uses (with_entry p s y) n) ≡ true → nat_lt 0 (uses p n) ≡ true
        old n named = by (page_in y) refl
          where
            by : (o : Option PageName) → page_in y ≡ o → nat_lt 0 (uses p n) ≡ true
            by None is = let no : weight (same_page n) page_in y ≡ 0 = ap (λ (x : Option PageName). option_map_or (tally n) x 0) is in at_least (uses (with_entry p s y) n) (uses p n) named (omega (arith, uses_entry n, no))
            by (Some k) is = elim (page_tells n k) [
              | inl e ↦ sym (w.named n) ∙ ap (map.contains_key p.objects) e.1 ∙ there k is
              | inr e ↦ let no : weight (same_page n) page_in y ≡ 0 = ap (λ (x : Option PageName). option_map_or (tally n) x 0) is ∙ ap (λ b. cond b 1 0) e.0 in at_least (uses (with_entry p s y) n) (uses p n) named (omega (arith, uses_entry n, no))
            ]

    -- no fork more or less
    entry_len : map.len (with_entry p s y).maps ≡ map.len p.maps
    entry_len = ap map.len entry_maps ∙ len_set p.maps s e y h

    -- the page that the old entry names is there
    pub old_there : (n : PageName) → page_in e ≡ Some n → map.contains_key p.objects n ≡ true
    old_there n is =
        let one : weight (same_page n) page_in e ≡ 1 = ap (λ (o : Option PageName). option_map_or (tally n) o 0) is ∙ ap (λ b. cond b 1 0) (same_itself n) in
        w.named n ∙ at_least (weight (same_page n) page_in e) (uses p n) (ap (nat_lt 0) one) (omega (arith, uses_are p n, names_set p.maps s e Empty n h))

    -- a page whose last name goes is one page less
    pub live_entry : ((n : PageName) → page_in y ≡ Some n → map.contains_key p.objects n ≡ true) → live (with_entry p s y) + option_map_or (λ n. cond (uses set n == 0) 1 0) (page_in e) 0 ≡ live p
    live_entry there =
        let objects = ap (λ (r : PlainPages file_cmp). map.len r.objects) entry_drops in
        omega (arith, live_whole p w, live_whole (with_entry p s y) (entry_whole there), entry_len, objects, by (page_in e) refl)
      where
        gone : (n : PageName) (b : Bool) → page_in e ≡ Some n → map.len (cond b (record set { objects = map.remove p.objects n }) set).objects + cond b 1 0 ≡ map.len p.objects
        gone n true is =
            let less : map.len (map.remove p.objects n) ≡ map.len p.objects - 1 = map.len-remove page_cmp_total p.objects n ∙ ap (λ c. cond c (map.len p.objects - 1) (map.len p.objects)) (old_there n is) in
            omega (arith, less, some_length p.objects n (old_there n is))
        gone n false is = omega arith

        by : (o : Option PageName) → page_in e ≡ o → map.len (drop_all_unnamed set (option_map_or (λ n. n ∷ []) o [])).objects + option_map_or (λ n. cond (uses set n == 0) 1 0) o 0 ≡ map.len p.objects
        by None is = omega arith
        by (Some n) is = gone n (uses set n == 0) is

  module _ (p : PlainPages file_cmp) (w : AreWhole p) (f : ForkName) (m : Map) (h : map.get p.maps f ≡ Some m) where
    abbrev removed : PlainPages file_cmp
    removed = record p { maps = map.remove p.maps f }

    fork_drops : without_fork p f ≡ drop_all_unnamed removed (filter_map page_in m)
    unfolding without_fork
    fork_drops = ap (λ (o : Option Map). drop_all_unnamed removed (option_map_or (filter_map page_in) o [])) h

    pub fork_maps : (without_fork p f).maps ≡ map.remove p.maps f
    fork_maps = ap (λ (r : PlainPages file_cmp). r.maps) (fork_drops ∙ drop_all_leaves removed (filter_map page_in m))

    -- the names that the fork's map has are gone
    pub uses_fork : (n : PageName) → uses (without_fork p f) n + map_uses n m ≡ uses p n
    uses_fork n =
        let same : uses (without_fork p f) n ≡ uses removed n = ap (λ (r : PlainPages file_cmp). uses r n) (fork_drops ∙ drop_all_leaves removed (filter_map page_in m)) ∙ uses_objects removed (drop_all_unnamed removed (filter_map page_in m)).objects n in
        omega (arith, same, uses_are removed n, uses_are p n, total_remove (map_uses n) p.maps f m h)

    -- the pages that are still named are kept
    pub fork_kept : AreKept p (without_fork p f)
    fork_kept = subst (λ (r : PlainPages file_cmp). AreKept p r) (sym fork_drops) (kept_by p removed (filter_map page_in m) w refl lost)
      where
        lost : (n : PageName) → has n (filter_map page_in m) ≡ false → nat_lt 0 (uses removed n) ≡ false → nat_lt 0 (uses p n) ≡ false
        lost n none gone =
            let none_there : nat_lt 0 (map_uses n m) ≡ false = ap (nat_lt 0) (sym (count_filtered (same_page n) page_in m)) ∙ sym (has_count n (filter_map page_in m)) ∙ none in
            none_both (uses removed n) (map_uses n m) (uses p n) (omega (arith, uses_are removed n, uses_are p n, total_remove (map_uses n) p.maps f m h)) gone none_there
          where
            none_both : (j k i : ℕ) → j + k ≡ i → nat_lt 0 j ≡ false → nat_lt 0 k ≡ false → nat_lt 0 i ≡ false
            none_both j k i is a b = grind (arith, nat_tests)

    pub fork_still : (n : PageName) → nat_lt 0 (uses (without_fork p f) n) ≡ true → map.get (without_fork p f).objects n ≡ map.get p.objects n
    fork_still n named = fork_kept.objects n ∙ ap (λ b. cond b (map.get p.objects n) None) named

    -- a fork that ends leaves whole pages whole
    pub fork_whole : AreWhole (without_fork p f)
    fork_whole = kept_whole p (without_fork p f) w fork_kept entries keys (λ n named. at_least (uses (without_fork p f) n) (uses p n) named (omega (arith, uses_fork n)))
      where
        entries : (g : ForkName) (n : Map) → map.get (without_fork p f).maps g ≡ Some n → length n ≡ SPACE_PAGES
        entries g n is = choose (eq_by_cmp fork_cmp g f) (sym (ap (λ (q : Maps). map.get q g) fork_maps ∙ map.get-remove fork_cmp_total p.maps f g) ∙ is)
          where
            choose : (b : Bool) → cond b None (map.get p.maps g) ≡ Some n → length n ≡ SPACE_PAGES
            choose true k = absurd (cc k)
            choose false k = w.entries g n k

        keys : (g : ForkName) → map.contains_key (without_fork p f).maps g ≡ true → map.contains_key p.maps g ≡ true
        keys g there = choose (eq_by_cmp fork_cmp g f) (sym (ap is_some (ap (λ (q : Maps). map.get q g) fork_maps ∙ map.get-remove fork_cmp_total p.maps f g)) ∙ there)
          where
            choose : (b : Bool) → is_some (cond b None (map.get p.maps g)) ≡ true → map.contains_key p.maps g ≡ true
            choose true k = absurd (cc k)
            choose false k = k

    -- it is a fork less, and no page more
    pub live_fork : live (without_fork p f) + 1 ≤ live p
    live_fork =
        let there : map.contains_key p.maps f ≡ true = ap is_some h in
        let maps : map.len (without_fork p f).maps ≡ map.len p.maps - 1 = ap map.len fork_maps ∙ map.len-remove fork_cmp_total p.maps f ∙ ap (λ c. cond c (map.len p.maps - 1) (map.len p.maps)) there in
        let objects : map.len (without_fork p f).objects ≤ map.len p.objects = subst (λ (r : PlainPages file_cmp). map.len r.objects ≤ map.len p.objects) (sym fork_drops) (drop_all_len removed (filter_map page_in m)) in
        omega (arith, live_whole p w, live_whole (without_fork p f) fork_whole, maps, objects, some_length p.maps f there)

    -- where its map names no page, the pages stay
    pub unmapped_kept : ((n : PageName) → map_uses n m ≡ 0) → AreKept p removed
    unmapped_kept none = kept_by p removed [] w refl (λ n has_none gone. same (uses p n) (uses removed n) (omega (arith, uses_are removed n, uses_are p n, total_remove (map_uses n) p.maps f m h, none n)) gone)
      where
        same : (j k : ℕ) → j ≡ k → nat_lt 0 k ≡ false → nat_lt 0 j ≡ false
        same j k is g = grind (arith, nat_tests)

-- an entry that is set again
set_twice : {A : Type 0} (xs : List A) (i : ℕ) (x y : A) → slice_set (slice_set xs i x) i y ≡ slice_set xs i y
set_twice [] i x y = refl
set_twice (z ∷ xs) zero x y = refl
set_twice (z ∷ xs) (suc i) x y = ap (λ ys. z ∷ ys) (set_twice xs i x y)

set_again : (maps : Maps) (s : Slot) (y e : MapEntry) → set_entry (set_entry maps s y) s e ≡ set_entry maps s e
set_again maps s y e = by (map.get maps s.fork) refl
  where
    at : Option Map → Maps → Maps
    at o ms = option_map_or (λ m. map.insert ms s.fork (slice_set m s.page e)) o ms

    by : (o : Option Map) → map.get maps s.fork ≡ o → set_entry (option_map_or (λ m. map.insert maps s.fork (slice_set m s.page y)) o maps) s e ≡ at o maps
    by None is = ap (λ o. at o maps) is
    by (Some m) is =
        let mid : Maps = map.insert maps s.fork (slice_set m s.page y) in
        let here : map.get mid s.fork ≡ Some (slice_set m s.page y) = map.get-insert fork_cmp_total maps s.fork (slice_set m s.page y) s.fork ∙ ap (λ r. cond (is_eq r) (Some (slice_set m s.page y)) (map.get maps s.fork)) (tied_itself fork_cmp_total s.fork) in
        ap (λ o. at o mid) here ∙ ap (map.insert mid s.fork) (set_twice m s.page y e)
        ∙ map.same_map fork_cmp_total fork_cmp_apart (map.insert mid s.fork (slice_set m s.page e)) (map.insert maps s.fork (slice_set m s.page e)) (λ f.
        map.get-insert fork_cmp_total mid s.fork (slice_set m s.page e) f ∙ each f (eq_by_cmp fork_cmp f s.fork) refl ∙ sym (map.get-insert fork_cmp_total maps s.fork (slice_set m s.page e) f))
      where
        each : (f : ForkName) (b : Bool) → eq_by_cmp fork_cmp f s.fork ≡ b → cond b (Some (slice_set m s.page e)) (map.get (map.insert maps s.fork (slice_set m s.page y)) f) ≡ cond b (Some (slice_set m s.page e)) (map.get maps f)
        each f true tied = refl
        each f false tied = map.get-insert fork_cmp_total maps s.fork (slice_set m s.page y) f ∙ ap (λ b. cond b (Some (slice_set m s.page y)) (map.get maps f)) tied

-- the same of the pages, where the page that is named then is still there
module _ {K : Type 0} {file_cmp : K → K → Ordering} (p : PlainPages file_cmp) (w : AreWhole p) (s : Slot) (x y e : MapEntry) (h : entry_at p.maps s ≡ Some x) (none : page_in y ≡ None) (still_named : (n : PageName) → page_in e ≡ Some n → nat_lt 0 (uses (with_entry p s y) n) ≡ true) where
  abbrev mid : PlainPages file_cmp
  mid = with_entry p s y

  mid_whole : AreWhole mid
  mid_whole = entry_whole p w s x y h (λ n is. absurd (let z : None ≡ Some n = sym none ∙ is in cc z))

  mid_entry : entry_at mid.maps s ≡ Some y
  mid_entry = ap (λ (m : Maps). entry_at m s) (entry_maps p w s x y h) ∙ entry_set p.maps s x y h

  mid_named : (n : PageName) → nat_lt 0 (uses (with_entry mid s e) n) ≡ true → nat_lt 0 (uses mid n) ≡ true
  mid_named n named = by (page_in e) refl
    where
      by : (o : Option PageName) → page_in e ≡ o → nat_lt 0 (uses mid n) ≡ true
      by None is = let no : weight (same_page n) page_in e ≡ 0 = ap (λ (o : Option PageName). option_map_or (tally n) o 0) is in at_least (uses (with_entry mid s e) n) (uses mid n) named (omega (arith, uses_entry mid mid_whole s y e mid_entry n, no))
      by (Some m) is = elim (page_tells n m) [
        | inl t ↦ ap (λ k. nat_lt 0 (uses mid k)) t.1 ∙ still_named m is
        | inr t ↦ let no : weight (same_page n) page_in e ≡ 0 = ap (λ (o : Option PageName). option_map_or (tally n) o 0) is ∙ ap (λ b. cond b 1 0) t.0 in at_least (uses (with_entry mid s e) n) (uses mid n) named (omega (arith, uses_entry mid mid_whole s y e mid_entry n, no))
      ]

  pub entry_again : with_entry mid s e ≡ with_entry p s e
  entry_again =
      kept_same p (with_entry mid s e) (with_entry p s e) (kept_on p mid (with_entry mid s e) (entry_kept p w s x y h) (entry_kept mid mid_whole s y e mid_entry) mid_named) (entry_kept p w s x e h)
      (entry_maps mid mid_whole s y e mid_entry ∙ ap (λ (m : Maps). set_entry m s e) (entry_maps p w s x y h) ∙ set_again p.maps s y e ∙ sym (entry_maps p w s x e h))

-- a page that a file names is there
pub file_there : {K : Type 0} {file_cmp : K → K → Ordering} (p : PlainPages file_cmp) → AreWhole p → (f : FilePage K) (n : PageName) → map.get p.files f ≡ Some n → map.contains_key p.objects n ≡ true
file_there {file_cmp = file_cmp} p w f n h =
    let one : tally n n ≡ 1 = ap (λ b. cond b 1 0) (same_itself n) in
    w.named n ∙ at_least 1 (uses p n) refl (omega (arith, uses_are p n, one, value_counted (file_page_cmp file_cmp) (tally n) p.files f n h))

-- a narrowing changes what is permitted, and not the page
pub narrow_page : (a : Access) (e : MapEntry) → page_in (narrow a e) ≡ page_in e
narrow_page a Empty = refl
narrow_page a (Names n b) = refl
narrow_page a (Follows serial page b) = refl

module _ (p : NumberedPages) (w : AreWhole p) (s : Slot) (new : NewEntry) (is_new : IsNewEntry (map.get p.files) new) where
  pub changed_is : (e : MapEntry) → entry_at p.maps s ≡ Some e → changed p s new ≡ with_entry p s (entry_to p new e)
  unfolding changed
  changed_is e h = ap (λ (o : Option MapEntry). option_map_or (λ e. with_entry p s (entry_to p new e)) o p) h

  pub changed_none : entry_at p.maps s ≡ None → changed p s new ≡ p
  unfolding changed
  changed_none h = ap (λ (o : Option MapEntry). option_map_or (λ e. with_entry p s (entry_to p new e)) o p) h

  -- an entry set anew names no page that is not there
  pub set_there : (e : MapEntry) → entry_at p.maps s ≡ Some e → (n : PageName) → page_in (entry_to p new e) ≡ Some n → map.contains_key p.objects n ≡ true
  set_there e h n is = by new is_new is
    where
      filed : (o : Option PageName) (f : FilePage ℕ) (a : Access) → map.get p.files f ≡ o → IsSome o → page_in (option_map_or (λ m. Names m a) o e) ≡ Some n → map.contains_key p.objects n ≡ true
      filed None f a h there g = absurd (cc there)
      filed (Some m) f a h there g = (let same : m ≡ n = cc g in file_there p w f n (h ∙ ap Some same))

      by : (new : NewEntry) → IsNewEntry (map.get p.files) new → page_in (entry_to p new e) ≡ Some n → map.contains_key p.objects n ≡ true
      by SetEmpty i g = absurd (cc g)
      by (SetFilePage f page a) i g = filed (map.get p.files (record { file = f.0; page = page })) (record { file = f.0; page = page }) a refl i.1 g
      by (SetFollows serial page a) i g = absurd (cc g)
      by (SetNarrow a) i g = old_there p w s e Empty h n (sym (narrow_page a e) ∙ g)

  -- an entry set anew leaves whole pages whole, and no page more
  pub changed_whole : AreWhole (changed p s new)
  changed_whole = by (entry_at p.maps s) refl
    where
      by : (o : Option MapEntry) → entry_at p.maps s ≡ o → AreWhole (changed p s new)
      by None h = subst (λ (q : NumberedPages). AreWhole q) (sym (changed_none h)) w
      by (Some e) h = subst (λ (q : NumberedPages). AreWhole q) (sym (changed_is e h)) (entry_whole p w s e (entry_to p new e) h (set_there e h))

  pub live_changed : live (changed p s new) ≤ live p
  live_changed = by (entry_at p.maps s) refl
    where
      by : (o : Option MapEntry) → entry_at p.maps s ≡ o → live (changed p s new) ≤ live p
      by None h = omega (arith, ap (λ (q : NumberedPages). live q) (changed_none h))
      by (Some e) h = omega (arith, ap (λ (q : NumberedPages). live q) (changed_is e h), live_entry p w s e (entry_to p new e) h (set_there e h))

  -- the pages that are still named are kept, when an entry is set anew
  pub changed_kept : (n : PageName) → nat_lt 0 (uses (changed p s new) n) ≡ true → map.get (changed p s new).objects n ≡ map.get p.objects n
  changed_kept n = by (entry_at p.maps s) refl
    where
      by : (o : Option MapEntry) → entry_at p.maps s ≡ o → nat_lt 0 (uses (changed p s new) n) ≡ true → map.get (changed p s new).objects n ≡ map.get p.objects n
      by None h named = ap (λ (q : NumberedPages). map.get q.objects n) (changed_none h)
      by (Some e) h named =
          ap (λ (q : NumberedPages). map.get q.objects n) (changed_is e h) ∙ (entry_kept p w s e (entry_to p new e) h).objects n
          ∙ ap (λ b. cond b (map.get p.objects n) None) (sym (ap (λ (q : NumberedPages). nat_lt 0 (uses q n)) (changed_is e h)) ∙ named)

  -- the entries that it leaves
  pub changed_maps : (e : MapEntry) → entry_at p.maps s ≡ Some e → (changed p s new).maps ≡ set_entry p.maps s (entry_to p new e)
  changed_maps e h = ap (λ (q : NumberedPages). q.maps) (changed_is e h) ∙ entry_maps p w s e (entry_to p new e) h
