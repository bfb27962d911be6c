-- References to the maps of forks do not depend on what files are known by.
use Rattle.std.proofs.Common.{◌≡◌, ℕ, ◌+◌, Bool, true, false, cond, List, [], ◌∷◌, ◌++◌, Option, None, Some, refl, sym, ◌∙◌, ap, Ordering}
use Rattle.std.specs.Prelude.{◌==◌, find, is_some, nat_lt, nat_le, if◌then◌else◌}
use Rattle.std.specs.List.{sum_by}
use Rattle.std.specs.Option.{option_map_or, option_and_then}
use Rattle.std.specs.FinMap as map
use Rattle.machine_names.specs.declared.names.Tty.{Tty}
use Rattle.machine_names.specs.declared.names.PageName.{PageName}
use Rattle.machine_names.specs.declared.names.ForkName.{ForkName}
use Rattle.machine_names.specs.declared.names.Slot.{Slot}
use Rattle.plain_pages.specs.declared.map.MapEntry.{MapEntry}
use Rattle.machine_names.specs.declared.names.Kind.{Kind}
use Rattle.machine_names.specs.declared.names.Kind.TheVariants.{Read, Write, Execute}
use Rattle.plain_pages.specs.PlainPages.{PlainPages, refiled}
use Rattle.machine_names.specs.Orders.{file_page_cmp}
use Rattle.plain_pages.specs.Maps.{Link, Chain, chain, entry_at, set_entry, permits}
use Rattle.plain_pages.specs.Room.{names, page_in, uses, live, HasRoom}
use Rattle.plain_pages.specs.References.{in_map, in_file, Making, blank, copy, blanks, copy_in, copies, along_chain, makings, make, make_all, new_page, drop_unnamed, drop_copied, drop_all_unnamed, names_in, with_entry, without_fork, words_at, page_at, Referred, granted, denied, full, reference}
use Rattle.plain_pages.proofs.Counts.{has_count, different_same}
use Rattle.plain_pages.proofs.Whole.{map_uses, tally, uses_are}

-- the same making, whatever files are known by; none in a file is
abbrev pub Alike : {K L : Type 0} → Making K → Making L → Type 0
Alike (blank (in_map s)) (blank (in_map t)) = s ≡ t
Alike (copy s a) (copy t b) = (s ≡ t) × (a ≡ b)
Alike m n = ⊥

abbrev pub AllAlike : {K L : Type 0} → List (Making K) → List (Making L) → Type 0
AllAlike [] [] = Unit {0}
AllAlike (m ∷ ms) (n ∷ ns) = Alike m n × AllAlike ms ns
AllAlike ms ns = ⊥

abbrev blank_at : {K : Type 0} → Chain → Option PageName → List (Making K)
blank_at c n = if is_some n then [] else blank (in_map c.end) ∷ []

module _ (K L : Type 0) where
  copied : (c : Chain) (kind : Kind) → AllAlike (copies {K = K} kind c) (copies {K = L} kind c)
  copied c Read = tt
  copied c Execute = tt
  copied c Write = found (find (λ l. l.access.c) c.links)
    where
      found : (l : Option Link) → AllAlike (copy_in {K = K} c l) (copy_in {K = L} c l)
      found None = tt
      found (Some l) = ((refl, refl), tt)

  -- what a reference makes along a chain is alike
  listed : (c : Chain) (kind : Kind) (n : Option PageName) → AllAlike (blank_at {K = K} c n ++ copies kind c) (blank_at {K = L} c n ++ copies kind c)
  listed c kind None = (refl, copied c kind)
  listed c kind (Some n) = copied c kind

module _ {K L : Type 0} {file_cmp : K → K → Ordering} (other_cmp : L → L → Ordering) where
  -- maps of the pages of files that name the same pages, each as often
  abbrev pub NameAlike : PlainPages file_cmp → map.FinMap (file_page_cmp other_cmp) PageName → Type 0
  NameAlike p files = (n : PageName) → sum_by (tally n) (map.values files) ≡ sum_by (tally n) (map.values p.files)

  -- a result with other keys
  abbrev pub refiled_result : Referred file_cmp → map.FinMap (file_page_cmp other_cmp) PageName → Referred other_cmp
  refiled_result (granted p) files = granted (refiled other_cmp p files)
  refiled_result (denied kind) files = denied kind
  refiled_result full files = full

  pub uses_refiled : (p : PlainPages file_cmp) (files : map.FinMap (file_page_cmp other_cmp) PageName) → NameAlike p files → (n : PageName) → uses (refiled other_cmp p files) n ≡ uses p n
  uses_refiled p files alike n = uses_are (refiled other_cmp p files) n ∙ ap (λ k. sum_by (map_uses n) (map.values p.maps) + k) (alike n) ∙ sym (uses_are p n)

  pub live_refiled : (p : PlainPages file_cmp) (files : map.FinMap (file_page_cmp other_cmp) PageName) → NameAlike p files → live (refiled other_cmp p files) ≡ live p
  unfolding live uses
  live_refiled p files alike = ap (λ k. k + map.len p.maps) (different_same (names (refiled other_cmp p files)) (names p) (λ n. has_count n (names (refiled other_cmp p files)) ∙ ap (nat_lt 0) (uses_refiled p files alike n) ∙ sym (has_count n (names p))))

  pub room_refiled : (p : PlainPages file_cmp) (files : map.FinMap (file_page_cmp other_cmp) PageName) → NameAlike p files → (owner : Tty) → HasRoom (refiled other_cmp p files) owner ≡ HasRoom p owner
  unfolding HasRoom
  room_refiled p files alike owner = ap (λ k. nat_le k p.limit) (live_refiled p files alike)

  module _ (files : map.FinMap (file_page_cmp other_cmp) PageName) (owner : Tty) where
    page_refiled : (p : PlainPages file_cmp) (s : Slot) → page_at (refiled other_cmp p files) (in_map s) ≡ page_at p (in_map s)
    unfolding page_at
    page_refiled p s = refl

    moved : (b : Bool) (p q : PlainPages file_cmp) → cond b (refiled other_cmp p files) (refiled other_cmp q files) ≡ refiled other_cmp (cond b p q) files
    moved true p q = refl
    moved false p q = refl

    copy_refiled : (q : PlainPages file_cmp) → NameAlike q files → (n : Option PageName) → drop_copied (refiled other_cmp q files) n ≡ refiled other_cmp (drop_copied q n) files
    copy_refiled q alike None = refl
    copy_refiled q alike (Some n) =
        let gone : PlainPages file_cmp = record q { objects = map.remove q.objects n } in
        ap (λ k. cond (k == 0) (refiled other_cmp gone files) (refiled other_cmp q files)) (uses_refiled q files alike n) ∙ moved (uses q n == 0) gone q

    make_refiled : (p : PlainPages file_cmp) (m : Making K) (n : Making L) → NameAlike p files → Alike m n → make (refiled other_cmp p files) owner n ≡ refiled other_cmp (make p owner m) files
    unfolding make
    make_refiled p (blank (in_map s)) (blank (in_map t)) alike h = ap (λ u. make (refiled other_cmp p files) owner (blank (in_map u))) (sym h)
    make_refiled p (blank (in_file f)) n alike h = absurd h
    make_refiled p (blank (in_map s)) (blank (in_file g)) alike h = absurd h
    make_refiled p (blank (in_map s)) (copy t b) alike h = absurd h
    make_refiled p (copy s a) (blank t) alike h = absurd h
    make_refiled p (copy s a) (copy t b) alike h =
        ap (λ u. make (refiled other_cmp p files) owner (copy u b)) (sym h.0) ∙ ap (λ c. make (refiled other_cmp p files) owner (copy s c)) (sym h.1) ∙ same
      where
        q : PlainPages file_cmp
        q = new_page p owner (in_map s) a (words_at p (in_map s))

        from : Option PageName → List ℕ → PlainPages other_cmp
        from n words = drop_copied (new_page (refiled other_cmp p files) owner (in_map s) a words) n

        words_same : words_at (refiled other_cmp p files) (in_map s) ≡ words_at p (in_map s)
        words_same = ap (λ (n : Option PageName). option_map_or (λ m. Rattle.std.specs.Option.unwrap_or (map.get p.objects m) Rattle.machine_names.specs.PageWords.zero_words) n Rattle.machine_names.specs.PageWords.zero_words) (page_refiled p s)

        same : from (page_at (refiled other_cmp p files) (in_map s)) (words_at (refiled other_cmp p files) (in_map s)) ≡ refiled other_cmp (drop_copied q (page_at p (in_map s))) files
        same = ap (λ n. from n (words_at (refiled other_cmp p files) (in_map s))) (page_refiled p s) ∙ ap (from (page_at p (in_map s))) words_same ∙ copy_refiled q alike (page_at p (in_map s))

    files_stay : (p : PlainPages file_cmp) (m : Making K) (n : Making L) → Alike m n → (make p owner m).files ≡ p.files
    unfolding make
    files_stay p (blank (in_map s)) n h = refl
    files_stay p (blank (in_file f)) n h = absurd (no_file n h)
      where
        no_file : (n : Making L) → Alike (blank (in_file f)) n → ⊥
        no_file (blank at) k = k
        no_file (copy s a) k = k
    files_stay p (copy s a) n h = by (page_at p (in_map s))
      where
        q : PlainPages file_cmp
        q = new_page p owner (in_map s) a (words_at p (in_map s))

        dropped : (n : PageName) (b : Bool) → (cond b (record q { objects = map.remove q.objects n }) q).files ≡ p.files
        dropped n true = refl
        dropped n false = refl

        by : (n : Option PageName) → (drop_copied q n).files ≡ p.files
        by None = refl
        by (Some n) = dropped n (uses q n == 0)

    chosen : (b : Bool) (r : Referred file_cmp) (t : Referred other_cmp) → t ≡ refiled_result r files → cond b t full ≡ refiled_result (cond b r full) files
    chosen true r t h = h
    chosen false r t h = refl

    makings_refiled : (ms : List (Making K)) (ns : List (Making L)) (p : PlainPages file_cmp) → NameAlike p files → AllAlike ms ns → make_all (refiled other_cmp p files) owner ns ≡ refiled_result (make_all p owner ms) files
    unfolding make_all
    makings_refiled [] [] p alike h = refl
    makings_refiled (m ∷ ms) [] p alike h = absurd h
    makings_refiled [] (n ∷ ns) p alike h = absurd h
    makings_refiled (m ∷ ms) (n ∷ ns) p alike h =
        let q = make p owner m in
        let still : NameAlike q files = λ x. alike x ∙ ap (λ f. sum_by (tally x) (map.values f)) (sym (files_stay p m n h.0)) in
        ap (λ r. cond (HasRoom r owner) (make_all r owner ns) full) (make_refiled p m n alike h.0)
        ∙ ap (λ b. cond b (make_all (refiled other_cmp q files) owner ns) full) (room_refiled q files still owner)
        ∙ chosen (HasRoom q owner) (make_all q owner ms) (make_all (refiled other_cmp q files) owner ns) (makings_refiled ms ns q still h.1)

    -- a reference to a map's page is the same, whatever files are known by
    pub reference_refiled : (p : PlainPages file_cmp) (s : Slot) (kind : Kind) → NameAlike p files → reference (refiled other_cmp p files) (in_map s) kind owner ≡ refiled_result (reference p (in_map s) kind owner) files
    unfolding reference makings
    reference_refiled p s kind alike = by (chain (entry_at p.maps) s)
      where
        from : Option (List (Making L)) → Referred other_cmp
        from ns = option_map_or (make_all (refiled other_cmp p files) owner) ns (denied kind)

        to : Option (List (Making K)) → Referred other_cmp
        to ms = refiled_result (option_map_or (make_all p owner) ms (denied kind)) files

        made : (ms : List (Making K)) (ns : List (Making L)) → AllAlike ms ns → from (Some ns) ≡ to (Some ms)
        made ms ns h = makings_refiled ms ns p alike h

        permitted : (c : Chain) (b : Bool) → from (if b then Some (blanks c ++ copies kind c) else None) ≡ to (if b then Some (blanks c ++ copies kind c) else None)
        permitted c true = made (blanks c ++ copies kind c) (blanks c ++ copies kind c) (listed K L c kind c.page)
        permitted c false = refl

        by : (oc : Option Chain) → from (option_and_then (along_chain kind) oc) ≡ to (option_and_then (along_chain kind) oc)
        by None = refl
        by (Some c) = permitted c (permits kind c)

    all_stay : (ms : List (Making K)) (ns : List (Making L)) (p q : PlainPages file_cmp) → AllAlike ms ns → make_all p owner ms ≡ granted q → q.files ≡ p.files
    unfolding make_all
    all_stay [] [] p q h made = let same : p ≡ q = cc made in ap (λ (x : PlainPages file_cmp). x.files) (sym same)
    all_stay (m ∷ ms) [] p q h made = absurd h
    all_stay [] (n ∷ ns) p q h made = absurd h
    all_stay (m ∷ ms) (n ∷ ns) p q h made = by (all_stay ms ns (make p owner m) q h.1) (HasRoom (make p owner m) owner) made
      where
        by : (make_all (make p owner m) owner ms ≡ granted q → q.files ≡ (make p owner m).files) → (b : Bool) → cond b (make_all (make p owner m) owner ms) full ≡ granted q → q.files ≡ p.files
        by rest true g = rest g ∙ files_stay p m n h.0
        by rest false g = absurd (cc g)

    leaves : (p q : PlainPages file_cmp) (s : Slot) (kind : Kind) → reference p (in_map s) kind owner ≡ granted q → q.files ≡ p.files
    unfolding reference makings
    leaves p q s kind refers = by (chain (entry_at p.maps) s) refers
      where
        permitted : (c : Chain) (b : Bool) → option_map_or (make_all p owner) (if b then Some (blanks c ++ copies kind c) else None) (denied kind) ≡ granted q → q.files ≡ p.files
        permitted c true g = all_stay (blanks c ++ copies kind c) (blanks c ++ copies kind c) p q (listed K L c kind c.page) g
        permitted c false g = absurd (cc g)

        by : (oc : Option Chain) → option_map_or (make_all p owner) (option_and_then (along_chain kind) oc) (denied kind) ≡ granted q → q.files ≡ p.files
        by None g = absurd (cc g)
        by (Some c) g = permitted c (permits kind c) g

-- and it leaves the pages of files
pub reference_leaves : {K : Type 0} {file_cmp : K → K → Ordering} (owner : Tty) (p q : PlainPages file_cmp) (s : Slot) (kind : Kind) → reference p (in_map s) kind owner ≡ granted q → q.files ≡ p.files
reference_leaves {file_cmp = file_cmp} owner p q s kind refers = leaves file_cmp p.files owner p q s kind refers

module _ {K L : Type 0} {file_cmp : K → K → Ordering} (other_cmp : L → L → Ordering) (files : map.FinMap (file_page_cmp other_cmp) PageName) where
  drop_refiled : (q : PlainPages file_cmp) (n : PageName) → NameAlike other_cmp q files → drop_unnamed (refiled other_cmp q files) n ≡ refiled other_cmp (drop_unnamed q n) files
  drop_refiled q n alike =
      let gone : PlainPages file_cmp = record q { objects = map.remove q.objects n } in
      ap (λ k. cond (k == 0) (refiled other_cmp gone files) (refiled other_cmp q files)) (uses_refiled other_cmp q files alike n) ∙ moved other_cmp files (record { 0 = 0 }) (uses q n == 0) gone q

  -- nor does an entry that is set depend on it
  pub entry_refiled : (p : PlainPages file_cmp) (s : Slot) (e : MapEntry) → NameAlike other_cmp p files → with_entry (refiled other_cmp p files) s e ≡ refiled other_cmp (with_entry p s e) files
  unfolding with_entry
  entry_refiled p s e alike = by (option_and_then page_in (entry_at p.maps s))
    where
      q : PlainPages file_cmp
      q = record p { maps = set_entry p.maps s e }

      by : (n : Option PageName) → option_map_or (drop_unnamed (refiled other_cmp q files)) n (refiled other_cmp q files) ≡ refiled other_cmp (option_map_or (drop_unnamed q) n q) files
      by None = refl
      by (Some n) = drop_refiled q n alike

  drop_all_refiled : (q : PlainPages file_cmp) (ns : List PageName) → NameAlike other_cmp q files → drop_all_unnamed (refiled other_cmp q files) ns ≡ refiled other_cmp (drop_all_unnamed q ns) files
  drop_all_refiled q [] alike = refl
  drop_all_refiled q (n ∷ ns) alike = ap (λ (r : PlainPages other_cmp). drop_all_unnamed r ns) (drop_refiled q n alike) ∙ drop_all_refiled (drop_unnamed q n) ns (λ x. alike x ∙ ap (λ f. sum_by (tally x) (map.values f)) (sym (by (uses q n == 0))))
    where
      by : (b : Bool) → (cond b (record q { objects = map.remove q.objects n }) q).files ≡ q.files
      by true = refl
      by false = refl

  -- nor a fork that ends
  pub fork_refiled : (p : PlainPages file_cmp) (f : ForkName) → NameAlike other_cmp p files → without_fork (refiled other_cmp p files) f ≡ refiled other_cmp (without_fork p f) files
  unfolding without_fork
  fork_refiled p f alike = drop_all_refiled (record p { maps = map.remove p.maps f }) (names_in p f) alike
