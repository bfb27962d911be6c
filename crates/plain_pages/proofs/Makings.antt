-- A page more leaves whole pages whole.
use Rattle.std.proofs.Common.{◌≡◌, ◌≢◌, ℕ, zero, suc, ◌+◌, ◌<◌, ◌≤◌, Bool, true, false, cond, ◌||◌, List, length, Option, None, Some, ◌⊎◌, inl, inr, refl, sym, ◌∙◌, ap, subst, arith, Ordering, get_or-set_other, length-set}
use Rattle.std.specs.Prelude.{◌==◌, nat_lt, is_some, slice_set, slice_index}
use Rattle.std.specs.List.{sum_by}
use Rattle.std.specs.Option.{option_map, option_map_or, option_and_then, unwrap_or}
use Rattle.std.proofs.lemmas.List.{length-replicate}
use Rattle.std.specs.Ordering.{eq_by_cmp}
use Rattle.std.specs.Cmp.{IsTotalOrder}
use Rattle.std.specs.FinMap as map
use Rattle.std.proofs.lemmas.Grind.{get_or-set_at}
use Rattle.std.proofs.lemmas.Bool.Decides.{eqb_tells, nat_tests}
use Rattle.outside.specs.declared.TheConstants.{PAGE_WORDS}
use Rattle.machine_names.specs.declared.names.TheConstants.{TERMINALS, SPACE_PAGES}
use Rattle.machine_names.specs.declared.names.Tty.{Tty}
use Rattle.machine_names.specs.declared.names.ForkName.{ForkName}
use Rattle.machine_names.specs.declared.names.PageName.{PageName}
use Rattle.machine_names.specs.declared.names.Slot.{Slot}
use Rattle.machine_names.specs.declared.names.Access.{Access}
use Rattle.plain_pages.specs.declared.map.MapEntry.{MapEntry}
use Rattle.plain_pages.specs.declared.map.MapEntry.TheVariants.{Empty, Names, Follows}
use Rattle.plain_pages.specs.PlainPages.{PlainPages, Map, Maps, page_serial, is_console}
use Rattle.machine_names.specs.Orders.{FilePage, fork_cmp, page_cmp}
use Rattle.plain_pages.specs.Maps.{Entries, Chain, entry_at, set_entry, followed, behind, chain_from, chain_within, chain, full_access}
use Rattle.plain_pages.specs.Room.{same_page, page_in, names, uses}
use Rattle.plain_pages.specs.References.{Spot, in_map, in_file, Making, blank, copy, name_page, next_page, new_page, drop_unnamed, drop_copied, make, page_at, words_at, words_of}
use Rattle.machine_names.specs.PageWords.{zero_words}
use Rattle.machine_names.specs.Bounds.{IsOwner}
use Rattle.plain_pages.specs.WholePages.{AreWhole}
use Rattle.machine_names.proofs.OrderLemmas.{page_tied, fork_cmp_total, page_cmp_total, file_page_total}
use Rattle.plain_pages.proofs.Counts.{weight, total_insert, Same, page_tells, same_itself}
use Rattle.plain_pages.proofs.Chains.{entry_map, keys_set}
use Rattle.plain_pages.proofs.Whole.{map_uses, tally, uses_are, sum_set}

-- the names in maps, with another entry in a slot
pub names_set : (maps : Maps) (s : Slot) (e y : MapEntry) (x : PageName) → entry_at maps s ≡ Some e
    → sum_by (map_uses x) (map.values (set_entry maps s y)) + weight (same_page x) page_in e ≡ sum_by (map_uses x) (map.values maps) + weight (same_page x) page_in y
names_set maps s e y x h =
    let m = entry_map (map.get maps s.fork) s.page e h in
    let is : set_entry maps s y ≡ map.insert maps s.fork (slice_set m.0 s.page y) = ap (λ (o : Option Map). option_map_or (λ n. map.insert maps s.fork (slice_set n s.page y)) o maps) m.1 in
    let sums : sum_by (map_uses x) (map.values (set_entry maps s y)) ≡ sum_by (map_uses x) (map.values (map.insert maps s.fork (slice_set m.0 s.page y))) = ap (λ (n : Maps). sum_by (map_uses x) (map.values n)) is in
    let before : option_map_or (map_uses x) (map.get maps s.fork) 0 ≡ map_uses x m.0 = ap (λ (o : Option Map). option_map_or (map_uses x) o 0) m.1 in
    omega (arith, sums, before, total_insert fork_cmp_total (map_uses x) maps s.fork (slice_set m.0 s.page y), sum_set (weight (same_page x) page_in) m.0 s.page e y m.2)

pub uses_objects : {K : Type 0} {file_cmp : K → K → Ordering} (p : PlainPages file_cmp) (objects : map.FinMap page_cmp (List ℕ)) (x : PageName) → uses (record p { objects = objects }) x ≡ uses p x
unfolding uses names
uses_objects p objects x = refl

or_true : (a b : Bool) → b ≡ true → (a || b) ≡ true
or_true true b h = refl
or_true false b h = h

pub none_used : (k : ℕ) → (k == 0) ≡ true → nat_lt 0 k ≡ false
none_used k h = grind (arith, nat_tests)

pub some_used : (k : ℕ) → (k == 0) ≡ false → nat_lt 0 k ≡ true
some_used k h = grind (arith, nat_tests)

at_least : (k : ℕ) → 1 ≤ k → nat_lt 0 k ≡ true
at_least k h = grind (arith, nat_tests)

-- a test of an object that was put in
put_there : (b c : Bool) (w : List ℕ) (o : Option (List ℕ)) → b ≡ c → is_some (cond b (Some w) o) ≡ (c || is_some o)
put_there b true w o h = rw h refl
put_there b false w o h = rw h refl

module _ {K : Type 0} {file_cmp : K → K → Ordering} (o : IsTotalOrder file_cmp) (p : PlainPages file_cmp) where
  -- how many names of a page are lost where a spot names another
  abbrev pub lost : Spot K → PageName → ℕ
  lost (in_map s) x = option_map_or (weight (same_page x) page_in) (entry_at p.maps s) 0
  lost (in_file f) x = option_map_or (tally x) (map.get p.files f) 0

  -- a spot that is there: any of a file, and a slot of a fork that lives
  abbrev pub IsSpot : Spot K → Type 0
  IsSpot (in_map s) = (e : MapEntry) × (entry_at p.maps s ≡ Some e)
  IsSpot (in_file f) = Unit {0}

  pub uses_named : (at : Spot K) (n : PageName) (a : Access) (x : PageName) → IsSpot at → uses (name_page p at n a) x + lost at x ≡ uses p x + tally x n
  uses_named (in_map s) n a x i =
      let gone : lost (in_map s) x ≡ weight (same_page x) page_in i.0 = ap (λ (e : Option MapEntry). option_map_or (weight (same_page x) page_in) e 0) i.1 in
      omega (arith, uses_are p x, uses_are (name_page p (in_map s) n a) x, gone, names_set p.maps s i.0 (Names n a) x i.1)
  uses_named (in_file f) n a x i = omega (arith, uses_are p x, uses_are (name_page p (in_file f) n a) x, total_insert (file_page_total o) (tally x) p.files f n)

  module _ (w : AreWhole p) (owner : Tty) (own : IsOwner owner) (at : Spot K) (is_spot : IsSpot at) (a : Access) (words : List ℕ) (fits : length words ≡ PAGE_WORDS) where
    abbrev new : PageName
    new = next_page p owner

    abbrev after : PlainPages file_cmp
    after = new_page p owner at a words

    -- only the owner's serial goes on
    serial_other : (t : Tty) → t.0 ≢ owner.0 → page_serial after t ≡ page_serial p t
    serial_other t ne = by (eqb_tells t.0 255) (eqb_tells owner.0 255)
      where
        by : (((t.0 == 255) ≡ true) × (t.0 ≡ 255)) ⊎ (((t.0 == 255) ≡ false) × (t.0 ≢ 255)) → (((owner.0 == 255) ≡ true) × (owner.0 ≡ 255)) ⊎ (((owner.0 == 255) ≡ false) × (owner.0 ≢ 255)) → page_serial after t ≡ page_serial p t
        by (inl t1) (inl o1) = absurd (ne (t1.1 ∙ sym o1.1))
        by (inl t1) (inr o1) = rw (t1.0, o1.0) refl
        by (inr t1) (inl o1) = rw (t1.0, o1.0) refl
        by (inr t1) (inr o1) = rw (t1.0, o1.0) (get_or-set_other p.page_serials owner.0 t.0 (slice_index p.page_serials owner.0 + 1) 0 ne)

    serial_own : page_serial after owner ≡ page_serial p owner + 1
    serial_own = by own (eqb_tells owner.0 255)
      where
        by : IsOwner owner → (((owner.0 == 255) ≡ true) × (owner.0 ≡ 255)) ⊎ (((owner.0 == 255) ≡ false) × (owner.0 ≢ 255)) → page_serial after owner ≡ page_serial p owner + 1
        by i (inl o1) = rw o1.0 refl
        by (inr i) (inr o1) = absurd (o1.1 i)
        by (inl i) (inr o1) = rw o1.0 (get_or-set_at p.page_serials owner.0 owner.0 (slice_index p.page_serials owner.0 + 1) 0 refl (omega (arith, i, w.owners)))

    serial_later : (t : Tty) → page_serial p t ≤ page_serial after t
    serial_later t = by (eqb_tells t.0 owner.0)
      where
        by : (((t.0 == owner.0) ≡ true) × (t.0 ≡ owner.0)) ⊎ (((t.0 == owner.0) ≡ false) × (t.0 ≢ owner.0)) → page_serial p t ≤ page_serial after t
        by (inl e) =
            let same : t ≡ owner = λ i. record { 0 = e.1 i } in
            subst (λ (u : Tty). page_serial p u ≤ page_serial after u) (sym same) (omega (arith, serial_own))
        by (inr e) = omega (arith, serial_other t e.1)

    -- the new page is there, beside those that were
    pub has_new : (x : PageName) → map.contains_key after.objects x ≡ (same_page x new || map.contains_key p.objects x)
    has_new x = ap is_some (map.get-insert page_cmp_total p.objects new words x) ∙ put_there (eq_by_cmp page_cmp x new) (same_page x new) words (map.get p.objects x) (page_tied x new)

    pub uses_new : (x : PageName) → uses after x + lost at x ≡ uses p x + tally x new
    unfolding uses names
    uses_new x = uses_named at new a x is_spot

    -- a page whose names are not lost is there where it is named
    named_still : (x : PageName) → lost at x ≡ 0 → map.contains_key after.objects x ≡ nat_lt 0 (uses after x)
    named_still x none = by (page_tells x new)
      where
        by : Same x new → map.contains_key after.objects x ≡ nat_lt 0 (uses after x)
        by (inl e) =
            let one : tally x new ≡ 1 = ap (λ b. cond b 1 0) e.0 in
            let some : uses after x ≡ uses p x + 1 = omega (arith, uses_new x, none, one) in
            has_new x ∙ ap (λ b. b || map.contains_key p.objects x) e.0 ∙ sym (ap (nat_lt 0) some ∙ later (uses p x))
          where
            later : (k : ℕ) → nat_lt 0 (k + 1) ≡ true
            later k = grind (arith, nat_tests)
        by (inr e) =
            let zero_more : tally x new ≡ 0 = ap (λ b. cond b 1 0) e.0 in
            let some : uses after x ≡ uses p x = omega (arith, uses_new x, none, zero_more) in
            has_new x ∙ ap (λ b. b || map.contains_key p.objects x) e.0 ∙ w.named x ∙ sym (ap (nat_lt 0) some)

    words_still : (x : PageName) (ws : List ℕ) → map.get after.objects x ≡ Some ws → length ws ≡ PAGE_WORDS
    words_still x ws h = by (page_tells x new) (sym (map.get-insert page_cmp_total p.objects new words x ∙ ap (λ b. cond b (Some words) (map.get p.objects x)) (page_tied x new)) ∙ h)
      where
        by : Same x new → cond (same_page x new) (Some words) (map.get p.objects x) ≡ Some ws → length ws ≡ PAGE_WORDS
        by (inl e) k = let is : words ≡ ws = cc (e.0, k) in ap length (sym is) ∙ fits
        by (inr e) k = w.words x ws (cc (e.0, k))

    old_still : (x : PageName) → map.contains_key after.objects x ≡ true → x.serial < page_serial after x.tty
    old_still x h = by (page_tells x new)
      where
        by : Same x new → x.serial < page_serial after x.tty
        by (inl e) = subst (λ (y : PageName). y.serial < page_serial after y.tty) (sym e.1) (omega (arith, serial_own))
        by (inr e) = let there : map.contains_key p.objects x ≡ true = sym (ap (λ b. b || map.contains_key p.objects x) e.0) ∙ sym (has_new x) ∙ h in omega (arith, w.old x there, serial_later x.tty)

    owners_still : length after.page_serials ≡ TERMINALS
    owners_still = by (is_console owner)
      where
        by : (b : Bool) → length (cond b p.page_serials (slice_set p.page_serials owner.0 (page_serial p owner + 1))) ≡ TERMINALS
        by true = w.owners
        by false = length-set p.page_serials owner.0 (page_serial p owner + 1) ∙ w.owners

    entries_still : (f : ForkName) (m : Map) → map.get after.maps f ≡ Some m → length m ≡ SPACE_PAGES
    entries_still f m h = by at is_spot h
      where
        set_in : (s : Slot) (n : Map) (e : MapEntry) → map.get p.maps s.fork ≡ Some n → map.get (map.insert p.maps s.fork (slice_set n s.page e)) f ≡ Some m → length m ≡ SPACE_PAGES
        set_in s n e there k = choose (eq_by_cmp fork_cmp f s.fork) (sym (map.get-insert fork_cmp_total p.maps s.fork (slice_set n s.page e) f) ∙ k)
          where
            choose : (b : Bool) → cond b (Some (slice_set n s.page e)) (map.get p.maps f) ≡ Some m → length m ≡ SPACE_PAGES
            choose true g = let is : slice_set n s.page e ≡ m = cc g in ap length (sym is) ∙ length-set n s.page e ∙ w.entries s.fork n there
            choose false g = w.entries f m g

        by : (b : Spot K) → IsSpot b → map.get (name_page p b new a).maps f ≡ Some m → length m ≡ SPACE_PAGES
        by (in_map s) i k =
            let n = entry_map (map.get p.maps s.fork) s.page i.0 i.1 in
            let is : set_entry p.maps s (Names new a) ≡ map.insert p.maps s.fork (slice_set n.0 s.page (Names new a)) = ap (λ (q : Option Map). option_map_or (λ m. map.insert p.maps s.fork (slice_set m s.page (Names new a))) q p.maps) n.1 in
            set_in s n.0 (Names new a) n.1 (sym (ap (λ (q : Maps). map.get q f) is) ∙ k)
        by (in_file g) i k = w.entries f m k

    owned_still : (f : ForkName) → map.contains_key after.maps f ≡ true → f.tty.0 < TERMINALS
    owned_still f h = by at is_spot h
      where
        by : (b : Spot K) → IsSpot b → map.contains_key (name_page p b new a).maps f ≡ true → f.tty.0 < TERMINALS
        by (in_map s) i k = w.owned f (sym (keys_set p.maps s i.0 (Names new a) i.1 f) ∙ k)
        by (in_file g) i k = w.owned f k

    -- a page more where no name is lost
    pub new_whole : ((x : PageName) → lost at x ≡ 0) → AreWhole after
    new_whole none = record { named = λ x. named_still x (none x); words = words_still; entries = entries_still; owned = owned_still; old = old_still; owners = owners_still }

    -- a page more, whose spot may lose one page's name, perhaps its last
    pub drop_whole : (old : PageName) → map.contains_key p.objects old ≡ true → ((x : PageName) → x ≢ old → lost at x ≡ 0) → AreWhole (drop_unnamed after old)
    drop_whole old there others = by (uses after old == 0) refl
      where
        rest : map.FinMap page_cmp (List ℕ)
        rest = map.remove after.objects old

        found : (x : PageName) → map.get rest x ≡ cond (same_page x old) None (map.get after.objects x)
        found x = map.get-remove page_cmp_total after.objects old x ∙ ap (λ b. cond b None (map.get after.objects x)) (page_tied x old)

        by : (b : Bool) → (uses after old == 0) ≡ b → AreWhole (cond b (record after { objects = rest }) after)
        by true h = record {
          named = λ x. left x (page_tells x old) ∙ sym (ap (nat_lt 0) (uses_objects after rest x));
          words = λ x ws k. kept_words x ws (page_tells x old) (sym (found x) ∙ k);
          entries = entries_still;
          owned = owned_still;
          old = λ x k. kept_old x (page_tells x old) (sym (ap is_some (found x)) ∙ k);
          owners = owners_still;
        }
          where
            left : (x : PageName) → Same x old → map.contains_key rest x ≡ nat_lt 0 (uses after x)
            left x (inl e) =
                let gone : nat_lt 0 (uses after x) ≡ false = ap (λ y. nat_lt 0 (uses after y)) e.1 ∙ none_used (uses after old) h in
                ap is_some (found x) ∙ ap (λ c. is_some (cond c None (map.get after.objects x))) e.0 ∙ sym gone
            left x (inr e) = ap is_some (found x) ∙ ap (λ c. is_some (cond c None (map.get after.objects x))) e.0 ∙ named_still x (others x e.1)

            kept_words : (x : PageName) (ws : List ℕ) → Same x old → cond (same_page x old) None (map.get after.objects x) ≡ Some ws → length ws ≡ PAGE_WORDS
            kept_words x ws (inl e) k = absurd (cc (e.0, k))
            kept_words x ws (inr e) k = words_still x ws (cc (e.0, k))

            kept_old : (x : PageName) → Same x old → is_some (cond (same_page x old) None (map.get after.objects x)) ≡ true → x.serial < page_serial after x.tty
            kept_old x (inl e) k = absurd (cc (e.0, k))
            kept_old x (inr e) k = old_still x (sym (ap (λ c. is_some (cond c None (map.get after.objects x))) e.0) ∙ k)
        by false h = record { named = λ x. all x (page_tells x old); words = words_still; entries = entries_still; owned = owned_still; old = old_still; owners = owners_still }
          where
            here : map.contains_key after.objects old ≡ nat_lt 0 (uses after old)
            here = has_new old ∙ or_true (same_page old new) (map.contains_key p.objects old) there ∙ sym (some_used (uses after old) h)

            all : (x : PageName) → Same x old → map.contains_key after.objects x ≡ nat_lt 0 (uses after x)
            all x (inl e) = subst (λ (y : PageName). map.contains_key after.objects y ≡ nat_lt 0 (uses after y)) (sym e.1) here
            all x (inr e) = named_still x (others x e.1)

-- the page of a chain is that of what it goes on with
page_behind : (s : Slot) (a : Access) (c : Option Chain) → option_and_then (λ d. d.page) (option_map (behind s a) c) ≡ option_and_then (λ d. d.page) c
page_behind s a None = refl
page_behind s a (Some c) = refl

-- the page of a chain is named by an entry
pub chain_page : (n : ℕ) (entries : Entries) (s : Slot) (page : PageName) → option_and_then (λ c. c.page) (chain_within n entries s) ≡ Some page → (t : Slot) × (a : Access) × (entries t ≡ Some (Names page a))
unfolding chain_within
chain_page zero entries s page h = absurd (cc h)
chain_page (suc n) entries s page h = by (λ t g. chain_page n entries t page g) (entries s) refl h
  where
    by : ((t : Slot) → option_and_then (λ c. c.page) (chain_within n entries t) ≡ Some page → (u : Slot) × (a : Access) × (entries u ≡ Some (Names page a))) → (e : Option MapEntry) → entries s ≡ e
        → option_and_then (λ c. c.page) (chain_from s e (chain_within n entries)) ≡ Some page → (u : Slot) × (a : Access) × (entries u ≡ Some (Names page a))
    by rest None is k = absurd (cc k)
    by rest (Some Empty) is k = absurd (cc k)
    by rest (Some (Names m a)) is k = let same : m ≡ page = cc k in (s, a, is ∙ ap (λ x. Some (Names x a)) same)
    by rest (Some (Follows serial at a)) is k = rest (followed s serial at) (sym (page_behind s a (chain_within n entries (followed s serial at))) ∙ k)

pub at_zero : (x o : PageName) → x ≢ o → tally x o ≡ 0
at_zero x o ne = elim (page_tells x o) [ inl e ↦ absurd (ne e.1) | inr e ↦ ap (λ b. cond b 1 0) e.0 ]

zero_fits : length zero_words ≡ PAGE_WORDS
unfolding zero_words
zero_fits = length-replicate {A = ℕ} PAGE_WORDS 0

-- what a making wants: an empty entry or an absent page of a file for a zero page, and a slot for a copy
abbrev pub CanMake : {K : Type 0} {file_cmp : K → K → Ordering} → PlainPages file_cmp → Making K → Type 0
CanMake p (blank (in_map s)) = entry_at p.maps s ≡ Some Empty
CanMake p (blank (in_file f)) = map.get p.files f ≡ None
CanMake p (copy s a) = (e : MapEntry) × (entry_at p.maps s ≡ Some e)

module _ {K : Type 0} {file_cmp : K → K → Ordering} (o : IsTotalOrder file_cmp) (p : PlainPages file_cmp) (w : AreWhole p) where
  -- a page that an entry names is there
  pub entry_there : (t : Slot) (page : PageName) (a : Access) → entry_at p.maps t ≡ Some (Names page a) → map.contains_key p.objects page ≡ true
  entry_there t page a h =
      let one : tally page page ≡ 1 = ap (λ b. cond b 1 0) (same_itself page) in
      w.named page ∙ at_least (uses p page) (omega (arith, uses_are p page, one, names_set p.maps t (Names page a) Empty page h))

  -- the page at the end of a slot's chain is there
  pub page_there : (s : Slot) (page : PageName) → page_at p (in_map s) ≡ Some page → map.contains_key p.objects page ≡ true
  unfolding page_at chain
  page_there s page h = let t = chain_page 4 (entry_at p.maps) s page h in entry_there t.0 page t.1 t.2

  -- a page that a file names is there
  file_there : (f : FilePage K) (page : PageName) → map.get p.files f ≡ Some page → map.contains_key p.objects page ≡ true
  file_there f page h =
      let other : PageName = record page { serial = page.serial + 1 } in
      let one : lost o p (in_file f) page ≡ 1 = ap (λ (n : Option PageName). option_map_or (tally page) n 0) h ∙ ap (λ b. cond b 1 0) (same_itself page) in
      let not_other : tally page other ≡ 0 = at_zero page other (λ same. omega (arith, ap (λ (n : PageName). n.serial) same)) in
      w.named page ∙ at_least (uses p page) (omega (arith, uses_named o p (in_file f) other full_access page tt, one, not_other))

  -- so is whatever page a spot names
  pub spot_there : (at : Spot K) (page : PageName) → page_at p at ≡ Some page → map.contains_key p.objects page ≡ true
  unfolding page_at
  spot_there (in_map s) page h = page_there s page h
  spot_there (in_file f) page h = file_there f page h

  pub words_fit : (n : PageName) (ws : Option (List ℕ)) → map.get p.objects n ≡ ws → length (unwrap_or ws zero_words) ≡ PAGE_WORDS
  words_fit n None h = zero_fits
  words_fit n (Some ws) h = w.words n ws h

  pub page_fits : (n : Option PageName) → length (option_map_or (λ m. words_of p m) n zero_words) ≡ PAGE_WORDS
  page_fits None = zero_fits
  page_fits (Some n) = words_fit n (map.get p.objects n) refl

  pub named_end : (s : Slot) (n : PageName) (a : Access) → entry_at p.maps s ≡ Some (Names n a) → page_at p (in_map s) ≡ Some n
  unfolding page_at chain chain_within
  named_end s n a h = ap (λ e. option_and_then (λ c. c.page) (chain_from s e (chain_within 3 (entry_at p.maps)))) h

  module _ (owner : Tty) (own : IsOwner owner) (s : Slot) (access : Access) where
    abbrev q : PlainPages file_cmp
    q = new_page p owner (in_map s) access (words_at p (in_map s))

    -- a copy where the entry names no page
    follows_whole : (e : MapEntry) → entry_at p.maps s ≡ Some e → ((x : PageName) → weight (same_page x) page_in e ≡ 0) → (n : Option PageName) → page_at p (in_map s) ≡ n → AreWhole (drop_copied q n)
    follows_whole e h none n is = by n is
      where
        lost_none : (x : PageName) → lost o p (in_map s) x ≡ 0
        lost_none x = ap (λ (d : Option MapEntry). option_map_or (weight (same_page x) page_in) d 0) h ∙ none x

        by : (n : Option PageName) → page_at p (in_map s) ≡ n → AreWhole (drop_copied q n)
        by None is = new_whole o p w owner own (in_map s) (e, h) access (words_at p (in_map s)) (page_fits (page_at p (in_map s))) lost_none
        by (Some old) is = drop_whole o p w owner own (in_map s) (e, h) access (words_at p (in_map s)) (page_fits (page_at p (in_map s))) old (page_there s old is) (λ x ne. lost_none x)

    copy_whole : (e : MapEntry) → entry_at p.maps s ≡ Some e → AreWhole (drop_copied q (page_at p (in_map s)))
    copy_whole Empty h = follows_whole Empty h (λ x. refl) (page_at p (in_map s)) refl
    copy_whole (Follows serial page a) h = follows_whole (Follows serial page a) h (λ x. refl) (page_at p (in_map s)) refl
    copy_whole (Names n a) h =
        subst (λ (m : Option PageName). AreWhole (drop_copied q m)) (sym (named_end s n a h))
        (drop_whole o p w owner own (in_map s) (Names n a, h) access (words_at p (in_map s)) (page_fits (page_at p (in_map s))) n (entry_there s n a h)
        (λ x ne. ap (λ (d : Option MapEntry). option_map_or (weight (same_page x) page_in) d 0) h ∙ at_zero x n ne))

  -- a making leaves whole pages whole
  pub make_whole : (owner : Tty) → IsOwner owner → (m : Making K) → CanMake p m → AreWhole (make p owner m)
  unfolding make
  make_whole owner own (blank (in_map s)) h =
      new_whole o p w owner own (in_map s) (Empty, h) full_access zero_words zero_fits (λ x. ap (λ (d : Option MapEntry). option_map_or (weight (same_page x) page_in) d 0) h)
  make_whole owner own (blank (in_file f)) h = new_whole o p w owner own (in_file f) tt full_access zero_words zero_fits (λ x. ap (λ (d : Option PageName). option_map_or (tally x) d 0) h)
  make_whole owner own (copy s a) h = copy_whole owner own s a h.0 h.1
