-- What is left once a fork begins to live.
use Rattle.std.proofs.Common.{◌≡◌, ◌≢◌, ◌⊎◌, inl, inr, ℕ, zero, suc, ◌+◌, ◌<◌, ◌≤◌, List, [], ◌∷◌, false, cond, ◌||◌, ◌++◌, Option, None, Some, length, map, replicate, take, refl, sym, ◌∙◌, ap, subst, arith, is_some, nat_eq}
use Rattle.std.specs.Prelude.{slice_get, slice_set}
use Rattle.std.specs.List.{sum_by, range_with_len}
use Rattle.std.specs.Option.{option_map, option_map_or}
use Rattle.std.specs.FinMap as fin
use Rattle.std.proofs.lemmas.Bool.{cases_eq}
use Rattle.std.proofs.lemmas.Bool.Decides.{eqb_tells}
use Rattle.std.proofs.lemmas.List.{get_or-set_same, get_or-set_other, length-set, take_all, take_more_set}
use Rattle.std.proofs.lemmas.List.Sums.{sum_by-set}
use Rattle.std.proofs.lemmas.List.FromFn.{length-map-range_with_len, map-range_with_len_more}
use Rattle.std.proofs.lemmas.Option.{slice_get-map}
use Rattle.machine_names.specs.declared.names.Access.{Access}
use Rattle.machine_names.specs.declared.names.ForkName.{ForkName}
use Rattle.machine_names.specs.declared.names.PageName.{PageName}
use Rattle.machine_names.specs.declared.names.Tty.{Tty}
use Rattle.machine_names.specs.declared.names.TheConstants.{SPACE_PAGES, MOST_FORKS, TERMINALS}
use Rattle.plain_pages.specs.declared.map.MapEntry.TheVariants as entry
use Rattle.plain_pages.specs.NewMaps.{empty_map, following_map}
use Rattle.plain_pages.specs.Maps.{full_access}
use Rattle.page_contracts.specs.DrumWords.{DrumWords}
use Rattle.machine_names.specs.Orders.{same_fork}
use Rattle.page_contracts.specs.Pages.{TakesMap}
use Rattle.plain_pages.specs.PlainPages.{Map, Maps}
use Rattle.machine_names.proofs.OrderLemmas.{fork_cmp_total, fork_cmp_apart}
use Rattle.flat_tables.specs.declared.held_entry.HeldEntry.{HeldEntry}
use Rattle.flat_tables.specs.declared.held_entry.HeldEntry.TheVariants.{Empty, Page, Follows}
use Rattle.flat_tables.specs.declared.held_entry.Link.{Link}
use Rattle.flat_tables.specs.declared.held_map.HeldMap.{HeldMap}
use Rattle.flat_tables.specs.HeldMaps.{map_at, fork_at, held_entry, index_of, first_map, entry_of, entries_of, maps_held, entries_total, points_at, living_in, living_of, followers, AreHeld}
use Rattle.flat_tables.specs.SlotTables.{Tables, plain_of, AreTables}
use Rattle.flat_tables.specs.Serials.{serial_of}
use Rattle.flat_tables.specs.SlotTouches.{scene_of}
use Rattle.flat_tables.specs.TableSteps.{fork_begun}
use Rattle.flat_tables.proofs.AgreedTables.{agreed, named_in}
use Rattle.flat_tables.proofs.ForkMaps.{SameFork, fork_tells, Once, searched, index_fork, index_is, index_none}
use Rattle.flat_tables.proofs.HeldEntries.{points_self, sum_zero}
use Rattle.flat_tables.proofs.LivingMaps.{inserted, get_living, get_gone}

-- ---- the entries of a new map

-- entries that name no page, nor a page past the end of a space
pub record AreNew (entries : List HeldEntry) : Type 0 where
  pub size : length entries ≡ SPACE_PAGES
  pub links : (page : ℕ) (l : Link) (a : Access) → slice_get entries page ≡ Some (Follows l a) → l.page < SPACE_PAGES
  pub none : (h page : ℕ) (e : HeldEntry) → slice_get entries page ≡ Some e → points_at h e ≡ 0

in_range : (a n i x : ℕ) → slice_get (range_with_len a n) i ≡ Some x → x < a + n
in_range a zero i x e = absurd (cc e)
in_range a (suc n) zero x e = let is : a ≡ x = cc e in omega (arith, is)
in_range a (suc n) (suc i) x e = omega (arith, in_range (a + 1) n i x e)

-- an entry that follows one of a fork, with every right
abbrev pub follower : ℕ → ℕ → ℕ → HeldEntry
follower serial near page = Follows (record { serial = serial; page = page; map = near }) full_access

-- the entries of a loop that goes up
pub followers_none : (serial near : ℕ) (xs : List HeldEntry) → take 0 xs ≡ map (follower serial near) (range_with_len 0 0)
followers_none serial near xs = refl

pub followers_more : (serial near page : ℕ) (xs : List HeldEntry) → page < length xs → take page xs ≡ map (follower serial near) (range_with_len 0 page)
    → take (page + 1) (slice_set xs page (follower serial near page)) ≡ map (follower serial near) (range_with_len 0 (page + 1))
followers_more serial near page xs within so_far =
    take_more_set xs page (follower serial near page) within ∙ ap (λ (ys : List HeldEntry). ys ++ follower serial near page ∷ []) so_far ∙ sym (map-range_with_len_more (follower serial near) 0 page page (omega arith))

pub followers_all : (serial near : ℕ) (xs : List HeldEntry) → length xs ≡ SPACE_PAGES → take SPACE_PAGES xs ≡ map (follower serial near) (range_with_len 0 SPACE_PAGES) → xs ≡ followers serial near
unfolding followers
followers_all serial near xs size all = sym (take_all SPACE_PAGES xs (omega (arith, size))) ∙ all

pub followers_new : (serial near : ℕ) → AreNew (followers serial near)
unfolding followers
followers_new serial near = record {
  size = length-map-range_with_len (follower serial near) 0 SPACE_PAGES;
  links = λ page l a h. links page l a (slice_get (range_with_len 0 SPACE_PAGES) page) refl (sym (slice_get-map (follower serial near) (range_with_len 0 SPACE_PAGES) page) ∙ h);
  none = λ h page e g. none h e (slice_get (range_with_len 0 SPACE_PAGES) page) (sym (slice_get-map (follower serial near) (range_with_len 0 SPACE_PAGES) page) ∙ g);
}
  where
    links : (page : ℕ) (l : Link) (a : Access) (o : Option ℕ) → slice_get (range_with_len 0 SPACE_PAGES) page ≡ o → option_map (follower serial near) o ≡ Some (Follows l a) → l.page < SPACE_PAGES
    links page l a None is h = absurd (cc h)
    links page l a (Some x) is h =
        let same : x ≡ l.page = (let one : follower serial near x ≡ Follows l a = cc h in cc one) in
        omega (arith, same, in_range 0 SPACE_PAGES page x is)

    none : (h : ℕ) (e : HeldEntry) (o : Option ℕ) → option_map (follower serial near) o ≡ Some e → points_at h e ≡ 0
    none h e None g = absurd (cc g)
    none h e (Some x) g = let one : follower serial near x ≡ e = cc g in ap (points_at h) (sym one)

map_twice : {A B C : Type 0} (g : B → C) (h : A → B) (xs : List A) → map g (map h xs) ≡ map (λ x. g (h x)) xs
map_twice g h [] = refl
map_twice g h (x ∷ xs) = ap (◌∷◌ (g (h x))) (map_twice g h xs)

pub followers_follow : (names : List (Option PageName)) (near : ℕ) (f : ForkName) → map (entry_of names) (followers f.serial near) ≡ following_map f
unfolding followers following_map
followers_follow names near f = map_twice (entry_of names) (follower f.serial near) (range_with_len 0 SPACE_PAGES)

-- a map of no fork names no page
pub unused_new : (maps : List HeldMap) → AreHeld maps → (k : ℕ) → k < length maps → fork_at maps k ≡ None → AreNew (map_at maps k).entries
unused_new maps held k within unlived = record {
  size = held.pages k within;
  links = λ page l a h. absurd (let none : Follows l a ≡ Empty = held.unused (record { map = k; page = page }) (Follows l a) unlived h in cc none);
  none = λ h page e g. ap (points_at h) (held.unused (record { map = k; page = page }) e unlived g);
}

all_empty : (names : List (Option PageName)) (xs : List HeldEntry) → ((i : ℕ) (x : HeldEntry) → slice_get xs i ≡ Some x → x ≡ Empty) → map (entry_of names) xs ≡ replicate (length xs) entry.Empty
all_empty names [] h = refl
all_empty names (x ∷ xs) h =
    let rest = all_empty names xs (λ i y e. h (suc i) y e) in
    ap (λ (e : HeldEntry). entry_of names e ∷ map (entry_of names) xs) (h zero x refl) ∙ ap (◌∷◌ entry.Empty) rest

pub unused_empty : (names : List (Option PageName)) (maps : List HeldMap) → AreHeld maps → (k : ℕ) → k < length maps → fork_at maps k ≡ None → map (entry_of names) (map_at maps k).entries ≡ empty_map
unfolding empty_map
unused_empty names maps held k within unlived =
    all_empty names (map_at maps k).entries (λ i x h. held.unused (record { map = k; page = i }) x unlived h) ∙ ap (λ n. replicate n entry.Empty) (held.pages k within)

-- ---- the maps with one more that lives

module _ (maps : List HeldMap) (held : AreHeld maps) (k : ℕ) (f : ForkName) (entries : List HeldEntry) (within : k < length maps) (unlived : fork_at maps k ≡ None)
    (from : first_map f.tty ≤ k) (below : k < first_map f.tty + MOST_FORKS) (absent : is_some (index_of maps f) ≡ false) (new : AreNew entries) where
  abbrev begun : HeldMap
  begun = record { fork = Some f; entries = entries }

  abbrev after : List HeldMap
  after = slice_set maps k begun

  here : map_at after k ≡ begun
  here = get_or-set_same maps k begun (record { fork = None; entries = [] }) within

  other : (j : ℕ) → j ≢ k → map_at after j ≡ map_at maps j
  other j ne = get_or-set_other maps k j begun (record { fork = None; entries = [] }) ne

  not_there : (j : ℕ) → fork_at maps j ≢ Some f
  not_there = elim (searched maps f) [ inl r ↦ absurd (let z : is_some (Some r.0) ≡ false = sym (ap is_some r.1) ∙ absent in cc z) | inr r ↦ r.1 ]

  abbrev Was : ℕ → ForkName → Type 0
  Was j g = ((j ≡ k) × (g ≡ f)) ⊎ ((j ≢ k) × (fork_at maps j ≡ Some g))

  was : (j : ℕ) (g : ForkName) → fork_at after j ≡ Some g → Was j g
  was j g e = elim (cases_eq j k) [
    | inl is ↦ inl (is, (let z : Some f ≡ Some g = sym (ap (fork_at after) is ∙ ap (λ (m : HeldMap). m.fork) here) ∙ e in let one : f ≡ g = cc z in sym one))
    | inr ne ↦ inr (ne, sym (ap (λ (m : HeldMap). m.fork) (other j ne)) ∙ e)
  ]

  pub once_begun : Once after
  once_begun i j g a b = by (was i g a) (was j g b)
    where
      by : Was i g → Was j g → i ≡ j
      by (inl x) (inl y) = x.0 ∙ sym y.0
      by (inl x) (inr y) = absurd (not_there j (y.1 ∙ ap Some x.1))
      by (inr x) (inl y) = absurd (not_there i (x.1 ∙ ap Some y.1))
      by (inr x) (inr y) = held.once i j g x.1 y.1

  pub held_begun : AreHeld after
  held_begun = record {
    count = length-set maps k begun ∙ held.count;
    pages = λ j l. elim (cases_eq j k) [
      | inl is ↦ ap (λ i. length (map_at after i).entries) is ∙ ap (λ (m : HeldMap). length m.entries) here ∙ new.size
      | inr ne ↦ ap (λ (m : HeldMap). length m.entries) (other j ne) ∙ held.pages j (omega (arith, length-set maps k begun, l))
    ];
    once = once_begun;
    from = λ j g e. elim (was j g e) [ inl x ↦ subst (λ (i : ℕ). first_map g.tty ≤ i) (sym x.0) (subst (λ (h : ForkName). first_map h.tty ≤ k) (sym x.1) from) | inr x ↦ held.from j g x.1 ];
    below = λ j g e. elim (was j g e) [
      | inl x ↦ subst (λ (i : ℕ). i < first_map g.tty + MOST_FORKS) (sym x.0) (subst (λ (h : ForkName). k < first_map h.tty + MOST_FORKS) (sym x.1) below)
      | inr x ↦ held.below j g x.1
    ];
    links = λ at l a h. elim (cases_eq at.map k) [
      | inl is ↦ new.links at.page l a (sym (ap (λ (m : HeldMap). slice_get m.entries at.page) (ap (map_at after) is ∙ here)) ∙ h)
      | inr ne ↦ held.links at l a (sym (ap (λ (m : HeldMap). slice_get m.entries at.page) (other at.map ne)) ∙ h)
    ];
    unused = λ at e none h. elim (cases_eq at.map k) [
      | inl is ↦ absurd (let z : Some f ≡ None = sym (ap (λ (m : HeldMap). m.fork) (ap (map_at after) is ∙ here)) ∙ none in cc z)
      | inr ne ↦ held.unused at e (sym (ap (λ (m : HeldMap). m.fork) (other at.map ne)) ∙ none) (sym (ap (λ (m : HeldMap). slice_get m.entries at.page) (other at.map ne)) ∙ h)
    ];
  }

  own : fork_at after k ≡ Some f
  own = ap (λ (m : HeldMap). m.fork) here

  -- a fork that had a map has it still
  stays : (j : ℕ) (g : ForkName) → fork_at maps j ≡ Some g → (j ≢ k) × (fork_at after j ≡ Some g)
  stays j g e =
      let ne : j ≢ k = λ is. absurd (let z : None ≡ Some g = sym unlived ∙ ap (fork_at maps) (sym is) ∙ e in cc z) in
      (ne, ap (λ (m : HeldMap). m.fork) (other j ne) ∙ e)

  gone : (g : ForkName) → g ≢ f → ((j : ℕ) → fork_at maps j ≢ Some g) → (j : ℕ) → fork_at after j ≢ Some g
  gone g ne none j e = elim (was j g e) [ inl x ↦ ne x.1 | inr x ↦ none j x.1 ]

  -- who lives now
  pub lives_begun : (g : ForkName) → is_some (index_of after g) ≡ (same_fork g f || is_some (index_of maps g))
  lives_begun g = by (fork_tells g f)
    where
      by : SameFork g f → is_some (index_of after g) ≡ (same_fork g f || is_some (index_of maps g))
      by (inl t) = ap is_some (index_is after once_begun g k (own ∙ ap Some (sym t.1))) ∙ sym (ap (λ b. b || is_some (index_of maps g)) t.0)
      by (inr t) = elim (searched maps g) [
        | inl r ↦ let s = stays r.0 g r.2 in ap is_some (index_is after once_begun g r.0 s.1) ∙ sym (ap is_some r.1) ∙ sym (ap (λ b. b || is_some (index_of maps g)) t.0)
        | inr r ↦ ap is_some (index_none after g (gone g t.1 r.1)) ∙ sym (ap is_some r.0) ∙ sym (ap (λ b. b || is_some (index_of maps g)) t.0)
      ]

  -- the maps, with that of the new fork
  pub maps_begun : (names : List (Option PageName)) → maps_held names after ≡ fin.insert (maps_held names maps) f (map (entry_of names) entries)
  maps_begun names = fin.same_map fork_cmp_total fork_cmp_apart _ _ (λ q. look q (fork_tells q f) ∙ sym (inserted (maps_held names maps) f q (map (entry_of names) entries)))
    where
      look : (q : ForkName) → SameFork q f → fin.get (maps_held names after) q ≡ cond (same_fork q f) (Some (map (entry_of names) entries)) (fin.get (maps_held names maps) q)
      look q (inl t) =
          get_living names after once_begun q k (own ∙ ap Some (sym t.1)) ∙ ap (λ (m : HeldMap). Some (entries_of names m)) here
          ∙ sym (ap (λ b. cond b (Some (map (entry_of names) entries)) (fin.get (maps_held names maps) q)) t.0)
      look q (inr t) = elim (searched maps q) [
        | inl r ↦ let s = stays r.0 q r.2 in
            get_living names after once_begun q r.0 s.1 ∙ ap (λ (m : HeldMap). Some (entries_of names m)) (other r.0 s.0) ∙ sym (get_living names maps held.once q r.0 r.2)
            ∙ sym (ap (λ b. cond b (Some (map (entry_of names) entries)) (fin.get (maps_held names maps) q)) t.0)
        | inr r ↦ get_gone names after q (gone q t.1 r.1) ∙ sym (get_gone names maps q r.1)
            ∙ sym (ap (λ b. cond b (Some (map (entry_of names) entries)) (fin.get (maps_held names maps) q)) t.0)
      ]

  -- a fork more lives
  pub living_begun : living_in after ≡ living_in maps + 1
  living_begun =
      let s = sum_by-set (λ (m : HeldMap). cond (is_some m.fork) 1 0) maps k begun (record { fork = None; entries = [] }) within in
      let before : ◌≡◌ {A = ℕ} (cond (is_some (fork_at maps k)) 1 0) 0 = ap (λ (o : Option ForkName). cond (is_some o) 1 0) unlived in
      omega (arith, s, before)

  abbrev of_terminal : Tty → Option ForkName → ℕ
  of_terminal t o = cond (option_map_or (λ g. nat_eq g.tty.0 t.0) o false) 1 0

  of_begun : (t : Tty) → living_of after t + of_terminal t None ≡ living_of maps t + of_terminal t (Some f)
  of_begun t =
      let s = sum_by-set (λ (m : HeldMap). of_terminal t m.fork) maps k begun (record { fork = None; entries = [] }) within in
      let before : of_terminal t (fork_at maps k) ≡ of_terminal t None = ap (of_terminal t) unlived in
      omega (arith, s, before)

  pub own_begun : living_of after f.tty ≡ living_of maps f.tty + 1
  own_begun = elim (eqb_tells f.tty.0 f.tty.0) [
    | inl t ↦ let one : ◌≡◌ {A = ℕ} (of_terminal f.tty (Some f)) 1 = ap (λ b. cond b 1 0) t.0 in omega (arith, of_begun f.tty, one)
    | inr t ↦ absurd (t.1 refl)
  ]

  pub others_begun : (t : Tty) → t ≢ f.tty → living_of after t ≡ living_of maps t
  others_begun t ne = elim (eqb_tells f.tty.0 t.0) [
    | inl s ↦ absurd (ne (λ i. record { 0 = sym s.1 i }))
    | inr s ↦ let none : ◌≡◌ {A = ℕ} (of_terminal t (Some f)) 0 = ap (λ b. cond b 1 0) s.0 in omega (arith, of_begun t, none)
  ]

  -- no home is named more or less often
  pub total_begun : (h : ℕ) → entries_total (points_at h) after ≡ entries_total (points_at h) maps
  total_begun h =
      let s = sum_by-set (λ (m : HeldMap). sum_by (points_at h) m.entries) maps k begun (record { fork = None; entries = [] }) within in
      let before = sum_zero (points_at h) (map_at maps k).entries (λ page e g. ap (points_at h) (held.unused (record { map = k; page = page }) e unlived g)) in
      let now = sum_zero (points_at h) entries (λ page e g. new.none h page e g) in
      omega (arith, s, before, now)

-- the tables, with a fork more
pub tables_begun : (t : Tables) → AreTables t → (k : ℕ) (f : ForkName) (entries : List HeldEntry) → k < length t.maps → fork_at t.maps k ≡ None → first_map f.tty ≤ k → k < first_map f.tty + MOST_FORKS
    → is_some (index_of t.maps f) ≡ false → AreNew entries → t.taken + t.living < t.limit → AreTables (fork_begun t k f entries)
tables_begun t a k f entries within unlived from below absent new room =
    agreed (fork_begun t k f entries) (named_in t a)
    (record {
      held = held_begun t.maps a.held k f entries within unlived from below absent new;
      counted = a.counted;
      shares = λ h. omega (arith, a.shares h, total_begun t.maps a.held k f entries within unlived from below absent new h);
      filed = a.filed;
      shared = a.shared;
    })
    (ap (λ n. n + 1) a.living ∙ sym (living_begun t.maps a.held k f entries within unlived from below absent new)) (omega (arith, room))

-- the plain pages, with the map of a new fork
pub plain_begun : (t : Tables) → AreTables t → (k : ℕ) (f : ForkName) (entries : List HeldEntry) → k < length t.maps → fork_at t.maps k ≡ None → first_map f.tty ≤ k → k < first_map f.tty + MOST_FORKS
    → is_some (index_of t.maps f) ≡ false → AreNew entries → (m : Map) → map (entry_of t.names) entries ≡ m → (d : DrumWords)
    → plain_of (fork_begun t k f entries) d ≡ record (plain_of t d) { maps = fin.insert (plain_of t d).maps f m }
plain_begun t a k f entries within unlived from below absent new m is d =
    ap (λ (x : Maps). record (plain_of t d) { maps = x }) (maps_begun t.maps a.held k f entries within unlived from below absent new t.names ∙ ap (fin.insert (maps_held t.names t.maps) f) is)

-- ---- what is told of a fork that begins to live

module _ (t : Tables) (a : AreTables t) (k : ℕ) (f : ForkName) (unlived : fork_at t.maps k ≡ None) (from : first_map f.tty ≤ k) (below : k < first_map f.tty + MOST_FORKS) (terminal : f.tty.0 < TERMINALS)
    (absent : is_some (index_of t.maps f) ≡ false) (room : t.taken + t.living < t.limit) where
  within : k < length t.maps
  within = omega (arith, a.held.count, below, terminal)

  -- with a map whose entries are new
  module _ (entries : List HeldEntry) (new : AreNew entries) (after : Tables) (is : after ≡ fork_begun t k f entries) where
    pub agrees_begun : AreTables after
    agrees_begun = subst AreTables (sym is) (tables_begun t a k f entries within unlived from below absent new room)

    pub told_begun : (m : Map) → map (entry_of t.names) entries ≡ m → (d : DrumWords) → plain_of after d ≡ record (plain_of t d) { maps = fin.insert (plain_of t d).maps f m }
    told_begun m same d = ap (λ (x : Tables). plain_of x d) is ∙ plain_begun t a k f entries within unlived from below absent new m same d

    pub scene_begun : (spare : ℕ) → TakesMap (scene_of t spare) (scene_of after spare) f
    scene_begun spare = subst (λ (x : Tables). TakesMap (scene_of t spare) (scene_of x spare) f) (sym is) (record { own = refl; maps = refl; pages = refl; frames = omega arith })

    pub who_lives : (g : ForkName) → is_some (index_of after.maps g) ≡ (same_fork g f || is_some (index_of t.maps g))
    who_lives g = ap (λ (x : Tables). is_some (index_of x.maps g)) is ∙ lives_begun t.maps a.held k f entries within unlived from below absent new g

    pub own_lives : living_of after.maps f.tty ≡ living_of t.maps f.tty + 1
    own_lives = ap (λ (x : Tables). living_of x.maps f.tty) is ∙ own_begun t.maps a.held k f entries within unlived from below absent new

    pub others_live : (u : Tty) → u ≢ f.tty → living_of after.maps u ≡ living_of t.maps u
    others_live u ne = ap (λ (x : Tables). living_of x.maps u) is ∙ others_begun t.maps a.held k f entries within unlived from below absent new u ne

    pub serials_begun : serial_of after.serials ≡ serial_of t.serials
    serials_begun = ap (λ (x : Tables). serial_of x.serials) is

    map_begun : map_at after.maps k ≡ record { fork = Some f; entries = entries }
    map_begun = ap (λ (x : Tables). map_at x.maps k) is ∙ get_or-set_same t.maps k (record { fork = Some f; entries = entries }) (record { fork = None; entries = [] }) within

    -- its map has that number, and names no page
    pub index_begun : (j : ℕ) → index_of after.maps f ≡ Some j → j ≡ k
    index_begun j e = agrees_begun.held.once j k f (index_fork after.maps f j e) (ap (λ (m : HeldMap). m.fork) map_begun)

    pub unnamed_begun : (page home : ℕ) (access : Access) → held_entry after.maps (record { map = k; page = page }) ≡ Some (Page (record { 0 = home }) access) → ⊥
    unnamed_begun page home access e = omega (arith, new.none home page (Page (record { 0 = home }) access) (sym (ap (λ (m : HeldMap). slice_get m.entries page) map_begun) ∙ e), points_self (record { 0 = home }) access)

  pub old_new : AreNew (map_at t.maps k).entries
  old_new = unused_new t.maps a.held k within unlived

  pub old_empty : map (entry_of t.names) (map_at t.maps k).entries ≡ empty_map
  old_empty = unused_empty t.names t.maps a.held k within unlived
