-- A home is taken for a page of a new name: the tables agree afterwards.
use Rattle.std.proofs.Common.{◌≡◌, ◌≢◌, ◌⊎◌, inl, inr, ℕ, zero, suc, ◌+◌, ◌-◌, ◌<◌, ◌≤◌, List, [], Bool, true, false, cond, Option, None, Some, length, refl, sym, ◌∙◌, ap, subst, arith, is_some, nat_eq}
use Rattle.std.specs.Prelude.{slice_index, slice_set, nat_lt, count_by}
use Rattle.std.proofs.lemmas.Bool.{cases_eq, cases_lt}
use Rattle.std.proofs.lemmas.Bool.Decides.{nat_tests}
use Rattle.std.proofs.lemmas.List.{length-set, get_or-set_same, get_or-set_other, get_or_past}
use Rattle.std.proofs.lemmas.List.Sums.{sum_by-set}
use Rattle.machine_names.specs.declared.names.Access.{Access}
use Rattle.page_homes.specs.declared.homes.Home.{Home}
use Rattle.machine_names.specs.declared.names.PageName.{PageName}
use Rattle.machine_names.specs.declared.names.Tty.{Tty}
use Rattle.std.specs.FinMap as fin
use Rattle.machine_names.specs.Orders.{FilePage}
use Rattle.machine_names.specs.declared.names.TheConstants.{SPACE_PAGES, MOST_FILES, FILE_PAGES}
use Rattle.machine_names.specs.Bounds.{IsOwner}
use Rattle.page_contracts.specs.Stores.{HomePlace, free, away, here, place, is_free, is_taken, free_homes}
use Rattle.flat_tables.specs.declared.held_entry.EntryAt.{EntryAt}
use Rattle.flat_tables.specs.declared.held_entry.HeldEntry.{HeldEntry}
use Rattle.flat_tables.specs.declared.held_entry.HeldEntry.TheVariants.{Empty, Page, Follows}
use Rattle.flat_tables.specs.declared.held_entry.Link.{Link}
use Rattle.flat_tables.specs.declared.held_map.HeldMap.{HeldMap}
use Rattle.flat_tables.specs.Serials.{serial_of, with_next}
use Rattle.flat_tables.specs.HeldMaps.{map_at, fork_at, held_entry, with_entry, entry_set, name_at, points_at, entries_total, living_in, AreHeld}
use Rattle.flat_tables.specs.SlotTables.{Tables, share_of, filed_total, AreTables}
use Rattle.flat_tables.specs.TableSteps.{next_name, left_shares, home_filed, home_taken, home_renamed}
use Rattle.flat_tables.proofs.AgreedTables.{AreNamed, agreed}
use Rattle.flat_tables.proofs.FiledHomes.{at_itself, at_other, filed_more, filed_within}
use Rattle.flat_tables.proofs.HeldEntries.{at_tells, held_within, fork_set, maps_length, entries_length, entry_same, entry_other, total_with, total_le, points_self, points_here, points_other}
use Rattle.flat_tables.proofs.NextSerials.{next_own, next_later, next_length}

-- an entry that is set leaves each fork its map
module _ (maps : List HeldMap) (held : AreHeld maps) (at : EntryAt) (old e : HeldEntry) (there : held_entry maps at ≡ Some old) (page : (l : Link) (a : Access) → e ≡ Follows l a → l.page < SPACE_PAGES) (used : fork_at maps at.map ≡ None → e ≡ Empty) where
  pub held_set : AreHeld (with_entry maps at e)
  held_set = record {
    count = maps_length maps at e ∙ held.count;
    pages = λ k l. entries_length maps at e k ∙ held.pages k (omega (arith, maps_length maps at e, l));
    once = λ j k f a b. held.once j k f (sym (fork_set maps at e j) ∙ a) (sym (fork_set maps at e k) ∙ b);
    from = λ k f a. held.from k f (sym (fork_set maps at e k) ∙ a);
    below = λ k f a. held.below k f (sym (fork_set maps at e k) ∙ a);
    links = λ b l a h. links b l a h (at_tells b at);
    unused = λ b x a h. unused b x a h (at_tells b at);
  }
    where
      links : (b : EntryAt) (l : Link) (a : Access) → held_entry (with_entry maps at e) b ≡ Some (Follows l a) → (b ≡ at) ⊎ (b ≢ at) → l.page < SPACE_PAGES
      links b l a h (inl same) = page l a (let z : Some e ≡ Some (Follows l a) = sym (entry_same maps at e old there) ∙ ap (held_entry (with_entry maps at e)) (sym same) ∙ h in cc z)
      links b l a h (inr ne) = held.links b l a (sym (entry_other maps at e b ne) ∙ h)

      unused : (b : EntryAt) (x : HeldEntry) → fork_at (with_entry maps at e) b.map ≡ None → held_entry (with_entry maps at e) b ≡ Some x → (b ≡ at) ⊎ (b ≢ at) → x ≡ Empty
      unused b x a h (inl same) =
          let is : e ≡ x = (let z : Some e ≡ Some x = sym (entry_same maps at e old there) ∙ ap (held_entry (with_entry maps at e)) (sym same) ∙ h in cc z) in
          sym is ∙ used (sym (fork_set maps at e at.map) ∙ ap (λ (y : EntryAt). fork_at (with_entry maps at e) y.map) (sym same) ∙ a)
      unused b x a h (inr ne) = held.unused b x (sym (fork_set maps at e b.map) ∙ a) (sym (entry_other maps at e b ne) ∙ h)

  pub living_set : living_in (with_entry maps at e) ≡ living_in maps
  living_set =
      let l = held_within maps at old there in
      let s = sum_by-set (λ (m : HeldMap). cond (is_some m.fork) 1 0) maps at.map (entry_set (map_at maps at.map) at.page e) (record { fork = None; entries = [] }) l in
      omega (arith, s)

-- the count of each home, once an entry no longer names its page
pub left_is : (shares : List ℕ) (q : HeldEntry) → ((k : ℕ) → points_at k q ≤ share_of shares k) → (k : ℕ) → share_of (left_shares shares (Some q)) k + points_at k q ≡ share_of shares k
left_is shares Empty le k = omega arith
left_is shares (Follows l a) le k = omega arith
left_is shares (Page h a) le k = elim (cases_eq k h.0) [
  | inl e ↦ elim (cases_lt h.0 (length shares)) [
    | inl l ↦
        let is : share_of (slice_set shares h.0 (share_of shares h.0 - 1)) k ≡ share_of shares h.0 - 1 = ap (share_of (slice_set shares h.0 (share_of shares h.0 - 1))) e ∙ get_or-set_same shares h.0 (share_of shares h.0 - 1) 0 l in
        let same : share_of shares k ≡ share_of shares h.0 = ap (share_of shares) e in
        omega (arith, is, same, points_here k h a (sym e), le k)
    | inr past ↦ absurd (let none = get_past shares h.0 past in omega (arith, none, le h.0, points_self h a))
  ]
  | inr ne ↦ omega (arith, get_or-set_other shares h.0 k (share_of shares h.0 - 1) 0 ne, points_other k h a (λ s. ne (sym s)))
]
  where
    get_past : (xs : List ℕ) (i : ℕ) → length xs ≤ i → slice_index xs i ≡ 0
    get_past xs i l = get_or_past xs i 0 l

pub left_length : (shares : List ℕ) (q : Option HeldEntry) → length (left_shares shares q) ≡ length shares
left_length shares None = refl
left_length shares (Some Empty) = refl
left_length shares (Some (Follows l a)) = refl
left_length shares (Some (Page h a)) = length-set shares h.0 (share_of shares h.0 - 1)

pub points_most : (k : ℕ) (q : HeldEntry) → points_at k q ≤ 1
points_most k Empty = omega arith
points_most k (Follows l a) = omega arith
points_most k (Page h a) = by (nat_eq h.0 k)
  where
    by : (b : Bool) → cond b 1 0 ≤ 1
    by true = omega arith
    by false = omega arith

pub positive_same : (m n : ℕ) → (n ≡ 0 → m ≡ 0) → (m ≡ 0 → n ≡ 0) → nat_lt 0 m ≡ nat_lt 0 n
positive_same zero zero f g = refl
positive_same zero (suc n) f g = absurd (let z = g refl in omega (arith, z))
positive_same (suc m) zero f g = absurd (let z = f refl in omega (arith, z))
positive_same (suc m) (suc n) f g = grind (arith, nat_tests)

pub none_shared : (k : ℕ) → nat_lt 0 k ≡ false → k ≡ 0
none_shared k e = grind (arith, nat_tests, e)

-- a home with a new name
module _ (t : Tables) (a : AreTables t) (owner : Tty) (own : IsOwner owner) (home : ℕ) (below : home < t.limit) where
  new : PageName
  new = next_name t.serials owner

  abbrev names' : List (Option PageName)
  names' = slice_set t.names home (Some (next_name t.serials owner))

  name_here : name_at names' home ≡ Some (next_name t.serials owner)
  name_here = get_or-set_same t.names home (Some (next_name t.serials owner)) None (omega (arith, below, a.named))

  name_other : (k : ℕ) → k ≢ home → name_at names' k ≡ name_at t.names k
  name_other k ne = get_or-set_other t.names home k (Some (next_name t.serials owner)) None ne

  -- the name is no other's
  pub fresh : (k : ℕ) → name_at t.names k ≡ Some (next_name t.serials owner) → ⊥
  fresh k e = (let z = a.old k (next_name t.serials owner) e in omega (arith, z))

  renamed_once : (j k : ℕ) (n : PageName) → name_at names' j ≡ Some n → name_at names' k ≡ Some n → j ≡ k
  renamed_once j k n at_j at_k = elim (cases_eq j home) [
    | inl ej ↦ elim (cases_eq k home) [
      | inl ek ↦ ej ∙ sym ek
      | inr nk ↦ absurd (fresh k (sym (name_other k nk) ∙ at_k ∙ sym at_j ∙ ap (name_at names') ej ∙ name_here))
    ]
    | inr nj ↦ elim (cases_eq k home) [
      | inl ek ↦ absurd (fresh j (sym (name_other j nj) ∙ at_j ∙ sym at_k ∙ ap (name_at names') ek ∙ name_here))
      | inr nk ↦ a.once j k n (sym (name_other j nj) ∙ at_j) (sym (name_other k nk) ∙ at_k)
    ]
  ]

  renamed_old : (k : ℕ) (n : PageName) → name_at names' k ≡ Some n → n.serial < serial_of (with_next t.serials owner) n.tty
  renamed_old k n e = elim (cases_eq k home) [
    | inl is ↦
        let same : next_name t.serials owner ≡ n = (let z : Some (next_name t.serials owner) ≡ Some n = sym name_here ∙ ap (name_at names') (sym is) ∙ e in cc z) in
        subst (λ (m : PageName). m.serial < serial_of (with_next t.serials owner) m.tty) same (omega (arith, next_own t.serials owner own a.owners))
    | inr ne ↦ omega (arith, a.old k n (sym (name_other k ne) ∙ e), next_later t.serials owner own a.owners n.tty)
  ]

  counted_names : count_by is_some names' + cond (is_some (name_at t.names home)) 1 0 ≡ count_by is_some t.names + 1
  counted_names = sum_by-set (λ (o : Option PageName). cond (is_some o) 1 0) t.names home (Some (next_name t.serials owner)) None (omega (arith, below, a.named))

  -- a free home has a page now
  module _ (page : HomePlace) (was_free : place t.places home ≡ free) (is_page : is_taken page ≡ true) where
    no_name : is_some (name_at t.names home) ≡ false
    no_name = sym (a.is_taken home) ∙ ap is_taken was_free

    no_share : share_of t.shares home ≡ 0
    no_share = none_shared (share_of t.shares home) (sym (a.shared home) ∙ no_name)

    homes_below : home < length t.places
    homes_below = omega (arith, below, a.homes)

    taken_at : (k : ℕ) → is_taken (place (slice_set t.places home page) k) ≡ is_some (name_at names' k)
    taken_at k = elim (cases_eq k home) [
      | inl e ↦ ap (λ j. is_taken (place (slice_set t.places home page) j)) e ∙ ap is_taken (get_or-set_same t.places home page free homes_below) ∙ is_page ∙ sym (ap (λ j. is_some (name_at names' j)) e ∙ ap is_some name_here)
      | inr ne ↦ ap is_taken (get_or-set_other t.places home k page free ne) ∙ a.is_taken k ∙ sym (ap is_some (name_other k ne))
    ]

    freed : t.taken + 1 + free_homes (slice_set t.places home page) ≡ t.limit
    freed =
        let s = sum_by-set (λ (p : HomePlace). cond (is_free p) 1 0) t.places home page free homes_below in
        let old : ◌≡◌ {A = ℕ} (cond (is_free (place t.places home)) 1 0) 1 = ap (λ p. cond (is_free p) 1 0) was_free in
        let now : ◌≡◌ {A = ℕ} (cond (is_free page) 1 0) 0 = not_free page is_page in
        omega (arith, s, old, now, a.free)
      where
        not_free : (p : HomePlace) → is_taken p ≡ true → ◌≡◌ {A = ℕ} (cond (is_free p) 1 0) 0
        not_free free e = absurd (cc e)
        not_free away e = refl
        not_free (here words) e = refl

    named_more : count_by is_some names' ≡ t.taken + 1
    named_more = let none : ◌≡◌ {A = ℕ} (cond (is_some (name_at t.names home)) 1 0) 0 = ap (λ c. cond c 1 0) no_name in omega (arith, a.taken, counted_names, none)

    taken_named : AreNamed (slice_set t.places home page) names' (with_next t.serials owner) (t.taken + 1) t.limit
    taken_named = record {
      homes = length-set t.places home page ∙ a.homes;
      named = length-set t.names home (Some (next_name t.serials owner)) ∙ a.named;
      is_taken = taken_at;
      once = renamed_once;
      old = renamed_old;
      owners = next_length t.serials owner ∙ a.owners;
      taken = sym named_more;
      free = freed;
      few = a.few;
    }

  -- a free home is taken; the page that the entry named keeps another name
  module _ (at : EntryAt) (q : HeldEntry) (page : HomePlace) (b : Access) (there : held_entry t.maps at ≡ Some q) (lives : fork_at t.maps at.map ≢ None) (was_free : place t.places home ≡ free) (is_page : is_taken page ≡ true)
      (stays : (k : ℕ) → points_at k q ≡ 1 → share_of t.shares k ≢ 1) (room : t.taken + t.living + 1 ≤ t.limit) where
    abbrev h : Home
    h = record { 0 = home }

    abbrev t' : Tables
    t' = home_taken t at h page b owner

    le : (k : ℕ) → points_at k q ≤ share_of t.shares k
    le k = omega (arith, a.shares k, total_le (points_at k) t.maps at q refl there)

    left : (k : ℕ) → share_of (left_shares t.shares (held_entry t.maps at)) k + points_at k q ≡ share_of t.shares k
    left k = ap (λ o. share_of (left_shares t.shares o) k + points_at k q) there ∙ left_is t.shares q le k

    left_below : home < length (left_shares t.shares (held_entry t.maps at))
    left_below = omega (arith, below, left_length t.shares (held_entry t.maps at), a.counted)

    share_here : share_of t'.shares home ≡ 1
    share_here = get_or-set_same (left_shares t.shares (held_entry t.maps at)) home 1 0 left_below

    share_other : (k : ℕ) → k ≢ home → share_of t'.shares k ≡ share_of (left_shares t.shares (held_entry t.maps at)) k
    share_other k ne = get_or-set_other (left_shares t.shares (held_entry t.maps at)) home k 1 0 ne

    shares_are : (k : ℕ) → share_of t'.shares k ≡ entries_total (points_at k) t'.maps + filed_total k t.files
    shares_are k = elim (cases_eq k home) [
      | inl e ↦
          let w = total_with t.maps at (Page h b) (points_at home) q there in
          let one : entries_total (points_at home) t'.maps + filed_total home t.files ≡ 1 = omega (arith, w, le home, no_share page was_free is_page, points_self h b, a.shares home) in
          ap (share_of t'.shares) e ∙ share_here ∙ sym one ∙ ap (λ j. entries_total (points_at j) t'.maps + filed_total j t.files) (sym e)
      | inr ne ↦ omega (arith, share_other k ne, left k, a.shares k, total_with t.maps at (Page h b) (points_at k) q there, points_other k h b (λ s. ne (sym s)))
    ]

    back : (k : ℕ) → share_of (left_shares t.shares (held_entry t.maps at)) k ≡ 0 → share_of t.shares k ≡ 0
    back k z = elim (cases_eq (points_at k q) 1) [
      | inl one ↦ absurd (stays k one (omega (arith, left k, z, one)))
      | inr ne ↦ omega (arith, left k, z, points_most k q, ne)
    ]

    shared : (k : ℕ) → is_some (name_at t'.names k) ≡ nat_lt 0 (share_of t'.shares k)
    shared k = elim (cases_eq k home) [
      | inl e ↦ ap (λ j. is_some (name_at t'.names j)) e ∙ ap is_some name_here ∙ sym (ap (λ j. nat_lt 0 (share_of t'.shares j)) e ∙ ap (nat_lt 0) share_here)
      | inr ne ↦ ap is_some (name_other k ne) ∙ a.shared k
          ∙ positive_same (share_of t.shares k) (share_of (left_shares t.shares (held_entry t.maps at)) k) (back k) (λ z. omega (arith, left k, z))
          ∙ sym (ap (nat_lt 0) (share_other k ne))
    ]

    pub taken_tables : AreTables t'
    taken_tables =
        agreed t' (taken_named page was_free is_page)
        (record {
          held = held_set t.maps a.held at q (Page h b) there (λ l c e. absurd (cc e)) (λ e. absurd (lives e));
          counted = length-set (left_shares t.shares (held_entry t.maps at)) home 1 ∙ left_length t.shares (held_entry t.maps at) ∙ a.counted;
          shares = shares_are;
          filed = a.filed;
          shared = shared;
        })
        (a.living ∙ sym (living_set t.maps a.held at q (Page h b) there (λ l c e. absurd (cc e)) (λ e. absurd (lives e)))) (omega (arith, room))

  -- a free home is taken for a page that a file names
  module _ (f : FilePage ℕ) (page : HomePlace) (bounds : (f.file < MOST_FILES) × (f.page < FILE_PAGES)) (none : fin.get t.files f ≡ None) (was_free : place t.places home ≡ free) (is_page : is_taken page ≡ true) (room : t.taken + t.living + 1 ≤ t.limit) where
    abbrev own_home : Home
    own_home = record { 0 = home }

    abbrev u : Tables
    u = home_filed t f own_home page owner

    one_share : share_of u.shares home ≡ 1
    one_share = get_or-set_same t.shares home 1 0 (omega (arith, below, a.counted))

    same_share : (k : ℕ) → k ≢ home → share_of u.shares k ≡ share_of t.shares k
    same_share k ne = get_or-set_other t.shares home k 1 0 ne

    filed_shares : (k : ℕ) → share_of u.shares k ≡ entries_total (points_at k) t.maps + filed_total k u.files
    filed_shares k = elim (cases_eq k home) [
      | inl e ↦
          let all : entries_total (points_at home) t.maps + filed_total home u.files ≡ 1 = omega (arith, a.shares home, no_share page was_free is_page, filed_more t.files f own_home home none, at_itself own_home) in
          ap (share_of u.shares) e ∙ one_share ∙ sym all ∙ ap (λ j. entries_total (points_at j) t.maps + filed_total j u.files) (sym e)
      | inr ne ↦ omega (arith, same_share k ne, a.shares k, filed_more t.files f own_home k none, at_other k own_home (λ e. ne (sym e)))
    ]

    filed_shared : (k : ℕ) → is_some (name_at u.names k) ≡ nat_lt 0 (share_of u.shares k)
    filed_shared k = elim (cases_eq k home) [
      | inl e ↦ ap (λ j. is_some (name_at u.names j)) e ∙ ap is_some name_here ∙ sym (ap (λ j. nat_lt 0 (share_of u.shares j)) e ∙ ap (nat_lt 0) one_share)
      | inr ne ↦ ap is_some (name_other k ne) ∙ a.shared k ∙ sym (ap (nat_lt 0) (same_share k ne))
    ]

    pub filed_tables : AreTables u
    filed_tables =
        agreed u (taken_named page was_free is_page)
        (record { held = a.held; counted = length-set t.shares home 1 ∙ a.counted; shares = filed_shares; filed = filed_within t.files f own_home bounds a.filed; shared = filed_shared })
        a.living (omega (arith, room))

  -- the home of the page that an entry alone names gets a new name
  module _ (at : EntryAt) (b c : Access) (there : held_entry t.maps at ≡ Some (Page (record { 0 = home }) c)) (lives : fork_at t.maps at.map ≢ None) (one : share_of t.shares home ≡ 1) where
    abbrev g : Home
    g = record { 0 = home }

    name_there : is_some (name_at t.names home) ≡ true
    name_there = a.shared home ∙ ap (nat_lt 0) one

    named_still : (k : ℕ) → is_some (name_at names' k) ≡ is_some (name_at t.names k)
    named_still k = elim (cases_eq k home) [
      | inl e ↦ ap (λ j. is_some (name_at names' j)) e ∙ ap is_some name_here ∙ sym (ap (λ j. is_some (name_at t.names j)) e ∙ name_there)
      | inr ne ↦ ap is_some (name_other k ne)
    ]

    pub renamed_tables : AreTables (home_renamed t at g b owner)
    renamed_tables =
        let some : ◌≡◌ {A = ℕ} (cond (is_some (name_at t.names home)) 1 0) 1 = ap (λ x. cond x 1 0) name_there in
        agreed (home_renamed t at g b owner)
        (record {
          homes = a.homes;
          named = length-set t.names home (Some (next_name t.serials owner)) ∙ a.named;
          is_taken = λ k. a.is_taken k ∙ sym (named_still k);
          once = renamed_once;
          old = renamed_old;
          owners = next_length t.serials owner ∙ a.owners;
          taken = omega (arith, a.taken, counted_names, some);
          free = a.free;
          few = a.few;
        })
        (record {
          held = held_set t.maps a.held at (Page g c) (Page g b) there (λ l x e. absurd (cc e)) (λ e. absurd (lives e));
          counted = a.counted;
          shares = λ k. omega (arith, a.shares k, total_with t.maps at (Page g b) (points_at k) (Page g c) there);
          filed = a.filed;
          shared = λ k. named_still k ∙ a.shared k;
        })
        (a.living ∙ sym (living_set t.maps a.held at (Page g c) (Page g b) there (λ l x e. absurd (cc e)) (λ e. absurd (lives e)))) a.room
