-- The tables agree once a page is made.
use Rattle.std.proofs.Common.{◌≡◌, ◌≢◌, inl, inr, ℕ, zero, suc, ◌+◌, ◌<◌, ◌≤◌, List, [], Bool, true, false, cond, Option, None, Some, length, take, refl, sym, ◌∙◌, ap, subst, arith, nat_eq}
use Rattle.std.specs.Prelude.{IsSome, slice_index_or, slice_set, count_by, ◌==◌}
use Rattle.std.specs.Option.{option_map_or}
use Rattle.std.proofs.lemmas.Bool.{cases_lt}
use Rattle.std.proofs.lemmas.Bool.Decides.{nat_tests, eqb_tells}
use Rattle.std.proofs.lemmas.List.{get_or_past}
use Rattle.std.proofs.lemmas.List.Sums.{count_by_more_yes, sum_by-take-le}
use Rattle.machine_names.specs.declared.names.Access.{Access}
use Rattle.page_homes.specs.declared.homes.Home.{Home}
use Rattle.machine_names.specs.declared.names.ForkName.{ForkName}
use Rattle.machine_names.specs.declared.names.Tty.{Tty}
use Rattle.machine_names.specs.declared.names.TheConstants.{MOST_FORKS, TERMINALS}
use Rattle.machine_names.specs.Bounds.{IsOwner}
use Rattle.page_contracts.specs.Stores.{StoreMeaning, HomePlace, free, away, here, IsMade, is_taken, is_here, place}
use Rattle.flat_tables.specs.declared.held_entry.EntryAt.{EntryAt}
use Rattle.flat_tables.specs.declared.held_entry.HeldEntry.{HeldEntry}
use Rattle.flat_tables.specs.declared.held_entry.HeldEntry.TheVariants.{Empty, Page, Follows}
use Rattle.flat_tables.specs.declared.held_map.HeldMap.{HeldMap}
use Rattle.flat_tables.specs.declared.map_tables.MapTables.{MapTables}
use Rattle.flat_tables.specs.HeldMaps.{fork_at, held_entry, points_at, living_of, first_map, AreHeld}
use Rattle.flat_tables.specs.SlotTables.{Tables, share_of, AreTables}
use Rattle.flat_tables.specs.SlotTouches.{has_room, is_alone}
use Rattle.flat_tables.specs.TableSteps.{tables_of, home_taken}
use Rattle.flat_tables.specs.SlotSteps.{TakesHome}
use Rattle.flat_tables.proofs.Taking.{taken_tables}
use Rattle.flat_tables.proofs.HeldEntries.{points_other}

pub fits_one : (t : Tables) → has_room t 1 ≡ true → t.taken + t.living + 1 ≤ t.limit
fits_one t e = grind (arith, nat_tests, e)

pub some_lives : (o : Option ForkName) → IsSome o → o ≢ None
some_lives None h e = (let z : false ≡ true = h in cc z)
some_lives (Some f) h e = cc e

-- the page that an entry names keeps another name
pub stays_shared : (t : Tables) (q : HeldEntry) → is_alone t.shares (Some q) ≡ false → (k : ℕ) → points_at k q ≡ 1 → share_of t.shares k ≢ 1
stays_shared t Empty e k one share = omega (arith, one)
stays_shared t (Follows l a) e k one share = omega (arith, one)
stays_shared t (Page h a) e k one share = elim (eqb_tells h.0 k) [
  | inl s ↦ (let z : true ≡ false = sym (itself (share_of t.shares h.0) (ap (share_of t.shares) s.1 ∙ share)) ∙ e in cc z)
  | inr n ↦ (let z = points_other k h a n.1 in omega (arith, z, one))
]
  where
    itself : (n : ℕ) → n ≡ 1 → (n == 1) ≡ true
    itself n e = grind (arith, nat_tests, e)

pub alone_share : (t : Tables) (h : Home) (a : Access) → is_alone t.shares (Some (Page h a)) ≡ true → share_of t.shares h.0 ≡ 1
alone_share t h a e = grind (arith, nat_tests, e)

-- the entry that there is
pub held_is : (o : Option HeldEntry) → IsSome o → (q : HeldEntry) × (o ≡ Some q)
held_is None h = absurd (let z : false ≡ true = h in cc z)
held_is (Some q) h = (q, refl)

pub here_taken : (p : HomePlace) → is_here p ≡ true → is_taken p ≡ true
here_taken free e = absurd (cc e)
here_taken away e = absurd (cc e)
here_taken (here words) e = refl

pub takes_home : {S : Type 0} (store : StoreMeaning S) (old new : S) (tables tables' : MapTables) (at : EntryAt) (home : Home) (page : HomePlace) (access : Access) (owner : Tty) → IsMade store home.0 page old new
    → ((places : List HomePlace) (page : HomePlace) → tables_of (slice_set places home.0 page) tables' ≡ home_taken (tables_of places tables) at home page access owner) → TakesHome store old new tables tables' at page access owner
takes_home store old new tables tables' at home page access owner made same = record { home = home; made = made; taken = ap (λ places. tables_of places tables') made.homes ∙ same (store.homes old) page }

module _ {S : Type 0} (store : StoreMeaning S) (old new : S) (tables tables' : MapTables) (at : EntryAt) (page : HomePlace) (access : Access) (owner : Tty) (own : IsOwner owner) (a : AreTables (tables_of (store.homes old) tables))
    (takes : TakesHome store old new tables tables' at page access owner) where
  abbrev t : Tables
  t = tables_of (store.homes old) tables

  pub home_below : takes.home.0 < t.limit
  home_below = omega (arith, takes.made.below, a.homes)

  pub take_agrees : (q : HeldEntry) → held_entry t.maps at ≡ Some q → fork_at t.maps at.map ≢ None → is_taken page ≡ true → ((k : ℕ) → points_at k q ≡ 1 → share_of t.shares k ≢ 1) → t.taken + t.living + 1 ≤ t.limit → AreTables (tables_of (store.homes new) tables')
  take_agrees q there lives is_page stays room =
      subst AreTables (sym takes.taken) (taken_tables t a owner own takes.home.0 home_below at q page access there lives takes.made.was_free is_page stays room)

-- of a row of elements that pass there are so many
row_counted : {A : Type 0} (p : A → Bool) (xs : List A) (d : A) (b n : ℕ) → b + n ≤ length xs → ((k : ℕ) → k < n → p (slice_index_or xs (b + k) d) ≡ true) → n ≤ count_by p (take (b + n) xs)
row_counted p xs d b zero l passes = omega arith
row_counted p xs d b (suc n) l passes =
    let rest = row_counted p xs d b n (omega (arith, l)) (λ k kl. passes k (omega (arith, kl))) in
    let more = count_by_more_yes p xs (b + n) d (omega (arith, l)) (passes n (omega arith)) in
    omega (arith, rest, subst (λ m. count_by p (take m xs) ≡ count_by p (take (b + n) xs) + 1) (one_more b n) more)
  where
    one_more : (b n : ℕ) → b + n + 1 ≡ b + suc n
    one_more b n = omega arith

-- where each of a terminal's maps is some fork's, as many forks of it live as may
pub all_living : (maps : List HeldMap) → AreHeld maps → (t : Tty) → t.0 < TERMINALS → ((k : ℕ) → first_map t ≤ k → k < first_map t + MOST_FORKS → fork_at maps k ≡ None → ⊥) → MOST_FORKS ≤ living_of maps t
all_living maps held t below none =
    let p : HeldMap → Bool = λ m. option_map_or (λ f. nat_eq f.tty.0 t.0) m.fork false in
    let row = row_counted p maps (record { fork = None; entries = [] }) (first_map t) MOST_FORKS (omega (arith, held.count, below)) (λ k l. passes (first_map t + k) (omega arith) (omega (arith, l)) (fork_at maps (first_map t + k)) refl) in
    omega (arith, row, sum_by-take-le (λ (m : HeldMap). cond (p m) 1 0) maps (first_map t + MOST_FORKS))
  where
    passes : (k : ℕ) → first_map t ≤ k → k < first_map t + MOST_FORKS → (o : Option ForkName) → fork_at maps k ≡ o → option_map_or (λ f. nat_eq f.tty.0 t.0) (fork_at maps k) false ≡ true
    passes k from under None e = absurd (none k from under e)
    passes k from under (Some f) e =
        let lower = held.from k f e in
        let upper = held.below k f e in
        ap (λ (o : Option ForkName). option_map_or (λ g. nat_eq g.tty.0 t.0) o false) e ∙ same f (omega (arith, lower, upper, from, under))
      where
        same : (f : ForkName) → f.tty.0 ≡ t.0 → nat_eq f.tty.0 t.0 ≡ true
        same f e = grind (arith, nat_tests, e)

-- a home that is taken is there
pub home_under : (t : Tables) → AreTables t → (h : ℕ) → is_taken (place t.places h) ≡ true → h < t.limit
home_under t a h e = elim (cases_lt h (length t.places)) [
  | inl l ↦ omega (arith, l, a.homes)
  | inr past ↦ absurd (let z : false ≡ true = sym (ap is_taken (get_or_past t.places h free past)) ∙ e in cc z)
]
