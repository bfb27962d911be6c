-- What is told of tables that agree.
use Rattle.std.proofs.Common.{◌≡◌, ◌≢◌, inl, inr, ℕ, zero, suc, List, [], ◌∷◌, true, false, cond, Option, None, Some, refl, sym, ◌∙◌, ap, subst, arith, is_some, nat_eq}
use Rattle.std.specs.Option.{option_map, option_map_or, option_and_then, unwrap_or}
use Rattle.std.specs.Prelude.{◌<◌, IsSome}
use Rattle.std.specs.FinMap as fin
use Rattle.std.proofs.lemmas.Bool.Decides.{eqb_tells}
use Rattle.std.proofs.lemmas.List.Sums.{sum_by-cons}
use Rattle.outside.specs.Drums.{IsPage, page_at as drum_page}
use Rattle.machine_names.specs.declared.names.ForkName.{ForkName}
use Rattle.machine_names.specs.declared.names.PageName.{PageName}
use Rattle.machine_names.specs.declared.names.TheConstants.{MOST_FILES, FILE_PAGES}
use Rattle.machine_names.specs.Orders.{FilePage}
use Rattle.page_homes.specs.declared.homes.Home.{Home}
use Rattle.plain_pages.specs.Room.{same_page}
use Rattle.page_contracts.specs.DrumWords.{DrumWords}
use Rattle.page_contracts.specs.Stores.{HomePlace, free, away, here, place, is_taken, over_drum, content}
use Rattle.page_contracts.proofs.HomeCounts.{taken_or_free}
use Rattle.plain_pages.proofs.Counts.{Same, page_tells}
use Rattle.flat_tables.specs.declared.held_map.HeldMap.{HeldMap}
use Rattle.flat_tables.specs.HeldMaps.{fork_at, name_at, name_of, nobody, one_later, living_of}
use Rattle.flat_tables.specs.SlotTables.{Tables, plain_of, AreTables, AreSized}
use Rattle.flat_tables.specs.SlotTouches.{home_named, scene_of}
use Rattle.page_contracts.specs.Stores.{away_home, away_at}
use Rattle.flat_pages.specs.SlotMeaning.{AreTold, filed_in}
use Rattle.flat_tables.proofs.FiledHomes.{get_filed}
use Rattle.flat_tables.proofs.ForkMaps.{searched}
use Rattle.flat_tables.proofs.LivingMaps.{lives_held}
use Rattle.flat_pages.proofs.Agreement.{Housed, housed, filed_named, tables_whole, tables_live, tables_objects, object_home, object_gone, object_some}
use Rattle.flat_pages.proofs.Touching.{home_is as home_found}
use Rattle.flat_pages.proofs.Settling.{sized_of}

-- the home that is a page's has its name
pub named_home : (names : List (Option PageName)) (x : PageName) (h : ℕ) → home_named names x ≡ Some h → name_at names h ≡ Some x
named_home [] x h e = absurd (cc e)
named_home (n ∷ names) x h e = by n (home_named names x) refl (λ k f. named_home names x k f) e
  where
    later : (o : Option ℕ) → home_named names x ≡ o → ((k : ℕ) → home_named names x ≡ Some k → name_at names k ≡ Some x) → one_later o ≡ Some h → name_at (n ∷ names) h ≡ Some x
    later None is rest k = absurd (cc k)
    later (Some j) is rest k = let same : suc j ≡ h = cc k in ap (name_at (n ∷ names)) (sym same) ∙ rest j is

    by : (m : Option PageName) (o : Option ℕ) → home_named names x ≡ o → ((k : ℕ) → home_named names x ≡ Some k → name_at names k ≡ Some x) → cond (option_map_or (same_page x) m false) (Some 0) (one_later (home_named names x)) ≡ Some h → name_at (m ∷ names) h ≡ Some x
    by None o is rest k = at_later None (home_named names x) refl rest k
      where
        at_later : (m : Option PageName) (o : Option ℕ) → home_named names x ≡ o → ((k : ℕ) → home_named names x ≡ Some k → name_at names k ≡ Some x) → one_later o ≡ Some h → name_at (m ∷ names) h ≡ Some x
        at_later m None is rest k = absurd (cc k)
        at_later m (Some j) is rest k = let same : suc j ≡ h = cc k in ap (name_at (m ∷ names)) (sym same) ∙ rest j is
    by (Some m) o is rest k = tells (page_tells x m) k
      where
        at_later : (o : Option ℕ) → home_named names x ≡ o → one_later o ≡ Some h → name_at (Some m ∷ names) h ≡ Some x
        at_later None is k = absurd (cc k)
        at_later (Some j) is k = let same : suc j ≡ h = cc k in ap (name_at (Some m ∷ names)) (sym same) ∙ rest j is

        tells : Same x m → cond (same_page x m) (Some 0) (one_later (home_named names x)) ≡ Some h → name_at (Some m ∷ names) h ≡ Some x
        tells (inl t) k =
            let zero_is : 0 ≡ h = (let z : ◌≡◌ {A = Option ℕ} (Some 0) (Some h) = sym (ap (λ b. cond b (Some 0) (one_later (home_named names x))) t.0) ∙ k in cc z) in
            ap (name_at (Some m ∷ names)) (sym zero_is) ∙ ap Some (sym t.1)
        tells (inr t) k = at_later (home_named names x) refl (sym (ap (λ b. cond b (Some 0) (one_later (home_named names x))) t.0) ∙ k)

-- a page that is away
record IsAway (t : Tables) (n : PageName) (home : ℕ) : Type 0 where
  name : name_at t.names home ≡ Some n
  away : place t.places home ≡ away

is_away : (t : Tables) (n : PageName) (home frames : ℕ) → (scene_of t frames).page_away n ≡ Some home → IsAway t n home
is_away t n home frames e = by (home_named t.names n) refl e
  where
    at : (h : ℕ) (p : HomePlace) → place t.places h ≡ p → away_home p h ≡ Some home → (h ≡ home) × (place t.places h ≡ away)
    at h free is k = absurd (cc k)
    at h away is k = (cc k, is)
    at h (here words) is k = absurd (cc k)

    by : (o : Option ℕ) → home_named t.names n ≡ o → option_and_then (away_at t.places) o ≡ Some home → IsAway t n home
    by None is k = absurd (cc k)
    by (Some h) is k = let at_h = at h (place t.places h) refl k in record { name = ap (name_at t.names) (sym at_h.0) ∙ named_home t.names n h is; away = ap (place t.places) (sym at_h.0) ∙ at_h.1 }

-- a terminal of which no fork lives has none of that name
none_counted : (maps : List HeldMap) (f : ForkName) → living_of maps f.tty ≡ 0 → (k : ℕ) → fork_at maps k ≢ Some f
none_counted [] f none k e = cc e
none_counted (m ∷ maps) f none zero e =
    let one : ◌≡◌ {A = ℕ} (cond (option_map_or (λ g. nat_eq g.tty.0 f.tty.0) m.fork false) 1 0) 1 = ap (λ (o : Option ForkName). cond (option_map_or (λ g. nat_eq g.tty.0 f.tty.0) o false) 1 0) e ∙ itself f.tty.0 in
    (omega (arith, none, one, sum_by-cons (λ (x : HeldMap). cond (option_map_or (λ g. nat_eq g.tty.0 f.tty.0) x.fork false) 1 0) m maps))
  where
    itself : (n : ℕ) → ◌≡◌ {A = ℕ} (cond (nat_eq n n) 1 0) 1
    itself n = elim (eqb_tells n n) [ inl t ↦ ap (λ b. cond b 1 0) t.0 | inr t ↦ absurd (t.1 refl) ]
none_counted (m ∷ maps) f none (suc k) e = none_counted maps f (omega (arith, none, sum_by-cons (λ (x : HeldMap). cond (option_map_or (λ g. nat_eq g.tty.0 f.tty.0) x.fork false) 1 0) m maps)) k e

-- only a page that is away has no words
over_taken : (p : HomePlace) (words : List ℕ) → is_some (over_drum p words) ≡ is_taken p
over_taken free words = refl
over_taken away words = refl
over_taken (here w) words = refl

-- a page has a home exactly where it is there
has_home : (t : Tables) → AreTables t → (d : DrumWords) → AreSized t.places d → (n : PageName) → is_some (home_named t.names n) ≡ fin.contains_key (plain_of t d).objects n
unfolding content
has_home t a d sized n = by (housed t.names n)
  where
    nowhere : ((h : ℕ) → name_at t.names h ≢ Some n) → (o : Option ℕ) → home_named t.names n ≡ o → is_some o ≡ false
    nowhere none None is = refl
    nowhere none (Some h) is = absurd (none h (named_home t.names n h is))

    somewhere : (h : ℕ) → name_at t.names h ≡ Some n → (o : Option ℕ) → home_named t.names n ≡ o → is_some o ≡ true
    somewhere h is None none = absurd (let z : None ≡ Some h = sym none ∙ home_found t.names h n is (λ k f. a.once k h n f is) in cc z)
    somewhere h is (Some k) some = refl

    by : Housed t.names n → is_some (home_named t.names n) ≡ fin.contains_key (plain_of t d).objects n
    by (inl r) =
        somewhere r.0 r.1 (home_named t.names n) refl
        ∙ sym (ap is_some (object_home t a d sized r.0 n r.1) ∙ over_taken (place t.places r.0) (drum_page d r.0) ∙ a.is_taken r.0 ∙ ap is_some r.1)
    by (inr none) = nowhere none (home_named t.names n) refl ∙ sym (ap is_some (object_gone t a d sized n none))

-- what files name is within its bounds, and has homes
filed_homes : (t : Tables) → AreTables t → (f : FilePage ℕ) (n : PageName) → filed_in t f ≡ Some n → (f.file < MOST_FILES) × (f.page < FILE_PAGES) × IsSome (home_named t.names n)
filed_homes t a f n is = by (fin.get t.files f) refl (sym (get_filed t.names t.files f) ∙ is)
  where
    by : (o : Option Home) → fin.get t.files f ≡ o → option_map (name_of t.names) o ≡ Some n → (f.file < MOST_FILES) × (f.page < FILE_PAGES) × IsSome (home_named t.names n)
    by None filed k = absurd (cc k)
    by (Some h) filed k =
        let named = filed_named t a f h filed in
        let same : named.0 ≡ n = (let z : Some named.0 ≡ Some n = ap (λ (o : Option PageName). Some (unwrap_or o nobody)) (sym named.1) ∙ k in cc z) in
        let bounds = a.filed f h filed in
        (bounds.0, bounds.1, subst IsSome (sym (home_found t.names h.0 n (named.1 ∙ ap Some same) (λ j e. a.once j h.0 n e (named.1 ∙ ap Some same)))) refl)

pub tables_told : (t : Tables) → AreTables t → ((h : ℕ) (words : List ℕ) → place t.places h ≡ here words → IsPage words) → AreTold t
unfolding content
tables_told t a pages = record {
  whole = λ d fits. tables_whole t a d (sized_of t.places d fits pages);
  number = λ d fits. sym (tables_live t a d (sized_of t.places d fits pages));
  room = λ d fits. omega (arith, a.room, tables_live t a d (sized_of t.places d fits pages));
  lives = λ f. sym (lives_held t.names t.maps f);
  alone = λ f none. elim (searched t.maps f) [ inl r ↦ absurd (none_counted t.maps f none r.0 r.2) | inr r ↦ ap is_some r.0 ];
  away = λ n home frames e. let x = is_away t n home frames e in x.away;
  there = λ d n home frames fits e. let x = is_away t n home frames e in
      ap is_some (object_home t a d (sized_of t.places d fits pages) home n x.name ∙ ap (λ p. over_drum p (drum_page d home)) x.away);
  taken = λ n home is. a.is_taken home ∙ ap is_some (named_home t.names n home is);
  filed = filed_homes t a;
  apart = λ n m home is it. (let z : Some n ≡ Some m = sym (named_home t.names n home is) ∙ named_home t.names m home it in cc z);
  housed = λ d n fits. has_home t a d (sized_of t.places d fits pages) n;
  homes = a.homes;
  objects = λ d fits. omega (arith, taken_or_free t.places, a.free, a.homes, tables_objects t a d (sized_of t.places d fits pages));
  mapped = λ home e. cc e;
  words = λ d n home is. object_some (content t.places d) t.names a.once home n (named_home t.names n home is);
}
