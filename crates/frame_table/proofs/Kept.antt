-- What each change of a frame leaves of how the frames are kept.
use Rattle.std.proofs.Common.{◌≡◌, ◌≢◌, ℕ, zero, suc, ◌+◌, ◌-◌, ◌^◌, ◌<◌, ◌≤◌, inl, inr, List, length, Option, None, Some, is_some, cond, refl, sym, ◌∙◌, ap, subst, arith, get_or, set, replicate, count_by}
use Rattle.std.specs.Prelude.{is_none}
use Rattle.std.specs.Option.{option_map, option_map_or}
use Rattle.std.specs.Ordering.{nat_cmp}
use Rattle.std.specs.FinMap as map
use Rattle.std.specs.FinSet as members
use Rattle.std.proofs.lemmas.Bool.{cases_eq, cases_lt}
use Rattle.std.proofs.lemmas.List.{get_or-set_same, get_or-set_other, length-set, get_or_past, length-replicate, set-get_or}
use Rattle.std.proofs.lemmas.List.Sums.{sum_by-set, sum_by-cons, count_by-le-length}
use Rattle.number_map.proofs.Keys.{get_put, get_put_other, get_gone, get_gone_other}
use Rattle.number_set.proofs.Members as numbers
use Rattle.number_set.specs.Numbers.{Numbers}
use Rattle.page_homes.specs.declared.homes.Home.{Home}
use Rattle.page_homes.specs.declared.homes.FrameId.{FrameId}
use Rattle.page_homes.specs.declared.homes.TheConstants.{MOST_HOMES}
use Rattle.machine_names.specs.PageWords.{zero_words}
use Rattle.frame_table.specs.declared.tenant.Tenant.{Tenant}
use Rattle.frame_table.specs.declared.tenant.TheConstants.{MOST_PINS}
use Rattle.frame_table.specs.Core.{Core, LAST_USE, seat_of, home_in, age_of, IsAway, new_tenant, next_use, with_page, without_page, with_words}
use Rattle.frame_table.specs.Seats.{AreKept}

-- each home's frame
abbrev Homes : Type 0
Homes = map.FinMap nat_cmp FrameId

-- the seat of a frame, and its home
abbrev seat : List (Option Tenant) → ℕ → Option Tenant
seat seats f = get_or seats f None

abbrev home : List (Option Tenant) → ℕ → Option Home
home seats f = option_map (λ t. t.home) (seat seats f)

taken_below : (seats : List (Option Tenant)) (f : ℕ) (t : Tenant) → seat seats f ≡ Some t → f < length seats
taken_below seats f t at = elim (cases_lt f (length seats)) [
  | inl below ↦ below
  | inr past ↦ let no : None ≡ Some t = sym (get_or_past seats f None past) ∙ at in absurd cc
]

homed : (o : Option Tenant) (h : Home) → option_map (λ t. t.home) o ≡ Some h → (t : Tenant) × (o ≡ Some t) × (t.home ≡ h)
homed None h at = absurd cc
homed (Some t) h at = (t, refl, cc)

-- a frame that holds a page is one of the frames
home_below : (seats : List (Option Tenant)) (f : ℕ) (h : Home) → home seats f ≡ Some h → f < length seats
home_below seats f h at = let is = homed (seat seats f) h at in taken_below seats f is.0 is.1

-- how many frames are free once one was taken, or made free
count_set : (seats : List (Option Tenant)) (f : ℕ) (s : Option Tenant) → f < length seats
    → count_by is_none (set seats f s) + cond (is_none (seat seats f)) 1 0 ≡ count_by is_none seats + cond (is_none s) 1 0
count_set seats f s below = sum_by-set (λ o. cond (is_none o) 1 0) seats f s None below

same_home : (h k : Home) → h.0 ≡ k.0 → h ≡ k
same_home h k same = ap (λ (n : ℕ). let r : Home = record { 0 = n } in r) same

-- the number of the next use isn't less than that of this one, and greater until the last
pub next_after : (n : ℕ) → n ≤ LAST_USE → (n ≤ next_use n) × (next_use n ≤ LAST_USE) × (next_use n < LAST_USE → n < next_use n)
next_after n last = (omega arith, omega arith, λ before. omega arith)

-- a frame's tenant changes, but not its home; uses may go on
pub kept_changed : (c : Core) (taken : Numbers) (homes : Homes) (free f uses : ℕ) (t u : Tenant) → AreKept c taken homes free
    → seat_of c f ≡ Some t → u.home ≡ t.home → u.pins ≤ MOST_PINS → c.uses ≤ uses → uses ≤ LAST_USE → (uses < LAST_USE → u.age < uses)
    → AreKept (record c { seats = set c.seats f (Some u); uses = uses }) taken homes free
kept_changed c taken homes free f uses t u is at same few later last young =
    let core = is.core in
    let seats : List (Option Tenant) = set c.seats f (Some u) in
    let below : f < length c.seats = taken_below c.seats f t at in
    let here : seat seats f ≡ Some u = get_or-set_same c.seats f (Some u) None below in
    let there : (g : ℕ) → g ≢ f → seat seats g ≡ seat c.seats g = λ g other. get_or-set_other c.seats f g (Some u) None other in
    let homes_stay : (g : ℕ) → home seats g ≡ home c.seats g = λ g. elim (cases_eq g f) [
      | inl e ↦ ap (home seats) e ∙ ap (option_map (λ v. v.home)) here ∙ ap Some same ∙ sym (ap (home c.seats) e ∙ ap (option_map (λ v. v.home)) at)
      | inr other ↦ ap (option_map (λ v. v.home)) (there g other)
    ] in
    let some_stay : (g : ℕ) → is_some (seat seats g) ≡ is_some (seat c.seats g) = λ g. elim (cases_eq g f) [
      | inl e ↦ ap (λ (k : ℕ). is_some (seat seats k)) e ∙ ap is_some here ∙ sym (ap (λ (k : ℕ). is_some (seat c.seats k)) e ∙ ap is_some at)
      | inr other ↦ ap is_some (there g other)
    ] in
    let size : length seats ≡ length c.seats = length-set c.seats f (Some u) in
    let count : count_by is_none seats + 0 ≡ count_by is_none c.seats + 0 = subst (λ (o : Option Tenant). count_by is_none seats + cond (is_none o) 1 0 ≡ count_by is_none c.seats + 0) at (count_set c.seats f (Some u) below) in
    record {
      core = record {
        single = λ g k h one two. core.single g k h (sym (homes_stay g) ∙ one) (sym (homes_stay k) ∙ two);
        below = λ g h one. core.below g h (sym (homes_stay g) ∙ one);
        pinned = λ g v one. elim (cases_eq g f) [
          | inl e ↦
              let both : Some u ≡ Some v = sym here ∙ ap (seat seats) (sym e) ∙ one in
              let is_it : u ≡ v = cc in
              subst (λ (w : Tenant). w.pins ≤ MOST_PINS) is_it few
          | inr other ↦ core.pinned g v (sym (there g other) ∙ one)
        ];
        numbered = last;
        aged = λ g v one before. elim (cases_eq g f) [
          | inl e ↦
              let both : Some u ≡ Some v = sym here ∙ ap (seat seats) (sym e) ∙ one in
              let is_it : u ≡ v = cc in
              subst (λ (w : Tenant). w.age < uses) is_it (young before)
          | inr other ↦ omega (arith, core.aged g v (sym (there g other) ∙ one) (omega arith))
        ];
        worded = core.worded ∙ sym size;
      };
      small = subst (λ (m : ℕ). m < 2 ^ 32) (sym size) is.small;
      bound = is.bound ∙ sym size;
      occupied = λ g. is.occupied g ∙ sym (some_stay g);
      found = λ h g at_h. homes_stay g.0 ∙ is.found h g at_h;
      listed = λ g h one. is.listed g h (sym (homes_stay g) ∙ one);
      free = is.free ∙ omega arith;
    }

-- a frame has other words
pub kept_words : (c : Core) (taken : Numbers) (homes : Homes) (free f : ℕ) (ws : List ℕ) → AreKept c taken homes free
    → AreKept (with_words c f ws) taken homes free
kept_words c taken homes free f ws is =
    let core = is.core in
    record {
      core = record {
        single = core.single;
        below = core.below;
        pinned = core.pinned;
        numbered = core.numbered;
        aged = core.aged;
        worded = length-set c.words f ws ∙ core.worded;
      };
      small = is.small;
      bound = is.bound;
      occupied = is.occupied;
      found = is.found;
      listed = is.listed;
      free = is.free;
    }

-- a free frame gets the page of a home that is in no frame
pub kept_seated : (c : Core) (taken : Numbers) (homes : Homes) (free f : ℕ) (h : Home) → AreKept c taken homes free
    → f < length c.seats → seat_of c f ≡ None → IsAway c h → h.0 < MOST_HOMES
    → AreKept (with_page c f h) (record taken { members = members.insert taken.members f })
    (map.insert homes h.0 (record { 0 = f })) (free - 1)
kept_seated c taken homes free f h is below none away low =
    let core = is.core in
    let seats : List (Option Tenant) = set c.seats f (Some (new_tenant h c.uses)) in
    let here : seat seats f ≡ Some (new_tenant h c.uses) = get_or-set_same c.seats f (Some (new_tenant h c.uses)) None below in
    let there : (g : ℕ) → g ≢ f → seat seats g ≡ seat c.seats g = λ g other. get_or-set_other c.seats f g (Some (new_tenant h c.uses)) None other in
    let home_here : home seats f ≡ Some h = ap (option_map (λ v. v.home)) here in
    let home_there : (g : ℕ) → g ≢ f → home seats g ≡ home c.seats g = λ g other. ap (option_map (λ v. v.home)) (there g other) in
    let home_before : home c.seats f ≡ None = ap (option_map (λ v. v.home)) none in
    let new : (g : ℕ) (k : Home) → g ≡ f → home seats g ≡ Some k → k ≡ h = λ g k e at.
    (let both : Some h ≡ Some k = sym home_here ∙ ap (home seats) (sym e) ∙ at in let it : k ≡ h = cc in it) in
    let size : length seats ≡ length c.seats = length-set c.seats f (Some (new_tenant h c.uses)) in
    let count : count_by is_none seats + 1 ≡ count_by is_none c.seats + 0 =
    subst (λ (o : Option Tenant). count_by is_none seats + cond (is_none o) 1 0 ≡ count_by is_none c.seats + 0) none (count_set c.seats f (Some (new_tenant h c.uses)) below) in
    let next = next_after c.uses core.numbered in
    record {
      core = record {
        single = λ g k j one two. elim (cases_eq g f) [
          | inl e ↦ elim (cases_eq k f) [
            | inl e' ↦ e ∙ sym e'
            | inr other ↦ absurd (away k (sym (home_there k other) ∙ two ∙ ap Some (new g j e one)))
          ]
          | inr other ↦ elim (cases_eq k f) [
            | inl e ↦ absurd (away g (sym (home_there g other) ∙ one ∙ ap Some (new k j e two)))
            | inr other' ↦ core.single g k j (sym (home_there g other) ∙ one) (sym (home_there k other') ∙ two)
          ]
        ];
        below = λ g j one. elim (cases_eq g f) [
          | inl e ↦ subst (λ (k : Home). k.0 < MOST_HOMES) (sym (new g j e one)) low
          | inr other ↦ core.below g j (sym (home_there g other) ∙ one)
        ];
        pinned = λ g v one. elim (cases_eq g f) [
          | inl e ↦
              let both : Some (new_tenant h c.uses) ≡ Some v = sym here ∙ ap (seat seats) (sym e) ∙ one in
              let is_it : new_tenant h c.uses ≡ v = cc in
              subst (λ (w : Tenant). w.pins ≤ MOST_PINS) is_it (omega arith)
          | inr other ↦ core.pinned g v (sym (there g other) ∙ one)
        ];
        numbered = next.1;
        aged = λ g v one before. elim (cases_eq g f) [
          | inl e ↦
              let both : Some (new_tenant h c.uses) ≡ Some v = sym here ∙ ap (seat seats) (sym e) ∙ one in
              let is_it : new_tenant h c.uses ≡ v = cc in
              subst (λ (w : Tenant). w.age < next_use c.uses) is_it (next.2 before)
          | inr other ↦ omega (arith, next.0, core.aged g v (sym (there g other) ∙ one) (omega (arith, next.0)))
        ];
        worded = core.worded ∙ sym size;
      };
      small = subst (λ (m : ℕ). m < 2 ^ 32) (sym size) is.small;
      bound = is.bound ∙ sym size;
      occupied = λ g. elim (cases_eq g f) [
        | inl e ↦ numbers.added taken.members f g e ∙ sym (ap (λ (k : ℕ). is_some (seat seats k)) e ∙ ap is_some here)
        | inr other ↦ numbers.added_other taken.members f g other ∙ is.occupied g ∙ sym (ap is_some (there g other))
      ];
      found = λ k g at. elim (cases_eq k h.0) [
        | inl e ↦
            let both : Some (let r : FrameId = record { 0 = f } in r) ≡ Some g = sym (get_put homes h.0 k (record { 0 = f }) e) ∙ at in
            let it : f ≡ g.0 = cc in
            ap (home seats) (sym it) ∙ home_here ∙ ap Some (same_home h (record { 0 = k }) (sym e))
        | inr other ↦
            let before : home c.seats g.0 ≡ Some (record { 0 = k }) = is.found k g (sym (get_put_other homes h.0 k (record { 0 = f }) other) ∙ at) in
            home_there g.0 (λ e. let no : None ≡ Some (let r : Home = record { 0 = k } in r) = sym home_before ∙ ap (home c.seats) (sym e) ∙ before in absurd cc) ∙ before
      ];
      listed = λ g k one. elim (cases_eq g f) [
        | inl e ↦ get_put homes h.0 k.0 (record { 0 = f }) (ap (λ (j : Home). j.0) (new g k e one)) ∙ ap (λ (m : ℕ). Some (let r : FrameId = record { 0 = m } in r)) (sym e)
        | inr other ↦
            let before : home c.seats g ≡ Some k = sym (home_there g other) ∙ one in
            get_put_other homes h.0 k.0 (record { 0 = f }) (λ e. away g (before ∙ ap Some (same_home k h e))) ∙ is.listed g k before
      ];
      free = omega (arith, is.free);
    }

-- a frame that is taken becomes free
pub kept_vacated : (c : Core) (taken : Numbers) (homes : Homes) (free f : ℕ) (h : Home) → AreKept c taken homes free
    → home_in c f ≡ Some h
    → AreKept (without_page c f) (record taken { members = members.remove taken.members f }) (map.remove homes h.0) (free + 1)
kept_vacated c taken homes free f h is at =
    let core = is.core in
    let seats : List (Option Tenant) = set c.seats f None in
    let was = homed (seat c.seats f) h at in
    let before : seat c.seats f ≡ Some was.0 = was.1 in
    let below : f < length c.seats = home_below c.seats f h at in
    let here : seat seats f ≡ None = get_or-set_same c.seats f None None below in
    let there : (g : ℕ) → g ≢ f → seat seats g ≡ seat c.seats g = λ g other. get_or-set_other c.seats f g None None other in
    let home_here : home seats f ≡ None = ap (option_map (λ v. v.home)) here in
    let home_there : (g : ℕ) → g ≢ f → home seats g ≡ home c.seats g = λ g other. ap (option_map (λ v. v.home)) (there g other) in
    let apart : (g : ℕ) (k : Home) → home seats g ≡ Some k → g ≢ f = λ g k one e.
    (let no : None ≡ Some k = sym home_here ∙ ap (home seats) (sym e) ∙ one in let r : ⊥ = absurd cc in r) in
    let size : length seats ≡ length c.seats = length-set c.seats f None in
    let count : count_by is_none seats + 0 ≡ count_by is_none c.seats + 1 =
    subst (λ (o : Option Tenant). count_by is_none seats + cond (is_none o) 1 0 ≡ count_by is_none c.seats + 1) before (count_set c.seats f None below) in
    let stay : (g : ℕ) (k : Home) → home seats g ≡ Some k → home c.seats g ≡ Some k = λ g k one. sym (home_there g (apart g k one)) ∙ one in
    record {
      core = record {
        single = λ g k j one two. core.single g k j (stay g j one) (stay k j two);
        below = λ g j one. core.below g j (stay g j one);
        pinned = λ g v one. elim (cases_eq g f) [
          | inl e ↦ let no : None ≡ Some v = sym here ∙ ap (seat seats) (sym e) ∙ one in absurd cc
          | inr other ↦ core.pinned g v (sym (there g other) ∙ one)
        ];
        numbered = core.numbered;
        aged = λ g v one before. elim (cases_eq g f) [
          | inl e ↦ let gone : None ≡ Some v = sym here ∙ ap (seat seats) (sym e) ∙ one in absurd cc
          | inr other ↦ core.aged g v (sym (there g other) ∙ one) before
        ];
        worded = core.worded ∙ sym size;
      };
      small = subst (λ (m : ℕ). m < 2 ^ 32) (sym size) is.small;
      bound = is.bound ∙ sym size;
      occupied = λ g. elim (cases_eq g f) [
        | inl e ↦ numbers.gone taken.members f g e ∙ sym (ap (λ (k : ℕ). is_some (seat seats k)) e ∙ ap is_some here)
        | inr other ↦ numbers.gone_other taken.members f g other ∙ is.occupied g ∙ sym (ap is_some (there g other))
      ];
      found = λ k g one. elim (cases_eq k h.0) [
        | inl e ↦ let no : None ≡ Some g = sym (get_gone homes h.0 k e) ∙ one in absurd cc
        | inr other ↦
            let was_there : home c.seats g.0 ≡ Some (record { 0 = k }) = is.found k g (sym (get_gone_other homes h.0 k other) ∙ one) in
            home_there g.0 (λ e.
            let both : Some h ≡ Some (let r : Home = record { 0 = k } in r) = sym at ∙ ap (home c.seats) (sym e) ∙ was_there in
            let it : h.0 ≡ k = cc in other (sym it)) ∙ was_there
      ];
      listed = λ g k one.
          get_gone_other homes h.0 k.0 (λ e. apart g k one (core.single g f h (stay g k one ∙ ap Some (same_home k h e)) at)) ∙ is.listed g k (stay g k one);
      free = omega (arith, is.free);
    }

-- there is room to count one more free frame
pub free_small : (c : Core) (taken : Numbers) (homes : Homes) (free f : ℕ) (h : Home) → AreKept c taken homes free → home_in c f ≡ Some h → free + 1 < 2 ^ 32
free_small c taken homes free f h is at =
    let next = kept_vacated c taken homes free f h is at in
    omega (arith, next.free, next.small, count_by-le-length is_none (set c.seats f None))

count_none : (n : ℕ) → count_by is_none (replicate {A = Option Tenant} n None) ≡ n
count_none zero = refl
count_none (suc n) = omega (arith, count_none n, sum_by-cons (λ (o : Option Tenant). cond (is_none o) 1 0) None (replicate n None))

none_at : (n f : ℕ) → seat (replicate n None) f ≡ None
none_at zero f = refl
none_at (suc n) zero = refl
none_at (suc n) (suc f) = none_at n f

-- all frames are free at the beginning
pub kept_none : (n : ℕ) → n < 2 ^ 32
    → AreKept (record { seats = replicate n None; words = replicate n zero_words; uses = 0 }) (record { bound = n; members = members.empty }) map.empty n
kept_none n small =
    let seats : List (Option Tenant) = replicate n None in
    let size : length seats ≡ n = length-replicate {A = Option Tenant} n None in
    let no_home : (f : ℕ) (h : Home) → home seats f ≡ Some h → ⊥ = λ f h at. (let gone : None ≡ Some h = sym (ap (option_map (λ v. v.home)) (none_at n f)) ∙ at in let r : ⊥ = absurd cc in r) in
    record {
      core = record {
        single = λ f g h one two. absurd (no_home f h one);
        below = λ f h one. absurd (no_home f h one);
        pinned = λ f t one. let gone : None ≡ Some t = sym (none_at n f) ∙ one in absurd cc;
        numbered = omega arith;
        aged = λ f t one before. let gone : None ≡ Some t = sym (none_at n f) ∙ one in absurd cc;
        worded = length-replicate {A = List ℕ} n zero_words ∙ sym size;
      };
      small = subst (λ (m : ℕ). m < 2 ^ 32) (sym size) small;
      bound = sym size;
      occupied = λ f. members.contains-empty nat_cmp f ∙ sym (ap is_some (none_at n f));
      found = λ h f at. let gone : None ≡ Some f = sym (map.get-empty nat_cmp h) ∙ at in absurd cc;
      listed = λ f h one. absurd (no_home f h one);
      free = sym (count_none n);
    }

-- what a frame is taken by is changed, but not its home nor its age
pub kept_reseated : (c q : Core) (taken : Numbers) (homes : Homes) (free f : ℕ) (u : Tenant) → AreKept c taken homes free → c ≡ q
    → home_in q f ≡ Some u.home → age_of q f ≡ u.age → u.pins ≤ MOST_PINS → AreKept (record c { seats = set c.seats f (Some u) }) taken homes free
kept_reseated c q taken homes free f u is view at age few =
    let was = homed (seat c.seats f) u.home (ap (λ (r : Core). home_in r f) view ∙ at) in
    let same : was.0.age ≡ u.age = sym (ap (λ (o : Option Tenant). option_map_or (λ t. t.age) o 0) was.1) ∙ ap (λ (r : Core). age_of r f) view ∙ age in
    kept_changed c taken homes free f c.uses was.0 u is was.1 (sym was.2) few (omega arith) is.core.numbered
    (λ before. subst (λ (n : ℕ). n < c.uses) same (is.core.aged f was.0 was.1 before))

-- a frame that is taken is used
pub kept_used : (c : Core) (taken : Numbers) (homes : Homes) (free f : ℕ) (t : Tenant) → AreKept c taken homes free → seat_of c f ≡ Some t
    → AreKept (record c { seats = set c.seats f (Some (record t { age = c.uses })); uses = next_use c.uses }) taken homes free
kept_used c taken homes free f t is at =
    let next = next_after c.uses is.core.numbered in
    kept_changed c taken homes free f (next_use c.uses) t (record t { age = c.uses }) is at refl (is.core.pinned f t at) next.0 next.1 next.2

-- to make a free frame free changes nothing
pub free_stays : (c : Core) (f : ℕ) → seat_of c f ≡ None → c ≡ without_page c f
free_stays c f none = ap (λ (ss : List (Option Tenant)). record c { seats = ss }) (sym (ap (set c.seats f) (sym none) ∙ set-get_or c.seats f None))
