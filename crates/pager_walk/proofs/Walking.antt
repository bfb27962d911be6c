-- A walk finds what is to be known of a chain.
use Rattle.std.proofs.Common.{◌≡◌, ◌≢◌, ℕ, zero, suc, ◌-◌, ◌<◌, List, Bool, true, false, cond, ◌&&◌, ◌||◌, Option, None, Some, is_some, map, refl, sym, ◌∙◌, ap, subst, arith}
use Rattle.std.specs.Prelude.{find}
use Rattle.std.specs.Option.{option_map, option_or}
use Rattle.machine_names.specs.declared.names.Access.{Access}
use Rattle.machine_names.specs.declared.names.ForkName.{ForkName}
use Rattle.machine_names.specs.declared.names.Kind.{Kind}
use Rattle.machine_names.specs.declared.names.Kind.TheVariants.{Read, Write, Execute}
use Rattle.machine_names.specs.declared.names.PageName.{PageName}
use Rattle.machine_names.specs.declared.names.Slot.{Slot}
use Rattle.machine_names.specs.declared.names.TheConstants.{SPACE_PAGES}
use Rattle.page_homes.specs.declared.homes.Home.{Home}
use Rattle.plain_pages.specs.declared.map.MapEntry.{MapEntry}
use Rattle.plain_pages.specs.declared.map.MapEntry.TheVariants as entry
use Rattle.plain_pages.specs.Maps.{Entries, Chain, Link, entry_at, followed, full_access, single_link, behind, chain_from, chain_within, chain, maps_from, maps_within, maps_on_way, permits}
use Rattle.page_contracts.specs.DrumWords.{DrumWords}
use Rattle.page_contracts.specs.Stores.{HomePlace, is_taken}
use Rattle.pager_walk.specs.declared.paged_entry.PagedEntry.TheVariants.{Empty, Page, Follows}
use Rattle.pager_walk.specs.declared.paged_entry.Looked.{Looked}
use Rattle.pager_walk.specs.declared.paged_entry.Looked.TheVariants.{Is, Absent as MapAbsent, Missing, Refused}
use Rattle.pager_walk.specs.declared.chain_walk.Walked.{Walked}
use Rattle.pager_walk.specs.declared.chain_walk.Walked.TheVariants.{Along, Absent, NoChain}
use Rattle.pager_walk.specs.PagedMaps.{Tables, name_at, name_of, look_at, is_near, map_away, maps_over, AreRooted, FitsMaps, LookStands, TellsEntry}
use Rattle.fork_maps.specs.ChainWalks.{walk_end, walk_behind, allows_along}
use Rattle.pager_walk.specs.Walks.{Way, walked_behind, walk_from, walk_within, walk_at, first_absent, IsChain, TellsOf, TellsWalk, IsNearSlot, WalkStands}
use Rattle.pager_walk.proofs.Looking.{ArePages, stands_at, looked}

pub walk_none : (most : ℕ) (t : Tables) (places : List HomePlace) (s : Slot) → most ≡ 0 → walk_within most t places s ≡ NoChain
unfolding walk_within
walk_none zero t places s e = refl
walk_none (suc n) t places s e = absurd (omega (arith, e))

-- a walk from an entry that was looked at
pub walk_here : (most : ℕ) (t : Tables) (places : List HomePlace) (s : Slot) (l : Looked) → most ≢ 0 → l ≡ look_at t places s → walk_within most t places s ≡ walk_from s l (walk_within (most - 1) t places)
unfolding walk_within
walk_here zero t places s l some is = absurd (some refl)
walk_here (suc n) t places s l some is = ap (λ (o : Looked). walk_from s o (walk_within n t places)) (sym is) ∙ ap (λ k. walk_from s l (walk_within k t places)) (less n)
  where
    less : (n : ℕ) → n ≡ suc n - 1
    less n = omega arith

-- four entries are enough
pub walk_four : (t : Tables) (places : List HomePlace) (s : Slot) → walk_within 4 t places s ≡ walk_at t places s
unfolding walk_at
walk_four t places s = refl

and_true : (b : Bool) → b ≡ (b && true)
and_true true = refl
and_true false = refl

write_one : (c w : Bool) → (c || w) ≡ cond c true (w && true)
write_one true w = refl
write_one false w = and_true w

module _ (names : List (Option PageName)) where
  -- a chain of one entry
  one : (s : Slot) (a : Access) (home : Option Home) → IsChain names (walk_end s a home) (single_link s a (option_map (name_of names) home))
  one s a home = record { end = refl; page = refl; permits = allowed; copy = by a.c }
    where
      allowed : (kind : Kind) → allows_along kind (walk_end s a home) ≡ permits kind (single_link s a (option_map (name_of names) home))
      allowed Read = and_true a.r
      allowed Execute = and_true a.x
      allowed Write = write_one a.c a.w

      by : (b : Bool) → ◌≡◌ {A = Option Slot} (cond b (Some s) None) (option_map (λ (l : Link). l.slot) (cond b (Some (record { slot = s; access = a })) None))
      by true = refl
      by false = refl

  -- a chain with one entry more
  more : (s : Slot) (a : Access) (w : Way) (c : Chain) → IsChain names w c → IsChain names (walk_behind s a w) (behind s a c)
  more s a w c m = record { end = m.end; page = m.page; permits = allowed; copy = by a.c }
    where
      allowed : (kind : Kind) → allows_along kind (walk_behind s a w) ≡ permits kind (behind s a c)
      allowed Read = ap (λ b. a.r && b) (m.permits Read)
      allowed Execute = ap (λ b. a.x && b) (m.permits Execute)
      allowed Write = λ i. cond a.c (m.permits Read i) (a.w && m.permits Write i)

      by : (b : Bool) → ◌≡◌ {A = Option Slot} (cond b (Some s) w.copy) (option_map (λ (l : Link). l.slot) (cond b (Some (record { slot = s; access = a })) (find (λ l. l.access.c) c.links)))
      by true = refl
      by false = m.copy

  -- what a walk says of the rest of a chain, it says of the whole
  behind_is : (s : Slot) (a : Access) (absent : Option ℕ) (c : Option Chain) (w : Walked) → TellsOf names absent c w → TellsOf names absent (option_map (behind s a) c) (walked_behind s a w)
  behind_is s a absent c (Along w) x = (x.0, (behind s a x.1.0, ap (option_map (behind s a)) x.1.1, more s a w x.1.0 x.1.2))
  behind_is s a absent c (Absent home) x = x
  behind_is s a absent c NoChain x = (x.0, ap (option_map (behind s a)) x.1)

module _ (t : Tables) (places : List HomePlace) (d : DrumWords) (rooted : AreRooted t (map is_taken places)) (pages : ArePages places) (fits : FitsMaps t places d) where
  abbrev entries : Entries
  entries = entry_at (maps_over t places d)

  abbrev away : ForkName → Option ℕ
  away = map_away t places

  abbrev Tells : Slot → ℕ → Option MapEntry → Walked → Type 0
  Tells s n o w = TellsOf t.names (first_absent away (maps_from s o (maps_within n entries))) (chain_from s o (chain_within n entries)) w

  walked_from : (n : ℕ) (s : Slot) (l : Looked) → TellsEntry t places d s l → LookStands t places l
      → ((next : Slot) → next.page < SPACE_PAGES → TellsOf t.names (first_absent away (maps_within n entries next)) (chain_within n entries next) (walk_within n t places next))
      → Tells s n (entries s) (walk_from s l (walk_within n t places))
  walked_from n s (Is Empty) told within rest = subst (λ (o : Option MapEntry). Tells s n o (Along (walk_end s full_access None))) (sym told.1) (ap (λ o. option_or o None) told.0, (single_link s full_access None, refl, one t.names s full_access None))
  walked_from n s (Is (Page h a)) told within rest = subst (λ (o : Option MapEntry). Tells s n o (Along (walk_end s a (Some h)))) (sym told.1) (ap (λ o. option_or o None) told.0, (single_link s a (Some (name_of t.names h)), refl, one t.names s a (Some h)))
  walked_from n s (Is (Follows serial page a)) told within rest =
      let next = followed s serial page in
      let first = first_absent away (maps_within n entries next) in
      subst (λ (o : Option MapEntry). Tells s n o (walked_behind s a (walk_within n t places next))) (sym told.1)
      (subst (λ (x : Option ℕ). TellsOf t.names (option_or x first) (option_map (behind s a) (chain_within n entries next)) (walked_behind s a (walk_within n t places next))) (sym told.0)
      (behind_is t.names s a first (chain_within n entries next) (walk_within n t places next) (rest next within)))
  walked_from n s (MapAbsent home) told within rest = by (entries s) told.1
    where
      by : (o : Option MapEntry) → is_some o ≡ true → first_absent away (maps_from s o (maps_within n entries)) ≡ Some home.0
      by None e = absurd (cc e)
      by (Some entry.Empty) e = ap (λ x. option_or x None) told.0
      by (Some (entry.Names m a)) e = ap (λ x. option_or x None) told.0
      by (Some (entry.Follows serial page a)) e = ap (λ x. option_or x (first_absent away (maps_within n entries (followed s serial page)))) told.0
  walked_from n s Missing told within rest = subst (λ (o : Option MapEntry). Tells s n o NoChain) (sym told.1) (refl, refl)
  walked_from n s Refused told within rest = absurd told

  walked_within : (n : ℕ) (s : Slot) → s.page < SPACE_PAGES → TellsOf t.names (first_absent away (maps_within n entries s)) (chain_within n entries s) (walk_within n t places s)
  unfolding walk_within chain_within maps_within
  walked_within zero s below = (refl, refl)
  walked_within (suc n) s below = walked_from n s (look_at t places s) (looked t places d rooted pages fits s below) (stands_at t places rooted s) (λ next l. walked_within n next l)

  -- a walk finds what is to be known of the chain of its slot
  pub walked : (s : Slot) → s.page < SPACE_PAGES → TellsWalk t places d s (walk_at t places s)
  unfolding walk_at chain maps_on_way
  walked s below = walked_within 4 s below

-- what holds of a walk over whatever drum
module _ (t : Tables) (places : List HomePlace) (rooted : AreRooted t (map is_taken places)) where
  near_at : (s : Slot) (l : Looked) → s.page < SPACE_PAGES → look_at t places s ≡ l → is_near l ≡ true → IsNearSlot t places s
  near_at s l below is near = record { page = below; near = ap is_near is ∙ near }

  marked_stands : (b : Bool) (s : Slot) (rest : Option Slot) → IsNearSlot t places s → ((r : Slot) → rest ≡ Some r → IsNearSlot t places r) → (r : Slot) → cond b (Some s) rest ≡ Some r → IsNearSlot t places r
  marked_stands true s rest near other r e = let same : s ≡ r = cc e in subst (IsNearSlot t places) same near
  marked_stands false s rest near other r e = other r e

  none_marked : (r : Slot) → ◌≡◌ {A = Option Slot} None (Some r) → IsNearSlot t places r
  none_marked r e = absurd (cc e)

  behind_stands : (s : Slot) (a : Access) (w : Walked) → IsNearSlot t places s → WalkStands t places w → WalkStands t places (walked_behind s a w)
  behind_stands s a (Along w) near x = record { end = x.end; empty = x.empty; names = x.names; named = x.named; copy = marked_stands a.c s w.copy near x.copy }
  behind_stands s a (Absent home) near x = x
  behind_stands s a NoChain near x = tt

  stood_from : (n : ℕ) (s : Slot) (l : Looked) → s.page < SPACE_PAGES → look_at t places s ≡ l → LookStands t places l → ((next : Slot) → next.page < SPACE_PAGES → WalkStands t places (walk_within n t places next)) → WalkStands t places (walk_from s l (walk_within n t places))
  stood_from n s (Is Empty) below is stands rest = record {
    end = near_at s (Is Empty) below is refl;
    empty = λ e. is;
    names = λ home e. absurd (cc e);
    named = λ home e. absurd (cc e);
    copy = none_marked;
  }
  stood_from n s (Is (Page home a)) below is stands rest = record {
    end = near_at s (Is (Page home a)) below is refl;
    empty = λ e. absurd (cc e);
    names = λ h e. (a, (let same : home ≡ h = cc e in is ∙ ap (λ (x : Home). Is (Page x a)) same));
    named = λ h e. (let same : home ≡ h = cc e in subst (λ (x : Home). is_some (name_at t.names x.0) ≡ true) same stands);
    copy = marked_stands a.c s None (near_at s (Is (Page home a)) below is refl) none_marked;
  }
  stood_from n s (Is (Follows serial page a)) below is stands rest = behind_stands s a (walk_within n t places (followed s serial page)) (near_at s (Is (Follows serial page a)) below is refl) (rest (followed s serial page) stands)
  stood_from n s (MapAbsent home) below is stands rest = stands
  stood_from n s Missing below is stands rest = tt
  stood_from n s Refused below is stands rest = tt

  stood_within : (n : ℕ) (s : Slot) → s.page < SPACE_PAGES → WalkStands t places (walk_within n t places s)
  unfolding walk_within
  stood_within zero s below = tt
  stood_within (suc n) s below = stood_from n s (look_at t places s) below refl (stands_at t places rooted s) (λ next l. stood_within n next l)

  pub stood : (s : Slot) → s.page < SPACE_PAGES → WalkStands t places (walk_at t places s)
  unfolding walk_at
  stood s below = stood_within 4 s below
