-- What is known at the end of a chain is what a touch goes by.
use Rattle.std.proofs.Common.{◌≡◌, ℕ, ◌<◌, List, Bool, true, false, cond, Option, None, Some, is_some, refl, sym, ◌∙◌, ap, subst}
use Rattle.std.specs.Prelude.{◌&&◌, ◌↔◌, IsSome, IfSome, is_none, nat_lt}
use Rattle.std.specs.Option.{option_map}
use Rattle.machine_names.specs.declared.names.ForkName.{ForkName}
use Rattle.machine_names.specs.declared.names.Kind.{Kind}
use Rattle.machine_names.specs.declared.names.Kind.TheVariants.{Read, Write, Execute}
use Rattle.machine_names.specs.declared.names.Place.TheVariants.{Fork}
use Rattle.machine_names.specs.declared.names.Slot.{Slot}
use Rattle.machine_names.specs.declared.names.Tty.{Tty}
use Rattle.machine_names.specs.declared.names.TheConstants.{SPACE_PAGES}
use Rattle.machine_names.specs.Bounds.{IsOwner}
use Rattle.page_homes.specs.declared.homes.Home.{Home}
use Rattle.page_contracts.specs.DrumWords.{DrumWords}
use Rattle.page_contracts.specs.declared.answers.Found.{Found}
use Rattle.page_contracts.specs.declared.answers.SpaceHandle.{SpaceHandle}
use Rattle.page_contracts.specs.declared.answers.Touch.{Touch}
use Rattle.page_contracts.specs.declared.answers.Touch.TheVariants.{Ready, Zero, Copy, NeedFrame, Denied}
use Rattle.page_contracts.specs.Pages.{CanChange, IsPlace, absent_or, touch_of}
use Rattle.page_contracts.specs.Stores.{HomePlace, free, away, here, away_home, away_at, is_here, is_taken, place}
use Rattle.plain_pages.specs.References.{in_map}
use Rattle.pager_walk.specs.declared.chain_walk.Walked.{Walked}
use Rattle.pager_walk.specs.declared.chain_walk.Walked.TheVariants.{Along, Absent, NoChain}
use Rattle.pager_walk.specs.MapPages.{fork_at, index_of}
use Rattle.fork_maps.specs.ChainWalks.{allows_along, copy_for}
use Rattle.pager_walk.specs.Walks.{Way, walk_at}
use Rattle.pager_walk.proofs.Looking.{ArePages}
use Rattle.pager_walk.proofs.NumberedMaps.{index_fork}
use Rattle.paged_tables.specs.declared.known_page.KnownPage.{KnownPage}
use Rattle.paged_tables.specs.declared.page_home.PageHome.TheVariants.{At}
use Rattle.paged_tables.specs.KnownPages.{found_known, known_along, known_of, known_over, known_page, lets_change, lets_known}
use Rattle.paged_tables.specs.PageHomes.{homed_along}
use Rattle.paged_tables.specs.PagedSlots.{space_over}
use Rattle.paged_tables.specs.PagedTables.{Beside, AreKept, FitsPages, plain_over}
use Rattle.paged_tables.specs.PagedTouches.{alone_at, made_touched, roomy, scene_over, touched_over, walk_touched}
use Rattle.paged_tables.proofs.Homed.{homed_taken, place_stands, touch_told}
use Rattle.paged_tables.proofs.ReadyHomes.{absent_not, framed_not, roomy_not, words_here}

-- a page is known that may be referenced so as it is, and is in a frame
pub record KnownReady (places : List HomePlace) (kind : Kind) (x : Option KnownPage) : Type 0 where
  pub page : KnownPage
  pub is : x ≡ Some page
  pub lets : lets_known kind page ≡ true
  pub near : away_at places page.home.0 ≡ None

-- a page may be referenced as it is where the chain permits it and no copy is made
lets_is : (kind : Kind) (w : Way) (h : Home) → allows_along kind w ≡ true → copy_for kind w ≡ None → lets_known kind (known_page w h) ≡ true
lets_is Read w h allows copy = allows
lets_is Write w h allows copy = λ i. allows i && is_none (copy i)
lets_is Execute w h allows copy = allows

lets_back : (kind : Kind) (w : Way) (h : Home) → lets_known kind (known_page w h) ≡ true → (allows_along kind w ≡ true) × (copy_for kind w ≡ None)
lets_back Read w h e = (e, refl)
lets_back Execute w h e = (e, refl)
lets_back Write w h e = by w.writes w.copy e
  where
    by : (a : Bool) (o : Option Slot) → (a && is_none o) ≡ true → (a ≡ true) × (o ≡ None)
    by true None k = (refl, refl)
    by true (Some s) k = absurd (cc k)
    by false o k = absurd (cc k)

unmapped : (f : Slot → Bool) (o : Option Slot) → option_map f o ≡ None → o ≡ None
unmapped f None e = refl
unmapped f (Some s) e = absurd (cc e)

-- the page that is known is that at the end of the chain
pub known_homed : (w : Walked) (p : KnownPage) → known_along w ≡ Some p → homed_along w ≡ At p.home
known_homed (Along w) p e = by w.home e
  where
    by : (o : Option Home) → option_map (known_page w) o ≡ Some p → homed_along (Along (record w { home = o })) ≡ At p.home
    by None k = absurd (cc k)
    by (Some h) k = let same : known_page w h ≡ p = cc k in ap (λ (q : KnownPage). At q.home) same
known_homed (Absent home) p e = absurd (cc e)
known_homed NoChain p e = absurd (cc e)

module _ (b : Beside) (places : List HomePlace) (frames : ℕ) where
  made_known : (home : Option Home) (alone : Option Bool) → made_touched (away_at places) b (scene_over b places frames) home alone ≡ Ready → (h : Home) × (home ≡ Some h) × (alone ≡ None) × (away_at places h.0 ≡ None)
  made_known None None e = absurd (roomy_not (roomy b 1) _ (λ k. framed_not (nat_lt 0 frames) Zero (λ l. cc l) k) e)
  made_known None (Some alone) e = absurd (roomy_not (roomy b 2) _ (λ k. framed_not (nat_lt 0 frames) Zero (λ l. cc l) k) e)
  made_known (Some h) None e = (h, refl, refl, by (away_at places h.0) e)
    where
      by : (o : Option ℕ) → absent_or o Ready ≡ Ready → o ≡ None
      by None k = refl
      by (Some home) k = absurd (cc k)
  made_known (Some h) (Some true) e = absurd (absent_not (away_at places h.0) (Copy true) (λ k. cc k) e)
  made_known (Some h) (Some false) e = absurd (roomy_not (roomy b 1) (absent_or (away_at places h.0) (cond (nat_lt 0 frames) (Copy false) NeedFrame)) (λ k. absent_not (away_at places h.0) (cond (nat_lt 0 frames) (Copy false) NeedFrame) (λ l. framed_not (nat_lt 0 frames) (Copy false) (λ m. cc m) l) k) e)

  allowed : (a : Bool) (kind : Kind) (x : Touch) → cond a x (Denied kind) ≡ Ready → (a ≡ true) × (x ≡ Ready)
  allowed true kind x e = (refl, e)
  allowed false kind x e = absurd (cc e)

  -- a touch finds ready what is known to be
  pub known_ready : (kind : Kind) (w : Walked) → walk_touched b places frames kind w ≡ Ready → KnownReady places kind (known_along w)
  known_ready kind (Along w) e =
      let a = allowed (allows_along kind w) kind (made_touched (away_at places) b (scene_over b places frames) w.home (option_map (alone_at b places) (copy_for kind w))) e in
      let m = made_known w.home (option_map (alone_at b places) (copy_for kind w)) a.1 in
      record { page = known_page w m.0; is = ap (option_map (known_page w)) m.1; lets = lets_is kind w m.0 a.0 (unmapped (alone_at b places) (copy_for kind w) m.2); near = m.3 }
  known_ready kind (Absent home) e = absurd (cc e)
  known_ready kind NoChain e = absurd (cc e)

  pub ready_known : (kind : Kind) (w : Walked) → KnownReady places kind (known_along w) → walk_touched b places frames kind w ≡ Ready
  ready_known kind (Along w) r = by w.home refl r.is
    where
      by : (o : Option Home) → w.home ≡ o → option_map (known_page w) o ≡ Some r.page → walk_touched b places frames kind (Along w) ≡ Ready
      by None e k = absurd (cc k)
      by (Some h) e k =
          let same : known_page w h ≡ r.page = cc k in
          let x = lets_back kind w h (ap (lets_known kind) same ∙ r.lets) in
          (λ i. cond (x.0 i) (made_touched (away_at places) b (scene_over b places frames) (e i) (option_map (alone_at b places) (x.1 i))) (Denied kind))
          ∙ ap (λ (q : KnownPage). absent_or (away_at places q.home.0) Ready) same ∙ ap (λ o. absent_or o Ready) r.near
  ready_known kind (Absent home) r = absurd (let z : None ≡ Some r.page = r.is in cc z)
  ready_known kind NoChain r = absurd (let z : None ≡ Some r.page = r.is in cc z)

-- a taken home whose page is in a frame is not away
here_near : (places : List HomePlace) (h : ℕ) → is_here (place places h) ≡ true → away_at places h ≡ None
here_near places h e = by (place places h) e
  where
    by : (p : HomePlace) → is_here p ≡ true → away_home p h ≡ None
    by free k = absurd (cc k)
    by away k = absurd (cc k)
    by (here words) k = refl

-- a known page that may be used so was found
pub record KnownFound (found : ℕ → Option Found) (lets : KnownPage → Bool) (x : Option KnownPage) (spot : Found) : Type 0 where
  pub page : KnownPage
  pub is : x ≡ Some page
  pub may : lets page ≡ true
  pub spots : found page.home.0 ≡ Some spot

pub known_found : (found : ℕ → Option Found) (lets : KnownPage → Bool) (x : Option KnownPage) (spot : Found) → found_known found lets x ≡ Some spot → KnownFound found lets x spot
known_found found lets None spot e = absurd (cc e)
known_found found lets (Some p) spot e = by (lets p) refl e
  where
    by : (a : Bool) → lets p ≡ a → cond a (found p.home.0) None ≡ Some spot → KnownFound found lets (Some p) spot
    by true may k = record { page = p; is = refl; may = may; spots = k }
    by false may k = absurd (cc k)

found_back : (found : ℕ → Option Found) (lets : KnownPage → Bool) (x : Option KnownPage) (p : KnownPage) → x ≡ Some p → lets p ≡ true → found_known found lets x ≡ found p.home.0
found_back found lets x p is may = ap (found_known found lets) is ∙ ap (λ a. cond a (found p.home.0) None) may

-- where it may be used so, it is where a look finds it
pub found_place : (found : ℕ → Option Found) (lets : KnownPage → Bool) (x : Option KnownPage) → IfSome (found_known found lets x) (λ spot. found_known found (λ k. true) x ≡ Some spot)
found_place found lets x = by (found_known found lets x) refl
  where
    by : (o : Option Found) → found_known found lets x ≡ o → IfSome o (λ spot. found_known found (λ k. true) x ≡ Some spot)
    by None e = tt
    by (Some spot) e = let k = known_found found lets x spot e in found_back found (λ q. true) x k.page k.is refl ∙ k.spots

some_is : (o : Option Found) → IsSome o → (spot : Found) × (o ≡ Some spot)
some_is None e = absurd (cc e)
some_is (Some spot) e = (spot, refl)

module _ (b : Beside) (places : List HomePlace) (kept : AreKept b places) (f : ForkName) (space : SpaceHandle) (is : space_over b f ≡ Some space) where
  pub space_number : index_of b.tables.maps f ≡ Some space.0
  space_number = by (index_of b.tables.maps f) is
    where
      by : (o : Option ℕ) → ◌≡◌ {A = Option SpaceHandle} (option_map (λ k. record { 0 = k }) o) (Some space) → o ≡ Some space.0
      by None e = absurd (cc e)
      by (Some k) e = let same : ◌≡◌ {A = SpaceHandle} (record { 0 = k }) space = cc e in ap (λ (s : SpaceHandle). Some s.0) same

  pub space_fork : fork_at b.tables.maps space.0 ≡ Some f
  space_fork = index_fork b.tables.maps f space.0 space_number

  module _ (page : ℕ) (below : page < SPACE_PAGES) where
    abbrev slot : Slot
    slot = record { fork = f; page = page }

    pub slot_there : IsPlace (λ g. is_some (index_of b.tables.maps g)) (Fork slot)
    slot_there = (ap is_some space_number, below)

    -- what is known of the page of a fork's slot
    pub known_is : known_over b places space page ≡ known_along (walk_at b.tables places slot)
    known_is = ap (λ o. known_of b places o page) space_fork

    pub known_taken : (p : KnownPage) → known_over b places space page ≡ Some p → is_taken (place places p.home.0) ≡ true
    known_taken p e = homed_taken b places kept (Fork slot) p.home (place_stands b places kept (Fork slot) slot_there) (known_homed (walk_at b.tables places slot) p (sym known_is ∙ e))

    module _ (found : ℕ → Option Found) (finds : (h : ℕ) → is_some (found h) ≡ is_here (place places h)) (frames : ℕ) (kind : Kind) where
      some_here : (h : ℕ) → IsSome (found h) → is_here (place places h) ≡ true
      some_here h e = let s = some_is (found h) e in sym (finds h) ∙ ap is_some s.1

      here_some : (h : ℕ) → is_here (place places h) ≡ true → IsSome (found h)
      here_some h e = by (found h) (finds h ∙ e)
        where
          by : (o : Option Found) → is_some o ≡ true → IsSome o
          by None k = absurd (cc k)
          by (Some spot) k = refl

      -- a page is found exactly where a touch finds it ready
      pub found_ready : (lets : KnownPage → Bool) → ((p : KnownPage) → lets p ≡ true → lets_known kind p ≡ true) → IsSome (found_known found lets (known_over b places space page)) → touched_over b places frames (Fork slot) kind ≡ Ready
      found_ready lets more e =
          let s = some_is (found_known found lets (known_over b places space page)) e in
          let k = known_found found lets (known_over b places space page) s.0 s.1 in
          ready_known b places frames kind (walk_at b.tables places slot)
          (record { page = k.page; is = sym known_is ∙ k.is; lets = more k.page k.may; near = here_near places k.page.home.0 (sym (finds k.page.home.0) ∙ ap is_some k.spots) })

      pub ready_found : touched_over b places frames (Fork slot) kind ≡ Ready → (p : KnownPage) × (known_over b places space page ≡ Some p) × (lets_known kind p ≡ true) × IsSome (found p.home.0)
      ready_found e =
          let r = known_ready b places frames kind (walk_at b.tables places slot) e in
          let known : known_over b places space page ≡ Some r.page = known_is ∙ r.is in
          let x = words_here places r.page.home.0 (known_taken r.page known) r.near in
          (r.page, known, r.lets, here_some r.page.home.0 (ap is_here x.1))

      -- over each drum that fits too
      pub touch_ready : ArePages places → (d : DrumWords) → FitsPages b places d → touched_over b places frames (Fork slot) kind ≡ Ready → (owner : Tty) → IsOwner owner → touch_of (plain_over b places d) (scene_over b places frames) (in_map slot) kind owner ≡ Ready
      touch_ready pages d fits ready owner own = touch_told b places kept pages d fits frames (Fork slot) slot_there kind owner own ∙ ready

    module _ (found : ℕ → Option Found) (finds : (h : ℕ) → is_some (found h) ≡ is_here (place places h)) (frames : ℕ) where
      abbrev Touched : Kind → Type 0
      Touched kind = touched_over b places frames (Fork slot) kind ≡ Ready

      -- a look finds a page exactly where a touch finds it ready
      pub found_exactly : (kind : Kind) (o : Option Found) → o ≡ found_known found (lets_known kind) (known_over b places space page) → IsSome o ↔ Touched kind
      found_exactly kind o e = (
        λ some. found_ready found finds frames kind (lets_known kind) (λ p l. l) (subst (λ (x : Option Found). IsSome x) e some),
        λ ready. (let r = ready_found found finds frames kind ready in subst (λ (x : Option Found). IsSome x) (sym (e ∙ found_back found (lets_known kind) (known_over b places space page) r.0 r.1 r.2)) r.3),
      )

      changes : (p : KnownPage) → lets_change p ≡ true → (p.reads ≡ true) × (p.writes ≡ true)
      changes p e = by p.reads p.writes e
        where
          by : (r w : Bool) → (r && w) ≡ true → (r ≡ true) × (w ≡ true)
          by true true k = (refl, refl)
          by true false k = absurd (cc k)
          by false w k = absurd (cc k)

      pub change_exactly : (o : Option Found) → o ≡ found_known found lets_change (known_over b places space page) → IsSome o ↔ CanChange Touched
      change_exactly o e = (
        λ some. (let x = subst (λ (y : Option Found). IsSome y) e some in (found_ready found finds frames Read lets_change (λ p l. (changes p l).0) x, found_ready found finds frames Write lets_change (λ p l. (changes p l).1) x)),
        λ ready.
            let r = ready_found found finds frames Read ready.0 in
            let w = ready_found found finds frames Write ready.1 in
            let same : w.0 ≡ r.0 = (let z : Some w.0 ≡ Some r.0 = sym w.1 ∙ r.1 in cc z) in
            let both : lets_change r.0 ≡ true = (λ i. r.2 i && (ap (λ (q : KnownPage). q.writes) (sym same) ∙ w.2) i) in
            subst (λ (x : Option Found). IsSome x) (sym (e ∙ found_back found lets_change (known_over b places space page) r.0 r.1 both)) r.3,
      )
