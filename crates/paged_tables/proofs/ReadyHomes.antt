-- A touch that finds a page ready finds it at a home, in a frame.
use Rattle.std.proofs.Common.{◌≡◌, ℕ, List, Bool, true, false, cond, Option, None, Some, refl, arith}
use Rattle.std.specs.Option.{option_map}
use Rattle.std.specs.FinMap as fin
use Rattle.std.specs.Prelude.{nat_lt}
use Rattle.std.proofs.lemmas.Bool.Decides.{nat_tests}
use Rattle.machine_names.specs.declared.names.Kind.{Kind}
use Rattle.machine_names.specs.declared.names.Kind.TheVariants.{Read, Write, Execute}
use Rattle.machine_names.specs.declared.names.Place.{Place}
use Rattle.machine_names.specs.declared.names.Place.TheVariants.{Fork, File}
use Rattle.machine_names.specs.Orders.{file_page}
use Rattle.page_homes.specs.declared.homes.Home.{Home}
use Rattle.page_contracts.specs.declared.answers.Touch.{Touch}
use Rattle.page_contracts.specs.declared.answers.Touch.TheVariants.{Ready, Zero, Copy, NeedFrame, Denied, Full}
use Rattle.page_contracts.specs.Pages.{Scene, absent_or}
use Rattle.page_contracts.specs.Stores.{HomePlace, free, away, here, away_home, away_at, is_taken, place}
use Rattle.pager_walk.specs.declared.chain_walk.Walked.{Walked}
use Rattle.pager_walk.specs.declared.chain_walk.Walked.TheVariants.{Along, Absent, NoChain}
use Rattle.fork_maps.specs.ChainWalks.{allows_along, copy_for}
use Rattle.pager_walk.specs.Walks.{Way, walk_at}
use Rattle.paged_tables.specs.declared.page_home.PageHome.{PageHome}
use Rattle.paged_tables.specs.declared.page_home.PageHome.TheVariants.{At}
use Rattle.paged_tables.specs.PageHomes.{homed, homed_along, homed_over}
use Rattle.paged_tables.specs.PagedTables.{Beside}
use Rattle.paged_tables.specs.PagedTouches.{alone_at, file_touched, made_touched, roomy, scene_over, touched_over, walk_touched}

-- a home that is taken and not away has its page in a frame
pub words_here : (places : List HomePlace) (h : ℕ) → is_taken (place places h) ≡ true → away_at places h ≡ None → (words : List ℕ) × (place places h ≡ here words)
words_here places h taken near = by (place places h) taken near
  where
    by : (p : HomePlace) → is_taken p ≡ true → away_home p h ≡ None → (words : List ℕ) × (p ≡ here words)
    by free taken near = absurd (cc taken)
    by away taken near = absurd (cc near)
    by (here words) taken near = (words, refl)

-- the home at which a page was found ready
pub record ReadyAt (places : List HomePlace) (x : PageHome) : Type 0 where
  pub home : Home
  pub is : x ≡ At home
  pub near : away_at places home.0 ≡ None

pub absent_not : (o : Option ℕ) (x : Touch) → (x ≡ Ready → ⊥) → absent_or o x ≡ Ready → ⊥
absent_not None x f e = f e
absent_not (Some home) x f e = cc e

pub framed_not : (b : Bool) (x : Touch) → (x ≡ Ready → ⊥) → cond b x NeedFrame ≡ Ready → ⊥
framed_not true x f e = f e
framed_not false x f e = cc e

pub roomy_not : (b : Bool) (x : Touch) → (x ≡ Ready → ⊥) → cond b x Full ≡ Ready → ⊥
roomy_not true x f e = f e
roomy_not false x f e = cc e

present_ready : (places : List HomePlace) (h : Home) (o : Option ℕ) → away_at places h.0 ≡ o → absent_or o Ready ≡ Ready → ReadyAt places (At h)
present_ready places h None near e = record { home = h; is = refl; near = near }
present_ready places h (Some home) near e = absurd (cc e)

module _ (b : Beside) (places : List HomePlace) (frames : ℕ) where
  abbrev scene : Scene
  scene = scene_over b places frames

  made_ready : (home : Option Home) (alone : Option Bool) → made_touched (away_at places) b scene home alone ≡ Ready → ReadyAt places (homed home)
  made_ready None None e = absurd (roomy_not (roomy b 1) _ (λ k. framed_not (nat_lt 0 frames) Zero (λ l. cc l) k) e)
  made_ready None (Some alone) e = absurd (roomy_not (roomy b 2) _ (λ k. framed_not (nat_lt 0 frames) Zero (λ l. cc l) k) e)
  made_ready (Some h) None e = present_ready places h (away_at places h.0) refl e
  made_ready (Some h) (Some true) e = absurd (absent_not (away_at places h.0) (Copy true) (λ k. cc k) e)
  made_ready (Some h) (Some false) e = absurd (roomy_not (roomy b 1) (absent_or (away_at places h.0) (cond (nat_lt 0 frames) (Copy false) NeedFrame)) (λ k. absent_not (away_at places h.0) (cond (nat_lt 0 frames) (Copy false) NeedFrame) (λ l. framed_not (nat_lt 0 frames) (Copy false) (λ m. cc m) l) k) e)

  allowed_ready : (a : Bool) (kind : Kind) (x : Touch) (h : PageHome) → (x ≡ Ready → ReadyAt places h) → cond a x (Denied kind) ≡ Ready → ReadyAt places h
  allowed_ready true kind x h f e = f e
  allowed_ready false kind x h f e = absurd (cc e)

  pub ready_at : (at : Place) (kind : Kind) → touched_over b places frames at kind ≡ Ready → ReadyAt places (homed_over b places at)
  ready_at (Fork s) kind = by (walk_at b.tables places s)
    where
      by : (w : Walked) → walk_touched b places frames kind w ≡ Ready → ReadyAt places (homed_along w)
      by (Along w) e = allowed_ready (allows_along kind w) kind (made_touched (away_at places) b scene w.home (option_map (alone_at b places) (copy_for kind w))) (homed w.home) (made_ready w.home (option_map (alone_at b places) (copy_for kind w))) e
      by (Absent home) e = absurd (cc e)
      by NoChain e = absurd (cc e)
  ready_at (File f page) kind = by (fin.get b.files (file_page f.0 page)) kind
    where
      by : (o : Option Home) (k : Kind) → file_touched (away_at places) b scene k o ≡ Ready → ReadyAt places (homed o)
      by (Some h) k e = present_ready places h (away_at places h.0) refl e
      by None Read e = absurd (cc e)
      by None Write e = absurd (roomy_not (roomy b 1) _ (λ k. framed_not (nat_lt 0 frames) Zero (λ l. cc l) k) e)
      by None Execute e = absurd (cc e)

-- a touch that announces a zero page finds an empty entry at the end of the chain, room, and a frame
pub record ZeroAt (b : Beside) (frames : ℕ) (x : Walked) : Type 0 where
  pub way : Way
  pub is : x ≡ Along way
  pub none : way.home ≡ None
  pub room : roomy b 1 ≡ true
  pub frame : nat_lt 0 frames ≡ true

both_true : (r f : Bool) → cond r (cond f Zero NeedFrame) Full ≡ Zero → (r ≡ true) × (f ≡ true)
both_true true true e = (refl, refl)
both_true true false e = absurd (cc e)
both_true false f e = absurd (cc e)

not_zero : (o : Option ℕ) (x : Touch) → (x ≡ Zero → ⊥) → absent_or o x ≡ Zero → ⊥
not_zero None x f e = f e
not_zero (Some home) x f e = cc e

not_framed : (c : Bool) (x : Touch) → (x ≡ Zero → ⊥) → cond c x NeedFrame ≡ Zero → ⊥
not_framed true x f e = f e
not_framed false x f e = cc e

not_roomy : (c : Bool) (x : Touch) → (x ≡ Zero → ⊥) → cond c x Full ≡ Zero → ⊥
not_roomy true x f e = f e
not_roomy false x f e = cc e

two_is_one : (b : Beside) → roomy b 2 ≡ true → roomy b 1 ≡ true
two_is_one b e = grind (arith, nat_tests, e)

module _ (b : Beside) (places : List HomePlace) (frames : ℕ) where
  made_zero : (home : Option Home) (alone : Option Bool) → made_touched (away_at places) b (scene_over b places frames) home alone ≡ Zero → (home ≡ None) × (roomy b 1 ≡ true) × (nat_lt 0 frames ≡ true)
  made_zero None None e = let r = both_true (roomy b 1) (nat_lt 0 frames) e in (refl, r.0, r.1)
  made_zero None (Some alone) e = let r = both_true (roomy b 2) (nat_lt 0 frames) e in (refl, two_is_one b r.0, r.1)
  made_zero (Some h) None e = absurd (not_zero (away_at places h.0) Ready (λ k. cc k) e)
  made_zero (Some h) (Some true) e = absurd (not_zero (away_at places h.0) (Copy true) (λ k. cc k) e)
  made_zero (Some h) (Some false) e = absurd (not_roomy (roomy b 1) (absent_or (away_at places h.0) (cond (nat_lt 0 frames) (Copy false) NeedFrame)) (λ k. not_zero (away_at places h.0) (cond (nat_lt 0 frames) (Copy false) NeedFrame) (λ l. not_framed (nat_lt 0 frames) (Copy false) (λ m. cc m) l) k) e)

  allowed_zero : (a : Bool) (kind : Kind) (x : Touch) → cond a x (Denied kind) ≡ Zero → x ≡ Zero
  allowed_zero true kind x e = e
  allowed_zero false kind x e = absurd (cc e)

  pub zero_at : (kind : Kind) (w : Walked) → walk_touched b places frames kind w ≡ Zero → ZeroAt b frames w
  zero_at kind (Along w) e =
      let m = made_zero w.home (option_map (alone_at b places) (copy_for kind w)) (allowed_zero (allows_along kind w) kind _ e) in
      record { way = w; is = refl; none = m.0; room = m.1; frame = m.2 }
  zero_at kind (Absent home) e = absurd (cc e)
  zero_at kind NoChain e = absurd (cc e)
