-- What is answered where something is needed first is so.
use Rattle.std.proofs.Common.{◌≡◌, ℕ, List, Bool, true, false, cond, Option, None, Some, refl, arith}
use Rattle.std.specs.Prelude.{nat_lt}
use Rattle.std.specs.Option.{option_map}
use Rattle.std.proofs.lemmas.Bool.Decides.{nat_tests}
use Rattle.machine_names.specs.declared.names.Kind.{Kind}
use Rattle.machine_names.specs.declared.names.Kind.TheVariants.{Read, Write, Execute}
use Rattle.page_homes.specs.declared.homes.Home.{Home}
use Rattle.page_contracts.specs.declared.answers.Touch.{Touch}
use Rattle.page_contracts.specs.declared.answers.Touch.TheVariants.{Ready, Zero, Copy, NeedFrame, Denied, Full}
use Rattle.page_contracts.specs.Pages.{TouchNeeds, absent_or}
use Rattle.page_contracts.specs.Stores.{HomePlace, StoreMeaning, free, away, here, away_home, away_at, place}
use Rattle.pager_walk.specs.declared.chain_walk.Walked.{Walked}
use Rattle.pager_walk.specs.declared.chain_walk.Walked.TheVariants.{Along, Absent, NoChain}
use Rattle.fork_maps.specs.ChainWalks.{allows_along, copy_for}
use Rattle.pager_walk.specs.Walks.{WalkStands}
use Rattle.paged_tables.specs.PagedTables.{Beside}
use Rattle.paged_tables.specs.PagedTouches.{alone_at, file_touched, made_touched, roomy, scene_over, walk_touched}

module _ {P : Type 0} (store : StoreMeaning P) (p : P) (b : Beside) where
  abbrev places : List HomePlace
  places = store.homes p

  abbrev frames : ℕ
  frames = store.spare p

  absent_needs : (h : ℕ) (x : Touch) → TouchNeeds store p x → TouchNeeds store p (absent_or (away_at places h) x)
  absent_needs h x needs = by (place places h) refl
    where
      by : (q : HomePlace) → place places h ≡ q → TouchNeeds store p (absent_or (away_home q h) x)
      by free is = needs
      by away is = is
      by (here words) is = needs

  framed_needs : (x : Touch) → TouchNeeds store p x → (t : Bool) → nat_lt 0 frames ≡ t → TouchNeeds store p (cond t x NeedFrame)
  framed_needs x needs true is = needs
  framed_needs x needs false is = grind (arith, nat_tests, is)

  roomy_needs : (r : Bool) (x : Touch) → TouchNeeds store p x → TouchNeeds store p (cond r x Full)
  roomy_needs true x needs = needs
  roomy_needs false x needs = tt

  made_needs : (home : Option Home) (alone : Option Bool) → TouchNeeds store p (made_touched (away_at places) b (scene_over b places frames) home alone)
  made_needs None None = roomy_needs (roomy b 1) _ (framed_needs Zero tt (nat_lt 0 frames) refl)
  made_needs None (Some alone) = roomy_needs (roomy b 2) _ (framed_needs Zero tt (nat_lt 0 frames) refl)
  made_needs (Some h) None = absent_needs h.0 Ready tt
  made_needs (Some h) (Some true) = absent_needs h.0 (Copy true) tt
  made_needs (Some h) (Some false) = roomy_needs (roomy b 1) _ (absent_needs h.0 (cond (nat_lt 0 frames) (Copy false) NeedFrame) (framed_needs (Copy false) tt (nat_lt 0 frames) refl))

  allowed_needs : (a : Bool) (kind : Kind) (x : Touch) → TouchNeeds store p x → TouchNeeds store p (cond a x (Denied kind))
  allowed_needs true kind x needs = needs
  allowed_needs false kind x needs = tt

  pub walk_needs : (kind : Kind) (w : Walked) → WalkStands b.tables places w → TouchNeeds store p (walk_touched b places frames kind w)
  walk_needs kind (Along w) stands = allowed_needs (allows_along kind w) kind _ (made_needs w.home (option_map (alone_at b places) (copy_for kind w)))
  walk_needs kind (Absent home) stands = stands.away
  walk_needs kind NoChain stands = tt

  pub file_needs : (kind : Kind) (home : Option Home) → TouchNeeds store p (file_touched (away_at places) b (scene_over b places frames) kind home)
  file_needs kind (Some h) = absent_needs h.0 Ready tt
  file_needs Read None = tt
  file_needs Write None = roomy_needs (roomy b 1) _ (framed_needs Zero tt (nat_lt 0 frames) refl)
  file_needs Execute None = tt
