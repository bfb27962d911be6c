-- The pages that are used where a page is made or used, and where an entry is set.
use Rattle.std.proofs.Common.{◌≡◌, ℕ, List, Option, None, Some, refl, sym, ◌∙◌, ap, subst}
use Rattle.std.specs.Prelude.{IsSome, MatchOption}
use Rattle.std.specs.Option.{option_map}
use Rattle.machine_names.specs.declared.names.ForkName.{ForkName}
use Rattle.page_contracts.specs.Stores.{HomePlace, IsMade, IsUsed, KeepsFrame, RenewsBoth, RenewsLeft, RenewsNone, RenewsOne, StoreMeaning, traffic}
use Rattle.page_contracts.proofs.Losing.{left_again, made_one, none_on, used_one, used_there}
use Rattle.pager_walk.specs.declared.map_pages.MapPage.{MapPage}
use Rattle.pager_walk.specs.MapPages.{index_of, root_at}
use Rattle.paged_tables.specs.EndedForks.{KeepsOthers}
use Rattle.paged_tables.specs.PagedSlots.{map_home_over}
use Rattle.paged_tables.specs.PagedTables.{Beside}
use Rattle.paged_tables.specs.PlacesSettled.{UsesBoth}
use Rattle.paged_tables.specs.SetEntries.{UsesMapOf}

-- a page was made or used, and then another was used
module _ {S : Type 0} (store : StoreMeaning S) (old mid new : S) (home next : ℕ) (then : IsUsed store next mid new) where
  pub made_both : (page : HomePlace) → IsMade store home page old mid → RenewsBoth home next (traffic store old) (traffic store new)
  made_both page made = record { between = traffic store mid; first = made_one store old mid home page made; second = used_there store mid new next then }

  pub used_both : IsUsed store home old mid → RenewsBoth home next (traffic store old) (traffic store new)
  used_both used = record { between = traffic store mid; first = used_one store old mid home used; second = used_there store mid new next then }

home_same : (b b' : Beside) (fork : ForkName) → b'.tables.maps ≡ b.tables.maps → map_home_over b' fork ≡ map_home_over b fork
home_same b b' fork maps = ap (λ (ms : List MapPage). option_map (λ k. (root_at ms k).0) (index_of ms fork)) maps

-- that is the page of a fork's map
module _ {S : Type 0} (store : StoreMeaning S) (old new : S) (b b' : Beside) (fork : ForkName) (k : ℕ) (numbered : index_of b.tables.maps fork ≡ Some k) (maps : b'.tables.maps ≡ b.tables.maps) where
  there : map_home_over b' fork ≡ Some (root_at b.tables.maps k).0
  there = home_same b b' fork maps ∙ ap (option_map (λ j. (root_at b.tables.maps j).0)) numbered

  pub uses_map : RenewsLeft (root_at b.tables.maps k).0 (traffic store old) (traffic store new) → UsesMapOf store old new b' fork
  uses_map u = subst (λ (o : Option ℕ). MatchOption o (RenewsNone (traffic store old) (traffic store new)) (λ home. RenewsLeft home (traffic store old) (traffic store new))) (sym there) u

  pub uses_both : (home : ℕ) → RenewsBoth home (root_at b.tables.maps k).0 (traffic store old) (traffic store new) → UsesBoth store old new b' home (Some fork)
  uses_both home u = subst (λ (o : Option ℕ). MatchOption o (RenewsOne home (traffic store old) (traffic store new)) (λ next. RenewsBoth home next (traffic store old) (traffic store new))) (sym there) u

-- a map was used, and then used again
module _ {S : Type 0} (store : StoreMeaning S) (old mid new : S) (b b' : Beside) (fork : ForkName) (maps : b'.tables.maps ≡ b.tables.maps) where
  pub uses_again : UsesMapOf store old mid b fork → UsesMapOf store mid new b' fork → UsesMapOf store old new b' fork
  uses_again first = by (map_home_over b' fork) (subst (λ (o : Option ℕ). Uses o old mid) (sym (home_same b b' fork maps)) first)
    where
      Uses : Option ℕ → S → S → Type 0
      Uses o s t = MatchOption o (RenewsNone (traffic store s) (traffic store t)) (λ home. RenewsLeft home (traffic store s) (traffic store t))

      by : (o : Option ℕ) → Uses o old mid → Uses o mid new → Uses o old new
      by None u v = none_on (traffic store old) (traffic store mid) (traffic store new) u v
      by (Some home) u v = left_again (traffic store old) (traffic store mid) (traffic store new) home u v

  -- each other frame keeps what it has
  pub others_again : KeepsOthers store old mid b fork → UsesMapOf store mid new b' fork → KeepsOthers store old new b' fork
  others_again first then frame some none =
      let k = others_keep (map_home_over b' fork) refl then in
      let j = first frame (subst IsSome k.tenant some) (λ home is tenant. none home (home_same b b' fork maps ∙ is) (k.tenant ∙ tenant)) in
      record { tenant = k.tenant ∙ j.tenant; age = k.age ∙ j.age }
    where
      others_keep : (o : Option ℕ) → map_home_over b' fork ≡ o → MatchOption o (RenewsNone (traffic store mid) (traffic store new)) (λ home. RenewsLeft home (traffic store mid) (traffic store new)) → KeepsFrame (traffic store mid) (traffic store new) frame
      others_keep None is u = u.kept frame some
      others_keep (Some home) is u = u.others frame some (none home is)
