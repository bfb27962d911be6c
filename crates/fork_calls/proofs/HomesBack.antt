-- A map that is added and dropped again leaves each map and each page its home.
use Rattle.std.proofs.Common.{◌≡◌, ◌≢◌, ℕ, Bool, true, false, not, ◌&&◌, Option, None, Some, is_some, refl, sym, ◌∙◌, ap, inl, inr, subst}
use Rattle.std.proofs.Math.Bool.{and-false}
use Rattle.machine_names.specs.Orders.{same_fork}
use Rattle.machine_names.specs.declared.names.ForkName.{ForkName}
use Rattle.machine_names.specs.declared.names.PageName.{PageName}
use Rattle.plain_model.proofs.ForkMaps.{cases_name, same_itself}
use Rattle.plain_pages.specs.declared.map.NewMap.{NewMap}
use Rattle.page_contracts.specs.Changes.{ForkAdded, ForkDropped}
use Rattle.page_contracts.specs.Pages.{AreHoused, NamesPage, PagesMeaning}
use Rattle.job_forks.specs.Holding.{StaysHomed}

-- what is not there is none
none_of : {X : Type 0} (o : Option X) → is_some o ≡ false → o ≡ None
none_of None h = refl
none_of (Some x) h = absurd (cc h)

module _ {P : Type 0} (means : PagesMeaning P) (fork : ForkName) where
  -- a fork that isn't there has no map with a home
  homeless : (p : P) → AreHoused means p → means.lives p fork ≡ false → means.map_home p fork ≡ None
  homeless p housed dead = none_of (means.map_home p fork) (housed.mapped fork ∙ ap (λ b. means.paged && b) dead ∙ and-false means.paged)

  module _ (entries : NewMap) (old mid new : P) (housed : AreHoused means old) (housed' : AreHoused means new) (absent : means.lives old fork ≡ false) (added : ForkAdded means fork entries old mid) (dropped : ForkDropped means fork mid new) where
    gone : means.lives new fork ≡ false
    gone = dropped.lives fork ∙ ap (λ b. not b && means.lives mid fork) (same_itself fork)

    map_back : (f : ForkName) → means.map_home new f ≡ means.map_home old f
    map_back f = elim (cases_name f fork) [
      | inl same ↦ ap (means.map_home new) same ∙ homeless new housed' gone ∙ sym (homeless old housed absent) ∙ sym (ap (means.map_home old) same)
      | inr other ↦ dropped.drops.maps f other ∙ added.adds.maps f other
    ]

    page_back : (n : PageName) → means.page_home new n ≡ means.page_home old n
    page_back n = elim (dropped.drops.pages n) [
      | inl same ↦ same ∙ ap (λ (home : PageName → Option ℕ). home n) added.adds.pages
      | inr went ↦ absurd (added.adds.names n went.1)
    ]

    pub homed_back : StaysHomed means old new
    homed_back = record { maps = map_back; pages = page_back; filed = dropped.drops.filed ∙ added.adds.filed }
