-- What is away stands at a home.
use Rattle.std.proofs.Common.{◌≡◌, ℕ, List, Bool, true, false, ◌&&◌, Option, None, Some, sym, ◌∙◌, ap}
use Rattle.std.specs.Prelude.{is_some}
use Rattle.machine_names.specs.declared.names.ForkName.{ForkName}
use Rattle.page_contracts.specs.Pages.{AreHoused, PagesMeaning}
use Rattle.page_contracts.specs.Stores.{HomePlace, away, away_home, away_of, free, here, place}
use Rattle.step_wants.specs.Naming.{AreHomed}

-- what is away of a home that something has is that home
home_of_away : (places : List HomePlace) (o : Option ℕ) (home : ℕ) → away_of places o ≡ Some home → o ≡ Some home
home_of_away places None home is = absurd (cc is)
home_of_away places (Some h) home is = by (place places h) is
  where
    by : (p : HomePlace) → away_home p h ≡ Some home → Some h ≡ Some home
    by free e = absurd (cc e)
    by away e = e
    by (here words) e = absurd (cc e)

module _ {P : Type 0} (means : PagesMeaning P) (p : P) (housed : AreHoused means p) where
  pub homed_pages : AreHomed (means.map_home p) (means.page_home p) (means.scene p)
  homed_pages = record {
    maps = λ f home is. home_of_away (means.store.homes p) (means.map_home p f) home (sym (housed.map_homes f) ∙ is);
    pages = λ n home is. home_of_away (means.store.homes p) (means.page_home p n) home (sym (housed.page_homes n) ∙ is);
  }

  pub living_maps : (f : ForkName) (home : ℕ) → means.map_home p f ≡ Some home → means.lives p f ≡ true
  living_maps f home is = both means.paged (means.lives p f) (sym (housed.mapped f) ∙ ap is_some is)
    where
      both : (a b : Bool) → (a && b) ≡ true → b ≡ true
      both true b e = e
      both false b e = absurd (cc e)
