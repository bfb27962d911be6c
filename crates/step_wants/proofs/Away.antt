-- What is in no frame is the home of a name.
use Rattle.std.proofs.Common.{◌≡◌, ℕ, List, [], ◌∷◌, ◌++◌, map, Bool, true, false, ◌||◌, Option, None, Some, refl, ◌∙◌, ap, arith}
use Rattle.std.specs.Prelude.{◌==◌}
use Rattle.std.specs.List.{cons_option, list_any}
use Rattle.std.specs.Option.{option_and_then, option_or}
use Rattle.std.specs.declared.cmp.Ordering.{Ordering}
use Rattle.std.proofs.lemmas.Bool.Decides.{nat_tests}
use Rattle.std.proofs.lemmas.List.Elements.{filter_map-append}
use Rattle.std.proofs.lemmas.List.Folds.{list_any-append}
use Rattle.machine_names.specs.declared.names.ForkName.{ForkName}
use Rattle.machine_names.specs.declared.names.PageName.{PageName}
use Rattle.page_contracts.specs.Pages.{Scene, first_away, map_away, page_away}
use Rattle.plain_pages.specs.Maps.{entry_at, maps_on_way}
use Rattle.plain_pages.specs.PlainPages.{PlainPages}
use Rattle.plain_pages.specs.References.{Spot, in_file, in_map, page_at}
use Rattle.step_wants.specs.Names.{Housed, a_map, a_page, home_for, homes_for, is_named, maps_to, names_on_way, page_named}
use Rattle.step_wants.specs.Naming.{AreHomed}

pub or_later : (a b : Bool) → b ≡ true → (a || b) ≡ true
or_later true b e = refl
or_later false b e = e

pub or_first : (a b : Bool) → a ≡ true → (a || b) ≡ true
or_first true b e = refl
or_first false b e = absurd (cc e)

module _ (map_home : ForkName → Option ℕ) (page_home : PageName → Option ℕ) where
  abbrev home_of : Housed → Option ℕ
  home_of x = home_for map_home page_home x

  -- whether a home is that of one of these
  abbrev pub named : ℕ → List Housed → Bool
  named home names = is_named map_home page_home names home

  pub named_first : (home : ℕ) (x : Housed) (xs : List Housed) → home_of x ≡ Some home → named home (x ∷ xs) ≡ true
  named_first home x xs is = by (home_of x) is
    where
      by : (o : Option ℕ) → o ≡ Some home → list_any (λ h. h == home) (cons_option o (homes_for map_home page_home xs)) ≡ true
      by None e = absurd (cc e)
      by (Some n) e =
          let same : n ≡ home = cc e in
          or_first (n == home) (named home xs) (grind (arith, nat_tests, same))

  pub named_behind : (home : ℕ) (x : Housed) (xs : List Housed) → named home xs ≡ true → named home (x ∷ xs) ≡ true
  named_behind home x xs is = by (home_of x)
    where
      by : (o : Option ℕ) → list_any (λ h. h == home) (cons_option o (homes_for map_home page_home xs)) ≡ true
      by None = is
      by (Some n) = or_later (n == home) (named home xs) is

  -- among more names it still is
  pub named_more : (home : ℕ) (xs ys : List Housed) → named home (xs ++ ys) ≡ (named home xs || named home ys)
  named_more home xs ys = ap (list_any (λ h. h == home)) (filter_map-append (home_for map_home page_home) xs ys) ∙ list_any-append (λ h. h == home) (homes_for map_home page_home xs) (homes_for map_home page_home ys)

  -- the first of these maps that is in no frame
  first_named : (scene : Scene) (home : ℕ) (fs : List ForkName) → ((f : ForkName) (h : ℕ) → scene.map_away f ≡ Some h → map_home f ≡ Some h) → first_away scene fs ≡ Some home → named home (map a_map fs) ≡ true
  first_named scene home [] told is = absurd (cc is)
  first_named scene home (f ∷ fs) told is = by (scene.map_away f) refl is (first_named scene home fs told)
    where
      by : (o : Option ℕ) → scene.map_away f ≡ o → option_or o (first_away scene fs) ≡ Some home → (first_away scene fs ≡ Some home → named home (map a_map fs) ≡ true) → named home (map a_map (f ∷ fs)) ≡ true
      by None at e rest = named_behind home (a_map f) (map a_map fs) (rest e)
      by (Some h) at e rest = named_first home (a_map f) (map a_map fs) (told f h at ∙ e)

  module _ {K : Type 0} {file_cmp : K → K → Ordering} (p : PlainPages file_cmp) (at : Spot K) (scene : Scene) (home : ℕ) where
    pub map_named : AreHomed map_home page_home scene → map_away p scene at ≡ Some home → named home (names_on_way p at) ≡ true
    map_named told is = named_more home (maps_to p at) (page_named (page_at p at)) ∙ or_first (named home (maps_to p at)) (named home (page_named (page_at p at))) (by at is)
      where
        by : (s : Spot K) → map_away p scene s ≡ Some home → named home (maps_to p s) ≡ true
        by (in_map s) e = first_named scene home (maps_on_way (entry_at p.maps) s) told.maps e
        by (in_file f) e = absurd (cc e)

    pub page_is_named : AreHomed map_home page_home scene → page_away p scene at ≡ Some home → named home (names_on_way p at) ≡ true
    page_is_named told is = named_more home (maps_to p at) (page_named (page_at p at)) ∙ or_later (named home (maps_to p at)) (named home (page_named (page_at p at))) (by (page_at p at) is)
      where
        by : (o : Option PageName) → option_and_then scene.page_away o ≡ Some home → named home (page_named o) ≡ true
        by None e = absurd (cc e)
        by (Some n) e = named_first home (a_page n) [] (told.pages n home e)

-- what is named by fewer homes of maps is named by more
pub named_wider : (narrow wide : ForkName → Option ℕ) (page_home : PageName → Option ℕ) (home : ℕ) → ((f : ForkName) (h : ℕ) → narrow f ≡ Some h → wide f ≡ Some h) → (names : List Housed)
    → is_named narrow page_home names home ≡ true → is_named wide page_home names home ≡ true
named_wider narrow wide page_home home wider [] is = is
named_wider narrow wide page_home home wider (x ∷ xs) is = by (home_for narrow page_home x) refl is (named_wider narrow wide page_home home wider xs)
  where
    wide_of : (y : Housed) (h : ℕ) → home_for narrow page_home y ≡ Some h → home_for wide page_home y ≡ Some h
    wide_of (a_map f) h e = wider f h e
    wide_of (a_page n) h e = e

    by : (o : Option ℕ) → home_for narrow page_home x ≡ o → list_any (λ h. h == home) (cons_option o (homes_for narrow page_home xs)) ≡ true → (is_named narrow page_home xs home ≡ true → is_named wide page_home xs home ≡ true)
        → is_named wide page_home (x ∷ xs) home ≡ true
    by None at e rest = named_behind wide page_home home x xs (rest e)
    by (Some n) at e rest = whether (n == home) refl e
      where
        whether : (b : Bool) → (n == home) ≡ b → (b || is_named narrow page_home xs home) ≡ true → is_named wide page_home (x ∷ xs) home ≡ true
        whether true same f =
            let is_it : n ≡ home = grind (arith, nat_tests, same) in
            named_first wide page_home home x xs (wide_of x home (at ∙ ap Some is_it))
        whether false other f = named_behind wide page_home home x xs (rest f)
