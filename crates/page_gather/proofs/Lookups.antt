-- What looks at entries find, step by step along a chain.
use Rattle.std.proofs.Common.{◌≡◌, ℕ, zero, suc, ◌-◌, ◌<◌, true, false, List, Option, None, Some, refl, sym, ◌∙◌, ap, arith}
use Rattle.std.specs.Prelude.{is_some}
use Rattle.std.specs.Option.{option_map, option_map_or}
use Rattle.machine_names.specs.declared.names.Tty.{Tty}
use Rattle.machine_names.specs.declared.names.ForkName.{ForkName}
use Rattle.page_homes.specs.declared.homes.Home.{Home}
use Rattle.machine_names.specs.declared.names.Slot.{Slot}
use Rattle.machine_names.specs.declared.names.Access.{Access}
use Rattle.plain_pages.specs.declared.map.MapEntry.{MapEntry}
use Rattle.page_contracts.specs.declared.answers.Seen.TheVariants as seen
use Rattle.plain_pages.specs.PlainPages.{NumberedPages}
use Rattle.plain_pages.specs.Maps.{entry_at, followed}
use Rattle.page_contracts.specs.Pages.{Scene, seen_of, map_away_or}
use Rattle.page_gather.specs.declared.change.Change.{Change}
use Rattle.page_gather.specs.declared.walk.Walked.{Walked}
use Rattle.page_gather.specs.declared.chains.ChainStep.{ChainStep}
use Rattle.page_gather.specs.declared.chains.ChainStep.TheVariants as step
use Rattle.page_gather.specs.declared.chains.Way.{Way}
use Rattle.page_gather.specs.declared.chains.Way.TheVariants as way
use Rattle.page_gather.specs.Walks.{View, Ends, Goes, Views, view, last_walked, behind_walked, walked_from, walk_within, away_from, away_within}
use Rattle.page_gather.specs.Stepped.{step_of, step_met, way_found}
use Rattle.page_gather.specs.Changes.{change_of, IsChanged, AreChanged}

-- ---- a look at an entry

module _ (p : NumberedPages) (scene : Scene) (s : Slot) where
  pub missing_tells : seen.Missing ≡ seen_of p scene s → entry_at p.maps s ≡ None
  unfolding seen_of
  missing_tells h = by (entry_at p.maps s) (scene.map_away s.fork) h
    where
      by : (e : Option MapEntry) (away : Option ℕ) → seen.Missing ≡ option_map_or (λ x. map_away_or away (seen.Is x)) e seen.Missing → e ≡ None
      by None away g = refl
      by (Some x) None g = absurd (cc g)
      by (Some x) (Some home) g = absurd (cc g)

  pub away_tells : (home : Home) → seen.Absent home ≡ seen_of p scene s → (is_some (entry_at p.maps s) ≡ true) × (scene.map_away s.fork ≡ Some home.0)
  unfolding seen_of
  away_tells home h = by (entry_at p.maps s) (scene.map_away s.fork) h
    where
      by : (e : Option MapEntry) (away : Option ℕ) → seen.Absent home ≡ option_map_or (λ x. map_away_or away (seen.Is x)) e seen.Missing → (is_some e ≡ true) × (away ≡ Some home.0)
      by None away g = absurd (cc g)
      by (Some x) None g = absurd (cc g)
      by (Some x) (Some n) g = let same : home ≡ record { 0 = n } = cc g in (refl, ap (λ (k : Home). Some k.0) (sym same))

  pub entry_tells : (e : MapEntry) → seen.Is e ≡ seen_of p scene s → (entry_at p.maps s ≡ Some e) × (scene.map_away s.fork ≡ None)
  unfolding seen_of
  entry_tells e h = by (entry_at p.maps s) (scene.map_away s.fork) h
    where
      by : (o : Option MapEntry) (away : Option ℕ) → seen.Is e ≡ option_map_or (λ x. map_away_or away (seen.Is x)) o seen.Missing → (o ≡ Some e) × (away ≡ None)
      by None away g = absurd (cc g)
      by (Some x) None g = let same : e ≡ x = cc g in (ap (λ (y : MapEntry). Some y) (sym same), refl)
      by (Some x) (Some home) g = absurd (cc g)

is_none : {A : Type 0} (o : Option A) → is_some o ≡ false → o ≡ None
is_none None h = refl
is_none (Some x) h = absurd (cc h)

is_there : {A : Type 0} (o : Option A) → is_some o ≡ true → (x : A) × (o ≡ Some x)
is_there None h = absurd (cc h)
is_there (Some x) h = (x, refl)

module _ (p q : NumberedPages) (owner : Tty) (cs : List Change) (homes : ℕ) (h : AreChanged p q owner cs homes) (scene : Scene) (s : Slot) where
  abbrev Met : ChainStep
  Met = step_met (scene.map_away s.fork) (option_map view (entry_at q.maps s))

  pub met_missing : seen.Missing ≡ seen_of p scene s → step.Missing ≡ Met
  met_missing k = let none = is_none (entry_at q.maps s) (h.there s ∙ ap is_some (missing_tells p scene s k)) in ap (λ (e : Option MapEntry). step_met (scene.map_away s.fork) (option_map view e)) (sym none)

  pub met_absent : (home : Home) → seen.Absent home ≡ seen_of p scene s → step.Absent home ≡ Met
  met_absent home k =
      let away = away_tells p scene s home k in
      let e = is_there (entry_at q.maps s) (h.there s ∙ away.0) in
      ap (λ (o : Option ℕ). step_met o (Some (view e.0))) (sym away.1) ∙ ap (λ (o : Option MapEntry). step_met (scene.map_away s.fork) (option_map view o)) (sym e.1)

  pub met_entry : (e : MapEntry) → seen.Is e ≡ seen_of p scene s → None ≡ change_of cs s → step_of (view e) ≡ Met
  met_entry e k none = by (change_of cs s) (sym none) (h.slots s)
    where
      there : (entry_at p.maps s ≡ Some e) × (scene.map_away s.fork ≡ None)
      there = entry_tells p scene s e k

      by : (o : Option Change) → o ≡ None → IsChanged p q s o → step_of (view e) ≡ Met
      by None n same = ap (λ (o : Option ℕ). step_met o (Some (view e))) (sym there.1) ∙ ap (λ (o : Option MapEntry). step_met (scene.map_away s.fork) (option_map view o)) (sym (same ∙ there.0))
      by (Some c) n k = absurd (cc n)

  pub met_changed : (e : MapEntry) (c : Change) → seen.Is e ≡ seen_of p scene s → Some c ≡ change_of cs s → step.Ends false c.access ≡ Met
  met_changed e c k some = by (change_of cs s) (sym some) (h.slots s)
    where
      by : (o : Option Change) → o ≡ Some c → IsChanged p q s o → step.Ends false c.access ≡ Met
      by None n same = absurd (cc n)
      by (Some d) n new =
          let one : d ≡ c = cc n in
          ap (λ (x : Change). step.Ends false x.access) (sym one) ∙ ap (λ (o : Option ℕ). step_met o (Some (Ends false d.access))) (sym (entry_tells p scene s e k).1) ∙ ap (λ (o : Option MapEntry). step_met (scene.map_away s.fork) (option_map view o)) (sym new.there)

-- ---- a walk

-- what is found before what was found onward
abbrev pub behind_way : Slot → Access → Way → Way
behind_way s a (way.Absent home) = way.Absent home
behind_way s a way.Nowhere = way.Nowhere
behind_way s a (way.Found w) = way.Found (behind_walked s a w)

abbrev pub way_by : ChainStep → Slot → (Slot → Way) → Way
way_by step.Missing s next = way.Nowhere
way_by (step.Absent home) s next = way.Absent home
way_by (step.Ends empty a) s next = way.Found (last_walked s empty a)
way_by (step.Goes serial page a) s next = behind_way s a (next (followed s serial page))

module _ (away : ForkName → Option ℕ) (views : Views) where
  abbrev pub way_within : ℕ → Slot → Way
  way_within n s = way_found (away_within n away views s) (walk_within n views s)

  pub walk_nowhere : (n : ℕ) (s : Slot) → n ≡ 0 → way.Nowhere ≡ way_within n s
  unfolding away_within walk_within
  walk_nowhere zero s h = refl
  walk_nowhere (suc n) s h = absurd (cc h)

  pub walk_step : (n : ℕ) (s : Slot) → 0 < n → way_within n s ≡ way_by (step_met (away s.fork) (views s)) s (way_within (n - 1))
  unfolding away_within walk_within
  walk_step zero s h = absurd (omega arith)
  walk_step (suc n) s h = by (away s.fork) (views s) ∙ ap (λ (k : ℕ). way_by (step_met (away s.fork) (views s)) s (way_within k)) less
    where
      less : n ≡ suc n - 1
      less = omega arith

      onward : (a : Access) (o : Option ℕ) (w : Option Walked) → way_found o (option_map (behind_walked s a) w) ≡ behind_way s a (way_found o w)
      onward a (Some home) w = refl
      onward a None None = refl
      onward a None (Some w) = refl

      by : (o : Option ℕ) (v : Option View) → way_found (away_from (λ f. o) s v (away_within n away views)) (walked_from s v (walk_within n views)) ≡ way_by (step_met o v) s (way_within n)
      by None None = refl
      by (Some home) None = refl
      by None (Some (Ends empty a)) = refl
      by (Some home) (Some (Ends empty a)) = refl
      by None (Some (Goes serial page a)) = onward a (away_within n away views (followed s serial page)) (walk_within n views (followed s serial page))
      by (Some home) (Some (Goes serial page a)) = refl

  -- by what is met at the first entry
  pub walk_by : (n : ℕ) (s : Slot) (met : ChainStep) → 0 < n → met ≡ step_met (away s.fork) (views s) → way_by met s (way_within (n - 1)) ≡ way_within n s
  walk_by n s met some is = ap (λ x. way_by x s (way_within (n - 1))) is ∙ sym (walk_step n s some)

  -- and by what was found onward
  pub walk_onward : (n : ℕ) (s : Slot) (serial page : ℕ) (a : Access) (rest : Way) → 0 < n → step.Goes serial page a ≡ step_met (away s.fork) (views s) → rest ≡ way_within (n - 1) (followed s serial page) → behind_way s a rest ≡ way_within n s
  walk_onward n s serial page a rest some is found = ap (behind_way s a) found ∙ walk_by n s (step.Goes serial page a) some is
