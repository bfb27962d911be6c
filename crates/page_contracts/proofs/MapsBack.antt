-- A map that is added and dropped again leaves nothing that anybody can tell, and is no use of a page.
use Rattle.std.proofs.Common.{◌≡◌, ◌≢◌, ℕ, ◌+◌, ◌<◌, List, Bool, true, false, Option, None, Some, length, refl, sym, ◌∙◌, ap, subst, arith, inl, inr}
use Rattle.std.specs.Prelude.{◌==◌, IsSome, count_by}
use Rattle.std.specs.List.{list_any}
use Rattle.std.proofs.lemmas.Bool.{cases_eq}
use Rattle.std.proofs.lemmas.List.{ext_get_or}
use Rattle.machine_names.specs.declared.names.ForkName.{ForkName}
use Rattle.machine_names.specs.declared.names.PageName.{PageName}
use Rattle.plain_pages.specs.declared.map.NewMap.{NewMap}
use Rattle.page_contracts.specs.Changes.{ForkAdded, ForkDropped, GivesMapUp, IsQuiet}
use Rattle.page_contracts.specs.Pages.{AreHoused, IsOfMap, NamesPage, PagesMeaning}
use Rattle.page_contracts.specs.Stores.{HomePlace, KeepsFrame, RenewsNone, RenewsOne, StaysPlanned, Transfer, away, departs, free, is_arrival, is_here, moves, place, traffic}
use Rattle.page_contracts.proofs.Sums.{in_found, moved_so}

module _ {P : Type 0} (means : PagesMeaning P) (fork : ForkName) (entries : NewMap) (old mid new : P) (housed : AreHoused means old) (housed' : AreHoused means new) (added : ForkAdded means fork entries old mid) (dropped : ForkDropped means fork mid new) where
  -- a home that was free is quiet
  free_unmoved : (home : ℕ) → place (means.store.homes old) home ≡ free → list_any (moves home) (means.store.queue old) ≡ false
  free_unmoved home is = by (list_any (moves home) (means.store.queue old)) refl
    where
      by : (b : Bool) → list_any (moves home) (means.store.queue old) ≡ b → list_any (moves home) (means.store.queue old) ≡ false
      by false none = none
      by true some = absurd (elim (moved_so home (means.store.queue old) some) [
        | inl comes ↦ (let z : free ≡ away = sym is ∙ housed.sound.comes home comes in cc z)
        | inr goes ↦ (let z : true ≡ false = sym (housed.sound.goes home goes) ∙ ap is_here is in cc z)
      ])

  free_unheld : (home holder : ℕ) → place (means.store.homes old) home ≡ free → list_any (λ h. h == home) (means.store.holds old holder) ≡ false
  free_unheld home holder is = by (list_any (λ h. h == home) (means.store.holds old holder)) refl
    where
      by : (b : Bool) → list_any (λ h. h == home) (means.store.holds old holder) ≡ b → list_any (λ h. h == home) (means.store.holds old holder) ≡ false
      by false none = none
      by true some = absurd (let z : true ≡ false = sym (housed.sound.held holder home (in_found (means.store.holds old holder) home some)) ∙ ap is_here is in cc z)

  quiet : (home : ℕ) → means.map_home mid fork ≡ Some home → IsQuiet means mid home
  quiet home is = record {
    unmoved = ap (list_any (moves home)) added.beside.queued.queue ∙ free_unmoved home (added.own home is);
    unheld = λ holder. ap (λ (f : ℕ → List ℕ). list_any (λ h. h == home) (f holder)) added.beside.holds ∙ free_unheld home holder (added.own home is);
  }

  back : GivesMapUp means fork mid new
  back = dropped.bare added.adds.names quiet

  -- each home is as it was
  place_same : (home : ℕ) → place (means.store.homes new) home ≡ place (means.store.homes old) home
  place_same home = by (means.map_home mid fork) refl
    where
      other : (means.map_home mid fork ≡ Some home → ⊥) → place (means.store.homes new) home ≡ place (means.store.homes old) home
      other not = elim (dropped.drops.homes home) [
        | inl same ↦ same ∙ added.adds.homes home not
        | inr gone ↦ absurd (none gone.1)
      ]
        where
          none : IsOfMap means mid fork home → ⊥
          none (inl own) = not own
          none (inr named) = added.adds.names named.0 named.2

      by : (o : Option ℕ) → means.map_home mid fork ≡ o → place (means.store.homes new) home ≡ place (means.store.homes old) home
      by None is = other (λ some. (let z : None ≡ Some home = sym is ∙ some in cc z))
      by (Some h) is = elim (cases_eq h home) [
        | inl same ↦ (let own : means.map_home mid fork ≡ Some home = is ∙ ap Some same in back.own home own ∙ sym (added.own home own))
        | inr ne ↦ other (λ some. ne (let z : Some h ≡ Some home = sym is ∙ some in cc z))
      ]

  homes_same : means.store.homes new ≡ means.store.homes old
  homes_same = ext_get_or free (means.store.homes new) (means.store.homes old) (housed'.homes ∙ dropped.most ∙ added.most ∙ sym housed.homes) (λ home below. place_same home)

  queue_same : means.store.queue new ≡ means.store.queue old
  queue_same = back.beside.queued.queue ∙ added.beside.queued.queue

  frames_same : means.store.frames new ≡ means.store.frames old
  frames_same = dropped.loses.frames ∙ added.loses.frames

  spare_same : means.store.spare new ≡ means.store.spare old
  spare_same =
      let here : count_by is_here (means.store.homes new) ≡ count_by is_here (means.store.homes old) = ap (count_by is_here) homes_same in
      let comes : count_by is_arrival (means.store.queue new) ≡ count_by is_arrival (means.store.queue old) = ap (count_by is_arrival) queue_same in
      omega (arith, here, comes, frames_same, housed.sound.shared, housed'.sound.shared)

  -- the map's frame has no page any more, and each other frame is as it was
  ages_same : RenewsNone (traffic means.store old) (traffic means.store new)
  ages_same = by (means.map_home mid fork) refl
    where
      after : (frame : ℕ) → IsSome (means.store.tenant new frame) → KeepsFrame (traffic means.store mid) (traffic means.store new) frame
      after = dropped.uses.kept

      not_own : (home : ℕ) → means.map_home mid fork ≡ Some home → (frame : ℕ) → means.store.tenant new frame ≡ Some home → ⊥
      not_own home is frame there = let z : true ≡ false = sym (housed'.sound.given frame home there).1 ∙ ap is_here (back.own home is) in cc z

      by : (o : Option ℕ) → means.map_home mid fork ≡ o → RenewsNone (traffic means.store old) (traffic means.store new)
      by None is =
          let before : RenewsNone (traffic means.store old) (traffic means.store mid) = rw is at added.uses in record {
            kept = λ frame there. (let last = after frame there in
                let first = before.kept frame (subst IsSome last.tenant there) in
                record { tenant = last.tenant ∙ first.tenant; age = last.age ∙ first.age });
            grows = omega (arith, before.grows, dropped.uses.grows);
          }
      by (Some home) is =
          let before : RenewsOne home (traffic means.store old) (traffic means.store mid) = rw is at added.uses in record {
            kept = λ frame there. (let last = after frame there in
                let first = before.others frame (λ own. not_own home is frame (last.tenant ∙ own)) in
                record { tenant = last.tenant ∙ first.tenant; age = last.age ∙ first.age });
            grows = omega (arith, before.counted.grows, dropped.uses.grows);
          }

  pub added_and_dropped : StaysPlanned means.store old new
  added_and_dropped = record {
    homes = homes_same;
    frames = frames_same;
    spare = spare_same;
    members = dropped.loses.members ∙ added.loses.members;
    queued = record { queue = queue_same; untold = back.beside.queued.untold ∙ added.beside.queued.untold };
    holds = back.beside.holds ∙ added.beside.holds;
    ages = ages_same;
  }
