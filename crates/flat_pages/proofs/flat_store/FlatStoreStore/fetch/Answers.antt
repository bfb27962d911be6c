use Rattle.std.proofs.Common.{◌≡◌, ◌∙◌, inl, ℕ, true, false, refl, sym, ap, subst, arith, List, []}
use Rattle.page_homes.specs.declared.homes.Home.{Home}
use Rattle.page_contracts.specs.declared.answers.Need.{Need}
use Rattle.page_contracts.specs.declared.answers.Need.TheVariants.{Page, Frame}
use Rattle.page_contracts.specs.Stores.{HomePlace, away, place, is_taken, is_here, free_homes, CanFetch, IsFetched, awaited, meeting}
use Rattle.flat_pages.specs.declared.flat_store.FlatStore.{FlatStore}
use Rattle.flat_pages.specs.StoredLists.{pages_of}
use Rattle.flat_pages.specs.StoredPages.{places_of}
use Rattle.flat_pages.specs.StoreMeaning.{flat_meaning, core_is}
use Rattle.flat_pages.proofs.flat_store.FlatStoreStore.fetch.Goals as goal

frame : (places : List HomePlace) → ((h : ℕ) → is_taken (place places h) ≡ is_here (place places h)) → (need : Need) → ((home : Home) → need ≡ Page home → place places home.0 ≡ away) → need ≡ Frame
frame places core Frame can = refl
frame places core (Page home) can = absurd (let h = can home refl in let z : true ≡ false = sym (ap is_taken h) ∙ core home.0 ∙ ap is_here h in cc z)

asked : (s : FlatStore) (need : Need) → CanFetch flat_meaning s need → (home : Home) → need ≡ Page home → place (places_of (pages_of s.pages)) home.0 ≡ away
asked s need can home is = subst (CanFetch flat_meaning s) is can

pub returns-clause-answer : goal.returns-clause-answer
returns-clause-answer c =
    let s = c.args.self.now in
    sym (ap (λ need. awaited (meeting [] (free_homes (places_of (pages_of s.pages))) need)) (frame (places_of (pages_of s.pages)) (core_is (pages_of s.pages)) c.args.need (asked s c.args.need c.requires)))

pub returns-clause-fetched : goal.returns-clause-fetched
returns-clause-fetched c =
    let s = c.args.self.now in
    subst (λ (need : Need). IsFetched flat_meaning need s s) (sym (frame (places_of (pages_of s.pages)) (core_is (pages_of s.pages)) c.args.need (asked s c.args.need c.requires)))
    (record { homes = refl; queue = refl; spare = omega arith; untold = refl; holds = refl; frames = refl; found = refl; tenant = refl; members = refl; ages = λ frame some. refl; uses = inl refl })
