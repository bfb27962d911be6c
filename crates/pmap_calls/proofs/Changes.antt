-- A change as the pages make it, and as the plain call has it.
use Rattle.std.proofs.Common.{◌≡◌, ℕ, List, [], Option, None, Some, Result, Ok, refl, sym, ◌∙◌, ap, subst, arith}
use Rattle.std.specs.Option.{option_map, option_map_or, option_and_then}
use Rattle.std.specs.FinMap as map
use Rattle.plain_model.specs.declared.call.End.{End}
use Rattle.plain_model.specs.declared.call.End.TheVariants.{Done, Waits, Halts, Refused, Failed, Trap}
use Rattle.plain_model.specs.declared.call.MapChange.{MapChange}
use Rattle.plain_model.specs.declared.call.MapChange.TheVariants.{Nothing, Unmap, Follow, Narrow, Map, Put, Drop}
use Rattle.plain_units.specs.declared.registers.Regs.{Regs}
use Rattle.machine_names.specs.declared.names.Access.{Access}
use Rattle.machine_names.specs.declared.names.FileNo.{FileNo}
use Rattle.machine_names.specs.declared.names.PageName.{PageName}
use Rattle.machine_names.specs.declared.names.Slot.{Slot}
use Rattle.machine_names.specs.declared.names.Tty.{Tty}
use Rattle.machine_names.specs.declared.names.Kind.TheVariants as kind
use Rattle.machine_names.specs.Orders.{FilePage, file_page}
use Rattle.page_homes.specs.declared.homes.Home.{Home}
use Rattle.plain_pages.specs.declared.map.MapEntry.{MapEntry}
use Rattle.plain_pages.specs.declared.map.MapEntry.TheVariants as entry
use Rattle.plain_pages.specs.declared.map.NewEntry.{NewEntry}
use Rattle.plain_pages.specs.declared.map.NewEntry.TheVariants as new
use Rattle.page_contracts.specs.declared.answers.Seen.TheVariants.{Is, Missing, Absent}
use Rattle.plain_pages.specs.PlainPages.{NumberedPages}
use Rattle.plain_pages.specs.Maps.{entry_at}
use Rattle.plain_pages.specs.FilePages.{filed_by, filed_from, with_file}
use Rattle.plain_pages.specs.References.{blank, in_file, in_its_file, make, makings, settled, with_entry}
use Rattle.plain_pages.proofs.ReferencesMade.{settled_makes, settled_stays}
use Rattle.page_contracts.specs.Pages.{PagesMeaning, MayLose, Scene, seen_of, map_away_or}
use Rattle.page_contracts.specs.Stores.{StoreMeaning, traffic}
use Rattle.page_contracts.proofs.Losing.{loses_nothing}
use Rattle.plain_pages.specs.NewEntries.{changed, entry_to}
use Rattle.plain_model.specs.Calls.{parts_behind, entry_of}
use Rattle.call_turns.specs.declared.turn.Grant.{Grant}
use Rattle.call_turns.specs.declared.turn.Grant.TheVariants as grant
use Rattle.call_turns.specs.Answers.{AnswerNeeds, FitsAnswer, IsDone, answer_of}
use Rattle.call_turns.specs.Turns.{FitsEnd}
use Rattle.call_turns.specs.Granting.{pages_granted}
use Rattle.call_turns.specs.Telling.{entry_need, told}
use Rattle.call_turns.proofs.Looks.{absent_map, needed_is, told_is}
use Rattle.plain_model.specs.MapCalls.{map_changed}
use Rattle.page_contracts.specs.declared.answers.Need.{Need}
use Rattle.page_contracts.specs.declared.answers.Need.TheVariants as need
use Rattle.pmap_calls.specs.Making.{IsMade, change_need}
use Rattle.call_turns.specs.Making.{MakesAtMost, MakesIn}
use Rattle.pmap_calls.specs.Stages.{IsMapChange}

module _ (p : NumberedPages) where
  -- where no fork is there is no entry to be set
  pub missing_stays : (scene : Scene) (s : Slot) (e : NewEntry) → Missing ≡ seen_of p scene s → p ≡ changed p s e
  unfolding seen_of changed
  missing_stays scene s e h = by (entry_at p.maps s) (scene.map_away s.fork) h
    where
      by : (o : Option MapEntry) (away : Option ℕ) → Missing ≡ option_map_or (λ x. map_away_or away (Is x)) o Missing → p ≡ option_map_or (λ x. with_entry p s (entry_to p e x)) o p
      by None away h = refl
      by (Some x) None h = absurd (cc h)
      by (Some x) (Some home) h = absurd (cc h)

  -- a map that is in core is not away
  pub absent_not : (scene : Scene) (s : Slot) (home : Home) → Absent home ≡ seen_of p scene s → entry_need scene p s ≡ None → ⊥
  absent_not scene s home h none =
      let two : None ≡ Some (need.Page home) = sym none ∙ needed_is (entry_need scene p s) (entry_of p s) (need.Page home) (absent_map p scene s home h) in
      cc two

  pub needs_none : (scene : Scene) (s : Slot) (e : MapEntry) → Ok e ≡ told (entry_need scene p s) (entry_of p s) → entry_need scene p s ≡ None
  needs_none scene s e h = (told_is (entry_need scene p s) (entry_of p s) e h).0

  -- and stays in core where no map is another
  pub still_none : (scene after : Scene) (q : NumberedPages) (s : Slot) → after.map_away ≡ scene.map_away → q.maps ≡ p.maps → entry_need scene p s ≡ None → entry_need after q s ≡ None
  still_none scene after q s away maps none =
      (λ i. option_and_then (λ e. option_map (λ home. need.Page (record { 0 = home })) (away i s.fork)) (entry_at (maps i) s)) ∙ none

  -- a page that is made for a file changes no map
  module _ (owner : Tty) where
    file_makings : (f : FilePage ℕ) (n : Option PageName) → map.get p.files f ≡ n → makings p (in_file f) kind.Write ≡ in_its_file kind.Write f n
    unfolding makings
    file_makings f n is = ap (in_its_file kind.Write f) is

    filled_maps : (f : FilePage ℕ) → (settled p (in_file f) kind.Write owner).maps ≡ p.maps
    unfolding make
    filled_maps f = by (map.get p.files f) refl
      where
        by : (n : Option PageName) → map.get p.files f ≡ n → (settled p (in_file f) kind.Write owner).maps ≡ p.maps
        by (Some n) is = ap (λ (x : NumberedPages). x.maps) (settled_stays p owner (in_file f) kind.Write (file_makings f (Some n) is))
        by None is = ap (λ (x : NumberedPages). x.maps) (settled_makes p owner (in_file f) kind.Write (blank (in_file f)) [] (file_makings f None is))

    pub granted_maps : (g : Grant) → (pages_granted p owner g).maps ≡ p.maps
    granted_maps grant.Nothing = refl
    granted_maps (grant.Read s) = refl
    granted_maps (grant.Fill f page) = filled_maps (file_page f.0 page)

    -- what changes are made where a page was made, or none
    pub nothing_made : (g : Grant) → IsMapChange g Nothing → pages_granted p owner g ≡ p
    nothing_made grant.Nothing h = refl
    nothing_made (grant.Read s) h = absurd h
    nothing_made (grant.Fill f page) h = absurd h

    pub unmap_made : (g : Grant) (s : Slot) → IsMapChange g (Unmap s) → pages_granted p owner g ≡ p
    unmap_made grant.Nothing s h = refl
    unmap_made (grant.Read t) s h = absurd h
    unmap_made (grant.Fill f page) s h = absurd h

    pub follow_made : (g : Grant) (s t : Slot) (a : Access) → IsMapChange g (Follow s t a) → pages_granted p owner g ≡ p
    follow_made grant.Nothing s t a h = refl
    follow_made (grant.Read u) s t a h = absurd h
    follow_made (grant.Fill f page) s t a h = absurd h

    pub narrow_made : (g : Grant) (s : Slot) (a : Access) → IsMapChange g (Narrow s a) → pages_granted p owner g ≡ p
    narrow_made grant.Nothing s a h = refl
    narrow_made (grant.Read u) s a h = absurd h
    narrow_made (grant.Fill f page) s a h = absurd h

    pub put_made : (g : Grant) (name : List ℕ) (page : ℕ) (s : Slot) → IsMapChange g (Put name page s) → pages_granted p owner g ≡ p
    put_made grant.Nothing name page s h = absurd h
    put_made (grant.Read u) name page s h = refl
    put_made (grant.Fill f at) name page s h = absurd h

    pub drop_made : (g : Grant) (name : List ℕ) (page : ℕ) → IsMapChange g (Drop name page) → pages_granted p owner g ≡ p
    drop_made grant.Nothing name page h = refl
    drop_made (grant.Read u) name page h = absurd h
    drop_made (grant.Fill f at) name page h = absurd h

module _ (key : List ℕ → ℕ) (p q : NumberedPages) where
  pub behind_done : (e : End MapChange) (what : MapChange) (regs : Regs) (out post : Option ℕ) → e ≡ Done what regs out post → map_changed key what q ≡ parts_behind (map_changed key) p q e
  unfolding parts_behind
  behind_done e what regs out post is = sym (ap (parts_behind (map_changed key) p q) is)

  -- a turn that is not done leaves the pages
  pub behind_other : (e : End MapChange) → ((what : MapChange) (regs : Regs) (out post : Option ℕ) → e ≡ Done what regs out post → ⊥) → p ≡ parts_behind (map_changed key) p q e
  unfolding parts_behind
  behind_other (Done what regs out post) other = absurd (other what regs out post refl)
  behind_other (Waits on) other = refl
  behind_other Halts other = refl
  behind_other (Refused code) other = refl
  behind_other (Failed code) other = refl
  behind_other (Trap channel) other = refl

-- the entries and files that are changed
module _ (key : List ℕ → ℕ) (p : NumberedPages) where
  unmaps : (s : Slot) → changed p s new.Empty ≡ map_changed key (Unmap s) p
  unfolding map_changed changed
  unmaps s = refl

  follows : (s t : Slot) (a : Access) → changed p s (new.Follows t.fork.serial t.page a) ≡ map_changed key (Follow s t a) p
  unfolding map_changed changed
  follows s t a = refl

  narrows : (s : Slot) (a : Access) → changed p s (new.Narrow a) ≡ map_changed key (Narrow s a) p
  unfolding map_changed changed
  narrows s a = refl

  maps_file : (s : Slot) (f : FileNo) (name : List ℕ) (page : ℕ) (a : Access) → f.0 ≡ key name → changed p s (new.FilePage f page a) ≡ map_changed key (Map s name page a) p
  unfolding map_changed changed
  maps_file s f name page a is = ap (λ (k : ℕ). option_map_or (λ e. with_entry p s (option_map_or (λ n. entry.Names n a) (map.get p.files (record { file = k; page = page })) e)) (entry_at p.maps s) p) is

  puts : (f : FileNo) (name : List ℕ) (page : ℕ) (s : Slot) → f.0 ≡ key name → filed_by p (file_page f.0 page) (Some s) ≡ map_changed key (Put name page s) p
  unfolding map_changed
  puts f name page s is = ap (λ (k : ℕ). filed_from p (file_page k page) s) is

  drops : (f : FileNo) (name : List ℕ) (page : ℕ) → f.0 ≡ key name → filed_by p (file_page f.0 page) None ≡ map_changed key (Drop name page) p
  unfolding map_changed
  drops f name page is = ap (λ (k : ℕ). with_file p (file_page k page) None) is

-- a change is made as it is asked for, behind what was granted
module _ (key : List ℕ → ℕ) (scene : Scene) (p q made : NumberedPages) {A : Type 0} (r : Result A Need) (what : MapChange) where
  abbrev Asked : Type 0
  Asked = IsMade p q r (change_need scene p what) (map_changed key what made)

  abbrev As : MapChange → NumberedPages → Type 0
  As is whole = IsMade p q r (change_need scene p is) whole

  made_so : (is : MapChange) (whole : NumberedPages) → what ≡ is → whole ≡ map_changed key is made → As is whole → Asked
  made_so is whole same so h = subst (λ x. IsMade p q r (change_need scene p x) (map_changed key x made)) (sym same) (subst (As is) so h)

  pub unmap_so : (s : Slot) → what ≡ Unmap s → made ≡ p → As (Unmap s) (changed p s new.Empty) → Asked
  unmap_so s same none h = made_so (Unmap s) (changed p s new.Empty) same (unmaps key p s ∙ ap (map_changed key (Unmap s)) (sym none)) h

  pub follow_so : (s t : Slot) (a : Access) → what ≡ Follow s t a → made ≡ p → As (Follow s t a) (changed p s (new.Follows t.fork.serial t.page a)) → Asked
  follow_so s t a same none h = made_so (Follow s t a) (changed p s (new.Follows t.fork.serial t.page a)) same (follows key p s t a ∙ ap (map_changed key (Follow s t a)) (sym none)) h

  pub narrow_so : (s : Slot) (a : Access) → what ≡ Narrow s a → made ≡ p → As (Narrow s a) (changed p s (new.Narrow a)) → Asked
  narrow_so s a same none h = made_so (Narrow s a) (changed p s (new.Narrow a)) same (narrows key p s a ∙ ap (map_changed key (Narrow s a)) (sym none)) h

  pub map_so : (s : Slot) (f : FileNo) (name : List ℕ) (page : ℕ) (a : Access) → what ≡ Map s name page a → f.0 ≡ key name → As (Map s name page a) (changed made s (new.FilePage f page a)) → Asked
  map_so s f name page a same is h = made_so (Map s name page a) (changed made s (new.FilePage f page a)) same (maps_file key made s f name page a is) h

module _ (key : List ℕ → ℕ) (p q made : NumberedPages) (what : MapChange) where
  abbrev Changed : Type 0
  Changed = q ≡ map_changed key what made

  pub nothing_so : what ≡ Nothing → made ≡ p → p ≡ map_changed key what made
  unfolding map_changed
  nothing_so same none = sym (ap (λ w. map_changed key w made) same ∙ none)

  pub put_so : (f : FileNo) (name : List ℕ) (page : ℕ) (s : Slot) → what ≡ Put name page s → made ≡ p → f.0 ≡ key name → q ≡ filed_by p (file_page f.0 page) (Some s) → Changed
  put_so f name page s same none is h = h ∙ puts key p f name page s is ∙ ap (map_changed key (Put name page s)) (sym none) ∙ ap (λ w. map_changed key w made) (sym same)

  pub drop_so : (f : FileNo) (name : List ℕ) (page : ℕ) → what ≡ Drop name page → made ≡ p → f.0 ≡ key name → q ≡ filed_by p (file_page f.0 page) None → Changed
  drop_so f name page same none is h = h ∙ drops key p f name page is ∙ ap (map_changed key (Drop name page)) (sym none) ∙ ap (λ w. map_changed key w made) (sym same)

-- an end needs nothing
pub end_needs : {P : Type 0} (store : StoreMeaning P) (most : ℕ) (s : P) (e : End MapChange) → AnswerNeeds store most s (answer_of e)
end_needs store most s (Done what regs out post) = tt
end_needs store most s (Waits on) = tt
end_needs store most s Halts = tt
end_needs store most s (Refused code) = tt
end_needs store most s (Failed code) = tt
end_needs store most s (Trap channel) = tt

pub end_done : (e : End MapChange) → IsDone (answer_of e)
end_done (Done what regs out post) = tt
end_done (Waits on) = tt
end_done Halts = tt
end_done (Refused code) = tt
end_done (Failed code) = tt
end_done (Trap channel) = tt

pub end_fits : (sound : MapChange → Type 0) (e : End MapChange) → FitsEnd sound e → FitsAnswer (answer_of e)
end_fits sound (Done what regs out post) h = (h.1, h.2, h.3)
end_fits sound (Waits on) h = tt
end_fits sound Halts h = tt
end_fits sound (Refused code) h = tt
end_fits sound (Failed code) h = tt
end_fits sound (Trap channel) h = h

-- nor does it make a page
module _ {P : Type 0} (means : PagesMeaning P) (owner : Tty) (s : P) where
  none_made : MakesAtMost means owner 1 s s
  none_made = record { lives = refl; forks = refl; most = refl; serial = omega arith; serials = λ t ne. refl }

  pub end_makes : (e : End MapChange) → MakesIn means owner s s (answer_of e)
  end_makes (Done what regs out post) = none_made
  end_makes (Waits on) = none_made
  end_makes Halts = none_made
  end_makes (Refused code) = none_made
  end_makes (Failed code) = none_made
  end_makes (Trap channel) = none_made
