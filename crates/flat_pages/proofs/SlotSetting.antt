-- An entry of a slot that is set.
use Rattle.std.proofs.Common.{◌≡◌, ℕ, suc, List, [], ◌∷◌, Bool, true, false, cond, Option, None, Some, refl, sym, ◌∙◌, ap, subst, arith, is_some, length}
use Rattle.std.specs.Prelude.{IsSome, nat_eq}
use Rattle.std.specs.Option.{option_map, option_map_or, option_and_then}
use Rattle.std.proofs.lemmas.List.Sums.{sum_by-cons}
use Rattle.machine_names.specs.declared.names.ForkName.{ForkName}
use Rattle.machine_names.specs.declared.names.PageName.{PageName}
use Rattle.machine_names.specs.declared.names.Tty.{Tty}
use Rattle.machine_names.specs.declared.names.Access.{Access}
use Rattle.machine_names.specs.declared.names.Slot.{Slot}
use Rattle.plain_pages.specs.declared.map.MapEntry.{MapEntry}
use Rattle.plain_pages.specs.declared.map.MapEntry.TheVariants as map_entry
use Rattle.std.specs.FinMap as fin
use Rattle.machine_names.specs.declared.names.FileNo.{FileNo}
use Rattle.machine_names.specs.Orders.{file_page, same_fork}
use Rattle.page_homes.specs.declared.homes.Home.{Home}
use Rattle.flat_tables.proofs.FiledHomes.{get_filed}
use Rattle.plain_pages.specs.declared.map.NewEntry.{NewEntry}
use Rattle.plain_pages.specs.declared.map.NewEntry.TheVariants as new_entry
use Rattle.page_contracts.specs.DrumWords.{DrumWords}
use Rattle.plain_pages.specs.PlainPages.{NumberedPages}
use Rattle.plain_pages.specs.Maps.{entry_at, narrow}
use Rattle.plain_pages.specs.References.{with_entry as entry_put}
use Rattle.page_contracts.specs.Pages.{is_entry}
use Rattle.plain_pages.specs.NewEntries.{entry_to, changed}
use Rattle.page_contracts.specs.Stores.{StoreMeaning, FitsHomes}
use Rattle.flat_tables.specs.declared.held_entry.EntryAt.{EntryAt}
use Rattle.flat_tables.specs.declared.held_entry.HeldEntry.{HeldEntry}
use Rattle.flat_tables.specs.declared.held_entry.HeldEntry.TheVariants.{Empty, Page, Follows}
use Rattle.flat_tables.specs.declared.held_entry.Link.{Link}
use Rattle.flat_tables.specs.declared.held_map.HeldMap.{HeldMap}
use Rattle.flat_tables.specs.declared.map_tables.MapTables.{MapTables}
use Rattle.flat_tables.specs.HeldMaps.{AreHeld, fork_at, held_entry, with_entry, index_of, one_later, living_of, entry_of, name_of}
use Rattle.flat_tables.specs.Walks.{slot_of}
use Rattle.flat_tables.specs.SlotTables.{Tables, plain_of}
use Rattle.flat_pages.specs.SlotMeaning.{seen_in, seen_entry}
use Rattle.flat_tables.specs.SlotSteps.{SetsEntry, narrow_held}
use Rattle.flat_tables.specs.TableSteps.{tables_of}
use Rattle.flat_tables.proofs.HeldEntries.{fork_set, maps_length}
use Rattle.flat_tables.proofs.ForkMaps.{index_fork}
use Rattle.flat_tables.proofs.LivingMaps.{entry_held}
use Rattle.flat_tables.proofs.WalkSteps.{some_fork}

-- maps of the same forks
pub record SameForks (xs ys : List HeldMap) : Type 0 where
  pub many : length xs ≡ length ys
  pub each : (k : ℕ) → fork_at xs k ≡ fork_at ys k

later_forks : (x y : HeldMap) (xs ys : List HeldMap) → SameForks (x ∷ xs) (y ∷ ys) → SameForks xs ys
later_forks x y xs ys s = record { many = omega (arith, s.many); each = λ k. s.each (suc k) }

pub index_same : (xs ys : List HeldMap) → SameForks xs ys → (f : ForkName) → index_of xs f ≡ index_of ys f
index_same [] [] s f = refl
index_same [] (y ∷ ys) s f = absurd (omega (arith, s.many))
index_same (x ∷ xs) [] s f = absurd (omega (arith, s.many))
index_same (x ∷ xs) (y ∷ ys) s f =
    ap (λ (o : Option ForkName). cond (option_map_or (same_fork f) o false) (Some 0) (one_later (index_of xs f))) (s.each 0)
    ∙ ap (λ o. cond (option_map_or (same_fork f) y.fork false) (Some 0) (one_later o)) (index_same xs ys (later_forks x y xs ys s) f)

pub living_same : (xs ys : List HeldMap) → SameForks xs ys → (t : Tty) → living_of xs t ≡ living_of ys t
living_same [] [] s t = refl
living_same [] (y ∷ ys) s t = absurd (omega (arith, s.many))
living_same (x ∷ xs) [] s t = absurd (omega (arith, s.many))
living_same (x ∷ xs) (y ∷ ys) s t =
    let here : ◌≡◌ {A = ℕ} (cond (option_map_or (λ f. nat_eq f.tty.0 t.0) x.fork false) 1 0) (cond (option_map_or (λ f. nat_eq f.tty.0 t.0) y.fork false) 1 0) = ap (λ (o : Option ForkName). cond (option_map_or (λ f. nat_eq f.tty.0 t.0) o false) 1 0) (s.each 0) in
    let rest = living_same xs ys (later_forks x y xs ys s) t in
    omega (arith, here, rest, sum_by-cons (λ (m : HeldMap). cond (option_map_or (λ f. nat_eq f.tty.0 t.0) m.fork false) 1 0) x xs, sum_by-cons (λ (m : HeldMap). cond (option_map_or (λ f. nat_eq f.tty.0 t.0) m.fork false) 1 0) y ys)

-- an entry that is set changes no fork
pub set_forks : (maps maps' : List HeldMap) (at : EntryAt) (e : HeldEntry) → maps' ≡ with_entry maps at e → SameForks maps' maps
set_forks maps maps' at e is = subst (λ ms. SameForks ms maps) (sym is) (record { many = maps_length maps at e; each = λ k. fork_set maps at e k })

pub set_lives : (maps maps' : List HeldMap) (at : EntryAt) (e : HeldEntry) → maps' ≡ with_entry maps at e → ◌≡◌ {A = ForkName → Bool} (λ f. is_some (index_of maps' f)) (λ f. is_some (index_of maps f))
set_lives maps maps' at e is = λ i f. is_some (index_same maps' maps (set_forks maps maps' at e is) f i)

pub set_living : (maps maps' : List HeldMap) (at : EntryAt) (e : HeldEntry) → maps' ≡ with_entry maps at e → living_of maps' ≡ living_of maps
set_living maps maps' at e is = λ i t. living_same maps' maps (set_forks maps maps' at e is) t i

-- a narrowed entry stands for a narrowed entry
narrowed_entry : (names : List (Option PageName)) (a : Access) (q : HeldEntry) → entry_of names (narrow_held a q) ≡ narrow a (entry_of names q)
narrowed_entry names a Empty = refl
narrowed_entry names a (Page h b) = refl
narrowed_entry names a (Follows l b) = refl

pub narrowed_page : (a : Access) (q : HeldEntry) (l : Link) (b : Access) → narrow_held a q ≡ Follows l b → (c : Access) × (q ≡ Follows l c)
narrowed_page a Empty l b h = absurd (cc h)
narrowed_page a (Page g c) l b h = absurd (cc h)
narrowed_page a (Follows m c) l b h = let same : m ≡ l = cc h in (c, ap (λ (x : Link). Follows x c) same)

changed_at : (p : NumberedPages) (s : Slot) (new : NewEntry) (x : MapEntry) → entry_at p.maps s ≡ Some x → changed p s new ≡ entry_put p s (entry_to p new x)
unfolding changed
changed_at p s new x h = ap (λ (o : Option MapEntry). option_map_or (λ y. entry_put p s (entry_to p new y)) o p) h

-- the slot of an entry, by the number of its fork's map
pub slot_at : (maps : List HeldMap) (s : Slot) (k : ℕ) → index_of maps s.fork ≡ Some k → slot_of maps (record { map = k; page = s.page }) ≡ Some s
slot_at maps s k is = ap (option_map (λ f. record { fork = f; page = s.page })) (index_fork maps s.fork k is)

pub fork_some : (maps : List HeldMap) (f : ForkName) (k : ℕ) → index_of maps f ≡ Some k → IsSome (fork_at maps k)
fork_some maps f k is = some_fork (fork_at maps k) f (index_fork maps f k is)

-- an entry that was seen is there
pub seen_there : (t : Tables) (s : Slot) (k : ℕ) → index_of t.maps s.fork ≡ Some k → is_entry (seen_in t s) ≡ true → (q : HeldEntry) × (held_entry t.maps (record { map = k; page = s.page }) ≡ Some q)
seen_there t s k is seen = by (held_entry t.maps (record { map = k; page = s.page })) refl (sym (ap (λ o. is_entry (seen_entry t (option_and_then (λ j. held_entry t.maps (record { map = j; page = s.page })) o))) is) ∙ seen)
  where
    by : (o : Option HeldEntry) → held_entry t.maps (record { map = k; page = s.page }) ≡ o → is_entry (seen_entry t o) ≡ true → (q : HeldEntry) × (held_entry t.maps (record { map = k; page = s.page }) ≡ Some q)
    by None e g = absurd (cc g)
    by (Some q) e g = (q, e)

module _ {S : Type 0} (store : StoreMeaning S) (old new : S) (tables tables' : MapTables) (s : Slot) (k : ℕ) (is : index_of tables.maps.held.items s.fork ≡ Some k) (held : AreHeld tables.maps.held.items) where
  abbrev at : EntryAt
  at = record { map = k; page = s.page }

  abbrev t : Tables
  t = tables_of (store.homes old) tables

  abbrev t' : Tables
  t' = tables_of (store.homes new) tables'

  abbrev pub Changes : NewEntry → Type 0
  Changes what = (d : DrumWords) → FitsHomes t.places d → FitsHomes t'.places d × (plain_of t' d ≡ changed (plain_of t d) s what)

  -- what the pages are then
  told_changed : (e : HeldEntry) → SetsEntry store old new tables tables' at e → (q : HeldEntry) → held_entry t.maps at ≡ Some q → (what : NewEntry) → ((d : DrumWords) → entry_of t.names e ≡ entry_to (plain_of t d) what (entry_of t.names q)) → Changes what
  told_changed e sets q there what same d fits =
      let r = sets.told d s (slot_at t.maps s k is) fits in
      (r.0, r.1 ∙ ap (entry_put (plain_of t d) s) (same d) ∙ sym (changed_at (plain_of t d) s what (entry_of t.names q) (entry_held t.names t.maps held.once at s (slot_at t.maps s k is) ∙ ap (option_map (entry_of t.names)) there)))

  pub told_empty : SetsEntry store old new tables tables' at Empty → (q : HeldEntry) → held_entry t.maps at ≡ Some q → Changes new_entry.Empty
  told_empty sets q there = told_changed Empty sets q there new_entry.Empty (λ d. refl)

  pub told_follows : (l : Link) (a : Access) → SetsEntry store old new tables tables' at (Follows l a) → (q : HeldEntry) → held_entry t.maps at ≡ Some q → Changes (new_entry.Follows l.serial l.page a)
  told_follows l a sets q there = told_changed (Follows l a) sets q there (new_entry.Follows l.serial l.page a) (λ d. refl)

  pub told_page : (f : FileNo) (page : ℕ) (a : Access) (h : Home) → fin.get t.files (file_page f.0 page) ≡ Some h → SetsEntry store old new tables tables' at (Page h a) → (q : HeldEntry) → held_entry t.maps at ≡ Some q → Changes (new_entry.FilePage f page a)
  told_page f page a h filed sets q there = told_changed (Page h a) sets q there (new_entry.FilePage f page a) (λ d.
      sym (ap (λ (o : Option PageName). option_map_or (λ n. map_entry.Names n a) o (entry_of t.names q)) (get_filed t.names t.files (file_page f.0 page) ∙ ap (option_map (name_of t.names)) filed)))

  pub told_narrow : (a : Access) (q : HeldEntry) → SetsEntry store old new tables tables' at (narrow_held a q) → held_entry t.maps at ≡ Some q → Changes (new_entry.Narrow a)
  told_narrow a q sets there = told_changed (narrow_held a q) sets q there (new_entry.Narrow a) (λ d. narrowed_entry t.names a q)
