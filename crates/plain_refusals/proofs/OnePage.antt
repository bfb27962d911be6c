-- A unit of PMAP goes over one page at most.
use Rattle.std.proofs.Common.{◌≡◌, ◌≢◌, ℕ, ◌&&◌, ◌++◌, Bool, true, false, cond, List, [], ◌∷◌, Option, None, Some, Result, Ok, Err, refl, sym, ◌∙◌, ap, subst}
use Rattle.std.specs.Prelude.{◌==◌, is_some}
use Rattle.std.specs.Option.{option_and_then, option_map_or}
use Rattle.std.specs.Cmp.Lexicographic.{nat_list_cmp_total}
use Rattle.std.specs.FinMap as map
use Rattle.std.proofs.lemmas.Bool.{cond_both}
use Rattle.machine_names.proofs.Keys.{get_put_other}
use Rattle.machine_names.proofs.OrderLemmas.{file_page_apart, file_page_total, name_cmp_apart}
use Rattle.machine_names.specs.declared.names.Kind.TheVariants.{Read, Write}
use Rattle.machine_names.specs.declared.names.PageName.{PageName}
use Rattle.machine_names.specs.declared.names.Slot.{Slot}
use Rattle.machine_names.specs.declared.names.Tty.{Tty}
use Rattle.machine_names.specs.Orders.{FilePage, name_cmp}
use Rattle.plain_pages.specs.declared.map.MapEntry.{MapEntry}
use Rattle.plain_pages.specs.declared.map.MapEntry.TheVariants.{Empty, Follows}
use Rattle.plain_pages.specs.FilePages.{with_file}
use Rattle.plain_pages.specs.Maps.{Chain, chain, entry_at, permits, set_entry}
use Rattle.plain_pages.specs.PlainPages.{NamedPages}
use Rattle.plain_pages.specs.References.{Making, Referred, along_chain, blank, copies, denied, drop_unnamed, full, granted, in_file, in_map, makings, next_page, page_at, reference, with_changed, with_entry}
use Rattle.plain_pages.specs.Room.{HasRoom, page_in, uses}
use Rattle.plain_pages.proofs.Chains.{entry_other}
use Rattle.plain_pages.proofs.FilesKept.{filed_files, filed_maps, set_elsewhere}
use Rattle.plain_pages.proofs.FileWrites.{filled, filled_files, filled_maps, written_absent, written_there}
use Rattle.plain_pages.proofs.ReferencesMade.{reference_denied, reference_stays, roomy}
use Rattle.plain_files.specs.OpenFiles.{OpenFile}
use Rattle.plain_units.proofs.Lookups.{looked_up}
use Rattle.plain_units.specs.Deeds.{in_ac}
use Rattle.plain_model.specs.declared.call.End.{End}
use Rattle.plain_model.specs.declared.call.End.TheVariants.{Done, Failed, Halts, Refused, Trap, Waits}
use Rattle.plain_model.specs.declared.call.MapChange.{MapChange}
use Rattle.plain_model.specs.declared.call.MapChange.TheVariants.{Drop, Map, Nothing, Put}
use Rattle.plain_model.specs.declared.call.TheConstants.{NOT_OPEN, NO_PAGE, PMAP}
use Rattle.plain_model.specs.declared.fork.Fork.{Fork}
use Rattle.plain_model.specs.Calls.{Turn, ends, finds, given, if_granted, parts_behind, returning, touched, touches, turn_on}
use Rattle.plain_model.specs.EachFamily.{pages_changed}
use Rattle.plain_model.specs.Families.{asks_maps, files_seen}
use Rattle.plain_model.specs.MapCalls.{ALL_ONES, MapAsked, MapPlace, access_wanted, allows as opens_for, entry_for, file_spot, from_file, into_file, is_counted, is_written, keyed, makes_page, map_changed, mapping_into, maps, of_file, of_fork, one_page, pages_left, place_named, places_named, pmap, unmapping}
use Rattle.plain_model.specs.State.{PlainState}
use Rattle.plain_model.specs.Unit.{parts_of}
use Rattle.plain_laws.specs.JfnLaws.{turn_of}
use Rattle.plain_refusals.specs.Budgets.{GoesOverOnePage}

-- ---- references

-- a write to a file's page makes that one, if any
made_one : (p : NamedPages) (owner : Tty) (f : FilePage (List ℕ)) (q : NamedPages) → reference p (in_file f) Write owner ≡ granted q
    → (q.maps ≡ p.maps) × ((g : FilePage (List ℕ)) → g ≢ f → map.get q.files g ≡ map.get p.files g)
made_one p owner f q goes = by (map.get p.files f) refl
  where
    by : (o : Option PageName) → map.get p.files f ≡ o → (q.maps ≡ p.maps) × ((g : FilePage (List ℕ)) → g ≢ f → map.get q.files g ≡ map.get p.files g)
    by (Some n) is =
        let both : granted p ≡ granted q = sym (written_there p owner f n is) ∙ goes in
        let same : p ≡ q = cc both in
        subst (λ (r : NamedPages). (r.maps ≡ p.maps) × ((g : FilePage (List ℕ)) → g ≢ f → map.get r.files g ≡ map.get p.files g)) same (refl, λ g ne. refl)
    by None is =
        let made = roomy (HasRoom (filled p owner f) owner) (granted (filled p owner f)) q (sym (written_absent p owner f is) ∙ goes) in
        let same : filled p owner f ≡ q = (let both = made.1 in cc both) in
        subst (λ (r : NamedPages). (r.maps ≡ p.maps) × ((g : FilePage (List ℕ)) → g ≢ f → map.get r.files g ≡ map.get p.files g)) same
        (filled_maps p owner f, λ g ne. ap (λ m. map.get m g) (filled_files p owner f) ∙ get_put_other (file_page_total nat_list_cmp_total) (file_page_apart name_cmp_apart) p.files f g (next_page p owner) ne)

-- a page that is there is read, and nothing is made
read_makes_none : (p : NamedPages) (owner : Tty) (s : Slot) (n : PageName) → page_at p (in_map s) ≡ Some n → (q : NamedPages) → reference p (in_map s) Read owner ≡ granted q → q ≡ p
unfolding page_at makings
read_makes_none p owner s n there q goes = by (chain (entry_at p.maps) s) refl
  where
    listed : Bool → Option PageName → Chain → Option (List (Making (List ℕ)))
    listed b m c = cond b (Some ((cond (is_some m) [] (blank (in_map c.end) ∷ [])) ++ copies Read c)) None

    made : (b : Bool) → makings p (in_map s) Read ≡ cond b (Some []) None → q ≡ p
    made true is = let both : granted p ≡ granted q = sym (reference_stays p owner (in_map s) Read is) ∙ goes in let same : p ≡ q = cc both in sym same
    made false is = absurd (let wrong : denied Read ≡ granted q = sym (reference_denied p owner (in_map s) Read is) ∙ goes in cc wrong)

    by : (o : Option Chain) → chain (entry_at p.maps) s ≡ o → q ≡ p
    by None is = absurd (let wrong : None ≡ Some n = sym (ap (option_and_then (λ (c : Chain). c.page)) is) ∙ there in cc wrong)
    by (Some c) is =
        let page : c.page ≡ Some n = sym (ap (option_and_then (λ (c : Chain). c.page)) is) ∙ there in
        made (permits Read c) (ap (option_and_then (along_chain Read)) is ∙ ap (λ m. listed (permits Read c) m c) page)

-- ---- changes

-- an entry that is set leaves the others, and the files
entry_leaves : (q : NamedPages) (s : Slot) (y : MapEntry) → ((with_entry q s y).maps ≡ set_entry q.maps s y) × ((with_entry q s y).files ≡ q.files)
unfolding with_entry
entry_leaves q s y =
    let set : NamedPages = record q { maps = set_entry q.maps s y } in
    looked_up (λ (r : NamedPages). (r.maps ≡ set_entry q.maps s y) × (r.files ≡ q.files)) (drop_unnamed set) set (option_and_then page_in (entry_at q.maps s))
    (λ n is. cond_both (uses set n == 0) (record set { objects = map.remove set.objects n }) set (λ (r : NamedPages). (r.maps ≡ set_entry q.maps s y) × (r.files ≡ q.files)) (λ gone. (refl, refl)) (λ kept. (refl, refl)))
    (λ none. (refl, refl))

module _ (s : PlainState) where
  abbrev Goes : NamedPages → Type 0
  Goes new = GoesOverOnePage s.pages new

  -- pages with the maps as they were, and with the files but for a page of one
  abbrev Keeps : NamedPages → FilePage (List ℕ) → Type 0
  Keeps q f = (q.maps ≡ s.pages.maps) × ((g : FilePage (List ℕ)) → g ≢ f → map.get q.files g ≡ map.get s.pages.files g)

  as_they_were : (f : FilePage (List ℕ)) → Keeps s.pages f
  as_they_were f = (refl, λ g ne. refl)

  -- an entry changed
  slot_goes : (q : NamedPages) (f : FilePage (List ℕ)) → Keeps q f → (at : Slot) (change : MapEntry → MapEntry) → Goes (with_changed q at change)
  slot_goes q f keeps at change = by (entry_at q.maps at) refl
    where
      by : (o : Option MapEntry) → entry_at q.maps at ≡ o → Goes (option_map_or (λ e. with_entry q at (change e)) o q)
      by None is = record { slot = at; file = f; entries = λ t ne. ap (λ m. entry_at m t) keeps.0; files = keeps.1 }
      by (Some e) is =
          let leaves = entry_leaves q at (change e) in
          record {
            slot = at;
            file = f;
            entries = λ t ne. ap (λ m. entry_at m t) leaves.0 ∙ entry_other q.maps at e (change e) is t ne ∙ ap (λ m. entry_at m t) keeps.0;
            files = λ g ne. ap (λ m. map.get m g) leaves.1 ∙ keeps.1 g ne;
          }

  -- a page of a file changed
  file_goes : (at : Slot) (f : FilePage (List ℕ)) (n : Option PageName) → Goes (with_file s.pages f n)
  file_goes at f n = record {
    slot = at;
    file = f;
    entries = λ t ne. ap (λ m. entry_at m t) (filed_maps nat_list_cmp_total name_cmp_apart s.pages f n);
    files = λ g ne. ap (λ m. map.get m g) (filed_files nat_list_cmp_total name_cmp_apart s.pages f n) ∙ set_elsewhere nat_list_cmp_total name_cmp_apart s.pages f g n ne;
  }

  same_goes : (at : Slot) (f : FilePage (List ℕ)) → Goes s.pages
  same_goes at f = record { slot = at; file = f; entries = λ t ne. refl; files = λ g ne. refl }

  module _ (f : Fork) where
    abbrev asked : MapAsked
    asked = asks_maps (parts_of s) f.name f.body.regs

    -- no slot and no page of a file in particular
    abbrev some_slot : Slot
    some_slot = record { fork = f.name; page = 0 }

    abbrev some_page : FilePage (List ℕ)
    some_page = record { file = []; page = 0 }

    -- how a turn ends, and the pages then
    abbrev OverEnd : End MapChange → NamedPages → Type 0
    OverEnd (Done change regs out post) q = GoesOverOnePage s.pages (map_changed (λ name. name) change q)
    OverEnd e q = Unit {0}

    abbrev OverTurn : Turn (List ℕ) MapChange → Type 0
    OverTurn t = let c = turn_on (files_seen (λ name. name) (parts_of s) f.name) s.pages t in OverEnd c.end c.pages

    given_over : {A : Type 0} (r : Result A ℕ) (next : A → Turn (List ℕ) MapChange) → ((x : A) → OverTurn (next x)) → OverTurn (given r next)
    unfolding turn_on
    given_over (Ok x) next over = over x
    given_over (Err code) next over = tt

    unmapping_over : (to : MapPlace) → OverTurn (unmapping asked to)
    unfolding turn_on map_changed
    unmapping_over (of_fork to) = slot_goes s.pages some_page (as_they_were some_page) to (λ e. Empty)
    unmapping_over (of_file j page) = cond_both (is_written j) (ends (maps asked (Drop j.file page))) (ends (Refused NOT_OPEN)) OverTurn (λ written. file_goes some_slot (keyed (λ name. name) j.file page) None) (λ read. tt)

    from_over : (j : OpenFile) (page : ℕ) (to : Slot) → OverTurn (from_file asked j page to)
    unfolding turn_on map_changed page_at
    from_over j page to =
        cond_both (opens_for j (access_wanted asked)) (finds (file_spot j page) found) (ends (Refused NOT_OPEN)) OverTurn (λ opened. by (map.get s.pages.files (record { file = j.file; page = page }))) (λ closed. tt)
      where
        found : Option PageName → Turn (List ℕ) MapChange
        found n = cond (is_some n) (ends (maps asked (Map to j.file page (access_wanted asked)))) (cond (is_written j) (makes_page asked j page (maps asked (Map to j.file page (access_wanted asked)))) (ends (Refused NO_PAGE)))

        mapped : (q : NamedPages) → Keeps q (record { file = j.file; page = page }) → Goes (map_changed (λ name. name) (Map to j.file page (access_wanted asked)) q)
        mapped q keeps = slot_goes q (record { file = j.file; page = page }) keeps to (λ e. entry_for (access_wanted asked) e (map.get q.files (record { file = j.file; page = page })))

        touch : (r : Referred name_cmp) → reference s.pages (in_file (record { file = j.file; page = page })) Write f.name.tty ≡ r
            → (let c = touched s.pages r (λ q what. turn_on (files_seen (λ name. name) (parts_of s) f.name) q (ends (if_granted (maps asked (Map to j.file page (access_wanted asked))) what))) in OverEnd c.end c.pages)
        touch (granted q) is = mapped q (made_one s.pages f.name.tty (record { file = j.file; page = page }) q is)
        touch (denied k) is = tt
        touch full is = tt

        by : (o : Option PageName) → OverTurn (found o)
        by (Some n) = mapped s.pages (as_they_were (record { file = j.file; page = page }))
        by None = cond_both (is_written j) (makes_page asked j page (maps asked (Map to j.file page (access_wanted asked)))) (ends (Refused NO_PAGE)) OverTurn
            (λ written. touch (reference s.pages (in_file (record { file = j.file; page = page })) Write f.name.tty) refl) (λ read. tt)

    into_over : (from : Slot) (j : OpenFile) (page : ℕ) → OverTurn (into_file asked from j page)
    unfolding turn_on map_changed
    into_over from j page = cond_both (is_written j) (finds (in_map from) found) (ends (Refused NOT_OPEN)) OverTurn (λ written. by (page_at s.pages (in_map from)) refl) (λ read. tt)
      where
        found : Option PageName → Turn (List ℕ) MapChange
        found n = cond (is_some n) (touches asked.who.tty (in_map from) Read (λ what. ends (if_granted (maps asked (Put j.file page from)) what))) (ends (Refused NO_PAGE))

        put : (q : NamedPages) → q ≡ s.pages → Goes (map_changed (λ name. name) (Put j.file page from) q)
        put q same = subst (λ (r : NamedPages). Goes (map_changed (λ name. name) (Put j.file page from) r)) (sym same) (file_goes some_slot (keyed (λ name. name) j.file page) (page_at s.pages (in_map from)))

        touch : (n : PageName) → page_at s.pages (in_map from) ≡ Some n → (r : Referred name_cmp) → reference s.pages (in_map from) Read f.name.tty ≡ r
            → (let c = touched s.pages r (λ q what. turn_on (files_seen (λ name. name) (parts_of s) f.name) q (ends (if_granted (maps asked (Put j.file page from)) what))) in OverEnd c.end c.pages)
        touch n there (granted q) is = put q (read_makes_none s.pages f.name.tty from n there q is)
        touch n there (denied k) is = tt
        touch n there full is = tt

        by : (o : Option PageName) → page_at s.pages (in_map from) ≡ o → OverTurn (found o)
        by None is = tt
        by (Some n) is = touch n is (reference s.pages (in_map from) Read f.name.tty) refl

    mapping_over : (from to : MapPlace) → OverTurn (mapping_into asked from to)
    unfolding turn_on map_changed
    mapping_over (of_fork from) (of_fork to) = slot_goes s.pages some_page (as_they_were some_page) to (λ e. Follows from.fork.serial from.page (access_wanted asked))
    mapping_over (of_file j page) (of_fork to) = from_over j page to
    mapping_over (of_fork from) (of_file j page) = into_over from j page
    mapping_over (of_file i p) (of_file j q) = tt

    one_over : OverTurn (one_page asked)
    unfolding one_page
    one_over =
        cond_both (in_ac asked.regs 1 == ALL_ONES) (given (place_named asked 2) (unmapping asked)) (given (places_named asked) (λ p. mapping_into asked p.0 p.1)) OverTurn
        (λ none. given_over (place_named asked 2) (unmapping asked) unmapping_over) (λ some. given_over (places_named asked) (λ p. mapping_into asked p.0 p.1) (λ p. mapping_over p.0 p.1))

    pmap_over : OverTurn (pmap asked)
    unfolding turn_on map_changed
    pmap_over = cond_both (is_counted asked.regs && (pages_left asked.regs == 0)) (ends (returning Nothing asked.regs)) (one_page asked) OverTurn (λ over. same_goes some_slot some_page) (λ more. one_over)

    -- what is behind such a turn
    left_goes : (e : End MapChange) (q : NamedPages) → OverEnd e q → Goes (parts_behind (pages_changed (λ name. name)) (parts_of s) (record (parts_of s) { pages = q }) e).pages
    unfolding parts_behind
    left_goes (Done change regs out post) q over = over
    left_goes (Waits what) q over = same_goes some_slot some_page
    left_goes Halts q over = same_goes some_slot some_page
    left_goes (Refused code) q over = same_goes some_slot some_page
    left_goes (Failed code) q over = same_goes some_slot some_page
    left_goes (Trap channel) q over = same_goes some_slot some_page

    pub one_page_a_unit : GoesOverOnePage s.pages (turn_of s f PMAP).parts.pages
    one_page_a_unit = let c = turn_on (files_seen (λ name. name) (parts_of s) f.name) s.pages (pmap asked) in left_goes c.end c.pages pmap_over
