-- A call on maps refers to no files but those of its JFNs, and changes no others.
use Rattle.std.proofs.Common.{◌≡◌, ℕ, cond, List, Option, None, Some, Result, Ok, Err, refl}
use Rattle.std.specs.Prelude.{◌==◌, ◌&&◌, is_some, nat_lt}
use Rattle.std.specs.Option.{option_map_or}
use Rattle.std.specs.FinMap as map
use Rattle.std.proofs.lemmas.Bool.{cond_both}
use Rattle.plain_model.specs.declared.call.TheConstants.{PMAP, RPACS, SPACS, RMAP, FORK_SELF, NO_JFN, NOT_OPEN, NO_PAGE, BAD_PAGE}
use Rattle.plain_model.specs.declared.call.End.TheVariants.{Refused}
use Rattle.plain_model.specs.declared.call.MapChange.{MapChange}
use Rattle.plain_model.specs.declared.call.MapChange.TheVariants.{Nothing, Map, Put, Drop}
use Rattle.plain_model.specs.declared.call.Touched.{Touched}
use Rattle.plain_model.specs.declared.call.Touched.TheVariants.{Granted, Denied, Full}
use Rattle.plain_units.specs.declared.registers.Regs.{Regs}
use Rattle.machine_names.specs.declared.names.TheConstants.{SPACE_PAGES}
use Rattle.machine_names.specs.declared.names.Access.{Access}
use Rattle.machine_names.specs.declared.names.PageName.{PageName}
use Rattle.machine_names.specs.declared.names.Slot.{Slot}
use Rattle.machine_names.specs.declared.names.Kind.TheVariants.{Read}
use Rattle.plain_pages.specs.declared.map.MapEntry.{MapEntry}
use Rattle.plain_pages.specs.declared.map.MapEntry.TheVariants as entry
use Rattle.plain_pages.specs.References.{in_map}
use Rattle.plain_files.specs.OpenFiles.{OpenFile}
use Rattle.plain_units.specs.Deeds.{in_ac}
use Rattle.word36.specs.Words.{left, right}
use Rattle.plain_model.specs.AccessWords.{access_in}
use Rattle.plain_model.specs.Calls.{Turn, sees, finds, touches, ends, and_then, given, if_granted, numbered, returning, with_ac}
use Rattle.plain_model.specs.MapCalls.{ALL_ONES, MapAsked, MapPlace, of_fork, of_file, access_at, access_wanted, allows, file_spot, from_file, into_file, is_counted, is_written, makes_page, map_calls, mapping_into, maps, narrows, on_page, one_page, pages_left, place_named, place_of, places_named, pmap, rmap, rpacs, slot_named, slot_of, source_of, spacs, tells_access, unmapping}
use Rattle.plain_model.proofs.Turns.{Keeps, KeepsEnd}

-- what was named is such, if anything was
abbrev pub AllOk : {A : Type 0} → (A → Type 0) → Result A ℕ → Type 0
AllOk Good (Ok x) = Good x
AllOk Good (Err code) = Unit {0}

module _ {A : Type 0} (Good : A → Type 0) where
  page_ok : (word : ℕ) (r : Result A ℕ) → AllOk Good r → AllOk Good (on_page word r)
  page_ok word r good = cond_both (nat_lt (right word) SPACE_PAGES) r (Err BAD_PAGE) (AllOk Good) (λ is. good) (λ is. tt)

  pub then_ok : {B : Type 0} (All : B → Type 0) (r : Result B ℕ) (next : B → Result A ℕ) → AllOk All r → ((x : B) → All x → AllOk Good (next x)) → AllOk Good (and_then r next)
  then_ok All (Ok x) next good goes = goes x good
  then_ok All (Err code) next good goes = tt

any_ok : {A : Type 0} (r : Result A ℕ) → AllOk (λ x. Unit {0}) r
any_ok (Ok x) = tt
any_ok (Err code) = tt

module _ (There : List ℕ → Type 0) where
  -- the changes of files that are there
  abbrev pub OfFiles : MapChange → Type 0
  OfFiles (Map to name page access) = There name
  OfFiles (Put name page from) = There name
  OfFiles (Drop name page) = There name
  OfFiles change = Unit {0}

  abbrev pub KeepsFiles : Turn (List ℕ) MapChange → Type 0
  KeepsFiles t = Keeps There OfFiles t

  abbrev OfPlace : MapPlace → Type 0
  OfPlace (of_fork slot) = Unit {0}
  OfPlace (of_file j page) = There j.file

  abbrev OfPlaces : MapPlace × MapPlace → Type 0
  OfPlaces p = OfPlace p.0 × OfPlace p.1

  given_keeps : {A : Type 0} (Good : A → Type 0) (r : Result A ℕ) (next : A → Turn (List ℕ) MapChange) → AllOk Good r → ((x : A) → Good x → KeepsFiles (next x)) → KeepsFiles (given r next)
  given_keeps Good (Ok x) next good goes = goes x good
  given_keeps Good (Err code) next good goes = tt

  narrows_keeps : (slot : Slot) (access : Access) (regs : Regs) (e : MapEntry) → KeepsEnd OfFiles (narrows slot access regs e)
  narrows_keeps slot access regs entry.Empty = tt
  narrows_keeps slot access regs (entry.Names n a) = tt
  narrows_keeps slot access regs (entry.Follows serial page a) = tt

  access_keeps : (regs : Regs) (place : MapPlace) → OfPlace place → KeepsFiles (access_at regs place)
  access_keeps regs (of_fork slot) there = λ e. (tt, λ n. tt)
  access_keeps regs (of_file j page) there = (there, λ n. tt)

  granted_keeps : (a : MapAsked) (change : MapChange) → OfFiles change → (what : Touched) → KeepsEnd OfFiles (if_granted (maps a change) what)
  granted_keeps a change there Granted = there
  granted_keeps a change there Denied = tt
  granted_keeps a change there Full = tt

  module _ (a : MapAsked) (held : (n : ℕ) (j : OpenFile) → map.get a.held n ≡ Some j → There j.file) where
    place_ok : (word : ℕ) → AllOk OfPlace (place_of a word)
    unfolding place_of
    place_ok word = cond_both (nat_lt (left word) FORK_SELF) (option_map_or (λ j. Ok (of_file j (right word))) (map.get a.held (left word)) (Err NO_JFN)) (and_then (slot_of a.tree.forks a.who word) (λ slot. Ok (of_fork slot))) (AllOk OfPlace)
        (λ is. by (map.get a.held (left word)) refl) (λ is. then_ok OfPlace (λ s. Unit {0}) (slot_of a.tree.forks a.who word) (λ slot. Ok (of_fork slot)) (any_ok (slot_of a.tree.forks a.who word)) (λ slot all. tt))
      where
        by : (o : Option OpenFile) → map.get a.held (left word) ≡ o → AllOk OfPlace (option_map_or (λ j. Ok (of_file j (right word))) o (Err NO_JFN))
        by None is = tt
        by (Some j) is = held (left word) j is

    named_ok : (n : ℕ) → AllOk OfPlace (place_named a n)
    named_ok n = page_ok OfPlace (in_ac a.regs n) (place_of a (in_ac a.regs n)) (place_ok (in_ac a.regs n))

    abbrev both : Result (MapPlace × MapPlace) ℕ
    both = and_then (place_of a (in_ac a.regs 1)) (λ from. and_then (place_of a (in_ac a.regs 2)) (λ to. Ok (from, to)))

    both_ok : AllOk OfPlaces both
    both_ok = then_ok OfPlaces OfPlace (place_of a (in_ac a.regs 1)) (λ from. and_then (place_of a (in_ac a.regs 2)) (λ to. Ok (from, to))) (place_ok (in_ac a.regs 1))
        (λ from x. then_ok OfPlaces OfPlace (place_of a (in_ac a.regs 2)) (λ to. Ok (from, to)) (place_ok (in_ac a.regs 2)) (λ to y. (x, y)))

    places_ok : AllOk OfPlaces (places_named a)
    places_ok = page_ok OfPlaces (in_ac a.regs 1) (on_page (in_ac a.regs 2) both) (page_ok OfPlaces (in_ac a.regs 2) both both_ok)

    from_keeps : (j : OpenFile) (page : ℕ) (to : Slot) → There j.file → KeepsFiles (from_file a j page to)
    from_keeps j page to there = cond_both (allows j (access_wanted a)) (finds (file_spot j page) found) (ends (Refused NOT_OPEN)) KeepsFiles (λ is. (there, each)) (λ is. tt)
      where
        found : Option PageName → Turn (List ℕ) MapChange
        found n = cond (is_some n) (ends (maps a (Map to j.file page (access_wanted a)))) (cond (is_written j) (makes_page a j page (maps a (Map to j.file page (access_wanted a)))) (ends (Refused NO_PAGE)))

        each : (n : Option PageName) → KeepsFiles (found n)
        each (Some n) = there
        each None = cond_both (is_written j) (makes_page a j page (maps a (Map to j.file page (access_wanted a)))) (ends (Refused NO_PAGE)) KeepsFiles
            (λ is. (there, granted_keeps a (Map to j.file page (access_wanted a)) there)) (λ is. tt)

    into_keeps : (from : Slot) (j : OpenFile) (page : ℕ) → There j.file → KeepsFiles (into_file a from j page)
    into_keeps from j page there = cond_both (is_written j) (finds (in_map from) found) (ends (Refused NOT_OPEN)) KeepsFiles (λ is. (tt, each)) (λ is. tt)
      where
        found : Option PageName → Turn (List ℕ) MapChange
        found n = cond (is_some n) (touches a.who.tty (in_map from) Read (λ what. ends (if_granted (maps a (Put j.file page from)) what))) (ends (Refused NO_PAGE))

        each : (n : Option PageName) → KeepsFiles (found n)
        each (Some n) = (tt, granted_keeps a (Put j.file page from) there)
        each None = tt

    into_place : (p : MapPlace × MapPlace) → OfPlaces p → KeepsFiles (mapping_into a p.0 p.1)
    into_place p there = by p.0 p.1 there.0 there.1
      where
        by : (from to : MapPlace) → OfPlace from → OfPlace to → KeepsFiles (mapping_into a from to)
        by (of_fork from) (of_fork to) x y = tt
        by (of_file j page) (of_fork to) x y = from_keeps j page to x
        by (of_fork from) (of_file j page) x y = into_keeps from j page y
        by (of_file i p) (of_file j q) x y = tt

    unmapping_keeps : (place : MapPlace) → OfPlace place → KeepsFiles (unmapping a place)
    unmapping_keeps (of_fork to) there = tt
    unmapping_keeps (of_file j page) there = cond_both (is_written j) (ends (maps a (Drop j.file page))) (ends (Refused NOT_OPEN)) KeepsFiles (λ is. there) (λ is. tt)

    one_keeps : KeepsFiles (one_page a)
    unfolding one_page
    one_keeps = cond_both (in_ac a.regs 1 == ALL_ONES) (given (place_named a 2) (unmapping a)) (given (places_named a) (λ p. mapping_into a p.0 p.1)) KeepsFiles
        (λ is. given_keeps OfPlace (place_named a 2) (unmapping a) (named_ok 2) unmapping_keeps)
        (λ is. given_keeps OfPlaces (places_named a) (λ p. mapping_into a p.0 p.1) places_ok into_place)

    pmap_keeps : KeepsFiles (pmap a)
    pmap_keeps = cond_both (is_counted a.regs && (pages_left a.regs == 0)) (ends (returning Nothing a.regs)) (one_page a) KeepsFiles (λ is. tt) (λ is. one_keeps)

    rpacs_keeps : KeepsFiles (rpacs a)
    rpacs_keeps = given_keeps OfPlace (place_named a 1) (access_at a.regs) (named_ok 1) (access_keeps a.regs)

    spacs_keeps : KeepsFiles (spacs a)
    spacs_keeps = given_keeps (λ s. Unit {0}) (slot_named a) (λ slot. sees slot (λ e. ends (narrows slot (access_in (in_ac a.regs 2)) a.regs e))) (any_ok (slot_named a)) (λ slot all e. narrows_keeps slot (access_in (in_ac a.regs 2)) a.regs e)

    rmap_keeps : KeepsFiles (rmap a)
    rmap_keeps = given_keeps (λ s. Unit {0}) (slot_named a) (λ slot. sees slot (λ e. finds (in_map slot) (λ page. ends (tells_access (with_ac a.regs 1 (source_of a.tree.forks slot e)) e page)))) (any_ok (slot_named a)) (λ slot all e. (tt, λ n. tt))

    -- A CALL ON MAPS KNOWS THE FILES OF JFNS
    pub map_keeps : (number : ℕ) → KeepsFiles (numbered map_calls number a)
    map_keeps number =
        cond_both (PMAP == number) (pmap a) _ KeepsFiles (λ is. pmap_keeps) (λ n1.
        cond_both (RPACS == number) (rpacs a) _ KeepsFiles (λ is. rpacs_keeps) (λ n2.
        cond_both (SPACS == number) (spacs a) _ KeepsFiles (λ is. spacs_keeps) (λ n3.
        cond_both (RMAP == number) (rmap a) _ KeepsFiles (λ is. rmap_keeps) (λ n4. tt))))
