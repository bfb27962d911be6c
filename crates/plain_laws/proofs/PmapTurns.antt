-- A turn of PMAP with a page of a file, as it comes out and what it leaves.
use Rattle.std.proofs.Common.{◌≡◌, ◌++◌, ℕ, Bool, true, false, cond, List, [], ◌∷◌, Option, None, Some, Result, Ok, Err, refl, sym, ◌∙◌, ap}
use Rattle.std.specs.Prelude.{◌==◌, IsSome, is_some, nat_lt}
use Rattle.std.specs.Option.{option_and_then, option_map, option_map_or}
use Rattle.std.specs.FinMap as map
use Rattle.std.proofs.lemmas.Bool.{eq-eqb, eqb-true}
use Rattle.word36.specs.Words.{right}
use Rattle.machine_names.specs.Orders.{name_cmp}
use Rattle.machine_names.specs.declared.names.PageName.{PageName}
use Rattle.machine_names.specs.declared.names.Slot.{Slot}
use Rattle.machine_names.specs.declared.names.TheConstants.{SPACE_PAGES}
use Rattle.machine_names.specs.declared.names.Tty.{Tty}
use Rattle.machine_names.specs.declared.names.Kind.TheVariants.{Read, Write}
use Rattle.plain_files.specs.OpenFiles.{OpenFile}
use Rattle.plain_pages.specs.PlainPages.{NamedPages}
use Rattle.plain_pages.specs.Maps.{Chain, chain, entry_at, may, permits}
use Rattle.plain_pages.specs.References.{Making, along_chain, blank, copies, granted, in_file, in_map, makings, page_at, reference}
use Rattle.plain_pages.proofs.Reading.{page_of_chain}
use Rattle.plain_pages.proofs.ReferencesMade.{reference_stays}
use Rattle.plain_units.specs.Deeds.{in_ac}
use Rattle.plain_model.specs.declared.call.TheConstants.{BAD_PAGE, NOT_OPEN, NO_PAGE}
use Rattle.plain_model.specs.declared.call.End.TheVariants.{Refused}
use Rattle.plain_model.specs.declared.call.MapChange.{MapChange}
use Rattle.plain_model.specs.declared.call.MapChange.TheVariants.{Map, Nothing, Put, Unmap}
use Rattle.plain_model.specs.declared.fork.Fork.{Fork}
use Rattle.plain_model.specs.Calls.{Came, Sight, and_then, Turn, ends, finds, fork_behind, given, if_granted, parts_behind, returning, touched, touches, turn_on}
use Rattle.plain_model.specs.Families.{Turned, behind, files_seen}
use Rattle.plain_model.specs.Forks.{with_regs}
use Rattle.plain_model.specs.MapCalls.{ALL_ONES, MapAsked, MapPlace, access_wanted, allows, behind_page, file_spot, is_written, makes_page, map_changed, mapping_into, maps, of_file, of_fork, on_page, one_page, place_named, place_of, places_named, pmap, unmapping}
use Rattle.plain_model.specs.State.{PlainState}
use Rattle.plain_model.specs.Unit.{parts_of}
use Rattle.plain_laws.specs.JfnLaws.{Lives}
use Rattle.plain_laws.specs.MappedLaws.{GoesOver, LeavesPages, NamesNone, NamesPlaces, mapped, page_of, pmap_asked, put_into, unmapped}
use Rattle.plain_laws.proofs.RowsPut.{file_page}
use Rattle.plain_model.specs.EachFamily.{pages_changed}

-- a page that is there and may be read is read, and nothing is made
read_stays : (p : NamedPages) (owner : Tty) (s : Slot) → IsSome (page_at p (in_map s)) → may (entry_at p.maps) s Read ≡ true → reference p (in_map s) Read owner ≡ granted p
unfolding makings
read_stays p owner s there reads = by (chain (entry_at p.maps) s) refl
  where
    listed : Bool → Option PageName → Chain → Option (List (Making (List ℕ)))
    listed b n c = cond b (Some ((cond (is_some n) [] (blank (in_map c.end) ∷ [])) ++ copies Read c)) None

    some : (o : Option PageName) → IsSome o → (n : PageName) × (o ≡ Some n)
    some None h = absurd (cc h)
    some (Some n) h = (n, refl)

    by : (o : Option Chain) → chain (entry_at p.maps) s ≡ o → reference p (in_map s) Read owner ≡ granted p
    by None is = absurd (let no : false ≡ true = sym (ap (λ (o : Option Chain). option_map_or (permits Read) o false) is) ∙ reads in cc no)
    by (Some c) is =
        let may_read : permits Read c ≡ true = sym (ap (λ (o : Option Chain). option_map_or (permits Read) o false) is) ∙ reads in
        let n = some (page_at p (in_map s)) there in
        let page : c.page ≡ Some n.0 = sym (page_of_chain p s c is) ∙ n.1 in
        reference_stays p owner (in_map s) Read (ap (option_and_then (along_chain Read)) is ∙ ap (λ b. listed b c.page c) may_read ∙ ap (λ o. listed true o c) page)

-- a page that a word names has the number of one
page_is_low : {A : Type 0} (word : ℕ) (r : Result A ℕ) (x : A) → on_page word r ≡ Ok x → nat_lt (right word) SPACE_PAGES ≡ true
page_is_low word r x = by (nat_lt (right word) SPACE_PAGES)
  where
    by : (b : Bool) → cond b r (Err BAD_PAGE) ≡ Ok x → b ≡ true
    by true h = refl
    by false h = absurd (cc h)

module _ (s : PlainState) (f : Fork) (lives : Lives s f) where
  abbrev asked : MapAsked
  asked = pmap_asked s f

  abbrev sight : Sight (List ℕ) (List ℕ)
  sight = files_seen (λ name. name) (parts_of s) f.name

  abbrev came : NamedPages → Turn (List ℕ) MapChange → Came name_cmp MapChange
  came p t = turn_on sight p t

  abbrev left_by : Came name_cmp MapChange → Turned name_cmp
  left_by c = behind (pages_changed (λ name. name)) (parts_of s) f.name c

  -- what is done
  done_so : (change : MapChange) (q : NamedPages) → left_by (record { end = maps asked change; pages = q })
      ≡ record { parts = record (parts_of s) { pages = map_changed (λ name. name) change q }; caller = Some (with_regs f (behind_page f.body.regs)); out = None }
  unfolding parts_behind fork_behind
  done_so change q = ap (λ (o : Option Fork). record { parts = record (parts_of s) { pages = map_changed (λ name. name) change q }; caller = option_map (λ g. with_regs g (behind_page f.body.regs)) o; out = None }) lives

  module _ (goes : GoesOver f) where
    one_so : came s.pages (pmap asked) ≡ came s.pages (one_page asked)
    one_so = ap (λ b. came s.pages (cond b (ends (returning Nothing asked.regs)) (one_page asked))) goes

    -- a word that names a page is not all ones
    not_ones : (from to : MapPlace) → NamesPlaces s f from to → (in_ac asked.regs 1 == ALL_ONES) ≡ false
    not_ones from to names = by (in_ac asked.regs 1 == ALL_ONES) refl
      where
        both : Result (MapPlace × MapPlace) ℕ
        both = and_then (place_of asked (in_ac asked.regs 1)) (λ x. and_then (place_of asked (in_ac asked.regs 2)) (λ y. Ok (x, y)))

        low : nat_lt (right (in_ac asked.regs 1)) SPACE_PAGES ≡ true
        low = page_is_low (in_ac asked.regs 1) (on_page (in_ac asked.regs 2) both) (from, to) names

        by : (b : Bool) → (in_ac asked.regs 1 == ALL_ONES) ≡ b → b ≡ false
        by true is = absurd (let no : false ≡ true = sym (ap (λ w. nat_lt (right w) SPACE_PAGES) (eqb-true (in_ac asked.regs 1) ALL_ONES is)) ∙ low in cc no)
        by false is = refl

    source_so : (from to : MapPlace) → NamesPlaces s f from to → came s.pages (one_page asked) ≡ came s.pages (mapping_into asked from to)
    unfolding one_page
    source_so from to names =
        ap (λ b. came s.pages (cond b (given (place_named asked 2) (unmapping asked)) (given (places_named asked) (λ p. mapping_into asked p.0 p.1)))) (not_ones from to names)
        ∙ ap (λ r. came s.pages (given r (λ p. mapping_into asked p.0 p.1))) names

    -- what comes so is left so
    leaves_so : (change : MapChange) (q : NamedPages) → came s.pages (pmap asked) ≡ record { end = maps asked change; pages = q } → LeavesPages s f (map_changed (λ name. name) change q)
    leaves_so change q is = ap left_by is ∙ done_so change q

    -- a page of a file into a map
    module _ (j : OpenFile) (page : ℕ) (to : Slot) (names : NamesPlaces s f (of_file j page) (of_fork to)) (fits : allows j (access_wanted asked) ≡ true) where
      abbrev change : MapChange
      change = Map to j.file page (access_wanted asked)

      abbrev found : Option PageName → Turn (List ℕ) MapChange
      found n = cond (is_some n) (ends (maps asked change)) (cond (is_written j) (makes_page asked j page (maps asked change)) (ends (Refused NO_PAGE)))

      found_so : (n : Option PageName) → map.get s.pages.files (page_of j page) ≡ n → came s.pages (pmap asked) ≡ came s.pages (found n)
      unfolding turn_on
      found_so n is =
          one_so ∙ source_so (of_file j page) (of_fork to) names
          ∙ ap (λ b. came s.pages (cond b (finds (file_spot j page) found) (ends (Refused NOT_OPEN)))) fits
          ∙ ap (λ o. came s.pages (found o)) (file_page s.pages (page_of j page) ∙ is)

      pub mapped_so : IsSome (map.get s.pages.files (page_of j page)) → LeavesPages s f (mapped s.pages to (page_of j page) (access_wanted asked))
      unfolding turn_on
      mapped_so there = by (map.get s.pages.files (page_of j page)) refl there
        where
          by : (n : Option PageName) → map.get s.pages.files (page_of j page) ≡ n → IsSome n → LeavesPages s f (mapped s.pages to (page_of j page) (access_wanted asked))
          by None is h = absurd (cc h)
          by (Some n) is h = leaves_so change s.pages (found_so (Some n) is)

      pub made_so : map.get s.pages.files (page_of j page) ≡ None → is_written j ≡ true → (q : NamedPages) → reference s.pages (in_file (page_of j page)) Write f.name.tty ≡ granted q
          → LeavesPages s f (mapped q to (page_of j page) (access_wanted asked))
      unfolding turn_on
      made_so none written q g = leaves_so change q
          (found_so None none
          ∙ ap (λ b. came s.pages (cond b (makes_page asked j page (maps asked change)) (ends (Refused NO_PAGE)))) written
          ∙ ap (λ r. touched s.pages r (λ p what. came p (ends (if_granted (maps asked change) what)))) g)

    -- a page of a map into a file
    module _ (j : OpenFile) (page : ℕ) (from : Slot) (names : NamesPlaces s f (of_fork from) (of_file j page)) (written : is_written j ≡ true) where
      abbrev put : MapChange
      put = Put j.file page from

      abbrev looked : Option PageName → Turn (List ℕ) MapChange
      looked n = cond (is_some n) (touches asked.who.tty (in_map from) Read (λ what. ends (if_granted (maps asked put) what))) (ends (Refused NO_PAGE))

      pub put_so : IsSome (page_at s.pages (in_map from)) → may (entry_at s.pages.maps) from Read ≡ true → LeavesPages s f (put_into s.pages (page_of j page) from)
      unfolding turn_on
      put_so there reads = by (page_at s.pages (in_map from)) refl there
        where
          by : (n : Option PageName) → page_at s.pages (in_map from) ≡ n → IsSome n → LeavesPages s f (put_into s.pages (page_of j page) from)
          by None is h = absurd (cc h)
          by (Some n) is h = leaves_so put s.pages
              (one_so ∙ source_so (of_fork from) (of_file j page) names
              ∙ ap (λ b. came s.pages (cond b (finds (in_map from) looked) (ends (Refused NOT_OPEN)))) written
              ∙ ap (λ o. came s.pages (looked o)) is
              ∙ ap (λ r. touched s.pages r (λ p what. came p (ends (if_granted (maps asked put) what)))) (read_stays s.pages f.name.tty from there reads))

    -- a source of all ones
    pub unmapped_so : (to : Slot) → NamesNone s f to → LeavesPages s f (unmapped s.pages to)
    unfolding turn_on one_page
    unmapped_so to names = leaves_so (Unmap to) s.pages
        (one_so
        ∙ ap (λ b. came s.pages (cond b (given (place_named asked 2) (unmapping asked)) (given (places_named asked) (λ p. mapping_into asked p.0 p.1)))) (eq-eqb (in_ac asked.regs 1) ALL_ONES names.0)
        ∙ ap (λ r. came s.pages (given r (unmapping asked))) names.1)
