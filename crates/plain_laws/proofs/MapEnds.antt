-- A call on maps refers to slots of its job and to pages of files of its JFNs; it changes such a slot or page, and follows a slot of its job.
use Rattle.std.proofs.Common.{◌≡◌, ◌<◌, ◌&&◌, ℕ, Bool, true, cond, List, Option, None, Some, Result, Ok, Err, refl, sym, ◌∙◌, ap, subst, arith, is_some}
use Rattle.std.specs.Prelude.{◌==◌, nat_lt}
use Rattle.std.specs.Option.{option_map_or, option_and_then}
use Rattle.std.specs.FinMap as map
use Rattle.std.proofs.lemmas.Bool.{cond_both}
use Rattle.std.proofs.lemmas.Bool.Decides.{nat_tests}
use Rattle.word36.specs.Words.{left, right}
use Rattle.plain_model.specs.declared.call.TheConstants.{PMAP, RPACS, SPACS, RMAP, FORK_SELF, FORK_SUPERIOR, BAD_PAGE, NO_HANDLE, NO_JFN, NO_PAGE, NOT_OPEN}
use Rattle.plain_model.specs.declared.call.End.{End}
use Rattle.plain_model.specs.declared.call.End.TheVariants.{Refused}
use Rattle.plain_model.specs.declared.call.MapChange.{MapChange}
use Rattle.plain_model.specs.declared.call.MapChange.TheVariants.{Nothing, Unmap, Follow, Narrow, Map, Put, Drop}
use Rattle.plain_model.specs.declared.call.Touched.{Touched}
use Rattle.plain_model.specs.declared.call.Touched.TheVariants.{Granted, Denied, Full}
use Rattle.machine_names.specs.declared.names.TheConstants.{FILE_PAGES, SPACE_PAGES}
use Rattle.machine_names.specs.Orders.{FilePage, name_cmp}
use Rattle.machine_names.specs.declared.names.Tty.{Tty}
use Rattle.machine_names.specs.declared.names.ForkName.{ForkName}
use Rattle.machine_names.specs.declared.names.Slot.{Slot}
use Rattle.machine_names.specs.declared.names.Access.{Access}
use Rattle.plain_pages.specs.declared.map.MapEntry.{MapEntry}
use Rattle.plain_pages.specs.declared.map.MapEntry.TheVariants as entry
use Rattle.plain_model.specs.declared.fork.Fork.{Fork}
use Rattle.plain_pages.specs.PlainPages.{NamedPages}
use Rattle.plain_pages.specs.References.{Spot, Referred, granted, denied, full, in_map, in_file, page_at, reference, word_at}
use Rattle.machine_names.specs.declared.names.PageName.{PageName}
use Rattle.machine_names.specs.declared.names.Kind.{Kind}
use Rattle.machine_names.specs.declared.names.Kind.TheVariants.{Read}
use Rattle.plain_files.specs.OpenFiles.{OpenFile}
use Rattle.plain_model.specs.Forks.{ForkMap, fork_in, superior_of}
use Rattle.plain_model.specs.Handles.{named, named_by}
use Rattle.plain_model.specs.AccessWords.{access_in}
use Rattle.plain_units.specs.declared.registers.Regs.{Regs}
use Rattle.plain_units.specs.Blocks.{steps_on}
use Rattle.plain_units.specs.Deeds.{in_ac}
use Rattle.plain_units.specs.Steps.{Ending, Steps}
use Rattle.plain_units.proofs.PageRuns.{PlanLeaves}
use Rattle.plain_model.specs.Calls.{Came, Sight, Turn, sees, finds, reads, touches, takes, adds, looks, makes, ends, and_then, entry_of, given, if_granted, returning, spot_of, touched, turn_on, with_ac}
use Rattle.plain_model.specs.Families.{Parts, files_seen}
use Rattle.plain_model.specs.MapCalls.{ALL_ONES, MapAsked, MapPlace, of_fork, of_file, access_at, access_wanted, allows, file_spot, from_file, into_file, is_counted, is_written, makes_page, map_call, mapping_into, maps, narrows, on_page, one_page, pages_left as left_to_do, place_named, place_of, places_named, pmap, rmap, rpacs, slot_named, slot_of, source_of, spacs, tells_access, unmapping}
use Rattle.plain_model.proofs.Turns.{KeepsEnd, takes_comes}
use Rattle.plain_model.proofs.ForkMaps.{AreOwn, slot_tells, superior_tells}
use Rattle.plain_laws.proofs.OtherMaps.{InJob}

-- what holds of what was named, if it was
abbrev OkIn : {A : Type 0} → (A → Type 0) → Result A ℕ → Type 0
OkIn holds (Ok a) = holds a
OkIn holds (Err code) = Unit {0}

-- a slot of a fork of a job that lives
abbrev pub Stands : ForkMap → Tty → Slot → Type 0
Stands forks t s = (map.contains_key forks s.fork ≡ true) × InJob t s

-- a handle of a fork names one of its job
module _ (forks : ForkMap) (own : AreOwn forks) (who : ForkName) where
  -- one that lives
  abbrev IsHere : Fork → Type 0
  IsHere f = (map.get forks f.name ≡ Some f) × (f.name.tty.0 ≡ who.tty.0)

  named_job : (handle : ℕ) (f : Fork) → named forks who handle ≡ Some f → IsHere f
  unfolding named
  named_job handle f is = by (map.get forks who) refl is
    where
      self : (c : Fork) → map.get forks who ≡ Some c → IsHere c
      self c there = (ap (map.get forks) (own who c there) ∙ there, ap (λ (n : ForkName). n.tty.0) (own who c there))

      told : (c : Fork) → map.get forks who ≡ Some c → named_by forks handle c ≡ Some f → IsHere f
      told c there = cond_both (handle == FORK_SELF) (Some c) _ (λ o. o ≡ Some f → IsHere f)
          (λ is_self h. let same : c ≡ f = cc h in subst IsHere same (self c there))
          (λ other. cond_both (handle == FORK_SUPERIOR) (superior_of forks c) _ (λ o. o ≡ Some f → IsHere f)
          (λ is_superior h. let at = superior_tells forks own c f h in let here = self c there in (at.0, at.1 ∙ here.1))
          (λ a_slot. cond_both _ (fork_in forks c.name.tty _) None (λ o. o ≡ Some f → IsHere f)
          (λ in_range h. let at = slot_tells forks own c.name.tty _ f h in let here = self c there in (at.0, at.1 ∙ here.1)) (λ out h. absurd (cc h))))

      by : (o : Option Fork) → map.get forks who ≡ o → option_and_then (named_by forks handle) o ≡ Some f → IsHere f
      by None none h = absurd (cc h)
      by (Some c) there h = told c there h

  slot_job : (word : ℕ) → OkIn (Stands forks who.tty) (slot_of forks who word)
  unfolding slot_of
  slot_job word = by (named forks who (left word)) refl
    where
      by : (o : Option Fork) → named forks who (left word) ≡ o → OkIn (Stands forks who.tty) (option_map_or (λ f. Ok (record { fork = f.name; page = right word })) o (Err NO_HANDLE))
      by None none = tt
      by (Some f) some = let at = named_job (left word) f some in (ap is_some at.0, at.1)

-- a number below that of pages of a space is one of a page of a file
page_below : (k : ℕ) → nat_lt k SPACE_PAGES ≡ true → k < FILE_PAGES
page_below k h = grind (arith, nat_tests)

-- Where some files are there: the references and the changes of calls on maps of a job.
module _ (forks : ForkMap) (t : Tty) (There : List ℕ → Type 0) where
  -- a page of a file that is there
  abbrev pub IsThere : FilePage (List ℕ) → Type 0
  IsThere f = There f.file × (f.page < FILE_PAGES)

  -- they refer to slots of forks of the job that live, and to pages of files that are there
  abbrev pub SpotIn : Spot (List ℕ) → Type 0
  SpotIn (in_map s) = Stands forks t s
  SpotIn (in_file f) = IsThere f

  -- they change such a slot, which follows such a slot, or such a page
  abbrev pub ChangeIn : MapChange → Type 0
  ChangeIn Nothing = Unit {0}
  ChangeIn (Unmap s) = Stands forks t s
  ChangeIn (Follow s other a) = Stands forks t s × Stands forks t other
  ChangeIn (Narrow s a) = Stands forks t s
  ChangeIn (Map s name page a) = Stands forks t s
  ChangeIn (Put name page s) = There name × (page < FILE_PAGES)
  ChangeIn (Drop name page) = Unit {0}

  abbrev pub EndIn : End MapChange → Type 0
  EndIn e = KeepsEnd ChangeIn e

  -- a turn whose references are such, for the job, which takes steps of forks of the job, and whose change is such as it may be, if it is done
  module _ {C : Type 0} (Allowed : C → Type 0) where
    abbrev pub TurnIn : Turn (List ℕ) C → Type 0
    TurnIn (sees s next) = (e : MapEntry) → TurnIn (next e)
    TurnIn (finds at next) = (n : Option PageName) → TurnIn (next n)
    TurnIn (reads f offset next) = (w : ℕ) → TurnIn (next w)
    TurnIn (touches owner at kind next) = (owner ≡ t) × SpotIn at × ((what : Touched) → TurnIn (next what))
    TurnIn (takes f regs steps next) = (f.tty ≡ t) × ((e : Ending) → TurnIn (next e))
    TurnIn (adds f entries next) = ⊥
    TurnIn (looks name next) = (b : Bool) → TurnIn (next b)
    TurnIn (makes name next) = (b : Bool) → TurnIn (next b)
    TurnIn (ends e) = KeepsEnd Allowed e

    -- such a turn ends so, and what such references and steps keep holds of the pages that it made
    module _ (v : Parts name_cmp) (who : ForkName) (After : NamedPages → Type 0) (refers : (p q : NamedPages) (at : Spot (List ℕ)) (kind : Kind) → SpotIn at → After p → reference p at kind t ≡ granted q → After q)
        (runs : (p : NamedPages) (f : ForkName) (regs : Regs) (steps : Steps) → f.tty ≡ t → After p → PlanLeaves After f (steps_on f regs steps p)) where
      abbrev sight : Sight (List ℕ) (List ℕ)
      sight = files_seen (λ name. name) v who

      abbrev pub CameIn : Came name_cmp C → Type 0
      CameIn c = KeepsEnd Allowed c.end × After c.pages

      pub came_in : (u : Turn (List ℕ) C) → TurnIn u → (p : NamedPages) → After p → CameIn (turn_on sight p u)
      unfolding turn_on
      came_in (sees s next) fits p h = came_in (next (entry_of p s)) (fits (entry_of p s)) p h
      came_in (finds at next) fits p h = let n = option_and_then (page_at p) (spot_of sight at) in came_in (next n) (fits n) p h
      came_in (reads f offset next) fits p h = let w = option_map_or (λ at. word_at p at offset) (spot_of sight (in_file f)) 0 in came_in (next w) (fits w) p h
      came_in (touches owner at kind next) fits p h = by (λ what q. came_in (next what) (fits.2 what) q) at fits.1
        where
          come : ((what : Touched) (q : NamedPages) → After q → CameIn (turn_on sight q (next what))) → (s : Spot (List ℕ)) → SpotIn s → (r : Referred name_cmp) → reference p s kind owner ≡ r → CameIn (touched p r (λ q what. turn_on sight q (next what)))
          come rest s here (granted q) is = rest Granted q (refers p q s kind here h (sym (ap (λ (u : Tty). reference p s kind u) fits.0) ∙ is))
          come rest s here (denied k) is = rest Denied p h
          come rest s here full is = rest Full p h

          by : ((what : Touched) (q : NamedPages) → After q → CameIn (turn_on sight q (next what))) → (s : Spot (List ℕ)) → SpotIn s
              → CameIn (touched p (option_map_or (λ x. reference p x kind owner) (spot_of sight s) (denied kind)) (λ q what. turn_on sight q (next what)))
          by rest (in_map x) here = come rest (in_map x) here (reference p (in_map x) kind owner) refl
          by rest (in_file f) here = come rest (in_file f) here (reference p (in_file f) kind owner) refl
      came_in (takes f regs steps next) fits p h = takes_comes sight p (λ e q. KeepsEnd Allowed e × After q) After f regs steps next (runs p f regs steps fits.0 h) (λ q e later. came_in (next e) (fits.1 e) q later) (λ channel. (tt, h))
      came_in (adds f entries next) fits p h = absurd fits
      came_in (looks name next) fits p h = came_in (next (sight.is_name name)) (fits (sight.is_name name)) p h
      came_in (makes name next) fits p h = came_in (next sight.has_more) (fits sight.has_more) p h
      came_in (ends e) fits p h = (fits, h)

-- so does a call on maps, where the files of the caller's JFNs are there
module _ (a : MapAsked) (own : AreOwn a.tree.forks) (There : List ℕ → Type 0) (held : (n : ℕ) (j : OpenFile) → map.get a.held n ≡ Some j → There j.file) where
  abbrev Here : Slot → Type 0
  Here s = Stands a.tree.forks a.who.tty s

  abbrev Fits : Turn (List ℕ) MapChange → Type 0
  Fits t = TurnIn a.tree.forks a.who.tty There (ChangeIn a.tree.forks a.who.tty There) t

  abbrev FitsIt : End MapChange → Type 0
  FitsIt e = EndIn a.tree.forks a.who.tty There e

  -- a slot of its job, or a page of a file that is there
  abbrev PlaceHere : MapPlace → Type 0
  PlaceHere (of_fork s) = Here s
  PlaceHere (of_file j page) = There j.file × (page < FILE_PAGES)

  given_in : {A : Type 0} (holds : A → Type 0) (r : Result A ℕ) (next : A → Turn (List ℕ) MapChange) → OkIn holds r → ((x : A) → holds x → Fits (next x)) → Fits (given r next)
  given_in holds (Err code) next ok goes = tt
  given_in holds (Ok x) next ok goes = goes x ok

  then_in : {A B : Type 0} (holds : A → Type 0) (all : B → Type 0) (r : Result A ℕ) (next : A → Result B ℕ) → OkIn holds r → ((x : A) → holds x → OkIn all (next x)) → OkIn all (and_then r next)
  then_in holds all (Err code) next ok goes = tt
  then_in holds all (Ok x) next ok goes = goes x ok

  on_page_in : {A : Type 0} (holds : A → Type 0) (word : ℕ) (r : Result A ℕ) → (nat_lt (right word) SPACE_PAGES ≡ true → OkIn holds r) → OkIn holds (on_page word r)
  on_page_in holds word r ok = cond_both (nat_lt (right word) SPACE_PAGES) r (Err BAD_PAGE) (OkIn holds) (λ low. ok low) (λ bad. tt)

  place_in : (word : ℕ) → nat_lt (right word) SPACE_PAGES ≡ true → OkIn PlaceHere (place_of a word)
  unfolding place_of
  place_in word low = cond_both (nat_lt (left word) FORK_SELF) (option_map_or (λ j. Ok (of_file j (right word))) (map.get a.held (left word)) (Err NO_JFN)) (and_then (slot_of a.tree.forks a.who word) (λ slot. Ok (of_fork slot))) (OkIn PlaceHere)
      (λ is. by (map.get a.held (left word)) refl) (λ is. then_in Here PlaceHere (slot_of a.tree.forks a.who word) (λ slot. Ok (of_fork slot)) (slot_job a.tree.forks own a.who word) (λ s here. here))
    where
      by : (o : Option OpenFile) → map.get a.held (left word) ≡ o → OkIn PlaceHere (option_map_or (λ j. Ok (of_file j (right word))) o (Err NO_JFN))
      by None is = tt
      by (Some j) is = (held (left word) j is, page_below (right word) low)

  named_in : (n : ℕ) → OkIn PlaceHere (place_named a n)
  named_in n = on_page_in PlaceHere (in_ac a.regs n) (place_of a (in_ac a.regs n)) (place_in (in_ac a.regs n))

  abbrev BothHere : MapPlace × MapPlace → Type 0
  BothHere p = PlaceHere p.0 × PlaceHere p.1

  abbrev both : Result (MapPlace × MapPlace) ℕ
  both = and_then (place_of a (in_ac a.regs 1)) (λ from. and_then (place_of a (in_ac a.regs 2)) (λ to. Ok (from, to)))

  both_in : nat_lt (right (in_ac a.regs 1)) SPACE_PAGES ≡ true → nat_lt (right (in_ac a.regs 2)) SPACE_PAGES ≡ true → OkIn BothHere both
  both_in low1 low2 = then_in PlaceHere BothHere (place_of a (in_ac a.regs 1)) (λ from. and_then (place_of a (in_ac a.regs 2)) (λ to. Ok (from, to))) (place_in (in_ac a.regs 1) low1)
      (λ from x. then_in PlaceHere BothHere (place_of a (in_ac a.regs 2)) (λ to. Ok (from, to)) (place_in (in_ac a.regs 2) low2) (λ to y. (x, y)))

  places_in : OkIn BothHere (places_named a)
  places_in = on_page_in BothHere (in_ac a.regs 1) (on_page (in_ac a.regs 2) both) (λ low1. on_page_in BothHere (in_ac a.regs 2) both (both_in low1))

  slot_in : OkIn Here (slot_named a)
  slot_in = on_page_in Here (in_ac a.regs 1) (slot_of a.tree.forks a.who (in_ac a.regs 1)) (λ low. slot_job a.tree.forks own a.who (in_ac a.regs 1))

  narrows_in : (s : Slot) (access : Access) (e : MapEntry) → Here s → FitsIt (narrows s access a.regs e)
  narrows_in s access entry.Empty here = tt
  narrows_in s access (entry.Names n x) here = here
  narrows_in s access (entry.Follows serial page x) here = here

  granted_in : (change : MapChange) → ChangeIn a.tree.forks a.who.tty There change → (what : Touched) → FitsIt (if_granted (maps a change) what)
  granted_in change fits Granted = fits
  granted_in change fits Denied = tt
  granted_in change fits Full = tt

  access_in_place : (place : MapPlace) → Fits (access_at a.regs place)
  access_in_place (of_fork s) = λ e n. tt
  access_in_place (of_file j page) = λ n. tt

  from_in : (j : OpenFile) (page : ℕ) (to : Slot) → There j.file × (page < FILE_PAGES) → Here to → Fits (from_file a j page to)
  from_in j page to there here = cond_both (allows j (access_wanted a)) (finds (file_spot j page) found) (ends (Refused NOT_OPEN)) Fits (λ is. each) (λ is. tt)
    where
      found : Option PageName → Turn (List ℕ) MapChange
      found n = cond (is_some n) (ends (maps a (Map to j.file page (access_wanted a)))) (cond (is_written j) (makes_page a j page (maps a (Map to j.file page (access_wanted a)))) (ends (Refused NO_PAGE)))

      each : (n : Option PageName) → Fits (found n)
      each (Some n) = here
      each None = cond_both (is_written j) (makes_page a j page (maps a (Map to j.file page (access_wanted a)))) (ends (Refused NO_PAGE)) Fits (λ is. (refl, there, granted_in (Map to j.file page (access_wanted a)) here)) (λ is. tt)

  into_in : (from : Slot) (j : OpenFile) (page : ℕ) → Here from → There j.file × (page < FILE_PAGES) → Fits (into_file a from j page)
  into_in from j page here there = cond_both (is_written j) (finds (in_map from) found) (ends (Refused NOT_OPEN)) Fits (λ is. each) (λ is. tt)
    where
      found : Option PageName → Turn (List ℕ) MapChange
      found n = cond (is_some n) (touches a.who.tty (in_map from) Read (λ what. ends (if_granted (maps a (Put j.file page from)) what))) (ends (Refused NO_PAGE))

      each : (n : Option PageName) → Fits (found n)
      each (Some n) = (refl, here, granted_in (Put j.file page from) there)
      each None = tt

  mapping_in : (p : MapPlace × MapPlace) → BothHere p → Fits (mapping_into a p.0 p.1)
  mapping_in p here = by p.0 p.1 here.0 here.1
    where
      by : (from to : MapPlace) → PlaceHere from → PlaceHere to → Fits (mapping_into a from to)
      by (of_fork from) (of_fork to) x y = (y, x)
      by (of_file j page) (of_fork to) x y = from_in j page to x y
      by (of_fork from) (of_file j page) x y = into_in from j page x y
      by (of_file i p) (of_file j q) x y = tt

  unmapping_in : (place : MapPlace) → PlaceHere place → Fits (unmapping a place)
  unmapping_in (of_fork to) here = here
  unmapping_in (of_file j page) here = cond_both (is_written j) (ends (maps a (Drop j.file page))) (ends (Refused NOT_OPEN)) Fits (λ is. tt) (λ is. tt)

  one_in : Fits (one_page a)
  unfolding one_page
  one_in = cond_both (in_ac a.regs 1 == ALL_ONES) (given (place_named a 2) (unmapping a)) (given (places_named a) (λ p. mapping_into a p.0 p.1)) Fits
      (λ is. given_in PlaceHere (place_named a 2) (unmapping a) (named_in 2) unmapping_in)
      (λ is. given_in BothHere (places_named a) (λ p. mapping_into a p.0 p.1) places_in mapping_in)

  pmap_in : Fits (pmap a)
  pmap_in = cond_both (is_counted a.regs && (left_to_do a.regs == 0)) (ends (returning Nothing a.regs)) (one_page a) Fits (λ none. tt) (λ some. one_in)

  rpacs_in : Fits (rpacs a)
  rpacs_in = given_in PlaceHere (place_named a 1) (access_at a.regs) (named_in 1) (λ place here. access_in_place place)

  spacs_in : Fits (spacs a)
  spacs_in = given_in Here (slot_named a) (λ slot. sees slot (λ e. ends (narrows slot (access_in (in_ac a.regs 2)) a.regs e))) slot_in (λ s here e. narrows_in s (access_in (in_ac a.regs 2)) e here)

  rmap_in : Fits (rmap a)
  rmap_in = given_in Here (slot_named a) (λ slot. sees slot (λ e. finds (in_map slot) (λ page. ends (tells_access (with_ac a.regs 1 (source_of a.tree.forks slot e)) e page)))) slot_in (λ s here e n. tt)

  pub map_call_in : (number : ℕ) → Fits (map_call number a)
  map_call_in number =
      cond_both (PMAP == number) (pmap a) _ Fits (λ is. pmap_in) (λ n1.
      cond_both (RPACS == number) (rpacs a) _ Fits (λ is. rpacs_in) (λ n2.
      cond_both (SPACS == number) (spacs a) _ Fits (λ is. spacs_in) (λ n3.
      cond_both (RMAP == number) (rmap a) _ Fits (λ is. rmap_in) (λ n4. tt))))
