-- How the calls on maps may be answered.
use Rattle.std.proofs.Common.{ℕ, All, List, [], ◌∷◌, ◌&&◌, Result, Err, refl}
use Rattle.std.specs.Prelude.{◌==◌, is_some, nat_lt}
use Rattle.std.specs.FinMap as map
use Rattle.std.proofs.lemmas.Bool.{cond_both}
use Rattle.std.proofs.lemmas.List.Elements.{All-from_recursion}
use Rattle.word36.specs.Words.{left, right}
use Rattle.machine_names.specs.declared.names.ForkName.{ForkName}
use Rattle.machine_names.specs.declared.names.Kind.TheVariants.{Write}
use Rattle.machine_names.specs.declared.names.Slot.{Slot}
use Rattle.machine_names.specs.declared.names.TheConstants.{SPACE_PAGES}
use Rattle.plain_pages.specs.declared.map.MapEntry.{MapEntry}
use Rattle.plain_pages.specs.declared.map.MapEntry.TheVariants as entry
use Rattle.plain_files.specs.OpenFiles.{OpenFile}
use Rattle.plain_units.proofs.Lookups.{looked_up}
use Rattle.plain_units.specs.Deeds.{in_ac}
use Rattle.plain_model.specs.declared.call.MapChange.{MapChange}
use Rattle.plain_model.specs.declared.call.MapChange.TheVariants.{Map, Put}
use Rattle.plain_model.specs.declared.call.TheConstants as call
use Rattle.plain_model.specs.declared.call.Touched.{Touched}
use Rattle.plain_model.specs.declared.call.Touched.TheVariants.{Granted, Denied, Full}
use Rattle.plain_model.specs.declared.fork.Fork.{Fork}
use Rattle.plain_model.specs.AccessWords.{access_in}
use Rattle.plain_model.specs.Calls.{Turn, if_granted, turn_on}
use Rattle.plain_model.specs.Families.{asks_maps, files_seen}
use Rattle.plain_model.specs.Forks.{ForkMap}
use Rattle.plain_model.specs.Handles.{named}
use Rattle.plain_model.specs.MapCalls.{ALL_ONES, MapAsked, MapPlace, access_at, access_wanted, allows as opens_for, file_spot, from_file, into_file, is_counted, is_written, mapping_into, maps, narrows, of_file, of_fork, on_page, one_page, pages_left, place_named, place_of, places_named, pmap, rmap, rpacs, slot_named, slot_of, spacs, unmapping}
use Rattle.plain_model.specs.State.{PlainState}
use Rattle.plain_model.specs.Unit.{parts_of}
use Rattle.plain_refusals.specs.CallTable.{CallRow, map_rows, one}
use Rattle.plain_refusals.proofs.Ends.{EndsSo, IsEnd, MayCome, OnErr, Refuses, and_then_so, ends_so, given_so}
use Rattle.plain_refusals.proofs.ForkAnswers.{IsAnswered}

-- ---- places

module _ (Fits : ℕ → Type 0) where
  page_errs : {A : Type 0} (word : ℕ) (r : Result A ℕ) → Fits call.BAD_PAGE → OnErr Fits r → OnErr Fits (on_page word r)
  page_errs word r bad errs = cond_both (nat_lt (right word) SPACE_PAGES) _ _ (OnErr Fits) (λ low. errs) (λ high. bad)

  slot_errs : (forks : ForkMap) (who : ForkName) (word : ℕ) → Fits call.NO_HANDLE → OnErr Fits (slot_of forks who word)
  unfolding slot_of
  slot_errs forks who word none = looked_up (OnErr Fits) _ (Err call.NO_HANDLE) (named forks who (left word)) (λ f is. tt) (λ no. none)

  place_errs : (a : MapAsked) (word : ℕ) → Fits call.NO_HANDLE → Fits call.NO_JFN → OnErr Fits (place_of a word)
  unfolding place_of
  place_errs a word none no_jfn =
      cond_both (nat_lt (left word) call.FORK_SELF) _ _ (OnErr Fits)
      (λ low. looked_up (OnErr Fits) _ (Err call.NO_JFN) (map.get a.held (left word)) (λ j is. tt) (λ no. no_jfn))
      (λ high. and_then_so Fits (slot_of a.tree.forks a.who word) _ (slot_errs a.tree.forks a.who word none) (λ slot. tt))

-- ---- PMAP

abbrev PMAP_ROW : CallRow
PMAP_ROW = one call.PMAP (call.BAD_PAGE ∷ call.NO_HANDLE ∷ call.NO_JFN ∷ call.NOT_OPEN ∷ call.NO_PAGE ∷ call.NO_ROOM ∷ call.FILE_TO_FILE ∷ [])

module _ (a : MapAsked) where
  abbrev PmapEnds : Turn (List ℕ) MapChange → Type 0
  PmapEnds t = EndsSo PMAP_ROW t

  from_so : (j : OpenFile) (page : ℕ) (to : Slot) → PmapEnds (from_file a j page to)
  from_so j page to =
      cond_both (opens_for j (access_wanted a)) _ _ PmapEnds
      (λ opened. λ n. cond_both (is_some n) _ _ PmapEnds (λ there. refl) (λ none. cond_both (is_written j) _ _ PmapEnds (λ written. λ what may. by what may) (λ read. refl))) (λ closed. refl)
    where
      by : (what : Touched) → MayCome (file_spot j page) Write what → IsEnd PMAP_ROW (if_granted (maps a (Map to j.file page (access_wanted a))) what)
      by Granted may = refl
      by Denied may = absurd may
      by Full may = refl

  into_so : (from : Slot) (j : OpenFile) (page : ℕ) → PmapEnds (into_file a from j page)
  into_so from j page =
      cond_both (is_written j) _ _ PmapEnds (λ written. λ n. cond_both (is_some n) _ _ PmapEnds (λ there. λ what may. by what) (λ none. refl)) (λ read. refl)
    where
      by : (what : Touched) → IsEnd PMAP_ROW (if_granted (maps a (Put j.file page from)) what)
      by Granted = refl
      by Denied = refl
      by Full = refl

  mapping_so : (from to : MapPlace) → PmapEnds (mapping_into a from to)
  mapping_so (of_fork from) (of_fork to) = refl
  mapping_so (of_file j page) (of_fork to) = from_so j page to
  mapping_so (of_fork from) (of_file j page) = into_so from j page
  mapping_so (of_file i p) (of_file j q) = refl

  unmapping_so : (to : MapPlace) → PmapEnds (unmapping a to)
  unmapping_so (of_fork to) = refl
  unmapping_so (of_file j page) = cond_both (is_written j) _ _ PmapEnds (λ written. refl) (λ read. refl)

  one_page_so : PmapEnds (one_page a)
  unfolding one_page
  one_page_so =
      cond_both (in_ac a.regs 1 == ALL_ONES) _ _ PmapEnds
      (λ none. given_so PMAP_ROW (place_named a 2) (unmapping a) (page_errs (Refuses PMAP_ROW) (in_ac a.regs 2) (place_of a (in_ac a.regs 2)) refl (place_so 2)) unmapping_so)
      (λ some. given_so PMAP_ROW (places_named a) (λ p. mapping_into a p.0 p.1) both (λ p. mapping_so p.0 p.1))
    where
      place_so : (n : ℕ) → OnErr (Refuses PMAP_ROW) (place_of a (in_ac a.regs n))
      place_so n = place_errs (Refuses PMAP_ROW) a (in_ac a.regs n) refl refl

      both : OnErr (Refuses PMAP_ROW) (places_named a)
      both =
          page_errs (Refuses PMAP_ROW) (in_ac a.regs 1) _ refl (page_errs (Refuses PMAP_ROW) (in_ac a.regs 2) _ refl
          (and_then_so (Refuses PMAP_ROW) (place_of a (in_ac a.regs 1)) _ (place_so 1) (λ from. and_then_so (Refuses PMAP_ROW) (place_of a (in_ac a.regs 2)) _ (place_so 2) (λ to. tt))))

  pmap_so : PmapEnds (pmap a)
  pmap_so = cond_both (is_counted a.regs && (pages_left a.regs == 0)) _ _ PmapEnds (λ over. refl) (λ more. one_page_so)

-- ---- the others

abbrev RPACS_ROW : CallRow
RPACS_ROW = one call.RPACS (call.BAD_PAGE ∷ call.NO_HANDLE ∷ call.NO_JFN ∷ [])

abbrev SPACS_ROW : CallRow
SPACS_ROW = one call.SPACS (call.BAD_PAGE ∷ call.NO_HANDLE ∷ call.NO_PAGE ∷ [])

abbrev RMAP_ROW : CallRow
RMAP_ROW = one call.RMAP (call.BAD_PAGE ∷ call.NO_HANDLE ∷ [])

module _ (a : MapAsked) where
  rpacs_so : EndsSo RPACS_ROW (rpacs a)
  rpacs_so = given_so RPACS_ROW (place_named a 1) (access_at a.regs) (page_errs (Refuses RPACS_ROW) (in_ac a.regs 1) _ refl (place_errs (Refuses RPACS_ROW) a (in_ac a.regs 1) refl refl)) by
    where
      by : (place : MapPlace) → EndsSo RPACS_ROW (access_at a.regs place)
      by (of_fork slot) = λ e n. refl
      by (of_file j page) = λ n. refl

  spacs_so : EndsSo SPACS_ROW (spacs a)
  spacs_so = given_so SPACS_ROW (slot_named a) _ (page_errs (Refuses SPACS_ROW) (in_ac a.regs 1) _ refl (slot_errs (Refuses SPACS_ROW) a.tree.forks a.who (in_ac a.regs 1) refl)) (λ slot e. by slot e)
    where
      by : (slot : Slot) (e : MapEntry) → IsEnd SPACS_ROW (narrows slot (access_in (in_ac a.regs 2)) a.regs e)
      by slot entry.Empty = refl
      by slot (entry.Names n access) = refl
      by slot (entry.Follows serial page access) = refl

  rmap_so : EndsSo RMAP_ROW (rmap a)
  rmap_so = given_so RMAP_ROW (slot_named a) _ (page_errs (Refuses RMAP_ROW) (in_ac a.regs 1) _ refl (slot_errs (Refuses RMAP_ROW) a.tree.forks a.who (in_ac a.regs 1) refl)) (λ slot e n. refl)

module _ (s : PlainState) (f : Fork) where
  abbrev asked : MapAsked
  asked = asks_maps (parts_of s) f.name f.body.regs

  -- a turn that knows files by their names
  of_files : (row : CallRow) (t : Turn (List ℕ) MapChange) → EndsSo row t → IsEnd row (turn_on (files_seen (λ name. name) (parts_of s) f.name) s.pages t).end
  of_files row t so = ends_so row (files_seen (λ name. name) (parts_of s) f.name) (λ name. (name, refl)) t so s.pages

  pub map_all : All (IsAnswered s f) map_rows
  map_all = All-from_recursion (IsAnswered s f) map_rows (
    of_files PMAP_ROW (pmap asked) (pmap_so asked),
    (
      of_files RPACS_ROW (rpacs asked) (rpacs_so asked),
      (
        of_files SPACS_ROW (spacs asked) (spacs_so asked),
        (of_files RMAP_ROW (rmap asked) (rmap_so asked), tt),
      ),
    ),
  )
