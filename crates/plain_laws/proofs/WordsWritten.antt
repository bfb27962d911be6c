-- What a WORDS comes to, and that it leaves the plain state whole.
use Rattle.std.proofs.Common.{◌≡◌, ℕ, ◌+◌, ◌*◌, ◌<◌, ◌≤◌, Bool, true, false, cond, List, [], length, Option, None, Some, inl, inr, refl, sym, ◌∙◌, ap, subst, arith}
use Rattle.std.specs.Prelude.{is_some, nat_lt, take}
use Rattle.std.specs.Option.{option_map_or}
use Rattle.std.specs.Cmp.Lexicographic.{nat_list_cmp_total}
use Rattle.std.specs.FinMap as map
use Rattle.std.proofs.lemmas.List.{length-take-le}
use Rattle.outside.specs.declared.TheConstants.{PAGE_WORDS}
use Rattle.machine_names.specs.declared.names.PageName.{PageName}
use Rattle.machine_names.specs.declared.names.ForkName.{ForkName}
use Rattle.machine_names.specs.declared.names.Kind.TheVariants.{Write}
use Rattle.machine_names.specs.Bounds.{IsFileName}
use Rattle.machine_names.specs.PageWords.{zero_words}
use Rattle.machine_names.specs.Orders.{FilePage, name_cmp}
use Rattle.machine_names.proofs.OrderLemmas.{page_cmp_total}
use Rattle.machine_names.specs.declared.names.TheConstants.{FILE_PAGES}
use Rattle.plain_files.specs.declared.bounds.TheConstants.{LARGEST_BYTE}
use Rattle.plain_files.specs.Sizes.{PlainFile, reaching}
use Rattle.plain_pages.specs.PlainPages.{NamedPages, Maps}
use Rattle.plain_pages.specs.Room.{HasRoom, live}
use Rattle.plain_pages.specs.References.{in_file, blank, Referred, granted, full, make, next_page, reference}
use Rattle.plain_pages.specs.WholePages.{AreWhole}
use Rattle.plain_pages.proofs.FileWrites.{filled, filled_maps, filled_files, written_there, written_absent}
use Rattle.plain_pages.proofs.Makings.{make_whole}
use Rattle.plain_pages.proofs.ReferencesMade.{has_room}
use Rattle.plain_pages.proofs.Whole.{live_whole, unmade}
use Rattle.plain_units.proofs.PageRuns.{AreSound}
use Rattle.script_texts.specs.declared.event.Refusal.TheVariants.{NoFile, FileFull}
use Rattle.script_texts.specs.declared.event.WordRow.{WordRow}
use Rattle.script_texts.specs.Limits.{FitsRow}
use Rattle.plain_model.specs.State.{PlainState}
use Rattle.plain_model.specs.Trees.{next_serial, tree_of}
use Rattle.plain_model.specs.Unit.{Effect, refused}
use Rattle.plain_model.specs.FileEvents.{console, page_named, stored_row, written, write_words}
use Rattle.plain_laws.specs.Whole.{AreGiven, IsWholeMachine}
use Rattle.plain_laws.specs.WholeFiles.{FilePages, AreFilesWhole}
use Rattle.plain_laws.proofs.ByteSizes.{reaching_fits}
use Rattle.plain_laws.proofs.FilesKept.{file_put, page_put}
use Rattle.plain_laws.proofs.WholeForks.{filed_whole, sound}
use Rattle.plain_laws.proofs.Rows.{row_kept, row_maps, row_files}

-- a row lies within its page
pub row_within : (offset : ℕ) (row : WordRow) → FitsRow offset row → offset + length (take row.count row.words) ≤ PAGE_WORDS
row_within offset row fits = omega (arith, fits.within, length-take-le row.count row.words (omega (arith, fits.most, fits.room)))

module _ (s : PlainState) (name : List ℕ) (page offset : ℕ) (words : List ℕ) where
  abbrev pub spot : FilePage (List ℕ)
  spot = record { file = name; page = page }

  -- the state with the row in pages that have its page
  abbrev pub after : NamedPages → PlainFile → PlainState
  after q f = record s { pages = stored_row q (in_file spot) offset words; files = map.insert s.files name (reaching LARGEST_BYTE (page * PAGE_WORDS + offset + length words) f) }

  abbrev pub done : NamedPages → PlainFile → Effect
  done q f = record { state = after q f; items = [] }

  -- what WORDS comes to
  pub data Outcome : Type 0 where
    no_file : map.get s.files name ≡ None → write_words s name page offset words ≡ refused s (NoFile name) → Outcome
    no_room : map.contains_key s.files name ≡ true → map.get s.pages.files spot ≡ None → HasRoom (filled s.pages console spot) console ≡ false → write_words s name page offset words ≡ refused s (FileFull name) → Outcome
    there : (f : PlainFile) (n : PageName) → map.get s.files name ≡ Some f → map.get s.pages.files spot ≡ Some n → write_words s name page offset words ≡ done s.pages f → Outcome
    made : (f : PlainFile) → map.get s.files name ≡ Some f → map.get s.pages.files spot ≡ None → HasRoom (filled s.pages console spot) console ≡ true → write_words s name page offset words ≡ done (filled s.pages console spot) f → Outcome

  pub outcome : Outcome
  outcome = by (map.get s.files name) refl
    where
      act : PlainFile → Effect
      act f = written s name page offset words f (reference s.pages (page_named name page) Write console)

      found : (o : Option PlainFile) → map.get s.files name ≡ o → write_words s name page offset words ≡ option_map_or act o (refused s (NoFile name))
      found o is = ap (λ (x : Option PlainFile). option_map_or act x (refused s (NoFile name))) is

      come : (f : PlainFile) → map.get s.files name ≡ Some f → (r : Referred name_cmp) → reference s.pages (page_named name page) Write console ≡ r → write_words s name page offset words ≡ written s name page offset words f r
      come f is r refers = found (Some f) is ∙ ap (written s name page offset words f) refers

      roomy : (f : PlainFile) → map.get s.files name ≡ Some f → map.get s.pages.files spot ≡ None → (b : Bool) → HasRoom (filled s.pages console spot) console ≡ b → Outcome
      roomy f is none true room = made f is none room (come f is (granted (filled s.pages console spot)) (written_absent s.pages console spot none ∙ ap (λ b. cond b (granted (filled s.pages console spot)) full) room))
      roomy f is none false room = no_room (ap is_some is) none room (come f is full (written_absent s.pages console spot none ∙ ap (λ b. cond b (granted (filled s.pages console spot)) full) room))

      at_page : (f : PlainFile) → map.get s.files name ≡ Some f → (o : Option PageName) → map.get s.pages.files spot ≡ o → Outcome
      at_page f is (Some n) has = there f n is has (come f is (granted s.pages) (written_there s.pages console spot n has))
      at_page f is None none = roomy f is none (HasRoom (filled s.pages console spot) console) refl

      by : (o : Option PlainFile) → map.get s.files name ≡ o → Outcome
      by None none = no_file none (found None none)
      by (Some f) is = at_page f is (map.get s.pages.files spot) refl

  module _ (w : IsWholeMachine s) where
    -- a page that is made leaves whole pages whole, and is one more
    pub filled_whole : map.get s.pages.files spot ≡ None → AreWhole (filled s.pages console spot)
    filled_whole none = make_whole nat_list_cmp_total s.pages w.pages console (inr refl) (blank (in_file spot)) none

    pub filled_live : map.get s.pages.files spot ≡ None → live (filled s.pages console spot) ≡ live s.pages + 1
    unfolding make
    filled_live none = omega (arith, live_whole s.pages w.pages, live_whole (filled s.pages console spot) (filled_whole none), map.len-insert page_cmp_total s.pages.objects (next_page s.pages console) zero_words, ap (λ b. cond b (map.len s.pages.objects) (map.len s.pages.objects + 1)) new)
      where
        new : map.contains_key s.pages.objects (next_page s.pages console) ≡ false
        new = w.pages.named (next_page s.pages console) ∙ ap (nat_lt 0) (unmade s.pages w.pages console)

    module _ (full_name : IsFileName name) (below : page < FILE_PAGES) (within : offset + length words ≤ PAGE_WORDS) where
      -- the row leaves whole what has its page
      after_whole : (q : NamedPages) (f : PlainFile) → map.get s.files name ≡ Some f → AreSound q → q.maps ≡ s.pages.maps → AreFilesWhole s.files q.files s.jobs → IsWholeMachine (after q f)
      after_whole q f is good maps filed =
          let k = row_kept (in_file spot) q offset words nat_list_cmp_total good in
          let same = row_maps (in_file spot) q offset words ∙ maps in
          let g = reaching LARGEST_BYTE (page * PAGE_WORDS + offset + length words) f in
          let fits = reaching_fits LARGEST_BYTE (page * PAGE_WORDS + offset + length words) f (omega arith, omega arith) (w.files.named.named name f is).1 (omega (arith, below, within)) in
          let files = file_put s.files q.files s.jobs filed name g full_name fits (inl (ap is_some is)) in
          filed_whole s w (stored_row q (in_file spot) offset words) (map.insert s.files name g) k.sound.whole k.sound.room
          (subst (λ (m : FilePages). AreFilesWhole (map.insert s.files name g) m s.jobs) (sym (row_files (in_file spot) q offset words)) files)
          (λ (x : ForkName). ap (λ (m : Maps). map.contains_key m x) same) (subst (AreGiven (next_serial (tree_of s))) (sym same) w.given)

      pub words_whole : IsWholeMachine (write_words s name page offset words).state
      words_whole = by outcome
        where
          leaves : (e : Effect) → write_words s name page offset words ≡ e → IsWholeMachine e.state → IsWholeMachine (write_words s name page offset words).state
          leaves e is whole = subst (λ (x : Effect). IsWholeMachine x.state) (sym is) whole

          filed : (f : PlainFile) → map.get s.files name ≡ Some f → AreFilesWhole s.files (filled s.pages console spot).files s.jobs
          filed f at = subst (λ (m : FilePages). AreFilesWhole s.files m s.jobs) (sym (filled_files s.pages console spot)) (page_put s.files s.pages.files s.jobs w.files spot (next_page s.pages console) (ap is_some at) below)

          by : Outcome → IsWholeMachine (write_words s name page offset words).state
          by (no_file none is) = leaves (refused s (NoFile name)) is w
          by (no_room found none room is) = leaves (refused s (FileFull name)) is w
          by (there f n at has is) = leaves (done s.pages f) is (after_whole s.pages f at (sound s w) refl w.files)
          by (made f at none room is) =
              let q = filled s.pages console spot in
              let good : AreSound q = record { whole = filled_whole none; room = has_room q console room } in
              leaves (done q f) is (after_whole q f at good (filled_maps s.pages console spot) (filed f at))
