-- A turn of a call on maps leaves a whole state whole.
use Rattle.std.proofs.Common.{◌≡◌, ◌<◌, ℕ, List, true, Option, None, Some, ◌⊎◌, inl, inr, refl, sym, ◌∙◌, ap, subst, arith}
use Rattle.std.specs.Prelude.{slice_index}
use Rattle.std.specs.Cmp.Lexicographic.{nat_list_cmp_total}
use Rattle.std.specs.FinMap as map
use Rattle.machine_names.specs.Bounds.{IsOwner}
use Rattle.machine_names.specs.declared.names.TheConstants.{FILE_PAGES}
use Rattle.machine_names.specs.declared.names.ForkName.{ForkName}
use Rattle.machine_names.specs.declared.names.PageName.{PageName}
use Rattle.machine_names.specs.declared.names.Kind.{Kind}
use Rattle.machine_names.specs.declared.names.Slot.{Slot}
use Rattle.machine_names.specs.declared.names.Tty.{Tty}
use Rattle.machine_names.proofs.OrderLemmas.{name_cmp_apart}
use Rattle.plain_files.specs.OpenFiles.{OpenFile}
use Rattle.plain_pages.specs.PlainPages.{NamedPages, Maps}
use Rattle.plain_pages.specs.FilePages.{files_with}
use Rattle.plain_pages.specs.References.{Spot, granted, in_file, in_map, next_page, page_at, reference, slot_at, stored}
use Rattle.plain_pages.proofs.ReferencesMade.{reference_room, reference_whole}
use Rattle.plain_units.specs.declared.registers.Regs.{Regs}
use Rattle.plain_units.specs.Blocks.{steps_on}
use Rattle.plain_units.specs.Steps.{Steps, begun}
use Rattle.plain_units.proofs.PageRuns.{AreSound, Keeps, PlanLeaves, reference_kept, stored_kept, stored_maps}
use Rattle.plain_model.specs.declared.call.End.{End}
use Rattle.plain_model.specs.declared.call.End.TheVariants.{Done, Waits, Halts, Refused, Failed, Trap}
use Rattle.plain_model.specs.declared.call.MapChange.{MapChange}
use Rattle.plain_model.specs.declared.call.MapChange.TheVariants.{Nothing, Unmap, Follow, Narrow, Map, Put, Drop}
use Rattle.plain_model.specs.declared.fork.Fork.{Fork}
use Rattle.plain_model.specs.Calls.{parts_behind}
use Rattle.plain_model.specs.Families.{asks_maps}
use Rattle.plain_model.specs.FileCalls.{held_at}
use Rattle.plain_model.specs.MapCalls.{map_call, map_changed}
use Rattle.plain_model.specs.State.{PlainState}
use Rattle.plain_model.specs.Trees.{next_serial, tree_of}
use Rattle.plain_model.specs.Unit.{parts_of}
use Rattle.plain_model.proofs.Calling.{map_came, map_pages}
use Rattle.plain_model.proofs.JfnChanges.{held_job}
use Rattle.plain_model.proofs.MapTurns.{change_whole, files_behind}
use Rattle.plain_laws.specs.Whole.{AreGiven, IsWholeMachine}
use Rattle.plain_laws.specs.WholeFiles.{AreFilesWhole, FilePages}
use Rattle.plain_laws.proofs.FileMakings.{file_leaves}
use Rattle.plain_laws.proofs.FilesKept.{page_gone, page_put}
use Rattle.plain_laws.proofs.GivenSerials.{IsGivenChange, change_given, reference_given}
use Rattle.plain_laws.proofs.Led.{run_led}
use Rattle.plain_laws.proofs.MapEnds.{ChangeIn, EndIn, SpotIn, came_in, map_call_in}
use Rattle.plain_laws.proofs.WholeForks.{filed_whole, lived_given, sound}

module _ (s : PlainState) (w : IsWholeMachine s) where
  abbrev pub There : List ℕ → Type 0
  There name = map.contains_key s.files name ≡ true

  abbrev AreFiles : FilePages → Type 0
  AreFiles m = AreFilesWhole s.files m s.jobs

  -- pages that a turn made: they are sound, of the same forks, follow forks that were there, and the files are whole with them
  pub record After (q : NamedPages) : Type 0 where
    pub sound : AreSound q
    pub keys : (f : ForkName) → map.contains_key q.maps f ≡ map.contains_key s.pages.maps f
    pub given : AreGiven (next_serial (tree_of s)) q.maps
    pub filed : AreFiles q.files

  pub at_first : After s.pages
  at_first = record { sound = sound s w; keys = λ f. refl; given = w.given; filed = w.files }

  -- so are those that keep the forks and the files, and what entries follow
  kept_after : (p q : NamedPages) → After p → Keeps p q → AreGiven (next_serial (tree_of s)) q.maps → After q
  kept_after p q h k given = record { sound = k.sound; keys = λ f. k.forks.keys f ∙ h.keys f; given = given; filed = subst AreFiles (sym k.forks.files) h.filed }

  slot_refers : (t : Tty) → IsOwner t → (p q : NamedPages) (at : Slot) (kind : Kind) → After p → reference p (in_map at) kind t ≡ granted q → After q
  slot_refers t own p q at kind h g = kept_after p q h (reference_kept nat_list_cmp_total t own p q at kind h.sound g) (reference_given (next_serial (tree_of s)) nat_list_cmp_total t p q at kind h.given g)

  stores_on : (p : NamedPages) (at : Slot) (offset word : ℕ) → After p → After (stored p (in_map at) offset word)
  stores_on p at offset word h =
      kept_after p (stored p (in_map at) offset word) h (stored_kept p (in_map at) offset word nat_list_cmp_total h.sound) (subst (AreGiven (next_serial (tree_of s))) (sym (stored_maps p (in_map at) offset word)) h.given)

  -- steps of a fork
  pub runs_on : (t : Tty) → IsOwner t → (p : NamedPages) (f : ForkName) (regs : Regs) (steps : Steps) → f.tty ≡ t → After p → PlanLeaves After f (steps_on f regs steps p)
  runs_on t own p f regs steps same h = run_led f After (λ q r a kind k g. slot_refers f.tty (subst IsOwner (sym same) own) q r (slot_at f a) kind k g) stores_on steps (begun p regs.ac) h

  pub refers_on : (t : Tty) → IsOwner t → (p q : NamedPages) (at : Spot (List ℕ)) (kind : Kind) → SpotIn s.forks t There at → After p → reference p at kind t ≡ granted q → After q
  refers_on t own p q (in_map at) kind here h g = slot_refers t own p q at kind h g
  refers_on t own p q (in_file f) kind here h g =
      let l = file_leaves p q t f kind g in
      record {
        sound = record { whole = reference_whole nat_list_cmp_total t (in_file f) kind own p q h.sound.whole g; room = reference_room t (in_file f) kind p q h.sound.room g };
        keys = λ x. ap (λ (m : Maps). map.contains_key m x) l.maps ∙ h.keys x;
        given = subst (AreGiven (next_serial (tree_of s))) (sym l.maps) h.given;
        filed = by l.files;
      }
    where
      by : (q.files ≡ p.files) ⊎ (q.files ≡ map.insert p.files f (next_page p t)) → AreFiles q.files
      by (inl e) = subst AreFiles (sym e) h.filed
      by (inr e) = subst AreFiles (sym e) (page_put s.files p.files s.jobs h.filed f (next_page p t) here.0 here.1)

  -- a change of them
  module _ (t : Tty) (q : NamedPages) (h : After q) where
    abbrev FitsChange : MapChange → Type 0
    FitsChange what = ChangeIn s.forks t There what

    page_left : (name : List ℕ) (page : ℕ) (n : Option PageName) → There name → page < FILE_PAGES → AreFiles (files_with q (record { file = name; page = page }) n)
    page_left name page None there below = page_gone s.files q.files s.jobs h.filed (record { file = name; page = page })
    page_left name page (Some n) there below = page_put s.files q.files s.jobs h.filed (record { file = name; page = page }) n there below

    filed_left : (what : MapChange) → FitsChange what → AreFiles (files_behind (λ name. name) q what)
    filed_left Nothing fits = h.filed
    filed_left (Unmap at) fits = h.filed
    filed_left (Follow at from a) fits = h.filed
    filed_left (Narrow at a) fits = h.filed
    filed_left (Map at name page a) fits = h.filed
    filed_left (Put name page at) fits = page_left name page (page_at q (in_map at)) fits.0 fits.1
    filed_left (Drop name page) fits = page_gone s.files q.files s.jobs h.filed (record { file = name; page = page })

    -- it follows forks that live
    follows : (what : MapChange) → FitsChange what → IsGivenChange (next_serial (tree_of s)) what
    follows Nothing fits = tt
    follows (Unmap at) fits = tt
    follows (Follow at from a) fits =
        let job : from.fork.tty.0 ≡ at.fork.tty.0 = fits.1.1 ∙ sym fits.0.1 in
        omega (arith, lived_given s w from.fork fits.1.0, ap (slice_index s.fork_serials) job)
    follows (Narrow at a) fits = tt
    follows (Map at name page a) fits = tt
    follows (Put name page at) fits = tt
    follows (Drop name page) fits = tt

    changed_whole : (what : MapChange) → FitsChange what → IsWholeMachine (record s { pages = map_changed (λ name. name) what q })
    changed_whole what fits =
        let c = change_whole nat_list_cmp_total name_cmp_apart (λ name. name) q h.sound.whole what in
        filed_whole s w (map_changed (λ name. name) what q) s.files c.whole (omega (arith, c.room, c.limit, h.sound.room)) (subst AreFiles (sym c.files) (filed_left what fits)) (λ f. c.keys f ∙ h.keys f)
        (change_given (next_serial (tree_of s)) nat_list_cmp_total name_cmp_apart (λ name. name) q h.sound.whole h.given what (follows what fits))

  -- A TURN OF A CALL ON MAPS LEAVES A WHOLE STATE WHOLE
  pub map_called_whole : (f : Fork) → IsOwner f.name.tty → (number : ℕ) → IsWholeMachine (record s { pages = map_pages s f number })
  unfolding parts_behind
  map_called_whole f own number =
      let came = came_in s.forks f.name.tty There (ChangeIn s.forks f.name.tty There) (parts_of s) f.name After (refers_on f.name.tty own) (runs_on f.name.tty own) (map_call number (asks_maps (parts_of s) f.name f.body.regs))
      (map_call_in (asks_maps (parts_of s) f.name f.body.regs) w.tree.slotted.own There file_of_held number) s.pages at_first in
      by (map_came s f number).end came.0 came.1
    where
      file_of_held : (n : ℕ) (j : OpenFile) → map.get (held_at s.jobs f.name.tty) n ≡ Some j → There j.file
      file_of_held n j held = let k = held_job s.jobs f.name.tty n j held in let fits = w.files.jfns f.name.tty.0 k.0 k.1 n j k.2 in fits.2.0

      by : (e : End MapChange) → EndIn s.forks f.name.tty There e → After (map_came s f number).pages → IsWholeMachine (record s { pages = parts_behind (map_changed (λ name. name)) s.pages (map_came s f number).pages e })
      by (Done what regs out post) fits h = changed_whole f.name.tty (map_came s f number).pages h what fits
      by (Waits on) fits h = w
      by Halts fits h = w
      by (Refused code) fits h = w
      by (Failed code) fits h = w
      by (Trap channel) fits h = w
