-- A change of a call on JFNs leaves the maps of forks; and what a job holds then.
use Rattle.std.proofs.Common.{◌≡◌, ℕ, List, Option, None, Some, refl, sym, ◌∙◌, ap, subst, Ordering}
use Rattle.std.specs.Option.{option_map_or}
use Rattle.std.specs.Cmp.{IsTotalOrder, nat_cmp_total}
use Rattle.std.specs.Ordering.{nat_cmp}
use Rattle.std.specs.FinMap as map
use Rattle.std.specs.FinMap.{nat_cmp-IsAntisymmetric}
use Rattle.machine_names.specs.declared.names.Tty.{Tty}
use Rattle.machine_names.proofs.Keys.{get_put}
use Rattle.plain_files.specs.OpenFiles.{OpenFile, OpenFiles}
use Rattle.plain_pages.specs.PlainPages.{PlainPages, Maps}
use Rattle.plain_pages.proofs.FilesKept.{without_maps}
use Rattle.plain_model.specs.declared.call.End.{End}
use Rattle.plain_model.specs.declared.call.End.TheVariants.{Done, Waits, Halts, Refused, Failed, Trap}
use Rattle.plain_model.specs.declared.call.FileChange.{FileChange}
use Rattle.plain_model.specs.declared.call.FileChange.TheVariants.{Take, Make, Open, Release, Delete}
use Rattle.plain_model.specs.Calls.{Sight, parts_behind}
use Rattle.plain_model.specs.FileCalls.{FileParts, JfnAsked, Jobs, deleted, file_changed, held_at, opened, with_held}
use Rattle.plain_model.specs.State.{PlainJob}
use Rattle.plain_model.proofs.JfnEnds.{FitsEnd}

module _ {K : Type 0} {file_cmp : K → K → Ordering} (o : IsTotalOrder file_cmp) (apart : map.IsAntisymmetric file_cmp) (key : List ℕ → K) where
  changed_maps : (change : FileChange) (v : FileParts file_cmp) → (file_changed key change v).pages.maps ≡ v.pages.maps
  unfolding file_changed
  changed_maps (Take t n name) v = refl
  changed_maps (Make t n name) v = refl
  changed_maps (Open t n mode size) v = by (map.get (held_at v.jobs t) n)
    where
      by : (j : Option OpenFile) → (option_map_or (opened key v t n mode size) j v).pages.maps ≡ v.pages.maps
      by None = refl
      by (Some j) = refl
  changed_maps (Release t n) v = refl
  changed_maps (Delete t n) v = by (map.get (held_at v.jobs t) n)
    where
      by : (j : Option OpenFile) → (option_map_or (deleted key v t n) j v).pages.maps ≡ v.pages.maps
      by None = refl
      by (Some j) = without_maps o apart v.pages (key j.file)

  -- so does a turn, but for what it made
  module _ (a : JfnAsked) (sight : Sight ⊥ K) (Holds : Maps → Type 0) (v : FileParts file_cmp) (q : PlainPages file_cmp) where
    pub left_maps : (e : End FileChange) → Holds v.pages.maps → FitsEnd a sight (λ (r : PlainPages file_cmp). Holds r.maps) e q → Holds (parts_behind (file_changed key) v (record v { pages = q }) e).pages.maps
    unfolding parts_behind
    left_maps (Done change regs out post) old fits = subst Holds (sym (changed_maps change (record v { pages = q }))) fits.1
    left_maps (Waits on) old fits = old
    left_maps Halts old fits = old
    left_maps (Refused code) old fits = old
    left_maps (Failed code) old fits = old
    left_maps (Trap channel) old fits = old

module _ (jobs : Jobs) (t : Tty) where
  -- who holds a JFN is a job
  pub held_job : (n : ℕ) (i : OpenFile) → map.get (held_at jobs t) n ≡ Some i → (j : PlainJob) × (map.get jobs t.0 ≡ Some j) × (map.get j.jfns n ≡ Some i)
  held_job n i = by (map.get jobs t.0) refl
    where
      by : (o : Option PlainJob) → map.get jobs t.0 ≡ o → map.get (option_map_or (λ j. j.jfns) o map.empty) n ≡ Some i → (j : PlainJob) × (map.get jobs t.0 ≡ Some j) × (map.get j.jfns n ≡ Some i)
      by None is held = absurd (let no : None ≡ Some i = sym (map.get-empty nat_cmp n) ∙ held in cc no)
      by (Some j) is held = (j, is, held)

  -- which holds then what was changed
  pub held_then : (j : PlainJob) → map.get jobs t.0 ≡ Some j → (change : OpenFiles → OpenFiles) → held_at (with_held jobs t change) t ≡ change (held_at jobs t)
  held_then j job change =
      ap (λ (o : Option PlainJob). held_at (option_map_or (λ k. map.insert jobs t.0 (record k { jfns = change k.jfns })) o jobs) t) job
      ∙ ap (λ (o : Option PlainJob). option_map_or (λ k. k.jfns) o map.empty) (get_put nat_cmp_total nat_cmp-IsAntisymmetric jobs t.0 t.0 (record j { jfns = change j.jfns }) refl)
      ∙ sym (ap (λ (o : Option PlainJob). change (option_map_or (λ k. k.jfns) o map.empty)) job)
