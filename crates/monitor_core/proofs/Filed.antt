-- The pages of a state, which knows files by their names, as a system's pages know them by numbers.
use Rattle.std.proofs.Common.{◌≡◌, ℕ, List, true, sym, ◌∙◌, subst}
use Rattle.std.specs.Cmp.{nat_cmp_total}
use Rattle.std.specs.Cmp.Lexicographic.{nat_list_cmp_total}
use Rattle.std.specs.FinMap as fin
use Rattle.machine_names.specs.declared.names.PageName.{PageName}
use Rattle.machine_names.specs.declared.names.Tty.{Tty}
use Rattle.machine_names.specs.declared.names.Slot.{Slot}
use Rattle.machine_names.specs.declared.names.ForkName.{ForkName}
use Rattle.plain_units.specs.declared.registers.Regs.{Regs}
use Rattle.machine_names.specs.declared.names.Kind.{Kind}
use Rattle.machine_names.specs.Orders.{name_cmp, file_page_cmp}
use Rattle.std.specs.Ordering.{nat_cmp}
use Rattle.plain_pages.specs.PlainPages.{NumberedPages, NamedPages, refiled}
use Rattle.plain_pages.specs.References.{in_map, reference}
use Rattle.plain_units.specs.Steps.{Progress, Ending, done, begun, pages_left}
use Rattle.plain_units.specs.Instructions.{instruction}
use Rattle.plain_units.specs.Units.{unit_on}
use Rattle.plain_files.specs.Sizes.{PlainFile}
use Rattle.machine_names.proofs.OrderLemmas.{name_cmp_apart}
use Rattle.plain_model.proofs.Keyed.{AreKeyed, keyed_by, keyed_once, totals_keyed}
use Rattle.plain_pages.proofs.Whole.{tally}
use Rattle.plain_pages.proofs.Refiled.{NameAlike, refiled_result, reference_refiled}
use Rattle.plain_units.proofs.RefiledUnits.{refiled_plan, run_refiled, LeavesFiles, run_leaves, left_leaves}

-- the pages of files under names
abbrev pub NamedFiles : Type 0
NamedFiles = fin.FinMap (file_page_cmp name_cmp) PageName

-- the same pages, with the pages of files under names
abbrev pub keyed : NamedFiles → NumberedPages → NamedPages
keyed filed p = refiled name_cmp p filed

-- a file of a name is among these
abbrev pub IsIn : fin.FinMap name_cmp PlainFile → List ℕ → Type 0
IsIn files name = fin.contains_key files name ≡ true

-- the files of these names have the same pages under their keys as under their names, and no page is in another file
abbrev pub AreKept : (List ℕ → Type 0) → (List ℕ → ℕ) → NumberedPages → NamedFiles → Type 0
AreKept There key p filed = AreKeyed nat_cmp name_cmp There key (λ name. name) p.files filed

module _ (There : List ℕ → Type 0) (key : List ℕ → ℕ) (p : NumberedPages) (filed : NamedFiles) (kept : AreKept There key p filed) where
  -- each page is named as often
  pub kept_alike : NameAlike name_cmp p filed
  kept_alike n = totals_keyed nat_cmp_total fin.nat_cmp-IsAntisymmetric nat_list_cmp_total name_cmp_apart There key (λ name. name) p.files filed kept (tally n)

  module _ (q : NumberedPages) (same : q.files ≡ p.files) where
    pub kept_on : AreKept There key q filed
    kept_on = subst (λ m. AreKeyed nat_cmp name_cmp There key (λ (name : List ℕ). name) m filed) (sym same) kept

    -- before and behind what leaves the files
    pub kept_still : AreKept (λ name. There name × There name) key q filed
    kept_still = keyed_by nat_cmp name_cmp There (λ name. There name × There name) key (λ name. name) q.files filed (λ name h. (h, h)) (λ name h. h.0) kept_on

-- there is one map of pages under names that goes with pages under numbers
pub kept_once : (There : List ℕ → Type 0) (key : List ℕ → ℕ) (p : NumberedPages) (n k : NamedFiles) → AreKept There key p n → AreKept There key p k → n ≡ k
kept_once There key p n k x y = keyed_once nat_cmp_total fin.nat_cmp-IsAntisymmetric nat_list_cmp_total name_cmp_apart There key (λ name. name) p.files n k x y

module _ (filed : NamedFiles) (p : NumberedPages) (alike : NameAlike name_cmp p filed) where
  -- a reference to a map's page is the same
  pub reference_keyed : (s : Slot) (kind : Kind) (owner : Tty) → reference (keyed filed p) (in_map s) kind owner ≡ refiled_result name_cmp (reference p (in_map s) kind owner) filed
  reference_keyed s kind owner = reference_refiled name_cmp filed owner p s kind alike

  -- and so is a unit
  pub unit_keyed : (f : ForkName) (regs : Regs) → unit_on f (keyed filed p) regs ≡ refiled_plan name_cmp filed (unit_on f p regs)
  unit_keyed f regs = run_refiled name_cmp filed f (instruction regs) (begun p regs.ac) alike

module _ (p : NumberedPages) where
  -- which leaves the pages of files
  pub unit_files : (f : ForkName) (regs : Regs) (t : Progress nat_cmp) (e : Ending) → unit_on f p regs ≡ done t e → (pages_left f t e).files ≡ p.files
  unit_files f regs t e is = left_leaves f t e ∙ subst (LeavesFiles p.files) is (run_leaves f (instruction regs) (begun p regs.ac))
