-- What RUN leaves of forks and pages does not depend on what files are known by.
use Rattle.std.proofs.Common.{◌≡◌, ℕ, zero, suc, refl, sym, ◌∙◌, ap, Ordering}
use Rattle.std.specs.FinMap as map
use Rattle.machine_names.specs.declared.names.ForkName.{ForkName}
use Rattle.machine_names.specs.declared.names.PageName.{PageName}
use Rattle.machine_names.specs.declared.names.Slot.{Slot}
use Rattle.machine_names.specs.declared.names.TheConstants.{SPACE_PAGES}
use Rattle.machine_names.specs.Orders.{file_page_cmp}
use Rattle.plain_pages.specs.PlainPages.{PlainPages, refiled}
use Rattle.plain_pages.specs.References.{with_changed}
use Rattle.plain_pages.proofs.Refiled.{NameAlike}
use Rattle.plain_units.proofs.RefiledUnits.{still_alike}
use Rattle.plain_model.proofs.ForkTurns.{inferiors_leave, inferiors_refiled, refiled_parts}
use Rattle.plain_model.proofs.MapTurns.{changed_leaves, changed_refiled}
use Rattle.plain_model.specs.Trees.{with_changed_of}
use Rattle.plain_model.specs.Commands.{begun_at, program_entry, with_program, with_program_page, with_program_run}
use Rattle.plain_model.specs.ForkCalls.{ForkParts, without_inferiors}

module _ {K : Type 0} {file_cmp : K → K → Ordering} where
  pub program_leaves : (n : ℕ) (p : PlainPages file_cmp) (top : ForkName) (file : K) → (with_program n p top file).files ≡ p.files
  unfolding with_program
  program_leaves zero p top file = refl
  program_leaves (suc page) p top file =
      let q = with_program page p top file in
      changed_leaves q (record { fork = top; page = page }) (λ e. program_entry (map.get q.files (record { file = file; page = page }))) ∙ program_leaves page p top file

  pub run_leaves : (v : ForkParts file_cmp) (top : ForkName) (file : K) (address : ℕ) → (with_program_run v top file address).pages.files ≡ v.pages.files
  run_leaves v top file address = program_leaves SPACE_PAGES (without_inferiors v top).pages top file ∙ inferiors_leave v top

module _ {K L : Type 0} {file_cmp : K → K → Ordering} (other_cmp : L → L → Ordering) (files : map.FinMap (file_page_cmp other_cmp) PageName) where
  module _ (file : K) (other : L) where
    pub program_same : (n : ℕ) (p : PlainPages file_cmp) (top : ForkName) → NameAlike other_cmp p files → ((page : ℕ) → map.get files (record { file = other; page = page }) ≡ map.get p.files (record { file = file; page = page }))
        → with_program n (refiled other_cmp p files) top other ≡ refiled other_cmp (with_program n p top file) files
    unfolding with_program
    program_same zero p top alike under = refl
    program_same (suc page) p top alike under =
        let q = with_program page p top file in
        let slot : Slot = record { fork = top; page = page } in
        let kept = program_leaves page p top file in
        let entry : map.get files (record { file = other; page = page }) ≡ map.get q.files (record { file = file; page = page }) = under page ∙ ap (λ m. map.get m (record { file = file; page = page })) (sym kept) in
        ap (λ (r : PlainPages other_cmp). with_program_page r top other page) (program_same page p top alike under)
        ∙ (λ i. with_changed (refiled other_cmp q files) slot (λ e. program_entry (entry i)))
        ∙ changed_refiled other_cmp files q (still_alike other_cmp files p q alike kept) slot (λ e. program_entry (map.get q.files (record { file = file; page = page })))

    pub run_same : (v : ForkParts file_cmp) (top : ForkName) (address : ℕ) → NameAlike other_cmp v.pages files → ((page : ℕ) → map.get files (record { file = other; page = page }) ≡ map.get v.pages.files (record { file = file; page = page }))
        → with_program_run (refiled_parts other_cmp files v) top other address ≡ refiled_parts other_cmp files (with_program_run v top file address)
    run_same v top address alike under =
        let alone = without_inferiors v top in
        let kept = inferiors_leave v top in
        ap (λ (u : ForkParts other_cmp). record { tree = with_changed_of u.tree top (begun_at address); pages = with_program SPACE_PAGES u.pages top other }) (inferiors_refiled other_cmp files v top alike)
        ∙ ap (λ (p : PlainPages other_cmp). record { tree = with_changed_of alone.tree top (begun_at address); pages = p }) (program_same SPACE_PAGES alone.pages top (still_alike other_cmp files v.pages alone.pages alike kept)
        (λ page. under page ∙ ap (λ m. map.get m (record { file = file; page = page })) (sym kept)))
