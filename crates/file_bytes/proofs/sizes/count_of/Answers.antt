use Rattle.std.proofs.Common.{◌≡◌, ℕ, ◌+◌, sym, ◌∙◌, ap, arith}
use Rattle.std.specs.Prelude.{is_some}
use Rattle.machine_names.specs.Orders.{file_page}
use Rattle.machine_names.specs.declared.names.TheConstants.{FILE_PAGES}
use Rattle.file_bytes.proofs.Counts.{counts, few, more_gone, more_there, none_yet, pages_counted}
use Rattle.file_bytes.proofs.sizes.count_of.Goals.{then-is_some, else-is_some}
use Rattle.file_bytes.proofs.sizes.count_of.Goals as goal

pub loop-page-init : goal.loop-page-init
loop-page-init g c = none_yet (λ page. is_some (g.P.Pages.means.filed c.args.pages.now (file_page c.args.file.0 page)))

pub overflow_add-count : goal.overflow_add-count
overflow_add-count g c =
    omega (arith, c.loop-page.invariant, few (λ page. is_some (g.P.Pages.means.filed c.args.pages.now (file_page c.args.file.0 page))) c.loop-page.page, c.loop-page-test.true)

pub loop-page-preserved : goal.loop-page-preserved
loop-page-preserved g c =
    let is = λ (page : ℕ). is_some (g.P.Pages.means.filed c.args.pages.now (file_page c.args.file.0 page)) in
    let here = sym (ap is_some c.page_of.ensures) in
    elim c.if-is_some.branch [
      | then-is_some w ↦ w.count-is ∙ ap (λ (n : ℕ). n + 1) c.loop-page.invariant ∙ sym (more_there is c.loop-page.page (here ∙ sym c.is_some.ensures ∙ w.if-is_some.true))
      | else-is_some w ↦ w.count-is ∙ c.loop-page.invariant ∙ sym (more_gone is c.loop-page.page (here ∙ sym c.is_some.ensures ∙ w.if-is_some.false))
    ]

pub returns-clause-count : goal.returns-clause-count
returns-clause-count g c d f =
    let means = g.P.Pages.means in
    let s = c.args.pages.now in
    let last : c.loop-page.page ≡ FILE_PAGES = omega (arith, c.loop-page-test.false, c.loop-page.auto.page-end) in
    c.loop-page.invariant ∙ ap (counts (λ page. is_some (means.filed s (file_page c.args.file.0 page)))) last
    ∙ pages_counted (means.plain s d) c.args.file.0 (means.filed s) (g.met.P.Pages.agrees s d f).filed (λ at n is. ((g.met.P.Pages.housed s).filed at n is).1)

pub returns-clause-small : goal.returns-clause-small
returns-clause-small g c =
    omega (arith, c.loop-page.invariant, few (λ page. is_some (g.P.Pages.means.filed c.args.pages.now (file_page c.args.file.0 page))) c.loop-page.page, c.loop-page.auto.page-end)
