-- The orders of names: they are total, and only equal names tie.
use Rattle.std.proofs.Common.{◌≡◌, ℕ, ◌&&◌, ◌==◌, refl, arith, rules, Ordering}
use Rattle.std.specs.declared.cmp.Ordering.{Ordering}
use Rattle.std.specs.declared.cmp.Ordering.TheVariants.{Less, Equal, Greater}
use Rattle.std.specs.Ordering.{is_eq, eq_by_cmp, nat_cmp, ordering_then}
use Rattle.std.proofs.lemmas.Cmp.{nat_cmp_total, on_total, then_total}
use Rattle.std.specs.Cmp.{IsTotalOrder, nat_cmp_total}
use Rattle.std.specs.FinMap.{IsAntisymmetric, nat_cmp-IsAntisymmetric, slice_cmp-IsAntisymmetric}
use Rattle.machine_names.specs.declared.names.ForkName.{ForkName}
use Rattle.machine_names.specs.declared.names.PageName.{PageName}
use Rattle.machine_names.specs.Orders.{name_cmp, fork_cmp, page_cmp, same_fork, file_page_cmp}
use Rattle.std.specs.Prelude.{◌==◌}

pub fork_cmp_total : IsTotalOrder fork_cmp
fork_cmp_total = then_total (on_total (λ f. f.tty.0) nat_cmp_total) (on_total (λ f. f.serial) nat_cmp_total)

pub page_cmp_total : IsTotalOrder page_cmp
page_cmp_total = then_total (on_total (λ p. p.tty.0) nat_cmp_total) (on_total (λ p. p.serial) nat_cmp_total)

-- two numbers each: both tie where the pair does
tied_first : (r s : Ordering) → ordering_then r s ≡ Equal → r ≡ Equal
tied_first Less s e = e
tied_first Equal s e = refl
tied_first Greater s e = e

tied_second : (r s : Ordering) → ordering_then r s ≡ Equal → s ≡ Equal
tied_second Less s e = cc
tied_second Equal s e = e
tied_second Greater s e = cc

pub fork_cmp_apart : IsAntisymmetric fork_cmp
fork_cmp_apart f g e =
    let t = nat_cmp-IsAntisymmetric f.tty.0 g.tty.0 (tied_first (nat_cmp f.tty.0 g.tty.0) (nat_cmp f.serial g.serial) e) in
    let s = nat_cmp-IsAntisymmetric f.serial g.serial (tied_second (nat_cmp f.tty.0 g.tty.0) (nat_cmp f.serial g.serial) e) in
    λ i. record { tty = record { 0 = t i }; serial = s i }

pub page_cmp_apart : IsAntisymmetric page_cmp
page_cmp_apart f g e =
    let t = nat_cmp-IsAntisymmetric f.tty.0 g.tty.0 (tied_first (nat_cmp f.tty.0 g.tty.0) (nat_cmp f.serial g.serial) e) in
    let s = nat_cmp-IsAntisymmetric f.serial g.serial (tied_second (nat_cmp f.tty.0 g.tty.0) (nat_cmp f.serial g.serial) e) in
    λ i. record { tty = record { 0 = t i }; serial = s i }

-- the order of two pairs says Equal exactly where both numbers are equal
pub pairs_tied : (a b c d : ℕ) → is_eq (ordering_then (nat_cmp a b) (nat_cmp c d)) ≡ (a == b) && (c == d)
pairs_tied a b c d = grind (arith, rules)

pub fork_tied : (f g : ForkName) → eq_by_cmp fork_cmp f g ≡ same_fork f g
fork_tied f g = pairs_tied f.tty.0 g.tty.0 f.serial g.serial

pub page_tied : (p q : PageName) → eq_by_cmp page_cmp p q ≡ (p.tty.0 == q.tty.0) && (p.serial == q.serial)
page_tied p q = pairs_tied p.tty.0 q.tty.0 p.serial q.serial

pub file_page_total : {K : Type 0} {file_cmp : K → K → Ordering} → IsTotalOrder file_cmp → IsTotalOrder (file_page_cmp file_cmp)
file_page_total o = then_total (on_total (λ f. f.file) o) (on_total (λ f. f.page) nat_cmp_total)

pub name_cmp_apart : IsAntisymmetric name_cmp
name_cmp_apart = slice_cmp-IsAntisymmetric nat_cmp-IsAntisymmetric

pub file_page_apart : {K : Type 0} {file_cmp : K → K → Ordering} → IsAntisymmetric file_cmp → IsAntisymmetric (file_page_cmp file_cmp)
file_page_apart {file_cmp = file_cmp} apart f g e =
    let file = apart f.file g.file (tied_first (file_cmp f.file g.file) (nat_cmp f.page g.page) e) in
    let page = nat_cmp-IsAntisymmetric f.page g.page (tied_second (file_cmp f.file g.file) (nat_cmp f.page g.page) e) in
    λ i. record { file = file i; page = page i }
