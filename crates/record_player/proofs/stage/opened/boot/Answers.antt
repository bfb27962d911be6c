use Rattle.std.proofs.Common.{Result, Ok, Err, IfOk, sym, ◌∙◌, ap}
use Rattle.std.specs.Ordering.{nat_cmp}
use Rattle.plain_model.specs.State.{opening}
use Rattle.plain_pages.specs.PlainPages.{opening_pages}
use Rattle.record_player.proofs.stage.opened.boot.Goals as goal

-- what follows of a result from two facts of it
if_both : {A E : Type 0} {P Q : A → Type 0} (r : Result A E) → ((x : A) → P x → Q x) → IfOk r P → IfOk r Q
if_both (Ok x) so p = so x p
if_both (Err e) so p = p

pub over-requires-clause-opening : goal.over-requires-clause-opening
over-requires-clause-opening c d u = c.in_ok-slots.ensures.plain d ∙ ap (opening_pages nat_cmp) (sym c.in_ok-slots.ensures.most)

pub returns-clause-opened : goal.returns-clause-opened
returns-clause-opened c =
    if_both c.over.result
    (λ m state d homes. let s = state d (c.in_ok-slots.ensures.fits d homes) in (s.0, s.1 ∙ ap opening c.in_ok-slots.ensures.most))
    c.over.ensures.state
