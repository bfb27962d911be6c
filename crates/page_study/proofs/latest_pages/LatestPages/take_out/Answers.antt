use Rattle.std.proofs.Common.{rules, ◌≡◌, Bool, List, false, get_or, arith, refl, sym, ap, ◌∙◌}
use Rattle.std.specs.List.{remove}
use Rattle.std.proofs.lemmas.List.{get_or_default}
use Rattle.sum_tree.specs.Marks.{marks_below}
use Rattle.page_study.specs.declared.latest_pages.LatestPages.{LatestPages}
use Rattle.page_study.specs.declared.seats.Seat.{Seat}
use Rattle.page_study.specs.Seats.{IsNowhere, IsSeatOf, no_use, page_of, seat_at, uses_of}
use Rattle.page_study.proofs.Linked.{nobody}
use Rattle.page_study.proofs.Moved.{left_uses, same_page, use_is}
use Rattle.page_study.proofs.Seated.{below_kept, nowhere, seated_at, seated_within}
use Rattle.page_study.proofs.latest_pages.LatestPages.take_out.Goals as goal

pub returns-in_err-at-clause-used : goal.returns-in_err-at-clause-used
returns-in_err-at-clause-used c =
    let s = c.args.self.now in
    let none : IsNowhere s c.args.page = search rules in
    rw c.from_residual.ensures (nowhere c.args.page s.taken s.seats.items c.requires.linked.marks none, refl)

pub returns-clause-used : goal.returns-clause-used
returns-clause-used c =
    let s = c.args.self.now in
    let at = c.in_ok-at.at in
    let there : IsSeatOf s c.args.page at = search rules in
    let t : LatestPages = record s { taken = c.clear.new.self } in
    let e : c.below.result ≡ marks_below s.taken at = c.below.ensures ∙ ap (λ (ts : List Bool). marks_below ts at) c.clear.ensures ∙ below_kept s.taken at at false (omega arith) in
    let seat : seat_at s.seats.items at ≡ c.index.result.now = get_or_default s.seats.items at nobody c.index.result.now there.within ∙ sym c.index.ensures in
    let page : c.index.result.now.last.page ≡ c.args.page = sym (ap (λ (u : Seat). u.last.page) seat) ∙ sym (same_page c.args.page (page_of s.seats.items at) there.page) in (
      omega (arith, e, seated_within s.taken s.seats.items at c.requires.linked.marks there.taken),
      ap (λ k. get_or (uses_of s) k no_use) e ∙ seated_at s.taken s.seats.items at c.requires.linked.marks there.taken
          ∙ ap (λ (u : Seat). u.last) seat ∙ use_is c.index.result.now.last c.args.page page,
      left_uses s t at c.requires.linked there.taken refl refl refl refl c.clear.ensures ∙ ap (remove (uses_of s)) (sym e),
    )
