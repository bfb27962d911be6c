use Rattle.std.proofs.Common.{◌<◌, ◌∙◌, ap, map, subst, sym}
use Rattle.std.proofs.lemmas.Grind.{get_or_default_zero}
use Rattle.frame_order.specs.FrameOrder.{stands_in}
use Rattle.job_sched.specs.Rows.{IsRows, Rows, number, row}
use Rattle.job_sched.proofs.RowChanges.{here_at, number_at, rows_kept}
use Rattle.job_sched.proofs.rows.Rows.row_of.Goals as goal

pub returns-clause-rows : goal.returns-clause-rows
returns-clause-rows c = subst IsRows c.self.view_is (rows_kept c.self.inside.orders (map number c.self.inside.stands.items) c.self.invariant)

pub returns-clause-stands : goal.returns-clause-stands
returns-clause-stands c =
    let rows = map number c.self.inside.stands.items in
    let inside = subst (λ (r : Rows). c.args.n < r.numbers) (sym c.self.view_is) c.requires in
    let at = number_at c.self.inside.stands.items c.args.n c.index.result.now c.index.ensures in
    ap (λ (r : Rows). stands_in c.args.n (row r (number c.index.result.now))) (sym c.self.view_is)
    ∙ here_at c.self.inside.orders rows c.args.n (number c.index.result.now) c.self.invariant inside (at ∙ get_or_default_zero rows c.args.n (number c.index.result.now) inside)
