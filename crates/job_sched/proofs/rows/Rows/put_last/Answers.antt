use Rattle.std.proofs.Common.{◌<◌, ◌∙◌, ap, map, sym, subst}
use Rattle.std.proofs.lemmas.List.{map-set}
use Rattle.std.proofs.lemmas.Grind.{get_or_default_zero}
use Rattle.job_sched.specs.Rows.{IsRows, Rows, moved, number}
use Rattle.job_sched.specs.Orders.{AreKept, rows_view}
use Rattle.job_sched.proofs.RowChanges.{is_absent, is_move, number_at, row_small}
use Rattle.job_sched.proofs.rows.Rows.put_last.Goals as goal

pub put_in-requires-clause-absent : goal.put_in-requires-clause-absent
put_in-requires-clause-absent c =
    let inside = subst (λ (r : Rows). c.args.n < r.numbers) (sym c.self.view_is) c.requires in
    let small = row_small c.args.k in
    let at = number_at c.self.inside.stands.items c.args.n c.index.result.now c.index.ensures in
    is_absent c.self.inside.orders c.take_from.new.orders (map number c.self.inside.stands.items) c.args.n (number c.args.k) (number c.index.result.now) c.self.invariant inside (at ∙ get_or_default_zero (map number c.self.inside.stands.items) c.args.n (number c.index.result.now) inside) c.take_from.ensures

pub invariant_of-self : goal.invariant_of-self
invariant_of-self c =
    let stands = map-set number c.self.inside.stands.items c.args.n c.args.k in
    let inside = subst (λ (r : Rows). c.args.n < r.numbers) (sym c.self.view_is) c.requires in
    let small = row_small c.args.k in
    let at = number_at c.self.inside.stands.items c.args.n c.index.result.now c.index.ensures in
    subst (AreKept c.put_in.new.orders) (sym stands)
    (is_move c.self.inside.orders c.take_from.new.orders c.put_in.new.orders (map number c.self.inside.stands.items) c.args.n (number c.args.k) (number c.index.result.now) c.self.invariant inside small
    (at ∙ get_or_default_zero (map number c.self.inside.stands.items) c.args.n (number c.index.result.now) inside) c.take_from.ensures c.put_in.ensures).kept

pub returns-clause-moved : goal.returns-clause-moved
returns-clause-moved c =
    let stands = map-set number c.self.inside.stands.items c.args.n c.args.k in
    let inside = subst (λ (r : Rows). c.args.n < r.numbers) (sym c.self.view_is) c.requires in
    let small = row_small c.args.k in
    let at = number_at c.self.inside.stands.items c.args.n c.index.result.now c.index.ensures in
    ap (rows_view c.put_in.new.orders) stands
    ∙ (is_move c.self.inside.orders c.take_from.new.orders c.put_in.new.orders (map number c.self.inside.stands.items) c.args.n (number c.args.k) (number c.index.result.now) c.self.invariant inside small
    (at ∙ get_or_default_zero (map number c.self.inside.stands.items) c.args.n (number c.index.result.now) inside) c.take_from.ensures c.put_in.ensures).view
    ∙ ap (λ (r : Rows). moved r c.args.n (number c.args.k)) c.self.view_is

pub returns-clause-rows : goal.returns-clause-rows
returns-clause-rows c =
    let stands = map-set number c.self.inside.stands.items c.args.n c.args.k in
    let inside = subst (λ (r : Rows). c.args.n < r.numbers) (sym c.self.view_is) c.requires in
    let small = row_small c.args.k in
    let at = number_at c.self.inside.stands.items c.args.n c.index.result.now c.index.ensures in
    subst IsRows (sym (ap (rows_view c.put_in.new.orders) stands))
    (is_move c.self.inside.orders c.take_from.new.orders c.put_in.new.orders (map number c.self.inside.stands.items) c.args.n (number c.args.k) (number c.index.result.now) c.self.invariant inside small
    (at ∙ get_or_default_zero (map number c.self.inside.stands.items) c.args.n (number c.index.result.now) inside) c.take_from.ensures c.put_in.ensures).rows
