use Rattle.std.proofs.Common.{◌∙◌, ap, map, rules}
use Rattle.job_sched.specs.Rows.{number}
use Rattle.job_sched.proofs.RowChanges.{all_free, kept_boot}
use Rattle.job_sched.proofs.rows.Rows.boot.Goals as goal

pub invariant_of-result : goal.invariant_of-result
invariant_of-result c =
    kept_boot c.args.numbers c.in_ok-free.free c.in_ok-outside.outside c.in_ok-ready.ready c.in_ok-waiting.waiting (map number c.in_ok-stands.stands.items)
    c.in_ok-free.ensures c.in_ok-outside.ensures c.in_ok-ready.ensures c.in_ok-waiting.ensures (ap (map number) (c.in_ok-stands.ensures.items_if_clones_equal (λ y h. search rules)) ∙ all_free c.args.numbers)
