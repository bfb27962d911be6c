use Rattle.std.proofs.Common.{◌≡◌, ◌≤◌, length, Bool, true, false, cond, refl, sym, ◌∙◌, ap, arith}
use Rattle.std.specs.Int.{from_bool}
use Rattle.machine_names.specs.Orders.{file_page}
use Rattle.file_image.proofs.Pages.{below_none, count_next}
use Rattle.file_image.proofs.file.count_pages.Goals as goal

one_most : (b : Bool) → from_bool b ≤ 1
one_most true = omega arith
one_most false = omega arith

one_or_none : (b : Bool) → from_bool b ≡ cond b 1 0
one_or_none true = refl
one_or_none false = refl

pub loop-number-init : goal.loop-number-init
loop-number-init g c = record {
  few = omega arith;
  number = λ d fits. sym (ap length (below_none (g.P.Pages.means.plain c.args.pages.now d) c.args.file.0));
}

pub loop-number-preserved : goal.loop-number-preserved
loop-number-preserved g c =
    let page = c.loop-number.number in
    let place = file_page c.args.file.0 page in
    let more = c.from-count.ensures ∙ (one_or_none c.is_some.result ∙ ap (λ b. cond b 1 0) c.is_some.ensures) in
    record {
      few = omega (arith, c.loop-number.invariant.few, c.from-count.ensures, one_most c.is_some.result);
      number = λ d fits. let p = g.P.Pages.means.plain c.args.pages.now d in
          count_next p c.args.file.0 page c.loop-number.count c.from-count.result c.page_of.result
          (c.page_of.ensures ∙ ap (λ filed. filed place) (g.met.P.Pages.agrees c.args.pages.now d fits).filed) more (c.loop-number.invariant.number d fits);
    }
