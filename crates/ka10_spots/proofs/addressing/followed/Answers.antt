use Rattle.std.proofs.Common.{◌≡◌, true, false, IsSome, refl, ap, subst, rules, arith}
use Rattle.plain_units.specs.Addressing.{is_indirect}
use Rattle.ka10_spots.proofs.IndirectWords.{leads_none, leads_done, leads_on, led_from, led_on, led_reached, led_no_further}
use Rattle.ka10_spots.proofs.addressing.followed.Goals as goal

pub loop-words-init : goal.loop-words-init
loop-words-init g c d f fits is = (λ before few. leads_none f _ _ before _, led_from g.P.Pages.means _ f _ _ _ _)

pub returns-then-not-is_indirect-clause-told : goal.returns-then-not-is_indirect-clause-told
returns-then-not-is_indirect-clause-told g c d f before fits is few =
    let direct : is_indirect c.loop-words.word ≡ false = search rules in
    leads_done f _ _ before _ _ c.loop-words.word c.loop-words.words _ _ c.loop-words-test.true c.requires.most direct refl refl ((c.loop-words.invariant d f fits is).0 before few)

pub loop-words-preserved : goal.loop-words-preserved
loop-words-preserved g c d f fits is =
    let ind : is_indirect c.loop-words.word ≡ true = search rules in
    let taken = c.in-Some.ensures.told d f fits is in
    let so_far = c.loop-words.invariant d f fits is in (
      λ before few. leads_on f _ _ before _ c.loop-words.word c.loop-words.words c.step_of.result.e _ (omega arith) ind (ap (λ a. a.e) c.step_of.ensures.address) taken (so_far.0 before few),
      λ led. led_on g.P.Pages.means _ f _ _ _ c.loop-words.words c.loop-words.word _ c.step_of.result c.loop-words-test.true ind c.step_of.ensures.address taken (so_far.1 led),
    )

pub returns-in-None-clause-led : goal.returns-in-None-clause-led
returns-in-None-clause-led g c d f fits is led =
    let ind : is_indirect c.loop-words.word ≡ true = search rules in
    let here = (c.loop-words.invariant d f fits is).1 led in
    let reached = led_reached g.P.Pages.means _ f _ _ _ c.loop-words.words c.loop-words.word c.step_of.result c.loop-words-test.true ind c.step_of.ensures.address here in
    let some : IsSome c.look_at.result = c.look_at.ensures.reached f is reached in
    subst IsSome c.in-None.is some

pub returns-clause-led : goal.returns-clause-led
returns-clause-led g c d f fits is led = absurd (led_no_further g.P.Pages.means _ f _ _ _ c.loop-words.words c.loop-words.word c.loop-words-test.false ((c.loop-words.invariant d f fits is).1 led))
