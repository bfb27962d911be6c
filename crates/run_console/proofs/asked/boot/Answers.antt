use Rattle.std.proofs.Common.{◌∙◌, ap, arith, sym}
use Rattle.std.specs.Ordering.{nat_cmp}
use Rattle.job_sched.specs.Schedules.{empty}
use Rattle.plain_model.specs.State.{opening}
use Rattle.plain_pages.specs.PlainPages.{opening_pages}
use Rattle.run_console.proofs.Booting.{booted_machine, new_here}
use Rattle.run_console.proofs.asked.boot.Goals as goal

pub boot-requires-clause-opening : goal.boot-requires-clause-opening
boot-requires-clause-opening c d fits = c.in_ok-pages.ensures.plain d ∙ ap (opening_pages nat_cmp) (sym c.in_ok-pages.ensures.most)

pub boot-requires-clause-here : goal.boot-requires-clause-here
boot-requires-clause-here c home gone = new_here _ c.args.sizes.drum home c.in_ok-pages.ensures.homes gone

pub boot-requires-clause-low : goal.boot-requires-clause-low
boot-requires-clause-low c = let set = c.members-set.ensures ∙ c.in_ok-pages.ensures.members in omega (arith, set, c.requires.least_frames)

pub boot-requires-clause-high : goal.boot-requires-clause-high
boot-requires-clause-high c = let set = c.members-set.ensures ∙ c.in_ok-pages.ensures.members in omega (arith, set, c.requires.most_frames)

pub returns : goal.returns
returns c =
    let new = c.in_ok-pages.ensures in
    let waits = c.in_ok-waits.ensures in
    booted_machine c.args.sizes.frames c.args.sizes.drum _ c.new.result c.in_ok-waits.waits c.new.ensures.waits c.new.ensures.live c.new.ensures.none waits.auto waits.bare waits.within
    new.frames waits.core (waits.lists ∙ ap empty (c.members-set.ensures ∙ new.members)) (waits.limit ∙ new.most)
    (λ d homes. let s = waits.state d (new.fits d homes) in (s.0, s.1 ∙ ap opening new.most))
