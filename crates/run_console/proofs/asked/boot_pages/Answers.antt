use Rattle.run_console.proofs.Booting.{new_pages, ok_more}
use Rattle.run_console.proofs.asked.boot_pages.Goals as goal

pub returns : goal.returns
returns c =
    let slots = c.in_ok-slots.ensures in
    let store = c.in_ok-store.ensures in
    ok_more c.over.result c.over.ensures
    (λ p is. new_pages c.args.sizes.frames c.args.sizes.drum p c.in_ok-slots.slots c.in_ok-store.store is slots.store slots.plain slots.fits slots.forks slots.serials store.homes store.spare store.queue store.untold store.holds store.members)
