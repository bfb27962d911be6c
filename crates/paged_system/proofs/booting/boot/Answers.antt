use Rattle.std.proofs.Common.{◌≡◌, ◌≤◌, ℕ, [], false, refl, sym, ◌∙◌, ap, subst, arith}
use Rattle.fork_lists.specs.declared.lists.ForkLists.{ForkLists}
use Rattle.job_sched.proofs.RowChanges.{length-up}
use Rattle.job_sched.specs.Schedules.{Schedule, empty, size}
use Rattle.monitor_core.proofs.BootDid.{booted, within_boot}
use Rattle.monitor_core.proofs.Systems.{within_later}
use Rattle.monitor_core.specs.Systems.{FitsPages, IsWithin, state_of}
use Rattle.page_contracts.specs.Stores.{away, place}
use Rattle.page_waits.specs.Seats.{UNHELD_FRAMES}
use Rattle.plain_model.specs.State.{opening}
use Rattle.paged_system.proofs.booting.boot.Goals as goal

pub new-paged-requires : goal.new-paged-requires
new-paged-requires g c = record { many = λ framed. subst (λ p. UNHELD_FRAMES ≤ g.P.Pages.means.store.frames p) (sym c.in_ok-system.ensures.pages) (c.requires.many framed) }

pub new-requires-clause-set : goal.new-requires-clause-set
new-requires-clause-set g c =
    let means = g.P.Pages.means in
    let pages = ap (λ s. s.pages) c.new-paged.ensures ∙ c.in_ok-system.ensures.pages in
    let members = ap (λ p. means.store.members p) pages in
    let sized : size c.in_ok-lists.lists.sched ≡ size (empty c.args.set) = ap size c.in_ok-lists.ensures.empty in
    omega (arith, members, sized, length-up c.args.set, c.requires.members)

pub new-requires-clause-bare : goal.new-requires-clause-bare
new-requires-clause-bare g c holder =
    let pages = ap (λ s. s.pages) c.new-paged.ensures ∙ c.in_ok-system.ensures.pages in
    ap (λ p. g.P.Pages.means.store.holds p holder) pages ∙ c.requires.bare holder

pub returns-clause-state : goal.returns-clause-state
returns-clause-state g c d f =
    let means = g.P.Pages.means in
    let m = c.in_ok-system.system in
    let boot = c.in_ok-system.ensures in
    let limit = means.most c.args.pages in
    let same = ap (λ s. s.system) c.new.ensures.system ∙ c.new-paged.ensures in
    subst (λ x. FitsPages x d × (state_of x d ≡ opening limit)) (sym same)
    (booted m boot.jobs boot.tree boot.panel boot.files boot.jfns limit d (subst (λ p. means.fits p d) (sym boot.pages) f) (ap (λ p. means.plain p d) boot.pages ∙ c.requires.opening d f))

pub returns-clause-within : goal.returns-clause-within
returns-clause-within g c entries =
    let means = g.P.Pages.means in
    let m = c.in_ok-system.system in
    let boot = c.in_ok-system.ensures in
    let same = ap (λ s. s.system) c.new.ensures.system ∙ c.new-paged.ensures in
    let none = within_boot m boot.jobs boot.tree boot.panel boot.files boot.jfns (λ t. omega (arith, ap (λ p. means.serial p t) boot.pages, c.requires.serials t)) in
    subst (λ x. IsWithin x entries) (sym same) (within_later m 0 entries none (omega arith))

pub returns-clause-core : goal.returns-clause-core
returns-clause-core g c =
    let store = g.P.Pages.means.store in
    let pages = ap (λ s. s.system.pages) c.new.ensures.system ∙ (ap (λ s. s.pages) c.new-paged.ensures ∙ c.in_ok-system.ensures.pages) in
    record {
      size = ap (λ p. store.frames p) pages;
      here = λ home gone. c.requires.here home (ap (λ p. place (store.homes p) home) (sym pages) ∙ gone);
      still = ap (λ p. store.queue p) pages ∙ c.requires.still;
      told = ap (λ p. store.untold p) pages ∙ c.requires.told;
      none = ap (λ (l : ForkLists). l.sched.waiting) c.new.ensures.lists ∙ ap (λ (s : Schedule). s.waiting) c.in_ok-lists.ensures.empty;
    }
