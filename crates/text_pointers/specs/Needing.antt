-- What a turn needs first that takes steps more than once, each behind the pages that those before it made.
use Rattle.std.specs.Prelude.{◌≡◌, ◌+◌, ◌-◌}
use Rattle.machine_names.specs.declared.names.ForkName.{ForkName}
use Rattle.page_contracts.specs.declared.answers.Need.{Need}
use Rattle.page_contracts.specs.Pages.{Scene}
use Rattle.plain_units.specs.declared.registers.Regs.{Regs}
use Rattle.plain_pages.specs.PlainPages.{NumberedPages}
use Rattle.plain_pages.specs.Room.{live}
use Rattle.plain_units.specs.Steps.{Ending, Steps, begun, done, need, pages_left, stopped}
use Rattle.ka10_unit.specs.Taking.{Plan, run_over}

-- the same in frames, and as many frames free as are left once pages became these
abbrev pub frames_left : Scene → NumberedPages → NumberedPages → Scene
frames_left scene p q = record scene { free_frames = live p + scene.free_frames - live q }

-- what a plan needs first, and where it needs nothing, what comes behind it
abbrev pub NeedsFirst : ForkName → Scene → NumberedPages → Plan → (Scene → NumberedPages → Ending → Type 0) → Need → Type 0
NeedsFirst f scene p (done t e) later n = later (frames_left scene p (pages_left f t e)) (pages_left f t e) e
NeedsFirst f scene p (stopped (need m)) later n = n ≡ m
NeedsFirst f scene p plan later n = ⊥

-- what steps of a fork need first on these pages, and what comes behind them
abbrev pub StepsNeed : Scene → NumberedPages → ForkName → Regs → Steps → (Scene → NumberedPages → Ending → Type 0) → Need → Type 0
StepsNeed scene p f regs steps later n = NeedsFirst f scene p (run_over f (record { pages = p; scene = scene }) steps (begun p regs.ac)) later n
