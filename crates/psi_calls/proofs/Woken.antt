-- A fork that goes on where it waited is within its limits.
use Rattle.script_texts.specs.declared.status.ForkStatus.{ForkStatus}
use Rattle.script_texts.specs.declared.status.ForkStatus.TheVariants.{Run, Wait, Halted, Forced}
use Rattle.plain_model.specs.declared.fork.Body.{Body}
use Rattle.plain_model.specs.Interrupts.{woken}
use Rattle.job_forks.specs.Limits.{FitsForced, IsBody}

woken_fits : (s : ForkStatus) → FitsForced s → FitsForced (woken s)
woken_fits Run h = h
woken_fits (Wait on) h = λ channel e. absurd (cc e)
woken_fits Halted h = h
woken_fits (Forced channel) h = h

pub woken_within : (b : Body) → IsBody b → IsBody (record b { status = woken b.status })
woken_within b within = record { status = woken_fits b.status within.status; pc = within.pc; accumulators = within.accumulators }
