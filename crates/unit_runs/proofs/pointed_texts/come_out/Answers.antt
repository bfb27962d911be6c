use Rattle.std.proofs.Common.{ap, ℕ, arith}
use Rattle.machine_names.specs.declared.names.Tty.{Tty}
use Rattle.unit_runs.proofs.pointed_texts.come_out.Goals as goal

pub put_words-requires-clause-serial : goal.put_words-requires-clause-serial
put_words-requires-clause-serial c = omega (arith, ap (λ (serial : Tty → ℕ). serial (record { 0 = 3 })) c.add_top.ensures.serials, c.in_ok-pages.ensures.first (record { 0 = 3 }))

pub reads-is_so-requires-clause-serial : goal.reads-is_so-requires-clause-serial
reads-is_so-requires-clause-serial c = omega (arith, ap (λ (serial : Tty → ℕ). serial (record { 0 = 3 })) c.deny.ensures.serials, c.put_words.ensures.serial)
