use Rattle.std.proofs.Common.{refl}
use Rattle.script_lang.specs.Generator.{big_events, evictions, fills, logins, programs, shown}
use Rattle.script_lang.proofs.big_laws.big_script.Goals as goal

pub returns-clause-steps : goal.returns-clause-steps
unfolding big_events evictions fills logins programs shown
returns-clause-steps c = λ seed. refl

pub returns-clause-programs : goal.returns-clause-programs
unfolding big_events evictions fills logins programs shown
returns-clause-programs c = λ seed. refl

pub returns-clause-seven : goal.returns-clause-seven
unfolding big_events evictions fills logins programs shown
returns-clause-seven c = refl
