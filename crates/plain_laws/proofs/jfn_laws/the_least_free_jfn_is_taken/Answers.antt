use Rattle.std.proofs.Common.{◌∙◌, true}
use Rattle.std.proofs.lemmas.Bool.{eq-eqb, lt-ltb}
use Rattle.std.specs.FinMap as map
use Rattle.word36.specs.Words.{bit}
use Rattle.machine_names.specs.declared.names.TheConstants.{MOST_FILES}
use Rattle.plain_units.specs.Deeds.{in_ac, skip_pc}
use Rattle.plain_model.specs.declared.call.FileChange.TheVariants.{Make, Take}
use Rattle.plain_model.specs.Calls.{with_ac}
use Rattle.plain_model.specs.FileCalls.{file_changed}
use Rattle.plain_laws.proofs.JfnTurns.{absent_so, done_so, there_so}
use Rattle.plain_laws.proofs.jfn_laws.the_least_free_jfn_is_taken.Goals as goal

pub returns-clause-there : goal.returns-clause-there
unfolding file_changed
returns-clause-there c = λ s f name q n lives asks free there.
    let told = with_ac f.body.regs 1 n in
    there_so s f lives name q asks n free there ∙ done_so s f lives (Take f.name.tty n name) (record told { pc = skip_pc told }) q

pub returns-clause-made : goal.returns-clause-made
unfolding file_changed
returns-clause-made c = λ s f name q n lives asks free absent new room.
    let told = with_ac f.body.regs 1 n in
    absent_so s f lives name q asks n free absent true true (eq-eqb (bit (in_ac f.body.regs 1) 0) 1 new) (lt-ltb (map.len s.files) MOST_FILES room) ∙ done_so s f lives (Make f.name.tty n name) (record told { pc = skip_pc told }) q
