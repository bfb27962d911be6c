use Rattle.std.proofs.Common.{◌∙◌, Option, None, Some, false, ap}
use Rattle.std.specs.Option.{option_map_or}
use Rattle.std.proofs.lemmas.Bool.{le-ltb}
use Rattle.plain_files.specs.OpenFiles.{OpenFile}
use Rattle.plain_units.specs.Deeds.{skip_pc}
use Rattle.plain_model.specs.declared.call.FileChange.TheVariants.{Delete}
use Rattle.plain_model.specs.FileCalls.{deleted, file_changed, times_held}
use Rattle.plain_model.specs.Unit.{parts_of}
use Rattle.plain_model.proofs.Calling.{filed_of, with_filed}
use Rattle.plain_laws.specs.JfnLaws.{behind_second, jfn_named}
use Rattle.plain_laws.proofs.JfnTurns.{delf_so, done_so}
use Rattle.plain_laws.proofs.jfn_laws.files_go_with_their_one_jfn.Goals as goal

pub returns : goal.returns
unfolding file_changed
returns c = λ s f j lives held once.
    delf_so s f lives j held false (le-ltb 1 (times_held s.jobs j.file) once)
    ∙ done_so s f lives (Delete f.name.tty (jfn_named f)) (record f.body.regs { pc = skip_pc f.body.regs }) s.pages
    ∙ ap (λ (o : Option OpenFile). record { parts = with_filed (parts_of s) (option_map_or (deleted (λ name. name) (filed_of (parts_of s)) f.name.tty (jfn_named f)) o (filed_of (parts_of s))); caller = Some (behind_second f f.body.regs); out = None }) held
