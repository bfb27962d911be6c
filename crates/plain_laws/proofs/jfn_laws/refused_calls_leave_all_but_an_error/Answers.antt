use Rattle.std.proofs.Common.{◌∙◌, true, false, None, Some, refl}
use Rattle.std.specs.Prelude.{nat_lt}
use Rattle.std.proofs.lemmas.Bool.{eq-eqb, le-ltb, lt-ltb, ne_eqb}
use Rattle.std.specs.FinMap as map
use Rattle.word36.specs.Words.{bit}
use Rattle.machine_names.specs.declared.names.TheConstants.{MOST_FILES}
use Rattle.plain_units.specs.Deeds.{in_ac}
use Rattle.plain_model.specs.declared.call.TheConstants.{BAD_NAME, FILES_FULL, FILE_IN_USE, JFNS_FULL, NO_FILE, NO_JFN}
use Rattle.plain_model.specs.FileCalls.{times_held}
use Rattle.plain_laws.proofs.JfnTurns.{absent_so, delf_so, failed_so, none_free_so, unheld_close, unheld_delete, unheld_open, unheld_release, unnamed_so}
use Rattle.plain_laws.proofs.jfn_laws.refused_calls_leave_all_but_an_error.Goals as goal

pub returns-clause-unnamed : goal.returns-clause-unnamed
returns-clause-unnamed c = λ s f text q lives reads none. unnamed_so s f lives (Some text) q reads none ∙ failed_so s f lives BAD_NAME q

pub returns-clause-endless : goal.returns-clause-endless
returns-clause-endless c = λ s f q lives reads. unnamed_so s f lives None q reads refl ∙ failed_so s f lives BAD_NAME q

pub returns-clause-all_held : goal.returns-clause-all_held
returns-clause-all_held c = λ s f name q lives asks none. none_free_so s f lives name q asks none ∙ failed_so s f lives JFNS_FULL q

pub returns-clause-absent : goal.returns-clause-absent
returns-clause-absent c = λ s f name q n lives asks free absent old.
    absent_so s f lives name q asks n free absent false (nat_lt (map.len s.files) MOST_FILES) (ne_eqb (bit (in_ac f.body.regs 1) 0) 1 old) refl ∙ failed_so s f lives NO_FILE q

pub returns-clause-full : goal.returns-clause-full
returns-clause-full c = λ s f name q n lives asks free absent new full.
    absent_so s f lives name q asks n free absent true false (eq-eqb (bit (in_ac f.body.regs 1) 0) 1 new) (le-ltb (map.len s.files) MOST_FILES full) ∙ failed_so s f lives FILES_FULL q

pub returns-clause-open : goal.returns-clause-open
returns-clause-open c = λ s f lives none. unheld_open s f lives none ∙ failed_so s f lives NO_JFN s.pages

pub returns-clause-close : goal.returns-clause-close
returns-clause-close c = λ s f lives none. unheld_close s f lives none ∙ failed_so s f lives NO_JFN s.pages

pub returns-clause-release : goal.returns-clause-release
returns-clause-release c = λ s f lives none. unheld_release s f lives none ∙ failed_so s f lives NO_JFN s.pages

pub returns-clause-delete : goal.returns-clause-delete
returns-clause-delete c = λ s f lives none. unheld_delete s f lives none ∙ failed_so s f lives NO_JFN s.pages

pub returns-clause-used : goal.returns-clause-used
returns-clause-used c = λ s f j lives held more.
    delf_so s f lives j held true (lt-ltb 1 (times_held s.jobs j.file) more) ∙ failed_so s f lives FILE_IN_USE s.pages
