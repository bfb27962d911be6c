use Rattle.std.proofs.Common.{◌∙◌, not, Option, refl, ap}
use Rattle.std.specs.Prelude.{is_some}
use Rattle.std.specs.FinMap as map
use Rattle.machine_names.specs.Orders.{name_cmp}
use Rattle.plain_files.specs.OpenFiles.{OpenFile, OpenFiles, is_free}
use Rattle.plain_units.specs.Deeds.{skip_pc}
use Rattle.plain_model.specs.declared.call.FileChange.TheVariants.{Release}
use Rattle.plain_model.specs.FileCalls.{file_changed, held_at}
use Rattle.plain_model.specs.Families.{Turned}
use Rattle.plain_laws.specs.JfnLaws.{jfn_named}
use Rattle.plain_laws.proofs.JfnTurns.{closf_so, done_so}
use Rattle.plain_model.proofs.JfnChanges.{held_job, held_then}
use Rattle.machine_names.proofs.Keys.{get_gone}
use Rattle.std.specs.Cmp.{nat_cmp_total}
use Rattle.std.specs.FinMap.{nat_cmp-IsAntisymmetric}
use Rattle.plain_laws.proofs.jfn_laws.released_jfns_are_free.Goals as goal

pub returns-clause-released : goal.returns-clause-released
unfolding file_changed
returns-clause-released c = λ s f j lives held. closf_so s f lives j held ∙ done_so s f lives (Release f.name.tty (jfn_named f)) (record f.body.regs { pc = skip_pc f.body.regs }) s.pages

pub returns-clause-free : goal.returns-clause-free
unfolding file_changed
returns-clause-free c = λ s f j lives held.
    let t = f.name.tty in let n = jfn_named f in
    let job = held_job s.jobs t n j held in
    let so = closf_so s f lives j held ∙ done_so s f lives (Release t n) (record f.body.regs { pc = skip_pc f.body.regs }) s.pages in
    ap (λ (r : Turned name_cmp). is_free (held_at r.parts.jobs t) n) so
    ∙ ap (λ (m : OpenFiles). is_free m n) (held_then s.jobs t job.0 job.1 (λ m. map.remove m n))
    ∙ ap (λ (o : Option OpenFile). not (is_some o)) (get_gone nat_cmp_total nat_cmp-IsAntisymmetric (held_at s.jobs t) n n refl)
