use Rattle.std.proofs.Common.{◌≡◌, ◌∙◌, ap, arith}
use Rattle.std.proofs.Math.Nat.{mod-eq_of_lt}
use Rattle.plain_files.specs.NamedFiles.{open_file}
use Rattle.plain_files.specs.OpenFiles.{OpenFile}
use Rattle.plain_units.specs.declared.registers.Regs.{Regs}
use Rattle.plain_model.specs.declared.call.ByteChange.TheVariants.{Nothing}
use Rattle.plain_model.specs.Calls.{with_ac}
use Rattle.plain_model.specs.FileCalls.{skipping}
use Rattle.plain_model.specs.ByteCalls.{file_for, jfn_held}
use Rattle.file_bytes.specs.Asking.{asked_on, file_kept}
use Rattle.file_bytes.proofs.Ending.{ends_with, fails_with}
use Rattle.file_bytes.proofs.Files.{counted}
use Rattle.byte_io.proofs.positions.sizef.Goals as goal

pub returns-in-Ok-clause-turn : goal.returns-in-Ok-clause-turn
returns-in-Ok-clause-turn g c d input f =
    let tables = c.args.tables.now in
    let p = g.P.Pages.means.plain c.args.pages.now d in
    let regs = c.args.regs.now in
    let a = asked_on c.args.who regs tables input p in
    let jfn = c.in-Ok.jfn in
    let j = open_file tables.dir jfn in
    let length : c.wrapped.result ≡ (file_kept tables jfn).length = c.wrapped.ensures ∙ mod-eq_of_lt c.length_of.ensures.word ∙ c.length_of.ensures.length in
    let count : c.wrapped-in-Ok.result ≡ a.pages j.file =
    c.wrapped-in-Ok.ensures ∙ mod-eq_of_lt (omega (arith, c.from.ensures, c.count_of-count.ensures.small)) ∙ c.from.ensures ∙ c.count_of-count.ensures.count d f
    ∙ counted tables jfn c.in-Ok.ensures.fits.0.0 p in
    let told : c.with_ac-told.result ≡ with_ac regs 2 (file_for a j).length = c.with_ac-told.ensures.with ∙ ap (with_ac regs 2) length in
    ends_with (λ (k : OpenFile). skipping Nothing (with_ac (with_ac a.regs 2 (file_for a k).length) 3 (a.pages k.file))) (jfn_held a) j c.skipping.result (c.in-Ok.ensures.held input a.pages)
    (c.skipping.ensures.end ∙ ap (λ (r : Regs). skipping Nothing r)
    (c.with_ac.ensures.with ∙ ap (λ (r : Regs). with_ac r 3 c.wrapped-in-Ok.result) told ∙ ap (with_ac (with_ac regs 2 (file_for a j).length) 3) count))

pub returns-in-Err-clause-turn : goal.returns-in-Err-clause-turn
returns-in-Err-clause-turn g c d input f =
    let a = asked_on c.args.who c.args.regs.now c.args.tables.now input (g.P.Pages.means.plain c.args.pages.now d) in
    fails_with (λ (k : OpenFile). skipping Nothing (with_ac (with_ac a.regs 2 (file_for a k).length) 3 (a.pages k.file))) (jfn_held a) c.in-Err.code (c.in-Err.ensures.held input a.pages)
