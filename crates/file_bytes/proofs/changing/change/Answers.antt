use Rattle.std.proofs.Common.{refl, sym, ◌∙◌, ap, subst}
use Rattle.machine_names.specs.declared.names.Tty.{Tty}
use Rattle.plain_typing.specs.Lines.{InputLine}
use Rattle.plain_model.specs.declared.call.ByteChange.{ByteChange}
use Rattle.plain_model.specs.declared.call.ByteChange.TheVariants.{Take, Move}
use Rattle.ka10_spots.proofs.Stored.{lost_none}
use Rattle.file_bytes.specs.Changing.{Changes}
use Rattle.file_bytes.specs.Planning.{CanChange}
use Rattle.file_bytes.proofs.JobParts.{now_moved, taken_is}
use Rattle.file_bytes.proofs.Parts.{moves_left, nothing_left, takes_left}
use Rattle.file_bytes.proofs.changing.change.Goals as goal

pub returns-in-Nothing-clause-told : goal.returns-in-Nothing-clause-told
returns-in-Nothing-clause-told g c =
    let means = g.P.Pages.means in
    let s = c.args.pages.now in
    let tables = c.args.tables.now in
    let line = c.args.input.now in
    let t = c.args.t in
    subst (λ (w : ByteChange). Changes means s s tables tables line line t w) (sym c.in-Nothing.is)
    (record { fits = λ d f. f; left = λ d jobs f has. nothing_left tables tables line line t jobs has (means.plain s d) refl refl })

pub returns-in-Nothing-clause-loses : goal.returns-in-Nothing-clause-loses
returns-in-Nothing-clause-loses g c = lost_none g.P.Pages.means c.args.pages.now

pub returns-in-Take-clause-told : goal.returns-in-Take-clause-told
returns-in-Take-clause-told g c =
    let means = g.P.Pages.means in
    let s = c.args.pages.now in
    let tables = c.args.tables.now in
    let line = c.args.input.now in
    let new = c.take.new.self in
    let t = c.args.t in
    let own : CanChange means s tables t (Take c.in-Take.field-0) = subst (CanChange means s tables t) c.in-Take.is c.requires.can in
    subst (λ (w : ByteChange). Changes means s s tables tables line new t w) (sym (c.in-Take.is ∙ ap (λ (u : Tty). Take u) own))
    (record { fits = λ d f. f; left = λ d jobs f has. takes_left tables tables line new t jobs has (means.plain s d) refl (ap (λ (l : InputLine). l.input) c.take.ensures.rest ∙ taken_is line.input) })

pub returns-in-Take-clause-loses : goal.returns-in-Take-clause-loses
returns-in-Take-clause-loses g c = lost_none g.P.Pages.means c.args.pages.now

pub returns-in-Move-clause-told : goal.returns-in-Move-clause-told
returns-in-Move-clause-told g c =
    let means = g.P.Pages.means in
    let s = c.args.pages.now in
    let tables = c.args.tables.now in
    let line = c.args.input.now in
    let new = c.seek.new.self in
    let t = c.args.t in
    let n = c.in-Move.n in
    let at = c.in-Move.at in
    let own : CanChange means s tables t (Move c.in-Move.field-0 n at) = subst (CanChange means s tables t) c.in-Move.is c.requires.can in
    subst (λ (w : ByteChange). Changes means s s tables new line line t w) (sym (c.in-Move.is ∙ ap (λ (u : Tty). Move u n at) own.0))
    (record { fits = λ d f. f; left = λ d jobs f has. moves_left tables new line line t jobs has (means.plain s d) n at c.seek.ensures.files.files (now_moved tables new t c.requires.terminal n at c.seek.ensures.moved) refl })

pub returns-in-Move-clause-loses : goal.returns-in-Move-clause-loses
returns-in-Move-clause-loses g c = lost_none g.P.Pages.means c.args.pages.now

pub returns-in-Put-clause-others : goal.returns-in-Put-clause-others
returns-in-Put-clause-others g c = c.put.ensures.others c.args.input.now
