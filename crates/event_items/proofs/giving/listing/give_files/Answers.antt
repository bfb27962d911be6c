use Rattle.std.proofs.Common.{[], ◌++◌, ap, sym, ◌∙◌, subst, arith}
use Rattle.plain_files.specs.NamedFiles.{name_of}
use Rattle.plain_model.specs.Unit.{printed}
use Rattle.file_tables.specs.Tables.{files_of}
use Rattle.job_commands.specs.Listing.{line_of, lines_behind}
use Rattle.script_texts.specs.Taker.{GoesOn}
use Rattle.script_texts.proofs.Takers.{goes_on_append, onward_then}
use Rattle.std.specs.Prelude.{Some}
use Rattle.event_items.specs.Giving.{Takes}
use Rattle.event_items.proofs.Given.{on_err, printed_append, printed_three, takes_part, takes_then}
use Rattle.event_items.proofs.Listed.{line_more, line_split}
use Rattle.event_items.proofs.giving.listing.give_files.Goals as goal

pub loop-file-preserved : goal.loop-file-preserved
loop-file-preserved g c =
    let i = c.loop-file.invariant in
    let t = c.args.t in
    let user = c.args.user.now in
    let files = c.args.files.now in
    let next = c.in-Some.ensures in
    let one = c.in_ok-give_line.ensures in
    let line = line_of user c.name_of.result in
    let rest = lines_behind user (files_of files) (Some (name_of files.dir c.in-Some.file.0)) in
    record {
      there = next.there;
      later = omega (arith, i.later, one.taker.later);
      onward = onward_then g.T.Taker.onward _ _ _ i.onward one.taker.goes_on;
      shown = i.shown ++ line;
      all = line_more _ i.shown _ line rest _ i.all next.lines (next.line ∙ ap (line_of user) (sym c.name_of.ensures.name));
      given = subst (λ is. GoesOn g.T.Taker.stands c.args.out.now c.give_line.new.out is []) (sym (printed_append t i.shown line))
          (goes_on_append g.T.Taker.stands c.args.out.now _ c.give_line.new.out (printed t i.shown) (printed t line) [] [] i.given (one.given []).ok);
    }

pub returns-in_err-give_line : goal.returns-in_err-give_line
returns-in_err-give_line g c =
    let i = c.loop-file.invariant in
    let t = c.args.t in
    let user = c.args.user.now in
    let files = c.args.files.now in
    let next = c.in-Some.ensures in
    let failed = c.in_err-give_line.ensures in
    let r = c.from_residual.result in
    let line = line_of user c.name_of.result in
    let rest = lines_behind user (files_of files) (Some (name_of files.dir c.in-Some.file.0)) in
    let all = line_split _ i.shown _ line rest _ i.all next.lines (next.line ∙ ap (line_of user) (sym c.name_of.ensures.name)) in
    record {
      taker = record {
        later = omega (arith, i.later, failed.taker.later);
        cause = on_err r (omega (arith, i.later, failed.taker.cause));
        goes_on = onward_then g.T.Taker.onward _ _ _ i.onward failed.taker.goes_on;
      };
      given = λ d.
          subst (λ is. Takes g.T.Taker.stands g.T.Taker.cut c.args.out.now c.give_line.new.out r is []) (sym (ap (printed t) all ∙ printed_three t i.shown line rest))
          (takes_then g.T.Taker.stands g.T.Taker.cut c.args.out.now _ c.give_line.new.out r (printed t i.shown) (printed t line ++ printed t rest) [] [] i.given
          (takes_part g.T.Taker.stands g.T.Taker.cut _ c.give_line.new.out r (printed t line) (printed t rest) [] [] c.from_residual.ensures.0 (failed.given d).err));
    }
