use Rattle.std.proofs.Common.{◌≡◌, ◌+◌, cond, nat_le, sym, ◌∙◌, ap}
use Rattle.file_bytes.proofs.Files.{reaches}
use Rattle.file_bytes.proofs.Tests.{is_beyond, is_within}
use Rattle.file_bytes.proofs.changing.reach.Goals.{then-end-behind, else-end-behind}
use Rattle.file_bytes.proofs.changing.reach.Goals as goal

pub returns : goal.returns
returns c =
    let jfn = c.args.jfn in
    let end = jfn.at + 1 in
    let far = c.end_of-end.result in
    let chosen : c.if-end-behind.length ≡ cond (nat_le far end) end far = elim c.if-end-behind.branch [
      | then-end-behind w ↦ w.length-is ∙ ap (λ b. cond b end far) (sym (is_within far end w.if-end-behind.true))
      | else-end-behind w ↦ w.length-is ∙ ap (λ b. cond b end far) (sym (is_beyond far end w.if-end-behind.false))
    ] in
    record {
      files = c.set_length.ensures.files ∙ reaches c.args.tables.now jfn c.requires.usable.0 end far c.if-end-behind.length c.end_of-end.ensures.end chosen;
      numbers = c.set_length.ensures.numbers;
      jfns = c.set_length.ensures.jfns;
    }
