use Rattle.std.proofs.Common.{◌∙◌, sym, true≢false, inl, inr, subst}
use Rattle.clap.specs.Words.{IsAmong}
use Rattle.command_words.proofs.parser.read_words.Goals as goal

pub returns-then-not-are_other : goal.returns-then-not-are_other
returns-then-not-are_other c = λ right. true≢false (sym right.others ∙ sym c.are_other.ensures ∙ c.if-not-are_other.true)

pub returns-in-Ok : goal.returns-in-Ok
returns-in-Ok c = record {
  right = record {
    others = sym c.are_other.ensures ∙ c.if-not-are_other.false;
    faultless = c.in-Ok.ensures.kinds;
  };
  rows = c.in-Ok.ensures.matches;
}

pub returns : goal.returns
returns c = λ right. elim c.in-Err.ensures.kinds [
  | inl memory ↦ c.in_default.not-OutOfMemory (c.kind.ensures ∙ memory)
  | inr fault ↦ subst (IsAmong _) right.faultless fault
]
