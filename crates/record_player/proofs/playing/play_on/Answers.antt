use Rattle.std.proofs.Common.{◌≡◌, ◌+◌, ◌≤◌, ℕ, [], ◌∷◌, ◌++◌, refl, sym, ◌∙◌, ap, subst, arith}
use Rattle.std.specs.Prelude.{Some}
use Rattle.script_texts.specs.RecordLines.{entries_told, told_by}
use Rattle.script_texts.proofs.Takers.{onward_nil, onward_then}
use Rattle.record_reader.specs.Reader.{line_given}
use Rattle.record_reader.specs.declared.reader.NextStep.TheVariants.{ReadFault}
use Rattle.record_player.specs.Stages.{Gives}
use Rattle.record_player.proofs.Ends.{few_ahead, not_memory, stopped_faults, stopped_on, stopped_rose}
use Rattle.record_player.proofs.Entries.{told_more}
use Rattle.record_player.proofs.Gone.{gives_append, gives_none}
use Rattle.record_player.proofs.Hearing.{faults_next, heard_next, nearer, not_fault, size_behind, size_with, text_next}
use Rattle.record_player.proofs.playing.play_on.Goals as goal

pub lines-init : goal.lines-init
lines-init g c = record {
  read = [];
  heard = c.requires.heard;
  text = λ told h. h;
  faults = λ base f. f;
  size = refl;
  gives = gives_none g.T.Taker.stands c.args.stage.now c.args.out.now;
  later = omega arith;
  onward = onward_nil g.T.Taker.onward _;
}

-- a line has few entries behind those before it
pub line-requires : goal.line-requires
line-requires g c l given =
    let i = c.lines.invariant in
    ((i.heard.goes_on l given).fits, few_ahead c.lines.reader i.read c.lines.next l i.heard given c.lines.stage.done (omega (arith, i.gives.count, c.requires.new)))

pub next-next-requires : goal.next-next-requires
next-next-requires g c = let whole = c.in-None.ensures.done in c.lines.invariant.heard.still whole.line whole.given

pub lines-preserved : goal.lines-preserved
lines-preserved g c =
    let i = c.lines.invariant in
    let whole = c.in-None.ensures.done in
    let l = whole.line in
    let given = whole.given in
    let has = i.heard.has l given in
    record {
      read = i.read ++ l ∷ [];
      heard = heard_next c.lines.reader c.next-next.new.self (i.read ++ l ∷ []) c.next-next.result has c.next-next.ensures.advances c.next-next.ensures.open c.next-next.ensures.number;
      text = λ told h.
          text_next g.S.Source.left told c.lines.reader c.next-next.new.self c.lines.input c.next-next.new.s (i.read ++ l ∷ []) c.next-next.result (λ text is. (i.text told h).stands text l is given) c.next-next.ensures.stands c.next-next.ensures.decides;
      faults = λ base f.
          faults_next base (g.S.Source.fault_count c.lines.input) (g.S.Source.fault_count c.next-next.new.s) (c.lines.next ≡ ReadFault) c.next-next.result (not_fault c.lines.next l given) (i.faults base f) c.next-next.ensures.later c.next-next.ensures.cause c.next-next.ensures.unfaulted;
      size = size_behind i.read l c.next-next.result ∙ (size_with i.read c.lines.next l given ∙ i.size);
      gives = subst (Gives g.T.Taker.stands c.args.stage.now c.line.new.self c.args.out.now c.line.new.out) (sym (told_more i.read l))
          (gives_append g.T.Taker.stands c.args.stage.now c.lines.stage c.line.new.self c.args.out.now c.lines.out c.line.new.out (entries_told i.read) (told_by l) i.gives whole.gives);
      later = omega (arith, i.later, c.in-None.ensures.later);
      onward = onward_then g.T.Taker.onward _ _ _ i.onward c.in-None.ensures.goes_on;
    }

pub lines-smaller : goal.lines-smaller
lines-smaller g c =
    let i = c.lines.invariant in
    let whole = c.in-None.ensures.done in
    let has = i.heard.has whole.line whole.given in
    nearer c.lines.reader c.next-next.new.self i.read whole.line (line_given c.lines.next) (line_given c.next-next.result) whole.given has (λ m is. (c.next-next.ensures.advances m is).has_read (i.read ++ whole.line ∷ []) has)

pub returns-in-Some-clause-faults : goal.returns-in-Some-clause-faults
returns-in-Some-clause-faults g c base f =
    stopped_faults g.T.Taker.fault_count g.T.Taker.stands g.T.Taker.cut c.lines.stage c.line.new.self c.lines.out c.line.new.out c.lines.next base (g.S.Source.fault_count c.lines.input) c.in-Some.end c.in-Some.ensures.done (c.lines.invariant.faults base f)

pub returns-in-Some-clause-cause : goal.returns-in-Some-clause-cause
returns-in-Some-clause-cause g c is =
    stopped_rose g.T.Taker.fault_count g.T.Taker.stands g.T.Taker.cut c.lines.stage c.line.new.self c.lines.out c.line.new.out c.lines.next c.in-Some.end c.in-Some.ensures.done c.args.out.now c.lines.invariant.later is

pub returns-in-Some-clause-onward : goal.returns-in-Some-clause-onward
returns-in-Some-clause-onward g c = onward_then g.T.Taker.onward _ _ _ c.lines.invariant.onward c.in-Some.ensures.goes_on

pub returns-in-Some-clause-ends : goal.returns-in-Some-clause-ends
returns-in-Some-clause-ends g c is = not_memory g.T.Taker.fault_count g.T.Taker.stands g.T.Taker.cut c.lines.stage c.line.new.self c.lines.out c.line.new.out c.lines.next c.in-Some.end c.in-Some.ensures.done is

pub returns-in-Some-clause-played : goal.returns-in-Some-clause-played
returns-in-Some-clause-played g c told h =
    let i = c.lines.invariant in
    stopped_on g.T.Taker.fault_count g.T.Taker.stands g.T.Taker.cut g.S.Source.left c.args.stage.now c.lines.stage c.line.new.self c.args.out.now c.lines.out c.line.new.out told c.args.first c.lines.next c.lines.reader c.lines.input i.read i.heard (i.text told h) i.size c.requires.new i.gives
    c.in-Some.end c.in-Some.ensures.done
