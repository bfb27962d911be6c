use Rattle.std.proofs.Common.{◌≡◌, ◌-◌, ◌<◌, [], ◌∷◌, ◌++◌, Some, map, refl, sym, ◌∙◌, ap, subst, arith}
use Rattle.std.proofs.lemmas.List.{map-append}
use Rattle.record_reader.specs.OneLine.{told, told_last}
use Rattle.record_reader.specs.Verdicts.{most_record_bytes}
use Rattle.record_reader.specs.Versions.{whole_record}
use Rattle.record_reader.specs.Reader.{HasRead, StandsIn, line_given}
use Rattle.record_reader.proofs.Grown.{more_bytes}
use Rattle.record_reader.proofs.WholeReadings.{none_given, not_fault, reads_all, stands_first}
use Rattle.record_reader.proofs.whole_reading.read_record.Goals as goal

pub loop-said-init : goal.loop-said-init
loop-said-init g c =
    let r = c.new-reader.result in
    let lines : map told c.new-lines.result.items ≡ [] = ap (map told) c.new-lines.ensures.items in
    record {
      unfaulted = refl;
      still_open = c.new-reader.ensures.open;
      has = subst (HasRead r) (sym lines) c.new-reader.ensures.read;
      stands = λ text is.
          subst (StandsIn g.S.Source.left text r c.args.source.now) (sym lines) (stands_first g.S.Source.left text r c.args.source.now c.new-reader.ensures.pending c.new-reader.ensures.read is);
    }

pub returns-in_default-clause-whole : goal.returns-in_default-clause-whole
returns-in_default-clause-whole g c size ss reads writes can is here =
    let text = whole_record size ss reads writes in
    let read = map told c.loop-said.lines.items in
    let none = none_given c.said.result c.next-next.result c.said.ensures (λ x h. c.in_default.not-Some x h) in
    reads_all size ss reads writes read c.next-next.result can none here (λ v ends. c.next-next.ensures.decides text read v (c.loop-said.invariant.stands text is) ends)

pub loop-said-smaller : goal.loop-said-smaller
loop-said-smaller g c =
    let read = map told c.loop-said.lines.items in
    let l = told c.in-Some.said in
    let given : line_given c.next-next.result ≡ Some l = sym c.said.ensures ∙ ap told_last c.in-Some.is in
    let now = (c.next-next.ensures.advances l given).has_read read c.loop-said.invariant.has in
    let less : most_record_bytes - c.next-next.new.self.passed.bytes < most_record_bytes - c.loop-said.reader.passed.bytes = omega (arith, now.bytes, now.short, more_bytes read l, c.loop-said.invariant.has.bytes) in
    less

pub loop-said-preserved : goal.loop-said-preserved
loop-said-preserved g c =
    let read = map told c.loop-said.lines.items in
    let l = told c.in-Some.said in
    let r = c.next-next.new.self in
    let given : line_given c.next-next.result ≡ Some l = sym c.said.ensures ∙ ap told_last c.in-Some.is in
    let grown : map told c.push.new.self.items ≡ read ++ l ∷ [] = ap (map told) c.in-Ok.ensures.items ∙ map-append told c.loop-said.lines.items (c.in-Some.said ∷ []) in
    record {
      unfaulted = c.next-next.ensures.unfaulted (not_fault c.next-next.result l given) ∙ c.loop-said.invariant.unfaulted;
      still_open = c.next-next.ensures.open l given;
      has = subst (HasRead r) (sym grown) ((c.next-next.ensures.advances l given).has_read read c.loop-said.invariant.has);
      stands = λ text is.
          subst (StandsIn g.S.Source.left text r c.next-next.new.s) (sym grown) (c.next-next.ensures.stands text read l (c.loop-said.invariant.stands text is) given);
    }
