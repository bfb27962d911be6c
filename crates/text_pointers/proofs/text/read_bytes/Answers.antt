use Rattle.std.proofs.Common.{◌≡◌, ◌+◌, ◌++◌, ◌∷◌, [], ℕ, length, false, refl, ◌∙◌, ap, arith, rules, length-append}
use Rattle.std.specs.Prelude.{◌==◌}
use Rattle.word36.specs.Words.{right}
use Rattle.word36.specs.Bytes.{incremented, loaded}
use Rattle.ka10_unit.specs.Gathers.{framed}
use Rattle.ka10_unit.specs.Taking.{read_frames}
use Rattle.text_pointers.proofs.WordReads.{read_by}
use Rattle.text_pointers.proofs.Crossing.{address_goes, may_refer, none_behind, refers_behind, steps_behind}
use Rattle.text_pointers.proofs.Bytes.{all_read, byte_ends, byte_goes, none_read, word_stops}
use Rattle.text_pointers.proofs.text.read_bytes.Goals as goal

pub loop-count-init : goal.loop-count-init
loop-count-init g c = record {
  fork = refl;
  behind = none_behind read_frames (right c.args.first) c.args.reader.now (omega arith) c.requires.new c.requires.few;
  long = ap length c.new-text.ensures;
  told = λ d fits stands. rw c.new-text.ensures (none_read c.args.reader.now.fork (framed g.P.Pages.means c.args.pages.now d) c.args.regs.now c.args.reader.now c.args.first stands);
}

pub word-requires-clause-serves : goal.word-requires-clause-serves
word-requires-clause-serves g c = rw c.loop-count.invariant.fork c.requires.serves

pub word-requires-clause-room : goal.word-requires-clause-room
word-requires-clause-room g c = rw c.right.ensures.value (may_refer read_frames (right c.args.first) c.loop-count.count (right c.loop-count.pointer) c.loop-count.reader (omega arith) c.loop-count-test.true c.loop-count.invariant.behind)

pub returns-in-Err-clause-told : goal.returns-in-Err-clause-told
returns-in-Err-clause-told g c d fits stands =
    let p = framed g.P.Pages.means c.args.pages.now d in
    let f = c.args.reader.now.fork in
    let before = c.loop-count.invariant.told d fits stands in
    let word = rw c.right.ensures.value at (read_by f p c.args.regs.now c.loop-count.reader _ _ _ before.stands (c.in-Err.ensures.told d fits)) in
    word_stops f p c.args.regs.now c.args.reader.now c.args.first c.loop-count.reader _ c.loop-count.count c.loop-count.pointer c.loop-count.text.items c.loop-count-test.true before c.in-Err.stop word

pub returns-then-eq-clause-told : goal.returns-then-eq-clause-told
returns-then-eq-clause-told g c d fits stands =
    let p = framed g.P.Pages.means c.args.pages.now d in
    let f = c.args.reader.now.fork in
    let before = c.loop-count.invariant.told d fits stands in
    let word = rw c.right.ensures.value at (read_by f p c.args.regs.now c.loop-count.reader _ _ _ before.stands (c.in-Ok.ensures.told d fits)) in
    let zero : loaded c.loop-count.pointer c.in-Ok.word ≡ 0 = search rules in
    byte_ends f p c.args.regs.now c.args.reader.now c.args.first c.loop-count.reader _ c.loop-count.count c.loop-count.pointer c.loop-count.text.items c.loop-count-test.true before c.in-Ok.word c.loop-count.text refl zero word

pub loop-count-preserved : goal.loop-count-preserved
loop-count-preserved g c = record {
  fork = c.in-Ok.ensures.fork ∙ c.loop-count.invariant.fork;
  behind =
      rw c.increment-pointer.ensures (steps_behind read_frames (right c.args.first) c.loop-count.count (right c.loop-count.pointer) (right (incremented c.loop-count.pointer)) c.word.new.self
      (refers_behind read_frames (right c.args.first) c.loop-count.count (right c.loop-count.pointer) c.loop-count.reader c.word.new.self c.in-Ok.word c.loop-count.invariant.behind (rw c.right.ensures.value at c.in-Ok.ensures.once))
      (address_goes c.loop-count.pointer));
  long = (
      let longer : length c.push.new.self.items ≡ length c.loop-count.text.items + 1 = ap length c.push.ensures.items ∙ length-append c.loop-count.text.items _ in omega (arith, longer, c.loop-count.invariant.long));
  told = λ d fits stands.
      let p = framed g.P.Pages.means c.args.pages.now d in
      let f = c.args.reader.now.fork in
      let before = c.loop-count.invariant.told d fits stands in
      let word = rw c.right.ensures.value at (read_by f p c.args.regs.now c.loop-count.reader _ _ _ before.stands (c.in-Ok.ensures.told d fits)) in
      let other : (loaded c.loop-count.pointer c.in-Ok.word == 0) ≡ false = search rules in
      rw c.increment-pointer.ensures (byte_goes f p c.args.regs.now c.args.reader.now c.args.first c.loop-count.reader c.word.new.self c.loop-count.count c.loop-count.pointer c.loop-count.text.items c.loop-count-test.true before
      c.in-Ok.word c.push.new.self.items (c.push.ensures.items ∙ ap (λ (b : ℕ). c.loop-count.text.items ++ b ∷ []) c.load-byte.ensures) other word);
}

pub returns-clause-told : goal.returns-clause-told
returns-clause-told g c d fits stands =
    let p = framed g.P.Pages.means c.args.pages.now d in
    all_read c.args.reader.now.fork p c.args.regs.now c.args.reader.now c.args.first c.loop-count.reader c.loop-count.count c.loop-count.pointer c.loop-count.text.items c.loop-count-test.false (c.loop-count.invariant.told d fits stands)
