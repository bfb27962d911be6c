use Rattle.std.proofs.Common.{◌≡◌, ◌+◌, ◌%◌, ◌^◌, ℕ, true, false, sym, ◌∙◌, inr, arith}
use Rattle.word36.specs.Words.{right}
use Rattle.plain_model.specs.Inspections.{channel_at, is_wanted}
use Rattle.ka10_unit.specs.Gathers.{framed}
use Rattle.text_pointers.proofs.Crossing.{refers_behind, steps_behind}
use Rattle.text_pointers.proofs.WordReads.{read_by}
use Rattle.psi_system.proofs.Looking.{all_looked, passed_over, word_forces, word_goes, word_stops}
use Rattle.psi_system.proofs.inspecting.look.Goals as goal

-- the word of the next channel is behind that of one
next_at : (table channel : ℕ) → channel_at table (channel + 1) ≡ (channel_at table channel + 1) % 2 ^ 18
next_at table channel = omega arith

pub loop-channel-preserved-then-not-is_wanted : goal.loop-channel-preserved-then-not-is_wanted
loop-channel-preserved-then-not-is_wanted g c = record {
  fork = c.loop-channel.invariant.fork;
  behind = steps_behind 0 (right c.args.table) c.loop-channel.channel (channel_at c.args.table c.loop-channel.channel) _ c.loop-channel.reader c.loop-channel.invariant.behind (inr (next_at c.args.table c.loop-channel.channel));
  best = c.loop-channel.invariant.best;
  told = λ d fits stands.
      let unwanted : is_wanted c.args.body.now.psi c.loop-channel.channel ≡ false = sym c.is_wanted.ensures ∙ c.if-not-is_wanted.true in
      passed_over c.args.reader.now.fork (framed g.P.Pages.means c.args.pages.now d) c.args.body.now c.args.table c.args.reader.now c.loop-channel.reader c.loop-channel.channel c.loop-channel.best c.loop-channel-test.true
      (c.loop-channel.invariant.told d fits stands) unwanted;
}

pub returns-in-Err-clause-told : goal.returns-in-Err-clause-told
returns-in-Err-clause-told g c d fits stands =
    let f = c.args.reader.now.fork in
    let p = framed g.P.Pages.means c.args.pages.now d in
    let before = c.loop-channel.invariant.told d fits stands in
    let is_one : is_wanted c.args.body.now.psi c.loop-channel.channel ≡ true = sym c.is_wanted.ensures ∙ c.if-not-is_wanted.false in
    let word = rw c.channel_at.ensures at (read_by f p c.args.body.now.regs c.loop-channel.reader _ _ _ before.stands (c.in-Err.ensures.told d fits)) in
    word_stops f p c.args.body.now c.args.table c.args.reader.now c.loop-channel.reader c.loop-channel.channel c.loop-channel.best c.loop-channel-test.true before _ is_one c.in-Err.stop word

pub returns-in-Forces-clause-told : goal.returns-in-Forces-clause-told
returns-in-Forces-clause-told g c d fits stands =
    let f = c.args.reader.now.fork in
    let p = framed g.P.Pages.means c.args.pages.now d in
    let before = c.loop-channel.invariant.told d fits stands in
    let is_one : is_wanted c.args.body.now.psi c.loop-channel.channel ≡ true = sym c.is_wanted.ensures ∙ c.if-not-is_wanted.false in
    let word = rw c.channel_at.ensures at (read_by f p c.args.body.now.regs c.loop-channel.reader _ _ _ before.stands (c.in-Ok.ensures.told d fits)) in
    word_forces f p c.args.body.now c.args.table c.args.reader.now c.loop-channel.reader c.loop-channel.channel c.loop-channel.best c.loop-channel-test.true before _ is_one c.in-Ok.word word c.in-Forces.by c.in-Forces.ensures.is

pub loop-channel-preserved : goal.loop-channel-preserved
loop-channel-preserved g c = record {
  fork = c.in-Ok.ensures.fork ∙ c.loop-channel.invariant.fork;
  behind = steps_behind 0 (right c.args.table) c.loop-channel.channel (channel_at c.args.table c.loop-channel.channel) _ c.word.new.self
      (refers_behind 0 (right c.args.table) c.loop-channel.channel (channel_at c.args.table c.loop-channel.channel) c.loop-channel.reader c.word.new.self c.in-Ok.word c.loop-channel.invariant.behind
      (rw c.channel_at.ensures at c.in-Ok.ensures.once))
      (inr (next_at c.args.table c.loop-channel.channel));
  best = c.in-Best.ensures.fits;
  told = λ d fits stands.
      let f = c.args.reader.now.fork in
      let p = framed g.P.Pages.means c.args.pages.now d in
      let before = c.loop-channel.invariant.told d fits stands in
      let is_one : is_wanted c.args.body.now.psi c.loop-channel.channel ≡ true = sym c.is_wanted.ensures ∙ c.if-not-is_wanted.false in
      let word = rw c.channel_at.ensures at (read_by f p c.args.body.now.regs c.loop-channel.reader _ _ _ before.stands (c.in-Ok.ensures.told d fits)) in
      word_goes f p c.args.body.now c.args.table c.args.reader.now c.loop-channel.reader c.loop-channel.channel c.loop-channel.best c.loop-channel-test.true before _ is_one c.in-Ok.word word c.in-Best.next c.in-Best.ensures.is;
}

pub returns-clause-told : goal.returns-clause-told
returns-clause-told g c d fits stands =
    all_looked c.args.reader.now.fork (framed g.P.Pages.means c.args.pages.now d) c.args.body.now c.args.table c.args.reader.now c.loop-channel.reader c.loop-channel.channel c.loop-channel.best c.loop-channel-test.false
    (c.loop-channel.invariant.told d fits stands)
