use Rattle.std.proofs.Common.{◌≡◌, ◌+◌, ◌<◌, ◌≤◌, List, length, take, refl, sym, ◌∙◌, ap, subst, arith, ℕ}
use Rattle.std.proofs.lemmas.List.{take_all, take_more_set}
use Rattle.std.proofs.Math.ListN.{length-set}
use Rattle.machine_names.specs.declared.names.Kind.TheVariants.{Write}
use Rattle.plain_units.specs.Blocks.{next_address}
use Rattle.plain_units.specs.Steps.{refers}
use Rattle.std.specs.Prelude.{Ok, Err}
use Rattle.ka10_unit.specs.Blocks.{TakenSoFar, address_behind}
use Rattle.ka10_unit.specs.Gathers.{framed}
use Rattle.ka10_unit.specs.Taking.{CanWrite, Follows, frames_for}
use Rattle.ka10_unit.proofs.Lost.{none_left, stop_more}
use Rattle.ka10_unit.proofs.Adding.{sound_as}
use Rattle.ka10_unit.proofs.Stepping.{none_stands}
use Rattle.ka10_unit.proofs.TakenBlocks.{behind_low, block_begins, block_done, block_goes, block_stops, first_address, one_behind}
use Rattle.ka10_unit.proofs.word_blocks.refer_block.Goals as goal

pub loop-i-init : goal.loop-i-init
loop-i-init g c =
    let t = c.restart.new.self in
    record {
      fork = c.restart.ensures.fork;
      kept = c.restart.ensures.kept;
      count = rw c.restart.ensures.refs (omega arith);
      left = none_left c.args.kind t c.restart.ensures.gather c.restart.ensures.unmade c.restart.ensures.refs;
      long = refl;
      next = first_address c.args.at c.requires.address;
      so_far = λ d fits.
          let p = framed g.P.Pages.means c.args.pages.now d in
          let stands = none_stands _ p c.args.regs.now t c.restart.ensures.fork (c.restart.ensures.told _ _ (sound_as g.P.Pages.means c.args.pages.now _ (g.met.P.Pages.whole c.args.pages.now d fits) (g.met.P.Pages.agrees c.args.pages.now d fits))) c.restart.ensures.kept in
          block_begins c.args.fork p c.args.regs.now c.args.at c.args.kind t c.requires.address stands c.restart.ensures.gather c.restart.ensures.refs c.restart.ensures.kept;
    }

pub refer_next-requires-clause-address : goal.refer_next-requires-clause-address
refer_next-requires-clause-address g c = rw c.loop-i.invariant.next (behind_low c.args.at c.loop-i.i)

pub refer_next-requires-clause-serves : goal.refer_next-requires-clause-serves
refer_next-requires-clause-serves g c = rw c.loop-i.invariant.fork c.requires.serves

pub returns-in-Err-clause-told : goal.returns-in-Err-clause-told
returns-in-Err-clause-told g c d fits =
    let so_far = c.loop-i.invariant.so_far d fits in
    let p = framed g.P.Pages.means c.args.pages.now d in
    let less : c.loop-i.i < 16 = omega arith in
    let stops = c.in-Err.ensures.told d c.args.fork fits so_far.stands in
    block_stops c.args.fork p c.args.regs.now c.args.at c.args.kind c.loop-i.i less (take c.loop-i.i c.loop-i.words) c.loop-i.taken c.refer_next.new.taken so_far c.in-Err.stop
    (subst (λ (a : ℕ). Follows c.args.fork p c.args.regs.now.ac c.loop-i.taken c.refer_next.new.taken (refers a c.args.kind) (Err c.in-Err.stop)) c.loop-i.invariant.next stops)

pub returns-in-Err-clause-core : goal.returns-in-Err-clause-core
returns-in-Err-clause-core g c = c.in-Err.ensures.needs.0

pub returns-in-Err-clause-needs : goal.returns-in-Err-clause-needs
returns-in-Err-clause-needs g c = stop_more g.P.Pages.means.store c.args.pages.now _ (frames_for c.args.kind) c.in-Err.stop c.loop-i.invariant.left c.in-Err.ensures.frames

pub loop-i-preserved : goal.loop-i-preserved
loop-i-preserved g c =
    let i = c.loop-i.i in
    let e = c.in-Ok.ensures in
    let less : i < 16 = omega arith in
    record {
      fork = e.fork ∙ c.loop-i.invariant.fork;
      kept = e.kept ∙ c.loop-i.invariant.kept;
      count = omega (arith, e.count, c.loop-i.invariant.count);
      left = omega (arith, e.left, c.loop-i.invariant.left);
      long = length-set c.loop-i.words i c.in-Ok.word ∙ c.loop-i.invariant.long;
      next = c.next_address-next.ensures ∙ ap next_address c.loop-i.invariant.next ∙ one_behind c.args.at i;
      so_far = λ d fits.
          let p = framed g.P.Pages.means c.args.pages.now d in
          let so_far = c.loop-i.invariant.so_far d fits in
          let words = take i c.loop-i.words in
          let in_range : i < length c.loop-i.words = omega arith in
          let goes = subst (λ (a : ℕ). Follows c.args.fork p c.args.regs.now.ac c.loop-i.taken c.refer_next.new.taken (refers a c.args.kind) (Ok c.in-Ok.word)) c.loop-i.invariant.next (e.told d c.args.fork fits so_far.stands) in
          let can : c.args.kind ≡ Write → CanWrite {A = ℕ} c.args.fork p c.refer_next.new.taken (address_behind c.args.at i) (Ok c.in-Ok.word) =
          λ writes. subst (λ (a : ℕ). CanWrite {A = ℕ} c.args.fork p c.refer_next.new.taken a (Ok c.in-Ok.word)) c.loop-i.invariant.next (e.writes d c.args.fork fits so_far.stands writes) in
          let more = block_goes c.args.fork p c.args.regs.now c.args.at c.args.kind i less words c.loop-i.taken c.refer_next.new.taken so_far c.in-Ok.word goes can (e.still d c.args.fork fits so_far.stands) in
          subst (λ (ws : List ℕ). TakenSoFar c.args.fork p c.args.regs.now c.args.at c.args.kind c.refer_next.new.taken (i + 1) ws) (sym (take_more_set c.loop-i.words i c.in-Ok.word in_range)) more;
    }

pub returns-clause-told : goal.returns-clause-told
returns-clause-told g c d fits =
    let i = c.loop-i.i in
    let most : 16 ≤ i = omega arith in
    let upto : i ≤ 16 = omega arith in
    let all : take i c.loop-i.words ≡ c.loop-i.words = take_all i c.loop-i.words (omega (arith, c.loop-i.invariant.long)) in
    block_done c.args.fork (framed g.P.Pages.means c.args.pages.now d) c.args.regs.now c.args.at c.args.kind i (take i c.loop-i.words) c.loop-i.words c.loop-i.taken most upto all (c.loop-i.invariant.so_far d fits)
