use Rattle.std.proofs.Common.{◌||◌, ◌&&◌, not, ◌+◌, sym, ◌∙◌, ap, arith}
use Rattle.std.specs.List.{list_any}
use Rattle.plain_model.specs.Interrupts.{forces, is_panic, posted_all}
use Rattle.plain_model.specs.Trees.{with_body}
use Rattle.std.proofs.Math.Bool.{or_assoc, or-false}
use Rattle.fork_tree.proofs.Posted.{channels_from, none_left, one_more, one_past}
use Rattle.fork_tree.proofs.posting.post_all.Goals as goal
use Rattle.fork_tree.proofs.posting.post_all.Goals.{then-has_channel, else-has_channel}

pub loop-channel-preserved : goal.loop-channel-preserved
loop-channel-preserved c =
    let word = c.args.channels in
    let channel = c.loop-channel.channel in
    let old = c.loop-channel.body in
    let rest = channels_from word (channel + 1) in
    let kept = c.loop-channel.invariant in
    elim c.if-has_channel.branch [
      | then-has_channel w ↦
          let more = one_more word channel (omega arith) (sym c.has_channel.ensures ∙ w.if-has_channel.true) in
          rw (w.body-is, w.forced-is) (record {
            fork = λ f. ap (λ g. posted_all g rest) (w.post-forced.ensures.fork f) ∙ sym (ap (posted_all (with_body old f)) more) ∙ kept.fork f;
            forced =
                ap (λ forced. (c.loop-channel.forced || forced) || list_any (forces c.args.body.now.psi) rest) (w.post-forced.ensures.forced ∙ ap (λ takes. not takes && is_panic channel) (kept.hears channel))
                ∙ or_assoc c.loop-channel.forced (forces c.args.body.now.psi channel) (list_any (forces c.args.body.now.psi) rest)
                ∙ sym (ap (λ channels. c.loop-channel.forced || list_any (forces c.args.body.now.psi) channels) more) ∙ kept.forced;
            hears = λ channel. w.post-forced.ensures.hears channel ∙ kept.hears channel;
            regs = w.post-forced.ensures.regs ∙ kept.regs;
            sleep = w.post-forced.ensures.sleep ∙ kept.sleep;
            units = w.post-forced.ensures.units ∙ kept.units;
            error = w.post-forced.ensures.error ∙ kept.error;
          })
      | else-has_channel w ↦
          let past = one_past word channel (omega arith) (sym c.has_channel.ensures ∙ w.if-has_channel.false) in
          rw (w.body-is, w.forced-is) (record {
            fork = λ f. sym (ap (posted_all (with_body old f)) past) ∙ kept.fork f;
            forced = sym (ap (λ channels. c.loop-channel.forced || list_any (forces c.args.body.now.psi) channels) past) ∙ kept.forced;
            hears = kept.hears;
            regs = kept.regs;
            sleep = kept.sleep;
            units = kept.units;
            error = kept.error;
          })
    ]

pub returns-clause-fork : goal.returns-clause-fork
returns-clause-fork c = λ f. sym (ap (posted_all (with_body c.loop-channel.body f)) (none_left c.args.channels c.loop-channel.channel (omega arith))) ∙ c.loop-channel.invariant.fork f

pub returns-clause-forced : goal.returns-clause-forced
returns-clause-forced c = sym (or-false c.loop-channel.forced) ∙ sym (ap (λ channels. c.loop-channel.forced || list_any (forces c.args.body.now.psi) channels) (none_left c.args.channels c.loop-channel.channel (omega arith))) ∙ c.loop-channel.invariant.forced
