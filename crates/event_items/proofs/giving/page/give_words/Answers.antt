use Rattle.std.proofs.Common.{[], ◌∷◌, ◌++◌, ◌+◌, take, drop, slice_index, arith, sym, subst}
use Rattle.page_contracts.specs.DrumWords.{DrumWords}
use Rattle.page_contracts.specs.Pages.{spot_of}
use Rattle.plain_pages.specs.References.{page_at, words_at}
use Rattle.plain_pages.proofs.Makings.{page_fits}
use Rattle.std.specs.Cmp.{nat_cmp_total}
use Rattle.plain_model.specs.FileEvents.{words_shown}
use Rattle.script_texts.specs.Taker.{GoesOn}
use Rattle.script_texts.proofs.Takers.{goes_on_append, onward_then}
use Rattle.event_items.specs.Giving.{Takes}
use Rattle.event_items.proofs.Given.{on_err, takes_part, takes_then}
use Rattle.console_access.proofs.ShownWords.{all_words, one_more_word, words_split}
use Rattle.event_items.proofs.giving.page.give_words.Goals as goal

pub loop-offset-preserved : goal.loop-offset-preserved
loop-offset-preserved g c =
    let i = c.loop-offset.invariant in
    let one = c.in_ok-give_word.ensures in
    let p = λ (d : DrumWords). g.P.Pages.means.plain c.args.pages.now d in
    let at = spot_of c.args.at in
    let offset = c.loop-offset.offset in
    record {
      last = omega (arith, c.loop-offset-test.true);
      later = omega (arith, i.later, one.taker.later);
      onward = onward_then g.T.Taker.onward _ _ _ i.onward one.taker.goes_on;
      given = λ d f.
          let words = words_at (p d) at in
          let all = page_fits nat_cmp_total (p d) (g.met.P.Pages.whole c.args.pages.now d f.0) (page_at (p d) at) in
          subst (λ is. GoesOn g.T.Taker.stands c.args.out.now c.give_word.new.out is []) (one_more_word words offset (omega (arith, all, c.loop-offset-test.true)))
          (goes_on_append g.T.Taker.stands c.args.out.now _ c.give_word.new.out (words_shown 0 (take offset words)) (words_shown offset (slice_index words offset ∷ [])) [] [] (i.given d f) (one.given d f).ok);
    }

pub returns-in_err-give_word : goal.returns-in_err-give_word
returns-in_err-give_word g c =
    let i = c.loop-offset.invariant in
    let failed = c.in_err-give_word.ensures in
    let r = c.from_residual.result in
    let at = spot_of c.args.at in
    let offset = c.loop-offset.offset in
    record {
      taker = record {
        later = omega (arith, i.later, failed.taker.later);
        cause = on_err r (omega (arith, i.later, failed.taker.cause));
        goes_on = onward_then g.T.Taker.onward _ _ _ i.onward failed.taker.goes_on;
      };
      given = λ d f.
          let p = g.P.Pages.means.plain c.args.pages.now d in
          let words = words_at p at in
          let all = page_fits nat_cmp_total p (g.met.P.Pages.whole c.args.pages.now d f.0) (page_at p at) in
          let rest = words_shown (offset + 1) (drop (offset + 1) words) in
          subst (λ is. Takes g.T.Taker.stands g.T.Taker.cut c.args.out.now c.give_word.new.out r is []) (sym (words_split words offset (omega (arith, all, c.loop-offset-test.true))))
          (takes_then g.T.Taker.stands g.T.Taker.cut c.args.out.now _ c.give_word.new.out r (words_shown 0 (take offset words)) (words_shown offset (slice_index words offset ∷ []) ++ rest) [] [] (i.given d f)
          (takes_part g.T.Taker.stands g.T.Taker.cut _ c.give_word.new.out r (words_shown offset (slice_index words offset ∷ [])) rest [] [] c.from_residual.ensures.0 (failed.given d f).err));
    }

pub returns : goal.returns
returns g c =
    let i = c.loop-offset.invariant in
    let at = spot_of c.args.at in
    record {
      taker = record { later = i.later; cause = tt; goes_on = i.onward };
      given = λ d f.
          let p = g.P.Pages.means.plain c.args.pages.now d in
          let all = page_fits nat_cmp_total p (g.met.P.Pages.whole c.args.pages.now d f.0) (page_at p at) in
          record { ok = subst (λ ws. GoesOn g.T.Taker.stands c.args.out.now c.loop-offset.out (words_shown 0 ws) []) (all_words (words_at p at) c.loop-offset.offset (omega (arith, all, i.last, c.loop-offset-test.false))) (i.given d f); err = tt };
    }
