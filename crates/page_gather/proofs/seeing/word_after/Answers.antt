use Rattle.std.proofs.Common.{sym, ◌∙◌, ap}
use Rattle.std.specs.Prelude.{slice_index}
use Rattle.plain_pages.specs.PlainPages.{NumberedPages}
use Rattle.page_gather.specs.Changes.{source_words}
use Rattle.page_gather.specs.Gathering.{after_all}
use Rattle.page_gather.proofs.Judged.{lost_told, found_told}
use Rattle.page_gather.proofs.WordsSeen.{word_none, empty_word, after_word, after_near}
use Rattle.page_gather.proofs.seeing.word_after.Goals as goal

pub returns-in_default : goal.returns-in_default
returns-in_default g c = record {
  told = λ d owner homes rs fits k referred.
      let p : NumberedPages = g.P.Pages.means.plain c.args.pages.now d in
      word_none (after_all p owner rs) c.args.slot c.args.offset
      (lost_told p (after_all p owner rs) (g.P.Pages.means.scene c.args.pages.now) owner c.args.changes.now homes c.args.slot _ c.in_default.not-Found referred.maps (c.walk.ensures.told d (after_all p owner rs) owner homes fits k.changed));
}

pub returns-then-w : goal.returns-then-w
returns-then-w g c = record {
  told = λ d owner homes rs fits k referred.
      let p : NumberedPages = g.P.Pages.means.plain c.args.pages.now d in
      let j = found_told p (after_all p owner rs) (g.P.Pages.means.scene c.args.pages.now) owner c.args.changes.now homes c.args.slot c.in-Found.w k.sound k.own k.changed (c.in-Found.ensures.told d (after_all p owner rs) owner homes fits k.changed) in
      empty_word p (after_all p owner rs) _ owner c.args.changes.now homes c.args.slot c.in-Found.w j c.args.offset c.if-w.true;
}

pub returns : goal.returns
returns g c = record {
  told = λ d owner homes rs fits k referred.
      let p : NumberedPages = g.P.Pages.means.plain c.args.pages.now d in
      let j = found_told p (after_all p owner rs) (g.P.Pages.means.scene c.args.pages.now) owner c.args.changes.now homes c.args.slot c.in-Found.w k.sound k.own k.changed (c.in-Found.ensures.told d (after_all p owner rs) owner homes fits k.changed) in
      c.source_word.ensures.told d fits (λ s from. after_near p (after_all p owner rs) _ owner c.args.changes.now homes c.args.slot c.in-Found.w j c.args.offset c.if-w.false k.sources referred s (sym c.source_of.ensures.is ∙ from))
      ∙ ap (λ source. slice_index (source_words p source) c.args.offset) c.source_of.ensures.is ∙ after_word p (after_all p owner rs) _ owner c.args.changes.now homes c.args.slot c.in-Found.w j c.args.offset c.if-w.false;
}
