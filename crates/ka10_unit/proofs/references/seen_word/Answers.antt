use Rattle.std.proofs.Common.{◌≡◌, ◌%◌, true, false, ◌∙◌, sym, refl}
use Rattle.outside.specs.declared.TheConstants.{PAGE_WORDS}
use Rattle.plain_pages.specs.References.{slot_at}
use Rattle.page_gather.specs.Gathering.{left_of}
use Rattle.ka10_unit.specs.Taking.{stands_at}
use Rattle.ka10_unit.proofs.Seeing.{word_named}
use Rattle.ka10_unit.proofs.references.seen_word.Goals as goal

pub returns-in-None : goal.returns-in-None
returns-in-None g c = record {
  told = λ d n fits gathers here can there. rw c.in-None.is (c.held_word.ensures.told d fits gathers here ∙ word_named _ (slot_at c.args.fork c.args.at) (c.args.at % PAGE_WORDS) n there);
}

pub returns-then-is_stored_at : goal.returns-then-is_stored_at
returns-then-is_stored_at g c = record {
  told = λ d n fits gathers here can there.
      let beside = (rw c.in-Some.is at can).near in
      let same : stands_at c.args.fork (left_of (g.P.Pages.means.plain c.args.pages.now d) c.args.gather.now) c.in-Some.put.at c.args.at n ≡ true = sym (c.is_stored_at.ensures.told d n fits gathers here beside there) ∙ c.if-is_stored_at.true in
      rw (c.in-Some.is, same) refl;
}

pub returns-else-is_stored_at : goal.returns-else-is_stored_at
returns-else-is_stored_at g c = record {
  told = λ d n fits gathers here can there.
      let beside = (rw c.in-Some.is at can).near in
      let elsewhere : stands_at c.args.fork (left_of (g.P.Pages.means.plain c.args.pages.now d) c.args.gather.now) c.in-Some.put.at c.args.at n ≡ false = sym (c.is_stored_at.ensures.told d n fits gathers here beside there) ∙ c.if-is_stored_at.false in
      rw (c.in-Some.is, elsewhere) (c.held_word-else-is_stored_at.ensures.told d fits gathers here ∙ word_named _ (slot_at c.args.fork c.args.at) (c.args.at % PAGE_WORDS) n there);
}
