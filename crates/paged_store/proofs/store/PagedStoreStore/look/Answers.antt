use Rattle.std.proofs.Common.{◌∙◌, ℕ, Option, Some, sym, ap}
use Rattle.paged_store.proofs.Using.{has_words, shown_word}
use Rattle.paged_store.proofs.store.PagedStoreStore.look.Goals as goal

pub word-requires-clause-here : goal.word-requires-clause-here
word-requires-clause-here c =
    let s = c.args.self.now in
    has_words s.core.frames.seats s.core.queue.queued c.requires.found.home c.args.found c.requires.found.is

pub returns : goal.returns
returns c home is = shown_word c.args.self.now home c.args.found c.args.at is ∙ ap (λ (w : ℕ). let o : Option ℕ = Some w in o) (sym c.word.ensures)
