use Rattle.std.proofs.Common.{Option, sym, ◌∙◌, ap}
use Rattle.std.specs.Prelude.{slice_index}
use Rattle.machine_names.specs.declared.names.Slot.{Slot}
use Rattle.page_gather.specs.Changes.{source_words}
use Rattle.page_gather.proofs.WordsSeen.{zeros_at, word_none, peek_word, entry_none}
use Rattle.page_gather.proofs.seeing.source_word.Goals as goal

pub returns-in_default : goal.returns-in_default
returns-in_default g c = record { told = λ d fits near. sym (ap (λ (s : Option Slot). slice_index (source_words (g.P.Pages.means.plain c.args.pages.now d) s) c.args.offset) c.in_default.is ∙ zeros_at c.args.offset) }

pub returns-in_default-entry : goal.returns-in_default-entry
returns-in_default-entry g c = record {
  told = λ d fits near.
      word_none _ c.in-Some.slot c.args.offset (entry_none _ c.in-Some.slot c.args.offset _ (near c.in-Some.slot c.in-Some.is) _ c.in_default-entry.not-Is (c.entry.ensures.told d fits))
      ∙ sym (ap (λ (s : Option Slot). slice_index (source_words (g.P.Pages.means.plain c.args.pages.now d) s) c.args.offset) c.in-Some.is);
}

pub returns : goal.returns
returns g c = record {
  told = λ d fits near.
      c.found_word.ensures ∙ peek_word _ c.in-Some.slot c.args.offset _ (near c.in-Some.slot c.in-Some.is) _ (c.peek.ensures.told d fits)
      ∙ sym (ap (λ (s : Option Slot). slice_index (source_words (g.P.Pages.means.plain c.args.pages.now d) s) c.args.offset) c.in-Some.is);
}
