use Rattle.std.proofs.Common.{ℕ, Option, subst}
use Rattle.plain_units.specs.Deeds.{deed_of}
use Rattle.ka10_spots.specs.Spots.{StoredIf}
use Rattle.ka10_in_place.proofs.BlockLemmas.{block_in_place}
use Rattle.ka10_in_place.proofs.Finishing.{is_done}
use Rattle.ka10_in_place.proofs.blocks.store_word.Goals as goal

pub returns-clause-unit : goal.returns-clause-unit
unfolding deed_of
returns-clause-unit g c =
    block_in_place g.P.Pages.means c.args.space c.args.regs.now c.do_deed-told.new.regs c.store.new.regs c.args.it.ac c.args.it.e c.args.it.last c.args.m c.do_deed-told.result c.args.it.accumulator c.do_deed-told.ensures c.ended.result c.ended.ensures c.args.to c.requires.to
    c.args.pages.now c.store.new.pages c.requires.ready
    (subst (λ (w : Option ℕ). StoredIf g.P.Pages.means c.args.space c.args.to w c.args.pages.now c.store.new.pages c.do_deed-told.new.regs c.store.new.regs) c.unless_counted.ensures c.store.ensures)

pub returns-clause-done : goal.returns-clause-done
returns-clause-done g c = is_done c.do_deed-told.result.post c.ended.result c.ended.ensures
