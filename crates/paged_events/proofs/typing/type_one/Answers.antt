use Rattle.std.proofs.Common.{sym, subst}
use Rattle.fork_tree.specs.Trees.{IsTree}
use Rattle.event_deeds.specs.Deeds.{deeds}
use Rattle.event_deeds.specs.declared.deed.Deed.TheVariants.{Typed}
use Rattle.plain_model.specs.TypeEvents.{typed_at}
use Rattle.deed_laws.proofs.Characters.{characters}
use Rattle.paged_events.proofs.Texts.{typed_same}
use Rattle.paged_events.proofs.typing.type_one.Goals as goal

pub returns-clause-typed : goal.returns-clause-typed
returns-clause-typed g c =
    typed_same g.S.System.means g.D.Drum.held g.T.Taker.stands g.T.Taker.cut c.deeds.result (λ q. deeds 34 q (Typed c.args.t c.args.code)) (λ q. typed_at q c.args.t c.args.code) c.args.waits.now.system c.deeds.new.waits.system c.args.drum.now c.deeds.new.drum c.args.out.now c.deeds.new.out
    (λ words st fits. sym (characters (g.S.System.means.plain c.args.waits.now.system words) c.args.t c.args.code (subst IsTree (sym (g.met.S.System.forked c.args.waits.now.system words fits)) c.trees.ensures))) c.deeds.ensures.typed

pub deeds-requires-clause-part : goal.deeds-requires-clause-part
deeds-requires-clause-part g c = ((c.requires.terminal, c.requires.code), tt)
