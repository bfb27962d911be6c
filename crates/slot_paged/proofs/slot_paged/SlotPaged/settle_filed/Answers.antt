use Rattle.std.proofs.Common.{sym, ◌∙◌}
use Rattle.slot_paged.proofs.SettledPages.{filed_is_here, filed_is_zero, filed_made, filed_used}
use Rattle.slot_paged.proofs.slot_paged.SlotPaged.settle_filed.Goals as goal

pub used-requires : goal.used-requires
used-requires g c = filed_is_here g.met.S.Store.sound c.args.self.now c.args.file c.args.page c.args.kind c.args.owner c.requires.owner c.requires.ready c.in-Some.home (sym c.filed.ensures ∙ c.in-Some.is)

pub returns-in-Some : goal.returns-in-Some
returns-in-Some g c =
    filed_used g.met.S.Store.sound c.args.self.now c.args.file c.args.page c.args.kind c.args.owner c.requires.owner c.requires.ready c.used.new.self c.in-Some.home (sym c.filed.ensures ∙ c.in-Some.is) c.used.ensures.used c.used.ensures.homes

pub make_filed-requires-clause-room : goal.make_filed-requires-clause-room
make_filed-requires-clause-room g c = (filed_is_zero g.met.S.Store.sound c.args.self.now c.args.file c.args.page c.args.kind c.args.owner c.requires.owner c.requires.ready (sym c.filed.ensures ∙ c.in-None.is)).room

pub make_filed-requires-clause-frame : goal.make_filed-requires-clause-frame
make_filed-requires-clause-frame g c = (filed_is_zero g.met.S.Store.sound c.args.self.now c.args.file c.args.page c.args.kind c.args.owner c.requires.owner c.requires.ready (sym c.filed.ensures ∙ c.in-None.is)).frame

pub returns-in-None : goal.returns-in-None
returns-in-None g c =
    filed_made g.met.S.Store.sound c.args.self.now c.args.file c.args.page c.args.kind c.args.owner c.requires.owner c.requires.ready (sym c.filed.ensures ∙ c.in-None.is) c.make_filed.new.self c.requires.page c.make_filed.ensures
