use Rattle.std.proofs.Common.{◌∙◌, arith}
use Rattle.share_table.proofs.Slabs.{page_is, shared, room_more}
use Rattle.share_table.proofs.shares.ShareTable.share.Goals as goal

pub insert_reserved-requires : goal.insert_reserved-requires
insert_reserved-requires c = room_more c.self.inside.room c.self.inside.pages c.args.self.now c.self.invariant c.self.view_is c.requires

pub invariant_of-self : goal.invariant_of-self
invariant_of-self c =
    (shared c.self.inside.room c.self.inside.pages c.insert_reserved.new.self c.args.self.now c.insert_reserved.result (record { home = c.args.home; count = 1 })
    c.self.invariant c.self.view_is c.insert_reserved.ensures.updates c.insert_reserved.ensures.was_vacant c.insert_reserved.ensures.key_in_range c.insert_reserved.ensures.capacity
    (omega arith) c.requires).roomy

pub returns-clause-new : goal.returns-clause-new
returns-clause-new c =
    page_is c.self.inside.room c.self.inside.pages c.args.self.now c.insert_reserved.result c.self.view_is ∙ c.insert_reserved.ensures.was_vacant

pub returns-clause-shared : goal.returns-clause-shared
returns-clause-shared c =
    (shared c.self.inside.room c.self.inside.pages c.insert_reserved.new.self c.args.self.now c.insert_reserved.result (record { home = c.args.home; count = 1 })
    c.self.invariant c.self.view_is c.insert_reserved.ensures.updates c.insert_reserved.ensures.was_vacant c.insert_reserved.ensures.key_in_range c.insert_reserved.ensures.capacity
    (omega arith) c.requires).view
