use Rattle.std.proofs.Common.{◌∙◌, sym, ap, cond}
use Rattle.page_contracts.specs.declared.answers.Touch.TheVariants.{Zero, Full}
use Rattle.page_contracts.specs.Pages.{framed}
use Rattle.flat_tables.specs.SlotTouches.{scene_of}
use Rattle.flat_tables.specs.TableSteps.{tables_of}
use Rattle.flat_pages.proofs.Rooming.{room_less}
use Rattle.flat_pages.proofs.flat_slots.FlatSlots.blank.Goals as goal

pub returns-then-not-has_room : goal.returns-then-not-has_room
returns-then-not-has_room g c =
    let homes = g.S.Store.means.homes c.args.self.now.store in
    let t = tables_of homes c.args.self.now.tables in
    sym (ap (λ b. cond b (framed (scene_of t (g.S.Store.means.spare c.args.self.now.store)) Zero) Full) (sym (c.has_room.ensures homes) ∙ c.if-not-has_room.true))

pub framed-requires : goal.framed-requires
framed-requires g c =
    let homes = g.S.Store.means.homes c.args.self.now.store in
    room_less (tables_of homes c.args.self.now.tables) c.args.pages c.requires.0 (sym (c.has_room.ensures homes) ∙ c.if-not-has_room.false)

pub returns : goal.returns
returns g c =
    let homes = g.S.Store.means.homes c.args.self.now.store in
    let t = tables_of homes c.args.self.now.tables in
    c.framed.ensures ∙ sym (ap (λ b. cond b (framed (scene_of t (g.S.Store.means.spare c.args.self.now.store)) Zero) Full) (sym (c.has_room.ensures homes) ∙ c.if-not-has_room.false))
