use Rattle.std.proofs.Common.{◌∙◌, false, sym, ap, cond}
use Rattle.page_contracts.specs.declared.answers.Touch.TheVariants.{Copy, Full}
use Rattle.page_contracts.specs.Pages.{framed, absent_or}
use Rattle.flat_tables.specs.SlotTouches.{scene_of, touch_copy}
use Rattle.page_contracts.specs.Stores.{away_at}
use Rattle.flat_tables.specs.TableSteps.{tables_of}
use Rattle.flat_pages.proofs.flat_slots.FlatSlots.copied.Goals as goal

pub returns-then-not-has_room : goal.returns-then-not-has_room
returns-then-not-has_room g c =
    let homes = g.S.Store.means.homes c.args.self.now.store in
    let t = tables_of homes c.args.self.now.tables in
    let scene = scene_of t (g.S.Store.means.spare c.args.self.now.store) in
    let absent = away_at homes c.args.home.0 in
    sym (ap (touch_copy t scene absent) (sym c.is_alone.ensures ∙ c.if-is_alone.false) ∙ ap (λ b. cond b (absent_or absent (framed scene (Copy false))) Full) (sym (c.has_room.ensures homes) ∙ c.if-not-has_room.true))

pub framed-touch-requires : goal.framed-touch-requires
framed-touch-requires g c = sym (c.has_room.ensures (g.S.Store.means.homes c.args.self.now.store)) ∙ c.if-not-has_room.false

pub returns : goal.returns
returns g c =
    let homes = g.S.Store.means.homes c.args.self.now.store in
    let t = tables_of homes c.args.self.now.tables in
    let scene = scene_of t (g.S.Store.means.spare c.args.self.now.store) in
    let absent = away_at homes c.args.home.0 in
    c.present-2.ensures ∙ ap (absent_or absent) c.framed-touch.ensures
    ∙ sym (ap (touch_copy t scene absent) (sym c.is_alone.ensures ∙ c.if-is_alone.false) ∙ ap (λ b. cond b (absent_or absent (framed scene (Copy false))) Full) (sym (c.has_room.ensures homes) ∙ c.if-not-has_room.false))
