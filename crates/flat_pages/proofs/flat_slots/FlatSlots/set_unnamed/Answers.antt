use Rattle.std.proofs.Common.{◌≡◌, false, Some, refl, sym, ◌∙◌, ap}
use Rattle.flat_tables.specs.SlotTouches.{is_alone}
use Rattle.flat_tables.specs.TableSteps.{tables_of}
use Rattle.flat_tables.specs.declared.held_entry.HeldEntry.TheVariants.{Page}
use Rattle.flat_tables.proofs.Making.{alone_share, stays_shared}
use Rattle.flat_pages.proofs.EntrySetting.{left_step, freed_step, names_none}
use Rattle.flat_pages.proofs.flat_slots.FlatSlots.set_unnamed.Goals.{in-Page+else-is_alone, in_default}
use Rattle.flat_pages.proofs.flat_slots.FlatSlots.set_unnamed.Goals as goal

pub returns-then-is_alone : goal.returns-then-is_alone
returns-then-is_alone g c =
    let store = c.args.self.now.store in
    let t = tables_of (g.S.Store.means.homes store) c.args.self.now.tables in
    let there = c.entry.ensures ∙ ap Some c.in-Page.is in
    let one = alone_share t c.in-Page.home c.in-Page.old (ap (is_alone t.shares) (sym there) ∙ sym c.is_alone.ensures ∙ c.if-is_alone.true) in
    let step = freed_step g.S.Store.means store c.drop_page.new.self.store (g.met.S.Store.sound store) (g.met.S.Store.sound c.drop_page.new.self.store) c.args.self.now.tables c.drop_page.new.self.tables c.args.at (Page c.in-Page.home c.in-Page.old) c.args.new
    c.args.self.now.agree there c.requires.page c.requires.lives c.requires.none c.in-Page.home c.in-Page.old refl one c.drop_page.ensures.freed c.drop_page.ensures.tables in
    step.2

pub invariant_of-self : goal.invariant_of-self
invariant_of-self g c =
    let store = c.args.self.now.store in
    let sound = g.met.S.Store.sound store in
    let t = tables_of (g.S.Store.means.homes store) c.args.self.now.tables in
    let shared : is_alone t.shares (Some c.entry.result) ≡ false = elim c.match-entry.branch [
      | in-Page+else-is_alone w ↦ ap (is_alone t.shares) (sym c.entry.ensures) ∙ sym w.is_alone.ensures ∙ w.if-is_alone.false
      | in_default w ↦ names_none t.shares c.entry.result (λ h b is. w.in_default.not-Page h b is)
    ] in
    let step = left_step g.S.Store.means store store sound sound c.args.self.now.tables c.leave_page.new.self c.args.at c.entry.result c.args.new c.args.self.now.agree c.entry.ensures c.requires.page c.requires.lives refl c.requires.none
    (stays_shared t c.entry.result shared) (c.leave_page.ensures _) in
    record { agree = step.0; told = step.1 }

pub returns : goal.returns
returns g c =
    let store = c.args.self.now.store in
    let sound = g.met.S.Store.sound store in
    let t = tables_of (g.S.Store.means.homes store) c.args.self.now.tables in
    let shared : is_alone t.shares (Some c.entry.result) ≡ false = elim c.match-entry.branch [
      | in-Page+else-is_alone w ↦ ap (is_alone t.shares) (sym c.entry.ensures) ∙ sym w.is_alone.ensures ∙ w.if-is_alone.false
      | in_default w ↦ names_none t.shares c.entry.result (λ h b is. w.in_default.not-Page h b is)
    ] in
    let step = left_step g.S.Store.means store store sound sound c.args.self.now.tables c.leave_page.new.self c.args.at c.entry.result c.args.new c.args.self.now.agree c.entry.ensures c.requires.page c.requires.lives refl c.requires.none
    (stays_shared t c.entry.result shared) (c.leave_page.ensures _) in
    step.2
