use Rattle.std.proofs.Common.{refl, ◌∙◌, sym, ap, cond, is_some, subst}
use Rattle.page_contracts.specs.declared.answers.Touch.TheVariants.{Denied}
use Rattle.flat_tables.specs.HeldMaps.{index_of}
use Rattle.machine_names.specs.declared.names.Place.{Place}
use Rattle.machine_names.specs.Orders.{file_page}
use Rattle.page_contracts.specs.Pages.{touch_of, spot_of, is_in_core}
use Rattle.flat_tables.specs.SlotTables.{plain_of}
use Rattle.fork_maps.specs.ChainWalks.{copy_for}
use Rattle.flat_tables.specs.SlotTouches.{scene_of, touch_filed, touch_of_place, touch_walked, touch_made}
use Rattle.flat_pages.proofs.Agreement.{filed_named}
use Rattle.flat_pages.proofs.FileTouches.{file_told}
use Rattle.page_contracts.specs.Stores.{away_at}
use Rattle.flat_tables.specs.TableSteps.{tables_of}
use Rattle.flat_pages.proofs.Meeting.{found_walk, home_taken_is, copy_held, place_lives, at_told}
use Rattle.flat_pages.proofs.Settling.{sized_of}
use Rattle.page_contracts.specs.Pages.{TouchNeeds}
use Rattle.flat_pages.specs.SlotMeaning.{within, sound_within}
use Rattle.flat_pages.proofs.Using.{absent_of_file, made_needs, filed_needs, made_core}
use Rattle.flat_pages.proofs.flat_slots.FlatSlotsPages.touch.Goals as goal

pub returns-in_default-clause-told : goal.returns-in_default-clause-told
returns-in_default-clause-told g c d owner fits own =
    let s = c.args.self.now in
    let t = tables_of (g.S.Store.means.homes s.store) s.tables in
    let frames = g.S.Store.means.spare s.store in
    let lives = place_lives (λ f. is_some (index_of s.tables.maps.held.items f)) c.args.at c.in-Fork.slot c.in-Fork.is c.requires in
    sym (at_told t s.agree frames d (sized_of t.places d fits (g.met.S.Store.sound s.store).pages) owner own c.args.at c.in-Fork.slot c.in-Fork.is c.args.kind lives.0
    ∙ ap (touch_walked (away_at t.places) t (scene_of t frames) c.args.kind) (sym c.in_default.ensures))

pub returns-then-not-permits-clause-told : goal.returns-then-not-permits-clause-told
returns-then-not-permits-clause-told g c d owner fits own =
    let s = c.args.self.now in
    let t = tables_of (g.S.Store.means.homes s.store) s.tables in
    let frames = g.S.Store.means.spare s.store in
    let w = c.in-Some.walk in
    let lives = place_lives (λ f. is_some (index_of s.tables.maps.held.items f)) c.args.at c.in-Fork.slot c.in-Fork.is c.requires in
    sym (at_told t s.agree frames d (sized_of t.places d fits (g.met.S.Store.sound s.store).pages) owner own c.args.at c.in-Fork.slot c.in-Fork.is c.args.kind lives.0
    ∙ ap (touch_walked (away_at t.places) t (scene_of t frames) c.args.kind) (sym c.in-Some.ensures)
    ∙ ap (λ b. cond b (touch_made (away_at t.places) t (scene_of t frames) w.home (copy_for c.args.kind w)) (Denied c.args.kind)) (sym c.permits.ensures ∙ c.if-not-permits.true))

pub made-requires-clause-taken : goal.made-requires-clause-taken
made-requires-clause-taken g c h is_home =
    let s = c.args.self.now in
    let t = tables_of (g.S.Store.means.homes s.store) s.tables in
    let lives = place_lives (λ f. is_some (index_of s.tables.maps.held.items f)) c.args.at c.in-Fork.slot c.in-Fork.is c.requires in
    home_taken_is t s.agree c.in-Fork.slot c.in-Some.walk (found_walk t s.agree c.in-Fork.slot c.in-Some.walk lives.0 (sym c.in-Some.ensures)) h is_home

pub made-requires-clause-there : goal.made-requires-clause-there
made-requires-clause-there g c m is_copy =
    let s = c.args.self.now in
    let t = tables_of (g.S.Store.means.homes s.store) s.tables in
    let lives = place_lives (λ f. is_some (index_of s.tables.maps.held.items f)) c.args.at c.in-Fork.slot c.in-Fork.is c.requires in
    copy_held t s.agree c.in-Fork.slot c.in-Some.walk (found_walk t s.agree c.in-Fork.slot c.in-Some.walk lives.0 (sym c.in-Some.ensures)) c.args.kind m (sym c.copy_for.ensures ∙ is_copy)

pub returns-clause-told : goal.returns-clause-told
returns-clause-told g c d owner fits own =
    let s = c.args.self.now in
    let t = tables_of (g.S.Store.means.homes s.store) s.tables in
    let frames = g.S.Store.means.spare s.store in
    let w = c.in-Some.walk in
    let lives = place_lives (λ f. is_some (index_of s.tables.maps.held.items f)) c.args.at c.in-Fork.slot c.in-Fork.is c.requires in
    sym (at_told t s.agree frames d (sized_of t.places d fits (g.met.S.Store.sound s.store).pages) owner own c.args.at c.in-Fork.slot c.in-Fork.is c.args.kind lives.0
    ∙ ap (touch_walked (away_at t.places) t (scene_of t frames) c.args.kind) (sym c.in-Some.ensures)
    ∙ ap (λ b. cond b (touch_made (away_at t.places) t (scene_of t frames) w.home (copy_for c.args.kind w)) (Denied c.args.kind)) (sym c.permits.ensures ∙ c.if-not-permits.false)
    ∙ ap (touch_made (away_at t.places) t (scene_of t frames) w.home) (sym c.copy_for.ensures) ∙ sym c.made.ensures)

pub returns-clause-needs : goal.returns-clause-needs
returns-clause-needs g c =
    let s = c.args.self.now in
    let t = tables_of (g.S.Store.means.homes s.store) s.tables in
    subst (TouchNeeds (within g.S.Store.means (λ p. p.store)) s) (sym c.made.ensures) (made_needs (within g.S.Store.means (λ p. p.store)) s t refl c.in-Some.walk.home c.copy_for.result)

pub touch_filed-requires : goal.touch_filed-requires
touch_filed-requires g c h is_home =
    let s = c.args.self.now in
    let t = tables_of (g.S.Store.means.homes s.store) s.tables in
    let n = filed_named t s.agree (file_page c.in-File.file.0 c.in-File.page) h (sym c.filed.ensures ∙ is_home) in
    s.agree.is_taken h.0 ∙ ap is_some n.1

pub returns-in-File-clause-told : goal.returns-in-File-clause-told
returns-in-File-clause-told g c d owner fits own =
    let s = c.args.self.now in
    let t = tables_of (g.S.Store.means.homes s.store) s.tables in
    let frames = g.S.Store.means.spare s.store in
    c.touch_filed.ensures ∙ ap (touch_filed (away_at t.places) t (scene_of t frames) c.args.kind) c.filed.ensures
    ∙ sym (ap (λ (x : Place). touch_of (plain_of t d) (scene_of t frames) (spot_of x) c.args.kind owner) c.in-File.is
    ∙ file_told t s.agree frames d (sized_of t.places d fits (g.met.S.Store.sound s.store).pages) owner own (file_page c.in-File.file.0 c.in-File.page) c.args.kind)

pub returns-in-File-clause-needs : goal.returns-in-File-clause-needs
returns-in-File-clause-needs g c =
    let s = c.args.self.now in
    let t = tables_of (g.S.Store.means.homes s.store) s.tables in
    subst (TouchNeeds (within g.S.Store.means (λ p. p.store)) s) (sym c.touch_filed.ensures) (filed_needs (within g.S.Store.means (λ p. p.store)) s t refl c.args.kind c.filed.result)

pub returns-clause-core : goal.returns-clause-core
returns-clause-core g c flat =
    let s = c.args.self.now in
    let t = tables_of (g.S.Store.means.homes s.store) s.tables in
    let lives = place_lives (λ f. is_some (index_of s.tables.maps.held.items f)) c.args.at c.in-Fork.slot c.in-Fork.is c.requires in
    ap is_in_core c.made.ensures ∙ made_core (within g.S.Store.means (λ p. p.store)) s (sound_within g.S.Store.means (λ p. p.store) s (g.met.S.Store.sound s.store)) flat t s.agree refl c.in-Some.walk.home c.copy_for.result
    (home_taken_is t s.agree c.in-Fork.slot c.in-Some.walk (found_walk t s.agree c.in-Fork.slot c.in-Some.walk lives.0 (sym c.in-Some.ensures)))

pub returns-in-File-clause-away : goal.returns-in-File-clause-away
returns-in-File-clause-away g c home is =
    let s = c.args.self.now in
    let store = g.S.Store.means in
    let t = tables_of (store.homes s.store) s.tables in
    absent_of_file store (λ p. p.store) (λ p. tables_of (store.homes p.store) p.tables) s s.agree (store.spare s.store) c.args.at c.args.kind home
    (ap (λ (x : Place). touch_of_place t (store.spare s.store) x c.args.kind) c.in-File.is ∙ sym (c.touch_filed.ensures ∙ ap (touch_filed (away_at t.places) t (scene_of t (store.spare s.store)) c.args.kind) c.filed.ensures) ∙ is)
