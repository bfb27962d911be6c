use Rattle.std.proofs.Common.{◌≡◌, ◌+◌, None, sym, ◌∙◌, ap}
use Rattle.std.specs.FinMap as map
use Rattle.machine_names.specs.Orders.{file_page}
use Rattle.page_contracts.specs.declared.store.Room.TheVariants as room
use Rattle.page_contracts.specs.Pages.{room_for}
use Rattle.plain_pages.specs.Room.{live}
use Rattle.ka10_unit.specs.Gathers.{framed}
use Rattle.string_io.proofs.Filled.{made_fills, made_full, made_needs, room_enough, room_frames, room_full}
use Rattle.string_io.proofs.filling.made.Goals as goal

pub returns-in-Enough-clause-told : goal.returns-in-Enough-clause-told
returns-in-Enough-clause-told g c d owner fits own gathers =
    let means = g.P.Pages.means in
    let s = c.args.pages.now in
    let p = framed means s d in
    let agrees = g.met.P.Pages.agrees s d fits in
    let f = file_page c.args.file.0 c.args.page in
    let none : map.get p.pages.files f ≡ None = ap (λ filed. filed f) (sym agrees.filed) ∙ c.requires.none in
    let told : room.Enough ≡ room_for (live p.pages) p.pages.limit p.scene.free_frames (c.args.gather.now.homes + 1) = c.in-Enough.ensures.answer ∙ (λ i. room_for (agrees.number i) (agrees.bound i) p.scene.free_frames (c.homes.ensures i + 1)) in
    let both = room_enough (live p.pages) p.pages.limit p.scene.free_frames (c.args.gather.now.homes + 1) told in
    made_fills p owner own c.args.gather.now gathers f none _ both.0 both.1

pub returns-in-NeedFrame-clause-told : goal.returns-in-NeedFrame-clause-told
returns-in-NeedFrame-clause-told g c d owner fits own gathers =
    let means = g.P.Pages.means in
    let s = c.args.pages.now in
    let p = framed means s d in
    let agrees = g.met.P.Pages.agrees s d fits in
    let f = file_page c.args.file.0 c.args.page in
    let none : map.get p.pages.files f ≡ None = ap (λ filed. filed f) (sym agrees.filed) ∙ c.requires.none in
    let told : room.NeedFrame ≡ room_for (live p.pages) p.pages.limit p.scene.free_frames (c.args.gather.now.homes + 1) = c.in-NeedFrame.ensures.answer ∙ (λ i. room_for (agrees.number i) (agrees.bound i) p.scene.free_frames (c.homes.ensures i + 1)) in
    let both = room_frames (live p.pages) p.pages.limit p.scene.free_frames (c.args.gather.now.homes + 1) told in
    made_needs p owner own c.args.gather.now gathers f none both.0 both.1

pub returns-in-Full-clause-told : goal.returns-in-Full-clause-told
returns-in-Full-clause-told g c d owner fits own gathers =
    let means = g.P.Pages.means in
    let s = c.args.pages.now in
    let p = framed means s d in
    let agrees = g.met.P.Pages.agrees s d fits in
    let f = file_page c.args.file.0 c.args.page in
    let none : map.get p.pages.files f ≡ None = ap (λ filed. filed f) (sym agrees.filed) ∙ c.requires.none in
    let told : room.Full ≡ room_for (live p.pages) p.pages.limit p.scene.free_frames (c.args.gather.now.homes + 1) = c.in-Full.ensures.answer ∙ (λ i. room_for (agrees.number i) (agrees.bound i) p.scene.free_frames (c.homes.ensures i + 1)) in
    made_full p owner own c.args.gather.now gathers f none (room_full (live p.pages) p.pages.limit p.scene.free_frames (c.args.gather.now.homes + 1) told)
