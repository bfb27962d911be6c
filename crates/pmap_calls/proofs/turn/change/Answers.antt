use Rattle.std.proofs.Common.{subst}
use Rattle.plain_model.specs.declared.call.MapChange.TheVariants.{Unmap, Follow, Narrow, Put, Drop}
use Rattle.call_turns.specs.Granting.{pages_granted}
use Rattle.file_tables.specs.Keys.{key_of}
use Rattle.pmap_calls.specs.Stages.{IsMapChange}
use Rattle.pmap_calls.proofs.Changes.{drop_made, drop_so, follow_made, follow_so, map_so, narrow_made, narrow_so, nothing_made, nothing_so, put_made, put_so, unmap_made, unmap_so}
use Rattle.ka10_spots.proofs.Stored.{lost_none}
use Rattle.pmap_calls.proofs.turn.change.Goals as goal

pub returns-in-Nothing-clause-told : goal.returns-in-Nothing-clause-told
returns-in-Nothing-clause-told g c d f =
    let p = g.P.Pages.means.plain c.args.pages.now d in
    (f, nothing_so (key_of c.args.tables.now) p p (pages_granted p c.args.owner c.args.grant) c.args.what c.in-Nothing.is (nothing_made p c.args.owner c.args.grant (subst (IsMapChange c.args.grant) c.in-Nothing.is c.requires.what)))

pub returns-in-Nothing-clause-loses : goal.returns-in-Nothing-clause-loses
returns-in-Nothing-clause-loses g c = lost_none g.P.Pages.means c.args.pages.now

pub returns-in-Unmap-clause-told : goal.returns-in-Unmap-clause-told
returns-in-Unmap-clause-told g c d f =
    let p = g.P.Pages.means.plain c.args.pages.now d in
    let h : IsMapChange c.args.grant (Unmap c.in-Unmap.slot) = subst (IsMapChange c.args.grant) c.in-Unmap.is c.requires.what in
    let t = c.set.ensures.told d f in
    (t.0, unmap_so (key_of c.args.tables.now) (g.P.Pages.means.scene c.args.pages.now) p (g.P.Pages.means.plain c.set.new.pages d) (pages_granted p c.args.owner c.args.grant) c.set.result c.args.what c.in-Unmap.slot c.in-Unmap.is (unmap_made p c.args.owner c.args.grant c.in-Unmap.slot h) t.1)

pub returns-in-Follow-clause-told : goal.returns-in-Follow-clause-told
returns-in-Follow-clause-told g c d f =
    let p = g.P.Pages.means.plain c.args.pages.now d in
    let h : IsMapChange c.args.grant (Follow c.in-Follow.slot c.in-Follow.other c.in-Follow.access) = subst (IsMapChange c.args.grant) c.in-Follow.is c.requires.what in
    let t = c.set-in-Follow.ensures.told d f in
    (t.0, follow_so (key_of c.args.tables.now) (g.P.Pages.means.scene c.args.pages.now) p (g.P.Pages.means.plain c.set-in-Follow.new.pages d) (pages_granted p c.args.owner c.args.grant) c.set-in-Follow.result c.args.what c.in-Follow.slot c.in-Follow.other c.in-Follow.access c.in-Follow.is (follow_made p c.args.owner c.args.grant c.in-Follow.slot c.in-Follow.other c.in-Follow.access h) t.1)

pub returns-in-Narrow-clause-told : goal.returns-in-Narrow-clause-told
returns-in-Narrow-clause-told g c d f =
    let p = g.P.Pages.means.plain c.args.pages.now d in
    let h : IsMapChange c.args.grant (Narrow c.in-Narrow.slot c.in-Narrow.access) = subst (IsMapChange c.args.grant) c.in-Narrow.is c.requires.what in
    let t = c.set-in-Narrow.ensures.told d f in
    (t.0, narrow_so (key_of c.args.tables.now) (g.P.Pages.means.scene c.args.pages.now) p (g.P.Pages.means.plain c.set-in-Narrow.new.pages d) (pages_granted p c.args.owner c.args.grant) c.set-in-Narrow.result c.args.what c.in-Narrow.slot c.in-Narrow.access c.in-Narrow.is (narrow_made p c.args.owner c.args.grant c.in-Narrow.slot c.in-Narrow.access h) t.1)

pub returns-in-Map-clause-told : goal.returns-in-Map-clause-told
returns-in-Map-clause-told g c d f =
    let p = g.P.Pages.means.plain c.args.pages.now d in
    let t = c.map_page.ensures.told d f in
    (t.0, map_so (key_of c.args.tables.now) (g.P.Pages.means.scene c.args.pages.now) p (g.P.Pages.means.plain c.map_page.new.pages d) (pages_granted p c.args.owner c.args.grant) c.map_page.result c.args.what c.in-Map.slot c.number-file.result c.in-Map.name c.in-Map.page c.in-Map.access c.in-Map.is c.number-file.ensures.number t.1)

pub returns-in-Put-clause-told : goal.returns-in-Put-clause-told
returns-in-Put-clause-told g c d f =
    let p = g.P.Pages.means.plain c.args.pages.now d in
    let h : IsMapChange c.args.grant (Put c.in-Put.name c.in-Put.page c.in-Put.from) = subst (IsMapChange c.args.grant) c.in-Put.is c.requires.what in
    let t = c.set_file.ensures.told d f in
    (t.0, put_so (key_of c.args.tables.now) p (g.P.Pages.means.plain c.set_file.new.self d) (pages_granted p c.args.owner c.args.grant) c.args.what c.number.result c.in-Put.name c.in-Put.page c.in-Put.from c.in-Put.is (put_made p c.args.owner c.args.grant c.in-Put.name c.in-Put.page c.in-Put.from h) c.number.ensures.number t.1)

pub returns-in-Drop-clause-told : goal.returns-in-Drop-clause-told
returns-in-Drop-clause-told g c d f =
    let p = g.P.Pages.means.plain c.args.pages.now d in
    let h : IsMapChange c.args.grant (Drop c.in-Drop.name c.in-Drop.page) = subst (IsMapChange c.args.grant) c.in-Drop.is c.requires.what in
    let t = c.set_file-in-Drop.ensures.told d f in
    (t.0, drop_so (key_of c.args.tables.now) p (g.P.Pages.means.plain c.set_file-in-Drop.new.self d) (pages_granted p c.args.owner c.args.grant) c.args.what c.number-in-Drop.result c.in-Drop.name c.in-Drop.page c.in-Drop.is (drop_made p c.args.owner c.args.grant c.in-Drop.name c.in-Drop.page h) c.number-in-Drop.ensures.number t.1)

-- what an entry makes
pub returns-in-Unmap-clause-made : goal.returns-in-Unmap-clause-made
returns-in-Unmap-clause-made g c = c.set.ensures.made c.args.owner

pub returns-in-Follow-clause-made : goal.returns-in-Follow-clause-made
returns-in-Follow-clause-made g c = c.set-in-Follow.ensures.made c.args.owner

pub returns-in-Narrow-clause-made : goal.returns-in-Narrow-clause-made
returns-in-Narrow-clause-made g c = c.set-in-Narrow.ensures.made c.args.owner
