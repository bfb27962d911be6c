use Rattle.std.proofs.Common.{◌≡◌, true, false, Some, inl, sym, ◌∙◌, subst}
use Rattle.ka10_spots.proofs.Stored.{lost_none}
use Rattle.file_tables.proofs.Known.{held_known}
use Rattle.string_io.specs.Carrying.{Opens}
use Rattle.string_io.proofs.carrying.change_where_open.Goals as goal

pub can_write-requires-clause-usable : goal.can_write-requires-clause-usable
can_write-requires-clause-usable g c =
    let held = c.in-Some.ensures.sound in
    (held_known c.args.tables.now c.in-Put.n (Some c.in-Some.jfn) held, held.fits)

pub returns-then-not-can_write-clause-told : goal.returns-then-not-can_write-clause-told
returns-then-not-can_write-clause-told g c d fits opens =
    let means = g.P.Pages.means in
    let s = c.args.pages.now in
    let open_now = subst (Opens (means.plain s d) (means.scene s) c.args.tables.now c.args.t) c.in-Put.is opens c.in-Some.jfn (sym c.in-Some.ensures.number) in
    let no : false ≡ true = c.if-not-can_write.ensures.told d c.args.t fits (inl c.requires.terminal) ∙ open_now in
    absurd (cc no)

pub returns-then-not-can_write-clause-loses : goal.returns-then-not-can_write-clause-loses
returns-then-not-can_write-clause-loses g c = lost_none g.P.Pages.means c.args.pages.now
