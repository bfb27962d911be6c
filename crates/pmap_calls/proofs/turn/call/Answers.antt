use Rattle.std.proofs.Common.{inl}
use Rattle.pmap_calls.specs.Asking.{asked}
use Rattle.file_tables.specs.Keys.{seen_in}
use Rattle.ka10_spots.proofs.Stored.{lost_none}
use Rattle.pmap_calls.proofs.Turning.{ends_so, waits_so}
use Rattle.pmap_calls.proofs.turn.call.Goals as goal

pub returns-in-Ok-clause-told : goal.returns-in-Ok-clause-told
returns-in-Ok-clause-told g c d f =
    let tables = c.args.tables.now in
    let tree = c.args.tree.now in
    let p = g.P.Pages.means.plain c.args.pages.now d in
    let t = c.end.ensures.told d f in (
      t.0,
      ends_so tables tree c.args.who.tty c.first.result (g.P.Pages.means.scene c.args.pages.now) p (g.P.Pages.means.plain c.end.new.pages d) c.args.number (asked c.args.who c.args.regs.now tree tables) c.first.ensures.turn c.end.result c.in-Ok.outcome
          (c.in-Ok.ensures.told d c.args.who.tty (seen_in tables) f (inl c.requires.terminal)) t.1,
    )

pub returns-in-Err-clause-told : goal.returns-in-Err-clause-told
returns-in-Err-clause-told g c d f =
    let tables = c.args.tables.now in
    let tree = c.args.tree.now in
    let p = g.P.Pages.means.plain c.args.pages.now d in (
      f,
      waits_so tables tree c.args.who.tty c.first.result (g.P.Pages.means.scene c.args.pages.now) p c.args.number (asked c.args.who c.args.regs.now tree tables) c.first.ensures.turn c.in-Err.need
          (c.in-Err.ensures.told d c.args.who.tty (seen_in tables) f (inl c.requires.terminal)),
    )

pub returns-in-Err-clause-loses : goal.returns-in-Err-clause-loses
returns-in-Err-clause-loses g c = lost_none g.P.Pages.means c.args.pages.now
