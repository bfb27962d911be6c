use Rattle.std.proofs.Common.{◌∙◌, ap}
use Rattle.plain_model.specs.Calls.{given}
use Rattle.plain_model.specs.MapCalls.{access_at, on_page, place_of}
use Rattle.call_turns.specs.Numbers.{numbered_turn}
use Rattle.pmap_calls.specs.Asking.{asked}
use Rattle.file_tables.specs.Keys.{key_of}
use Rattle.pmap_calls.proofs.calls.rpacs.Goals as goal

pub returns-in-Ok-clause-turn : goal.returns-in-Ok-clause-turn
returns-in-Ok-clause-turn c =
    let tables = c.args.tables.now in
    c.access_at.ensures.turn c.args.who.tty c.args.tree.now tables c.in-Ok.ensures.sound
    ∙ ap (λ r. numbered_turn (key_of tables) (given r (access_at c.args.regs.now))) (c.in-Ok.ensures.place c.args.regs.now ∙ ap (λ w. on_page w (place_of (asked c.args.who c.args.regs.now c.args.tree.now tables) w)) c.accumulator.ensures)

pub returns-in-Ok-clause-fits : goal.returns-in-Ok-clause-fits
returns-in-Ok-clause-fits c = c.access_at.ensures.fits c.args.tables.now c.in-Ok.ensures.sound
