use Rattle.script_lang.proofs.Moves.{address_moves, stride_moves, turns_move}
use Rattle.script_lang.proofs.big.load.Goals as goal

pub returns-in-Code : goal.returns-in-Code
returns-in-Code c = rw c.in-Code.is (c.code.ensures c.args.draws.now.last)

pub returns-in-Address : goal.returns-in-Address
returns-in-Address c = rw (c.in-Address.is, c.poke.ensures) (address_moves c.args.t c.args.draws.now.last c.requires.0)

pub returns-in-Turns : goal.returns-in-Turns
returns-in-Turns c =
    let drawn = c.draw.ensures in
    rw (c.in-Turns.is, c.poke-in-Turns.ensures, drawn.last) (turns_move c.args.t c.args.draws.now.last c.draw.result c.requires.0 drawn.value drawn.below)

pub returns-in-Stride : goal.returns-in-Stride
returns-in-Stride c =
    let drawn = c.draw-in-Stride.ensures in
    rw (c.in-Stride.is, c.poke-in-Stride.ensures, drawn.last) (stride_moves c.args.t c.args.draws.now.last c.draw-in-Stride.result c.requires.0 drawn.value drawn.below)

pub returns-in-Start : goal.returns-in-Start
returns-in-Start c = rw c.in-Start.is (c.start.ensures c.args.draws.now.last)
