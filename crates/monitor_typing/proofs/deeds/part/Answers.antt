use Rattle.std.specs.Prelude.{Ok}
use Rattle.monitor_typing.proofs.CharacterDid.{does_part}
use Rattle.monitor_typing.proofs.deeds.part.Goals.{in-Begin, in-End, in-Kill, in-Typed}
use Rattle.monitor_typing.proofs.deeds.part.Goals as goal

pub returns-clause-does : goal.returns-clause-does
returns-clause-does g c =
    let m = c.args.system.now in
    let last = c.match-deed.system in
    let d = c.args.deed.now in
    let r = c.match-deed.done in
    elim c.match-deed.branch [
      | in-Typed w ↦ does_part m w.type_first.new.system last _ d (Ok w.type_first.result) r w.done-is w.system-is w.in-Typed.is w.type_first.ensures.does
      | in-Begin w ↦ does_part m w.begin-done.new.system last _ d w.begin-done.result r w.done-is w.system-is w.in-Begin.is w.begin-done.ensures.does
      | in-Kill w ↦ does_part m w.kill-done.new.system last _ d w.kill-done.result r w.done-is w.system-is w.in-Kill.is w.kill-done.ensures.does
      | in-End w ↦ does_part m w.end-done.new.system last _ d w.end-done.result r w.done-is w.system-is w.in-End.is w.end-done.ensures.does
    ]
