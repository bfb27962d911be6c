-- What is wrong with the event of a line.
use Rattle.std.proofs.Common.{◌≡◌, ℕ, List, Option, None, Some, sym, subst}
use Rattle.std.specs.Prelude.{IfSome}
use Rattle.script_texts.specs.declared.event.Event.{Event}
use Rattle.script_texts.specs.Script.{Spells}
use Rattle.host_side.specs.declared.watch.Wrong.{Wrong}
use Rattle.host_side.specs.declared.watch.Wrong.TheVariants.{TooManyTurns}
use Rattle.host_side.specs.BadLines.{IsWrong}

-- of a line that spells an event only its turns can be wrong
pub turns_wrong : (line : List ℕ) (e : Event) (found : Option Wrong) → Spells line e → IfSome found (λ wrong. wrong ≡ TooManyTurns) → IfSome found (λ wrong. IsWrong wrong line)
turns_wrong line e None spells is = is
turns_wrong line e (Some wrong) spells is = subst (λ w. IsWrong w line) (sym is) (e, spells)
