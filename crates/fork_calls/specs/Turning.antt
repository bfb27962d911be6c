-- A turn of a fork call, over forks and pages.
use Rattle.std.specs.Prelude.{◌≡◌, Result, Ok, Err, ⊤}
use Rattle.std.specs.Ordering.{nat_cmp}
use Rattle.plain_model.specs.declared.call.ForkChange.{ForkChange}
use Rattle.call_turns.specs.declared.answer.Answer.{Answer}
use Rattle.call_turns.specs.declared.answer.Answer.TheVariants as answer
use Rattle.page_contracts.specs.declared.answers.Need.{Need}
use Rattle.page_contracts.specs.DrumWords.{DrumWords}
use Rattle.plain_pages.specs.PlainPages.{NumberedPages}
use Rattle.page_contracts.specs.Pages.{PagesMeaning}
use Rattle.plain_model.specs.Trees.{PlainTree}
use Rattle.plain_model.specs.Calls.{Turn, no_files, turn_on}
use Rattle.plain_model.specs.ForkCalls.{ForkParts, fork_changed}
use Rattle.call_turns.specs.Answers.{IsTurn}
use Rattle.ka10_unit.specs.declared.taken.Stop.{Stop}
use Rattle.ka10_unit.specs.declared.taken.Stop.TheVariants as stop
use Rattle.ka10_unit.specs.Gathers.{Framed, framed}
use Rattle.job_forks.specs.Holding.{parts}
use Rattle.fork_calls.specs.Needing.{ChangeNeeds, TurnNeeds}

-- a turn comes out over the plain pages as it does here
abbrev pub ComesOut : Framed → PlainTree → ForkParts nat_cmp → Answer → Turn ⊥ ForkChange → Type 0
ComesOut p tree new result t =
    let c = turn_on no_files p.pages t in IsTurn (TurnNeeds p tree.forks t) fork_changed (parts tree p.pages) (parts tree c.pages) new result c.end

-- A TURN OF A CALL, over each drum that fits: its answer is that of its end, and what it leaves is what that leaves; or it needs something
-- first, and leaves all as it was
abbrev pub Turned : {P : Type 0} → PagesMeaning P → P → P → PlainTree → PlainTree → Answer → Turn ⊥ ForkChange → Type 0
Turned means old new tree tree' result t =
    (d : DrumWords) → means.fits old d
    → means.fits new d × ComesOut (framed means old d) tree (parts tree' (means.plain new d)) result t

-- a change was made over each drum that fits, or it needs something first, and nothing was changed
abbrev pub MadeOver : Framed → NumberedPages → PlainTree → PlainTree → Result ⊤ Need → ForkChange → Type 0
MadeOver p new tree tree' (Ok x) what = parts tree' new ≡ fork_changed what (parts tree p.pages)
MadeOver p new tree tree' (Err n) what = (parts tree' new ≡ parts tree p.pages) × ChangeNeeds p.scene tree.forks what n

abbrev pub ChangesIf : {P : Type 0} → PagesMeaning P → P → P → PlainTree → PlainTree → Result ⊤ Need → ForkChange → Type 0
ChangesIf means old new tree tree' result what = (d : DrumWords) → means.fits old d → means.fits new d × MadeOver (framed means old d) (means.plain new d) tree tree' result what
