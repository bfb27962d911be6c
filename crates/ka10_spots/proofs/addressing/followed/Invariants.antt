use Rattle.std.proofs.Common.{◌≡◌, ℕ, ◌+◌, ◌-◌, ◌≤◌, Some}
use Rattle.machine_names.specs.declared.names.ForkName.{ForkName}
use Rattle.page_contracts.specs.DrumWords.{DrumWords}
use Rattle.ka10_spots.specs.Spots.{IsLed}
use Rattle.ka10_spots.proofs.IndirectWords.{Leads}
use Rattle.ka10_spots.proofs.addressing.followed.Given as goal

-- the words so far lead here, and where all are reached so are those to come
abbrev pub invariant-loop-words : goal.invariant-loop-words
invariant-loop-words g l = (d : DrumWords) (f : ForkName) → g.P.Pages.means.fits l.fn.pages d → g.P.Pages.means.space l.fn.pages f ≡ Some l.space
    → ((before : ℕ) → before + l.most ≤ 16 → Leads f (g.P.Pages.means.plain l.fn.pages d) l.regs.ac before l.fn.first l.word l.words)
    × (IsLed g.P.Pages.means l.fn.pages f (g.P.Pages.means.plain l.fn.pages d) l.regs.ac l.most l.fn.first → IsLed g.P.Pages.means l.fn.pages f (g.P.Pages.means.plain l.fn.pages d) l.regs.ac (l.most - l.words) l.word)
