use Rattle.page_contracts.specs.Pages.{OnlyUses}
use Rattle.ka10_spots.proofs.addressing.use_indirect.Given as goal

-- pages were used at most
abbrev pub invariant-loop-words : goal.invariant-loop-words
invariant-loop-words g l = OnlyUses g.P.Pages.means l.fn.pages l.pages
