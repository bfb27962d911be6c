use Rattle.std.proofs.Common.{◌≡◌, ◌-◌, ◌≤◌}
use Rattle.machine_names.specs.declared.names.ForkName.{ForkName}
use Rattle.machine_names.specs.declared.names.Kind.TheVariants.{Read}
use Rattle.page_contracts.specs.DrumWords.{DrumWords}
use Rattle.ka10_unit.specs.Gathers.{framed}
use Rattle.ka10_unit.specs.Taking.{Spares, Stands, most_pages}
use Rattle.ka10_unit.specs.Planning.{Leads, reached, reached_within}
use Rattle.ka10_unit.proofs.addresses.address_of.Given as goal

abbrev pub invariant-loop-left : goal.invariant-loop-left
invariant-loop-left g l = record {
  fork : l.taken.fork ≡ l.fn.taken.fork;
  spare : Spares 0 l.fn.taken l.taken;
  left : most_pages Read l.taken ≤ most_pages Read l.fn.taken;
  kept : l.taken.kept ≡ l.fn.taken.kept;
  told : (d : DrumWords) (f : ForkName) → g.P.Pages.means.fits l.pages d → Stands f (framed g.P.Pages.means l.pages d) l.fn.taken
      → Leads f (framed g.P.Pages.means l.pages d) l.regs.ac l.fn.taken l.taken (reached l.regs.ac l.fn.first) (reached_within (17 - l.left) l.regs.ac l.word);
}
