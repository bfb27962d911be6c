use Rattle.std.proofs.Common.{◌≡◌, ◌≤◌, ◌+◌, true}
use Rattle.machine_names.specs.declared.names.ForkName.{ForkName}
use Rattle.unit_runs.proofs.pointed_texts.put_words.Given as goal

abbrev top : ForkName
top = record { tty = record { 0 = 3 }; serial = 7 }

abbrev pub invariant-loop-number : goal.invariant-loop-number
invariant-loop-number g l = record {
  lives : g.P.Pages.means.lives l.pages top ≡ true;
  serial : g.P.Pages.means.serial l.pages top.tty ≤ 1 + l.number;
}
