use Rattle.std.proofs.Common.{[], ◌≡◌, ◌≤◌, ◌++◌, ℕ, List, length}
use Rattle.std.specs.Prelude.{IfSome}
use Rattle.std.specs.List.{flat_map}
use Rattle.std.specs.FinMap as map
use Rattle.file_tables.specs.Tables.{IsThere, files_of}
use Rattle.plain_model.specs.Commands.{file_line}
use Rattle.plain_model.specs.Unit.{printed}
use Rattle.job_commands.specs.Listing.{lines_behind, name_before}
use Rattle.script_texts.specs.Taker.{GoesOn, StaysOnward}
use Rattle.event_items.proofs.giving.listing.give_files.Given as goal

abbrev pub invariant-loop-file : goal.invariant-loop-file
invariant-loop-file g l = record {
  there : IfSome l.last (λ f. IsThere l.files f.0);
  later : g.T.Taker.fault_count l.fn.out ≤ g.T.Taker.fault_count l.out;
  onward : StaysOnward g.T.Taker.onward l.fn.out l.out;
  shown : List ℕ;
  all : flat_map (file_line l.user) (map.keys (files_of l.files)) ≡ shown ++ lines_behind l.user (files_of l.files) (name_before l.files.dir l.last);
  given : GoesOn g.T.Taker.stands l.fn.out l.out (printed l.t shown) [];
}

abbrev pub decreases-loop-file : goal.decreases-loop-file
decreases-loop-file g l = length (lines_behind l.user (files_of l.files) (name_before l.files.dir l.last))
