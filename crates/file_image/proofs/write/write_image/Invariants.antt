use Rattle.std.proofs.Common.{◌≡◌, ℕ, List, ◌++◌, length}
use Rattle.std.specs.Prelude.{IfSome}
use Rattle.std.specs.List.{flat_map}
use Rattle.outside.specs.Told.{Grows}
use Rattle.page_contracts.specs.DrumWords.{DrumWords}
use Rattle.file_tables.specs.InOrder.{files_after, name_given}
use Rattle.file_tables.specs.Tables.{IsThere}
use Rattle.file_image.specs.Images.{image}
use Rattle.file_image.specs.Reading.{AreTold, file_text, files_told, named}
use Rattle.file_image.proofs.write.write_image.Given as goal

abbrev pub invariant-loop-file : goal.invariant-loop-file
invariant-loop-file g l = record {
  there : IfSome l.last (λ f. IsThere l.files f.0);
  unfaulted : g.T.Sink.fault_count l.out ≡ g.T.Sink.fault_count l.fn.out;
  written : (d : DrumWords) → AreTold g.P.Pages.means l.files l.pages d → (text : List ℕ) × Grows (g.T.Sink.taken l.fn.out) (g.T.Sink.taken l.out) text
      × (image (files_told g.P.Pages.means l.files l.pages d) ≡ text ++ flat_map (file_text (named l.files (g.P.Pages.means.plain l.pages d))) (files_after l.files (name_given l.files l.last)));
}

abbrev pub decreases-loop-file : goal.decreases-loop-file
decreases-loop-file g l = length (files_after l.files (name_given l.files l.last))
