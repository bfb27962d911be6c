-- What stays of a machine's marks over one call stays over several.
use Rattle.std.proofs.Common.{refl, ◌∙◌}
use Rattle.page_waits.specs.declared.machine.Machine.{Machine}
use Rattle.page_waits.specs.Machines.{KeepsMarks}

module _ {S : Type 0} {b : _} where
  pub marks_nil : (m : Machine S b) → KeepsMarks m m
  marks_nil m = record { limit = refl; frames = refl; auto = refl }

  pub marks_then : (m n o : Machine S b) → KeepsMarks m n → KeepsMarks n o → KeepsMarks m o
  marks_then m n o f g = record { limit = g.limit ∙ f.limit; frames = g.frames ∙ f.frames; auto = g.auto ∙ f.auto }
