use Rattle.std.proofs.Common.{ℕ, List, [], Option, sym, ◌∙◌, ap, subst}
use Rattle.std.specs.List.{All}
use Rattle.std.specs.Option.{option_and_then}
use Rattle.arrayvec.specs.ArrayVec.{ArrayVec}
use Rattle.machine_names.specs.FileNames.{file_named}
use Rattle.text_pointers.specs.Reading.{bytes_of}
use Rattle.file_calls.proofs.Names.{IsCharacter, no_characters}
use Rattle.file_calls.proofs.naming.file_named.Goals as goal

pub returns-in-None-characters-clause-named : goal.returns-in-None-characters-clause-named
returns-in-None-characters-clause-named c =
    no_characters c.args.user.now [] c.in-Some.text.items (subst (λ (text : List ℕ). All IsCharacter text → ⊥) c.as_slice.ensures.value c.in-None-characters.ensures)
    ∙ ap (λ (o : Option (ArrayVec ℕ)). option_and_then (file_named c.args.user.now []) (bytes_of o)) (sym c.in-Some.is)
