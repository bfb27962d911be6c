use Rattle.std.proofs.Common.{◌≡◌, ℕ, List, Option, None, Some, sym}
use Rattle.std.specs.Prelude.{IfSome}
use Rattle.machine_names.specs.Bounds.{IsFileName}
use Rattle.machine_names.specs.FileNames.{file_named}
use Rattle.script_lang.proofs.FullNames.{what_is_named}
use Rattle.file_dir.proofs.reading.read_name.Goals as goal

-- what is answered is a full name
full : (result : Option (List ℕ)) (user extension text : List ℕ) → result ≡ file_named user extension text → IfSome result IsFileName
full None user extension text is = tt
full (Some name) user extension text is = what_is_named user extension text name (sym is)

pub returns-clause-name : goal.returns-clause-name
returns-clause-name c = full _ _ _ _ c.read_name.ensures
