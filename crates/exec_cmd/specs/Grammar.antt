-- Which lines are which commands.
use Rattle.std.specs.Prelude.{◌≡◌, ℕ, List, [], ◌∷◌, codes, Some}
use Rattle.machine_names.specs.FileNames.{file_named, raised}
use Rattle.plain_typing.specs.declared.command.Command.{Command}
use Rattle.plain_typing.specs.declared.command.Command.TheVariants.{Blank, Run, Start, Continue, Directory, Delete, Logout, Unknown}
use Rattle.plain_typing.specs.Words.{words}

-- the only word of a line is this one
abbrev pub IsAlone : List ℕ → List ℕ → Type 0
IsAlone verb line = (word : List ℕ) × (words line ≡ word ∷ []) × (raised word ≡ verb)

-- a line is this word and a name, which stands for this file; a name without an extension has this one
abbrev pub IsFor : List ℕ → List ℕ → List ℕ → List ℕ → List ℕ → Type 0
IsFor verb user extension name line =
    (word : List ℕ) × (text : List ℕ) × (words line ≡ word ∷ text ∷ []) × (raised word ≡ verb) × (file_named user extension text ≡ Some name)

-- a user's line is a command
abbrev pub Commands : List ℕ → List ℕ → Command → Type 0
Commands user line Blank = words line ≡ []
Commands user line (Run name) = IsFor (codes "RUN") user (codes "SAV") name line
Commands user line Start = IsAlone (codes "START") line
Commands user line Continue = IsAlone (codes "CONTINUE") line
Commands user line Directory = IsAlone (codes "DIRECTORY") line
Commands user line (Delete name) = IsFor (codes "DELETE") user [] name line
Commands user line Logout = IsAlone (codes "LOGOUT") line
Commands user line Unknown = ⊥
