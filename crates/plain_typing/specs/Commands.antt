-- What the lines say that a user types to the monitor.
use Rattle.std.specs.Prelude.{ℕ, List, [], ◌∷◌, codes, Bool, if◌then◌else◌, Option, None, Some}
use Rattle.std.specs.Str.{bytes_eq}
use Rattle.machine_names.specs.FileNames.{file_named, raised}
use Rattle.plain_typing.specs.declared.command.Command.{Command}
use Rattle.plain_typing.specs.declared.command.Command.TheVariants.{Blank, Run, Start, Continue, Directory, Delete, Logout, Unknown}
use Rattle.plain_typing.specs.Words.{words}

-- whether a word is this one, its small letters raised
abbrev pub says : List ℕ → List ℕ → Bool
says word verb = bytes_eq (raised word) verb

-- the command of a word that stands alone
abbrev pub alone : List ℕ → Command
alone word = if says word (codes "START") then Start
    else (if says word (codes "CONTINUE") then Continue
    else (if says word (codes "DIRECTORY") then Directory
    else (if says word (codes "LOGOUT") then Logout else Unknown)))

-- a command for the file that a name stands for
abbrev pub for_file : (List ℕ → Command) → Option (List ℕ) → Command
for_file command (Some name) = command name
for_file command None = Unknown

-- the command of a word with a name behind it; a program without an extension has SAV
abbrev pub with_name : List ℕ → List ℕ → List ℕ → Command
with_name user word name = if says word (codes "RUN") then for_file Run (file_named user (codes "SAV") name)
    else (if says word (codes "DELETE") then for_file Delete (file_named user [] name) else Unknown)

-- the command of words
abbrev pub command_in : List ℕ → List (List ℕ) → Command
command_in user [] = Blank
command_in user (word ∷ []) = alone word
command_in user (word ∷ name ∷ []) = with_name user word name
command_in user (word ∷ name ∷ more ∷ rest) = Unknown

-- the command of a user's line
abbrev pub command_of : List ℕ → List ℕ → Command
command_of user line = command_in user (words line)
