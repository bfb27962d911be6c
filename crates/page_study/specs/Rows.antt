-- Traces that were worked out by hand.
use Rattle.std.specs.Prelude.{List, [], ◌∷◌, ◌++◌, replicate}
use Rattle.machine_names.specs.declared.names.PageName.{PageName}

-- the page of a program, and another that it makes
abbrev pub program_page : PageName
program_page = record { tty = record { 0 = 0 }; serial = 1 }

abbrev pub other_page : PageName
other_page = record { tty = record { 0 = 0 }; serial = 2 }

-- three instructions, none of which names a word in memory
abbrev pub three_fetches : List PageName
three_fetches = replicate 3 program_page

-- ten references, of which the last but one is to the other page
abbrev pub one_to_another : List PageName
one_to_another = replicate 8 program_page ++ other_page ∷ program_page ∷ []
