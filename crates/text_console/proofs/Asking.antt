-- What words ask for keeps its limits.
use Rattle.std.proofs.Common.{ℕ, ◌≤◌, List, [], ◌∷◌, String, arith}
use Rattle.outside.specs.declared.TheConstants.{MOST_DRUM_PAGES}
use Rattle.command_words.specs.TextWords.{AskText}
use Rattle.command_words.specs.Words.{AsksForDrum, Text, a_size, drum_size, given}
use Rattle.command_words.specs.declared.request.TextRequest.{TextRequest}
use Rattle.command_words.specs.declared.request.TextRequest.TheVariants.{Record, Assemble}
use Rattle.text_console.specs.Made.{CanBeMade}

drum_fits : (values : List Text) (n : ℕ) → AsksForDrum values n → (256 ≤ n) × (n ≤ MOST_DRUM_PAGES)
drum_fits [] n standard = (omega (arith, standard), omega (arith, standard))
drum_fits (v ∷ []) n asks = (asks.1, asks.2)
drum_fits (v ∷ w ∷ vs) n asks = absurd asks

pub can_be_made : {Z : Type 0} (words : List (String Z)) (q : TextRequest) → AskText words q → CanBeMade q
can_be_made words (Record request) (settings, are) = drum_fits (given (a_size drum_size) settings) request.drum are.drum
can_be_made words (Assemble t) (digits, are, number) = number.1
