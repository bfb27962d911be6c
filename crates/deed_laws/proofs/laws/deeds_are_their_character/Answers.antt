use Rattle.deed_laws.proofs.Characters.{characters}
use Rattle.deed_laws.proofs.laws.deeds_are_their_character.Goals as goal

pub returns : goal.returns
returns c s t code tree = characters s t code tree
