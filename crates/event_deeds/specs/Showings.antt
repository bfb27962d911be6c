-- What units in a row or a deed show, as items.
use Rattle.std.specs.Prelude.{List}
use Rattle.script_texts.specs.declared.event.Item.{Item}
use Rattle.plain_model.specs.State.{PlainState}
use Rattle.step_shown.specs.Echoes.{echo_items, told_items}
use Rattle.step_shown.specs.Replies.{reply_items}
use Rattle.event_deeds.specs.declared.answer.Showing.{Showing}
use Rattle.event_deeds.specs.declared.answer.Showing.TheVariants.{Reply, Echo, Told}

-- its items, in the state that is left
abbrev pub showing_items : PlainState → Showing → List Item
showing_items s (Reply reply) = reply_items s reply
showing_items s (Echo t shown) = echo_items t shown s
showing_items s (Told t shown) = told_items t shown s
