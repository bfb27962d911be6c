-- What shows nothing has no item.
use Rattle.std.proofs.Common.{◌≡◌, ℕ, ◌++◌, [], true, Option, None, Some, refl}
use Rattle.machine_names.specs.declared.names.Tty.{Tty}
use Rattle.plain_model.specs.State.{PlainState}
use Rattle.plain_model.specs.Unit.{turn_printed}
use Rattle.step_shown.specs.declared.reply.Reply.{Reply}
use Rattle.step_shown.specs.declared.reply.Reply.TheVariants.{Nothing, One, Ran, Forks, Page}
use Rattle.step_shown.specs.declared.shown.Stop.{Stop}
use Rattle.step_shown.specs.declared.shown.Stop.TheVariants.{GoesOn as Runs, Halted, Forced}
use Rattle.step_shown.specs.Shown.{none_shown, stop_items}
use Rattle.step_shown.specs.Replies.{reply_items, is_silent}

-- characters and a stop that are none
none_items : (t : Tty) (out : Option ℕ) (stop : Stop) → none_shown out stop ≡ true → turn_printed t out ++ stop_items t stop ≡ []
none_items t None Runs h = refl
none_items t None Halted h = absurd (cc h)
none_items t None (Forced channel) h = absurd (cc h)
none_items t (Some code) stop h = absurd (cc h)

-- a reply that is silent has no item
pub silent_items : (s : PlainState) (reply : Reply) → is_silent reply ≡ true → reply_items s reply ≡ []
silent_items s Nothing h = refl
silent_items s (One item) h = absurd (cc h)
silent_items s (Ran f None shown) h = none_items f.tty shown.out shown.stop h
silent_items s (Ran f (Some pc) shown) h = absurd (cc h)
silent_items s (Forks t) h = absurd (cc h)
silent_items s (Page name page) h = absurd (cc h)
