-- What an event of a machine did, over what its drum told and tells.
use Rattle.std.specs.Prelude.{◌≡◌, ℕ, ◌+◌, List, length, Bool, Option}
use Rattle.fork_lists.specs.declared.lists.ForkLists.{ForkLists}
use Rattle.page_contracts.specs.DrumWords.{DrumWords}
use Rattle.page_waits.specs.Systems.{SystemMeaning}
use Rattle.script_texts.specs.Follows.{FollowsOne}
use Rattle.script_texts.specs.declared.event.Event.{Event}
use Rattle.script_texts.specs.declared.event.Step.{Step}
use Rattle.paged_events.specs.Calmly.{GoesCalmly}
use Rattle.paged_events.specs.Given.{Gives, Standing}
use Rattle.paged_events.specs.Turns.{AreTurnsOver}

-- An event went: its steps follow it, were given and took their turns; so many entries and events more are done. Where all was in core, they went calmly.
pub record Went {S D T : Type 0} (means : SystemMeaning S) (held : D → Option DrumWords) (stands cut : Standing T) (auto : Bool) (event : Event) (done done' : ℕ) (s s' : S) (l l' : ForkLists) (drum drum' : D) (out out' : T) : Type 0 where
  pub steps : List Step
  pub follows : FollowsOne event steps
  pub count : done' ≡ done + length steps + 1
  pub told : Gives means held stands cut auto s s' drum drum' out out' steps
  pub turns : AreTurnsOver means held steps s l l' drum
  pub calm : GoesCalmly means held event steps s s' l l' drum
