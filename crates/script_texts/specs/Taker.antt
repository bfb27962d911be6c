-- What a taker stands for goes on.
use Rattle.std.specs.Prelude.{ℕ, ◌<◌, List, ◌++◌, length}
use Rattle.script_texts.specs.declared.event.Item.{Item}
use Rattle.script_texts.specs.declared.event.Step.{Step}

-- whatever a taker was onward of, it still is
pub record StaysOnward {T : Type 0} (onward : T → T → Type 0) (old new : T) : Type 0 where
  pub each : (first : T) → onward first old → onward first new

-- more steps than any run has
abbrev pub max_steps : ℕ
max_steps = 18446744073709551615

-- for each pair of lists for which it stood it now stands with these behind them
pub record GoesOn {T : Type 0} (stands : T → T → List Item → List Step → Type 0) (old new : T) (items : List Item) (steps : List Step) : Type 0 where
  pub each : (first : T) (is : List Item) (ss : List Step) → length (ss ++ steps) < max_steps → stands first old is ss → stands first new (is ++ items) (ss ++ steps)

-- for each pair for which it stood it is now cut within that pair with these behind it, whatever follows
pub record IsCut {T : Type 0} (stands cut : T → T → List Item → List Step → Type 0) (old new : T) (items : List Item) (steps : List Step) : Type 0 where
  pub each : (first : T) (is more_items : List Item) (ss more_steps : List Step) → length (ss ++ steps) < max_steps → stands first old is ss
      → cut first new (is ++ items ++ more_items) (ss ++ steps ++ more_steps)
