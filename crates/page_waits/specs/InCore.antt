-- Where all is in core: no page is away, nothing is queued or to be told, and no fork is in page wait. There a turn is as over pages in memory.
use Rattle.std.specs.Prelude.{◌≡◌, ℕ, ◌-◌, [], true}
use Rattle.fork_lists.specs.declared.lists.ForkLists.{ForkLists}
use Rattle.fork_lists.specs.Following.{last_counted}
use Rattle.job_sched.specs.Schedules.{heads}
use Rattle.job_sched.specs.Units.{IsRow, row_ran}
use Rattle.page_contracts.specs.Stores.{away, place}
use Rattle.plain_model.specs.Moves.{moves}
use Rattle.turn_forms.specs.Turns.{moved}
use Rattle.page_waits.specs.declared.turn.Done.{Done}
use Rattle.page_waits.specs.declared.turn.Turn.{Turn}
use Rattle.page_waits.specs.declared.turn.Turn.TheVariants.{Idle, Ran}
use Rattle.page_waits.specs.Systems.{SystemMeaning}

module _ {S : Type 0} (means : SystemMeaning S) where
  -- ALL IS IN CORE, in so many frames
  pub record IsInCore (frames : ℕ) (s : S) (l : ForkLists) : Type 0 where
    pub size : means.store.frames s ≡ frames
    pub here : (home : ℕ) → place (means.store.homes s) home ≡ away → ⊥
    pub still : means.store.queue s ≡ []
    pub told : means.store.untold s ≡ []
    pub none : l.sched.waiting ≡ []

  -- Units of the head of the ready list, which is alone or has them left of its quantum: all but the last are counted before the lists follow the forks, and the last behind;
  -- and all is in core still.
  pub record RanCalmly (frames : ℕ) (row : Done) (s s' : S) (l l' : ForkLists) : Type 0 where
    pub head : heads row.fork l.sched.ready ≡ true
    pub within : IsRow row.progress.count l.sched
    pub lists : l'.sched ≡ last_counted row.fork (moved (moves (means.tree s).forks (means.tree s').forks) (row_ran (row.progress.count - 1) l.sched))
    pub core : IsInCore frames s' l'

  -- idle entries, where nobody is ready
  pub record IdledCalmly (s s' : S) (l l' : ForkLists) : Type 0 where
    pub nobody : l.sched.ready ≡ []
    pub system : s' ≡ s
    pub lists : l' ≡ l

  -- A TURN WHERE ALL IS IN CORE
  abbrev pub TookCalmly : ℕ → Turn → S → S → ForkLists → ForkLists → Type 0
  TookCalmly frames (Ran row) s s' l l' = RanCalmly frames row s s' l l'
  TookCalmly frames (Idle count) s s' l l' = IdledCalmly s s' l l'
