-- WHOSE TURN IT IS in a run, when nobody's, and when transfers end: rows of turns, over whatever drum.
use Rattle.std.specs.Prelude.{◌≡◌, ℕ, ◌+◌, List, [], ◌∷◌, Bool, true, false, ◌&&◌, drop}
use Rattle.fork_lists.specs.declared.lists.ForkLists.{ForkLists}
use Rattle.machine_names.specs.declared.names.ForkName.{ForkName}
use Rattle.page_waits.specs.Idling.{IsIdle}
use Rattle.page_waits.specs.Systems.{SystemMeaning}
use Rattle.page_waits.specs.Told.{MovesSilently, TookRow}
use Rattle.page_waits.specs.Transfers.{Counts, EndsWhole, MovesAtMost, most_transfers}
use Rattle.page_waits.specs.Waits.{the_lists}

-- units of a fork in a row, or idle entries
pub data Row : Type 0 where
  units : ForkName → ℕ → Row
  idle : ℕ → Row

-- how many turns they are
abbrev pub turns_in : List Row → ℕ
turns_in [] = 0
turns_in (units f n ∷ rows) = n + turns_in rows
turns_in (idle n ∷ rows) = n + turns_in rows

module _ {S D : Type 0} (means : SystemMeaning S) (counts : Counts D) (auto : Bool) where
  -- A row of units is of the head of the ready list, as it is behind what happened silently; what was queued then is queued behind them, but for what they took from
  -- it; and under AUTO ON the oldest transfer ends with their quantum, and no other does. Before the first of them so many end at most, and then a
  -- quantum ends only with all its units.
  pub record TookUnits (f : ForkName) (n : ℕ) (s s' : S) (l l' : ForkLists) (drum drum' : D) : Type 0 where
    pub ended : Bool
    pub between : S
    pub lists : ForkLists
    pub at : D
    pub few : MovesAtMost counts most_transfers drum at
    pub row : TookRow f n ended (means.tree s).forks (means.tree between).forks l.sched lists.sched
    pub forks : means.tree s' ≡ means.tree between
    pub silent : MovesSilently lists.sched l'.sched
    pub ends : (ended && auto) ≡ true → means.store.queue s' ≡ drop 1 (means.store.queue between)
    pub stays : (ended && auto) ≡ false → drum' ≡ at
    pub one : MovesAtMost counts 1 at drum'
    pub whole : EndsWhole counts ended n drum at
    pub off : auto ≡ false → drum' ≡ drum

  -- Idle entries stand where nobody is ready and, under AUTO ON, nothing is queued, or as many transfers ended for them as may.
  pub record TookIdle (s s' : S) (l l' : ForkLists) (drum drum' : D) : Type 0 where
    pub forks : means.tree s' ≡ means.tree s
    pub silent : MovesSilently l.sched l'.sched
    pub few : MovesAtMost counts most_transfers drum drum'
    pub idle : IsIdle means the_lists counts auto s' l' drum drum'
    pub off : auto ≡ false → drum' ≡ drum

  abbrev pub IsRow : Row → S → S → ForkLists → ForkLists → D → D → Type 0
  IsRow (units f n) s s' l l' drum drum' = TookUnits f n s s' l l' drum drum'
  IsRow (idle n) s s' l l' drum drum' = TookIdle s s' l l' drum drum'

  -- rows, one behind another
  abbrev pub AreRows : List Row → S → S → ForkLists → ForkLists → D → D → Type 0
  AreRows [] s s' l l' drum drum' = (s' ≡ s) × (l' ≡ l) × (drum' ≡ drum)
  AreRows (row ∷ rows) s s' l l' drum drum' = (mid : S) × (lists : ForkLists) × (at : D) × IsRow row s mid l lists drum at × AreRows rows mid s' lists l' at drum'

  -- so many turns were taken
  pub record TookRows (n : ℕ) (s s' : S) (l l' : ForkLists) (drum drum' : D) : Type 0 where
    pub rows : List Row
    pub count : turns_in rows ≡ n
    pub are : AreRows rows s s' l l' drum drum'
