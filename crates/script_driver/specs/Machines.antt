-- What the driving sees of a machine.
use Rattle.std.specs.Prelude.{ℕ, Bool}
use Rattle.paged_events.specs.declared.machine.Machine.{Machine}

module _ {S : Type 0} {b : _} where
  -- how many pages and forks there may be
  abbrev pub limit : Machine S b → ℕ
  limit m = b.means.limit m.waits.system

  -- how many frames there are
  abbrev pub frames : Machine S b → ℕ
  frames m = b.means.store.frames m.waits.system

  -- how many events and entries of runs are done
  abbrev pub done : Machine S b → ℕ
  done m = m.done

  -- whether the machine goes on: no fault has stopped it
  abbrev pub is_live : Machine S b → Bool
  is_live m = m.live

  -- the AUTO mark
  abbrev pub auto : Machine S b → Bool
  auto m = m.waits.auto
