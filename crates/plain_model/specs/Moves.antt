-- Which forks a step lets run, and which it stops, in order.
use Rattle.std.specs.Prelude.{List, ◌++◌, map, filter, Bool, true, false, not, ◌&&◌}
use Rattle.std.specs.List.{flat_map, range_with_len}
use Rattle.std.specs.Option.{option_map_or}
use Rattle.std.specs.FinMap as map_of
use Rattle.machine_names.specs.declared.names.TheConstants.{TERMINALS}
use Rattle.machine_names.specs.declared.names.ForkName.{ForkName}
use Rattle.script_texts.specs.declared.status.ForkStatus.{ForkStatus}
use Rattle.script_texts.specs.declared.status.ForkStatus.TheVariants.{Wait}
use Rattle.script_texts.specs.declared.status.WaitOn.TheVariants as on
use Rattle.plain_model.specs.Forks.{ForkMap, forks_by_slot, runs_in}

-- a fork stops being able to run, or becomes able to
pub data Move : Type 0 where
  Stops : ForkName → Move
  Starts : ForkName → Move

abbrev pub waits_for_one : ForkStatus → Bool
waits_for_one (Wait on.Fork) = true
waits_for_one status = false

-- whether a fork of that name waits for one
abbrev pub waits_in : ForkMap → ForkName → Bool
waits_in forks name = option_map_or (λ f. waits_for_one f.body.status) (map_of.get forks name) false

-- the names of forks, by terminal and then by slot
abbrev pub names_of : ForkMap → List ForkName
names_of forks = flat_map (λ t. map (λ f. f.name) (forks_by_slot forks (record { 0 = t }))) (range_with_len 0 TERMINALS)

-- those that can run among the second forks and not among the first
abbrev pub lets_run : ForkMap → ForkMap → List ForkName
lets_run before after = filter (λ f. runs_in after f && not (runs_in before f)) (names_of after)

-- those that could run and can't any more, or are gone
abbrev pub stopped_of : ForkMap → ForkMap → List ForkName
stopped_of before after = filter (λ f. runs_in before f && not (runs_in after f)) (names_of before)

-- WHO STOPS AND WHO STARTS with one act of a step: first who stops; then those who waited for a fork, as its end is told before
-- a superior is told of it; then all others; each by terminal and slot
unfoldable pub moves : ForkMap → ForkMap → List Move
moves before after =
    map Stops (stopped_of before after)
    ++ (map Starts (filter (waits_in before) (lets_run before after))
    ++ map Starts (filter (λ f. not (waits_in before f)) (lets_run before after)))
