-- What channels that are posted to a fork from outside its own unit do to the forks of its job.
use Rattle.std.specs.Prelude.{ℕ, List, Bool, if◌then◌else◌}
use Rattle.std.specs.List.{list_any}
use Rattle.std.specs.FinMap as map
use Rattle.plain_model.specs.declared.fork.Fork.{Fork}
use Rattle.plain_model.specs.Forks.{ForkMap}
use Rattle.plain_model.specs.Interrupts.{forces, posted_all}
use Rattle.plain_model.specs.Trees.{end_told}

-- the forks with one of them changed by what was posted; where that forced it, it has ended, once, and that is told
abbrev pub told_if : Bool → ForkMap → Fork → ForkMap
told_if ended forks f = let put = map.insert forks f.name f in if ended then end_told put f else put

abbrev pub with_all_posted : ForkMap → List ℕ → Fork → ForkMap
with_all_posted forks channels f = let g = posted_all f channels in let put = map.insert forks g.name g in
    if list_any (forces f.body.psi) channels then end_told put g else put
