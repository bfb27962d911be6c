use Rattle.std.proofs.Common.{◌≡◌, ◌+◌, None, Some, refl, sym, ◌∙◌, ap, subst, arith}
use Rattle.std.specs.Option.{option_map}
use Rattle.std.specs.FinMap as map
use Rattle.machine_names.specs.declared.names.ForkName.{ForkName}
use Rattle.plain_model.specs.declared.fork.Fork.{Fork}
use Rattle.plain_model.specs.Forks.{ForkMap, OthersStay}
use Rattle.plain_model.specs.Trees.{PlainTree}
use Rattle.plain_model.proofs.ForkMaps.{get_gone, get_gone_other}
use Rattle.plain_model.proofs.OtherJobs.{gone_others}
use Rattle.fork_tree.proofs.Kept.{top_lives}
use Rattle.job_commands.proofs.Tops.{top_is}
use Rattle.job_commands.proofs.leaving.kill_top.Goals as goal

pub returns-clause-leaves : goal.returns-clause-leaves
returns-clause-leaves g c =
    let top = c.args.top in
    let tree = c.args.tree.now in
    let last = c.kill_bare.new.tree in
    let left : last.forks ≡ map.remove tree.forks top = ap (λ (t : PlainTree). t.forks) c.kill_bare.ensures.tree in
    record {
      holds = c.kill_bare.ensures.holds;
      kept = c.kill_bare.ensures.kept;
      gone = λ f lives same.
          let k = top_lives last c.are_trees-2.ensures (f.name.serial + 1) f lives (omega arith) in
          let came = c.kill_bare.ensures.kept k.0 k.1.0 in
          let is : came.before.name ≡ top = top_is tree.forks c.are_trees.ensures.slotted top c.requires.top came.before came.lived (ap (λ (n : ForkName). n.tty.0) (sym came.name) ∙ k.1.1 ∙ same) (sym came.slot ∙ k.1.2) in
          let none : map.get last.forks k.0.name ≡ None = ap (λ (m : ForkMap). map.get m k.0.name) left ∙ get_gone tree.forks top k.0.name (came.name ∙ is) in
          let no : None ≡ Some k.0 = sym none ∙ k.1.0 in
          cc no;
      tops = λ name apart at.
          ap (λ (m : ForkMap). option_map (λ (f : Fork). f.slot) (map.get m name)) left
          ∙ ap (option_map (λ (f : Fork). f.slot)) (get_gone_other tree.forks top name apart)
          ∙ at;
      others = subst (OthersStay top.tty tree.forks) (sym left) (gone_others top.tty tree.forks top refl);
      made = c.kill_bare.ensures.made top.tty;
      loses = c.kill_bare.ensures.loses;
    }
