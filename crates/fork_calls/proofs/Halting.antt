-- A fork is halted, and its job and its superior are told.
use Rattle.std.proofs.Common.{◌≡◌, Option, Some, refl, sym, ◌∙◌, ap, subst}
use Rattle.std.specs.Option.{option_map_or}
use Rattle.std.specs.FinMap as map
use Rattle.plain_model.specs.declared.call.ForkChange.TheVariants.{Halt}
use Rattle.machine_names.specs.declared.names.ForkName.{ForkName}
use Rattle.plain_model.specs.declared.fork.Fork.{Fork}
use Rattle.script_texts.specs.declared.status.ForkStatus.TheVariants.{Halted}
use Rattle.plain_pages.specs.PlainPages.{NumberedPages}
use Rattle.plain_model.specs.Forks.{ForkMap, OthersStay, with_status}
use Rattle.plain_model.specs.Trees.{PlainTree, changed, with_changed_of, end_told}
use Rattle.plain_model.specs.ForkCalls.{fork_changed, with_halted}
use Rattle.plain_model.proofs.ForkMaps.{AreOwn, get_put}
use Rattle.plain_model.proofs.OtherJobs.{others_alike, others_on, put_job, told_job}
use Rattle.fork_tree.specs.Trees.{Lives}
use Rattle.fork_calls.specs.Steps.{halted}
use Rattle.job_forks.specs.Holding.{parts}
use Rattle.job_forks.proofs.Places.{IsMild, Keep, changed_keeps, keep_on}
use Rattle.job_forks.proofs.Telling.{end_keeps}

halted_mild : (f : Fork) → IsMild halted f
halted_mild f = record {
  name = refl;
  slot = refl;
  superior = refl;
  units = refl;
  within = λ b. record { status = λ channel e. absurd (cc e); pc = b.pc; accumulators = b.accumulators };
}

module _ (tree : PlainTree) (own : AreOwn tree.forks) (name : ForkName) (f : Fork) (there : map.get tree.forks name ≡ Some f) where
  abbrev g : Fork
  g = halted f

  abbrev set : ForkMap
  set = map.insert tree.forks g.name g

  set_is : with_changed_of tree name halted ≡ record tree { forks = set }
  set_is = ap (λ (o : Option Fork). record tree { forks = changed tree.forks halted o }) there

  -- the tree in which that is told
  pub halt_is : (told : PlainTree) → told ≡ record (with_changed_of tree name halted) { forks = option_map_or (end_told (with_changed_of tree name halted).forks) (map.get (with_changed_of tree name halted).forks name) (with_changed_of tree name halted).forks }
      → told ≡ record tree { forks = end_told set g }
  halt_is told e =
      e ∙ ap (λ (t : PlainTree). record t { forks = option_map_or (end_told t.forks) (map.get t.forks name) t.forks }) set_is
      ∙ ap (λ (o : Option Fork). record tree { forks = option_map_or (end_told set) o set }) (get_put tree.forks g.name name g (sym (own name f there)))

  set_keeps : Keep tree.forks set
  set_keeps = changed_keeps tree.forks own halted (Some f) (λ k e.
      let same : f ≡ k = cc e in
      (subst (Lives tree.forks) same (ap (map.get tree.forks) (own name f there) ∙ there), halted_mild k))

  pub halt_keeps : Keep tree.forks (end_told set g)
  halt_keeps = keep_on tree.forks set (end_told set g) set_keeps (end_keeps set set_keeps.own g)

  -- no fork of another job is told
  pub halt_others : OthersStay name.tty tree.forks (end_told set g)
  halt_others =
      let here : g.name.tty.0 ≡ name.tty.0 = ap (λ (n : ForkName). n.tty.0) (own name f there) in
      let put = put_job name.tty tree.forks own g here in
      others_on name.tty tree.forks set (end_told set g) put.others (others_alike name.tty g.name.tty set (end_told set g) here (told_job set put.own g).others)

  pub halt_changes : (p : NumberedPages) → parts (record tree { forks = end_told set g }) p ≡ fork_changed (Halt name) (parts tree p)
  unfolding fork_changed
  halt_changes p = sym (ap (λ (o : Option Fork). option_map_or (with_halted (parts tree p)) o (parts tree p)) there)
