use Rattle.std.proofs.Common.{◌≡◌, refl, sym, ◌∙◌, ap, subst, ◌<◌, arith, inl}
use Rattle.std.specs.Prelude.{IsSome, is_some}
use Rattle.std.specs.Option.{option_map}
use Rattle.machine_names.specs.declared.names.ForkName.{ForkName}
use Rattle.plain_model.specs.Inferiors.{is_inferior}
use Rattle.plain_model.specs.Forks.{OthersStay}
use Rattle.plain_model.proofs.ForkMaps.{get_gone_other}
use Rattle.plain_model.proofs.OtherJobs.{gone_others, others_on, waiters_job}
use Rattle.plain_model.specs.Trees.{PlainTree}
use Rattle.std.specs.FinMap as map
use Rattle.fork_tree.proofs.Slots.{held_lives}
use Rattle.fork_tree.proofs.Leaves.{inferior_lives}
use Rattle.ka10_spots.proofs.Stored.{lost_on}
use Rattle.job_forks.specs.Holding.{TopsStay, parts}
use Rattle.job_forks.proofs.Branch.{below_younger, kill_changes, made_on}
use Rattle.job_forks.proofs.CallLeaving.{below_others, none_leaves}
use Rattle.job_forks.proofs.Holdings.{holds_same}
use Rattle.job_forks.proofs.Places.{Keep, come_on, still_living, waiters_keep}
use Rattle.job_forks.proofs.Tops.{below_low, gone_tops, same_tops, tops_on}
use Rattle.fork_calls.proofs.killing.kill.Goals as goal

pub ask_maps-requires-clause-lives : goal.ask_maps-requires-clause-lives
ask_maps-requires-clause-lives g c =
    let f = inferior_lives c.args.tree.now c.are_trees.ensures c.args.who c.args.name c.requires.below in
    subst IsSome (sym f.1) refl

pub kill_bare-requires-clause-lives : goal.kill_bare-requires-clause-lives
kill_bare-requires-clause-lives g c =
    let f = inferior_lives c.args.tree.now c.are_trees.ensures c.args.who c.args.name c.requires.below in
    subst IsSome (sym (c.kill_below.ensures.older c.args.name (omega arith) ∙ f.1)) refl

pub returns-clause-told : goal.returns-clause-told
returns-clause-told g c d fits =
    let means = g.P.Pages.means in
    let below = c.kill_below.ensures.told d fits in
    let bare = c.kill_bare.ensures.told d below.0 in
    let v = parts c.args.tree.now (means.plain c.args.pages.now d) in
    let u = parts c.kill_below.new.tree (means.plain c.kill_below.new.pages d) in
    let p = means.plain c.kill_bare.new.pages d in
    (bare.0, ap (λ (t : PlainTree). parts t p) c.wake_waiters.ensures ∙ kill_changes v c.args.name u c.kill_bare.new.tree p below.1 c.kill_bare.ensures.tree bare.1)

-- the caller is older than those that go
pub returns-clause-leaves : goal.returns-clause-leaves
returns-clause-leaves g c =
    let means = g.P.Pages.means in
    let tree = c.args.tree.now in
    let is = c.are_trees.ensures in
    let who = c.args.who in
    let name = c.args.name in
    let first = c.kill_below.new.tree.forks in
    let mid = c.kill_bare.new.tree.forks in
    let last = c.wake_waiters.new.self.forks in
    let keep : Keep mid last = subst (λ (t : PlainTree). Keep mid t.forks) (sym c.wake_waiters.ensures) (waiters_keep mid c.are_trees-2.ensures.slotted.own name.tty) in
    let come = come_on tree.forks mid last (come_on tree.forks first mid c.kill_below.ensures.kept c.kill_bare.ensures.kept) keep.come in
    let f = inferior_lives tree is who name c.requires.below in
    let named : f.0.name ≡ name = is.slotted.own name f.0 f.1 in
    let younger = below_younger tree is who f.0 (held_lives tree.forks is.slotted name f.0 f.1) (ap (is_inferior tree.forks who) named ∙ c.requires.below) in
    let low : who.serial < name.serial = omega (arith, younger, ap (λ (n : ForkName). n.serial) named) in
    let apart : who ≡ name → ⊥ = λ same. omega (arith, low, ap (λ (n : ForkName). n.serial) same) in
    let low_slot = below_low tree is who name c.requires.below in
    let gone = gone_tops first name (λ top. low_slot (ap (option_map (λ f. f.slot)) (sym (c.kill_below.ensures.older name (omega arith))) ∙ top)) in
    let bare : TopsStay first mid = subst (λ (t : PlainTree). TopsStay first t.forks) (sym c.kill_bare.ensures.tree) gone in
    record {
      holds = holds_same means c.kill_bare.new.pages mid last c.are_trees-2.ensures.slotted c.are_trees-3.ensures.slotted keep.same c.kill_bare.ensures.holds;
      kept = λ k lives. inl (come k lives);
      caller = λ lives.
          still_living mid last keep.same who ∙ ap (λ (t : PlainTree). map.contains_key t.forks who) c.kill_bare.ensures.tree
          ∙ ap is_some (get_gone_other first name who apart ∙ c.kill_below.ensures.older who (omega (arith, low))) ∙ lives;
      tops = tops_on tree.forks first last c.kill_below.ensures.tops (tops_on first mid last bare (same_tops mid last keep.same));
      others =
          let t = name.tty in
          let one = subst (λ (x : PlainTree). OthersStay t first x.forks) (sym c.kill_bare.ensures.tree) (gone_others t first name refl) in
          let told = subst (λ (x : PlainTree). OthersStay t mid x.forks) (sym c.wake_waiters.ensures) (waiters_job mid c.are_trees-2.ensures.slotted.own t).others in
          below_others tree is who name c.requires.below last (others_on t tree.forks first last c.kill_below.ensures.others (others_on t first mid last one told));
      made = made_on means who.tty 0 0 c.args.pages.now c.kill_below.new.pages c.kill_bare.new.pages (c.kill_below.ensures.made who.tty) (c.kill_bare.ensures.made who.tty);
      loses = lost_on means c.args.pages.now c.kill_below.new.pages c.kill_bare.new.pages c.kill_below.ensures.loses c.kill_bare.ensures.loses;
    }

pub returns-in_err-ask_maps-clause-leaves : goal.returns-in_err-ask_maps-clause-leaves
returns-in_err-ask_maps-clause-leaves g c = none_leaves g.P.Pages.means c.args.who c.args.tree.now c.args.pages.now c.requires.holds
