use Rattle.std.proofs.Common.{◌≡◌, ◌<◌, refl, sym, ◌∙◌, ap, subst, arith, inl, inr}
use Rattle.std.specs.Prelude.{IsSome}
use Rattle.std.specs.Ordering.{nat_cmp}
use Rattle.std.specs.FinMap as map
use Rattle.machine_names.specs.declared.names.ForkName.{ForkName}
use Rattle.plain_model.specs.Forks.{ForkMap, OthersStay}
use Rattle.plain_model.specs.Inferiors.{is_inferior}
use Rattle.plain_model.specs.Trees.{PlainTree}
use Rattle.plain_model.specs.ForkCalls.{ForkParts, without_inferiors}
use Rattle.plain_model.proofs.ForkMaps.{get_gone_other}
use Rattle.plain_model.proofs.OtherJobs.{gone_others, others_itself, others_on}
use Rattle.fork_tree.specs.Inferiors.{HasNoInferior, without}
use Rattle.fork_tree.proofs.Killing.{below_in, fewer_counted, leaf_first, none_counted, without_none}
use Rattle.fork_tree.proofs.Upward.{tally, tally_most}
use Rattle.ka10_spots.proofs.Stored.{lost_none, lost_on}
use Rattle.job_forks.specs.Holding.{TopsStay}
use Rattle.job_forks.specs.Killing.{AreMapsHere, GoesWith}
use Rattle.job_forks.specs.Holding.{parts}
use Rattle.job_forks.proofs.Branch.{below_younger, made_on, none_made}
use Rattle.job_forks.proofs.CallLeaving.{below_job}
use Rattle.job_forks.proofs.Maps.{fewer_go}
use Rattle.job_forks.proofs.Places.{came_itself, come_on}
use Rattle.job_forks.proofs.Tops.{below_low, gone_tops, tops_on}
use Rattle.job_forks.proofs.killing.kill_below.Goals as goal

pub loop-round-init : goal.loop-round-init
loop-round-init g c = record {
  holds = c.requires.holds;
  maps = c.requires.maps;
  kept = came_itself c.args.tree.now.forks;
  tops = λ name top. top;
  made = λ t. none_made g.P.Pages.means c.args.pages.now c.args.pages.now t refl refl;
  loses = lost_none g.P.Pages.means c.args.pages.now;
  others = others_itself c.args.who.tty c.args.tree.now.forks;
  older = λ q low. refl;
  few = tally_most (below_in c.args.tree.now.forks c.args.who) 1 30;
  told = λ d fits. (fits, refl);
}

pub kill_bare-requires-clause-lives : goal.kill_bare-requires-clause-lives
kill_bare-requires-clause-lives g c =
    let k = c.in-Some.ensures in
    subst (λ (n : ForkName). IsSome (map.get c.loop-round.tree.forks n)) k.named (subst IsSome (sym k.leaf.lives) refl)

pub kill_bare-requires-clause-bare : goal.kill_bare-requires-clause-bare
kill_bare-requires-clause-bare g c = let k = c.in-Some.ensures in subst (λ (n : ForkName). HasNoInferior c.loop-round.tree.forks n) k.named k.leaf.leaf

pub kill_bare-requires-clause-map : goal.kill_bare-requires-clause-map
kill_bare-requires-clause-map g c =
    let k = c.in-Some.ensures in
    c.loop-round.invariant.maps c.in-Some.name (inr (ap (is_inferior c.loop-round.tree.forks c.args.who) (sym k.named) ∙ k.leaf.below))

pub loop-round-preserved : goal.loop-round-preserved
loop-round-preserved g c =
    let means = g.P.Pages.means in
    let who = c.args.who in
    let tree = c.loop-round.tree in
    let before = c.loop-round.invariant in
    let is = c.are_trees.ensures in
    let name = c.in-Some.name in
    let k = c.in-Some.ensures in
    let gone = ap (λ (t : PlainTree). t.forks) c.kill_bare.ensures.tree in
    let younger = below_younger tree is who k.fork k.leaf.lives k.leaf.below in
    let fewer = fewer_counted who tree is k.fork k.leaf in
    let fewer_at : tally (below_in (map.remove tree.forks name) who) 1 30 < tally (below_in tree.forks who) 1 30 =
    subst (λ (n : ForkName). tally (below_in (map.remove tree.forks n) who) 1 30 < tally (below_in tree.forks who) 1 30) k.named fewer in
    let counted : tally (below_in c.kill_bare.new.tree.forks who) 1 30 ≡ tally (below_in (map.remove tree.forks name) who) 1 30 = ap (λ (m : ForkMap). tally (below_in m who) 1 30) gone in
    record {
      holds = c.kill_bare.ensures.holds;
      maps =
          let here : AreMapsHere (means.scene c.loop-round.pages) (map.remove tree.forks name) who =
          subst (λ (n : ForkName). AreMapsHere (means.scene c.loop-round.pages) (map.remove tree.forks n) who) k.named (fewer_go (means.scene c.loop-round.pages) tree is who k.fork k.leaf before.maps) in
          λ f goes. c.kill_bare.ensures.maps f (here f (subst (λ (m : ForkMap). GoesWith m who f) gone goes));
      kept = come_on c.args.tree.now.forks tree.forks c.kill_bare.new.tree.forks before.kept c.kill_bare.ensures.kept;
      tops =
          let low = below_low tree is who name (ap (is_inferior tree.forks who) (sym k.named) ∙ k.leaf.below) in
          tops_on c.args.tree.now.forks tree.forks c.kill_bare.new.tree.forks before.tops (subst (TopsStay tree.forks) (sym gone) (gone_tops tree.forks name low));
      made = λ t. made_on means t 0 0 c.args.pages.now c.loop-round.pages c.kill_bare.new.pages (before.made t) (c.kill_bare.ensures.made t);
      loses = lost_on means c.args.pages.now c.loop-round.pages c.kill_bare.new.pages before.loses c.kill_bare.ensures.loses;
      others =
          let here = below_job tree is who name (ap (is_inferior tree.forks who) (sym k.named) ∙ k.leaf.below) in
          others_on who.tty c.args.tree.now.forks tree.forks c.kill_bare.new.tree.forks before.others (subst (OthersStay who.tty tree.forks) (sym gone) (gone_others who.tty tree.forks name here));
      older = λ q low.
          let apart : q ≡ name → ⊥ = λ same. omega (arith, low, younger, ap (λ (n : ForkName). n.serial) (same ∙ sym k.named)) in
          ap (λ (m : ForkMap). map.get m q) gone ∙ get_gone_other tree.forks name q apart ∙ before.older q low;
      few = omega (arith, counted, fewer_at, before.few);
      told = λ d fits.
          let t = before.told d fits in
          let n = c.kill_bare.ensures.told d t.0 in
          let p = means.plain c.loop-round.pages d in
          let after : parts c.kill_bare.new.tree (means.plain c.kill_bare.new.pages d) ≡ without (parts tree p) name = λ i. record { tree = c.kill_bare.ensures.tree i; pages = n.1 i } in
          let first = subst (λ (m : ForkName). without_inferiors (without (parts tree p) m) who ≡ without_inferiors (parts tree p) who) k.named (leaf_first (parts tree p) who k.fork is k.leaf) in
          (n.0, ap (λ (v : ForkParts nat_cmp). without_inferiors v who) after ∙ first ∙ t.1);
    }

pub returns-in-None-clause-maps : goal.returns-in-None-clause-maps
returns-in-None-clause-maps g c = c.loop-round.invariant.maps c.args.who (inl refl)

pub returns-in-None-clause-told : goal.returns-in-None-clause-told
returns-in-None-clause-told g c d fits =
    let tree = c.loop-round.tree in
    let t = c.loop-round.invariant.told d fits in
    (t.0, sym t.1 ∙ without_none (parts tree (g.P.Pages.means.plain c.loop-round.pages d)) c.args.who c.in-None.ensures)

pub returns-clause-maps : goal.returns-clause-maps
returns-clause-maps g c = c.loop-round.invariant.maps c.args.who (inl refl)

pub returns-clause-told : goal.returns-clause-told
returns-clause-told g c d fits =
    let tree = c.loop-round.tree in
    let t = c.loop-round.invariant.told d fits in
    let none = none_counted c.args.who tree c.are_trees-2.ensures (omega (arith, c.loop-round.invariant.few)) in
    (t.0, sym t.1 ∙ without_none (parts tree (g.P.Pages.means.plain c.loop-round.pages d)) c.args.who none)

pub returns-clause-bare : goal.returns-clause-bare
returns-clause-bare g c = none_counted c.args.who c.loop-round.tree c.are_trees-2.ensures (omega (arith, c.loop-round.invariant.few))
