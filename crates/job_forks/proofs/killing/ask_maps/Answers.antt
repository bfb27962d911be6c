use Rattle.std.proofs.Common.{◌≡◌, false, true, Some, None, refl, sym, ◌∙◌, ap, arith}
use Rattle.std.specs.Prelude.{is_some}
use Rattle.plain_model.specs.declared.fork.Fork.{Fork}
use Rattle.plain_model.specs.Inferiors.{is_inferior}
use Rattle.fork_tree.proofs.Slots.{in_tells}
use Rattle.job_forks.proofs.Maps.{all_asked, more_asked}
use Rattle.job_forks.proofs.killing.ask_maps.Goals as goal
use Rattle.job_forks.proofs.killing.ask_maps.Goals.{in-Some+then-below+in_ok-ask_map-2, in-Some+else-below, in_default}

pub ask_map-requires-then-below : goal.ask_map-requires-then-below
ask_map-requires-then-below g c =
    let at = in_tells c.args.tree.now.forks c.are_trees.ensures.slotted c.args.name.tty c.loop-slot.slot c.in-Some.fork.now (sym c.in-Some.ensures.found) in
    record { lives = c.requires.holds.living c.in-Some.fork.now.name ∙ ap is_some at.0 }

pub loop-slot-preserved : goal.loop-slot-preserved
loop-slot-preserved g c =
    let scene = g.P.Pages.means.scene c.args.pages.now in
    let tree = c.args.tree.now in
    let name = c.args.name in
    let slot = c.loop-slot.slot in
    record {
      so_far = more_asked scene tree c.are_trees.ensures name slot c.loop-slot.invariant.so_far (λ f there below. elim c.match-fork_at.branch [
        | in-Some+then-below+in_ok-ask_map-2 w ↦
            let both : Some w.in-Some.fork.now ≡ Some f = w.in-Some.ensures.found ∙ there in
            let one : w.in-Some.fork.now ≡ f = cc both in
            ap (λ (k : Fork). scene.map_away k.name) (sym one) ∙ w.in_ok-ask_map-2.ensures.there (refl {a = true})
        | in-Some+else-below w ↦
            let both : Some w.in-Some.fork.now ≡ Some f = w.in-Some.ensures.found ∙ there in
            let one : w.in-Some.fork.now ≡ f = cc both in
            absurd (let no : false ≡ true = w.if-below.ensures ∙ ap (λ (k : Fork). is_inferior tree.forks name k.name) one ∙ below in cc no)
        | in_default w ↦ absurd (let no : None ≡ Some f = w.in_default.ensures.found ∙ there in cc no)
      ]);
    }

pub returns-clause-there : goal.returns-clause-there
returns-clause-there g c ok =
    all_asked (g.P.Pages.means.scene c.args.pages.now) c.args.tree.now c.are_trees.ensures c.args.name c.loop-slot.slot (omega (arith, c.loop-slot-test.false)) (c.in_ok-ask_map.ensures.there refl) c.loop-slot.invariant.so_far
