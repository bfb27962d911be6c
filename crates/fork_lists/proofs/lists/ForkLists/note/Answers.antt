use Rattle.std.proofs.Common.{◌∙◌, ap, subst, sym}
use Rattle.std.specs.Prelude.{slice_set}
use Rattle.fork_lists.specs.declared.seen.Seen.{Seen}
use Rattle.fork_lists.specs.Seeing.{AreNamed, seen_of}
use Rattle.fork_lists.proofs.Noted.{noted_named, seen_named}
use Rattle.fork_lists.proofs.lists.ForkLists.note.Goals as goal

pub invariant_of-self-clause-named : goal.invariant_of-self-clause-named
invariant_of-self-clause-named c =
    let old = c.args.self.now in
    let seen_so = c.seen_of.ensures ∙ ap seen_of c.fork_at.ensures.found in
    subst (λ place. AreNamed (slice_set old.seen.items place c.seen_of.result)) (sym c.place_of.ensures)
    (noted_named old.seen.items old.room c.args.t c.args.slot c.requires.terminal c.requires.first c.requires.last c.seen_of.result old.named
    (λ f is. seen_named c.args.tree.now.forks c.are_trees.ensures.slotted c.args.t c.args.slot f (ap (λ (x : Seen). x.fork) (sym seen_so) ∙ is)))
