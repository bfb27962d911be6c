use Rattle.std.proofs.Common.{◌≡◌, ◌∙◌, sym, ap, Some, None}
use Rattle.plain_model.specs.declared.fork.Fork.{Fork}
use Rattle.fork_tree.proofs.Leaves.{number_alike, number_same}
use Rattle.fork_tree.proofs.Slots.{in_found, in_tells}
use Rattle.fork_tree.proofs.tree.Tree.is_superior_in.Goals as goal

pub returns-in-Some : goal.returns-in-Some
returns-in-Some c =
    let m = c.args.self.now.forks in
    let s = c.in-Some.ensures.tree.slotted in
    let f = c.in-Some.other.now in
    let t = c.args.fork.now.name.tty in (
      λ e. (f, in_tells m s t c.args.slot f (sym c.in-Some.ensures.found), number_same f.superior c.args.fork.now.slot (sym c.eq.ensures ∙ e)),
      λ h.
          let both : Some f ≡ Some h.0 = c.in-Some.ensures.found ∙ in_found m s t c.args.slot h.0 h.1 in
          let is : f ≡ h.0 = cc both in
          c.eq.ensures ∙ number_alike f.superior c.args.fork.now.slot (ap (λ (k : Fork). k.superior) is ∙ h.2),
    )

pub returns-in-None : goal.returns-in-None
returns-in-None c = (
  λ e. absurd (cc e),
  λ h. let found = in_found c.args.self.now.forks c.in-None.ensures.tree.slotted c.args.fork.now.name.tty c.args.slot h.0 h.1 in
      let none : None ≡ Some h.0 = c.in-None.ensures.found ∙ found in
      absurd (cc none),
)
