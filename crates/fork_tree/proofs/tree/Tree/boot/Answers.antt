use Rattle.std.proofs.Common.{◌≡◌, ◌∙◌, ap, refl, rules, List, ℕ, replicate, length}
use Rattle.plain_pages.specs.PlainPages.{first_serials}
use Rattle.fork_tree.specs.Waking.{quiet_notes}
use Rattle.fork_tree.specs.declared.notes.Notes.{Notes}
use Rattle.fork_tree.proofs.Kept.{none_tree}
use Rattle.fork_tree.proofs.Reading.{quiet_none}
use Rattle.std.proofs.lemmas.List.{length-replicate}
use Rattle.machine_names.specs.declared.names.TheConstants.{TERMINALS}
use Rattle.fork_tree.proofs.tree.Tree.boot.Goals as goal

ones : (serials : List ℕ) (n : ℕ) → n ≡ TERMINALS → serials ≡ replicate n 1 → serials ≡ first_serials
unfolding first_serials
ones serials n is e = e ∙ ap (λ k. replicate k 1) is

pub invariant_of-result : goal.invariant_of-result
invariant_of-result c =
    let serials = ones c.in_ok-vec.field-0.items c.from.result c.from.ensures (c.in_ok-vec.ensures.items_if_clones_equal (λ y h. search rules)) in
    let notes : length c.in_ok-vec-2.field-0.items ≡ c.from-2.result = ap length (c.in_ok-vec-2.ensures.items_if_clones_equal (λ y h. search rules)) ∙ length-replicate {A = Notes} c.from-2.result quiet_notes in
    rw (c.in_ok-boot.ensures, serials) (record { tree = none_tree; terminals = notes ∙ c.from-2.ensures; quiet = quiet_none _ })

pub returns : goal.returns
returns c =
    let serials = ones c.in_ok-vec.field-0.items c.from.result c.from.ensures (c.in_ok-vec.ensures.items_if_clones_equal (λ y h. search rules)) in
    rw (c.in_ok-boot.ensures, serials) refl
