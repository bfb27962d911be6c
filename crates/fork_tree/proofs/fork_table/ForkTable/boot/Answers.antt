use Rattle.std.proofs.Common.{◌∙◌, ◌*◌, ◌+◌, ap, length, replicate, refl, rules, ℕ}
use Rattle.std.proofs.lemmas.List.{length-replicate}
use Rattle.machine_names.specs.declared.names.TheConstants.{TERMINALS, MOST_FORKS, LAST_SERIAL}
use Rattle.fork_tree.proofs.Taken.{taken_none}
use Rattle.fork_tree.proofs.TableChanges.{forks_none, table_none}
use Rattle.fork_tree.proofs.fork_table.ForkTable.boot.Goals as goal

pub invariant_of-result : goal.invariant_of-result
invariant_of-result c =
    record {
      table = table_none c.in_ok-places.places.items (TERMINALS * (MOST_FORKS + 1)) c.in_ok-slots.slots.items c.in_ok-lasts.lasts.items c.in_ok-places.ensures refl
          (ap length (c.in_ok-slots.ensures.items_if_clones_equal (λ y h. search rules)) ∙ length-replicate {A = ℕ} (TERMINALS * (LAST_SERIAL + 1)) 0)
          (c.in_ok-lasts.ensures.items_if_clones_equal (λ y h. search rules) ∙ ap (λ n. replicate n 0) c.from.ensures);
      bits = taken_none c.in_ok-places.places.items (TERMINALS * (MOST_FORKS + 1)) c.in_ok-taken.taken.items c.in_ok-places.ensures (c.in_ok-taken.ensures.items_if_clones_equal (λ y h. search rules) ∙ ap (λ n. replicate n 1) c.from-2.ensures);
    }

pub returns : goal.returns
returns c = rw c.in_ok-places.ensures (forks_none (TERMINALS * (MOST_FORKS + 1)))
