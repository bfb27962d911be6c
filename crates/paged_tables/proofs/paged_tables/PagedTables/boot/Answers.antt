use Rattle.std.proofs.Common.{ℕ, map, sym, subst, ◌≤◌}
use Rattle.std.proofs.lemmas.List.{length-map}
use Rattle.page_contracts.specs.Stores.{is_taken}
use Rattle.paged_tables.proofs.paged_tables.PagedTables.boot.Goals as goal

pub returns-clause-rooted : goal.returns-clause-rooted
returns-clause-rooted c places few = c.in_ok-tables.ensures.rooted (map is_taken places) (subst (λ (n : ℕ). n ≤ c.args.limit) (sym (length-map places is_taken)) few)
