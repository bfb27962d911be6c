use Rattle.std.proofs.Common.{◌≡◌, ◌<◌, sym, subst, arith}
use Rattle.std.specs.Prelude.{List}
use Rattle.std.specs.List.{All}
use Rattle.machine_names.specs.declared.names.TheConstants.{SPACE_PAGES}
use Rattle.page_gather.specs.declared.reference.PageReference.{PageReference}
use Rattle.string_io.proofs.ends.at_once.Goals as goal

pub invariant_of-result-clause-own : goal.invariant_of-result-clause-own
invariant_of-result-clause-own g = record {
  owner = g.new.ensures.owner;
  references = subst (λ (rs : List PageReference). All (λ r. (r.slot.fork ≡ g.args.who) × (r.slot.page < SPACE_PAGES)) rs) (sym g.new.ensures.none) (λ k d less. absurd (omega (arith, less)));
}
