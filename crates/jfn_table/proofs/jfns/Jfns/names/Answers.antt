use Rattle.std.proofs.Common.{arith}
use Rattle.jfn_table.proofs.Changes.{count_at, names_most}
use Rattle.jfn_table.proofs.jfns.Jfns.names.Goals as goal

pub returns-clause-most : goal.returns-clause-most
returns-clause-most c =
    let inside = c.self.inside in
    omega (
      arith,
      c.from.ensures,
      names_most inside.held c.args.f.0 c.self.invariant.0,
      count_at inside.names.items inside.held c.args.f.0 c.index.result.now c.self.invariant.1 c.requires c.index.ensures,
    )
