use Rattle.std.proofs.Common.{Some, sym, subst}
use Rattle.std.specs.Prelude.{slice_set}
use Rattle.fork_maps.specs.MapNumbers.{AreListed}
use Rattle.flat_tables.specs.HeldMaps.{fork_at}
use Rattle.flat_tables.proofs.Looking.{looked_following}
use Rattle.flat_tables.proofs.ForkMaps.{listed_begun}
use Rattle.flat_tables.proofs.kept_maps.KeptMaps.begin_following.Goals as goal

pub invariant_of-self : goal.invariant_of-self
invariant_of-self c =
    let s = c.args.self.now in
    let begun = looked_following s.held.items s.looks.items s.keys.items s.looked c.args.number c.args.fork c.args.serial c.args.near c.requires.map in
    record {
      looked = rw (c.row_of.ensures, c.following-entries.ensures, c.from.ensures) begun;
      numbered = subst (AreListed (fork_at (slice_set s.held.items c.args.number (record { fork = Some c.args.fork; entries = c.following-entries.result })))) (sym c.set.ensures)
          (listed_begun s.held.items s.numbers.numbers.items s.numbered s.numbers.sized c.args.number c.args.fork c.following-entries.result c.requires.map c.requires.absent c.requires.from);
    }
