use Rattle.std.proofs.Common.{◌≡◌, ◌<◌, ◌∙◌, List, [], subst, sym, arith, length}
use Rattle.std.specs.Prelude.{slice_set}
use Rattle.std.proofs.lemmas.List.{get_or_read}
use Rattle.flat_tables.specs.declared.held_map.HeldMap.{HeldMap}
use Rattle.flat_tables.specs.declared.look.Look.{Look}
use Rattle.flat_tables.specs.HeldMaps.{fork_at, with_entry}
use Rattle.flat_tables.specs.Looks.{AreLooked, row_at}
use Rattle.fork_maps.specs.MapNumbers.{AreListed}
use Rattle.fork_maps.proofs.Listing.{listed_same}
use Rattle.flat_tables.proofs.Looking.{looked_set}
use Rattle.flat_tables.proofs.HeldEntries.{fork_set}
use Rattle.flat_tables.proofs.kept_maps.KeptMaps.set.Goals as goal

pub bounds-row-at : goal.bounds-row-at
bounds-row-at c =
    let k = c.args.self.now.looked in
    omega (arith, c.requires.page, k.pages c.args.at.map, k.sized c.args.at.map c.requires.map)

pub invariant_of-self : goal.invariant_of-self
invariant_of-self c =
    let s = c.args.self.now in
    let k = s.looked in
    let below : c.args.at.map < length s.looks.items = omega (arith, k.rows, c.requires.map) in
    let is : c.index_mut-row.result.now ≡ row_at s.looks.items c.args.at.map = get_or_read _ _ _ below c.index_mut-row.ensures.value [] in
    record {
      looked =
          subst (λ (ms : List HeldMap). AreLooked ms (slice_set s.looks.items c.args.at.map (slice_set c.index_mut-row.result.now c.args.at.page c.look_of.result)) s.keys.items) (sym c.set_held.ensures)
          (subst (λ (row : List Look). AreLooked (with_entry s.held.items c.args.at c.args.entry) (slice_set s.looks.items c.args.at.map (slice_set row c.args.at.page c.look_of.result)) s.keys.items) (sym is)
          (subst (λ (l : Look). AreLooked (with_entry s.held.items c.args.at c.args.entry) (slice_set s.looks.items c.args.at.map (slice_set (row_at s.looks.items c.args.at.map) c.args.at.page l)) s.keys.items) (sym c.look_of.ensures)
          (looked_set s.held.items s.looks.items s.keys.items k c.args.at c.args.entry c.requires.map c.requires.page)));
      numbered = subst (λ (ms : List HeldMap). AreListed (fork_at ms) s.numbers.numbers.items) (sym c.set_held.ensures)
          (listed_same (fork_at s.held.items) s.numbers.numbers.items s.numbered (fork_at (with_entry s.held.items c.args.at c.args.entry)) (λ j f is. sym (fork_set s.held.items c.args.at c.args.entry j) ∙ is));
    }
