use Rattle.std.proofs.Common.{[], ◌≡◌, None, ap}
use Rattle.std.specs.Prelude.{slice_set}
use Rattle.std.proofs.lemmas.List.{get_or_read}
use Rattle.flat_tables.specs.declared.held_map.HeldMap.{HeldMap}
use Rattle.flat_tables.specs.HeldMaps.{map_at, entry_set}
use Rattle.flat_tables.proofs.held_map.set_held.Goals as goal

pub returns : goal.returns
returns c =
    let is : c.index_mut-map.result.now ≡ map_at c.args.maps.now.items c.args.at.map = get_or_read _ _ _ c.requires.map c.index_mut-map.ensures.value (record { fork = None; entries = [] }) in
    ap (λ (m : HeldMap). slice_set c.args.maps.now.items c.args.at.map (entry_set m c.args.at.page c.args.entry)) is
