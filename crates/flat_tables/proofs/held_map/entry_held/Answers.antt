use Rattle.std.proofs.Common.{[], ◌≡◌, None, Some, sym, ◌∙◌, ap}
use Rattle.std.specs.Prelude.{slice_index_or}
use Rattle.std.proofs.lemmas.Option.{slice_get-get_or}
use Rattle.std.proofs.lemmas.List.{get_or_read}
use Rattle.flat_tables.specs.declared.held_entry.HeldEntry.TheVariants.{Empty}
use Rattle.flat_tables.specs.declared.held_map.HeldMap.{HeldMap}
use Rattle.flat_tables.specs.HeldMaps.{map_at}
use Rattle.flat_tables.proofs.held_map.entry_held.Goals as goal

pub returns : goal.returns
returns c =
    let is : c.index.result.now ≡ map_at c.args.maps.now.items c.args.at.map = get_or_read _ _ _ c.requires.map c.index.ensures (record { fork = None; entries = [] }) in
    slice_get-get_or (map_at c.args.maps.now.items c.args.at.map).entries c.args.at.page Empty c.requires.page
    ∙ ap (λ (m : HeldMap). Some (slice_index_or m.entries c.args.at.page Empty)) (sym is)
