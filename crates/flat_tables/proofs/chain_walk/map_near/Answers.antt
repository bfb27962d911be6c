use Rattle.std.proofs.Common.{◌≡◌, ◌<◌, [], None, Some, length, sym, ap, ◌∙◌, rules}
use Rattle.std.proofs.lemmas.List.{get_or_read}
use Rattle.flat_tables.specs.declared.held_map.HeldMap.{HeldMap}
use Rattle.flat_tables.specs.HeldMaps.{map_at}
use Rattle.flat_tables.proofs.ForkMaps.{index_is}
use Rattle.flat_tables.proofs.chain_walk.map_near.Goals as goal

pub returns-then-eq : goal.returns-then-eq
returns-then-eq c =
    let maps = c.args.maps.now.held.items in
    let below : c.args.near < length maps = search rules in
    let is : c.index.result.now ≡ map_at maps c.args.near = get_or_read _ _ _ below c.index.ensures (record { fork = None; entries = [] }) in
    let same : c.index.result.now.fork ≡ Some c.args.fork = search rules in
    ap Some c.from.ensures ∙ sym (index_is maps c.requires.held.once c.args.fork c.args.near (ap (λ (m : HeldMap). m.fork) (sym is) ∙ same))
