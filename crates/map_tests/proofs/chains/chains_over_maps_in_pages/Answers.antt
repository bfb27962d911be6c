use Rattle.std.proofs.Common.{List, length, map, ap, arith}
use Rattle.page_contracts.specs.Stores.{HomePlace, is_taken}
use Rattle.map_tests.proofs.chains.chains_over_maps_in_pages.Goals as goal

pub come_and_go-requires : goal.come_and_go-requires
come_and_go-requires g c =
    let homes = rw c.made-store.ensures at c.boot.ensures.homes in
    let rooted = rw c.made-tables.ensures at c.boot-2.ensures.rooted in
    rooted _ (omega (arith, ap (λ (places : List HomePlace). length (map is_taken places)) homes))
