use Rattle.flat_tables.proofs.kept_maps.KeptMaps.map_of.Goals as goal

pub map_of-requires : goal.map_of-requires
map_of-requires c = let held = c.requires.held in record { count = held.count; own = record { once = held.once; from = held.from; below = held.below }; listed = c.args.self.now.numbered }
