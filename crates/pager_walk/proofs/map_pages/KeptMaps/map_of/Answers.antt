use Rattle.pager_walk.proofs.map_pages.KeptMaps.map_of.Goals as goal

pub map_of-requires : goal.map_of-requires
map_of-requires c = let n = c.requires.numbered in record { count = n.count; own = record { once = n.once; from = n.from; below = n.below }; listed = c.args.self.now.listed }
