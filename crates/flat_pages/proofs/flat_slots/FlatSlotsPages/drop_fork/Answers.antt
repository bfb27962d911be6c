use Rattle.std.proofs.Common.{refl, sym, ◌∙◌}
use Rattle.flat_pages.proofs.ForkChanges.{fork_dropped}
use Rattle.flat_pages.proofs.SlotSetting.{fork_some}
use Rattle.flat_pages.proofs.ForkEnds.{ended_agrees, ended_told, map_below, some_living}
use Rattle.flat_pages.proofs.flat_slots.FlatSlotsPages.drop_fork.Goals as goal

pub empty_map-requires : goal.empty_map-requires
empty_map-requires g c = record { lives = fork_some c.args.self.now.tables.maps.held.items c.args.fork c.in-Some.map (sym c.map_of.ensures ∙ c.in-Some.is) }

pub end_fork-requires-clause-map : goal.end_fork-requires-clause-map
end_fork-requires-clause-map g c =
    let now = c.args.self.now in
    let mid = c.empty_map.new.self in
    map_below g.S.Store.means now.store mid.store now.tables mid.tables c.in-Some.map c.args.fork (sym c.map_of.ensures ∙ c.in-Some.is) c.empty_map.ensures

pub end_fork-requires-clause-living : goal.end_fork-requires-clause-living
end_fork-requires-clause-living g c =
    let now = c.args.self.now in
    let mid = c.empty_map.new.self in
    some_living g.S.Store.means now.store mid.store now.tables mid.tables c.in-Some.map c.args.fork (sym c.map_of.ensures ∙ c.in-Some.is) c.empty_map.ensures mid.agree

pub invariant_of-self : goal.invariant_of-self
invariant_of-self g c =
    let now = c.args.self.now in
    let mid = c.empty_map.new.self in
    let agree = ended_agrees g.S.Store.means now.store mid.store now.tables mid.tables c.in-Some.map c.args.fork (sym c.map_of.ensures ∙ c.in-Some.is) c.empty_map.ensures mid.agree c.end_fork.new.self c.end_fork.ensures in
    record {
      agree = agree;
      told = ended_told g.S.Store.means mid.store c.end_fork.new.self agree (g.met.S.Store.sound mid.store);
    }

pub returns : goal.returns
returns g c =
    let now = c.args.self.now in
    let mid = c.empty_map.new.self in
    fork_dropped g.S.Store.means (λ p. p.store) (λ p. p.tables) now _ now.agree c.args.fork mid.store mid.tables c.in-Some.map (sym c.map_of.ensures ∙ c.in-Some.is) c.empty_map.ensures mid.agree refl c.end_fork.ensures now.told mid.told
