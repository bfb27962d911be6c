use Rattle.std.proofs.Common.{◌∙◌, sym, ap, refl}
use Rattle.plain_pages.specs.NewMaps.{new_map}
use Rattle.flat_tables.specs.HeldMaps.{map_at, followers}
use Rattle.flat_tables.specs.TableSteps.{tables_of}
use Rattle.flat_tables.proofs.Beginning.{agrees_begun, old_new, old_empty, followers_new, followers_follow}
use Rattle.flat_pages.proofs.ForkChanges.{fork_added}
use Rattle.flat_pages.proofs.Telling.{tables_told}
use Rattle.flat_pages.proofs.flat_slots.FlatSlotsPages.add_fork.Goals as goal

pub invariant_of-self : goal.invariant_of-self
invariant_of-self g c =
    let s = c.args.self.now in
    let t = tables_of (g.S.Store.means.homes s.store) s.tables in
    let n = c.free_map_of-number in
    let agree = agrees_begun t s.agree n.result c.args.fork n.ensures.fork n.ensures.from n.ensures.below c.requires.terminal c.requires.absent c.requires.room (map_at s.tables.maps.held.items n.result).entries (old_new t s.agree n.result c.args.fork n.ensures.fork n.ensures.from n.ensures.below c.requires.terminal c.requires.absent c.requires.room) _ (c.add_empty.ensures (g.S.Store.means.homes s.store)) in
    record { agree = agree; told = tables_told _ agree (g.met.S.Store.sound s.store).pages }

pub invariant_of-self-in-FollowAll : goal.invariant_of-self-in-FollowAll
invariant_of-self-in-FollowAll g c =
    let s = c.args.self.now in
    let t = tables_of (g.S.Store.means.homes s.store) s.tables in
    let n = c.free_map_of-number in
    let agree = agrees_begun t s.agree n.result c.args.fork n.ensures.fork n.ensures.from n.ensures.below c.requires.terminal c.requires.absent c.requires.room (followers c.in-FollowAll.other.serial c.near_map-near.result) (followers_new c.in-FollowAll.other.serial c.near_map-near.result) _ (c.add_follower.ensures (g.S.Store.means.homes s.store)) in
    record { agree = agree; told = tables_told _ agree (g.met.S.Store.sound s.store).pages }

pub returns-in-Empty : goal.returns-in-Empty
returns-in-Empty g c =
    let s = c.args.self.now in
    let t = tables_of (g.S.Store.means.homes s.store) s.tables in
    let n = c.free_map_of-number in
    fork_added g.S.Store.means (λ p. p.store) (λ p. p.tables) s _ s.agree c.args.fork n.result n.ensures.fork n.ensures.from n.ensures.below c.requires.terminal c.requires.absent c.requires.room refl (map_at t.maps n.result).entries
    (old_new t s.agree n.result c.args.fork n.ensures.fork n.ensures.from n.ensures.below c.requires.terminal c.requires.absent c.requires.room) (c.add_empty.ensures (g.S.Store.means.homes s.store)) c.args.map
    (old_empty t s.agree n.result c.args.fork n.ensures.fork n.ensures.from n.ensures.below c.requires.terminal c.requires.absent c.requires.room ∙ ap new_map (sym c.in-Empty.is))

pub returns-in-FollowAll : goal.returns-in-FollowAll
returns-in-FollowAll g c =
    let s = c.args.self.now in
    let t = tables_of (g.S.Store.means.homes s.store) s.tables in
    let n = c.free_map_of-number in
    fork_added g.S.Store.means (λ p. p.store) (λ p. p.tables) s _ s.agree c.args.fork n.result n.ensures.fork n.ensures.from n.ensures.below c.requires.terminal c.requires.absent c.requires.room refl (followers c.in-FollowAll.other.serial c.near_map-near.result)
    (followers_new c.in-FollowAll.other.serial c.near_map-near.result) (c.add_follower.ensures (g.S.Store.means.homes s.store)) c.args.map
    (followers_follow s.tables.names.items c.near_map-near.result c.in-FollowAll.other ∙ ap new_map (sym c.in-FollowAll.is))
