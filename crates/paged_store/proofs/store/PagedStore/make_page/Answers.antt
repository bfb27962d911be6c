use Rattle.std.proofs.Common.{refl, ap, arith}
use Rattle.page_contracts.specs.Stores.{members_of, free_homes}
use Rattle.paged_store.specs.StoreMeaning.{homes_of}
use Rattle.paged_store.proofs.Making.{room_parts, free_count, free_away, kept_made, homes_made, made_below, made_free, made_spare, made_queue, made_found, made_frames, made_tenants, made_ages, one_use}
use Rattle.paged_store.proofs.store.PagedStore.make_page.Goals as goal

pub take-home-requires : goal.take-home-requires
take-home-requires c =
    let room = room_parts (free_homes (homes_of c.args.self.now)) _ c.requires.room in
    let count = free_count c.args.self.now in
    omega (arith, room.0, count)

pub seat-requires-clause-away : goal.seat-requires-clause-away
seat-requires-clause-away c = free_away c.args.self.now c.take-home.result.0 c.take-home.ensures.free

pub seat-requires-clause-spare : goal.seat-requires-clause-spare
seat-requires-clause-spare c = (room_parts (free_homes (homes_of c.args.self.now)) _ c.requires.room).1

pub invariant_of-self : goal.invariant_of-self
invariant_of-self c =
    let s = c.args.self.now in
    record { kept = kept_made s c.seat.new.self c.take-home.new.self c.take-home.result.0 c.seat.result.0 c.args.words.now c.take-home.ensures.below c.take-home.ensures.free c.take-home.ensures.taken c.seat.ensures.given c.seat.ensures.words c.seat.ensures.queue }

pub returns : goal.returns
returns c =
    let s = c.args.self.now in
    let n = c.seat.new.self in
    let flags = c.take-home.new.self in
    let h = c.take-home.result.0 in
    let f = c.seat.result.0 in
    let words = c.args.words.now in
    let t = c.take-home.ensures in
    let g = c.seat.ensures in
    record {
      made = record {
        below = made_below s n flags h f words t.below t.free t.taken g.given g.words g.queue;
        was_free = made_free s n flags h f words t.below t.free t.taken g.given g.words g.queue;
        in_frame = refl;
        homes = homes_made s n flags h f words t.below t.free t.taken g.given g.words g.queue g.idle;
        frames = made_frames s n flags h f words t.below t.free t.taken g.given g.words g.queue;
        spare = made_spare s n flags h f words t.below t.free t.taken g.given g.words g.queue;
        queued = record { queue = made_queue s n flags h f words t.below t.free t.taken g.given g.words g.queue; untold = refl };
        holds = refl;
        members = ap members_of (made_frames s n flags h f words t.below t.free t.taken g.given g.words g.queue);
        found = λ k other. made_found s n flags h f words t.below t.free t.taken g.given g.words g.queue k other;
        tenants = made_tenants s n flags h f words t.below t.free t.taken g.given g.words g.queue g.idle;
        ages = made_ages s n flags h f words t.below t.free t.taken g.given g.words g.queue g.idle g.renews;
      };
      once = one_use s.core n f g.renews;
    }
