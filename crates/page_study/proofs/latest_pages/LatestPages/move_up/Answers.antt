use Rattle.std.proofs.Common.{◌≡◌, ◌<◌, ◌≤◌, length, true, arith, refl, sym, ap, ◌∙◌}
use Rattle.std.proofs.lemmas.List.{get_or_default}
use Rattle.sum_tree.specs.Marks.{marks_below}
use Rattle.page_study.specs.declared.latest_pages.LatestPages.{LatestPages}
use Rattle.page_study.specs.declared.seats.Seat.{Seat}
use Rattle.page_study.specs.Seats.{is_taken, uses_of}
use Rattle.page_study.proofs.Linked.{nobody}
use Rattle.page_study.proofs.Moved.{cut_nowhere, cut_there, moved_up, passed_free, taken_away, whole}
use Rattle.page_study.proofs.latest_pages.LatestPages.move_up.Goals as goal

pub returns-then-not-is_marked-clause-moving : goal.returns-then-not-is_marked-clause-moving
returns-then-not-is_marked-clause-moving c = passed_free c.args.self.now c.args.at c.requires (sym c.is_marked.ensures ∙ c.if-not-is_marked.true)

pub returns-then-not-is_marked-clause-cut : goal.returns-then-not-is_marked-clause-cut
returns-then-not-is_marked-clause-cut c = whole c.args.self.now.room (uses_of c.args.self.now)

pub returns-then-distance-self-clause-moving : goal.returns-then-distance-self-clause-moving
returns-then-distance-self-clause-moving c =
    let s = c.args.self.now in
    let t : LatestPages = record s { taken = c.clear.new.self } in
    let marked : is_taken s.taken c.args.at ≡ true = sym c.is_marked.ensures ∙ c.if-not-is_marked.false in
    let few : marks_below s.taken c.args.at < s.room = omega (arith, c.if-distance-self.true, c.below-distance.ensures) in
    let inside : c.args.at < length s.seats.items = omega (arith, c.requires.below, c.requires.linked.within) in
    let last = ap (λ (u : Seat). u.last) (c.index.ensures ∙ get_or_default s.seats.items c.args.at c.index.result.now nobody inside) in
    moved_up s t c.args.at c.requires marked refl refl refl refl c.clear.ensures c.put.new.self c.index.result.now.last few
    c.put.ensures.linked c.put.ensures.room c.put.ensures.seats c.put.ensures.next c.put.ensures.taken c.put.ensures.used last

pub returns-then-distance-self-clause-cut : goal.returns-then-distance-self-clause-cut
returns-then-distance-self-clause-cut c =
    let s = c.args.self.now in
    let t : LatestPages = record s { taken = c.clear.new.self } in
    let marked : is_taken s.taken c.args.at ≡ true = sym c.is_marked.ensures ∙ c.if-not-is_marked.false in
    let few : marks_below s.taken c.args.at < s.room = omega (arith, c.if-distance-self.true, c.below-distance.ensures) in
    let inside : c.args.at < length s.seats.items = omega (arith, c.requires.below, c.requires.linked.within) in
    let last = ap (λ (u : Seat). u.last) (c.index.ensures ∙ get_or_default s.seats.items c.args.at c.index.result.now nobody inside) in
    cut_nowhere s t c.args.at c.requires marked refl refl refl refl c.clear.ensures c.put.new.self c.index.result.now.last few
    c.put.ensures.linked c.put.ensures.room c.put.ensures.seats c.put.ensures.next c.put.ensures.taken c.put.ensures.used last

pub returns-else-distance-self-clause-moving : goal.returns-else-distance-self-clause-moving
returns-else-distance-self-clause-moving c =
    let s = c.args.self.now in
    let t : LatestPages = record s { taken = c.clear.new.self } in
    let marked : is_taken s.taken c.args.at ≡ true = sym c.is_marked.ensures ∙ c.if-not-is_marked.false in
    let enough : s.room ≤ marks_below s.taken c.args.at = omega (arith, c.if-distance-self.false, c.below-distance.ensures) in
    taken_away s t c.args.at c.requires marked refl refl refl refl c.clear.ensures enough

pub returns-else-distance-self-clause-cut : goal.returns-else-distance-self-clause-cut
returns-else-distance-self-clause-cut c =
    let s = c.args.self.now in
    let t : LatestPages = record s { taken = c.clear.new.self } in
    let marked : is_taken s.taken c.args.at ≡ true = sym c.is_marked.ensures ∙ c.if-not-is_marked.false in
    let enough : s.room ≤ marks_below s.taken c.args.at = omega (arith, c.if-distance-self.false, c.below-distance.ensures) in
    cut_there s t c.args.at c.requires marked refl refl refl refl c.clear.ensures enough
