use Rattle.std.proofs.Common.{◌≡◌, arith, ap, ◌∙◌}
use Rattle.std.specs.List.{insert}
use Rattle.sum_tree.specs.Marks.{marks_below}
use Rattle.page_study.specs.Seats.{uses_of}
use Rattle.page_study.proofs.Seated.{none_first, none_up_to}
use Rattle.page_study.proofs.latest_pages.LatestPages.refer.Goals as goal

pub returns-clause-used : goal.returns-clause-used
returns-clause-used c =
    let left = c.take_out-found.new.self in
    let none : marks_below left.taken c.put.new.self.next ≡ 0 =
    none_up_to left.taken 0 c.put.new.self.next (omega arith) (λ p a b. c.take_out-found.ensures.tidy.free p (omega (arith, b, c.put.ensures.next))) ∙ none_first left.taken in
    record {
      cut = uses_of c.make_room.new.self;
      is_cut = c.make_room.ensures.cut;
      left = uses_of left;
      taken_out = c.take_out-found.ensures.used;
      first = c.put.ensures.used ∙ ap (λ k. insert (uses_of left) k c.args.last) none;
    }
