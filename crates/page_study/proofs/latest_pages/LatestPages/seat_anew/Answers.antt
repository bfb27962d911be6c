use Rattle.std.proofs.Common.{rules, ◌≡◌, length, replicate, refl, sym, subst, ap, ◌∙◌}
use Rattle.page_study.specs.declared.latest_pages.LatestPages.{LatestPages}
use Rattle.page_study.specs.Seats.{AreMoving, uses_of}
use Rattle.page_study.proofs.Moved.{anew_begun, whole}
use Rattle.page_study.proofs.latest_pages.LatestPages.seat_anew.Goals as goal

pub loop-at-init : goal.loop-at-init
loop-at-init c =
    let s = c.args.self.now in
    let end : c.len-end.result ≡ length s.seats.items = c.len-end.ensures ∙ s.seats.ok.0 in
    let heads : c.fill.new.self.items ≡ replicate (length s.heads.items) c.len-end.result = search rules in
    let t : LatestPages = record s { heads = c.fill.new.self; next = c.len-end.result } in
    record {
      moving = subst (λ n. AreMoving t n) (sym end) (anew_begun s t c.requires refl refl refl end (heads ∙ ap (replicate (length s.heads.items)) end));
      cut = whole s.room (uses_of s);
      room = refl;
      seats = sym end;
    }
