use Rattle.std.proofs.Common.{◌-◌, ◌<◌, Bool, List, length, set, true, arith, refl, sym, ap, ◌∙◌, length-set}
use Rattle.std.proofs.lemmas.Grind.{get_or_default_zero}
use Rattle.page_study.specs.declared.seats.Seat.{Seat}
use Rattle.page_study.specs.Seats.{bucket, uses}
use Rattle.page_study.proofs.Linked.{stays_linked}
use Rattle.page_study.proofs.Seated.{seat_taken}
use Rattle.page_study.proofs.latest_pages.LatestPages.put.Goals as goal

pub returns-clause-linked : goal.returns-clause-linked
returns-clause-linked c =
    let s = c.args.self.now in
    let x : Seat = record { last = c.args.last; behind = c.index.result.now } in
    let inside : c.bucket_of-bucket.result < length s.heads.items = omega (arith, c.bucket_of-bucket.ensures.within, c.len.ensures) in
    stays_linked s _ x c.bucket_of-bucket.result c.requires.linked (omega (arith, c.requires.some)) refl refl (ap length c.set.ensures ∙ length-set s.taken (s.next - 1) true) refl
    (sym (c.bucket_of-bucket.ensures.value ∙ ap (λ m. bucket m c.args.last.page) (c.len.ensures ∙ s.heads.ok.0))) inside
    (c.index.ensures ∙ get_or_default_zero s.heads.items c.bucket_of-bucket.result c.index.result.now inside)

pub returns-clause-used : goal.returns-clause-used
returns-clause-used c =
    let s = c.args.self.now in
    let x : Seat = record { last = c.args.last; behind = c.index.result.now } in
    ap (λ (ts : List Bool). uses ts (set s.seats.items (s.next - 1) x)) c.set.ensures
    ∙ seat_taken s.taken s.seats.items (s.next - 1) x c.requires.linked.marks (omega (arith, c.requires.some, c.requires.linked.within)) c.requires.free
