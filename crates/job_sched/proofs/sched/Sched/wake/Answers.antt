use Rattle.std.proofs.Common.{◌≡◌, ◌∙◌, ap, sym, subst, arith, List}
use Rattle.job_sched.specs.declared.member.Waiter.{Waiter}
use Rattle.job_sched.specs.Schedules.{Schedule, stands, woken}
use Rattle.job_sched.specs.Places.{IsPlaceOf}
use Rattle.job_sched.proofs.Kept.{place_below}
use Rattle.job_sched.proofs.Leaving.{away_of, no_change, some_free, stays_away, woken_at}
use Rattle.job_sched.proofs.sched.Sched.wake.Goals as goal

pub returns-then-is_some : goal.returns-then-is_some
returns-then-is_some c =
    let i = c.self.inside in
    let there = subst (λ (vs : List Waiter). IsPlaceOf i.rows vs c.args.f c.place_of.result) c.deref.ensures.value c.place_of.ensures in
    subst (λ (s : Schedule). s ≡ woken s c.args.f) c.self.view_is
    (no_change i.rows i.spots.items i.spare.order i.used c.args.f c.place_of.result c.self.invariant.names.four (sym c.if-is_some.ensures) there)

pub index_mut-requires : goal.index_mut-requires
index_mut-requires c =
    let i = c.self.inside in
    let below = place_below i.rows i.spare i.spots.items i.places.items i.seated.items i.used c.self.invariant c.in-Some.place 0 (sym c.first.ensures.first ∙ c.in-Some.is) in
    let all = c.self.invariant.names.all_spots in
    omega arith

pub overflow_cast-place-in-Some : goal.overflow_cast-place-in-Some
overflow_cast-place-in-Some c =
    let i = c.self.inside in
    let below = place_below i.rows i.spare i.spots.items i.places.items i.seated.items i.used c.self.invariant c.in-Some.place 0 (sym c.first.ensures.first ∙ c.in-Some.is) in
    omega arith

pub put_last-requires : goal.put_last-requires
put_last-requires c =
    let i = c.self.inside in
    let below = place_below i.rows i.spare i.spots.items i.places.items i.seated.items i.used c.self.invariant c.in-Some.place 0 (sym c.first.ensures.first ∙ c.in-Some.is) in
    let bound = c.self.invariant.names.bound in
    omega arith

pub invariant_of-self : goal.invariant_of-self
invariant_of-self c =
    let i = c.self.inside in
    let first = sym c.first.ensures.first ∙ c.in-Some.is in
    let there = subst (λ (vs : List Waiter). IsPlaceOf i.rows vs c.args.f c.place_of.result) c.deref.ensures.value c.place_of.ensures in
    rw (c.put_last.ensures.moved, c.name_index.ensures)
    (woken_at i.rows i.spare i.spots.items i.places.items i.seated.items i.used c.self.invariant c.args.f c.in-Some.place (record { fork = c.args.f; seat = c.index_mut.result.now.seat; need = c.index_mut.result.now.need }) c.requires.name
    (away_of i.rows i.spots.items c.args.f c.place_of.result (sym c.is_some.ensures ∙ c.if-is_some.false) there) first
    (rw c.put_last.ensures.moved at c.put_last.ensures.rows) (λ _. c.args.f)).kept

pub returns-in-Some : goal.returns-in-Some
returns-in-Some c =
    let i = c.self.inside in
    let first = sym c.first.ensures.first ∙ c.in-Some.is in
    let there = subst (λ (vs : List Waiter). IsPlaceOf i.rows vs c.args.f c.place_of.result) c.deref.ensures.value c.place_of.ensures in
    rw c.put_last.ensures.moved
    ((woken_at i.rows i.spare i.spots.items i.places.items i.seated.items i.used c.self.invariant c.args.f c.in-Some.place (record { fork = c.args.f; seat = c.index_mut.result.now.seat; need = c.index_mut.result.now.need }) c.requires.name
    (away_of i.rows i.spots.items c.args.f c.place_of.result (sym c.is_some.ensures ∙ c.if-is_some.false) there) first
    (rw c.put_last.ensures.moved at c.put_last.ensures.rows) (λ _. c.args.f)).view ∙ ap (λ (s : Schedule). woken s c.args.f) c.self.view_is)

pub returns-in_default : goal.returns-in_default
returns-in_default c =
    let i = c.self.inside in
    let bound = c.self.invariant.names.bound in
    let there = subst (λ (vs : List Waiter). IsPlaceOf i.rows vs c.args.f c.place_of.result) c.deref.ensures.value c.place_of.ensures in
    let away = away_of i.rows i.spots.items c.args.f c.place_of.result (sym c.is_some.ensures ∙ c.if-is_some.false) there in
    let room = c.requires.room (ap (stands c.args.f) (sym c.self.view_is) ∙ stays_away i.rows i.spots.items i.spare.order i.used c.args.f away) in
    absurd (some_free i.rows i.spots.items i.spare.order i.used c.args.self.now c.self.invariant.names.rows c.self.invariant.names.four c.self.view_is (omega arith)
    (sym c.first.ensures.first ∙ c.in_default.is))
