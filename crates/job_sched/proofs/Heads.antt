-- Where the head stays the head.
use Rattle.std.proofs.Common.{◌≡◌, suc, ◌<◌, List, [], ◌∷◌, ◌++◌, length, filter, Bool, true, false, not, cond, if◌then◌else◌, slice_get, refl, ◌∙◌, ap, arith}
use Rattle.machine_names.specs.declared.names.ForkName.{ForkName}
use Rattle.job_sched.specs.declared.member.Member.{Member}
use Rattle.job_sched.specs.Schedules.{Schedule, heads, is_member, stands, woken, left, admitted, seated, started, stopped}

first_stays : (ms ns : List Member) → 0 < length ms → slice_get (ms ++ ns) 0 ≡ slice_get ms 0
first_stays [] ns some = absurd (omega arith)
first_stays (m ∷ ms) ns some = refl

-- who is put outside changes neither the ready list nor what was used
woken_ready : (s : Schedule) (f : ForkName) (b : Bool) → (if b then s else (record s { outside = s.outside ++ f ∷ [] })).ready ≡ s.ready
woken_ready s f true = refl
woken_ready s f false = refl

woken_used : (s : Schedule) (f : ForkName) (b : Bool) → (if b then s else (record s { outside = s.outside ++ f ∷ [] })).used ≡ s.used
woken_used s f true = refl
woken_used s f false = refl

starts_by : (s t : Schedule) → t.ready ≡ s.ready → 0 < length s.ready → slice_get (admitted t).ready 0 ≡ slice_get s.ready 0
starts_by s t is some = ap (λ (ms : List Member). slice_get (ms ++ seated t.outside t.spare) 0) is ∙ first_stays s.ready (seated t.outside t.spare) some

pub starts : (s : Schedule) (f : ForkName) → 0 < length s.ready → (slice_get (started s f).ready 0 ≡ slice_get s.ready 0) × ((started s f).used ≡ s.used)
starts s f some = (starts_by s (woken s f) (woken_ready s f (stands f s)) some, woken_used s f (stands f s))

-- of members, those that are not a fork that isn't the head
others_first : (f : ForkName) (ms : List Member) → 0 < length ms → heads f ms ≡ false → (slice_get (filter (λ m. not (is_member f m)) ms) 0 ≡ slice_get ms 0) × (0 < length (filter (λ m. not (is_member f m)) ms))
others_first f [] some other = absurd (omega arith)
others_first f (m ∷ ms) some other =
    let is : filter (λ m. not (is_member f m)) (m ∷ ms) ≡ m ∷ filter (λ m. not (is_member f m)) ms =
    ap (λ (b : Bool). cond (not b) (m ∷ filter (λ m. not (is_member f m)) ms) (filter (λ m. not (is_member f m)) ms)) other in
    let long = ap length is in
    let more : length (m ∷ filter (λ m. not (is_member f m)) ms) ≡ suc (length (filter (λ m. not (is_member f m)) ms)) = refl in
    (ap (λ (ns : List Member). slice_get ns 0) is, omega arith)

pub stops : (s : Schedule) (f : ForkName) → 0 < length s.ready → heads f s.ready ≡ false → (slice_get (stopped s f).ready 0 ≡ slice_get s.ready 0) × ((stopped s f).used ≡ s.used)
stops s f some other =
    let first = others_first f s.ready some other in
    (starts_by (left s f) (left s f) refl first.1 ∙ first.0, ap (λ (b : Bool). if b then 0 else s.used) other)
