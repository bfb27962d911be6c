-- A fork in line goes no farther back while the lists follow others.
use Rattle.std.proofs.Common.{◌≡◌, ℕ, ◌<◌, Bool, true, false, ◌&&◌, ◌||◌, not, List, [], ◌∷◌, ◌++◌, length, slice_get, Option, None, Some, inl, inr, refl, sym, ◌∙◌, ap, arith}
use Rattle.std.proofs.lemmas.Bool.{cases_Bool, cond_both}
use Rattle.std.specs.List.{list_any}
use Rattle.std.specs.Option.{option_map_or}
use Rattle.machine_names.specs.declared.names.ForkName.{ForkName}
use Rattle.machine_names.specs.declared.names.Tty.{Tty}
use Rattle.plain_model.specs.declared.fork.Fork.{Fork}
use Rattle.plain_model.specs.Forks.{ForkMap, fork_in, runs_in}
use Rattle.machine_names.specs.Orders.{same_fork}
use Rattle.job_sched.specs.declared.member.Member.{Member}
use Rattle.job_sched.specs.Lines.{is_in_line}
use Rattle.job_sched.specs.Schedules.{Schedule, heads, is_member, is_outside, is_ready, is_waiter, size, stands, started, stopped}
use Rattle.job_sched.specs.Ties.{WaitsLess}
use Rattle.job_sched.specs.Units.{IsTimed}
use Rattle.job_sched.proofs.Heads.{starts as head_starts, stops as head_stops}
use Rattle.job_sched.proofs.Lines.{gives, joins, starts, stops}
use Rattle.job_sched.proofs.Waits.{less_filter, less_same, less_then, size_started, size_stopped}
use Rattle.fork_lists.specs.declared.seen.Seen.{Seen}
use Rattle.fork_lists.specs.Following.{lost_stopped, picks_started, started_if, stopped_if}
use Rattle.fork_lists.specs.Seeing.{seen_in}
use Rattle.fork_lists.specs.Ties.{ComesOn}
use Rattle.fork_lists.proofs.Folds.{apart_from}

-- the head is who was the head
pub heads_as : (g : ForkName) (ms ns : List Member) → slice_get ns 0 ≡ slice_get ms 0 → heads g ns ≡ heads g ms
heads_as g ms ns same = of g ns ∙ ap (λ (o : Option Member). option_map_or (is_member g) o false) same ∙ sym (of g ms)
  where
    of : (g : ForkName) (ms : List Member) → heads g ms ≡ option_map_or (is_member g) (slice_get ms 0) false
    of g [] = refl
    of g (m ∷ ms) = refl

-- there is one
pub headed : (g : ForkName) (ms : List Member) → heads g ms ≡ true → 0 < length ms
headed g [] head = absurd (cc head)
headed g (m ∷ ms) head = omega arith

-- what stays can't have gone
still_there : {A : Type 0} (g : ForkName) (s u : Schedule) → slice_get u.ready 0 ≡ slice_get s.ready 0 → heads g s.ready ≡ true → heads g u.ready ≡ false → A
still_there g s u same head gone = absurd (let no : true ≡ false = sym head ∙ sym (heads_as g s.ready u.ready same) ∙ gone in cc no)

-- nothing has changed
pub on_still : (f : ForkName) (s : Schedule) → IsTimed s → is_in_line f s ≡ true → ComesOn f s s
on_still f s timed here = record { nears = record { timed = timed; here = here; nearer = omega arith }; gives = λ g head gone. still_there g s s refl head gone }

-- one change behind another
pub on_then : (f : ForkName) (s u v : Schedule) → ComesOn f s u → ComesOn f u v → ComesOn f s v
on_then f s u v a b = record {
  nears = joins f s u v 0 0 a.nears b.nears;
  gives = λ g head gone. elim (cases_Bool (heads g u.ready)) [
    | inl still ↦ joins f s u v 0 1 a.nears (b.gives g still gone)
    | inr lost ↦ joins f s u v 1 0 (a.gives g head lost) b.nears
  ];
}

module _ (forks : ForkMap) (f : ForkName) (runs : runs_in forks f ≡ true) where
  abbrev Comes : Schedule → Schedule → Type 0
  Comes s u = IsTimed s → is_in_line f s ≡ true → ComesOn f s u

  as_it_is : (s : Schedule) → Comes s s
  as_it_is s = on_still f s

  then_more : (s u v : Schedule) → Comes s u → Comes u v → Comes s v
  then_more s u v first second timed here = let a = first timed here in on_then f s u v a (second a.nears.timed a.nears.here)

  stop_one : (g : ForkName) (s : Schedule) → same_fork g f ≡ false → Comes s (stopped s g)
  stop_one g s apart timed here = record {
    nears = stops f g s timed here apart;
    gives = λ h head gone. elim (cases_Bool (heads g s.ready)) [
      | inl is ↦ gives f g s timed here apart is
      | inr other ↦ still_there h s (stopped s g) (head_stops s g (headed h s.ready head) other).0 head gone
    ];
  }

  start_one : (g : ForkName) (s : Schedule) → Comes s (started s g)
  start_one g s timed here = record {
    nears = starts f g s timed here;
    gives = λ h head gone. still_there h s (started s g) (head_starts s g (headed h s.ready head)).0 head gone;
  }

  pub stop_nears : (o : Option ForkName) (s : Schedule) → Comes s (stopped_if forks o s)
  stop_nears None s = as_it_is s
  stop_nears (Some g) s = cond_both (runs_in forks g) s (stopped s g) (Comes s) (λ can. as_it_is s) (λ lost. stop_one g s (apart_from forks g f lost runs))

  pub start_nears : (picks : ForkName → Bool) (o : Option Fork) (s : Schedule) → Comes s (started_if forks picks o s)
  start_nears picks None s = as_it_is s
  start_nears picks (Some g) s = cond_both (picks g.name && runs_in forks g.name) (started s g.name) s (Comes s) (λ can. start_one g.name s) (λ none. as_it_is s)

  lost_nears : (seen : List Seen) (t : Tty) (slots : List ℕ) (s : Schedule) → Comes s (lost_stopped forks seen t s slots)
  lost_nears seen t [] s = as_it_is s
  lost_nears seen t (slot ∷ slots) s =
      let u = stopped_if forks (seen_in seen t slot).fork s in
      then_more s u (lost_stopped forks seen t u slots) (stop_nears (seen_in seen t slot).fork s) (lost_nears seen t slots u)

  picks_near : (picks : ℕ → ForkName → Bool) (t : Tty) (slots : List ℕ) (s : Schedule) → Comes s (picks_started forks picks t s slots)
  picks_near picks t [] s = as_it_is s
  picks_near picks t (slot ∷ slots) s =
      let u = started_if forks (picks slot) (fork_in forks t slot) s in
      then_more s u (picks_started forks picks t u slots) (start_nears (picks slot) (fork_in forks t slot) s) (picks_near picks t slots u)

  pub followed_nears : (seen : List Seen) (t : Tty) (slots : List ℕ) (s : Schedule) (one two : ℕ → ForkName → Bool)
      → Comes s (picks_started forks two t (picks_started forks one t (lost_stopped forks seen t s slots) slots) slots)
  followed_nears seen t slots s one two =
      let u = lost_stopped forks seen t s slots in
      let v = picks_started forks one t u slots in
      then_more s u (picks_started forks two t v slots) (lost_nears seen t slots s) (then_more u v (picks_started forks two t v slots) (picks_near one t slots u) (picks_near two t slots v))

-- where no fork is in page wait, whoever stands is in line
pub in_line : (f : ForkName) (s : Schedule) → s.waiting ≡ [] → stands f s ≡ true → is_in_line f s ≡ true
in_line f s calm here = by (is_ready f s) (is_outside f s) (sym (ap (λ ws. (is_outside f s || is_ready f s) || list_any (is_waiter f) ws) calm) ∙ here)
  where
    by : (a b : Bool) → ((b || a) || false) ≡ true → (a || b) ≡ true
    by true b e = refl
    by false true e = refl
    by false false e = e

-- nobody enters page wait
stop_waits : (f : ForkName) (s : Schedule) → WaitsLess s.waiting (stopped s f).waiting
stop_waits f s = less_filter (λ w. not (is_waiter f w)) s.waiting

start_waits : (f : ForkName) (s : Schedule) → WaitsLess s.waiting (started s f).waiting
start_waits f s = cond_both (stands f s) s (record s { outside = s.outside ++ f ∷ [] }) (λ (u : Schedule). WaitsLess s.waiting u.waiting) (λ is. less_same s.waiting) (λ none. less_same s.waiting)

pub stop_keeps : (forks : ForkMap) (o : Option ForkName) (s : Schedule) → WaitsLess s.waiting (stopped_if forks o s).waiting
stop_keeps forks None s = less_same s.waiting
stop_keeps forks (Some f) s = cond_both (runs_in forks f) s (stopped s f) (λ (u : Schedule). WaitsLess s.waiting u.waiting) (λ can. less_same s.waiting) (λ lost. stop_waits f s)

pub start_stays : (forks : ForkMap) (picks : ForkName → Bool) (o : Option Fork) (s : Schedule) → WaitsLess s.waiting (started_if forks picks o s).waiting
start_stays forks picks None s = less_same s.waiting
start_stays forks picks (Some f) s =
    cond_both (picks f.name && runs_in forks f.name) (started s f.name) s (λ (u : Schedule). WaitsLess s.waiting u.waiting) (λ can. start_waits f.name s) (λ none. less_same s.waiting)

module _ (forks : ForkMap) (t : Tty) where
  lost_waits : (seen : List Seen) (slots : List ℕ) (s : Schedule) → WaitsLess s.waiting (lost_stopped forks seen t s slots).waiting
  lost_waits seen [] s = less_same s.waiting
  lost_waits seen (slot ∷ slots) s =
      let u = stopped_if forks (seen_in seen t slot).fork s in
      less_then s.waiting u.waiting (lost_stopped forks seen t u slots).waiting (stop_keeps forks (seen_in seen t slot).fork s) (lost_waits seen slots u)

  picks_wait : (picks : ℕ → ForkName → Bool) (slots : List ℕ) (s : Schedule) → WaitsLess s.waiting (picks_started forks picks t s slots).waiting
  picks_wait picks [] s = less_same s.waiting
  picks_wait picks (slot ∷ slots) s =
      let u = started_if forks (picks slot) (fork_in forks t slot) s in
      less_then s.waiting u.waiting (picks_started forks picks t u slots).waiting (start_stays forks (picks slot) (fork_in forks t slot) s) (picks_wait picks slots u)

  pub followed_waits : (seen : List Seen) (slots : List ℕ) (s : Schedule) (one two : ℕ → ForkName → Bool)
      → WaitsLess s.waiting (picks_started forks two t (picks_started forks one t (lost_stopped forks seen t s slots) slots) slots).waiting
  followed_waits seen slots s one two =
      let u = lost_stopped forks seen t s slots in
      let v = picks_started forks one t u slots in
      less_then s.waiting v.waiting (picks_started forks two t v slots).waiting (less_then s.waiting u.waiting v.waiting (lost_waits seen slots s) (picks_wait one slots u)) (picks_wait two slots v)

-- as many members and numbers as before
pub stop_size : (forks : ForkMap) (o : Option ForkName) (s : Schedule) → size (stopped_if forks o s) ≡ size s
stop_size forks None s = refl
stop_size forks (Some f) s = cond_both (runs_in forks f) s (stopped s f) (λ (u : Schedule). size u ≡ size s) (λ can. refl) (λ lost. size_stopped s f)

pub start_size : (forks : ForkMap) (picks : ForkName → Bool) (o : Option Fork) (s : Schedule) → size (started_if forks picks o s) ≡ size s
start_size forks picks None s = refl
start_size forks picks (Some f) s = cond_both (picks f.name && runs_in forks f.name) (started s f.name) s (λ (u : Schedule). size u ≡ size s) (λ can. size_started s f.name) (λ none. refl)

module _ (forks : ForkMap) (t : Tty) where
  lost_size : (seen : List Seen) (slots : List ℕ) (s : Schedule) → size (lost_stopped forks seen t s slots) ≡ size s
  lost_size seen [] s = refl
  lost_size seen (slot ∷ slots) s = lost_size seen slots (stopped_if forks (seen_in seen t slot).fork s) ∙ stop_size forks (seen_in seen t slot).fork s

  picks_size : (picks : ℕ → ForkName → Bool) (slots : List ℕ) (s : Schedule) → size (picks_started forks picks t s slots) ≡ size s
  picks_size picks [] s = refl
  picks_size picks (slot ∷ slots) s = picks_size picks slots (started_if forks (picks slot) (fork_in forks t slot) s) ∙ start_size forks (picks slot) (fork_in forks t slot) s

  pub followed_size : (seen : List Seen) (slots : List ℕ) (s : Schedule) (one two : ℕ → ForkName → Bool)
      → size (picks_started forks two t (picks_started forks one t (lost_stopped forks seen t s slots) slots) slots) ≡ size s
  followed_size seen slots s one two =
      let u = lost_stopped forks seen t s slots in
      picks_size two slots (picks_started forks one t u slots) ∙ picks_size one slots u ∙ lost_size seen slots s
