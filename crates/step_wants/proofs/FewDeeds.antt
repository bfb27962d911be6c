-- A deed refers to few names.
use Rattle.std.proofs.Common.{◌≡◌, ℕ, ◌≤◌, List, [], ◌∷◌, length, Bool, true, false, cond, Option, None, Some, refl, arith}
use Rattle.std.specs.Prelude.{nat_lt}
use Rattle.std.specs.Option.{option_map_or}
use Rattle.std.specs.declared.cmp.Ordering.{Ordering}
use Rattle.std.specs.FinMap as map_of
use Rattle.machine_names.specs.Orders.{FilePage}
use Rattle.machine_names.specs.declared.names.ForkName.{ForkName}
use Rattle.machine_names.specs.declared.names.PageName.{PageName}
use Rattle.machine_names.specs.declared.names.TheConstants.{ACCUMULATORS}
use Rattle.machine_names.specs.declared.names.Tty.{Tty}
use Rattle.plain_pages.specs.PlainPages.{PlainPages}
use Rattle.plain_pages.specs.References.{in_file, in_map, page_at, slot_at}
use Rattle.plain_model.specs.Families.{Parts}
use Rattle.plain_model.specs.FileCalls.{Jobs}
use Rattle.plain_model.specs.Forks.{ForkMap}
use Rattle.plain_model.specs.MapCalls.{keyed}
use Rattle.event_deeds.specs.Leaves.{last_below}
use Rattle.plain_model.specs.State.{PlainJob}
use Rattle.plain_model.specs.declared.fork.Fork.{Fork}
use Rattle.script_texts.specs.declared.event.Event.{Event}
use Rattle.script_texts.specs.declared.event.Event.TheVariants.{Auto, Drum, Evict, Examine, File, Forks, Login, Page, Poke, Run, Start, Tick, Trace, TypeIn, Words}
use Rattle.event_deeds.specs.Deeds.{IsTold}
use Rattle.event_deeds.specs.declared.deed.Deed.{Deed}
use Rattle.event_deeds.specs.declared.deed.Deed.TheVariants.{Begin, End as EndDeed, Kill, Outer, Typed}
use Rattle.step_wants.specs.Names.{Housed, a_map, names_on_way, page_named}
use Rattle.step_wants.specs.Wants.{map_of_fork, names_in_job, names_of_deed, names_of_event, names_seen, names_told, names_told_of_event}
use Rattle.step_wants.proofs.Few.{page_few, way_few}

in_job_few : (jobs : Jobs) (t : Tty) (names : PlainJob → List Housed) → ((j : PlainJob) → length (names j) ≤ 5) → length (names_in_job jobs t names) ≤ 5
in_job_few jobs t names few = by (map_of.get jobs t.0)
  where
    by : (o : Option PlainJob) → length (option_map_or names o []) ≤ 5
    by None = omega arith
    by (Some j) = few j

one_few : (o : Option PageName) → length (page_named o) ≤ 5
one_few o = let few = page_few o in omega (arith, few)

map_few : (o : Option Fork) → length (map_of_fork o) ≤ 5
map_few None = omega arith
map_few (Some f) = omega arith

module _ {K : Type 0} {file_cmp : K → K → Ordering} where
  seen_few : (p : PlainPages file_cmp) (f : ForkName) (address : ℕ) → length (names_seen p f address) ≤ 5
  seen_few p f address = by (nat_lt address ACCUMULATORS)
    where
      by : (b : Bool) → length (cond b [] (names_on_way p (in_map (slot_at f address)))) ≤ 5
      by true = omega arith
      by false = way_few p (in_map (slot_at f address))

  module _ (key_of : List ℕ → K) where
    event_few : (v : Parts file_cmp) (e : Event) → length (names_of_event key_of v e) ≤ 5
    event_few v (Poke t address word) = in_job_few v.jobs t (λ j. names_seen v.pages j.top address) (λ j. seen_few v.pages j.top address)
    event_few v (Examine t serial address) = seen_few v.pages (record { tty = t; serial = serial }) address
    event_few v (Words name page offset row) = one_few (page_at v.pages (in_file (keyed key_of name page)))
    event_few v (Page name page) = one_few (page_at v.pages (in_file (keyed key_of name page)))
    event_few v (Login t user) = omega arith
    event_few v (TypeIn t text) = omega arith
    event_few v (File name) = omega arith
    event_few v (Start t address) = omega arith
    event_few v (Run n) = omega arith
    event_few v Tick = omega arith
    event_few v (Evict n) = omega arith
    event_few v (Drum n) = omega arith
    event_few v (Auto on) = omega arith
    event_few v (Forks t) = omega arith
    event_few v (Trace on) = omega arith

    pub deed_few : (v : Parts file_cmp) (d : Deed) → length (names_of_deed key_of v d) ≤ 5
    deed_few v (Outer e) = event_few v e
    deed_few v (Typed t c) = omega arith
    deed_few v (Begin t name) = one_few (page_at v.pages (in_file (keyed key_of name 0)))
    deed_few v (Kill t purpose) = in_job_few v.jobs t (λ j. map_of_fork (last_below v.tree.forks j.top)) (λ j. map_few (last_below v.tree.forks j.top))
    deed_few v (EndDeed t purpose) = in_job_few v.jobs t (λ j. a_map j.top ∷ []) (λ j. omega arith)

    -- what the tables tell of an event is what there is
    event_told : (v : Parts file_cmp) (e : Event) → IsTold (Outer e) → names_of_event key_of v e ≡ names_told_of_event key_of (λ at. page_at v.pages (in_file at)) e
    event_told v (Poke t address word) is = absurd is
    event_told v (Examine t serial address) is = absurd is
    event_told v (Words name page offset row) is = refl
    event_told v (Page name page) is = refl
    event_told v (Login t user) is = refl
    event_told v (TypeIn t text) is = refl
    event_told v (File name) is = refl
    event_told v (Start t address) is = refl
    event_told v (Run n) is = refl
    event_told v Tick is = refl
    event_told v (Evict n) is = refl
    event_told v (Drum n) is = refl
    event_told v (Auto on) is = refl
    event_told v (Forks t) is = refl
    event_told v (Trace on) is = refl

    pub deed_told : (v : Parts file_cmp) (d : Deed) → IsTold d → names_of_deed key_of v d ≡ names_told key_of (λ at. page_at v.pages (in_file at)) v.tree.forks v.jobs d
    deed_told v (Outer e) is = event_told v e is
    deed_told v (Typed t c) is = refl
    deed_told v (Begin t name) is = refl
    deed_told v (Kill t purpose) is = refl
    deed_told v (EndDeed t purpose) is = refl

module _ {K : Type 0} (key_of : List ℕ → K) (filed : FilePage K → Option PageName) where
  event_told_few : (e : Event) → length (names_told_of_event key_of filed e) ≤ 5
  event_told_few (Poke t address word) = omega arith
  event_told_few (Examine t serial address) = omega arith
  event_told_few (Words name page offset row) = one_few (filed (keyed key_of name page))
  event_told_few (Page name page) = one_few (filed (keyed key_of name page))
  event_told_few (Login t user) = omega arith
  event_told_few (TypeIn t text) = omega arith
  event_told_few (File name) = omega arith
  event_told_few (Start t address) = omega arith
  event_told_few (Run n) = omega arith
  event_told_few Tick = omega arith
  event_told_few (Evict n) = omega arith
  event_told_few (Drum n) = omega arith
  event_told_few (Auto on) = omega arith
  event_told_few (Forks t) = omega arith
  event_told_few (Trace on) = omega arith

  pub told_few : (forks : ForkMap) (jobs : Jobs) (d : Deed) → length (names_told key_of filed forks jobs d) ≤ 5
  told_few forks jobs (Outer e) = event_told_few e
  told_few forks jobs (Typed t c) = omega arith
  told_few forks jobs (Begin t name) = one_few (filed (keyed key_of name 0))
  told_few forks jobs (Kill t purpose) = in_job_few jobs t (λ j. map_of_fork (last_below forks j.top)) (λ j. map_few (last_below forks j.top))
  told_few forks jobs (EndDeed t purpose) = in_job_few jobs t (λ j. a_map j.top ∷ []) (λ j. omega arith)
