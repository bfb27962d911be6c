-- A unit of a job leaves the forks and the maps of other jobs.
use Rattle.std.proofs.Common.{◌≡◌, ℕ, ◌%◌, Bool, true, false, cond, List, Option, None, Some, refl, ◌∙◌, ap}
use Rattle.std.specs.Prelude.{◌==◌}
use Rattle.std.specs.Option.{option_map_or, option_and_then}
use Rattle.std.specs.Cmp.Lexicographic.{nat_list_cmp_total}
use Rattle.std.specs.FinMap as map
use Rattle.std.proofs.lemmas.Bool.{cond_both}
use Rattle.outside.specs.declared.TheConstants.{PAGE_WORDS}
use Rattle.word36.specs.Words.{left}
use Rattle.plain_model.specs.declared.call.End.{End}
use Rattle.plain_model.specs.declared.call.End.TheVariants.{Done, Waits, Halts, Refused, Failed, Trap}
use Rattle.plain_model.specs.declared.call.MapChange.{MapChange}
use Rattle.plain_model.specs.declared.call.MapChange.TheVariants.{Nothing, Unmap, Follow, Narrow, Map, Put, Drop}
use Rattle.machine_names.specs.declared.names.Tty.{Tty}
use Rattle.machine_names.specs.declared.names.ForkName.{ForkName}
use Rattle.machine_names.specs.declared.names.PageName.{PageName}
use Rattle.machine_names.specs.declared.names.Slot.{Slot}
use Rattle.machine_names.specs.declared.names.Kind.{Kind}
use Rattle.plain_pages.specs.declared.map.MapEntry.{MapEntry}
use Rattle.plain_pages.specs.declared.map.MapEntry.TheVariants as entry
use Rattle.plain_model.specs.declared.fork.Fork.{Fork}
use Rattle.script_texts.specs.declared.status.ForkStatus.{ForkStatus}
use Rattle.script_texts.specs.declared.status.ForkStatus.TheVariants.{Forced}
use Rattle.plain_model.specs.State.{PlainState}
use Rattle.plain_pages.specs.PlainPages.{NamedPages, Maps}
use Rattle.machine_names.specs.Orders.{FilePage, name_cmp}
use Rattle.plain_pages.specs.Maps.{entry_at, set_entry, narrow}
use Rattle.plain_pages.specs.Room.{page_in, uses}
use Rattle.plain_pages.specs.References.{Spot, drop_unnamed, granted, in_file, in_map, page_at, reference, slot_at, with_entry, with_changed}
use Rattle.plain_pages.specs.FilePages.{with_file}
use Rattle.plain_pages.proofs.FilesKept.{filed_maps}
use Rattle.plain_model.specs.declared.call.InterruptChange.{InterruptChange}
use Rattle.plain_model.specs.declared.interrupt.Delivery.{Delivery}
use Rattle.plain_model.specs.Inspections.{inspected, interrupted_word}
use Rattle.plain_model.specs.Forks.{ForkMap, with_regs, with_status}
use Rattle.plain_model.specs.Interrupts.{posted}
use Rattle.plain_units.specs.Instructions.{instruction}
use Rattle.plain_units.specs.declared.registers.Regs.{Regs}
use Rattle.plain_units.specs.Blocks.{steps_on}
use Rattle.plain_units.specs.Steps.{Steps, Planned, Ending, done, call, trap, need, stopped as unit_stopped, begun, is_accumulator, pages_left, put_into}
use Rattle.plain_model.specs.Calls.{Asked, Turn, fork_behind, numbered, parts_behind, out_of, posted_if}
use Rattle.plain_model.specs.MapCalls.{entry_for, map_call, map_changed}
use Rattle.plain_model.specs.ByteCalls.{byte_calls, ByteAsked, ByteTurn}
use Rattle.plain_model.specs.StringCalls.{string_calls}
use Rattle.plain_model.specs.Families.{Parts, asks, asks_bytes, asks_jfns, asks_maps, names_seen}
use Rattle.plain_model.proofs.JfnChanges.{left_maps}
use Rattle.plain_model.proofs.JfnEnds.{call_ends}
use Rattle.machine_names.proofs.OrderLemmas.{name_cmp_apart}
use Rattle.plain_model.specs.Unit.{Effect, unit_ended, called, went, over, unit, unit_of, parts_of, taken_up}
use Rattle.plain_units.specs.Units.{unit_on}
use Rattle.plain_laws.specs.Whole.{IsWholeMachine}
use Rattle.plain_laws.proofs.FileMakings.{file_leaves}
use Rattle.plain_laws.proofs.ByteEnds.{FitsByte, bytes_left_maps}
use Rattle.plain_laws.proofs.WholeBytes.{RowsFit, bytes_fit, strings_fit}
use Rattle.plain_laws.proofs.WholeMaps.{There}
use Rattle.plain_laws.proofs.MapEnds.{ChangeIn, EndIn, SpotIn, came_in, map_call_in}
use Rattle.plain_units.proofs.Lookups.{looked_up}
use Rattle.plain_units.proofs.PageRuns.{PlanLeaves, stored_maps}
use Rattle.plain_laws.proofs.Inspected.{inspected_keeps, unit_by}
use Rattle.plain_laws.proofs.ClockTurns.{clock_by}
use Rattle.plain_laws.proofs.InterruptEnds.{interrupt_ends}
use Rattle.plain_laws.proofs.UnitForks.{KeptBy, ended_pages, fork_kept, unit_kept}
use Rattle.plain_laws.proofs.OtherMaps.{InJob, Elsewhere, reference_other, set_other, run_other}
use Rattle.plain_laws.proofs.OtherJobs.{Stays, put_stays, told_stays, maps_same, call_stays}
use Rattle.plain_model.proofs.Calling.{clock_called, clock_came, clock_turned, fork_came, fork_left, fork_called, fork_turned, interrupt_came, interrupt_called, interrupt_left, interrupt_turned, interrupts_behind, pages_after, map_came, map_pages, map_turned, own_came, own_turned, none_turned, filed_of, jfn_came, jfn_left, jfn_called, jfn_turned, byte_came, byte_left, byte_called, byte_turned, MakesNone, caller_by, called_by, map_by, jfn_by, byte_by, own_by}
use Rattle.plain_units.specs.declared.channel.TheConstants.{ILLEGAL_INSTRUCTION}

-- what a change of a slot leaves of a map of another job
module _ (t : Tty) (k : ForkName) (other : k.tty.0 ≡ t.0 → ⊥) (p : NamedPages) where
  entry_other : (s : Slot) (e : MapEntry) → InJob t s → Elsewhere t k other p (with_entry p s e)
  unfolding with_entry
  entry_other s e here = by (option_and_then page_in (entry_at p.maps s)) ∙ set_other t k other p.maps s e here
    where
      q : NamedPages
      q = record p { maps = set_entry p.maps s e }

      dropped : (n : PageName) (b : Bool) → map.get (cond b (record q { objects = map.remove q.objects n }) q).maps k ≡ map.get (set_entry p.maps s e) k
      dropped n true = refl
      dropped n false = refl

      by : (n : Option PageName) → map.get (option_map_or (drop_unnamed q) n q).maps k ≡ map.get (set_entry p.maps s e) k
      by None = refl
      by (Some n) = dropped n (uses q n == 0)

  changed_other : (s : Slot) (change : MapEntry → MapEntry) → InJob t s → Elsewhere t k other p (with_changed p s change)
  changed_other s change here = by (entry_at p.maps s)
    where
      by : (o : Option MapEntry) → Elsewhere t k other p (option_map_or (λ e. with_entry p s (change e)) o p)
      by None = refl
      by (Some e) = entry_other s (change e) here

-- and what steps of a fork of its own leave of one
runs_other : (t : Tty) (k : ForkName) (other : k.tty.0 ≡ t.0 → ⊥) (p q : NamedPages) (f : ForkName) (regs : Regs) (steps : Steps) → f.tty ≡ t → Elsewhere t k other p q → PlanLeaves (λ r. Elsewhere t k other p r) f (steps_on f regs steps q)
runs_other t k other p q f regs steps same h = run_other t k other nat_list_cmp_total f (ap (λ (u : Tty). u.0) same) p steps (begun q regs.ac) h

-- what the turn of a call on maps leaves of one
module _ (t : Tty) (k : ForkName) (other : k.tty.0 ≡ t.0 → ⊥) (p : NamedPages) (forks : ForkMap) where
  abbrev AnyFile : List ℕ → Type 0
  AnyFile name = Unit {0}

  -- its references
  refers_other : (There : List ℕ → Type 0) (q r : NamedPages) (at : Spot (List ℕ)) (kind : Kind) → SpotIn forks t There at → Elsewhere t k other p q → reference q at kind t ≡ granted r → Elsewhere t k other p r
  refers_other There q r (in_map at) kind here h g = reference_other t k other nat_list_cmp_total t q r at kind here.1 g ∙ h
  refers_other There q r (in_file f) kind here h g = let l = file_leaves q r t f kind g in ap (λ (m : Maps). map.get m k) l.maps ∙ h

  filed_other : (q : NamedPages) (f : FilePage (List ℕ)) (n : Option PageName) → Elsewhere t k other q (with_file q f n)
  filed_other q f n = ap (λ (m : Maps). map.get m k) (filed_maps nat_list_cmp_total name_cmp_apart q f n)

  -- and its change
  change_other : (q : NamedPages) (what : MapChange) → ChangeIn forks t AnyFile what → Elsewhere t k other q (map_changed (λ name. name) what q)
  unfolding map_changed
  change_other q Nothing here = refl
  change_other q (Unmap s) here = changed_other t k other q s (λ e. entry.Empty) here.1
  change_other q (Follow s from a) here = changed_other t k other q s (λ e. entry.Follows from.fork.serial from.page a) here.0.1
  change_other q (Narrow s a) here = changed_other t k other q s (narrow a) here.1
  change_other q (Map s name page a) here = changed_other t k other q s (λ e. entry_for a e (map.get q.files (record { file = name; page = page }))) here.1
  change_other q (Put name page s) here = filed_other q (record { file = name; page = page }) (page_at q (in_map s))
  change_other q (Drop name page) here = filed_other q (record { file = name; page = page }) None

  turn_other : (q : NamedPages) → Elsewhere t k other p q → (e : End MapChange) → EndIn forks t AnyFile e → Elsewhere t k other p (parts_behind (map_changed (λ name. name)) p q e)
  unfolding parts_behind
  turn_other q h (Done what regs out post) here = change_other q what here ∙ h
  turn_other q h (Waits on) here = refl
  turn_other q h Halts here = refl
  turn_other q h (Refused code) here = refl
  turn_other q h (Failed code) here = refl
  turn_other q h (Trap channel) here = refl

-- a unit of a fork
module _ (s : PlainState) (w : IsWholeMachine s) (name : ForkName) (f : Fork) (there : map.get s.forks name ≡ Some f) (k : ForkName) (other : k.tty.0 ≡ f.name.tty.0 → ⊥) where
  abbrev Holds : ForkMap → Type 0
  Holds m = Stays f.name.tty k other (map.get s.forks k) m

  abbrev Good : Fork → Type 0
  Good g = g.name.tty.0 ≡ f.name.tty.0

  by_job : KeptBy f.name.tty Holds Good
  by_job = record {
    own = λ m h. h.own;
    found = λ m h q g here is. ap (λ (n : ForkName). n.tty.0) (h.own q g is) ∙ here;
    same = λ g h is good. ap (λ (n : ForkName). n.tty.0) is.0 ∙ good;
    put = λ m h g good. put_stays f.name.tty k other (map.get s.forks k) m h g good;
    told = λ m h g good. told_stays f.name.tty k other (map.get s.forks k) m h g good;
  }

  at_first : Holds s.forks
  at_first = record { own = w.tree.slotted.own; stays = refl }

  forks_left : Holds (unit_of s f).state.forks
  forks_left = unit_kept f.name.tty Holds Good by_job s at_first f refl refl (λ number. fork_kept f.name.tty Holds Good by_job s at_first f refl refl number (call_stays s w f number k other))

  -- its maps
  abbrev MapsLeft : Effect → Type 0
  MapsLeft e = map.get e.state.pages.maps k ≡ map.get s.pages.maps k

  ended_maps : (u : PlainState) → map.get u.pages.maps k ≡ map.get s.pages.maps k → (g : Fork) (status : ForkStatus) → MapsLeft (unit_ended u g status)
  ended_maps u h g status = ap (λ (p : NamedPages). map.get p.maps k) (ended_pages u g status) ∙ h

  went_maps : (q : NamedPages) (e : Ending) → map.get q.maps k ≡ map.get s.pages.maps k → MapsLeft (went s f q e)
  went_maps q e h = let g = posted_if (with_regs f e.regs) e.post in ended_maps (record s { pages = q }) h g g.body.status

  map_maps : (number : ℕ) → MapsLeft (map_turned s f number)
  map_maps number =
      let e = (map_came s f number).end in
      let a = asks_maps (parts_of s) f.name f.body.regs in
      let came = came_in s.forks f.name.tty (λ name. Unit {0}) (ChangeIn s.forks f.name.tty (λ name. Unit {0})) (parts_of s) f.name (Elsewhere f.name.tty k other s.pages) (refers_other f.name.tty k other s.pages s.forks (λ name. Unit {0})) (runs_other f.name.tty k other s.pages) (map_call number a)
      (map_call_in a w.tree.slotted.own (λ name. Unit {0}) (λ n j held. tt) number) s.pages refl in
      let here = turn_other f.name.tty k other s.pages s.forks (map_came s f number).pages came.1 e came.0 in
      map_by MapsLeft s f number (λ g is. let h = fork_behind g e in ended_maps (record s { pages = map_pages s f number }) here h h.body.status) here

  fork_maps : (number : ℕ) → MapsLeft (fork_turned s f number)
  fork_maps number =
      let e = (fork_came s f number).end in
      let here = maps_same s w f number k other in
      caller_by MapsLeft s f.name.tty (fork_left s f number) f.name (λ g. fork_behind g e) (out_of e) (λ g is. let h = fork_behind g e in ended_maps (fork_called s f number) here h h.body.status) here

  own_maps : (t : Turn ⊥ (Unit {0})) → MakesNone s.pages t → MapsLeft (own_turned s f t)
  own_maps t makes = own_by MapsLeft s f t makes (λ g is. let h = fork_behind g (own_came s t).end in ended_maps s refl h h.body.status) refl

  jfn_maps : (number : ℕ) → MapsLeft (jfn_turned s f number)
  jfn_maps number =
      let a = asks_jfns (parts_of s) f.name f.body.regs in let sight = names_seen (parts_of s) f.name in let c = jfn_came s f number in
      let fits = call_ends a sight (λ (q : NamedPages). Elsewhere f.name.tty k other s.pages q) (λ q h steps. run_other f.name.tty k other nat_list_cmp_total f.name refl s.pages steps (begun q f.body.regs.ac) h) s.pages refl number in
      let here : map.get (jfn_left s f number).pages.maps k ≡ map.get s.pages.maps k =
      left_maps nat_list_cmp_total name_cmp_apart (λ name. name) a sight (λ (m : Maps). map.get m k ≡ map.get s.pages.maps k) (filed_of (parts_of s)) c.pages c.end refl fits in
      jfn_by MapsLeft s f number (λ g is. let h = fork_behind g c.end in ended_maps (jfn_called s f number) here h h.body.status) here

  byte_maps : (rows : List (ℕ × (ByteAsked → ByteTurn))) → RowsFit s w f rows → (number : ℕ) → MapsLeft (byte_turned s f rows number)
  byte_maps rows fit number =
      let c = byte_came s f rows number in
      let a = asks_bytes (λ name. name) (parts_of s) f.name f.body.regs in
      let came = came_in s.forks f.name.tty (There s w) (FitsByte a) (parts_of s) f.name (Elsewhere f.name.tty k other s.pages) (refers_other f.name.tty k other s.pages s.forks (There s w)) (runs_other f.name.tty k other s.pages)
      (numbered rows number a) (fit number) s.pages refl in
      let here : map.get (byte_left s f rows number).pages.maps k ≡ map.get s.pages.maps k =
      bytes_left_maps (λ (m : Maps). map.get m k ≡ map.get s.pages.maps k) (filed_of (parts_of s)) c.pages c.end refl came.1 in
      byte_by MapsLeft s f number rows (λ g is. let h = fork_behind g c.end in ended_maps (byte_called s f rows number) here h h.body.status) here

  -- the pages that a turn made whose steps are those of its fork
  steps_other : (q : NamedPages) → Elsewhere f.name.tty k other s.pages q → (steps : Steps) → PlanLeaves (λ r. Elsewhere f.name.tty k other s.pages r) f.name (steps_on f.name f.body.regs steps q)
  steps_other q h steps = run_other f.name.tty k other nat_list_cmp_total f.name refl s.pages steps (begun q f.body.regs.ac) h

  interrupt_maps : (number : ℕ) → MapsLeft (interrupt_turned s f number)
  interrupt_maps number =
      let e = (interrupt_came s f number).end in
      caller_by MapsLeft s f.name.tty (interrupt_left s f number) f.name (λ g. fork_behind g e) (out_of e) (λ g is. let h = fork_behind g e in ended_maps (interrupt_called s f number) here h h.body.status) here
    where
      a : Asked
      a = asks (parts_of s) f.name f.body.regs

      q : NamedPages
      q = (interrupt_came s f number).pages

      by : (e : End InterruptChange) → Elsewhere f.name.tty k other s.pages q → map.get (pages_after s.pages q e).maps k ≡ map.get s.pages.maps k
      by (Done change regs out post) h = h
      by (Waits on) h = refl
      by Halts h = refl
      by (Refused code) h = refl
      by (Failed code) h = refl
      by (Trap channel) h = refl

      here : map.get (interrupt_called s f number).pages.maps k ≡ map.get s.pages.maps k
      here =
          let both = interrupt_ends a w.tree.slotted.own (λ r. Elsewhere f.name.tty k other s.pages r) steps_other s.pages refl number in
          ap (λ (v : Parts name_cmp). map.get v.pages.maps k) (interrupts_behind (parts_of s) q (interrupt_came s f number).end) ∙ by (interrupt_came s f number).end both.1

  clock_maps : (number : ℕ) → MapsLeft (clock_turned s f number)
  clock_maps number = let e = (clock_came s f number).end in clock_by MapsLeft s f number (λ g is. let h = fork_behind g e in ended_maps (clock_called s f number) refl h h.body.status) refl

  none_maps : MapsLeft (none_turned s f)
  none_maps = caller_by MapsLeft s f.name.tty (parts_of s) f.name (λ g. posted g ILLEGAL_INSTRUCTION) None (λ g is. let h = posted g ILLEGAL_INSTRUCTION in ended_maps s refl h h.body.status) refl

  called_maps : (number : ℕ) → MapsLeft (called s f number)
  called_maps number = called_by MapsLeft s f number own_maps (fork_maps number) (interrupt_maps number) (clock_maps number) (map_maps number) (jfn_maps number) (byte_maps byte_calls (bytes_fit s w f) number) (byte_maps string_calls (strings_fit s w f) number) none_maps

  maps_left : (r : Planned name_cmp ⊥) → PlanLeaves (λ q. Elsewhere f.name.tty k other s.pages q) f.name r → MapsLeft (over s f r)
  maps_left (done t e) left = went_maps (pages_left f.name t e) e left
  maps_left (unit_stopped (trap channel)) left = ended_maps s refl (posted f channel) (posted f channel).body.status
  maps_left (unit_stopped (need none)) left = absurd none
  maps_left (call number) left = called_maps number

  -- where a channel is delivered its PC word is stored in the fork's own space
  taken_maps : (d : Delivery) → MapsLeft (taken_up s (inspected f s.pages).pages f d)
  taken_maps d =
      let q = (inspected f s.pages).pages in
      cond_both (is_accumulator d.at) None (Some (record { at = d.at; word = interrupted_word f.body.regs })) (λ put. map.get (put_into f.name q put).maps k ≡ map.get s.pages.maps k) (λ low. found)
      (λ high. ap (λ (m : Maps). map.get m k) (stored_maps q (in_map (slot_at f.name d.at)) (d.at % PAGE_WORDS) (interrupted_word f.body.regs)) ∙ found)
    where
      found : map.get (inspected f s.pages).pages.maps k ≡ map.get s.pages.maps k
      found = inspected_keeps f (λ q. Elsewhere f.name.tty k other s.pages q) steps_other s.pages refl

  unit_left : MapsLeft (unit_of s f)
  unit_left = unit_by MapsLeft s f (λ is. maps_left (unit_on f.name s.pages f.body.regs) (steps_other s.pages refl (instruction f.body.regs))) (λ d is. taken_maps d) (λ channel is. ended_maps s refl (with_status f (Forced channel)) (Forced channel))

module _ (s : PlainState) (w : IsWholeMachine s) (who k : ForkName) (other : k.tty.0 ≡ who.tty.0 → ⊥) where
  apart : (f : Fork) → map.get s.forks who ≡ Some f → k.tty.0 ≡ f.name.tty.0 → ⊥
  apart f is e = other (e ∙ ap (λ (n : ForkName). n.tty.0) (w.tree.slotted.own who f is))

  pub unit_forks : map.get (unit s who).state.forks k ≡ map.get s.forks k
  unfolding unit
  unit_forks = looked_up (λ (e : Effect). map.get e.state.forks k ≡ map.get s.forks k) _ _ (map.get s.forks who)
      (λ f is. let l = forks_left s w who f is k (apart f is) in l.stays) (λ none. refl)

  pub unit_maps : map.get (unit s who).state.pages.maps k ≡ map.get s.pages.maps k
  unfolding unit
  unit_maps = looked_up (λ (e : Effect). map.get e.state.pages.maps k ≡ map.get s.pages.maps k) _ _ (map.get s.forks who)
      (λ f is. unit_left s w who f is k (apart f is)) (λ none. refl)
