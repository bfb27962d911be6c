-- A turn of a call in the whole state, by its family: what it leaves with the fork that called.
use Rattle.std.proofs.Common.{◌≡◌, ℕ, List, Option, None, Some, Result, Ok, Err, refl, sym, ◌∙◌, ap, subst, Ordering}
use Rattle.std.specs.Prelude.{◌==◌, ◌%◌, ◌^◌, slice_index}
use Rattle.std.specs.Option.{option_map}
use Rattle.std.specs.FinMap as map
use Rattle.plain_model.specs.declared.call.TheConstants.{DISMS, GETER, PBOUT, RUNTM, TIME}
use Rattle.plain_units.specs.declared.channel.TheConstants.{ILLEGAL_INSTRUCTION}
use Rattle.plain_model.specs.declared.call.End.{End}
use Rattle.plain_model.specs.declared.call.End.TheVariants.{Done, Waits, Halts, Refused, Failed, Trap}
use Rattle.plain_model.specs.declared.call.ForkChange.{ForkChange}
use Rattle.plain_model.specs.declared.call.InterruptChange.{InterruptChange}
use Rattle.plain_model.specs.declared.call.SleepChange.{SleepChange}
use Rattle.plain_model.specs.declared.call.SleepChange.TheVariants.{Nothing}
use Rattle.plain_units.specs.Deeds.{in_ac}
use Rattle.plain_model.specs.declared.call.MapChange.{MapChange}
use Rattle.plain_model.specs.declared.call.FileChange.{FileChange}
use Rattle.plain_model.specs.declared.call.ByteChange.{ByteChange}
use Rattle.machine_names.specs.declared.names.Tty.{Tty}
use Rattle.machine_names.specs.declared.names.ForkName.{ForkName}
use Rattle.plain_model.specs.declared.fork.Fork.{Fork}
use Rattle.plain_units.specs.declared.registers.Regs.{Regs}
use Rattle.plain_pages.specs.PlainPages.{PlainPages, NamedPages}
use Rattle.plain_model.specs.Forks.{ForkMap}
use Rattle.plain_model.specs.State.{PlainState}
use Rattle.machine_names.specs.Orders.{name_cmp}
use Rattle.plain_model.specs.Interrupts.{posted}
use Rattle.plain_model.specs.Calls.{Turn, ends, with_ac, no_files, Came, turn_on, given, numbered, returning, is_among, fork_behind, out_of, parts_behind, Asked, behind_call}
use Rattle.plain_model.specs.MapCalls.{map_calls, map_changed}
use Rattle.plain_model.specs.FileCalls.{FileParts, Jobs, file_call, file_calls, file_changed, geter, jfn_calls}
use Rattle.plain_model.specs.ForkCalls.{own_named, fork_calls, fork_changed}
use Rattle.plain_model.specs.ByteCalls.{byte_calls, byte_changed, ByteAsked, ByteTurn}
use Rattle.plain_model.specs.StringCalls.{string_calls}
use Rattle.plain_model.specs.InterruptCalls.{interrupt_calls, interrupt_changed}
use Rattle.plain_model.specs.ClockCalls.{ClockAsked, clock_calls, clock_changed, disms, runtm, sleep_of, sleeping, time}
use Rattle.plain_model.specs.Trees.{PlainTree, tree_of}
use Rattle.plain_model.specs.Families.{Parts, behind, asks, bytes_changed, codes_behind, print_calls, forks_changed, interrupts_changed, jfns_changed}
use Rattle.plain_model.specs.Unit.{Effect, parts_of, with_parts, turned, called}
use Rattle.std.proofs.lemmas.Bool.{cond_both}
use Rattle.plain_model.specs.EachFamily.{came_of, forking, interrupting, timing, mapping, opening, on_bytes, own_changed, sleeps_changed, pages_changed}

-- a turn of a fork call as it comes out, what it leaves but for the fork that called, and what it leaves
abbrev pub fork_came : PlainState → Fork → ℕ → Came name_cmp ForkChange
fork_came s f number = came_of forking (parts_of s) f.name f.body.regs number

abbrev pub fork_left : PlainState → Fork → ℕ → Parts name_cmp
fork_left s f number = let c = fork_came s f number in parts_behind forks_changed (parts_of s) (record (parts_of s) { pages = c.pages }) c.end

abbrev pub fork_called : PlainState → Fork → ℕ → PlainState
fork_called s f number = with_parts s (fork_left s f number)

abbrev pub fork_turned : PlainState → Fork → ℕ → Effect
fork_turned s f number = turned s f.name.tty (behind forks_changed (parts_of s) f.name (fork_came s f number))

-- so of a call on pseudo-interrupts
abbrev pub interrupt_came : PlainState → Fork → ℕ → Came name_cmp InterruptChange
interrupt_came s f number = came_of interrupting (parts_of s) f.name f.body.regs number

abbrev pub interrupt_left : PlainState → Fork → ℕ → Parts name_cmp
interrupt_left s f number = let c = interrupt_came s f number in parts_behind interrupts_changed (parts_of s) (record (parts_of s) { pages = c.pages }) c.end

abbrev pub interrupt_called : PlainState → Fork → ℕ → PlainState
interrupt_called s f number = with_parts s (interrupt_left s f number)

abbrev pub interrupt_turned : PlainState → Fork → ℕ → Effect
interrupt_turned s f number = turned s f.name.tty (behind interrupts_changed (parts_of s) f.name (interrupt_came s f number))

-- so of a call on the clock, which changes forks alone
abbrev pub clock_came : PlainState → Fork → ℕ → Came name_cmp SleepChange
clock_came s f number = came_of timing (parts_of s) f.name f.body.regs number

abbrev pub clock_left : PlainState → Fork → ℕ → PlainTree
clock_left s f number = parts_behind clock_changed (tree_of s) (tree_of s) (clock_came s f number).end

abbrev pub clock_called : PlainState → Fork → ℕ → PlainState
clock_called s f number = with_parts s (record (parts_of s) { tree = clock_left s f number })

abbrev pub clock_turned : PlainState → Fork → ℕ → Effect
clock_turned s f number = turned s f.name.tty (behind sleeps_changed (parts_of s) f.name (clock_came s f number))

-- so of a call on maps
abbrev pub map_came : PlainState → Fork → ℕ → Came name_cmp MapChange
map_came s f number = came_of (mapping (λ name. name)) (parts_of s) f.name f.body.regs number

abbrev pub map_pages : PlainState → Fork → ℕ → NamedPages
map_pages s f number = let c = map_came s f number in parts_behind (map_changed (λ name. name)) s.pages c.pages c.end

abbrev pub map_turned : PlainState → Fork → ℕ → Effect
map_turned s f number = turned s f.name.tty (behind (pages_changed (λ name. name)) (parts_of s) f.name (map_came s f number))

-- so of a call on JFNs, which changes pages, files and jobs
abbrev pub jfn_came : PlainState → Fork → ℕ → Came name_cmp FileChange
jfn_came s f number = came_of (opening (λ name. name)) (parts_of s) f.name f.body.regs number

abbrev pub filed_of : {K : Type 0} {file_cmp : K → K → Ordering} → Parts file_cmp → FileParts file_cmp
filed_of v = record { pages = v.pages; files = v.files; jobs = v.jobs }

abbrev pub with_filed : {K : Type 0} {file_cmp : K → K → Ordering} → Parts file_cmp → FileParts file_cmp → Parts file_cmp
with_filed v part = record v { pages = part.pages; files = part.files; jobs = part.jobs }

abbrev pub jfn_left : PlainState → Fork → ℕ → FileParts name_cmp
jfn_left s f number = let c = jfn_came s f number in let old = filed_of (parts_of s) in parts_behind (file_changed (λ name. name)) old (record old { pages = c.pages }) c.end

abbrev pub jfn_called : PlainState → Fork → ℕ → PlainState
jfn_called s f number = with_parts s (with_filed (parts_of s) (jfn_left s f number))

abbrev pub jfn_turned : PlainState → Fork → ℕ → Effect
jfn_turned s f number = turned s f.name.tty (behind (jfns_changed (λ name. name)) (parts_of s) f.name (jfn_came s f number))

-- so of a call on bytes, or on strings of them, which changes these too
abbrev pub byte_came : PlainState → Fork → (List (ℕ × (ByteAsked → ByteTurn))) → ℕ → Came name_cmp ByteChange
byte_came s f rows number = came_of (on_bytes (λ name. name) rows) (parts_of s) f.name f.body.regs number

abbrev pub byte_left : PlainState → Fork → (List (ℕ × (ByteAsked → ByteTurn))) → ℕ → FileParts name_cmp
byte_left s f rows number = let c = byte_came s f rows number in let old = filed_of (parts_of s) in parts_behind (byte_changed (λ name. name)) old (record old { pages = c.pages }) c.end

abbrev pub byte_called : PlainState → Fork → (List (ℕ × (ByteAsked → ByteTurn))) → ℕ → PlainState
byte_called s f rows number = with_parts s (with_filed (parts_of s) (byte_left s f rows number))

abbrev pub byte_turned : PlainState → Fork → (List (ℕ × (ByteAsked → ByteTurn))) → ℕ → Effect
byte_turned s f rows number = turned s f.name.tty (behind (bytes_changed (λ name. name)) (parts_of s) f.name (byte_came s f rows number))

-- and of a turn that changes the fork that called alone
abbrev pub own_came : PlainState → Turn ⊥ (Unit {0}) → Came name_cmp (Unit {0})
own_came s t = turn_on no_files s.pages t

abbrev pub own_turned : PlainState → Fork → Turn ⊥ (Unit {0}) → Effect
own_turned s f t = turned s f.name.tty (behind own_changed (parts_of s) f.name (own_came s t))

-- a number that is no call
abbrev pub none_turned : PlainState → Fork → Effect
none_turned s f = turned s f.name.tty (record { parts = parts_of s; caller = option_map (λ g. posted g ILLEGAL_INSTRUCTION) (map.get s.forks f.name); out = None })

-- the jobs behind a turn of a fork call
abbrev pub jobs_behind : End ForkChange → ForkMap → Jobs → Jobs
jobs_behind (Done change regs out post) forks jobs = codes_behind change forks jobs
jobs_behind e forks jobs = jobs

-- the pages behind a turn that changes none of them: those that it made, where it is done
abbrev pub pages_after : {C : Type 0} {K : Type 0} {file_cmp : K → K → Ordering} → PlainPages file_cmp → PlainPages file_cmp → End C → PlainPages file_cmp
pages_after p q (Done change regs out post) = q
pages_after p q e = p

module _ (Holds : Effect → Type 0) (s : PlainState) where
  -- the fork that called is put among the forks that the turn leaves
  pub caller_by : (t : Tty) (left : Parts name_cmp) (who : ForkName) (change : Fork → Fork) (out : Option ℕ)
      → ((g : Fork) → map.get left.tree.forks who ≡ Some g → Holds (turned s t (record { parts = left; caller = Some (change g); out = out })))
      → Holds (turned s t (record { parts = left; caller = None; out = out }))
      → Holds (turned s t (record { parts = left; caller = option_map change (map.get left.tree.forks who); out = out }))
  caller_by t left who change out some none = by (map.get left.tree.forks who) refl
    where
      by : (o : Option Fork) → map.get left.tree.forks who ≡ o → Holds (turned s t (record { parts = left; caller = option_map change o; out = out }))
      by None is = none
      by (Some g) is = some g is

module _ {K : Type 0} {file_cmp : K → K → Ordering} where
  -- a change of pages alone
  pub pages_behind : (key_of : List ℕ → K) (v : Parts file_cmp) (q : PlainPages file_cmp) (e : End MapChange) → parts_behind (pages_changed key_of) v (record v { pages = q }) e ≡ record v { pages = parts_behind (map_changed key_of) v.pages q e }
  unfolding parts_behind
  pages_behind key_of v q (Done change regs out post) = refl
  pages_behind key_of v q (Waits on) = refl
  pages_behind key_of v q Halts = refl
  pages_behind key_of v q (Refused code) = refl
  pages_behind key_of v q (Failed code) = refl
  pages_behind key_of v q (Trap channel) = refl

  -- a change of forks, pages and codes
  pub forks_behind : (v : Parts file_cmp) (q : PlainPages file_cmp) (e : End ForkChange)
      → parts_behind forks_changed v (record v { pages = q }) e
      ≡ (let part = parts_behind fork_changed (record { tree = v.tree; pages = v.pages }) (record { tree = v.tree; pages = q }) e in
      record v { tree = part.tree; pages = part.pages; jobs = jobs_behind e part.tree.forks v.jobs })
  unfolding parts_behind
  forks_behind v q (Done change regs out post) = refl
  forks_behind v q (Waits on) = refl
  forks_behind v q Halts = refl
  forks_behind v q (Refused code) = refl
  forks_behind v q (Failed code) = refl
  forks_behind v q (Trap channel) = refl

  -- a change of forks and codes, on the pages that the turn made
  pub interrupts_behind : (v : Parts file_cmp) (q : PlainPages file_cmp) (e : End InterruptChange)
      → parts_behind interrupts_changed v (record v { pages = q }) e
      ≡ (let part = parts_behind interrupt_changed (record { tree = v.tree; jobs = v.jobs }) (record { tree = v.tree; jobs = v.jobs }) e in
      record v { tree = part.tree; pages = pages_after v.pages q e; jobs = part.jobs })
  unfolding parts_behind
  interrupts_behind v q (Done change regs out post) = refl
  interrupts_behind v q (Waits on) = refl
  interrupts_behind v q Halts = refl
  interrupts_behind v q (Refused code) = refl
  interrupts_behind v q (Failed code) = refl
  interrupts_behind v q (Trap channel) = refl

  -- a change of forks alone, behind a turn that makes no page
  pub sleeps_behind : (v : Parts file_cmp) (e : End SleepChange) → parts_behind sleeps_changed v v e ≡ record v { tree = parts_behind clock_changed v.tree v.tree e }
  unfolding parts_behind
  sleeps_behind v (Done change regs out post) = refl
  sleeps_behind v (Waits on) = refl
  sleeps_behind v Halts = refl
  sleeps_behind v (Refused code) = refl
  sleeps_behind v (Failed code) = refl
  sleeps_behind v (Trap channel) = refl

  -- a change of pages, files and jobs
  pub jfns_behind : (key_of : List ℕ → K) (v : Parts file_cmp) (q : PlainPages file_cmp) (e : End FileChange)
      → parts_behind (jfns_changed key_of) v (record v { pages = q }) e ≡ with_filed v (parts_behind (file_changed key_of) (filed_of v) (record (filed_of v) { pages = q }) e)
  unfolding parts_behind
  jfns_behind key_of v q (Done change regs out post) = refl
  jfns_behind key_of v q (Waits on) = refl
  jfns_behind key_of v q Halts = refl
  jfns_behind key_of v q (Refused code) = refl
  jfns_behind key_of v q (Failed code) = refl
  jfns_behind key_of v q (Trap channel) = refl

  pub bytes_behind : (key_of : List ℕ → K) (v : Parts file_cmp) (q : PlainPages file_cmp) (e : End ByteChange)
      → parts_behind (bytes_changed key_of) v (record v { pages = q }) e ≡ with_filed v (parts_behind (byte_changed key_of) (filed_of v) (record (filed_of v) { pages = q }) e)
  unfolding parts_behind
  bytes_behind key_of v q (Done change regs out post) = refl
  bytes_behind key_of v q (Waits on) = refl
  bytes_behind key_of v q Halts = refl
  bytes_behind key_of v q (Refused code) = refl
  bytes_behind key_of v q (Failed code) = refl
  bytes_behind key_of v q (Trap channel) = refl

  -- no change
  pub nothing_behind : (v : Parts file_cmp) (e : End (Unit {0})) → parts_behind own_changed v v e ≡ v
  unfolding parts_behind
  nothing_behind v (Done change regs out post) = refl
  nothing_behind v (Waits on) = refl
  nothing_behind v Halts = refl
  nothing_behind v (Refused code) = refl
  nothing_behind v (Failed code) = refl
  nothing_behind v (Trap channel) = refl

  module _ (p : PlainPages file_cmp) where
    -- a turn makes no page
    abbrev pub MakesNone : {C : Type 0} → Turn ⊥ C → Type 0
    MakesNone t = (turn_on no_files p t).pages ≡ p

    given_none : {A C : Type 0} (r : Result A ℕ) (next : A → Turn ⊥ C) → ((x : A) → MakesNone (next x)) → MakesNone (given r next)
    unfolding turn_on
    given_none (Err code) next goes = refl
    given_none (Ok x) next goes = goes x

    -- a call that prints makes none
    pub print_makes_none : (number : ℕ) (regs : Regs) → MakesNone (numbered print_calls number regs)
    unfolding turn_on
    print_makes_none number regs = cond_both (PBOUT == number) (ends (Done tt (behind_call regs) (Some (slice_index regs.ac 1 % 128)) None)) _ MakesNone (λ is. refl) (λ n. refl)

    -- nor one on files
    pub file_makes_none : (number : ℕ) (a : Asked) → MakesNone (file_call number a)
    unfolding turn_on
    file_makes_none number a = cond_both (GETER == number) (geter a) _ MakesNone (λ is. given_none (own_named a) (λ g. ends (returning tt (with_ac a.regs 2 g.body.error))) (λ g. refl)) (λ n. refl)

    -- nor one on the clock
    pub clock_makes_none : (number : ℕ) (a : ClockAsked) → MakesNone (numbered clock_calls number a)
    unfolding turn_on
    clock_makes_none number a =
        cond_both (TIME == number) (time a) _ MakesNone (λ is. refl) (λ n1.
        cond_both (RUNTM == number) (runtm a) _ MakesNone (λ is. given_none (own_named a.call) (λ g. ends (returning Nothing (with_ac a.call.regs 1 (g.body.units % 2 ^ 36)))) (λ g. refl)) (λ n2.
        cond_both (DISMS == number) (disms a) _ MakesNone
        (λ is. cond_both (in_ac a.call.regs 1 == 0) (ends (returning Nothing a.call.regs)) (ends (sleeping a (sleep_of a.call))) MakesNone (λ none. refl) (λ some. refl)) (λ n3. refl)))

module _ (Holds : Effect → Type 0) (s : PlainState) (f : Fork) where
  -- a call is one of a family, or none; each turn that changes the fork that called alone is looked at in one way
  pub called_by : (number : ℕ) → ((t : Turn ⊥ (Unit {0})) → MakesNone s.pages t → Holds (own_turned s f t)) → Holds (fork_turned s f number) → Holds (interrupt_turned s f number) → Holds (clock_turned s f number) → Holds (map_turned s f number) → Holds (jfn_turned s f number) → Holds (byte_turned s f byte_calls number) → Holds (byte_turned s f string_calls number) → Holds (none_turned s f)
      → Holds (called s f number)
  called_by number own forks interrupts clocks maps jfns bytes_of strings_of none =
      cond_both (is_among print_calls number) _ _ (λ r. Holds (turned s f.name.tty r)) (λ is. own (numbered print_calls number f.body.regs) (print_makes_none s.pages number f.body.regs)) (λ n1.
      cond_both (is_among fork_calls number) _ _ (λ r. Holds (turned s f.name.tty r)) (λ is. forks) (λ n2.
      cond_both (is_among interrupt_calls number) _ _ (λ r. Holds (turned s f.name.tty r)) (λ is. interrupts) (λ n8.
      cond_both (is_among clock_calls number) _ _ (λ r. Holds (turned s f.name.tty r)) (λ is. clocks) (λ n9.
      cond_both (is_among map_calls number) _ _ (λ r. Holds (turned s f.name.tty r)) (λ is. maps) (λ n3.
      cond_both (is_among file_calls number) _ _ (λ r. Holds (turned s f.name.tty r)) (λ is. own (file_call number (asks (parts_of s) f.name f.body.regs)) (file_makes_none s.pages number (asks (parts_of s) f.name f.body.regs))) (λ n4.
      cond_both (is_among jfn_calls number) _ _ (λ r. Holds (turned s f.name.tty r)) (λ is. jfns) (λ n5.
      cond_both (is_among byte_calls number) _ _ (λ r. Holds (turned s f.name.tty r)) (λ is. bytes_of) (λ n6.
      cond_both (is_among string_calls number) _ _ (λ r. Holds (turned s f.name.tty r)) (λ is. strings_of) (λ n7. none)))))))))

  -- such a turn leaves the fork that called
  pub own_by : (t : Turn ⊥ (Unit {0})) → MakesNone s.pages t
      → ((g : Fork) → map.get s.forks f.name ≡ Some g → Holds (turned s f.name.tty (record { parts = parts_of s; caller = Some (fork_behind g (own_came s t).end); out = out_of (own_came s t).end })))
      → Holds (turned s f.name.tty (record { parts = parts_of s; caller = None; out = out_of (own_came s t).end })) → Holds (own_turned s f t)
  own_by t makes some none = subst Left (sym same) (caller_by Holds s f.name.tty (parts_of s) f.name (λ g. fork_behind g (own_came s t).end) (out_of (own_came s t).end) some none)
    where
      Left : Parts name_cmp → Type 0
      Left left = Holds (turned s f.name.tty (record { parts = left; caller = option_map (λ g. fork_behind g (own_came s t).end) (map.get left.tree.forks f.name); out = out_of (own_came s t).end }))

      same : parts_behind own_changed (parts_of s) (record (parts_of s) { pages = (own_came s t).pages }) (own_came s t).end ≡ parts_of s
      same = ap (λ (q : NamedPages). parts_behind own_changed (parts_of s) (record (parts_of s) { pages = q }) (own_came s t).end) makes
          ∙ nothing_behind (parts_of s) (own_came s t).end

module _ (Holds : Effect → Type 0) (s : PlainState) (f : Fork) (number : ℕ) where
  -- a call on maps leaves other pages, and the fork that called
  pub map_by : ((g : Fork) → map.get s.forks f.name ≡ Some g → Holds (turned s f.name.tty (record { parts = record (parts_of s) { pages = map_pages s f number }; caller = Some (fork_behind g (map_came s f number).end); out = out_of (map_came s f number).end })))
      → Holds (turned s f.name.tty (record { parts = record (parts_of s) { pages = map_pages s f number }; caller = None; out = out_of (map_came s f number).end })) → Holds (map_turned s f number)
  map_by some none = subst Left (sym (pages_behind (λ name. name) (parts_of s) c.pages c.end)) (caller_by Holds s f.name.tty (record (parts_of s) { pages = map_pages s f number }) f.name (λ g. fork_behind g c.end) (out_of c.end) some none)
    where
      c : Came name_cmp MapChange
      c = map_came s f number

      Left : Parts name_cmp → Type 0
      Left left = Holds (turned s f.name.tty (record { parts = left; caller = option_map (λ g. fork_behind g (map_came s f number).end) (map.get left.tree.forks f.name); out = out_of (map_came s f number).end }))

  -- a call on JFNs leaves other pages, files and jobs, and the fork that called
  pub jfn_by : ((g : Fork) → map.get s.forks f.name ≡ Some g → Holds (turned s f.name.tty (record { parts = with_filed (parts_of s) (jfn_left s f number); caller = Some (fork_behind g (jfn_came s f number).end); out = out_of (jfn_came s f number).end })))
      → Holds (turned s f.name.tty (record { parts = with_filed (parts_of s) (jfn_left s f number); caller = None; out = out_of (jfn_came s f number).end })) → Holds (jfn_turned s f number)
  jfn_by some none = subst Left (sym (jfns_behind (λ name. name) (parts_of s) c.pages c.end)) (caller_by Holds s f.name.tty (with_filed (parts_of s) (jfn_left s f number)) f.name (λ g. fork_behind g c.end) (out_of c.end) some none)
    where
      c : Came name_cmp FileChange
      c = jfn_came s f number

      Left : Parts name_cmp → Type 0
      Left left = Holds (turned s f.name.tty (record { parts = left; caller = option_map (λ g. fork_behind g (jfn_came s f number).end) (map.get left.tree.forks f.name); out = out_of (jfn_came s f number).end }))

  -- so does a call on bytes, or on strings of them
  module _ (rows : List (ℕ × (ByteAsked → ByteTurn))) where
    pub byte_by : ((g : Fork) → map.get s.forks f.name ≡ Some g → Holds (turned s f.name.tty (record { parts = with_filed (parts_of s) (byte_left s f rows number); caller = Some (fork_behind g (byte_came s f rows number).end); out = out_of (byte_came s f rows number).end })))
        → Holds (turned s f.name.tty (record { parts = with_filed (parts_of s) (byte_left s f rows number); caller = None; out = out_of (byte_came s f rows number).end })) → Holds (byte_turned s f rows number)
    byte_by some none = subst Left (sym (bytes_behind (λ name. name) (parts_of s) c.pages c.end)) (caller_by Holds s f.name.tty (with_filed (parts_of s) (byte_left s f rows number)) f.name (λ g. fork_behind g c.end) (out_of c.end) some none)
      where
        c : Came name_cmp ByteChange
        c = byte_came s f rows number

        Left : Parts name_cmp → Type 0
        Left left = Holds (turned s f.name.tty (record { parts = left; caller = option_map (λ g. fork_behind g (byte_came s f rows number).end) (map.get left.tree.forks f.name); out = out_of (byte_came s f rows number).end }))
