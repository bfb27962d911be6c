-- The families of monitor calls, and a turn of any call by its number.
use Rattle.std.specs.Prelude.{ℕ, ◌%◌, List, [], ◌∷◌, Bool, if◌then◌else◌, nat_lt, Option, None, Some, is_some, slice_index}
use Rattle.std.specs.Option.{option_map, option_map_or}
use Rattle.std.specs.declared.cmp.Ordering.{Ordering}
use Rattle.std.specs.FinMap as map
use Rattle.plain_model.specs.declared.call.TheConstants.{PBOUT}
use Rattle.plain_units.specs.declared.channel.TheConstants.{ILLEGAL_INSTRUCTION}
use Rattle.plain_model.specs.declared.call.End.TheVariants.{Done}
use Rattle.plain_model.specs.declared.call.MapChange.{MapChange}
use Rattle.plain_model.specs.declared.call.ForkChange.{ForkChange}
use Rattle.plain_model.specs.declared.call.ForkChange.TheVariants.{Kill}
use Rattle.plain_model.specs.declared.call.InterruptChange.{InterruptChange}
use Rattle.plain_model.specs.declared.call.SleepChange.{SleepChange}
use Rattle.plain_model.specs.declared.call.FileChange.{FileChange}
use Rattle.plain_model.specs.declared.call.ByteChange.{ByteChange}
use Rattle.machine_names.specs.declared.names.ForkName.{ForkName}
use Rattle.machine_names.specs.declared.names.TheConstants.{MOST_FILES}
use Rattle.machine_names.specs.Orders.{name_cmp}
use Rattle.plain_files.specs.Sizes.{PlainFile}
use Rattle.plain_model.specs.declared.fork.Fork.{Fork}
use Rattle.plain_units.specs.declared.registers.Regs.{Regs}
use Rattle.plain_pages.specs.PlainPages.{PlainPages}
use Rattle.plain_model.specs.Interrupts.{posted}
use Rattle.plain_model.specs.Trees.{PlainTree}
use Rattle.plain_model.specs.Calls.{Asked, Turn, ends, Sight, no_files, Came, turn_on, numbered, is_among, fork_behind, parts_behind, out_of, behind_call}
use Rattle.plain_model.specs.MapCalls.{MapAsked, map_calls, map_changed}
use Rattle.plain_model.specs.FileCalls.{Jobs, JfnAsked, file_calls, file_changed, held_at, jfn_calls, times_held}
use Rattle.plain_model.specs.ForkCalls.{fork_calls, fork_changed}
use Rattle.plain_model.specs.Forks.{ForkMap}
use Rattle.plain_model.specs.InterruptCalls.{interrupt_calls, interrupt_changed, living_codes, with_codes_of}
use Rattle.plain_model.specs.ClockCalls.{ClockAsked, clock_calls, clock_changed}
use Rattle.plain_model.specs.ByteCalls.{ByteAsked, byte_calls, byte_changed, input_at, pages_of}
use Rattle.plain_model.specs.StringCalls.{string_calls}

-- the call that prints, by its number: PBOUT prints the low 7 bits of accumulator 1
abbrev pub print_calls : List (ℕ × (Regs → Turn ⊥ (Unit {0})))
print_calls = (PBOUT, λ regs. ends (Done tt (behind_call regs) (Some (slice_index regs.ac 1 % 128)) None)) ∷ []

-- what monitor calls see and change, whatever pages of files are known by: the forks, the pages, the files, and the jobs; and the clock, which
-- none changes
pub record Parts {K : Type 0} (file_cmp : K → K → Ordering) : Type 0 where
  pub tree : PlainTree
  pub pages : PlainPages file_cmp
  pub files : map.FinMap name_cmp PlainFile
  pub jobs : Jobs
  pub clock : ℕ

-- what is behind a turn: the parts, the fork that called as it is to be put among them but for its count of units, and what is printed
pub record Turned {K : Type 0} (file_cmp : K → K → Ordering) : Type 0 where
  pub parts : Parts file_cmp
  pub caller : Option Fork
  pub out : Option ℕ

-- what a fork call changes of the jobs: where forks are killed, their codes are assigned to nothing
abbrev pub codes_behind : ForkChange → ForkMap → Jobs → Jobs
codes_behind (Kill f) forks jobs = with_codes_of jobs f.tty (living_codes forks)
codes_behind change forks jobs = jobs

module _ {K : Type 0} {file_cmp : K → K → Ordering} where
  -- what is behind a turn that came out so
  abbrev pub behind : {C : Type 0} → (C → Parts file_cmp → Parts file_cmp) → Parts file_cmp → ForkName → Came file_cmp C → Turned file_cmp
  behind changed v who came =
      let left = parts_behind changed v (record v { pages = came.pages }) came.end in
      record { parts = left; caller = option_map (λ f. fork_behind f came.end) (map.get left.tree.forks who); out = out_of came.end }

  -- a turn of one of these calls, asked with this, told this of files, and with what a change of theirs leaves of the parts; for another
  -- number what else it is
  abbrev pub if_among : {F A C : Type 0} → List (ℕ × (A → Turn F C)) → A → Sight F K → (C → Parts file_cmp → Parts file_cmp) →
      Parts file_cmp → ForkName → ℕ → Turned file_cmp → Turned file_cmp
  if_among calls asked sight changed v who number other =
      if is_among calls number then behind changed v who (turn_on sight v.pages (numbered calls number asked)) else other

  -- what calls on forks and on maps are asked with
  abbrev pub asks : Parts file_cmp → ForkName → Regs → Asked
  asks v who regs = record { who = who; regs = regs; tree = v.tree }

  -- a fork call changes forks and pages, and codes
  abbrev pub forks_changed : ForkChange → Parts file_cmp → Parts file_cmp
  forks_changed change v =
      let part = fork_changed change (record { tree = v.tree; pages = v.pages }) in
      record v { tree = part.tree; pages = part.pages; jobs = codes_behind change part.tree.forks v.jobs }

  -- a call on pseudo-interrupts changes forks and codes
  abbrev pub interrupts_changed : InterruptChange → Parts file_cmp → Parts file_cmp
  interrupts_changed change v = let part = interrupt_changed change (record { tree = v.tree; jobs = v.jobs }) in record v { tree = part.tree; jobs = part.jobs }

  -- what calls on the clock are asked with
  abbrev pub asks_clock : Parts file_cmp → ForkName → Regs → ClockAsked
  asks_clock v who regs = record { call = asks v who regs; clock = v.clock }

  -- what calls on JFNs are asked with
  abbrev pub asks_jfns : Parts file_cmp → ForkName → Regs → JfnAsked
  asks_jfns v who regs = record { who = who; regs = regs; user = option_map_or (λ j. j.user) (map.get v.jobs who.tty.0) []; held = held_at v.jobs who.tty; times = times_held v.jobs }

  -- what they are told of files: which names there are, and whether one more may be there
  abbrev pub names_seen : Parts file_cmp → ForkName → Sight ⊥ K
  names_seen v who = record { file_of = λ none. None; is_name = λ name. is_some (map.get v.files name); has_more = nat_lt (map.len v.files) MOST_FILES }

  -- what calls on maps are asked with
  abbrev pub asks_maps : Parts file_cmp → ForkName → Regs → MapAsked
  asks_maps v who regs = record { who = who; regs = regs; tree = v.tree; held = held_at v.jobs who.tty }

  module _ (key_of : List ℕ → K) where
    -- a call that knows files by their names
    abbrev pub files_seen : Parts file_cmp → ForkName → Sight (List ℕ) K
    files_seen v who = record { file_of = λ name. Some (key_of name); is_name = λ name. is_some (map.get v.files name); has_more = nat_lt (map.len v.files) MOST_FILES }

    -- a call on JFNs changes pages, files and jobs
    abbrev pub jfns_changed : FileChange → Parts file_cmp → Parts file_cmp
    jfns_changed change v = let part = file_changed key_of change (record { pages = v.pages; files = v.files; jobs = v.jobs }) in record v { pages = part.pages; files = part.files; jobs = part.jobs }

    -- what calls on bytes are asked with
    abbrev pub asks_bytes : Parts file_cmp → ForkName → Regs → ByteAsked
    asks_bytes v who regs = record { who = who; regs = regs; held = held_at v.jobs who.tty; input = input_at v.jobs who.tty; files = v.files; pages = pages_of key_of v.files v.pages }

    -- a call on bytes changes pages, files and jobs
    abbrev pub bytes_changed : ByteChange → Parts file_cmp → Parts file_cmp
    bytes_changed change v = let part = byte_changed key_of change (record { pages = v.pages; files = v.files; jobs = v.jobs }) in record v { pages = part.pages; files = part.files; jobs = part.jobs }

    -- A turn of a monitor call by its number, by families of calls, where pages of files are under the keys of the files' names; a number that
    -- is in none traps.
    abbrev pub call_turned : Parts file_cmp → ForkName → Regs → ℕ → Turned file_cmp
    call_turned v who regs number =
        if_among print_calls regs no_files (λ change w. w) v who number
        (if_among fork_calls (asks v who regs) no_files forks_changed v who number
        (if_among interrupt_calls (asks v who regs) no_files interrupts_changed v who number
        (if_among clock_calls (asks_clock v who regs) no_files (λ change w. record w { tree = clock_changed change w.tree }) v who number
        (if_among map_calls (asks_maps v who regs) (files_seen v who) (λ change w. record w { pages = map_changed key_of change w.pages }) v who number
        (if_among file_calls (asks v who regs) no_files (λ change w. w) v who number
        (if_among jfn_calls (asks_jfns v who regs) (names_seen v who) jfns_changed v who number
        (if_among byte_calls (asks_bytes v who regs) (files_seen v who) bytes_changed v who number
        (if_among string_calls (asks_bytes v who regs) (files_seen v who) bytes_changed v who number
        (record { parts = v; caller = option_map (λ f. posted f ILLEGAL_INSTRUCTION) (map.get v.tree.forks who); out = None })))))))))
