-- The fork calls (JSYS Manual): CFORK, KFORK, FFORK, RFORK, RFSTS, SFORK, SFACS, RFACS, HFORK, WFORK, HALTF.
use Rattle.std.specs.Prelude.{ℕ, ◌+◌, List, [], ◌∷◌, Bool, true, false, not, ◌||◌, nat_lt, ◌==◌, if◌then◌else◌, None, Result, Ok, Err, replicate, slice_set}
use Rattle.std.specs.Option.{option_map, option_map_or}
use Rattle.std.specs.declared.cmp.Ordering.{Ordering}
use Rattle.std.specs.FinMap as map
use Rattle.word36.specs.Words.{right, joined, bit}
use Rattle.word36.specs.Flags.{no_flags}
use Rattle.plain_model.specs.declared.call.TheConstants.{CFORK, KFORK, FFORK, RFORK, RFSTS, SFORK, SFACS, RFACS, HFORK, WFORK, HALTF, FORK_SELF, NO_HANDLE, NO_INFERIOR, FORKS_FULL, SERIALS_OUT, NO_ROOM}
use Rattle.plain_model.specs.declared.call.End.{End}
use Rattle.plain_model.specs.declared.call.End.TheVariants.{Done, Waits, Halts, Failed}
use Rattle.plain_model.specs.declared.call.ForkChange.{ForkChange}
use Rattle.plain_model.specs.declared.call.ForkChange.TheVariants.{Nothing, Make, Kill, Freeze, Become, Halt, Store}
use Rattle.machine_names.specs.declared.names.TheConstants.{ACCUMULATORS, LAST_SERIAL}
use Rattle.machine_names.specs.declared.names.ForkName.{ForkName}
use Rattle.machine_names.specs.declared.names.Kind.TheVariants.{Read, Write}
use Rattle.plain_pages.specs.declared.map.NewMap.{NewMap}
use Rattle.plain_pages.specs.declared.map.NewMap.TheVariants.{Empty as EmptyMap, FollowAll}
use Rattle.plain_model.specs.declared.fork.Fork.{Fork}
use Rattle.plain_model.specs.declared.fork.Body.{Body}
use Rattle.plain_units.specs.declared.registers.Regs.{Regs}
use Rattle.script_texts.specs.declared.status.ForkStatus.{ForkStatus}
use Rattle.script_texts.specs.declared.status.ForkStatus.TheVariants.{Run, Wait, Halted, Forced}
use Rattle.script_texts.specs.declared.status.WaitOn.TheVariants as on
use Rattle.plain_pages.specs.PlainPages.{PlainPages}
use Rattle.plain_pages.specs.Room.{uses}
use Rattle.plain_model.specs.Forks.{ForkMap, first_regs, no_levels, with_status, top_fork}
use Rattle.machine_names.specs.Orders.{same_fork}
use Rattle.plain_units.specs.Steps.{is_accumulator}
use Rattle.plain_units.specs.Deeds.{flags_half, in_ac, pc_word, skip_pc}
use Rattle.plain_model.specs.Handles.{named}
use Rattle.plain_model.specs.Inferiors.{is_in_branch, is_inferior}
use Rattle.plain_model.specs.Trees.{PlainTree, next_serial, next_name, free_slot, new_fork, with_made, with_changed_of, with_body, with_mark, waiters_woken, end_told}
use Rattle.plain_model.specs.AccessWords.{bit_word}
use Rattle.plain_model.specs.Calls.{Asked, Turn, adds, ends, with_ac, and_then, returning, given, numbered, with_block}
use Rattle.plain_units.specs.Blocks.{next_address, stored_from}

-- the fork that the handle in accumulator 1 names
abbrev pub fork_named : Asked → Result Fork ℕ
fork_named a = option_map_or Ok (named a.tree.forks a.who (right (in_ac a.regs 1))) (Err NO_HANDLE)

-- a fork where it is an inferior of the caller
abbrev pub if_inferior : Asked → Fork → Result Fork ℕ
if_inferior a f = if is_inferior a.tree.forks a.who f.name then Ok f else Err NO_INFERIOR

-- the inferior that accumulator 1 names
unfoldable pub inferior_named : Asked → Result Fork ℕ
inferior_named a = and_then (fork_named a) (if_inferior a)

-- the same, where it may be the caller too
unfoldable pub own_named : Asked → Result Fork ℕ
own_named a = and_then (fork_named a) (λ f. if same_fork f.name a.who then Ok f else if_inferior a f)

-- the address in accumulator 2
abbrev pub address_named : Regs → ℕ
address_named regs = right (in_ac regs 2)

-- bit 0 of accumulator 1 has the new fork's pages follow the caller's
abbrev pub map_wanted : Asked → NewMap
map_wanted a = if bit (in_ac a.regs 1) 0 == 1 then FollowAll a.who else EmptyMap

-- bit 4 has it started, at the right half of accumulator 1
abbrev pub starts : Regs → Bool
starts regs = bit (in_ac regs 1) 4 == 1

-- the body of a new fork with these accumulators
abbrev pub made_body : Regs → List ℕ → Body → Body
made_body regs words body = record body {
  status = if starts regs then Run else Halted;
  regs = record first_regs { ac = words; pc = if starts regs then right (in_ac regs 1) else 0 };
}

-- the new fork, in a slot under the caller
abbrev pub made_fork : Asked → ℕ → List ℕ → Fork
made_fork a slot words =
    let f = top_fork (next_name a.tree a.who.tty) in
    record f { slot = slot; superior = option_map (λ k. k.slot) (map.get a.tree.forks a.who); body = made_body a.regs words f.body }

-- it is made, accumulator 1 becomes its handle, and the call returns by its second return
abbrev pub making : Asked → ℕ → List ℕ → End ForkChange
making a slot words = let told = with_ac a.regs 1 (FORK_SELF + slot) in Done (Make (made_fork a slot words)) (record told { pc = skip_pc told }) None None

-- bit 3 of accumulator 1 has its accumulators read, with the new fork there; else they are 0
abbrev pub with_accumulators : Asked → (List ℕ → Turn ⊥ ForkChange) → Turn ⊥ ForkChange
with_accumulators a next =
    if bit (in_ac a.regs 1) 3 == 1 then with_block a.who a.regs (address_named a.regs) Read next else next (replicate ACCUMULATORS 0)

-- a fork is made in a slot, where a serial is left for it and the drum has room
abbrev pub making_in : Asked → ℕ → Turn ⊥ ForkChange
making_in a slot =
    if nat_lt LAST_SERIAL (next_serial a.tree a.who.tty) then ends (Failed SERIALS_OUT)
    else adds (next_name a.tree a.who.tty) (map_wanted a) (λ room.
    if room then with_accumulators a (λ words. ends (making a slot words)) else ends (Failed NO_ROOM))

-- a call that changes an inferior, and no more
abbrev pub of_inferior : (Fork → ForkChange) → Asked → Turn ⊥ ForkChange
of_inferior change a = given (inferior_named a) (λ f. ends (returning (change f) a.regs))

-- the code of a status
abbrev pub status_code : ForkStatus → ℕ
status_code Run = 0
status_code (Wait on.Input) = 1
status_code Halted = 2
status_code (Forced channel) = 3
status_code (Wait on.Fork) = 4
status_code (Wait (on.Sleep moment)) = 5

-- the channel of a status
abbrev pub status_channel : ForkStatus → ℕ
status_channel (Forced channel) = channel
status_channel status = 0

-- how a fork stands: bit 0 is its own freeze mark, bits 1 to 17 the code, and the right half the channel
unfoldable pub status_word : Fork → ℕ
status_word f = bit_word f.frozen 0 + joined (status_code f.body.status) (status_channel f.body.status)

-- the PC word of a fork: its flags, and the address of its next instruction, which is behind the call where it is the caller
unfoldable pub place_word : Asked → Fork → ℕ
place_word a f = if same_fork f.name a.who then pc_word a.regs else joined (flags_half f.body.regs.flags) f.body.regs.pc

-- a fork that is started at an address: it has no flags, and no pending channel, level or sleep
abbrev pub started_at : ℕ → Body → Body
started_at address body = record body {
  status = Run;
  regs = record body.regs { pc = address; flags = no_flags };
  psi = record body.psi { pending = 0; levels = no_levels };
  sleep = None;
}

-- SFACS: an inferior's accumulators become the sixteen words that accumulator 2 names
abbrev pub sfacs : Asked → Turn ⊥ ForkChange
sfacs a = given (inferior_named a) (λ f. with_block a.who a.regs (address_named a.regs) Read (λ words.
    ends (returning (Become f.name (record f.body { regs = record f.body.regs { ac = words } })) a.regs)))

-- accumulators with these words stored from an address on; only low addresses are accumulators
abbrev pub stored_low : List ℕ → ℕ → List ℕ → List ℕ
stored_low ac a [] = ac
stored_low ac a (w ∷ ws) = stored_low (if is_accumulator a then slice_set ac a w else ac) (next_address a) ws

-- RFACS: an inferior's accumulators are stored at the sixteen words that accumulator 2 names
abbrev pub rfacs : Asked → Turn ⊥ ForkChange
rfacs a = given (inferior_named a) (λ f. let at = address_named a.regs in let words = f.body.regs.ac in
    with_block a.who a.regs at Write (λ old. ends (returning (Store a.who at words) (record a.regs { ac = stored_low a.regs.ac at words }))))

-- a fork has ended where it is halted or was forced
abbrev pub has_ended : ForkStatus → Bool
has_ended Halted = true
has_ended (Forced channel) = true
has_ended status = false

-- The fork calls by their numbers. CFORK makes an inferior of the caller, in the least free slot; KFORK kills an inferior, and all below it;
-- FFORK gives it the freeze mark, and RFORK takes it away; at RFSTS accumulators 1 and 2 become the status and the PC word of the caller or
-- an inferior; SFORK starts an inferior at the address in accumulator 2; HFORK halts it; at WFORK the caller waits until it is halted or
-- forced; and at HALTF the caller halts.
abbrev pub fork_calls : List (ℕ × (Asked → Turn ⊥ ForkChange))
fork_calls =
    (CFORK, λ a. option_map_or (making_in a) (free_slot a.tree.forks a.who.tty) (ends (Failed FORKS_FULL)))
    ∷ (KFORK, of_inferior (λ f. Kill f.name))
    ∷ (FFORK, of_inferior (λ f. Freeze f.name true))
    ∷ (RFORK, of_inferior (λ f. Freeze f.name false))
    ∷ (RFSTS, λ a. given (own_named a) (λ f. ends (returning Nothing (with_ac (with_ac a.regs 1 (status_word f)) 2 (place_word a f)))))
    ∷ (SFORK, λ a. of_inferior (λ f. Become f.name (started_at (address_named a.regs) f.body)) a)
    ∷ (SFACS, sfacs)
    ∷ (RFACS, rfacs)
    ∷ (HFORK, of_inferior (λ f. Halt f.name))
    ∷ (WFORK, λ a. given (inferior_named a) (λ f. ends (if has_ended f.body.status then returning Nothing a.regs else Waits on.Fork)))
    ∷ (HALTF, λ a. ends Halts)
    ∷ []

-- a turn of a fork call by its number
abbrev pub fork_call : ℕ → Asked → Turn ⊥ ForkChange
fork_call number a = numbered fork_calls number a

-- the forks and the pages: what the fork calls change
pub record ForkParts {K : Type 0} (file_cmp : K → K → Ordering) : Type 0 where
  pub tree : PlainTree
  pub pages : PlainPages file_cmp

module _ {K : Type 0} {file_cmp : K → K → Ordering} where
  -- pages without the maps of some forks; those that lose their last name are dropped
  unfoldable pub without_maps : PlainPages file_cmp → (ForkName → Bool) → PlainPages file_cmp
  without_maps p goes = let q = record p { maps = map.retain_keys p.maps (λ f. not (goes f)) } in
      record q { objects = map.retain_keys q.objects (λ n. (uses p n == 0) || nat_lt 0 (uses q n)) }

  -- without some forks and their maps
  abbrev pub without_all : ForkParts file_cmp → (ForkName → Bool) → ForkParts file_cmp
  without_all v goes = record { tree = record v.tree { forks = map.retain_keys v.tree.forks (λ f. not (goes f)) }; pages = without_maps v.pages goes }

  -- without the inferiors of a fork
  unfoldable pub without_inferiors : ForkParts file_cmp → ForkName → ForkParts file_cmp
  without_inferiors v f = without_all v (is_inferior v.tree.forks f)

  -- without a fork and its inferiors
  unfoldable pub killed : ForkParts file_cmp → ForkName → ForkParts file_cmp
  killed v f = without_all v (λ name. same_fork name f || is_inferior v.tree.forks f name)

  -- with other forks
  abbrev pub with_forks : ForkParts file_cmp → ForkMap → ForkParts file_cmp
  with_forks v forks = record v { tree = record v.tree { forks = forks } }

  -- with a fork halted; its job and its superior are told
  abbrev pub with_halted : ForkParts file_cmp → Fork → ForkParts file_cmp
  with_halted v f = let g = with_status f Halted in with_forks v (end_told (map.insert v.tree.forks g.name g) g)

  -- what a change of a fork call leaves
  unfoldable pub fork_changed : ForkChange → ForkParts file_cmp → ForkParts file_cmp
  fork_changed Nothing v = v
  fork_changed (Make f) v = record v { tree = with_made v.tree f }
  fork_changed (Kill f) v = let k = killed v f in with_forks k (waiters_woken k.tree.forks f.tty)
  fork_changed (Freeze f on) v = record v { tree = with_changed_of v.tree f (with_mark on) }
  fork_changed (Become f body) v = record v { tree = with_changed_of v.tree f (with_body body) }
  fork_changed (Halt f) v = option_map_or (with_halted v) (map.get v.tree.forks f) v
  fork_changed (Store f at words) v = record v { pages = stored_from v.pages f at words }
