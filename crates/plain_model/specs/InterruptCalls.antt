-- The calls on pseudo-interrupts (JSYS Manual): SIR, EIR, DIR, AIC, DIC, IIC, DEBRK, ATI, DTI.
use Rattle.std.specs.Prelude.{ℕ, ◌-◌, List, [], ◌∷◌, Bool, true, false, ◌||◌, ◌==◌, nat_le, if◌then◌else◌, Option, None, Some, Ok, Err, is_some, slice_set}
use Rattle.std.specs.Option.{option_map, option_map_or}
use Rattle.std.specs.FinMap as map
use Rattle.word36.specs.Words.{left, right}
use Rattle.machine_names.specs.Orders.{same_fork}
use Rattle.machine_names.specs.declared.names.Tty.{Tty}
use Rattle.plain_typing.specs.declared.typed.TheConstants.{ASSIGNABLE_CODES, CONTROL_C}
use Rattle.plain_units.specs.declared.channel.TheConstants.{ILLEGAL_INSTRUCTION}
use Rattle.plain_units.specs.declared.registers.Regs.{Regs}
use Rattle.plain_units.specs.Deeds.{half_flags, in_ac}
use Rattle.plain_model.specs.declared.call.End.TheVariants.{Done, Trap}
use Rattle.plain_model.specs.declared.call.InterruptChange.{InterruptChange}
use Rattle.plain_model.specs.declared.call.InterruptChange.TheVariants.{Become, Post, Assign, Unassign}
use Rattle.plain_model.specs.declared.call.TheConstants.{SIR, EIR, DIR, AIC, DIC, IIC, DEBRK, ATI, DTI, BAD_CODE}
use Rattle.plain_model.specs.declared.fork.Body.{Body}
use Rattle.plain_model.specs.declared.fork.Fork.{Fork}
use Rattle.plain_model.specs.declared.fork.Psi.{Psi}
use Rattle.plain_model.specs.declared.interrupt.TheConstants.{CHANNELS}
use Rattle.plain_typing.specs.Lines.{Codes, codes_of}
use Rattle.plain_model.specs.Calls.{Asked, Turn, ends, given, returning}
use Rattle.plain_model.specs.FileCalls.{Jobs}
use Rattle.plain_model.specs.Forks.{ForkMap}
use Rattle.plain_model.specs.ForkCalls.{own_named}
use Rattle.plain_model.specs.Inspections.{least_level, level_at, wants_one}
use Rattle.plain_model.specs.Interrupts.{channels_of, posted_all, with_channels, without_channels, woken}
use Rattle.plain_model.specs.Posting.{with_all_posted}
use Rattle.plain_model.specs.Readings.{Reading, words, read, with_reading, word_steps}
use Rattle.plain_model.specs.Trees.{PlainTree, with_body, with_changed_of}

-- ---- all but DEBRK, ATI and DTI

-- a fork with other interrupts; and one that goes on besides, where it waits and an active channel is pending
abbrev pub with_psi : Body → Psi → Body
with_psi body psi = record body { psi = psi }

abbrev pub awake : Body → Body
awake body = if wants_one body.psi then record body { status = woken body.status } else body

-- the caller or an inferior has another body
abbrev pub becoming : Asked → (Body → Body) → Turn ⊥ InterruptChange
becoming a change = given (own_named a) (λ f. ends (returning (Become f.name (change f.body)) a.regs))

-- DIC: channels are neither active nor pending
abbrev pub dic : Asked → Turn ⊥ InterruptChange
dic a = becoming a (λ body. with_psi body (record body.psi { active = without_channels body.psi.active (in_ac a.regs 2); pending = without_channels body.psi.pending (in_ac a.regs 2) }))

-- channels posted to a fork: the end of the caller is told by its own unit
abbrev pub posting : Asked → Fork → InterruptChange
posting a f = if same_fork f.name a.who then Become f.name (posted_all f (channels_of (in_ac a.regs 2))).body else Post f.name (in_ac a.regs 2)

-- ---- DEBRK

-- the word that a delivery at a level has stored
abbrev pub word_stored : Regs → ℕ → ℕ → Reading ℕ
word_stored regs table level = words (word_steps regs (level_at table level)) (λ w. words (word_steps regs (right w)) read)

-- the registers as a PC word has them
abbrev pub restored : Regs → ℕ → Regs
restored regs w = record regs { pc = right w; flags = half_flags (left w) }

-- a level is over
abbrev pub without_level : Body → ℕ → Body
without_level body level = with_psi body (record body.psi { levels = slice_set body.psi.levels (level - 1) false })

-- a level of a fork is over, and it goes on where it was interrupted
abbrev pub dismissed : Asked → Fork → ℕ → ℕ → Turn ⊥ InterruptChange
dismissed a f table level = with_reading a.who a.regs (word_stored a.regs table level) (λ w. ends (Done (Become f.name (without_level f.body level)) (restored a.regs w) None None))

-- the least level in progress, and the table in which its word is; a level that is in progress has one
abbrev pub level_to_end : Fork → Option (ℕ × ℕ)
level_to_end f = option_map_or (λ table. option_map (λ level. (table, level)) (least_level f.body.psi)) f.body.psi.table None

abbrev pub dismissed_if : Asked → Fork → Turn ⊥ InterruptChange
dismissed_if a f = option_map_or (λ at. dismissed a f at.0 at.1) (level_to_end f) (ends (Trap ILLEGAL_INSTRUCTION))

-- DEBRK: the least level in progress is over; without one the call traps
abbrev pub debrk : Asked → Turn ⊥ InterruptChange
debrk a = option_map_or (dismissed_if a) (map.get a.tree.forks a.who) (ends (Trap ILLEGAL_INSTRUCTION))

-- ---- ATI, DTI

-- whether a code can't be assigned
abbrev pub is_bad_code : ℕ → Bool
is_bad_code code = nat_le ASSIGNABLE_CODES code || (code == CONTROL_C)

-- ATI: the code in the left half of accumulator 1 is assigned to the caller's channel in the right half
abbrev pub ati : Asked → Turn ⊥ InterruptChange
ati a = let code = left (in_ac a.regs 1) in let channel = right (in_ac a.regs 1) in
    given (if is_bad_code code || nat_le CHANNELS channel then Err BAD_CODE else Ok (Assign code a.who channel)) (λ change. ends (returning change a.regs))

-- DTI: the code in accumulator 1 is assigned to nothing
abbrev pub dti : Asked → Turn ⊥ InterruptChange
dti a = given (if is_bad_code (in_ac a.regs 1) then Err BAD_CODE else Ok (Unassign a.who.tty (in_ac a.regs 1))) (λ change. ends (returning change a.regs))

-- ---- all

-- The calls on pseudo-interrupts by their numbers. SIR gives the level table and the channel table; EIR and DIR put interrupts on and off;
-- AIC makes channels active; and IIC posts channels, in order.
abbrev pub interrupt_calls : List (ℕ × (Asked → Turn ⊥ InterruptChange))
interrupt_calls =
    (SIR, λ a. becoming a (λ body. with_psi body (record body.psi { table = Some (in_ac a.regs 2) })))
    ∷ (EIR, λ a. becoming a (λ body. awake (with_psi body (record body.psi { on = true }))))
    ∷ (DIR, λ a. becoming a (λ body. with_psi body (record body.psi { on = false })))
    ∷ (AIC, λ a. becoming a (λ body. awake (with_psi body (record body.psi { active = with_channels body.psi.active (in_ac a.regs 2) }))))
    ∷ (IIC, λ a. given (own_named a) (λ f. ends (returning (posting a f) a.regs)))
    ∷ (DIC, dic) ∷ (DEBRK, debrk) ∷ (ATI, ati) ∷ (DTI, dti) ∷ []

-- what they change: the forks, and the codes that the jobs' forks have assigned
pub record InterruptParts : Type 0 where
  pub tree : PlainTree
  pub jobs : Jobs

-- the jobs with other codes of the job at a terminal
abbrev pub with_codes_of : Jobs → Tty → (Codes → Codes) → Jobs
with_codes_of jobs t change = option_map_or (λ j. map.insert jobs t.0 (record j { codes = change j.codes })) (map.get jobs t.0) jobs

-- what a change of one of these calls leaves
unfoldable pub interrupt_changed : InterruptChange → InterruptParts → InterruptParts
interrupt_changed (Become f body) v = record v { tree = with_changed_of v.tree f (with_body body) }
interrupt_changed (Post f word) v = record v { tree = record v.tree { forks = option_map_or (with_all_posted v.tree.forks (channels_of word)) (map.get v.tree.forks f) v.tree.forks } }
interrupt_changed (Assign code f channel) v = record v { jobs = with_codes_of v.jobs f.tty (λ codes. map.insert codes code (f, channel)) }
interrupt_changed (Unassign t code) v = record v { jobs = with_codes_of v.jobs t (λ codes. map.remove codes code) }

-- the codes that forks have assigned which live: those of a fork that is killed go with it
abbrev pub living_codes : ForkMap → Codes → Codes
living_codes forks codes = map.retain_keys codes (λ code. option_map_or (λ a. is_some (map.get forks a.0)) (map.get codes code) false)
