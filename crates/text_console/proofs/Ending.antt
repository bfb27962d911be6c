-- What a status tells of how it ended.
use Rattle.std.proofs.Common.{◌≡◌, ◌⊎◌, inl, inr, refl, subst}
use Rattle.asm_core.specs.declared.line.AsmFault.TheVariants.{Memory as NoMemory, Line, Overrun, Doubled, Undefined}
use Rattle.asm_console.specs.declared.asm_end.AsmEnd.{AsmEnd}
use Rattle.asm_console.specs.declared.asm_end.AsmEnd.TheVariants as of_asm
use Rattle.asm_console.specs.declared.asm_end.Stopped.TheVariants as why
use Rattle.asm_console.specs.Endings.{Assembled as AssembledText}
use Rattle.command_words.specs.declared.request.TextRequest.{TextRequest}
use Rattle.command_words.specs.declared.request.TextRequest.TheVariants.{Record, Assemble}
use Rattle.record_player.specs.declared.replay_end.ReplayEnd.{ReplayEnd}
use Rattle.record_player.specs.declared.replay_end.ReplayEnd.TheVariants as of_replay
use Rattle.text_console.specs.declared.text_end.TextEnd.{TextEnd}
use Rattle.text_console.specs.declared.text_end.TextEnd.TheVariants.{Played, Assembled}
use Rattle.text_console.specs.Made.{Makes, MakesOfRecord, done_of, status_of, status_of_asm, status_of_replay}
use Rattle.texts.specs.Wrote.{Told}
use Rattle.texts.specs.declared.last.Status.TheVariants as status

-- ---- where a record was played

pub replay_done : (how : ReplayEnd) → status_of_replay how ≡ status.Done → how ≡ of_replay.Done
replay_done of_replay.Done is = refl
replay_done (of_replay.Bad n) is = absurd (cc is)
replay_done (of_replay.Illegal n) is = absurd (cc is)
replay_done of_replay.Long is = absurd (cc is)
replay_done of_replay.ReadFault is = absurd (cc is)
replay_done of_replay.WriteFault is = absurd (cc is)
replay_done of_replay.Memory is = absurd (cc is)

pub replay_read : (how : ReplayEnd) → status_of_replay how ≡ status.ReadFault → how ≡ of_replay.ReadFault
replay_read of_replay.ReadFault is = refl
replay_read of_replay.Done is = absurd (cc is)
replay_read (of_replay.Bad n) is = absurd (cc is)
replay_read (of_replay.Illegal n) is = absurd (cc is)
replay_read of_replay.Long is = absurd (cc is)
replay_read of_replay.WriteFault is = absurd (cc is)
replay_read of_replay.Memory is = absurd (cc is)

pub replay_write : (how : ReplayEnd) → status_of_replay how ≡ status.WriteFault → how ≡ of_replay.WriteFault
replay_write of_replay.WriteFault is = refl
replay_write of_replay.Done is = absurd (cc is)
replay_write (of_replay.Bad n) is = absurd (cc is)
replay_write (of_replay.Illegal n) is = absurd (cc is)
replay_write of_replay.Long is = absurd (cc is)
replay_write of_replay.ReadFault is = absurd (cc is)
replay_write of_replay.Memory is = absurd (cc is)

-- ---- where a program was assembled

pub asm_done : (how : AsmEnd) → status_of_asm how ≡ status.Done → how ≡ of_asm.Done
asm_done of_asm.Done is = refl
asm_done (of_asm.Stopped why.ReadFault) is = absurd (cc is)
asm_done (of_asm.Stopped why.LongText) is = absurd (cc is)
asm_done (of_asm.Stopped (why.Fault NoMemory)) is = absurd (cc is)
asm_done (of_asm.Stopped (why.Fault (Line n))) is = absurd (cc is)
asm_done (of_asm.Stopped (why.Fault (Overrun n))) is = absurd (cc is)
asm_done (of_asm.Stopped (why.Fault (Doubled s))) is = absurd (cc is)
asm_done (of_asm.Stopped (why.Fault (Undefined s))) is = absurd (cc is)
asm_done of_asm.WriteFault is = absurd (cc is)

pub asm_read : (how : AsmEnd) → status_of_asm how ≡ status.ReadFault → how ≡ of_asm.Stopped why.ReadFault
asm_read (of_asm.Stopped why.ReadFault) is = refl
asm_read of_asm.Done is = absurd (cc is)
asm_read (of_asm.Stopped why.LongText) is = absurd (cc is)
asm_read (of_asm.Stopped (why.Fault NoMemory)) is = absurd (cc is)
asm_read (of_asm.Stopped (why.Fault (Line n))) is = absurd (cc is)
asm_read (of_asm.Stopped (why.Fault (Overrun n))) is = absurd (cc is)
asm_read (of_asm.Stopped (why.Fault (Doubled s))) is = absurd (cc is)
asm_read (of_asm.Stopped (why.Fault (Undefined s))) is = absurd (cc is)
asm_read of_asm.WriteFault is = absurd (cc is)

pub asm_write : (how : AsmEnd) → status_of_asm how ≡ status.WriteFault → how ≡ of_asm.WriteFault
asm_write of_asm.WriteFault is = refl
asm_write of_asm.Done is = absurd (cc is)
asm_write (of_asm.Stopped why.ReadFault) is = absurd (cc is)
asm_write (of_asm.Stopped why.LongText) is = absurd (cc is)
asm_write (of_asm.Stopped (why.Fault NoMemory)) is = absurd (cc is)
asm_write (of_asm.Stopped (why.Fault (Line n))) is = absurd (cc is)
asm_write (of_asm.Stopped (why.Fault (Overrun n))) is = absurd (cc is)
asm_write (of_asm.Stopped (why.Fault (Doubled s))) is = absurd (cc is)
asm_write (of_asm.Stopped (why.Fault (Undefined s))) is = absurd (cc is)

-- what is handed on unless a write failed
pub asm_handed : {H R : Type 0} (how : AsmEnd) → ((how ≡ of_asm.WriteFault → ⊥) → H) → (how ≡ of_asm.WriteFault → R) → H ⊎ R
asm_handed of_asm.WriteFault handed rose = inr (rose refl)
asm_handed of_asm.Done handed rose = inl (handed (λ is. cc is))
asm_handed (of_asm.Stopped y) handed rose = inl (handed (λ is. cc is))

-- ---- all commands

-- what was made of what is asked is made of the same
pub made_as : (told told' out out' : Told) (r q : TextRequest) (how : TextEnd) → r ≡ q → Makes r told told' how out out' → Makes q told told' how out out'
made_as told told' out out' r q how same made = subst (λ x. Makes x told told' how out out') same made

-- what was made is made of a text that is right and whole
pub made_done : (q : TextRequest) (told told' : Told) (how : TextEnd) (out out' : Told) → status_of how ≡ status.Done → Makes q told told' how out out' → Makes q told told' (done_of q) out out'
made_done (Record r) told told' (Played how) out out' is made = subst (λ h. MakesOfRecord r.command r.drum told h out out') (replay_done how is) made
made_done (Assemble t) told told' (Assembled how) out out' is made = subst (λ h. AssembledText t told told' h out out') (asm_done how is) made
made_done (Record r) told told' (Assembled how) out out' is made = absurd made
made_done (Assemble t) told told' (Played how) out out' is made = absurd made
