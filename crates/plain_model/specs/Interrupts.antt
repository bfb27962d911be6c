-- Pseudo-interrupts: what posting a channel does to a fork (JSYS Manual, "Pseudo-interrupt system").
use Rattle.std.specs.Prelude.{ℕ, ◌-◌, ◌^◌, List, [], ◌∷◌, filter, Bool, not, ◌||◌, ◌&&◌, if◌then◌else◌, ◌==◌, is_some, nat_le}
use Rattle.std.specs.List.{range_with_len}
use Rattle.word36.specs.Words.{bit}
use Rattle.word36.specs.Boolean.{boolean_of}
use Rattle.word36.specs.declared.opcodes.TheConstants.{ANDCM, IOR}
use Rattle.plain_units.specs.declared.channel.TheConstants.{PUSHDOWN_OVERFLOW, ILLEGAL_INSTRUCTION, DENIED_EXECUTE, DRUM_FULL}
use Rattle.plain_model.specs.declared.fork.Psi.{Psi}
use Rattle.plain_model.specs.declared.fork.Fork.{Fork}
use Rattle.plain_model.specs.declared.interrupt.TheConstants.{CHANNELS}
use Rattle.script_texts.specs.declared.status.ForkStatus.{ForkStatus}
use Rattle.script_texts.specs.declared.status.ForkStatus.TheVariants.{Run, Wait, Forced}
use Rattle.plain_model.specs.Forks.{with_status}

-- whether a channel is one of those of a word, whose leftmost bit is channel 0
abbrev pub has_channel : ℕ → ℕ → Bool
has_channel word channel = bit word channel == 1

-- the channels of a word, in rising order
abbrev pub channels_of : ℕ → List ℕ
channels_of word = filter (has_channel word) (range_with_len 0 CHANNELS)

-- the word with one channel
abbrev pub channel_word : ℕ → ℕ
channel_word channel = 2 ^ (35 - channel)

-- the channels of one word and of another; and those of one that aren't in another
abbrev pub with_channels : ℕ → ℕ → ℕ
with_channels some more = boolean_of IOR some more

abbrev pub without_channels : ℕ → ℕ → ℕ
without_channels some others = boolean_of ANDCM some others

-- the panic channels, which force a fork that doesn't take them
abbrev pub is_panic : ℕ → Bool
is_panic channel = (channel == PUSHDOWN_OVERFLOW) || (nat_le ILLEGAL_INSTRUCTION channel && nat_le channel DENIED_EXECUTE) || (channel == DRUM_FULL)

-- whether a fork takes a channel: its interrupts are on, it has a table, and the channel is active
abbrev pub listens : Psi → ℕ → Bool
listens psi channel = psi.on && is_some psi.table && has_channel psi.active channel

-- a channel that is pending, once
abbrev pub with_pending : Psi → ℕ → Psi
with_pending psi channel = record psi { pending = with_channels psi.pending (channel_word channel) }

-- a fork that waited goes on
abbrev pub woken : ForkStatus → ForkStatus
woken (Wait on) = Run
woken status = status

-- a fork with a channel pending, which it looks at before its next unit
abbrev pub pended : Fork → ℕ → Fork
pended f channel = record f { body = record f.body { psi = with_pending f.body.psi channel; status = woken f.body.status } }

-- the fork to which a channel is posted: the channel is pending where the fork takes it; else a
-- panic channel forces the fork, and another is dropped
abbrev pub posted : Fork → ℕ → Fork
posted f channel = if listens f.body.psi channel then pended f channel else (if is_panic channel then with_status f (Forced channel) else f)

-- whether a channel that is posted to a fork forces it
abbrev pub forces : Psi → ℕ → Bool
forces psi channel = not (listens psi channel) && is_panic channel

-- channels posted to a fork, in order
abbrev pub posted_all : Fork → List ℕ → Fork
posted_all f [] = f
posted_all f (channel ∷ channels) = posted_all (posted f channel) channels
