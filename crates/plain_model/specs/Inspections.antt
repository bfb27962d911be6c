-- Pseudo-interrupts: which channel a fork takes before its next unit, and how (JSYS Manual, "Pseudo-interrupt system").
use Rattle.std.specs.Prelude.{ℕ, ◌+◌, ◌-◌, ◌%◌, ◌^◌, List, [], ◌∷◌, filter, Bool, true, false, not, ◌&&◌, nat_le, nat_lt, if◌then◌else◌, Option, None, Some, find, is_some, slice_index_or, slice_set, take}
use Rattle.std.specs.List.{list_any, range_with_len}
use Rattle.std.specs.Option.{option_map_or}
use Rattle.std.specs.declared.cmp.Ordering.{Ordering}
use Rattle.word36.specs.Words.{left, right, joined}
use Rattle.plain_pages.specs.PlainPages.{PlainPages}
use Rattle.plain_units.specs.declared.registers.Regs.{Regs}
use Rattle.plain_units.specs.Deeds.{flags_half, without_bis}
use Rattle.plain_units.specs.Steps.{is_accumulator, put_into, refers}
use Rattle.plain_model.specs.declared.call.End.{End}
use Rattle.plain_model.specs.declared.call.End.TheVariants.{Done, Trap}
use Rattle.plain_model.specs.declared.fork.Fork.{Fork}
use Rattle.plain_model.specs.declared.fork.Psi.{Psi}
use Rattle.plain_model.specs.declared.interrupt.Delivery.{Delivery}
use Rattle.plain_model.specs.declared.interrupt.Found.{Found}
use Rattle.plain_model.specs.declared.interrupt.Inspected.{Inspected}
use Rattle.plain_model.specs.declared.interrupt.Inspected.TheVariants.{Nothing, Delivers, Forces}
use Rattle.plain_model.specs.declared.interrupt.TheConstants.{CHANNELS, LEVELS}
use Rattle.plain_model.specs.Calls.{Came, Turn, ends, no_files, turn_on}
use Rattle.plain_model.specs.Interrupts.{channel_word, has_channel, is_panic, without_channels}
use Rattle.plain_model.specs.Readings.{Reading, words, read, with_reading, word_steps, written_steps, ends_with}
use Rattle.machine_names.specs.declared.names.Kind.TheVariants.{Write}

-- whether a channel is active and pending
abbrev pub is_wanted : Psi → ℕ → Bool
is_wanted psi channel = has_channel psi.active channel && has_channel psi.pending channel

-- those channels, in rising order
abbrev pub wanted : Psi → List ℕ
wanted psi = filter (is_wanted psi) (range_with_len 0 CHANNELS)

-- whether there is one
abbrev pub wants_one : Psi → Bool
wants_one psi = list_any (is_wanted psi) (range_with_len 0 CHANNELS)

-- whether a fork looks at its channels before its next unit: its interrupts are on, it has a table, and an active channel is pending
unfoldable pub is_interrupted : Psi → Bool
is_interrupted psi = psi.on && is_some psi.table && wants_one psi

-- whether a level is less than each in progress
abbrev pub goes_before : ℕ → Psi → Bool
goes_before level psi = not (list_any (λ on. on) (take level psi.levels))

-- the least level in progress
abbrev pub least_level : Psi → Option ℕ
least_level psi = find (λ level. slice_index_or psi.levels (level - 1) false) (range_with_len 1 LEVELS)

-- the addresses of a channel's word and of a level's, LEVTAB,,CHNTAB being the table
abbrev pub channel_at : ℕ → ℕ → ℕ
channel_at table channel = (right table + channel) % 2 ^ 18

abbrev pub level_at : ℕ → ℕ → ℕ
level_at table level = (left table + (level - 1)) % 2 ^ 18

-- the better of two channels that can be taken: that of less level, and of equal levels the one that was found first
abbrev pub better : Found → Option Found → Found
better new old = option_map_or (λ best. if nat_lt new.level best.level then new else best) old new

-- what the word of a channel tells: a level that is none forces the fork, and so does a panic channel that can't be taken; else one goes
-- on, with the best so far
abbrev pub judged : Psi → ℕ → ℕ → Option Found → (Option Found → Reading Inspected) → Reading Inspected
judged psi channel word best next =
    if not (nat_le 1 (left word) && nat_le (left word) LEVELS) then read (Forces channel)
    else (if goes_before (left word) psi then next (Some (better (record { channel = channel; level = left word; to = right word }) best))
    else (if is_panic channel then read (Forces channel) else next best))

-- the best channel is taken: the word of its level names the address at which the PC word is stored
abbrev pub chosen : Regs → ℕ → Option Found → Reading Inspected
chosen regs table None = read Nothing
chosen regs table (Some best) =
    words (word_steps regs (level_at table best.level)) (λ w. words (refers (right w) Write (ends_with regs)) (λ old.
    read (Delivers (record { found = best; at = right w }))))

-- channels are looked at in order, by their words
unfoldable pub inspecting : Fork → ℕ → List ℕ → Option Found → Reading Inspected
inspecting f table [] best = chosen f.body.regs table best
inspecting f table (channel ∷ channels) best = words (word_steps f.body.regs (channel_at table channel)) (λ w. judged f.body.psi channel w best (inspecting f table channels))

-- THE INSPECTION OF A FORK: all its channels that are active and pending are looked at
abbrev pub inspection : Fork → Reading Inspected
inspection f = option_map_or (λ table. inspecting f table (wanted f.body.psi) None) f.body.psi.table (read Nothing)

-- the same as a turn, which changes nothing
abbrev pub inspection_turn : Fork → Turn ⊥ Inspected
inspection_turn f = with_reading f.name f.body.regs (inspection f) (λ what. ends (Done what f.body.regs None None))

-- what an inspection comes to that ended so: a reference that is denied, or for which the drum is full, forces the fork
abbrev pub inspected_by : End Inspected → Inspected
inspected_by (Done what regs out post) = what
inspected_by (Trap channel) = Forces channel
inspected_by other = Nothing

-- the PC word of a fork that is interrupted, whose program counter isn't advanced
abbrev pub interrupted_word : Regs → ℕ
interrupted_word regs = joined (flags_half regs.flags) regs.pc

-- the accumulators with it, where it is stored in one
abbrev pub accumulators_with : Regs → ℕ → List ℕ
accumulators_with regs at = if is_accumulator at then slice_set regs.ac at (interrupted_word regs) else regs.ac

-- a channel is no more pending, and its level is in progress
abbrev pub with_level : Psi → Found → Psi
with_level psi taken = record psi { pending = without_channels psi.pending (channel_word taken.channel); levels = slice_set psi.levels (taken.level - 1) true }

-- a fork behind a delivery but for its count of units: it goes on at the channel's address, without BIS, and sleeps no more
abbrev pub delivered : Fork → Delivery → Fork
delivered f d = record f {
  body = record f.body {
    regs = record f.body.regs { ac = accumulators_with f.body.regs d.at; pc = d.found.to; flags = without_bis f.body.regs.flags };
    psi = with_level f.body.psi d.found;
    sleep = None;
  };
}

module _ {K : Type 0} {file_cmp : K → K → Ordering} where
  -- how the inspection of a fork comes out on these pages
  abbrev pub inspected : Fork → PlainPages file_cmp → Came file_cmp Inspected
  inspected f p = turn_on no_files p (with_reading f.name f.body.regs (inspection f) (λ what. ends (Done what f.body.regs None None)))

  -- the pages with the PC word stored, where that goes into one
  abbrev pub stored_word : PlainPages file_cmp → Fork → Delivery → PlainPages file_cmp
  stored_word p f d = put_into f.name p (if is_accumulator d.at then None else Some (record { at = d.at; word = interrupted_word f.body.regs }))
