-- A channel that is delivered: it is no more pending, and its level is in progress.
use Rattle.std.proofs.Common.{◌≡◌, ◌≢◌, ℕ, ◌+◌, ◌-◌, ◌<◌, true, false, length, ap, arith, lit≤}
use Rattle.std.specs.Prelude.{◌==◌}
use Rattle.std.proofs.lemmas.List.{get_or-set_other, get_or-set_same}
use Rattle.std.proofs.lemmas.Nat.Bits.{bit_at-pow_other, bit_at-pow_same}
use Rattle.word36.specs.declared.opcodes.TheConstants.{TRN}
use Rattle.ka10_alu.specs.MaskedBits.{ChangesMasked}
use Rattle.ka10_alu.proofs.MaskedBits.{changes_masked}
use Rattle.plain_model.specs.declared.fork.Psi.{Psi}
use Rattle.plain_model.specs.declared.interrupt.Found.{Found}
use Rattle.plain_model.specs.Inspections.{with_level}
use Rattle.plain_model.specs.Interrupts.{channel_word, has_channel, without_channels}
use Rattle.psi_system.specs.Judgements.{FitsFound}
use Rattle.psi_system.specs.Laws.{IsTakenUp}

module _ (pending channel : ℕ) where
  masks : ChangesMasked 1 pending (channel_word channel) (without_channels pending (channel_word channel))
  masks = changes_masked (TRN + 16) pending (channel_word channel) (lit≤ tt, lit≤ tt)

  its_own : channel < 36 → has_channel (without_channels pending (channel_word channel)) channel ≡ false
  its_own low = ap (λ (b : ℕ). b == 1) (masks.masked channel low (bit_at-pow_same (35 - channel)))

  another : (c : ℕ) → channel < 36 → c < 36 → c ≢ channel → has_channel (without_channels pending (channel_word channel)) c ≡ has_channel pending c
  another c low h other = ap (λ (b : ℕ). b == 1) (masks.others c h (bit_at-pow_other (35 - channel) (35 - c) (λ same. other (omega (arith, same, low, h)))))

pub taken_up : (psi : Psi) (found : Found) → FitsFound found → length psi.levels ≡ 3 → IsTakenUp psi (with_level psi found) found
taken_up psi found fits room = record {
  channel = its_own psi.pending found.channel fits.channel;
  channels = λ c h other. another psi.pending found.channel c fits.channel h other;
  level = get_or-set_same psi.levels (found.level - 1) true false (omega (arith, room, fits.low, fits.high));
  levels = λ l low other. get_or-set_other psi.levels (found.level - 1) (l - 1) true false (λ same. other (omega (arith, same, low, fits.low)));
}
