-- A PC word gives back the flags and the address that it was made of.
use Rattle.std.proofs.Common.{◌≡◌, ℕ, ◌+◌, ◌*◌, ◌/◌, ◌%◌, ◌^◌, ◌<◌, ◌≤◌, Bool, true, false, refl, ◌∙◌, ap, arith}
use Rattle.std.specs.Prelude.{◌==◌}
use Rattle.std.specs.Int.{bit_at}
use Rattle.word36.specs.declared.flags.Flags.{Flags}
use Rattle.word36.specs.Words.{joined, left, right}
use Rattle.plain_units.specs.Deeds.{flag_bit, flags_half, half_flags}
use Rattle.plain_units.specs.declared.registers.Regs.{Regs}
use Rattle.plain_model.specs.Inspections.{interrupted_word}
use Rattle.plain_model.specs.InterruptCalls.{restored}

-- a flag as a number, 0 or 1
abbrev one_if : Bool → ℕ
one_if true = 1
one_if false = 0

one_most : (on : Bool) → one_if on ≤ 1
one_most true = omega arith
one_most false = omega arith

one_told : (on : Bool) → (one_if on == 1) ≡ on
one_told true = refl
one_told false = refl

flag_is : (on : Bool) (n : ℕ) → flag_bit on n ≡ one_if on * 2 ^ n
flag_is true n = omega arith
flag_is false n = omega arith

-- a left half with such flags
abbrev half : (o c d e g n : ℕ) → ℕ
half o c d e g n = o * 131072 + c * 65536 + d * 32768 + e * 16384 + g * 8192 + 4096 + n * 32

module _ (o c d e g n : ℕ) (ho : o ≤ 1) (hc : c ≤ 1) (hd : d ≤ 1) (he : e ≤ 1) (hg : g ≤ 1) (hn : n ≤ 1) where
  at_17 : half o c d e g n / 131072 % 2 ≡ o
  at_17 = omega arith

  at_16 : half o c d e g n / 65536 % 2 ≡ c
  at_16 = omega arith

  at_15 : half o c d e g n / 32768 % 2 ≡ d
  at_15 = omega arith

  at_14 : half o c d e g n / 16384 % 2 ≡ e
  at_14 = omega arith

  at_13 : half o c d e g n / 8192 % 2 ≡ g
  at_13 = omega arith

  at_5 : half o c d e g n / 32 % 2 ≡ n
  at_5 = omega arith

module _ (f : Flags) where
  abbrev of_flags : ℕ
  of_flags = half (one_if f.overflow) (one_if f.carry0) (one_if f.carry1) (one_if f.fov) (one_if f.bis) (one_if f.nodiv)

  half_is : flags_half f ≡ of_flags
  half_is = omega (arith, flag_is f.overflow 17, flag_is f.carry0 16, flag_is f.carry1 15, flag_is f.fov 14, flag_is f.bis 13, flag_is f.nodiv 5)

  told : (n : ℕ) (on : Bool) → of_flags / 2 ^ n % 2 ≡ one_if on → (bit_at (flags_half f) n == 1) ≡ on
  told n on is = ap (λ h. bit_at h n == 1) half_is ∙ ap (λ x. x == 1) is ∙ one_told on

  pub flags_back : half_flags (flags_half f) ≡ f
  flags_back =
      let o = one_most f.overflow in let c = one_most f.carry0 in let d = one_most f.carry1 in let e = one_most f.fov in let g = one_most f.bis in let n = one_most f.nodiv in
      λ i. record {
        overflow = told 17 f.overflow (at_17 _ _ _ _ _ _ o c d e g n) i;
        carry0 = told 16 f.carry0 (at_16 _ _ _ _ _ _ o c d e g n) i;
        carry1 = told 15 f.carry1 (at_15 _ _ _ _ _ _ o c d e g n) i;
        fov = told 14 f.fov (at_14 _ _ _ _ _ _ o c d e g n) i;
        bis = told 13 f.bis (at_13 _ _ _ _ _ _ o c d e g n) i;
        nodiv = told 5 f.nodiv (at_5 _ _ _ _ _ _ o c d e g n) i;
      }

left_of : (l r : ℕ) → r < 2 ^ 18 → left (joined l r) ≡ l
left_of l r low = omega (arith, low)

right_of : (l r : ℕ) → r < 2 ^ 18 → right (joined l r) ≡ r
right_of l r low = omega (arith, low)

-- THE REGISTERS COME BACK
pub restored_back : (regs other : Regs) → regs.pc < 2 ^ 18 → restored other (interrupted_word regs) ≡ record other { pc = regs.pc; flags = regs.flags }
restored_back regs other low =
    let l = left_of (flags_half regs.flags) regs.pc low in let r = right_of (flags_half regs.flags) regs.pc low in
    ap (λ n. record other { pc = n; flags = half_flags (left (interrupted_word regs)) }) r ∙ ap (λ h. record other { pc = regs.pc; flags = half_flags h }) l ∙ ap (λ (x : Flags). record other { pc = regs.pc; flags = x }) (flags_back regs.flags)
