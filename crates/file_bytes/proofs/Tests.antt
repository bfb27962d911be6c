-- What tests of numbers answer.
use Rattle.std.proofs.Common.{◌≡◌, ℕ, ◌<◌, ◌≤◌, Bool, true, false, cond, ◌==◌, nat_le, nat_lt, inl, inr, sym, ◌∙◌, ap, arith}
use Rattle.std.proofs.lemmas.Bool.Decides.{eqb_tells, nat_tests}
use Rattle.plain_model.specs.declared.call.TheConstants.{SFPTR, SIZEF, RFPTR, BIN, BOUT, PBIN, TERMINAL_INPUT, TERMINAL_OUTPUT}
use Rattle.plain_units.specs.declared.channel.TheConstants.{ILLEGAL_INSTRUCTION}
use Rattle.plain_model.specs.declared.call.End.TheVariants.{Trap}
use Rattle.plain_model.specs.Calls.{ends}
use Rattle.plain_model.specs.ByteCalls.{ByteAsked, ByteTurn, bin, bout, by_number, byte_call, pbin, rfptr, sfptr, sizef}

module _ (a b : ℕ) where
  pub is_same : a ≡ b → (a == b) ≡ true
  is_same e = elim (eqb_tells a b) [ inl k ↦ k.0 | inr k ↦ absurd (k.1 e) ]

  pub is_other : (a ≡ b → ⊥) → (a == b) ≡ false
  is_other ne = elim (eqb_tells a b) [ inl k ↦ absurd (ne k.1) | inr k ↦ k.0 ]

  pub is_within : a ≤ b → nat_le a b ≡ true
  is_within h = grind (arith, nat_tests, h)

  pub is_beyond : b < a → nat_le a b ≡ false
  is_beyond h = grind (arith, nat_tests, h)

  pub is_below : a < b → nat_lt a b ≡ true
  is_below h = grind (arith, nat_tests, h)

  pub not_below : b ≤ a → nat_lt a b ≡ false
  not_below h = grind (arith, nat_tests, h)

-- what stands for the number of a JFN, or of the terminal
module _ {A : Type 0} (n : ℕ) (input output file : A) where
  pub at_input : n ≡ TERMINAL_INPUT → input ≡ by_number n input output file
  at_input e = sym (ap (λ b. cond b input (cond (n == TERMINAL_OUTPUT) output file)) (is_same n TERMINAL_INPUT e))

  pub at_output : n ≡ TERMINAL_OUTPUT → output ≡ by_number n input output file
  at_output e =
      sym (ap (λ b. cond b input (cond (n == TERMINAL_OUTPUT) output file)) (is_other n TERMINAL_INPUT (λ same. (let two : TERMINAL_OUTPUT ≡ TERMINAL_INPUT = sym e ∙ same in omega (arith, two))))
      ∙ ap (λ b. cond b output file) (is_same n TERMINAL_OUTPUT e))

  pub at_file : (n ≡ TERMINAL_INPUT → ⊥) → (n ≡ TERMINAL_OUTPUT → ⊥) → file ≡ by_number n input output file
  at_file first second =
      sym (ap (λ b. cond b input (cond (n == TERMINAL_OUTPUT) output file)) (is_other n TERMINAL_INPUT first)
      ∙ ap (λ b. cond b output file) (is_other n TERMINAL_OUTPUT second))

-- a number that is none of these calls
pub no_call : (number : ℕ) (a : ByteAsked) → (number ≡ SFPTR → ⊥) → (number ≡ SIZEF → ⊥) → (number ≡ RFPTR → ⊥) → (number ≡ BIN → ⊥) → (number ≡ BOUT → ⊥) → (number ≡ PBIN → ⊥)
    → ends (Trap ILLEGAL_INSTRUCTION) ≡ byte_call number a
no_call number a first second third fourth fifth sixth =
    sym (ap (λ b. cond b (sfptr a) (from_sizef (SIZEF == number))) (no SFPTR first) ∙ ap from_sizef (no SIZEF second) ∙ ap from_rfptr (no RFPTR third)
    ∙ ap from_bin (no BIN fourth) ∙ ap from_bout (no BOUT fifth) ∙ ap from_pbin (no PBIN sixth))
  where
    no : (k : ℕ) → (number ≡ k → ⊥) → (k == number) ≡ false
    no k ne = is_other k number (λ e. ne (sym e))

    from_pbin : Bool → ByteTurn
    from_pbin b = cond b (pbin a) (ends (Trap ILLEGAL_INSTRUCTION))

    from_bout : Bool → ByteTurn
    from_bout b = cond b (bout a) (from_pbin (PBIN == number))

    from_bin : Bool → ByteTurn
    from_bin b = cond b (bin a) (from_bout (BOUT == number))

    from_rfptr : Bool → ByteTurn
    from_rfptr b = cond b (rfptr a) (from_bin (BIN == number))

    from_sizef : Bool → ByteTurn
    from_sizef b = cond b (sizef a) (from_rfptr (RFPTR == number))
