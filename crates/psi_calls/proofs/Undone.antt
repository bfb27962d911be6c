-- DEBRK undoes a delivery.
use Rattle.std.proofs.Common.{◌≡◌, inl, inr, None, ℕ, ◌+◌, ◌-◌, ◌*◌, ◌/◌, ◌%◌, ◌^◌, ◌<◌, ◌≤◌, List, [], ◌∷◌, length, Bool, true, false, not, Option, Some, refl, sym, ◌∙◌, ap, subst, arith, lit<}
use Rattle.std.specs.Prelude.{◌==◌, find, slice_index_or, slice_set, take}
use Rattle.std.specs.List.{list_any, range_with_len}
use Rattle.std.specs.Option.{option_map, option_map_or}
use Rattle.std.proofs.lemmas.Bool.{cases_eq}
use Rattle.word36.specs.declared.flags.Flags.{Flags}
use Rattle.word36.specs.Words.{left, right}
use Rattle.plain_units.specs.declared.registers.Regs.{Regs}
use Rattle.plain_units.specs.Deeds.{flag_bit, flags_half, half_flags}
use Rattle.plain_model.specs.Inspections.{accumulators_with, interrupted_word}
use Rattle.psi_calls.specs.Laws.{UndoesDeliveries}

-- ---- the PC word

-- a flag as a number
abbrev number : Bool → ℕ
number true = 1
number false = 0

number-lt : (b : Bool) → number b < 2
number-lt true = lit< tt
number-lt false = lit< tt

flag_is : (b : Bool) (n : ℕ) → flag_bit b n ≡ number b * 2 ^ n
flag_is true n = omega arith
flag_is false n = omega arith

is_flag : (b : Bool) → (number b == 1) ≡ b
is_flag true = refl
is_flag false = refl

-- six digits of a number
record AreDigits (h a b c d e g : ℕ) : Type 0 where
  first : h / 2 ^ 17 % 2 ≡ a
  second : h / 2 ^ 16 % 2 ≡ b
  third : h / 2 ^ 15 % 2 ≡ c
  fourth : h / 2 ^ 14 % 2 ≡ d
  fifth : h / 2 ^ 13 % 2 ≡ e
  sixth : h / 2 ^ 5 % 2 ≡ g
  below : h < 2 ^ 18

digits : (h a b c d e g : ℕ) → a < 2 → b < 2 → c < 2 → d < 2 → e < 2 → g < 2 → h ≡ a * 2 ^ 17 + b * 2 ^ 16 + c * 2 ^ 15 + d * 2 ^ 14 + e * 2 ^ 13 + 2 ^ 12 + g * 2 ^ 5 → AreDigits h a b c d e g
digits h a b c d e g la lb lc ld le lg is = record { first = omega arith; second = omega arith; third = omega arith; fourth = omega arith; fifth = omega arith; sixth = omega arith; below = omega arith }

flag_digits : (f : Flags) → AreDigits (flags_half f) (number f.overflow) (number f.carry0) (number f.carry1) (number f.fov) (number f.bis) (number f.nodiv)
flag_digits f =
    digits (flags_half f) (number f.overflow) (number f.carry0) (number f.carry1) (number f.fov) (number f.bis) (number f.nodiv) (number-lt f.overflow) (number-lt f.carry0) (number-lt f.carry1) (number-lt f.fov) (number-lt f.bis) (number-lt f.nodiv)
    (omega (arith, flag_is f.overflow 17, flag_is f.carry0 16, flag_is f.carry1 15, flag_is f.fov 14, flag_is f.bis 13, flag_is f.nodiv 5))

flags_back : (f : Flags) → half_flags (flags_half f) ≡ f
flags_back f =
    let d = flag_digits f in
    let back = λ (x : ℕ) (b : Bool) (is : x ≡ number b). ap (λ n. n == 1) is ∙ is_flag b in
    (λ i. record { overflow = back _ f.overflow d.first i; carry0 = back _ f.carry0 d.second i; carry1 = back _ f.carry1 d.third i; fov = back _ f.fov d.fourth i; bis = back _ f.bis d.fifth i; nodiv = back _ f.nodiv d.sixth i })

half-lt : (f : Flags) → flags_half f < 2 ^ 18
half-lt f = (flag_digits f).below

pub word_back : (regs : Regs) → regs.pc < 2 ^ 18 → (half_flags (left (interrupted_word regs)) ≡ regs.flags) × (right (interrupted_word regs) ≡ regs.pc)
word_back regs low =
    let half = half-lt regs.flags in
    let is : left (interrupted_word regs) ≡ flags_half regs.flags = omega (arith, half, low) in
    (ap half_flags is ∙ flags_back regs.flags, omega (arith, half, low))

-- ---- the levels

abbrev pub least_of : List Bool → Option ℕ
least_of levels = find (λ level. slice_index_or levels (level - 1) false) (range_with_len 1 3)

pub record IsBack (levels : List Bool) (level : ℕ) : Type 0 where
  pub least : least_of (slice_set levels (level - 1) true) ≡ Some level
  pub back : slice_set (slice_set levels (level - 1) true) (level - 1) false ≡ levels

abbrev Free : List Bool → ℕ → Type 0
Free levels level = not (list_any (λ on. on) (take level levels)) ≡ true

first_back : (a b c : Bool) → Free (a ∷ b ∷ c ∷ []) 1 → IsBack (a ∷ b ∷ c ∷ []) 1
first_back false b c free = record { least = refl; back = refl }
first_back true b c free = absurd (cc free)

second_back : (a b c : Bool) → Free (a ∷ b ∷ c ∷ []) 2 → IsBack (a ∷ b ∷ c ∷ []) 2
second_back false false c free = record { least = refl; back = refl }
second_back false true c free = absurd (cc free)
second_back true b c free = absurd (cc free)

third_back : (a b c : Bool) → Free (a ∷ b ∷ c ∷ []) 3 → IsBack (a ∷ b ∷ c ∷ []) 3
third_back false false false free = record { least = refl; back = refl }
third_back false false true free = absurd (cc free)
third_back false true c free = absurd (cc free)
third_back true b c free = absurd (cc free)

levels_back : (levels : List Bool) (level : ℕ) → length levels ≡ 3 → 1 ≤ level → level ≤ 3 → Free levels level → IsBack levels level
levels_back [] level three low high free = absurd (omega (arith, three))
levels_back (a ∷ []) level three low high free = absurd (omega (arith, three))
levels_back (a ∷ b ∷ []) level three low high free = absurd (omega (arith, three))
levels_back (a ∷ b ∷ c ∷ d ∷ more) level three low high free = absurd (omega (arith, three))
levels_back (a ∷ b ∷ c ∷ []) level three low high free = elim (cases_eq level 1) [
  | inl is ↦ subst (IsBack (a ∷ b ∷ c ∷ [])) (sym is) (first_back a b c (subst (Free (a ∷ b ∷ c ∷ [])) is free))
  | inr one ↦ elim (cases_eq level 2) [
    | inl is ↦ subst (IsBack (a ∷ b ∷ c ∷ [])) (sym is) (second_back a b c (subst (Free (a ∷ b ∷ c ∷ [])) is free))
    | inr two ↦ (let is : level ≡ 3 = omega arith in subst (IsBack (a ∷ b ∷ c ∷ [])) (sym is) (third_back a b c (subst (Free (a ∷ b ∷ c ∷ [])) is free)))
  ]
]

-- ---- all

pub undoes : UndoesDeliveries
undoes f d table has three low first last free =
    let levels = levels_back f.body.psi.levels d.found.level three first last free in
    let word = word_back f.body.regs low in
    record {
      level = ap (λ (o : Option ℕ). option_map_or (λ t. option_map (λ (level : ℕ). (t, level)) (least_of (slice_set f.body.psi.levels (d.found.level - 1) true))) o None) has ∙ ap (option_map (λ (level : ℕ). (table, level))) levels.least;
      levels = levels.back;
      regs = (λ i. record f.body.regs { ac = accumulators_with f.body.regs d.at; pc = word.1 i; flags = word.0 i });
    }
