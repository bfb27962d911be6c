-- A channel that is posted to a fork at ease, which takes it, is the only one that the fork wants, and is delivered next.
use Rattle.std.proofs.Common.{◌≡◌, ◌≢◌, ◌<◌, ◌≤◌, ◌+◌, ◌-◌, ◌&&◌, ◌||◌, ◌⊎◌, not, ℕ, zero, suc, Bool, true, false, cond, List, [], ◌∷◌, inl, inr, refl, sym, ◌∙◌, ap, arith}
use Rattle.std.specs.Prelude.{IsSome, ◌==◌, is_some, max, min, slice_index}
use Rattle.std.specs.List.{filter, range_with_len}
use Rattle.std.specs.Int.{bit_at}
use Rattle.std.proofs.lemmas.Bool.{cases_Bool, cases_eq, eq-eqb, ne_eqb}
use Rattle.std.proofs.lemmas.Nat.Bits.{bit_at-lt, bit_at-pow_other, bit_at-pow_same}
use Rattle.word36.specs.Boolean.{boolean_bits, boolean_word, function_of}
use Rattle.word36.specs.Words.{bit}
use Rattle.word36.specs.declared.opcodes.TheConstants.{ANDCM, IOR}
use Rattle.word36.proofs.BitSums.{bit_at-from_bits}
use Rattle.plain_pages.specs.PlainPages.{NamedPages}
use Rattle.plain_model.specs.declared.fork.Fork.{Fork}
use Rattle.plain_model.specs.declared.fork.Psi.{Psi}
use Rattle.plain_model.specs.declared.interrupt.Delivery.{Delivery}
use Rattle.plain_model.specs.declared.interrupt.Inspected.{Inspected}
use Rattle.plain_model.specs.declared.interrupt.Inspected.TheVariants.{Delivers}
use Rattle.plain_model.specs.declared.interrupt.TheConstants.{CHANNELS}
use Rattle.plain_model.specs.Calls.{Came}
use Rattle.plain_model.specs.Forks.{no_levels}
use Rattle.plain_model.proofs.Posted.{posted_mark}
use Rattle.plain_model.specs.Inspections.{inspected_by, is_interrupted, is_wanted, wanted}
use Rattle.plain_model.specs.Interrupts.{channel_word, has_channel, listens, posted, with_channels, with_pending, without_channels}
use Rattle.plain_model.specs.State.{PlainState}
use Rattle.plain_model.specs.Unit.{taken_up, unit}
use Rattle.machine_names.specs.Orders.{name_cmp}
use Rattle.plain_laws.specs.InterruptLaws.{FindsWords, IsAtEase}
use Rattle.plain_laws.specs.JfnLaws.{Lives}
use Rattle.plain_laws.proofs.InterruptUnits.{looks_so, posted_pending, unit_found}
use Rattle.plain_laws.proofs.ReadingsTaken.{inspected_so}

or_true : (b : Bool) → (b || true) ≡ true
or_true true = refl
or_true false = refl

or_false : (b : Bool) → (b || false) ≡ b
or_false true = refl
or_false false = refl

and_true : (b : Bool) → (b && true) ≡ b
and_true true = refl
and_true false = refl

and_false : (b : Bool) → (b && false) ≡ false
and_false true = refl
and_false false = refl

-- ---- the bits of what is pending

-- the channels of either word
either_bits : (some more i : ℕ) → i < 36 → bit_at (with_channels some more) i ≡ max (bit_at some i) (bit_at more i)
unfolding boolean_word
either_bits some more i below = bit_at-from_bits 36 (λ k. slice_index (boolean_bits (bit_at some k) (bit_at more k)) (function_of IOR)) (λ k h. small k) i below
  where
    small : (k : ℕ) → max (bit_at some k) (bit_at more k) < 2
    small k = omega (arith, bit_at-lt some k, bit_at-lt more k)

-- those of one that aren't in the other
minus_bits : (some others i : ℕ) → i < 36 → bit_at (without_channels some others) i ≡ min (bit_at some i) (1 - bit_at others i)
unfolding boolean_word
minus_bits some others i below = bit_at-from_bits 36 (λ k. slice_index (boolean_bits (bit_at some k) (bit_at others k)) (function_of ANDCM)) (λ k h. small k) i below
  where
    small : (k : ℕ) → min (bit_at some k) (1 - bit_at others k) < 2
    small k = omega (arith, bit_at-lt some k, bit_at-lt others k)

module _ (word channel : ℕ) (fits : channel < CHANNELS) where
  pending_there : has_channel (with_channels word (channel_word channel)) channel ≡ true
  pending_there = ap (λ n. n == 1) is
    where
      is : bit (with_channels word (channel_word channel)) channel ≡ 1
      is = either_bits word (channel_word channel) (35 - channel) (omega arith) ∙ ap (max (bit_at word (35 - channel))) (bit_at-pow_same (35 - channel)) ∙ omega (arith, bit_at-lt word (35 - channel))

  pending_other : (k : ℕ) → k < CHANNELS → k ≢ channel → has_channel (with_channels word (channel_word channel)) k ≡ has_channel word k
  pending_other k below other = ap (λ n. n == 1) is
    where
      is : bit (with_channels word (channel_word channel)) k ≡ bit word k
      is = either_bits word (channel_word channel) (35 - k) (omega arith) ∙ ap (max (bit_at word (35 - k))) (bit_at-pow_other (35 - channel) (35 - k) (omega (arith, below, other, fits))) ∙ omega arith

  spent_there : has_channel (without_channels word (channel_word channel)) channel ≡ false
  spent_there = ap (λ n. n == 1) is
    where
      is : bit (without_channels word (channel_word channel)) channel ≡ 0
      is = minus_bits word (channel_word channel) (35 - channel) (omega arith) ∙ ap (λ m. min (bit_at word (35 - channel)) (1 - m)) (bit_at-pow_same (35 - channel)) ∙ omega arith

  spent_other : (k : ℕ) → k < CHANNELS → k ≢ channel → has_channel (without_channels word (channel_word channel)) k ≡ has_channel word k
  spent_other k below other = ap (λ n. n == 1) is
    where
      is : bit (without_channels word (channel_word channel)) k ≡ bit word k
      is =
          minus_bits word (channel_word channel) (35 - k) (omega arith) ∙ ap (λ m. min (bit_at word (35 - k)) (1 - m)) (bit_at-pow_other (35 - channel) (35 - k) (omega (arith, below, other, fits)))
          ∙ omega (arith, bit_at-lt word (35 - k))

  -- each channel of a word with one more, and of one less
  pub more_told : (k : ℕ) → k < CHANNELS → has_channel (with_channels word (channel_word channel)) k ≡ (has_channel word k || (k == channel))
  more_told k below = by (cases_eq k channel)
    where
      by : (k ≡ channel) ⊎ (k ≢ channel) → has_channel (with_channels word (channel_word channel)) k ≡ (has_channel word k || (k == channel))
      by (inl e) = ap (has_channel (with_channels word (channel_word channel))) e ∙ pending_there ∙ sym (or_true (has_channel word k)) ∙ ap (λ b. has_channel word k || b) (sym (eq-eqb k channel e))
      by (inr ne) = pending_other k below ne ∙ sym (or_false (has_channel word k)) ∙ ap (λ b. has_channel word k || b) (sym (ne_eqb k channel ne))

  pub less_told : (k : ℕ) → k < CHANNELS → has_channel (without_channels word (channel_word channel)) k ≡ (has_channel word k && not (k == channel))
  less_told k below = by (cases_eq k channel)
    where
      by : (k ≡ channel) ⊎ (k ≢ channel) → has_channel (without_channels word (channel_word channel)) k ≡ (has_channel word k && not (k == channel))
      by (inl e) = ap (has_channel (without_channels word (channel_word channel))) e ∙ spent_there ∙ sym (and_false (has_channel word k)) ∙ ap (λ b. has_channel word k && not b) (sym (eq-eqb k channel e))
      by (inr ne) = spent_other k below ne ∙ sym (and_true (has_channel word k)) ∙ ap (λ b. has_channel word k && not b) (sym (ne_eqb k channel ne))

-- ---- one number of a range passes a test

none_pass : (p : ℕ → Bool) (from n : ℕ) → ((k : ℕ) → from ≤ k → k < from + n → p k ≡ false) → filter p (range_with_len from n) ≡ []
none_pass p from zero fails = refl
none_pass p from (suc n) fails =
    ap (λ b. cond b (from ∷ filter p (range_with_len (from + 1) n)) (filter p (range_with_len (from + 1) n))) (fails from (omega arith) (omega arith))
    ∙ none_pass p (from + 1) n (λ k low below. fails k (omega (arith, low)) (omega (arith, below)))

one_passes : (p : ℕ → Bool) (c from n : ℕ) → from ≤ c → c < from + n → p c ≡ true → ((k : ℕ) → from ≤ k → k < from + n → k ≢ c → p k ≡ false) → filter p (range_with_len from n) ≡ c ∷ []
one_passes p c from zero low below is fails = absurd (omega (arith, low, below))
one_passes p c from (suc n) low below is fails = by (p from) refl (λ later. one_passes p c (from + 1) n later (omega (arith, below)) is (λ k l b other. fails k (omega (arith, l)) (omega (arith, b)) other))
  where
    rest : List ℕ
    rest = filter p (range_with_len (from + 1) n)

    by : (b : Bool) → p from ≡ b → (from + 1 ≤ c → rest ≡ c ∷ []) → cond b (from ∷ rest) rest ≡ c ∷ []
    by true here more = ap (λ x. x ∷ rest) same ∙ ap (λ l. c ∷ l) (none_pass p (from + 1) n (λ k l b. fails k (omega (arith, l)) (omega (arith, b)) (omega (arith, l, same))))
      where
        same : from ≡ c
        same = elim (cases_eq from c) [
          | inl e ↦ e
          | inr ne ↦ absurd (let never : true ≡ false = sym here ∙ fails from (omega arith) (omega arith) ne in cc never)
        ]
    by false here more = (let other : from ≢ c = λ e. (let never : true ≡ false = sym is ∙ ap p (sym e) ∙ here in cc never) in more (omega (arith, low, other)))

-- ---- posting

module _ (f : Fork) (channel : ℕ) (fits : channel < CHANNELS) (takes : listens f.body.psi channel ≡ true) where
  abbrev then : Psi
  then = with_pending f.body.psi channel

  taken_by : (psi : Psi) → listens psi channel ≡ true → (psi.on ≡ true) × IsSome psi.table × (has_channel psi.active channel ≡ true)
  taken_by psi h = by psi.on (is_some psi.table) (has_channel psi.active channel) refl refl refl h
    where
      by : (a b c : Bool) → psi.on ≡ a → is_some psi.table ≡ b → has_channel psi.active channel ≡ c → (a && b && c) ≡ true → (psi.on ≡ true) × IsSome psi.table × (has_channel psi.active channel ≡ true)
      by true true true x y z e = (x, y, z)
      by true true false x y z e = absurd (cc e)
      by true false c x y z e = absurd (cc e)
      by false b c x y z e = absurd (cc e)

  all : (f.body.psi.on ≡ true) × IsSome f.body.psi.table × (has_channel f.body.psi.active channel ≡ true)
  all = taken_by f.body.psi takes

  wanted_it : is_wanted then channel ≡ true
  wanted_it = ap (λ b. b && has_channel then.pending channel) all.2 ∙ pending_there f.body.psi.pending channel fits

  pub looks_then : is_interrupted (posted f channel).body.psi ≡ true
  looks_then = ap (λ (g : Fork). is_interrupted g.body.psi) (posted_pending f channel takes) ∙ looks_so then all.0 all.1 (channel, fits, wanted_it)

  module _ (ease : IsAtEase f.body.psi) where
    no_other : (k : ℕ) → k < CHANNELS → k ≢ channel → is_wanted then k ≡ false
    no_other k below other = ap (λ b. has_channel f.body.psi.active k && b) (pending_other f.body.psi.pending channel fits k below other) ∙ unwanted
      where
        unwanted : is_wanted f.body.psi k ≡ false
        unwanted = elim (cases_Bool (is_wanted f.body.psi k)) [
          | inl wants ↦ absurd (ease.0 (k, below, wants))
          | inr is ↦ is
        ]

    one_wanted : wanted (posted f channel).body.psi ≡ channel ∷ []
    one_wanted = ap (λ (g : Fork). wanted g.body.psi) (posted_pending f channel takes) ∙ one_passes (is_wanted then) channel 0 CHANNELS (omega arith) (omega (arith, fits)) wanted_it (λ k low below other. no_other k (omega (arith, below)) other)

    at_ease : (posted f channel).body.psi.levels ≡ no_levels
    at_ease = ap (λ (g : Fork). g.body.psi.levels) (posted_pending f channel takes) ∙ ease.1

    -- IT IS DELIVERED NEXT
    pub delivered_next : (s : PlainState) (d : Delivery) (q : NamedPages) → Lives s (posted f channel) → FindsWords s.pages (posted f channel) channel d q → unit s f.name ≡ taken_up s q (posted f channel) d
    delivered_next s d q lives finds =
        let g = posted f channel in
        let same = posted_mark f channel in
        let so = inspected_so g s.pages q channel d finds one_wanted at_ease in
        ap (unit s) (sym same.0) ∙ unit_found s g lives (Delivers d) looks_then (ap (λ (c : Came name_cmp Inspected). inspected_by c.end) so) ∙ ap (λ (c : Came name_cmp Inspected). taken_up s c.pages g d) so
