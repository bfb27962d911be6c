-- Effective addresses in place, word by word.
use Rattle.std.proofs.Common.{◌≡◌, ℕ, suc, ◌+◌, ◌-◌, ◌<◌, ◌≤◌, true, false, List, refl, sym, ◌∙◌, ap, subst, arith, Ordering}
use Rattle.machine_names.specs.declared.names.ForkName.{ForkName}
use Rattle.machine_names.specs.declared.names.Kind.TheVariants.{Read}
use Rattle.page_contracts.specs.Pages.{PagesMeaning}
use Rattle.plain_pages.specs.PlainPages.{NumberedPages, PlainPages}
use Rattle.plain_units.specs.Steps.{Steps}
use Rattle.plain_units.specs.Addressing.{address, address_within, indexed, is_indirect, last_taken, most_words}
use Rattle.ka10_deeds.specs.declared.word_fields.Address.{Address}
use Rattle.ka10_spots.specs.Glide.{glide, word_of, Takes, Addressed}
use Rattle.ka10_deeds.specs.Addresses.{addressed}
use Rattle.ka10_spots.specs.Spots.{IsLed, IsReached}
use Rattle.ka10_spots.proofs.Ready.{few}

module _ {K : Type 0} {file_cmp : K → K → Ordering} (f : ForkName) (p : PlainPages file_cmp) (ac : List ℕ) (before : ℕ) where
  -- a word that isn't indirect
  pub directly : (most w e last : ℕ) → 0 < most → is_indirect w ≡ false → e ≡ indexed ac w → last ≡ last_taken ac w → Addressed f p ac before most w e last
  unfolding address address_within
  directly most w e last some direct at is = record { count = before; few = omega arith; runs = λ next. rw (direct, ← at, ← is) refl }

  one_more : (i : ℕ) → i < 16 → most_words - i ≡ suc (most_words - (i + 1))
  one_more i h = omega arith

  -- the indirect words so far: what is left to do comes to what the whole does
  pub record Leads (first w i : ℕ) : Type 0 where
    pub runs : (next : ℕ → ℕ → Steps) → glide f p ac before (address ac first next) ≡ glide f p ac (before + i) (address_within (most_words - i) ac w next)

  pub leads_none : (first : ℕ) → Leads first first 0
  unfolding address
  leads_none first = record { runs = λ next. let same : before + 0 ≡ before = omega arith in rw same refl }

  pub leads_done : (most first w i e last : ℕ) → i < most → most < 16 → is_indirect w ≡ false → e ≡ indexed ac w → last ≡ last_taken ac w → Leads first w i → Addressed f p ac before most first e last
  unfolding address_within
  leads_done most first w i e last less short direct at is so_far = record { count = before + i; few = omega arith; runs = λ next. so_far.runs next ∙ rw (one_more i (omega arith), direct, ← at, ← is) refl }

  pub leads_on : (first w i e v : ℕ) → before + i < 16 → is_indirect w ≡ true → e ≡ indexed ac w → Takes f p ac e Read v → Leads first w i → Leads first v (i + 1)
  unfolding address_within glide
  leads_on first w i e v less ind at t so_far =
      let more : before + i + 1 ≡ before + (i + 1) = omega arith in
      record { runs = λ next. so_far.runs next ∙ rw (one_more i (omega arith), ind, ← at, few (before + i) less, t.ready, ← t.is, ← more) refl }

-- where all indirect words are reached, so is the one of a word, and those to come
module _ {P : Type 0} (means : PagesMeaning P) (pages : P) (f : ForkName) (p : NumberedPages) (ac : List ℕ) where
  pub led_from : (most first : ℕ) → IsLed means pages f p ac most first → IsLed means pages f p ac (most - 0) first
  led_from most first led = let same : most ≡ most - 0 = omega arith in subst (λ n. IsLed means pages f p ac n first) same led

  led_one : (most i w : ℕ) → i < most → is_indirect w ≡ true → IsLed means pages f p ac (most - i) w → IsReached means pages f (indexed ac w) Read × IsLed means pages f p ac (most - (i + 1)) (word_of f p ac (indexed ac w))
  led_one most i w less ind led = let one : most - i ≡ suc (most - (i + 1)) = omega (arith, less) in subst (λ n. IsLed means pages f p ac n w) one led ind

  pub led_reached : (most i w : ℕ) (a : Address) → i < most → is_indirect w ≡ true → a ≡ addressed ac w → IsLed means pages f p ac (most - i) w → IsReached means pages f a.e Read
  led_reached most i w a less ind at led = subst (λ e. IsReached means pages f e Read) (sym (ap (λ x. x.e) at)) (led_one most i w less ind led).0

  pub led_on : (most i w v : ℕ) (a : Address) → i < most → is_indirect w ≡ true → a ≡ addressed ac w → Takes f p ac a.e Read v → IsLed means pages f p ac (most - i) w → IsLed means pages f p ac (most - (i + 1)) v
  led_on most i w v a less ind at taken led =
      let v_is : word_of f p ac (indexed ac w) ≡ v = ap (λ x. word_of f p ac x.e) (sym at) ∙ sym taken.is in
      subst (IsLed means pages f p ac (most - (i + 1))) v_is (led_one most i w less ind led).1

  -- none leads on for ever
  pub led_no_further : (most i w : ℕ) → most ≤ i → IsLed means pages f p ac (most - i) w → ⊥
  led_no_further most i w over led = let none : most - i ≡ 0 = omega (arith, over) in subst (λ n. IsLed means pages f p ac n w) none led
