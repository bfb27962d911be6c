-- As many words as bytes are read cross one end of a page at most: their pages are two.
use Rattle.std.proofs.Common.{◌≡◌, ℕ, ◌+◌, ◌-◌, ◌/◌, ◌%◌, ◌^◌, ◌<◌, ◌≤◌, Bool, true, false, cond, Option, None, Some, refl, sym, ◌∙◌, ap, subst, arith, ◌⊎◌, inl, inr}
use Rattle.std.specs.Prelude.{Ok, nat_le}
use Rattle.std.proofs.lemmas.Bool.{cases_lt}
use Rattle.word36.specs.Words.{right}
use Rattle.word36.specs.Bytes.{in_next_word, incremented, position, size, with_position}
use Rattle.ka10_unit.specs.Gathers.{weight}
use Rattle.ka10_unit.specs.Taking.{read_frames}
use Rattle.text_pointers.specs.declared.reader.Reader.{Reader}
use Rattle.text_pointers.specs.Reading.{MayRefer, RefersOnce}

-- the last page so many ends of pages behind that of an address, of which so many words are passed, where so much was referred to before
pub record IsPageBehind (before first k w n : ℕ) : Type 0 where
  pub crossed : ℕ
  pub page : n ≡ (first / 512 + crossed) % 512
  pub few : crossed ≤ (first % 512 + k) / 512
  pub weight_is : w ≤ before + 1 + crossed

-- the pages that were referred to, so many words behind an address, with the weight of all references
abbrev pub Crosses : ℕ → ℕ → ℕ → ℕ → Option ℕ → Type 0
Crosses before first k w None = w ≤ before
Crosses before first k w (Some n) = IsPageBehind before first k w n

-- a reader is so many words at most behind an address
pub record IsBehind (before first most at : ℕ) (r : Reader) : Type 0 where
  pub passed : ℕ
  pub few : passed ≤ most
  pub here : at ≡ (first + passed) % 2 ^ 18
  pub crosses : Crosses before first passed (weight r.gather) r.page

pub none_behind : (before first : ℕ) (r : Reader) → first < 2 ^ 18 → r.page ≡ None → weight r.gather ≤ before → IsBehind before first 0 first r
none_behind before first r low none few = record { passed = 0; few = omega arith; here = omega arith; crosses = subst (Crosses before first 0 (weight r.gather)) (sym none) few }

-- there is room for the page of the next word
pub may_refer : (before first i at : ℕ) (r : Reader) → before ≤ read_frames → i < 40 → IsBehind before first i at r → MayRefer r (at / 512)
may_refer before first i at r begun less b = by r.page refl b.crosses
  where
    second : (n : ℕ) (h : IsPageBehind before first b.passed (weight r.gather) n) → 1 ≤ h.crossed → n ≡ at / 512
    second n h one = omega (arith, h.page, h.few, b.few, b.here, less, one)

    by : (o : Option ℕ) → r.page ≡ o → Crosses before first b.passed (weight r.gather) o → MayRefer r (at / 512)
    by None is few = inr (omega (arith, few, begun))
    by (Some n) is h = elim (cases_lt h.crossed 1) [
      | inl none ↦ inr (omega (arith, none, h.weight_is, begun))
      | inr one ↦ inl (is ∙ ap Some (second n h one))
    ]

-- another page than the last is one more behind
more_crossed : (first k c n at : ℕ) → n ≡ (first / 512 + c) % 512 → c ≤ (first % 512 + k) / 512 → at ≡ (first + k) % 2 ^ 18 → (n ≡ at / 512 → ⊥) → c + 1 ≤ (first % 512 + k) / 512
more_crossed first k c n at page few here other = elim (cases_lt c ((first % 512 + k) / 512)) [
  | inl less ↦ omega (arith, less)
  | inr most ↦ absurd (other (omega (arith, page, few, here, most)))
]

module _ (before first : ℕ) where
  -- what is so many words behind is more behind, and no heavier
  widened : (k l w v : ℕ) (o : Option ℕ) → k ≤ l → v ≤ w → Crosses before first k w o → Crosses before first l v o
  widened k l w v None more less few = omega (arith, less, few)
  widened k l w v (Some n) more less h = record { crossed = h.crossed; page = h.page; few = omega (arith, h.few, more); weight_is = omega (arith, h.weight_is, less) }

  -- the next word is as many behind, or one more
  pub steps_behind : (i at to : ℕ) (r : Reader) → IsBehind before first i at r → (to ≡ at) ⊎ (to ≡ (at + 1) % 2 ^ 18) → IsBehind before first (i + 1) to r
  steps_behind i at to r b (inl same) = record { passed = b.passed; few = omega (arith, b.few); here = same ∙ b.here; crosses = b.crosses }
  steps_behind i at to r b (inr one) = record {
    passed = b.passed + 1;
    few = omega (arith, b.few);
    here = omega (arith, b.here, one);
    crosses = widened b.passed (b.passed + 1) (weight r.gather) (weight r.gather) r.page (omega arith) (omega arith) b.crosses;
  }

  -- a word that was read is as many behind
  pub refers_behind : {A : Type 0} (i at : ℕ) (old new : Reader) (x : A) → IsBehind before first i at old → RefersOnce {A = A} old new (at / 512) (Ok x) → IsBehind before first i at new
  refers_behind i at old new x b once = record { passed = b.passed; few = b.few; here = b.here; crosses = crosses once }
    where
      here : at / 512 ≡ (first / 512 + (first % 512 + b.passed) / 512) % 512
      here = let is = b.here in omega (arith, is)

      crosses : RefersOnce {A = _} old new (at / 512) (Ok x) → Crosses before first b.passed (weight new.gather) new.page
      crosses (inl same) =
          subst (Crosses before first b.passed (weight new.gather)) (sym same.page) (widened b.passed b.passed (weight old.gather) (weight new.gather) old.page (omega arith) same.weight_is b.crosses)
      crosses (inr more) = subst (Crosses before first b.passed (weight new.gather)) (sym more.page_is) (by old.page refl b.crosses)
        where
          by : (o : Option ℕ) → old.page ≡ o → Crosses before first b.passed (weight old.gather) o → IsPageBehind before first b.passed (weight new.gather) (at / 512)
          by None is few = record { crossed = (first % 512 + b.passed) / 512; page = here; few = omega arith; weight_is = omega (arith, few, more.weight_is) }
          by (Some n) is h =
              let farther = more_crossed first b.passed h.crossed n at h.page h.few b.here (λ same. more.other (is ∙ ap Some same)) in
              record { crossed = (first % 512 + b.passed) / 512; page = here; few = omega arith; weight_is = omega (arith, h.weight_is, more.weight_is, farther) }

  -- so many words wide, two pages were referred to at most
  pub two_behind : (i at : ℕ) (r : Reader) → i ≤ 512 → IsBehind before first i at r → weight r.gather ≤ before + 2
  two_behind i at r few b = by r.page b.crosses
    where
      by : (o : Option ℕ) → Crosses before first b.passed (weight r.gather) o → weight r.gather ≤ before + 2
      by None h = omega (arith, h)
      by (Some n) h = omega (arith, h.few, h.weight_is, b.few, few)

-- an increment names a byte in the same word, or in the next
pub address_goes : (p : ℕ) → (right (incremented p) ≡ right p) ⊎ (right (incremented p) ≡ (right p + 1) % 2 ^ 18)
unfolding incremented
address_goes p = by (nat_le (size p) (position p))
  where
    by : (b : Bool) → let next = cond b (with_position p (position p - size p)) (with_position (in_next_word p) ((36 + 64 - size p) % 64)) in (right next ≡ right p) ⊎ (right next ≡ (right p + 1) % 2 ^ 18)
    by true = inl (omega arith)
    by false = inr (omega arith)
