-- The channel that is delivered comes first of those that can be taken.
use Rattle.std.proofs.Common.{◌≡◌, ℕ, zero, suc, ◌+◌, ◌<◌, ◌≤◌, Bool, true, false, cond, List, ◌∷◌, Option, None, Some, refl, sym, ◌∙◌, ap, subst, inl, inr, arith}
use Rattle.std.specs.Prelude.{filter, nat_lt}
use Rattle.std.specs.List.{range_with_len}
use Rattle.std.specs.declared.cmp.Ordering.{Ordering}
use Rattle.std.proofs.lemmas.Bool.{cases_lt}
use Rattle.std.proofs.lemmas.Bool.Decides.{nat_tests}
use Rattle.word36.specs.Words.{left, right}
use Rattle.machine_names.specs.declared.names.Kind.TheVariants.{Read}
use Rattle.plain_pages.specs.PlainPages.{PlainPages}
use Rattle.plain_units.specs.Steps.{asked_at, goes, plainly, run}
use Rattle.plain_model.specs.declared.fork.Fork.{Fork}
use Rattle.plain_model.specs.declared.fork.Psi.{Psi}
use Rattle.plain_model.specs.declared.interrupt.Delivery.{Delivery}
use Rattle.plain_model.specs.declared.interrupt.Found.{Found}
use Rattle.plain_model.specs.declared.interrupt.Inspected.{Inspected}
use Rattle.plain_model.specs.Calls.{turn_on}
use Rattle.plain_model.specs.Inspections.{better, channel_at, inspecting, is_wanted, judged}
use Rattle.plain_model.specs.Readings.{Reading, with_reading, word_steps, words}
use Rattle.psi_system.specs.Laws.{AreReady, CanTake, ComesFirst, IsDelivered, IsFirst, word_of_channel}
use Rattle.psi_system.proofs.Ends.{Ends, by_table, chosen_ends, found_by, judged_ends}

module _ (psi : Psi) (word : ℕ → ℕ) where
  -- it comes first of those below a number
  record FirstBelow (n : ℕ) (found : Found) : Type 0 where
    below : found.channel < n
    wanted : is_wanted psi found.channel ≡ true
    level : found.level ≡ left (word found.channel)
    to : found.to ≡ right (word found.channel)
    takes : CanTake psi (word found.channel)
    first : (c : ℕ) → c < n → is_wanted psi c ≡ true → CanTake psi (word c) → ComesFirst found.level found.channel (left (word c)) c

  -- the best of those below a number; none can be taken where there is none
  abbrev BestBelow : ℕ → Option Found → Type 0
  BestBelow n None = (c : ℕ) → c < n → is_wanted psi c ≡ true → CanTake psi (word c) → ⊥
  BestBelow n (Some found) = FirstBelow n found

  -- the next can't be taken
  passes : (n : ℕ) (best : Option Found) → BestBelow n best → (is_wanted psi n ≡ true → CanTake psi (word n) → ⊥) → BestBelow (n + 1) best
  passes n None h never = λ c low is takes. elim (cases_lt c n) [
    | inl less ↦ h c less is takes
    | inr more ↦ (let here : c ≡ n = omega (arith, low, more) in never (subst (λ (k : ℕ). is_wanted psi k ≡ true) here is) (subst (λ (k : ℕ). CanTake psi (word k)) here takes))
  ]
  passes n (Some found) h never = record {
    below = omega (arith, h.below);
    wanted = h.wanted;
    level = h.level;
    to = h.to;
    takes = h.takes;
    first = λ c low is takes. elim (cases_lt c n) [
      | inl less ↦ h.first c less is takes
      | inr more ↦ absurd (let here : c ≡ n = omega (arith, low, more) in never (subst (λ (k : ℕ). is_wanted psi k ≡ true) here is) (subst (λ (k : ℕ). CanTake psi (word k)) here takes))
    ];
  }

  -- the next can be taken
  takes_next : (n : ℕ) (best : Option Found) → BestBelow n best → is_wanted psi n ≡ true → CanTake psi (word n) → BestBelow (n + 1) (Some (better (found_by n (word n)) best))
  takes_next n None h is takes = record {
    below = omega arith;
    wanted = is;
    level = refl;
    to = refl;
    takes = takes;
    first = λ c low wanted can. elim (cases_lt c n) [
      | inl less ↦ absurd (h c less wanted can)
      | inr more ↦ (let here : n ≡ c = omega (arith, low, more) in inr (ap (λ (k : ℕ). left (word k)) here, omega (arith, here)))
    ];
  }
  takes_next n (Some old) h is takes = by (nat_lt (left (word n)) old.level) refl
    where
      newer : left (word n) < old.level → FirstBelow (n + 1) (found_by n (word n))
      newer less_level = record {
        below = omega arith;
        wanted = is;
        level = refl;
        to = refl;
        takes = takes;
        first = λ c low wanted can. elim (cases_lt c n) [
          | inl less ↦ inl (elim (h.first c less wanted can) [ inl under ↦ omega (arith, under, less_level) | inr same ↦ (let e = same.0 in omega (arith, e, less_level)) ])
          | inr more ↦ (let here : n ≡ c = omega (arith, low, more) in inr (ap (λ (k : ℕ). left (word k)) here, omega (arith, here)))
        ];
      }

      older : old.level ≤ left (word n) → FirstBelow (n + 1) old
      older most = record {
        below = omega (arith, h.below);
        wanted = h.wanted;
        level = h.level;
        to = h.to;
        takes = h.takes;
        first = λ c low wanted can. elim (cases_lt c n) [
          | inl less ↦ h.first c less wanted can
          | inr more ↦
              (let here : left (word n) ≡ left (word c) = ap (λ (k : ℕ). left (word k)) (omega (arith, low, more)) in
              elim (cases_lt old.level (left (word c))) [ inl under ↦ inl under | inr over ↦ inr (omega (arith, over, most, here), omega (arith, h.below, more)) ])
        ];
      }

      by : (b : Bool) → nat_lt (left (word n)) old.level ≡ b → FirstBelow (n + 1) (cond b (found_by n (word n)) old)
      by true less = newer (grind (arith, nat_tests, less))
      by false more = older (grind (arith, nat_tests, more))

  first_of_all : (found : Found) → FirstBelow 36 found → IsFirst psi word found
  first_of_all found h = record { wanted = h.wanted; level = h.level; to = h.to; takes = h.takes; first = h.first }

first_passes : (p : ℕ → Bool) (c n : ℕ) → p c ≡ true → filter p (range_with_len c (suc n)) ≡ c ∷ filter p (range_with_len (c + 1) n)
first_passes p c n passes = rw passes refl

first_fails : (p : ℕ → Bool) (c n : ℕ) → p c ≡ false → filter p (range_with_len c (suc n)) ≡ filter p (range_with_len (c + 1) n)
first_fails p c n fails = rw fails refl

-- the channels from one on that are active and pending, so many numbers far
abbrev Wanted_from : Fork → ℕ → ℕ → List ℕ
Wanted_from f c n = filter (is_wanted f.body.psi) (range_with_len c n)

module _ {K : Type 0} {file_cmp : K → K → Ordering} (f : Fork) (d : Delivery) (p : PlainPages file_cmp) (table : ℕ) (ready : AreReady f.name p table) where
  abbrev Word : ℕ → ℕ
  Word = word_of_channel f.name f.body.regs p table

  -- the word of a channel is read
  reads_word : (c : ℕ) (rest : ℕ → Reading Inspected) → asked_at (plainly f.name) f.name p (channel_at table c) Read ≡ goes p → Ends f d (words (word_steps f.body.regs (channel_at table c)) rest) p → Ends f d (rest (Word c)) p
  unfolding turn_on with_reading run
  reads_word c rest here h = rw here at h

  all_looked : (n c : ℕ) (best : Option Found) → c + n ≡ 36 → BestBelow f.body.psi Word c best → Ends f d (inspecting f table (Wanted_from f c n) best) p → IsFirst f.body.psi Word d.found
  unfolding inspecting
  all_looked zero c best all so_far h =
      let at_end : c ≡ 36 = omega (arith, all) in
      first_of_all f.body.psi Word d.found (subst (BestBelow f.body.psi Word 36) (chosen_ends f d table best p h) (subst (λ (k : ℕ). BestBelow f.body.psi Word k best) at_end so_far))
  all_looked (suc n) c best all so_far h = by (is_wanted f.body.psi c) refl (λ more. all_looked n (c + 1) more (omega (arith, all)))
    where
      by : (b : Bool) → is_wanted f.body.psi c ≡ b
          → ((more : Option Found) → BestBelow f.body.psi Word (c + 1) more → Ends f d (inspecting f table (Wanted_from f (c + 1) n) more) p → IsFirst f.body.psi Word d.found)
          → IsFirst f.body.psi Word d.found
      by false is goes_on =
          goes_on best (passes f.body.psi Word c best so_far (λ one takes. let no : false ≡ true = sym is ∙ one in cc no))
          (subst (λ (cs : List ℕ). Ends f d (inspecting f table cs best) p) (first_fails (is_wanted f.body.psi) c n is) h)
      by true is goes_on =
          let first = subst (λ (cs : List ℕ). Ends f d (inspecting f table cs best) p) (first_passes (is_wanted f.body.psi) c n is) h in
          let word = reads_word c (λ w. judged f.body.psi c w best (inspecting f table (Wanted_from f (c + 1) n))) (ready c (omega (arith, all))) first in
          elim (judged_ends f d c (Word c) best (inspecting f table (Wanted_from f (c + 1) n)) p word) [
            | inl takes ↦ goes_on (Some (better (found_by c (Word c)) best)) (takes_next f.body.psi Word c best so_far is takes.0) takes.1
            | inr stays ↦ goes_on best (passes f.body.psi Word c best so_far (λ one. stays.0)) stays.1
          ]

  pub comes_first : f.body.psi.table ≡ Some table → IsDelivered f p d → IsFirst f.body.psi Word d.found
  comes_first there h =
      let t = by_table f d p h in
      let same : t.0 ≡ table = (let both : Some t.0 ≡ Some table = sym t.1 ∙ there in cc both) in
      all_looked 36 0 None (omega arith) (λ c low is takes. absurd (omega (arith, low))) (subst (λ (k : ℕ). Ends f d (inspecting f k (filter (is_wanted f.body.psi) (range_with_len 0 36)) None) p) same t.2)
