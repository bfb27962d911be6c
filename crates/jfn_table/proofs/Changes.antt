-- What a change of one JFN leaves of what holds of a job's JFNs.
use Rattle.std.proofs.Common.{◌≡◌, ◌≢◌, ◌↔◌, ℕ, zero, suc, ◌+◌, ◌-◌, ◌<◌, ◌≤◌, ◌==◌, ◌⊎◌, inl, inr, Bool, true, false, cond, List, get_or, set, Some, None, Option, refl, sym, ◌∙◌, ap, subst, arith, rules, get_or-set_same, get_or-set_other}
use Rattle.std.specs.Prelude.{IfSome, slice_index, replicate}
use Rattle.std.proofs.lemmas.Bool.{cases_eq, cases_lt}
use Rattle.std.proofs.lemmas.List.{length-set, get_or-replicate, get_or_read, length-replicate}
use Rattle.std.specs.Ordering.{nat_cmp}
use Rattle.std.specs.FinMap as map
use Rattle.number_map.proofs.Keys.{get_put, get_put_other, get_gone, get_gone_other, same}
use Rattle.number_map.proofs.Full.{IsWithin, len_most}
use Rattle.plain_files.specs.declared.jfn.Jfn.{Jfn}
use Rattle.machine_names.specs.declared.names.TheConstants.{MOST_FILES}
use Rattle.plain_files.specs.declared.bounds.TheConstants.{MOST_JFNS}
use Rattle.jfn_table.specs.Counts.{CountNames}
use Rattle.plain_files.specs.JobFiles.{AreJfns, FitsJfn, Held, NamesNowhere, names_in, taken}
use Rattle.jfn_table.proofs.Entries.{passing_put, passing_gone, passing_replaced, passing_most}

-- whether a JFN names a file
abbrev names_it : ℕ → Jfn → Bool
names_it f jfn = jfn.file.0 == f

same_is : (a b : ℕ) → a ≡ b → (a == b) ≡ true
same_is a b e = grind (arith, rules)

other_is : (a b : ℕ) → a ≢ b → (a == b) ≡ false
other_is a b ne = grind (arith, rules)

-- the numbers of JFNs
pub within : (m : Held) → AreJfns m → IsWithin m 1 (1 + MOST_JFNS)
within m h = (λ k low. ap (λ n. map.get m n) (let zero_is : k ≡ 0 = omega arith in zero_is) ∙ h.from_one, λ k high. h.most k (omega arith))

pub names_most : (m : Held) (f : ℕ) → AreJfns m → names_in m f ≤ MOST_JFNS
unfolding names_in
names_most m f h = omega (arith, passing_most (names_it f) m, len_most m 1 MOST_JFNS (within m h))

module _ (m : Held) (n : ℕ) where
  pub jfns_put : (jfn : Jfn) → AreJfns m → 1 ≤ n → n ≤ MOST_JFNS → FitsJfn jfn → AreJfns (map.insert m n jfn)
  jfns_put jfn h low high fits = record {
    from_one = get_put_other m n 0 jfn (omega arith) ∙ h.from_one;
    most = λ q far. get_put_other m n q jfn (omega arith) ∙ h.most q far;
    fit = λ q. fit q (cases_eq q n);
  }
    where
      fit : (q : ℕ) → (q ≡ n) ⊎ (q ≢ n) → IfSome (map.get (map.insert m n jfn) q) FitsJfn
      fit q (inl e) = subst (λ o. IfSome o FitsJfn) (sym (get_put m n q jfn e)) fits
      fit q (inr ne) = subst (λ o. IfSome o FitsJfn) (sym (get_put_other m n q jfn ne)) (h.fit q)

  pub jfns_gone : AreJfns m → AreJfns (map.remove m n)
  jfns_gone h = record {
    from_one = stays 0 (cases_eq 0 n) h.from_one;
    most = λ q far. stays q (cases_eq q n) (h.most q far);
    fit = λ q. fit q (cases_eq q n);
  }
    where
      stays : (q : ℕ) → (q ≡ n) ⊎ (q ≢ n) → map.get m q ≡ None → map.get (map.remove m n) q ≡ None
      stays q (inl e) none = get_gone m n q e
      stays q (inr ne) none = get_gone_other m n q ne ∙ none

      fit : (q : ℕ) → (q ≡ n) ⊎ (q ≢ n) → IfSome (map.get (map.remove m n) q) FitsJfn
      fit q (inl e) = subst (λ o. IfSome o FitsJfn) (sym (get_gone m n q e)) tt
      fit q (inr ne) = subst (λ o. IfSome o FitsJfn) (sym (get_gone_other m n q ne)) (h.fit q)

  pub names_put : (jfn : Jfn) (f : ℕ) → map.get m n ≡ None → names_in (map.insert m n jfn) f ≡ names_in m f + cond (jfn.file.0 == f) 1 0
  unfolding names_in
  names_put jfn f none = passing_put (names_it f) m n jfn none

  pub names_gone : (jfn : Jfn) (f : ℕ) → map.get m n ≡ Some jfn → names_in m f ≡ names_in (map.remove m n) f + cond (jfn.file.0 == f) 1 0
  unfolding names_in
  names_gone jfn f there = passing_gone (names_it f) m n jfn there

  pub names_replaced : (old new : Jfn) (f : ℕ) → map.get m n ≡ Some old → new.file ≡ old.file → names_in (map.insert m n new) f ≡ names_in m f
  unfolding names_in
  names_replaced old new f there alike = passing_replaced (names_it f) m n old new there (ap (λ file. file.0 == f) alike)

  -- a held JFN has a number in range, and fits
  pub held_number : (jfn : Jfn) → AreJfns m → map.get m n ≡ Some jfn → (1 ≤ n) × (n ≤ MOST_JFNS) × FitsJfn jfn
  held_number jfn h there = (low (cases_lt n 1), high (cases_lt MOST_JFNS n), subst (λ o. IfSome o FitsJfn) there (h.fit n))
    where
      low : (n < 1) ⊎ (1 ≤ n) → 1 ≤ n
      low (inl small) =
          let zero_is : n ≡ 0 = omega arith in
          let none : map.get m n ≡ None = ap (λ k. map.get m k) zero_is ∙ h.from_one in
          absurd (cc (none, there))
      low (inr is) = is

      high : (MOST_JFNS < n) ⊎ (n ≤ MOST_JFNS) → n ≤ MOST_JFNS
      high (inl large) = let none = h.most n large in absurd (cc (none, there))
      high (inr is) = is

  module _ (names : List ℕ) (counts : CountNames names m) where
    pub counts_put : (jfn : Jfn) (count : ℕ) → map.get m n ≡ None → jfn.file.0 < MOST_FILES → count ≡ names_in m jfn.file.0
        → CountNames (set names jfn.file.0 (count + 1)) (map.insert m n jfn)
    counts_put jfn count none within count_is = record { size = length-set names jfn.file.0 (count + 1) ∙ counts.size; counts = λ f below. at f below (cases_eq f jfn.file.0) }
      where
        at : (f : ℕ) → f < MOST_FILES → (f ≡ jfn.file.0) ⊎ (f ≢ jfn.file.0) → slice_index (set names jfn.file.0 (count + 1)) f ≡ names_in (map.insert m n jfn) f
        at f below (inl e) =
            ap (λ k. get_or (set names jfn.file.0 (count + 1)) k 0) e
            ∙ (get_or-set_same names jfn.file.0 (count + 1) 0 (omega (arith, counts.size))
            ∙ (ap (λ k. k + 1) (count_is ∙ ap (λ k. names_in m k) (sym e))
            ∙ sym (names_put jfn f none ∙ ap (λ b. names_in m f + cond b 1 0) (same_is jfn.file.0 f (sym e)))))
        at f below (inr ne) =
            get_or-set_other names jfn.file.0 f (count + 1) 0 ne
            ∙ (counts.counts f below
            ∙ sym (names_put jfn f none ∙ (ap (λ b. names_in m f + cond b 1 0) (other_is jfn.file.0 f (λ e. ne (sym e))) ∙ omega arith)))

    pub counts_gone : (jfn : Jfn) (count : ℕ) → map.get m n ≡ Some jfn → jfn.file.0 < MOST_FILES → count ≡ names_in m jfn.file.0
        → CountNames (set names jfn.file.0 (count - 1)) (map.remove m n)
    counts_gone jfn count there within count_is = record { size = length-set names jfn.file.0 (count - 1) ∙ counts.size; counts = λ f below. at f below (cases_eq f jfn.file.0) }
      where
        at : (f : ℕ) → f < MOST_FILES → (f ≡ jfn.file.0) ⊎ (f ≢ jfn.file.0) → slice_index (set names jfn.file.0 (count - 1)) f ≡ names_in (map.remove m n) f
        at f below (inl e) =
            let before : count ≡ names_in (map.remove m n) f + 1 =
            count_is ∙ (ap (λ k. names_in m k) (sym e) ∙ (names_gone jfn f there ∙ ap (λ b. names_in (map.remove m n) f + cond b 1 0) (same_is jfn.file.0 f (sym e)))) in
            ap (λ k. get_or (set names jfn.file.0 (count - 1)) k 0) e
            ∙ (get_or-set_same names jfn.file.0 (count - 1) 0 (omega (arith, counts.size)) ∙ omega arith)
        at f below (inr ne) =
            get_or-set_other names jfn.file.0 f (count - 1) 0 ne
            ∙ (counts.counts f below
            ∙ (names_gone jfn f there ∙ (ap (λ b. names_in (map.remove m n) f + cond b 1 0) (other_is jfn.file.0 f (λ e. ne (sym e))) ∙ omega arith)))

    pub counts_replaced : (old new : Jfn) → map.get m n ≡ Some old → new.file ≡ old.file → CountNames names (map.insert m n new)
    counts_replaced old new there alike = record { size = counts.size; counts = λ f below. counts.counts f below ∙ sym (names_replaced old new f there alike) }

-- the count of a file is that of its place
pub count_at : (names : List ℕ) (m : Held) (f count : ℕ) → CountNames names m → f < MOST_FILES → count ≡ get_or names f count → count ≡ names_in m f
count_at names m f count counts below is = get_or_read names f count (omega (arith, counts.size)) is 0 ∙ counts.counts f below

-- no JFN names a file where no JFN is held
pub names_none : (f : ℕ) → names_in (map.empty {X = Jfn} {R = nat_cmp}) f ≡ 0
unfolding names_in
names_none f = omega (arith, passing_most (names_it f) map.empty, map.len-empty nat_cmp Jfn)

pub no_jfns : AreJfns map.empty
no_jfns = record {
  from_one = map.get-empty nat_cmp 0;
  most = λ q far. map.get-empty nat_cmp q;
  fit = λ q. subst (λ o. IfSome o FitsJfn)
      (sym (map.get-empty {X = Jfn} nat_cmp q)) tt;
}

pub no_counts : CountNames (replicate MOST_FILES 0) map.empty
no_counts = record { size = length-replicate {A = ℕ} MOST_FILES 0; counts = λ f below. get_or-replicate MOST_FILES f 0 0 below ∙ sym (names_none f) }

-- a JFN that is released
pub names_released : (m : Held) (n : ℕ) (jfn : Jfn) → map.get m n ≡ Some jfn → names_in m jfn.file.0 ≡ names_in (map.remove m n) jfn.file.0 + 1
names_released m n jfn there = names_gone m n jfn jfn.file.0 there ∙ ap (λ b. names_in (map.remove m n) jfn.file.0 + cond b 1 0) (same_is jfn.file.0 jfn.file.0 refl)

-- a file that a held JFN names
pub names_gone_some : (m : Held) (n : ℕ) (jfn : Jfn) → map.get m n ≡ Some jfn → 1 ≤ names_in m jfn.file.0
names_gone_some m n jfn there = omega (arith, names_released m n jfn there)

names_zero : (n : ℕ) (m : Held) (f : ℕ) → ((k : ℕ) → n ≤ k → map.get m k ≡ None) → NamesNowhere m f → names_in m f ≡ 0
names_zero zero m f bound none = ap (λ (x : Held). names_in x f) (same m map.empty (λ q. bound q (omega arith) ∙ sym (map.get-empty nat_cmp q))) ∙ names_none f
names_zero (suc n) m f bound none = by (λ x. names_zero n x f) (map.get m n) refl
  where
    gone : NamesNowhere (map.remove m n) f
    gone q = there (cases_eq q n)
      where
        there : (q ≡ n) ⊎ (q ≢ n) → IfSome (map.get (map.remove m n) q) (λ jfn. jfn.file.0 ≢ f)
        there (inl e) = subst (λ o. IfSome o (λ (jfn : Jfn). jfn.file.0 ≢ f)) (sym (get_gone m n q e)) tt
        there (inr ne) = subst (λ o. IfSome o (λ (jfn : Jfn). jfn.file.0 ≢ f)) (sym (get_gone_other m n q ne)) (none q)

    short : (k : ℕ) → n ≤ k → map.get (map.remove m n) k ≡ None
    short k far = there (cases_eq k n)
      where
        there : (k ≡ n) ⊎ (k ≢ n) → map.get (map.remove m n) k ≡ None
        there (inl e) = get_gone m n k e
        there (inr ne) = get_gone_other m n k ne ∙ bound k (omega arith)

    by : ((x : Held) → ((k : ℕ) → n ≤ k → map.get x k ≡ None) → NamesNowhere x f → names_in x f ≡ 0) → (o : Option Jfn) → map.get m n ≡ o → names_in m f ≡ 0
    by smaller None is = smaller m (λ k far. at k far (cases_eq k n)) none
      where
        at : (k : ℕ) → n ≤ k → (k ≡ n) ⊎ (k ≢ n) → map.get m k ≡ None
        at k far (inl e) = ap (λ q. map.get m q) e ∙ is
        at k far (inr ne) = bound k (omega arith)
    by smaller (Some jfn) is =
        let other : jfn.file.0 ≢ f = subst (λ o. IfSome o (λ (j : Jfn). j.file.0 ≢ f)) is (none n) in
        names_gone m n jfn f is ∙ (ap (λ b. names_in (map.remove m n) f + cond b 1 0) (other_is jfn.file.0 f other) ∙ (omega (arith, smaller (map.remove m n) short gone)))

pub names_nowhere : (m : Held) (f : ℕ) → AreJfns m → (names_in m f ≡ 0) ↔ NamesNowhere m f
names_nowhere m f h = (λ zero_is n. at n zero_is (map.get m n) refl, λ none. names_zero (MOST_JFNS + 1) m f (λ k far. h.most k (omega arith)) none)
  where
    at : (n : ℕ) → names_in m f ≡ 0 → (o : Option Jfn) → map.get m n ≡ o → IfSome o (λ jfn. jfn.file.0 ≢ f)
    at n zero_is None is = tt
    at n zero_is (Some jfn) is = λ e. absurd (omega (arith, zero_is, names_gone_some m n jfn is, ap (λ k. names_in m k) e))

-- a JFN that is taken
pub names_taken : (m : Held) (n f : ℕ) → map.get m n ≡ None → names_in (map.insert m n (taken f)) f ≡ names_in m f + 1
names_taken m n f none = names_put m n (taken f) f none ∙ ap (λ b. names_in m f + cond b 1 0) (same_is f f refl)

pub others_taken : (m : Held) (n f g : ℕ) → map.get m n ≡ None → g ≢ f → names_in (map.insert m n (taken f)) g ≡ names_in m g
others_taken m n f g none ne = names_put m n (taken f) g none ∙ (ap (λ b. names_in m g + cond b 1 0) (other_is f g (λ e. ne (sym e))) ∙ omega arith)
