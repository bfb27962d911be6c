-- Codes that are taken away one after another.
use Rattle.std.proofs.Common.{◌≡◌, ◌≢◌, ℕ, ◌+◌, ◌<◌, ◌≤◌, List, [], length, Option, Some, None, Bool, true, false, cond, sym, refl, ◌∙◌, ap, subst, arith, ◌⊎◌, inl, inr}
use Rattle.std.specs.Option.{option_map, option_map_or, unwrap_or}
use Rattle.std.proofs.lemmas.Bool.{cases_eq, cases_lt}
use Rattle.std.specs.Ordering.{nat_cmp}
use Rattle.std.specs.Cmp.{nat_cmp_total}
use Rattle.std.specs.FinMap as map
use Rattle.machine_names.specs.declared.names.ForkName.{ForkName}
use Rattle.number_map.proofs.Keys.{get_gone, get_gone_other, get_put, get_put_other, same}
use Rattle.plain_typing.specs.declared.typed.TheConstants.{ASSIGNABLE_CODES}
use Rattle.plain_typing.specs.Lines.{Codes, AreAssigned, IsAssignable, IsLine, codes_of}

-- whether a code is assigned to a fork that passes a test
abbrev pub is_of : (ForkName → Bool) → Option (ForkName × ℕ) → Bool
is_of keeps o = option_map_or (λ a. keeps a.0) o false

-- what a code is assigned to where those of such forks alone stay
pub get_kept : (keeps : ForkName → Bool) (codes : Codes) (k : ℕ) → map.get (codes_of keeps codes) k ≡ cond (is_of keeps (map.get codes k)) (map.get codes k) None
get_kept keeps codes k = map.get-retain_keys codes (λ code. is_of keeps (map.get codes code)) k (λ x tied. ap (is_of keeps) (map.get_tied nat_cmp_total codes k x tied))

-- no code past those that may be assigned is
pub none_beyond : (codes : Codes) → AreAssigned codes → (k : ℕ) → ASSIGNABLE_CODES ≤ k → map.get codes k ≡ None
none_beyond codes are k far = at (map.get codes k) refl
  where
    at : (o : Option (ForkName × ℕ)) → map.get codes k ≡ o → map.get codes k ≡ None
    at None e = e
    at (Some a) e = absurd (omega (arith, (are.each k a.0 a.1 e).0.0))

-- below a code all are as they shall be, and from it on as they were
pub record AreBelow (goal old now : Codes) (code : ℕ) : Type 0 where
  pub done : (k : ℕ) → k < code → map.get now k ≡ map.get goal k
  pub left : (k : ℕ) → code ≤ k → map.get now k ≡ map.get old k

pub below_none : (goal old : Codes) → AreBelow goal old old 0
below_none goal old = record { done = λ k h. absurd (omega arith); left = λ k h. refl }

pub below_all : (goal old now : Codes) (code : ℕ) → AreBelow goal old now code → ((k : ℕ) → code ≤ k → map.get old k ≡ map.get goal k) → now ≡ goal
below_all goal old now code are beyond = same now goal (λ k. at k (cases_lt k code))
  where
    at : (k : ℕ) → (k < code) ⊎ (code ≤ k) → map.get now k ≡ map.get goal k
    at k (inl h) = are.done k h
    at k (inr h) = are.left k h ∙ beyond k h

-- one code more is taken away
pub below_gone : (goal old now : Codes) (code : ℕ) → AreBelow goal old now code → map.get goal code ≡ None → AreBelow goal old (map.remove now code) (code + 1)
below_gone goal old now code are none = record {
  done = λ k h. at k h (cases_eq k code);
  left = λ k h. get_gone_other now code k (omega arith) ∙ are.left k (omega arith);
}
  where
    at : (k : ℕ) → k < code + 1 → (k ≡ code) ⊎ (k ≢ code) → map.get (map.remove now code) k ≡ map.get goal k
    at k h (inl e) = get_gone now code k e ∙ sym (ap (λ n. map.get goal n) e ∙ none)
    at k h (inr ne) = get_gone_other now code k ne ∙ are.done k (omega arith)

-- one code more stays
pub below_kept : (goal old now : Codes) (code : ℕ) → AreBelow goal old now code → map.get old code ≡ map.get goal code → AreBelow goal old now (code + 1)
below_kept goal old now code are stays = record { done = λ k h. at k h (cases_eq k code); left = λ k h. are.left k (omega arith) }
  where
    at : (k : ℕ) → k < code + 1 → (k ≡ code) ⊎ (k ≢ code) → map.get now k ≡ map.get goal k
    at k h (inl e) = are.left k (omega arith) ∙ (ap (λ n. map.get old n) e ∙ (stays ∙ ap (λ n. map.get goal n) (sym e)))
    at k h (inr ne) = are.done k (omega arith)

-- the codes of forks that don't pass a test are given up one after another
module _ (keeps : ForkName → Bool) (old now : Codes) (code : ℕ) (are : AreBelow (codes_of keeps old) old now code) where
  kept_here : (o : Option (ForkName × ℕ)) → map.get now code ≡ o → map.get (codes_of keeps old) code ≡ cond (is_of keeps o) o None
  kept_here o e = get_kept keeps old code ∙ ap (λ p. cond (is_of keeps p) p None) (sym (are.left code (omega arith)) ∙ e)

  -- this one's doesn't
  pub gives_up : (a : ForkName × ℕ) → map.get now code ≡ Some a → keeps a.0 ≡ false → AreBelow (codes_of keeps old) old (map.remove now code) (code + 1)
  gives_up a e fails = below_gone (codes_of keeps old) old now code are (kept_here (Some a) e ∙ ap (λ b. cond b (Some a) None) fails)

  -- this one's does
  pub keeps_one : (a : ForkName × ℕ) → map.get now code ≡ Some a → keeps a.0 ≡ true → AreBelow (codes_of keeps old) old now (code + 1)
  keeps_one a e passes =
      let goal : map.get (codes_of keeps old) code ≡ Some a = kept_here (Some a) e ∙ ap (λ b. cond b (Some a) None) passes in
      below_kept (codes_of keeps old) old now code are (sym (are.left code (omega arith)) ∙ (e ∙ sym goal))

  -- the code is assigned to nothing
  pub passes_one : map.get now code ≡ None → AreBelow (codes_of keeps old) old now (code + 1)
  passes_one e = below_kept (codes_of keeps old) old now code are (sym (are.left code (omega arith)) ∙ (e ∙ sym (kept_here None e)))

-- a code that is assigned to nothing stays so
pub unassigned_kept : (keeps : ForkName → Bool) (codes : Codes) (k : ℕ) → map.get codes k ≡ None → map.get codes k ≡ map.get (codes_of keeps codes) k
unassigned_kept keeps codes k none = none ∙ sym (get_kept keeps codes k ∙ ap (λ o. cond (is_of keeps o) o None) none)

-- once all codes are looked at, those of such forks alone are left
pub all_kept : (keeps : ForkName → Bool) (old now : Codes) (code : ℕ) → AreAssigned old → ASSIGNABLE_CODES ≤ code → AreBelow (codes_of keeps old) old now code → now ≡ codes_of keeps old
all_kept keeps old now code assigned over are =
    below_all (codes_of keeps old) old now code are (λ k far. unassigned_kept keeps old k (none_beyond old assigned k (omega (arith, over, far))))

-- where each code that is assigned was so before, it may be
pub assigned_less : (old new : Codes) → AreAssigned old → ((k : ℕ) (a : ForkName × ℕ) → map.get new k ≡ Some a → map.get old k ≡ Some a) → AreAssigned new
assigned_less old new are less = record { each = λ k f c e. are.each k f c (less k (f, c) e) }

pub assigned_none : AreAssigned map.empty
assigned_none = record { each = λ k f c e. let clash : None ≡ Some (f, c) = sym (map.get-empty nat_cmp k) ∙ e in cc clash }

pub assigned_kept : (keeps : ForkName → Bool) (codes : Codes) → AreAssigned codes → AreAssigned (codes_of keeps codes)
assigned_kept keeps codes are = assigned_less codes (codes_of keeps codes) are (λ k a e. at (is_of keeps (map.get codes k)) k a (sym (get_kept keeps codes k) ∙ e))
  where
    at : (b : _) (k : ℕ) (a : ForkName × ℕ) → cond b (map.get codes k) None ≡ Some a → map.get codes k ≡ Some a
    at true k a e = e
    at false k a e = cc e

pub assigned_gone : (codes : Codes) (code : ℕ) → AreAssigned codes → AreAssigned (map.remove codes code)
assigned_gone codes code are = assigned_less codes (map.remove codes code) are (λ k a e. at k a e (cases_eq k code))
  where
    at : (k : ℕ) (a : ForkName × ℕ) → map.get (map.remove codes code) k ≡ Some a → (k ≡ code) ⊎ (k ≢ code) → map.get codes k ≡ Some a
    at k a e (inl is) = let clash : None ≡ Some a = sym (get_gone codes code k is) ∙ e in cc clash
    at k a e (inr ne) = sym (get_gone_other codes code k ne) ∙ e

pub assigned_put : (codes : Codes) (code : ℕ) (fork : ForkName) (channel : ℕ) → AreAssigned codes → IsAssignable code → channel < 36
    → AreAssigned (map.insert codes code (fork, channel))
assigned_put codes code fork channel are may small = record { each = λ k f c e. at k f c e (cases_eq k code) }
  where
    at : (k : ℕ) (f : ForkName) (c : ℕ) → map.get (map.insert codes code (fork, channel)) k ≡ Some (f, c) → (k ≡ code) ⊎ (k ≢ code) → IsAssignable k × (c < 36)
    at k f c e (inl is) =
        let both : Some (fork, channel) ≡ Some (f, c) = sym (get_put codes code k (fork, channel) is) ∙ e in
        (subst IsAssignable (sym is) may, subst (λ n. n < 36) (ap (λ o. unwrap_or (option_map (λ p. p.1) o) channel) both) small)
    at k f c e (inr ne) = are.each k f c (sym (get_put_other codes code k (fork, channel) ne) ∙ e)

-- a line on which nothing is stored and no code is assigned
pub none_is_line : (input : List ℕ) (codes : Codes) → input ≡ [] → codes ≡ map.empty → IsLine (record { input = input; codes = codes })
none_is_line input codes none unassigned = record {
  few = omega (arith, ap length none);
  small = λ k d h. absurd (omega (arith, ap length none));
  assigned = subst AreAssigned (sym unassigned) assigned_none;
}
