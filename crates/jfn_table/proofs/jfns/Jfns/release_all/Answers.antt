use Rattle.std.proofs.Common.{◌≡◌, ◌≢◌, ◌+◌, ◌<◌, ◌≤◌, ℕ, ◌⊎◌, inl, inr, false, Option, None, Some, sym, ◌∙◌, ap, arith}
use Rattle.std.specs.Prelude.{is_some}
use Rattle.std.specs.Ordering.{nat_cmp}
use Rattle.std.proofs.lemmas.Bool.{cases_eq, cases_lt}
use Rattle.std.specs.FinMap as map
use Rattle.number_map.proofs.Keys.{get_gone, get_gone_other, same}
use Rattle.plain_files.specs.declared.jfn.Jfn.{Jfn}
use Rattle.plain_files.specs.declared.bounds.TheConstants.{MOST_JFNS}
use Rattle.plain_files.specs.JobFiles.{Held}
use Rattle.jfn_table.proofs.jfns.Jfns.release_all.Goals.{then-is_some, else-is_some}
use Rattle.jfn_table.proofs.jfns.Jfns.release_all.Goals as goal

none_of : (o : Option Jfn) → is_some o ≡ false → o ≡ None
none_of None e = λ i. None
none_of (Some jfn) e = absurd (cc e)

-- the numbers up to this one are free, and so are those above the last JFN's
abbrev AreFree : Held → ℕ → Type 0
AreFree m n = (k : ℕ) → (k < n) ⊎ (MOST_JFNS < k) → map.get m k ≡ None

up_to : (m : Held) (n k : ℕ) → AreFree m n → k ≢ n → (k < n + 1) ⊎ (MOST_JFNS < k) → map.get m k ≡ None
up_to m n k free ne (inl low) = free k (inl (omega arith))
up_to m n k free ne (inr high) = free k (inr high)

released : (m : Held) (n : ℕ) → AreFree m n → AreFree (map.remove m n) (n + 1)
released m n free k far = by (cases_eq k n)
  where
    by : (k ≡ n) ⊎ (k ≢ n) → map.get (map.remove m n) k ≡ None
    by (inl e) = get_gone m n k e
    by (inr ne) = get_gone_other m n k ne ∙ up_to m n k free ne far

free_already : (m : Held) (n : ℕ) → AreFree m n → map.get m n ≡ None → AreFree m (n + 1)
free_already m n free none k far = by (cases_eq k n)
  where
    by : (k ≡ n) ⊎ (k ≢ n) → map.get m k ≡ None
    by (inl e) = ap (map.get m) e ∙ none
    by (inr ne) = up_to m n k free ne far

all_free : (m : Held) (n : ℕ) → MOST_JFNS < n → AreFree m n → m ≡ map.empty
all_free m n all free = same m map.empty (λ q. by q (cases_lt q n) ∙ sym (map.get-empty nat_cmp q))
  where
    by : (q : ℕ) → (q < n) ⊎ (n ≤ q) → map.get m q ≡ None
    by q (inl low) = free q (inl low)
    by q (inr high) = free q (inr (omega arith))

pub loop-n-preserved : goal.loop-n-preserved
loop-n-preserved c =
    elim c.if-is_some.branch [
      | then-is_some w ↦ λ k far. ap (λ (m : Held). map.get m k) (w.self-is ∙ w.release.ensures) ∙ released c.loop-n.self c.loop-n.n c.loop-n.invariant k far
      | else-is_some w ↦ λ k far. ap (λ (m : Held). map.get m k) w.self-is
          ∙ free_already c.loop-n.self c.loop-n.n c.loop-n.invariant (sym c.get.ensures.found ∙ none_of c.get.result (sym c.is_some.ensures ∙ w.if-is_some.false)) k far
    ]

pub returns : goal.returns
returns c = all_free c.loop-n.self c.loop-n.n (omega arith) c.loop-n.invariant
