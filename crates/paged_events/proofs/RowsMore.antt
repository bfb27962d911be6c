-- Rows of turns, one behind another.
use Rattle.std.proofs.Common.{◌≡◌, ℕ, ◌+◌, List, [], ◌∷◌, ◌++◌, Bool, refl, subst, arith}
use Rattle.fork_lists.specs.declared.lists.ForkLists.{ForkLists}
use Rattle.page_waits.specs.Systems.{SystemMeaning}
use Rattle.page_waits.specs.Transfers.{Counts}
use Rattle.paged_events.specs.Rows.{AreRows, Row, TookRows, idle, turns_in, units}

turns_both : (xs ys : List Row) → turns_in (xs ++ ys) ≡ turns_in xs + turns_in ys
turns_both [] ys = let same : turns_in ys ≡ 0 + turns_in ys = omega arith in same
turns_both (units f n ∷ xs) ys = let rest = turns_both xs ys in omega (arith, rest)
turns_both (idle n ∷ xs) ys = let rest = turns_both xs ys in omega (arith, rest)

module _ {S D : Type 0} (means : SystemMeaning S) (counts : Counts D) (auto : Bool) where
  rows_both : (xs ys : List Row) (s0 s1 s2 : S) (l0 l1 l2 : ForkLists) (d0 d1 d2 : D) → AreRows means counts auto xs s0 s1 l0 l1 d0 d1 → AreRows means counts auto ys s1 s2 l1 l2 d1 d2 → AreRows means counts auto (xs ++ ys) s0 s2 l0 l2 d0 d2
  rows_both [] ys s0 s1 s2 l0 l1 l2 d0 d1 d2 f g =
      subst (λ s. AreRows means counts auto ys s s2 l0 l2 d0 d2) f.0 (subst (λ (l : ForkLists). AreRows means counts auto ys s1 s2 l l2 d0 d2) f.1 (subst (λ d. AreRows means counts auto ys s1 s2 l1 l2 d d2) f.2 g))
  rows_both (x ∷ xs) ys s0 s1 s2 l0 l1 l2 d0 d1 d2 f g = (f.0, f.1, f.2, f.3, rows_both xs ys f.0 s1 s2 f.1 l1 l2 f.2 d1 d2 f.4 g)

  pub rows_none : (s : S) (l : ForkLists) (d : D) → TookRows means counts auto 0 s s l l d d
  rows_none s l d = record { rows = []; count = refl; are = (refl, refl, refl) }

  pub rows_more : (j k : ℕ) (s0 s1 s2 : S) (l0 l1 l2 : ForkLists) (d0 d1 d2 : D) → TookRows means counts auto j s0 s1 l0 l1 d0 d1 → TookRows means counts auto k s1 s2 l1 l2 d1 d2 → TookRows means counts auto (j + k) s0 s2 l0 l2 d0 d2
  rows_more j k s0 s1 s2 l0 l1 l2 d0 d1 d2 f g = record {
    rows = f.rows ++ g.rows;
    count = omega (arith, turns_both f.rows g.rows, f.count, g.count);
    are = rows_both f.rows g.rows s0 s1 s2 l0 l1 l2 d0 d1 d2 f.are g.are;
  }
