-- The one unit behind units in a row.
use Rattle.std.proofs.Common.{◌≡◌, ℕ, ◌+◌, ◌≤◌, List, false, refl, sym, ◌∙◌, ap, subst, arith, None, Some}
use Rattle.std.specs.Ordering.{nat_cmp}
use Rattle.plain_model.specs.declared.fork.Fork.{Fork}
use Rattle.plain_model.specs.Inspections.{is_interrupted}
use Rattle.plain_pages.specs.PlainPages.{NumberedPages}
use Rattle.ka10_spots.specs.Once.{After, in_a_row}
use Rattle.monitor_calls.specs.ForkUnit.{IsOne, IsRow, Leaving, RanUnits, RanUpTo, Rest, behind_unit, left_so, put_in, ran_on, units_over}
use Rattle.monitor_calls.specs.declared.row.Last.{Last}
use Rattle.monitor_calls.specs.declared.row.Last.TheVariants.{Shows, Calls, Needs}
use Rattle.monitor_calls.proofs.UnitRan.{one_behind, put_twice}

module _ (f : Fork) (p : NumberedPages) (n : ℕ) (a : After nat_cmp) (h : Fork) (r : NumberedPages) (row : in_a_row f.name n p f.body.regs ≡ Some a) (name : h.name ≡ f.name)
    (alone : 1 ≤ n → is_interrupted f.body.psi ≡ false) where
  up_to : (count : ℕ) → count ≡ n → ran_on f n a.regs ≡ h → a.pages ≡ r → RanUpTo f p count h r
  up_to count same fork pages = record { after = a; row = ap (λ k. in_a_row f.name k p f.body.regs) same ∙ row; alone = λ some. alone (omega (arith, some, same)); fork = ap (λ k. ran_on f k a.regs) same ∙ fork; pages = pages }

  by_last : (count : ℕ) (last : Last) → count ≡ n + units_over last → IsOne behind_unit (ran_on f n a.regs) a.pages h r last → IsRow f p count h r last
  by_last count (Shows shown) counts is = λ key rest.
      let on = put_in rest (ran_on f n a.regs) in
      subst (λ k. RanUnits key rest f p k (left_so rest h r shown)) (sym counts)
      (one_behind key rest f p n alone a _ row (is key on ∙ put_twice rest (ran_on f n a.regs) h r shown name))
  by_last count (Calls number) counts is =
      let same : count ≡ n = omega (arith, counts) in
      (up_to count same is.0 is.1, is.2)
  by_last count (Needs need) counts is = up_to count (omega (arith, counts)) is.0 is.1

  -- units in a row, and one more, whose fork had run so many
  pub more_row : (k count : ℕ) (last : Last) → k ≡ n → count ≡ n + units_over last → IsOne behind_unit (ran_on f k a.regs) a.pages h r last → IsRow f p count h r last
  more_row k count last same counts is = by_last count last counts (subst (λ m. IsOne behind_unit (ran_on f m a.regs) a.pages h r last) same is)

-- one unit of one kind is one of another, where both leave the same
pub one_as : (leaving other : Leaving) (f g : Fork) (p q : NumberedPages) (last : Last) → ((key : List ℕ → ℕ) (rest : Rest) → other key rest f p ≡ leaving key rest f p) → IsOne leaving f p g q last → IsOne other f p g q last
one_as leaving other f g p q (Shows shown) same is = λ key rest. same key rest ∙ is key rest
one_as leaving other f g p q (Calls number) same is =
    (is.0, is.1, λ key rest. (λ i. other key rest (sym is.0 i) (sym is.1 i)) ∙ same key rest ∙ (λ i. leaving key rest (is.0 i) (is.1 i)) ∙ is.2 key rest)
one_as leaving other f g p q (Needs need) same is = is

-- one unit alone
pub first_row : (f : Fork) (p : NumberedPages) (h : Fork) (r : NumberedPages) → h.name ≡ f.name → (count : ℕ) (last : Last) → count ≡ units_over last → IsOne behind_unit f p h r last → IsRow f p count h r last
unfolding in_a_row
first_row f p h r name count last counts is =
    let none : f.body.units + 0 ≡ f.body.units = omega arith in
    let same : ran_on f 0 f.body.regs ≡ f = λ i. record f { body = record f.body { units = none i } } in
    more_row f p 0 (record { pages = p; regs = f.body.regs; post = None }) h r refl name (λ some. absurd (omega (arith, some))) 0 count last refl (omega (arith, counts)) (subst (λ k. IsOne behind_unit k p h r last) (sym same) is)
