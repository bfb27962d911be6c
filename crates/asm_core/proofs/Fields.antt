-- The fields of an instruction.
use Rattle.std.proofs.Common.{◌≡◌, ℕ, ◌+◌, ◌*◌, ◌/◌, ◌%◌, ◌^◌, ◌<◌, List, [], ◌∷◌, length, Bool, true, false, Option, None, Some, refl, sym, ◌∙◌, ap, subst, arith, lit<}
use Rattle.std.specs.Prelude.{nat_lt, if◌then◌else◌, ◌==◌}
use Rattle.std.proofs.lemmas.Bool.{ltb-true}
use Rattle.asm_core.specs.declared.line.Value.{Value}
use Rattle.asm_core.specs.declared.line.Value.TheVariants.{Number as Half}
use Rattle.asm_core.specs.declared.line.Statement.{Statement}
use Rattle.asm_core.specs.declared.line.Statement.TheVariants.{Halves}
use Rattle.asm_core.specs.Cutting.{cut}
use Rattle.asm_core.specs.Numbers.{if_register, octal_number, register, value_of}
use Rattle.asm_core.specs.Grammar.{address_in, addressed, as_index, at_index, at_register, closed, index_of, indexed, instruction, with_address, with_index, with_register}
use Rattle.asm_core.specs.Places.{half_by, words_by}
use Rattle.asm_core.specs.Words.{IsInstruction, instruction_word}

register_by : (o : Option ℕ) (n : ℕ) → if_register o ≡ Some n → n < 16
register_by None n e = absurd (cc e)
register_by (Some m) n e = by (nat_lt m 16) refl e
  where
    by : (b : Bool) → nat_lt m 16 ≡ b → (if b then Some m else None) ≡ Some n → n < 16
    by true is e = let same : m ≡ n = cc e in subst (λ k. k < 16) same (ltb-true m 16 is)
    by false is e = absurd (cc e)

register_small : (text : List ℕ) (n : ℕ) → register text ≡ Some n → n < 16
unfolding register
register_small text n e = register_by (octal_number 2 text) n e

index_by : (o : Option ℕ) (n : ℕ) → ((m : ℕ) → o ≡ Some m → m < 16) → as_index o ≡ Some n → n < 16
index_by None n small e = absurd (cc e)
index_by (Some m) n small e = by (m == 0) e
  where
    by : (b : Bool) → (if b then None else Some m) ≡ Some n → n < 16
    by true e = absurd (cc e)
    by false e = let same : m ≡ n = cc e in subst (λ k. k < 16) same (small m refl)

closed_by : (o : Option (List ℕ × List ℕ)) (n : ℕ) → closed o ≡ Some n → n < 16
closed_by None n e = absurd (cc e)
closed_by (Some p) n e = by (length p.1 == 0) e
  where
    by : (b : Bool) → (if b then as_index (register p.0) else None) ≡ Some n → n < 16
    by true e = index_by (register p.0) n (register_small p.0) e
    by false e = absurd (cc e)

index_small : (text : List ℕ) (n : ℕ) → index_of text ≡ Some n → n < 16
unfolding index_of
index_small text n e = closed_by (cut 41 text) n e

-- a statement is the word of this left half and an address
record IsAddressed (left : ℕ) (s : Statement) : Type 0 where
  y : Value
  whole : s ≡ Halves (Half left) y

with_is : (left : ℕ) (o : Option Value) (s : Statement) → with_address left o ≡ Some s → IsAddressed left s
with_is left None s e = absurd (cc e)
with_is left (Some y) s e = let same : Halves (Half left) y ≡ s = cc e in record { y = y; whole = sym same }

address_is : (left : ℕ) (text : List ℕ) (s : Statement) → address_in left text ≡ Some s → IsAddressed left s
address_is left [] s e = let same : Halves (Half left) (Half 0) ≡ s = cc e in record { y = Half 0; whole = sym same }
address_is left (c ∷ cs) s e = with_is left (value_of (c ∷ cs)) s e

record IsIndexed (left : ℕ) (s : Statement) : Type 0 where
  x : ℕ
  x_fits : x < 16
  rest : IsAddressed (left + x) s

at_is : (left : ℕ) (text : List ℕ) (o : Option ℕ) (s : Statement) → ((n : ℕ) → o ≡ Some n → n < 16) → at_index left text o ≡ Some s → IsIndexed left s
at_is left text None s small e = absurd (cc e)
at_is left text (Some x) s small e = record { x = x; x_fits = small x refl; rest = address_is (left + x) text s e }

index_is : (left : ℕ) (text : List ℕ) (o : Option (List ℕ × List ℕ)) (s : Statement) → with_index left text o ≡ Some s → IsIndexed left s
index_is left text None s e =
    let same : left ≡ left + 0 = omega arith in record { x = 0; x_fits = lit< tt; rest = subst (λ l. IsAddressed l s) same (address_is left text s e) }
index_is left text (Some p) s e = at_is left p.0 (index_of p.1) s (index_small p.1) e

indexed_is : (left : ℕ) (text : List ℕ) (s : Statement) → indexed left text ≡ Some s → IsIndexed left s
unfolding indexed
indexed_is left text s e = index_is left text (cut 40 text) s e

record IsIndirect (left : ℕ) (s : Statement) : Type 0 where
  i : ℕ
  i_fits : i < 2
  rest : IsIndexed (left + i * 2 ^ 4) s

direct : (left : ℕ) (s : Statement) → IsIndexed left s → IsIndirect left s
direct left s h = let same : left ≡ left + 0 * 2 ^ 4 = omega arith in record { i = 0; i_fits = lit< tt; rest = subst (λ l. IsIndexed l s) same h }

indirect_by : (b : Bool) (left c : ℕ) (cs : List ℕ) (s : Statement) → (if b then indexed (left + 2 ^ 4) cs else indexed left (c ∷ cs)) ≡ Some s → IsIndirect left s
indirect_by true left c cs s e =
    let same : left + 2 ^ 4 ≡ left + 1 * 2 ^ 4 = omega arith in record { i = 1; i_fits = lit< tt; rest = subst (λ l. IsIndexed l s) same (indexed_is (left + 2 ^ 4) cs s e) }
indirect_by false left c cs s e = direct left s (indexed_is left (c ∷ cs) s e)

addressed_is : (left : ℕ) (text : List ℕ) (s : Statement) → addressed left text ≡ Some s → IsIndirect left s
unfolding addressed
addressed_is left [] s e = direct left s (indexed_is left [] s e)
addressed_is left (c ∷ cs) s e = indirect_by (c == 64) left c cs s e

record HasRegister (left : ℕ) (s : Statement) : Type 0 where
  ac : ℕ
  ac_fits : ac < 16
  rest : IsIndirect (left + ac * 2 ^ 5) s

at_register_is : (left : ℕ) (text : List ℕ) (o : Option ℕ) (s : Statement) → ((n : ℕ) → o ≡ Some n → n < 16) → at_register left text o ≡ Some s → HasRegister left s
at_register_is left text None s small e = absurd (cc e)
at_register_is left text (Some ac) s small e = record { ac = ac; ac_fits = small ac refl; rest = addressed_is (left + ac * 2 ^ 5) text s e }

register_is : (left : ℕ) (text : List ℕ) (o : Option (List ℕ × List ℕ)) (s : Statement) → with_register left text o ≡ Some s → HasRegister left s
register_is left text None s e =
    let same : left ≡ left + 0 * 2 ^ 5 = omega arith in record { ac = 0; ac_fits = lit< tt; rest = subst (λ l. IsIndirect l s) same (addressed_is left text s e) }
register_is left text (Some p) s e = at_register_is left p.1 (register p.0) s (register_small p.0) e

one_word : (op ac i x y : ℕ) → (op * 2 ^ 9 + ac * 2 ^ 5 + i * 2 ^ 4 + x) * 2 ^ 18 + y ≡ 2 ^ 27 * op + 2 ^ 23 * ac + 2 ^ 22 * i + 2 ^ 18 * x + y
one_word op ac i x y = omega arith

-- an instruction with its operands is the word of its fields
pub instruction_is : (op : ℕ) (operands : List ℕ) (s : Statement) → instruction op operands ≡ Some s → IsInstruction op s
unfolding instruction
instruction_is op operands s e =
    let h = register_is (op * 2 ^ 9) operands (cut 44 operands) s e in
    let a = h.rest.rest.rest in
    record {
      ac = h.ac;
      indirect = h.rest.i;
      x = h.rest.rest.x;
      y = a.y;
      ac_fits = h.ac_fits;
      indirect_fits = h.rest.i_fits;
      x_fits = h.rest.rest.x_fits;
      word = λ symbols. ap (words_by symbols) a.whole ∙ ap (λ w. w ∷ []) (one_word op h.ac h.rest.i h.rest.rest.x (half_by symbols a.y));
    }

-- the fields come back from the word
module _ (op ac i x y : ℕ) (ho : op < 512) (ha : ac < 16) (hi : i < 2) (hx : x < 16) (hy : y < 2 ^ 18) where
  pub word_small : instruction_word op ac i x y < 2 ^ 36
  word_small = omega arith

  pub opcode_back : instruction_word op ac i x y / 2 ^ 27 ≡ op
  opcode_back = omega arith

  pub accumulator_back : instruction_word op ac i x y / 2 ^ 23 % 2 ^ 4 ≡ ac
  accumulator_back = omega arith

  pub indirect_back : instruction_word op ac i x y / 2 ^ 22 % 2 ≡ i
  indirect_back = omega arith

  pub index_back : instruction_word op ac i x y / 2 ^ 18 % 2 ^ 4 ≡ x
  index_back = omega arith

  pub address_back : instruction_word op ac i x y % 2 ^ 18 ≡ y
  address_back = omega arith
