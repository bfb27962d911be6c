-- The table in code is the rule, row by row.
use Rattle.std.proofs.Common.{◌≡◌, ℕ, zero, suc, ◌+◌, ◌<◌, List, [], ◌∷◌, get_or, refl, ◌∙◌, ap, subst, arith}
use Rattle.std.specs.Prelude.{nat_le, nat_lt, Bool, true, false, ◌&&◌, length}
use borrow.Author.Tests.{leb-true, ltb-true}
use Rattle.ka10_table.specs.declared.families.TableRow.{TableRow}
use Rattle.ka10_table.specs.declared.families.Family.TheVariants.{Illegal}
use Rattle.ka10_table.specs.declared.families.OpMode.TheVariants.{Basic}
use Rattle.ka10_table.specs.declared.rows.TheConstants.{ROWS}
use Rattle.ka10_table.specs.Rows.{line_of, row_among, row_of, rows_from, codes_in, IsInLine}

-- both tests of a conjunction
both_hold : (a b : Bool) → (a && b) ≡ true → (a ≡ true) × (b ≡ true)
both_hold true b h = (refl, h)
both_hold false b h = cc

-- computed over all 512 opcodes
table_is_rule : ROWS ≡ rows_from 512 0
unfolding rows_from row_of row_among
table_is_rule = refl

rows_from_at : (n op i : ℕ) (d : TableRow) → i < n → get_or (rows_from n op) i d ≡ row_of (op + i)
unfolding rows_from
rows_from_at zero op i d h = absurd (omega arith)
rows_from_at (suc n) op zero d h = ap row_of (omega arith)
rows_from_at (suc n) op (suc i) d h = rows_from_at n (op + 1) i d (omega arith) ∙ ap row_of (omega arith)

pub table_at : (op : ℕ) (d : TableRow) → op < 512 → get_or ROWS op d ≡ row_of op
table_at op d h = ap (λ (xs : List TableRow). get_or xs op d) table_is_rule ∙ (rows_from_at 512 0 op d h ∙ ap row_of (omega arith))

-- a row and its opcode are of one line
in_line : ℕ → TableRow → Bool
in_line op r = (nat_le (line_of r.family).first op && nat_le op (line_of r.family).last) && nat_lt r.code (codes_in r.family)

all_in_line : ℕ → List TableRow → Bool
all_in_line op [] = true
all_in_line op (r ∷ rs) = in_line op r && all_in_line (op + 1) rs

-- computed over all 512 rows
table_in_line : all_in_line 0 ROWS ≡ true
unfolding all_in_line in_line
table_in_line = refl

in_line_at : (rs : List TableRow) (op i : ℕ) (d : TableRow) → i < length rs → all_in_line op rs ≡ true → in_line (op + i) (get_or rs i d) ≡ true
unfolding all_in_line
in_line_at [] op i d h all = absurd (omega arith)
in_line_at (r ∷ rs) op zero d h all = ap (λ k. in_line k r) (omega arith) ∙ (both_hold _ _ all).0
in_line_at (r ∷ rs) op (suc i) d h all =
    ap (λ k. in_line k (get_or rs i d)) (omega arith) ∙ in_line_at rs (op + 1) i d (omega arith) (both_hold (in_line op r) _ all).1

no_row : TableRow
no_row = record { family = Illegal; mode = Basic; code = 0 }

pub row_in_line : (op : ℕ) → op < 512 → IsInLine op (row_of op)
unfolding in_line
row_in_line op h =
    let here : in_line op (get_or ROWS op no_row) ≡ true = ap (λ k. in_line k (get_or ROWS op no_row)) (omega arith) ∙ in_line_at ROWS 0 op no_row h table_in_line in
    let there : in_line op (row_of op) ≡ true = subst (λ (r : TableRow). in_line op r ≡ true) (table_at op no_row h) here in
    let r : TableRow = row_of op in
    let parts = both_hold (nat_le (line_of r.family).first op && nat_le op (line_of r.family).last) (nat_lt r.code (codes_in r.family)) there in
    let ends = both_hold (nat_le (line_of r.family).first op) (nat_le op (line_of r.family).last) parts.0 in
    record { from_first = leb-true _ _ ends.0; to_last = leb-true _ _ ends.1; code = ltb-true _ _ parts.1 }
