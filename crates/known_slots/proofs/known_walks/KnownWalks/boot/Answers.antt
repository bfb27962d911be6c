use Rattle.std.proofs.Common.{◌≡◌, ◌∙◌, inl, inr, ℕ, ◌+◌, ◌*◌, List, ap, length, replicate, arith}
use Rattle.std.proofs.lemmas.Bool.{cases_lt}
use Rattle.std.proofs.lemmas.List.{get_or-replicate, get_or_past, length-replicate}
use Rattle.machine_names.specs.declared.names.TheConstants.{TERMINALS, MOST_FORKS, SPACE_PAGES}
use Rattle.known_slots.specs.declared.known_walks.KnownRow.{KnownRow}
use Rattle.known_slots.specs.WalkTimes.{AreDated, known_since, row_at, unknown_row}
use Rattle.known_slots.proofs.known_walks.KnownWalks.boot.Goals as goal

all_unknown : (n i : ℕ) → row_at (replicate n unknown_row) i ≡ unknown_row
all_unknown n i = elim (cases_lt i n) [
  | inl l ↦ get_or-replicate n i unknown_row unknown_row l
  | inr past ↦ get_or_past (replicate n unknown_row) i unknown_row (omega (arith, past, length-replicate n unknown_row))
]

rows_unknown : (n : ℕ) (rows : List KnownRow) → rows ≡ replicate n unknown_row → (i : ℕ) → row_at rows i ≡ unknown_row
rows_unknown n rows e i = ap (λ (xs : List KnownRow). row_at xs i) e ∙ all_unknown n i

dated : (rows : List KnownRow) → ((i : ℕ) → row_at rows i ≡ unknown_row) → AreDated rows 1
dated rows e = record {
  begun = omega arith;
  past = λ i. (let z : (row_at rows i).since ≡ 0 = ap (λ (r : KnownRow). r.since) (e i) in omega (arith, z));
  before = λ i. (let z : (row_at rows i).since ≡ 0 = ap (λ (r : KnownRow). r.since) (e i) in omega (arith, z));
}

pub invariant_of-result : goal.invariant_of-result
invariant_of-result c = record {
  dated = dated c.in_ok-rows.rows.items (rows_unknown (TERMINALS * MOST_FORKS * SPACE_PAGES) c.in_ok-rows.rows.items c.in_ok-rows.ensures);
  sized = ap length c.in_ok-rows.ensures ∙ length-replicate (TERMINALS * MOST_FORKS * SPACE_PAGES) unknown_row;
}

pub returns : goal.returns
returns c space page = ap (known_since 1) (rows_unknown (TERMINALS * MOST_FORKS * SPACE_PAGES) c.in_ok-rows.rows.items c.in_ok-rows.ensures (space * SPACE_PAGES + page))
