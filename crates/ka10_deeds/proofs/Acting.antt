-- The acts are those of the opcodes, computed over all 512.
use Rattle.std.proofs.Common.{◌≡◌, ℕ, zero, suc, ◌+◌, ◌<◌, List, [], ◌∷◌, length, get_or, refl, sym, ◌∙◌, ap, subst, arith}
use Rattle.ka10_table.specs.Rows.{row_among, row_of, rows_from}
use Rattle.ka10_deeds.specs.declared.acts.Act.{Act}
use Rattle.ka10_deeds.specs.declared.acts.TheConstants.{ACTS}
use Rattle.ka10_deeds.specs.Acts.{Instruction, acted, all_acted, instruction_at, listed}

-- each act gives the instruction of its opcode
all_are : all_acted 0 ACTS (rows_from 512 0) ≡ listed 0 (rows_from 512 0)
unfolding all_acted listed rows_from row_of row_among
all_are = refl

listed_at : (n op i : ℕ) (d : Instruction) → i < n → get_or (listed op (rows_from n op)) i d ≡ instruction_at (op + i)
unfolding listed rows_from
listed_at zero op i d h = absurd (omega arith)
listed_at (suc n) op zero d h = ap instruction_at (omega arith)
listed_at (suc n) op (suc i) d h = listed_at n (op + 1) i d (omega arith) ∙ ap instruction_at (omega arith)

acted_at : (acts : List Act) (n op i : ℕ) (a : Act) (d : Instruction) → i < n → i < length acts
    → get_or (all_acted op acts (rows_from n op)) i d ≡ acted (get_or acts i a) (instruction_at (op + i))
unfolding all_acted rows_from
acted_at [] n op i a d h k = absurd (omega arith)
acted_at (x ∷ acts) zero op i a d h k = absurd (omega arith)
acted_at (x ∷ acts) (suc n) op zero a d h k = ap (λ (m : ℕ). acted x (instruction_at m)) (omega arith)
acted_at (x ∷ acts) (suc n) op (suc i) a d h k =
    acted_at acts n (op + 1) i a d (omega arith) (omega arith) ∙ ap (λ (m : ℕ). acted (get_or acts i a) (instruction_at m)) (omega arith)

pub act_is : (op : ℕ) (a : Act) → op < 512 → acted (get_or ACTS op a) (instruction_at op) ≡ instruction_at op
act_is op a h =
    let d : Instruction = instruction_at op in
    let at : acted (get_or ACTS op a) (instruction_at (0 + op)) ≡ instruction_at (0 + op) =
    sym (acted_at ACTS 512 0 op a d h h) ∙ (ap (λ (is : List Instruction). get_or is op d) all_are ∙ listed_at 512 0 op d h) in
    let P : ℕ → Type 0 = λ m. acted (get_or ACTS op a) (instruction_at m) ≡ instruction_at m in
    let same : 0 + op ≡ op = omega arith in
    subst P same at
