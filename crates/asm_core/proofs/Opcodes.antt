-- Opcodes are below 512.
use Rattle.std.proofs.Common.{◌≡◌, ℕ, ◌<◌, List, [], ◌∷◌, Bool, true, false, Option, None, Some, refl, sym, subst}
use Rattle.std.specs.Prelude.{nat_lt, if◌then◌else◌, IfSome}
use Rattle.std.specs.List.{list_all}
use Rattle.std.specs.Str.{bytes_eq}
use Rattle.std.proofs.lemmas.Bool.{ltb-true}
use Rattle.asm_core.specs.Cutting.{pieces}
use Rattle.asm_core.specs.Names.{Group, arithmetic, in_groups, jumps, logic, meaning, of_group, or_else}
use Rattle.asm_core.proofs.Digits.{both}

abbrev is_small : List ℕ × ℕ → Bool
is_small p = nat_lt p.1 512

abbrev are_small : List Group → Bool
are_small gs = list_all (λ g. list_all is_small (of_group g)) gs

arithmetic_small : are_small arithmetic ≡ true
unfolding of_group pieces
arithmetic_small = refl

jumps_small : are_small jumps ≡ true
unfolding of_group pieces
jumps_small = refl

logic_small : are_small logic ≡ true
unfolding of_group pieces
logic_small = refl

abbrev pub IsSmall : Option ℕ → Type 0
IsSmall o = IfSome o (λ n. n < 512)

meaning_by : (b : Bool) (n : ℕ) (o : Option ℕ) → n < 512 → IsSmall o → IsSmall (if b then Some n else o)
meaning_by true n o small rest = small
meaning_by false n o small rest = rest

meaning_small : (ps : List (List ℕ × ℕ)) (word : List ℕ) → list_all is_small ps ≡ true → IsSmall (meaning ps word)
meaning_small [] word h = tt
meaning_small (p ∷ ps) word h =
    let parts = both (is_small p) (list_all is_small ps) h in
    meaning_by (bytes_eq p.0 word) p.1 (meaning ps word) (ltb-true p.1 512 parts.0) (meaning_small ps word parts.1)

either_small : (o p : Option ℕ) → IsSmall o → IsSmall p → IsSmall (or_else o p)
either_small None p ho hp = hp
either_small (Some n) p ho hp = ho

groups_small : (gs : List Group) (word : List ℕ) → are_small gs ≡ true → IsSmall (in_groups gs word)
groups_small [] word h = tt
groups_small (g ∷ gs) word h =
    let parts = both (list_all is_small (of_group g)) (are_small gs) h in
    either_small (meaning (of_group g) word) (in_groups gs word) (meaning_small (of_group g) word parts.0) (groups_small gs word parts.1)

-- what a word means by these groups is below 512
pub arithmetic_found : (o : Option ℕ) (word : List ℕ) → o ≡ in_groups arithmetic word → IsSmall o
arithmetic_found o word e = subst IsSmall (sym e) (groups_small arithmetic word arithmetic_small)

pub jump_found : (o : Option ℕ) (word : List ℕ) → o ≡ in_groups jumps word → IsSmall o
jump_found o word e = subst IsSmall (sym e) (groups_small jumps word jumps_small)

pub logic_found : (o : Option ℕ) (word : List ℕ) → o ≡ in_groups logic word → IsSmall o
logic_found o word e = subst IsSmall (sym e) (groups_small logic word logic_small)
