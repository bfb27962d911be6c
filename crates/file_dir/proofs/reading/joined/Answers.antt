use Rattle.std.proofs.Common.{◌≡◌, ◌⊎◌, inl, inr, ◌↔◌, ◌+◌, ◌<◌, ◌≤◌, ℕ, List, [], Bor, false, length, get_or, ap, arith}
use Rattle.std.proofs.lemmas.Bool.{cases_lt}
use Rattle.std.proofs.lemmas.List.Folds.{length-flat_map-take}
use Rattle.std.specs.Prelude.{Result, IsOk, is_ok}
use Rattle.std.specs.List.{flat_map}
use Rattle.script_lang.specs.declared.names.TheConstants.{MOST_FILE}
use Rattle.file_dir.proofs.reading.joined.Goals as goal

-- what did not fit is too long
too_long : {A E : Type 0} (result : Result A E) (a b all : ℕ) → IsOk result ↔ (a + b ≤ MOST_FILE) → false ≡ is_ok result → a + b ≤ all → MOST_FILE < all
too_long result a b all fits failed more = by (cases_lt MOST_FILE (a + b))
  where
    by : (MOST_FILE < a + b) ⊎ (a + b ≤ MOST_FILE) → MOST_FILE < all
    by (inl long) = omega arith
    by (inr short) = absurd (let went = fits.1 short in cc (went, failed))

pub returns-in_err-ok : goal.returns-in_err-ok
returns-in_err-ok c =
    let none : Bor (List ℕ) = record { ref_ptr = (0, 0); now = [] } in
    let pieces = c.args.pieces.now in
    let i = c.loop-piece.piece-index in
    let more = length-flat_map-take (λ (p : Bor (List ℕ)). p.now) pieces i none (omega arith) in
    let so_far : length c.loop-piece.text.items + length (get_or pieces i none).now ≤ length (flat_map (λ (p : Bor (List ℕ)). p.now) pieces) = omega
    (arith, more, ap length c.loop-piece.invariant) in
    rw c.from_residual.ensures (too_long c.try_extend_from_slice.result (length c.loop-piece.text.items) (length (get_or pieces i none).now)
    (length (flat_map (λ (p : Bor (List ℕ)). p.now) pieces))
    c.try_extend_from_slice.ensures.variant c.in_err-ok.ensures.variant so_far)
