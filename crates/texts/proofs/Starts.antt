-- What a new writer stands for.
use Rattle.std.proofs.Common.{◌≡◌, ℕ, ◌≤◌, List, [], ◌++◌, Option, None, Some, refl, sym, ◌∙◌, ap, subst, arith}
use Rattle.std.proofs.lemmas.List.{append-nil}
use Rattle.script_texts.specs.Texts.{transcript, entries_text}
use Rattle.texts.specs.declared.writer.Writer.{Writer}
use Rattle.texts.specs.OpenLine.{text_after}
use Rattle.texts.specs.OpenRun.{record_after}
use Rattle.texts.specs.Turns.{open_run, run_count}
use Rattle.texts.specs.Wrote.{Wrote}
use Rattle.texts.specs.Writer.{IsOnward, Stands}
use Rattle.texts.proofs.InLines.{lined}
use Rattle.texts.proofs.InRuns.{recorded}

-- each writer is itself
pub onward_start : {T R : Type 0} (out_faults : T → ℕ) (rec_faults : R → ℕ) (w : Writer T R) → IsOnward out_faults rec_faults w w
onward_start out_faults rec_faults w = record {
  out_name = refl;
  rec_name = refl;
  later = omega arith;
  out_later = omega arith;
  rec_later = omega arith;
  cause = λ h. absurd (omega arith);
  out_counted = λ h. absurd (omega arith);
  rec_counted = λ h. absurd (omega arith);
}

-- with nothing open, it stands for nothing since then
pub stands_start : {T R : Type 0} (out_taken : T → Option (List ℕ)) (rec_taken : R → Option (List ℕ)) (w : Writer T R) → w.line ≡ None → w.run ≡ None → Stands out_taken rec_taken w w [] []
stands_start out_taken rec_taken w line run = record {
  out = subst (λ o. Wrote (out_taken w.out.now) (out_taken w.out.now) (text_after o) (λ js. transcript ([] ++ js))) (sym line)
      (record { each = λ a h. ([], h ∙ ap Some (sym (append-nil a)), λ xs. lined xs) });
  rec = subst (λ r. Wrote (rec_taken w.rec.now) (rec_taken w.rec.now) (record_after (open_run r)) (λ ts. entries_text ([] ++ ts))) (sym run)
      (record { each = λ a h. ([], h ∙ ap Some (sym (append-nil a)), λ xs. recorded xs) });
  count = subst (λ r. run_count r ≤ 0) (sym run) (omega arith);
  tallied = λ fresh. fresh;
}
