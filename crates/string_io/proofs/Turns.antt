-- How turns of calls on strings come out, by their plans.
use Rattle.std.proofs.Common.{◌≡◌, ℕ, Bool, cond, List, refl, sym, ◌∙◌, ap, subst, inl, inr}
use Rattle.std.specs.Prelude.{◌==◌, Ok, Err, false}
use Rattle.std.specs.Ordering.{nat_cmp}
use Rattle.machine_names.specs.declared.names.ForkName.{ForkName}
use Rattle.page_contracts.specs.DrumWords.{DrumWords}
use Rattle.page_contracts.specs.Pages.{PagesMeaning}
use Rattle.plain_pages.specs.PlainPages.{NumberedPages}
use Rattle.plain_typing.specs.Lines.{InputLine}
use Rattle.plain_units.specs.declared.channel.TheConstants.{ILLEGAL_INSTRUCTION}
use Rattle.plain_model.specs.declared.call.TheConstants.{PSOUT, SIN, SOUT}
use Rattle.plain_model.specs.declared.call.End.{End}
use Rattle.plain_model.specs.declared.call.End.TheVariants.{Trap as TrapEnd}
use Rattle.plain_model.specs.declared.call.ByteChange.{ByteChange}
use Rattle.plain_model.specs.Calls.{Came, ends, parts_behind, turn_on}
use Rattle.plain_model.specs.ByteCalls.{ByteAsked, ByteTurn, byte_changed}
use Rattle.plain_model.specs.StringCalls.{psout, sin, sout, string_call}
use Rattle.plain_model.specs.FileCalls.{FileParts, Jobs}
use Rattle.call_turns.specs.declared.answer.Answer.{Answer}
use Rattle.call_turns.specs.Answers.{Went, answer_of, stopped_by}
use Rattle.ka10_unit.specs.declared.taken.Stop.{Stop}
use Rattle.ka10_unit.specs.declared.taken.Stop.TheVariants.{Trap, Need}
use Rattle.ka10_unit.specs.Gathers.{framed}
use Rattle.file_tables.specs.declared.tables.FileTables.{FileTables}
use Rattle.file_tables.specs.Keys.{key_of, seen_in}
use Rattle.file_bytes.specs.Asking.{HasLine, jobs_with, parts}
use Rattle.file_bytes.specs.Planning.{made_for}
use Rattle.file_bytes.proofs.JobParts.{all_same}
use Rattle.file_bytes.proofs.Tests.{is_other}
use Rattle.string_io.specs.declared.plan.Plan.{Plan}
use Rattle.string_io.specs.Carrying.{CarriedAt}
use Rattle.string_io.specs.Depositing.{pages_planned}
use Rattle.string_io.specs.Planning.{Plans}
use Rattle.string_io.specs.Turning.{StringTurned}

-- a trap leaves all as it was
trap_leaves : (key : List ℕ → ℕ) (v made : FileParts nat_cmp) (channel : ℕ) → v ≡ parts_behind (byte_changed key) v made (TrapEnd channel)
unfolding parts_behind
trap_leaves key v made channel = refl

module _ {P : Type 0} (means : PagesMeaning P) (old : P) (tables : FileTables) (line : InputLine) (who : ForkName) (turn : NumberedPages → ByteTurn) where
  -- A PLAN THAT WAS CARRIED OUT
  pub went : (new : P) (tables' : FileTables) (line' : InputLine) (plan : Plan) → plan.fork ≡ who → Plans means old tables who turn (Ok plan) → ((d : DrumWords) → means.fits old d → CarriedAt means old new tables tables' line line' plan d)
      → (result : Answer) → result ≡ answer_of plan.ending → StringTurned means old new tables tables' line line' who.tty result turn
  went new tables' line' plan fork plans carried result answered = record {
    fits = λ d fits. (carried d fits).fits;
    comes = λ d jobs fits has.
        let p = framed means old d in
        let key = key_of tables in
        let t = who.tty in
        let left = subst (λ (f : ForkName). HasLine jobs f.tty tables line → parts (jobs_with jobs f.tty tables' line') tables' (means.plain new d) ≡ parts_behind (byte_changed key) (parts jobs tables p.pages) (parts jobs tables (made_for tables f.tty (pages_planned p plan) plan.ending)) plan.ending) fork ((carried d fits).left jobs) has in
        let here : Went (byte_changed key) (parts jobs tables p.pages) (parts jobs tables (made_for tables t (pages_planned p plan) plan.ending)) (parts (jobs_with jobs t tables' line') tables' (means.plain new d)) result plan.ending = record { answered = answered; left = left } in
        inl (subst (λ (c : Came nat_cmp ByteChange). Went (byte_changed key) (parts jobs tables p.pages) (parts jobs tables c.pages) (parts (jobs_with jobs t tables' line') tables' (means.plain new d)) result c.end) (sym (plans.is d fits)) here);
  }

  -- A TURN THAT STOPS
  pub stops_so : (stop : Stop) → Plans means old tables who turn (Err stop) → (result : Answer) → result ≡ stopped_by stop → StringTurned means old old tables tables line line who.tty result turn
  stops_so (Trap channel) plans result answered = record {
    fits = λ d fits. fits;
    comes = λ d jobs fits has.
        let key = key_of tables in
        let t = who.tty in
        let v = parts jobs tables (means.plain old d) in
        let came = turn_on (seen_in tables) (means.plain old d) (turn (means.plain old d)) in
        let same = ap (λ (js : Jobs). parts js tables (means.plain old d)) (all_same jobs t tables tables line line has refl refl) in
        let here : Went (byte_changed key) v (parts jobs tables came.pages) (parts (jobs_with jobs t tables line) tables (means.plain old d)) result (TrapEnd channel) = record { answered = answered; left = same ∙ trap_leaves key v (parts jobs tables came.pages) channel } in
        inl (subst (λ (e : End ByteChange). Went (byte_changed key) v (parts jobs tables came.pages) (parts (jobs_with jobs t tables line) tables (means.plain old d)) result e) (sym (plans.is d fits)) here);
  }
  stops_so (Need n) plans result answered = record {
    fits = λ d fits. fits;
    comes = λ d jobs fits has. inr (record { need = n; answered = answered; reason = plans.is d fits; left = ap (λ (js : Jobs). parts js tables (means.plain old d)) (all_same jobs who.tty tables tables line line has refl refl) });
  }

-- a number that is none of these calls
pub no_call : (number : ℕ) (a : ByteAsked) → (number ≡ SIN → ⊥) → (number ≡ SOUT → ⊥) → (number ≡ PSOUT → ⊥) → ends (TrapEnd ILLEGAL_INSTRUCTION) ≡ string_call number a
no_call number a first second third = sym (ap (λ b. cond b (sin a) (from_sout (SOUT == number))) (no SIN first) ∙ ap from_sout (no SOUT second) ∙ ap from_psout (no PSOUT third))
  where
    no : (k : ℕ) → (number ≡ k → ⊥) → (k == number) ≡ false
    no k ne = is_other k number (λ e. ne (sym e))

    from_psout : Bool → ByteTurn
    from_psout b = cond b (psout a) (ends (TrapEnd ILLEGAL_INSTRUCTION))

    from_sout : Bool → ByteTurn
    from_sout b = cond b (sout a) (from_psout (PSOUT == number))
