-- How turns of calls on pseudo-interrupts come out.
use Rattle.std.proofs.Common.{◌≡◌, ℕ, Option, None, refl, sym, ◌∙◌, ap, subst, inl, inr}
use Rattle.std.specs.Prelude.{Ok, Err}
use Rattle.std.specs.Ordering.{nat_cmp}
use Rattle.machine_names.specs.declared.names.Tty.{Tty}
use Rattle.page_contracts.specs.declared.answers.Need.{Need}
use Rattle.page_contracts.specs.DrumWords.{DrumWords}
use Rattle.page_contracts.specs.Pages.{PagesMeaning}
use Rattle.plain_pages.specs.PlainPages.{NumberedPages}
use Rattle.plain_typing.specs.Lines.{InputLine}
use Rattle.plain_units.specs.declared.registers.Regs.{Regs}
use Rattle.plain_model.specs.declared.call.End.{End}
use Rattle.plain_model.specs.declared.call.End.TheVariants.{Done, Waits, Halts, Refused, Failed, Trap as TrapEnd}
use Rattle.plain_model.specs.declared.call.InterruptChange.{InterruptChange}
use Rattle.plain_model.specs.declared.call.InterruptChange.TheVariants.{Become}
use Rattle.plain_model.specs.declared.fork.Fork.{Fork}
use Rattle.plain_model.specs.Calls.{Asked, Came, ends, no_files, parts_behind, turn_on, Turn as ATurn}
use Rattle.plain_model.specs.Families.{Parts, interrupts_changed}
use Rattle.plain_model.specs.FileCalls.{Jobs}
use Rattle.plain_model.specs.InterruptCalls.{dismissed, restored, without_level, word_stored}
use Rattle.plain_model.specs.Trees.{PlainTree, with_body, with_changed_of}
use Rattle.call_turns.specs.declared.answer.Answer.{Answer}
use Rattle.call_turns.specs.declared.answer.Answer.TheVariants.{After}
use Rattle.call_turns.specs.Answers.{Went, answer_of, stopped_by}
use Rattle.ka10_unit.specs.declared.taken.Stop.{Stop}
use Rattle.ka10_unit.specs.declared.taken.Stop.TheVariants.{Trap, Need as NeedStop}
use Rattle.ka10_unit.specs.Gathers.{Framed, framed}
use Rattle.text_pointers.specs.Reading.{pages_so_far}
use Rattle.text_pointers.proofs.Needs.{read_needs}
use Rattle.text_pointers.proofs.Turns.{TurnsTo, turn_reads}
use Rattle.text_pointers.specs.declared.reader.Reader.{Reader}
use Rattle.psi_calls.specs.Stored.{ReadsStored}
use Rattle.psi_calls.specs.Turning.{Changes, EndsOver, FileMap, HasCodes, PsiNeeds, Turned, jobs_with, parts}
use Rattle.psi_calls.proofs.Changed.{become_changes}
use Rattle.psi_calls.proofs.JobCodes.{same_codes}
use Rattle.psi_calls.proofs.StoredReads.{only_reads}

-- ---- ends

module _ (tree tree' : PlainTree) (line line' : InputLine) (t : Tty) where
  -- one that is done leaves what its change does
  pub done_ends : (e : End InterruptChange) (what : InterruptChange) (regs : Regs) (out post : Option ℕ) → e ≡ Done what regs out post → Changes tree tree' line line' t what → EndsOver tree tree' line line' t e
  unfolding parts_behind
  done_ends e what regs out post is changes = subst (EndsOver tree tree' line line' t) (sym is) changes

  all_same : tree' ≡ tree → line' ≡ line → (files : FileMap) (jobs : Jobs) (clock : ℕ) (p : NumberedPages) → HasCodes jobs t line → parts tree' files (jobs_with jobs t line') clock p ≡ parts tree files jobs clock p
  all_same same kept files jobs clock p has =
      ap (λ (u : PlainTree). parts u files (jobs_with jobs t line') clock p) same ∙ ap (λ (js : Jobs). parts tree files js clock p) (same_codes jobs t line line' has (ap (λ (l : InputLine). l.codes) kept))

  -- another leaves all as it was
  pub other_ends : (e : End InterruptChange) → ((what : InterruptChange) (regs : Regs) (out post : Option ℕ) → e ≡ Done what regs out post → ⊥) → tree' ≡ tree → line' ≡ line → EndsOver tree tree' line line' t e
  unfolding parts_behind
  other_ends (Done what regs out post) other same kept = absurd (other what regs out post refl)
  other_ends (Waits on) other same kept = all_same same kept
  other_ends Halts other same kept = all_same same kept
  other_ends (Refused code) other same kept = all_same same kept
  other_ends (Failed code) other same kept = all_same same kept
  other_ends (TrapEnd channel) other same kept = all_same same kept

  -- a turn that ends at once
  pub ends_turned : {P : Type 0} (means : PagesMeaning P) (p : P) (result : Answer) (e : End InterruptChange) → result ≡ answer_of e → EndsOver tree tree' line line' t e → Turned means p p tree tree' line line' t result (ends e)
  unfolding turn_on
  ends_turned means p result e answered told = record {
    fits = λ d fits. fits;
    comes = λ d files jobs clock fits has. inl (record { answered = answered; left = told files jobs clock (means.plain p d) has });
  }

-- ---- DEBRK

trap_leaves : (v made : Parts nat_cmp) (channel : ℕ) → v ≡ parts_behind interrupts_changed v made (TrapEnd channel)
unfolding parts_behind
trap_leaves v made channel = refl

done_leaves : (v made new : Parts nat_cmp) (what : InterruptChange) (regs : Regs) → new ≡ interrupts_changed what made → new ≡ parts_behind interrupts_changed v made (Done what regs None None)
unfolding parts_behind
done_leaves v made new what regs is = is

came_ends : (q : NumberedPages) (e : End InterruptChange) → turn_on no_files q (ends e) ≡ record { end = e; pages = q }
unfolding turn_on
came_ends q e = refl

module _ (a : Asked) (f : Fork) (table level : ℕ) where
  -- how it ends, told the word
  abbrev Ending : ℕ → End InterruptChange
  Ending w = Done (Become f.name (without_level f.body level)) (restored a.regs w) None None

  abbrev Turn : ATurn ⊥ InterruptChange
  Turn = dismissed a f table level

  goes : (p : Framed) (r : Reader) (w : ℕ) → ReadsStored a.who p a.regs table level r (Ok w) → turn_on no_files p.pages Turn ≡ record { end = Ending w; pages = pages_so_far p r }
  goes p r w h =
      subst (TurnsTo no_files a.who a.regs (λ w. ends (Ending w)) (turn_on no_files p.pages Turn)) h.plain (turn_reads no_files a.who a.regs (λ w. ends (Ending w)) (word_stored a.regs table level) p.pages)
      ∙ came_ends (pages_so_far p r) (Ending w)

  traps : (p : Framed) (r : Reader) (channel : ℕ) → ReadsStored a.who p a.regs table level r (Err (Trap channel)) → (turn_on no_files p.pages Turn).end ≡ TrapEnd channel
  traps p r channel h = subst (TurnsTo no_files a.who a.regs (λ w. ends (Ending w)) (turn_on no_files p.pages Turn)) h.plain (turn_reads no_files a.who a.regs (λ w. ends (Ending w)) (word_stored a.regs table level) p.pages)

  waits : (p : Framed) (r : Reader) (n : Need) → ReadsStored a.who p a.regs table level r (Err (NeedStop n)) → PsiNeeds p.scene p.pages Turn n
  waits p r n h = read_needs (λ scene q t. PsiNeeds scene q t n) a.who a.regs n (λ w. ends (Ending w)) (λ scene q steps rest needs. needs) p (word_stored a.regs table level) (only_reads a.regs table level) h.is

  module _ {P : Type 0} (means : PagesMeaning P) (old : P) (tree : PlainTree) (line : InputLine) where
    -- its reading stops it
    pub stops_turned : (r : Reader) (stop : Stop) → ((d : DrumWords) → means.fits old d → ReadsStored a.who (framed means old d) a.regs table level r (Err stop)) → (result : Answer) → result ≡ stopped_by stop
        → Turned means old old tree tree line line a.who.tty result Turn
    stops_turned r (Trap channel) reads result answered = record {
      fits = λ d fits. fits;
      comes = λ d files jobs clock fits has.
          let p = framed means old d in
          let v = parts tree files jobs clock p.pages in
          let made : Parts nat_cmp = record v { pages = (turn_on no_files p.pages Turn).pages } in
          let new = parts tree files (jobs_with jobs a.who.tty line) clock p.pages in
          let here : Went interrupts_changed v made new result (TrapEnd channel) = record { answered = answered; left = all_same tree tree line line a.who.tty refl refl files jobs clock p.pages has ∙ trap_leaves v made channel } in
          inl (subst (λ (e : End InterruptChange). Went interrupts_changed v made new result e) (sym (traps p r channel (reads d fits))) here);
    }
    stops_turned r (NeedStop n) reads result answered = record {
      fits = λ d fits. fits;
      comes = λ d files jobs clock fits has. inr (record { need = n; answered = answered; reason = waits (framed means old d) r n (reads d fits); left = all_same tree tree line line a.who.tty refl refl files jobs clock (means.plain old d) has });
    }

    -- the word was read, the pages that this makes were made, and the fork was changed
    pub went_turned : (new : P) (tree' : PlainTree) (r : Reader) (w : ℕ) → ((d : DrumWords) → means.fits old d → ReadsStored a.who (framed means old d) a.regs table level r (Ok w)) → ((d : DrumWords) → means.fits old d → means.fits new d)
        → ((d : DrumWords) → means.fits old d → means.plain new d ≡ pages_so_far (framed means old d) r) → tree' ≡ with_changed_of tree f.name (with_body (without_level f.body level)) → (result : Answer) → result ≡ After (restored a.regs w) None None
        → Turned means old new tree tree' line line a.who.tty result Turn
    went_turned new tree' r w reads fit made is result answered = record {
      fits = fit;
      comes = λ d files jobs clock fits has.
          let p = framed means old d in
          let v = parts tree files jobs clock p.pages in
          let what = Become f.name (without_level f.body level) in
          let changed = become_changes tree tree' line line a.who.tty f.name (without_level f.body level) is refl files jobs clock (means.plain new d) has in
          let behind : Parts nat_cmp = record v { pages = pages_so_far p r } in
          let new_parts = parts tree' files (jobs_with jobs a.who.tty line) clock (means.plain new d) in
          let here : Went interrupts_changed v behind new_parts result (Ending w) = record {
            answered = answered;
            left = done_leaves v behind new_parts what (restored a.regs w) (changed ∙ ap (λ (q : NumberedPages). interrupts_changed what (parts tree files jobs clock q)) (made d fits));
          } in
          inl (subst (λ (c : Came nat_cmp InterruptChange). Went interrupts_changed v (record v { pages = c.pages }) new_parts result c.end) (sym (goes p r w (reads d fits))) here);
    }
