-- How turns of calls on JFNs come out.
use Rattle.std.proofs.Common.{◌≡◌, ℕ, List, Option, refl, sym, ◌∙◌, ap, subst, inl, inr}
use Rattle.std.specs.Prelude.{Ok, Err}
use Rattle.std.specs.Ordering.{nat_cmp}
use Rattle.plain_units.specs.Deeds.{in_ac}
use Rattle.plain_units.specs.declared.registers.Regs.{Regs}
use Rattle.page_contracts.specs.DrumWords.{DrumWords}
use Rattle.page_contracts.specs.Pages.{PagesMeaning}
use Rattle.page_contracts.specs.Stores.{StoreMeaning}
use Rattle.plain_pages.specs.PlainPages.{NumberedPages}
use Rattle.plain_model.specs.declared.call.End.{End}
use Rattle.plain_model.specs.declared.call.End.TheVariants.{Done, Waits, Halts, Refused, Failed, Trap as TrapEnd}
use Rattle.plain_model.specs.declared.call.FileChange.{FileChange}
use Rattle.plain_model.specs.Calls.{Came, Turn, ends, parts_behind, turn_on}
use Rattle.plain_model.specs.FileCalls.{FileParts, JfnAsked, Jobs, file_changed, gtjfn}
use Rattle.call_turns.specs.declared.answer.Answer.{Answer}
use Rattle.call_turns.specs.declared.answer.Answer.TheVariants as answer
use Rattle.call_turns.specs.Answers.{AnswerNeeds, IsDone, Went, answer_of, stopped_by}
use Rattle.ka10_unit.specs.declared.taken.Stop.{Stop}
use Rattle.ka10_unit.specs.declared.taken.Stop.TheVariants.{Trap, Need}
use Rattle.ka10_unit.specs.Gathers.{framed}
use Rattle.ka10_unit.specs.Taking.{IsTrap, StopNeeds}
use Rattle.arrayvec.specs.ArrayVec.{ArrayVec}
use Rattle.text_pointers.specs.declared.reader.Reader.{Reader}
use Rattle.text_pointers.specs.Reading.{ReadsText, bytes_of, pages_so_far}
use Rattle.text_pointers.proofs.Turns.{text_goes, text_traps}
use Rattle.file_tables.specs.declared.tables.FileTables.{FileTables}
use Rattle.file_tables.specs.Keys.{key_of}
use Rattle.file_calls.specs.Asking.{named_turn, names_of, parts}
use Rattle.file_calls.specs.Changing.{ChangesAll, DirFollows}
use Rattle.file_calls.specs.Turning.{EndFollows, EndsOver, Stays, Turned, behind_end}

-- an answer to an end needs nothing
pub end_done : (e : End FileChange) → IsDone (answer_of e)
end_done (Done what regs out post) = tt
end_done (Waits on) = tt
end_done Halts = tt
end_done (Refused code) = tt
end_done (Failed code) = tt
end_done (TrapEnd channel) = tt

module _ {P : Type 0} (store : StoreMeaning P) (most : ℕ) (p : P) where
  pub done_needs : (a : Answer) → IsDone a → AnswerNeeds store most p a
  done_needs (answer.Need n) done = absurd done
  done_needs a done = tt

  pub stop_needs : (s : Stop) → StopNeeds store most p s → AnswerNeeds store most p (stopped_by s)
  stop_needs (Trap channel) h = tt
  stop_needs (Need n) h = h

pub trap_done : (s : Stop) → IsTrap s → IsDone (stopped_by s)
trap_done (Trap channel) h = tt
trap_done (Need n) h = absurd h

-- what is left by a turn that is done is what its change leaves of what it made, whatever was there
module _ (key : List ℕ → ℕ) (v made : FileParts nat_cmp) where
  pub behind_made : (e : End FileChange) → let w = behind_end e v made in parts_behind (file_changed key) w w e ≡ parts_behind (file_changed key) v made e
  unfolding parts_behind
  behind_made (Done what regs out post) = refl
  behind_made (Waits on) = refl
  behind_made Halts = refl
  behind_made (Refused code) = refl
  behind_made (Failed code) = refl
  behind_made (TrapEnd channel) = refl

pub parts_made : (jobs : Jobs) (tables : FileTables) (p q : NumberedPages) (e : End FileChange) → parts jobs tables (behind_end e p q) ≡ behind_end e (parts jobs tables p) (parts jobs tables q)
parts_made jobs tables p q (Done what regs out post) = refl
parts_made jobs tables p q (Waits on) = refl
parts_made jobs tables p q Halts = refl
parts_made jobs tables p q (Refused code) = refl
parts_made jobs tables p q (Failed code) = refl
parts_made jobs tables p q (TrapEnd channel) = refl

-- a trap leaves all as it was
pub trap_leaves : (key : List ℕ → ℕ) (v made : FileParts nat_cmp) (channel : ℕ) → parts_behind (file_changed key) v made (TrapEnd channel) ≡ v
unfolding parts_behind
trap_leaves key v made channel = refl

-- a turn that is done leaves what its change does
module _ {P : Type 0} (means : PagesMeaning P) (old new : P) (tables tables' : FileTables) where
  pub ends_done : (e : End FileChange) (what : FileChange) (regs : Regs) (out post : Option ℕ) → e ≡ Done what regs out post → ChangesAll means old new tables tables' what → DirFollows tables tables' what → EndsOver means old new tables tables' e
  unfolding parts_behind
  ends_done e what regs out post is changes follows = subst (EndsOver means old new tables tables') (sym is) (record { fits = changes.fits; left = changes.left; numbers = follows; stays = tt })

  -- where it isn't done, what was made is nothing
  pub stays_over : (first : P) (e : End FileChange) → behind_end e first old ≡ old → Stays old new tables tables' (answer_of e) → Stays first new tables tables' (answer_of e)
  stays_over first (Done what regs out post) is h = tt
  stays_over first (Waits on) is h = (h.0 ∙ sym is, h.1)
  stays_over first Halts is h = (h.0 ∙ sym is, h.1)
  stays_over first (Refused code) is h = (h.0 ∙ sym is, h.1)
  stays_over first (Failed code) is h = (h.0 ∙ sym is, h.1)
  stays_over first (TrapEnd channel) is h = (h.0 ∙ sym is, h.1)

-- an end that is no change leaves all as it was
module _ {P : Type 0} (means : PagesMeaning P) (p : P) (tables : FileTables) where
  left_none : (e : End FileChange) → ((what : FileChange) (regs : Regs) (out post : Option ℕ) → e ≡ Done what regs out post → ⊥) → (key : List ℕ → ℕ) (v : FileParts nat_cmp) → v ≡ parts_behind (file_changed key) v v e
  unfolding parts_behind
  left_none (Done what regs out post) open_end key v = absurd (open_end what regs out post refl)
  left_none (Waits on) open_end key v = refl
  left_none Halts open_end key v = refl
  left_none (Refused code) open_end key v = refl
  left_none (Failed code) open_end key v = refl
  left_none (TrapEnd channel) open_end key v = refl

  follows_none : (e : End FileChange) → ((what : FileChange) (regs : Regs) (out post : Option ℕ) → e ≡ Done what regs out post → ⊥) → EndFollows tables tables e
  follows_none (Done what regs out post) open_end = absurd (open_end what regs out post refl)
  follows_none (Waits on) open_end = refl
  follows_none Halts open_end = refl
  follows_none (Refused code) open_end = refl
  follows_none (Failed code) open_end = refl
  follows_none (TrapEnd channel) open_end = refl

  stays_none : (e : End FileChange) → Stays p p tables tables (answer_of e)
  stays_none (Done what regs out post) = tt
  stays_none (Waits on) = (refl, refl)
  stays_none Halts = (refl, refl)
  stays_none (Refused code) = (refl, refl)
  stays_none (Failed code) = (refl, refl)
  stays_none (TrapEnd channel) = (refl, refl)

  pub ends_none : (e : End FileChange) → ((what : FileChange) (regs : Regs) (out post : Option ℕ) → e ≡ Done what regs out post → ⊥) → EndsOver means p p tables tables e
  ends_none e open_end = record {
    fits = λ d fits. fits;
    left = λ d jobs fits held. left_none e open_end (key_of tables) (parts jobs tables (means.plain p d));
    numbers = follows_none e open_end;
    stays = stays_none e;
  }

module _ {P : Type 0} (means : PagesMeaning P) (old mid new : P) (tables tables' : FileTables) (a : JfnAsked) (result : Answer) (e : End FileChange) (answered : result ≡ answer_of e) where
  -- a turn that ends at once
  pub ends_over : EndsOver means old new tables tables' e → (t : Turn ⊥ FileChange) → ends e ≡ t → Turned means old new tables tables' a result t
  unfolding turn_on
  ends_over over t is = subst (λ (u : Turn ⊥ FileChange). Turned means old new tables tables' a result u) is (record {
    fits = over.fits;
    comes = λ d jobs fits held. inl (record { answered = answered; left = over.left d jobs fits held });
    numbers = λ d fits done. over.numbers;
  })

  -- a turn that goes on with its text, and then ends so
  module _ (reader : Reader) (text : Option (ArrayVec ℕ)) (pages : (d : DrumWords) → means.fits old d → means.fits mid d × (means.plain mid d ≡ behind_end e (means.plain old d) (pages_so_far (framed means old d) reader)))
      (reads : (d : DrumWords) → means.fits old d → ReadsText a.who (framed means old d) a.regs (in_ac a.regs 2) reader (Ok text))
      (turn : (p : NumberedPages) → turn_on (names_of tables) p (named_turn a (bytes_of text)) ≡ record { end = e; pages = p }) (over : EndsOver means mid new tables tables' e) where
    came : (d : DrumWords) → means.fits old d → turn_on (names_of tables) (means.plain old d) (gtjfn a) ≡ record { end = e; pages = pages_so_far (framed means old d) reader }
    came d fits = text_goes (names_of tables) a.who a.regs (named_turn a) (framed means old d) (in_ac a.regs 2) reader text (reads d fits) ∙ turn (pages_so_far (framed means old d) reader)

    pub text_over : Turned means old new tables tables' a result (gtjfn a)
    text_over = record {
      fits = λ d fits. over.fits d (pages d fits).0;
      comes = λ d jobs fits held.
          let p = means.plain old d in
          let q = pages_so_far (framed means old d) reader in
          let key = key_of tables in
          let left : parts jobs tables' (means.plain new d) ≡ parts_behind (file_changed key) (parts jobs tables p) (parts jobs tables q) e =
          over.left d jobs (pages d fits).0 held ∙ ap (λ (r : NumberedPages). let w = parts jobs tables r in parts_behind (file_changed key) w w e) (pages d fits).1
          ∙ ap (λ (w : FileParts nat_cmp). parts_behind (file_changed key) w w e) (parts_made jobs tables p q e) ∙ behind_made key (parts jobs tables p) (parts jobs tables q) e in
          let here : Went (file_changed key) (parts jobs tables p) (parts jobs tables q) (parts jobs tables' (means.plain new d)) result e = record { answered = answered; left = left } in
          inl (subst (λ (c : Came nat_cmp FileChange). Went (file_changed key) (parts jobs tables p) (parts jobs tables c.pages) (parts jobs tables' (means.plain new d)) result c.end) (sym (came d fits)) here);
      numbers = λ d fits done. subst (λ (c : Came nat_cmp FileChange). EndFollows tables tables' c.end) (sym (came d fits)) over.numbers;
    }

module _ {P : Type 0} (means : PagesMeaning P) (p : P) (tables : FileTables) (a : JfnAsked) where
  -- a turn whose reading stops
  pub text_stops : (reader : Reader) (stop : Stop) → ((d : DrumWords) → means.fits p d → ReadsText a.who (framed means p d) a.regs (in_ac a.regs 2) reader (Err stop)) → Turned means p p tables tables a (stopped_by stop) (gtjfn a)
  text_stops reader (Trap channel) reads = record {
    fits = λ d fits. fits;
    comes = λ d jobs fits held.
        let v = parts jobs tables (means.plain p d) in
        let came = turn_on (names_of tables) (means.plain p d) (gtjfn a) in
        let here : Went (file_changed (key_of tables)) v (parts jobs tables came.pages) v (answer.Trap channel) (TrapEnd channel) = record { answered = refl; left = sym (trap_leaves (key_of tables) v (parts jobs tables came.pages) channel) } in
        inl (subst (λ (e : End FileChange). Went (file_changed (key_of tables)) v (parts jobs tables came.pages) v (answer.Trap channel) e) (sym (traps d fits)) here);
    numbers = λ d fits done. subst (EndFollows tables tables) (sym (traps d fits)) refl;
  }
    where
      traps : (d : DrumWords) → means.fits p d → (turn_on (names_of tables) (means.plain p d) (gtjfn a)).end ≡ TrapEnd channel
      traps d fits = text_traps (names_of tables) a.who a.regs (named_turn a) (framed means p d) (in_ac a.regs 2) reader channel (reads d fits)
  text_stops reader (Need n) reads = record {
    fits = λ d fits. fits;
    comes = λ d jobs fits held. inr (record { need = n; answered = refl; reason = (reads d fits).is; left = refl });
    numbers = λ d fits done. absurd done;
  }

-- a turn that isn't done makes nothing
pub undone : {A : Type 0} (e : End FileChange) (old made : A) → ((what : FileChange) (regs : Regs) (out post : Option ℕ) → e ≡ Done what regs out post → ⊥) → behind_end e old made ≡ old
undone (Done what regs out post) old made open_end = absurd (open_end what regs out post refl)
undone (Waits on) old made open_end = refl
undone Halts old made open_end = refl
undone (Refused code) old made open_end = refl
undone (Failed code) old made open_end = refl
undone (TrapEnd channel) old made open_end = refl
