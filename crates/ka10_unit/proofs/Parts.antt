-- Parts of a unit one behind the other, and an instruction that is done on the registers.
use Rattle.std.proofs.Common.{◌≡◌, ℕ, List, Option, sym, ◌∙◌, ap}
use Rattle.std.specs.Prelude.{Result, Ok, Err}
use Rattle.machine_names.specs.declared.names.ForkName.{ForkName}
use Rattle.machine_names.specs.declared.names.Kind.TheVariants.{Read}
use Rattle.plain_units.specs.declared.registers.Regs.{Regs}
use Rattle.plain_units.specs.Steps.{Steps, refers}
use Rattle.plain_units.specs.Deeds.{Deed, nowhere, back, taken_of, deed_of}
use Rattle.plain_units.specs.Instructions.{does, does_byte, does_pointer, finishes, takes}
use Rattle.ka10_table.specs.declared.families.TableRow.{TableRow}
use Rattle.ka10_deeds.specs.declared.done.Done.{Done}
use Rattle.ka10_deeds.specs.declared.operands.Destination.{Destination}
use Rattle.ka10_deeds.specs.declared.operands.Destination.TheVariants.{Nowhere, Back}
use Rattle.ka10_unit.specs.declared.ends.Ending.{Ending}
use Rattle.ka10_unit.specs.declared.taken.Taken.{Taken}
use Rattle.ka10_unit.specs.declared.taken.Stop.{Stop}
use Rattle.ka10_deeds.specs.Done.{Leaves, stored_word, store_at}
use Rattle.ka10_unit.specs.Gathers.{Framed}
use Rattle.ka10_unit.specs.Taking.{Follows}
use Rattle.ka10_unit.specs.Planning.{Ends, IsDone}
use Rattle.ka10_unit.proofs.FinishedBy.{only_blocks}

module _ (f : ForkName) (p : Framed) (ac : List ℕ) where
  -- a part that stops the unit, and one behind which it goes on
  pub then_stops : {A : Type 0} (t new : Taken) (part : (A → Steps) → Steps) (rest : A → Steps) (stop : Stop) → Follows f p ac t new part (Err stop) → Ends f p ac t new (part rest) (Err stop)
  then_stops t new part rest stop h = record { stands = h.stands; put = tt; runs = h.runs rest }

  pub then_ends : {A : Type 0} (t mid new : Taken) (part : (A → Steps) → Steps) (rest : A → Steps) (x : A) (result : Result Ending Stop) → Follows f p ac t mid part (Ok x) → Ends f p ac mid new (rest x) result → Ends f p ac t new (part rest) result
  then_ends t mid new part rest x result h k = record { stands = k.stands; put = k.put; runs = h.runs rest ∙ k.runs }

  -- a byte instruction behind its pointer
  pub pointer_stops : (t new : Taken) (code n e : ℕ) (regs : Regs) (stop : Stop) → Follows f p ac t new (refers e Read) (Err stop) → Ends f p ac t new (does_pointer code regs n e) (Err stop)
  unfolding does_pointer
  pointer_stops t new code n e regs stop h = then_stops t new (refers e Read) (does_byte code regs n e) stop h

  pub pointer_ends : (t mid new : Taken) (code n e v : ℕ) (regs : Regs) (rest : Steps) (result : Result Ending Stop) → Follows f p ac t mid (refers e Read) (Ok v) → does_byte code regs n e v ≡ rest → Ends f p ac mid new rest result → Ends f p ac t new (does_pointer code regs n e) result
  unfolding does_pointer
  pointer_ends t mid new code n e v regs rest result h is k = then_ends t mid new (refers e Read) (does_byte code regs n e) v result h (rw is k)

  -- an instruction with its operand
  pub does_stops : (t new : Taken) (row : TableRow) (op n e last : ℕ) (regs : Regs) (at : Option ℕ) (stop : Stop) → at ≡ taken_of row regs n e → Follows f p ac t new (takes at e) (Err stop) → Ends f p ac t new (does row op regs n e last) (Err stop)
  unfolding does
  does_stops t new row op n e last regs at stop is h = rw (← is) (then_stops t new (takes at e) (λ m. finishes regs n (deed_of row op regs n e last m)) stop h)

  pub does_ends : (t mid new : Taken) (row : TableRow) (op n e last m : ℕ) (regs : Regs) (at : Option ℕ) (result : Result Ending Stop) → at ≡ taken_of row regs n e → Follows f p ac t mid (takes at e) (Ok m)
      → Ends f p ac mid new (finishes regs n (deed_of row op regs n e last m)) result → Ends f p ac t new (does row op regs n e last) result
  unfolding does
  does_ends t mid new row op n e last m regs at result is h k = rw (← is) (then_ends t mid new (takes at e) (λ m. finishes regs n (deed_of row op regs n e last m)) m result h k)

-- a deed that stores nothing, and one whose word goes back
pub done_nowhere : (d : Deed) (n : ℕ) (old new : Regs) (told : Done) → Leaves d n old new told → d.store ≡ nowhere → IsDone d n old new Nowhere told
done_nowhere d n old new told h is = record {
  leaves = h;
  store = ap (λ (o : Option ℕ). store_at Nowhere o) (h.stored ∙ ap stored_word is) ∙ sym is;
  block = λ at w b. absurd (cc (sym is ∙ b));
}

pub done_back : (d : Deed) (n at w : ℕ) (old new : Regs) (told : Done) → Leaves d n old new told → d.store ≡ back at w → IsDone d n old new (Back at) told
done_back d n at w old new told h is = record {
  leaves = h;
  store = ap (λ (o : Option ℕ). store_at (Back at) o) (h.stored ∙ ap stored_word is) ∙ sym is;
  block = λ a v b. absurd (cc (sym is ∙ b));
}

-- the instruction of a row
pub done_row : (row : TableRow) (op n e last m : ℕ) (old new : Regs) (to : Destination) (told : Done) → Leaves (deed_of row op old n e last m) n old new told
    → store_at to (stored_word (deed_of row op old n e last m).store) ≡ (deed_of row op old n e last m).store → IsDone (deed_of row op old n e last m) n old new to told
done_row row op n e last m old new to told h is = record {
  leaves = h;
  store = ap (λ (o : Option ℕ). store_at to o) h.stored ∙ is;
  block = only_blocks row op old n e last m;
}
