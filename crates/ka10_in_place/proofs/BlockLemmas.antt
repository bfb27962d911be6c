-- Block transfers in place.
use Rattle.std.proofs.Common.{◌≡◌, ◌⊎◌, ◌≢◌, ℕ, zero, suc, ◌%◌, ◌<◌, ◌≤◌, Bool, true, false, cond, List, [], ◌∷◌, Some, None, refl, sym, ◌∙◌, ap, inl, inr, arith}
use Rattle.std.specs.Prelude.{slice_set, length, ◌==◌}
use Rattle.std.proofs.lemmas.Bool.{cases_lt}
use Rattle.std.proofs.lemmas.List.{set-set}
use borrow.Author.Tests.{eqb-true, eqb-false}
use Rattle.outside.specs.declared.TheConstants.{PAGE_WORDS}
use Rattle.word36.specs.Words.{right}
use Rattle.machine_names.specs.declared.names.ForkName.{ForkName}
use Rattle.machine_names.specs.declared.names.Kind.TheVariants.{Write}
use Rattle.machine_names.specs.declared.names.TheConstants.{ACCUMULATORS}
use Rattle.plain_units.specs.declared.registers.Regs.{Regs}
use Rattle.page_contracts.specs.declared.answers.SpaceHandle.{SpaceHandle}
use Rattle.plain_units.specs.declared.unit.TheConstants.{MOST_REFERENCES}
use Rattle.plain_pages.specs.PlainPages.{NumberedPages}
use Rattle.page_contracts.specs.DrumWords.{DrumWords}
use Rattle.page_contracts.specs.Pages.{PagesMeaning}
use Rattle.plain_pages.specs.References.{in_map, slot_at, stored}
use Rattle.plain_units.specs.Steps.{is_accumulator}
use Rattle.plain_units.specs.Deeds.{Deed, before, behind_ac, deed_of, in_ac, moves_block, operands}
use Rattle.plain_units.specs.Instructions.{finishes, with_word}
use Rattle.ka10_deeds.specs.declared.done.Done.{Done}
use Rattle.ka10_in_place.specs.declared.ending.Quick.{Quick}
use Rattle.ka10_deeds.specs.Acts.{Instruction, one}
use Rattle.ka10_table.specs.declared.families.Family.TheVariants as family
use Rattle.ka10_table.specs.declared.families.OpMode.TheVariants.{Basic}
use Rattle.ka10_table.specs.Rows.{row_of, row_among}
use Rattle.ka10_deeds.specs.Done.{Leaves, channel_of}
use Rattle.ka10_spots.specs.Glide.{glide, is_ready}
use Rattle.ka10_in_place.specs.InPlace.{Finish, InPlace, IsOwnRow, deed_in, ended}
use Rattle.ka10_spots.specs.Spots.{Stored, StoredIf}
use Rattle.ka10_spots.proofs.Ready.{few, is_low, is_high}
use Rattle.ka10_in_place.proofs.Finishing.{if_ended, never_slow}
use Rattle.ka10_spots.proofs.Stored.{lost_none}
use Rattle.ka10_in_place.proofs.Placing.{length_with}
use Rattle.ka10_spots.proofs.Used.{stays_put}

-- two places are set in either order
set_other : (xs : List ℕ) (i j a b : ℕ) → i ≢ j → slice_set (slice_set xs i a) j b ≡ slice_set (slice_set xs j b) i a
set_other [] i j a b ne = refl
set_other (x ∷ xs) zero zero a b ne = absurd (ne refl)
set_other (x ∷ xs) zero (suc j) a b ne = refl
set_other (x ∷ xs) (suc i) zero a b ne = refl
set_other (x ∷ xs) (suc i) (suc j) a b ne = ap (λ ys. x ∷ ys) (set_other xs i j a b (λ is. ne (ap suc is)))

module _ (f : ForkName) (p : NumberedPages) (n : ℕ) (less : n < MOST_REFERENCES) (regs after : Regs) (ac m to x : ℕ) (told : Done) (below : ac < 16) (deed : Deed) (left : Leaves deed ac regs after told) (counts : deed.ac ≡ Some x) (alone : deed.next ≡ None) (stores : deed.store ≡ before to m) where
  -- the word goes where AC is counted up
  block_own : to ≡ ac → glide f p regs.ac n (finishes regs ac deed) ≡ Some (record { pages = p; regs = after; post = channel_of told.post })
  unfolding finishes glide
  block_own own =
      let low : is_accumulator ac ≡ true = is_low ac below in
      rw (stores, own, few n less, low, left.regs, left.post, counts, alone, set-set regs.ac ac) refl

  -- into another accumulator
  block_low : to ≢ ac → to < ACCUMULATORS → glide f p regs.ac n (finishes regs ac deed) ≡ Some (record { pages = p; regs = record after { ac = slice_set after.ac to m }; post = channel_of told.post })
  unfolding finishes glide
  block_low other h =
      let low : is_accumulator to ≡ true = is_low to h in
      rw (stores, few n less, low, left.regs, left.post, counts, alone, set_other regs.ac to ac m x other) refl

  -- into a page
  block_high : ACCUMULATORS ≤ to → is_ready f p to Write ≡ true → glide f p regs.ac n (finishes regs ac deed) ≡ Some (record { pages = stored p (in_map (slot_at f to)) (to % PAGE_WORDS) m; regs = after; post = channel_of told.post })
  unfolding finishes glide
  block_high h ready =
      let high : is_accumulator to ≡ false = is_high to h in
      rw (stores, few n less, ready, high, left.regs, left.post) refl

module _ {P : Type 0} (means : PagesMeaning P) (space : SpaceHandle) (regs after end : Regs) (ac e last m : ℕ) (told : Done) (below : ac < 16) (left : Leaves (moves_block (operands regs ac e last m)) ac regs after told) (q : Quick) (is_q : q ≡ ended told.post) (to : ℕ) (is_to : to ≡ right (in_ac regs ac))
    (s t : P) (ready : (d : DrumWords) (f : ForkName) → means.fits s d → means.space s f ≡ Some space → is_ready f (means.plain s d) to Write ≡ true) where
  abbrev moved : Deed
  moved = moves_block (operands regs ac e last m)

  ends : (to == ac) ≡ false → Stored means space to m s t after end → (d : DrumWords) (f : ForkName) → means.fits s d → means.space s f ≡ Some space → (to < ACCUMULATORS) ⊎ (ACCUMULATORS ≤ to)
      → Finish regs ac moved f (means.plain s d) (record { pages = means.plain t d; regs = end; post = channel_of told.post })
  ends other put d f fits is (inl low) n less =
      let p = put.low low in
      rw (p.0, p.1) (block_low f (means.plain s d) n (omega arith) regs after ac m to _ told below moved left refl refl (ap (λ (x : ℕ). before x m) (sym is_to)) (eqb-false to ac other) low)
  ends other put d f fits is (inr high) n less =
      rw (put.high high, put.told d f high fits is) (block_high f (means.plain s d) n (omega arith) regs after ac m to _ told below moved left refl refl (ap (λ (x : ℕ). before x m) (sym is_to)) high (ready d f fits is))

  kept : length after.ac ≡ length regs.ac
  kept = ap (λ (r : Regs). length r.ac) left.regs ∙ (length_with (with_word regs.ac ac moved.ac) (behind_ac ac) moved.next ∙ length_with regs.ac ac moved.ac)

  by_own : (b : Bool) → (to == ac) ≡ b → StoredIf means space to (cond b None (Some m)) s t after end → InPlace means space (Finish regs ac moved) s t regs end q
  by_own true own put = rw (put.0, put.1) (record {
    slow = λ h. never_slow told.post (sym is_q ∙ h);
    told = λ d f fits is. if_ended told.post q _ is_q (λ n less. block_own f (means.plain s d) n (omega arith) regs after ac m to _ told below moved left refl refl (ap (λ (x : ℕ). before x m) (sym is_to)) (eqb-true to ac own));
    fits = λ d fits. fits;
    stays = stays_put means s;
    loses = lost_none means s;
    pc = left.pc;
    accumulators = kept;
  })
  by_own false other put = record {
    slow = λ h. never_slow told.post (sym is_q ∙ h);
    told = λ d f fits is. if_ended told.post q _ is_q (ends other put d f fits is (cases_lt to ACCUMULATORS));
    fits = put.fits;
    stays = put.stays;
    loses = put.loses;
    pc = rw put.pc left.pc;
    accumulators = put.accumulators ∙ kept;
  }

  pub block_in_place : StoredIf means space to (cond (to == ac) None (Some m)) s t after end → InPlace means space (Finish regs ac moved) s t regs end q
  block_in_place put = by_own (to == ac) refl put

-- BLT as the table has it
abbrev pub blt : Instruction
blt = one 0o251 family.Blt Basic 0

pub blt_row : IsOwnRow blt
unfolding row_of row_among
blt_row = refl

pub blt_deed : (regs : Regs) (ac e last m : ℕ) → deed_in blt regs ac e last m ≡ moves_block (operands regs ac e last m)
unfolding deed_of
blt_deed regs ac e last m = refl
