-- Units and their rests in place.
use Rattle.std.proofs.Common.{◌≡◌, ◌⊎◌, ℕ, ◌+◌, ◌<◌, ◌≤◌, ◌^◌, true, List, Option, Some, None, refl, sym, ◌∙◌, ap, subst, inl, inr, arith}
use Rattle.std.specs.Prelude.{length}
use Rattle.std.proofs.lemmas.List.{length-set}
use Rattle.std.specs.Ordering.{nat_cmp}
use Rattle.std.proofs.lemmas.Bool.{cases_lt}
use Rattle.word36.specs.Words.{joined}
use Rattle.ka10_table.specs.declared.families.Family.{Family}
use Rattle.ka10_table.specs.declared.families.Family.TheVariants.{ByteOp}
use Rattle.ka10_table.specs.declared.families.TableRow.{TableRow}
use Rattle.ka10_table.specs.Rows.{row_of}
use Rattle.machine_names.specs.declared.names.ForkName.{ForkName}
use Rattle.machine_names.specs.declared.names.Kind.TheVariants.{Write}
use Rattle.machine_names.specs.declared.names.TheConstants.{ACCUMULATORS}
use Rattle.plain_units.specs.declared.registers.Regs.{Regs}
use Rattle.page_contracts.specs.declared.answers.SpaceHandle.{SpaceHandle}
use Rattle.plain_pages.specs.PlainPages.{NumberedPages}
use Rattle.page_contracts.specs.DrumWords.{DrumWords}
use Rattle.page_contracts.specs.Pages.{PagesMeaning, OnlyUses}
use Rattle.plain_units.specs.Deeds.{Deed, in_ac, taken_of}
use Rattle.plain_units.specs.Instructions.{does, finishes, with_word}
use Rattle.ka10_deeds.specs.declared.done.Done.{Done}
use Rattle.ka10_in_place.specs.declared.ending.Quick.{Quick}
use Rattle.ka10_in_place.specs.declared.ending.Quick.TheVariants as quick
use Rattle.ka10_deeds.specs.Done.{Leaves, channel_of}
use Rattle.ka10_deeds.specs.Acts.{Instruction}
use Rattle.ka10_spots.specs.Glide.{is_ready, glide}
use Rattle.ka10_in_place.specs.Targets.{unstored, target_of, place_of}
use Rattle.ka10_in_place.proofs.Storing.{stores_at, stored_nowhere, stored_to}
use Rattle.ka10_spots.specs.Once.{After}
use Rattle.ka10_in_place.specs.InPlace.{Does, IsOwnRow, deed_in, taken_in, IfDone, InPlace, Finish, Addressee, IsDone, is_addressed, is_deed, behind_address, ended}
use Rattle.ka10_spots.specs.Spots.{Stored, StoredIf}
use Rattle.ka10_in_place.specs.Stores.{IsNowhere, GoesTo, IsOperand}
use Rattle.ka10_spots.proofs.Stored.{lost_none, lost_on}
use Rattle.ka10_spots.proofs.Used.{holds_still, of_fork, plain_is, stays_on, stays_put}
use Rattle.ka10_in_place.proofs.Finishing.{if_ended, is_done, never_slow, for_all, ends_bare, ends_low, ends_high, takes_none, takes_some, no_word}

-- no accumulator more or less
pub length_with : (ac : List ℕ) (i : ℕ) (w : Option ℕ) → length (with_word ac i w) ≡ length ac
length_with ac i None = refl
length_with ac i (Some w) = length-set ac i w

module _ {P : Type 0} (means : PagesMeaning P) where
  module _ (space : SpaceHandle) where
    -- what isn't done here
    pub slow_in_place : (does : Does) (s : P) (regs : Regs) → regs.pc < 2 ^ 18 → InPlace means space does s s regs regs quick.Slow
    slow_in_place does s regs pc =
        record { slow = λ h. (refl, refl); told = λ d f fits is. tt; fits = λ d fits. fits; stays = stays_put means s; loses = lost_none means s; pc = pc; accumulators = refl }

    pub unused_in_place : (does : Does) (s t : P) (regs : Regs) → t ≡ s → regs.pc < 2 ^ 18 → InPlace means space does s t regs regs quick.Slow
    unused_in_place does s t regs same pc = rw same (slow_in_place does s regs pc)

    -- what is done behind uses of pages is done from the pages before them
    pub in_place_behind : (does : Does) (r s t : P) (regs after : Regs) (q : Quick) → OnlyUses means r s → IsDone q → InPlace means space does s t regs after q → InPlace means space does r t regs after q
    in_place_behind does r s t regs after q u done i = record {
      slow = λ h. absurd (subst IsDone h done);
      told = λ d f fits is. subst (λ (p : NumberedPages). IfDone q (λ post. does f p (record { pages = means.plain t d; regs = after; post = post }))) (plain_is means space r s u d) (i.told d f ((u.fits d).0 fits) (of_fork means space r s f u.put is));
      fits = λ d fits. i.fits d ((u.fits d).0 fits);
      stays = stays_on means r s t u.put i.stays;
      loses = lost_on means r s t u.loses i.loses;
      pc = i.pc;
      accumulators = i.accumulators;
    }

    -- what is done in place of one thing is done of what that comes to
    pub in_place_more : (does more : Does) (s t : P) (regs after : Regs) (q : Quick) → InPlace means space does s t regs after q
        → ((d : DrumWords) (f : ForkName) → means.fits s d → means.space s f ≡ Some space → IfDone q (λ post. does f (means.plain s d) (record { pages = means.plain t d; regs = after; post = post }) → more f (means.plain s d) (record { pages = means.plain t d; regs = after; post = post })))
        → InPlace means space more s t regs after q
    in_place_more does more s t regs after quick.Done i g = record { slow = i.slow; told = λ d f fits is. g d f fits is (i.told d f fits is); fits = i.fits; stays = i.stays; loses = i.loses; pc = i.pc; accumulators = i.accumulators }
    in_place_more does more s t regs after quick.Overflow i g = record { slow = i.slow; told = λ d f fits is. g d f fits is (i.told d f fits is); fits = i.fits; stays = i.stays; loses = i.loses; pc = i.pc; accumulators = i.accumulators }
    in_place_more does more s t regs after quick.Pushdown i g = record { slow = i.slow; told = λ d f fits is. g d f fits is (i.told d f fits is); fits = i.fits; stays = i.stays; loses = i.loses; pc = i.pc; accumulators = i.accumulators }
    in_place_more does more s t regs after quick.Slow i g = record { slow = i.slow; told = λ d f fits is. tt; fits = i.fits; stays = i.stays; loses = i.loses; pc = i.pc; accumulators = i.accumulators }

    module _ (regs after : Regs) (ac : ℕ) (deed : Deed) (told : Done) (left : Leaves deed ac regs after told) (q : Quick) (is_q : q ≡ ended told.post) where
      kept : length after.ac ≡ length regs.ac
      kept = ap (λ (r : Regs). length r.ac) left.regs ∙ (length_with (with_word regs.ac ac deed.ac) _ deed.next ∙ length_with regs.ac ac deed.ac)

      -- a deed that stores no word
      pub finish_in_place : (s : P) → IsNowhere deed.store → InPlace means space (Finish regs ac deed) s s regs after q
      finish_in_place s h = record {
        slow = λ e. never_slow told.post (sym is_q ∙ e);
        told = λ d f fits is. if_ended told.post q _ is_q (λ n less. ends_bare f (means.plain s d) regs.ac n regs after ac deed told left h);
        fits = λ d fits. fits;
        stays = stays_put means s;
        loses = lost_none means s;
        pc = left.pc;
        accumulators = kept;
      }

      -- a deed that stores at an address, if it stores
      module _ (s t : P) (end : Regs) (to : ℕ) (at : GoesTo to deed.store) (ready : (d : DrumWords) (f : ForkName) → means.fits s d → means.space s f ≡ Some space → is_ready f (means.plain s d) to Write ≡ true) where
        ends : (word : ℕ) → told.stored ≡ Some word → Stored means space to word s t after end → (d : DrumWords) (f : ForkName) → means.fits s d → means.space s f ≡ Some space → (to < ACCUMULATORS) ⊎ (ACCUMULATORS ≤ to)
            → Finish regs ac deed f (means.plain s d) (record { pages = means.plain t d; regs = end; post = channel_of told.post })
        ends word has put d f fits is (inl low) n less =
            let p = put.low low in
            rw (p.0, p.1) (ends_low f (means.plain s d) regs.ac n regs after ac deed told left (omega arith) to word has low at)
        ends word has put d f fits is (inr high) n less =
            rw (put.high high, put.told d f high fits is) (ends_high f (means.plain s d) regs.ac n regs after ac deed told left (omega arith) to word has high (ready d f fits is) at)

        by_word : (w : Option ℕ) → told.stored ≡ w → StoredIf means space to w s t after end → InPlace means space (Finish regs ac deed) s t regs end q
        by_word None none put = rw (put.0, put.1) (finish_in_place s (no_word deed.store (sym left.stored ∙ none)))
        by_word (Some word) has put = record {
          slow = λ e. never_slow told.post (sym is_q ∙ e);
          told = λ d f fits is. if_ended told.post q _ is_q (ends word has put d f fits is (cases_lt to ACCUMULATORS));
          fits = put.fits;
          stays = put.stays;
          loses = put.loses;
          pc = rw put.pc left.pc;
          accumulators = put.accumulators ∙ kept;
        }

        pub finish_at_in_place : StoredIf means space to told.stored s t after end → InPlace means space (Finish regs ac deed) s t regs end q
        finish_at_in_place put = by_word told.stored refl put

      -- the same behind a use of a page
      pub finish_behind : (r s t : P) (end : Regs) (to : ℕ) → GoesTo to deed.store → ((d : DrumWords) (f : ForkName) → means.fits r d → means.space r f ≡ Some space → is_ready f (means.plain r d) to Write ≡ true)
          → OnlyUses means r s → StoredIf means space to told.stored s t after end → InPlace means space (Finish regs ac deed) r t regs end q
      finish_behind r s t end to at ready u put =
          in_place_behind (Finish regs ac deed) r s t regs end q u (is_done told.post q is_q) (finish_at_in_place s t end to at (holds_still means space r s u (λ f p. is_ready f p to Write ≡ true) ready) put)

-- an instruction that does a deed has an address, and takes a word at most
deed_addressed : (family : Family) (row : TableRow) (op : ℕ) (regs : Regs) (ac e last : ℕ) → is_deed family ac ≡ true → (is_addressed family ac ≡ true) × (behind_address family row op regs ac e last ≡ does row op regs ac e last)
deed_addressed ByteOp row op regs ac e last h = absurd (cc h)
deed_addressed family row op regs ac e last h = (h, refl)

module _ (i : Instruction) (ac e last m : ℕ) (regs : Regs) (own : IsOwnRow i) (deed : is_deed i.row.family ac ≡ true) (f : ForkName) (p : NumberedPages) (a : After nat_cmp) where
  behind : (n : ℕ) → glide f p regs.ac n (does i.row i.op regs ac e last) ≡ Some a → (is_addressed (row_of i.op).family ac ≡ true) × (glide f p regs.ac n (behind_address (row_of i.op).family (row_of i.op) i.op regs ac e last) ≡ Some a)
  behind n h =
      let d = deed_addressed i.row.family i.row i.op regs ac e last deed in
      subst (λ (r : TableRow). (is_addressed r.family ac ≡ true) × (glide f p regs.ac n (behind_address r.family r i.op regs ac e last) ≡ Some a)) own (d.0, ap (glide f p regs.ac n) d.1 ∙ h)

  addressed : is_addressed (row_of i.op).family ac ≡ true
  addressed = subst (λ (r : TableRow). is_addressed r.family ac ≡ true) own (deed_addressed i.row.family i.row i.op regs ac e last deed).0

  -- with its operand it does its deed
  addressee : (from : Option ℕ) → taken_in i regs ac e ≡ from → IsOperand f p regs.ac from e m → Finish regs ac (deed_in i regs ac e last m) f p a → Addressee i.op regs ac e last f p a
  unfolding does taken_of
  addressee None none is h = record {
    addressed = addressed;
    runs = λ n less. (behind n (takes_none f p regs.ac n e (taken_in i regs ac e) (λ w. finishes regs ac (deed_in i regs ac e last w)) none
        ∙ subst (λ (w : ℕ). glide f p regs.ac n (finishes regs ac (deed_in i regs ac e last w)) ≡ Some a) is (h n (omega arith)))).1;
  }
  addressee (Some from) some t h = record {
    addressed = addressed;
    runs = λ n less. (behind n (takes_some f p regs.ac n e from m (taken_in i regs ac e) (λ w. finishes regs ac (deed_in i regs ac e last w)) (omega arith) some t ∙ h (n + 1) (omega arith))).1;
  }

-- the same, where it is done in place
pub deed_in_place : {P : Type 0} (means : PagesMeaning P) (space : SpaceHandle) (i : Instruction) (ac e last m : ℕ) (regs : Regs) → IsOwnRow i → is_deed i.row.family ac ≡ true → (s t : P) (after : Regs) (q : Quick)
    → InPlace means space (Finish regs ac (deed_in i regs ac e last m)) s t regs after q → (from : Option ℕ) → taken_in i regs ac e ≡ from
    → ((d : DrumWords) (f : ForkName) → means.fits s d → means.space s f ≡ Some space → IsOperand f (means.plain s d) regs.ac from e m) → InPlace means space (Addressee i.op regs ac e last) s t regs after q
deed_in_place means space i ac e last m regs own deed s t after q h from taken operand = in_place_more means space _ (Addressee i.op regs ac e last) s t regs after q h
    (λ d f fits is. for_all q _ (λ post. addressee i ac e last m regs own deed f (means.plain s d) _ from taken (operand d f fits is)))

-- where an instruction stores
pub deed_nowhere : (i : Instruction) (regs : Regs) (ac e last m : ℕ) → target_of i.row ≡ unstored → IsNowhere (deed_in i regs ac e last m).store
deed_nowhere i regs ac e last m h = stored_nowhere (target_of i.row) (in_ac regs ac) e m (deed_in i regs ac e last m) h (stores_at i.row i.op regs ac e last m)

pub deed_to : (i : Instruction) (regs : Regs) (ac e last m to : ℕ) → place_of (target_of i.row) (in_ac regs ac) e ≡ Some to → GoesTo to (deed_in i regs ac e last m).store
deed_to i regs ac e last m to h = stored_to (target_of i.row) (in_ac regs ac) e m to (deed_in i regs ac e last m) h (stores_at i.row i.op regs ac e last m)

-- 0,,E
pub is_e : (m e : ℕ) → m ≡ joined 0 e → m ≡ e
is_e m e h = omega arith
