-- Byte instructions in place.
use Rattle.std.proofs.Common.{◌≡◌, ℕ, ◌+◌, ◌<◌, ◌≤◌, Bool, true, false, cond, List, Some, None, refl, sym, ◌∙◌, ap, subst, arith}
use Rattle.std.specs.Prelude.{nat_le}
use Rattle.std.specs.Ordering.{nat_cmp}
use Rattle.ka10_table.specs.declared.families.Family.TheVariants as family
use Rattle.ka10_table.specs.declared.families.OpMode.TheVariants.{Basic}
use Rattle.ka10_table.specs.declared.families.TableRow.{TableRow}
use Rattle.ka10_table.specs.Rows.{row_of}
use Rattle.machine_names.specs.declared.names.ForkName.{ForkName}
use Rattle.machine_names.specs.declared.names.Kind.TheVariants.{Read}
use Rattle.plain_units.specs.declared.registers.Regs.{Regs}
use Rattle.page_contracts.specs.declared.answers.SpaceHandle.{SpaceHandle}
use Rattle.plain_units.specs.declared.unit.TheConstants.{MOST_REFERENCES}
use Rattle.plain_pages.specs.PlainPages.{NumberedPages}
use Rattle.page_contracts.specs.DrumWords.{DrumWords}
use Rattle.page_contracts.specs.Pages.{PagesMeaning}
use Rattle.plain_units.specs.Steps.{Steps, refers}
use Rattle.plain_units.specs.Addressing.{address}
use Rattle.plain_units.specs.Instructions.{does_byte, does_pointer}
use Rattle.ka10_deeds.specs.declared.done.Post.{Post}
use Rattle.ka10_in_place.specs.declared.ending.Quick.{Quick}
use Rattle.ka10_deeds.specs.declared.bytes.ByteStep.{ByteStep}
use Rattle.ka10_deeds.specs.Bytes.{steps_of}
use Rattle.ka10_in_place.specs.ByteRests.{PointsTo, begun, byte_rest, deposited_word, depositing, loaded_byte, loading}
use Rattle.ka10_spots.specs.Once.{After}
use Rattle.ka10_spots.specs.Glide.{glide, is_ready, word_of, Takes}
use Rattle.ka10_in_place.specs.InPlace.{Addressee, InPlace, Rest, behind_address, ended, is_addressed}
use Rattle.ka10_spots.proofs.Ready.{few}
use Rattle.ka10_in_place.proofs.Finishing.{for_all, never_slow}
use Rattle.ka10_in_place.proofs.Placing.{in_place_more}

module _ (f : ForkName) (p : NumberedPages) (ac : List ℕ) where
  -- a reference that goes through
  refers_there : (n a v : ℕ) (next : ℕ → Steps) → n < MOST_REFERENCES → Takes f p ac a Read v → glide f p ac n (refers a Read next) ≡ glide f p ac (n + 1) (next v)
  unfolding glide
  refers_there n a v next less t = rw (few n less, t.ready, ← t.is) refl

  -- one that goes on alike
  refers_alike : (n a : ℕ) (one other : ℕ → Steps) → ((v : ℕ) → one v ≡ other v) → glide f p ac n (refers a Read one) ≡ glide f p ac n (refers a Read other)
  unfolding glide
  refers_alike n a one other same = ap (λ (s : Steps). cond (nat_le MOST_REFERENCES n) None (cond (is_ready f p a Read) (glide f p ac (n + 1) s) None)) (same (word_of f p ac a))

  -- behind a pointer and its address
  pointed_rest : (e pointer at : ℕ) (to : PointsTo f p ac e pointer at) (next : ℕ → ℕ → ℕ → Steps) (x : After nat_cmp) → ((n : ℕ) → n ≤ 14 → glide f p ac n (next pointer at to.last) ≡ Some x)
      → (n : ℕ) → n ≤ 13 → glide f p ac n (refers e Read (λ q. address ac q (next q))) ≡ Some x
  pointed_rest e pointer at to next x h n less =
      let a = to.address (n + 1) (omega arith) in
      refers_there n e pointer (λ q. address ac q (next q)) (omega arith) to.taken ∙ (a.runs (next pointer) ∙ h a.count (omega (arith, a.few)))

-- the second part begins with the same accumulators
pub takes_begun : (second : Bool) (f : ForkName) (p : NumberedPages) (regs : Regs) (a v : ℕ) → Takes f p regs.ac a Read v → Takes f p (begun second regs).ac a Read v
takes_begun true f p regs a v t = t
takes_begun false f p regs a v t = t

module _ {P : Type 0} (means : PagesMeaning P) (space : SpaceHandle) (regs : Regs) (s t : P) (after : Regs) (q : Quick) where
  -- the word at an address is taken first
  pub behind_word : (more most a v : ℕ) (next : ℕ → Steps) → most < 15 → most + 1 ≤ more → InPlace means space (Rest more regs (next v)) s t regs after q
      → ((d : DrumWords) (f : ForkName) → means.fits s d → means.space s f ≡ Some space → Takes f (means.plain s d) regs.ac a Read v) → InPlace means space (Rest most regs (refers a Read next)) s t regs after q
  behind_word more most a v next few room i takes = in_place_more means space (Rest more regs (next v)) (Rest most regs (refers a Read next)) s t regs after q i
      (λ d f fits is. for_all q _ (λ post h n less. refers_there f (means.plain s d) regs.ac n a v next (omega arith) (takes d f fits is) ∙ h (n + 1) (omega arith)))

  -- the second part begins as the first has left the registers, but for its mark
  pub begun_in_place : (second : Bool) (most : ℕ) (left : Steps) (post : Post) → q ≡ ended post → InPlace means space (Rest most (begun second regs) left) s t (begun second regs) after q → InPlace means space (Rest most regs left) s t regs after q
  begun_in_place true most left post is i = record { slow = λ h. never_slow post (sym is ∙ h); told = i.told; fits = i.fits; stays = i.stays; loses = i.loses; pc = i.pc; accumulators = i.accumulators }
  begun_in_place false most left post is i = i

  -- the byte's word is taken behind the pointer
  pub loading_in_place : (second : Bool) (ac e pointer at : ℕ) → ((d : DrumWords) (f : ForkName) → means.fits s d → means.space s f ≡ Some space → PointsTo f (means.plain s d) regs.ac e pointer at)
      → InPlace means space (Rest 14 regs (loaded_byte (begun second regs) ac pointer at)) s t regs after q → InPlace means space (Rest 13 regs (byte_rest (loading second) regs ac e)) s t regs after q
  loading_in_place true ac e pointer at to i = in_place_more means space _ (Rest 13 regs (byte_rest (loading true) regs ac e)) s t regs after q i
      (λ d f fits is. for_all q _ (λ post h n less. pointed_rest f (means.plain s d) regs.ac e pointer at (to d f fits is) (λ x a last. loaded_byte (begun true regs) ac x a) _ h n less))
  loading_in_place false ac e pointer at to i = in_place_more means space _ (Rest 13 regs (byte_rest (loading false) regs ac e)) s t regs after q i
      (λ d f fits is. for_all q _ (λ post h n less. pointed_rest f (means.plain s d) regs.ac e pointer at (to d f fits is) (λ x a last. loaded_byte (begun false regs) ac x a) _ h n less))

  pub depositing_in_place : (second : Bool) (ac e pointer at : ℕ) → ((d : DrumWords) (f : ForkName) → means.fits s d → means.space s f ≡ Some space → PointsTo f (means.plain s d) regs.ac e pointer at)
      → InPlace means space (Rest 14 regs (deposited_word (begun second regs) ac pointer at)) s t regs after q → InPlace means space (Rest 13 regs (byte_rest (depositing second) regs ac e)) s t regs after q
  depositing_in_place true ac e pointer at to i = in_place_more means space _ (Rest 13 regs (byte_rest (depositing true) regs ac e)) s t regs after q i
      (λ d f fits is. for_all q _ (λ post h n less. pointed_rest f (means.plain s d) regs.ac e pointer at (to d f fits is) (λ x a last. deposited_word (begun true regs) ac x a) _ h n less))
  depositing_in_place false ac e pointer at to i = in_place_more means space _ (Rest 13 regs (byte_rest (depositing false) regs ac e)) s t regs after q i
      (λ d f fits is. for_all q _ (λ post h n less. pointed_rest f (means.plain s d) regs.ac e pointer at (to d f fits is) (λ x a last. deposited_word (begun false regs) ac x a) _ h n less))

  -- a step is the instruction's where it is what the instruction does
  pub stepped_in_place : (step : ByteStep) (code ac e : ℕ) → ((x : ℕ) → does_byte code regs ac e x ≡ steps_of step regs ac e x) → InPlace means space (Rest 13 regs (byte_rest step regs ac e)) s t regs after q
      → InPlace means space (Rest 13 regs (does_pointer code regs ac e)) s t regs after q
  unfolding does_pointer
  stepped_in_place step code ac e same i = in_place_more means space (Rest 13 regs (byte_rest step regs ac e)) (Rest 13 regs (does_pointer code regs ac e)) s t regs after q i
      (λ d f fits is. for_all q _ (λ post h n less. refers_alike f (means.plain s d) regs.ac n e (does_byte code regs ac e) (λ x. steps_of step regs ac e x) same ∙ h n less))

  pub byte_in_place : (op code ac e last : ℕ) → row_of op ≡ record { family = family.ByteOp; mode = Basic; code = code } → InPlace means space (Rest 13 regs (does_pointer code regs ac e)) s t regs after q
      → InPlace means space (Addressee op regs ac e last) s t regs after q
  byte_in_place op code ac e last row i = in_place_more means space (Rest 13 regs (does_pointer code regs ac e)) (Addressee op regs ac e last) s t regs after q i
      (λ d f fits is. for_all q _ (λ post h. record {
        addressed = subst (λ (r : TableRow). is_addressed r.family ac ≡ true) (sym row) refl;
        runs = subst (λ (r : TableRow). Rest 13 regs (behind_address r.family r op regs ac e last) f (means.plain s d) (record { pages = means.plain t d; regs = after; post = post })) (sym row) h;
      }))
