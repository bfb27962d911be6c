-- A monitor call whose word is at hand: its fetch leaves the pages as they are, and nothing comes behind it.
use Rattle.std.proofs.Common.{◌≡◌, ℕ, ◌%◌, true, false, cond, Option, None, Some, refl, sym, ◌∙◌, ap, arith}
use Rattle.std.specs.Prelude.{is_some, nat_le, slice_index}
use Rattle.std.specs.Ordering.{nat_cmp}
use Rattle.std.proofs.lemmas.Bool.Decides.{nat_tests}
use Rattle.outside.specs.declared.TheConstants.{PAGE_WORDS}
use Rattle.ka10_table.specs.declared.families.Family.{Family}
use Rattle.ka10_table.specs.declared.families.Family.TheVariants.{Monitor}
use Rattle.ka10_table.specs.Rows.{row_of}
use Rattle.machine_names.specs.Bounds.{IsOwner}
use Rattle.machine_names.specs.declared.names.ForkName.{ForkName}
use Rattle.machine_names.specs.declared.names.Kind.TheVariants.{Execute, Read}
use Rattle.machine_names.specs.declared.names.PageName.{PageName}
use Rattle.machine_names.specs.declared.names.Slot.{Slot}
use Rattle.page_contracts.specs.declared.answers.Need.{Need as ANeed}
use Rattle.page_contracts.specs.declared.answers.Need.TheVariants.{Frame}
use Rattle.page_contracts.specs.declared.answers.Touch.TheVariants.{Ready}
use Rattle.page_contracts.specs.Pages.{map_away, page_away, touch_of}
use Rattle.page_contracts.proofs.Touches.{ready_touch}
use Rattle.plain_pages.specs.PlainPages.{NumberedPages}
use Rattle.plain_pages.specs.References.{Referred, granted, in_map, page_at, reference, slot_at, word_at}
use Rattle.plain_pages.specs.Room.{live}
use Rattle.plain_pages.specs.WholePages.{AreWhole}
use Rattle.plain_pages.proofs.ReferencesMade.{reference_stays}
use Rattle.plain_units.specs.declared.registers.Regs.{Regs}
use Rattle.plain_units.specs.Addressing.{address, address_within, indexed, is_indirect, most_words, opcode}
use Rattle.plain_units.specs.Instructions.{execute, executes, instruction}
use Rattle.plain_units.specs.Steps.{Asked, Progress, Steps, asked_at, begun, call, calls, goes, goes_on, is_accumulator, referred, refers, run, seen, word_taken}
use Rattle.page_gather.specs.declared.reference.Added.TheVariants.{Went, Need}
use Rattle.page_gather.specs.Gathering.{IsNear, answered, came_to, left_by, most_framed, page_or}
use Rattle.page_gather.proofs.Again.{reference_leaves}
use Rattle.page_gather.proofs.Answering.{ready_near}
use Rattle.ka10_unit.specs.Gathers.{Framed, asked_by, asks}
use Rattle.ka10_unit.specs.Planning.{unit_over}
use Rattle.ka10_unit.specs.Taking.{run_over}
use Rattle.ka10_unit.proofs.Seeing.{word_named}

-- a monitor call that isn't behind an indirect word is its number
call_is : (regs : Regs) (w : ℕ) → (row_of (opcode w)).family ≡ Monitor → is_indirect w ≡ false → execute most_words false regs w ≡ calls (indexed regs.ac w)
unfolding execute address address_within
call_is regs w monitor direct =
    ap (λ (x : Family). executes x (row_of (opcode w)) false regs w (λ l v. execute 16 l regs v)) monitor
    ∙ ap (λ b. cond b (refers (indexed regs.ac w) Read (λ v. address_within 16 regs.ac v (λ e last. calls e))) (calls (indexed regs.ac w))) direct

module _ (f : ForkName) (own : IsOwner f.tty) (p : Framed) (regs : Regs) (high : is_accumulator regs.pc ≡ false) (whole : AreWhole p.pages)
    (ready : touch_of p.pages p.scene (in_map (slot_at f regs.pc)) Execute f.tty ≡ Ready) where
  abbrev s : Slot
  s = slot_at f regs.pc

  abbrev at_first : Progress nat_cmp
  at_first = begun p.pages regs.ac

  -- the fetch leaves the pages as they are
  granted_itself : reference p.pages (in_map s) Execute f.tty ≡ granted p.pages
  granted_itself = reference_stays p.pages f.tty (in_map s) Execute (ready_touch p.pages p.scene f.tty (in_map s) Execute ready)

  near : IsNear p.pages p.scene s
  near = ready_near p.pages p.scene f.tty (record { slot = s; kind = Execute }) ready

  room : nat_le (live p.pages) (most_framed p.pages p.scene) ≡ true
  room = grind (arith, nat_tests)

  asked : asks f p p.pages s Execute ≡ goes p.pages
  unfolding asks answered
  asked =
      ap (λ (x : Referred nat_cmp). asked_by (page_or (map_away p.pages p.scene (in_map s)) (came_to x (page_away p.pages p.scene (in_map s)) (most_framed p.pages p.scene))) (left_by p.pages x)) granted_itself
      ∙ ap (λ (o : Option ℕ). asked_by (page_or o (came_to (granted p.pages) (page_away p.pages p.scene (in_map s)) (most_framed p.pages p.scene))) p.pages) near.maps
      ∙ ap (λ (o : Option ℕ). asked_by (page_or o (cond (nat_le (live p.pages) (most_framed p.pages p.scene)) Went (Need Frame))) p.pages) near.page
      ∙ ap (λ b. asked_by (cond b Went (Need Frame)) p.pages) room

  asked_there : asked_at (asks f p) f p.pages regs.pc Execute ≡ goes p.pages
  asked_there = ap (λ b. cond b (goes p.pages) (asks f p p.pages s Execute)) high ∙ asked

  -- it takes the word there
  named : (n : PageName) × (page_at p.pages (in_map s) ≡ Some n)
  named = some (page_at p.pages (in_map s)) (reference_leaves f.tty own p.pages p.pages whole s Execute granted_itself).page
    where
      some : (o : Option PageName) → is_some o ≡ true → (n : PageName) × (o ≡ Some n)
      some None never = absurd (cc never)
      some (Some n) is = (n, refl)

  taken : word_taken f (referred at_first regs.pc Execute p.pages) regs.pc ≡ word_at p.pages (in_map s) (regs.pc % PAGE_WORDS)
  taken =
      ap (λ b. cond b (slice_index regs.ac regs.pc) (seen p.pages f None regs.pc (page_at p.pages (in_map s)))) high
      ∙ ap (seen p.pages f None regs.pc) named.1
      ∙ sym (word_named p.pages s (regs.pc % PAGE_WORDS) named.0 named.1)

  -- so the unit is that call
  pub calls_at_hand : (w : ℕ) → w ≡ word_at p.pages (in_map s) (regs.pc % PAGE_WORDS) → (row_of (opcode w)).family ≡ Monitor → is_indirect w ≡ false → unit_over f p regs ≡ call (indexed regs.ac w)
  unfolding instruction run
  calls_at_hand w is monitor direct =
      ap (λ (x : Asked ANeed NumberedPages). goes_on x (λ q. run_over f p (execute most_words false regs (word_taken f (referred at_first regs.pc Execute q) regs.pc)) (referred at_first regs.pc Execute q))) asked_there
      ∙ ap (λ v. run_over f p (execute most_words false regs v) (referred at_first regs.pc Execute p.pages)) (taken ∙ sym is)
      ∙ ap (λ (steps : Steps). run_over f p steps (referred at_first regs.pc Execute p.pages)) (call_is regs w monitor direct)
