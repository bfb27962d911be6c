-- What a turn comes to that reads words which its fork finds: DEBRK, and the inspection of one channel.
use Rattle.std.proofs.Common.{◌≡◌, ◌<◌, ◌≤◌, ◌%◌, ◌&&◌, ◌^◌, ℕ, zero, suc, Bool, true, false, cond, not, List, [], ◌∷◌, Option, None, Some, inl, inr, refl, sym, ◌∙◌, ap, arith}
use Rattle.std.specs.Prelude.{nat_le, slice_index}
use Rattle.std.specs.Option.{option_map, option_map_or}
use Rattle.std.specs.FinMap as map
use Rattle.std.proofs.lemmas.List.{get_or-replicate}
use Rattle.std.proofs.lemmas.Bool.Decides.{nat_tests}
use Rattle.outside.specs.declared.TheConstants.{PAGE_WORDS}
use Rattle.word36.specs.Words.{left, right}
use Rattle.machine_names.specs.PageWords.{zero_words}
use Rattle.machine_names.specs.Orders.{name_cmp}
use Rattle.machine_names.specs.declared.names.ForkName.{ForkName}
use Rattle.machine_names.specs.declared.names.Kind.{Kind}
use Rattle.machine_names.specs.declared.names.Kind.TheVariants.{Read, Write}
use Rattle.machine_names.specs.declared.names.PageName.{PageName}
use Rattle.plain_pages.specs.PlainPages.{NamedPages}
use Rattle.plain_pages.specs.References.{Referred, in_map, page_at, slot_at, words_of}
use Rattle.plain_units.specs.Blocks.{steps_on}
use Rattle.plain_units.specs.Steps.{Planned, Steps, begun, done, goes, goes_on, plain_asked, plainly, referred, refers, run, seen, word_taken}
use Rattle.plain_units.specs.declared.channel.TheConstants.{ILLEGAL_INSTRUCTION}
use Rattle.plain_units.specs.declared.registers.Regs.{Regs}
use Rattle.plain_model.specs.declared.call.End.TheVariants.{Done, Trap}
use Rattle.plain_model.specs.declared.call.InterruptChange.TheVariants.{Become}
use Rattle.plain_model.specs.declared.fork.Fork.{Fork}
use Rattle.plain_model.specs.declared.fork.Psi.{Psi}
use Rattle.plain_model.specs.declared.interrupt.Delivery.{Delivery}
use Rattle.plain_model.specs.declared.interrupt.Found.{Found}
use Rattle.plain_model.specs.declared.interrupt.Inspected.{Inspected}
use Rattle.plain_model.specs.declared.interrupt.Inspected.TheVariants.{Nothing, Delivers, Forces}
use Rattle.plain_model.specs.declared.interrupt.TheConstants.{LEVELS}
use Rattle.plain_model.specs.Calls.{Asked, Turn, ends, no_files, stepped, turn_on}
use Rattle.plain_model.specs.Forks.{no_levels}
use Rattle.plain_model.specs.Inspections.{channel_at, chosen, delivered, goes_before, inspected, inspecting, interrupted_word, judged, least_level, level_at, wanted}
use Rattle.plain_model.specs.InterruptCalls.{debrk, dismissed, dismissed_if, level_to_end, restored, without_level}
use Rattle.plain_model.specs.Interrupts.{is_panic}
use Rattle.plain_model.specs.Readings.{Reading, ends_with, words, read, with_reading}
use Rattle.plain_laws.specs.InterruptLaws.{FindsStored, FindsWords, GoesBefore, HasLevels, IsLevel, TakesAt}
use Rattle.plain_laws.proofs.FlagsBack.{restored_back}
use Rattle.plain_laws.proofs.LevelsNest.{level_least}
use Rattle.plain_laws.proofs.StringSteps.{ended_with}
use Rattle.plain_model.specs.declared.call.InterruptChange.{InterruptChange}

-- ---- one word

module _ (f : ForkName) (regs : Regs) (kind : Kind) (a : ℕ) where
  abbrev steps : Steps
  steps = refers a kind (ends_with regs)

  -- the steps are over, with a word
  abbrev over : NamedPages → ℕ → Planned name_cmp ⊥
  over q w = done (referred (begun q regs.ac) a kind q) (ended_with regs w)

  no_word : (offset : ℕ) → slice_index zero_words (offset % PAGE_WORDS) ≡ 0
  unfolding zero_words
  no_word offset = get_or-replicate PAGE_WORDS (offset % PAGE_WORDS) 0 0 (omega arith)

  seen_so : (q : NamedPages) (o : Option PageName) → seen q f None a o ≡ slice_index (option_map_or (words_of q) o zero_words) (a % PAGE_WORDS)
  seen_so q None = sym (no_word a)
  seen_so q (Some n) = refl

  came_to : (p q : NamedPages) (w : ℕ) → TakesAt f regs kind a p w q → steps_on f regs steps p ≡ done (referred (begun p regs.ac) a kind q) (ended_with regs w)
  unfolding run
  came_to p q w (inl low) =
      ap (λ b. goes_on (cond b (goes p) (plainly f p (slot_at f a) kind)) next) low.0
      ∙ ap (λ b. done (referred (begun p regs.ac) a kind p) (ended_with regs (cond b (slice_index regs.ac a) (seen p f None a (page_at p (in_map (slot_at f a))))))) low.0
      ∙ ap (λ x. done (referred (begun p regs.ac) a kind p) (ended_with regs x)) (sym low.2)
      ∙ ap (λ (r : NamedPages). done (referred (begun p regs.ac) a kind r) (ended_with regs w)) (sym low.1)
    where
      next : NamedPages → Planned name_cmp ⊥
      next r = done (referred (begun p regs.ac) a kind r) (ended_with regs (word_taken f (referred (begun p regs.ac) a kind r) a))
  came_to p q w (inr high) =
      ap (λ b. goes_on (cond b (goes p) (plainly f p (slot_at f a) kind)) next) high.0
      ∙ ap (λ (x : Referred name_cmp). goes_on (plain_asked x) next) high.1
      ∙ ap (λ b. done (referred (begun p regs.ac) a kind q) (ended_with regs (cond b (slice_index regs.ac a) (seen q f None a (page_at q (in_map (slot_at f a))))))) high.0
      ∙ ap (λ x. done (referred (begun p regs.ac) a kind q) (ended_with regs x)) (seen_so q (page_at q (in_map (slot_at f a))) ∙ sym high.2)
    where
      next : NamedPages → Planned name_cmp ⊥
      next r = done (referred (begun p regs.ac) a kind r) (ended_with regs (word_taken f (referred (begun p regs.ac) a kind r) a))

  -- a turn that reads it goes on with it
  module _ {A C : Type 0} (rest : ℕ → Reading A) (next : A → Turn ⊥ C) where
    pub reads_on : (p q : NamedPages) (w : ℕ) → TakesAt f regs kind a p w q → turn_on no_files p (with_reading f regs (words steps rest) next) ≡ turn_on no_files q (with_reading f regs (rest w) next)
    unfolding turn_on with_reading
    reads_on p q w takes = ap (λ r. stepped f r (λ x e. turn_on no_files x (with_reading f regs (rest (slice_index e.regs.ac 0)) next)) (λ channel. record { end = Trap channel; pages = p })) (came_to p q w takes)

-- ---- DEBRK

module _ (p q : NamedPages) (a : Asked) (f g : Fork) (d : Delivery) (table : ℕ) (has : HasLevels f.body.psi) (before : GoesBefore f.body.psi d.found) (low : f.body.regs.pc < 2 ^ 18)
    (there : map.get a.tree.forks a.who ≡ Some g) (tabled : g.body.psi.table ≡ Some table) (same : g.body.psi.levels ≡ (delivered f d).body.psi.levels) (finds : FindsStored p a.who a.regs table d.found.level (interrupted_word f.body.regs) q) where
  least_is : least_level g.body.psi ≡ Some d.found.level
  least_is = ap (λ (l : List Bool). least_level (record g.body.psi { levels = l })) same ∙ level_least f.body.psi d.found has before

  level_is : level_to_end g ≡ Some (table, d.found.level)
  level_is = ap (λ (o : Option ℕ). option_map_or (λ x. option_map (λ l. (x, l)) (least_level g.body.psi)) o None) tabled ∙ ap (λ (o : Option ℕ). option_map (λ l. (table, l)) o) least_is

  abbrev last : ℕ → Turn ⊥ InterruptChange
  last w = ends (Done (Become g.name (without_level g.body d.found.level)) (restored a.regs w) None None)

  -- DEBRK UNDOES A DELIVERY
  pub debrk_undoes : turn_on no_files p (debrk a) ≡ record { end = Done (Become g.name (without_level g.body d.found.level)) (record a.regs { pc = f.body.regs.pc; flags = f.body.regs.flags }) None None; pages = q }
  unfolding turn_on with_reading
  debrk_undoes =
      ap (λ (o : Option Fork). turn_on no_files p (option_map_or (dismissed_if a) o (ends (Trap ILLEGAL_INSTRUCTION)))) there
      ∙ ap (λ (o : Option (ℕ × ℕ)). turn_on no_files p (option_map_or (λ at. dismissed a g at.0 at.1) o (ends (Trap ILLEGAL_INSTRUCTION)))) level_is
      ∙ reads_on a.who a.regs Read (level_at table d.found.level) (λ w. words (refers (right w) Read (ends_with a.regs)) read) last p finds.between finds.place finds.at_level
      ∙ reads_on a.who a.regs Read (right finds.place) read last finds.between q (interrupted_word f.body.regs) finds.stored
      ∙ ap (λ (r : Regs). record { end = Done (Become g.name (without_level g.body d.found.level)) r None None; pages = q }) (restored_back f.body.regs a.regs low)

-- ---- the inspection of one channel

-- a level goes before none
none_before : (level : ℕ) → IsLevel level → (levels : List Bool) → levels ≡ no_levels → (psi : Psi) → psi.levels ≡ levels → goes_before level psi ≡ true
none_before zero is levels none psi has = absurd (omega (arith, is.0))
none_before (suc zero) is levels none psi has = ap (λ (l : List Bool). goes_before 1 (record psi { levels = l })) (has ∙ none)
none_before (suc (suc zero)) is levels none psi has = ap (λ (l : List Bool). goes_before 2 (record psi { levels = l })) (has ∙ none)
none_before (suc (suc (suc zero))) is levels none psi has = ap (λ (l : List Bool). goes_before 3 (record psi { levels = l })) (has ∙ none)
none_before (suc (suc (suc (suc n)))) is levels none psi has = absurd (omega (arith, is.1))

valid : (level : ℕ) → IsLevel level → not (nat_le 1 level && nat_le level LEVELS) ≡ false
valid level is = ap (λ b. not (b && nat_le level LEVELS)) (first is.0) ∙ ap (λ b. not b) (last is.1)
  where
    first : 1 ≤ level → nat_le 1 level ≡ true
    first h = grind (arith, nat_tests)

    last : level ≤ LEVELS → nat_le level LEVELS ≡ true
    last h = grind (arith, nat_tests)

module _ (g : Fork) (p q : NamedPages) (channel : ℕ) (d : Delivery) (finds : FindsWords p g channel d q) (one : wanted g.body.psi ≡ channel ∷ []) (ease : g.body.psi.levels ≡ no_levels) where
  abbrev found : Found
  found = record { channel = channel; level = left finds.word; to = right finds.word }

  abbrev comes : Inspected → Turn ⊥ Inspected
  comes what = ends (Done what g.body.regs None None)

  abbrev turn : Reading Inspected → Turn ⊥ Inspected
  turn r = with_reading g.name g.body.regs r comes

  judged_so : judged g.body.psi channel finds.word None (inspecting g finds.table []) ≡ chosen g.body.regs finds.table (Some found)
  unfolding inspecting
  judged_so =
      ap (λ b. cond b (read (Forces channel)) (cond (goes_before (left finds.word) g.body.psi) (inspecting g finds.table [] (Some found)) (cond (is_panic channel) (read (Forces channel)) (inspecting g finds.table [] None)))) (valid (left finds.word) finds.is_level)
      ∙ ap (λ b. cond b (inspecting g finds.table [] (Some found)) (cond (is_panic channel) (read (Forces channel)) (inspecting g finds.table [] None))) (none_before (left finds.word) finds.is_level g.body.psi.levels ease g.body.psi refl)

  pub inspected_so : inspected g p ≡ record { end = Done (Delivers d) g.body.regs None None; pages = q }
  unfolding inspecting turn_on with_reading
  inspected_so =
      ap (λ (o : Option ℕ). turn_on no_files p (turn (option_map_or (λ table. inspecting g table (wanted g.body.psi) None) o (read Nothing)))) finds.has_table
      ∙ ap (λ (l : List ℕ). turn_on no_files p (turn (inspecting g finds.table l None))) one
      ∙ reads_on g.name g.body.regs Read (channel_at finds.table channel) (λ w. judged g.body.psi channel w None (inspecting g finds.table [])) comes p finds.one finds.word finds.at_channel
      ∙ ap (λ r. turn_on no_files finds.one (turn r)) judged_so
      ∙ reads_on g.name g.body.regs Read (level_at finds.table (left finds.word)) (λ w. words (refers (right w) Write (ends_with g.body.regs)) (λ old. read (Delivers (record { found = found; at = right w })))) comes finds.one finds.two finds.level_word finds.at_level
      ∙ reads_on g.name g.body.regs Write (right finds.level_word) (λ old. read (Delivers (record { found = found; at = right finds.level_word }))) comes finds.two q finds.old finds.at_place
      ∙ ap (λ (x : Delivery). record { end = Done (Delivers x) g.body.regs None None; pages = q }) (sym finds.delivery)
