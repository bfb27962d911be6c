-- How the inspection of a fork ends that delivers a channel, whatever its pages.
use Rattle.std.proofs.Common.{◌≡◌, ◌⊎◌, ℕ, ◌≤◌, Bool, true, false, cond, List, [], ◌∷◌, Option, None, Some, refl, sym, ◌∙◌, ap, subst, inl, inr, arith}
use Rattle.std.specs.Prelude.{◌&&◌, nat_le, nat_lt, not, slice_index, if◌then◌else◌}
use Rattle.std.specs.Option.{option_map_or}
use Rattle.std.specs.declared.cmp.Ordering.{Ordering}
use Rattle.std.proofs.lemmas.Bool.Decides.{nat_tests}
use Rattle.word36.specs.Words.{left, right}
use Rattle.plain_pages.specs.PlainPages.{PlainPages}
use Rattle.plain_units.specs.Blocks.{steps_on}
use Rattle.plain_units.specs.Steps.{Planned, call, done, need, pages_left, stopped, trap}
use Rattle.plain_model.specs.declared.call.End.TheVariants.{Done, Trap}
use Rattle.plain_model.specs.declared.fork.Fork.{Fork}
use Rattle.plain_model.specs.declared.interrupt.Delivery.{Delivery}
use Rattle.plain_model.specs.declared.interrupt.Found.{Found}
use Rattle.plain_model.specs.declared.interrupt.Inspected.{Inspected}
use Rattle.plain_model.specs.declared.interrupt.Inspected.TheVariants.{Delivers, Forces, Nothing}
use Rattle.plain_model.specs.Calls.{Turn, ends, no_files, stepped, turn_on}
use Rattle.plain_model.specs.Inspections.{better, channel_at, chosen, goes_before, inspected_by, inspecting, judged, level_at, wanted}
use Rattle.plain_model.specs.Interrupts.{is_panic}
use Rattle.plain_model.specs.Readings.{Reading, read, with_reading, word_steps, words, written_steps}
use Rattle.psi_system.specs.Laws.{CanTake, IsDelivered}

-- the channel of a word that can be taken
abbrev pub found_by : ℕ → ℕ → Found
found_by channel w = record { channel = channel; level = left w; to = right w }

-- what ends an inspection
abbrev pub ends_so : Fork → Inspected → Turn ⊥ Inspected
ends_so f what = ends (Done what f.body.regs None None)

-- the best so far is of a level that goes before those in progress
abbrev Goes : Fork → Option Found → Type 0
Goes f None = Unit {0}
Goes f (Some found) = (1 ≤ found.level) × (found.level ≤ 3) × (goes_before found.level f.body.psi ≡ true)

better_goes : (f : Fork) (new : Found) (best : Option Found) → Goes f (Some new) → Goes f best → Goes f (Some (better new best))
better_goes f new None h g = h
better_goes f new (Some old) h g = by (nat_lt new.level old.level)
  where
    by : (b : Bool) → Goes f (Some (cond b new old))
    by true = h
    by false = g

module _ {K : Type 0} {file_cmp : K → K → Ordering} (f : Fork) (d : Delivery) where
  -- a reading of the fork delivers this
  abbrev pub Ends : Reading Inspected → PlainPages file_cmp → Type 0
  Ends reading p = inspected_by (turn_on no_files p (with_reading f.name f.body.regs reading (ends_so f))).end ≡ Delivers d

  read_ends : (what : Inspected) (p : PlainPages file_cmp) → Ends (read what) p → what ≡ Delivers d
  unfolding turn_on with_reading
  read_ends what p h = h

  -- one that begins with a word goes on with some word, on some pages
  pub goes_on : (reading : Reading Inspected) (p : PlainPages file_cmp) → Ends reading p → (steps : _) (rest : ℕ → Reading Inspected) → reading ≡ words steps rest → (w : ℕ) × (q : PlainPages file_cmp) × Ends (rest w) q
  unfolding turn_on with_reading
  goes_on reading p h steps rest is = by (steps_on f.name f.body.regs steps p) (subst (λ (r : Reading Inspected). Ends r p) is h)
    where
      by : (x : Planned file_cmp ⊥) → inspected_by (stepped f.name x (λ q e. turn_on no_files q (with_reading f.name f.body.regs (rest (slice_index e.regs.ac 0)) (ends_so f))) (λ channel. record { end = Trap channel; pages = p })).end ≡ Delivers d
          → (w : ℕ) × (q : PlainPages file_cmp) × Ends (rest w) q
      by (done t e) g = (slice_index e.regs.ac 0, pages_left f.name t e, g)
      by (stopped (trap channel)) g = absurd (cc g)
      by (stopped (need none)) g = absurd none
      by (call number) g = absurd (cc g)

  -- the channel that was best is delivered
  pub chosen_ends : (table : ℕ) (best : Option Found) (p : PlainPages file_cmp) → Ends (chosen f.body.regs table best) p → best ≡ Some d.found
  chosen_ends table None p h = absurd (let no : Nothing ≡ Delivers d = read_ends Nothing p h in cc no)
  chosen_ends table (Some found) p h =
      let one = goes_on (chosen f.body.regs table (Some found)) p h (word_steps f.body.regs (level_at table found.level)) (λ w. words (written_steps f.body.regs (right w)) (λ old. read (Delivers (record { found = found; at = right w })))) refl in
      let two = goes_on (words (written_steps f.body.regs (right one.0)) (λ old. read (Delivers (record { found = found; at = right one.0 })))) one.1 one.2 (written_steps f.body.regs (right one.0)) (λ old. read (Delivers (record { found = found; at = right one.0 }))) refl in
      let same : Delivers (record { found = found; at = right one.0 }) ≡ Delivers d = read_ends (Delivers (record { found = found; at = right one.0 })) two.1 two.2 in
      let its : record { found = found; at = right one.0 } ≡ d = cc same in
      ap (λ (x : Delivery). Some x.found) its

  -- the word of a channel tells that it can be taken, and then the better is best; or it can't, and the best stays
  pub judged_ends : (channel w : ℕ) (best : Option Found) (next : Option Found → Reading Inspected) (p : PlainPages file_cmp) → Ends (judged f.body.psi channel w best next) p
      → (CanTake f.body.psi w × Ends (next (Some (better (found_by channel w) best))) p) ⊎ ((CanTake f.body.psi w → ⊥) × Ends (next best) p)
  judged_ends channel w best next p h = by (nat_le 1 (left w) && nat_le (left w) 3) (goes_before (left w) f.body.psi) (is_panic channel) refl refl h
    where
      forced : Ends (read (Forces channel)) p → ⊥
      forced g = let no : Forces channel ≡ Delivers d = read_ends (Forces channel) p g in cc no

      by : (is_level before panic : Bool) → (nat_le 1 (left w) && nat_le (left w) 3) ≡ is_level → goes_before (left w) f.body.psi ≡ before
          → Ends (if not is_level then read (Forces channel) else (if before then next (Some (better (found_by channel w) best)) else (if panic then read (Forces channel) else next best))) p
          → (CanTake f.body.psi w × Ends (next (Some (better (found_by channel w) best))) p) ⊎ ((CanTake f.body.psi w → ⊥) × Ends (next best) p)
      by false before panic low is g = absurd (forced g)
      by true true panic low is g = inl (record { low = grind (arith, nat_tests, low); high = grind (arith, nat_tests, low); before = is }, g)
      by true false true low is g = absurd (forced g)
      by true false false low is g = inr ((λ takes. let no : false ≡ true = sym is ∙ takes.before in cc no), g)

  -- ---- each that is delivered goes before those in progress

  all_go : (table : ℕ) (cs : List ℕ) (best : Option Found) (p : PlainPages file_cmp) → Goes f best → Ends (inspecting f table cs best) p → Goes f (Some d.found)
  unfolding inspecting
  all_go table [] best p goes h = subst (Goes f) (chosen_ends table best p h) goes
  all_go table (c ∷ cs) best p goes h =
      let one = goes_on (inspecting f table (c ∷ cs) best) p h (word_steps f.body.regs (channel_at table c)) (λ w. judged f.body.psi c w best (inspecting f table cs)) refl in
      elim (judged_ends c one.0 best (inspecting f table cs) one.1 one.2) [
        | inl takes ↦ all_go table cs (Some (better (found_by c one.0) best)) one.1 (better_goes f (found_by c one.0) best (takes.0.low, takes.0.high, takes.0.before) goes) takes.1
        | inr stays ↦ all_go table cs best one.1 goes stays.1
      ]

  -- ---- the whole

  -- a fork to which a channel is delivered has a table, by which it is inspected
  pub by_table : (p : PlainPages file_cmp) → IsDelivered f p d → (table : ℕ) × (f.body.psi.table ≡ Some table) × Ends (inspecting f table (wanted f.body.psi) None) p
  by_table p h = by f.body.psi.table refl h
    where
      by : (o : Option ℕ) → f.body.psi.table ≡ o → Ends (option_map_or (λ table. inspecting f table (wanted f.body.psi) None) o (read Nothing)) p
          → (table : ℕ) × (f.body.psi.table ≡ Some table) × Ends (inspecting f table (wanted f.body.psi) None) p
      by None is g = absurd (let no : Nothing ≡ Delivers d = read_ends Nothing p g in cc no)
      by (Some table) is g = (table, is, g)

  pub level_ends : (p : PlainPages file_cmp) → IsDelivered f p d → (1 ≤ d.found.level) × (d.found.level ≤ 3) × (goes_before d.found.level f.body.psi ≡ true)
  level_ends p h = let t = by_table p h in all_go t.0 (wanted f.body.psi) None p tt t.2
