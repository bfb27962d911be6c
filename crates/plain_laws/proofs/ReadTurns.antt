-- A turn that reads in the space of a fork goes on with what it has read.
use Rattle.std.proofs.Common.{◌≡◌, ℕ, Ordering, None, ap}
use Rattle.std.specs.Prelude.{slice_index}
use Rattle.machine_names.specs.declared.names.ForkName.{ForkName}
use Rattle.plain_pages.specs.PlainPages.{PlainPages}
use Rattle.plain_units.specs.declared.channel.TheConstants.{ILLEGAL_INSTRUCTION}
use Rattle.plain_units.specs.declared.registers.Regs.{Regs}
use Rattle.plain_units.specs.Blocks.{steps_on}
use Rattle.plain_units.specs.Steps.{Ending, Planned, Progress, Steps, call, done, need, pages_left, stopped, trap}
use Rattle.plain_model.specs.declared.call.End.{End}
use Rattle.plain_model.specs.declared.call.End.TheVariants.{Done, Trap}
use Rattle.plain_model.specs.Calls.{Came, Sight, Turn, ends, no_files, stepped, takes, turn_on}
use Rattle.plain_model.specs.Readings.{Reading, read, with_reading, words}

-- a turn goes on behind steps that go through
module _ {F C K : Type 0} {file_cmp : K → K → Ordering} (sight : Sight F K) (p : PlainPages file_cmp) (f : ForkName) (regs : Regs) (steps : Steps) (next : Ending → Turn F C) where
  pub takes_on : (t : Progress file_cmp) (e : Ending) → steps_on f regs steps p ≡ done t e → turn_on sight p (takes f regs steps next) ≡ turn_on sight (pages_left f t e) (next e)
  unfolding turn_on
  takes_on t e is = ap (λ (r : Planned file_cmp ⊥). stepped f r (λ q e. turn_on sight q (next e)) (λ channel. record { end = Trap channel; pages = p })) is

-- a turn that ends with what it has read
abbrev pub told : {A : Type 0} → Regs → A → End A
told regs found = Done found regs None None

abbrev pub telling : {A : Type 0} → ForkName → Regs → Reading A → Turn ⊥ A
telling f regs r = with_reading f regs r (λ found. ends (told regs found))

-- what such a turn reads, others go on with, on the pages of then
module _ {A F C K : Type 0} {file_cmp : K → K → Ordering} (sight : Sight F K) (f : ForkName) (regs : Regs) (next : A → Turn F C) where
  pub reads_on : (r : Reading A) (p : PlainPages file_cmp) (found : A) (q : PlainPages file_cmp) → turn_on no_files p (telling f regs r) ≡ record { end = told regs found; pages = q } → turn_on sight p (with_reading f regs r next) ≡ turn_on sight q (next found)
  unfolding with_reading turn_on
  reads_on (words steps rest) p found q is = by (λ w r is. reads_on (rest w) r found q is) (steps_on f regs steps p) is
    where
      by : ((w : ℕ) (r : PlainPages file_cmp) → turn_on no_files r (telling f regs (rest w)) ≡ record { end = told regs found; pages = q } → turn_on sight r (with_reading f regs (rest w) next) ≡ turn_on sight q (next found)) → (x : Planned file_cmp ⊥)
          → stepped f x (λ r e. turn_on no_files r (telling f regs (rest (slice_index e.regs.ac 0)))) (λ channel. record { end = Trap channel; pages = p }) ≡ record { end = told regs found; pages = q }
          → stepped f x (λ r e. turn_on sight r (with_reading f regs (rest (slice_index e.regs.ac 0)) next)) (λ channel. record { end = Trap channel; pages = p }) ≡ turn_on sight q (next found)
      by later (done t e) is = later (slice_index e.regs.ac 0) (pages_left f t e) is
      by later (stopped (trap channel)) is = absurd (let no : Trap channel ≡ told regs found = ap (λ (c : Came file_cmp A). c.end) is in cc no)
      by later (stopped (need none)) is = absurd none
      by later (call number) is = absurd (let no : Trap ILLEGAL_INSTRUCTION ≡ told regs found = ap (λ (c : Came file_cmp A). c.end) is in cc no)
  reads_on (read x) p found q is =
      let same : told regs x ≡ told regs found = ap (λ (c : Came file_cmp A). c.end) is in
      let read_so : x ≡ found = cc same in
      let pages : p ≡ q = ap (λ (c : Came file_cmp A). c.pages) is in
      λ i. turn_on sight (pages i) (next (read_so i))
