-- Plans of turns: one that ends at once, one that reads a byte, and one that deposits one.
use Rattle.std.proofs.Common.{◌≡◌, ℕ, ◌≤◌, List, [], Option, None, Some, refl, sym, ◌∙◌, ap, subst, arith}
use Rattle.std.specs.Prelude.{Result, Ok, Err, IfOk, slice_index}
use Rattle.std.specs.Ordering.{nat_cmp}
use Rattle.machine_names.specs.declared.names.ForkName.{ForkName}
use Rattle.machine_names.specs.declared.names.Tty.{Tty}
use Rattle.page_contracts.specs.DrumWords.{DrumWords}
use Rattle.page_contracts.specs.declared.answers.Need.{Need as ANeed}
use Rattle.page_contracts.specs.Pages.{PagesMeaning, Scene}
use Rattle.plain_pages.specs.PlainPages.{NumberedPages}
use Rattle.plain_pages.specs.Room.{live}
use Rattle.plain_units.specs.declared.registers.Regs.{Regs}
use Rattle.plain_units.specs.declared.unit.Put.{Put}
use Rattle.plain_units.specs.Addressing.{address}
use Rattle.plain_units.specs.Blocks.{steps_on}
use Rattle.plain_units.specs.Steps.{Planned, begun, call, done, need, pages_left, plainly, put_into, run, stopped, trap}
use Rattle.plain_model.specs.declared.call.ByteChange.{ByteChange}
use Rattle.plain_model.specs.declared.call.ByteChange.TheVariants.{Nothing, Take, Move, Put as Write}
use Rattle.plain_model.specs.declared.call.End.{End}
use Rattle.plain_model.specs.declared.call.End.TheVariants.{Done, Waits, Halts, Refused, Failed, Trap as TrapEnd}
use Rattle.plain_model.specs.ByteCalls.{ByteTurn}
use Rattle.plain_model.specs.Calls.{Came, ends, reads, stepped, takes, turn_on}
use Rattle.plain_model.specs.PointedTexts.{address_steps, byte_at}
use Rattle.plain_model.specs.Readings.{with_reading}
use Rattle.plain_model.specs.StringCalls.{deposit_steps}
use Rattle.page_gather.specs.Gathering.{AreSound, Gathers, after_all, most_framed}
use Rattle.ka10_unit.specs.declared.taken.Stop.{Stop}
use Rattle.ka10_unit.specs.declared.taken.Stop.TheVariants.{Trap, Need}
use Rattle.ka10_unit.specs.Gathers.{Framed, asks, framed}
use Rattle.ka10_unit.specs.Taking.{IsPlain as IsPlainPlan, Plan as UnitPlan, run_over}
use Rattle.ka10_unit.proofs.Plainly.{runs_plainly}
use Rattle.machine_names.specs.Orders.{FilePage}
use Rattle.plain_pages.specs.References.{Spot, in_file, word_at}
use Rattle.call_turns.specs.Needing.{FirstNeeds}
use Rattle.call_turns.specs.Telling.{page_need}
use Rattle.call_turns.specs.Turns.{FitsEnd}
use Rattle.file_tables.specs.declared.tables.FileTables.{FileTables}
use Rattle.file_tables.specs.Keys.{key_of, seen_in}
use Rattle.text_pointers.specs.Needing.{NeedsFirst, frames_left}
use Rattle.text_pointers.specs.Outcomes.{IsPlain, Outcome, goes_on, leaves, stops}
use Rattle.text_pointers.specs.declared.byte.PointedByte.{PointedByte}
use Rattle.text_pointers.specs.Reading.{ReadsByte, pages_so_far}
use Rattle.text_pointers.proofs.Turns.{byte_goes, byte_traps}
use Rattle.text_pointers.proofs.Needs.{AreLeft, address_only, byte_needs, run_behind, run_left}
use Rattle.file_bytes.specs.Planning.{CanTurn, made_for}
use Rattle.file_bytes.proofs.NextByte.{first_needs}
use Rattle.file_bytes.proofs.Plans.{still}
use Rattle.string_io.specs.declared.plan.Plan.{Plan}
use Rattle.string_io.specs.Depositing.{CanCarry, Deposits, deposit_at, deposits, ends_on, pages_planned, planned_as}
use Rattle.string_io.specs.Planning.{CanEnd, IsPlan, OpensEnd, Plans}
use Rattle.string_io.specs.Turning.{StringNeeds}

-- what a turn comes out as that comes to this over the plain pages
abbrev pub TurnsTo : Came nat_cmp ByteChange → Outcome ⊥ (End ByteChange) → Type 0
TurnsTo came (leaves q e) = came ≡ record { end = e; pages = q }
TurnsTo came (stops (trap channel)) = came.end ≡ TrapEnd channel
TurnsTo came (stops (need none)) = Unit {0}

-- a plan that writes no byte of a file comes out as its turn does
module _ (tables : FileTables) (p : Framed) (owner : Tty) (t : ByteTurn) where
  pub comes_so : (plan : Plan) → FitsEnd (CanTurn tables owner) plan.ending → turn_on (seen_in tables) p.pages t ≡ record { end = plan.ending; pages = pages_planned p plan } → IsPlan tables p owner t (Ok plan)
  comes_so plan fits is = is ∙ ap (λ (q : NumberedPages). record { end = plan.ending; pages = q }) (sym (still tables owner (pages_planned p plan) plan.ending fits))

  -- an outcome that needs nothing is that of the turn
  by_outcome : (x : Outcome ⊥ (End ByteChange)) → TurnsTo (turn_on (seen_in tables) p.pages t) x → (result : Result Plan Stop) → IsPlain (planned_as p result) x
      → ((plan : Plan) → result ≡ Ok plan → FitsEnd (CanTurn tables owner) plan.ending) → ((n : ANeed) → result ≡ Err (Need n) → StringNeeds tables p.scene p.pages t n) → IsPlan tables p owner t result
  by_outcome x turns (Ok plan) plain fits needs = comes_so plan (fits plan refl) (subst (TurnsTo (turn_on (seen_in tables) p.pages t)) plain turns)
  by_outcome x turns (Err (Trap channel)) plain fits needs = subst (TurnsTo (turn_on (seen_in tables) p.pages t)) plain turns
  by_outcome x turns (Err (Need n)) plain fits needs = needs n refl

-- ---- a deposit

module _ (f : ForkName) (change : ByteChange) (regs told : Regs) (pointer byte : ℕ) where
  abbrev pub at_turn : ℕ → ByteTurn
  at_turn e = takes f regs (deposit_steps told pointer byte e) (λ g. ends (Done change g.regs None None))

  abbrev pub deposit_turn : ByteTurn
  deposit_turn = takes f regs (address_steps regs pointer) (λ e. at_turn (slice_index e.regs.ac 0))

  -- over the plain pages
  module _ (tables : FileTables) where
    at_turns : (q : NumberedPages) (e : ℕ) → TurnsTo (turn_on (seen_in tables) q (at_turn e)) (deposit_at (plainly f) f change regs told pointer byte q e)
    unfolding turn_on
    at_turns q e = by (steps_on f regs (deposit_steps told pointer byte e) q)
      where
        by : (x : Planned nat_cmp ⊥) → TurnsTo (stepped f x (λ r g. turn_on (seen_in tables) r (ends (Done change g.regs None None))) (λ channel. record { end = TrapEnd channel; pages = q })) (ends_on f change x)
        by (done t g) = refl
        by (stopped (trap channel)) = refl
        by (stopped (need none)) = absurd none
        by (call number) = refl

    deposit_turns : (q : NumberedPages) → TurnsTo (turn_on (seen_in tables) q deposit_turn) (deposits (plainly f) f change regs told pointer byte q)
    unfolding turn_on
    deposit_turns q = by (steps_on f regs (address_steps regs pointer) q)
      where
        by : (x : Planned nat_cmp ⊥) → TurnsTo (stepped f x (λ r e. turn_on (seen_in tables) r (at_turn (slice_index e.regs.ac 0))) (λ channel. record { end = TrapEnd channel; pages = q })) (goes_on f x (deposit_at (plainly f) f change regs told pointer byte))
        by (done t e) = at_turns (pages_left f t e) (slice_index e.regs.ac 0)
        by (stopped (trap channel)) = refl
        by (stopped (need none)) = absurd none
        by (call number) = refl

  -- where it needs nothing first it is that over the plain pages
  module _ (p : Framed) where
    at_plainly : (q : NumberedPages) (e : ℕ) → IsPlain (deposit_at (asks f p) f change regs told pointer byte q e) (deposit_at (plainly f) f change regs told pointer byte q e)
    at_plainly q e = by (run_over f p (deposit_steps told pointer byte e) (begun q regs.ac)) (run (plainly f) f (deposit_steps told pointer byte e) (begun q regs.ac)) (runs_plainly f p (deposit_steps told pointer byte e) (begun q regs.ac))
      where
        by : (x : UnitPlan) (y : Planned nat_cmp ⊥) → IsPlainPlan x y → IsPlain (ends_on f change x) (ends_on f change y)
        by (done t g) y h = ap (ends_on f change) h
        by (stopped (trap channel)) y h = ap (ends_on f change) h
        by (stopped (need n)) y h = tt
        by (call number) y h = ap (ends_on f change) h

    deposits_plainly : (q : NumberedPages) → IsPlain (deposits (asks f p) f change regs told pointer byte q) (deposits (plainly f) f change regs told pointer byte q)
    deposits_plainly q = by (run_over f p (address_steps regs pointer) (begun q regs.ac)) (run (plainly f) f (address_steps regs pointer) (begun q regs.ac)) (runs_plainly f p (address_steps regs pointer) (begun q regs.ac))
      where
        on : NumberedPages → ℕ → Outcome ⊥ (End ByteChange)
        on = deposit_at (plainly f) f change regs told pointer byte

        over : NumberedPages → ℕ → Outcome ANeed (End ByteChange)
        over = deposit_at (asks f p) f change regs told pointer byte

        by : (x : UnitPlan) (y : Planned nat_cmp ⊥) → IsPlainPlan x y → IsPlain (goes_on f x over) (goes_on f y on)
        by (done t e) y h = subst (λ (z : Planned nat_cmp ⊥). IsPlain (over (pages_left f t e) (slice_index e.regs.ac 0)) (goes_on f z on)) (sym h) (at_plainly (pages_left f t e) (slice_index e.regs.ac 0))
        by (stopped (trap channel)) y h = ap (λ (z : Planned nat_cmp ⊥). goes_on f z on) h
        by (stopped (need n)) y h = tt
        by (call number) y h = ap (λ (z : Planned nat_cmp ⊥). goes_on f z on) h

    -- and what it needs first the turn needs
    module _ (tables : FileTables) (n : ANeed) where
      at_needs : (q : NumberedPages) (e : ℕ) → live q ≤ most_framed p.pages p.scene → deposit_at (asks f p) f change regs told pointer byte q e ≡ stops (need n) → StringNeeds tables (frames_left p.scene p.pages q) q (at_turn e) n
      at_needs q e low h = subst (λ (x : UnitPlan). NeedsFirst f (frames_left p.scene p.pages q) q x (λ after r g. ⊥) n) (sym (run_behind f p q low (deposit_steps told pointer byte e) (begun q regs.ac)))
          (by (run_over f p (deposit_steps told pointer byte e) (begun q regs.ac)) h)
        where
          by : (x : UnitPlan) → ends_on f change x ≡ stops (need n) → NeedsFirst f (frames_left p.scene p.pages q) q x (λ after r g. ⊥) n
          by (done t g) h = absurd (cc h)
          by (stopped (trap channel)) h = absurd (cc h)
          by (stopped (need m)) h = cc h
          by (call number) h = absurd (cc h)

      deposit_needs : deposits (asks f p) f change regs told pointer byte p.pages ≡ stops (need n) → StringNeeds tables p.scene p.pages deposit_turn n
      unfolding address
      deposit_needs h = by (run_over f p (address_steps regs pointer) (begun p.pages regs.ac)) (run_left f p (address_steps regs pointer) (address_only 17 regs.ac pointer regs) (begun p.pages regs.ac) refl (omega arith)) h
        where
          by : (x : UnitPlan) → AreLeft f p x → goes_on f x (deposit_at (asks f p) f change regs told pointer byte) ≡ stops (need n)
              → NeedsFirst f p.scene p.pages x (λ after q e. StringNeeds tables after q (at_turn (slice_index e.regs.ac 0)) n) n
          by (done t e) left h =
              let same : pages_left f t e ≡ t.pages = ap (λ (o : Option Put). put_into f (put_into f t.pages o) e.put) left.0 ∙ ap (put_into f t.pages) left.1 in
              at_needs (pages_left f t e) (slice_index e.regs.ac 0) (subst (λ (r : NumberedPages). live r ≤ most_framed p.pages p.scene) (sym same) left.2) h
          by (stopped (trap channel)) left h = absurd (cc h)
          by (stopped (need m)) left h = cc h
          by (call number) left h = absurd (cc h)

    -- THE PLAN OF A DEPOSIT
    pub deposit_planned : (tables : FileTables) (result : Result Plan Stop) → Deposits f p change regs told pointer byte result → ((plan : Plan) → result ≡ Ok plan → FitsEnd (CanTurn tables f.tty) plan.ending) → IsPlan tables p f.tty deposit_turn result
    deposit_planned tables result d fits = by_outcome tables p f.tty deposit_turn (deposits (plainly f) f change regs told pointer byte p.pages) (deposit_turns tables p.pages) result
        (subst (λ (x : Outcome ANeed (End ByteChange)). IsPlain x (deposits (plainly f) f change regs told pointer byte p.pages)) d.is (deposits_plainly p.pages)) fits
        (λ n is. deposit_needs tables n (d.is ∙ ap (planned_as p) is))

-- an end that writes no byte of a file
pub fits_end : (tables : FileTables) (t : Tty) (e : End ByteChange) → FitsEnd (CanTurn tables t) e → FitsEnd (CanEnd tables t) e
fits_end tables t (Done Nothing regs out post) h = h
fits_end tables t (Done (Take u) regs out post) h = h
fits_end tables t (Done (Move u n at) regs out post) h = h
fits_end tables t (Done (Write u n byte) regs out post) h = absurd h.0
fits_end tables t (Waits on) h = h
fits_end tables t Halts h = h
fits_end tables t (Refused code) h = h
fits_end tables t (Failed code) h = h
fits_end tables t (TrapEnd channel) h = h

pub opens_none : (tables : FileTables) (p : Framed) (t : Tty) (q : NumberedPages) (e : End ByteChange) → FitsEnd (CanTurn tables t) e → OpensEnd tables p t q e
opens_none tables p t q (Done Nothing regs out post) h = tt
opens_none tables p t q (Done (Take u) regs out post) h = tt
opens_none tables p t q (Done (Move u n at) regs out post) h = tt
opens_none tables p t q (Done (Write u n byte) regs out post) h = absurd h.0
opens_none tables p t q (Waits on) h = tt
opens_none tables p t q Halts h = tt
opens_none tables p t q (Refused code) h = tt
opens_none tables p t q (Failed code) h = tt
opens_none tables p t q (TrapEnd channel) h = tt

-- ---- plans over each drum

module _ {P : Type 0} (means : PagesMeaning P) (pages : P) (tables : FileTables) (who : ForkName) where
  -- of the same turn
  pub plans_by : (turn other : NumberedPages → ByteTurn) (result : Result Plan Stop) → ((p : NumberedPages) → turn p ≡ other p) → Plans means pages tables who turn result → Plans means pages tables who other result
  plans_by turn other result same h = record {
    stands = h.stands;
    opens = h.opens;
    is = λ d fits. subst (λ (t : ByteTurn). IsPlan tables (framed means pages d) who.tty t result) (same (means.plain pages d)) (h.is d fits);
  }

  -- a turn that ends at once
  module _ (sound : (d : DrumWords) → means.fits pages d → AreSound (means.plain pages d) (means.scene pages)) (plan : Plan) (fork : plan.fork ≡ who) (put : plan.put ≡ None) (none : plan.gather.references ≡ [])
      (told : (p : NumberedPages) (scene : Scene) → AreSound p scene → Gathers p scene plan.gather) where
    once_stands : (p : Framed) → Gathers p.pages p.scene plan.gather → CanCarry who p plan
    once_stands p gathers = record { fork = fork; gathers = gathers; put = rw put tt }

    once_pages : (p : Framed) → p.pages ≡ pages_planned p plan
    unfolding after_all
    once_pages p = rw (put, none) refl

    pub once_plans : (turn : NumberedPages → ByteTurn) → FitsEnd (CanTurn tables who.tty) plan.ending → ((p : NumberedPages) → ends plan.ending ≡ turn p) → Plans means pages tables who turn (Ok plan)
    unfolding turn_on
    once_plans turn fits_turn ended = record {
      stands = λ one d same fits. (let its : plan ≡ one = cc same in subst (CanCarry who (framed means pages d)) its (once_stands (framed means pages d) (told (means.plain pages d) (means.scene pages) (sound d fits))));
      opens = λ one d same fits. (let its : plan ≡ one = cc same in opens_none tables (framed means pages d) who.tty (pages_planned (framed means pages d) one) one.ending (subst (λ (x : Plan). FitsEnd (CanTurn tables who.tty) x.ending) its fits_turn));
      is = λ d fits.
          let p = framed means pages d in
          comes_so tables p who.tty (turn p.pages) plan fits_turn
          (ap (turn_on (seen_in tables) p.pages) (sym (ended p.pages)) ∙ ap (λ (q : NumberedPages). record { end = plan.ending; pages = q }) (once_pages p));
    }

  -- a turn that deposits a byte
  pub deposit_plans : (change : ByteChange) (regs told : Regs) (pointer byte : ℕ) (result : Result Plan Stop) → ((d : DrumWords) → means.fits pages d → Deposits who (framed means pages d) change regs told pointer byte result)
      → ((plan : Plan) → result ≡ Ok plan → FitsEnd (CanTurn tables who.tty) plan.ending) → Plans means pages tables who (λ p. deposit_turn who change regs told pointer byte) result
  deposit_plans change regs told pointer byte result each fits_turn = record {
    stands = λ plan d is fits. (each d fits).stands plan is;
    opens = λ plan d is fits. opens_none tables (framed means pages d) who.tty (pages_planned (framed means pages d) plan) plan.ending (fits_turn plan is);
    is = λ d fits. deposit_planned who change regs told pointer byte (framed means pages d) tables result (each d fits) fits_turn;
  }

-- a turn that reads a byte
module _ {P : Type 0} (means : PagesMeaning P) (pages : P) (tables : FileTables) (who : ForkName) (regs : Regs) (pointer : ℕ) (next : NumberedPages → ℕ → ByteTurn) where
  abbrev pub byte_turn : NumberedPages → ByteTurn
  byte_turn q = with_reading who regs (byte_at regs pointer) (next q)

  -- its reading stops
  pub byte_stops : (stop : Stop) → ((d : DrumWords) → means.fits pages d → ReadsByte who (framed means pages d) regs pointer (Err stop)) → Plans means pages tables who byte_turn (Err stop)
  byte_stops stop reads_so = record {
    stands = λ plan d no fits. absurd (cc no);
    opens = λ plan d no fits. absurd (cc no);
    is = λ d fits. by stop (framed means pages d) (reads_so d fits);
  }
    where
      by : (e : Stop) (p : Framed) → ReadsByte who p regs pointer (Err e) → IsPlan tables p who.tty (byte_turn p.pages) (Err e)
      by (Trap channel) p h = byte_traps (seen_in tables) who regs (next p.pages) p pointer channel h
      by (Need n) p h = byte_needs (λ scene q u. StringNeeds tables scene q u n) who regs n (next p.pages) (λ scene q steps rest k. k) p pointer h.is

  -- or it ends so, and writes no byte of a file
  module _ (b : PointedByte) (plan : Plan) (fork : plan.fork ≡ b.reader.fork) (gather : plan.gather ≡ b.reader.gather) (put : plan.put ≡ None) (reads_so : (d : DrumWords) → means.fits pages d → ReadsByte who (framed means pages d) regs pointer (Ok b)) where
    pub byte_stands : (d : DrumWords) → means.fits pages d → CanCarry who (framed means pages d) plan
    byte_stands d fits = let h = (reads_so d fits).stands b refl in record { fork = fork ∙ h.fork; gathers = rw gather h.gathers; put = rw put tt }

    pub byte_pages : (p : Framed) → pages_so_far p b.reader ≡ pages_planned p plan
    byte_pages p = rw (put, gather) refl

    pub byte_plans : FitsEnd (CanTurn tables who.tty) plan.ending → ((q : NumberedPages) → ends plan.ending ≡ next q b.byte) → Plans means pages tables who byte_turn (Ok plan)
    unfolding turn_on
    byte_plans fits_turn ended = record {
      stands = λ one d same fits. (let its : plan ≡ one = cc same in subst (CanCarry who (framed means pages d)) its (byte_stands d fits));
      opens = λ one d same fits. (let its : plan ≡ one = cc same in opens_none tables (framed means pages d) who.tty (pages_planned (framed means pages d) one) one.ending (subst (λ (x : Plan). FitsEnd (CanTurn tables who.tty) x.ending) its fits_turn));
      is = λ d fits.
          let p = framed means pages d in
          comes_so tables p who.tty (byte_turn p.pages) plan fits_turn
          (byte_goes (seen_in tables) who regs (next p.pages) p pointer b (reads_so d fits) ∙ ap (turn_on (seen_in tables) (pages_so_far p b.reader)) (sym (ended p.pages)) ∙ ap (λ (q : NumberedPages). record { end = plan.ending; pages = q }) (byte_pages p));
    }

-- the change of an end that has one is such
pub fits_one : (Good : ByteChange → Type 0) (change : ByteChange) → Good change → (e : End ByteChange) → FitsEnd (λ what. what ≡ change) e → FitsEnd Good e
fits_one Good change good (Done what regs out post) h = (subst Good (sym h.0) good, h.1, h.2, h.3)
fits_one Good change good (Waits on) h = h
fits_one Good change good Halts h = h
fits_one Good change good (Refused code) h = h
fits_one Good change good (Failed code) h = h
fits_one Good change good (TrapEnd channel) h = h

pub result_fits : (Good : Plan → Type 0) (result : Result Plan Stop) → IfOk result Good → (plan : Plan) → result ≡ Ok plan → Good plan
result_fits Good (Ok one) h plan is = (let its : one ≡ plan = cc is in subst Good its h)
result_fits Good (Err e) h plan is = absurd (cc is)

-- ---- a byte that is read

module _ (tables : FileTables) (p : Framed) (owner : Tty) (f : FilePage (List ℕ)) (offset : ℕ) (next : ℕ → ByteTurn) where
  abbrev at : Spot ℕ
  at = in_file (record { file = key_of tables f.file; page = f.page })

  -- a turn goes on with the word of a page that is there, or isn't
  pub read_planned : (w : ℕ) (result : Result Plan Stop) → page_need p.scene p.pages at ≡ None → w ≡ word_at p.pages at offset → IsPlan tables p owner (next w) result → IsPlan tables p owner (reads f offset next) result
  unfolding turn_on
  read_planned w (Ok plan) here is h = subst (λ (v : ℕ). turn_on (seen_in tables) p.pages (next v) ≡ record { end = plan.ending; pages = made_for tables owner (pages_planned p plan) plan.ending }) is h
  read_planned w (Err (Trap channel)) here is h = subst (λ (v : ℕ). (turn_on (seen_in tables) p.pages (next v)).end ≡ TrapEnd channel) is h
  read_planned w (Err (Need n)) here is h = subst (λ (o : Option ANeed). FirstNeeds o (StringNeeds tables p.scene p.pages (next (word_at p.pages at offset)) n) n) (sym here) (subst (λ (v : ℕ). StringNeeds tables p.scene p.pages (next v) n) is h)

  -- or needs that first
  pub read_needs : (n : ANeed) → page_need p.scene p.pages at ≡ Some n → IsPlan tables p owner (reads f offset next) (Err (Need n))
  read_needs n away = first_needs (page_need p.scene p.pages at) (StringNeeds tables p.scene p.pages (next (word_at p.pages at offset)) n) n away
