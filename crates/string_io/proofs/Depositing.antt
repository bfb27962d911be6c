-- The deposit of the next byte of a string: its address, and then its word.
use Rattle.std.proofs.Common.{◌≡◌, ℕ, Bool, true, false, cond, List, [], None, Some, refl, sym, ◌∙◌, ap, subst}
use Rattle.std.specs.Prelude.{⊤, Result, Ok, Err, slice_set}
use Rattle.std.specs.Ordering.{nat_cmp}
use Rattle.word36.specs.Bytes.{deposited}
use Rattle.machine_names.specs.declared.names.ForkName.{ForkName}
use Rattle.machine_names.specs.declared.names.Kind.{Kind}
use Rattle.machine_names.specs.declared.names.Kind.TheVariants.{Read, Write}
use Rattle.machine_names.specs.declared.names.Slot.{Slot}
use Rattle.plain_units.specs.declared.registers.Regs.{Regs}
use Rattle.plain_units.specs.Instructions.{storing}
use Rattle.plain_units.specs.Steps.{Asked, Ending, Progress, Stop as Stopped, asked_at, begun, goes, is_accumulator, put_into, referred, run, stops as asked_stops, word_taken}
use Rattle.plain_pages.specs.PlainPages.{NumberedPages}
use Rattle.plain_model.specs.declared.call.ByteChange.{ByteChange}
use Rattle.plain_model.specs.declared.call.End.TheVariants.{Done}
use Rattle.plain_model.specs.PointedTexts.{address_steps}
use Rattle.plain_model.specs.Readings.{ends_with}
use Rattle.page_gather.specs.Gathering.{Gathering, after_all, left_of}
use Rattle.ka10_deeds.specs.declared.word_fields.Address.{Address}
use Rattle.ka10_unit.specs.declared.taken.Taken.{Taken}
use Rattle.ka10_unit.specs.declared.taken.Stop.{Stop}
use Rattle.ka10_unit.specs.Gathers.{Framed, asks}
use Rattle.ka10_unit.specs.Planning.{reached}
use Rattle.ka10_unit.specs.Taking.{AsksAt, CanPut, Follows, Plan as UnitPlan, Stands, pages_so_far, progress, run_over, stop_of}
use Rattle.text_pointers.specs.Outcomes.{goes_on, leaves, stops}
use Rattle.string_io.specs.declared.plan.Plan.{Plan}
use Rattle.string_io.specs.Depositing.{CanCarry, Deposits, DepositsAt, deposit_at, deposits}

-- ---- at an address

module _ {N : Type 0} (ask : NumberedPages → Slot → Kind → Asked N NumberedPages) (f : ForkName) (change : ByteChange) (regs told : Regs) (pointer byte : ℕ) (q : NumberedPages) (e : ℕ) where
  -- its word is stored
  deposit_goes : (r s : NumberedPages) (w : ℕ) → asked_at ask f q e Read ≡ goes r → w ≡ word_taken f (referred (begun r regs.ac) e Read r) e → asked_at ask f r e Write ≡ goes s
      → let put = storing told e (deposited pointer w byte) None in deposit_at ask f change regs told pointer byte q e ≡ leaves (put_into f s put.put) (Done change put.regs None None)
  unfolding run
  deposit_goes r s w read is write = rw (read, sym is, write) refl

  -- it can't be read
  read_stops : (why : Stopped N) → asked_at ask f q e Read ≡ asked_stops why → deposit_at ask f change regs told pointer byte q e ≡ stops why
  unfolding run
  read_stops why read = rw read refl

  -- nor written
  write_stops : (r : NumberedPages) (why : Stopped N) → asked_at ask f q e Read ≡ goes r → asked_at ask f r e Write ≡ asked_stops why → deposit_at ask f change regs told pointer byte q e ≡ stops why
  unfolding run
  write_stops r why read write = rw (read, write) refl

module _ (f : ForkName) (p : Framed) (change : ByteChange) (regs told : Regs) (pointer byte e : ℕ) (old : Gathering) where
  pub at_read_stops : (new : Gathering) (why : Stop) → AsksAt f p old new e Read (Err why) → DepositsAt f p (left_of p.pages old) change regs told pointer byte e (Err why)
  at_read_stops new why a = record { stands = λ plan no. absurd (cc no); is = read_stops (asks f p) f change regs told pointer byte (left_of p.pages old) e (stop_of why) a.is }

  pub at_write_stops : (mid new : Gathering) (x : ⊤) (why : Stop) → AsksAt f p old mid e Read (Ok x) → AsksAt f p mid new e Write (Err why) → DepositsAt f p (left_of p.pages old) change regs told pointer byte e (Err why)
  at_write_stops mid new x why a b = record { stands = λ plan no. absurd (cc no); is = write_stops (asks f p) f change regs told pointer byte (left_of p.pages old) e (left_of p.pages mid) (stop_of why) a.is b.is }

  -- a plan that refers to this, and stores its word
  module _ (mid new : Gathering) (x y : ⊤) (w : ℕ) (plan : Plan) (a : AsksAt f p old mid e Read (Ok x)) (b : AsksAt f p mid new e Write (Ok y)) (is : w ≡ word_taken f (referred (begun (left_of p.pages mid) regs.ac) e Read (left_of p.pages mid)) e)
      (fork : plan.fork ≡ f) (gather : plan.gather ≡ new) (put : plan.put ≡ (storing told e (deposited pointer w byte) None).put) (ending : plan.ending ≡ Done change (storing told e (deposited pointer w byte) None).regs None None) where
    can_put : (word : ℕ) → CanPut f (record p { pages = left_of p.pages new }) (storing told e word None).put
    can_put word = by (is_accumulator e) refl
      where
        by : (c : Bool) → is_accumulator e ≡ c
            → CanPut f (record p { pages = left_of p.pages new }) (cond {A = Ending} c (record { regs = record told { ac = slice_set told.ac e word }; put = None; post = None }) (record { regs = told; put = Some (record { at = e; word = word }); post = None })).put
        by true low = tt
        by false high = b.open_at y refl refl high

    carried : CanCarry f p plan
    carried = record { fork = fork; gathers = rw gather b.gathers; put = rw (put, gather) (can_put (deposited pointer w byte)) }

    pub at_goes : DepositsAt f p (left_of p.pages old) change regs told pointer byte e (Ok plan)
    at_goes = record {
      stands = λ one same. (let its : plan ≡ one = cc same in subst (CanCarry f p) its carried);
      is = deposit_goes (asks f p) f change regs told pointer byte (left_of p.pages old) e (left_of p.pages mid) (left_of p.pages new) w a.is is b.is ∙ rw (fork, gather, put, ending) refl;
    }

-- ---- behind the references of an address

-- nothing is taken yet
none_begun : (p : Framed) (ac : List ℕ) (t : Taken) → t.gather.references ≡ [] → t.refs.items ≡ [] → t.kept ≡ None → progress p ac t ≡ begun p.pages ac
unfolding after_all
none_begun p ac t gather refs kept = rw (gather, refs, kept) refl

module _ (f : ForkName) (p : Framed) (change : ByteChange) (regs told : Regs) (pointer byte : ℕ) (none taken : Taken) (gather : none.gather.references ≡ []) (refs : none.refs.items ≡ []) (kept : none.kept ≡ None) where
  behind_address : (x : UnitPlan) → run_over f p (address_steps regs pointer) (progress p regs.ac none) ≡ x → deposits (asks f p) f change regs told pointer byte p.pages ≡ goes_on f x (deposit_at (asks f p) f change regs told pointer byte)
  behind_address x is = ap (λ (y : UnitPlan). goes_on f y (deposit_at (asks f p) f change regs told pointer byte)) (ap (λ (y : Progress nat_cmp). run_over f p (address_steps regs pointer) y) (sym (none_begun p regs.ac none gather refs kept)) ∙ is)

  -- the address stops it
  pub address_stops : (why : Stop) → Follows {A = Address} f p regs.ac none taken (reached regs.ac pointer) (Err why) → Deposits f p change regs told pointer byte (Err why)
  address_stops why h = record { stands = λ plan no. absurd (cc no); is = behind_address _ (h.runs (λ a. ends_with regs a.e)) }

  -- it goes on with the word at the address
  pub address_goes : (a : Address) → taken.kept ≡ None → Follows f p regs.ac none taken (reached regs.ac pointer) (Ok a) → (result : Result Plan Stop) → DepositsAt f p (pages_so_far p taken) change regs told pointer byte a.e result → Deposits f p change regs told pointer byte result
  unfolding run
  address_goes a none_kept h result d = record { stands = d.stands; is = behind_address _ (h.runs (λ b. ends_with regs b.e)) ∙ rw none_kept refl ∙ d.is }

-- what is taken for a fork is for one that it stands for
pub deposit_by : (f g : ForkName) (p : Framed) (q : NumberedPages) (change : ByteChange) (regs told : Regs) (pointer byte e : ℕ) (result : Result Plan Stop) → g ≡ f → DepositsAt g p q change regs told pointer byte e result → DepositsAt f p q change regs told pointer byte e result
deposit_by f g p q change regs told pointer byte e result same d = subst (λ (h : ForkName). DepositsAt h p q change regs told pointer byte e result) same d

pub stands_by : (f : ForkName) (p : Framed) (t : Taken) → Stands f p t → Stands t.fork p t
stands_by f p t stands = subst (λ (g : ForkName). Stands g p t) (sym stands.fork) stands
