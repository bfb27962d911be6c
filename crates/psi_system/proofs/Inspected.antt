-- The inspection of a fork, over pages of which some are in no frame, and over the plain ones.
use Rattle.std.proofs.Common.{◌≡◌, ℕ, List, [], ◌∷◌, Option, None, refl, sym, ◌∙◌, ap, subst}
use Rattle.std.specs.Prelude.{Result, Ok, Err, IfOk}
use Rattle.std.specs.Option.{option_map_or}
use Rattle.std.specs.Ordering.{nat_cmp}
use Rattle.machine_names.specs.declared.names.ForkName.{ForkName}
use Rattle.plain_model.specs.declared.call.End.TheVariants.{Done}
use Rattle.plain_model.specs.declared.fork.Body.{Body}
use Rattle.plain_model.specs.declared.fork.Fork.{Fork}
use Rattle.plain_model.specs.declared.interrupt.Found.{Found}
use Rattle.plain_model.specs.declared.interrupt.Inspected.{Inspected}
use Rattle.plain_model.specs.declared.interrupt.Inspected.TheVariants.{Nothing}
use Rattle.plain_model.specs.Calls.{Came, Turn, ends, no_files, turn_on}
use Rattle.plain_model.specs.Inspections.{channel_at, chosen, inspected, inspected_by, inspecting, inspection, judged, wanted}
use Rattle.plain_model.specs.Readings.{Reading, read, word_steps, words}
use Rattle.page_gather.specs.Gathering.{Gathers, after_all}
use Rattle.ka10_unit.specs.declared.taken.Stop.{Stop}
use Rattle.ka10_unit.specs.declared.taken.Stop.TheVariants.{Trap, Need}
use Rattle.ka10_unit.specs.Gathers.{Framed}
use Rattle.text_pointers.specs.declared.reader.Reader.{Reader}
use Rattle.text_pointers.specs.Outcomes.{IsPlain, read_on, read_over, reads}
use Rattle.text_pointers.specs.Reading.{Stands, pages_so_far}
use Rattle.text_pointers.proofs.Plainly.{plain_of}
use Rattle.text_pointers.proofs.Turns.{TurnsTo, turn_reads}
use Rattle.psi_system.specs.Inspecting.{CameOut, Delivers, Inspects, IsFork, ReadsOn, ended, fork_with}

-- ---- it is of the body alone

inspecting_same : (f g : Fork) → f.body ≡ g.body → (table : ℕ) (cs : List ℕ) (best : Option Found) → inspecting f table cs best ≡ inspecting g table cs best
unfolding inspecting
inspecting_same f g same table [] best = ap (λ (b : Body). chosen b.regs table best) same
inspecting_same f g same table (c ∷ cs) best = λ i. words (word_steps (same i).regs (channel_at table c)) (λ w. judged (same i).psi c w best (λ b. inspecting_same f g same table cs b i))

inspection_same : (f g : Fork) → f.body ≡ g.body → inspection f ≡ inspection g
inspection_same f g same =
    (λ i. option_map_or (λ table. inspecting_same f g same table (wanted f.body.psi) None i) f.body.psi.table (read Nothing))
    ∙ ap (λ (b : Body). option_map_or (λ table. inspecting g table (wanted b.psi) None) b.psi.table (read Nothing)) same

-- ---- the whole

module _ (f : Fork) (p : Framed) where
  abbrev ends_so : Inspected → Turn ⊥ Inspected
  ends_so what = ends (Done what f.body.regs None None)

  -- how the plain machine's comes out, by what its reading comes to
  came_by : (new : Reader) (result : Result Inspected Stop) → IsPlain (ended p new result) (read_on f.name f.body.regs (inspection f) p.pages) → CameOut p new (inspected f p.pages) result
  unfolding turn_on
  came_by new (Ok what) plain = let came = subst (TurnsTo no_files f.name f.body.regs ends_so (inspected f p.pages)) plain (turn_reads no_files f.name f.body.regs ends_so (inspection f) p.pages) in
      (ap (λ (c : Came nat_cmp Inspected). inspected_by c.end) came, ap (λ (c : Came nat_cmp Inspected). c.pages) came)
  came_by new (Err (Trap channel)) plain = ap inspected_by (subst (TurnsTo no_files f.name f.body.regs ends_so (inspected f p.pages)) plain (turn_reads no_files f.name f.body.regs ends_so (inspection f) p.pages))
  came_by new (Err (Need n)) plain = tt

-- a reader that refers to nothing leaves the pages as they are
none_left : (p : Framed) (r : Reader) → r.gather.references ≡ [] → pages_so_far p r ≡ p.pages
unfolding after_all
none_left p r none = rw none refl

module _ (name : ForkName) (body : Body) (p : Framed) (new : Reader) where
  abbrev Comes : Result Inspected Stop → Type 0
  Comes result = read_over name p body.regs (inspection (fork_with name body)) p.pages ≡ ended p new result

  of_fork : (result : Result Inspected Stop) → Comes result → (f : Fork) → IsFork f name body → read_over name p body.regs (inspection f) p.pages ≡ ended p new result
  of_fork result is f h = ap (λ (r : Reading Inspected). read_over name p body.regs r p.pages) (inspection_same f (fork_with name body) h.body) ∙ is

  came_of : (result : Result Inspected Stop) → Comes result → (f : Fork) → IsFork f name body → CameOut p new (inspected f p.pages) result
  came_of result is f h = came_by f p new result (plain_of f.name p f.body.regs (inspection f) p.pages (ended p new result) own)
    where
      own : read_over f.name p f.body.regs (inspection f) p.pages ≡ ended p new result
      own = ap (λ (n : ForkName). read_over n p f.body.regs (inspection f) p.pages) h.name ∙ ap (λ (b : Body). read_over name p b.regs (inspection f) p.pages) h.body ∙ of_fork result is f h

  module _ (old : Reader) (none : old.gather.references ≡ []) (own : old.fork ≡ name) where
    -- what a reader of this fork's space that referred to nothing has read by its tables
    abbrev ReadsAll : ForkName → Result Inspected Stop → Type 0
    ReadsAll f result = ReadsOn f p body.regs old new (inspection (fork_with f body)) (λ (i : Inspected). read i) result

    abbrev ComesHere : Result Inspected Stop → Type 0
    ComesHere result = read_over name p body.regs (inspection (fork_with name body)) (pages_so_far p old) ≡ ended p new result

    comes : (result : Result Inspected Stop) → ReadsAll name result → ComesHere result
    unfolding reads
    comes (Ok what) h = h.is
    comes (Err e) h = h.is

    inspected_so : (result : Result Inspected Stop) → ReadsAll name result → ((what : Inspected) → result ≡ Ok what → Delivers name p new what) → Inspects name body p new result
    inspected_so result h opens =
        let is : Comes result = ap (read_over name p body.regs (inspection (fork_with name body))) (sym (none_left p old none)) ∙ comes result h in
        record { stands = h.stands; opens = opens; is = of_fork result is; came = came_of result is }

    pub is_inspected : (result : Result Inspected Stop) → ReadsAll old.fork result → IfOk result (Delivers old.fork p new) → Inspects name body p new result
    is_inspected result h opens = inspected_so result (subst (λ (f : ForkName). ReadsAll f result) own h) (λ what is. subst (λ (f : ForkName). Delivers f p new what) own (subst (λ (r : Result Inspected Stop). IfOk r (Delivers old.fork p new)) is opens))

    -- such a reader stands
    pub none_stands : Gathers p.pages p.scene old.gather → old.page ≡ None → Stands old.fork p old
    none_stands gathers page = record { fork = refl; gathers = gathers; page = rw page tt }
