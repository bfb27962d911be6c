-- A reading that takes the address of a pointer first.
use Rattle.std.proofs.Common.{◌≡◌, ℕ, List, [], None, refl, sym, ◌∙◌, ap, arith, ◌≤◌, true}
use Rattle.std.specs.Prelude.{Ok, Err}
use Rattle.std.specs.Ordering.{nat_cmp}
use Rattle.machine_names.specs.declared.names.ForkName.{ForkName}
use Rattle.machine_names.specs.declared.names.Kind.TheVariants.{Read}
use Rattle.page_contracts.specs.Pages.{PagesMeaning}
use Rattle.plain_units.specs.declared.registers.Regs.{Regs}
use Rattle.plain_units.specs.Steps.{Progress, begun, run}
use Rattle.plain_model.specs.PointedTexts.{address_steps}
use Rattle.plain_model.specs.Readings.{Reading, ends_with, words}
use Rattle.page_gather.specs.Gathering.{after_all}
use Rattle.ka10_deeds.specs.declared.word_fields.Address.{Address}
use Rattle.ka10_unit.specs.declared.taken.Taken.{Taken}
use Rattle.ka10_unit.specs.declared.taken.Stop.{Stop}
use Rattle.ka10_unit.specs.Gathers.{Framed, weight}
use Rattle.ka10_unit.specs.Planning.{reached}
use Rattle.ka10_unit.specs.Taking.{Follows, IsTrap, Plan, StopNeeds, most_pages, progress, read_frames, run_over, stop_of}
use Rattle.ka10_unit.proofs.Lost.{none_left, stop_more}
use Rattle.text_pointers.specs.declared.reader.Reader.{Reader}
use Rattle.text_pointers.specs.Outcomes.{goes_on, read_over, reads, stops}
use Rattle.text_pointers.specs.Reading.{Stands, StopsFor, pages_so_far, text_frames}

-- nothing is taken yet
none_begun : (p : Framed) (ac : List ℕ) (t : Taken) → t.gather.references ≡ [] → t.refs.items ≡ [] → t.kept ≡ None → progress p ac t ≡ begun p.pages ac
unfolding after_all
none_begun p ac t gather refs kept = rw (gather, refs, kept) refl

module _ {A : Type 0} (f : ForkName) (p : Framed) (regs : Regs) (first : ℕ) (rest : ℕ → Reading A) where
  -- the reading behind the address of this pointer
  abbrev Whole : Reading A
  Whole = words (address_steps regs first) rest

  by_address : (x : Plan) → run_over f p (address_steps regs first) (begun p.pages regs.ac) ≡ x → read_over f p regs Whole p.pages ≡ goes_on f x (λ q e. read_over f p regs (rest e) q)
  unfolding reads
  by_address x is = ap (λ (y : Plan). goes_on f y (λ q e. read_over f p regs (rest e) q)) is

  module _ (none taken : Taken) (gather : none.gather.references ≡ []) (refs : none.refs.items ≡ []) (kept : none.kept ≡ None) where
    -- the address stops it
    pub address_stops : (e : Stop) → Follows {A = Address} f p regs.ac none taken (reached regs.ac first) (Err e) → read_over f p regs Whole p.pages ≡ stops (stop_of e)
    address_stops e h = by_address _ (ap (λ (y : Progress nat_cmp). run_over f p (address_steps regs first) y) (sym (none_begun p regs.ac none gather refs kept)) ∙ h.runs (λ a. ends_with regs a.e))

    -- it goes on with the address, on the pages that a reader behind it leaves
    pub address_goes : (a : Address) → taken.kept ≡ None → Follows f p regs.ac none taken (reached regs.ac first) (Ok a) → (r : Reader) → r.gather ≡ taken.gather → read_over f p regs Whole p.pages ≡ read_over f p regs (rest a.e) (pages_so_far p r)
    unfolding run
    address_goes a none_kept h r of_taken =
        by_address _ (ap (λ (y : Progress nat_cmp). run_over f p (address_steps regs first) y) (sym (none_begun p regs.ac none gather refs kept)) ∙ h.runs (λ b. ends_with regs b.e))
        ∙ rw (none_kept, of_taken) refl

-- a reader behind an address has referred to what that refers to
pub behind_stands : (f : ForkName) (p : Framed) (ac : List ℕ) (first : ℕ) (none taken : Taken) (a : Address) → Follows f p ac none taken (reached ac first) (Ok a) → (r : Reader) → r.gather ≡ taken.gather → r.fork ≡ taken.fork → r.page ≡ None → Stands f p r
behind_stands f p ac first none taken a h r of_taken same page = record { fork = same ∙ h.stands.fork; gathers = rw of_taken h.stands.gathers; page = rw page tt }

-- what an address refers to is read alone, so that it comes to no more pages than it has references
pub address_few : (t : Taken) → most_pages Read t ≤ read_frames → weight t.gather ≤ read_frames
address_few t few = omega (arith, few)

-- and where it needs something first, no more frames are wanted
pub address_needs : {P : Type 0} (means : PagesMeaning P) (p : P) (none : Taken) → none.gather.references ≡ [] → none.gather.homes ≡ 0 → none.refs.items ≡ [] → (e : Stop) → (means.flat ≡ true → IsTrap e) → StopNeeds means.store (most_pages Read none) p e → StopsFor means p e
address_needs means p none gather unmade refs e core needs =
    let few = none_left Read none gather unmade refs in
    (core, stop_more means.store p (most_pages Read none) text_frames e (omega (arith, few)) needs)
