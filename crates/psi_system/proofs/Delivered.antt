-- The PC word of a delivery: where it is stored, and what that leaves.
use Rattle.std.proofs.Common.{◌≡◌, ℕ, Bool, true, false, refl, sym, ◌∙◌, ap}
use Rattle.machine_names.specs.declared.names.ForkName.{ForkName}
use Rattle.plain_pages.specs.PlainPages.{NumberedPages}
use Rattle.plain_units.specs.Steps.{is_accumulator, put_into}
use Rattle.plain_model.specs.declared.fork.Body.{Body}
use Rattle.plain_model.specs.declared.fork.Fork.{Fork}
use Rattle.plain_model.specs.declared.interrupt.Delivery.{Delivery}
use Rattle.plain_model.specs.Inspections.{interrupted_word, stored_word}
use Rattle.ka10_unit.specs.Gathers.{Framed}
use Rattle.ka10_unit.specs.Taking.{CanPut}
use Rattle.text_pointers.specs.declared.reader.Reader.{Reader}
use Rattle.text_pointers.specs.Reading.{pages_so_far}
use Rattle.psi_system.specs.Inspecting.{IsFork, Opens, put_for}

-- it can be stored
pub can_put : (f : ForkName) (p : Framed) (r : Reader) (d : Delivery) (word : ℕ) → Opens f p r d → CanPut f (record p { pages = pages_so_far p r }) (put_for d.at word)
can_put f p r d word opens = by (is_accumulator d.at) refl
  where
    by : (low : Bool) → is_accumulator d.at ≡ low → CanPut f (record p { pages = pages_so_far p r }) (put_for d.at word)
    by true is = rw is tt
    by false is = rw is (opens is)

-- as the plain machine stores it
pub stored_so : (f : Fork) (name : ForkName) (body : Body) (q : NumberedPages) (d : Delivery) → IsFork f name body → put_into name q (put_for d.at (interrupted_word body.regs)) ≡ stored_word q f d
stored_so f name body q d h =
    ap (λ (n : ForkName). put_into n q (put_for d.at (interrupted_word body.regs))) (sym h.name) ∙ ap (λ (b : Body). put_into f.name q (put_for d.at (interrupted_word b.regs))) (sym h.body)
