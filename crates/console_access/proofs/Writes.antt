-- A page that is made ready to write, by what its touch answers.
use Rattle.std.proofs.Common.{◌≡◌, ℕ, Bool, None, Option, Some, refl, sym, ◌∙◌, ap, ◌∷◌, [], List}
use Rattle.std.specs.FinMap as map
use Rattle.std.specs.Prelude.{Result, Ok, Err}
use Rattle.std.specs.Result.{IsErrAnd}
use Rattle.std.specs.Ordering.{nat_cmp}
use Rattle.std.specs.Cmp.{nat_cmp_total}
use Rattle.machine_names.specs.declared.names.Kind.{Kind}
use Rattle.machine_names.specs.declared.names.Kind.TheVariants.{Write}
use Rattle.page_contracts.specs.declared.answers.Touch.{Touch}
use Rattle.page_contracts.specs.declared.answers.Touch.TheVariants.{Ready, Zero, Copy, Denied, Full}
use Rattle.machine_names.specs.declared.names.Tty.{Tty}
use Rattle.plain_pages.specs.PlainPages.{NumberedPages}
use Rattle.machine_names.specs.Orders.{FilePage}
use Rattle.machine_names.specs.declared.names.PageName.{PageName}
use Rattle.plain_pages.specs.References.{Spot, Making, blank, copy, in_file, in_its_file, makings, make, Referred, granted, reference, settled}
use Rattle.page_contracts.specs.Pages.{Scene, touch_of}
use Rattle.plain_pages.proofs.ReferencesMade.{reference_stays, reference_settled, settled_makes}
use Rattle.page_contracts.proofs.Touches.{ready_touch, zero_touch, copy_touch, denied_touch, full_touch}
use Rattle.plain_pages.proofs.Settles.{makings_settled}
use Rattle.console_access.specs.declared.writing.Barred.TheVariants.{ByMap, ByDrum}
use Rattle.console_access.specs.Writing.{write_of, IsReadied}
use Rattle.console_access.proofs.Making.{copy_last_at}

-- of a page of a file one thing is made at most
sole_making : (p : NumberedPages) (f : FilePage ℕ) (m : Making ℕ) (rest : List (Making ℕ)) → makings p (in_file f) Write ≡ Some (m ∷ rest) → [] ≡ rest
unfolding makings
sole_making p f m rest h = by (map.get p.files f) h
  where
    by : (n : Option PageName) → in_its_file Write f n ≡ Some (m ∷ rest) → [] ≡ rest
    by None g = cc g
    by (Some n) g = absurd (cc g)

module _ (p : NumberedPages) (at : Spot ℕ) (owner : Tty) where
  abbrev Refers : NumberedPages → Type 0
  Refers q = reference p at Write owner ≡ granted q

  pub readied_as : {X : Type 0} (q : NumberedPages) (x : X) → reference p at Write owner ≡ granted q → IsReadied {X = X} p q at owner (Ok x)
  readied_as q x refers = record { refers = ap write_of refers; stays = tt }

  -- once the first page is made, the reference is what it was
  refers_on : (m : Making ℕ) (rest : List (Making ℕ)) (q r : NumberedPages) → makings p at Write ≡ Some (m ∷ rest) → Refers q → reference (settled p at Write owner) at Write owner ≡ granted r → Refers r
  refers_on m rest q r first refers later =
      let same : ◌≡◌ {A = Referred nat_cmp} (granted q) (granted r) = sym (reference_settled nat_cmp_total owner at Write p m rest q first refers) ∙ later in
      refers ∙ same

module _ (p : NumberedPages) (scene : Scene) (at : Spot ℕ) (owner : Tty) (t : Touch) (told : t ≡ touch_of p scene at Write owner) where
  pub ready_refers : t ≡ Ready → reference p at Write owner ≡ granted p
  ready_refers answer = reference_stays p owner at Write (ready_touch p scene owner at Write (sym told ∙ answer))

  -- a copy is all that is made
  pub copy_refers : (sole : Bool) (q : NumberedPages) → t ≡ Copy sole → q ≡ settled p at Write owner → reference p at Write owner ≡ granted q
  copy_refers sole q answer made =
      let z = copy_touch p scene owner at Write sole (sym told ∙ answer) in
      let first = z.1.3 in
      let rest_is : [] ≡ z.1.2 = copy_last_at p at Write z.1.0 z.1.1 z.1.2 first in
      let nothing : makings (make p owner (copy z.1.0 z.1.1)) at Write ≡ Some [] = makings_settled nat_cmp_total p owner at Write (copy z.1.0 z.1.1) z.1.2 first ∙ ap Some (sym rest_is) in
      let settled_is = settled_makes p owner at Write (copy z.1.0 z.1.1) z.1.2 first in
      let stays : reference (settled p at Write owner) at Write owner ≡ granted q =
      ap (λ x. reference x at Write owner) settled_is ∙ reference_stays (make p owner (copy z.1.0 z.1.1)) owner at Write nothing ∙ ap granted (sym settled_is ∙ sym made) in
      refers_on p at owner (copy z.1.0 z.1.1) z.1.2 z.0.0 q first z.0.1 stays

  -- a zero page of a file is all that is made
  pub zero_refers : (f : FilePage ℕ) (q : NumberedPages) → at ≡ in_file f → t ≡ Zero → q ≡ settled p at Write owner → reference p at Write owner ≡ granted q
  zero_refers f q file answer made =
      let z = zero_touch p scene owner at Write (sym told ∙ answer) in
      let first = z.1.2 in
      let rest_is : [] ≡ z.1.1 = sole_making p f (blank z.1.0) z.1.1 (ap (λ (x : Spot ℕ). makings p x Write) (sym file) ∙ first) in
      let nothing : makings (make p owner (blank z.1.0)) at Write ≡ Some [] = makings_settled nat_cmp_total p owner at Write (blank z.1.0) z.1.1 first ∙ ap Some (sym rest_is) in
      let settled_is = settled_makes p owner at Write (blank z.1.0) z.1.1 first in
      let stays : reference (settled p at Write owner) at Write owner ≡ granted q =
      ap (λ x. reference x at Write owner) settled_is ∙ reference_stays (make p owner (blank z.1.0)) owner at Write nothing ∙ ap granted (sym settled_is ∙ sym made) in
      refers_on p at owner (blank z.1.0) z.1.1 z.0.0 q first z.0.1 stays

  pub denied_refers : {X : Type 0} (k : Kind) → t ≡ Denied k → IsReadied {X = X} p p at owner (Err ByMap)
  denied_refers k answer = record { refers = ap write_of (denied_touch p scene owner at Write k (sym told ∙ answer)).1; stays = refl }

  pub full_refers : {X : Type 0} → t ≡ Full → IsReadied {X = X} p p at owner (Err ByDrum)
  full_refers answer = record { refers = ap write_of (full_touch p scene owner at Write (sym told ∙ answer)); stays = refl }

-- an error that is handed on
pub errs : {X E : Type 0} (r : Result X E) (e : E) → IsErrAnd r (λ v. v ≡ e) → r ≡ Err e
errs (Ok x) e h = absurd h
errs (Err v) e h = ap Err h
