-- What a reference to a map's page makes, for whatever keys files have.
use Rattle.std.proofs.Common.{◌≡◌, Bool, true, false, cond, List, [], ◌∷◌, ◌++◌, Option, None, Some, refl, ◌∙◌, Ordering}
use Rattle.std.specs.Option.{option_and_then}
use Rattle.machine_names.specs.declared.names.Slot.{Slot}
use Rattle.machine_names.specs.declared.names.Access.{Access}
use Rattle.std.specs.FinMap as fin
use Rattle.machine_names.specs.declared.names.PageName.{PageName}
use Rattle.machine_names.specs.declared.names.Kind.{Kind}
use Rattle.machine_names.specs.declared.names.Kind.TheVariants.{Execute, Read, Write}
use Rattle.plain_pages.specs.PlainPages.{PlainPages}
use Rattle.plain_pages.specs.Maps.{Chain, chain, entry_at, permits}
use Rattle.plain_pages.specs.References.{Spot, in_file, in_its_file, in_map, Making, blank, copy, blanks, copies, along_chain, makings}
use Rattle.plain_pages.proofs.Settles.{FirstOf, is_blank, is_copy, first_of_chain}

module _ {K : Type 0} {file_cmp : K → K → Ordering} (p : PlainPages file_cmp) (s : Slot) (kind : Kind) (m : Making K) (rest : List (Making K)) (first : makings p (in_map s) kind ≡ Some (m ∷ rest)) where
  permitted : (b : Bool) (ms : List (Making K)) → cond b (Some ms) None ≡ Some (m ∷ rest) → ms ≡ m ∷ rest
  permitted true ms h = cc h
  permitted false ms h = absurd (cc h)

  -- the first making of a chain, and the chain
  first_in_chain : (c : Chain) × (chain (entry_at p.maps) s ≡ Some c) × FirstOf kind c m rest
  unfolding makings
  first_in_chain = by (chain (entry_at p.maps) s) refl first
    where
      by : (oc : Option Chain) → chain (entry_at p.maps) s ≡ oc → option_and_then (along_chain kind) oc ≡ Some (m ∷ rest) → (c : Chain) × (chain (entry_at p.maps) s ≡ Some c) × FirstOf kind c m rest
      by None is g = absurd (cc g)
      by (Some c) is g = (c, is, first_of_chain kind c m rest (permitted (permits kind c) (blanks c ++ copies kind c) g))

  -- a copy is the last that is made
  pub copy_last : (t : Slot) (a : Access) → m ≡ copy t a → [] ≡ rest
  copy_last t a is = let f = first_in_chain in by f.0 f.2
    where
      by : (c : Chain) → FirstOf kind c m rest → [] ≡ rest
      by c (is_blank none at others) = absurd (let e : blank (in_map c.end) ≡ copy t a = at ∙ is in cc e)
      by c (is_copy l writes some found at others) = others

-- and so it is at whatever spot
pub copy_last_at : {K : Type 0} {file_cmp : K → K → Ordering} (p : PlainPages file_cmp) (at : Spot K) (kind : Kind) (t : Slot) (a : Access) (rest : List (Making K)) → makings p at kind ≡ Some (copy t a ∷ rest) → [] ≡ rest
unfolding makings
copy_last_at p (in_map s) kind t a rest first = copy_last p s kind (copy t a) rest first t a refl
copy_last_at {K} p (in_file f) kind t a rest first = by kind (fin.get p.files f) first
  where
    by : (kind : Kind) (o : Option PageName) → in_its_file kind f o ≡ Some (copy t a ∷ rest) → [] ≡ rest
    by kind (Some n) h = absurd (cc h)
    by Write None h = absurd (let is : blank (in_file f) ∷ [] ≡ copy t a ∷ rest = cc h in let first : blank (in_file f) ≡ copy t a = cc is in cc first)
    by Read None h = absurd (cc h)
    by Execute None h = absurd (cc h)
