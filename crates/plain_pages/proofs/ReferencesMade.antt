-- References page by page.
use Rattle.std.proofs.Common.{◌≡◌, ◌≤◌, Bool, true, false, cond, List, [], ◌∷◌, Option, None, Some, refl, sym, ◌∙◌, ap, subst, Ordering, arith}
use Rattle.std.specs.Prelude.{slice_get}
use Rattle.std.specs.Option.{option_map_or, option_and_then}
use Rattle.std.specs.Cmp.{IsTotalOrder}
use Rattle.std.proofs.lemmas.Bool.Decides.{nat_tests}
use Rattle.machine_names.specs.declared.names.Tty.{Tty}
use Rattle.machine_names.specs.declared.names.Kind.{Kind}
use Rattle.plain_pages.specs.PlainPages.{PlainPages}
use Rattle.plain_pages.specs.Room.{HasRoom, live}
use Rattle.plain_pages.specs.References.{Spot, Making, makings, make, make_all, Referred, granted, denied, full, reference, settled}
use Rattle.machine_names.specs.Bounds.{IsOwner}
use Rattle.plain_pages.specs.WholePages.{AreWhole}
use Rattle.plain_pages.proofs.Makings.{make_whole}
use Rattle.plain_pages.proofs.Settles.{makings_settled, makings_can}

module _ {K : Type 0} {file_cmp : K → K → Ordering} (p : PlainPages file_cmp) (owner : Tty) (at : Spot K) (kind : Kind) where
  -- a reference makes its list
  pub reference_makes : (ms : List (Making K)) → makings p at kind ≡ Some ms → reference p at kind owner ≡ make_all p owner ms
  unfolding reference
  reference_makes ms h = ap (λ (x : Option (List (Making K))). option_map_or (make_all p owner) x (denied kind)) h

  -- with nothing to be made it leaves the pages as they are
  pub reference_stays : makings p at kind ≡ Some [] → reference p at kind owner ≡ granted p
  unfolding make_all
  reference_stays h = reference_makes [] h

  pub reference_denied : makings p at kind ≡ None → reference p at kind owner ≡ denied kind
  unfolding reference
  reference_denied h = ap (λ (x : Option (List (Making K))). option_map_or (make_all p owner) x (denied kind)) h

  -- what is settled is its first making
  pub settled_makes : (m : Making K) (rest : List (Making K)) → makings p at kind ≡ Some (m ∷ rest) → settled p at kind owner ≡ make p owner m
  unfolding settled
  settled_makes m rest h = ap (λ (x : Option (List (Making K))). option_map_or (make p owner) (option_and_then (λ ms. slice_get ms 0) x) p) h

  pub settled_stays : makings p at kind ≡ Some [] → settled p at kind owner ≡ p
  unfolding settled
  settled_stays h = ap (λ (x : Option (List (Making K))). option_map_or (make p owner) (option_and_then (λ ms. slice_get ms 0) x) p) h

pub make_first : {K : Type 0} {file_cmp : K → K → Ordering} (p : PlainPages file_cmp) (owner : Tty) (m : Making K) (ms : List (Making K)) → make_all p owner (m ∷ ms) ≡ cond (HasRoom (make p owner m) owner) (make_all (make p owner m) owner ms) full
unfolding make_all
make_first p owner m ms = refl

pub roomy : {K : Type 0} {file_cmp : K → K → Ordering} (b : Bool) (r : Referred file_cmp) (q : PlainPages file_cmp) → cond b r full ≡ granted q → (b ≡ true) × (r ≡ granted q)
roomy true r q h = (refl, h)
roomy false r q h = absurd (cc h)

module _ {K : Type 0} {file_cmp : K → K → Ordering} where
  pub has_room : (p : PlainPages file_cmp) (owner : Tty) → HasRoom p owner ≡ true → live p ≤ p.limit
  unfolding HasRoom
  has_room p owner h = grind (arith, nat_tests, h)

  made_room : (owner : Tty) (ms : List (Making K)) (p q : PlainPages file_cmp) → live p ≤ p.limit → make_all p owner ms ≡ granted q → live q ≤ q.limit
  unfolding make_all
  made_room owner [] p q h g = let same : p ≡ q = cc g in subst (λ (x : PlainPages file_cmp). live x ≤ x.limit) same h
  made_room owner (m ∷ ms) p q h g =
      let r = roomy (HasRoom (make p owner m) owner) (make_all (make p owner m) owner ms) q g in
      made_room owner ms (make p owner m) q (has_room (make p owner m) owner r.0) r.1

  -- a reference that is granted leaves no more than there may be
  pub reference_room : (owner : Tty) (at : Spot K) (kind : Kind) (p q : PlainPages file_cmp) → live p ≤ p.limit → reference p at kind owner ≡ granted q → live q ≤ q.limit
  reference_room owner at kind p q h g = by (makings p at kind) refl
    where
      by : (x : Option (List (Making K))) → makings p at kind ≡ x → live q ≤ q.limit
      by None e = absurd (let no : denied kind ≡ granted q = sym (reference_denied p owner at kind e) ∙ g in cc no)
      by (Some ms) e = made_room owner ms p q h (sym (reference_makes p owner at kind ms e) ∙ g)

module _ {K : Type 0} {file_cmp : K → K → Ordering} (o : IsTotalOrder file_cmp) (owner : Tty) (at : Spot K) (kind : Kind) where
  -- a reference is granted as it is once its first page is made
  pub reference_settled : (p : PlainPages file_cmp) (m : Making K) (rest : List (Making K)) (q : PlainPages file_cmp) → makings p at kind ≡ Some (m ∷ rest) → reference p at kind owner ≡ granted q → reference (settled p at kind owner) at kind owner ≡ granted q
  reference_settled p m rest q h g =
      let r = roomy (HasRoom (make p owner m) owner) (make_all (make p owner m) owner rest) q (sym (make_first p owner m rest) ∙ sym (reference_makes p owner at kind (m ∷ rest) h) ∙ g) in
      ap (λ (x : PlainPages file_cmp). reference x at kind owner) (settled_makes p owner at kind m rest h) ∙ reference_makes (make p owner m) owner at kind rest (makings_settled o p owner at kind m rest h) ∙ r.1

  module _ (own : IsOwner owner) where
    made_whole : (ms : List (Making K)) (p q : PlainPages file_cmp) → AreWhole p → makings p at kind ≡ Some ms → make_all p owner ms ≡ granted q → AreWhole q
    unfolding make_all
    made_whole [] p q w h g = let same : p ≡ q = cc g in subst (λ (x : PlainPages file_cmp). AreWhole x) same w
    made_whole (m ∷ ms) p q w h g =
        let r = roomy (HasRoom (make p owner m) owner) (make_all (make p owner m) owner ms) q g in
        made_whole ms (make p owner m) q (make_whole o p w owner own m (makings_can o p owner at kind m ms h)) (makings_settled o p owner at kind m ms h) r.1

    -- a reference leaves whole pages whole
    pub reference_whole : (p q : PlainPages file_cmp) → AreWhole p → reference p at kind owner ≡ granted q → AreWhole q
    reference_whole p q w g = by (makings p at kind) refl
      where
        by : (x : Option (List (Making K))) → makings p at kind ≡ x → AreWhole q
        by None h = absurd (let no : denied kind ≡ granted q = sym (reference_denied p owner at kind h) ∙ g in cc no)
        by (Some ms) h = made_whole ms p q w h (sym (reference_makes p owner at kind ms h) ∙ g)
