-- What a reference that goes through leaves: it makes nothing more, and where a write made nothing it makes nothing still.
use Rattle.std.proofs.Common.{◌≡◌, ◌≢◌, ℕ, zero, suc, Bool, true, false, cond, List, [], ◌∷◌, ◌++◌, Option, None, Some, ◌⊎◌, inl, inr, refl, sym, ◌∙◌, ap, subst}
use Rattle.std.specs.Prelude.{find, is_some}
use Rattle.std.specs.Option.{option_map, option_and_then}
use Rattle.std.specs.Cmp.{nat_cmp_total}
use Rattle.machine_names.specs.declared.names.Tty.{Tty}
use Rattle.machine_names.specs.declared.names.PageName.{PageName}
use Rattle.machine_names.specs.declared.names.Slot.{Slot}
use Rattle.machine_names.specs.declared.names.Access.{Access}
use Rattle.machine_names.specs.declared.names.Kind.{Kind}
use Rattle.machine_names.specs.declared.names.Kind.TheVariants.{Write}
use Rattle.plain_pages.specs.declared.map.MapEntry.{MapEntry}
use Rattle.plain_pages.specs.declared.map.MapEntry.TheVariants.{Empty, Names, Follows}
use Rattle.plain_pages.specs.PlainPages.{NumberedPages}
use Rattle.plain_pages.specs.Maps.{Entries, Link, Chain, followed, access_of, behind, chain_within, chain, entry_at, permits}
use Rattle.plain_pages.specs.Room.{HasRoom}
use Rattle.plain_pages.specs.References.{in_map, Making, blank, copy, blanks, copies, copy_in, along_chain, private_access, makings, make, make_all, granted, denied, reference, page_at}
use Rattle.machine_names.specs.Bounds.{IsOwner}
use Rattle.plain_pages.specs.WholePages.{AreWhole}
use Rattle.plain_pages.proofs.Chains.{marked, chain_here, chain_empty, chain_marked, slot_tells}
use Rattle.plain_pages.proofs.Ends.{Begun, at_empty, at_page, at_other, begun, no_chain_within}
use Rattle.plain_pages.proofs.Made.{IsMade, is_blank, is_copy}
use Rattle.plain_pages.proofs.Settles.{FirstOf, is_blank as first_blank, is_copy as first_copy, first_of_chain, makings_settled}
use Rattle.plain_pages.proofs.ReferencesMade.{roomy, reference_makes, reference_denied}

-- a first link that has no copy mark, and a rest that has none
unmarked : (l : Link) (ls : List Link) → find marked (l ∷ ls) ≡ None → (l.access.c ≡ false) × (find marked ls ≡ None)
unmarked l ls h = by l.access.c refl h
  where
    by : (b : Bool) → l.access.c ≡ b → cond b (Some l) (find marked ls) ≡ None → (l.access.c ≡ false) × (find marked ls ≡ None)
    by true is g = absurd (cc g)
    by false is g = (is, g)

-- ---- an entry that is empty or has the copy mark is on no chain that ends in a page and has no mark

module _ (old new : Entries) (m : Slot) (e : MapEntry) (here : old m ≡ Some e) (closed : (e ≡ Empty) ⊎ ((access_of e).c ≡ true)) (others : (t : Slot) → t ≢ m → new t ≡ old t) where
  at_closed : {A : Type 0} (f : MapEntry) (t : Slot) (ls : List Link) → old t ≡ Some f → t ≡ m → (f ≡ Empty → ⊥) → find marked (record { slot = t; access = access_of f } ∷ ls) ≡ None → A
  at_closed f t ls is same full none =
      let two : Some f ≡ Some e = sym is ∙ ap old same ∙ here in
      let one : f ≡ e = cc two in
      let clear = (unmarked (record { slot = t; access = access_of f }) ls none).0 in
      elim closed [
        | inl empty ↦ absurd (full (one ∙ empty))
        | inr mark ↦ absurd (let no : true ≡ false = sym mark ∙ ap (λ (x : MapEntry). (access_of x).c) (sym one) ∙ clear in cc no)
      ]

  no_page : {A : Type 0} (c d : Chain) → d ≡ c → d.page ≡ None → is_some c.page ≡ true → A
  no_page c d same none some = absurd (let no : false ≡ true = ap is_some (sym none) ∙ ap (λ (x : Chain). is_some x.page) same ∙ some in cc no)

  beside : (n : ℕ) (t : Slot) (c : Chain) → chain_within n old t ≡ Some c → is_some c.page ≡ true → find marked c.links ≡ None → chain_within n new t ≡ Some c
  beside zero t c h some none = absurd (no_chain_within old t c h)
  beside (suc n) t c h some none = by (λ u d g s k. beside n u d g s k) (slot_tells t m) (begun n old t c h)
    where
      links : (d : Chain) → d ≡ c → find marked d.links ≡ None
      links d same = ap (λ (x : Chain). find marked x.links) same ∙ none

      on : (f : MapEntry) → old t ≡ Some f → t ≢ m → new t ≡ Some f
      on f is ne = others t ne ∙ is

      by : ((u : Slot) (d : Chain) → chain_within n old u ≡ Some d → is_some d.page ≡ true → find marked d.links ≡ None → chain_within n new u ≡ Some d) → (t ≡ m) ⊎ (t ≢ m) → Begun n old t c → chain_within (suc n) new t ≡ Some c
      by rest tells (at_empty is same) = no_page c _ same refl some
      by rest (inl at) (at_page x a is same) = at_closed (Names x a) t [] is at (λ no. cc no) (links _ same)
      by rest (inr ne) (at_page x a is same) = chain_here n new t (Some (Names x a)) (on (Names x a) is ne) ∙ ap Some same
      by rest (inl at) (at_other serial page a d is g same) = at_closed (Follows serial page a) t d.links is at (λ no. cc no) (links (behind t a d) same)
      by rest (inr ne) (at_other serial page a d is g same) =
          let more = rest (followed t serial page) d g (ap (λ (x : Chain). is_some x.page) same ∙ some) (unmarked (record { slot = t; access = a }) d.links (links (behind t a d) same)).1 in
          chain_here n new t (Some (Follows serial page a)) (on (Follows serial page a) is ne) ∙ ap (option_map (behind t a)) more ∙ ap Some same

-- ---- what a reference makes that makes nothing

may_be : {X : Type 0} (b : Bool) (x y : X) → cond b (Some x) None ≡ Some y → x ≡ y
may_be true x y h = cc h
may_be false x y h = absurd (cc h)

-- of a chain that ends in a page
full_chain : (kind : Kind) (c : Chain) → blanks {K = ℕ} c ++ copies kind c ≡ [] → (is_some c.page ≡ true) × (copies {K = ℕ} kind c ≡ [])
full_chain kind c h = by c.page refl
  where
    by : (n : Option PageName) → c.page ≡ n → (is_some c.page ≡ true) × (copies {K = ℕ} kind c ≡ [])
    by None is = absurd (let no : blank (in_map c.end) ∷ copies kind c ≡ [] = ap (λ (n : Option PageName). cond (is_some n) [] (blank (in_map c.end) ∷ []) ++ copies kind c) (sym is) ∙ h in cc no)
    by (Some n) is = (ap is_some is, ap (λ (n : Option PageName). cond (is_some n) [] (blank (in_map c.end) ∷ []) ++ copies kind c) (sym is) ∙ h)

no_mark : (c : Chain) → copies {K = ℕ} Write c ≡ [] → find marked c.links ≡ None
no_mark c h = by (find marked c.links) h
  where
    by : (l : Option Link) → copy_in {K = ℕ} c l ≡ [] → l ≡ None
    by None g = refl
    by (Some l) g = absurd (cc g)

module _ (p : NumberedPages) (s : Slot) (kind : Kind) where
  -- there is a chain, and its list
  listed : (ms : List (Making ℕ)) → makings p (in_map s) kind ≡ Some ms → (c : Chain) × (chain (entry_at p.maps) s ≡ Some c) × (blanks c ++ copies kind c ≡ ms)
  unfolding makings
  listed ms h = by (chain (entry_at p.maps) s) refl h
    where
      by : (o : Option Chain) → chain (entry_at p.maps) s ≡ o → option_and_then (along_chain kind) o ≡ Some ms → (c : Chain) × (chain (entry_at p.maps) s ≡ Some c) × (blanks c ++ copies kind c ≡ ms)
      by None is g = absurd (cc g)
      by (Some c) is g = (c, is, may_be (permits kind c) (blanks c ++ copies kind c) ms g)

  -- its page is there
  page_there : makings p (in_map s) kind ≡ Some [] → is_some (page_at p (in_map s)) ≡ true
  unfolding page_at
  page_there h =
      let c = listed [] h in
      ap (λ (o : Option Chain). is_some (option_and_then (λ (d : Chain). d.page) o)) c.1 ∙ (full_chain kind c.0 c.2).0

four : (p : NumberedPages) (s : Slot) → chain (entry_at p.maps) s ≡ chain_within 4 (entry_at p.maps) s
unfolding chain
four p s = refl

-- the same chain makes the same
same_makings : (p q : NumberedPages) (s : Slot) (kind : Kind) → chain (entry_at q.maps) s ≡ chain (entry_at p.maps) s → makings q (in_map s) kind ≡ makings p (in_map s) kind
unfolding makings
same_makings p q s kind h = ap (option_and_then (along_chain kind)) h

module _ (owner : Tty) (own : IsOwner owner) where
  -- one making leaves writes open
  abbrev Stays : NumberedPages → NumberedPages → Type 0
  Stays p q = (t : Slot) → makings p (in_map t) Write ≡ Some [] → makings q (in_map t) Write ≡ Some []

  closed_stays : (p q : NumberedPages) (m : Slot) (a : Access) (words : List ℕ) (e : MapEntry) → IsMade p q owner m a words e → entry_at p.maps m ≡ Some e → (e ≡ Empty) ⊎ ((access_of e).c ≡ true) → Stays p q
  closed_stays p q m a words e made there closed t h =
      let c = listed p t Write [] h in
      let filled = full_chain Write c.0 c.2 in
      let still = beside (entry_at p.maps) (entry_at q.maps) m e there closed made.others 4 t c.0 (sym (four p t) ∙ c.1) filled.0 (no_mark c.0 filled.1) in
      same_makings p q t Write (four q t ∙ still ∙ sym c.1) ∙ h

  module _ (s : Slot) (kind : Kind) where
    made_stays : (p : NumberedPages) → AreWhole p → (m : Making ℕ) (rest : List (Making ℕ)) → makings p (in_map s) kind ≡ Some (m ∷ rest) → AreWhole (make p owner m) × Stays p (make p owner m)
    made_stays p w m rest h = by (listed p s kind (m ∷ rest) h)
      where
        Leaves : Making ℕ → Type 0
        Leaves x = AreWhole (make p owner x) × Stays p (make p owner x)

        of_blank : (t : Slot) → entry_at p.maps t ≡ Some Empty → Leaves (blank (in_map t))
        of_blank t there = let made = is_blank nat_cmp_total p w owner own t there in (made.whole, closed_stays p _ t _ _ Empty made there (inl refl))

        of_copy : (t : Slot) (a : Access) (e : MapEntry) → entry_at p.maps t ≡ Some e → (access_of e).c ≡ true → Leaves (copy t a)
        of_copy t a e there mark = let made = is_copy nat_cmp_total p w owner own t a e there in (made.whole, closed_stays p _ t _ _ e made there (inr mark))

        first : (c : Chain) → chain_within 4 (entry_at p.maps) s ≡ Some c → FirstOf kind c m rest → Leaves m
        first c is (first_blank none one others) = subst Leaves one (of_blank c.end (chain_empty 4 (entry_at p.maps) s c is none))
        first c is (first_copy l writes some f one others) = let k = chain_marked 4 (entry_at p.maps) s c l is f in subst Leaves one (of_copy l.slot (private_access c) k.entry k.there k.mark)

        by : (c : Chain) × (chain (entry_at p.maps) s ≡ Some c) × (blanks c ++ copies kind c ≡ m ∷ rest) → AreWhole (make p owner m) × Stays p (make p owner m)
        by (c, is, list) = first c (sym (four p s) ∙ is) (first_of_chain kind c m rest list)

    -- and so do all of them
    all_leave : (ms : List (Making ℕ)) (p q : NumberedPages) → AreWhole p → makings p (in_map s) kind ≡ Some ms → make_all p owner ms ≡ granted q → (makings q (in_map s) kind ≡ Some []) × Stays p q
    unfolding make_all
    all_leave [] p q w h made = let same : p ≡ q = cc made in subst (λ (x : NumberedPages). (makings x (in_map s) kind ≡ Some []) × Stays p x) same (h, λ t g. g)
    all_leave (m ∷ ms) p q w h made =
        let room = roomy (HasRoom (make p owner m) owner) (make_all (make p owner m) owner ms) q made in
        let one = made_stays p w m ms h in
        let rest = all_leave ms (make p owner m) q one.0 (makings_settled nat_cmp_total p owner (in_map s) kind m ms h) room.1 in
        (rest.0, λ t g. rest.1 t (one.1 t g))

-- WHAT A REFERENCE LEAVES: its page is there, the same reference makes nothing more, and no write makes more than before
pub record Leaves (p q : NumberedPages) (s : Slot) (kind : Kind) : Type 0 where
  pub page : is_some (page_at q (in_map s)) ≡ true
  pub again : makings q (in_map s) kind ≡ Some []
  pub still : (t : Slot) → makings p (in_map t) Write ≡ Some [] → makings q (in_map t) Write ≡ Some []

pub reference_leaves : (owner : Tty) → IsOwner owner → (p q : NumberedPages) → AreWhole p → (s : Slot) (kind : Kind) → reference p (in_map s) kind owner ≡ granted q → Leaves p q s kind
reference_leaves owner own p q w s kind goes = by (makings p (in_map s) kind) refl
  where
    by : (o : Option (List (Making ℕ))) → makings p (in_map s) kind ≡ o → Leaves p q s kind
    by None h = absurd (let no : denied kind ≡ granted q = sym (reference_denied p owner (in_map s) kind h) ∙ goes in cc no)
    by (Some ms) h =
        let left = all_leave owner own s kind ms p q w h (sym (reference_makes p owner (in_map s) kind ms h) ∙ goes) in
        record { page = page_there q s kind left.0; again = left.0; still = left.1 }
