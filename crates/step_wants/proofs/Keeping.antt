-- A page that is named at a spot is still named there once another is read.
use Rattle.std.proofs.Common.{◌≡◌, ◌≢◌, ℕ, zero, suc, [], ◌∷◌, ◌++◌, Bool, true, false, cond, Option, None, Some, ◌⊎◌, inl, inr, refl, sym, ◌∙◌, ap}
use Rattle.std.specs.Prelude.{is_some}
use Rattle.std.specs.Option.{option_and_then, option_map}
use Rattle.std.specs.declared.cmp.Ordering.{Ordering}
use Rattle.machine_names.specs.declared.names.Kind.TheVariants.{Read}
use Rattle.machine_names.specs.declared.names.PageName.{PageName}
use Rattle.machine_names.specs.declared.names.Access.{Access}
use Rattle.machine_names.specs.declared.names.Slot.{Slot}
use Rattle.machine_names.specs.declared.names.Tty.{Tty}
use Rattle.plain_pages.specs.declared.map.MapEntry.{MapEntry}
use Rattle.plain_pages.specs.declared.map.MapEntry.TheVariants.{Empty, Follows, Names}
use Rattle.plain_pages.specs.Maps.{Chain, Entries, behind, chain, chain_from, chain_within, entry_at, followed, full_access, permits, set_entry}
use Rattle.plain_pages.specs.PlainPages.{PlainPages}
use Rattle.plain_pages.specs.Room.{HasRoom}
use Rattle.plain_pages.specs.References.{along_chain, blank, blanks, denied, granted, in_map, make, make_all, makings, next_page, page_at, reference}
use Rattle.plain_pages.proofs.Chains.{chain_empty, chain_here, entry_other, slot_tells}
use Rattle.plain_pages.proofs.Ends.{page_within}
use Rattle.plain_pages.proofs.ReferencesMade.{make_first, reference_denied, reference_makes, reference_stays, roomy}

-- ---- an empty entry that is filled is on no chain that ends in a page

page_from : (n : ℕ) (entries : Entries) (s : Slot) (e : Option MapEntry) → entries s ≡ e → page_within (suc n) entries s ≡ option_and_then (λ c. c.page) (chain_from s e (chain_within n entries))
page_from n entries s e is = ap (option_and_then (λ c. c.page)) (chain_here n entries s e is)

page_goes_on : (s : Slot) (a : Access) (o : Option Chain) → option_and_then (λ c. c.page) (option_map (behind s a) o) ≡ option_and_then (λ c. c.page) o
page_goes_on s a None = refl
page_goes_on s a (Some c) = refl

module _ (old new : Entries) (m : Slot) (n : PageName) (was : old m ≡ Some Empty) (others : (t : Slot) → t ≢ m → new t ≡ old t) where
  -- an entry that isn't empty is as it was
  stays : (s : Slot) (e : MapEntry) → old s ≡ Some e → (e ≡ Empty → ⊥) → new s ≡ Some e
  stays s e is not_empty = by (slot_tells s m)
    where
      by : (s ≡ m) ⊎ (s ≢ m) → new s ≡ Some e
      by (inl same) = absurd (not_empty (let both : Some e ≡ Some Empty = sym is ∙ ap old same ∙ was in cc both))
      by (inr ne) = others s ne ∙ is

  page_stays : (k : ℕ) (s : Slot) → page_within k old s ≡ Some n → page_within k new s ≡ Some n
  unfolding chain_within
  page_stays zero s there = absurd (cc there)
  page_stays (suc k) s there = by (old s) refl (λ t. page_stays k t)
    where
      by : (e : Option MapEntry) → old s ≡ e → ((t : Slot) → page_within k old t ≡ Some n → page_within k new t ≡ Some n) → page_within (suc k) new s ≡ Some n
      by None is rest = absurd (let no : None ≡ Some n = sym (page_from k old s None is) ∙ there in cc no)
      by (Some Empty) is rest = absurd (let no : None ≡ Some n = sym (page_from k old s (Some Empty) is) ∙ there in cc no)
      by (Some (Names x a)) is rest =
          page_from k new s (Some (Names x a)) (stays s (Names x a) is (λ e. cc e)) ∙ sym (page_from k old s (Some (Names x a)) is) ∙ there
      by (Some (Follows serial page a)) is rest =
          let t = followed s serial page in
          let before : page_within k old t ≡ Some n = sym (page_goes_on s a (chain_within k old t)) ∙ sym (page_from k old s (Some (Follows serial page a)) is) ∙ there in
          page_from k new s (Some (Follows serial page a)) (stays s (Follows serial page a) is (λ e. cc e)) ∙ page_goes_on s a (chain_within k new t) ∙ rest t before

-- ---- a read

module _ {K : Type 0} {file_cmp : K → K → Ordering} where
  page_is : (p : PlainPages file_cmp) (s : Slot) → page_at p (in_map s) ≡ page_within 4 (entry_at p.maps) s
  unfolding page_at chain
  page_is p s = refl

  makings_are : (p : PlainPages file_cmp) (y : Slot) (o : Option Chain) → chain (entry_at p.maps) y ≡ o → makings p (in_map y) Read ≡ option_and_then (along_chain Read) o
  unfolding makings
  makings_are p y o is = ap (option_and_then (along_chain Read)) is

  blank_maps : (p : PlainPages file_cmp) (owner : Tty) (m : Slot) → (make p owner (blank (in_map m))).maps ≡ set_entry p.maps m (Names (next_page p owner) full_access)
  unfolding make
  blank_maps p owner m = refl

  pub read_keeps : (p q : PlainPages file_cmp) (s y : Slot) (owner : Tty) (n : PageName) → page_at p (in_map s) ≡ Some n → reference p (in_map y) Read owner ≡ granted q → page_at q (in_map s) ≡ Some n
  unfolding chain make_all
  read_keeps p q s y owner n there goes = by (chain (entry_at p.maps) y) refl
    where
      as_it_was : p ≡ q → page_at q (in_map s) ≡ Some n
      as_it_was same = ap (λ (r : PlainPages file_cmp). page_at r (in_map s)) (sym same) ∙ there

      filled : (c : Chain) → chain_within 4 (entry_at p.maps) y ≡ Some c → c.page ≡ None → make p owner (blank (in_map c.end)) ≡ q → page_at q (in_map s) ≡ Some n
      filled c is none same =
          let was : entry_at p.maps c.end ≡ Some Empty = chain_empty 4 (entry_at p.maps) y c is none in
          let maps = ap (λ (r : PlainPages file_cmp). r.maps) (sym same) ∙ blank_maps p owner c.end in
          page_is q s ∙ ap (λ ms. page_within 4 (entry_at ms) s) maps
          ∙ page_stays (entry_at p.maps) (entry_at (set_entry p.maps c.end (Names (next_page p owner) full_access))) c.end n was
          (entry_other p.maps c.end Empty (Names (next_page p owner) full_access) was) 4 s (sym (page_is p s) ∙ there)

      along : (c : Chain) → chain (entry_at p.maps) y ≡ Some c → (page : Option PageName) → c.page ≡ page → (b : Bool) → permits Read c ≡ b → page_at q (in_map s) ≡ Some n
      along c is page at false refused =
          let nothing : makings p (in_map y) Read ≡ None = makings_are p y (Some c) is ∙ ap (λ b. cond b (Some (blanks c ++ [])) None) refused in
          absurd (let two : denied Read ≡ granted q = sym (reference_denied p owner (in_map y) Read nothing) ∙ goes in cc two)
      along c is (Some x) at true granted_so =
          let none : makings p (in_map y) Read ≡ Some [] = makings_are p y (Some c) is ∙ ap (λ b. cond b (Some (blanks c ++ [])) None) granted_so ∙ ap (λ (o : Option PageName). Some (cond (is_some o) [] (blank (in_map c.end) ∷ []) ++ [])) at in
          as_it_was (let two : granted p ≡ granted q = sym (reference_stays p owner (in_map y) Read none) ∙ goes in cc two)
      along c is None at true granted_so =
          let one : makings p (in_map y) Read ≡ Some (blank (in_map c.end) ∷ []) = makings_are p y (Some c) is ∙ ap (λ b. cond b (Some (blanks c ++ [])) None) granted_so ∙ ap (λ (o : Option PageName). Some (cond (is_some o) [] (blank (in_map c.end) ∷ []) ++ [])) at in
          let made = make p owner (blank (in_map c.end)) in
          let room = roomy (HasRoom made owner) (make_all made owner []) q (sym (make_first p owner (blank (in_map c.end)) []) ∙ sym (reference_makes p owner (in_map y) Read (blank (in_map c.end) ∷ []) one) ∙ goes) in
          filled c is at (let two : granted made ≡ granted q = room.1 in cc two)

      by : (o : Option Chain) → chain (entry_at p.maps) y ≡ o → page_at q (in_map s) ≡ Some n
      by None is =
          let nothing : makings p (in_map y) Read ≡ None = makings_are p y None is in
          absurd (let two : denied Read ≡ granted q = sym (reference_denied p owner (in_map y) Read nothing) ∙ goes in cc two)
      by (Some c) is = along c is c.page refl (permits Read c) refl
