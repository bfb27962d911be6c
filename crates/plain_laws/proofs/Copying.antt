-- Copies: when a reference makes one, where it stands, and what it holds; and what a word that is put changes.
use Rattle.std.proofs.Common.{◌≡◌, ◌≢◌, Bool, true, false, cond, List, [], ◌∷◌, ◌++◌, Option, None, Some, refl, sym, ◌∙◌, ap, subst, Ordering}
use Rattle.std.specs.Prelude.{find, is_some, if◌then◌else◌}
use Rattle.std.specs.Option.{option_map_or, option_and_then}
use Rattle.std.specs.Cmp.{IsTotalOrder}
use Rattle.std.specs.FinMap as map
use Rattle.machine_names.specs.declared.names.Tty.{Tty}
use Rattle.machine_names.specs.declared.names.PageName.{PageName}
use Rattle.machine_names.specs.declared.names.Slot.{Slot}
use Rattle.machine_names.specs.declared.names.Kind.{Kind}
use Rattle.machine_names.specs.declared.names.Kind.TheVariants.{Read, Write, Execute}
use Rattle.plain_pages.specs.declared.map.MapEntry.TheVariants.{Empty}
use Rattle.plain_pages.specs.PlainPages.{PlainPages}
use Rattle.plain_pages.specs.Maps.{Link, Chain, chain, entry_at, full_access, permits, may}
use Rattle.plain_pages.specs.Room.{HasRoom}
use Rattle.plain_pages.specs.References.{in_map, Making, blank, copy, blanks, copy_in, copies, along_chain, page_at, private_access, makings, make, make_all, granted, denied, reference, next_page, words_of, words_at}
use Rattle.machine_names.specs.PageWords.{zero_words}
use Rattle.machine_names.specs.Bounds.{IsOwner}
use Rattle.plain_pages.specs.WholePages.{AreWhole}
use Rattle.plain_laws.specs.Laws.{ReadsOn, HasCopy}
use Rattle.plain_pages.proofs.Chains.{marked}
use Rattle.plain_pages.proofs.Makings.{CanMake}
use Rattle.plain_pages.proofs.Made.{IsMade, is_blank, is_copy, not_later}
use Rattle.plain_pages.proofs.Settles.{makings_settled, makings_can}
use Rattle.plain_pages.proofs.ReferencesMade.{make_first, roomy, reference_makes, reference_denied, reference_stays}
use Rattle.plain_laws.proofs.ReadsOn.{reads_on_itself, reads_on, empty_words, reference_reads}
use Rattle.plain_pages.proofs.Reading.{mark_there, page_of_chain}

module _ {K : Type 0} {file_cmp : K → K → Ordering} (p : PlainPages file_cmp) (s : Slot) (kind : Kind) (owner : Tty) where
  granted_makes : (q : PlainPages file_cmp) → reference p (in_map s) kind owner ≡ granted q → (ms : List (Making K)) × (makings p (in_map s) kind ≡ Some ms) × (make_all p owner ms ≡ granted q)
  granted_makes q g = by (makings p (in_map s) kind) refl
    where
      by : (x : Option (List (Making K))) → makings p (in_map s) kind ≡ x → (ms : List (Making K)) × (makings p (in_map s) kind ≡ Some ms) × (make_all p owner ms ≡ granted q)
      by None h = absurd (let z : denied kind ≡ granted q = sym (reference_denied p owner (in_map s) kind h) ∙ g in cc z)
      by (Some ms) h = (ms, h, sym (reference_makes p owner (in_map s) kind ms h) ∙ g)

  -- what a reference to a slot with a chain makes, where it is permitted
  makes_along : (c : Chain) → chain (entry_at p.maps) s ≡ Some c → makings p (in_map s) kind ≡ along_chain kind c
  unfolding makings
  makes_along c h = ap (option_and_then (along_chain kind)) h

  permitted_list : (b : Bool) (ms ns : List (Making K)) → (if b then Some ms else None) ≡ Some ns → (b ≡ true) × (ms ≡ ns)
  permitted_list true ms ns h = (refl, cc h)
  permitted_list false ms ns h = absurd (cc h)

  pub makes_list : (q : PlainPages file_cmp) (c : Chain) → chain (entry_at p.maps) s ≡ Some c → reference p (in_map s) kind owner ≡ granted q → (permits kind c ≡ true) × (makings p (in_map s) kind ≡ Some (blanks c ++ copies kind c)) × (make_all p owner (blanks c ++ copies kind c) ≡ granted q)
  makes_list q c h g =
      let m = granted_makes q g in
      let l = permitted_list (permits kind c) (blanks c ++ copies kind c) m.0 (sym (makes_along c h) ∙ m.1) in
      (l.0, m.1 ∙ ap Some (sym l.1), ap (make_all p owner) l.1 ∙ m.2)

  -- a reference that is denied to a chain, and none to a slot without one
  pub denied_along : (c : Chain) → chain (entry_at p.maps) s ≡ Some c → permits kind c ≡ false → reference p (in_map s) kind owner ≡ denied kind
  denied_along c h may = reference_denied p owner (in_map s) kind (makes_along c h ∙ ap (λ b. if b then Some (blanks c ++ copies kind c) else None) may)

  makes_without : chain (entry_at p.maps) s ≡ None → makings p (in_map s) kind ≡ None
  unfolding makings
  makes_without h = ap (option_and_then (along_chain kind)) h

  pub denied_without : chain (entry_at p.maps) s ≡ None → reference p (in_map s) kind owner ≡ denied kind
  denied_without h = reference_denied p owner (in_map s) kind (makes_without h)

  -- it is denied wherever it is not permitted
  pub denied_where_not : may (entry_at p.maps) s kind ≡ false → reference p (in_map s) kind owner ≡ denied kind
  denied_where_not h = by (chain (entry_at p.maps) s) refl h
    where
      by : (o : Option Chain) → chain (entry_at p.maps) s ≡ o → option_map_or (permits kind) o false ≡ false → reference p (in_map s) kind owner ≡ denied kind
      by None is g = denied_without is
      by (Some c) is g = denied_along c is g

  -- a copy is due: the reference writes, and an entry of the chain has the copy mark
  abbrev pub CopyDue : Chain → Link → Type 0
  CopyDue c l = (kind ≡ Write) × (find marked c.links ≡ Some l)

  -- without, a reference to a page that is there makes nothing
  pub makes_none : (q : PlainPages file_cmp) (c : Chain) → chain (entry_at p.maps) s ≡ Some c → is_some c.page ≡ true → ((l : Link) → CopyDue c l → ⊥) → reference p (in_map s) kind owner ≡ granted q → q ≡ p
  makes_none q c h there none g =
      let l = makes_list q c h g in
      let nothing : makings p (in_map s) kind ≡ Some [] = l.1 ∙ ap (λ b. Some ((if b then [] else blank (in_map c.end) ∷ []) ++ copies kind c)) there ∙ ap Some (no_copies kind refl) in
      let z : granted q ≡ granted p = sym g ∙ reference_stays p owner (in_map s) kind nothing in
      cc z
    where
      unmarked : (x : Option Link) → find marked c.links ≡ x → kind ≡ Write → copy_in {K = K} c x ≡ []
      unmarked None is writes = refl
      unmarked (Some l) is writes = absurd (none l (writes, is))

      no_copies : (k : Kind) → kind ≡ k → copies {K = K} k c ≡ []
      no_copies Read is = refl
      no_copies Execute is = refl
      no_copies Write is = unmarked (find marked c.links) refl is

module _ {K : Type 0} {file_cmp : K → K → Ordering} (o : IsTotalOrder file_cmp) (owner : Tty) where
  -- once it has gone through, a reference makes nothing more
  again : (s : Slot) (kind : Kind) (ms : List (Making K)) (p q : PlainPages file_cmp) → makings p (in_map s) kind ≡ Some ms → make_all p owner ms ≡ granted q → makings q (in_map s) kind ≡ Some []
  unfolding make_all
  again s kind [] p q h g = let same : p ≡ q = cc g in subst (λ (r : PlainPages file_cmp). makings r (in_map s) kind ≡ Some []) same h
  again s kind (m ∷ ms) p q h g = let room = roomy (HasRoom (make p owner m) owner) (make_all (make p owner m) owner ms) q g in again s kind ms (make p owner m) q (makings_settled o p owner (in_map s) kind m ms h) room.1

  -- then the page of the slot is there
  pub page_made : (p q : PlainPages file_cmp) (s : Slot) (kind : Kind) → reference p (in_map s) kind owner ≡ granted q → (n : PageName) × (page_at q (in_map s) ≡ Some n)
  unfolding makings
  page_made p q s kind g = let m = granted_makes p s kind owner q g in by (chain (entry_at q.maps) s) refl (again s kind m.0 p q m.1 m.2)
    where
      along : (c : Chain) (n : Option PageName) → c.page ≡ n → (b : Bool) → (if b then Some (cond (is_some n) [] (blank (in_map c.end) ∷ []) ++ copies {K = K} kind c) else None) ≡ Some [] → (x : PageName) × (n ≡ Some x)
      along c (Some n) is b h = (n, refl)
      along c None is true h = absurd (cc h)
      along c None is false h = absurd (cc h)

      by : (o : Option Chain) → chain (entry_at q.maps) s ≡ o → option_and_then (along_chain {K = K} kind) o ≡ Some [] → (n : PageName) × (page_at q (in_map s) ≡ Some n)
      by None is h = absurd (cc h)
      by (Some c) is h = let n = along c c.page refl (permits kind c) h in (n.0, page_of_chain q s c is ∙ n.1)

module _ {K : Type 0} {file_cmp : K → K → Ordering} (o : IsTotalOrder file_cmp) (owner : Tty) (own : IsOwner owner) where
  pub made_once : (p q : PlainPages file_cmp) (s : Slot) (kind : Kind) → reference p (in_map s) kind owner ≡ granted q → reference q (in_map s) kind owner ≡ granted q
  made_once p q s kind g = let m = granted_makes p s kind owner q g in reference_stays q owner (in_map s) kind (again o owner s kind m.0 p q m.1 m.2)

  -- and the slot reads what it read before
  pub words_stay : (p q : PlainPages file_cmp) → AreWhole p → (s : Slot) (kind : Kind) → reference p (in_map s) kind owner ≡ granted q → words_at q (in_map s) ≡ words_at p (in_map s)
  words_stay p q w s kind g = by (chain (entry_at p.maps) s) refl
    where
      by : (x : Option Chain) → chain (entry_at p.maps) s ≡ x → words_at q (in_map s) ≡ words_at p (in_map s)
      by None is = absurd (let no : denied kind ≡ granted q = sym (denied_without p s kind owner is) ∙ g in cc no)
      by (Some c) is = let r = reference_reads o owner own p q w s kind g in let d = r.words s c is in d.2

  -- the copy that is the last making, on pages that read as the first ones do
  last_copy : (p z : PlainPages file_cmp) → AreWhole p → ReadsOn owner p z → (s : Slot) (c : Chain) (l : Link) → chain (entry_at p.maps) s ≡ Some c → find marked c.links ≡ Some l → ((t : Slot) → t ≢ c.end → entry_at z.maps t ≡ entry_at p.maps t)
      → CanMake z (copy l.slot (private_access c)) → HasCopy p (make z owner (copy l.slot (private_access c))) s c l
  last_copy p z w r s c l h f stays can = record { page = next_page z owner; fresh = fresh; there = made.here; words = made.held ∙ read; others = λ t off_slot off_end. made.others t off_slot ∙ stays t off_end }
    where
      made : IsMade z (make z owner (copy l.slot (private_access c))) owner l.slot (private_access c) (words_at z (in_map l.slot)) can.0
      made = is_copy o z r.whole owner own l.slot (private_access c) can.0 can.1

      fresh : map.contains_key p.objects (next_page z owner) ≡ false
      fresh = by (map.contains_key p.objects (next_page z owner)) refl
        where
          by : (b : Bool) → map.contains_key p.objects (next_page z owner) ≡ b → map.contains_key p.objects (next_page z owner) ≡ false
          by true there = absurd (not_later o p w owner own z r.later (next_page z owner) there refl)
          by false gone = gone

      read : words_at z (in_map l.slot) ≡ words_at p (in_map s)
      read = let d = mark_there p s c l h f in (r.words l.slot d.0 d.1).2 ∙ ap (λ (n : Option PageName). option_map_or (words_of p) n zero_words) d.2

  one_making : (z q : PlainPages file_cmp) (m : Making K) → make_all z owner (m ∷ []) ≡ granted q → make z owner m ≡ q
  unfolding make_all
  one_making z q m h = let k = roomy (HasRoom (make z owner m) owner) (granted (make z owner m)) q h in cc k.1

  -- a write that is granted along a chain with the copy mark makes its copy there
  pub copy_made : (p q : PlainPages file_cmp) → AreWhole p → (s : Slot) (c : Chain) (l : Link) → chain (entry_at p.maps) s ≡ Some c → find marked c.links ≡ Some l → reference p (in_map s) Write owner ≡ granted q → HasCopy p q s c l
  copy_made p q w s c l h f g = by c.page refl
    where
      the_copy : Making K
      the_copy = copy l.slot (private_access c)

      list : (permits Write c ≡ true) × (makings p (in_map s) Write ≡ Some (blanks c ++ copies Write c)) × (make_all p owner (blanks c ++ copies Write c) ≡ granted q)
      list = makes_list p s Write owner q c h g

      listed : (n : Option PageName) → c.page ≡ n → blanks c ++ copies {K = K} Write c ≡ (if is_some n then [] else blank (in_map c.end) ∷ []) ++ the_copy ∷ []
      listed n is = ap (λ (x : Option PageName). (if is_some x then [] else blank (in_map c.end) ∷ []) ++ copies Write c) is ∙ ap (λ (x : Option Link). (if is_some n then [] else blank (in_map c.end) ∷ []) ++ copy_in c x) f

      by : (n : Option PageName) → c.page ≡ n → HasCopy p q s c l
      by (Some x) is =
          let ms : makings p (in_map s) Write ≡ Some (the_copy ∷ []) = list.1 ∙ ap Some (listed (Some x) is) in
          subst (λ (y : PlainPages file_cmp). HasCopy p y s c l) (one_making p q the_copy (ap (make_all p owner) (sym (listed (Some x) is)) ∙ list.2))
          (last_copy p p w (reads_on_itself o owner own p w) s c l h f (λ t off. refl) (makings_can o p owner (in_map s) Write the_copy [] ms))
      by None is = after
        where
          first : Making K
          first = blank (in_map c.end)

          ms : makings p (in_map s) Write ≡ Some (first ∷ the_copy ∷ [])
          ms = list.1 ∙ ap Some (listed None is)

          z : PlainPages file_cmp
          z = make p owner first

          made : IsMade p z owner c.end full_access zero_words Empty
          made = is_blank o p w owner own c.end (makings_can o p owner (in_map s) Write first (the_copy ∷ []) ms)

          r : ReadsOn owner p z
          r = reads_on o owner own p w z c.end full_access zero_words Empty made (empty_words o owner own p c.end (makings_can o p owner (in_map s) Write first (the_copy ∷ []) ms)) p w (reads_on_itself o owner own p w)

          rest : makings z (in_map s) Write ≡ Some (the_copy ∷ [])
          rest = makings_settled o p owner (in_map s) Write first (the_copy ∷ []) ms

          went : make_all z owner (the_copy ∷ []) ≡ granted q
          went = (roomy (HasRoom z owner) (make_all z owner (the_copy ∷ [])) q (sym (make_first p owner first (the_copy ∷ [])) ∙ ap (make_all p owner) (sym (listed None is)) ∙ list.2)).1

          after : HasCopy p q s c l
          after = subst (λ (y : PlainPages file_cmp). HasCopy p y s c l) (one_making z q the_copy went) (last_copy p z w r s c l h f made.others (makings_can o z owner (in_map s) Write the_copy [] rest))
