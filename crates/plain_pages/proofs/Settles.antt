-- What is left to make once the first page of a reference is made, and what a touch says of the reference.
use Rattle.std.proofs.Common.{◌≡◌, ◌≢◌, ℕ, Bool, true, false, cond, List, [], ◌∷◌, ◌++◌, Option, None, Some, ◌⊎◌, inl, inr, refl, sym, ◌∙◌, ap, subst, Ordering}
use Rattle.std.specs.Prelude.{◌==◌, find, is_some, if◌then◌else◌}
use Rattle.std.specs.Option.{option_and_then}
use Rattle.std.specs.Ordering.{is_eq}
use Rattle.std.specs.Cmp.{IsTotalOrder}
use Rattle.std.proofs.lemmas.Cmp.{tied_itself}
use Rattle.std.specs.FinMap as map
use Rattle.machine_names.specs.declared.names.Tty.{Tty}
use Rattle.machine_names.specs.declared.names.PageName.{PageName}
use Rattle.machine_names.specs.declared.names.Slot.{Slot}
use Rattle.machine_names.specs.declared.names.Access.{Access}
use Rattle.machine_names.specs.declared.names.Kind.{Kind}
use Rattle.machine_names.specs.declared.names.Kind.TheVariants.{Read, Write, Execute}
use Rattle.plain_pages.specs.declared.map.MapEntry.{MapEntry}
use Rattle.plain_pages.specs.declared.map.MapEntry.TheVariants.{Empty, Names, Follows}
use Rattle.plain_pages.specs.PlainPages.{PlainPages, Maps}
use Rattle.machine_names.specs.Orders.{FilePage}
use Rattle.plain_pages.specs.Maps.{Link, Chain, entry_at, set_entry, full_access, chain, chain_within, permits, permit_write, access_of}
use Rattle.plain_pages.specs.Room.{uses}
use Rattle.plain_pages.specs.References.{Spot, in_map, in_file, Making, blank, copy, blanks, copy_in, copies, along_chain, in_its_file, private_access, makings, make, next_page, new_page, drop_copied, words_at, page_at}
use Rattle.plain_pages.proofs.Chains.{marked, chain_empty, IsMarked, chain_marked, chain_filled, IsPrivate, chain_copied, entry_set, entry_other, slot_tells}
use Rattle.plain_pages.proofs.Makings.{CanMake}
use Rattle.machine_names.proofs.OrderLemmas.{file_page_total}

module _ {K : Type 0} where
  -- a first copy, which only a write makes
  first_copy : (kind : Kind) (c : Chain) (m : Making K) (rest : List (Making K)) → copies kind c ≡ m ∷ rest → (kind ≡ Write) × ((l : Link) × (find marked c.links ≡ Some l) × (copy l.slot (private_access c) ≡ m) × ([] ≡ rest))
  first_copy Read c m rest h = absurd (cc h)
  first_copy Execute c m rest h = absurd (cc h)
  first_copy Write c m rest h = (refl, by (find marked c.links) refl h)
    where
      by : (l : Option Link) → find marked c.links ≡ l → copy_in c l ≡ m ∷ rest → (k : Link) × (find marked c.links ≡ Some k) × (copy k.slot (private_access c) ≡ m) × ([] ≡ rest)
      by None is g = absurd (cc g)
      by (Some k) is g = (k, is, cc g, cc g)

  -- the first making of a chain: a zero page at its end, or the copy
  pub data FirstOf (kind : Kind) (c : Chain) (m : Making K) (rest : List (Making K)) : Type 0 where
    is_blank : c.page ≡ None → blank (in_map c.end) ≡ m → copies kind c ≡ rest → FirstOf kind c m rest
    is_copy : (l : Link) → kind ≡ Write → is_some c.page ≡ true → find marked c.links ≡ Some l → copy l.slot (private_access c) ≡ m → [] ≡ rest → FirstOf kind c m rest

  pub first_of_chain : (kind : Kind) (c : Chain) (m : Making K) (rest : List (Making K)) → blanks c ++ copies kind c ≡ m ∷ rest → FirstOf kind c m rest
  first_of_chain kind c m rest h = by c.page refl
    where
      by : (n : Option PageName) → c.page ≡ n → FirstOf kind c m rest
      by None is = let g : blank (in_map c.end) ∷ copies kind c ≡ m ∷ rest = ap (λ (n : Option PageName). (if is_some n then [] else blank (in_map c.end) ∷ []) ++ copies kind c) (sym is) ∙ h in is_blank is (cc g) (cc g)
      by (Some n) is =
          let g : copies kind c ≡ m ∷ rest = ap (λ (n : Option PageName). (if is_some n then [] else blank (in_map c.end) ∷ []) ++ copies kind c) (sym is) ∙ h in
          let k = first_copy kind c m rest g in
          is_copy k.1.0 k.0 (ap is_some is) k.1.1 k.1.2 k.1.3

module _ {K : Type 0} {file_cmp : K → K → Ordering} (o : IsTotalOrder file_cmp) (p : PlainPages file_cmp) (owner : Tty) where
  pub copy_maps : (s : Slot) (a : Access) → (make p owner (copy s a)).maps ≡ set_entry p.maps s (Names (next_page p owner) a)
  unfolding make
  copy_maps s a = by (page_at p (in_map s))
    where
      q : PlainPages file_cmp
      q = new_page p owner (in_map s) a (words_at p (in_map s))

      dropped : (n : PageName) (b : Bool) → (cond b (record q { objects = map.remove q.objects n }) q).maps ≡ q.maps
      dropped n true = refl
      dropped n false = refl

      by : (n : Option PageName) → (drop_copied q n).maps ≡ set_entry p.maps s (Names (next_page p owner) a)
      by None = refl
      by (Some n) = dropped n (uses q n == 0)

  pub copy_files : (s : Slot) (a : Access) → (make p owner (copy s a)).files ≡ p.files
  unfolding make
  copy_files s a = by (page_at p (in_map s))
    where
      q : PlainPages file_cmp
      q = new_page p owner (in_map s) a (words_at p (in_map s))

      dropped : (n : PageName) (b : Bool) → (cond b (record q { objects = map.remove q.objects n }) q).files ≡ q.files
      dropped n true = refl
      dropped n false = refl

      by : (n : Option PageName) → (drop_copied q n).files ≡ p.files
      by None = refl
      by (Some n) = dropped n (uses q n == 0)

  -- a chain that is filled at its end
  filled : (s : Slot) (c : Chain) → chain (entry_at p.maps) s ≡ Some c → c.page ≡ None → chain (entry_at (make p owner (blank (in_map c.end))).maps) s ≡ Some (record c { page = Some (next_page p owner) })
  unfolding chain make
  filled s c h none = chain_filled (entry_at p.maps) (entry_at (set_entry p.maps c.end (Names (next_page p owner) full_access))) c.end (next_page p owner) goes (entry_set p.maps c.end Empty (Names (next_page p owner) full_access) there) 4 s c h none refl
    where
      there : entry_at p.maps c.end ≡ Some Empty
      there = chain_empty 4 (entry_at p.maps) s c h none

      goes : (t : Slot) (serial at : ℕ) (a : Access) → entry_at p.maps t ≡ Some (Follows serial at a) → entry_at (set_entry p.maps c.end (Names (next_page p owner) full_access)) t ≡ Some (Follows serial at a)
      goes t serial at a is = entry_other p.maps c.end Empty (Names (next_page p owner) full_access) there t (λ e. (let two : Some (Follows serial at a) ≡ Some Empty = sym is ∙ ap (entry_at p.maps) e ∙ there in cc two)) ∙ is

  -- a chain whose first slot with the copy mark has a private copy
  copied : (s : Slot) (c : Chain) (l : Link) → chain (entry_at p.maps) s ≡ Some c → find marked c.links ≡ Some l → permit_write c.links ≡ true
      → (d : Chain) × (chain (entry_at (make p owner (copy l.slot (private_access c))).maps) s ≡ Some d) × IsPrivate (next_page p owner) d
  unfolding chain
  copied s c l h f may =
      let r = chain_copied (entry_at p.maps) (entry_at (set_entry p.maps l.slot new)) l.slot (next_page p owner) (private_access c).x others (entry_set p.maps l.slot m.entry new m.there) 4 s c l h f refl may in
      (r.0, ap (λ (maps : Maps). chain_within 4 (entry_at maps) s) (copy_maps l.slot (private_access c)) ∙ r.1, r.2)
    where
      m : IsMarked (entry_at p.maps) l
      m = chain_marked 4 (entry_at p.maps) s c l h f

      new : MapEntry
      new = Names (next_page p owner) (private_access c)

      others : (t : Slot) (e : MapEntry) → entry_at p.maps t ≡ Some e → (access_of e).c ≡ false → entry_at (set_entry p.maps l.slot new) t ≡ Some e
      others t e is unmarked = by (slot_tells t l.slot)
        where
          by : (t ≡ l.slot) ⊎ (t ≢ l.slot) → entry_at (set_entry p.maps l.slot new) t ≡ Some e
          by (inl same) =
              let two : Some e ≡ Some m.entry = sym is ∙ ap (entry_at p.maps) same ∙ m.there in
              let one : e ≡ m.entry = cc two in
              absurd (let both : false ≡ true = sym unmarked ∙ ap (λ x. (access_of x).c) one ∙ m.mark in cc both)
          by (inr ne) = entry_other p.maps l.slot m.entry new m.there t ne ∙ is

  chain_is : (s : Slot) (c : Chain) → chain (entry_at p.maps) s ≡ Some c → chain_within 4 (entry_at p.maps) s ≡ Some c
  unfolding chain
  chain_is s c h = h

  permitted : (b : Bool) (ms : List (Making K)) (m : Making K) (rest : List (Making K)) → (if b then Some ms else None) ≡ Some (m ∷ rest) → (b ≡ true) × (ms ≡ m ∷ rest)
  permitted true ms m rest h = (refl, cc h)
  permitted false ms m rest h = absurd (cc h)

  permits_links : (kind : Kind) (c : Chain) (n : Option PageName) → permits kind (record c { page = n }) ≡ permits kind c
  permits_links Read c n = refl
  permits_links Write c n = refl
  permits_links Execute c n = refl

  copies_links : (kind : Kind) (c : Chain) (n : Option PageName) → copies {K = K} kind (record c { page = n }) ≡ copies kind c
  copies_links Read c n = refl
  copies_links Write c n = refl
  copies_links Execute c n = refl

  file_named : (f : FilePage K) → map.get (make p owner (blank (in_file f))).files f ≡ Some (next_page p owner)
  unfolding make
  file_named f = map.get-insert (file_page_total o) p.files f (next_page p owner) f ∙ ap (λ t. cond (is_eq t) (Some (next_page p owner)) (map.get p.files f)) (tied_itself (file_page_total o) f)

  -- once the first page is made, the others are left
  pub makings_settled : (at : Spot K) (kind : Kind) (m : Making K) (rest : List (Making K)) → makings p at kind ≡ Some (m ∷ rest) → makings (make p owner m) at kind ≡ Some rest
  unfolding makings
  makings_settled (in_file f) kind m rest h = by kind (map.get p.files f) h
    where
      by : (kind : Kind) (n : Option PageName) → in_its_file kind f n ≡ Some (m ∷ rest) → in_its_file kind f (map.get (make p owner m).files f) ≡ Some rest
      by Read None h = absurd (cc h)
      by Execute None h = absurd (cc h)
      by Write None h =
          let first : blank (in_file f) ≡ m = cc h in
          let others : [] ≡ rest = cc h in
          ap (λ (k : Making K). in_its_file Write f (map.get (make p owner k).files f)) (sym first) ∙ ap (in_its_file Write f) (file_named f) ∙ ap Some others
      by Read (Some n) h = absurd (cc h)
      by Write (Some n) h = absurd (cc h)
      by Execute (Some n) h = absurd (cc h)
  makings_settled (in_map s) kind m rest h = by (chain (entry_at p.maps) s) refl h
    where
      After : Type 0
      After = option_and_then (along_chain kind) (chain (entry_at (make p owner m).maps) s) ≡ Some rest

      on_chain : (c : Chain) → chain (entry_at p.maps) s ≡ Some c → permits kind c ≡ true → FirstOf kind c m rest → After
      on_chain c is may (is_blank none first others) =
          let d : Chain = record c { page = Some (next_page p owner) } in
          let now : chain (entry_at (make p owner m).maps) s ≡ Some d = ap (λ (k : Making K). chain (entry_at (make p owner k).maps) s) (sym first) ∙ filled s c is none in
          ap (option_and_then (along_chain kind)) now ∙ ap (λ b. if b then Some (copies kind d) else None) (permits_links kind c (Some (next_page p owner)) ∙ may) ∙ ap Some (copies_links kind c (Some (next_page p owner)) ∙ others)
      on_chain c is may (is_copy l writes some f first others) =
          let r = copied s c l is f (ap (λ k. permits k c) (sym writes) ∙ may) in
          let d = r.0 in
          let now : chain (entry_at (make p owner m).maps) s ≡ Some d = ap (λ (k : Making K). chain (entry_at (make p owner k).maps) s) (sym first) ∙ r.1 in
          ap (option_and_then (along_chain kind)) now ∙ ap (λ k. along_chain k d) writes
          ∙ ap (λ b. if b then Some (blanks d ++ copies Write d) else None) r.2.writes
          ∙ ap (λ (n : Option PageName). Some ((if is_some n then [] else blank (in_map d.end) ∷ []) ++ copies Write d)) r.2.named
          ∙ ap (λ (k : Option Link). Some (copy_in d k)) r.2.unmarked ∙ ap Some others

      by : (oc : Option Chain) → chain (entry_at p.maps) s ≡ oc → option_and_then (along_chain kind) oc ≡ Some (m ∷ rest) → After
      by None is g = absurd (cc g)
      by (Some c) is g = let k = permitted (permits kind c) (blanks c ++ copies kind c) m rest g in on_chain c is k.0 (first_of_chain kind c m rest k.1)

  -- the first page that a reference to a map's page makes is that of its chain
  pub first_making : (s : Slot) (kind : Kind) (m : Making K) (rest : List (Making K)) → makings p (in_map s) kind ≡ Some (m ∷ rest) → (c : Chain) × FirstOf kind c m rest
  unfolding makings
  first_making s kind m rest h = by (chain (entry_at p.maps) s) h
    where
      by : (oc : Option Chain) → option_and_then (along_chain kind) oc ≡ Some (m ∷ rest) → (c : Chain) × FirstOf kind c m rest
      by None g = absurd (cc g)
      by (Some c) g = let k = permitted (permits kind c) (blanks c ++ copies kind c) m rest g in (c, first_of_chain kind c m rest k.1)

  -- the first page of a reference can be made
  pub makings_can : (at : Spot K) (kind : Kind) (m : Making K) (rest : List (Making K)) → makings p at kind ≡ Some (m ∷ rest) → CanMake p m
  unfolding makings
  makings_can (in_file f) kind m rest h = by kind (map.get p.files f) refl h
    where
      by : (kind : Kind) (n : Option PageName) → map.get p.files f ≡ n → in_its_file kind f n ≡ Some (m ∷ rest) → CanMake p m
      by Read None is h = absurd (cc h)
      by Execute None is h = absurd (cc h)
      by Write None is h = let first : blank (in_file f) ≡ m = cc h in subst (CanMake p) first is
      by Read (Some n) is h = absurd (cc h)
      by Write (Some n) is h = absurd (cc h)
      by Execute (Some n) is h = absurd (cc h)
  makings_can (in_map s) kind m rest h = by (chain (entry_at p.maps) s) refl h
    where
      on_chain : (c : Chain) → chain_within 4 (entry_at p.maps) s ≡ Some c → FirstOf kind c m rest → CanMake p m
      on_chain c is (is_blank none first others) = subst (CanMake p) first (chain_empty 4 (entry_at p.maps) s c is none)
      on_chain c is (is_copy l writes some f first others) = let k = chain_marked 4 (entry_at p.maps) s c l is f in subst (CanMake p) first (k.entry, k.there)

      by : (oc : Option Chain) → chain (entry_at p.maps) s ≡ oc → option_and_then (along_chain kind) oc ≡ Some (m ∷ rest) → CanMake p m
      by None is g = absurd (cc g)
      by (Some c) is g = let k = permitted (permits kind c) (blanks c ++ copies kind c) m rest g in on_chain c (chain_is s c is) (first_of_chain kind c m rest k.1)
