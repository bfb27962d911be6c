-- What follows from what a walk found: what a reference makes, its page, and whether it is another's.
use Rattle.std.proofs.Common.{◌≡◌, ◌≢◌, ℕ, ◌+◌, Bool, true, false, cond, List, [], ◌∷◌, ◌++◌, length, Option, None, Some, ◌⊎◌, inl, inr, refl, sym, ◌∙◌, ap, subst, arith}
use Rattle.std.specs.Prelude.{◌==◌, find, is_some, not, slice_index}
use Rattle.std.specs.Option.{option_map, option_map_or, option_and_then, unwrap_or}
use Rattle.std.specs.Cmp.{nat_cmp_total}
use Rattle.std.specs.FinMap as map
use Rattle.std.proofs.lemmas.Bool.Decides.{nat_tests}
use Rattle.machine_names.specs.declared.names.Tty.{Tty}
use Rattle.page_homes.specs.declared.homes.Home.{Home}
use Rattle.machine_names.specs.declared.names.Slot.{Slot}
use Rattle.machine_names.specs.declared.names.PageName.{PageName}
use Rattle.machine_names.specs.declared.names.Access.{Access}
use Rattle.machine_names.specs.declared.names.Kind.{Kind}
use Rattle.machine_names.specs.declared.names.Kind.TheVariants.{Read, Write, Execute}
use Rattle.plain_pages.specs.declared.map.MapEntry.{MapEntry}
use Rattle.plain_pages.specs.declared.map.MapEntry.TheVariants.{Names, Follows}
use Rattle.page_contracts.specs.declared.answers.Need.TheVariants as need
use Rattle.page_contracts.specs.declared.answers.Touch.TheVariants.{Ready}
use Rattle.page_contracts.specs.declared.store.Room.{Room}
use Rattle.page_contracts.specs.declared.answers.Peeked.{Peeked}
use Rattle.page_contracts.specs.declared.answers.Peeked.TheVariants as peeked
use Rattle.plain_pages.specs.PlainPages.{NumberedPages}
use Rattle.plain_pages.specs.Maps.{Link, Chain, entry_at, full_access, chain, chain_within, permits, access_of}
use Rattle.plain_pages.specs.Room.{same_page, page_in, uses, live}
use Rattle.plain_pages.specs.References.{granted, in_map, copy, copy_in, copies, private_access, page_at, words_of}
use Rattle.page_contracts.specs.Pages.{Scene, touch_of, room_for, is_sole, map_away, page_away, peek_of, away_or, counted}
use Rattle.machine_names.specs.Bounds.{IsOwner}
use Rattle.plain_pages.proofs.Counts.{Same, page_tells, same_itself}
use Rattle.plain_pages.proofs.ChainEquations.{chain_is_four}
use Rattle.plain_pages.proofs.Chains.{marked, IsMarked, chain_marked}
use Rattle.plain_pages.proofs.Ends.{AtEnd, ends_empty, ends_named, at_end, AtMark, mark_follows, mark_names, at_mark}
use Rattle.page_contracts.proofs.Ways.{way_of_named, end_in_frame}
use Rattle.plain_pages.proofs.Makings.{entry_there, named_end}
use Rattle.plain_pages.proofs.Made.{two_names}
use Rattle.page_gather.specs.declared.change.Change.{Change}
use Rattle.page_gather.specs.declared.reference.PageReference.{PageReference}
use Rattle.page_gather.specs.declared.walk.Walked.{Walked}
use Rattle.page_gather.specs.declared.chains.Way.{Way}
use Rattle.page_gather.specs.declared.chains.Way.TheVariants as way
use Rattle.page_gather.specs.declared.makings.Makings.{Makings}
use Rattle.page_gather.specs.declared.makings.Makings.TheVariants.{Nothing}
use Rattle.page_gather.specs.declared.reference.Added.{Added}
use Rattle.page_gather.specs.declared.reference.Added.TheVariants.{Went, Need, Denied}
use Rattle.page_gather.specs.Walks.{views_of, walked, walk_within, away_within, permits_walked, copied_walked}
use Rattle.page_gather.specs.Changes.{same_slot, change_of, taken_names, source_of, NamesNew, IsChanged, AreChanged}
use Rattle.page_gather.specs.Stepped.{way_found}
use Rattle.page_gather.specs.Gathering.{referred_to, after_all, page_or, answered, IsNear, AreSound, most_framed, Adds, AreGathered, Gathering, Gathers, GoesOn, HasWalked, Judges, changes_with, homes_of, concluded, are_same}
use Rattle.page_gather.proofs.Changing.{SlotsTell, slots_tell, same_slot_itself}
use Rattle.page_gather.proofs.Answering.{answered_away, denied_chain, denied_access, step_answer, step_gathered, ready_near, ready_goes, room_still}
use Rattle.page_gather.proofs.Walking.{walk_is_chain, away_is_way}
use Rattle.page_gather.proofs.Near.{way_is, page_is, new_in_frame}
use Rattle.page_gather.proofs.Stepping.{goes_ready, goes_zero, goes_copy, goes_both}

-- a private copy, by its source and by the page that its entry names
pub private_with : (m : Slot) (w : Walked) (source source' : Option Slot) (old old' : Option PageName) → source ≡ source' → old ≡ old'
    → ◌≡◌ {A = Change} (record { slot = m; access = record { r = true; w = true; x = w.executes; c = false }; source = source; old = old }) (record { slot = m; access = record { r = true; w = true; x = w.executes; c = false }; source = source'; old = old' })
private_with m w source source' old old' h g = λ i. record { slot = m; access = record { r = true; w = true; x = w.executes; c = false }; source = h i; old = g i }

-- the parts of a pair that is told twice
pair_parts : (n m : PageName) (u v : ℕ) (o : Option (PageName × ℕ)) → o ≡ Some (n, u) → o ≡ Some (m, v) → (n ≡ m) × (u ≡ v)
pair_parts n m u v o h g = (ap (λ (x : Option (PageName × ℕ)). (unwrap_or x (n, u)).0) (sym h ∙ g), ap (λ (x : Option (PageName × ℕ)). (unwrap_or x (n, u)).1) (sym h ∙ g))

module _ (p q : NumberedPages) (scene : Scene) (owner : Tty) (cs : List Change) (homes : ℕ) (s : Slot) (w : Walked) (k : HasWalked p q scene owner cs homes s w) where
  pub four : chain_within 4 (entry_at q.maps) s ≡ Some k.links
  four = sym (chain_is_four (entry_at q.maps) s) ∙ k.is

  pub end_is : k.links.end ≡ w.end
  end_is = ap (λ (x : Walked). x.end) k.found

  pub page_of_walk : page_at q (in_map s) ≡ k.links.page
  page_of_walk = page_is q s ∙ ap (option_and_then (λ (c : Chain). c.page)) four

  pub page_none : w.empty ≡ true → k.links.page ≡ None
  page_none empty = by k.links.page (ap (λ (x : Walked). x.empty) k.found ∙ empty)
    where
      by : (n : Option PageName) → not (is_some n) ≡ true → n ≡ None
      by None h = refl
      by (Some x) h = absurd (cc h)

  pub page_some : w.empty ≡ false → (x : PageName) × (k.links.page ≡ Some x)
  page_some full = by k.links.page (ap (λ (x : Walked). x.empty) k.found ∙ full)
    where
      by : (n : Option PageName) → not (is_some n) ≡ false → (x : PageName) × (n ≡ Some x)
      by None h = absurd (cc h)
      by (Some x) h = (x, refl)

  -- what stands at the end that a walk found
  end_names : w.empty ≡ false → (x : PageName) × (a : Access) × (entry_at q.maps w.end ≡ Some (Names x a)) × (k.links.page ≡ Some x)
  end_names full = by (at_end 4 (entry_at q.maps) s k.links four)
    where
      by : AtEnd (entry_at q.maps) k.links → (x : PageName) × (a : Access) × (entry_at q.maps w.end ≡ Some (Names x a)) × (k.links.page ≡ Some x)
      by (ends_empty e none) = absurd (let z : Some (page_some full).0 ≡ None = sym (page_some full).1 ∙ none in cc z)
      by (ends_named x a e page) = (x, a, ap (entry_at q.maps) (sym end_is) ∙ e, page)

  -- an end that was not changed stands in the pages as they are, and is the whole way to itself
  pub record EndStands : Type 0 where
    pub name : PageName
    pub access : Access
    pub before : entry_at p.maps w.end ≡ Some (Names name access)
    pub after : entry_at q.maps w.end ≡ Some (Names name access)
    pub near : map_away p scene (in_map w.end) ≡ None
    pub page : page_at p (in_map w.end) ≡ Some name
    pub named : page_at q (in_map s) ≡ Some name

  pub end_stands : w.empty ≡ false → change_of cs w.end ≡ None → EndStands
  end_stands full same = record {
    name = e.0;
    access = e.1;
    before = before;
    after = e.2;
    near = way_is p scene w.end ∙ way_of_named scene 4 (entry_at p.maps) w.end e.0 e.1 in_frame before;
    page = named_end nat_cmp_total p k.sound.whole w.end e.0 e.1 before;
    named = page_of_walk ∙ e.3;
  }
    where
      e : (x : PageName) × (a : Access) × (entry_at q.maps w.end ≡ Some (Names x a)) × (k.links.page ≡ Some x)
      e = end_names full

      unchanged : (o : Option Change) → o ≡ None → IsChanged p q w.end o → entry_at q.maps w.end ≡ entry_at p.maps w.end
      unchanged None h is = is
      unchanged (Some c) h is = absurd (cc h)

      before : entry_at p.maps w.end ≡ Some (Names e.0 e.1)
      before = sym (unchanged (change_of cs w.end) same (k.changed.slots w.end)) ∙ e.2

      in_frame : scene.map_away w.end.fork ≡ None
      in_frame = ap (λ (t : Slot). scene.map_away t.fork) (sym end_is) ∙ end_in_frame scene 4 (entry_at q.maps) s k.links (sym (way_is q scene s) ∙ k.near) four

  -- ---- the page of the chain

  pub away_empty : w.empty ≡ true → None ≡ page_away q scene (in_map s)
  away_empty empty = sym (ap (option_and_then scene.page_away) (page_of_walk ∙ page_none empty))

  -- a changed end names a new page
  pub new_end : w.empty ≡ false → (c : Change) → change_of cs w.end ≡ Some c → (n : NamesNew p q w.end c) × (page_at q (in_map s) ≡ Some n.name)
  new_end full c is = by (change_of cs w.end) is (k.changed.slots w.end)
    where
      by : (o : Option Change) → o ≡ Some c → IsChanged p q w.end o → (n : NamesNew p q w.end c) × (page_at q (in_map s) ≡ Some n.name)
      by None h n = absurd (cc h)
      by (Some d) h n =
          let one : d ≡ c = cc h in
          let e = end_names full in
          let two : Some (Names e.0 e.1) ≡ Some (Names n.name d.access) = sym e.2 ∙ n.there in
          let same : e.0 ≡ n.name = cc two in
          subst (λ (x : Change). (n : NamesNew p q w.end x) × (page_at q (in_map s) ≡ Some n.name)) one (n, page_of_walk ∙ e.3 ∙ ap (λ (x : PageName). Some x) same)

  pub away_new : w.empty ≡ false → (c : Change) → Some c ≡ change_of cs w.end → None ≡ page_away q scene (in_map s)
  away_new full c is = let n = new_end full c (sym is) in sym (ap (option_and_then scene.page_away) n.1 ∙ new_in_frame p scene k.sound n.0.name n.0.fresh)

  -- a look at the end tells of the page
  peek_tells : (e : EndStands) (offset : ℕ) → peek_of p scene (in_map w.end) offset ≡ away_or (page_away q scene (in_map s)) (peeked.Is (slice_index (words_of p e.name) offset))
  unfolding peek_of
  peek_tells e offset =
      ap (λ (o : Option ℕ). away_or o (away_or (page_away p scene (in_map w.end)) (Seen (page_at p (in_map w.end))))) e.near
      ∙ ap (λ (n : Option PageName). away_or (option_and_then scene.page_away n) (Seen n)) e.page
      ∙ ap (λ (n : Option PageName). away_or (option_and_then scene.page_away n) (peeked.Is (slice_index (words_of p e.name) offset))) (sym e.named)
    where
      Seen : Option PageName → Peeked
      Seen n = option_map_or (λ m. peeked.Is (slice_index (words_of p m) offset)) n peeked.NoPage

  pub away_old : w.empty ≡ false → None ≡ change_of cs w.end → (home : Home) → peeked.Absent home ≡ peek_of p scene (in_map w.end) 0 → Some home.0 ≡ page_away q scene (in_map s)
  away_old full same home h = by (page_away q scene (in_map s)) (h ∙ peek_tells (end_stands full (sym same)) 0)
    where
      by : (o : Option ℕ) → peeked.Absent home ≡ away_or o (peeked.Is (slice_index (words_of p (end_stands full (sym same)).name) 0)) → Some home.0 ≡ o
      by None g = absurd (cc g)
      by (Some n) g = let one : home ≡ record { 0 = n } = cc g in ap (λ (x : Home). Some x.0) one

  pub here_old : w.empty ≡ false → None ≡ change_of cs w.end → (seen : Peeked) → ((home : Home) → seen ≡ peeked.Absent home → ⊥) → seen ≡ peek_of p scene (in_map w.end) 0 → None ≡ page_away q scene (in_map s)
  here_old full same seen present h = by (page_away q scene (in_map s)) (h ∙ peek_tells (end_stands full (sym same)) 0)
    where
      by : (o : Option ℕ) → seen ≡ away_or o (peeked.Is (slice_index (words_of p (end_stands full (sym same)).name) 0)) → None ≡ o
      by None g = refl
      by (Some n) g = absurd (present (record { 0 = n }) g)

  -- ---- what a reference makes

  permits_is : (kind : Kind) → permits kind k.links ≡ permits_walked kind w
  permits_is Read = ap (λ (x : Walked). x.reads) k.found
  permits_is Write = ap (λ (x : Walked). x.writes) k.found
  permits_is Execute = ap (λ (x : Walked). x.executes) k.found

  pub permitted : (kind : Kind) (b : Bool) → permits_walked kind w ≡ b → permits kind k.links ≡ b
  permitted kind b h = permits_is kind ∙ h

  copies_none : (kind : Kind) → copied_walked kind w ≡ None → copies {K = ℕ} kind k.links ≡ []
  copies_none Read h = refl
  copies_none Execute h = refl
  copies_none Write h = by (find marked k.links.links) (ap (λ (x : Walked). x.marked) k.found ∙ h)
    where
      by : (l : Option Link) → option_map (λ (x : Link). x.slot) l ≡ None → copy_in {K = ℕ} k.links l ≡ []
      by None g = refl
      by (Some l) g = absurd (cc g)

  abbrev CopiesIn : Kind → Slot → Type 0
  CopiesIn kind m = (l : Link) × (find marked k.links.links ≡ Some l) × (l.slot ≡ m) × (copies {K = ℕ} kind k.links ≡ copy l.slot (private_access k.links) ∷ [])

  copies_some : (kind : Kind) (m : Slot) → copied_walked kind w ≡ Some m → CopiesIn kind m
  copies_some Read m h = absurd (cc h)
  copies_some Execute m h = absurd (cc h)
  copies_some Write m h = by (find marked k.links.links) refl (ap (λ (x : Walked). x.marked) k.found ∙ h)
    where
      by : (l : Option Link) → find marked k.links.links ≡ l → option_map (λ (x : Link). x.slot) l ≡ Some m → CopiesIn Write m
      by None is g = absurd (cc g)
      by (Some l) is g = (l, is, cc g, ap (copy_in k.links) is)

  executes_is : (private_access k.links).x ≡ w.executes
  executes_is = ap (λ (x : Walked). x.executes) k.found

module _ (p q : NumberedPages) (scene : Scene) (owner : Tty) (cs : List Change) (homes : ℕ) (r : PageReference) (w : Walked) (k : HasWalked p q scene owner cs homes r.slot w) (may : permits_walked r.kind w ≡ true) where
  allowed : permits r.kind k.links ≡ true
  allowed = permitted p q scene owner cs homes r.slot w k r.kind true may

  abbrev Goes : List Change → ℕ → Type 0
  Goes cs' homes' = GoesOn p q scene owner r cs cs' homes'

  ends : k.links.end ≡ w.end
  ends = end_is p q scene owner cs homes r.slot w k

  no_more : (homes' : ℕ) → Goes cs homes' → homes' ≡ homes + 0 → Goes cs (homes + 0)
  no_more homes' g h = subst (λ n. Goes cs n) h g

  pub told_ready : w.empty ≡ false → copied_walked r.kind w ≡ None → Goes cs (homes + 0)
  told_ready full none =
      let x = page_some p q scene owner cs homes r.slot w k full in
      no_more homes (goes_ready p q scene k.sound owner k.own cs homes k.changed r k.links k.is allowed x.0 x.1 (copies_none p q scene owner cs homes r.slot w k r.kind none)) (omega arith)

  pub told_zero : w.empty ≡ true → copied_walked r.kind w ≡ None → Goes (cs ++ record { slot = w.end; access = full_access; source = None; old = None } ∷ []) (homes + 1)
  told_zero empty none =
      subst (λ (t : Slot). Goes (cs ++ record { slot = t; access = full_access; source = None; old = None } ∷ []) (homes + 1)) ends
      (goes_zero p q scene k.sound owner k.own cs homes k.changed r k.links k.is allowed (page_none p q scene owner cs homes r.slot w k empty) (copies_none p q scene owner cs homes r.slot w k r.kind none))

  -- the access of a private copy, by what was found
  private_is : (private_access k.links) ≡ record { r = true; w = true; x = w.executes; c = false }
  private_is = λ i. record { r = true; w = true; x = executes_is p q scene owner cs homes r.slot w k i; c = false }

  pub told_both : w.empty ≡ true → (m : Slot) → copied_walked r.kind w ≡ Some m
      → Goes ((cs ++ record { slot = w.end; access = full_access; source = None; old = None } ∷ []) ++ record { slot = m; access = record { r = true; w = true; x = w.executes; c = false }; source = None; old = None } ∷ []) (homes + 2)
  told_both empty m copied =
      let l = copies_some p q scene owner cs homes r.slot w k r.kind m copied in
      let is : (cs ++ record { slot = k.links.end; access = full_access; source = None; old = None } ∷ []) ++ record { slot = l.0.slot; access = private_access k.links; source = None; old = None } ∷ []
      ≡ (cs ++ record { slot = w.end; access = full_access; source = None; old = None } ∷ []) ++ record { slot = m; access = record { r = true; w = true; x = w.executes; c = false }; source = None; old = None } ∷ [] =
      λ i. (cs ++ record { slot = ends i; access = full_access; source = None; old = None } ∷ []) ++ record { slot = l.2 i; access = private_is i; source = None; old = None } ∷ [] in
      subst (λ cs'. Goes cs' (homes + 2)) is (goes_both p q scene k.sound owner k.own cs homes k.changed r k.links k.is allowed l.0 l.1 l.3 (page_none p q scene owner cs homes r.slot w k empty))

  module _ (full : w.empty ≡ false) (m : Slot) (copied : copied_walked r.kind w ≡ Some m) where
    l : CopiesIn p q scene owner cs homes r.slot w k r.kind m
    l = copies_some p q scene owner cs homes r.slot w k r.kind m copied

    x : (n : PageName) × (k.links.page ≡ Some n)
    x = page_some p q scene owner cs homes r.slot w k full

    there : AtMark (entry_at q.maps) k.links l.0
    there = at_mark 4 (entry_at q.maps) r.slot k.links l.0 (four p q scene owner cs homes r.slot w k) l.1

    -- a copy, by the entry that it replaces
    copy_of : (e : MapEntry) → entry_at q.maps l.0.slot ≡ Some e → (old : Option PageName) → page_in e ≡ old → (sole : Bool) → is_sole q (Some e) ≡ sole
        → Goes (cs ++ record { slot = m; access = record { r = true; w = true; x = w.executes; c = false }; source = source_of cs w.end; old = old } ∷ []) (homes + cond sole 0 1)
    copy_of e at old is_old sole alone =
        subst (λ (c : Change). Goes (cs ++ c ∷ []) (homes + cond sole 0 1)) (λ i. record { slot = l.2 i; access = private_is i; source = source_of cs (ends i); old = is_old i })
        (goes_copy p q scene k.sound owner k.own cs homes k.changed r k.links k.is allowed l.0 l.1 l.3 x.0 x.1 e at sole alone)

    apart_or : (same_slot m w.end ≡ false) → l.0.slot ≡ k.links.end → ⊥
    apart_or off same = (let z : true ≡ false = sym (ap (λ (t : Slot). same_slot t w.end) (sym l.2 ∙ same ∙ ends) ∙ same_slot_itself w.end) ∙ off in cc z)

    -- the marked entry follows another
    pub told_apart : same_slot m w.end ≡ false → Goes (cs ++ record { slot = m; access = record { r = true; w = true; x = w.executes; c = false }; source = source_of cs w.end; old = None } ∷ []) (homes + 1)
    told_apart off = by there
      where
        by : AtMark (entry_at q.maps) k.links l.0 → Goes (cs ++ record { slot = m; access = record { r = true; w = true; x = w.executes; c = false }; source = source_of cs w.end; old = None } ∷ []) (homes + 1)
        by (mark_follows serial page a e ne) = copy_of (Follows serial page a) e None refl false refl
        by (mark_names n a e same page) = absurd (apart_or off same)

    -- the marked entry names the page, and was not changed
    end_marked : same_slot m w.end ≡ true → (n : PageName) × (a : Access) × (entry_at q.maps l.0.slot ≡ Some (Names n a)) × (change_of cs w.end ≡ None) × (k.links.page ≡ Some n)
    end_marked on = by there
      where
        one_slot : m ≡ w.end
        one_slot = elim (slots_tell m w.end) [ inl t ↦ t.1 | inr t ↦ absurd (let z : true ≡ false = sym on ∙ t.0 in cc z) ]

        at_end_slot : l.0.slot ≡ w.end
        at_end_slot = l.2 ∙ one_slot

        marked_there : IsMarked (entry_at q.maps) l.0
        marked_there = chain_marked 4 (entry_at q.maps) r.slot k.links l.0 (four p q scene owner cs homes r.slot w k) l.1

        unchanged : (n : PageName) (a : Access) → entry_at q.maps l.0.slot ≡ Some (Names n a) → (o : Option Change) → change_of cs w.end ≡ o → IsChanged p q w.end o → change_of cs w.end ≡ None
        unchanged n a e None is new = is
        unchanged n a e (Some c) is new =
            let one : Some marked_there.entry ≡ Some (Names new.name c.access) = sym marked_there.there ∙ ap (entry_at q.maps) at_end_slot ∙ new.there in
            let same : marked_there.entry ≡ Names new.name c.access = cc one in
            absurd (let z : true ≡ false = sym marked_there.mark ∙ ap (λ y. (access_of y).c) same ∙ new.unmarked in cc z)

        by : AtMark (entry_at q.maps) k.links l.0 → (n : PageName) × (a : Access) × (entry_at q.maps l.0.slot ≡ Some (Names n a)) × (change_of cs w.end ≡ None) × (k.links.page ≡ Some n)
        by (mark_follows serial page a e ne) = absurd (ne (at_end_slot ∙ sym ends))
        by (mark_names n a e same page) = (n, a, e, unchanged n a e (change_of cs w.end) refl (k.changed.slots w.end), page)

    -- what is told of the page at the end, which has a name
    module _ (on : same_slot m w.end ≡ true) (o : Option (PageName × ℕ)) (told : map_away p scene (in_map w.end) ≡ None → o ≡ counted p (page_at p (in_map w.end))) where
      stands : EndStands p q scene owner cs homes r.slot w k
      stands = end_stands p q scene owner cs homes r.slot w k full (end_marked on).3

      told_is : o ≡ Some (stands.name, uses p stands.name)
      told_is = told stands.near ∙ ap (counted p) stands.page

      pub told_nameless : {A : Type 0} → o ≡ None → A
      told_nameless none = absurd (let z : None ≡ Some (stands.name, uses p stands.name) = sym none ∙ told_is in cc z)

      pub told_copy : (name : PageName) (names : ℕ) (sole : Bool) → o ≡ Some (name, names) → sole ≡ (names == taken_names name cs + 1)
          → Goes (cs ++ record { slot = m; access = record { r = true; w = true; x = w.executes; c = false }; source = source_of cs w.end; old = Some name } ∷ []) (homes + cond sole 0 1)
      told_copy name names sole is alone = copy_of (Names e.0 e.1) e.2 (Some name) (ap (λ (n : PageName). Some n) one) sole (count (uses q e.0) (taken_names name cs) names counts ∙ sym alone)
        where
          e : (n : PageName) × (a : Access) × (entry_at q.maps l.0.slot ≡ Some (Names n a)) × (change_of cs w.end ≡ None) × (k.links.page ≡ Some n)
          e = end_marked on

          pair : (name ≡ stands.name) × (names ≡ uses p stands.name)
          pair = pair_parts name stands.name names (uses p stands.name) o is told_is

          is_name : name ≡ stands.name
          is_name = pair.0

          one : e.0 ≡ name
          one = (let z : Some e.0 ≡ Some stands.name = sym e.4 ∙ sym (page_of_walk p q scene owner cs homes r.slot w k) ∙ stands.named in let same : e.0 ≡ stands.name = cc z in same ∙ sym is_name)

          in_p : map.contains_key p.objects name ≡ true
          in_p = ap (map.contains_key p.objects) is_name ∙ entry_there nat_cmp_total p k.sound.whole w.end stands.name stands.access stands.before

          counts : uses q e.0 + taken_names name cs ≡ names
          counts = ap (λ (n : PageName). uses q n + taken_names name cs) one ∙ k.changed.names name in_p ∙ ap (uses p) is_name ∙ sym pair.1

          count : (a b n : ℕ) → a + b ≡ n → (a == 1) ≡ (n == b + 1)
          count a b n h = grind (arith, nat_tests)

-- ---- whether two chains end at one page

pub same_none : (n : Option PageName) → are_same n None ≡ false
same_none None = refl
same_none (Some x) = refl

module _ (p q : NumberedPages) (scene : Scene) (owner : Tty) (cs : List Change) (homes : ℕ) (a b : Slot) (x y : Walked) (j : HasWalked p q scene owner cs homes a x) (k : HasWalked p q scene owner cs homes b y) where
  abbrev Together : Bool
  Together = are_same (page_at q (in_map a)) (page_at q (in_map b))

  pub first_empty : x.empty ≡ true → false ≡ Together
  first_empty h = sym (ap (λ n. are_same n (page_at q (in_map b))) (page_of_walk p q scene owner cs homes a x j ∙ page_none p q scene owner cs homes a x j h))

  pub second_empty : y.empty ≡ true → false ≡ Together
  second_empty h = sym (ap (are_same (page_at q (in_map a))) (page_of_walk p q scene owner cs homes b y k ∙ page_none p q scene owner cs homes b y k h) ∙ same_none (page_at q (in_map a)))

  module _ (first_full : x.empty ≡ false) (second_full : y.empty ≡ false) where
    e : (n : PageName) × (c : Access) × (entry_at q.maps x.end ≡ Some (Names n c)) × (j.links.page ≡ Some n)
    e = end_names p q scene owner cs homes a x j first_full

    f : (n : PageName) × (c : Access) × (entry_at q.maps y.end ≡ Some (Names n c)) × (k.links.page ≡ Some n)
    f = end_names p q scene owner cs homes b y k second_full

    together_is : same_page e.0 f.0 ≡ Together
    together_is = λ i. are_same (sym (page_of_walk p q scene owner cs homes a x j ∙ e.3) i) (sym (page_of_walk p q scene owner cs homes b y k ∙ f.3) i)

    pub one_end : same_slot x.end y.end ≡ true → true ≡ Together
    one_end on = by (slots_tell x.end y.end)
      where
        by : SlotsTell x.end y.end → true ≡ Together
        by (inr t) = absurd (let z : true ≡ false = sym on ∙ t.0 in cc z)
        by (inl t) =
            let two : Some (Names e.0 e.1) ≡ Some (Names f.0 f.1) = sym e.2 ∙ ap (entry_at q.maps) t.1 ∙ f.2 in
            let one : e.0 ≡ f.0 = cc two in
            sym (same_itself e.0) ∙ ap (same_page e.0) one ∙ together_is

    apart_pages : e.0 ≢ f.0 → false ≡ Together
    apart_pages ne = by (page_tells e.0 f.0)
      where
        by : Same e.0 f.0 → false ≡ Together
        by (inl t) = absurd (ne t.1)
        by (inr t) = sym t.0 ∙ together_is

    -- a new page has no other name
    new_apart : same_slot x.end y.end ≡ false → (n : PageName) → uses q n ≡ 1 → (e.0 ≡ n) ⊎ (f.0 ≡ n) → e.0 ≢ f.0
    new_apart off n once which same = (let two = two_names nat_cmp_total q x.end y.end n e.1 f.1 apart (first which) (second which) in omega (arith, two, once))
      where
        apart : x.end ≢ y.end
        apart = elim (slots_tell x.end y.end) [ inl t ↦ absurd (let z : true ≡ false = sym t.0 ∙ off in cc z) | inr t ↦ t.1 ]

        first : (e.0 ≡ n) ⊎ (f.0 ≡ n) → entry_at q.maps x.end ≡ Some (Names n e.1)
        first (inl h) = e.2 ∙ ap (λ (m : PageName). Some (Names m e.1)) h
        first (inr h) = e.2 ∙ ap (λ (m : PageName). Some (Names m e.1)) (same ∙ h)

        second : (e.0 ≡ n) ⊎ (f.0 ≡ n) → entry_at q.maps y.end ≡ Some (Names n f.1)
        second (inl h) = f.2 ∙ ap (λ (m : PageName). Some (Names m f.1)) (sym same ∙ h)
        second (inr h) = f.2 ∙ ap (λ (m : PageName). Some (Names m f.1)) h

    name_of : (n m : PageName) (o : Option PageName) → o ≡ Some n → o ≡ Some m → n ≡ m
    name_of n m o h g = let z : Some n ≡ Some m = sym h ∙ g in cc z

    is_change : (o : Option Change) → is_some o ≡ true → (c : Change) × (o ≡ Some c)
    is_change None h = absurd (cc h)
    is_change (Some c) h = (c, refl)

    pub first_new : same_slot x.end y.end ≡ false → is_some (change_of cs x.end) ≡ true → false ≡ Together
    first_new off new =
        let c = is_change (change_of cs x.end) new in
        let n = new_end p q scene owner cs homes a x j first_full c.0 c.1 in
        apart_pages (new_apart off n.0.name n.0.once (inl (name_of e.0 n.0.name (page_at q (in_map a)) (page_of_walk p q scene owner cs homes a x j ∙ e.3) n.1)))

    pub second_new : same_slot x.end y.end ≡ false → is_some (change_of cs y.end) ≡ true → false ≡ Together
    second_new off new =
        let c = is_change (change_of cs y.end) new in
        let n = new_end p q scene owner cs homes b y k second_full c.0 c.1 in
        apart_pages (new_apart off n.0.name n.0.once (inr (name_of f.0 n.0.name (page_at q (in_map b)) (page_of_walk p q scene owner cs homes b y k ∙ f.3) n.1)))

    -- the pages of two ends that were not changed
    module _ (first_old : is_some (change_of cs x.end) ≡ false) (second_old : is_some (change_of cs y.end) ≡ false) where
      not_change : (o : Option Change) → is_some o ≡ false → o ≡ None
      not_change None h = refl
      not_change (Some c) h = absurd (cc h)

      first_stands : EndStands p q scene owner cs homes a x j
      first_stands = end_stands p q scene owner cs homes a x j first_full (not_change (change_of cs x.end) first_old)

      second_stands : EndStands p q scene owner cs homes b y k
      second_stands = end_stands p q scene owner cs homes b y k second_full (not_change (change_of cs y.end) second_old)

      abbrev pub ToldAt : Slot → Option (PageName × ℕ) → Type 0
      ToldAt s o = map_away p scene (in_map s) ≡ None → o ≡ counted p (page_at p (in_map s))

      first_is : (o : Option (PageName × ℕ)) → ToldAt x.end o → o ≡ Some (first_stands.name, uses p first_stands.name)
      first_is o told = told first_stands.near ∙ ap (counted p) first_stands.page

      second_is : (o : Option (PageName × ℕ)) → ToldAt y.end o → o ≡ Some (second_stands.name, uses p second_stands.name)
      second_is o told = told second_stands.near ∙ ap (counted p) second_stands.page

      pub first_nameless : {A : Type 0} (o : Option (PageName × ℕ)) → ToldAt x.end o → is_some o ≡ false → A
      first_nameless o told none = absurd (let z : true ≡ false = sym (ap is_some (first_is o told)) ∙ none in cc z)

      pub second_nameless : {A : Type 0} (o : Option (PageName × ℕ)) → ToldAt y.end o → is_some o ≡ false → A
      second_nameless o told none = absurd (let z : true ≡ false = sym (ap is_some (second_is o told)) ∙ none in cc z)

      pub names_together : (n m : PageName) (u v : ℕ) → ToldAt x.end (Some (n, u)) → ToldAt y.end (Some (m, v)) → same_page n m ≡ Together
      names_together n m u v told tells = λ i. are_same (one i) (two i)
        where
          first_name : (n ≡ first_stands.name) × (u ≡ uses p first_stands.name)
          first_name = pair_parts n first_stands.name u (uses p first_stands.name) (Some (n, u)) refl (first_is (Some (n, u)) told)

          second_name : (m ≡ second_stands.name) × (v ≡ uses p second_stands.name)
          second_name = pair_parts m second_stands.name v (uses p second_stands.name) (Some (m, v)) refl (second_is (Some (m, v)) tells)

          one : Some n ≡ page_at q (in_map a)
          one = ap (λ (z : PageName). Some z) first_name.0 ∙ sym first_stands.named

          two : Some m ≡ page_at q (in_map b)
          two = ap (λ (z : PageName). Some z) second_name.0 ∙ sym second_stands.named

-- ---- what a walk tells

module _ (p q : NumberedPages) (scene : Scene) (owner : Tty) (cs : List Change) (homes : ℕ) (s : Slot) where
  -- a walk over the entries with the changes comes to this
  abbrev pub WalkTold : Way → Type 0
  WalkTold x = x ≡ way_found (away_within 4 scene.map_away (views_of (entry_at q.maps)) s) (walk_within 4 (views_of (entry_at q.maps)) s)

  walk_is : (x : Way) → WalkTold x → x ≡ way_found (map_away q scene (in_map s)) (option_map walked (chain (entry_at q.maps) s))
  walk_is x told =
      told ∙ λ i. way_found (both i) (found i)
    where
      both : away_within 4 scene.map_away (views_of (entry_at q.maps)) s ≡ map_away q scene (in_map s)
      both = sym (away_is_way 4 scene (entry_at q.maps) s) ∙ sym (way_is q scene s)

      found : walk_within 4 (views_of (entry_at q.maps)) s ≡ option_map walked (chain (entry_at q.maps) s)
      found = sym (walk_is_chain 4 (entry_at q.maps) s) ∙ ap (option_map walked) (sym (chain_is_four (entry_at q.maps) s))

  pub absent_told : (home : Home) → WalkTold (way.Absent home) → map_away q scene (in_map s) ≡ Some home.0
  absent_told home told = by (map_away q scene (in_map s)) (option_map walked (chain (entry_at q.maps) s)) (walk_is (way.Absent home) told)
    where
      by : (o : Option ℕ) (w : Option Walked) → way.Absent home ≡ way_found o w → o ≡ Some home.0
      by None None g = absurd (cc g)
      by None (Some w) g = absurd (cc g)
      by (Some n) w g = let same : home ≡ record { 0 = n } = cc g in ap (λ (x : Home). Some x.0) (sym same)

  pub nowhere_told : WalkTold way.Nowhere → (map_away q scene (in_map s) ≡ None) × (chain (entry_at q.maps) s ≡ None)
  nowhere_told told = by (map_away q scene (in_map s)) (chain (entry_at q.maps) s) (walk_is way.Nowhere told)
    where
      by : (o : Option ℕ) (c : Option Chain) → way.Nowhere ≡ way_found o (option_map walked c) → (o ≡ None) × (c ≡ None)
      by None None g = (refl, refl)
      by None (Some c) g = absurd (cc g)
      by (Some n) c g = absurd (cc g)

  pub found_told : (w : Walked) → AreSound p scene → IsOwner owner → AreChanged p q owner cs homes → WalkTold (way.Found w) → HasWalked p q scene owner cs homes s w
  found_told w sound own changed told = by (map_away q scene (in_map s)) (chain (entry_at q.maps) s) refl refl (walk_is (way.Found w) told)
    where
      by : (o : Option ℕ) (c : Option Chain) → map_away q scene (in_map s) ≡ o → chain (entry_at q.maps) s ≡ c → way.Found w ≡ way_found o (option_map walked c) → HasWalked p q scene owner cs homes s w
      by None None at is g = absurd (cc g)
      by (Some n) c at is g = absurd (cc g)
      by None (Some c) at is g = let same : w ≡ walked c = cc g in record { sound = sound; own = own; changed = changed; near = at; links = c; is = is; found = sym same }

  -- of a slot whose maps are in frames, what finds no chain
  pub lost_told : (x : Way) → ((w : Walked) → x ≡ way.Found w → ⊥) → map_away q scene (in_map s) ≡ None → WalkTold x → page_at q (in_map s) ≡ None
  lost_told x lost near told = by (chain (entry_at q.maps) s) refl (walk_is x told ∙ ap (λ (o : Option ℕ). way_found o (option_map walked (chain (entry_at q.maps) s))) near)
    where
      by : (c : Option Chain) → chain (entry_at q.maps) s ≡ c → x ≡ way_found None (option_map walked (chain (entry_at q.maps) s)) → page_at q (in_map s) ≡ None
      by None is g = page_is q s ∙ ap (option_and_then (λ (d : Chain). d.page)) (sym (chain_is_four (entry_at q.maps) s) ∙ is)
      by (Some c) is g = absurd (lost (walked c) (g ∙ ap (λ (o : Option Chain). way_found None (option_map walked o)) is))

-- ---- what a reference is answered

module _ (p : NumberedPages) (scene : Scene) (owner : Tty) (rs : List PageReference) (cs : List Change) (homes : ℕ) (r : PageReference) (k : AreGathered p scene owner rs cs homes) where
  abbrev after : NumberedPages
  after = after_all p owner rs

  -- nothing is added
  stopped : (answer : Added) (makings : Makings) → answer ≡ answered after scene (most_framed p scene) owner r → (answer ≡ Went → ⊥) → Judges p scene owner rs cs r answer makings homes
  stopped answer makings is none = record { is = is; gathers = λ h. absurd (none h); leaves = λ h. absurd (none h); near = λ h. absurd (none h) }

  pub judges_absent : (home : Home) → WalkTold p after scene owner cs homes r.slot (way.Absent home) → Judges p scene owner rs cs r (Need (need.Page home)) Nothing homes
  judges_absent home told = stopped (Need (need.Page home)) Nothing (sym (answered_away after scene (most_framed p scene) owner r home.0 (absent_told p after scene owner cs homes r.slot home told))) (λ h. cc h)

  pub judges_nowhere : WalkTold p after scene owner cs homes r.slot way.Nowhere → Judges p scene owner rs cs r (Denied r.kind) Nothing homes
  judges_nowhere told =
      let none = nowhere_told p after scene owner cs homes r.slot told in
      stopped (Denied r.kind) Nothing (sym (denied_chain after scene (most_framed p scene) owner r none.0 none.1)) (λ h. cc h)

  module _ (w : Walked) (j : HasWalked p after scene owner cs homes r.slot w) where
    pub judges_denied : permits_walked r.kind w ≡ false → Judges p scene owner rs cs r (Denied r.kind) Nothing homes
    judges_denied may =
        stopped (Denied r.kind) Nothing (sym (denied_access after scene (most_framed p scene) owner r j.links j.near j.is (permitted p after scene owner cs homes r.slot w j r.kind false may))) (λ h. cc h)

    pub judges_found : (makings : Makings) (homes' : ℕ) → GoesOn p after scene owner r cs (changes_with cs makings) (homes + homes_of makings) → homes' ≡ homes + homes_of makings
        → (room : Room) → room ≡ room_for (live p) p.limit scene.free_frames homes' → (away : Option ℕ) → away ≡ page_away after scene (in_map r.slot) → (answer : Added) → answer ≡ concluded room away
        → Judges p scene owner rs cs r answer makings homes'
    judges_found makings homes' goes count room roomy away there answer is = record {
      is = same ∙ sym (step_answer p after scene owner rs cs (changes_with cs makings) homes homes' r k refl j.near step);
      gathers = λ h. (step_gathered p after scene owner rs cs (changes_with cs makings) homes homes' r k refl j.near step (sym same ∙ h)).0;
      leaves = λ h. (step_gathered p after scene owner rs cs (changes_with cs makings) homes homes' r k refl j.near step (sym same ∙ h)).1;
      near = λ h. (step_gathered p after scene owner rs cs (changes_with cs makings) homes homes' r k refl j.near step (sym same ∙ h)).2;
    }
      where
        step : GoesOn p after scene owner r cs (changes_with cs makings) homes'
        step = subst (λ n. GoesOn p after scene owner r cs (changes_with cs makings) n) (sym count) goes

        same : answer ≡ concluded (room_for (live p) p.limit scene.free_frames homes') (page_away after scene (in_map r.slot))
        same = is ∙ λ i. concluded (roomy i) (there i)

  -- where nothing is to be made so far, and the page is ready
  pub ready_adds : cs ≡ [] → Ready ≡ touch_of p scene (in_map r.slot) r.kind owner → AreGathered p scene owner (rs ++ r ∷ []) cs homes × (Went ≡ answered after scene (most_framed p scene) owner r) × (referred_to after owner r ≡ granted (after_all p owner (rs ++ r ∷ [])))
      × ((s : Slot) → IsNear after scene s → IsNear (after_all p owner (rs ++ r ∷ [])) scene s)
  ready_adds none touched = (added.0, sym (step_answer p after scene owner rs cs cs homes homes r k refl near.maps step ∙ went), added.1, added.2)
    where
      still : after ≡ p
      still = k.changed.still none

      ready : touch_of after scene (in_map r.slot) r.kind owner ≡ Ready
      ready = ap (λ (x : NumberedPages). touch_of x scene (in_map r.slot) r.kind owner) still ∙ sym touched

      near : IsNear after scene r.slot
      near = ready_near after scene owner r ready

      step : GoesOn p after scene owner r cs cs homes
      step = ready_goes p after scene owner cs homes k.changed r ready

      went : concluded (room_for (live p) p.limit scene.free_frames homes) (page_away after scene (in_map r.slot)) ≡ Went
      went = ap (λ x. concluded x (page_away after scene (in_map r.slot))) (room_still p scene owner rs cs homes k) ∙ ap (λ o. page_or o Went) near.page

      added : AreGathered p scene owner (rs ++ r ∷ []) cs homes × (referred_to after owner r ≡ granted (after_all p owner (rs ++ r ∷ []))) × ((s : Slot) → IsNear after scene s → IsNear (after_all p owner (rs ++ r ∷ [])) scene s)
      added = step_gathered p after scene owner rs cs cs homes homes r k refl near.maps step went

-- so is a reference added that finds its page ready
pub ready_told : (p : NumberedPages) (scene : Scene) (g : Gathering) → Gathers p scene g → (r : PageReference) → g.changes ≡ [] → Ready ≡ touch_of p scene (in_map r.slot) r.kind g.owner → (homes : ℕ) → homes ≡ g.homes
    → Adds p scene g (record { owner = g.owner; references = g.references ++ r ∷ []; changes = g.changes; homes = homes }) r Went
ready_told p scene g k r none touched homes same =
    let a = ready_adds p scene g.owner g.references g.changes g.homes r k none touched in
    record { gathers = subst (λ n. AreGathered p scene g.owner (g.references ++ r ∷ []) g.changes n) (sym same) a.0; is = a.1; leaves = λ h. a.2; near = λ h. a.3 }

pub no_changes : (cs : List Change) → length cs ≡ 0 → cs ≡ []
no_changes [] h = refl
no_changes (c ∷ cs) h = absurd (omega (arith, h))
