-- A walk along a chain of which one entry was set to a page, whatever the drum.
use Rattle.std.proofs.Common.{◌≡◌, ℕ, zero, suc, List, Bool, true, false, cond, Option, None, Some, refl, sym, ◌∙◌, ap}
use Rattle.std.specs.Prelude.{◌&&◌, ◌||◌}
use Rattle.machine_names.specs.declared.names.Access.{Access}
use Rattle.machine_names.specs.declared.names.Slot.{Slot}
use Rattle.page_homes.specs.declared.homes.Home.{Home}
use Rattle.page_contracts.specs.Stores.{HomePlace}
use Rattle.plain_pages.specs.Maps.{followed, full_access}
use Rattle.pager_walk.specs.declared.chain_walk.Walked.{Walked}
use Rattle.pager_walk.specs.declared.chain_walk.Walked.TheVariants.{Along, Absent, NoChain}
use Rattle.pager_walk.specs.declared.paged_entry.Looked.{Looked}
use Rattle.pager_walk.specs.declared.paged_entry.Looked.TheVariants.{Is, Absent as MapAbsent, Missing, Refused}
use Rattle.pager_walk.specs.declared.paged_entry.PagedEntry.TheVariants.{Empty, Page, Follows}
use Rattle.pager_walk.specs.PagedMaps.{Tables, look_at}
use Rattle.fork_maps.specs.ChainWalks.{walk_behind, walk_end}
use Rattle.pager_walk.specs.Walks.{Way, walk_at, walk_from, walk_within, walked_behind}
use Rattle.paged_tables.proofs.EntryLooks.{SetsOne}

-- whether an entry has the copy mark
abbrev pub is_marked : Looked → Bool
is_marked (Is Empty) = false
is_marked (Is (Page home a)) = a.c
is_marked (Is (Follows serial page a)) = a.c
is_marked (MapAbsent home) = false
is_marked Missing = false
is_marked Refused = false

-- the rest of a walk that goes on
record GoesOn (s : Slot) (a : Access) (w : Way) (rest : Walked) : Type 0 where
  way : Way
  is : rest ≡ Along way
  same : w ≡ walk_behind s a way

goes_on : (s : Slot) (a : Access) (w : Way) (rest : Walked) → walked_behind s a rest ≡ Along w → GoesOn s a w rest
goes_on s a w (Along v) e = let same : walk_behind s a v ≡ w = cc e in record { way = v; is = refl; same = sym same }
goes_on s a w (Absent home) e = absurd (cc e)
goes_on s a w NoChain e = absurd (cc e)

both : (x y : Bool) → (x && y) ≡ true → (x ≡ true) × (y ≡ true)
both true true e = (refl, refl)
both true false e = absurd (cc e)
both false y e = absurd (cc e)

module _ (t : Tables) (places : List HomePlace) where
  abbrev look : Slot → Looked
  look = look_at t places

  -- the entry with the first copy mark has it
  abbrev MarkedRest : ℕ → Slot → Type 0
  MarkedRest n m = (x : Slot) (v : Way) → walk_within n t places x ≡ Along v → v.copy ≡ Some m → is_marked (look m) ≡ true

  marked_within : (n : ℕ) (s : Slot) (w : Way) (m : Slot) → walk_within n t places s ≡ Along w → w.copy ≡ Some m → is_marked (look m) ≡ true
  unfolding walk_within
  marked_within zero s w m e some = absurd (cc e)
  marked_within (suc n) s w m e some = by (λ x v f g. marked_within n x v m f g) (look s) refl e
    where
      ended : (a : Access) (home : Option Home) → is_marked (look s) ≡ a.c → Along (walk_end s a home) ≡ Along w → is_marked (look m) ≡ true
      ended a home mark k = at a.c refl (ap (λ (x : Way). x.copy) (let z : walk_end s a home ≡ w = cc k in z) ∙ some)
        where
          at : (c : Bool) → a.c ≡ c → cond c (Some s) None ≡ Some m → is_marked (look m) ≡ true
          at true is f = let same : s ≡ m = cc f in ap (λ (x : Slot). is_marked (look x)) (sym same) ∙ mark ∙ is
          at false is f = absurd (cc f)

      behind : MarkedRest n m → (serial page : ℕ) (a : Access) → look s ≡ Is (Follows serial page a) → walked_behind s a (walk_within n t places (followed s serial page)) ≡ Along w → is_marked (look m) ≡ true
      behind ih serial page a l k = by (goes_on s a w (walk_within n t places (followed s serial page)) k)
        where
          by : GoesOn s a w (walk_within n t places (followed s serial page)) → is_marked (look m) ≡ true
          by g = at a.c refl (sym (ap (λ (x : Way). x.copy) g.same) ∙ some)
            where
              at : (c : Bool) → a.c ≡ c → cond c (Some s) g.way.copy ≡ Some m → is_marked (look m) ≡ true
              at true is f = let same : s ≡ m = cc f in ap (λ (x : Slot). is_marked (look x)) (sym same) ∙ ap is_marked l ∙ is
              at false is f = ih (followed s serial page) g.way g.is f

      by : MarkedRest n m → (l : Looked) → look s ≡ l → walk_from s l (walk_within n t places) ≡ Along w → is_marked (look m) ≡ true
      by ih (Is Empty) l k = ended full_access None (ap is_marked l) k
      by ih (Is (Page h a)) l k = ended a (Some h) (ap is_marked l) k
      by ih (Is (Follows serial page a)) l k = behind ih serial page a l k
      by ih (MapAbsent home) l k = absurd (cc k)
      by ih Missing l k = absurd (cc k)
      by ih Refused l k = absurd (cc k)

  pub marked : (s : Slot) (w : Way) (m : Slot) → walk_at t places s ≡ Along w → w.copy ≡ Some m → is_marked (look m) ≡ true
  unfolding walk_at
  marked s w m e some = marked_within 4 s w m e some

  -- where that entry names a page, the walk ends there
  abbrev PageRest : ℕ → Slot → Home → Type 0
  PageRest n m g = (x : Slot) (v : Way) → walk_within n t places x ≡ Along v → v.copy ≡ Some m → v.home ≡ Some g

  page_within : (n : ℕ) (s : Slot) (w : Way) (m : Slot) (g : Home) (c : Access) → look m ≡ Is (Page g c) → walk_within n t places s ≡ Along w → w.copy ≡ Some m → w.home ≡ Some g
  unfolding walk_within
  page_within zero s w m g c names e some = absurd (cc e)
  page_within (suc n) s w m g c names e some = by (λ x v f k. page_within n x v m g c names f k) (look s) refl e
    where
      behind : PageRest n m g → (serial page : ℕ) (a : Access) → look s ≡ Is (Follows serial page a) → walked_behind s a (walk_within n t places (followed s serial page)) ≡ Along w → w.home ≡ Some g
      behind ih serial page a l k = by (goes_on s a w (walk_within n t places (followed s serial page)) k)
        where
          by : GoesOn s a w (walk_within n t places (followed s serial page)) → w.home ≡ Some g
          by x = ap (λ (y : Way). y.home) x.same ∙ at a.c refl (sym (ap (λ (y : Way). y.copy) x.same) ∙ some)
            where
              at : (b : Bool) → a.c ≡ b → cond b (Some s) x.way.copy ≡ Some m → x.way.home ≡ Some g
              at true is f = let same : s ≡ m = cc f in absurd (let z : Is (Follows serial page a) ≡ Is (Page g c) = sym l ∙ ap look same ∙ names in cc z)
              at false is f = ih (followed s serial page) x.way x.is f

      ended : (h : Home) (a : Access) → look s ≡ Is (Page h a) → Along (walk_end s a (Some h)) ≡ Along w → w.home ≡ Some g
      ended h a l k = at a.c (ap (λ (x : Way). x.copy) (let z : walk_end s a (Some h) ≡ w = cc k in z) ∙ some)
        where
          at : (b : Bool) → cond b (Some s) None ≡ Some m → w.home ≡ Some g
          at true f =
              let same : s ≡ m = cc f in
              let one : h ≡ g = (let z : Is (Page h a) ≡ Is (Page g c) = sym l ∙ ap look same ∙ names in cc z) in
              sym (ap (λ (x : Way). x.home) (let z : walk_end s a (Some h) ≡ w = cc k in z)) ∙ ap Some one
          at false f = absurd (cc f)

      by : PageRest n m g → (l : Looked) → look s ≡ l → walk_from s l (walk_within n t places) ≡ Along w → w.home ≡ Some g
      by ih (Is Empty) l k = absurd (let z : None ≡ Some m = ap (λ (x : Way). x.copy) (let y : walk_end s full_access None ≡ w = cc k in y) ∙ some in cc z)
      by ih (Is (Page h a)) l k = ended h a l k
      by ih (Is (Follows serial page a)) l k = behind ih serial page a l k
      by ih (MapAbsent home) l k = absurd (cc k)
      by ih Missing l k = absurd (cc k)
      by ih Refused l k = absurd (cc k)

  pub page_marked : (s : Slot) (w : Way) (m : Slot) (g : Home) (c : Access) → look m ≡ Is (Page g c) → walk_at t places s ≡ Along w → w.copy ≡ Some m → w.home ≡ Some g
  unfolding walk_at
  page_marked s w m g c names e some = page_within 4 s w m g c names e some

-- a walk that ends at a home, makes no copy, and may write
pub record Copied (x : Walked) (h : Home) : Type 0 where
  pub way : Way
  pub is : x ≡ Along way
  pub home : way.home ≡ Some h
  pub copy : way.copy ≡ None
  pub writes : way.writes ≡ true

module _ (t t' : Tables) (places places' : List HomePlace) (m : Slot) (h : Home) (b : Access) (k : SetsOne t t' places places' m (Page h b)) where
  -- the entry with the mark becomes a page that may be written
  module _ (plain : b.c ≡ false) (writable : b.w ≡ true) (mark : is_marked (look_at t places m) ≡ true) where
    own_end : (n : ℕ) (s : Slot) → s ≡ m → Copied (walk_from s (look_at t' places' s) (walk_within n t' places')) h
    own_end n s same = record {
      way = walk_end s b (Some h);
      is = ap (λ l. walk_from s l (walk_within n t' places')) (ap (look_at t' places') same ∙ k.own);
      home = refl;
      copy = ap (λ c. cond c (Some s) None) plain;
      writes = (λ i. plain i || writable i);
    }

    apart : (s : Slot) (serial page : ℕ) (a : Access) → look_at t places s ≡ Is (Follows serial page a) → a.c ≡ false → s ≡ m → ⊥
    apart s serial page a l none same = let z : false ≡ true = sym none ∙ sym (ap is_marked l) ∙ ap (λ (x : Slot). is_marked (look_at t places x)) same ∙ mark in cc z

    abbrev CopiedRest : ℕ → Type 0
    CopiedRest n = (x : Slot) (v : Way) → walk_within n t places x ≡ Along v → v.copy ≡ Some m → v.writes ≡ true → Copied (walk_within n t' places' x) h

    copied_within : (n : ℕ) (s : Slot) (w : Way) → walk_within n t places s ≡ Along w → w.copy ≡ Some m → w.writes ≡ true → Copied (walk_within n t' places' s) h
    unfolding walk_within
    copied_within zero s w e some writes = absurd (cc e)
    copied_within (suc n) s w e some writes = by (λ x v f g r. copied_within n x v f g r) (look_at t places s) refl e
      where
        ended : (a : Access) (home : Option Home) → Along (walk_end s a home) ≡ Along w → Copied (walk_from s (look_at t' places' s) (walk_within n t' places')) h
        ended a home f = at a.c (ap (λ (x : Way). x.copy) (let z : walk_end s a home ≡ w = cc f in z) ∙ some)
          where
            at : (c : Bool) → cond c (Some s) None ≡ Some m → Copied (walk_from s (look_at t' places' s) (walk_within n t' places')) h
            at true g = own_end n s (let same : s ≡ m = cc g in same)
            at false g = absurd (cc g)

        behind : CopiedRest n → (serial page : ℕ) (a : Access) → look_at t places s ≡ Is (Follows serial page a) → walked_behind s a (walk_within n t places (followed s serial page)) ≡ Along w → Copied (walk_from s (look_at t' places' s) (walk_within n t' places')) h
        behind ih serial page a l f = by (goes_on s a w (walk_within n t places (followed s serial page)) f)
          where
            by : GoesOn s a w (walk_within n t places (followed s serial page)) → Copied (walk_from s (look_at t' places' s) (walk_within n t' places')) h
            by x = at a.c refl (sym (ap (λ (y : Way). y.copy) x.same) ∙ some) (sym (ap (λ (y : Way). y.writes) x.same) ∙ writes)
              where
                at : (c : Bool) → a.c ≡ c → cond c (Some s) x.way.copy ≡ Some m → cond c x.way.reads (a.w && x.way.writes) ≡ true → Copied (walk_from s (look_at t' places' s) (walk_within n t' places')) h
                at true is g wr = own_end n s (let same : s ≡ m = cc g in same)
                at false is g wr =
                    let two = both a.w x.way.writes wr in
                    let rest = ih (followed s serial page) x.way x.is g two.1 in record {
                      way = walk_behind s a rest.way;
                      is = ap (λ y. walk_from s y (walk_within n t' places')) (k.rest s serial page a l (apart s serial page a l is)) ∙ ap (walked_behind s a) rest.is;
                      home = rest.home;
                      copy = ap (λ c. cond c (Some s) rest.way.copy) is ∙ rest.copy;
                      writes = (λ i. cond (is i) rest.way.reads (two.0 i && rest.writes i));
                    }

        by : CopiedRest n → (l : Looked) → look_at t places s ≡ l → walk_from s l (walk_within n t places) ≡ Along w → Copied (walk_from s (look_at t' places' s) (walk_within n t' places')) h
        by ih (Is Empty) l f = ended full_access None f
        by ih (Is (Page g a)) l f = ended a (Some g) f
        by ih (Is (Follows serial page a)) l f = behind ih serial page a l f
        by ih (MapAbsent home) l f = absurd (cc f)
        by ih Missing l f = absurd (cc f)
        by ih Refused l f = absurd (cc f)

    pub walk_copied : (s : Slot) (w : Way) → walk_at t places s ≡ Along w → w.copy ≡ Some m → w.writes ≡ true → Copied (walk_at t' places' s) h
    unfolding walk_at
    walk_copied s w e some writes = copied_within 4 s w e some writes

  -- the empty entry at the end becomes a page with every right
  module _ (full : b ≡ full_access) (empty : look_at t places m ≡ Is Empty) where
    abbrev FilledRest : ℕ → Type 0
    FilledRest n = (x : Slot) (v : Way) → walk_within n t places x ≡ Along v → v.end ≡ m → walk_within n t' places' x ≡ Along (record v { home = Some h })

    filled_within : (n : ℕ) (s : Slot) (w : Way) → walk_within n t places s ≡ Along w → w.end ≡ m → walk_within n t' places' s ≡ Along (record w { home = Some h })
    unfolding walk_within
    filled_within zero s w e end = absurd (cc e)
    filled_within (suc n) s w e end = by (λ x v f g. filled_within n x v f g) (look_at t places s) refl e
      where
        ended : Along (walk_end s full_access None) ≡ Along w → walk_from s (look_at t' places' s) (walk_within n t' places') ≡ Along (record w { home = Some h })
        ended f =
            let same : walk_end s full_access None ≡ w = cc f in
            let at : s ≡ m = ap (λ (x : Way). x.end) same ∙ end in
            ap (λ l. walk_from s l (walk_within n t' places')) (ap (look_at t' places') at ∙ k.own) ∙ ap (λ (a : Access). Along (walk_end s a (Some h))) full ∙ ap (λ (x : Way). Along (record x { home = Some h })) same

        named : (g : Home) (a : Access) → look_at t places s ≡ Is (Page g a) → Along (walk_end s a (Some g)) ≡ Along w → walk_from s (look_at t' places' s) (walk_within n t' places') ≡ Along (record w { home = Some h })
        named g a l f =
            let same : walk_end s a (Some g) ≡ w = cc f in
            let at : s ≡ m = ap (λ (x : Way). x.end) same ∙ end in
            absurd (let z : Is (Page g a) ≡ Is Empty = sym l ∙ ap (look_at t places) at ∙ empty in cc z)

        behind : FilledRest n → (serial page : ℕ) (a : Access) → look_at t places s ≡ Is (Follows serial page a) → walked_behind s a (walk_within n t places (followed s serial page)) ≡ Along w → walk_from s (look_at t' places' s) (walk_within n t' places') ≡ Along (record w { home = Some h })
        behind ih serial page a l f = by (goes_on s a w (walk_within n t places (followed s serial page)) f)
          where
            by : GoesOn s a w (walk_within n t places (followed s serial page)) → walk_from s (look_at t' places' s) (walk_within n t' places') ≡ Along (record w { home = Some h })
            by x =
                ap (λ y. walk_from s y (walk_within n t' places')) (k.rest s serial page a l (λ same. (let z : Is (Follows serial page a) ≡ Is Empty = sym l ∙ ap (look_at t places) same ∙ empty in cc z)))
                ∙ ap (walked_behind s a) (ih (followed s serial page) x.way x.is (sym (ap (λ (y : Way). y.end) x.same) ∙ end)) ∙ ap (λ (y : Way). Along (record y { home = Some h })) (sym x.same)

        by : FilledRest n → (l : Looked) → look_at t places s ≡ l → walk_from s l (walk_within n t places) ≡ Along w → walk_from s (look_at t' places' s) (walk_within n t' places') ≡ Along (record w { home = Some h })
        by ih (Is Empty) l f = ended f
        by ih (Is (Page g a)) l f = named g a l f
        by ih (Is (Follows serial page a)) l f = behind ih serial page a l f
        by ih (MapAbsent home) l f = absurd (cc f)
        by ih Missing l f = absurd (cc f)
        by ih Refused l f = absurd (cc f)

    pub walk_filled : (s : Slot) (w : Way) → walk_at t places s ≡ Along w → w.end ≡ m → walk_at t' places' s ≡ Along (record w { home = Some h })
    unfolding walk_at
    walk_filled s w e end = filled_within 4 s w e end
