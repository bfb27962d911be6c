-- What chains are, and what becomes of them where an entry is set.
use Rattle.std.proofs.Common.{◌≡◌, ◌≢◌, ℕ, zero, suc, ◌+◌, Bool, true, false, cond, ◌&&◌, List, [], ◌∷◌, Option, None, Some, ◌⊎◌, inl, inr, refl, sym, ◌∙◌, ap}
use Rattle.std.specs.Prelude.{◌==◌, find, is_some, slice_get, slice_set}
use Rattle.std.specs.List.{list_all}
use Rattle.std.specs.Option.{option_map, option_map_or, option_and_then}
use Rattle.std.specs.Ordering.{eq_by_cmp, is_eq}
use Rattle.std.specs.Cmp.{Equal-is}
use Rattle.std.proofs.lemmas.Cmp.{tied_itself}
use Rattle.std.specs.FinMap as map
use Rattle.std.proofs.lemmas.Bool.Decides.{eqb_tells}
use Rattle.machine_names.specs.declared.names.ForkName.{ForkName}
use Rattle.machine_names.specs.declared.names.PageName.{PageName}
use Rattle.machine_names.specs.declared.names.Slot.{Slot}
use Rattle.machine_names.specs.declared.names.Access.{Access}
use Rattle.plain_pages.specs.declared.map.MapEntry.{MapEntry}
use Rattle.plain_pages.specs.declared.map.MapEntry.TheVariants.{Empty, Names, Follows}
use Rattle.plain_pages.specs.PlainPages.{Map, Maps}
use Rattle.machine_names.specs.Orders.{fork_cmp}
use Rattle.plain_pages.specs.Maps.{access_of, Entries, Link, Chain, entry_at, set_entry, followed, full_access, single_link, behind, chain_from, chain_within, permit_write}
use Rattle.machine_names.proofs.OrderLemmas.{fork_cmp_total, fork_cmp_apart}

abbrev pub marked : Link → Bool
marked l = l.access.c

-- a chain goes on behind a link where there is one
went_on : (s : Slot) (a : Access) (o : Option Chain) (c : Chain) → option_map (behind s a) o ≡ Some c → (d : Chain) × (o ≡ Some d) × (behind s a d ≡ c)
went_on s a None c h = absurd (cc h)
went_on s a (Some d) c h = (d, refl, cc h)

-- a chain from a slot whose entry is known
pub chain_here : (n : ℕ) (entries : Entries) (s : Slot) (e : Option MapEntry) → entries s ≡ e → chain_within (suc n) entries s ≡ chain_from s e (chain_within n entries)
unfolding chain_within
chain_here n entries s e h = ap (λ (x : Option MapEntry). chain_from s x (chain_within n entries)) h

-- a chain that names no page ends at an empty entry
pub chain_empty : (n : ℕ) (entries : Entries) (s : Slot) (c : Chain) → chain_within n entries s ≡ Some c → c.page ≡ None → entries c.end ≡ Some Empty
unfolding chain_within
chain_empty zero entries s c h none = absurd (cc h)
chain_empty (suc n) entries s c h none = by (λ t d g k. chain_empty n entries t d g k) (entries s) refl h
  where
    by : ((t : Slot) (d : Chain) → chain_within n entries t ≡ Some d → d.page ≡ None → entries d.end ≡ Some Empty) → (e : Option MapEntry) → entries s ≡ e → chain_from s e (chain_within n entries) ≡ Some c → entries c.end ≡ Some Empty
    by rest None is g = absurd (cc g)
    by rest (Some Empty) is g = let same : single_link s full_access None ≡ c = cc g in ap (λ (d : Chain). entries d.end) (sym same) ∙ is
    by rest (Some (Names m a)) is g = let same : single_link s a (Some m) ≡ c = cc g in absurd (let z : Some m ≡ None = ap (λ (d : Chain). d.page) same ∙ none in cc z)
    by rest (Some (Follows serial page a)) is g =
        let d = went_on s a (chain_within n entries (followed s serial page)) c g in
        ap (λ (x : Chain). entries x.end) (sym d.2) ∙ rest (followed s serial page) d.0 d.1 (ap (λ (x : Chain). x.page) d.2 ∙ none)

-- the first link with the copy mark is a slot whose entry has it
pub record IsMarked (entries : Entries) (l : Link) : Type 0 where
  pub entry : MapEntry
  pub there : entries l.slot ≡ Some entry
  pub mark : (access_of entry).c ≡ true

first_marked : (s : Slot) (a : Access) (ls : List Link) (l : Link) (b : Bool) → a.c ≡ b → cond b (Some (record { slot = s; access = a })) (find marked ls) ≡ Some l
    → ((b ≡ true) × (s ≡ l.slot)) ⊎ ((b ≡ false) × (find marked ls ≡ Some l))
first_marked s a ls l true is h = inl (refl, (let same : record { slot = s; access = a } ≡ l = cc h in ap (λ (k : Link). k.slot) same))
first_marked s a ls l false is h = inr (refl, h)

pub chain_marked : (n : ℕ) (entries : Entries) (s : Slot) (c : Chain) (l : Link) → chain_within n entries s ≡ Some c → find marked c.links ≡ Some l → IsMarked entries l
unfolding chain_within
chain_marked zero entries s c l h f = absurd (cc h)
chain_marked (suc n) entries s c l h f = by (λ t d g k. chain_marked n entries t d l g k) (entries s) refl h
  where
    -- the link of this slot has the mark, or the rest has
    here : (e : MapEntry) (ls : List Link) → entries s ≡ Some e → find marked (record { slot = s; access = access_of e } ∷ ls) ≡ Some l → (find marked ls ≡ Some l → IsMarked entries l) → IsMarked entries l
    here e ls is g later = elim (first_marked s (access_of e) ls l (access_of e).c refl g) [
      | inl m ↦ record { entry = e; there = ap entries (sym m.1) ∙ is; mark = m.0 }
      | inr m ↦ later m.1
    ]

    links_of : (d : Chain) → d ≡ c → find marked d.links ≡ Some l
    links_of d same = ap (λ (x : Chain). find marked x.links) same ∙ f

    by : ((t : Slot) (d : Chain) → chain_within n entries t ≡ Some d → find marked d.links ≡ Some l → IsMarked entries l) → (e : Option MapEntry) → entries s ≡ e → chain_from s e (chain_within n entries) ≡ Some c → IsMarked entries l
    by rest None is g = absurd (cc g)
    by rest (Some Empty) is g = here Empty [] is (links_of (single_link s full_access None) (cc g)) (λ k. absurd (cc k))
    by rest (Some (Names m a)) is g = here (Names m a) [] is (links_of (single_link s a (Some m)) (cc g)) (λ k. absurd (cc k))
    by rest (Some (Follows serial page a)) is g =
        let d = went_on s a (chain_within n entries (followed s serial page)) c g in
        here (Follows serial page a) d.0.links is (links_of (behind s a d.0) d.2) (λ k. rest (followed s serial page) d.0 d.1 k)

-- a page named where a chain was empty
module _ (old new : Entries) (end : Slot) (page : PageName) (goes : (t : Slot) (serial at : ℕ) (a : Access) → old t ≡ Some (Follows serial at a) → new t ≡ Some (Follows serial at a)) (set : new end ≡ Some (Names page full_access)) where
  pub chain_filled : (n : ℕ) (s : Slot) (c : Chain) → chain_within n old s ≡ Some c → c.page ≡ None → c.end ≡ end → chain_within n new s ≡ Some (record c { page = Some page })
  unfolding chain_within
  chain_filled zero s c h none is_end = absurd (cc h)
  chain_filled (suc n) s c h none is_end = by (λ t d g k m. chain_filled n t d g k m) (old s) refl h
    where
      by : ((t : Slot) (d : Chain) → chain_within n old t ≡ Some d → d.page ≡ None → d.end ≡ end → chain_within n new t ≡ Some (record d { page = Some page })) → (e : Option MapEntry) → old s ≡ e → chain_from s e (chain_within n old) ≡ Some c
          → chain_from s (new s) (chain_within n new) ≡ Some (record c { page = Some page })
      by rest None is g = absurd (cc g)
      by rest (Some Empty) is g =
          let same : single_link s full_access None ≡ c = cc g in
          let here : s ≡ end = ap (λ (d : Chain). d.end) same ∙ is_end in
          ap (λ (e : Option MapEntry). chain_from s e (chain_within n new)) (ap new here ∙ set) ∙ ap (λ (d : Chain). Some (record d { page = Some page })) same
      by rest (Some (Names m a)) is g = let same : single_link s a (Some m) ≡ c = cc g in absurd (let z : Some m ≡ None = ap (λ (d : Chain). d.page) same ∙ none in cc z)
      by rest (Some (Follows serial at a)) is g =
          let d = went_on s a (chain_within n old (followed s serial at)) c g in
          let r = rest (followed s serial at) d.0 d.1 (ap (λ (x : Chain). x.page) d.2 ∙ none) (ap (λ (x : Chain). x.end) d.2 ∙ is_end) in
          ap (λ (e : Option MapEntry). chain_from s e (chain_within n new)) (goes s serial at a is) ∙ ap (option_map (behind s a)) r ∙ ap (λ (x : Chain). Some (record x { page = Some page })) d.2

-- a private copy in the first slot with the copy mark
pub record IsPrivate (page : PageName) (c : Chain) : Type 0 where
  pub named : c.page ≡ Some page
  pub unmarked : find marked c.links ≡ None
  pub writes : permit_write c.links ≡ true

module _ (old new : Entries) (at : Slot) (page : PageName) (x : Bool) (others : (t : Slot) (e : MapEntry) → old t ≡ Some e → (access_of e).c ≡ false → new t ≡ Some e) (set : new at ≡ Some (Names page (record full_access { x = x }))) where
  private_behind : (s : Slot) (a : Access) (c : Chain) → a.c ≡ false → a.w ≡ true → IsPrivate page c → IsPrivate page (behind s a c)
  private_behind s a c not_marked writes i = record {
    named = i.named;
    unmarked = ap (λ b. cond b (Some (record { slot = s; access = a })) (find marked c.links)) not_marked ∙ i.unmarked;
    writes = ap (λ b. cond b (list_all (λ (k : Link). k.access.r) c.links) (a.w && permit_write c.links)) not_marked ∙ ap (λ b. b && permit_write c.links) writes ∙ i.writes;
  }

  first_writes : (a b : Bool) → (a && b) ≡ true → (a ≡ true) × (b ≡ true)
  first_writes true b h = (refl, h)
  first_writes false b h = absurd (cc h)

  pub chain_copied : (n : ℕ) (s : Slot) (c : Chain) (l : Link) → chain_within n old s ≡ Some c → find marked c.links ≡ Some l → l.slot ≡ at → permit_write c.links ≡ true → (d : Chain) × (chain_within n new s ≡ Some d) × IsPrivate page d
  unfolding chain_within
  chain_copied zero s c l h f is_at permitted = absurd (cc h)
  chain_copied (suc n) s c l h f is_at permitted = by (λ t d g k m. chain_copied n t d l g k is_at m) (old s) refl h
    where
      Copied : Type 0
      Copied = (d : Chain) × (chain_from s (new s) (chain_within n new) ≡ Some d) × IsPrivate page d

      here : s ≡ l.slot → Copied
      here same = (
        single_link s (record full_access { x = x }) (Some page),
        ap (λ (e : Option MapEntry). chain_from s e (chain_within n new)) (ap new (same ∙ is_at) ∙ set),
        record { named = refl; unmarked = refl; writes = refl },
      )

      last : (a : Access) (p : Option PageName) → single_link s a p ≡ c → Copied
      last a p same = elim (first_marked s a [] l a.c refl (ap (λ (y : Chain). find marked y.links) same ∙ f)) [ inl m ↦ here m.1 | inr m ↦ absurd (cc m.1) ]

      by : ((t : Slot) (d : Chain) → chain_within n old t ≡ Some d → find marked d.links ≡ Some l → permit_write d.links ≡ true → (e : Chain) × (chain_within n new t ≡ Some e) × IsPrivate page e) → (e : Option MapEntry) → old s ≡ e → chain_from s e (chain_within n old) ≡ Some c → Copied
      by rest None is g = absurd (cc g)
      by rest (Some Empty) is g = last full_access None (cc g)
      by rest (Some (Names m a)) is g = last a (Some m) (cc g)
      by rest (Some (Follows serial to a)) is g =
          let d = went_on s a (chain_within n old (followed s serial to)) c g in
          let may : permit_write (behind s a d.0).links ≡ true = ap (λ (y : Chain). permit_write y.links) d.2 ∙ permitted in
          elim (first_marked s a d.0.links l a.c refl (ap (λ (y : Chain). find marked y.links) d.2 ∙ f)) [
            | inl m ↦ here m.1
            | inr m ↦
                let both = first_writes a.w (permit_write d.0.links) (sym (ap (λ b. cond b (list_all (λ (k : Link). k.access.r) d.0.links) (a.w && permit_write d.0.links)) m.0) ∙ may) in
                let r = rest (followed s serial to) d.0 d.1 m.1 both.1 in
                (behind s a r.0, ap (λ (e : Option MapEntry). chain_from s e (chain_within n new)) (others s (Follows serial to a) is m.0) ∙ ap (option_map (behind s a)) r.1, private_behind s a r.0 m.0 both.0 r.2)
          ]

get_set_at : (m : Map) (i : ℕ) (d e : MapEntry) → slice_get m i ≡ Some d → slice_get (slice_set m i e) i ≡ Some e
get_set_at [] i d e h = absurd (cc h)
get_set_at (x ∷ xs) zero d e h = refl
get_set_at (x ∷ xs) (suc i) d e h = get_set_at xs i d e h

get_set_other : (m : Map) (i j : ℕ) (e : MapEntry) → i ≢ j → slice_get (slice_set m i e) j ≡ slice_get m j
get_set_other [] i j e ne = refl
get_set_other (x ∷ xs) zero zero e ne = absurd (ne refl)
get_set_other (x ∷ xs) zero (suc j) e ne = refl
get_set_other (x ∷ xs) (suc i) zero e ne = refl
get_set_other (x ∷ xs) (suc i) (suc j) e ne = get_set_other xs i j e (λ is. ne (ap suc is))

-- an entry stands in its map
pub entry_map : (m : Option Map) (page : ℕ) (e : MapEntry) → option_and_then (λ n. slice_get n page) m ≡ Some e → (n : Map) × (m ≡ Some n) × (slice_get n page ≡ Some e)
entry_map None page e h = absurd (cc h)
entry_map (Some m) page e h = (m, refl, h)

-- two slots are one, or not
pub slot_tells : (s t : Slot) → (s ≡ t) ⊎ (s ≢ t)
slot_tells s t = by (eq_by_cmp fork_cmp s.fork t.fork) refl (eqb_tells s.page t.page)
  where
    by : (b : Bool) → eq_by_cmp fork_cmp s.fork t.fork ≡ b → (((s.page == t.page) ≡ true) × (s.page ≡ t.page)) ⊎ (((s.page == t.page) ≡ false) × (s.page ≢ t.page)) → (s ≡ t) ⊎ (s ≢ t)
    by true is (inl e) = let f : s.fork ≡ t.fork = fork_cmp_apart s.fork t.fork ((Equal-is (fork_cmp s.fork t.fork)).0 is) in inl (λ i. record { fork = f i; page = e.1 i })
    by true is (inr e) = inr (λ h. e.1 (ap (λ (u : Slot). u.page) h))
    by false is e = inr (λ h. (let tied : eq_by_cmp fork_cmp s.fork t.fork ≡ true = ap (λ (u : Slot). eq_by_cmp fork_cmp u.fork t.fork) h ∙ ap is_eq (tied_itself fork_cmp_total t.fork) in cc (is, tied)))

module _ (maps : Maps) (s : Slot) (e y : MapEntry) (h : entry_at maps s ≡ Some e) where
  m : (n : Map) × (map.get maps s.fork ≡ Some n) × (slice_get n s.page ≡ Some e)
  m = entry_map (map.get maps s.fork) s.page e h

  set_is : set_entry maps s y ≡ map.insert maps s.fork (slice_set m.0 s.page y)
  set_is = ap (λ (o : Option Map). option_map_or (λ n. map.insert maps s.fork (slice_set n s.page y)) o maps) m.1

  -- no fork more or less
  pub len_set : map.len (set_entry maps s y) ≡ map.len maps
  len_set = ap map.len set_is ∙ map.len-insert fork_cmp_total maps s.fork (slice_set m.0 s.page y) ∙ ap (λ (o : Option Map). cond (is_some o) (map.len maps) (map.len maps + 1)) m.1

  pub keys_set : (f : ForkName) → map.contains_key (set_entry maps s y) f ≡ map.contains_key maps f
  keys_set f = ap (λ (n : Maps). map.contains_key n f) set_is ∙ ap is_some (map.get-insert fork_cmp_total maps s.fork (slice_set m.0 s.page y) f) ∙ by (eq_by_cmp fork_cmp f s.fork) refl
    where
      by : (b : Bool) → eq_by_cmp fork_cmp f s.fork ≡ b → is_some (cond b (Some (slice_set m.0 s.page y)) (map.get maps f)) ≡ map.contains_key maps f
      by true is =
          let g : f ≡ s.fork = fork_cmp_apart f s.fork ((Equal-is (fork_cmp f s.fork)).0 is) in
          sym (ap is_some (ap (map.get maps) g ∙ m.1))
      by false is = refl

  set_get : (t : Slot) → entry_at (set_entry maps s y) t ≡ option_and_then (λ n. slice_get n t.page) (cond (eq_by_cmp fork_cmp t.fork s.fork) (Some (slice_set m.0 s.page y)) (map.get maps t.fork))
  set_get t = ap (λ (n : Maps). entry_at n t) set_is ∙ ap (λ (o : Option Map). option_and_then (λ n. slice_get n t.page) o) (map.get-insert fork_cmp_total maps s.fork (slice_set m.0 s.page y) t.fork)

  -- the slot that was set
  pub entry_set : entry_at (set_entry maps s y) s ≡ Some y
  entry_set = set_get s ∙ ap (λ b. option_and_then (λ n. slice_get n s.page) (cond (is_eq b) (Some (slice_set m.0 s.page y)) (map.get maps s.fork))) (tied_itself fork_cmp_total s.fork) ∙ get_set_at m.0 s.page e y m.2

  -- each other slot
  pub entry_other : (t : Slot) → t ≢ s → entry_at (set_entry maps s y) t ≡ entry_at maps t
  entry_other t ne = set_get t ∙ by (eq_by_cmp fork_cmp t.fork s.fork) refl
    where
      by : (b : Bool) → eq_by_cmp fork_cmp t.fork s.fork ≡ b → option_and_then (λ n. slice_get n t.page) (cond b (Some (slice_set m.0 s.page y)) (map.get maps t.fork)) ≡ entry_at maps t
      by true is =
          let f : t.fork ≡ s.fork = fork_cmp_apart t.fork s.fork ((Equal-is (fork_cmp t.fork s.fork)).0 is) in
          let there : map.get maps t.fork ≡ Some m.0 = ap (map.get maps) f ∙ m.1 in
          get_set_other m.0 s.page t.page y (λ g. ne (λ i. record { fork = f i; page = sym g i })) ∙ sym (ap (λ (o : Option Map). option_and_then (λ n. slice_get n t.page) o) there)
      by false is = refl
