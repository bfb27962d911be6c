-- What stands at the end of a chain, and at the first copy mark on it.
use Rattle.std.proofs.Common.{◌≡◌, ◌≢◌, ℕ, zero, suc, Bool, true, false, cond, List, [], ◌∷◌, Option, None, Some, ◌⊎◌, inl, inr, refl, sym, ◌∙◌, ap}
use Rattle.std.specs.Prelude.{find}
use Rattle.std.specs.Option.{option_map, option_and_then}
use Rattle.machine_names.specs.declared.names.PageName.{PageName}
use Rattle.machine_names.specs.declared.names.Slot.{Slot}
use Rattle.machine_names.specs.declared.names.Access.{Access}
use Rattle.plain_pages.specs.declared.map.MapEntry.{MapEntry}
use Rattle.plain_pages.specs.declared.map.MapEntry.TheVariants.{Empty, Names, Follows}
use Rattle.plain_pages.specs.Maps.{Entries, Link, Chain, followed, full_access, single_link, behind, chain_from, chain_within, access_of}
use Rattle.plain_pages.proofs.Chains.{marked, IsMarked, slot_tells, chain_here, chain_empty, chain_marked}

-- A chain by its first entry: it is empty, it names a page, or it follows another and the chain goes on there.
pub data Begun (n : ℕ) (entries : Entries) (s : Slot) (c : Chain) : Type 0 where
  at_empty : entries s ≡ Some Empty → single_link s full_access None ≡ c → Begun n entries s c
  at_page : (x : PageName) (a : Access) → entries s ≡ Some (Names x a) → single_link s a (Some x) ≡ c → Begun n entries s c
  at_other : (serial page : ℕ) (a : Access) (d : Chain) → entries s ≡ Some (Follows serial page a) → chain_within n entries (followed s serial page) ≡ Some d → behind s a d ≡ c → Begun n entries s c

pub begun : (n : ℕ) (entries : Entries) (s : Slot) (c : Chain) → chain_within (suc n) entries s ≡ Some c → Begun n entries s c
unfolding chain_within
begun n entries s c h = by (entries s) refl h
  where
    goes : (serial page : ℕ) (a : Access) → entries s ≡ Some (Follows serial page a) → (o : Option Chain) → chain_within n entries (followed s serial page) ≡ o → option_map (behind s a) o ≡ Some c → Begun n entries s c
    goes serial page a is None k g = absurd (cc g)
    goes serial page a is (Some d) k g = at_other serial page a d is k (cc g)

    by : (e : Option MapEntry) → entries s ≡ e → chain_from s e (chain_within n entries) ≡ Some c → Begun n entries s c
    by None is g = absurd (cc g)
    by (Some Empty) is g = at_empty is (cc g)
    by (Some (Names x a)) is g = at_page x a is (cc g)
    by (Some (Follows serial page a)) is g = goes serial page a is (chain_within n entries (followed s serial page)) refl g

pub no_chain_within : (entries : Entries) (s : Slot) (c : Chain) → chain_within zero entries s ≡ Some c → ⊥
unfolding chain_within
no_chain_within entries s c h = cc h

-- a chain that names a page ends at an entry that names it
pub chain_named : (n : ℕ) (entries : Entries) (s : Slot) (c : Chain) (x : PageName) → chain_within n entries s ≡ Some c → c.page ≡ Some x → (a : Access) × (entries c.end ≡ Some (Names x a))
chain_named zero entries s c x h page = absurd (no_chain_within entries s c h)
chain_named (suc n) entries s c x h page = by (λ t d g k. chain_named n entries t d x g k) (begun n entries s c h)
  where
    by : ((t : Slot) (d : Chain) → chain_within n entries t ≡ Some d → d.page ≡ Some x → (a : Access) × (entries d.end ≡ Some (Names x a))) → Begun n entries s c → (a : Access) × (entries c.end ≡ Some (Names x a))
    by rest (at_empty is same) = absurd (let z : None ≡ Some x = ap (λ (d : Chain). d.page) same ∙ page in cc z)
    by rest (at_page y a is same) =
        let z : Some y ≡ Some x = ap (λ (d : Chain). d.page) same ∙ page in
        let one : y ≡ x = cc z in
        (a, ap (λ (d : Chain). entries d.end) (sym same) ∙ is ∙ ap (λ (m : PageName). Some (Names m a)) one)
    by rest (at_other serial to a d is g same) =
        let r = rest (followed s serial to) d g (ap (λ (e : Chain). e.page) same ∙ page) in
        (r.0, ap (λ (e : Chain). entries e.end) (sym same) ∙ r.1)

-- the first mark of a list of links is at its head, or in the rest
pub marked_first : (s : Slot) (a : Access) (ls : List Link) (l : Link) → find marked (record { slot = s; access = a } ∷ ls) ≡ Some l → (s ≡ l.slot) ⊎ (find marked ls ≡ Some l)
marked_first s a ls l h = by a.c h
  where
    by : (b : Bool) → cond b (Some (record { slot = s; access = a })) (find marked ls) ≡ Some l → (s ≡ l.slot) ⊎ (find marked ls ≡ Some l)
    by true g = let same : record { slot = s; access = a } ≡ l = cc g in inl (ap (λ (k : Link). k.slot) same)
    by false g = inr g

-- where the entry at the first mark names a page, the chain ends there
pub mark_ends : (n : ℕ) (entries : Entries) (s : Slot) (c : Chain) (l : Link) (x : PageName) (b : Access) → chain_within n entries s ≡ Some c → find marked c.links ≡ Some l → entries l.slot ≡ Some (Names x b) → l.slot ≡ c.end
mark_ends zero entries s c l x b h f named = absurd (no_chain_within entries s c h)
mark_ends (suc n) entries s c l x b h f named = by (λ t d g k. mark_ends n entries t d l x b g k named) (begun n entries s c h)
  where
    none : find marked [] ≡ Some l → ⊥
    none g = cc g

    by : ((t : Slot) (d : Chain) → chain_within n entries t ≡ Some d → find marked d.links ≡ Some l → l.slot ≡ d.end) → Begun n entries s c → l.slot ≡ c.end
    by rest (at_empty is same) = absurd (let z : None ≡ Some l = ap (λ (d : Chain). find marked d.links) same ∙ f in cc z)
    by rest (at_page y a is same) = elim (marked_first s a [] l (ap (λ (d : Chain). find marked d.links) same ∙ f)) [
      | inl e ↦ sym e ∙ ap (λ (d : Chain). d.end) same
      | inr g ↦ absurd (none g)
    ]
    by rest (at_other serial to a d is g same) = elim (marked_first s a d.links l (ap (λ (e : Chain). find marked e.links) same ∙ f)) [
      | inl e ↦ absurd (let z : Some (Follows serial to a) ≡ Some (Names x b) = sym is ∙ ap entries e ∙ named in cc z)
      | inr k ↦ rest (followed s serial to) d g k ∙ ap (λ (e : Chain). e.end) same
    ]

-- What stands at the first mark: an entry that follows another, apart from the end; or the end, which names the chain's page.
pub data AtMark (entries : Entries) (c : Chain) (l : Link) : Type 0 where
  mark_follows : (serial page : ℕ) (a : Access) → entries l.slot ≡ Some (Follows serial page a) → l.slot ≢ c.end → AtMark entries c l
  mark_names : (x : PageName) (a : Access) → entries l.slot ≡ Some (Names x a) → l.slot ≡ c.end → c.page ≡ Some x → AtMark entries c l

-- what stands at the end: nothing, or the page of the chain
pub data AtEnd (entries : Entries) (c : Chain) : Type 0 where
  ends_empty : entries c.end ≡ Some Empty → c.page ≡ None → AtEnd entries c
  ends_named : (x : PageName) (a : Access) → entries c.end ≡ Some (Names x a) → c.page ≡ Some x → AtEnd entries c

pub at_end : (n : ℕ) (entries : Entries) (s : Slot) (c : Chain) → chain_within n entries s ≡ Some c → AtEnd entries c
at_end n entries s c h = by c.page refl
  where
    by : (o : Option PageName) → c.page ≡ o → AtEnd entries c
    by None is = ends_empty (chain_empty n entries s c h is) is
    by (Some x) is = let e = chain_named n entries s c x h is in ends_named x e.0 e.1 is

pub at_mark : (n : ℕ) (entries : Entries) (s : Slot) (c : Chain) (l : Link) → chain_within n entries s ≡ Some c → find marked c.links ≡ Some l → AtMark entries c l
at_mark n entries s c l h f = by (chain_marked n entries s c l h f)
  where
    named : (x : PageName) (a : Access) → entries l.slot ≡ Some (Names x a) → AtEnd entries c → AtMark entries c l
    named x a is (ends_empty e none) = absurd (let z : Some (Names x a) ≡ Some Empty = sym is ∙ ap entries (mark_ends n entries s c l x a h f is) ∙ e in cc z)
    named x a is (ends_named y b e page) =
        let end = mark_ends n entries s c l x a h f is in
        let z : Some (Names x a) ≡ Some (Names y b) = sym is ∙ ap entries end ∙ e in
        let one : y ≡ x = cc z in
        mark_names x a is end (page ∙ ap Some one)

    apart : (serial page : ℕ) (a : Access) → entries l.slot ≡ Some (Follows serial page a) → AtEnd entries c → l.slot ≡ c.end → ⊥
    apart serial page a is (ends_empty e none) same = (let z : Some (Follows serial page a) ≡ Some Empty = sym is ∙ ap entries same ∙ e in cc z)
    apart serial page a is (ends_named y b e there) same = (let z : Some (Follows serial page a) ≡ Some (Names y b) = sym is ∙ ap entries same ∙ e in cc z)

    on : (e : MapEntry) → entries l.slot ≡ Some e → (access_of e).c ≡ true → AtMark entries c l
    on Empty is mark = absurd (cc mark)
    on (Names x a) is mark = named x a is (at_end n entries s c h)
    on (Follows serial page a) is mark = mark_follows serial page a is (λ same. apart serial page a is (at_end n entries s c h) same)

    by : IsMarked entries l → AtMark entries c l
    by m = on m.entry m.there m.mark

-- a chain that exists is the same where more entries are enough
pub chain_longer : (n : ℕ) (entries : Entries) (s : Slot) (c : Chain) → chain_within n entries s ≡ Some c → chain_within (suc n) entries s ≡ Some c
chain_longer zero entries s c h = absurd (no_chain_within entries s c h)
chain_longer (suc n) entries s c h = by (λ t d g. chain_longer n entries t d g) (begun n entries s c h)
  where
    by : ((t : Slot) (d : Chain) → chain_within n entries t ≡ Some d → chain_within (suc n) entries t ≡ Some d) → Begun n entries s c → chain_within (suc (suc n)) entries s ≡ Some c
    by rest (at_empty is same) = chain_here (suc n) entries s (Some Empty) is ∙ ap (λ (d : Chain). Some d) same
    by rest (at_page x a is same) = chain_here (suc n) entries s (Some (Names x a)) is ∙ ap (λ (d : Chain). Some d) same
    by rest (at_other serial to a d is g same) =
        chain_here (suc n) entries s (Some (Follows serial to a)) is ∙ ap (option_map (behind s a)) (rest (followed s serial to) d g) ∙ ap (λ (e : Chain). Some e) same

-- the chain of a slot on the way ends where this one ends
pub mark_chain : (n : ℕ) (entries : Entries) (s : Slot) (c : Chain) (l : Link) → chain_within n entries s ≡ Some c → find marked c.links ≡ Some l
    → (d : Chain) × (chain_within n entries l.slot ≡ Some d) × (d.end ≡ c.end) × (d.page ≡ c.page)
mark_chain zero entries s c l h f = absurd (no_chain_within entries s c h)
mark_chain (suc n) entries s c l h f = by (λ t d g k. mark_chain n entries t d l g k) (begun n entries s c h)
  where
    Onward : ℕ → Chain → Type 0
    Onward k d = (e : Chain) × (chain_within k entries l.slot ≡ Some e) × (e.end ≡ d.end) × (e.page ≡ d.page)

    here : s ≡ l.slot → Onward (suc n) c
    here same = (c, ap (chain_within (suc n) entries) (sym same) ∙ h, refl, refl)

    none : find marked [] ≡ Some l → ⊥
    none g = cc g

    by : ((t : Slot) (d : Chain) → chain_within n entries t ≡ Some d → find marked d.links ≡ Some l → Onward n d) → Begun n entries s c → Onward (suc n) c
    by rest (at_empty is same) = absurd (let z : None ≡ Some l = ap (λ (d : Chain). find marked d.links) same ∙ f in cc z)
    by rest (at_page y a is same) = elim (marked_first s a [] l (ap (λ (d : Chain). find marked d.links) same ∙ f)) [ inl e ↦ here e | inr g ↦ absurd (none g) ]
    by rest (at_other serial to a d is g same) = elim (marked_first s a d.links l (ap (λ (e : Chain). find marked e.links) same ∙ f)) [
      | inl e ↦ here e
      | inr k ↦ (let r = rest (followed s serial to) d g k in (r.0, chain_longer n entries l.slot r.0 r.1, r.2 ∙ ap (λ (e : Chain). e.end) same, r.3 ∙ ap (λ (e : Chain). e.page) same))
    ]

-- the page of a slot's chain, where so many entries are enough
abbrev pub page_within : ℕ → Entries → Slot → Option PageName
page_within n entries s = option_and_then (λ c. c.page) (chain_within n entries s)

-- Where an entry names a page that did not: a chain that comes there ends at that page, and each other names what it named.
module _ (old new : Entries) (m : Slot) (x : PageName) (b : Access) (here : new m ≡ Some (Names x b)) (others : (t : Slot) → t ≢ m → new t ≡ old t) where
  no_page : (entries : Entries) (s : Slot) → page_within zero entries s ≡ None
  unfolding chain_within
  no_page entries s = refl

  page_goes_on : (s : Slot) (a : Access) (o : Option Chain) → option_and_then (λ c. c.page) (option_map (behind s a) o) ≡ option_and_then (λ c. c.page) o
  page_goes_on s a None = refl
  page_goes_on s a (Some c) = refl

  page_from : (n : ℕ) (entries : Entries) (s : Slot) (e : Option MapEntry) → entries s ≡ e → page_within (suc n) entries s ≡ option_and_then (λ c. c.page) (chain_from s e (chain_within n entries))
  page_from n entries s e is = ap (option_and_then (λ c. c.page)) (chain_here n entries s e is)

  pub page_made : (n : ℕ) (s : Slot) → (page_within n new s ≡ Some x) ⊎ (page_within n new s ≡ page_within n old s)
  page_made zero s = inr (no_page new s ∙ sym (no_page old s))
  page_made (suc n) s = by (λ t. page_made n t) (slot_tells s m)
    where
      same_entry : ((t : Slot) → (page_within n new t ≡ Some x) ⊎ (page_within n new t ≡ page_within n old t)) → (e : Option MapEntry) → old s ≡ e → new s ≡ e
          → (page_within (suc n) new s ≡ Some x) ⊎ (page_within (suc n) new s ≡ page_within (suc n) old s)
      same_entry rest None is now = inr (page_from n new s None now ∙ sym (page_from n old s None is))
      same_entry rest (Some Empty) is now = inr (page_from n new s (Some Empty) now ∙ sym (page_from n old s (Some Empty) is))
      same_entry rest (Some (Names y a)) is now = inr (page_from n new s (Some (Names y a)) now ∙ sym (page_from n old s (Some (Names y a)) is))
      same_entry rest (Some (Follows serial page a)) is now =
          let t = followed s serial page in
          let there = page_from n new s (Some (Follows serial page a)) now ∙ page_goes_on s a (chain_within n new t) in
          let before = page_from n old s (Some (Follows serial page a)) is ∙ page_goes_on s a (chain_within n old t) in
          elim (rest t) [ inl k ↦ inl (there ∙ k) | inr k ↦ inr (there ∙ k ∙ sym before) ]

      by : ((t : Slot) → (page_within n new t ≡ Some x) ⊎ (page_within n new t ≡ page_within n old t)) → (s ≡ m) ⊎ (s ≢ m) → (page_within (suc n) new s ≡ Some x) ⊎ (page_within (suc n) new s ≡ page_within (suc n) old s)
      by rest (inl same) = inl (page_from n new s (Some (Names x b)) (ap new same ∙ here))
      by rest (inr ne) = same_entry rest (old s) refl (others s ne)
