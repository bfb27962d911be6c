-- Chains, by the entries that are reached from a slot.
use Rattle.std.proofs.Common.{◌≡◌, ◌↔◌, ℕ, zero, suc, ◌+◌, ◌≤◌, Bool, true, false, ◌&&◌, List, [], ◌∷◌, length, Option, None, Some, ◌⊎◌, inl, inr, refl, sym, ◌∙◌, ap, subst, arith}
use Rattle.std.specs.Prelude.{◌==◌}
use Rattle.std.specs.List.{list_all}
use Rattle.std.specs.Option.{option_map, option_and_then}
use Rattle.std.proofs.lemmas.Bool.Decides.{eqb_tells}
use Rattle.machine_names.specs.declared.names.PageName.{PageName}
use Rattle.machine_names.specs.declared.names.Slot.{Slot}
use Rattle.machine_names.specs.declared.names.Access.{Access}
use Rattle.plain_pages.specs.declared.map.MapEntry.{MapEntry}
use Rattle.plain_pages.specs.declared.map.MapEntry.TheVariants.{Empty, Names, Follows}
use Rattle.plain_pages.specs.Maps.{Entries, Link, Chain, followed, full_access, access_of, next_slot, reached, single_link, behind, chain_within, chain}
use Rattle.plain_pages.proofs.Chains.{chain_here}
use Rattle.plain_pages.proofs.Ends.{Begun, at_empty, at_page, at_other, begun, no_chain_within}

module _ (entries : Entries) where
  -- by the entry of the first slot
  reached_from : (n : ℕ) (s : Slot) (e : MapEntry) → entries s ≡ Some e → reached (suc n) entries s ≡ option_and_then (reached n entries) (next_slot s e)
  reached_from n s e h = ap (λ (o : Option MapEntry). option_and_then (reached n entries) (option_and_then (next_slot s) o)) h

  -- where some entries are enough for a chain, one more is
  pub chain_more : (n : ℕ) (s : Slot) (c : Chain) → chain_within n entries s ≡ Some c → chain_within (suc n) entries s ≡ Some c
  chain_more zero s c h = absurd (no_chain_within entries s c h)
  chain_more (suc n) s c h = by (λ t d g. chain_more n t d g) (begun n entries s c h)
    where
      by : ((t : Slot) (d : Chain) → chain_within n entries t ≡ Some d → chain_within (suc n) entries t ≡ Some d) → Begun n entries s c → chain_within (suc (suc n)) entries s ≡ Some c
      by more (at_empty is same) = chain_here (suc n) entries s (Some Empty) is ∙ ap Some same
      by more (at_page x a is same) = chain_here (suc n) entries s (Some (Names x a)) is ∙ ap Some same
      by more (at_other serial page a d is g same) = chain_here (suc n) entries s (Some (Follows serial page a)) is ∙ ap (option_map (behind s a)) (more (followed s serial page) d g) ∙ ap Some same

  pub chain_enough : (n m : ℕ) (s : Slot) (c : Chain) → n ≤ m → chain_within n entries s ≡ Some c → chain_within m entries s ≡ Some c
  chain_enough n zero s c le h = absurd (no_chain_within entries s c (let none : n ≡ 0 = omega (arith, le) in subst (λ k. chain_within k entries s ≡ Some c) none h))
  chain_enough n (suc m) s c le h = by (λ less. chain_enough n m s c less h) (eqb_tells n (suc m))
    where
      by : (n ≤ m → chain_within m entries s ≡ Some c) → (((n == suc m) ≡ true) × (n ≡ suc m)) ⊎ (((n == suc m) ≡ false) × (n ≡ suc m → ⊥)) → chain_within (suc m) entries s ≡ Some c
      by rest (inl e) = subst (λ k. chain_within k entries s ≡ Some c) e.1 h
      by rest (inr e) = chain_more m s c (rest (below e.1))
        where
          below : (n ≡ suc m → ⊥) → n ≤ m
          below ne = omega (arith, le, ne)

  -- it has no more entries than are enough, and one at least
  pub chain_short : (n : ℕ) (s : Slot) (c : Chain) → chain_within n entries s ≡ Some c → (1 ≤ length c.links) × (length c.links ≤ n)
  chain_short zero s c h = absurd (no_chain_within entries s c h)
  chain_short (suc n) s c h = by (λ t d g. chain_short n t d g) (begun n entries s c h)
    where
      by : ((t : Slot) (d : Chain) → chain_within n entries t ≡ Some d → (1 ≤ length d.links) × (length d.links ≤ n)) → Begun n entries s c → (1 ≤ length c.links) × (length c.links ≤ suc n)
      by short (at_empty is same) = let one : 1 ≡ length c.links = ap (λ (d : Chain). length d.links) same in (omega (arith, one), omega (arith, one))
      by short (at_page x a is same) = let one : 1 ≡ length c.links = ap (λ (d : Chain). length d.links) same in (omega (arith, one), omega (arith, one))
      by short (at_other serial page a d is g same) =
          let more : suc (length d.links) ≡ length c.links = ap (λ (d : Chain). length d.links) same in
          let rest = short (followed s serial page) d g in
          (omega (arith, more), omega (arith, more, rest.1))

  -- A chain goes on at each slot that is reached: with the rest of its entries, and the same end and page.
  pub record GoesOn (n k : ℕ) (t : Slot) (c : Chain) : Type 0 where
    pub rest : Chain
    pub is : chain_within n entries t ≡ Some rest
    pub shorter : length c.links ≡ length rest.links + k
    pub end : rest.end ≡ c.end
    pub page : rest.page ≡ c.page

  no_step : (k : ℕ) (s t : Slot) (e : MapEntry) → entries s ≡ Some e → next_slot s e ≡ None → reached (suc k) entries s ≡ Some t → ⊥
  no_step k s t e is none h = (let z : None ≡ Some t = ap (option_and_then (reached k entries)) (sym none) ∙ sym (reached_from k s e is) ∙ h in cc z)

  pub goes_on : (k n : ℕ) (s t : Slot) (c : Chain) → chain_within n entries s ≡ Some c → reached k entries s ≡ Some t → GoesOn n k t c
  goes_on zero n s t c h r = let same : s ≡ t = cc r in record { rest = c; is = subst (λ (u : Slot). chain_within n entries u ≡ Some c) same h; shorter = omega arith; end = refl; page = refl }
  goes_on (suc k) zero s t c h r = absurd (no_chain_within entries s c h)
  goes_on (suc k) (suc n) s t c h r = by (λ u d g q. goes_on k n u t d g q) (begun n entries s c h)
    where
      by : ((u : Slot) (d : Chain) → chain_within n entries u ≡ Some d → reached k entries u ≡ Some t → GoesOn n k t d) → Begun n entries s c → GoesOn (suc n) (suc k) t c
      by on (at_empty is same) = absurd (no_step k s t Empty is refl r)
      by on (at_page x a is same) = absurd (no_step k s t (Names x a) is refl r)
      by on (at_other serial page a d is g same) =
          let o = on (followed s serial page) d g (sym (reached_from k s (Follows serial page a) is) ∙ r) in
          let more : suc (length d.links) ≡ length c.links = ap (λ (d : Chain). length d.links) same in
          record {
            rest = o.rest;
            is = chain_more n t o.rest o.is;
            shorter = omega (arith, o.shorter, more);
            end = o.end ∙ ap (λ (d : Chain). d.end) same;
            page = o.page ∙ ap (λ (d : Chain). d.page) same;
          }

  four : (s : Slot) (c : Chain) → chain entries s ≡ Some c → chain_within 4 entries s ≡ Some c
  unfolding chain
  four s c h = h

  is_four : (s : Slot) (c : Chain) → chain_within 4 entries s ≡ Some c → chain entries s ≡ Some c
  unfolding chain
  is_four s c h = h

  no_chain : (s : Slot) → ((c : Chain) → chain entries s ≡ Some c → ⊥) → chain entries s ≡ None
  no_chain s none = by (chain entries s) refl
    where
      by : (o : Option Chain) → chain entries s ≡ o → chain entries s ≡ None
      by None is = is
      by (Some c) is = absurd (none c is)

  -- a chain has at most four entries
  pub at_most_four : (s : Slot) (c : Chain) → chain entries s ≡ Some c → (1 ≤ length c.links) × (length c.links ≤ 4)
  at_most_four s c h = chain_short 4 s c (four s c h)

  -- a slot has none from which a fifth entry is reached
  pub none_longer : (s t : Slot) → reached 4 entries s ≡ Some t → chain entries s ≡ None
  none_longer s t r = no_chain s (λ c h. let g = goes_on 4 4 s t c (four s c h) r in let some = chain_short 4 t g.rest g.is in omega (arith, g.shorter, some.0, at_most_four s c h))

  -- nor one from which it is reached itself
  pub none_round : (n : ℕ) (s : Slot) → reached (suc n) entries s ≡ Some s → chain entries s ≡ None
  none_round n s r = no_chain s (λ c h. let g = goes_on (suc n) 4 s s c (four s c h) r in let same : Some g.rest ≡ Some c = sym g.is ∙ four s c h in let one : g.rest ≡ c = cc same in omega (arith, g.shorter, ap (λ (d : Chain). length d.links) one))

  -- nor one from which a slot is reached that isn't there, as one of a fork that does not live
  pub none_past : (n : ℕ) (s t : Slot) → reached n entries s ≡ Some t → entries t ≡ None → chain entries s ≡ None
  none_past n s t r gone = no_chain s (λ c h. past (goes_on n 4 s t c (four s c h) r))
    where
      past : {c : Chain} → GoesOn 4 n t c → ⊥
      past g = (let z : None ≡ Some g.rest = sym (chain_here 3 entries t None gone) ∙ g.is in cc z)

  -- it is the chain to the slot that is reached, where that is an end and within four entries
  reaches : (n : ℕ) (s t : Slot) (page : Option PageName) (a : Access) (e : MapEntry) → reached n entries s ≡ Some t → entries t ≡ Some e → ((k : ℕ) → chain_within (suc k) entries t ≡ Some (single_link t a page)) → (c : Chain) × (chain_within (suc n) entries s ≡ Some c) × (c.end ≡ t) × (c.page ≡ page)
  reaches zero s t page a e r is end = let same : s ≡ t = cc r in (single_link t a page, subst (λ (u : Slot). chain_within 1 entries u ≡ Some (single_link t a page)) (sym same) (end 0), refl, refl)
  reaches (suc n) s t page a e r is end = by (λ u q. reaches n u t page a e q is end) (entries s) refl
    where
      Reaches : Type 0
      Reaches = (c : Chain) × (chain_within (suc (suc n)) entries s ≡ Some c) × (c.end ≡ t) × (c.page ≡ page)

      none : (o : Option MapEntry) → entries s ≡ o → option_and_then (next_slot s) o ≡ None → Reaches
      none o at stops = absurd (let z : None ≡ Some t = ap (option_and_then (reached n entries)) (sym stops) ∙ ap (λ (o : Option MapEntry). option_and_then (reached n entries) (option_and_then (next_slot s) o)) (sym at) ∙ r in cc z)

      by : ((u : Slot) → reached n entries u ≡ Some t → (c : Chain) × (chain_within (suc n) entries u ≡ Some c) × (c.end ≡ t) × (c.page ≡ page)) → (o : Option MapEntry) → entries s ≡ o → Reaches
      by rest None at = none None at refl
      by rest (Some Empty) at = none (Some Empty) at refl
      by rest (Some (Names x b)) at = none (Some (Names x b)) at refl
      by rest (Some (Follows serial to b)) at =
          let d = rest (followed s serial to) (sym (reached_from n s (Follows serial to b) at) ∙ r) in
          (behind s b d.0, chain_here (suc n) entries s (Some (Follows serial to b)) at ∙ ap (option_map (behind s b)) d.1, d.2, d.3)

  pub ends_in_page : (n : ℕ) (s t : Slot) (x : PageName) (a : Access) → n ≤ 3 → reached n entries s ≡ Some t → entries t ≡ Some (Names x a) → (c : Chain) × (chain entries s ≡ Some c) × (c.end ≡ t) × (c.page ≡ Some x)
  ends_in_page n s t x a few r is =
      let c = reaches n s t (Some x) a (Names x a) r is (λ k. chain_here k entries t (Some (Names x a)) is) in
      (c.0, is_four s c.0 (chain_enough (suc n) 4 s c.0 (omega (arith, few)) c.1), c.2, c.3)

  pub ends_empty : (n : ℕ) (s t : Slot) → n ≤ 3 → reached n entries s ≡ Some t → entries t ≡ Some Empty → (c : Chain) × (chain entries s ≡ Some c) × (c.end ≡ t) × (c.page ≡ None)
  ends_empty n s t few r is =
      let c = reaches n s t None full_access Empty r is (λ k. chain_here k entries t (Some Empty) is) in
      (c.0, is_four s c.0 (chain_enough (suc n) 4 s c.0 (omega (arith, few)) c.1), c.2, c.3)

  -- every entry of a chain is one that is reached, and the other way round
  module _ (right : Access → Bool) where
    abbrev pub Each : Slot → Type 0
    Each s = (n : ℕ) (t : Slot) (e : MapEntry) → reached n entries s ≡ Some t → entries t ≡ Some e → right (access_of e) ≡ true

    both : (a b : Bool) → (a && b) ≡ true → (a ≡ true) × (b ≡ true)
    both true b h = (refl, h)
    both false b h = absurd (cc h)

    all_of : (l : Link) (ls : List Link) → right l.access ≡ true → list_all (λ k. right k.access) ls ≡ true → list_all (λ k. right k.access) (l ∷ ls) ≡ true
    all_of l ls h g = ap (λ b. b && list_all (λ (k : Link). right k.access) ls) h ∙ g

    each_all : (n : ℕ) (s : Slot) (c : Chain) → chain_within n entries s ≡ Some c → Each s → list_all (λ l. right l.access) c.links ≡ true
    each_all zero s c h each = absurd (no_chain_within entries s c h)
    each_all (suc n) s c h each = by (λ t d g k. each_all n t d g k) (begun n entries s c h)
      where
        links : (d : Chain) → d ≡ c → list_all (λ (l : Link). right l.access) d.links ≡ true → list_all (λ (l : Link). right l.access) c.links ≡ true
        links d same all = ap (λ (d : Chain). list_all (λ (l : Link). right l.access) d.links) (sym same) ∙ all

        by : ((t : Slot) (d : Chain) → chain_within n entries t ≡ Some d → Each t → list_all (λ (l : Link). right l.access) d.links ≡ true) → Begun n entries s c → list_all (λ (l : Link). right l.access) c.links ≡ true
        by rest (at_empty is same) = links (single_link s full_access None) same (all_of (record { slot = s; access = full_access }) [] (each 0 s Empty refl is) refl)
        by rest (at_page x a is same) = links (single_link s a (Some x)) same (all_of (record { slot = s; access = a }) [] (each 0 s (Names x a) refl is) refl)
        by rest (at_other serial page a d is g same) =
            links (behind s a d) same (all_of (record { slot = s; access = a }) d.links (each 0 s (Follows serial page a) refl is)
            (rest (followed s serial page) d g (λ k t e r there. each (suc k) t e (reached_from k s (Follows serial page a) is ∙ r) there)))

    all_each : (n : ℕ) (s : Slot) (c : Chain) → chain_within n entries s ≡ Some c → list_all (λ l. right l.access) c.links ≡ true → Each s
    all_each zero s c h all = absurd (no_chain_within entries s c h)
    all_each (suc n) s c h all = by (λ t d g k. all_each n t d g k) (begun n entries s c h)
      where
        first : (e : MapEntry) (d : Chain) (ls : List Link) → entries s ≡ Some e → d ≡ c → d.links ≡ record { slot = s; access = access_of e } ∷ ls → (right (access_of e) ≡ true) × (list_all (λ (l : Link). right l.access) ls ≡ true)
        first e d ls is same links = both (right (access_of e)) (list_all (λ (l : Link). right l.access) ls) (ap (list_all (λ (l : Link). right l.access)) (sym links) ∙ ap (λ (d : Chain). list_all (λ (l : Link). right l.access) d.links) same ∙ all)

        here : (e f : MapEntry) (t : Slot) → entries s ≡ Some e → s ≡ t → entries t ≡ Some f → right (access_of e) ≡ true → right (access_of f) ≡ true
        here e f t is same there h = let z : Some e ≡ Some f = sym is ∙ ap entries same ∙ there in let one : e ≡ f = cc z in ap (λ (x : MapEntry). right (access_of x)) (sym one) ∙ h

        alone : (e : MapEntry) → entries s ≡ Some e → next_slot s e ≡ None → right (access_of e) ≡ true → Each s
        alone e is none h zero t f r there = here e f t is (cc r) there h
        alone e is none h (suc k) t f r there = absurd (no_step k s t e is none r)

        by : ((t : Slot) (d : Chain) → chain_within n entries t ≡ Some d → list_all (λ (l : Link). right l.access) d.links ≡ true → Each t) → Begun n entries s c → Each s
        by rest (at_empty is same) = alone Empty is refl (first Empty (single_link s full_access None) [] is same refl).0
        by rest (at_page x a is same) = alone (Names x a) is refl (first (Names x a) (single_link s a (Some x)) [] is same refl).0
        by rest (at_other serial page a d is g same) = on (first (Follows serial page a) (behind s a d) d.links is same refl)
          where
            on : (right a ≡ true) × (list_all (λ (l : Link). right l.access) d.links ≡ true) → Each s
            on h zero t f r there = here (Follows serial page a) f t is (cc r) there h.0
            on h (suc k) t f r there = rest (followed s serial page) d g h.1 k t f (sym (reached_from k s (Follows serial page a) is) ∙ r) there

    pub every_entry : (s : Slot) (c : Chain) → chain entries s ≡ Some c → (list_all (λ l. right l.access) c.links ≡ true) ↔ Each s
    every_entry s c h = (all_each 4 s c (four s c h), each_all 4 s c (four s c h))
