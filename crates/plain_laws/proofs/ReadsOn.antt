-- What a slot reads, before and after a reference.
use Rattle.std.proofs.Common.{◌≡◌, ◌≢◌, ℕ, zero, suc, ◌≤◌, Bool, true, false, List, [], ◌∷◌, Option, None, Some, ◌⊎◌, inl, inr, refl, sym, ◌∙◌, ap, subst, arith, Ordering}
use Rattle.std.specs.Prelude.{nat_lt, is_some}
use Rattle.std.specs.Option.{option_map, option_map_or, option_and_then, unwrap_or}
use Rattle.std.specs.Cmp.{IsTotalOrder}
use Rattle.std.specs.FinMap as map
use Rattle.std.proofs.lemmas.Bool.Decides.{nat_tests}
use Rattle.machine_names.specs.declared.names.Tty.{Tty}
use Rattle.machine_names.specs.declared.names.PageName.{PageName}
use Rattle.machine_names.specs.declared.names.Slot.{Slot}
use Rattle.machine_names.specs.declared.names.Access.{Access}
use Rattle.machine_names.specs.declared.names.Kind.{Kind}
use Rattle.plain_pages.specs.declared.map.MapEntry.{MapEntry}
use Rattle.plain_pages.specs.declared.map.MapEntry.TheVariants.{Empty, Names, Follows}
use Rattle.plain_pages.specs.PlainPages.{PlainPages}
use Rattle.plain_pages.specs.Maps.{Entries, Chain, followed, full_access, next_slot, reached, single_link, behind, chain_within, chain, entry_at}
use Rattle.plain_pages.specs.Room.{uses, HasRoom}
use Rattle.plain_pages.specs.References.{in_map, Making, blank, copy, makings, make, make_all, granted, denied, reference, next_page, words_of, words_at}
use Rattle.machine_names.specs.PageWords.{zero_words}
use Rattle.machine_names.specs.Bounds.{IsOwner}
use Rattle.plain_pages.specs.WholePages.{AreWhole}
use Rattle.plain_laws.specs.Laws.{ReadsOn}
use Rattle.plain_pages.proofs.Chains.{chain_here, slot_tells}
use Rattle.plain_pages.proofs.Makings.{CanMake, entry_there, at_zero}
use Rattle.plain_pages.proofs.Ends.{Begun, at_empty, at_page, at_other, begun, no_chain_within, chain_named}
use Rattle.plain_pages.proofs.Made.{IsMade, is_blank, is_copy, not_later}
use Rattle.plain_pages.proofs.Settles.{makings_settled, makings_can, first_making, FirstOf, is_blank as first_blank, is_copy as first_copy}
use Rattle.plain_pages.proofs.ReferencesMade.{roomy, reference_makes, reference_denied}
use Rattle.plain_pages.proofs.Reading.{page_of_chain, four, is_four, same_page_there, words_same}

-- where an entry names another page, a chain that came to it ends there, and each other is as it was
module _ (old new : Entries) (m : Slot) (x : PageName) (a : Access) (here : new m ≡ Some (Names x a)) (others : (t : Slot) → t ≢ m → new t ≡ old t) where
  pub data Passes (n : ℕ) (s : Slot) (c : Chain) : Type 0 where
    through : (k : ℕ) (d : Chain) → reached k old s ≡ Some m → chain_within n new s ≡ Some d → d.page ≡ Some x → Passes n s c
    beside : chain_within n new s ≡ Some c → Passes n s c

  pub passes : (n : ℕ) (s : Slot) (c : Chain) → chain_within n old s ≡ Some c → Passes n s c
  passes zero s c h = absurd (no_chain_within old s c h)
  passes (suc n) s c h = elim (slot_tells s m) [
    | inl same ↦ through 0 (single_link s a (Some x)) (ap Some same) (chain_here n new s (Some (Names x a)) (ap new same ∙ here)) refl
    | inr ne ↦ by (λ t d g. passes n t d g) (others s ne) (begun n old s c h)
  ]
    where
      on : (serial page : ℕ) (b : Access) (d : Chain) → old s ≡ Some (Follows serial page b) → new s ≡ old s → behind s b d ≡ c → Passes n (followed s serial page) d → Passes (suc n) s c
      on serial page b d is stays same (through k e r g named) = through (suc k) (behind s b e) (ap (λ (o : Option MapEntry). option_and_then (reached k old) (option_and_then (next_slot s) o)) is ∙ r)
          (chain_here n new s (Some (Follows serial page b)) (stays ∙ is) ∙ ap (option_map (behind s b)) g) named
      on serial page b d is stays same (beside g) = beside (chain_here n new s (Some (Follows serial page b)) (stays ∙ is) ∙ ap (option_map (behind s b)) g ∙ ap Some same)

      by : ((t : Slot) (d : Chain) → chain_within n old t ≡ Some d → Passes n t d) → new s ≡ old s → Begun n old s c → Passes (suc n) s c
      by rest stays (at_empty is same) = beside (chain_here n new s (Some Empty) (stays ∙ is) ∙ ap Some same)
      by rest stays (at_page y b is same) = beside (chain_here n new s (Some (Names y b)) (stays ∙ is) ∙ ap Some same)
      by rest stays (at_other serial page b d is g same) = on serial page b d is stays same (rest (followed s serial page) d g)

module _ {K : Type 0} {file_cmp : K → K → Ordering} (o : IsTotalOrder file_cmp) (owner : Tty) (own : IsOwner owner) where
  pub reads_on_itself : (p : PlainPages file_cmp) → AreWhole p → ReadsOn owner p p
  reads_on_itself p w = record { whole = w; later = omega arith; words = λ s c h. (c, h, refl); kept = λ n there. inl refl }

  -- one page more, with the words that its slot had, changes nothing that is read
  module _ (p : PlainPages file_cmp) (w : AreWhole p) (q : PlainPages file_cmp) (m : Slot) (a : Access) (words : List ℕ) (e : MapEntry) (made : IsMade p q owner m a words e) (same : words ≡ words_at p (in_map m)) where
    new_words : (s : Slot) (d : Chain) → chain (entry_at q.maps) s ≡ Some d → d.page ≡ Some (next_page p owner) → words_at q (in_map s) ≡ words
    new_words s d h named = ap (λ (n : Option PageName). option_map_or (words_of q) n zero_words) (page_of_chain q s d h ∙ named) ∙ made.held

    old_words : (s : Slot) (c : Chain) → chain (entry_at p.maps) s ≡ Some c → chain (entry_at q.maps) s ≡ Some c → words_at q (in_map s) ≡ words_at p (in_map s)
    old_words s c h g = ap (λ (n : Option PageName). option_map_or (words_of q) n zero_words) (page_of_chain q s c g) ∙ by c.page refl ∙ ap (λ (n : Option PageName). option_map_or (words_of p) n zero_words) (sym (page_of_chain p s c h))
      where
        by : (n : Option PageName) → c.page ≡ n → option_map_or (words_of q) n zero_words ≡ option_map_or (words_of p) n zero_words
        by None is = refl
        by (Some n) is =
            let before = chain_named 4 (entry_at p.maps) s c n (four p s c h) is in
            let after = chain_named 4 (entry_at q.maps) s c n (four q s c g) is in
            ap (λ (y : Option (List ℕ)). unwrap_or y zero_words) (made.kept n (entry_there o p w c.end n before.0 before.1) (entry_there o q made.whole c.end n after.0 after.1))

    made_reads : (s : Slot) (c : Chain) → chain (entry_at p.maps) s ≡ Some c → (d : Chain) × (chain (entry_at q.maps) s ≡ Some d) × (words_at q (in_map s) ≡ words_at p (in_map s))
    made_reads s c h = by (passes (entry_at p.maps) (entry_at q.maps) m (next_page p owner) a made.here made.others 4 s c (four p s c h))
      where
        by : Passes (entry_at p.maps) (entry_at q.maps) m (next_page p owner) a made.here made.others 4 s c → (d : Chain) × (chain (entry_at q.maps) s ≡ Some d) × (words_at q (in_map s) ≡ words_at p (in_map s))
        by (through k d r g named) = (d, is_four q s d g, new_words s d (is_four q s d g) named ∙ same ∙ words_same p m s (same_page_there p k s m c h r))
        by (beside g) = (c, is_four q s c g, old_words s c h (is_four q s c g))

    -- a page that is gone does not come back
    stays_gone : (n : PageName) → n ≢ next_page p owner → map.contains_key p.objects n ≡ false → map.contains_key q.objects n ≡ false
    stays_gone n ne gone = made.whole.named n ∙ no_more (uses q n) (uses p n) (omega (arith, made.names n, at_zero n (next_page p owner) ne)) (sym (w.named n) ∙ gone)
      where
        no_more : (j k : ℕ) → j ≤ k → nat_lt 0 k ≡ false → nat_lt 0 j ≡ false
        no_more j k le h = grind (arith, nat_tests)

    pub reads_on : (first : PlainPages file_cmp) → AreWhole first → ReadsOn owner first p → ReadsOn owner first q
    reads_on first v r = record {
      whole = made.whole;
      later = omega (arith, r.later, made.later);
      words = λ s c h. (let d = r.words s c h in let g = made_reads s d.0 d.1 in (g.0, g.1, g.2 ∙ d.2));
      kept = λ n there. by n there (r.kept n there);
    }
      where
        still : (n : PageName) → map.get p.objects n ≡ map.get first.objects n → map.contains_key first.objects n ≡ true → (b : Bool) → map.contains_key q.objects n ≡ b → (map.get q.objects n ≡ map.get first.objects n) ⊎ (map.contains_key q.objects n ≡ false)
        still n at there true is = inl (made.kept n (ap is_some at ∙ there) is ∙ at)
        still n at there false is = inr is

        by : (n : PageName) → map.contains_key first.objects n ≡ true → (map.get p.objects n ≡ map.get first.objects n) ⊎ (map.contains_key p.objects n ≡ false) → (map.get q.objects n ≡ map.get first.objects n) ⊎ (map.contains_key q.objects n ≡ false)
        by n there (inl at) = still n at there (map.contains_key q.objects n) refl
        by n there (inr gone) = inr (stays_gone n (not_later o first v owner own p r.later n there) gone)

  -- a making of a reference to a map's page, with the words that its slot has
  pub record MakesOne (p : PlainPages file_cmp) (m : Making K) : Type 0 where
    pub slot : Slot
    pub access : Access
    pub words : List ℕ
    pub entry : MapEntry
    pub there : entry_at p.maps slot ≡ Some entry
    pub made : IsMade p (make p owner m) owner slot access words entry
    pub same : words ≡ words_at p (in_map slot)

  pub empty_words : (p : PlainPages file_cmp) (s : Slot) → entry_at p.maps s ≡ Some Empty → zero_words ≡ words_at p (in_map s)
  empty_words p s h = ap (λ (n : Option PageName). option_map_or (words_of p) n zero_words) (sym (page_of_chain p s (single_link s full_access None) (is_four p s (single_link s full_access None) (chain_here 3 (entry_at p.maps) s (Some Empty) h))))

  pub makes_one : (p : PlainPages file_cmp) → AreWhole p → (s : Slot) (kind : Kind) (m : Making K) (rest : List (Making K)) → makings p (in_map s) kind ≡ Some (m ∷ rest) → MakesOne p m
  makes_one p w s kind m rest h = by (first_making o p owner s kind m rest h)
    where
      can : CanMake p m
      can = makings_can o p owner (in_map s) kind m rest h

      blank_one : (t : Slot) → CanMake p (blank (in_map t)) → MakesOne p (blank (in_map t))
      blank_one t there = record { slot = t; access = full_access; words = zero_words; entry = Empty; there = there; made = is_blank o p w owner own t there; same = empty_words p t there }

      copy_one : (t : Slot) (a : Access) → CanMake p (copy t a) → MakesOne p (copy t a)
      copy_one t a there = record { slot = t; access = a; words = words_at p (in_map t); entry = there.0; there = there.1; made = is_copy o p w owner own t a there.0 there.1; same = refl }

      by : (c : Chain) × FirstOf kind c m rest → MakesOne p m
      by (c, first_blank none is others) = subst (MakesOne p) is (blank_one c.end (subst (CanMake p) (sym is) can))
      by (c, first_copy l writes some f is others) = subst (MakesOne p) is (copy_one l.slot _ (subst (CanMake p) (sym is) can))

  reads_all : (s : Slot) (kind : Kind) (ms : List (Making K)) (first p q : PlainPages file_cmp) → AreWhole first → ReadsOn owner first p → makings p (in_map s) kind ≡ Some ms → make_all p owner ms ≡ granted q → ReadsOn owner first q
  unfolding make_all
  reads_all s kind [] first p q v r h g = let same : p ≡ q = cc g in subst (ReadsOn owner first) same r
  reads_all s kind (m ∷ ms) first p q v r h g =
      let room = roomy (HasRoom (make p owner m) owner) (make_all (make p owner m) owner ms) q g in
      let one = makes_one p r.whole s kind m ms h in
      reads_all s kind ms first (make p owner m) q v (reads_on p r.whole (make p owner m) one.slot one.access one.words one.entry one.made one.same first v r) (makings_settled o p owner (in_map s) kind m ms h) room.1

  -- no reference changes what is read through a chain, nor a page that is left
  pub reference_reads : (p q : PlainPages file_cmp) → AreWhole p → (s : Slot) (kind : Kind) → reference p (in_map s) kind owner ≡ granted q → ReadsOn owner p q
  reference_reads p q w s kind g = by (makings p (in_map s) kind) refl
    where
      by : (x : Option (List (Making K))) → makings p (in_map s) kind ≡ x → ReadsOn owner p q
      by None h = absurd (let z : denied kind ≡ granted q = sym (reference_denied p owner (in_map s) kind h) ∙ g in cc z)
      by (Some ms) h = reads_all s kind ms p p q w (reads_on_itself p w) h (sym (reference_makes p owner (in_map s) kind ms h) ∙ g)
