-- What a slot with a chain reads.
use Rattle.std.proofs.Common.{◌≡◌, ℕ, zero, suc, [], Option, None, Some, inl, inr, sym, ◌∙◌, ap, Ordering}
use Rattle.std.specs.Prelude.{find}
use Rattle.std.specs.Option.{option_map_or, option_and_then}
use Rattle.machine_names.specs.declared.names.PageName.{PageName}
use Rattle.machine_names.specs.declared.names.Slot.{Slot}
use Rattle.machine_names.specs.declared.names.Access.{Access}
use Rattle.plain_pages.specs.declared.map.MapEntry.{MapEntry}
use Rattle.plain_pages.specs.declared.map.MapEntry.TheVariants.{Follows}
use Rattle.plain_pages.specs.PlainPages.{PlainPages}
use Rattle.plain_pages.specs.Maps.{Link, Chain, followed, full_access, next_slot, reached, single_link, chain_within, chain, entry_at}
use Rattle.plain_pages.specs.References.{in_map, words_of, words_at, page_at}
use Rattle.machine_names.specs.PageWords.{zero_words}
use Rattle.plain_pages.proofs.Chains.{marked}
use Rattle.plain_pages.proofs.Ends.{Begun, at_empty, at_page, at_other, begun, no_chain_within, marked_first}
use Rattle.plain_pages.proofs.Following.{goes_on}

module _ {K : Type 0} {file_cmp : K → K → Ordering} (p : PlainPages file_cmp) where
  -- the page of a slot that has a chain
  pub page_of_chain : (s : Slot) (c : Chain) → chain (entry_at p.maps) s ≡ Some c → page_at p (in_map s) ≡ c.page
  unfolding page_at
  page_of_chain s c h = ap (option_and_then (λ (d : Chain). d.page)) h

  pub four : (s : Slot) (c : Chain) → chain (entry_at p.maps) s ≡ Some c → chain_within 4 (entry_at p.maps) s ≡ Some c
  unfolding chain
  four s c h = h

  pub is_four : (s : Slot) (c : Chain) → chain_within 4 (entry_at p.maps) s ≡ Some c → chain (entry_at p.maps) s ≡ Some c
  unfolding chain
  is_four s c h = h

  -- each slot that is reached along a chain has the same page
  pub chain_there : (k : ℕ) (s t : Slot) (c : Chain) → chain (entry_at p.maps) s ≡ Some c → reached k (entry_at p.maps) s ≡ Some t → (d : Chain) × (chain (entry_at p.maps) t ≡ Some d) × (d.page ≡ c.page)
  chain_there k s t c h r = let g = goes_on (entry_at p.maps) k 4 s t c (four s c h) r in (g.rest, is_four t g.rest g.is, g.page)

  pub same_page_there : (k : ℕ) (s t : Slot) (c : Chain) → chain (entry_at p.maps) s ≡ Some c → reached k (entry_at p.maps) s ≡ Some t → page_at p (in_map t) ≡ page_at p (in_map s)
  same_page_there k s t c h r = let d = chain_there k s t c h r in page_of_chain t d.0 d.1 ∙ d.2 ∙ sym (page_of_chain s c h)

  -- a follower reads what the slot reads that it follows
  pub follower_page : (s : Slot) (serial page : ℕ) (a : Access) (c : Chain) → chain (entry_at p.maps) s ≡ Some c → entry_at p.maps s ≡ Some (Follows serial page a) → page_at p (in_map s) ≡ page_at p (in_map (followed s serial page))
  follower_page s serial page a c h is = sym (same_page_there 1 s (followed s serial page) c h (ap (λ (o : Option MapEntry). option_and_then (reached 0 (entry_at p.maps)) (option_and_then (next_slot s) o)) is))

  -- the words of pages whose names are the same
  pub words_same : (s t : Slot) → page_at p (in_map s) ≡ page_at p (in_map t) → words_at p (in_map s) ≡ words_at p (in_map t)
  words_same s t h = ap (λ (n : Option PageName). option_map_or (words_of p) n zero_words) h

  pub follower_words : (s : Slot) (serial page : ℕ) (a : Access) (c : Chain) → chain (entry_at p.maps) s ≡ Some c → entry_at p.maps s ≡ Some (Follows serial page a) → words_at p (in_map s) ≡ words_at p (in_map (followed s serial page))
  follower_words s serial page a c h is = words_same s (followed s serial page) (follower_page s serial page a c h is)

  -- the first mark of a chain is at a slot that is reached
  mark_reached : (n : ℕ) (s : Slot) (c : Chain) (l : Link) → chain_within n (entry_at p.maps) s ≡ Some c → find marked c.links ≡ Some l → (k : ℕ) × (reached k (entry_at p.maps) s ≡ Some l.slot)
  mark_reached zero s c l h f = absurd (no_chain_within (entry_at p.maps) s c h)
  mark_reached (suc n) s c l h f = by (λ t d g k. mark_reached n t d l g k) (begun n (entry_at p.maps) s c h)
    where
      Reached : Slot → Type 0
      Reached t = (k : ℕ) × (reached k (entry_at p.maps) t ≡ Some l.slot)

      alone : (a : Access) (x : Option PageName) → single_link s a x ≡ c → Reached s
      alone a x same = elim (marked_first s a [] l (ap (λ (d : Chain). find marked d.links) same ∙ f)) [ inl e ↦ (0, ap Some e) | inr g ↦ absurd (cc g) ]

      by : ((t : Slot) (d : Chain) → chain_within n (entry_at p.maps) t ≡ Some d → find marked d.links ≡ Some l → Reached t) → Begun n (entry_at p.maps) s c → Reached s
      by rest (at_empty is same) = alone full_access None same
      by rest (at_page x a is same) = alone a (Some x) same
      by rest (at_other serial page a d is g same) = elim (marked_first s a d.links l (ap (λ (e : Chain). find marked e.links) same ∙ f)) [
        | inl e ↦ (0, ap Some e)
        | inr k ↦ (let r = rest (followed s serial page) d g k in (suc r.0, ap (λ (o : Option MapEntry). option_and_then (reached r.0 (entry_at p.maps)) (option_and_then (next_slot s) o)) is ∙ r.1))
      ]

  pub mark_there : (s : Slot) (c : Chain) (l : Link) → chain (entry_at p.maps) s ≡ Some c → find marked c.links ≡ Some l → (d : Chain) × (chain (entry_at p.maps) l.slot ≡ Some d) × (page_at p (in_map l.slot) ≡ page_at p (in_map s))
  mark_there s c l h f =
      let k = mark_reached 4 s c l (four s c h) f in
      let d = chain_there k.0 s l.slot c h k.1 in
      (d.0, d.1, same_page_there k.0 s l.slot c h k.1)
