-- The maps on the way of a chain, and which of them are in no frame.
use Rattle.std.proofs.Common.{◌≡◌, ◌≢◌, ℕ, zero, suc, Option, None, Some, ◌⊎◌, inl, inr, refl, sym, ◌∙◌, ap}
use Rattle.std.specs.Option.{option_or}
use Rattle.machine_names.specs.declared.names.PageName.{PageName}
use Rattle.machine_names.specs.declared.names.Slot.{Slot}
use Rattle.machine_names.specs.declared.names.Access.{Access}
use Rattle.plain_pages.specs.declared.map.MapEntry.{MapEntry}
use Rattle.plain_pages.specs.declared.map.MapEntry.TheVariants.{Empty, Names, Follows}
use Rattle.plain_pages.specs.Maps.{Entries, Chain, followed, chain_within, maps_from, maps_within}
use Rattle.page_contracts.specs.Pages.{Scene, first_away}
use Rattle.plain_pages.proofs.Chains.{slot_tells}
use Rattle.plain_pages.proofs.Ends.{Begun, at_empty, at_page, at_other, begun, no_chain_within}

neither : (a b : Option ℕ) → option_or a b ≡ None → (a ≡ None) × (b ≡ None)
neither None b h = (refl, h)
neither (Some home) b h = absurd (cc h)

none_of_both : (a b : Option ℕ) → a ≡ None → b ≡ None → option_or a b ≡ None
none_of_both a b h g = ap (λ o. option_or o b) h ∙ g

module _ (scene : Scene) where
  -- the first map on the way from a slot that is in no frame, where so many entries are enough
  abbrev pub way_away : ℕ → Entries → Slot → Option ℕ
  way_away n entries s = first_away scene (maps_within n entries s)

  way_is : (n : ℕ) (entries : Entries) (s : Slot) (e : Option MapEntry) → entries s ≡ e → way_away (suc n) entries s ≡ first_away scene (maps_from s e (maps_within n entries))
  unfolding maps_within
  way_is n entries s e h = ap (λ (x : Option MapEntry). first_away scene (maps_from s x (maps_within n entries))) h

  zero_way : (entries : Entries) (s : Slot) → way_away zero entries s ≡ None
  unfolding maps_within
  zero_way entries s = refl

  -- the map of a chain's end is in a frame, where all on its way are
  pub end_in_frame : (n : ℕ) (entries : Entries) (s : Slot) (c : Chain) → way_away n entries s ≡ None → chain_within n entries s ≡ Some c → scene.map_away c.end.fork ≡ None
  end_in_frame zero entries s c w h = absurd (no_chain_within entries s c h)
  end_in_frame (suc n) entries s c w h = by (λ t d g k. end_in_frame n entries t d g k) (begun n entries s c h)
    where
      by : ((t : Slot) (d : Chain) → way_away n entries t ≡ None → chain_within n entries t ≡ Some d → scene.map_away d.end.fork ≡ None) → Begun n entries s c → scene.map_away c.end.fork ≡ None
      by rest (at_empty is same) = ap (λ (d : Chain). scene.map_away d.end.fork) (sym same) ∙ (neither (scene.map_away s.fork) None (sym (way_is n entries s (Some Empty) is) ∙ w)).0
      by rest (at_page x a is same) = ap (λ (d : Chain). scene.map_away d.end.fork) (sym same) ∙ (neither (scene.map_away s.fork) None (sym (way_is n entries s (Some (Names x a)) is) ∙ w)).0
      by rest (at_other serial page a d is g same) =
          let both = neither (scene.map_away s.fork) (way_away n entries (followed s serial page)) (sym (way_is n entries s (Some (Follows serial page a)) is) ∙ w) in
          ap (λ (e : Chain). scene.map_away e.end.fork) (sym same) ∙ rest (followed s serial page) d both.1 g

  -- the way of a slot that names a page is its own map
  pub way_of_named : (n : ℕ) (entries : Entries) (s : Slot) (x : PageName) (a : Access) → scene.map_away s.fork ≡ None → entries s ≡ Some (Names x a) → way_away n entries s ≡ None
  way_of_named n entries s x a m is = by n
    where
      by : (n : ℕ) → way_away n entries s ≡ None
      by zero = zero_way entries s
      by (suc k) = way_is k entries s (Some (Names x a)) is ∙ none_of_both (scene.map_away s.fork) None m refl

  -- the map of a slot that has an entry is on its way
  pub own_in_frame : (n : ℕ) (entries : Entries) (s : Slot) (e : MapEntry) → entries s ≡ Some e → way_away (suc n) entries s ≡ None → scene.map_away s.fork ≡ None
  own_in_frame n entries s Empty is w = (neither (scene.map_away s.fork) None (sym (way_is n entries s (Some Empty) is) ∙ w)).0
  own_in_frame n entries s (Names y a) is w = (neither (scene.map_away s.fork) None (sym (way_is n entries s (Some (Names y a)) is) ∙ w)).0
  own_in_frame n entries s (Follows serial page a) is w = (neither (scene.map_away s.fork) (way_away n entries (followed s serial page)) (sym (way_is n entries s (Some (Follows serial page a)) is) ∙ w)).0

  -- where an entry names a page that went on before, a way ends there that came to it, and each other is as it was
  module _ (old new : Entries) (m : Slot) (x : PageName) (b : Access) (was : MapEntry) (before : old m ≡ Some was) (here : new m ≡ Some (Names x b)) (others : (t : Slot) → t ≢ m → new t ≡ old t) where
    pub way_shorter : (n : ℕ) (s : Slot) → way_away n old s ≡ None → way_away n new s ≡ None
    way_shorter zero s w = zero_way new s
    way_shorter (suc n) s w = by (λ t k. way_shorter n t k) (slot_tells s m)
      where
        same_entry : ((t : Slot) → way_away n old t ≡ None → way_away n new t ≡ None) → (e : Option MapEntry) → old s ≡ e → new s ≡ e → way_away (suc n) new s ≡ None
        same_entry rest None is now = way_is n new s None now
        same_entry rest (Some Empty) is now = way_is n new s (Some Empty) now ∙ sym (way_is n old s (Some Empty) is) ∙ w
        same_entry rest (Some (Names y a)) is now = way_is n new s (Some (Names y a)) now ∙ sym (way_is n old s (Some (Names y a)) is) ∙ w
        same_entry rest (Some (Follows serial page a)) is now =
            let both = neither (scene.map_away s.fork) (way_away n old (followed s serial page)) (sym (way_is n old s (Some (Follows serial page a)) is) ∙ w) in
            way_is n new s (Some (Follows serial page a)) now ∙ none_of_both (scene.map_away s.fork) (way_away n new (followed s serial page)) both.0 (rest (followed s serial page) both.1)

        by : ((t : Slot) → way_away n old t ≡ None → way_away n new t ≡ None) → (s ≡ m) ⊎ (s ≢ m) → way_away (suc n) new s ≡ None
        by rest (inl same) = way_of_named (suc n) new s x b (own_in_frame n old s was (ap old same ∙ before) w) (ap new same ∙ here)
        by rest (inr ne) = same_entry rest (old s) refl (others s ne)
