-- Walks along a chain once a page is made for an entry on it.
use Rattle.std.proofs.Common.{◌≡◌, ◌≢◌, inl, inr, ℕ, zero, suc, List, Bool, true, false, cond, ◌&&◌, ◌||◌, Option, None, Some, refl, sym, ◌∙◌, ap, subst}
use Rattle.std.specs.Option.{option_map, option_map_or, option_and_then}
use Rattle.machine_names.specs.declared.names.Access.{Access}
use Rattle.machine_names.specs.declared.names.ForkName.{ForkName}
use Rattle.page_homes.specs.declared.homes.Home.{Home}
use Rattle.machine_names.specs.declared.names.Tty.{Tty}
use Rattle.plain_pages.specs.Maps.{full_access}
use Rattle.flat_tables.specs.declared.held_entry.EntryAt.{EntryAt}
use Rattle.flat_tables.specs.declared.held_entry.HeldEntry.{HeldEntry}
use Rattle.flat_tables.specs.declared.held_entry.HeldEntry.TheVariants.{Empty, Page, Follows}
use Rattle.flat_tables.specs.declared.held_entry.Link.{Link}
use Rattle.flat_tables.specs.declared.held_map.HeldMap.{HeldMap}
use Rattle.flat_tables.specs.HeldMaps.{held_entry, index_of, with_entry}
use Rattle.fork_maps.specs.ChainWalks.{walk_end, walk_behind}
use Rattle.flat_tables.specs.Walks.{Walk, terminal_of, next_at, walk_from, walk_within, walk}
use Rattle.flat_tables.proofs.HeldEntries.{at_tells, fork_set, entry_same, entry_other}
use Rattle.flat_pages.proofs.SlotSetting.{set_forks, index_same}

-- a link leads where it led
pub next_stays : (maps : List HeldMap) (at : EntryAt) (e : HeldEntry) (b : EntryAt) (l : Link) → next_at (with_entry maps at e) b l ≡ next_at maps b l
next_stays maps at e b l =
    ap (λ (t : Tty). option_map (λ k. record { map = k; page = l.page }) (index_of (with_entry maps at e) (record { tty = t; serial = l.serial }))) (ap (λ (o : Option ForkName). option_map_or (λ f. f.tty) o (record { 0 = 0 })) (fork_set maps at e b.map))
    ∙ ap (option_map (λ k. record { map = k; page = l.page })) (index_same (with_entry maps at e) maps (set_forks maps (with_entry maps at e) at e refl) (record { tty = terminal_of maps b.map; serial = l.serial }))

-- a page that an entry with the copy mark names is the chain's own
module _ (maps : List HeldMap) (to : EntryAt) (h : Home) (b : Access) (there : held_entry maps to ≡ Some (Page h b)) where
  marked_end : (n : ℕ) (at : EntryAt) (w : Walk) → walk_within n maps at ≡ Some w → w.copy ≡ Some to → w.home ≡ Some h
  unfolding walk_within
  marked_end zero at w is copy = absurd (cc is)
  marked_end (suc n) at w is copy = by (held_entry maps at) refl is (λ next v r c. marked_end n next v r c)
    where
      here : (e : HeldEntry) → held_entry maps at ≡ Some e → at ≡ to → e ≡ Page h b
      here e r same = (let z : Some e ≡ Some (Page h b) = sym r ∙ ap (held_entry maps) same ∙ there in cc z)

      by : (o : Option HeldEntry) → held_entry maps at ≡ o → walk_from maps at o (walk_within n maps) ≡ Some w → ((next : EntryAt) (v : Walk) → walk_within n maps next ≡ Some v → v.copy ≡ Some to → v.home ≡ Some h) → w.home ≡ Some h
      by None r k rest = absurd (cc k)
      by (Some Empty) r k rest = (let z : None ≡ Some to = (let same : walk_end at full_access None ≡ w = cc k in ap (λ (x : Walk). x.copy) same) ∙ copy in cc z)
      by (Some (Page g a)) r k rest = ends a.c refl
        where
          same : walk_end at a (Some g) ≡ w
          same = cc k

          home_is : Page g a ≡ Page h b → w.home ≡ Some h
          home_is e = ap (λ (x : Walk). x.home) (sym same) ∙ (let g_h : g ≡ h = cc e in ap Some g_h)

          ends : (c : Bool) → a.c ≡ c → w.home ≡ Some h
          ends true m = home_is (here (Page g a) r (let z : Some at ≡ Some to = sym (ap (λ x. cond x (Some at) None) m) ∙ ap (λ (x : Walk). x.copy) same ∙ copy in cc z))
          ends false m = (let z : None ≡ Some to = sym (ap (λ x. cond x (Some at) None) m) ∙ ap (λ (x : Walk). x.copy) same ∙ copy in cc z)
      by (Some (Follows l a)) r k rest = follow (next_at maps at l) k
        where
          goes : (v : Walk) → walk_behind at a v ≡ w → (c : Bool) → a.c ≡ c → (v.copy ≡ Some to → v.home ≡ Some h) → w.home ≡ Some h
          goes v same true m f = absurd (let z : Follows l a ≡ Page h b = here (Follows l a) r (let y : Some at ≡ Some to = sym (ap (λ x. cond x (Some at) v.copy) m) ∙ ap (λ (x : Walk). x.copy) same ∙ copy in cc y) in cc z)
          goes v same false m f = ap (λ (x : Walk). x.home) (sym same) ∙ f (sym (ap (λ x. cond x (Some at) v.copy) m) ∙ ap (λ (x : Walk). x.copy) same ∙ copy)

          on : (next : EntryAt) (o : Option Walk) → walk_within n maps next ≡ o → option_map (walk_behind at a) o ≡ Some w → w.home ≡ Some h
          on next None s e = absurd (cc e)
          on next (Some v) s e = goes v (cc e) a.c refl (λ c. rest next v s c)

          follow : (o : Option EntryAt) → option_map (walk_behind at a) (option_and_then (walk_within n maps) o) ≡ Some w → w.home ≡ Some h
          follow None e = absurd (cc e)
          follow (Some next) e = on next (walk_within n maps next) refl e

  pub marked_home : (at : EntryAt) (w : Walk) → walk maps at ≡ Some w → w.copy ≡ Some to → w.home ≡ Some h
  unfolding walk
  marked_home at w = marked_end 4 at w

-- a walk that may write, to this home, with no copy
pub record Copies (h : Home) (v : Option Walk) : Type 0 where
  pub walk : Walk
  pub is : v ≡ Some walk
  pub home : walk.home ≡ Some h
  pub copy : walk.copy ≡ None
  pub writes : walk.writes ≡ true

module _ (maps : List HeldMap) (to : EntryAt) (h : Home) (b : Access) (q : HeldEntry) (there : held_entry maps to ≡ Some q) where
  abbrev maps' : List HeldMap
  maps' = with_entry maps to (Page h b)

  named : (at : EntryAt) → at ≡ to → held_entry maps' at ≡ Some (Page h b)
  named at s = ap (held_entry maps') s ∙ entry_same maps to (Page h b) q there

  abbrev Filled : ℕ → Type 0
  Filled n = (next : EntryAt) (v : Walk) → walk_within n maps next ≡ Some v → v.end ≡ to → walk_within n maps' next ≡ Some (record v { home = Some h })

  abbrev Copied : ℕ → Type 0
  Copied n = (next : EntryAt) (v : Walk) → walk_within n maps next ≡ Some v → v.copy ≡ Some to → v.writes ≡ true → Copies h (walk_within n maps' next)

  -- an empty end gets a page
  filled_within : q ≡ Empty → b ≡ full_access → (n : ℕ) (at : EntryAt) (w : Walk) → walk_within n maps at ≡ Some w → w.end ≡ to → walk_within n maps' at ≡ Some (record w { home = Some h })
  unfolding walk_within
  filled_within empty full zero at w is end = absurd (cc is)
  filled_within empty full (suc n) at w is end = elim (at_tells at to) [
    | inl s ↦
        let old : held_entry maps at ≡ Some Empty = ap (held_entry maps) s ∙ there ∙ ap Some empty in
        let new : held_entry maps' at ≡ Some (Page h full_access) = named at s ∙ ap (λ x. Some (Page h x)) full in
        let same : walk_end at full_access None ≡ w = (let z : Some (walk_end at full_access None) ≡ Some w = sym (ap (λ o. walk_from maps at o (walk_within n maps)) old) ∙ is in cc z) in
        ap (λ o. walk_from maps' at o (walk_within n maps')) new ∙ ap (λ (v : Walk). Some (record v { home = Some h })) same
    | inr ne ↦ ap (λ o. walk_from maps' at o (walk_within n maps')) (entry_other maps to (Page h b) at ne) ∙ by ne (held_entry maps at) is (λ next v r f. filled_within empty full n next v r f)
  ]
    where
      by : at ≢ to → (o : Option HeldEntry) → walk_from maps at o (walk_within n maps) ≡ Some w → Filled n → walk_from maps' at o (walk_within n maps') ≡ Some (record w { home = Some h })
      by ne None k rest = absurd (cc k)
      by ne (Some Empty) k rest = absurd (ne (let same : walk_end at full_access None ≡ w = cc k in ap (λ (x : Walk). x.end) same ∙ end))
      by ne (Some (Page g a)) k rest = absurd (ne (let same : walk_end at a (Some g) ≡ w = cc k in ap (λ (x : Walk). x.end) same ∙ end))
      by ne (Some (Follows l a)) k rest = ap (λ o. option_map (walk_behind at a) (option_and_then (walk_within n maps') o)) (next_stays maps to (Page h b) at l) ∙ follow (next_at maps at l) k
        where
          on : (next : EntryAt) (o : Option Walk) → walk_within n maps next ≡ o → option_map (walk_behind at a) o ≡ Some w → option_map (walk_behind at a) (walk_within n maps' next) ≡ Some (record w { home = Some h })
          on next None s e = absurd (cc e)
          on next (Some v) s e =
              let same : walk_behind at a v ≡ w = cc e in
              ap (option_map (walk_behind at a)) (rest next v s (ap (λ (x : Walk). x.end) same ∙ end)) ∙ ap (λ (x : Walk). Some (record x { home = Some h })) same

          follow : (o : Option EntryAt) → option_map (walk_behind at a) (option_and_then (walk_within n maps) o) ≡ Some w → option_map (walk_behind at a) (option_and_then (walk_within n maps') o) ≡ Some (record w { home = Some h })
          follow None e = absurd (cc e)
          follow (Some next) e = on next (walk_within n maps next) refl e

  pub walk_filled : q ≡ Empty → b ≡ full_access → (at : EntryAt) (w : Walk) → walk maps at ≡ Some w → w.end ≡ to → walk maps' at ≡ Some (record w { home = Some h })
  unfolding walk
  walk_filled empty full at w = filled_within empty full 4 at w

  -- the entry with the copy mark names the copy
  module _ (plain : b.c ≡ false) (writable : b.w ≡ true) where
    copied_within : (n : ℕ) (at : EntryAt) (w : Walk) → walk_within n maps at ≡ Some w → w.copy ≡ Some to → w.writes ≡ true → Copies h (walk_within n maps' at)
    unfolding walk_within
    copied_within zero at w is copy writes = absurd (cc is)
    copied_within (suc n) at w is copy writes = elim (at_tells at to) [
      | inl s ↦ subst (Copies h) (sym (ap (λ o. walk_from maps' at o (walk_within n maps')) (named at s))) ends
      | inr ne ↦ subst (Copies h) (sym (ap (λ o. walk_from maps' at o (walk_within n maps')) (entry_other maps to (Page h b) at ne))) (by ne (held_entry maps at) is (λ next v r c x. copied_within n next v r c x))
    ]
      where
        ends : Copies h (Some (walk_end at b (Some h)))
        ends = record { walk = walk_end at b (Some h); is = refl; home = refl; copy = ap (λ x. cond x (Some at) None) plain; writes = ap (λ x. x || b.w) plain ∙ writable }

        by : at ≢ to → (o : Option HeldEntry) → walk_from maps at o (walk_within n maps) ≡ Some w → Copied n → Copies h (walk_from maps' at o (walk_within n maps'))
        by ne None k rest = absurd (cc k)
        by ne (Some Empty) k rest = absurd (let z : None ≡ Some to = (let same : walk_end at full_access None ≡ w = cc k in ap (λ (x : Walk). x.copy) same) ∙ copy in cc z)
        by ne (Some (Page g a)) k rest = absurd (marked a.c (let same : walk_end at a (Some g) ≡ w = cc k in ap (λ (x : Walk). x.copy) same ∙ copy))
          where
            marked : (c : Bool) → cond c (Some at) None ≡ Some to → ⊥
            marked true e = ne (cc e)
            marked false e = cc e
        by ne (Some (Follows l a)) k rest = subst (λ o. Copies h (option_map (walk_behind at a) (option_and_then (walk_within n maps') o))) (sym (next_stays maps to (Page h b) at l)) (follow (next_at maps at l) k)
          where
            goes : (next : EntryAt) (v : Walk) → walk_within n maps next ≡ Some v → (c x : Bool) → a.c ≡ c → a.w ≡ x → cond c (Some at) v.copy ≡ Some to → cond c v.reads (x && v.writes) ≡ true → Copies h (option_map (walk_behind at a) (walk_within n maps' next))
            goes next v s true x m y e f = absurd (ne (cc e))
            goes next v s false false m y e f = absurd (cc f)
            goes next v s false true m y e f =
                let r = rest next v s e f in
                subst (λ o. Copies h (option_map (walk_behind at a) o)) (sym r.is)
                (record { walk = walk_behind at a r.walk; is = refl; home = r.home; copy = ap (λ c. cond c (Some at) r.walk.copy) m ∙ r.copy; writes = (λ i. cond (m i) r.walk.reads (y i && r.walk.writes)) ∙ r.writes })

            on : (next : EntryAt) (o : Option Walk) → walk_within n maps next ≡ o → option_map (walk_behind at a) o ≡ Some w → Copies h (option_map (walk_behind at a) (walk_within n maps' next))
            on next None s e = absurd (cc e)
            on next (Some v) s e =
                let same : walk_behind at a v ≡ w = cc e in
                goes next v s a.c a.w refl refl (ap (λ (x : Walk). x.copy) same ∙ copy) (ap (λ (x : Walk). x.writes) same ∙ writes)

            follow : (o : Option EntryAt) → option_map (walk_behind at a) (option_and_then (walk_within n maps) o) ≡ Some w → Copies h (option_map (walk_behind at a) (option_and_then (walk_within n maps') o))
            follow None e = absurd (cc e)
            follow (Some next) e = on next (walk_within n maps next) refl e

    pub walk_copied : (at : EntryAt) (w : Walk) → walk maps at ≡ Some w → w.copy ≡ Some to → w.writes ≡ true → Copies h (walk maps' at)
    unfolding walk
    walk_copied at w = copied_within 4 at w
