-- What a look or a touch finds in no frame is on the way to its place.
use Rattle.std.proofs.Common.{◌≡◌, ℕ, Bool, true, false, cond, Option, None, Some, inl, inr, refl, ◌∙◌, ap}
use Rattle.std.specs.Prelude.{nat_lt, slice_index}
use Rattle.std.specs.Option.{option_map_or}
use Rattle.std.specs.Ordering.{nat_cmp}
use Rattle.machine_names.specs.declared.names.Kind.{Kind}
use Rattle.machine_names.specs.declared.names.PageName.{PageName}
use Rattle.machine_names.specs.declared.names.Tty.{Tty}
use Rattle.page_homes.specs.declared.homes.Home.{Home}
use Rattle.page_contracts.specs.declared.answers.Peeked.TheVariants.{Is, Absent as Away, NoPage}
use Rattle.page_contracts.specs.declared.answers.Touch.{Touch}
use Rattle.page_contracts.specs.declared.answers.Touch.TheVariants.{Zero, Copy, Absent, NeedFrame, Denied, Full}
use Rattle.page_contracts.specs.Pages.{Scene, absent_or, announced, away_or, is_sole, map_away, page_away, peek_of, touch_of}
use Rattle.plain_pages.specs.Maps.{entry_at}
use Rattle.plain_pages.specs.PlainPages.{NumberedPages}
use Rattle.plain_pages.specs.References.{Spot, Making, Referred, blank, copy, denied, full, granted, next_making, page_at, reference, words_of}
use Rattle.console_access.specs.Needing.{IsOnWay}

module _ (p : NumberedPages) (scene : Scene) (at : Spot ℕ) where
  -- what is to be made next is never in no frame
  never : (h : Home) (m : Option (Making ℕ)) → Absent h ≡ announced p scene m → ⊥
  never h None e = cc e
  never h (Some (blank b)) e = by (nat_lt 0 scene.free_frames) e
    where
      by : (free : Bool) → Absent h ≡ cond free Zero NeedFrame → ⊥
      by true g = cc g
      by false g = cc g
  never h (Some (copy s a)) e = by (is_sole p (entry_at p.maps s)) (nat_lt 0 scene.free_frames) e
    where
      by : (sole free : Bool) → Absent h ≡ cond sole (Copy true) (cond free (Copy false) NeedFrame) → ⊥
      by true free g = cc g
      by false true g = cc g
      by false false g = cc g

  pub touch_away : (kind : Kind) (owner : Tty) (h : Home) → Absent h ≡ touch_of p scene at kind owner → IsOnWay p scene at h.0
  unfolding touch_of
  touch_away kind owner h e = by (map_away p scene at) refl (reference p at kind owner) (page_away p scene at) refl e
    where
      touched : Option ℕ → Referred nat_cmp → Touch
      touched away (granted q) = absent_or away (announced p scene (next_making p at kind))
      touched away (denied k) = Denied k
      touched away full = Full

      by : (m : Option ℕ) → map_away p scene at ≡ m → (r : Referred nat_cmp) (w : Option ℕ) → page_away p scene at ≡ w → Absent h ≡ absent_or m (touched w r) → IsOnWay p scene at h.0
      by (Some home) maps r w page g = inl (maps ∙ ap Some (let same : home ≡ h.0 = cc g in same))
      by None maps (granted q) (Some home) page g = inr (page ∙ ap Some (let same : home ≡ h.0 = cc g in same))
      by None maps (granted q) None page g = absurd (never h (next_making p at kind) g)
      by None maps (denied k) w page g = absurd (cc g)
      by None maps full w page g = absurd (cc g)

  pub peek_away : (offset : ℕ) (h : Home) → Away h ≡ peek_of p scene at offset → IsOnWay p scene at h.0
  unfolding peek_of
  peek_away offset h e = by (map_away p scene at) refl (page_away p scene at) refl (page_at p at) e
    where
      by : (m : Option ℕ) → map_away p scene at ≡ m → (w : Option ℕ) → page_away p scene at ≡ w → (n : Option PageName) → Away h ≡ away_or m (away_or w (option_map_or (λ n. Is (slice_index (words_of p n) offset)) n NoPage)) → IsOnWay p scene at h.0
      by (Some home) maps w page n g = inl (maps ∙ ap Some (let same : home ≡ h.0 = cc g in same))
      by None maps (Some home) page n g = inr (page ∙ ap Some (let same : home ≡ h.0 = cc g in same))
      by None maps None page None g = absurd (cc g)
      by None maps None page (Some n) g = absurd (cc g)
