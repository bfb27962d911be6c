-- Pages of which an entry was narrowed.
use Rattle.std.proofs.Common.{◌≡◌, true, Option, None, Some, refl, sym, ap, subst}
use Rattle.std.specs.Option.{option_and_then}
use Rattle.machine_names.specs.declared.names.Slot.{Slot}
use Rattle.machine_names.specs.declared.names.Access.{Access}
use Rattle.machine_names.specs.declared.names.Kind.{Kind}
use Rattle.machine_names.specs.declared.names.Kind.TheVariants.{Read, Execute}
use Rattle.plain_pages.specs.declared.map.MapEntry.{MapEntry}
use Rattle.plain_pages.specs.declared.map.NewEntry.TheVariants.{Narrow}
use Rattle.plain_pages.specs.PlainPages.{NumberedPages, Maps}
use Rattle.plain_pages.specs.Maps.{Chain, chain, entry_at, narrow, may}
use Rattle.plain_pages.specs.References.{in_map, page_at}
use Rattle.plain_pages.specs.NewEntries.{changed}
use Rattle.plain_pages.specs.WholePages.{AreWhole}
use Rattle.plain_pages.proofs.Chains.{entry_set, entry_other}
use Rattle.plain_pages.proofs.Kept.{changed_none, changed_maps}
use Rattle.plain_laws.proofs.Narrowing.{no_wider_read, no_wider_execute, narrow_still}

module _ (p : NumberedPages) (w : AreWhole p) (m : Slot) (given : Access) (s : Slot) where
  abbrev after : NumberedPages
  after = changed p m (Narrow given)

  -- where there is no entry, nothing changes
  module _ (Holds : Maps → Type 0) where
    same_maps : entry_at p.maps m ≡ None → Holds p.maps → Holds after.maps
    same_maps h = subst Holds (sym (ap (λ (q : NumberedPages). q.maps) (changed_none p w m (Narrow given) tt h)))

  abbrev read_if : Kind → Maps → Type 0
  read_if kind maps = may (entry_at maps) s kind ≡ true → may (entry_at p.maps) s kind ≡ true

  abbrev still_if : Maps → Type 0
  still_if maps = option_and_then (λ (c : Chain). c.page) (chain (entry_at maps) s) ≡ option_and_then (λ (c : Chain). c.page) (chain (entry_at p.maps) s)

  by_entry : (Holds : Maps → Type 0) → Holds p.maps → ((e : MapEntry) (new : Maps) → entry_at p.maps m ≡ Some e → entry_at new m ≡ Some (narrow given e) → ((t : Slot) → (t ≡ m → ⊥) → entry_at new t ≡ entry_at p.maps t) → Holds new) → Holds after.maps
  by_entry Holds same narrows = by (entry_at p.maps m) refl
    where
      by : (o : Option MapEntry) → entry_at p.maps m ≡ o → Holds after.maps
      by None h = same_maps Holds h same
      by (Some e) h = subst Holds (sym (changed_maps p w m (Narrow given) tt e h)) (narrows e _ h (entry_set p.maps m e (narrow given e) h) (entry_other p.maps m e (narrow given e) h))

  pub narrowed_read : may (entry_at after.maps) s Read ≡ true → may (entry_at p.maps) s Read ≡ true
  narrowed_read = by_entry (read_if Read) (λ h. h) (λ e new was is others. no_wider_read (entry_at p.maps) (entry_at new) m given e was is others s)

  pub narrowed_execute : may (entry_at after.maps) s Execute ≡ true → may (entry_at p.maps) s Execute ≡ true
  narrowed_execute = by_entry (read_if Execute) (λ h. h) (λ e new was is others. no_wider_execute (entry_at p.maps) (entry_at new) m given e was is others s)

  pub narrowed_page : page_at after (in_map s) ≡ page_at p (in_map s)
  unfolding page_at
  narrowed_page = by_entry still_if refl (λ e new was is others. narrow_still (entry_at p.maps) (entry_at new) m given e was is others s)
