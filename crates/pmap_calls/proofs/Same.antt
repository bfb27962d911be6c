-- An entry that is set to what it is.
use Rattle.std.proofs.Common.{◌≡◌, ℕ, zero, suc, Bool, true, false, cond, List, [], ◌∷◌, Option, None, Some, refl, sym, ◌∙◌, ap}
use Rattle.std.specs.Prelude.{nat_lt, slice_get, slice_set}
use Rattle.std.specs.Option.{option_map_or}
use Rattle.std.specs.Ordering.{eq_by_cmp}
use Rattle.std.specs.Cmp.{Equal-is}
use Rattle.std.specs.FinMap as map
use Rattle.machine_names.specs.declared.names.Access.{Access}
use Rattle.machine_names.specs.declared.names.FileNo.{FileNo}
use Rattle.machine_names.specs.declared.names.ForkName.{ForkName}
use Rattle.machine_names.specs.declared.names.PageName.{PageName}
use Rattle.machine_names.specs.declared.names.Slot.{Slot}
use Rattle.machine_names.specs.Orders.{FilePage, file_page, fork_cmp}
use Rattle.machine_names.proofs.OrderLemmas.{fork_cmp_apart, fork_cmp_total}
use Rattle.plain_pages.specs.declared.map.MapEntry.{MapEntry}
use Rattle.plain_pages.specs.declared.map.MapEntry.TheVariants as entry
use Rattle.plain_pages.specs.declared.map.NewEntry.TheVariants as new
use Rattle.plain_pages.specs.PlainPages.{NumberedPages, Map, Maps}
use Rattle.plain_pages.specs.Maps.{entry_at, set_entry}
use Rattle.plain_pages.specs.NewEntries.{changed}
use Rattle.plain_pages.specs.References.{with_entry}
use Rattle.plain_pages.specs.Room.{uses}
use Rattle.plain_pages.specs.WholePages.{AreWhole}
use Rattle.plain_pages.proofs.Chains.{entry_map}
use Rattle.plain_pages.proofs.Kept.{AreKept, entry_kept, entry_maps, kept_same, unnamed_gone}

set_same : {A : Type 0} (xs : List A) (i : ℕ) (x : A) → slice_get xs i ≡ Some x → slice_set xs i x ≡ xs
set_same [] i x h = refl
set_same (y ∷ ys) zero x h = let e : y ≡ x = cc h in ap (λ z. z ∷ ys) (sym e)
set_same (y ∷ ys) (suc i) x h = ap (λ zs. y ∷ zs) (set_same ys i x h)

insert_same : (maps : Maps) (f : ForkName) (m : Map) → map.get maps f ≡ Some m → map.insert maps f m ≡ maps
insert_same maps f m there = map.same_map fork_cmp_total fork_cmp_apart (map.insert maps f m) maps each
  where
    each : (g : ForkName) → map.get (map.insert maps f m) g ≡ map.get maps g
    each g = map.get-insert fork_cmp_total maps f m g ∙ by (eq_by_cmp fork_cmp g f) refl
      where
        by : (b : Bool) → eq_by_cmp fork_cmp g f ≡ b → cond b (Some m) (map.get maps g) ≡ map.get maps g
        by true is = let same : g ≡ f = fork_cmp_apart g f ((Equal-is (fork_cmp g f)).0 is) in sym (ap (map.get maps) same ∙ there)
        by false is = refl

maps_same : (maps : Maps) (s : Slot) (e : MapEntry) → entry_at maps s ≡ Some e → set_entry maps s e ≡ maps
maps_same maps s e h =
    let m = entry_map (map.get maps s.fork) s.page e h in
    ap (λ (o : Option Map). option_map_or (λ n. map.insert maps s.fork (slice_set n s.page e)) o maps) m.1
    ∙ ap (map.insert maps s.fork) (set_same m.0 s.page e m.2) ∙ insert_same maps s.fork m.0 m.1

module _ (p : NumberedPages) (w : AreWhole p) where
  kept_itself : AreKept p p
  kept_itself = record { objects = objects; files = refl; page_serials = refl; console_serial = refl; limit = refl }
    where
      objects : (n : PageName) → map.get p.objects n ≡ cond (nat_lt 0 (uses p n)) (map.get p.objects n) None
      objects n = by (nat_lt 0 (uses p n)) refl
        where
          by : (b : Bool) → nat_lt 0 (uses p n) ≡ b → map.get p.objects n ≡ cond b (map.get p.objects n) None
          by true is = refl
          by false is = unnamed_gone p w n is

  entry_same : (s : Slot) (e : MapEntry) → entry_at p.maps s ≡ Some e → with_entry p s e ≡ p
  entry_same s e h = kept_same p (with_entry p s e) p (entry_kept p w s e e h) kept_itself (entry_maps p w s e e h ∙ maps_same p.maps s e h)

  -- where a file has no such page, the entry stays
  pub none_changed : (s : Slot) (f : FileNo) (page : ℕ) (a : Access) (filed : FilePage ℕ → Option PageName) → filed ≡ map.get p.files → None ≡ filed (file_page f.0 page) → p ≡ changed p s (new.FilePage f page a)
  unfolding changed
  none_changed s f page a filed agrees none = by (entry_at p.maps s) refl
    where
      gone : map.get p.files (file_page f.0 page) ≡ None
      gone = sym (none ∙ ap (λ (g : FilePage ℕ → Option PageName). g (file_page f.0 page)) agrees)

      by : (o : Option MapEntry) → entry_at p.maps s ≡ o → p ≡ option_map_or (λ e. with_entry p s (option_map_or (λ n. entry.Names n a) (map.get p.files (file_page f.0 page)) e)) o p
      by None h = refl
      by (Some e) h = sym (ap (λ (o : Option PageName). with_entry p s (option_map_or (λ n. entry.Names n a) o e)) gone ∙ entry_same s e h)
