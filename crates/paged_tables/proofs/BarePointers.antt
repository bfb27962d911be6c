-- Pointers that name no page.
use Rattle.std.proofs.Common.{◌≡◌, ℕ, ◌<◌, Bool, true, false, cond, None, Some, refl, sym, ◌∙◌, ap, subst}
use Rattle.machine_names.specs.declared.names.Access.{Access}
use Rattle.machine_names.specs.declared.names.TheConstants.{SPACE_PAGES}
use Rattle.share_table.specs.declared.pointer.Pointer.{Pointer}
use Rattle.share_table.specs.declared.pointer.Pointer.TheVariants as pointed
use Rattle.share_table.specs.Pointers.{IsPointer}
use Rattle.page_homes.specs.declared.homes.Home.{Home}
use Rattle.pager_walk.specs.declared.paged_entry.Looked.{Looked}
use Rattle.pager_walk.specs.declared.paged_entry.Looked.TheVariants.{Is, Absent, Missing, Refused}
use Rattle.pager_walk.specs.declared.paged_entry.PagedEntry.{PagedEntry}
use Rattle.pager_walk.specs.declared.paged_entry.PagedEntry.TheVariants as paged
use Rattle.pager_walk.specs.PagedMaps.{Tables, entry_for}
use Rattle.flat_tables.specs.declared.held_entry.HeldEntry.TheVariants.{Empty, Follows}
use Rattle.flat_tables.specs.declared.held_entry.Link.{Link}
use Rattle.flat_tables.specs.HeldMaps as flat
use Rattle.paged_tables.specs.MapsInMemory.{in_memory}
use Rattle.paged_tables.specs.SetEntries.{alone_home, bare_entry}
use Rattle.paged_tables.specs.PagedTables.{Beside}
use Rattle.paged_tables.specs.PagedTouches.{alone_in, has_one_name}

-- a bare pointer stands for its entry whatever the tables
pub bare_stands : (t : Tables) (x : Pointer) (p : PagedEntry) → bare_entry x ≡ Some p → entry_for t x ≡ Some p
bare_stands t pointed.Empty p e = e
bare_stands t (pointed.Private h a) p e = absurd (cc e)
bare_stands t (pointed.Shared s a) p e = absurd (cc e)
bare_stands t (pointed.Indirect serial page a) p e = e

-- what a bare pointer stands for names no page, and follows one of a space
module _ (x : Pointer) (p : PagedEntry) (bare : bare_entry x ≡ Some p) where
  pub bare_nothing : (k : ℕ) → flat.points_at k (in_memory p) ≡ 0
  bare_nothing k = by x p bare
    where
      by : (y : Pointer) (q : PagedEntry) → bare_entry y ≡ Some q → flat.points_at k (in_memory q) ≡ 0
      by pointed.Empty q s = let same : paged.Empty ≡ q = cc s in ap (λ z. flat.points_at k (in_memory z)) (sym same)
      by (pointed.Private h c) q s = absurd (cc s)
      by (pointed.Shared r c) q s = absurd (cc s)
      by (pointed.Indirect serial page c) q s = let same : paged.Follows serial page c ≡ q = cc s in ap (λ z. flat.points_at k (in_memory z)) (sym same)

  pub bare_follows : IsPointer x → (l : Link) (c : Access) → in_memory p ≡ Follows l c → l.page < SPACE_PAGES
  bare_follows valid l c is = by x p bare valid is
    where
      by : (y : Pointer) (q : PagedEntry) → bare_entry y ≡ Some q → IsPointer y → in_memory q ≡ Follows l c → l.page < SPACE_PAGES
      by pointed.Empty q s v i = let same : paged.Empty ≡ q = cc s in absurd (let z : Empty ≡ Follows l c = ap in_memory same ∙ i in cc z)
      by (pointed.Private h a) q s v i = absurd (cc s)
      by (pointed.Shared r a) q s v i = absurd (cc s)
      by (pointed.Indirect serial page a) q s v i =
          let same : paged.Follows serial page a ≡ q = cc s in
          let w : ◌≡◌ {A = Link} (record { serial = serial; page = page; map = 0 }) l = (let z : Follows (record { serial = serial; page = page; map = 0 }) a ≡ Follows l c = ap in_memory same ∙ i in cc z) in
          subst (λ (k : Link). k.page < SPACE_PAGES) w v.2

-- an entry that alone names the page of a home
pub record AloneAt (b : Beside) (l : Looked) (h : Home) : Type 0 where
  pub access : Access
  pub is : l ≡ Is (paged.Page h access)
  pub one : has_one_name b h.0 ≡ true

pub alone_some : (b : Beside) (l : Looked) (h : Home) → alone_home b l ≡ Some h → AloneAt b l h
alone_some b (Is paged.Empty) h e = absurd (cc e)
alone_some b (Is (paged.Page g a)) h e = by (has_one_name b g.0) refl e
  where
    by : (c : Bool) → has_one_name b g.0 ≡ c → cond c (Some g) None ≡ Some h → AloneAt b (Is (paged.Page g a)) h
    by true one k = let same : g ≡ h = cc k in record { access = a; is = ap (λ (x : Home). Is (paged.Page x a)) same; one = ap (λ (x : Home). has_one_name b x.0) (sym same) ∙ one }
    by false one k = absurd (cc k)
alone_some b (Is (paged.Follows serial page a)) h e = absurd (cc e)
alone_some b (Absent home) h e = absurd (cc e)
alone_some b Missing h e = absurd (cc e)
alone_some b Refused h e = absurd (cc e)

pub alone_none : (b : Beside) (l : Looked) → alone_home b l ≡ None → alone_in b l ≡ false
alone_none b (Is paged.Empty) e = refl
alone_none b (Is (paged.Page g a)) e = by (has_one_name b g.0) refl e
  where
    by : (c : Bool) → has_one_name b g.0 ≡ c → cond c (Some g) None ≡ None → has_one_name b g.0 ≡ false
    by true one k = absurd (cc k)
    by false one k = one
alone_none b (Is (paged.Follows serial page a)) e = refl
alone_none b (Absent home) e = refl
alone_none b Missing e = refl
alone_none b Refused e = refl
