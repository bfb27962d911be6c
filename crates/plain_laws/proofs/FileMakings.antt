-- What a granted reference to a page of a file leaves: the maps, and the files but for that page.
use Rattle.std.proofs.Common.{◌≡◌, cond, Option, None, Some, ◌⊎◌, inl, inr, refl, sym, ◌∙◌, ap, subst, Ordering}
use Rattle.std.specs.Prelude.{IsSome, is_some}
use Rattle.std.specs.Cmp.{IsTotalOrder}
use Rattle.std.specs.Ordering.{is_eq}
use Rattle.std.proofs.lemmas.Cmp.{tied_itself}
use Rattle.std.specs.FinMap as map
use Rattle.machine_names.specs.declared.names.Tty.{Tty}
use Rattle.machine_names.specs.declared.names.PageName.{PageName}
use Rattle.machine_names.specs.declared.names.Kind.{Kind}
use Rattle.machine_names.specs.declared.names.Kind.TheVariants.{Read, Write, Execute}
use Rattle.machine_names.specs.Orders.{FilePage, file_page_cmp}
use Rattle.machine_names.proofs.OrderLemmas.{file_page_total}
use Rattle.plain_pages.specs.PlainPages.{PlainPages}
use Rattle.plain_pages.specs.Room.{HasRoom}
use Rattle.plain_pages.specs.References.{in_file, in_its_file, makings, next_page, granted, denied, reference}
use Rattle.plain_pages.proofs.FileWrites.{filled, filled_files, filled_maps, written_absent}
use Rattle.plain_pages.proofs.ReferencesMade.{reference_denied, reference_stays, roomy}

module _ {K : Type 0} {file_cmp : K → K → Ordering} (p q : PlainPages file_cmp) (owner : Tty) (f : FilePage K) where
  -- the page was there, or is a new one
  pub record LeavesMaps : Type 0 where
    pub maps : q.maps ≡ p.maps
    pub files : (q.files ≡ p.files) ⊎ (q.files ≡ map.insert p.files f (next_page p owner))

  as_it_was : p ≡ q → LeavesMaps
  as_it_was same = record { maps = ap (λ (x : PlainPages file_cmp). x.maps) (sym same); files = inl (ap (λ (x : PlainPages file_cmp). x.files) (sym same)) }

  with_one : filled p owner f ≡ q → LeavesMaps
  with_one same = record {
    maps = ap (λ (x : PlainPages file_cmp). x.maps) (sym same) ∙ filled_maps p owner f;
    files = inr (ap (λ (x : PlainPages file_cmp). x.files) (sym same) ∙ filled_files p owner f);
  }

  pub file_leaves : (kind : Kind) → reference p (in_file f) kind owner ≡ granted q → LeavesMaps
  unfolding makings
  file_leaves kind g = by kind (map.get p.files f) refl g
    where
      by : (k : Kind) (o : Option PageName) → map.get p.files f ≡ o → reference p (in_file f) k owner ≡ granted q → LeavesMaps
      by k (Some n) is h = let same : granted p ≡ granted q = sym (reference_stays p owner (in_file f) k (ap (in_its_file k f) is)) ∙ h in as_it_was (cc same)
      by Write None is h =
          let r = roomy (HasRoom (filled p owner f) owner) (granted (filled p owner f)) q (sym (written_absent p owner f is) ∙ h) in
          let same : granted (filled p owner f) ≡ granted q = r.1 in
          with_one (cc same)
      by Read None is h = absurd (let no : denied Read ≡ granted q = sym (reference_denied p owner (in_file f) Read (ap (in_its_file Read f) is)) ∙ h in cc no)
      by Execute None is h = absurd (let no : denied Execute ≡ granted q = sym (reference_denied p owner (in_file f) Execute (ap (in_its_file Execute f) is)) ∙ h in cc no)

  -- a write has the page there
  pub page_then : IsTotalOrder file_cmp → reference p (in_file f) Write owner ≡ granted q → IsSome (map.get q.files f)
  unfolding makings
  page_then o g = by (map.get p.files f) refl
    where
      by : (m : Option PageName) → map.get p.files f ≡ m → IsSome (map.get q.files f)
      by (Some n) is =
          let same : granted p ≡ granted q = sym (reference_stays p owner (in_file f) Write (ap (in_its_file Write f) is)) ∙ g in
          let pages : p ≡ q = cc same in
          subst (λ (x : PlainPages file_cmp). IsSome (map.get x.files f)) pages (ap is_some is)
      by None is =
          let r = roomy (HasRoom (filled p owner f) owner) (granted (filled p owner f)) q (sym (written_absent p owner f is) ∙ g) in
          let same : granted (filled p owner f) ≡ granted q = r.1 in
          let pages : filled p owner f ≡ q = cc same in
          subst (λ (x : PlainPages file_cmp). IsSome (map.get x.files f)) pages
          (ap (λ (m : map.FinMap (file_page_cmp file_cmp) PageName). is_some (map.get m f)) (filled_files p owner f)
          ∙ ap is_some (map.get-insert (file_page_total o) p.files f (next_page p owner) f)
          ∙ ap (λ b. is_some (cond b (Some (next_page p owner)) (map.get p.files f))) (ap is_eq (tied_itself (file_page_total o) f)))
