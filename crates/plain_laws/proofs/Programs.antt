-- The entries of a fork's map that RUN sets: they name the pages of the program's file, and leave what files name.
use Rattle.std.proofs.Common.{◌≡◌, ◌≢◌, ◌⊎◌, inl, inr, ℕ, zero, suc, ◌<◌, ◌≤◌, length, true, cond, Option, None, Some, refl, sym, ◌∙◌, ap, subst, arith, Ordering}
use Rattle.std.specs.Prelude.{◌==◌, false, get_or, nat_lt, slice_get}
use Rattle.std.specs.Option.{option_and_then, option_map_or}
use Rattle.std.specs.FinMap as map
use Rattle.std.proofs.lemmas.Bool.Decides.{eqb_tells}
use Rattle.std.proofs.lemmas.Option.{slice_get-get_or}
use Rattle.machine_names.specs.declared.names.Access.{Access}
use Rattle.machine_names.specs.declared.names.ForkName.{ForkName}
use Rattle.machine_names.specs.declared.names.PageName.{PageName}
use Rattle.machine_names.specs.declared.names.Slot.{Slot}
use Rattle.machine_names.specs.declared.names.TheConstants.{SPACE_PAGES}
use Rattle.machine_names.specs.Orders.{FilePage}
use Rattle.plain_pages.specs.declared.map.MapEntry.{MapEntry}
use Rattle.plain_pages.specs.declared.map.MapEntry.TheVariants.{Empty, Follows}
use Rattle.plain_pages.specs.Maps.{entry_at, set_entry}
use Rattle.plain_pages.specs.PlainPages.{PlainPages, Map, Maps}
use Rattle.plain_pages.specs.References.{with_entry}
use Rattle.plain_pages.specs.Room.{live, page_in, uses}
use Rattle.plain_pages.specs.WholePages.{AreWhole}
use Rattle.plain_pages.proofs.Chains.{entry_other, entry_set, keys_set, slot_tells}
use Rattle.plain_pages.proofs.Kept.{AreKept, entry_kept, entry_maps, entry_whole, file_there, live_entry}
use Rattle.plain_model.specs.Commands.{program_entry, with_program, with_program_page}
use Rattle.fork_tree.proofs.Slots.{some_of}
use Rattle.plain_laws.specs.CommandLaws.{page_of_file, page_of_fork}

-- a whole map has each of its entries
has_entry : (m : Map) (page : ℕ) → length m ≡ SPACE_PAGES → page < SPACE_PAGES → (e : MapEntry) × (slice_get m page ≡ Some e)
has_entry m page whole within = (get_or m page Empty, slice_get-get_or m page Empty (omega (arith, whole, within)))

-- the entry of a program names a page of its file, or nothing, and follows none
never_follows : (o : Option PageName) (serial page : ℕ) (a : Access) → program_entry o ≡ Follows serial page a → ⊥
never_follows None serial page a is = cc is
never_follows (Some n) serial page a is = cc is

module _ {K : Type 0} {file_cmp : K → K → Ordering} where
  -- a page of a file is still there where no page is dropped that is named
  pub filed_kept : (p q : PlainPages file_cmp) → AreWhole q → ((n : PageName) → map.get q.objects n ≡ cond (nat_lt 0 (uses q n)) (map.get p.objects n) None) → (f : FilePage K) (n : PageName) → map.get q.files f ≡ Some n
      → map.get q.objects n ≡ map.get p.objects n
  filed_kept p q whole kept f n is = kept n ∙ ap (λ b. cond b (map.get p.objects n) None) (sym (whole.named n) ∙ file_there q whole f n is)

  module _ (top : ForkName) (file : K) where
    -- so many pages of a fork's map are as the program in a file has them: the entries of other maps and what files name are as they were,
    -- with the words that it had
    pub record HasProgram (n : ℕ) (p q : PlainPages file_cmp) : Type 0 where
      pub whole : AreWhole q
      pub room : live q ≤ live p
      pub limit : q.limit ≡ p.limit
      pub files : q.files ≡ p.files
      pub keys : (f : ForkName) → map.contains_key q.maps f ≡ map.contains_key p.maps f
      pub entries : (page : ℕ) → page < n → entry_at q.maps (page_of_fork top page) ≡ Some (program_entry (map.get p.files (page_of_file file page)))
      pub others : (s : Slot) → s.fork ≢ top → entry_at q.maps s ≡ entry_at p.maps s
      pub follows : (s : Slot) (serial page : ℕ) (a : Access) → entry_at q.maps s ≡ Some (Follows serial page a) → entry_at p.maps s ≡ Some (Follows serial page a)
      pub filed : (f : FilePage K) (x : PageName) → map.get p.files f ≡ Some x → map.get q.objects x ≡ map.get p.objects x

    module _ (p : PlainPages file_cmp) (w : AreWhole p) (lives : map.contains_key p.maps top ≡ true) where
      -- one page more
      module _ (n : ℕ) (q : PlainPages file_cmp) (a : HasProgram n p q) (within : n < SPACE_PAGES) where
        abbrev here : Slot
        here = page_of_fork top n

        abbrev new : MapEntry
        new = program_entry (map.get q.files (page_of_file file n))

        abbrev next : PlainPages file_cmp
        next = with_entry q here new

        was : (e : MapEntry) × (entry_at q.maps here ≡ Some e)
        was =
            let m = some_of (map.get q.maps top) (a.keys top ∙ lives) in
            let e = has_entry m.0 n (a.whole.entries top m.0 m.1) within in
            (e.0, ap (λ (o : Option Map). option_and_then (λ (x : Map). slice_get x n) o) m.1 ∙ e.1)

        there : (x : PageName) → page_in new ≡ Some x → map.contains_key q.objects x ≡ true
        there x is = by (map.get q.files (page_of_file file n)) refl is
          where
            by : (o : Option PageName) → map.get q.files (page_of_file file n) ≡ o → page_in (program_entry o) ≡ Some x → map.contains_key q.objects x ≡ true
            by None none is = absurd (cc is)
            by (Some y) some is = let same : y ≡ x = cc is in file_there q a.whole (page_of_file file n) x (some ∙ ap Some same)

        kept : AreKept q next
        kept = entry_kept q a.whole here was.0 new was.1

        maps : next.maps ≡ set_entry q.maps here new
        maps = entry_maps q a.whole here was.0 new was.1

        next_whole : AreWhole next
        next_whole = entry_whole q a.whole here was.0 new was.1 there

        at : (s : Slot) → ((s ≡ here) × (entry_at next.maps s ≡ Some new)) ⊎ (entry_at next.maps s ≡ entry_at q.maps s)
        at s = elim (slot_tells s here) [
          | inl e ↦ inl (e, ap (entry_at next.maps) e ∙ ap (λ (m : Maps). entry_at m here) maps ∙ entry_set q.maps here was.0 new was.1)
          | inr ne ↦ inr (ap (λ (m : Maps). entry_at m s) maps ∙ entry_other q.maps here was.0 new was.1 s ne)
        ]

        page_more : HasProgram (suc n) p next
        page_more = record {
          whole = next_whole;
          room = omega (arith, live_entry q a.whole here was.0 new was.1 there, a.room);
          limit = kept.limit ∙ a.limit;
          files = kept.files ∙ a.files;
          keys = λ f. ap (λ (m : Maps). map.contains_key m f) maps ∙ keys_set q.maps here was.0 new was.1 f ∙ a.keys f;
          entries = λ page below. each page below (eqb_tells page n);
          others = λ s other. elim (at s) [ inl e ↦ absurd (other (ap (λ (x : Slot). x.fork) e.0)) | inr same ↦ same ∙ a.others s other ];
          follows = λ s serial page x is. elim (at s) [
            | inl e ↦ absurd (let both : Some new ≡ Some (Follows serial page x) = sym e.1 ∙ is in let same : new ≡ Follows serial page x = cc both in never_follows (map.get q.files (page_of_file file n)) serial page x same)
            | inr same ↦ a.follows s serial page x (sym same ∙ is)
          ];
          filed = λ f x is. filed_kept q next next_whole kept.objects f x (ap (λ m. map.get m f) (kept.files ∙ a.files) ∙ is) ∙ a.filed f x is;
        }
          where
            each : (page : ℕ) → page < suc n → (((page == n) ≡ true) × (page ≡ n)) ⊎ (((page == n) ≡ false) × (page ≢ n)) → entry_at next.maps (page_of_fork top page) ≡ Some (program_entry (map.get p.files (page_of_file file page)))
            each page below (inl e) =
                ap (λ k. entry_at next.maps (page_of_fork top k)) e.1 ∙ ap (λ (m : Maps). entry_at m here) maps ∙ entry_set q.maps here was.0 new was.1
                ∙ ap (λ m. Some (program_entry (map.get m (page_of_file file n)))) a.files ∙ ap (λ k. Some (program_entry (map.get p.files (page_of_file file k)))) (sym e.1)
            each page below (inr e) =
                ap (λ (m : Maps). entry_at m (page_of_fork top page)) maps ∙ entry_other q.maps here was.0 new was.1 (page_of_fork top page) (λ same. e.1 (ap (λ (x : Slot). x.page) same)) ∙ a.entries page (omega (arith, below, e.1))

        page_is : with_program_page q top file n ≡ next
        page_is = ap (λ (o : Option MapEntry). option_map_or (λ e. with_entry q here new) o q) was.1

      -- A PROGRAM'S PAGES
      pub program_set : (n : ℕ) → n ≤ SPACE_PAGES → HasProgram n p (with_program n p top file)
      unfolding with_program
      program_set zero few = record {
        whole = w;
        room = omega arith;
        limit = refl;
        files = refl;
        keys = λ f. refl;
        entries = λ page below. absurd (omega (arith, below));
        others = λ s other. refl;
        follows = λ s serial page a is. is;
        filed = λ f x is. refl;
      }
      program_set (suc n) few =
          let q = with_program n p top file in
          let a = program_set n (omega (arith, few)) in
          subst (λ (r : PlainPages file_cmp). HasProgram (suc n) p r) (sym (page_is n q a (omega (arith, few)))) (page_more n q a (omega (arith, few)))
