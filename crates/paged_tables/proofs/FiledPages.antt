-- A page in a home of its own, which a file names.
use Rattle.std.proofs.Common.{◌≡◌, ◌≢◌, inl, inr, ℕ, ◌<◌, ◌≤◌, List, true, Option, None, Some, is_some, length, map, refl, sym, ◌∙◌, ap, subst, arith}
use Rattle.std.specs.Prelude.{slice_set}
use Rattle.std.specs.FinMap as fin
use Rattle.std.proofs.lemmas.Bool.{cases_eq}
use Rattle.std.proofs.lemmas.List.{get_or-set_same, get_or-set_other, length-set}
use Rattle.machine_names.specs.declared.names.PageName.{PageName}
use Rattle.machine_names.specs.declared.names.Tty.{Tty}
use Rattle.machine_names.specs.declared.names.TheConstants.{FILE_PAGES, MOST_FILES}
use Rattle.machine_names.specs.Bounds.{IsOwner}
use Rattle.machine_names.specs.Orders.{FilePage}
use Rattle.page_homes.specs.declared.homes.Home.{Home}
use Rattle.page_contracts.specs.Stores.{HomePlace, free, is_taken, place}
use Rattle.flat_tables.specs.SlotTables.{filed_total, share_of}
use Rattle.flat_tables.specs.TableSteps.{next_name}
use Rattle.flat_tables.proofs.FiledHomes.{at_itself, at_other, filed_more, filed_some, filed_within}
use Rattle.pager_walk.specs.PagedMaps.{AreRooted, name_at, with_name}
use Rattle.paged_tables.specs.MadePages.{page_filed}
use Rattle.paged_tables.specs.NameCounts.{count_of, share_at}
use Rattle.paged_tables.specs.PagedTables.{AreFiled, AreKept, Beside}
use Rattle.paged_tables.proofs.PagesMade.{below_names, new_kept, no_name}

-- a page that a file names has a name
pub filed_named : (b : Beside) → AreFiled b → (f : FilePage ℕ) (h : Home) → fin.get b.files f ≡ Some h → is_some (name_at b.tables.names h.0) ≡ true
filed_named b a f h is = by (name_at b.tables.names h.0) (let few = a.few h.0 in omega (arith, few, a.count h.0, filed_some b.files f h is))
  where
    by : (o : Option PageName) → 1 ≤ count_of b.tables.shares o (share_at b.shared h.0) → is_some o ≡ true
    by None l = absurd (omega (arith, l))
    by (Some n) l = refl

module _ (b : Beside) (places : List HomePlace) (kept : AreKept b places) (home : Home) (owner : Tty) (own : IsOwner owner) (page : HomePlace) (is_page : is_taken page ≡ true) (below : home.0 < length places) (was : place places home.0 ≡ free) (f : FilePage ℕ) (bounds : (f.file < MOST_FILES) × (f.page < FILE_PAGES)) (none : fin.get b.files f ≡ None) where
  abbrev title : PageName
  title = next_name b.serials owner

  nameless : name_at b.tables.names home.0 ≡ None
  nameless = no_name b places kept home owner own page is_page below was

  within : home.0 < length b.tables.names
  within = below_names b places kept home owner own page is_page below was

  -- no file named the page
  pub unfiled : share_of b.filed home.0 ≡ 0
  unfiled = let few = subst (λ (o : Option PageName). share_of b.filed home.0 ≤ count_of b.tables.shares o (share_at b.shared home.0)) nameless (kept.files.few home.0) in omega (arith, few)

  one_here : share_of (slice_set b.filed home.0 1) home.0 ≡ 1
  one_here = get_or-set_same b.filed home.0 1 0 (omega (arith, within, kept.files.homes))

  one_other : (k : ℕ) → k ≢ home.0 → share_of (slice_set b.filed home.0 1) k ≡ share_of b.filed k
  one_other k ne = get_or-set_other b.filed home.0 k 1 0 ne

  one_name : count_of b.tables.shares (name_at (slice_set b.tables.names home.0 (Some title)) home.0) (share_at (slice_set b.shared home.0 None) home.0) ≡ 1
  one_name = λ i. count_of b.tables.shares (get_or-set_same b.tables.names home.0 (Some title) None within i) (get_or-set_same b.shared home.0 None None (omega (arith, within, kept.shared.homes)) i)

  pub filed_kept : AreRooted (with_name b.tables home (next_name b.serials owner)) (map is_taken (slice_set places home.0 page)) → AreKept (page_filed b f home owner) (slice_set places home.0 page)
  filed_kept rooted =
      let kept' = new_kept b places kept home owner own page is_page below was rooted in
      let files : AreFiled (page_filed b f home owner) = record {
        within = filed_within b.files f home bounds kept.files.within;
        homes = length-set b.filed home.0 1 ∙ kept'.files.homes;
        count = λ k. elim (cases_eq k home.0) [
          | inl same ↦
              ap (share_of (slice_set b.filed home.0 1)) same ∙ one_here
              ∙ sym (ap (λ j. filed_total j (fin.insert b.files f home)) same ∙ (let more = filed_more b.files f home home.0 none in omega (arith, more, at_itself home, kept.files.count home.0, unfiled)))
          | inr other ↦ (let more = filed_more b.files f home k none in omega (arith, one_other k other, kept.files.count k, more, at_other k home (λ e. other (sym e))))
        ];
        few = λ k. elim (cases_eq k home.0) [
          | inl same ↦ subst (λ (j : ℕ). share_of (slice_set b.filed home.0 1) j ≤ count_of b.tables.shares (name_at (slice_set b.tables.names home.0 (Some title)) j) (share_at (slice_set b.shared home.0 None) j)) (sym same) (omega (arith, one_here, one_name))
          | inr other ↦ omega (arith, one_other k other, kept'.files.few k)
        ];
      } in
      record {
        rooted = kept'.rooted;
        filed = filed_named (page_filed b f home owner) files;
        named = kept'.named;
        shared = kept'.shared;
        files = files;
        sized = kept'.sized;
        living = kept'.living;
        homes = kept'.homes;
        free = kept'.free;
        few = kept'.few;
      }
