-- The pages of a file that go one after another.
use Rattle.std.proofs.Common.{◌≡◌, inl, inr, ℕ, ◌+◌, Option, None, Some, refl, sym, ◌∙◌, ap, subst, arith}
use Rattle.std.specs.FinMap as fin
use Rattle.std.proofs.lemmas.Bool.{cases_eq}
use Rattle.machine_names.specs.Orders.{FilePage, file_page}
use Rattle.page_homes.specs.declared.homes.Home.{Home}
use Rattle.page_contracts.specs.Stores.{IsSound, StoreMeaning, traffic}
use Rattle.page_contracts.proofs.Losing.{keeps_frames, loses_nothing, loses_on, none_on}
use Rattle.plain_pages.specs.PlainPages.{NumberedPages}
use Rattle.plain_pages.specs.FilePages.{with_file}
use Rattle.flat_pages.specs.FileSteps.{AreFewerFiled, FileHas, IsFiled}
use Rattle.flat_pages.proofs.Agreement.{tables_whole}
use Rattle.flat_pages.proofs.EmptyMaps.{core_on, stays_on}
use Rattle.flat_pages.proofs.EntrySetting.{same_core}
use Rattle.flat_pages.proofs.FileEnds.{fewer_filed, fewer_itself, fewer_on}
use Rattle.paged_tables.specs.FiledSteps.{EmptiesFiled, SetsFiled}
use Rattle.paged_tables.specs.PagedTables.{Beside, AreKept, in_memory_over, plain_over}
use Rattle.paged_tables.proofs.Homed.{sized}

module _ {S : Type 0} (store : StoreMeaning S) (file : ℕ) where
  -- none of its pages
  pub empties_none : (old : S) (b : Beside) → AreKept b (store.homes old) → IsSound store old → EmptiesFiled store old old b b file 0
  empties_none old b kept sound = record {
    told = λ d fits. (fits, fewer_itself (plain_over b (store.homes old) d) file (tables_whole (in_memory_over b (store.homes old) d) fits.agree d (sized b (store.homes old) kept sound.pages d fits)));
    gone = λ page l. absurd (omega (arith, l));
    rest = λ page l. refl;
    filed = λ f ne. refl;
    maps = refl;
    serials = refl;
    living = refl;
    limit = refl;
    homes = λ k. inl (refl, refl);
    frames = λ none. refl;
    away = refl;
    core = same_core _;
    lost = loses_nothing (traffic store old);
    used = keeps_frames (traffic store old);
  }

  -- one more
  pub empties_more : (old mid new : S) (b b1 b' : Beside) (page : ℕ) → AreKept b1 (store.homes mid) → IsSound store mid → EmptiesFiled store old mid b b1 file page → SetsFiled store mid new b1 b' (file_page file page) None → EmptiesFiled store old new b b' file (page + 1)
  empties_more old mid new b b1 b' page kept sound so_far sets = record {
    told = λ d fits.
        (let before = so_far.told d fits in
        let step = sets.told d before.0 in
        let q : NumberedPages = plain_over b1 (store.homes mid) d in
        let whole = tables_whole (in_memory_over b1 (store.homes mid) d) before.0.agree d (sized b1 (store.homes mid) kept sound.pages d before.0) in (
          step.0,
          subst (λ (r : NumberedPages). AreFewerFiled (plain_over b (store.homes old) d) r file) (sym step.1) (fewer_on (plain_over b (store.homes old) d) q (with_file q (file_page file page) None) file before.1 (fewer_filed q whole file page)),
        ));
    gone = λ j l. elim (cases_eq j page) [
      | inl same ↦ ap (λ k. fin.get b'.files (file_page file k)) same ∙ sets.here
      | inr ne ↦ sets.others (file_page file j) (λ e. ne (ap (λ (x : FilePage ℕ). x.page) e)) ∙ so_far.gone j (omega (arith, l, ne))
    ];
    rest = λ j l. sets.others (file_page file j) (λ e. (let same : j ≡ page = ap (λ (x : FilePage ℕ). x.page) e in omega (arith, same, l))) ∙ so_far.rest j (omega (arith, l));
    filed = λ f ne. sets.filed f (λ e. ne (ap (λ (x : FilePage ℕ). x.file) e)) ∙ so_far.filed f ne;
    maps = sets.maps ∙ so_far.maps;
    serials = sets.serials ∙ so_far.serials;
    living = sets.living ∙ so_far.living;
    limit = sets.limit ∙ so_far.limit;
    homes = λ k. stays_on (so_far.homes k) (sets.homes k) (named_first k);
    frames = λ none. sets.frames (unfiled none (fin.get b1.files (file_page file page)) refl) ∙ so_far.frames none;
    away = sets.away ∙ so_far.away;
    core = core_on so_far.core sets.core;
    lost = loses_on (traffic store old) (traffic store mid) (traffic store new) so_far.lost sets.lost;
    used = none_on (traffic store old) (traffic store mid) (traffic store new) so_far.used sets.used;
  }
    where
      named_first : (k : ℕ) → IsFiled b1.files (file_page file page) k → FileHas b.files file k
      named_first k filed = record { page = page; there = sym (so_far.rest page (omega arith)) ∙ filed }

      unfiled : ((k : ℕ) → FileHas b.files file k → ⊥) → (o : Option Home) → fin.get b1.files (file_page file page) ≡ o → fin.get b1.files (file_page file page) ≡ None
      unfiled none None is = is
      unfiled none (Some h) is = absurd (none h.0 (named_first h.0 is))
