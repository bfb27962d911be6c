-- A program's pages in a map, one after another.
use Rattle.std.proofs.Common.{◌≡◌, ℕ, suc, ◌+◌, Option, None, Some, refl, ◌∙◌, ap, arith}
use Rattle.std.specs.Prelude.{IsSome, slice_index}
use Rattle.std.specs.Option.{option_and_then, option_map_or}
use Rattle.std.specs.FinMap as map
use Rattle.machine_names.specs.Orders.{file_page}
use Rattle.machine_names.specs.declared.names.ForkName.{ForkName}
use Rattle.machine_names.specs.declared.names.PageName.{PageName}
use Rattle.machine_names.specs.declared.names.Slot.{Slot}
use Rattle.machine_names.specs.declared.names.TheConstants.{SPACE_PAGES}
use Rattle.machine_names.specs.PageWords.{zero_words}
use Rattle.plain_pages.specs.declared.map.MapEntry.{MapEntry}
use Rattle.plain_pages.specs.declared.map.NewEntry.{NewEntry}
use Rattle.plain_pages.specs.Maps.{entry_at}
use Rattle.plain_pages.specs.NewEntries.{changed, entry_to}
use Rattle.plain_pages.specs.PlainPages.{NumberedPages}
use Rattle.plain_pages.specs.References.{page_at, with_changed, with_entry, word_at, words_of}
use Rattle.page_contracts.specs.declared.answers.Peeked.TheVariants.{Is, NoPage}
use Rattle.page_contracts.specs.declared.answers.Seen.TheVariants.{Missing, Is as Entry}
use Rattle.page_contracts.specs.Pages.{Scene, away_or, map_away_or, peek_of, seen_of}
use Rattle.plain_model.specs.declared.command.TheConstants.{START_WORD}
use Rattle.plain_model.specs.Commands.{program_entry, with_program, with_program_page}
use Rattle.job_commands.specs.Programs.{first_page}

-- ---- one entry

module _ (p : NumberedPages) (top : ForkName) (file page : ℕ) where
  slot : Slot
  slot = record { fork = top; page = page }

  abbrev wanted : MapEntry
  wanted = program_entry (map.get p.files (file_page file page))

  -- it is set
  pub entry_set : (new : NewEntry) → ((e : MapEntry) → entry_to p new e ≡ wanted) → changed p (record { fork = top; page = page }) new ≡ with_program_page p top file page
  unfolding changed
  entry_set new is = λ i. with_changed p (record { fork = top; page = page }) (λ e. is e i)

  -- where there is none, none is set
  pub entry_missing : (scene : Scene) → Missing ≡ seen_of p scene (record { fork = top; page = page }) → p ≡ with_program_page p top file page
  unfolding seen_of
  entry_missing scene told = by (entry_at p.maps (record { fork = top; page = page })) told
    where
      by : (o : Option MapEntry) → Missing ≡ option_map_or (λ e. map_away_or (scene.map_away top) (Entry e)) o Missing → p ≡ option_map_or (λ e. with_entry p (record { fork = top; page = page }) wanted) o p
      by None e = refl
      by (Some entry) e = away (scene.map_away top) e
        where
          away : (home : Option ℕ) → Missing ≡ map_away_or home (Entry entry) → p ≡ with_entry p (record { fork = top; page = page }) wanted
          away None h = absurd (cc h)
          away (Some home) h = absurd (cc h)

-- ---- all of them

pub none_mapped : (p : NumberedPages) (top : ForkName) (file : ℕ) → p ≡ with_program 0 p top file
unfolding with_program
none_mapped p top file = refl

pub one_more_mapped : (p q : NumberedPages) (top : ForkName) (file page : ℕ) → q ≡ with_program page p top file → with_program_page q top file page ≡ with_program (page + 1) p top file
unfolding with_program
one_more_mapped p q top file page is =
    ap (λ x. with_program_page x top file page) is ∙ ap (λ n. with_program n p top file) (let e : suc page ≡ page + 1 = omega arith in e)

pub all_mapped : (p : NumberedPages) (top : ForkName) (file n : ℕ) → n ≡ SPACE_PAGES → with_program n p top file ≡ with_program SPACE_PAGES p top file
all_mapped p top file n is = ap (λ m. with_program m p top file) is

-- ---- where it starts

module _ (p : NumberedPages) (scene : Scene) (file : ℕ) where
  pub starts_there : (word : ℕ) → Is word ≡ peek_of p scene (first_page file) START_WORD → IsSome (page_at p (first_page file)) × (word ≡ word_at p (first_page file) START_WORD)
  unfolding peek_of
  starts_there word told = by (page_at p (first_page file)) told
    where
      by : (o : Option PageName) → Is word ≡ away_or (option_and_then scene.page_away o) (option_map_or (λ n. Is (slice_index (words_of p n) START_WORD)) o NoPage)
          → IsSome o × (word ≡ slice_index (option_map_or (words_of p) o zero_words) START_WORD)
      by None e = absurd (cc e)
      by (Some n) e = here (scene.page_away n) e
        where
          here : (away : Option ℕ) → Is word ≡ away_or away (Is (slice_index (words_of p n) START_WORD)) → IsSome (Some n) × (word ≡ slice_index (words_of p n) START_WORD)
          here None h = (refl, cc h)
          here (Some home) h = absurd (cc h)

  pub no_first_page : NoPage ≡ peek_of p scene (first_page file) START_WORD → page_at p (first_page file) ≡ None
  unfolding peek_of
  no_first_page told = by (page_at p (first_page file)) told
    where
      by : (o : Option PageName) → NoPage ≡ away_or (option_and_then scene.page_away o) (option_map_or (λ n. Is (slice_index (words_of p n) START_WORD)) o NoPage) → o ≡ None
      by None e = refl
      by (Some n) e = here (scene.page_away n) e
        where
          here : (away : Option ℕ) → NoPage ≡ away_or away (Is (slice_index (words_of p n) START_WORD)) → Some n ≡ None
          here None h = absurd (cc h)
          here (Some home) h = absurd (cc h)
