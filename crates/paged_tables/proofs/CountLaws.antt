-- The number of names that is kept of each page is exact.
use Rattle.std.proofs.Common.{◌≡◌, ℕ, List, Option, None, Some, sym, ◌∙◌, ap}
use Rattle.std.specs.Option.{option_map_or}
use Rattle.machine_names.specs.declared.names.PageName.{PageName}
use Rattle.page_contracts.specs.DrumWords.{DrumWords}
use Rattle.page_contracts.specs.Stores.{HomePlace}
use Rattle.plain_pages.specs.Room.{uses}
use Rattle.share_table.specs.declared.shares.SharedPage.{SharedPage}
use Rattle.share_table.specs.Shares.{page_at}
use Rattle.pager_walk.specs.PagedMaps.{name_at}
use Rattle.flat_pages.proofs.Agreement.{uses_home, uses_none}
use Rattle.paged_tables.specs.ExactCounts.{AreTold, CountsExactly}
use Rattle.paged_tables.specs.NameCounts.{count_of, share_at}
use Rattle.paged_tables.specs.PagedTables.{Beside, in_memory_over, plain_over}
use Rattle.paged_tables.specs.PagedTouches.{names_at}
use Rattle.paged_tables.proofs.Counted.{counts_at}
use Rattle.paged_tables.proofs.FilingSteps.{some_name}
use Rattle.paged_tables.proofs.Homed.{sized}

module _ (b : Beside) (places : List HomePlace) (d : DrumWords) where
  pub names_exact : (home : ℕ) (n : PageName) → AreTold b places d → name_at b.tables.names home ≡ Some n → names_at b home ≡ uses (plain_over b places d) n
  names_exact home n told named =
      sym (uses_home (in_memory_over b places d) told.fits.agree d (sized b places told.kept told.pages d told.fits) home n named ∙ counts_at b.tables.shares b.tables.names b.shared home)

  pub share_exact : (s : ℕ) (p : SharedPage) → AreTold b places d → page_at b.tables.shares s ≡ Some p → CountsExactly b places d p
  share_exact s p told is =
      let back = told.kept.shared.back s p is in
      let n = some_name (name_at b.tables.names p.home.0) (told.kept.shared.named p.home.0 (record { 0 = s }) back) in
      let counts : names_at b p.home.0 ≡ p.count = (λ i. count_of b.tables.shares (n.1 i) (back i)) ∙ ap (λ (o : Option SharedPage). option_map_or (λ q. q.count) o 0) is in
      record { name = n.0; named = n.1; count = sym counts ∙ names_exact p.home.0 n.0 told n.1 }

  pub alone_exact : (home : ℕ) (n : PageName) → AreTold b places d → name_at b.tables.names home ≡ Some n → share_at b.shared home ≡ None → uses (plain_over b places d) n ≡ 1
  alone_exact home n told named none =
      let counts : names_at b home ≡ 1 = λ i. count_of b.tables.shares (named i) (none i) in
      sym (names_exact home n told named) ∙ counts

  pub gone_exact : (n : PageName) → AreTold b places d → ((home : ℕ) → name_at b.tables.names home ≡ Some n → ⊥) → uses (plain_over b places d) n ≡ 0
  gone_exact n told none = uses_none (in_memory_over b places d) told.fits.agree d (sized b places told.kept told.pages d told.fits) n none
