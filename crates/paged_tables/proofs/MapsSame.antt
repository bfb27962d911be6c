-- Where the maps are as they were, the same forks live.
use Rattle.std.proofs.Common.{◌≡◌, false, is_some, nat_eq}
use Rattle.std.specs.Prelude.{count_by}
use Rattle.std.specs.Option.{option_map, option_map_or}
use Rattle.pager_walk.specs.declared.map_pages.MapPage.{MapPage}
use Rattle.pager_walk.specs.MapPages.{index_of, root_at}
use Rattle.paged_tables.specs.PagedMeaning.{forks_in, lives_in}
use Rattle.paged_tables.specs.PagedSlots.{map_home_over}
use Rattle.paged_tables.specs.PagedTables.{Beside}

module _ (b b' : Beside) (maps : b'.tables.maps ≡ b.tables.maps) where
  pub lives_same : lives_in b' ≡ lives_in b
  lives_same = λ i f. is_some (index_of (maps i) f)

  pub forks_same : forks_in b' ≡ forks_in b
  forks_same = λ i t. count_by (λ (m : MapPage). option_map_or (λ f. nat_eq f.tty.0 t.0) m.fork false) (maps i)

  -- and each map has its home
  pub homes_same : map_home_over b' ≡ map_home_over b
  homes_same = λ i f. option_map (λ k. (root_at (maps i) k).0) (index_of (maps i) f)
