use Rattle.std.proofs.Common.{◌≡◌, ◌∙◌, ℕ, List, None, ap, length}
use Rattle.std.proofs.lemmas.List.{length-replicate}
use Rattle.pager_walk.specs.declared.map_pages.MapPage.{MapPage}
use Rattle.fork_maps.specs.declared.map_numbers.TheConstants.{MOST_MAPS}
use Rattle.pager_walk.specs.MapPages.{no_map, fork_at}
use Rattle.pager_walk.proofs.Opened.{no_forks, numbered_none}
use Rattle.pager_walk.proofs.map_pages.KeptMaps.boot.Goals as goal

pub invariant_of-result : goal.invariant_of-result
invariant_of-result c =
    let none : (k : ℕ) → fork_at c.in_ok-pages.pages.items k ≡ None = λ k. ap (λ (maps : List MapPage). fork_at maps k) c.in_ok-pages.ensures ∙ no_forks MOST_MAPS k in
    record { listed = c.in_ok-numbers.ensures (fork_at c.in_ok-pages.pages.items) none }

pub returns : goal.returns
returns c =
    let none : (k : ℕ) → fork_at c.in_ok-pages.pages.items k ≡ None = λ k. ap (λ (maps : List MapPage). fork_at maps k) c.in_ok-pages.ensures ∙ no_forks MOST_MAPS k in
    record { numbered = numbered_none c.in_ok-pages.pages.items (ap (λ (maps : List MapPage). length maps) c.in_ok-pages.ensures ∙ length-replicate MOST_MAPS no_map) none; none = none; pages = c.in_ok-pages.ensures }
