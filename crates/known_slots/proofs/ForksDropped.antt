-- What is left once a fork was dropped.
use Rattle.std.proofs.Common.{◌≡◌, ◌+◌, ◌≤◌, ℕ, List, not, ◌&&◌, is_some, Some, sym, ◌∙◌, ap, subst, arith}
use Rattle.machine_names.specs.declared.names.ForkName.{ForkName}
use Rattle.machine_names.specs.declared.names.Tty.{Tty}
use Rattle.machine_names.specs.declared.names.TheConstants.{SPACE_PAGES}
use Rattle.machine_names.specs.Orders.{same_fork}
use Rattle.page_contracts.specs.Changes.{ForkDropped}
use Rattle.page_contracts.specs.DrumWords.{DrumWords}
use Rattle.page_contracts.specs.Pages.{StaysInCore}
use Rattle.page_contracts.specs.Stores.{HomePlace, IsFreed, IsSound, StoreMeaning}
use Rattle.plain_pages.specs.References.{without_fork}
use Rattle.flat_tables.specs.Serials.{serial_of}
use Rattle.flat_pages.proofs.EmptyMaps.{core_on}
use Rattle.pager_walk.specs.MapPages.{fork_at, index_of, root_at}
use Rattle.pager_walk.proofs.NumberedMaps.{index_fork}
use Rattle.paged_tables.specs.EndedForks.{fork_gone}
use Rattle.paged_tables.specs.FreedEntries.{EndsFork}
use Rattle.paged_tables.specs.PagedMeaning.{forks_in, lives_in}
use Rattle.paged_tables.specs.PagedSlots.{filed_over, paged_slots}
use Rattle.paged_tables.specs.PagedTables.{Beside, AreKept, FitsPages, plain_over}
use Rattle.paged_tables.specs.PagedTouches.{scene_over}
use Rattle.paged_tables.proofs.ForksEnded.{dropped_told}
use Rattle.paged_tables.proofs.MapsSame.{forks_same}
use Rattle.known_slots.proofs.ForksLeft.{left_core, left_lives, left_lost, left_others, left_own, left_uses}
use Rattle.known_slots.proofs.MapsDropped.{drops_map, gives_up}

module _ {P S : Type 0} (store : StoreMeaning S) (part : P → S) (beside : P → Beside) (old new : P) (fork : ForkName) (kept : AreKept (beside old) (store.homes (part old))) (kept' : AreKept (beside new) (store.homes (part new)))
    (sound : (s : S) → IsSound store s) (e : EndsFork store (part old) (part new) (beside old) (beside new) fork) where
  abbrev b : Beside
  b = beside old

  abbrev b1 : Beside
  b1 = e.between

  abbrev b' : Beside
  b' = beside new

  abbrev number : ℕ
  number = e.frees.number

  abbrev homes : List HomePlace
  homes = store.homes (part new)

  -- the map's number and home in between
  numbered : index_of b1.tables.maps fork ≡ Some number
  numbered = ap (λ ms. index_of ms fork) e.empties.maps ∙ e.frees.numbered

  own : fork_at b1.tables.maps number ≡ Some fork
  own = index_fork b1.tables.maps fork number numbered

  freed : IsFreed store (root_at b1.tables.maps number).0 e.mid (part new)
  freed = subst (λ (h : ℕ). IsFreed store h e.mid (part new)) (ap (λ ms. (root_at ms number).0) (sym e.empties.maps)) e.freed

  told : (d : DrumWords) → FitsPages b (store.homes (part old)) d → FitsPages b' homes d × (plain_over b' homes d ≡ without_fork (plain_over b (store.homes (part old)) d) fork)
  told d fits =
      let x = dropped_told store (part old) e.mid b b1 fork number kept e.kept (sound (part old)).pages (sound e.mid).pages e.frees.numbered numbered e.empties d fits in
      subst (λ (y : Beside). FitsPages y homes d × (plain_over y homes d ≡ without_fork (plain_over b (store.homes (part old)) d) fork)) (sym e.beside)
      (subst (λ (ps : List HomePlace). FitsPages (fork_gone b1 number) ps d × (plain_over (fork_gone b1 number) ps d ≡ without_fork (plain_over b (store.homes (part old)) d) fork)) (sym freed.homes) x)

  scene : StaysInCore (scene_over b (store.homes (part old)) (store.spare (part old))) (scene_over b' homes (store.spare (part new))) 0
  scene =
      let more : store.spare e.mid ≤ store.spare (part new) = omega (arith, freed.spare) in
      let then = left_core b1 (store.homes e.mid) e.kept.rooted number fork own (store.spare e.mid) (store.spare (part new)) more in
      core_on e.empties.core
      (subst (λ (y : Beside). StaysInCore (scene_over b1 (store.homes e.mid) (store.spare e.mid)) (scene_over y homes (store.spare (part new))) 0) (sym e.beside)
      (subst (λ (ps : List HomePlace). StaysInCore (scene_over b1 (store.homes e.mid) (store.spare e.mid)) (scene_over (fork_gone b1 number) ps (store.spare (part new))) 0) (sym freed.homes) then))

  -- what is left once a fork was dropped
  pub fork_dropped : ForkDropped (paged_slots store part beside) fork old new
  fork_dropped = record {
    told = told;
    scene = scene;
    loses = left_lost store (part old) e.mid (part new) b b1 fork number SPACE_PAGES numbered e.empties freed;
    uses = left_uses store (part old) e.mid (part new) b b1 fork number SPACE_PAGES numbered e.empties freed;
    drops = drops_map store part beside old new fork kept kept' e (ap filed_over e.beside ∙ e.empties.filed);
    bare = gives_up store part beside old new fork kept kept' e;
    lives = λ f. ap (λ (y : Beside). lives_in y f) e.beside ∙ left_lives b1 e.kept.rooted.numbered number fork own f ∙ ap (λ ms. not (same_fork f fork) && is_some (index_of ms f)) e.empties.maps;
    forks = ap (λ (y : Beside). forks_in y fork.tty + 1) e.beside ∙ left_own b1 e.kept.rooted.numbered number fork own ∙ ap (λ (forks : Tty → ℕ). forks fork.tty) (forks_same b b1 e.empties.maps);
    others = λ t ne. ap (λ (y : Beside). forks_in y t) e.beside ∙ left_others b1 e.kept.rooted.numbered number fork own t ne ∙ ap (λ (forks : Tty → ℕ). forks t) (forks_same b b1 e.empties.maps);
    serials = ap (λ (y : Beside). serial_of y.serials) e.beside ∙ ap serial_of e.empties.serials;
    most = ap (λ (y : Beside). y.limit) e.beside ∙ e.empties.limit;
  }
