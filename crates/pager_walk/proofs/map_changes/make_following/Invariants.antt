use Rattle.page_contracts.specs.Stores.{IsMade, here}
use Rattle.pager_walk.specs.NewPages.{following_words}
use Rattle.pager_walk.proofs.map_changes.make_following.Given as goal

abbrev pub invariant-loop-page : goal.invariant-loop-page
invariant-loop-page g l = IsMade g.S.Store.means l.home.0 (here (following_words l.serial l.page)) l.fn.store l.store
