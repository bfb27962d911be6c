-- What is told of pages is told of what has them.
use Rattle.std.proofs.Common.{◌≡◌, refl, sym, subst}
use Rattle.page_contracts.specs.Stores.{StoreMeaning}
use Rattle.page_contracts.specs.Pages.{OnlyUses, StaysAlike, StaysPut}
use Rattle.paged_tables.specs.PagedSlots.{paged_slots}
use Rattle.pager_walk.specs.PagedMaps.{look_at, seen_for}
use Rattle.paged_tables.specs.PagedTables.{Beside, FitsPages, plain_over}

module _ {Q P S : Type 0} (store : StoreMeaning S) (part : P → S) (beside : P → Beside) (pages : Q → P) where
  pub put_within : (p q : Q) → StaysPut (paged_slots store part beside) (pages p) (pages q) → StaysPut (paged_slots store (λ r. part (pages r)) (λ r. beside (pages r))) p q
  put_within p q s = record {
    touched = s.touched;
    scene = s.scene;
    space = s.space;
    place = s.place;
    filed = s.filed;
    map_homes = s.map_homes;
    page_homes = s.page_homes;
    lives = s.lives;
    forks = s.forks;
    serials = s.serials;
    count = s.count;
    most = s.most;
  }

  pub only_within : (p q : Q) → OnlyUses (paged_slots store part beside) (pages p) (pages q) → OnlyUses (paged_slots store (λ r. part (pages r)) (λ r. beside (pages r))) p q
  only_within p q o = record { fits = o.fits; plain = o.plain; put = put_within p q o.put; loses = o.loses }

  -- what has the same pages is alike
  pub alike_within : (p q : Q) → pages q ≡ pages p → StaysAlike (paged_slots store (λ r. part (pages r)) (λ r. beside (pages r))) p q
  alike_within p q same = record {
    fits = λ d. (subst (λ (x : P). FitsPages (beside x) (store.homes (part x)) d) (sym same), subst (λ (x : P). FitsPages (beside x) (store.homes (part x)) d) same);
    plain = λ i. plain_over (beside (same i)) (store.homes (part (same i)));
    put = put_within p q (subst (StaysPut (paged_slots store part beside) (pages p)) (sym same) put_still);
    seen = λ i s. seen_for (beside (same i)).tables (look_at (beside (same i)).tables (store.homes (part (same i))) s);
    stored = record {
      there = record {
        homes = λ i. store.homes (part (same i));
        framed = record { frames = λ i. store.frames (part (same i)); spare = λ i. store.spare (part (same i)); found = λ i. store.found (part (same i)); tenant = λ i. store.tenant (part (same i)); members = λ i. store.members (part (same i)) };
        ages = λ i. store.age (part (same i));
        uses = λ i. store.uses (part (same i));
      };
      queued = record { queue = λ i. store.queue (part (same i)); untold = λ i. store.untold (part (same i)) };
      holds = λ i. store.holds (part (same i));
    };
    victim = λ i. store.victim (part (same i));
  }
    where
      put_still : StaysPut (paged_slots store part beside) (pages p) (pages p)
      put_still = record { touched = refl; scene = refl; space = refl; place = refl; filed = refl; map_homes = refl; page_homes = refl; lives = refl; forks = refl; serials = refl; count = refl; most = refl }
