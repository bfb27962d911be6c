-- What adding a fork and dropping one leave, each in one record.
use Rattle.std.proofs.Common.{◌≡◌, ℕ, ◌+◌, ◌<◌, ◌≤◌, List, [], map, false, None, Some, is_some, refl, sym, ◌∙◌, ap, subst}
use Rattle.std.specs.FinMap as fin
use Rattle.machine_names.specs.declared.names.ForkName.{ForkName}
use Rattle.machine_names.specs.declared.names.TheConstants.{MOST_FORKS, TERMINALS}
use Rattle.plain_pages.specs.declared.map.NewMap.{NewMap}
use Rattle.plain_pages.specs.NewMaps.{new_map}
use Rattle.page_contracts.specs.Changes.{ForkAdded, ForkDropped}
use Rattle.page_contracts.specs.Pages.{PagesMeaning, StaysInCore, TakesMap}
use Rattle.page_contracts.specs.Stores.{StoreMeaning, FitsHomes, HomePlace, Loses, RenewsNone, traffic}
use Rattle.page_contracts.proofs.Losing.{keeps_frames, loses_nothing}
use Rattle.flat_tables.specs.declared.held_entry.HeldEntry.{HeldEntry}
use Rattle.flat_tables.specs.declared.map_tables.MapTables.{MapTables}
use Rattle.flat_pages.specs.Emptying.{EmptiesMap, MapNames}
use Rattle.flat_tables.specs.HeldMaps.{entry_of, first_map, fork_at, index_of}
use Rattle.flat_tables.specs.Serials.{serial_of}
use Rattle.flat_pages.specs.SlotMeaning.{AreTold, slots_meaning}
use Rattle.flat_tables.specs.SlotSteps.{HomeStays}
use Rattle.flat_tables.specs.SlotTables.{AreTables, Tables, files_held, plain_of}
use Rattle.flat_tables.specs.SlotTouches.{scene_of}
use Rattle.flat_tables.specs.TableSteps.{fork_begun, fork_ended, tables_of}
use Rattle.flat_tables.proofs.Beginning.{AreNew, index_begun, others_live, own_lives, scene_begun, serials_begun, told_begun, unnamed_begun, who_lives}
use Rattle.flat_pages.proofs.ForkEnds.{ended_agrees, fork_core, fork_drops, fork_lives, fork_other, fork_own}
use Rattle.flat_pages.proofs.MapHomes.{adds_map, drops_map, no_page, untouched_beside}

module _ {P S : Type 0} (store : StoreMeaning S) (part : P → S) (mt : P → MapTables) (p q : P) (a : AreTables (tables_of (store.homes (part p)) (mt p))) (f : ForkName) where
  abbrev tables : P → Tables
  tables x = tables_of (store.homes (part x)) (mt x)

  abbrev means : PagesMeaning P
  means = slots_meaning store part tables

  abbrev t : Tables
  t = tables p

  -- a fork was added, with a map whose entries are new
  module _ (k : ℕ) (unlived : fork_at t.maps k ≡ None) (from : first_map f.tty ≤ k) (below : k < first_map f.tty + MOST_FORKS) (terminal : f.tty.0 < TERMINALS) (absent : is_some (index_of t.maps f) ≡ false) (room : t.taken + t.living < t.limit)
      (same : part q ≡ part p) (entries : List HeldEntry) (new : AreNew entries) (begun : tables_of (store.homes (part p)) (mt q) ≡ fork_begun t k f entries) (what : NewMap) (named : map (entry_of t.names) entries ≡ new_map what) where
    is : tables q ≡ fork_begun t k f entries
    is = ap (λ x. tables_of (store.homes x) (mt q)) same ∙ begun

    pub fork_added : ForkAdded means f what p q
    fork_added = record {
      told = λ d fits. (subst (λ x. FitsHomes (store.homes x) d) (sym same) fits, told_begun t a k f unlived from below terminal absent room entries new (tables q) is (new_map what) named d);
      scene = subst (λ x. TakesMap (scene_of t (store.spare (part p))) (scene_of (tables q) (store.spare x)) f) (sym same) (scene_begun t a k f unlived from below terminal absent room entries new (tables q) is (store.spare (part p)));
      loses = subst (λ x. Loses (traffic store (part p)) (traffic store x)) (sym same) (loses_nothing (traffic store (part p)));
      uses = subst (λ x. RenewsNone (traffic store (part p)) (traffic store x)) (sym same) (keeps_frames (traffic store (part p)));
      adds = adds_map store part tables p q f (ap store.homes same) (ap (λ (x : Tables). x.names) is) (ap (λ (x : Tables). x.files) is) k
          (index_begun t a k f unlived from below terminal absent room entries new (tables q) is) (unnamed_begun t a k f unlived from below terminal absent room entries new (tables q) is);
      own = λ home some. absurd (cc some);
      beside = untouched_beside store part tables p q f same;
      lives = who_lives t a k f unlived from below terminal absent room entries new (tables q) is;
      forks = own_lives t a k f unlived from below terminal absent room entries new (tables q) is;
      others = others_live t a k f unlived from below terminal absent room entries new (tables q) is;
      serials = serials_begun t a k f unlived from below terminal absent room entries new (tables q) is;
      most = ap (λ (x : Tables). x.limit) is;
    }

  -- a fork was dropped, whose map was emptied before
  module _ (mid : S) (then_tables : MapTables) (k : ℕ) (index : index_of t.maps f ≡ Some k) (empties : EmptiesMap store (part p) mid (mt p) then_tables k 512) (agree : AreTables (tables_of (store.homes mid) then_tables))
      (same : part q ≡ mid) (ended : (places : List HomePlace) → tables_of places (mt q) ≡ fork_ended (tables_of places then_tables) k) where
    agrees : AreTables (tables_of (store.homes mid) (mt q))
    agrees = ended_agrees store (part p) mid (mt p) then_tables k f index empties agree (mt q) ended

    abbrev now : Tables
    now = tables_of (store.homes mid) (mt q)

    are : tables q ≡ now
    are = ap (λ x. tables_of (store.homes x) (mt q)) same

    pub fork_dropped : AreTold t → AreTold (tables_of (store.homes mid) then_tables) → ForkDropped means f p q
    fork_dropped told still = record {
      told = λ d fits. (let r = fork_drops store (part p) mid (mt p) then_tables k f index empties agree (mt q) ended a told still d fits in
          (subst (λ x. FitsHomes (store.homes x) d) (sym same) r.0, ap (λ x. plain_of x d) are ∙ r.1));
      scene = subst (λ x. StaysInCore (scene_of t (store.spare (part p))) (scene_of (tables_of (store.homes x) (mt q)) (store.spare x)) 0) (sym same) (fork_core store (part p) mid (mt p) then_tables k f index empties agree (mt q) ended);
      loses = subst (λ x. Loses (traffic store (part p)) (traffic store x)) (sym same) empties.lost;
      uses = subst (λ x. RenewsNone (traffic store (part p)) (traffic store x)) (sym same) empties.used;
      drops = drops_map store part tables p q f a (subst AreTables (sym are) agrees) k index refl refl
          (λ home. subst (λ (x : Tables). HomeStays t x home (MapNames t.maps k home)) (sym (are ∙ ended (store.homes mid))) (empties.homes home)) (λ none. ap store.spare (same ∙ empties.untouched none))
          (ap (λ (x : Tables). fin.get (files_held x.names x.files)) (are ∙ ended (store.homes mid)) ∙ ap fin.get empties.filed);
      bare = λ none quiet. record {
        own = λ home is. absurd (cc is);
        beside = untouched_beside store part tables p q f (same ∙ empties.untouched (no_page store part tables p q f a k index none));
      };
      lives = fork_lives store (part p) mid (mt p) then_tables k f index empties agree (mt q) ended;
      forks = fork_own store (part p) mid (mt p) then_tables k f index empties agree (mt q) ended;
      others = fork_other store (part p) mid (mt p) then_tables k f index empties agree (mt q) ended;
      serials = ap serial_of (ap (λ (x : Tables). x.serials) (ended []) ∙ empties.serials);
      most = ap (λ (x : Tables). x.limit) (ended []) ∙ empties.limit;
    }
