-- Which homes are given up where an entry of a map names no page any more, and where all of them do.
use Rattle.std.proofs.Common.{◌≡◌, ◌≢◌, inl, inr, ℕ, ◌+◌, ◌<◌, List, length, true, false, cond, Option, None, Some, is_some, refl, sym, ◌∙◌, ap, subst, arith}
use Rattle.std.specs.Prelude.{slice_index, slice_set}
use Rattle.std.specs.List.{list_any}
use Rattle.std.specs.Option.{option_and_then, option_map_or}
use Rattle.std.proofs.Math.Path.{fun_ext}
use Rattle.std.proofs.lemmas.Bool.{cases_eq}
use Rattle.std.proofs.lemmas.List.{get_or-set_same, get_or-set_other}
use Rattle.machine_names.specs.declared.names.Access.{Access}
use Rattle.machine_names.specs.declared.names.ForkName.{ForkName}
use Rattle.machine_names.specs.declared.names.Slot.{Slot}
use Rattle.page_homes.specs.declared.homes.Home.{Home}
use Rattle.page_contracts.specs.Stores.{HomePlace, IsUsed, StoreMeaning, away, away_at, away_home, departs, free, here, is_taken, place, with_word_in, word_in}
use Rattle.page_contracts.proofs.Losing.{cancels_none}
use Rattle.share_table.specs.declared.pointer.Pointer.{Pointer}
use Rattle.share_table.specs.declared.pointer.Pointer.TheVariants as pointer
use Rattle.share_table.specs.declared.shares.Share.{Share}
use Rattle.share_table.specs.declared.shares.SharedPage.{SharedPage}
use Rattle.share_table.specs.Pointers.{pointer_word}
use Rattle.share_table.specs.Shares.{Shares, page_at}
use Rattle.pager_walk.specs.declared.paged_entry.Looked.TheVariants.{Is, Refused}
use Rattle.pager_walk.specs.declared.paged_entry.PagedEntry.{PagedEntry}
use Rattle.pager_walk.specs.declared.paged_entry.PagedEntry.TheVariants.{Page}
use Rattle.pager_walk.specs.Decoding.{pointer_in}
use Rattle.pager_walk.specs.MapPages.{fork_at, index_of, root_at}
use Rattle.pager_walk.specs.PagedMaps.{Tables, entry_for, entry_in, look_at, look_word, map_away, name_at, page_entry}
use Rattle.pager_walk.proofs.Looking.{look_there, root_taken, taken_within}
use Rattle.pager_walk.proofs.NumberedMaps.{index_fork}
use Rattle.paged_tables.specs.FreedEntries.{FreesEntries, FreesEntry, MapHas, NamesHome}
use Rattle.paged_tables.specs.FiledSteps.{PageStays}
use Rattle.paged_tables.specs.LeftShares.{left_by_one, left_of}
use Rattle.paged_tables.specs.NameCounts.{share_at}
use Rattle.paged_tables.specs.PagedTables.{Beside, AreKept}
use Rattle.paged_tables.specs.PagedTouches.{has_one_name}
use Rattle.paged_tables.specs.SetEntries.{FreesPage, PutsPointer, page_freed}
use Rattle.paged_tables.proofs.FreedPages.{freed_below, freed_share, freed_taken, page_there, within_shared}
use Rattle.paged_tables.proofs.HomesKept.{word_keeps}
use Rattle.paged_tables.proofs.LeftOnce.{look_entries}
use Rattle.paged_tables.proofs.RenamedPages.{one_named}
use Rattle.paged_tables.proofs.StillScenes.{away_put}
use Rattle.paged_tables.proofs.Touched.{named_apart}

-- each word that stands for an entry stood for it before
abbrev pub AreFewerEntries : Tables → Tables → Type 0
AreFewerEntries t t' = (w : ℕ) (e : PagedEntry) → entry_in t' w ≡ Some e → entry_in t w ≡ Some e

-- a look that finds a page finds the word of its entry in a frame
record PageHere (t : Tables) (p : HomePlace) (offset : ℕ) (h : Home) (a : Access) : Type 0 where
  words : List ℕ
  is : p ≡ here words
  entry : entry_in t (slice_index words offset) ≡ Some (Page h a)

is_of : (o : Option PagedEntry) (e : PagedEntry) → option_map_or Is o Refused ≡ Is e → o ≡ Some e
is_of None e k = absurd (cc k)
is_of (Some x) e k = let same : x ≡ e = cc k in ap Some same

page_here : (t : Tables) (home : Home) (p : HomePlace) (offset : ℕ) (h : Home) (a : Access) → look_word t home (word_in p offset) ≡ Is (Page h a) → PageHere t p offset h a
page_here t home free offset h a e = absurd (cc e)
page_here t home away offset h a e = absurd (cc e)
page_here t home (here words) offset h a e = record { words = words; is = refl; entry = is_of (entry_in t (slice_index words offset)) (Page h a) e }

-- and did so before the word at another offset was put
page_before : (t t' : Tables) → AreFewerEntries t t' → (p : HomePlace) (at word offset : ℕ) → offset ≢ at → (h : Home) (a : Access) → PageHere t' (with_word_in p at word) offset h a → PageHere t p offset h a
page_before t t' fewer free at word offset ne h a x = absurd (let z = x.is in cc z)
page_before t t' fewer away at word offset ne h a x = absurd (let z = x.is in cc z)
page_before t t' fewer (here words) at word offset ne h a x =
    let same : slice_set words at word ≡ x.words = (let z = x.is in cc z) in
    let w : slice_index x.words offset ≡ slice_index words offset = ap (λ ws. slice_index ws offset) (sym same) ∙ get_or-set_other words at offset word 0 ne in
    record { words = words; is = refl; entry = fewer (slice_index words offset) (Page h a) (ap (entry_in t') (sym w) ∙ x.entry) }

module _ (b b' : Beside) (places places' : List HomePlace) (fork : ForkName) (number : ℕ) (numbered : index_of b.tables.maps fork ≡ Some number) (maps : b'.tables.maps ≡ b.tables.maps) (fewer : AreFewerEntries b.tables b'.tables) (at word : ℕ)
    (words_are : place places' (root_at b.tables.maps number).0 ≡ with_word_in (place places (root_at b.tables.maps number).0) at word) where
  others_named : (page k : ℕ) → page ≢ at → NamesHome b' places' (record { fork = fork; page = page }) k → NamesHome b places (record { fork = fork; page = page }) k
  others_named page k ne n =
      let s : Slot = record { fork = fork; page = page } in
      let h : Home = record { 0 = k } in
      let now : index_of b'.tables.maps fork ≡ Some number = ap (λ ms. index_of ms fork) maps ∙ numbered in
      let root : (root_at b'.tables.maps number).0 ≡ (root_at b.tables.maps number).0 = ap (λ ms. (root_at ms number).0) maps in
      let x = page_here b'.tables (root_at b'.tables.maps number) (place places' (root_at b'.tables.maps number).0) page h n.access (sym (look_there b'.tables places' s number (root_at b'.tables.maps number) now refl) ∙ n.is) in
      let y = page_before b.tables b'.tables fewer (place places (root_at b.tables.maps number).0) at word page ne h n.access
      (record { words = x.words; is = sym words_are ∙ ap (place places') (sym root) ∙ x.is; entry = x.entry }) in
      record {
        access = n.access;
        is = look_there b.tables places s number (root_at b.tables.maps number) numbered refl ∙ ap (λ p. look_word b.tables (root_at b.tables.maps number) (word_in p page)) y.is ∙ ap (λ (o : Option PagedEntry). option_map_or Is o Refused) y.entry;
      }

-- a page that has one name goes
module _ (b : Beside) (places : List HomePlace) (kept : AreKept b places) (home : Home) (one : has_one_name b home.0 ≡ true) where
  abbrev t : Tables
  t = b.tables

  abbrev t' : Tables
  t' = (page_freed b home).tables

  page_fewer : (h : Home) (a : Access) (e : PagedEntry) → page_entry t'.names h a ≡ Some e → page_entry t.names h a ≡ Some e
  page_fewer h a e is = elim (cases_eq h.0 home.0) [
    | inl same ↦ absurd (let z : None ≡ Some e = sym (ap (λ o. cond (is_some o) (Some (Page h a)) None) (ap (name_at t'.names) same ∙ get_or-set_same t.names home.0 None None (freed_below b places kept home one))) ∙ is in cc z)
    | inr other ↦ sym (ap (λ o. cond (is_some o) (Some (Page h a)) None) (get_or-set_other t.names home.0 h.0 None None other)) ∙ is
  ]

  share_fewer : (s : ℕ) (p : SharedPage) → page_at t'.shares s ≡ Some p → page_at t.shares s ≡ Some p
  share_fewer s p is = by (share_at b.shared home.0) refl
    where
      by : (o : Option Share) → share_at b.shared home.0 ≡ o → page_at t.shares s ≡ Some p
      by None e = sym (ap (λ (x : Option Share). page_at (left_by_one t.shares x) s) e) ∙ is
      by (Some r) e = (page_there t.shares t.names b.shared kept.shared home.0 r e (within_shared b places kept home one) s p (sym (ap (λ (y : Shares). page_at y s) (freed_share b places kept home one r e)) ∙ is)).1

  pub freed_fewer : AreFewerEntries t t'
  freed_fewer w e is = by (pointer_in w) is
    where
      shared : (s : Share) (c : Access) (o : Option SharedPage) → page_at t'.shares s.0 ≡ o → option_and_then (λ (p : SharedPage). page_entry t'.names p.home c) o ≡ Some e → entry_for t (pointer.Shared s c) ≡ Some e
      shared s c None there k = absurd (cc k)
      shared s c (Some p) there k = ap (option_and_then (λ (q : SharedPage). page_entry t.names q.home c)) (share_fewer s.0 p there) ∙ page_fewer p.home c e k

      of : (p : Pointer) → entry_for t' p ≡ Some e → entry_for t p ≡ Some e
      of pointer.Empty k = k
      of (pointer.Private g c) k = page_fewer g c e k
      of (pointer.Shared s c) k = shared s c (page_at t'.shares s.0) refl k
      of (pointer.Indirect serial page c) k = k

      by : (o : Option Pointer) → option_and_then (entry_for t') o ≡ Some e → option_and_then (entry_for t) o ≡ Some e
      by None k = absurd (cc k)
      by (Some p) k = of p k

module _ {S : Type 0} (store : StoreMeaning S) (old new : S) (b b' : Beside) (kept : AreKept b (store.homes old)) (at : Slot) (pointer : Pointer) where
  abbrev places : List HomePlace
  places = store.homes old

  -- an entry names no page any more, and its page had another name, or it named none
  pub left_frees : PutsPointer store old new b b' (left_of b (look_at b.tables (store.homes old) at)) b.shared at pointer → FreesEntry store old new b b' at
  left_frees z = record {
    keeps = word_keeps store old new b b' kept at z.number z.numbered (pointer_word pointer) z.homes (ap (λ (x : Beside). x.tables.names) z.beside);
    frames = λ none. z.used.framed.spare;
    used = λ none number is. (let both : Some z.number ≡ Some number = sym z.numbered ∙ is in
        let same : z.number ≡ number = cc both in subst (λ (k : ℕ). IsUsed store (root_at b.tables.maps k).0 old new) same z.used);
    away = λ i f. option_and_then (λ k. gone i (root_at (maps i) k).0) (index_of (maps i) f);
    others = others_named b b' places (store.homes new) at.fork z.number z.numbered maps fewer at.page (pointer_word pointer) (ap (λ ps. place ps root) z.homes ∙ get_or-set_same places root put free within);
  }
    where
      root : ℕ
      root = (root_at b.tables.maps z.number).0

      put : HomePlace
      put = with_word_in (place places root) at.page (pointer_word pointer)

      within : root < length places
      within = taken_within places root (root_taken b.tables places kept.rooted at.fork z.number z.numbered)

      maps : b'.tables.maps ≡ b.tables.maps
      maps = ap (λ (x : Beside). x.tables.maps) z.beside

      gone : ◌≡◌ {A = ℕ → Option ℕ} (away_at (store.homes new)) (away_at places)
      gone = fun_ext (λ k. ap (λ ps. away_at ps k) z.homes ∙ away_put places root at.page (pointer_word pointer) k)

      fewer : AreFewerEntries b.tables b'.tables
      fewer w e is = sym (ap (λ (x : Beside). entry_in x.tables w) z.beside ∙ look_entries b places kept (look_at b.tables places at) w) ∙ is

  -- its page had no other name, and was given up
  pub freed_frees : (home : Home) (one : has_one_name b home.0 ≡ true) (a : Access) → look_at b.tables (store.homes old) at ≡ Is (Page home a) → FreesPage store old new b b' home at pointer → FreesEntry store old new b b' at
  freed_frees home one a looks z = record {
    keeps = record {
      number = z.number;
      numbered = z.numbered;
      word = pointer_word pointer;
      map = words_are;
      homes = λ k ne. elim (cases_eq k home.0) [
        | inl own ↦ inr (ap (place (store.homes new)) own ∙ gone_there, ap (name_at b'.tables.names) own ∙ ap (λ (x : Beside). name_at x.tables.names home.0) z.beside ∙ get_or-set_same b.tables.names home.0 None None (freed_below b places kept home one), named k own)
        | inr other ↦ inl (ap (λ ps. place ps k) homes_are ∙ get_or-set_other less root k put free ne ∙ get_or-set_other places home.0 k free free other, ap (λ (x : Beside). name_at x.tables.names k) z.beside ∙ get_or-set_other b.tables.names home.0 k None None other)
      ];
    };
    frames = λ none. absurd (none home.0 (named home.0 refl));
    used = λ none number is. absurd (none home.0 (named home.0 refl));
    away = fun_ext away_same;
    others = others_named b b' places (store.homes new) at.fork z.number z.numbered maps fewer at.page (pointer_word pointer) words_are;
  }
    where
      root : ℕ
      root = (root_at b.tables.maps z.number).0

      less : List HomePlace
      less = slice_set places home.0 free

      put : HomePlace
      put = with_word_in (place less root) at.page (pointer_word pointer)

      own_fork : fork_at b.tables.maps z.number ≡ Some at.fork
      own_fork = index_fork b.tables.maps at.fork z.number z.numbered

      apart : (k : ℕ) (f : ForkName) → fork_at b.tables.maps k ≡ Some f → (root_at b.tables.maps k).0 ≢ home.0
      apart = named_apart b places kept.rooted home.0 (one_named b home.0 one)

      roots : (j : ℕ) (g : ForkName) → fork_at b.tables.maps j ≡ Some g → place less (root_at b.tables.maps j).0 ≡ place places (root_at b.tables.maps j).0
      roots j g has = get_or-set_other places home.0 (root_at b.tables.maps j).0 free free (apart j g has)

      within : root < length less
      within = taken_within less root (ap is_taken (roots z.number at.fork own_fork) ∙ root_taken b.tables places kept.rooted at.fork z.number z.numbered)

      homes_are : store.homes new ≡ slice_set less root put
      homes_are = z.homes ∙ ap (λ ps. slice_set ps root (with_word_in (place ps root) at.page (pointer_word pointer))) z.freed.homes

      words_are : place (store.homes new) root ≡ with_word_in (place places root) at.page (pointer_word pointer)
      words_are = ap (λ ps. place ps root) homes_are ∙ get_or-set_same less root put free within ∙ ap (λ p. with_word_in p at.page (pointer_word pointer)) (roots z.number at.fork own_fork)

      maps : b'.tables.maps ≡ b.tables.maps
      maps = ap (λ (x : Beside). x.tables.maps) z.beside

      fewer : AreFewerEntries b.tables b'.tables
      fewer w e is = freed_fewer b places kept home one w e (sym (ap (λ (x : Beside). entry_in x.tables w) z.beside) ∙ is)

      gone_there : place (store.homes new) home.0 ≡ free
      gone_there = ap (λ ps. place ps home.0) homes_are ∙ get_or-set_other less root home.0 put free (λ same. apart z.number at.fork own_fork (sym same)) ∙ get_or-set_same places home.0 free free (taken_within places home.0 (freed_taken b places kept home one))

      named : (k : ℕ) → k ≡ home.0 → NamesHome b places at k
      named k own = record { access = a; is = looks ∙ ap (λ (j : ℕ). Is (Page (record { 0 = j }) a)) (sym own) }

      away_other : (k : ℕ) → k ≢ home.0 → away_at (store.homes new) k ≡ away_at places k
      away_other k ne = ap (λ ps. away_at ps k) homes_are ∙ away_put less root at.page (pointer_word pointer) k ∙ ap (λ q. away_home q k) (get_or-set_other places home.0 k free free ne)

      away_same : (f : ForkName) → map_away b'.tables (store.homes new) f ≡ map_away b.tables places f
      away_same f = ap (λ ms. option_and_then (λ k. away_at (store.homes new) (root_at ms k).0) (index_of ms f)) maps ∙ by (index_of b.tables.maps f) refl
        where
          by : (o : Option ℕ) → index_of b.tables.maps f ≡ o → option_and_then (λ k. away_at (store.homes new) (root_at b.tables.maps k).0) o ≡ option_and_then (λ k. away_at places (root_at b.tables.maps k).0) o
          by None is = refl
          by (Some k) is = away_other (root_at b.tables.maps k).0 (apart k f (index_fork b.tables.maps f k is))

-- none of a map's entries
pub frees_none : {S : Type 0} (store : StoreMeaning S) (old : S) (b : Beside) (fork : ForkName) (number : ℕ) → index_of b.tables.maps fork ≡ Some number → FreesEntries store old old b b fork 0
frees_none store old b fork number numbered = record { number = number; numbered = numbered; homes = λ k ne. inl (refl, refl); frames = λ none. refl; still = λ none quiet. record { queue = refl; untold = refl }; holds = λ none. refl; away = refl; rest = λ page k l n. n }

-- one more
module _ {S : Type 0} (store : StoreMeaning S) (old mid new : S) (b b1 b' : Beside) (fork : ForkName) (page : ℕ) (maps : b1.tables.maps ≡ b.tables.maps) (so_far : FreesEntries store old mid b b1 fork page) (frees : FreesEntry store mid new b1 b' (record { fork = fork; page = page })) where
  pub frees_more : FreesEntries store old new b b' fork (page + 1)
  frees_more = record {
    number = so_far.number;
    numbered = so_far.numbered;
    homes = λ k ne. homes_more k (so_far.homes k ne) (frees.keeps.homes k (λ same. ne (same ∙ root)));
    frames = λ none. frees.frames (λ k n. none k (has k n)) ∙ so_far.frames none;
    still = λ none quiet. (let before = so_far.still none quiet in
        let same : list_any (departs (root_at b1.tables.maps frees.keeps.number).0) (store.queue mid) ≡ false = ap (λ k. list_any (departs k) (store.queue mid)) root ∙ ap (list_any (departs (root_at b.tables.maps so_far.number).0)) before.queue ∙ quiet in
        let now = cancels_none store (departs (root_at b1.tables.maps frees.keeps.number).0) mid new same (frees.used (λ k n. none k (has k n)) frees.keeps.number frees.keeps.numbered).rescued in
        record { queue = now.queue ∙ before.queue; untold = now.untold ∙ before.untold });
    holds = λ none. (frees.used (λ k n. none k (has k n)) frees.keeps.number frees.keeps.numbered).holds ∙ so_far.holds none;
    away = frees.away ∙ so_far.away;
    rest = λ j k l n. so_far.rest j k (omega (arith, l)) (frees.others j k (λ same. omega (arith, l, same)) n);
  }
    where
      root : (root_at b1.tables.maps frees.keeps.number).0 ≡ (root_at b.tables.maps so_far.number).0
      root =
          let z : Some frees.keeps.number ≡ Some so_far.number = sym frees.keeps.numbered ∙ ap (λ ms. index_of ms fork) maps ∙ so_far.numbered in
          let same : frees.keeps.number ≡ so_far.number = cc z in
          λ i. (root_at (maps i) (same i)).0

      has : (k : ℕ) → NamesHome b1 (store.homes mid) (record { fork = fork; page = page }) k → MapHas b (store.homes old) fork k
      has k n = record { page = page; there = so_far.rest page k (omega arith) n }

      homes_more : (k : ℕ) → PageStays b (store.homes old) b1 (store.homes mid) k (MapHas b (store.homes old) fork k) → PageStays b1 (store.homes mid) b' (store.homes new) k (NamesHome b1 (store.homes mid) (record { fork = fork; page = page }) k)
          → PageStays b (store.homes old) b' (store.homes new) k (MapHas b (store.homes old) fork k)
      homes_more k (inl before) (inl now) = inl (now.0 ∙ before.0, now.1 ∙ before.1)
      homes_more k (inr before) (inl now) = inr (now.0 ∙ before.0, now.1 ∙ before.1, before.2)
      homes_more k before (inr now) = inr (now.0, now.1, has k now.2)
