-- What looks find once an entry was set, whatever the drum: that entry, and each that follows another as before.
use Rattle.std.proofs.Common.{◌≡◌, ◌≢◌, inl, inr, ℕ, List, Bool, true, false, cond, Option, None, Some, is_some, refl, sym, ◌∙◌, ap, subst, arith, ◌≤◌, ◌<◌}
use Rattle.std.specs.Prelude.{slice_index, slice_set}
use Rattle.std.specs.Option.{option_map_or, option_and_then}
use Rattle.std.proofs.lemmas.Bool.{cases_eq}
use Rattle.std.proofs.lemmas.List.{get_or-set_same, get_or-set_other}
use Rattle.outside.specs.Drums.{IsPage}
use Rattle.machine_names.specs.declared.names.Access.{Access}
use Rattle.machine_names.specs.declared.names.ForkName.{ForkName}
use Rattle.machine_names.specs.declared.names.PageName.{PageName}
use Rattle.machine_names.specs.declared.names.Slot.{Slot}
use Rattle.page_homes.specs.declared.homes.Home.{Home}
use Rattle.page_contracts.specs.Stores.{HomePlace, free, away, here, is_taken, place, word_in}
use Rattle.share_table.specs.declared.pointer.Pointer.{Pointer}
use Rattle.share_table.specs.declared.pointer.Pointer.TheVariants as pointer
use Rattle.share_table.specs.declared.shares.SharedPage.{SharedPage}
use Rattle.share_table.specs.Pointers.{IsPointer}
use Rattle.machine_names.specs.declared.names.TheConstants.{LAST_SERIAL, SPACE_PAGES}
use Rattle.pager_walk.proofs.DecodedWords.{pointer_only}
use Rattle.share_table.specs.Shares.{Shares, page_at}
use Rattle.pager_walk.specs.declared.paged_entry.Looked.TheVariants.{Is, Refused}
use Rattle.pager_walk.specs.declared.paged_entry.PagedEntry.{PagedEntry}
use Rattle.pager_walk.specs.declared.paged_entry.PagedEntry.TheVariants.{Page, Follows}
use Rattle.pager_walk.specs.Decoding.{pointer_in}
use Rattle.pager_walk.specs.MapPages.{fork_at, root_at, index_of}
use Rattle.pager_walk.specs.PagedMaps.{Tables, entry_for, entry_in, look_at, look_map, look_word, name_at, page_entry}
use Rattle.pager_walk.specs.Walks.{IsNearSlot}
use Rattle.pager_walk.proofs.Looking.{ArePages, taken_within}
use Rattle.pager_walk.proofs.NumberedMaps.{index_fork}
use Rattle.paged_tables.specs.PagedTables.{Beside, AreKept}
use Rattle.paged_tables.proofs.EntryPut.{own_fork, put_is, put_places, words_there}

pub record SetsOne (t t' : Tables) (places places' : List HomePlace) (at : Slot) (e : PagedEntry) : Type 0 where
  pub own : look_at t' places' at ≡ Is e
  pub rest : (s : Slot) (serial page : ℕ) (a : Access) → look_at t places s ≡ Is (Follows serial page a) → (s ≡ at → ⊥) → look_at t' places' s ≡ Is (Follows serial page a)

-- what follows another entry does so whatever the names and shares
module _ (t : Tables) (names : List (Option PageName)) (shares : Shares) (serial page : ℕ) (a : Access) where
  no_page : (h : Home) (c : Access) → page_entry t.names h c ≡ Some (Follows serial page a) → ⊥
  no_page h c = by (is_some (name_at t.names h.0))
    where
      by : (b : Bool) → cond b (Some (Page h c)) None ≡ Some (Follows serial page a) → ⊥
      by true e = cc e
      by false e = cc e

  pub follows_still : (w : ℕ) → entry_in t w ≡ Some (Follows serial page a) → entry_in (record t { names = names; shares = shares }) w ≡ Some (Follows serial page a)
  follows_still w = by (pointer_in w)
    where
      shared : (o : Option SharedPage) (c : Access) → option_and_then (λ (p : SharedPage). page_entry t.names p.home c) o ≡ Some (Follows serial page a) → ⊥
      shared None c e = cc e
      shared (Some p) c e = no_page p.home c e

      of : (p : Pointer) → entry_for t p ≡ Some (Follows serial page a) → entry_for (record t { names = names; shares = shares }) p ≡ Some (Follows serial page a)
      of pointer.Empty e = absurd (cc e)
      of (pointer.Private h c) e = absurd (no_page h c e)
      of (pointer.Shared s c) e = absurd (shared (page_at t.shares s.0) c e)
      of (pointer.Indirect x y c) e = e

      by : (o : Option Pointer) → option_and_then (entry_for t) o ≡ Some (Follows serial page a) → option_and_then (entry_for (record t { names = names; shares = shares })) o ≡ Some (Follows serial page a)
      by None e = absurd (cc e)
      by (Some p) e = of p e

-- a look that follows finds the word of its entry in a frame
record FollowsHere (t : Tables) (p : HomePlace) (offset serial page : ℕ) (a : Access) : Type 0 where
  words : List ℕ
  is : p ≡ here words
  entry : entry_in t (slice_index words offset) ≡ Some (Follows serial page a)

is_of : (o : Option PagedEntry) (e : PagedEntry) → option_map_or Is o Refused ≡ Is e → o ≡ Some e
is_of None e k = absurd (cc k)
is_of (Some x) e k = let same : x ≡ e = cc k in ap Some same

follows_here : (t : Tables) (home : Home) (p : HomePlace) (offset serial page : ℕ) (a : Access) → look_word t home (word_in p offset) ≡ Is (Follows serial page a) → FollowsHere t p offset serial page a
follows_here t home free offset serial page a e = absurd (cc e)
follows_here t home away offset serial page a e = absurd (cc e)
follows_here t home (here words) offset serial page a e = record { words = words; is = refl; entry = is_of (entry_in t (slice_index words offset)) (Follows serial page a) e }

-- the pointer of an entry that follows another is one
module _ (t : Tables) (serial page : ℕ) (a : Access) where
  follows_pointer : (p : Pointer) → IsPointer p → entry_for t p ≡ Some (Follows serial page a) → IsPointer (pointer.Indirect serial page a)
  follows_pointer pointer.Empty is e = absurd (cc e)
  follows_pointer (pointer.Private h c) is e = absurd (no_page t t.names t.shares serial page a h c e)
  follows_pointer (pointer.Shared s c) is e = absurd (by (page_at t.shares s.0) e)
    where
      by : (o : Option SharedPage) → option_and_then (λ (p : SharedPage). page_entry t.names p.home c) o ≡ Some (Follows serial page a) → ⊥
      by None e = cc e
      by (Some p) e = no_page t t.names t.shares serial page a p.home c e
  follows_pointer (pointer.Indirect x y c) is e =
      let same : ◌≡◌ {A = PagedEntry} (Follows x y c) (Follows serial page a) = cc e in
      let s : x ≡ serial = cc same in
      let q : y ≡ page = cc same in
      subst (λ (n : ℕ). IsPointer (pointer.Indirect n page a)) s (subst (λ (n : ℕ). (1 ≤ x) × (x ≤ LAST_SERIAL) × (n < SPACE_PAGES)) q is)

  follows_word : (w : ℕ) → entry_in t w ≡ Some (Follows serial page a) → IsPointer (pointer.Indirect serial page a)
  follows_word w = by (pointer_in w) refl
    where
      by : (o : Option Pointer) → pointer_in w ≡ o → option_and_then (entry_for t) o ≡ Some (Follows serial page a) → IsPointer (pointer.Indirect serial page a)
      by None e k = absurd (cc k)
      by (Some p) e k = follows_pointer p (pointer_only w p e).0 k

  pub follows_fits : (places : List HomePlace) (s : Slot) → look_at t places s ≡ Is (Follows serial page a) → IsPointer (pointer.Indirect serial page a)
  follows_fits places s = by (index_of t.maps s.fork)
    where
      by : (o : Option ℕ) → look_map t places s.page o ≡ Is (Follows serial page a) → IsPointer (pointer.Indirect serial page a)
      by None e = absurd (cc e)
      by (Some k) e = let x = follows_here t (root_at t.maps k) (place places (root_at t.maps k).0) s.page serial page a e in follows_word (slice_index x.words s.page) x.entry

module _ (b : Beside) (places mid : List HomePlace) (kept : AreKept b places) (pages : ArePages places) (at : Slot) (near : IsNearSlot b.tables places at) (number : ℕ) (numbered : index_of b.tables.maps at.fork ≡ Some number)
    (roots : (j : ℕ) (g : ForkName) → fork_at b.tables.maps j ≡ Some g → place mid (root_at b.tables.maps j).0 ≡ place places (root_at b.tables.maps j).0) (word : ℕ) (names : List (Option PageName)) (shares : Shares) (e : PagedEntry) where
  abbrev t' : Tables
  t' = record b.tables { names = names; shares = shares }

  abbrev put : List HomePlace
  put = put_places b places mid kept at near number numbered roots word

  abbrev root : ℕ
  root = (root_at b.tables.maps number).0

  abbrev ws : List ℕ
  ws = (words_there b places mid kept at near number numbered roots word).0

  here_now : place put root ≡ here (slice_set ws at.page word)
  here_now =
      ap (λ ps. place ps root) (put_is b places mid kept at near number numbered roots word)
      ∙ get_or-set_same mid root (here (slice_set ws at.page word)) free (taken_within mid root (ap is_taken (roots number at.fork (own_fork b places mid kept at near number numbered roots word) ∙ (words_there b places mid kept at near number numbered roots word).1)))

  size : IsPage ws
  size = pages root ws (words_there b places mid kept at near number numbered roots word).1

  word_now : slice_index (slice_set ws at.page word) at.page ≡ word
  word_now = get_or-set_same ws at.page word 0 (omega (arith, size.size, near.page))

  own_now : entry_in t' word ≡ Some e → look_at t' put at ≡ Is e
  own_now stands =
      ap (look_map t' put at.page) numbered ∙ ap (λ p. look_word t' (root_at b.tables.maps number) (word_in p at.page)) here_now
      ∙ ap (λ w. option_map_or Is (entry_in t' w) Refused) word_now ∙ ap (λ o. option_map_or Is o Refused) stands

  other_place : (k : ℕ) (f : ForkName) → fork_at b.tables.maps k ≡ Some f → k ≢ number → place put (root_at b.tables.maps k).0 ≡ place places (root_at b.tables.maps k).0
  other_place k f is ne =
      ap (λ ps. place ps (root_at b.tables.maps k).0) (put_is b places mid kept at near number numbered roots word)
      ∙ get_or-set_other mid root (root_at b.tables.maps k).0 (here (slice_set ws at.page word)) free (λ same. ne (kept.rooted.apart k number f at.fork is (own_fork b places mid kept at near number numbered roots word) same)) ∙ roots k f is

  rest_now : (s : Slot) (serial page : ℕ) (a : Access) → look_at b.tables places s ≡ Is (Follows serial page a) → (s ≡ at → ⊥) → look_at t' put s ≡ Is (Follows serial page a)
  rest_now s serial page a look apart = by (index_of b.tables.maps s.fork) refl look
    where
      put_in : (k : ℕ) (words : List ℕ) → place put (root_at b.tables.maps k).0 ≡ here words → entry_in b.tables (slice_index words s.page) ≡ Some (Follows serial page a)
          → look_word t' (root_at b.tables.maps k) (word_in (place put (root_at b.tables.maps k).0) s.page) ≡ Is (Follows serial page a)
      put_in k words is entry = ap (λ p. look_word t' (root_at b.tables.maps k) (word_in p s.page)) is ∙ ap (λ o. option_map_or Is o Refused) (follows_still b.tables names shares serial page a (slice_index words s.page) entry)

      same_map : (k : ℕ) → index_of b.tables.maps s.fork ≡ Some k → k ≡ number → s.page ≢ at.page
      same_map k is same page_same =
          let f : s.fork ≡ at.fork = (let z : Some s.fork ≡ Some at.fork = sym (index_fork b.tables.maps s.fork k is) ∙ ap (fork_at b.tables.maps) same ∙ own_fork b places mid kept at near number numbered roots word in cc z) in
          apart (λ i. record { fork = f i; page = page_same i })

      there : (k : ℕ) → index_of b.tables.maps s.fork ≡ Some k → look_word b.tables (root_at b.tables.maps k) (word_in (place places (root_at b.tables.maps k).0) s.page) ≡ Is (Follows serial page a)
          → look_word t' (root_at b.tables.maps k) (word_in (place put (root_at b.tables.maps k).0) s.page) ≡ Is (Follows serial page a)
      there k is l =
          let x = follows_here b.tables (root_at b.tables.maps k) (place places (root_at b.tables.maps k).0) s.page serial page a l in
          elim (cases_eq k number) [
            | inl same ↦
                let w : x.words ≡ ws = (let z : here x.words ≡ here ws = sym x.is ∙ ap (λ j. place places (root_at b.tables.maps j).0) same ∙ (words_there b places mid kept at near number numbered roots word).1 in cc z) in
                put_in k (slice_set ws at.page word) (ap (λ j. place put (root_at b.tables.maps j).0) same ∙ here_now)
                (ap (entry_in b.tables) (get_or-set_other ws at.page s.page word 0 (same_map k is same) ∙ ap (λ (v : List ℕ). slice_index v s.page) (sym w)) ∙ x.entry)
            | inr ne ↦ put_in k x.words (other_place k s.fork (index_fork b.tables.maps s.fork k is) ne ∙ x.is) x.entry
          ]

      by : (o : Option ℕ) → index_of b.tables.maps s.fork ≡ o → look_map b.tables places s.page o ≡ Is (Follows serial page a) → look_map t' put s.page (index_of b.tables.maps s.fork) ≡ Is (Follows serial page a)
      by None is l = absurd (cc l)
      by (Some k) is l = ap (look_map t' put s.page) is ∙ there k is l

  pub sets_one : entry_in t' word ≡ Some e → SetsOne b.tables t' places put at e
  sets_one stands = record { own = own_now stands; rest = rest_now }
