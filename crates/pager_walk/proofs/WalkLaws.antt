-- What follows from walks, in the words of their users.
use Rattle.std.proofs.Common.{◌≡◌, ℕ, zero, suc, ◌<◌, List, Bool, false, cond, Option, None, Some, is_some, refl, sym, ◌∙◌, ap, subst, arith}
use Rattle.std.specs.Prelude.{IsSome, slice_get, slice_index}
use Rattle.std.specs.Option.{option_map_or, option_and_then}
use Rattle.machine_names.specs.declared.names.Access.{Access}
use Rattle.machine_names.specs.declared.names.ForkName.{ForkName}
use Rattle.machine_names.specs.declared.names.Kind.{Kind}
use Rattle.machine_names.specs.declared.names.PageName.{PageName}
use Rattle.machine_names.specs.declared.names.Slot.{Slot}
use Rattle.page_homes.specs.declared.homes.Home.{Home}
use Rattle.plain_pages.specs.Maps.{Chain, entry_at, followed, next_slot, permits, reached}
use Rattle.share_table.specs.declared.shares.SharedPage.{SharedPage}
use Rattle.page_contracts.specs.DrumWords.{DrumWords}
use Rattle.page_contracts.specs.Stores.{HomePlace, here, place, word_in, content, FitsHomes}
use Rattle.pager_walk.specs.declared.paged_entry.PagedEntry.{PagedEntry}
use Rattle.pager_walk.specs.declared.paged_entry.PagedEntry.TheVariants.{Empty, Page, Follows}
use Rattle.pager_walk.specs.declared.paged_entry.Looked.{Looked}
use Rattle.pager_walk.specs.declared.paged_entry.Looked.TheVariants.{Is, Absent as MapAbsent, Missing, Refused}
use Rattle.pager_walk.specs.declared.chain_walk.Walked.{Walked}
use Rattle.pager_walk.specs.declared.chain_walk.Walked.TheVariants.{Along, Absent, NoChain}
use Rattle.pager_walk.specs.MapPages.{fork_at, root_at, index_of}
use Rattle.pager_walk.specs.PagedMaps.{Tables, page_entry, entry_in, words_in, row_of, rows_from, look_map, look_word, look_at, maps_over, FitsMaps, AreRooted}
use Rattle.pager_walk.specs.Walks.{walked_behind, walk_from, walk_within, walk_at, entry_found, entries_found, allows, TellsOf}
use Rattle.pager_walk.proofs.Looking.{look_there}
use Rattle.pager_walk.proofs.MapRows.{entry_over}

-- a map that is absent is told
pub absent_told : (names : List (Option PageName)) (absent : Option ℕ) (c : Option Chain) (w : Walked) (home : ℕ) → TellsOf names absent c w → absent ≡ Some home → w ≡ Absent (record { 0 = home })
absent_told names absent c (Along w) home x e = absurd (let z : ◌≡◌ {A = Option ℕ} None (Some home) = sym x.0 ∙ e in cc z)
absent_told names absent c (Absent other) home x e = let same : other.0 ≡ home = (let z : Some other.0 ≡ Some home = sym x ∙ e in cc z) in λ i. Absent (record { 0 = same i })
absent_told names absent c NoChain home x e = absurd (let z : ◌≡◌ {A = Option ℕ} None (Some home) = sym x.0 ∙ e in cc z)

-- and else what the chain permits
pub permits_told : (names : List (Option PageName)) (absent : Option ℕ) (c : Option Chain) (w : Walked) (kind : Kind) → TellsOf names absent c w → absent ≡ None → allows kind w ≡ option_map_or (permits kind) c false
permits_told names absent c (Along w) kind x e = x.1.2.permits kind ∙ sym (ap (λ (o : Option Chain). option_map_or (permits kind) o false) x.1.1)
permits_told names absent c (Absent home) kind x e = absurd (let z : ◌≡◌ {A = Option ℕ} None (Some home.0) = sym e ∙ x in cc z)
permits_told names absent c NoChain kind x e = sym (ap (λ (o : Option Chain). option_map_or (permits kind) o false) x.1)

-- where a word stands for no entry, a look finds it refused
look_refused : (t : Tables) (places : List HomePlace) (s : Slot) (k : ℕ) (words : List ℕ) → index_of t.maps s.fork ≡ Some k → place places (root_at t.maps k).0 ≡ here words → entry_in t (slice_index words s.page) ≡ None → look_at t places s ≡ Refused
look_refused t places s k words is at none = ap (look_map t places s.page) is ∙ ap (λ p. look_word t (root_at t.maps k) (word_in p s.page)) at ∙ ap (λ (o : Option PagedEntry). option_map_or Is o Refused) none

-- a walk that comes to a refused word before it has taken all its entries has no chain
refused_within : (n m : ℕ) (t : Tables) (places : List HomePlace) (s r : Slot) → n < m → reached n (entries_found t places) s ≡ Some r → look_at t places r ≡ Refused → walk_within m t places s ≡ NoChain
unfolding walk_within
refused_within n zero t places s r l led refused = absurd (omega (arith, l))
refused_within zero (suc m) t places s r l led refused = let same : s ≡ r = cc led in ap (λ (o : Looked). walk_from s o (walk_within m t places)) (ap (look_at t places) same ∙ refused)
refused_within (suc n) (suc m) t places s r l led refused = by (look_at t places s) led (λ q e. refused_within n m t places q r (omega (arith, l)) e refused)
  where
    by : (o : Looked) → option_and_then (reached n (entries_found t places)) (option_and_then (next_slot s) (entry_found t.names o)) ≡ Some r
        → ((q : Slot) → reached n (entries_found t places) q ≡ Some r → walk_within m t places q ≡ NoChain) → walk_from s o (walk_within m t places) ≡ NoChain
    by (Is Empty) e rest = absurd (cc e)
    by (Is (Page home a)) e rest = absurd (cc e)
    by (Is (Follows serial page a)) e rest = ap (walked_behind s a) (rest (followed s serial page) e)
    by (MapAbsent home) e rest = absurd (cc e)
    by Missing e rest = refl
    by Refused e rest = refl

-- a word that stands for no entry has no chain, wherever it stands on the way
pub refused_word : (t : Tables) (places : List HomePlace) (n : ℕ) (s r : Slot) (k : ℕ) (words : List ℕ) → n < 4 → reached n (entries_found t places) s ≡ Some r → index_of t.maps r.fork ≡ Some k → place places (root_at t.maps k).0 ≡ here words
    → entry_in t (slice_index words r.page) ≡ None → walk_at t places s ≡ NoChain
unfolding walk_at
refused_word t places n s r k words below led is at none = refused_within n 4 t places s r below led (look_refused t places r k words is at none)

-- the page of a map is no page that an entry names
pub root_refused : (t : Tables) (taken : List Bool) (k : ℕ) (f : ForkName) (a : Access) → AreRooted t taken → fork_at t.maps k ≡ Some f → page_entry t.names (root_at t.maps k) a ≡ None
root_refused t taken k f a rooted own = ap (λ (o : Option PageName). cond (is_some o) (Some (Page (root_at t.maps k) a)) None) (rooted.unnamed k f own)

pub share_refused : (t : Tables) (taken : List Bool) (k : ℕ) (f : ForkName) (a : Access) (o : Option SharedPage) (p : SharedPage) → AreRooted t taken → fork_at t.maps k ≡ Some f → o ≡ Some p → p.home ≡ root_at t.maps k → option_and_then (λ q. page_entry t.names q.home a) o ≡ None
share_refused t taken k f a o p rooted own is root = ap (λ (x : Option SharedPage). option_and_then (λ q. page_entry t.names q.home a) x) is ∙ ap (λ (h : Home). page_entry t.names h a) root ∙ root_refused t taken k f a rooted own

-- the entries of a fork are those of its map's words, wherever the map is
pub entries_kept : (t : Tables) (old new : List HomePlace) (d e : DrumWords) (k : ℕ) (s : Slot) → index_of t.maps s.fork ≡ Some k → content new e (root_at t.maps k).0 ≡ content old d (root_at t.maps k).0 → entry_at (maps_over t new e) s ≡ entry_at (maps_over t old d) s
entries_kept t old new d e k s is same = entry_over t new e s k is ∙ ap (λ (o : Option (List ℕ)). slice_get (row_of t o) s.page) same ∙ sym (entry_over t old d s k is)

-- a look at an entry of a fork goes by where that fork's map is
pub look_kept : (t : Tables) (old new : List HomePlace) (k : ℕ) (s : Slot) → index_of t.maps s.fork ≡ Some k → place new (root_at t.maps k).0 ≡ place old (root_at t.maps k).0 → look_at t new s ≡ look_at t old s
look_kept t old new k s is same = look_there t new s k (root_at t.maps k) is refl ∙ ap (λ p. look_word t (root_at t.maps k) (word_in p s.page)) same ∙ sym (look_there t old s k (root_at t.maps k) is refl)

-- maps are those of the content
pub maps_moved : (t : Tables) (old new : List HomePlace) (d e : DrumWords) → content new e ≡ content old d → maps_over t new e ≡ maps_over t old d
unfolding maps_over
maps_moved t old new d e same = ap (λ (c : ℕ → Option (List ℕ)). rows_from t c t.maps) same

pub fits_moved : (t : Tables) (old new : List HomePlace) (d e : DrumWords) → FitsMaps t old d → FitsHomes new e → content new e ≡ content old d → FitsMaps t new e
fits_moved t old new d e fits drum same = record {
  drum = drum;
  entries = λ k page f own l. subst (λ (c : ℕ → Option (List ℕ)). IsSome (entry_in t (slice_index (words_in (c (root_at t.maps k).0)) page))) (sym same) (fits.entries k page f own l);
}
