-- What a walk finds is what there is of the chain, and the maps on its way are those of the chain.
use Rattle.std.proofs.Common.{◌≡◌, ℕ, zero, suc, Bool, true, false, cond, Option, None, Some, refl, ◌∙◌, ap}
use Rattle.std.specs.Prelude.{◌&&◌, ◌||◌, find, is_some, not}
use Rattle.std.specs.Option.{option_map, option_or}
use Rattle.machine_names.specs.declared.names.PageName.{PageName}
use Rattle.machine_names.specs.declared.names.Slot.{Slot}
use Rattle.machine_names.specs.declared.names.Access.{Access}
use Rattle.plain_pages.specs.declared.map.MapEntry.{MapEntry}
use Rattle.plain_pages.specs.declared.map.MapEntry.TheVariants.{Empty, Names, Follows}
use Rattle.plain_pages.specs.Maps.{Entries, Link, Chain, followed, full_access, single_link, behind, chain_from, chain_within, maps_from, maps_within}
use Rattle.page_contracts.specs.Pages.{Scene, first_away}
use Rattle.page_gather.specs.declared.walk.Walked.{Walked}
use Rattle.page_gather.specs.Walks.{view, views_of, walked, last_walked, behind_walked, walked_from, walk_within, away_from, away_within}

-- one entry
single_walked : (s : Slot) (a : Access) (n : Option PageName) → walked (single_link s a n) ≡ last_walked s (not (is_some n)) a
single_walked s a n = λ i. record { end = s; empty = not (is_some n); marked = marks a.c i; reads = both a.r i; writes = writes a.c a.w i; executes = both a.x i }
  where
    both : (b : Bool) → (b && true) ≡ b
    both true = refl
    both false = refl

    marks : (b : Bool) → option_map (λ (l : Link). l.slot) (cond b (Some (record { slot = s; access = a })) None) ≡ cond b (Some s) None
    marks true = refl
    marks false = refl

    writes : (c w : Bool) → cond c true (w && true) ≡ (c || w)
    writes true w = refl
    writes false w = both w

-- an entry before a chain
chain_walked : (s : Slot) (a : Access) (c : Chain) → walked (behind s a c) ≡ behind_walked s a (walked c)
chain_walked s a c = λ i. record { end = c.end; empty = not (is_some c.page); marked = marks a.c i; reads = (walked (behind s a c)).reads; writes = (walked (behind s a c)).writes; executes = (walked (behind s a c)).executes }
  where
    marks : (b : Bool) → option_map (λ (l : Link). l.slot) (cond b (Some (record { slot = s; access = a })) (find (λ l. l.access.c) c.links)) ≡ cond b (Some s) (option_map (λ (l : Link). l.slot) (find (λ l. l.access.c) c.links))
    marks true = refl
    marks false = refl

mapped : (s : Slot) (a : Access) (o : Option Chain) → option_map walked (option_map (behind s a) o) ≡ option_map (behind_walked s a) (option_map walked o)
mapped s a None = refl
mapped s a (Some c) = ap (λ (w : Walked). Some w) (chain_walked s a c)

-- a walk finds what there is of the chain
pub walk_is_chain : (n : ℕ) (entries : Entries) (s : Slot) → option_map walked (chain_within n entries s) ≡ walk_within n (views_of entries) s
unfolding chain_within walk_within
walk_is_chain zero entries s = refl
walk_is_chain (suc n) entries s = by (λ t. walk_is_chain n entries t) (entries s)
  where
    by : ((t : Slot) → option_map walked (chain_within n entries t) ≡ walk_within n (views_of entries) t) → (e : Option MapEntry) → option_map walked (chain_from s e (chain_within n entries)) ≡ walked_from s (option_map view e) (walk_within n (views_of entries))
    by rest None = refl
    by rest (Some Empty) = ap (λ (w : Walked). Some w) (single_walked s full_access None)
    by rest (Some (Names x a)) = ap (λ (w : Walked). Some w) (single_walked s a (Some x))
    by rest (Some (Follows serial page a)) = mapped s a (chain_within n entries (followed s serial page)) ∙ ap (option_map (behind_walked s a)) (rest (followed s serial page))

or_none : (o : Option ℕ) → option_or o None ≡ o
or_none None = refl
or_none (Some home) = refl

-- and meets the maps on its way
pub away_is_way : (n : ℕ) (scene : Scene) (entries : Entries) (s : Slot) → first_away scene (maps_within n entries s) ≡ away_within n scene.map_away (views_of entries) s
unfolding maps_within away_within
away_is_way zero scene entries s = refl
away_is_way (suc n) scene entries s = by (λ t. away_is_way n scene entries t) (entries s)
  where
    by : ((t : Slot) → first_away scene (maps_within n entries t) ≡ away_within n scene.map_away (views_of entries) t) → (e : Option MapEntry) → first_away scene (maps_from s e (maps_within n entries)) ≡ away_from scene.map_away s (option_map view e) (away_within n scene.map_away (views_of entries))
    by rest None = refl
    by rest (Some Empty) = or_none (scene.map_away s.fork)
    by rest (Some (Names x a)) = or_none (scene.map_away s.fork)
    by rest (Some (Follows serial page a)) = ap (option_or (scene.map_away s.fork)) (rest (followed s serial page))
