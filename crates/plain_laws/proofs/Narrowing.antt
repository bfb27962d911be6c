-- An entry that is narrowed: chains lead where they led, and permit no more.
use Rattle.std.proofs.Common.{◌≡◌, ◌≢◌, ℕ, zero, suc, Bool, true, false, ◌&&◌, ◌||◌, List, [], ◌∷◌, Option, None, Some, inl, inr, refl, sym, ◌∙◌, ap, subst}
use Rattle.std.specs.List.{list_all}
use Rattle.std.specs.Option.{option_map, option_map_or, option_and_then}
use Rattle.machine_names.specs.declared.names.Slot.{Slot}
use Rattle.machine_names.specs.declared.names.Access.{Access}
use Rattle.machine_names.specs.declared.names.Kind.{Kind}
use Rattle.machine_names.specs.declared.names.Kind.TheVariants.{Read, Execute}
use Rattle.plain_pages.specs.declared.map.MapEntry.{MapEntry}
use Rattle.plain_pages.specs.declared.map.MapEntry.TheVariants.{Empty, Names, Follows}
use Rattle.plain_pages.specs.Maps.{Entries, Link, Chain, followed, full_access, narrowed, narrow, behind, chain_from, chain_within, chain, permits, may}
use Rattle.plain_pages.proofs.Chains.{slot_tells}

-- what one access permits the other does too, and a copy mark that the other has it has
pub record IsNarrower (wide narrow : Access) : Type 0 where
  pub r : narrow.r ≡ true → wide.r ≡ true
  pub w : narrow.w ≡ true → wide.w ≡ true
  pub x : narrow.x ≡ true → wide.x ≡ true
  pub c : wide.c ≡ true → narrow.c ≡ true

both : (a b : Bool) → (a && b) ≡ true → (a ≡ true) × (b ≡ true)
both true b h = (refl, h)
both false b h = absurd (cc h)

either : (a b : Bool) → a ≡ true → (a || b) ≡ true
either true b h = refl
either false b h = absurd (cc h)

-- what is narrowed permits nothing that was not permitted
pub narrower : (old given : Access) → IsNarrower old (narrowed old given)
narrower old given = record { r = λ h. (both old.r given.r h).0; w = λ h. (both old.w given.w h).0; x = λ h. (both old.x given.x h).0; c = λ h. either old.c given.c h }

narrower_itself : (a : Access) → IsNarrower a a
narrower_itself a = record { r = λ h. h; w = λ h. h; x = λ h. h; c = λ h. h }

-- one entry is the other with a narrower access
abbrev pub EntryNarrower : Option MapEntry → Option MapEntry → Type 0
EntryNarrower None None = Unit {0}
EntryNarrower (Some Empty) (Some Empty) = Unit {0}
EntryNarrower (Some (Names n a)) (Some (Names m b)) = (n ≡ m) × IsNarrower a b
EntryNarrower (Some (Follows serial page a)) (Some (Follows serial' page' b)) = (serial ≡ serial') × (page ≡ page') × IsNarrower a b
EntryNarrower e f = ⊥

entry_itself : (e : Option MapEntry) → EntryNarrower e e
entry_itself None = tt
entry_itself (Some Empty) = tt
entry_itself (Some (Names n a)) = (refl, narrower_itself a)
entry_itself (Some (Follows serial page a)) = (refl, refl, narrower_itself a)

entry_narrower : (given : Access) (e : MapEntry) → EntryNarrower (Some e) (Some (narrow given e))
entry_narrower given Empty = tt
entry_narrower given (Names n a) = (refl, narrower a given)
entry_narrower given (Follows serial page a) = (refl, refl, narrower a given)

-- and so are the links of one chain those of the other
abbrev pub LinksNarrower : List Link → List Link → Type 0
LinksNarrower [] [] = Unit {0}
LinksNarrower (l ∷ ls) (k ∷ ks) = IsNarrower l.access k.access × LinksNarrower ls ks
LinksNarrower ls ks = ⊥

pub record ChainNarrower (c d : Chain) : Type 0 where
  pub links : LinksNarrower c.links d.links
  pub end : d.end ≡ c.end
  pub page : d.page ≡ c.page

-- both chains are there, or neither
abbrev pub BothNarrower : Option Chain → Option Chain → Type 0
BothNarrower None None = Unit {0}
BothNarrower (Some c) (Some d) = ChainNarrower c d
BothNarrower c d = ⊥

behind_narrower : (s : Slot) (a b : Access) → IsNarrower a b → (c d : Option Chain) → BothNarrower c d → BothNarrower (option_map (behind s a) c) (option_map (behind s b) d)
behind_narrower s a b n None None h = tt
behind_narrower s a b n None (Some d) h = absurd h
behind_narrower s a b n (Some c) None h = absurd h
behind_narrower s a b n (Some c) (Some d) h = record { links = (n, h.links); end = h.end; page = h.page }

module _ (old new : Entries) (each : (s : Slot) → EntryNarrower (old s) (new s)) where
  pub within_narrower : (n : ℕ) (s : Slot) → BothNarrower (chain_within n old s) (chain_within n new s)
  unfolding chain_within
  within_narrower zero s = tt
  within_narrower (suc n) s = by (λ t. within_narrower n t) (old s) (new s) (each s)
    where
      by : ((t : Slot) → BothNarrower (chain_within n old t) (chain_within n new t)) → (e f : Option MapEntry) → EntryNarrower e f → BothNarrower (chain_from s e (chain_within n old)) (chain_from s f (chain_within n new))
      by rest None None h = tt
      by rest None (Some f) h = absurd h
      by rest (Some Empty) None h = absurd h
      by rest (Some Empty) (Some Empty) h = record { links = (narrower_itself full_access, tt); end = refl; page = refl }
      by rest (Some Empty) (Some (Names m b)) h = absurd h
      by rest (Some Empty) (Some (Follows serial page b)) h = absurd h
      by rest (Some (Names n a)) None h = absurd h
      by rest (Some (Names n a)) (Some Empty) h = absurd h
      by rest (Some (Names n a)) (Some (Names m b)) h = record { links = (h.1, tt); end = refl; page = ap Some (sym h.0) }
      by rest (Some (Names n a)) (Some (Follows serial page b)) h = absurd h
      by rest (Some (Follows serial page a)) None h = absurd h
      by rest (Some (Follows serial page a)) (Some Empty) h = absurd h
      by rest (Some (Follows serial page a)) (Some (Names m b)) h = absurd h
      by rest (Some (Follows serial page a)) (Some (Follows serial' page' b)) h =
          let same : chain_within n new (followed s serial page) ≡ chain_within n new (followed s serial' page') = λ i. chain_within n new (followed s (h.0 i) (h.1 i)) in
          behind_narrower s a b h.2 (chain_within n old (followed s serial page)) (chain_within n new (followed s serial' page')) (subst (BothNarrower (chain_within n old (followed s serial page))) same (rest (followed s serial page)))

  pub chain_narrower : (s : Slot) → BothNarrower (chain old s) (chain new s)
  unfolding chain
  chain_narrower s = within_narrower 4 s

module _ (right : Access → Bool) (less : (a b : Access) → IsNarrower a b → right b ≡ true → right a ≡ true) where
  all_narrower : (ls ks : List Link) → LinksNarrower ls ks → list_all (λ k. right k.access) ks ≡ true → list_all (λ l. right l.access) ls ≡ true
  all_narrower [] [] h all = refl
  all_narrower [] (k ∷ ks) h all = absurd h
  all_narrower (l ∷ ls) [] h all = absurd h
  all_narrower (l ∷ ls) (k ∷ ks) h all =
      let a = both (right k.access) (list_all (λ (k : Link). right k.access) ks) all in
      ap (λ b. b && list_all (λ (l : Link). right l.access) ls) (less l.access k.access h.0 a.0) ∙ all_narrower ls ks h.1 a.1

-- a read and a fetch that a narrower chain permits the wider one permits
pub narrower_reads : (c d : Chain) → ChainNarrower c d → permits Read d ≡ true → permits Read c ≡ true
narrower_reads c d h all = all_narrower (λ a. a.r) (λ a b n. n.r) c.links d.links h.links all

pub narrower_executes : (c d : Chain) → ChainNarrower c d → permits Execute d ≡ true → permits Execute c ≡ true
narrower_executes c d h all = all_narrower (λ a. a.x) (λ a b n. n.x) c.links d.links h.links all

-- where an entry is narrowed, no read and no fetch is permitted that was not
module _ (old new : Entries) (m : Slot) (given : Access) (e : MapEntry) (was : old m ≡ Some e) (is : new m ≡ Some (narrow given e)) (others : (s : Slot) → s ≢ m → new s ≡ old s) where
  pub each_narrower : (s : Slot) → EntryNarrower (old s) (new s)
  each_narrower s = elim (slot_tells s m) [
    | inl same ↦ subst (λ (x : Option MapEntry). EntryNarrower x (new s)) (sym (ap old same ∙ was)) (subst (EntryNarrower (Some e)) (sym (ap new same ∙ is)) (entry_narrower given e))
    | inr ne ↦ subst (EntryNarrower (old s)) (sym (others s ne)) (entry_itself (old s))
  ]

  pub narrowing : (s : Slot) → BothNarrower (chain old s) (chain new s)
  narrowing s = chain_narrower old new each_narrower s

  may_narrower : (kind : Kind) → ((c d : Chain) → ChainNarrower c d → permits kind d ≡ true → permits kind c ≡ true) → (s : Slot) → may new s kind ≡ true → may old s kind ≡ true
  may_narrower kind less s h = by (chain old s) (chain new s) (narrowing s) h
    where
      by : (c d : Option Chain) → BothNarrower c d → option_map_or (permits kind) d false ≡ true → option_map_or (permits kind) c false ≡ true
      by None None n g = g
      by None (Some d) n g = absurd n
      by (Some c) None n g = absurd n
      by (Some c) (Some d) n g = less c d n g

  pub no_wider_read : (s : Slot) → may new s Read ≡ true → may old s Read ≡ true
  no_wider_read s h = may_narrower Read narrower_reads s h

  pub no_wider_execute : (s : Slot) → may new s Execute ≡ true → may old s Execute ≡ true
  no_wider_execute s h = may_narrower Execute narrower_executes s h

  -- each slot has the page that it had
  pub narrow_still : (s : Slot) → option_and_then (λ c. c.page) (chain new s) ≡ option_and_then (λ c. c.page) (chain old s)
  narrow_still s = by (chain old s) (chain new s) (narrowing s)
    where
      by : (c d : Option Chain) → BothNarrower c d → option_and_then (λ (x : Chain). x.page) d ≡ option_and_then (λ (x : Chain). x.page) c
      by None None n = refl
      by None (Some d) n = absurd n
      by (Some c) None n = absurd n
      by (Some c) (Some d) n = n.page
