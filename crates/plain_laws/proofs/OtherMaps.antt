-- What the references and stores of a job leave: the maps of other jobs.
use Rattle.std.proofs.Common.{◌≡◌, ℕ, zero, suc, Bool, true, false, cond, List, [], ◌∷◌, ◌++◌, All, Option, None, Some, refl, sym, ◌∙◌, ap, subst, Ordering}
use Rattle.std.specs.Prelude.{is_some, slice_set, find}
use Rattle.std.specs.List.{filter_map}
use Rattle.std.specs.Option.{option_map_or, option_and_then, option_map}
use Rattle.std.specs.FinMap as map
use Rattle.std.proofs.lemmas.List.Elements.{All-nil, All-cons, All-append, All-head, All-tail}
use Rattle.machine_names.specs.declared.names.Tty.{Tty}
use Rattle.machine_names.specs.declared.names.ForkName.{ForkName}
use Rattle.machine_names.specs.declared.names.PageName.{PageName}
use Rattle.machine_names.specs.declared.names.Slot.{Slot}
use Rattle.machine_names.specs.declared.names.Kind.{Kind}
use Rattle.machine_names.specs.declared.names.Kind.TheVariants.{Read, Write, Execute}
use Rattle.plain_pages.specs.declared.map.MapEntry.{MapEntry}
use Rattle.plain_pages.specs.declared.map.MapEntry.TheVariants.{Empty, Names, Follows}
use Rattle.plain_pages.specs.PlainPages.{PlainPages, Map, Maps}
use Rattle.plain_pages.specs.Maps.{Entries, Link, Chain, chain, chain_within, entry_at, followed, full_access, permits, set_entry, single_link, behind, chain_from}
use Rattle.plain_pages.specs.Room.{HasRoom, page_in}
use Rattle.plain_pages.specs.References.{in_map, Making, blank, copy, along_chain, blanks, copies, copy_in, private_access, makings, make, make_all, next_page, granted, denied, reference, in_file, slot_at, stored, without_fork}
use Rattle.plain_units.specs.Steps.{Steps, Progress, plainly, run}
use Rattle.plain_units.specs.Blocks.{stored_from}
use Rattle.plain_pages.proofs.Settles.{copy_maps}
use Rattle.plain_pages.proofs.ReferencesMade.{roomy, reference_makes, reference_denied}
use Rattle.plain_pages.proofs.Kept.{drop_all_leaves}
use Rattle.plain_units.proofs.PageRuns.{PlanLeaves, stored_maps}
use Rattle.plain_laws.proofs.Led.{run_led, words_led}
use Rattle.plain_model.proofs.Values.{found_holds}
use Rattle.plain_model.proofs.ForkMaps.{get_put_other, get_gone_other}
use Rattle.std.specs.Cmp.{IsTotalOrder}

-- a slot of a job
abbrev pub InJob : Tty → Slot → Type 0
InJob t s = s.fork.tty.0 ≡ t.0

-- a chain stays in its job
record ChainIn (t : Tty) (c : Chain) : Type 0 where
  end : InJob t c.end
  links : All (λ (l : Link). InJob t l.slot) c.links

chain_in : (n : ℕ) (entries : Entries) (t : Tty) (s : Slot) (c : Chain) → InJob t s → chain_within n entries s ≡ Some c → ChainIn t c
unfolding chain_within
chain_in zero entries t s c here is = absurd (cc is)
chain_in (suc n) entries t s c here is = by (λ u d at found. chain_in n entries t u d at found) (entries s) is
  where
    alone : (d : Chain) → d.end ≡ s → (l : Link) → d.links ≡ l ∷ [] → l.slot ≡ s → ChainIn t d
    alone d end l links slot = record {
      end = ap (λ (x : Slot). x.fork.tty.0) end ∙ here;
      links = subst (λ ls. All (λ (l : Link). InJob t l.slot) ls) (sym links) (All-cons (λ (l : Link). InJob t l.slot) l [] (ap (λ (x : Slot). x.fork.tty.0) slot ∙ here) (All-nil (λ (l : Link). InJob t l.slot)));
    }

    by : ((u : Slot) (d : Chain) → InJob t u → chain_within n entries u ≡ Some d → ChainIn t d) → (e : Option MapEntry) → chain_from s e (chain_within n entries) ≡ Some c → ChainIn t c
    by rest None h = absurd (cc h)
    by rest (Some Empty) h = let same : single_link s full_access None ≡ c = cc h in subst (λ d. ChainIn t d) same (alone (single_link s full_access None) refl (record { slot = s; access = full_access }) refl refl)
    by rest (Some (Names m a)) h = let same : single_link s a (Some m) ≡ c = cc h in subst (λ d. ChainIn t d) same (alone (single_link s a (Some m)) refl (record { slot = s; access = a }) refl refl)
    by rest (Some (Follows serial page a)) h = later (chain_within n entries (followed s serial page)) refl h
      where
        later : (o : Option Chain) → chain_within n entries (followed s serial page) ≡ o → option_map (behind s a) o ≡ Some c → ChainIn t c
        later None none g = absurd (cc g)
        later (Some d) some g =
            let r = rest (followed s serial page) d here some in
            let same : behind s a d ≡ c = cc g in
            subst (λ d. ChainIn t d) same (record { end = r.end; links = All-cons (λ (l : Link). InJob t l.slot) (record { slot = s; access = a }) d.links here r.links })

module _ {K : Type 0} where
  -- a page that is made in a job
  abbrev MadeIn : Tty → Making K → Type 0
  MadeIn t (blank (in_map s)) = InJob t s
  MadeIn t (blank (in_file f)) = Unit {0}
  MadeIn t (copy s a) = InJob t s

  copies_in : (t : Tty) (c : Chain) → ChainIn t c → (kind : Kind) → All (MadeIn t) (copies kind c)
  copies_in t c in_job Read = All-nil (MadeIn t)
  copies_in t c in_job Execute = All-nil (MadeIn t)
  copies_in t c in_job Write = by (find (λ l. l.access.c) c.links) refl
    where
      by : (o : Option Link) → find (λ l. l.access.c) c.links ≡ o → All (MadeIn t) (copy_in c o)
      by None none = All-nil (MadeIn t)
      by (Some l) some = All-cons (MadeIn t) (copy l.slot (private_access c)) [] (found_holds (λ (l : Link). InJob t l.slot) (λ l. l.access.c) c.links l in_job.links some) (All-nil (MadeIn t))

  blanks_in : (t : Tty) (c : Chain) → ChainIn t c → All (MadeIn t) (blanks c)
  blanks_in t c in_job = by c.page
    where
      by : (n : Option PageName) → All (MadeIn t) (cond (is_some n) [] (blank (in_map c.end) ∷ []))
      by None = All-cons (MadeIn t) (blank (in_map c.end)) [] in_job.end (All-nil (MadeIn t))
      by (Some n) = All-nil (MadeIn t)

module _ {K : Type 0} {file_cmp : K → K → Ordering} where
  makings_in : (p : PlainPages file_cmp) (t : Tty) (s : Slot) (kind : Kind) (ms : List (Making K)) → InJob t s → makings p (in_map s) kind ≡ Some ms → All (MadeIn t) ms
  unfolding makings chain
  makings_in p t s kind ms here is = by (chain_within 4 (entry_at p.maps) s) refl is
    where
      along : (c : Chain) → ChainIn t c → (b : Bool) → cond b (Some (blanks c ++ copies kind c)) None ≡ Some ms → All (MadeIn t) ms
      along c in_job true h = let same : blanks c ++ copies kind c ≡ ms = cc h in subst (λ ms. All (MadeIn t) ms) same (All-append (MadeIn t) (blanks c) (copies kind c) (blanks_in t c in_job) (copies_in t c in_job kind))
      along c in_job false h = absurd (cc h)

      by : (o : Option Chain) → chain_within 4 (entry_at p.maps) s ≡ o → option_and_then (along_chain kind) o ≡ Some ms → All (MadeIn t) ms
      by None none h = absurd (cc h)
      by (Some c) some h = along c (chain_in 4 (entry_at p.maps) t s c here some) (permits kind c) h

-- a fork of another job
module _ (t : Tty) (k : ForkName) (other : k.tty.0 ≡ t.0 → ⊥) where
  pub not_it : (f : ForkName) → f.tty.0 ≡ t.0 → k ≡ f → ⊥
  not_it f here e = other (ap (λ (n : ForkName). n.tty.0) e ∙ here)

  pub set_other : (maps : Maps) (s : Slot) (e : MapEntry) → InJob t s → map.get (set_entry maps s e) k ≡ map.get maps k
  set_other maps s e here = by (map.get maps s.fork)
    where
      by : (o : Option Map) → map.get (option_map_or (λ m. map.insert maps s.fork (slice_set m s.page e)) o maps) k ≡ map.get maps k
      by None = refl
      by (Some m) = get_put_other maps s.fork k (slice_set m s.page e) (not_it s.fork here)

  module _ {K : Type 0} {file_cmp : K → K → Ordering} where
    -- pages that leave its map
    abbrev pub Elsewhere : PlainPages file_cmp → PlainPages file_cmp → Type 0
    Elsewhere p q = map.get q.maps k ≡ map.get p.maps k

    module _ (o : IsTotalOrder file_cmp) (owner : Tty) where
      make_other : (p : PlainPages file_cmp) (m : Making K) → MadeIn t m → Elsewhere p (make p owner m)
      unfolding make
      make_other p (blank (in_map s)) here = set_other p.maps s (Names (next_page p owner) full_access) here
      make_other p (blank (in_file f)) here = refl
      make_other p (copy s a) here = ap (λ (m : Maps). map.get m k) (copy_maps o p owner s a) ∙ set_other p.maps s (Names (next_page p owner) a) here

      all_other : (ms : List (Making K)) (p q : PlainPages file_cmp) → All (MadeIn t) ms → make_all p owner ms ≡ granted q → Elsewhere p q
      unfolding make_all
      all_other [] p q here g = let same : p ≡ q = cc g in ap (λ (r : PlainPages file_cmp). map.get r.maps k) (sym same)
      all_other (m ∷ ms) p q here g =
          let r = roomy (HasRoom (make p owner m) owner) (make_all (make p owner m) owner ms) q g in
          all_other ms (make p owner m) q (All-tail (MadeIn t) m ms here) r.1 ∙ make_other p m (All-head (MadeIn t) m ms here)

      pub reference_other : (p q : PlainPages file_cmp) (s : Slot) (kind : Kind) → InJob t s → reference p (in_map s) kind owner ≡ granted q → Elsewhere p q
      reference_other p q s kind here g = by (makings p (in_map s) kind) refl
        where
          by : (x : Option (List (Making K))) → makings p (in_map s) kind ≡ x → Elsewhere p q
          by None h = absurd (let no : denied kind ≡ granted q = sym (reference_denied p owner (in_map s) kind h) ∙ g in cc no)
          by (Some ms) h = all_other ms p q (makings_in p t s kind ms here h) (sym (reference_makes p owner (in_map s) kind ms h) ∙ g)

    module _ (o : IsTotalOrder file_cmp) (f : ForkName) (here : f.tty.0 ≡ t.0) where
      module _ (p : PlainPages file_cmp) where
        refers_on : (q r : PlainPages file_cmp) (a : ℕ) (kind : Kind) → Elsewhere p q → reference q (in_map (slot_at f a)) kind f.tty ≡ granted r → Elsewhere p r
        refers_on q r a kind w is = reference_other o f.tty q r (slot_at f a) kind here is ∙ w

        stores_on : (q : PlainPages file_cmp) (s : Slot) (offset word : ℕ) → Elsewhere p q → Elsewhere p (stored q (in_map s) offset word)
        stores_on q s offset word w = ap (λ (m : Maps). map.get m k) (stored_maps q (in_map s) offset word) ∙ w

        pub run_other : (steps : Steps) (u : Progress file_cmp) → Elsewhere p u.pages → PlanLeaves (λ q. Elsewhere p q) f (run (plainly f) f steps u)
        run_other steps u w = run_led f (λ q. Elsewhere p q) refers_on stores_on steps u w

        -- and so do the words that are stored
        pub words_other : (at : ℕ) (words : List ℕ) → Elsewhere p (stored_from p f at words)
        words_other at words = words_led f (λ q. Elsewhere p q) refers_on stores_on p refl at words

    -- a fork of the job that goes
    pub gone_maps : (p : PlainPages file_cmp) (f : ForkName) → f.tty.0 ≡ t.0 → Elsewhere p (without_fork p f)
    unfolding without_fork
    gone_maps p f here =
        ap (λ (q : PlainPages file_cmp). map.get q.maps k) (drop_all_leaves (record p { maps = map.remove p.maps f }) (option_map_or (filter_map page_in) (map.get p.maps f) []))
        ∙ get_gone_other p.maps f k (not_it f here)
