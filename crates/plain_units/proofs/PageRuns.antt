-- What the references and stores of a unit leave: whole pages for which there is room, the same files, and maps of the same forks.
use Rattle.std.proofs.Common.{◌≡◌, ℕ, ◌%◌, ◌≤◌, true, cond, List, [], ◌∷◌, length, Option, None, Some, inl, inr, refl, sym, ◌∙◌, ap, subst, length-set, Ordering}
use Rattle.std.specs.Prelude.{is_some, nat_lt, nat_le, slice_set}
use Rattle.std.specs.Cmp.{IsTotalOrder}
use Rattle.std.specs.FinMap as map
use Rattle.std.proofs.lemmas.Bool.{cond_both}
use Rattle.outside.specs.declared.TheConstants.{PAGE_WORDS}
use Rattle.plain_units.specs.declared.unit.TheConstants.{MOST_REFERENCES}
use Rattle.plain_units.specs.declared.unit.Put.{Put}
use Rattle.machine_names.specs.declared.names.Tty.{Tty}
use Rattle.machine_names.specs.declared.names.ForkName.{ForkName}
use Rattle.machine_names.specs.declared.names.PageName.{PageName}
use Rattle.machine_names.specs.declared.names.Slot.{Slot}
use Rattle.machine_names.specs.declared.names.Kind.{Kind}
use Rattle.machine_names.specs.declared.names.Kind.TheVariants.{Write}
use Rattle.machine_names.specs.declared.names.Access.{Access}
use Rattle.plain_pages.specs.declared.map.MapEntry.TheVariants.{Empty, Names}
use Rattle.plain_pages.specs.PlainPages.{PlainPages, Maps}
use Rattle.machine_names.specs.Orders.{page_cmp}
use Rattle.plain_pages.specs.Maps.{Chain, full_access}
use Rattle.plain_pages.specs.Room.{HasRoom, same_page, live, names}
use Rattle.plain_pages.specs.References.{Spot, in_map, in_file, Making, blank, copy, makings, make, make_all, next_page, Referred, granted, denied, full, reference, page_at, words_of, with_word, stored, slot_at}
use Rattle.machine_names.specs.Bounds.{IsOwner}
use Rattle.plain_units.specs.Steps.{Steps, refers, widens, keeps, ends, traps, calls, Planned, Progress, goes, done, call, stopped, is_accumulator, goes_on, asked_at, plain_asked, plainly, word_taken, referred, widened, run, put_into, pages_left}
use Rattle.plain_pages.specs.WholePages.{AreWhole}
use Rattle.plain_units.proofs.Lookups.{looked_up}
use Rattle.machine_names.proofs.OrderLemmas.{page_cmp_total, page_tied}
use Rattle.plain_pages.proofs.Counts.{Same, page_tells}
use Rattle.plain_pages.proofs.Chains.{keys_set}
use Rattle.plain_pages.proofs.Makings.{CanMake, spot_there, words_fit, uses_objects}
use Rattle.plain_pages.proofs.Settles.{copy_maps, copy_files, FirstOf, is_blank, is_copy, first_making, makings_settled, makings_can}
use Rattle.plain_pages.proofs.ReferencesMade.{roomy, reference_makes, reference_denied, reference_whole, reference_room}

module _ {K : Type 0} {file_cmp : K → K → Ordering} where
  -- whole pages, for which there is room
  pub record AreSound (p : PlainPages file_cmp) : Type 0 where
    pub whole : AreWhole p
    pub room : live p ≤ p.limit

  -- no fork more or less has a map, and the files have the same pages
  pub record KeepsForks (p q : PlainPages file_cmp) : Type 0 where
    pub files : q.files ≡ p.files
    pub keys : (f : ForkName) → map.contains_key q.maps f ≡ map.contains_key p.maps f

  -- besides, the pages are sound
  pub record Keeps (p q : PlainPages file_cmp) : Type 0 where
    pub sound : AreSound q
    pub forks : KeepsForks p q

  pub kept_itself : (p : PlainPages file_cmp) → AreSound p → Keeps p p
  kept_itself p w = record { sound = w; forks = record { files = refl; keys = λ f. refl } }

  forks_on : (p q r : PlainPages file_cmp) → KeepsForks p q → KeepsForks q r → KeepsForks p r
  forks_on p q r a b = record { files = b.files ∙ a.files; keys = λ f. b.keys f ∙ a.keys f }

  pub kept_on : (p q r : PlainPages file_cmp) → Keeps p q → Keeps q r → Keeps p r
  kept_on p q r a b = record { sound = b.sound; forks = forks_on p q r a.forks b.forks }

-- a word more in a page that is there leaves whole pages whole
module _ {K : Type 0} {file_cmp : K → K → Ordering} (o : IsTotalOrder file_cmp) (p : PlainPages file_cmp) (w : AreWhole p) (spot : Spot K) (offset word : ℕ) where
  pub stored_whole : AreWhole (stored p spot offset word)
  stored_whole = looked_up AreWhole _ p (page_at p spot) (λ n is. written n (spot_there o p w spot n is)) (λ none. w)
    where
      written : (n : PageName) → map.contains_key p.objects n ≡ true → AreWhole (with_word p offset word n)
      written n there = record { named = λ x. same x ∙ w.named x ∙ ap (nat_lt 0) (sym (uses_objects p rest x)); words = fits; entries = w.entries; owned = w.owned; old = λ x h. w.old x (sym (same x) ∙ h); owners = w.owners }
        where
          rest : map.FinMap page_cmp (List ℕ)
          rest = map.insert p.objects n (slice_set (words_of p n) offset word)

          found : (x : PageName) → map.get rest x ≡ cond (same_page x n) (Some (slice_set (words_of p n) offset word)) (map.get p.objects x)
          found x = map.get-insert page_cmp_total p.objects n (slice_set (words_of p n) offset word) x ∙ ap (λ b. cond b (Some (slice_set (words_of p n) offset word)) (map.get p.objects x)) (page_tied x n)

          same : (x : PageName) → map.contains_key rest x ≡ map.contains_key p.objects x
          same x = ap is_some (found x) ∙ at (page_tells x n)
            where
              at : Same x n → is_some (cond (same_page x n) (Some (slice_set (words_of p n) offset word)) (map.get p.objects x)) ≡ map.contains_key p.objects x
              at (inl e) = ap (λ b. is_some (cond b (Some (slice_set (words_of p n) offset word)) (map.get p.objects x))) e.0 ∙ sym (ap (map.contains_key p.objects) e.1 ∙ there)
              at (inr e) = ap (λ b. is_some (cond b (Some (slice_set (words_of p n) offset word)) (map.get p.objects x))) e.0

          fits : (x : PageName) (ws : List ℕ) → map.get rest x ≡ Some ws → length ws ≡ PAGE_WORDS
          fits x ws h = at (page_tells x n) (sym (found x) ∙ h)
            where
              at : Same x n → cond (same_page x n) (Some (slice_set (words_of p n) offset word)) (map.get p.objects x) ≡ Some ws → length ws ≡ PAGE_WORDS
              at (inl e) k = let is : slice_set (words_of p n) offset word ≡ ws = cc (e.0, k) in ap length (sym is) ∙ length-set (words_of p n) offset word ∙ words_fit o p w n (map.get p.objects n) refl
              at (inr e) k = w.words x ws (cc (e.0, k))

-- and it leaves the room, the files and the forks
module _ {K : Type 0} {file_cmp : K → K → Ordering} (p : PlainPages file_cmp) (spot : Spot K) (offset word : ℕ) where
  pub stored_room : live p ≤ p.limit → live (stored p spot offset word) ≤ (stored p spot offset word).limit
  unfolding live names
  stored_room h = looked_up (λ (q : PlainPages file_cmp). live q ≤ q.limit) _ p (page_at p spot) (λ n is. h) (λ none. h)

  pub stored_maps : (stored p spot offset word).maps ≡ p.maps
  stored_maps = looked_up (λ (q : PlainPages file_cmp). q.maps ≡ p.maps) _ p (page_at p spot) (λ n is. refl) (λ none. refl)

  pub stored_files : (stored p spot offset word).files ≡ p.files
  stored_files = looked_up (λ (q : PlainPages file_cmp). q.files ≡ p.files) _ p (page_at p spot) (λ n is. refl) (λ none. refl)

  pub stored_kept : IsTotalOrder file_cmp → AreSound p → Keeps p (stored p spot offset word)
  stored_kept o w = record {
    sound = record { whole = stored_whole o p w.whole spot offset word; room = stored_room w.room };
    forks = record { files = stored_files; keys = λ f. ap (λ (m : Maps). map.contains_key m f) stored_maps };
  }

module _ {K : Type 0} {file_cmp : K → K → Ordering} (o : IsTotalOrder file_cmp) (owner : Tty) where
  blank_kept : (p : PlainPages file_cmp) (s : Slot) → CanMake p (blank (in_map s)) → KeepsForks p (make p owner (blank (in_map s)))
  unfolding make
  blank_kept p s can = record { files = refl; keys = λ f. keys_set p.maps s Empty (Names (next_page p owner) full_access) can f }

  copy_kept : (p : PlainPages file_cmp) (s : Slot) (a : Access) → CanMake p (copy s a) → KeepsForks p (make p owner (copy s a))
  copy_kept p s a can = record { files = copy_files o p owner s a; keys = λ f. ap (λ (m : Maps). map.contains_key m f) (copy_maps o p owner s a) ∙ keys_set p.maps s can.0 (Names (next_page p owner) a) can.1 f }

  -- a making that is none in a file
  abbrev InMap : Making K → Type 0
  InMap (blank (in_map s)) = Unit {0}
  InMap (blank (in_file f)) = ⊥
  InMap (copy s a) = Unit {0}

  make_kept : (p : PlainPages file_cmp) (m : Making K) → InMap m → CanMake p m → KeepsForks p (make p owner m)
  make_kept p (blank (in_map s)) i can = blank_kept p s can
  make_kept p (blank (in_file f)) i can = absurd i
  make_kept p (copy s a) i can = copy_kept p s a can

  makings_in_map : (p : PlainPages file_cmp) (s : Slot) (kind : Kind) (m : Making K) (rest : List (Making K)) → makings p (in_map s) kind ≡ Some (m ∷ rest) → InMap m
  makings_in_map p s kind m rest h = of_chain (first_making o p owner s kind m rest h)
    where
      of_chain : (c : Chain) × FirstOf kind c m rest → InMap m
      of_chain x = by x.1
        where
          by : FirstOf kind x.0 m rest → InMap m
          by (is_blank none first others) = subst InMap first tt
          by (is_copy l writes some f first others) = subst InMap first tt

  made_kept : (s : Slot) (kind : Kind) (ms : List (Making K)) (p q : PlainPages file_cmp) → makings p (in_map s) kind ≡ Some ms → make_all p owner ms ≡ granted q → KeepsForks p q
  unfolding make_all
  made_kept s kind [] p q h g = let same : p ≡ q = cc g in subst (λ (x : PlainPages file_cmp). KeepsForks p x) same (record { files = refl; keys = λ f. refl })
  made_kept s kind (m ∷ ms) p q h g =
      let r = roomy (HasRoom (make p owner m) owner) (make_all (make p owner m) owner ms) q g in
      let k = make_kept p m (makings_in_map p s kind m ms h) (makings_can o p owner (in_map s) kind m ms h) in
      let later = made_kept s kind ms (make p owner m) q (makings_settled o p owner (in_map s) kind m ms h) r.1 in
      record { files = later.files ∙ k.files; keys = λ f. later.keys f ∙ k.keys f }

  reference_forks : (p q : PlainPages file_cmp) (s : Slot) (kind : Kind) → reference p (in_map s) kind owner ≡ granted q → KeepsForks p q
  reference_forks p q s kind g = by (makings p (in_map s) kind) refl
    where
      by : (x : Option (List (Making K))) → makings p (in_map s) kind ≡ x → KeepsForks p q
      by None h = absurd (let no : denied kind ≡ granted q = sym (reference_denied p owner (in_map s) kind h) ∙ g in cc no)
      by (Some ms) h = made_kept s kind ms p q h (sym (reference_makes p owner (in_map s) kind ms h) ∙ g)

  -- so does a granted reference to a map's page
  pub reference_kept : IsOwner owner → (p q : PlainPages file_cmp) (s : Slot) (kind : Kind) → AreSound p → reference p (in_map s) kind owner ≡ granted q → Keeps p q
  reference_kept own p q s kind w g = record {
    sound = record { whole = reference_whole o owner (in_map s) kind own p q w.whole g; room = reference_room owner (in_map s) kind p q w.room g };
    forks = reference_forks p q s kind g;
  }

-- what holds of the pages that a plan leaves, where it is done
abbrev pub PlanLeaves : {K : Type 0} {file_cmp : K → K → Ordering} → (PlainPages file_cmp → Type 0) → ForkName → Planned file_cmp ⊥ → Type 0
PlanLeaves after f (done t e) = after (pages_left f t e)
PlanLeaves after f (stopped why) = Unit {0}
PlanLeaves after f (call number) = Unit {0}

-- the references of a unit and the words that it stores leave sound pages sound
module _ {K : Type 0} {file_cmp : K → K → Ordering} (o : IsTotalOrder file_cmp) (p : PlainPages file_cmp) (f : ForkName) where
  abbrev pub PlanKeeps : Planned file_cmp ⊥ → Type 0
  PlanKeeps r = PlanLeaves (λ q. Keeps p q) f r

  module _ (own : IsOwner f.tty) where
    asked_kept : (q : PlainPages file_cmp) → Keeps p q → (a : ℕ) (kind : Kind) (next : PlainPages file_cmp → Planned file_cmp ⊥) → ((r : PlainPages file_cmp) → Keeps p r → PlanKeeps (next r)) → PlanKeeps (goes_on (asked_at (plainly f) f q a kind) next)
    asked_kept q w a kind next leaves = cond_both (is_accumulator a) (goes q) (plainly f q (slot_at f a) kind) (λ x. PlanKeeps (goes_on x next)) (λ low. leaves q w) (λ high. by (reference q (in_map (slot_at f a)) kind f.tty) refl)
      where
        by : (r : Referred file_cmp) → reference q (in_map (slot_at f a)) kind f.tty ≡ r → PlanKeeps (goes_on (plain_asked r) next)
        by (granted r) is = leaves r (kept_on p q r w (reference_kept o f.tty own q r (slot_at f a) kind w.sound is))
        by (denied k) is = tt
        by full is = tt

    put_kept : (q : PlainPages file_cmp) → Keeps p q → (put : Option Put) → Keeps p (put_into f q put)
    put_kept q w None = w
    put_kept q w (Some put) =
        let at : Spot K = in_map (slot_at f put.at) in
        kept_on p q (stored q at (put.at % PAGE_WORDS) put.word) w (stored_kept q at (put.at % PAGE_WORDS) put.word o w.sound)

    pub run_kept : (steps : Steps) (t : Progress file_cmp) → Keeps p t.pages → PlanKeeps (run (plainly f) f steps t)
    unfolding run
    run_kept (refers a kind next) t w =
        cond_both (nat_le MOST_REFERENCES (length t.refs)) _ _ PlanKeeps (λ most. tt) (λ few. asked_kept t.pages w a kind _ (λ q whole. run_kept (next (word_taken f (referred t a kind q) a)) (referred t a kind q) whole))
    run_kept (widens a next) t w = asked_kept t.pages w a Write _ (λ q whole. run_kept next (widened t a q) whole)
    run_kept (keeps a word next) t w = run_kept next (record t { kept = Some (record { at = a; word = word }) }) w
    run_kept (ends e) t w = put_kept (put_into f t.pages t.kept) (put_kept t.pages w t.kept) e.put
    run_kept (traps channel) t w = tt
    run_kept (calls number) t w = tt
