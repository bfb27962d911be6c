-- What a change of one place does to a table of forks and its map.
use Rattle.std.proofs.Common.{◌≡◌, ◌≢◌, ℕ, ◌+◌, ◌*◌, ◌<◌, ◌≤◌, List, length, get_or, set, Option, None, Some, refl, sym, ◌∙◌, ap, subst, arith, ◌⊎◌, inl, inr, get_or-set_same, get_or-set_other, length-set}
use Rattle.std.specs.Prelude.{replicate, slice_index}
use Rattle.std.proofs.lemmas.Bool.{cases_eq, cases_lt}
use Rattle.std.proofs.lemmas.List.{get_or-replicate, get_or_past, length-replicate, set-get_or}
use Rattle.std.specs.Option.{option_map}
use Rattle.std.specs.FinMap as map
use Rattle.machine_names.specs.Orders.{fork_cmp}
use Rattle.machine_names.specs.Bounds.{IsForkName}
use Rattle.machine_names.specs.declared.names.ForkName.{ForkName}
use Rattle.machine_names.specs.declared.names.TheConstants.{TERMINALS, MOST_FORKS, LAST_SERIAL}
use Rattle.plain_model.specs.declared.fork.Fork.{Fork}
use Rattle.plain_model.specs.Trees.{changed}
use Rattle.fork_tree.specs.Places.{IsTable, StandsAt, forks_of, name_index, place_in}
use Rattle.fork_tree.proofs.Slots.{cases_name, get_gone, get_gone_other, get_put, get_put_other, name_numbers, same_forks}
use Rattle.fork_tree.proofs.Tables.{found_at, got, once, one_fork}

-- two look-ups that find the same are one
agree : (a b : Option Fork) → ((v : Fork) → a ≡ Some v → b ≡ Some v) → ((v : Fork) → b ≡ Some v → a ≡ Some v) → a ≡ b
agree None None h k = refl
agree None (Some v) h k = k v refl
agree (Some v) b h k = sym (h v refl)

-- what stands in a place once another has changed
module _ (places : List (Option Fork)) (i : ℕ) (o : Option Fork) where
  pub stands_still : (j : ℕ) (g : Fork) → j ≢ i → StandsAt (set places i o) j g → StandsAt places j g
  stands_still j g ne e = sym (get_or-set_other places i j o None ne) ∙ e

  pub stays_there : (j : ℕ) (g : Fork) → j ≢ i → StandsAt places j g → StandsAt (set places i o) j g
  stays_there j g ne e = get_or-set_other places i j o None ne ∙ e

  pub stands_new : (j : ℕ) (g : Fork) → i < length places → j ≡ i → StandsAt (set places i o) j g → o ≡ Some g
  stands_new j g within same e = sym (get_or-set_same places i o None within) ∙ (ap (λ k. get_or (set places i o) k None) (sym same) ∙ e)

-- a fork in a place of its own
module _ (places : List (Option Fork)) (slots lasts slots' lasts' : List ℕ) (i : ℕ) (f : Fork) (table : IsTable places slots lasts) (place : place_in f.name.tty f.slot ≡ i)
    (within : i < length places) (table' : IsTable (set places i (Some f)) slots' lasts') (alone : (k : Fork) → StandsAt places i k → k.name ≡ f.name) where
  here : StandsAt (set places i (Some f)) i f
  here = get_or-set_same places i (Some f) None within

  -- the table with a fork in a place is the map with that fork
  pub forks_set : forks_of (set places i (Some f)) ≡ map.insert (forks_of places) f.name f
  forks_set = same_forks _ _ (λ q. by q (cases_name q f.name))
    where
      elsewhere : (q : ForkName) (j : ℕ) (g : Fork) → (q ≡ f.name → ⊥) → g.name ≡ q → StandsAt places j g → j ≢ i
      elsewhere q j g ne named there same = ne (sym named ∙ alone g (ap (λ k. get_or places k None) (sym same) ∙ there))

      new_elsewhere : (q : ForkName) (j : ℕ) (g : Fork) → (q ≡ f.name → ⊥) → g.name ≡ q → StandsAt (set places i (Some f)) j g → j ≢ i
      new_elsewhere q j g ne named there same = let e : Some f ≡ Some g = stands_new places i (Some f) j g within same there in let is : f ≡ g = cc e in ne (sym named ∙ ap (λ k. k.name) (sym is))

      named_there : (q : ForkName) (g : Fork) → g.name ≡ q → map.get (forks_of places) g.name ≡ Some g → map.get (forks_of places) q ≡ Some g
      named_there q g named e = ap (map.get (forks_of places)) (sym named) ∙ e

      new_there : (q : ForkName) (g : Fork) → g.name ≡ q → map.get (forks_of (set places i (Some f))) g.name ≡ Some g → map.get (forks_of (set places i (Some f))) q ≡ Some g
      new_there q g named e = ap (map.get (forks_of (set places i (Some f)))) (sym named) ∙ e

      by : (q : ForkName) → (q ≡ f.name) ⊎ (q ≡ f.name → ⊥) → map.get (forks_of (set places i (Some f))) q ≡ map.get (map.insert (forks_of places) f.name f) q
      by q (inl e) =
          ap (map.get (forks_of (set places i (Some f)))) e ∙ found_at (set places i (Some f)) slots' lasts' table' i f here
          ∙ sym (get_put (forks_of places) f.name q f e)
      by q (inr ne) =
          agree (map.get (forks_of (set places i (Some f))) q) (map.get (forks_of places) q)
          (λ g e.
          let r = got (set places i (Some f)) q g e in
          named_there q g r.2 (found_at places slots lasts table r.0 g (stands_still places i (Some f) r.0 g (new_elsewhere q r.0 g ne r.2 r.1) r.1)))
          (λ g e.
          let r = got places q g e in
          new_there q g r.2 (found_at (set places i (Some f)) slots' lasts' table' r.0 g (stays_there places i (Some f) r.0 g (elsewhere q r.0 g ne r.2 r.1) r.1)))
          ∙ sym (get_put_other (forks_of places) f.name q f ne)

-- one of some numbers has changed
set_few : (lasts : List ℕ) (job last : ℕ) → ((t : ℕ) → t < TERMINALS → slice_index lasts t ≤ MOST_FORKS) → last ≤ MOST_FORKS → (t : ℕ) → t < TERMINALS → slice_index (set lasts job last) t ≤ MOST_FORKS
set_few lasts job last old new t below = by (cases_eq t job) (cases_lt job (length lasts))
  where
    by : (t ≡ job) ⊎ (t ≢ job) → (job < length lasts) ⊎ (length lasts ≤ job) → slice_index (set lasts job last) t ≤ MOST_FORKS
    by (inr ne) far = let a : get_or (set lasts job last) t 0 ≡ get_or lasts t 0 = get_or-set_other lasts job t last 0 ne in omega (arith, a, old t below)
    by (inl e) (inl within) = let a : get_or (set lasts job last) t 0 ≡ last = ap (λ k. get_or (set lasts job last) k 0) e ∙ get_or-set_same lasts job last 0 within in omega (arith, a, new)
    by (inl e) (inr far) = let a : get_or (set lasts job last) t 0 ≡ 0 = get_or_past (set lasts job last) t 0 (omega (arith, length-set lasts job last, e, far)) in omega (arith, a)

-- a new fork in a free place
module _ (places : List (Option Fork)) (slots lasts : List ℕ) (i last : ℕ) (f : Fork) (table : IsTable places slots lasts) (named : IsForkName f.name) (low : 1 ≤ f.slot) (high : f.slot ≤ MOST_FORKS)
    (place : place_in f.name.tty f.slot ≡ i) (free : get_or places i None ≡ None) (absent : map.get (forks_of places) f.name ≡ None)
    (more : slice_index lasts f.name.tty.0 ≤ last) (most : f.slot ≤ last) (few : last ≤ MOST_FORKS) where
  abbrev new_places : List (Option Fork)
  new_places = set places i (Some f)

  within_places : i < length places
  within_places = omega (arith, table.all_places, named.0, place, high)

  fork_at : (j : ℕ) (g : Fork) → j ≡ i → StandsAt new_places j g → f ≡ g
  fork_at j g same e = let h : Some f ≡ Some g = stands_new places i (Some f) j g within_places same e in cc h

  other_index : (j : ℕ) (g : Fork) → StandsAt places j g → name_index g.name ≢ name_index f.name
  other_index j g e same =
      let n = table.named j g e in
      let t : g.name.tty.0 ≡ f.name.tty.0 = omega (arith, same, n.2, named.2) in
      let s : g.name.serial ≡ f.name.serial = omega (arith, same, n.2, named.2) in
      let there : map.get (forks_of places) f.name ≡ Some g = ap (map.get (forks_of places)) (sym (name_numbers g.name f.name t s)) ∙ found_at places slots lasts table j g e in
      let h : None ≡ Some g = sym absent ∙ there in
      cc h

  other_last : (t : ℕ) → slice_index lasts t ≤ slice_index (set lasts f.name.tty.0 last) t
  other_last t = by (cases_eq t f.name.tty.0)
    where
      by : (t ≡ f.name.tty.0) ⊎ (t ≢ f.name.tty.0) → slice_index lasts t ≤ slice_index (set lasts f.name.tty.0 last) t
      by (inl e) =
          let a : get_or (set lasts f.name.tty.0 last) t 0 ≡ last = ap (λ k. get_or (set lasts f.name.tty.0 last) k 0) e ∙ get_or-set_same lasts f.name.tty.0 last 0 (omega (arith, table.all_jobs, named.0)) in
          let b : get_or lasts t 0 ≡ get_or lasts f.name.tty.0 0 = ap (λ k. get_or lasts k 0) e in
          omega (arith, a, b, more)
      by (inr ne) = let a : get_or (set lasts f.name.tty.0 last) t 0 ≡ get_or lasts t 0 = get_or-set_other lasts f.name.tty.0 t last 0 ne in omega (arith, a)

  pub table_put : IsTable new_places (set slots (name_index f.name) f.slot) (set lasts f.name.tty.0 last)
  table_put = record {
    all_places = length-set places i (Some f) ∙ table.all_places;
    all_names = length-set slots (name_index f.name) f.slot ∙ table.all_names;
    all_jobs = length-set lasts f.name.tty.0 last ∙ table.all_jobs;
    place = λ j g e. by (λ h. place_in h.name.tty h.slot ≡ j) j g e (λ same. omega (arith, place, same)) (λ there. table.place j g there);
    first = λ j g e. by (λ h. 1 ≤ h.slot) j g e (λ same. low) (λ there. table.first j g there);
    last = λ j g e. by (λ h. h.slot ≤ MOST_FORKS) j g e (λ same. high) (λ there. table.last j g there);
    named = λ j g e. by (λ h. IsForkName h.name) j g e (λ same. named) (λ there. table.named j g there);
    slot = λ j g e. by (λ h. slice_index (set slots (name_index f.name) f.slot) (name_index h.name) ≡ h.slot) j g e
        (λ same. get_or-set_same slots (name_index f.name) f.slot 0 (omega (arith, table.all_names, named.0, named.2)))
        (λ there. get_or-set_other slots (name_index f.name) (name_index g.name) f.slot 0 (other_index j g there) ∙ table.slot j g there);
    below = λ j g e. by (λ h. h.slot ≤ slice_index (set lasts f.name.tty.0 last) h.name.tty.0) j g e
        (λ same. let a : get_or (set lasts f.name.tty.0 last) f.name.tty.0 0 ≡ last = get_or-set_same lasts f.name.tty.0 last 0 (omega (arith, table.all_jobs, named.0)) in omega (arith, a, most))
        (λ there. let a = table.below j g there in let b = other_last g.name.tty.0 in omega (arith, a, b));
    few = λ t below. set_few lasts f.name.tty.0 last table.few few t below;
  }
    where
      by : (P : Fork → Type 0) (j : ℕ) (g : Fork) → StandsAt new_places j g → (j ≡ i → P f) → (StandsAt places j g → P g) → P g
      by P j g e new old = elim (cases_eq j i) [
        | inl same ↦ subst P (fork_at j g same e) (new same)
        | inr ne ↦ old (stands_still places i (Some f) j g ne e)
      ]

  pub forks_put : forks_of new_places ≡ map.insert (forks_of places) f.name f
  forks_put =
      forks_set places slots lasts (set slots (name_index f.name) f.slot) (set lasts f.name.tty.0 last) i f table place within_places table_put
      (λ k there. let h : None ≡ Some k = sym free ∙ there in absurd (cc h))

-- another fork of the same name and slot
module _ (places : List (Option Fork)) (slots lasts : List ℕ) (i : ℕ) (old f : Fork) (table : IsTable places slots lasts) (there : StandsAt places i old) (name : old.name ≡ f.name) (slot : old.slot ≡ f.slot) where
  within_old : i < length places
  within_old = by (cases_lt i (length places))
    where
      by : (i < length places) ⊎ (length places ≤ i) → i < length places
      by (inl h) = h
      by (inr far) = let h : None ≡ Some old = sym (get_or_past places i None far) ∙ there in absurd (cc h)

  -- the fork that stood where one stands now
  before : (j : ℕ) (g : Fork) → StandsAt (set places i (Some f)) j g → (k : Fork) × StandsAt places j k × (k.name ≡ g.name) × (k.slot ≡ g.slot)
  before j g e = elim (cases_eq j i) [
    | inl same ↦
        let h : Some f ≡ Some g = stands_new places i (Some f) j g within_old same e in
        let is : f ≡ g = cc h in
        (old, ap (λ k. get_or places k None) same ∙ there, name ∙ ap (λ k. k.name) is, slot ∙ ap (λ k. k.slot) is)
    | inr ne ↦ (g, stands_still places i (Some f) j g ne e, refl, refl)
  ]

  pub table_replaced : IsTable (set places i (Some f)) slots lasts
  table_replaced = record {
    all_places = length-set places i (Some f) ∙ table.all_places;
    all_names = table.all_names;
    all_jobs = table.all_jobs;
    place = λ j g e. let b = before j g e in omega (arith, table.place j b.0 b.1, ap (λ (n : ForkName). n.tty.0) b.2, b.3);
    first = λ j g e. let b = before j g e in omega (arith, table.first j b.0 b.1, b.3);
    last = λ j g e. let b = before j g e in omega (arith, table.last j b.0 b.1, b.3);
    named = λ j g e. let b = before j g e in subst IsForkName b.2 (table.named j b.0 b.1);
    slot = λ j g e. let b = before j g e in ap (λ n. slice_index slots (name_index n)) (sym b.2) ∙ (table.slot j b.0 b.1 ∙ b.3);
    below = λ j g e. let b = before j g e in
        let c : slice_index lasts b.0.name.tty.0 ≡ slice_index lasts g.name.tty.0 = ap (λ (n : ForkName). slice_index lasts n.tty.0) b.2 in
        omega (arith, table.below j b.0 b.1, b.3, c);
    few = table.few;
  }

  pub forks_replaced : forks_of (set places i (Some f)) ≡ map.insert (forks_of places) f.name f
  forks_replaced =
      forks_set places slots lasts slots lasts i f table (omega (arith, table.place i old there, ap (λ (n : ForkName). n.tty.0) name, slot)) within_old table_replaced
      (λ k here_is. ap (λ g. g.name) (one_fork places slots lasts table i i k old here_is there refl) ∙ name)

-- what is in a place stays
module _ (places : List (Option Fork)) (slots lasts : List ℕ) (i : ℕ) (table : IsTable places slots lasts) (o : Option Fork) (is : o ≡ get_or places i None) where
  pub table_read : IsTable (set places i o) slots lasts
  table_read = subst (λ p. IsTable p slots lasts) (sym (ap (set places i) is ∙ set-get_or places i None)) table

  pub forks_read : forks_of (set places i o) ≡ forks_of places
  forks_read = ap forks_of (ap (set places i) is ∙ set-get_or places i None)

-- what is in a place is changed, but for its name and slot
module _ (places : List (Option Fork)) (slots lasts : List ℕ) (i : ℕ) (change : Fork → Fork) (name : (f : Fork) → f.name ≡ (change f).name) (slot : (f : Fork) → f.slot ≡ (change f).slot)
    (table : IsTable places slots lasts) where
  pub table_changed : (o : Option Fork) → o ≡ get_or places i None → IsTable (set places i (option_map change o)) slots lasts
  table_changed None e = table_read places slots lasts i table None e
  table_changed (Some f) e = table_replaced places slots lasts i f (change f) table (sym e) (name f) (slot f)

  pub forks_changed : (o : Option Fork) → o ≡ get_or places i None → forks_of (set places i (option_map change o)) ≡ changed (forks_of places) change o
  forks_changed None e = forks_read places slots lasts i table None e
  forks_changed (Some f) e = forks_replaced places slots lasts i f (change f) table (sym e) (name f) (slot f) ∙ ap (λ n. map.insert (forks_of places) n (change f)) (sym (name f))

-- a fork that goes; above the last slot of its job that is in use then, none is
module _ (places : List (Option Fork)) (slots lasts : List ℕ) (i last : ℕ) (old : Fork) (table : IsTable places slots lasts) (there : StandsAt places i old)
    (upto : last ≤ slice_index lasts old.name.tty.0)
    (none : (slot : ℕ) → last < slot → slot ≤ slice_index lasts old.name.tty.0 → get_or (set places i None) (place_in old.name.tty slot) None ≡ None) where
  abbrev lasts' : List ℕ
  lasts' = set lasts old.name.tty.0 last

  known : old.name.tty.0 < TERMINALS
  known = (table.named i old there).0

  under : (j : ℕ) (g : Fork) → j ≢ i → StandsAt places j g → g.slot ≤ slice_index lasts' g.name.tty.0
  under j g ne here_is = by (cases_eq g.name.tty.0 old.name.tty.0) (cases_lt last g.slot)
    where
      by : (g.name.tty.0 ≡ old.name.tty.0) ⊎ (g.name.tty.0 ≢ old.name.tty.0) → (last < g.slot) ⊎ (g.slot ≤ last) → g.slot ≤ slice_index lasts' g.name.tty.0
      by (inr other) far = let a : get_or lasts' g.name.tty.0 0 ≡ get_or lasts g.name.tty.0 0 = get_or-set_other lasts old.name.tty.0 g.name.tty.0 last 0 other in omega (arith, a, table.below j g here_is)
      by (inl e) (inr low) =
          let a : get_or lasts' g.name.tty.0 0 ≡ last = ap (λ k. get_or lasts' k 0) e ∙ get_or-set_same lasts old.name.tty.0 last 0 (omega (arith, table.all_jobs, known)) in
          omega (arith, a, low)
      by (inl e) (inl high) =
          let b : get_or lasts g.name.tty.0 0 ≡ get_or lasts old.name.tty.0 0 = ap (λ k. get_or lasts k 0) e in
          let place : place_in old.name.tty g.slot ≡ j = omega (arith, table.place j g here_is, e) in
          let gone : get_or (set places i None) j None ≡ None = ap (λ k. get_or (set places i None) k None) (sym place) ∙ none g.slot high (omega (arith, table.below j g here_is, b)) in
          let stays : StandsAt (set places i None) j g = stays_there places i None j g ne here_is in
          absurd (cc (gone, stays))

  within_gone : i < length places
  within_gone = within_old places slots lasts i old old table there refl refl

  still : (j : ℕ) (g : Fork) → StandsAt (set places i None) j g → (j ≢ i) × StandsAt places j g
  still j g e = elim (cases_eq j i) [
    | inl same ↦ (let h : None ≡ Some g = stands_new places i None j g within_gone same e in absurd (cc h))
    | inr ne ↦ (ne, stands_still places i None j g ne e)
  ]

  pub table_gone : IsTable (set places i None) slots lasts'
  table_gone = record {
    all_places = length-set places i None ∙ table.all_places;
    all_names = table.all_names;
    all_jobs = length-set lasts old.name.tty.0 last ∙ table.all_jobs;
    place = λ j g e. table.place j g (still j g e).1;
    first = λ j g e. table.first j g (still j g e).1;
    last = λ j g e. table.last j g (still j g e).1;
    named = λ j g e. table.named j g (still j g e).1;
    slot = λ j g e. table.slot j g (still j g e).1;
    below = λ j g e. let s = still j g e in under j g s.0 s.1;
    few = λ t below. set_few lasts old.name.tty.0 last table.few (omega (arith, upto, table.few old.name.tty.0 known)) t below;
  }

  pub forks_gone : forks_of (set places i None) ≡ map.remove (forks_of places) old.name
  forks_gone = same_forks _ _ (λ q. by q (cases_name q old.name))
    where
      elsewhere : (q : ForkName) (j : ℕ) (g : Fork) → (q ≡ old.name → ⊥) → g.name ≡ q → StandsAt places j g → j ≢ i
      elsewhere q j g ne named here_is same = ne (sym named ∙ ap (λ k. k.name) (one_fork places slots lasts table j i g old here_is there same))

      gone_there : (q : ForkName) (g : Fork) → q ≡ old.name → map.get (forks_of (set places i None)) q ≡ Some g → ⊥
      gone_there q g e is =
          let r = got (set places i None) q g is in
          let s = still r.0 g r.1 in
          s.0 (once places slots lasts table r.0 i g old s.1 there (r.2 ∙ e))

      empty : (o : Option Fork) → ((g : Fork) → o ≡ Some g → ⊥) → o ≡ None
      empty None h = refl
      empty (Some g) h = absurd (h g refl)

      named_there : (q : ForkName) (g : Fork) → g.name ≡ q → map.get (forks_of places) g.name ≡ Some g → map.get (forks_of places) q ≡ Some g
      named_there q g named e = ap (map.get (forks_of places)) (sym named) ∙ e

      new_there : (q : ForkName) (g : Fork) → g.name ≡ q → map.get (forks_of (set places i None)) g.name ≡ Some g → map.get (forks_of (set places i None)) q ≡ Some g
      new_there q g named e = ap (map.get (forks_of (set places i None))) (sym named) ∙ e

      by : (q : ForkName) → (q ≡ old.name) ⊎ (q ≡ old.name → ⊥) → map.get (forks_of (set places i None)) q ≡ map.get (map.remove (forks_of places) old.name) q
      by q (inl e) = empty (map.get (forks_of (set places i None)) q) (λ g. gone_there q g e) ∙ sym (get_gone (forks_of places) old.name q e)
      by q (inr ne) =
          agree (map.get (forks_of (set places i None)) q) (map.get (forks_of places) q)
          (λ g e. let r = got (set places i None) q g e in named_there q g r.2 (found_at places slots lasts table r.0 g (still r.0 g r.1).1))
          (λ g e.
          let r = got places q g e in
          new_there q g r.2 (found_at (set places i None) slots lasts' table_gone r.0 g (stays_there places i None r.0 g (elsewhere q r.0 g ne r.2 r.1) r.1)))
          ∙ sym (get_gone_other (forks_of places) old.name q ne)

-- no fork in any place
abbrev nowhere : ℕ → List (Option Fork)
nowhere n = replicate n None

pub none_stands : (n i : ℕ) (f : Fork) → StandsAt (nowhere n) i f → ⊥
none_stands n i f e = by (cases_lt i n)
  where
    by : (i < n) ⊎ (n ≤ i) → ⊥
    by (inl h) = let none : None ≡ Some f = sym (get_or-replicate n i None None h) ∙ e in cc none
    by (inr h) = let none : None ≡ Some f = sym (get_or_past (nowhere n) i None (omega (arith, length-replicate {A = Option Fork} n None, h))) ∙ e in cc none

pub table_none : (places : List (Option Fork)) (n : ℕ) (slots lasts : List ℕ) → places ≡ nowhere n → n ≡ TERMINALS * (MOST_FORKS + 1) → length slots ≡ TERMINALS * (LAST_SERIAL + 1) → lasts ≡ replicate TERMINALS 0 → IsTable places slots lasts
table_none places n slots lasts free is names jobs = record {
  all_places = ap length free ∙ (length-replicate {A = Option Fork} n None ∙ is);
  all_names = names;
  all_jobs = ap length jobs ∙ length-replicate {A = ℕ} TERMINALS 0;
  place = λ i f e. absurd (none i f e);
  first = λ i f e. absurd (none i f e);
  last = λ i f e. absurd (none i f e);
  named = λ i f e. absurd (none i f e);
  slot = λ i f e. absurd (none i f e);
  below = λ i f e. absurd (none i f e);
  few = λ t below. let a : get_or lasts t 0 ≡ 0 = ap (λ l. get_or l t 0) jobs ∙ get_or-replicate TERMINALS t 0 0 below in omega (arith, a);
}
  where
    none : (i : ℕ) (f : Fork) → StandsAt places i f → ⊥
    none i f e = none_stands n i f (ap (λ p. get_or p i None) (sym free) ∙ e)

pub forks_none : (n : ℕ) → forks_of (nowhere n) ≡ map.empty
forks_none n = same_forks (forks_of (nowhere n)) map.empty (λ q. by q (map.get (forks_of (nowhere n)) q) refl)
  where
    by : (q : ForkName) (o : Option Fork) → map.get (forks_of (nowhere n)) q ≡ o → map.get (forks_of (nowhere n)) q ≡ map.get (map.empty {X = Fork} {R = fork_cmp}) q
    by q None e = e ∙ sym (map.get-empty fork_cmp q)
    by q (Some f) e = let r = got (nowhere n) q f e in absurd (none_stands n r.0 f r.1)
