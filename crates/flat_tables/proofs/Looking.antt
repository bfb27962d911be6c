-- What is kept beside maps stays so, and what it tells of their chains.
use Rattle.std.proofs.Common.{◌≡◌, ◌≢◌, inl, inr, ℕ, ◌+◌, ◌-◌, ◌/◌, ◌^◌, ◌<◌, List, [], ◌∷◌, ◌++◌, true, false, cond, Option, None, Some, length, map, refl, sym, ◌∙◌, ap, arith, is_some, replicate, take}
use Rattle.std.specs.Prelude.{IsSome, slice_get, slice_set, slice_index_or}
use Rattle.std.specs.Option.{option_map, option_map_or, option_and_then}
use Rattle.std.proofs.lemmas.Bool.{cases_eq, cases_lt}
use Rattle.std.proofs.lemmas.Bool.Decides.{eqb_tells}
use Rattle.std.proofs.lemmas.List.{get_or-set_same, get_or-set_other, get_or-replicate, get_or-map, get_or_past, get_or_read, length-set, length-map, length-replicate, take_more, take_more_set, take_all}
use Rattle.std.proofs.lemmas.Option.{slice_get_within, slice_get-get_or, get_or_from_slice_get}
use Rattle.machine_names.specs.declared.names.Access.{Access}
use Rattle.machine_names.specs.declared.names.ForkName.{ForkName}
use Rattle.page_homes.specs.declared.homes.Home.{Home}
use Rattle.machine_names.specs.declared.names.TheConstants.{MOST_FORKS, SPACE_PAGES}
use Rattle.flat_tables.specs.declared.chain_walk.Use.{Use}
use Rattle.flat_tables.specs.declared.chain_walk.Use.TheVariants.{Read, Write, Execute, Change}
use Rattle.flat_tables.specs.declared.held_entry.EntryAt.{EntryAt}
use Rattle.flat_tables.specs.declared.held_entry.HeldEntry.{HeldEntry}
use Rattle.flat_tables.specs.declared.held_entry.HeldEntry.TheVariants.{Empty, Page, Follows}
use Rattle.flat_tables.specs.declared.held_entry.Link.{Link}
use Rattle.flat_tables.specs.declared.held_map.HeldMap.{HeldMap}
use Rattle.fork_maps.specs.declared.map_numbers.TheConstants.{MOST_MAPS}
use Rattle.flat_tables.specs.declared.look.Look.{Look}
use Rattle.flat_tables.specs.HeldMaps.{AreHeld, no_page, free_map, map_at, fork_at, held_entry, with_entry, followers}
use Rattle.flat_tables.specs.Looks.{AreLooked, uses_of, no_uses, no_look, no_looks, past_look, look_of, look_at, row_at, key_of, key_at, use_number}
use Rattle.flat_tables.specs.Walks.{lets, next_at, ready_home, terminal_of, walk_within}
use Rattle.flat_tables.proofs.Beginning.{followers_new}
use Rattle.flat_tables.proofs.ForkMaps.{index_is, fork_within}
use Rattle.flat_tables.proofs.HeldEntries.{at_tells, entry_same, entry_other, entries_length, fork_set, held_within, maps_length}
use Rattle.flat_tables.proofs.Opening.{entry_none, none_at, entries_sized}
use Rattle.flat_tables.proofs.WalkSteps.{walk_here, ready_behind, ready_end}

-- a row, entry by entry
pub row_more : (k page : ℕ) (row : List Look) (es : List HeldEntry) (l : Look) → page < length row → page < length es → l ≡ look_of k (slice_index_or es page Empty)
    → take page row ≡ take page (map (look_of k) es) → take (page + 1) (slice_set row page l) ≡ take (page + 1) (map (look_of k) es)
row_more k page row es l within there is so_far =
    take_more_set row page l within
    ∙ ap (λ (xs : List Look). xs ++ l ∷ []) so_far
    ∙ ap (λ (x : Look). take page (map (look_of k) es) ++ x ∷ []) (is ∙ sym (get_or-map (look_of k) es page Empty no_look there))
    ∙ sym (take_more (map (look_of k) es) page no_look (omega (arith, length-map es (look_of k), there)))

pub row_all : (k : ℕ) (row : List Look) (es : List HeldEntry) (n : ℕ) → length row ≡ n → length es ≡ n → take n row ≡ take n (map (look_of k) es) → row ≡ map (look_of k) es
row_all k row es n size same so_far =
    sym (take_all n row (omega (arith, size))) ∙ so_far ∙ take_all n (map (look_of k) es) (omega (arith, same, length-map es (look_of k)))

module _ (maps : List HeldMap) (looks : List (List Look)) (keys : List ℕ) (k : AreLooked maps looks keys) where
  -- a row with another look, or another row
  row_length : (at : ℕ) (row : List Look) → length row ≡ length (row_at looks at) → (j : ℕ) → length (row_at (slice_set looks at row) j) ≡ length (row_at looks j)
  row_length at row size j = elim (cases_eq j at) [
    | inr ne ↦ ap length (get_or-set_other looks at j row [] ne)
    | inl is ↦ elim (cases_lt at (length looks)) [
      | inl l ↦ ap (λ i. length (row_at (slice_set looks at row) i)) is ∙ ap length (get_or-set_same looks at row [] l) ∙ size ∙ ap (λ i. length (row_at looks i)) (sym is)
      | inr past ↦ ap (λ i. length (row_at (slice_set looks at row) i)) is ∙ ap length (get_or_past (slice_set looks at row) at [] (omega (arith, past, length-set looks at row)))
          ∙ sym (ap length (get_or_past looks at [] past)) ∙ ap (λ i. length (row_at looks i)) (sym is)
    ]
  ]

  -- an entry is set
  module _ (at : EntryAt) (e : HeldEntry) (within : at.map < length maps) (inside : at.page < length (map_at maps at.map).entries) where
    abbrev new_row : List Look
    new_row = slice_set (row_at looks at.map) at.page (look_of at.map e)

    row_there : at.map < length looks
    row_there = omega (arith, k.rows, within)

    look_there : at.page < length (row_at looks at.map)
    look_there = omega (arith, k.pages at.map, inside)

    look_same : look_at (slice_set looks at.map new_row) at ≡ look_of at.map e
    look_same =
        ap (λ (row : List Look). slice_index_or row at.page past_look) (get_or-set_same looks at.map new_row [] row_there)
        ∙ get_or-set_same (row_at looks at.map) at.page (look_of at.map e) past_look look_there

    look_other : (b : EntryAt) → b ≢ at → look_at (slice_set looks at.map new_row) b ≡ look_at looks b
    look_other b ne = elim (cases_eq b.map at.map) [
      | inr other ↦ ap (λ (row : List Look). slice_index_or row b.page past_look) (get_or-set_other looks at.map b.map new_row [] other)
      | inl is ↦
          ap (λ j. slice_index_or (row_at (slice_set looks at.map new_row) j) b.page past_look) is
          ∙ ap (λ (row : List Look). slice_index_or row b.page past_look) (get_or-set_same looks at.map new_row [] row_there)
          ∙ get_or-set_other (row_at looks at.map) at.page b.page (look_of at.map e) past_look (λ p. ne (λ i. record { map = is i; page = p i }))
          ∙ ap (λ j. slice_index_or (row_at looks j) b.page past_look) (sym is)
    ]

    old : held_entry maps at ≡ Some (slice_index_or (map_at maps at.map).entries at.page Empty)
    old = slice_get-get_or (map_at maps at.map).entries at.page Empty inside

    size : length new_row ≡ length (row_at looks at.map)
    size = length-set (row_at looks at.map) at.page (look_of at.map e)

    pub looked_set : AreLooked (with_entry maps at e) (slice_set looks at.map (slice_set (row_at looks at.map) at.page (look_of at.map e))) keys
    looked_set = record {
      rows = length-set looks at.map new_row ∙ k.rows ∙ sym (maps_length maps at e);
      pages = λ j. row_length at.map new_row size j ∙ k.pages j ∙ sym (entries_length maps at e j);
      sized = λ j l. row_length at.map new_row size j ∙ k.sized j (omega (arith, l, maps_length maps at e));
      each = λ b x is. elim (at_tells b at) [
        | inl same ↦
            let one : e ≡ x = (let z : Some e ≡ Some x = sym (entry_same maps at e _ old) ∙ ap (held_entry (with_entry maps at e)) (sym same) ∙ is in cc z) in
            ap (look_at (slice_set looks at.map new_row)) same ∙ look_same ∙ ap (look_of at.map) one ∙ ap (λ (a : EntryAt). look_of a.map x) (sym same)
        | inr ne ↦ look_other b ne ∙ k.each b x (sym (entry_other maps at e b ne) ∙ is)
      ];
      many = k.many ∙ sym (maps_length maps at e);
      forks = λ j. k.forks j ∙ ap key_of (sym (fork_set maps at e j));
    }

  -- a map becomes that of a fork, with its entries
  module _ (n : ℕ) (f : ForkName) (within : n < length maps) where
    abbrev named : HeldMap
    named = record { fork = Some f; entries = (map_at maps n).entries }

    named_here : map_at (slice_set maps n named) n ≡ named
    named_here = get_or-set_same maps n named (record { fork = None; entries = [] }) within

    named_other : (j : ℕ) → j ≢ n → map_at (slice_set maps n named) j ≡ map_at maps j
    named_other j ne = get_or-set_other maps n j named (record { fork = None; entries = [] }) ne

    entries_same : (j : ℕ) → (map_at (slice_set maps n named) j).entries ≡ (map_at maps j).entries
    entries_same j = elim (cases_eq j n) [
      | inl is ↦ ap (λ i. (map_at (slice_set maps n named) i).entries) is ∙ ap (λ (m : HeldMap). m.entries) named_here ∙ ap (λ i. (map_at maps i).entries) (sym is)
      | inr ne ↦ ap (λ (m : HeldMap). m.entries) (named_other j ne)
    ]

    pub looked_named : AreLooked (slice_set maps n (record { fork = Some f; entries = (map_at maps n).entries })) looks (slice_set keys n f.serial)
    looked_named = record {
      rows = k.rows ∙ sym (length-set maps n named);
      pages = λ j. k.pages j ∙ sym (ap length (entries_same j));
      sized = λ j l. k.sized j (omega (arith, l, length-set maps n named));
      each = λ b x is. k.each b x (sym (ap (λ (es : List HeldEntry). slice_get es b.page) (entries_same b.map)) ∙ is);
      many = length-set keys n f.serial ∙ k.many ∙ sym (length-set maps n named);
      forks = λ j. elim (cases_eq j n) [
        | inl is ↦ ap (key_at (slice_set keys n f.serial)) is ∙ get_or-set_same keys n f.serial (2 ^ 64 - 1) (omega (arith, k.many, within))
            ∙ sym (ap (λ i. key_of (map_at (slice_set maps n named) i).fork) is ∙ ap (λ (m : HeldMap). key_of m.fork) named_here)
        | inr ne ↦ get_or-set_other keys n j f.serial (2 ^ 64 - 1) ne ∙ k.forks j ∙ sym (ap (λ (m : HeldMap). key_of m.fork) (named_other j ne))
      ];
    }

  -- a map becomes that of a fork, with these entries
  module _ (n : ℕ) (f : ForkName) (es : List HeldEntry) (within : n < length maps) (size : length es ≡ SPACE_PAGES) where
    abbrev begun : HeldMap
    begun = record { fork = Some f; entries = es }

    here : map_at (slice_set maps n begun) n ≡ begun
    here = get_or-set_same maps n begun (record { fork = None; entries = [] }) within

    other : (j : ℕ) → j ≢ n → map_at (slice_set maps n begun) j ≡ map_at maps j
    other j ne = get_or-set_other maps n j begun (record { fork = None; entries = [] }) ne

    abbrev row : List Look
    row = map (look_of n) es

    row_here : row_at (slice_set looks n row) n ≡ row
    row_here = get_or-set_same looks n row [] (omega (arith, k.rows, within))

    row_other : (j : ℕ) → j ≢ n → row_at (slice_set looks n row) j ≡ row_at looks j
    row_other j ne = get_or-set_other looks n j row [] ne

    pub looked_begun : AreLooked (slice_set maps n (record { fork = Some f; entries = es })) (slice_set looks n (map (look_of n) es)) (slice_set keys n f.serial)
    looked_begun = record {
      rows = length-set looks n row ∙ k.rows ∙ sym (length-set maps n begun);
      pages = λ j. elim (cases_eq j n) [
        | inl is ↦ ap (λ i. length (row_at (slice_set looks n row) i)) is ∙ ap length row_here ∙ length-map es (look_of n)
            ∙ sym (ap (λ i. length (map_at (slice_set maps n begun) i).entries) is ∙ ap (λ (m : HeldMap). length m.entries) here)
        | inr ne ↦ ap length (row_other j ne) ∙ k.pages j ∙ sym (ap (λ (m : HeldMap). length m.entries) (other j ne))
      ];
      sized = λ j l. elim (cases_eq j n) [
        | inl is ↦ ap (λ i. length (row_at (slice_set looks n row) i)) is ∙ ap length row_here ∙ length-map es (look_of n) ∙ size
        | inr ne ↦ ap length (row_other j ne) ∙ k.sized j (omega (arith, l, length-set maps n begun))
      ];
      each = λ b x is. elim (cases_eq b.map n) [
        | inl same ↦
            let there : slice_get es b.page ≡ Some x = sym (ap (λ i. slice_get (map_at (slice_set maps n begun) i).entries b.page) same ∙ ap (λ (m : HeldMap). slice_get m.entries b.page) here) ∙ is in
            ap (λ i. slice_index_or (row_at (slice_set looks n row) i) b.page past_look) same
            ∙ ap (λ (r : List Look). slice_index_or r b.page past_look) row_here
            ∙ get_or-map (look_of n) es b.page Empty past_look (slice_get_within es b.page x there)
            ∙ ap (look_of n) (get_or_from_slice_get es b.page x Empty there) ∙ ap (λ i. look_of i x) (sym same)
        | inr ne ↦
            ap (λ (r : List Look). slice_index_or r b.page past_look) (row_other b.map ne)
            ∙ k.each b x (sym (ap (λ (m : HeldMap). slice_get m.entries b.page) (other b.map ne)) ∙ is)
      ];
      many = length-set keys n f.serial ∙ k.many ∙ sym (length-set maps n begun);
      forks = λ j. elim (cases_eq j n) [
        | inl is ↦ ap (key_at (slice_set keys n f.serial)) is ∙ get_or-set_same keys n f.serial (2 ^ 64 - 1) (omega (arith, k.many, within))
            ∙ sym (ap (λ i. key_of (map_at (slice_set maps n begun) i).fork) is ∙ ap (λ (m : HeldMap). key_of m.fork) here)
        | inr ne ↦ get_or-set_other keys n j f.serial (2 ^ 64 - 1) ne ∙ k.forks j ∙ sym (ap (λ (m : HeldMap). key_of m.fork) (other j ne))
      ];
    }

pub looked_following : (maps : List HeldMap) (looks : List (List Look)) (keys : List ℕ) → AreLooked maps looks keys → (n : ℕ) (f : ForkName) (serial near : ℕ) → n < length maps
    → AreLooked (slice_set maps n (record { fork = Some f; entries = followers serial near })) (slice_set looks n (map (look_of n) (followers serial near))) (slice_set keys n f.serial)
looked_following maps looks keys k n f serial near within = looked_begun maps looks keys k n f (followers serial near) within (followers_new serial near).size

-- maps of no fork
pub looked_free : AreLooked (replicate MOST_MAPS free_map) (replicate MOST_MAPS no_looks) (replicate MOST_MAPS (2 ^ 64 - 1))
unfolding no_page no_looks
looked_free = record {
  rows = length-replicate MOST_MAPS no_looks ∙ sym (length-replicate MOST_MAPS free_map);
  pages = λ j. elim (cases_lt j MOST_MAPS) [
    | inl l ↦ ap length (get_or-replicate MOST_MAPS j no_looks [] l) ∙ length-replicate SPACE_PAGES no_look ∙ sym (entries_sized MOST_MAPS j (omega (arith, l, length-replicate MOST_MAPS free_map)))
    | inr past ↦ ap length (get_or_past (replicate MOST_MAPS no_looks) j [] (omega (arith, past, length-replicate MOST_MAPS no_looks)))
        ∙ sym (ap (λ (m : HeldMap). length m.entries) (get_or_past (replicate MOST_MAPS free_map) j (record { fork = None; entries = [] }) (omega (arith, past, length-replicate MOST_MAPS free_map))))
  ];
  sized = λ j l. ap length (get_or-replicate MOST_MAPS j no_looks [] (omega (arith, l, length-replicate MOST_MAPS free_map))) ∙ length-replicate SPACE_PAGES no_look;
  each = λ at e is.
      let within : at.map < MOST_MAPS = omega (arith, held_within (replicate MOST_MAPS free_map) at e is, length-replicate MOST_MAPS free_map) in
      let inside : at.page < SPACE_PAGES = omega (arith, slice_get_within (map_at (replicate MOST_MAPS free_map) at.map).entries at.page e is, entries_sized MOST_MAPS at.map (omega (arith, within, length-replicate MOST_MAPS free_map))) in
      ap (λ (r : List Look). slice_index_or r at.page past_look) (get_or-replicate MOST_MAPS at.map no_looks [] within)
      ∙ get_or-replicate SPACE_PAGES at.page no_look past_look inside ∙ ap (look_of at.map) (sym (entry_none MOST_MAPS at.map at.page e is));
  many = length-replicate MOST_MAPS (2 ^ 64 - 1) ∙ sym (length-replicate MOST_MAPS free_map);
  forks = λ j. elim (cases_lt j MOST_MAPS) [
    | inl l ↦ get_or-replicate MOST_MAPS j (2 ^ 64 - 1) (2 ^ 64 - 1) l ∙ ap key_of (sym (none_at MOST_MAPS j))
    | inr past ↦ get_or_past (replicate MOST_MAPS (2 ^ 64 - 1)) j (2 ^ 64 - 1) (omega (arith, past, length-replicate MOST_MAPS (2 ^ 64 - 1))) ∙ ap key_of (sym (none_at MOST_MAPS j))
  ];
}

-- ---- what a look tells

let_by : (u : Use) (a : Access) → slice_index_or (uses_of a) (use_number u) false ≡ lets u a
let_by Read a = refl
let_by Write a = refl
let_by Execute a = refl
let_by Change a = refl

no_use : (u : Use) → slice_index_or no_uses (use_number u) false ≡ false
no_use Read = refl
no_use Write = refl
no_use Execute = refl
no_use Change = refl

-- an entry that names a page, and lets it be used so
record IsReady (e : HeldEntry) (u : Use) (home : Home) : Type 0 where
  access : Access
  is : e ≡ Page home access
  may : lets u access ≡ true

ready_is : (k : ℕ) (e : HeldEntry) (u : Use) → slice_index_or (look_of k e).ready (use_number u) false ≡ true → IsReady e u (record { 0 = (look_of k e).number })
ready_is k Empty u h = absurd (let z : false ≡ true = sym (no_use u) ∙ h in cc z)
ready_is k (Page home a) u h = record { access = a; is = refl; may = sym (let_by u a) ∙ h }
ready_is k (Follows l a) u h = absurd (let z : false ≡ true = sym (no_use u) ∙ h in cc z)

-- an entry that follows one of a map of the same terminal, and lets the page be used so
record IsPassing (k : ℕ) (e : HeldEntry) (u : Use) (look : Look) : Type 0 where
  link : Link
  access : Access
  is : e ≡ Follows link access
  may : lets u access ≡ true
  near : link.map / MOST_FORKS ≡ k / MOST_FORKS
  serial : look.number ≡ link.serial
  page : look.page ≡ link.page
  map : look.map ≡ link.map

passing_is : (k : ℕ) (e : HeldEntry) (u : Use) → slice_index_or (look_of k e).passes (use_number u) false ≡ true → IsPassing k e u (look_of k e)
passing_is k Empty u h = absurd (let z : false ≡ true = sym (no_use u) ∙ h in cc z)
passing_is k (Page home a) u h = absurd (let z : false ≡ true = sym (no_use u) ∙ h in cc z)
passing_is k (Follows l a) u h = elim (eqb_tells (l.map / MOST_FORKS) (k / MOST_FORKS)) [
  | inl t ↦ record {
    link = l;
    access = a;
    is = refl;
    may = sym (let_by u a) ∙ ap (λ b. slice_index_or (cond b (uses_of a) no_uses) (use_number u) false) (sym t.0) ∙ h;
    near = t.1;
    serial = refl;
    page = refl;
    map = refl;
  }
  | inr t ↦ absurd (let z : false ≡ true = sym (ap (λ b. slice_index_or (cond b (uses_of a) no_uses) (use_number u) false) t.0 ∙ no_use u) ∙ h in cc z)
]

-- an entry from which the walk goes on at the next, that of a living fork's map
pub record PassesOn (maps : List HeldMap) (looks : List (List Look)) (u : Use) (at next : EntryAt) : Type 0 where
  pub lives : IsSome (fork_at maps next.map)
  pub page : next.page < SPACE_PAGES
  pub row : next.map < length looks
  pub rest : (most : ℕ) → most ≢ 0 → option_and_then (ready_home u) (walk_within most maps at) ≡ option_and_then (ready_home u) (walk_within (most - 1) maps next)

module _ {maps : List HeldMap} {looks : List (List Look)} {keys : List ℕ} (k : AreLooked maps looks keys) (held : AreHeld maps) where
  -- a map that is a fork's, of a terminal that its number tells
  terminal_is : (j : ℕ) (f : ForkName) → fork_at maps j ≡ Some f → f.tty.0 ≡ j / MOST_FORKS
  terminal_is j f is = omega (arith, held.from j f is, held.below j f is)

  same_terminal : (j n : ℕ) (f g : ForkName) → fork_at maps j ≡ Some f → fork_at maps n ≡ Some g → j / MOST_FORKS ≡ n / MOST_FORKS → f.tty ≡ g.tty
  same_terminal j n f g a b near = ap (λ x. record { 0 = x }) (terminal_is j f a ∙ near ∙ sym (terminal_is n g b))

  owner : (o : Option ForkName) → IsSome o → (f : ForkName) × (o ≡ Some f)
  owner None h = absurd (let z : false ≡ true = h in cc z)
  owner (Some f) h = (f, refl)

  keyed : (o : Option ForkName) (serial : ℕ) → serial < 2 ^ 32 → key_of o ≡ serial → (f : ForkName) × (o ≡ Some f) × (f.serial ≡ serial)
  keyed None serial small h = absurd (omega (arith, small, h))
  keyed (Some f) serial small h = (f, refl, h)

  -- an entry of a living fork's map, and what is kept beside it
  module _ (at : EntryAt) (lives : IsSome (fork_at maps at.map)) (inside : at.page < SPACE_PAGES) where
    own : (x : ForkName) × (fork_at maps at.map ≡ Some x)
    own = owner (fork_at maps at.map) lives

    abbrev f : ForkName
    f = own.0

    is_f : fork_at maps at.map ≡ Some f
    is_f = own.1

    map_there : at.map < length maps
    map_there = fork_within maps at.map f is_f

    looks_there : at.map < length looks
    looks_there = omega (arith, k.rows, map_there)

    abbrev e : HeldEntry
    e = slice_index_or (map_at maps at.map).entries at.page Empty

    there : held_entry maps at ≡ Some e
    there = slice_get-get_or (map_at maps at.map).entries at.page Empty (omega (arith, inside, held.pages at.map map_there))

    -- it is read from the row of the map, and asked about a use by the use's number
    module _ {row : List Look} (read : row ≡ slice_index_or looks at.map row) (u : Use) {way : ℕ} (way_is : way ≡ use_number u) where
      abbrev l : Look
      l = slice_index_or row at.page past_look

      beside : l ≡ look_of at.map e
      beside = ap (λ (r : List Look). slice_index_or r at.page past_look) (get_or_read looks at.map row looks_there read []) ∙ k.each at e there

      -- where it is ready, the walk ends there
      pub ready_here : slice_index_or l.ready way false ≡ true → (most : ℕ) → most ≢ 0
          → option_and_then (ready_home u) (walk_within most maps at) ≡ Some (record { 0 = l.number })
      ready_here h most some =
          let r = ready_is at.map e u (ap (λ (x : Look). slice_index_or x.ready (use_number u) false) (sym beside) ∙ ap (λ n. slice_index_or l.ready n false) (sym way_is) ∙ h) in
          let home : Home = record { 0 = (look_of at.map e).number } in
          ap (option_and_then (ready_home u)) (walk_here most maps at (Page home r.access) some (there ∙ ap Some r.is))
          ∙ ready_end u at r.access (Some home) ∙ ap (λ b. cond b (Some home) None) r.may ∙ ap (λ (x : Look). Some (record { 0 = x.number })) (sym beside)

      -- where it passes, the map that it names is there
      module _ (h : slice_index_or l.passes way false ≡ true) where
        p : IsPassing at.map e u (look_of at.map e)
        p = passing_is at.map e u (ap (λ (x : Look). slice_index_or x.passes (use_number u) false) (sym beside) ∙ ap (λ n. slice_index_or l.passes n false) (sym way_is) ∙ h)

        map_is : l.map ≡ p.link.map
        map_is = ap (λ (x : Look). x.map) beside ∙ p.map

        page_is : l.page ≡ p.link.page
        page_is = ap (λ (x : Look). x.page) beside ∙ p.page

        serial_is : l.number ≡ p.link.serial
        serial_is = ap (λ (x : Look). x.number) beside ∙ p.serial

        near : l.map / MOST_FORKS ≡ at.map / MOST_FORKS
        near = ap (λ n. n / MOST_FORKS) map_is ∙ p.near

        pub key_there : l.map < length keys
        key_there = omega (arith, near, k.many, held.count, map_there)

        follows : held_entry maps at ≡ Some (Follows p.link p.access)
        follows = there ∙ ap Some p.is

        pub page_there : l.page < SPACE_PAGES
        page_there = omega (arith, page_is, held.links at p.link p.access follows)

        -- and if its fork has the serial, the walk goes on there
        module _ (small : l.number < 2 ^ 32) {key : ℕ} (key_read : key ≡ slice_index_or keys l.map key) (same : key ≡ l.number) where
          g : (x : ForkName) × (fork_at maps l.map ≡ Some x) × (x.serial ≡ l.number)
          g = keyed (fork_at maps l.map) l.number small (sym (k.forks l.map) ∙ sym (get_or_read keys l.map key key_there key_read (2 ^ 64 - 1)) ∙ same)

          abbrev wanted : ForkName
          wanted = record { tty = terminal_of maps at.map; serial = p.link.serial }

          terminal : terminal_of maps at.map ≡ f.tty
          terminal = ap (λ (o : Option ForkName). option_map_or (λ (x : ForkName). x.tty) o (record { 0 = 0 })) is_f

          is_wanted : g.0 ≡ wanted
          is_wanted i = record { tty = (same_terminal l.map at.map g.0 f g.1 is_f near ∙ sym terminal) i; serial = (g.2 ∙ serial_is) i }

          next_is : next_at maps at p.link ≡ Some (record { map = l.map; page = l.page })
          next_is =
              ap (option_map (λ n. record { map = n; page = p.link.page })) (index_is maps held.once wanted l.map (g.1 ∙ ap Some is_wanted))
              ∙ ap (λ n. Some (record { map = l.map; page = n })) (sym page_is)

          pub passes_on : PassesOn maps looks u at (record { map = l.map; page = l.page })
          passes_on = record {
            lives = ap is_some g.1;
            page = page_there;
            row = omega (arith, k.rows, fork_within maps l.map g.0 g.1);
            rest = λ most some.
                ap (option_and_then (ready_home u)) (walk_here most maps at (Follows p.link p.access) some follows)
                ∙ ready_behind u at p.access (option_and_then (walk_within (most - 1) maps) (next_at maps at p.link))
                ∙ ap (λ b. cond b (option_and_then (ready_home u) (option_and_then (walk_within (most - 1) maps) (next_at maps at p.link))) None) p.may
                ∙ ap (λ (o : Option EntryAt). option_and_then (ready_home u) (option_and_then (walk_within (most - 1) maps) o)) next_is;
          }
