-- What a change leaves of what holds of a tree.
use Rattle.std.proofs.Common.{◌≡◌, ◌≢◌, ◌↔◌, ℕ, zero, suc, ◌+◌, ◌<◌, ◌≤◌, true, false, List, length, get_or, set, Option, None, Some, Ok, Err, refl, sym, ◌∙◌, ap, subst, arith, ◌⊎◌, inl, inr, get_or-set_same, get_or-set_other, length-set}
use Rattle.std.specs.Prelude.{IsSome, MatchOption, if◌then◌else◌, is_none, nat_lt, slice_index}
use Rattle.std.specs.Option.{option_and_then}
use Rattle.std.proofs.lemmas.Bool.{cases_eq, cases_lt}
use Rattle.std.proofs.lemmas.List.{get_or-replicate, length-replicate}
use Rattle.std.specs.FinMap as map
use Rattle.machine_names.specs.Orders.{fork_cmp}
use Rattle.plain_pages.specs.PlainPages.{first_serials}
use Rattle.plain_model.specs.Forks.{ForkMap, fork_in, superior_of}
use Rattle.machine_names.specs.Bounds.{IsForkName, IsTerminal}
use Rattle.machine_names.specs.declared.names.Tty.{Tty}
use Rattle.machine_names.specs.declared.names.ForkName.{ForkName}
use Rattle.machine_names.specs.declared.names.TheConstants.{TERMINALS, MOST_FORKS, LAST_SERIAL}
use Rattle.plain_model.specs.declared.fork.Fork.{Fork}
use Rattle.plain_model.specs.Trees.{changed, free_slot, new_fork, next_name, PlainTree, next_serial}
use Rattle.fork_tree.specs.declared.tree.NoFork.TheVariants.{ForksFull, SerialsOut}
use Rattle.fork_tree.specs.Making.{room_for}
use Rattle.fork_tree.specs.Trees.{AreSlotted, IsIn, IsTree, Lives, no_forks}
use Rattle.fork_tree.proofs.Ranges.{first_tells}
use Rattle.fork_tree.proofs.Slots.{cases_name, get_gone, get_gone_other, get_put, get_put_other, in_found, in_tells, some_of}
use Rattle.plain_model.proofs.Shorthands.{is_free}

-- no fork lives
nobody : (name : ForkName) (f : Fork) → map.get (map.empty {X = Fork} {R = fork_cmp}) name ≡ Some f → ⊥
nobody name f e = let none : None ≡ Some f = sym (map.get-empty fork_cmp name) ∙ e in cc none

first_serial : (t : ℕ) → t < TERMINALS → slice_index first_serials t ≡ 1
unfolding first_serials
first_serial t below = get_or-replicate TERMINALS t 1 0 below

first_length : length first_serials ≡ TERMINALS
unfolding first_serials
first_length = length-replicate {A = ℕ} TERMINALS 1

pub none_tree : IsTree no_forks
none_tree = record {
  slotted = record {
    own = λ name f e. absurd (nobody name f e);
    named = λ f e. absurd (nobody f.name f e);
    first = λ f e. absurd (nobody f.name f e);
    last = λ f e. absurd (nobody f.name f e);
    once = λ t slot f g a b. absurd (nobody f.name f a.0);
  };
  superiors = λ f slot e s. absurd (nobody f.name f e);
  tops = λ f e. absurd (nobody f.name f e);
  old = λ f e. absurd (nobody f.name f e);
  terminals = first_length;
  from_one = λ t below. omega (arith, first_serial t.0 below);
  to_last = λ t below. omega (arith, first_serial t.0 below);
}

-- A fork of the same name, slot and superior in the place of one.
module _ (tree : PlainTree) (f f' : Fork) (is : IsTree tree) (lives : Lives tree.forks f) (name : f'.name ≡ f.name) (slot : f'.slot ≡ f.slot) (superior : f'.superior ≡ f.superior) where
  abbrev other_forks : ForkMap
  other_forks = map.insert tree.forks f.name f'

  -- the fork that lived where one lives
  before : (g : Fork) → Lives other_forks g → (k : Fork) × Lives tree.forks k × (k.name ≡ g.name) × (k.slot ≡ g.slot) × (k.superior ≡ g.superior)
  before g e = elim (cases_name g.name f.name) [
    | inl same ↦
        let h : Some f' ≡ Some g = sym (get_put tree.forks f.name g.name f' same) ∙ e in
        let is_f : f' ≡ g = cc h in
        (f, lives, sym name ∙ ap (λ k. k.name) is_f, sym slot ∙ ap (λ k. k.slot) is_f, sym superior ∙ ap (λ k. k.superior) is_f)
    | inr ne ↦ (g, sym (get_put_other tree.forks f.name g.name f' ne) ∙ e, refl, refl, refl)
  ]

  -- the fork that lives where one lived
  after : (k : Fork) → Lives tree.forks k → (g : Fork) × Lives other_forks g × (g.name ≡ k.name) × (g.slot ≡ k.slot)
  after k e = elim (cases_name k.name f.name) [
    | inl same ↦
        let h : Some f ≡ Some k = sym lives ∙ (ap (map.get tree.forks) (sym same) ∙ e) in
        let is_k : f ≡ k = cc h in
        (f', get_put tree.forks f.name f'.name f' name, name ∙ ap (λ g. g.name) is_k, slot ∙ ap (λ g. g.slot) is_k)
    | inr ne ↦ (k, get_put_other tree.forks f.name k.name f' ne ∙ e, refl, refl)
  ]

  other_slotted : AreSlotted other_forks
  other_slotted = record {
    own = λ n g e. elim (cases_name n f.name) [
      | inl same ↦ (let h : Some f' ≡ Some g = sym (get_put tree.forks f.name n f' same) ∙ e in let is_f : f' ≡ g = cc h in ap (λ k. k.name) (sym is_f) ∙ (name ∙ sym same))
      | inr ne ↦ is.slotted.own n g (sym (get_put_other tree.forks f.name n f' ne) ∙ e)
    ];
    named = λ g e. let b = before g e in subst IsForkName b.2 (is.slotted.named b.0 b.1);
    first = λ g e. let b = before g e in omega (arith, is.slotted.first b.0 b.1, b.3);
    last = λ g e. let b = before g e in omega (arith, is.slotted.last b.0 b.1, b.3);
    once = λ t slot g h a b.
        let x = before g a.0 in let y = before h b.0 in
        let one = is.slotted.once t slot x.0 y.0 (x.1, ap (λ (n : ForkName). n.tty.0) x.2 ∙ a.1, x.3 ∙ a.2) (y.1, ap (λ (n : ForkName). n.tty.0) y.2 ∙ b.1, y.3 ∙ b.2) in
        let names : g.name ≡ h.name = sym x.2 ∙ (ap (λ k. k.name) one ∙ y.2) in
        let both : Some g ≡ Some h = sym a.0 ∙ (ap (map.get other_forks) names ∙ b.0) in
        cc both;
  }

  pub changed_tree : IsTree (record tree { forks = other_forks })
  changed_tree = record {
    slotted = other_slotted;
    superiors = λ g s e over.
        let b = before g e in
        let o = is.superiors b.0 s b.1 (b.4 ∙ over) in
        let a = after o.0 o.1.0 in
        (a.0, (a.1, ap (λ (n : ForkName). n.tty.0) a.2 ∙ (o.1.1 ∙ ap (λ (n : ForkName). n.tty.0) b.2), a.3 ∙ o.1.2), omega (arith, o.2, ap (λ (n : ForkName). n.serial) a.2, ap (λ (n : ForkName). n.serial) b.2));
    tops = λ g e. let b = before g e in let t = is.tops b.0 b.1 in (λ none. sym b.3 ∙ t.0 (b.4 ∙ none), λ one. sym b.4 ∙ t.1 (b.3 ∙ one));
    old = λ g e. let b = before g e in subst (λ (n : ForkName). n.serial < next_serial tree n.tty) b.2 (is.old b.0 b.1);
    terminals = is.terminals;
    from_one = is.from_one;
    to_last = is.to_last;
  }

-- no fork has this one as its superior
abbrev pub IsNobodysSuperior : ForkMap → Fork → Type 0
IsNobodysSuperior forks f = (g : Fork) → Lives forks g → superior_of forks g ≡ Some f → ⊥

-- Such a fork goes.
module _ (tree : PlainTree) (f : Fork) (is : IsTree tree) (lives : Lives tree.forks f) (leaf : IsNobodysSuperior tree.forks f) where
  abbrev fewer_forks : ForkMap
  fewer_forks = map.remove tree.forks f.name

  still : (n : ForkName) (g : Fork) → map.get fewer_forks n ≡ Some g → (n ≡ f.name → ⊥) × (map.get tree.forks n ≡ Some g)
  still n g e = elim (cases_name n f.name) [
    | inl same ↦ (let h : None ≡ Some g = sym (get_gone tree.forks f.name n same) ∙ e in absurd (cc h))
    | inr ne ↦ (ne, sym (get_gone_other tree.forks f.name n ne) ∙ e)
  ]

  pub killed_tree : IsTree (record tree { forks = fewer_forks })
  killed_tree = record {
    slotted = record {
      own = λ n g e. is.slotted.own n g (still n g e).1;
      named = λ g e. is.slotted.named g (still g.name g e).1;
      first = λ g e. is.slotted.first g (still g.name g e).1;
      last = λ g e. is.slotted.last g (still g.name g e).1;
      once = λ t slot g h a b. is.slotted.once t slot g h ((still g.name g a.0).1, a.1, a.2) ((still h.name h b.0).1, b.1, b.2);
    };
    superiors = λ g s e over.
        let at = (still g.name g e).1 in
        let o = is.superiors g s at over in
        (o.0, (get_gone_other tree.forks f.name o.0.name (apart g s at over o.0 o.1) ∙ o.1.0, o.1.1, o.1.2), o.2);
    tops = λ g e. is.tops g (still g.name g e).1;
    old = λ g e. is.old g (still g.name g e).1;
    terminals = is.terminals;
    from_one = is.from_one;
    to_last = is.to_last;
  }
    where
      apart : (g : Fork) (s : ℕ) → Lives tree.forks g → g.superior ≡ Some s → (o : Fork) → IsIn tree.forks g.name.tty s o → o.name ≡ f.name → ⊥
      apart g s at over o in_slot same =
          let there : Some o ≡ Some f = sym in_slot.0 ∙ (ap (map.get tree.forks) same ∙ lives) in
          let above_g : superior_of tree.forks g ≡ Some o = ap (option_and_then (fork_in tree.forks g.name.tty)) over ∙ in_found tree.forks is.slotted g.name.tty s o in_slot in
          leaf g at (above_g ∙ there)

-- each job that has a fork has a top fork
pub top_lives : (tree : PlainTree) → IsTree tree → (n : ℕ) (f : Fork) → Lives tree.forks f → f.name.serial < n → (g : Fork) × IsIn tree.forks f.name.tty 1 g
top_lives tree is zero f lives h = absurd (omega (arith, h))
top_lives tree is (suc n) f lives h = by (top_lives tree is n) f.superior refl
  where
    by : ((g : Fork) → Lives tree.forks g → g.name.serial < n → (k : Fork) × IsIn tree.forks g.name.tty 1 k) → (o : Option ℕ) → f.superior ≡ o → (g : Fork) × IsIn tree.forks f.name.tty 1 g
    by older None e = (f, (lives, refl, (is.tops f lives).0 e))
    by older (Some slot) e =
        let o = is.superiors f slot lives e in
        let top = older o.0 o.1.0 (omega (arith, o.2, h)) in
        (top.0, (top.1.0, top.1.1 ∙ o.1.1, top.1.2))

-- a job without a free slot is full
pub full_room : (tree : PlainTree) (t : Tty) → free_slot tree.forks t ≡ None → room_for tree t ≡ Err ForksFull
full_room tree t e = ap (λ o. if is_none o then Err ForksFull else (if nat_lt LAST_SERIAL (next_serial tree t) then Err SerialsOut else Ok (let u : Unit {0} = tt in u))) e

-- no fork has the name that comes next
pub name_unused : (tree : PlainTree) (t : Tty) → IsTree tree → map.get tree.forks (next_name tree t) ≡ None
name_unused tree t is = by (map.get tree.forks (next_name tree t)) refl
  where
    by : (o : Option Fork) → map.get tree.forks (next_name tree t) ≡ o → o ≡ None
    by None e = refl
    by (Some k) e =
        let name = is.slotted.own (next_name tree t) k e in
        let lives : Lives tree.forks k = ap (map.get tree.forks) name ∙ e in
        absurd (omega (arith, is.old k lives, ap (λ (n : ForkName). n.serial) name, ap (λ (n : ForkName). next_serial tree n.tty) name))

-- a place in which nothing is
pub free_none : (o : Option Fork) → is_none o ≡ true → o ≡ None
free_none None e = refl
free_none (Some f) e = absurd (cc e)

taken_some : (o : Option Fork) (f : Fork) → o ≡ Some f → is_none o ≡ false
taken_some o f e = ap is_none e

-- A fork is made in the least free slot of a job.
module _ (tree : PlainTree) (t : Tty) (superior : Option ℕ) (slot : ℕ) (is : IsTree tree) (terminal : IsTerminal t) (free : free_slot tree.forks t ≡ Some slot) (room : next_serial tree t ≤ LAST_SERIAL)
    (over : MatchOption superior (fork_in tree.forks t 1 ≡ None) (λ s. IsSome (fork_in tree.forks t s))) where
  abbrev made : Fork
  made = new_fork (next_name tree t) slot superior

  abbrev more_forks : ForkMap
  more_forks = map.insert tree.forks (next_name tree t) made

  abbrev more_serials : List ℕ
  more_serials = set tree.serials t.0 (next_serial tree t + 1)

  least : (1 ≤ slot) × (slot < 1 + MOST_FORKS) × (is_free tree.forks t slot ≡ true) × ((k : ℕ) → 1 ≤ k → k < slot → is_free tree.forks t k ≡ false)
  unfolding free_slot
  least = first_tells (is_free tree.forks t) 1 MOST_FORKS slot free

  pub slot_first : 1 ≤ slot
  slot_first = least.0

  pub slot_last : slot ≤ MOST_FORKS
  slot_last = omega (arith, least.1)

  pub slot_free : fork_in tree.forks t slot ≡ None
  slot_free = free_none (fork_in tree.forks t slot) least.2

  alone : (g : Fork) → IsIn tree.forks t slot g → ⊥
  alone g in_slot = let h : None ≡ Some g = sym slot_free ∙ in_found tree.forks is.slotted t slot g in_slot in cc h

  pub new_name : map.get tree.forks (next_name tree t) ≡ None
  new_name = name_unused tree t is

  -- a fork that lives now lived before, or was made
  now_lives : (n : ForkName) (g : Fork) → map.get more_forks n ≡ Some g → ((n ≡ next_name tree t) × (made ≡ g)) ⊎ (map.get tree.forks n ≡ Some g)
  now_lives n g e = elim (cases_name n (next_name tree t)) [
    | inl same ↦ (let h : Some made ≡ Some g = sym (get_put tree.forks (next_name tree t) n made same) ∙ e in inl (same, cc h))
    | inr ne ↦ inr (sym (get_put_other tree.forks (next_name tree t) n made ne) ∙ e)
  ]

  still_lives : (k : Fork) → Lives tree.forks k → Lives more_forks k
  still_lives k e =
      get_put_other tree.forks (next_name tree t) k.name made (λ same. let h : None ≡ Some k = sym new_name ∙ (ap (map.get tree.forks) (sym same) ∙ e) in cc h) ∙ e

  made_superior : (s : ℕ) → superior ≡ Some s → (g : Fork) × IsIn tree.forks t s g
  made_superior s e =
      let there : IsSome (fork_in tree.forks t s) = subst (λ o. MatchOption o (fork_in tree.forks t 1 ≡ None) (λ k. IsSome (fork_in tree.forks t k))) e over in
      let g = some_of (fork_in tree.forks t s) there in
      (g.0, in_tells tree.forks is.slotted t s g.0 g.1)

  made_top : superior ≡ None → slot ≡ 1
  made_top e = by (cases_lt 1 slot)
    where
      first_is_free : fork_in tree.forks t 1 ≡ None
      first_is_free = subst (λ o. MatchOption o (fork_in tree.forks t 1 ≡ None) (λ k. IsSome (fork_in tree.forks t k))) e over

      by : (1 < slot) ⊎ (slot ≤ 1) → slot ≡ 1
      by (inl later) =
          let yes : is_free tree.forks t 1 ≡ true = ap is_none first_is_free in
          let no : is_free tree.forks t 1 ≡ false = least.3 1 (omega arith) later in
          absurd (cc (yes, no))
      by (inr at) = omega (arith, at, least.0)

  made_first : slot ≡ 1 → superior ≡ None
  made_first e = by superior refl
    where
      by : (o : Option ℕ) → superior ≡ o → o ≡ None
      by None e = refl
      by (Some s) is_some =
          let o = made_superior s is_some in
          let top = top_lives tree is (o.0.name.serial + 1) o.0 o.1.0 (omega arith) in
          absurd (alone top.0 (top.1.0, top.1.1 ∙ o.1.1, top.1.2 ∙ sym e))

  next_same : next_serial (record { forks = more_forks; serials = more_serials }) t ≡ next_serial tree t + 1
  next_same = get_or-set_same tree.serials t.0 (next_serial tree t + 1) 0 (omega (arith, is.terminals, terminal))

  next_more : (u : Tty) → (next_serial tree u ≤ slice_index more_serials u.0) × (slice_index more_serials u.0 ≤ next_serial tree u + 1)
  next_more u = by (cases_eq u.0 t.0)
    where
      by : (u.0 ≡ t.0) ⊎ (u.0 ≢ t.0) → (next_serial tree u ≤ slice_index more_serials u.0) × (slice_index more_serials u.0 ≤ next_serial tree u + 1)
      by (inl e) =
          let a : get_or more_serials u.0 0 ≡ next_serial tree t + 1 = ap (λ k. get_or more_serials k 0) e ∙ next_same in
          let b : get_or tree.serials u.0 0 ≡ next_serial tree t = ap (λ k. get_or tree.serials k 0) e in
          (omega (arith, a, b), omega (arith, a, b))
      by (inr ne) = let a : get_or more_serials u.0 0 ≡ get_or tree.serials u.0 0 = get_or-set_other tree.serials t.0 u.0 (next_serial tree t + 1) 0 ne in (omega (arith, a), omega (arith, a))

  made_slotted : AreSlotted more_forks
  made_slotted = record {
    own = λ n g e. elim (now_lives n g e) [ inl w ↦ ap (λ k. k.name) (sym w.1) ∙ sym w.0 | inr old ↦ is.slotted.own n g old ];
    named = λ g e. elim (now_lives g.name g e) [ inl w ↦ subst (λ (k : Fork). IsForkName k.name) w.1 (terminal, is.from_one t terminal, room) | inr old ↦ is.slotted.named g old ];
    first = λ g e. elim (now_lives g.name g e) [ inl w ↦ subst (λ (k : Fork). 1 ≤ k.slot) w.1 slot_first | inr old ↦ is.slotted.first g old ];
    last = λ g e. elim (now_lives g.name g e) [ inl w ↦ subst (λ (k : Fork). k.slot ≤ MOST_FORKS) w.1 slot_last | inr old ↦ is.slotted.last g old ];
    once = λ u s g h a b. one u s g h a b (now_lives g.name g a.0) (now_lives h.name h b.0);
  }
    where
      one : (u : Tty) (s : ℕ) (g h : Fork) → IsIn more_forks u s g → IsIn more_forks u s h → ((g.name ≡ next_name tree t) × (made ≡ g)) ⊎ Lives tree.forks g → ((h.name ≡ next_name tree t) × (made ≡ h)) ⊎ Lives tree.forks h → g ≡ h
      one u s g h a b (inl v) (inl w) = sym v.1 ∙ w.1
      one u s g h a b (inl v) (inr w) = absurd (alone h (w, b.1 ∙ (sym a.1 ∙ ap (λ (k : Fork). k.name.tty.0) (sym v.1)), b.2 ∙ (sym a.2 ∙ ap (λ (k : Fork). k.slot) (sym v.1))))
      one u s g h a b (inr v) (inl w) = absurd (alone g (v, a.1 ∙ (sym b.1 ∙ ap (λ (k : Fork). k.name.tty.0) (sym w.1)), a.2 ∙ (sym b.2 ∙ ap (λ (k : Fork). k.slot) (sym w.1))))
      one u s g h a b (inr v) (inr w) = is.slotted.once u s g h (v, a.1, a.2) (w, b.1, b.2)

  pub made_tree : IsTree (record { forks = more_forks; serials = more_serials })
  made_tree = record {
    slotted = made_slotted;
    superiors = λ g s e above_g. elim (now_lives g.name g e) [
      | inl w ↦
          let o = made_superior s (ap (λ (k : Fork). k.superior) w.1 ∙ above_g) in (
            o.0,
            (still_lives o.0 o.1.0, o.1.1 ∙ ap (λ (k : Fork). k.name.tty.0) w.1, o.1.2),
            omega (arith, is.old o.0 o.1.0, ap (λ k. get_or tree.serials k 0) o.1.1, ap (λ (k : Fork). k.name.serial) w.1),
          )
      | inr old ↦ (let o = is.superiors g s old above_g in (o.0, (still_lives o.0 o.1.0, o.1.1, o.1.2), o.2))
    ];
    tops = λ g e. elim (now_lives g.name g e) [
      | inl w ↦ subst (λ (k : Fork). (k.superior ≡ None) ↔ (k.slot ≡ 1)) w.1 (made_top, made_first)
      | inr old ↦ is.tops g old
    ];
    old = λ g e. elim (now_lives g.name g e) [
      | inl w ↦ subst (λ (k : Fork). k.name.serial < slice_index more_serials k.name.tty.0) w.1 (omega (arith, next_same))
      | inr old ↦ omega (arith, is.old g old, next_more g.name.tty)
    ];
    terminals = length-set tree.serials t.0 (next_serial tree t + 1) ∙ is.terminals;
    from_one = λ u below. omega (arith, is.from_one u below, next_more u);
    to_last = λ u below. most u below (cases_eq u.0 t.0);
  }
    where
      most : (u : Tty) → u.0 < TERMINALS → (u.0 ≡ t.0) ⊎ (u.0 ≢ t.0) → slice_index more_serials u.0 ≤ LAST_SERIAL + 1
      most u below (inl e) = let a : get_or more_serials u.0 0 ≡ next_serial tree t + 1 = ap (λ k. get_or more_serials k 0) e ∙ next_same in omega (arith, a, room)
      most u below (inr ne) = let a : get_or more_serials u.0 0 ≡ get_or tree.serials u.0 0 = get_or-set_other tree.serials t.0 u.0 (next_serial tree t + 1) 0 ne in omega (arith, a, is.to_last u below)

-- the fork that a look finds is changed, but for its name, slot and superior
pub changed_look : (tree : PlainTree) (change : Fork → Fork) → ((f : Fork) → (change f).name ≡ f.name) → ((f : Fork) → (change f).slot ≡ f.slot) → ((f : Fork) → (change f).superior ≡ f.superior) → IsTree tree
    → (o : Option Fork) → ((f : Fork) → o ≡ Some f → Lives tree.forks f) → IsTree (record tree { forks = changed tree.forks change o })
changed_look tree change name slot superior is None lives = is
changed_look tree change name slot superior is (Some f) lives = changed_tree tree f (change f) is (lives f refl) (name f) (slot f) (superior f)
