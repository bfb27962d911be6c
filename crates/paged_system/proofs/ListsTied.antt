-- The lists are tied to the forks again once they have followed what changed.
use Rattle.std.proofs.Common.{◌≡◌, ◌≢◌, ◌⊎◌, ℕ, ◌<◌, ◌≤◌, true, false, Option, None, Some, IsSome, refl, sym, ◌∙◌, ap, subst, inl, inr, arith}
use Rattle.std.proofs.lemmas.Bool.{cases_Bool, cases_eq}
use Rattle.std.specs.FinMap as map
use Rattle.machine_names.specs.Orders.{same_fork}
use Rattle.machine_names.specs.declared.names.ForkName.{ForkName}
use Rattle.machine_names.specs.declared.names.Tty.{Tty}
use Rattle.machine_names.specs.declared.names.TheConstants.{MOST_FORKS, TERMINALS}
use Rattle.plain_model.specs.declared.fork.Fork.{Fork}
use Rattle.plain_model.specs.Forks.{ForkMap, OthersStay, fork_in, runs_in}
use Rattle.plain_model.specs.declared.fork.Body.{Body}
use Rattle.plain_model.specs.Trees.{PlainTree, awoken, changed, sleepers_awoken, with_body}
use Rattle.plain_model.proofs.ForkMaps.{cases_name, get_put, get_put_other, names_same, same_itself}
use Rattle.fork_tree.specs.Changes.{with_body_of}
use Rattle.fork_tree.specs.Trees.{AreSlotted, IsIn, IsTree}
use Rattle.fork_tree.proofs.Slots.{in_found, in_none, in_tells, some_of}
use Rattle.fork_tree.proofs.Sleepers.{each_awoken}
use Rattle.fork_calls.proofs.OtherRuns.{body_runs, in_other, runs_other}
use Rattle.job_sched.specs.Schedules.{Schedule, stands}
use Rattle.job_sched.specs.Units.{IsRow}
use Rattle.fork_lists.specs.declared.lists.ForkLists.{ForkLists}
use Rattle.fork_lists.specs.Seeing.{SeenElsewhere, is_seen, job_slots, seen_in, seen_of, was_seen}
use Rattle.fork_lists.specs.Following.{stopped_if}
use Rattle.fork_lists.specs.Ties.{AreTied, CanFollow, CanFollowAll, Follows, FollowsAll, IsTiedAt, is_filled}
use Rattle.fork_lists.proofs.Folds.{any_among, stop_filled, stop_gone, stop_one, stop_other}
use Rattle.fork_lists.proofs.Chosen.{filled_test, test_filled}
use Rattle.fork_lists.proofs.Tied.{at_slot, runs_lives, some_is}

module _ (old : ForkMap) (slotted : AreSlotted old) (l : ForkLists) (tied : AreTied old l) where
  -- whoever stands lives
  stands_lives : (f : ForkName) → stands f l.sched ≡ true → (g : Fork) × (map.get old f ≡ Some g)
  stands_lives f on = runs_lives old f (sym ((tied.each f.tty).listed f refl) ∙ on)

  -- and was seen in its slot
  stands_seen : (f : ForkName) → stands f l.sched ≡ true → was_seen l.seen.items f.tty f job_slots ≡ true
  stands_seen f on =
      let lives = stands_lives f on in
      let at = at_slot old slotted f lives.0 lives.1 in
      let named = slotted.named lives.0 (ap (map.get old) at.2 ∙ lives.1) in
      let low = subst (λ (x : ForkName). x.tty.0 < TERMINALS) at.2 named.0 in
      let first = slotted.first lives.0 (ap (map.get old) at.2 ∙ lives.1) in
      let last = slotted.last lives.0 (ap (map.get old) at.2 ∙ lives.1) in
      let there = (tied.each f.tty).seen lives.0.slot low first last ∙ ap seen_of at.0 in
      any_among (λ slot. is_seen f (seen_in l.seen.items f.tty slot)) lives.0.slot job_slots at.1
      (ap (is_seen f) there ∙ ap (same_fork f) at.2 ∙ same_itself f)

  module _ (t : Tty) (new : ForkMap) (is : AreSlotted new) (others : OthersStay t old new) where
    pub can_follow : CanFollow new l t
    can_follow = record {
      mine = λ f here on. subst (λ (u : Tty). was_seen l.seen.items u f job_slots ≡ true) (let job : f.tty ≡ t = λ i. record { 0 = here i } in job) (stands_seen f on);
      others = λ f other on. let lives = stands_lives f on in some_is (map.get new f) lives.0 (others f other ∙ lives.1);
    }

    pub tied_followed : (m : ForkLists) → Follows new t l m → AreTied new m
    tied_followed m follows = record {
      each = λ u. elim (cases_eq u.0 t.0) [
        | inl here ↦ subst (IsTiedAt new m) (sym (let job : u ≡ t = λ i. record { 0 = here i } in job)) follows.mine
        | inr other ↦ record {
          listed = λ f is_of. let apart : f.tty.0 ≢ t.0 = λ same. other (sym is_of ∙ same) in
              follows.listed f apart ∙ (tied.each u).listed f is_of ∙ runs_other t old new slotted is others f apart;
          seen = λ slot low first last. follows.seen u slot other first last ∙ (tied.each u).seen slot low first last ∙ ap seen_of (sym (in_other t old new slotted is others u other slot));
        }
      ];
      filled = filled_test m.sched (follows.filled (test_filled l.sched tied.filled));
    }

  -- where the same forks live, all jobs can be followed
  pub can_follow_all : (new : ForkMap) → ((f : ForkName) → IsSome (map.get old f) → IsSome (map.get new f)) → CanFollowAll new l
  can_follow_all new live = record {
    living = λ f on. let lives = stands_lives f on in live f (some_is (map.get old f) lives.0 lives.1);
    seen = stands_seen;
  }

  pub tied_all : (new : ForkMap) (m : ForkLists) → FollowsAll new l m → AreTied new m
  tied_all new m follows = record { each = follows.each; filled = filled_test m.sched (follows.filled (test_filled l.sched tied.filled)) }

-- one fork alone has another body
module _ (old new : PlainTree) (trees : IsTree old) (still : IsTree new) (who : ForkName) (slot : ℕ) (f : Fork) (there : IsIn old.forks who.tty slot f) (named : f.name ≡ who)
    (body : Body) (left : new ≡ with_body_of old who body) where
  lives : map.get old.forks who ≡ Some f
  lives = ap (map.get old.forks) (sym named) ∙ there.0

  put : new.forks ≡ map.insert old.forks f.name (with_body body f)
  put = ap (λ (x : PlainTree). x.forks) left ∙ ap (λ (o : Option Fork). changed old.forks (with_body body) o) lives

  stays : (k : ForkName) → k ≢ who → map.get new.forks k ≡ map.get old.forks k
  stays k other = ap (λ (m : ForkMap). map.get m k) put ∙ get_put_other old.forks f.name k (with_body body f) (λ same. other (same ∙ named))

  in_others : (u : Tty) (k : ℕ) → (u.0 ≢ who.tty.0) ⊎ (k ≢ slot) → fork_in new.forks u k ≡ fork_in old.forks u k
  in_others u k apart = by (fork_in old.forks u k) refl
    where
      not_who : (g : Fork) → g.name.tty.0 ≡ u.0 → g.slot ≡ k → (g.name ≡ who → g.slot ≡ slot) → g.name ≢ who
      not_who g job place same is = elim apart [
        | inl other ↦ other (sym job ∙ ap (λ (x : ForkName). x.tty.0) is)
        | inr other ↦ other (sym place ∙ same is)
      ]

      old_slot : (g : Fork) → map.get old.forks g.name ≡ Some g → g.name ≡ who → g.slot ≡ slot
      old_slot g is same = let one : g ≡ f = (let both : Some g ≡ Some f = sym is ∙ ap (map.get old.forks) same ∙ lives in cc both) in ap (λ (x : Fork). x.slot) one ∙ there.2

      new_slot : (g : Fork) → map.get new.forks g.name ≡ Some g → g.name ≡ who → g.slot ≡ slot
      new_slot g is same =
          let now : map.get new.forks who ≡ Some (with_body body f) = ap (λ (m : ForkMap). map.get m who) put ∙ get_put old.forks f.name who (with_body body f) (sym named) in
          let one : g ≡ with_body body f = (let both : Some g ≡ Some (with_body body f) = sym is ∙ ap (map.get new.forks) same ∙ now in cc both) in
          ap (λ (x : Fork). x.slot) one ∙ there.2

      by : (o : Option Fork) → fork_in old.forks u k ≡ o → fork_in new.forks u k ≡ o
      by None none = in_none new.forks still.slotted u k (λ g at.
          let other = not_who g at.1 at.2 (new_slot g at.0) in
          let before : IsIn old.forks u k g = (sym (stays g.name other) ∙ at.0, at.1, at.2) in
          let no : None ≡ Some g = sym none ∙ in_found old.forks trees.slotted u k g before in
          cc no)
      by (Some g) found =
          let at = in_tells old.forks trees.slotted u k g found in
          in_found new.forks still.slotted u k g (stays g.name (not_who g at.1 at.2 (old_slot g at.0)) ∙ at.0, at.1, at.2)

  pub tied_own : (l m : ForkLists) → AreTied old.forks l → runs_in old.forks who ≡ true → m.sched ≡ stopped_if new.forks (Some who) l.sched
      → seen_in m.seen.items who.tty slot ≡ seen_of (fork_in new.forks who.tty slot) → SeenElsewhere l.seen.items m.seen.items who.tty slot → AreTied new.forks m
  tied_own l m tied ran sched mine others = record {
    each = λ u. record {
      listed = λ g here. ap (stands g) sched ∙ stand g;
      seen = λ k low first last. elim (cases_eq u.0 who.tty.0) [
        | inl job ↦ elim (cases_eq k slot) [
          | inl place ↦ (λ i. seen_in m.seen.items (record { 0 = job i }) (place i)) ∙ mine ∙ (λ i. seen_of (fork_in new.forks (record { 0 = sym job i }) (sym place i)))
          | inr other ↦ elsewhere u k low first last (inr other)
        ]
        | inr other ↦ elsewhere u k low first last (inl other)
      ];
    };
    filled = ap is_filled sched ∙ filled_test (stopped_if new.forks (Some who) l.sched) (stop_filled new.forks (Some who) l.sched (test_filled l.sched tied.filled));
  }
    where
      elsewhere : (u : Tty) (k : ℕ) → u.0 < TERMINALS → 1 ≤ k → k ≤ MOST_FORKS → (u.0 ≢ who.tty.0) ⊎ (k ≢ slot) → seen_in m.seen.items u k ≡ seen_of (fork_in new.forks u k)
      elsewhere u k low first last apart = others u k apart first last ∙ (tied.each u).seen k low first last ∙ ap seen_of (sym (in_others u k apart))

      stand : (g : ForkName) → stands g (stopped_if new.forks (Some who) l.sched) ≡ runs_in new.forks g
      stand g = elim (cases_name g who) [
        | inl same ↦ subst (λ (x : ForkName). stands x (stopped_if new.forks (Some who) l.sched) ≡ runs_in new.forks x) (sym same) (elim (cases_Bool (runs_in new.forks who)) [
          | inl can ↦ stop_one new.forks (Some who) l.sched who can ∙ (tied.each who.tty).listed who refl ∙ ran ∙ sym can
          | inr lost ↦ stop_gone new.forks who who l.sched lost (same_itself who) ∙ sym lost
        ])
        | inr other ↦
            stop_other new.forks (Some who) l.sched g (λ h is. apart g h other (cc is))
            ∙ (tied.each g.tty).listed g refl ∙ body_runs old trees who body g other ∙ ap (λ (x : PlainTree). runs_in x.forks g) (sym left)
      ]
        where
          apart : (g h : ForkName) → g ≢ who → who ≡ h → same_fork h g ≡ false
          apart g h other is = elim (cases_Bool (same_fork h g)) [
            | inl same ↦ absurd (other (sym (names_same h g same) ∙ sym is))
            | inr none ↦ none
          ]

-- whoever lived lives once sleepers are awoken
pub awoken_live : (old : PlainTree) → IsTree old → (clock : ℕ) (f : ForkName) → IsSome (map.get old.forks f) → IsSome (map.get (sleepers_awoken clock old.forks) f)
awoken_live old trees clock f lives =
    let at = some_of (map.get old.forks f) lives in
    let named = trees.slotted.own f at.0 at.1 in
    let there = each_awoken clock old trees at.0 (ap (map.get old.forks) named ∙ at.1) in
    some_is (map.get (sleepers_awoken clock old.forks) f) (awoken clock at.0) (ap (map.get (sleepers_awoken clock old.forks)) (sym named) ∙ there)

-- a row that is shorter is one of the head too
pub fewer_row : (s : Schedule) (most n : ℕ) → IsRow most s → n ≤ most → IsRow n s
fewer_row s most n row few = record {
  head = row.head;
  within = elim row.within [
    | inl alone ↦ inl alone
    | inr within ↦ inr (omega (arith, within, few))
  ];
}
