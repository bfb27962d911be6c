-- The lists are tied to the forks again once they have followed one that may have made another.
use Rattle.std.proofs.Common.{◌≡◌, ◌≢◌, ◌⊎◌, ℕ, ◌<◌, ◌≤◌, true, false, Option, None, Some, refl, sym, ◌∙◌, ap, subst, inl, inr}
use Rattle.std.proofs.lemmas.Bool.{cases_Bool, cases_eq}
use Rattle.std.specs.FinMap as map
use Rattle.machine_names.specs.Orders.{same_fork}
use Rattle.machine_names.specs.declared.names.ForkName.{ForkName}
use Rattle.machine_names.specs.declared.names.Tty.{Tty}
use Rattle.machine_names.specs.declared.names.TheConstants.{MOST_FORKS, TERMINALS}
use Rattle.plain_model.specs.declared.fork.Fork.{Fork}
use Rattle.plain_model.specs.Forks.{fork_in, runs_in}
use Rattle.plain_model.specs.Trees.{PlainTree}
use Rattle.plain_model.proofs.ForkMaps.{cases_name, same_itself}
use Rattle.fork_tree.specs.Making.{last_name}
use Rattle.fork_tree.specs.Trees.{IsTree}
use Rattle.fork_tree.proofs.Slots.{held_lives, in_found}
use Rattle.job_sched.specs.Schedules.{Schedule, size, stands}
use Rattle.job_sched.specs.Ties.{WaitsLess}
use Rattle.job_sched.proofs.Waits.{less_then}
use Rattle.fork_lists.specs.declared.lists.ForkLists.{ForkLists}
use Rattle.fork_lists.specs.Following.{started_if, stopped_if}
use Rattle.fork_lists.specs.Seeing.{SeenElsewhere, seen_in, seen_of}
use Rattle.fork_lists.specs.Ties.{AreTied, CanFollowMaker, Living, is_filled}
use Rattle.fork_lists.proofs.Beside.{IsElsewhere, has_lived, in_as, runs_as}
use Rattle.fork_lists.proofs.Chosen.{filled_test, test_filled}
use Rattle.fork_lists.proofs.Folds.{start_filled, start_from, start_keeps, start_there, stop_filled, stop_gone, stop_less, stop_one}
use Rattle.fork_lists.proofs.Nearing.{start_size, start_stays, stop_keeps, stop_size}
use Rattle.fork_lists.proofs.Tied.{both, runs_lives, some_is}

-- whether a slot is this one
at_place : (u : Tty) (k : ℕ) (t : Tty) (slot : ℕ) → ((u ≡ t) × (k ≡ slot)) ⊎ IsElsewhere u k t slot
at_place u k t slot = elim (cases_eq u.0 t.0) [
  | inl job ↦ elim (cases_eq k slot) [
    | inl same ↦ inl ((λ i. record { 0 = job i }), same)
    | inr other ↦ inr (inr other)
  ]
  | inr other ↦ inr (inl other)
]

module _ (now : PlainTree) (still : IsTree now) (who : ForkName) (slot : ℕ) (l : ForkLists) (can : CanFollowMaker now who slot l) where
  abbrev newest : ForkName
  newest = last_name now who.tty

  -- the lists once they have followed the one
  abbrev left : Schedule
  left = stopped_if now.forks (Some who) l.sched

  -- whoever stands in them can run
  stand_run : (g : ForkName) → stands g left ≡ true → runs_in now.forks g ≡ true
  stand_run g on = elim (cases_name g who) [
    | inl same ↦ elim (cases_Bool (runs_in now.forks g)) [
      | inl runs ↦ runs
      | inr lost ↦ absurd (let no : true ≡ false = sym on ∙ stop_gone now.forks who g l.sched lost (ap (λ (x : ForkName). same_fork x who) same ∙ same_itself who) in cc no)
    ]
    | inr other ↦
        let ran : runs_in can.old.forks g ≡ true = sym ((can.tied.each g.tty).listed g refl) ∙ stop_less now.forks (Some who) l.sched g on in
        let was = runs_lives can.old.forks g ran in
        runs_as who can.old now can.trees still can.adds g was.0 other was.1 ∙ ran
  ]

  -- and whoever can run stands in them, but the one that was made last
  run_stand : (g : ForkName) → g ≢ newest → runs_in now.forks g ≡ true → stands g left ≡ true
  run_stand g other runs = stop_one now.forks (Some who) l.sched g runs ∙ (can.tied.each g.tty).listed g refl ∙ elim (cases_name g who) [
    | inl same ↦ ap (runs_in can.old.forks) same ∙ can.runs
    | inr apart ↦
        let lives = runs_lives now.forks g runs in
        let was = has_lived who can.old now can.trees still can.adds g lives.0 other lives.1 in
        sym (runs_as who can.old now can.trees still can.adds g was.0 apart was.1) ∙ runs
  ]

  pub left_living : Living now.forks left
  left_living g on = let lives = runs_lives now.forks g (stand_run g on) in some_is (map.get now.forks g) lives.0 lives.1

  -- so once that one was started those stand that can run
  started_listed : (g : ForkName) → stands g (started_if now.forks (λ f. true) (map.get now.forks newest) left) ≡ runs_in now.forks g
  started_listed g = both (stands g (started_if now.forks (λ f. true) (map.get now.forks newest) left)) (runs_in now.forks g)
      (λ on. elim (start_from now.forks (λ f. true) (map.get now.forks newest) left g on) [
        | inl before ↦ stand_run g before
        | inr new ↦ new.3
      ])
      (λ runs. elim (cases_name g newest) [
        | inl same ↦
            let lives = runs_lives now.forks g runs in
            let named = still.slotted.own g lives.0 lives.1 in
            let found : map.get now.forks newest ≡ Some lives.0 = ap (map.get now.forks) (sym same) ∙ lives.1 in
            subst (λ (o : Option Fork). stands g (started_if now.forks (λ f. true) o left) ≡ true) (sym found)
            (subst (λ (x : ForkName). stands x (started_if now.forks (λ f. true) (Some lives.0) left) ≡ true) named
            (start_there now.forks (λ f. true) lives.0 left refl (ap (runs_in now.forks) named ∙ runs)))
        | inr other ↦ start_keeps now.forks (λ f. true) (map.get now.forks newest) left g (run_stand g other runs)
      ])

  module _ (m : ForkLists) (mine : seen_in m.seen.items who.tty slot ≡ seen_of (fork_in now.forks who.tty slot)) (others : SeenElsewhere l.seen.items m.seen.items who.tty slot) where
    -- each slot was seen as it is, but that of the one that was made last
    left_seen : (u : Tty) (k : ℕ) → u.0 < TERMINALS → 1 ≤ k → k ≤ MOST_FORKS → ((h : Fork) → map.get now.forks newest ≡ Some h → IsElsewhere u k who.tty h.slot)
        → seen_in m.seen.items u k ≡ seen_of (fork_in now.forks u k)
    left_seen u k low first last beside = elim (at_place u k who.tty slot) [
      | inl at ↦ (λ i. seen_in m.seen.items (at.0 i) (at.1 i)) ∙ mine ∙ (λ i. seen_of (fork_in now.forks (sym at.0 i) (sym at.1 i)))
      | inr apart ↦
          others u k apart first last ∙ (can.tied.each u).seen k low first last
          ∙ ap seen_of (sym (in_as who can.old now can.trees still can.adds slot can.fork can.there can.named u k apart beside))
    ]

    module _ (n : ForkLists) (newest_seen : (h : Fork) → map.get now.forks newest ≡ Some h → seen_in n.seen.items who.tty h.slot ≡ seen_of (Some h))
        (elsewhere : (h : Fork) → map.get now.forks newest ≡ Some h → SeenElsewhere m.seen.items n.seen.items who.tty h.slot) (none : map.get now.forks newest ≡ None → n.seen ≡ m.seen) where
      all_seen : (u : Tty) (k : ℕ) → u.0 < TERMINALS → 1 ≤ k → k ≤ MOST_FORKS → seen_in n.seen.items u k ≡ seen_of (fork_in now.forks u k)
      all_seen u k low first last = by (map.get now.forks newest) refl
        where
          by : (o : Option Fork) → map.get now.forks newest ≡ o → seen_in n.seen.items u k ≡ seen_of (fork_in now.forks u k)
          by None gone = ap (λ v. seen_in v.items u k) (none gone) ∙ left_seen u k low first last (λ h is. absurd (let no : None ≡ Some h = sym gone ∙ is in cc no))
          by (Some h) is = elim (at_place u k who.tty h.slot) [
            | inl at ↦
                let found = in_found now.forks still.slotted who.tty h.slot h (held_lives now.forks still.slotted newest h is, ap (λ (x : ForkName). x.tty.0) (still.slotted.own newest h is), refl) in
                (λ i. seen_in n.seen.items (at.0 i) (at.1 i)) ∙ newest_seen h is ∙ ap seen_of (sym found) ∙ (λ i. seen_of (fork_in now.forks (sym at.0 i) (sym at.1 i)))
            | inr apart ↦
                elsewhere h is u k apart first last
                ∙ left_seen u k low first last (λ g there. subst (λ (x : Fork). IsElsewhere u k who.tty x.slot) (let one : h ≡ g = (let both : Some h ≡ Some g = sym is ∙ there in cc both) in one) apart)
          ]

      pub maker_tied : n.sched ≡ started_if now.forks (λ f. true) (map.get now.forks newest) left → AreTied now.forks n
      maker_tied sched = record {
        each = λ t. record {
          listed = λ f here. ap (stands f) sched ∙ started_listed f;
          seen = λ k low first last. all_seen t k low first last;
        };
        filled =
            ap is_filled sched
            ∙ filled_test (started_if now.forks (λ f. true) (map.get now.forks newest) left)
            (start_filled now.forks (λ f. true) (map.get now.forks newest) left (stop_filled now.forks (Some who) l.sched (test_filled l.sched can.tied.filled)));
      }

      pub maker_waits : n.sched ≡ started_if now.forks (λ f. true) (map.get now.forks newest) left → WaitsLess l.sched.waiting n.sched.waiting
      maker_waits sched =
          subst (λ (s : Schedule). WaitsLess l.sched.waiting s.waiting) (sym sched)
          (less_then l.sched.waiting left.waiting (started_if now.forks (λ f. true) (map.get now.forks newest) left).waiting (stop_keeps now.forks (Some who) l.sched) (start_stays now.forks (λ f. true) (map.get now.forks newest) left))

      pub maker_size : n.sched ≡ started_if now.forks (λ f. true) (map.get now.forks newest) left → size n.sched ≡ size l.sched
      maker_size sched = ap size sched ∙ start_size now.forks (λ f. true) (map.get now.forks newest) left ∙ stop_size now.forks (Some who) l.sched
