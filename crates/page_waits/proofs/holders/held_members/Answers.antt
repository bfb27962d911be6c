use Rattle.std.proofs.Common.{◌≡◌, ℕ, zero, suc, List, [], ◌∷◌, true, refl, sym, ◌∙◌, arith}
use Rattle.std.specs.Prelude.{None, Option, Some, is_some, not, replicate, slice_index_or}
use Rattle.std.specs.List.{list_all}
use Rattle.machine_names.specs.declared.names.ForkName.{ForkName}
use Rattle.page_waits.specs.Waits.{the_lists}
use Rattle.page_waits.proofs.Holding.{all_seats}
use Rattle.page_waits.proofs.Lists.{member_below}
use Rattle.page_waits.proofs.holders.held_members.Goals as goal

-- among none no fork is found
nothing_at : (xs : List (Option ForkName)) (k : ℕ) → list_all (λ o. not (is_some o)) xs ≡ true → slice_index_or xs k None ≡ None
nothing_at [] zero none = refl
nothing_at [] (suc k) none = refl
nothing_at (Some f ∷ xs) k none = absurd (cc none)
nothing_at (None ∷ xs) zero none = refl
nothing_at (None ∷ xs) (suc k) none = nothing_at xs k none

pub loop-seat-init : goal.loop-seat-init
loop-seat-init g c = record {
  long = refl;
  all = λ k low apart none. absurd (omega (arith, low));
  members = λ k f is. let no : None ≡ Some f = sym (nothing_at (replicate 63 None) k refl) ∙ is in absurd (cc no);
  held = λ k f is. let no : None ≡ Some f = sym (nothing_at (replicate 63 None) k refl) ∙ is in absurd (cc no);
}

pub returns-clause-all : goal.returns-clause-all
returns-clause-all g c =
    all_seats c.loop-seat.forks (the_lists.set c.args.lists.now) (the_lists.member c.args.lists.now) (g.S.System.means.store.holds c.args.system.now) (member_below c.args.lists.now.sched c.sound.ensures) c.requires.owned
    (λ k low. c.loop-seat.invariant.all k (omega (arith, low, c.loop-seat-test.false, c.set-seat-end.ensures)))
