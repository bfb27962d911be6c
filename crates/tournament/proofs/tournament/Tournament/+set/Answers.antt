use Rattle.std.proofs.Common.{◌<◌, ◌≤◌, ℕ, List, Option, length, MatchOption, sym, subst}
use Rattle.tournament.specs.Keys.{IsRoundAbove}
use Rattle.tournament.proofs.Rounds.{few_kept, round_changed}
use Rattle.tournament.proofs.tournament.Tournament.+set.Goals as goal
use Rattle.tournament.proofs.tournament.Tournament.+set.Goals.{in-Some, in_default}

pub invariant_of-self : goal.invariant_of-self
invariant_of-self t c =
    let keys = c.self.inside.keys.items in
    let inside : c.args.n < length keys = subst (λ (s : List (Option ℕ)). c.args.n < length s) (sym c.self.view_is) c.requires in
    let best = rw (c.key_at.ensures, c.key_at-2.ensures, c.deref.ensures.value, c.deref-2.ensures.value) at c.lesser-best.ensures in
    elim c.match-self.branch [
      | in-Some w ↦
          let round : IsRoundAbove keys w.in-Some.next.value = subst (λ o. MatchOption o (length keys ≤ 1) (λ u. IsRoundAbove keys u.value)) w.in-Some.is c.self.invariant in
          rw (w.self-inside-is, w.set.ensures, w.deref_mut.ensures.value) (round_changed keys w.in-Some.next.value c.args.n c.args.key c.lesser-best.result round inside best)
      | in_default w ↦
          let few : length keys ≤ 1 = subst (λ o. MatchOption o (length keys ≤ 1) (λ u. IsRoundAbove keys u.value)) w.in_default.is c.self.invariant in
          rw (w.self-inside-is, w.in_default.is) (few_kept keys c.args.n c.args.key few)
    ]
