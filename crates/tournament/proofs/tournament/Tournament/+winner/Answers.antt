use Rattle.std.proofs.Common.{rules, ◌≤◌, MatchOption, length, sym, ◌∙◌, subst}
use Rattle.tournament.specs.Keys.{AreAbsent, IsLeast, IsRoundAbove}
use Rattle.tournament.proofs.Rounds.{first_wins, none_below, other_wins}
use Rattle.tournament.proofs.tournament.Tournament.+winner.Goals as goal

pub returns-in_err-pair : goal.returns-in_err-pair
returns-in_err-pair t c =
    let keys = c.self.inside.keys.items in
    let round : IsRoundAbove keys c.in-Some.next.value = subst (λ o. MatchOption o (length keys ≤ 1) (λ u. IsRoundAbove keys u.value)) c.in-Some.is c.self.invariant in
    let none : AreAbsent c.in-Some.next.value = search rules in
    rw (c.from_residual-in_err-pair.ensures, sym c.self.view_is) (none_below keys c.in-Some.next.value round none)

pub returns-then-first : goal.returns-then-first
returns-then-first t c =
    let keys = c.self.inside.keys.items in
    let round : IsRoundAbove keys c.in-Some.next.value = subst (λ o. MatchOption o (length keys ≤ 1) (λ u. IsRoundAbove keys u.value)) c.in-Some.is c.self.invariant in
    let least : IsLeast c.in-Some.next.value c.in_ok-pair.pair = search rules in
    let first = rw (c.key_at-2.ensures, c.key_at-3.ensures, c.deref-3.ensures.value, c.deref-4.ensures.value) at c.goes_first-first.ensures in
    rw (sym c.self.view_is) (first_wins keys c.in-Some.next.value round c.in_ok-pair.pair least (sym first ∙ c.if-first.true))

pub returns-else-first : goal.returns-else-first
returns-else-first t c =
    let keys = c.self.inside.keys.items in
    let round : IsRoundAbove keys c.in-Some.next.value = subst (λ o. MatchOption o (length keys ≤ 1) (λ u. IsRoundAbove keys u.value)) c.in-Some.is c.self.invariant in
    let least : IsLeast c.in-Some.next.value c.in_ok-pair.pair = search rules in
    let first = rw (c.key_at-2.ensures, c.key_at-3.ensures, c.deref-3.ensures.value, c.deref-4.ensures.value) at c.goes_first-first.ensures in
    rw (sym c.self.view_is) (other_wins keys c.in-Some.next.value round c.in_ok-pair.pair least (sym first ∙ c.if-first.false))
