use Rattle.std.proofs.Common.{◌≡◌, ◌/◌, ◌+◌, ◌≤◌, length, get_or, MatchOption, sym, ◌∙◌, ap, subst, arith, rules}
use Rattle.std.proofs.lemmas.List.{get_or_read}
use Rattle.std.specs.FinSet as set
use Rattle.number_set.specs.Numbers.{Numbers}
use Rattle.number_set.specs.Words.{AreFull}
use Rattle.number_set.proofs.Gaps.{gap_below, gap_in_word, gap_later, clear_there, next_word, word_fits, none_left, word_passed}
use Rattle.number_set.proofs.number_set.NumberSet.+least_absent.Goals as goal

pub returns-then-clear-lt-WORD : goal.returns-then-clear-lt-WORD
returns-then-clear-lt-WORD t c =
    let words = c.self.inside.words.items in
    let read : get_or words (c.args.from / 64) 0 ≡ c.in_ok-get.field-0.now = search rules in
    gap_below words c.args.from c.self.inside.bound c.args.self.now c.self.view_is _ c.below_bound.result
    (gap_in_word words c.args.from c.in_ok-get.field-0.now c.first_clear-clear.result read c.first_clear-clear.ensures c.if-clear-lt-WORD.true) c.below_bound.ensures

pub returns-in_default : goal.returns-in_default
returns-in_default t c =
    let words = c.self.inside.words.items in
    let read : get_or words (c.args.from / 64) 0 ≡ c.in_ok-get.field-0.now = search rules in
    let few : length words ≤ 1 = subst (λ o. MatchOption o (length words ≤ 1) (λ f. AreFull words f.value)) c.in_default.is c.self.invariant.1 in
    none_left words c.args.from c.self.inside.bound c.args.self.now c.self.view_is c.self.invariant.0
    (word_passed words c.args.from c.in_ok-get.field-0.now c.first_clear-clear.result read c.first_clear-clear.ensures c.if-clear-lt-WORD.false)
    (λ v low high. absurd (omega arith))

pub returns-in_err-next : goal.returns-in_err-next
returns-in_err-next t c =
    let words = c.self.inside.words.items in
    let read : get_or words (c.args.from / 64) 0 ≡ c.in_ok-get.field-0.now = search rules in
    let full : AreFull words c.in-Some.full.value = subst (λ o. MatchOption o (length words ≤ 1) (λ f. AreFull words f.value)) c.in-Some.is c.self.invariant.1 in
    let same : c.deref-2.result.now ≡ c.in-Some.full.value = search rules in
    rw c.from_residual-in_err-next.ensures (
    none_left words c.args.from c.self.inside.bound c.args.self.now c.self.view_is c.self.invariant.0
    (word_passed words c.args.from c.in_ok-get.field-0.now c.first_clear-clear.result read c.first_clear-clear.ensures c.if-clear-lt-WORD.false)
    (λ v low high. sym (full.each v) ∙ ap (λ (s : Numbers). set.contains s.members v) (sym same) ∙ c.in_err-next.ensures v low (omega (arith, full.bound, ap (λ (s : Numbers). s.bound) same)))
    )

pub overflow_mul-next : goal.overflow_mul-next
overflow_mul-next t c =
    let words = c.self.inside.words.items in
    let full : AreFull words c.in-Some.full.value = subst (λ o. MatchOption o (length words ≤ 1) (λ f. AreFull words f.value)) c.in-Some.is c.self.invariant.1 in
    let next = next_word words c.in-Some.full.value c.deref-2.result.now (c.args.from / 64 + 1) c.in_ok-next.next full (search rules) c.in_ok-next.ensures in
    omega (arith, word_fits c.self.inside.bound (length words) c.in_ok-next.next c.self.invariant.0 next.inside)

pub overflow_add-next : goal.overflow_add-next
overflow_add-next t c =
    let words = c.self.inside.words.items in
    let full : AreFull words c.in-Some.full.value = subst (λ o. MatchOption o (length words ≤ 1) (λ f. AreFull words f.value)) c.in-Some.is c.self.invariant.1 in
    let next = next_word words c.in-Some.full.value c.deref-2.result.now (c.args.from / 64 + 1) c.in_ok-next.next full (search rules) c.in_ok-next.ensures in
    let read : get_or words c.in_ok-next.next 0 ≡ c.index.result.now = sym (get_or_read words c.in_ok-next.next c.index.result.now next.inside c.index.ensures 0) in
    let clear = clear_there c.index.result.now c.first_clear.result (search rules) (rw read at next.some) c.first_clear.ensures in
    omega (arith, word_fits c.self.inside.bound (length words) c.in_ok-next.next c.self.invariant.0 next.inside, clear)

pub returns : goal.returns
returns t c =
    let words = c.self.inside.words.items in
    let first : get_or words (c.args.from / 64) 0 ≡ c.in_ok-get.field-0.now = search rules in
    let full : AreFull words c.in-Some.full.value = subst (λ o. MatchOption o (length words ≤ 1) (λ f. AreFull words f.value)) c.in-Some.is c.self.invariant.1 in
    let next = next_word words c.in-Some.full.value c.deref-2.result.now (c.args.from / 64 + 1) c.in_ok-next.next full (search rules) c.in_ok-next.ensures in
    let read : get_or words c.in_ok-next.next 0 ≡ c.index.result.now = sym (get_or_read words c.in_ok-next.next c.index.result.now next.inside c.index.ensures 0) in
    let clear = clear_there c.index.result.now c.first_clear.result (search rules) (rw read at next.some) c.first_clear.ensures in
    let passed = word_passed words c.args.from c.in_ok-get.field-0.now c.first_clear-clear.result first c.first_clear-clear.ensures c.if-clear-lt-WORD.false in
    gap_below words c.args.from c.self.inside.bound c.args.self.now c.self.view_is _ c.below_bound-2.result
    (gap_later words c.args.from c.in_ok-next.next c.index.result.now c.first_clear.result passed next read c.first_clear.ensures clear) c.below_bound-2.ensures
