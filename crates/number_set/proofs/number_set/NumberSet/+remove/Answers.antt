use Rattle.std.proofs.Common.{◌≡◌, ◌≤◌, ◌==◌, ◌-◌, ◌/◌, ◌^◌, length, MatchOption, false, sym, ◌∙◌, ap, subst, arith}
use Rattle.std.specs.FinSet as set
use Rattle.number_set.specs.Numbers.{Numbers}
use Rattle.number_set.specs.Words.{AreFull}
use Rattle.number_set.proofs.Changes.{cleared_not_full, cleared_word, few_kept, full_kept, full_less, match_moved, numbers_less, room_kept, word_read}
use Rattle.number_set.proofs.number_set.NumberSet.+remove.Goals as goal
use Rattle.number_set.proofs.number_set.NumberSet.+remove.Goals.{in-Some, in_default}

pub invariant_of-self : goal.invariant_of-self
invariant_of-self t c =
    let words = c.self.inside.words.items in
    let at = word_read c.self.inside.bound c.args.n c.index-word.result.now words c.args.self.now c.self.invariant.0 c.self.view_is c.requires c.index-word.ensures in
    let x = cleared_word words c.args.n c.index-word.result.now at.1 at.2 in
    let was_not : (c.index-word.result.now == 2 ^ 64 - 1) ≡ false = grind (arith, c.if-word.true) in (
      room_kept c.self.inside.bound (c.args.n / 64) x words c.self.invariant.0,
      match_moved c.self.inside.full _ _ _ _ (few_kept (c.args.n / 64) x words)
          (λ f full. full_kept words c.args.n c.index-word.result.now at.1 at.2 f.value full x (cleared_not_full words c.args.n c.index-word.result.now at.1 at.2 ∙ sym was_not))
          c.self.invariant.1,
    )

pub returns-then-word : goal.returns-then-word
returns-then-word t c =
    let words = c.self.inside.words.items in
    let at = word_read c.self.inside.bound c.args.n c.index-word.result.now words c.args.self.now c.self.invariant.0 c.self.view_is c.requires c.index-word.ensures in
    numbers_less words c.args.n c.index-word.result.now at.1 at.2 c.self.inside.bound at.0
    ∙ ap (λ (s : Numbers). let q : Numbers = record s { members = set.remove s.members c.args.n } in q) c.self.view_is

pub invariant_of-self-2 : goal.invariant_of-self-2
invariant_of-self-2 t c =
    let words = c.self.inside.words.items in
    let at = word_read c.self.inside.bound c.args.n c.index-word.result.now words c.args.self.now c.self.invariant.0 c.self.view_is c.requires c.index-word.ensures in
    let x = cleared_word words c.args.n c.index-word.result.now at.1 at.2 in
    let room = room_kept c.self.inside.bound (c.args.n / 64) x words c.self.invariant.0 in
    elim c.match-self.branch [
      | in-Some w ↦
          let full : AreFull words w.in-Some.full.value = subst (λ o. MatchOption o (length words ≤ 1) (λ f. AreFull words f.value)) w.in-Some.is c.self.invariant.1 in
          rw (w.self-inside-is, w.remove.ensures, w.deref_mut.ensures.value) (
            room,
            full_less words c.args.n c.index-word.result.now at.1 at.2 w.in-Some.full.value full x (cleared_not_full words c.args.n c.index-word.result.now at.1 at.2),
          )
      | in_default w ↦
          let few : length words ≤ 1 = subst (λ o. MatchOption o (length words ≤ 1) (λ f. AreFull words f.value)) w.in_default.is c.self.invariant.1 in
          rw (w.self-inside-is, w.in_default.is) (room, few_kept (c.args.n / 64) x words few)
    ]

pub returns : goal.returns
returns t c =
    let words = c.self.inside.words.items in
    let at = word_read c.self.inside.bound c.args.n c.index-word.result.now words c.args.self.now c.self.invariant.0 c.self.view_is c.requires c.index-word.ensures in
    let same = numbers_less words c.args.n c.index-word.result.now at.1 at.2 c.self.inside.bound at.0
    ∙ ap (λ (s : Numbers). let q : Numbers = record s { members = set.remove s.members c.args.n } in q) c.self.view_is in
    elim c.match-self.branch [
      | in-Some w ↦ rw w.self-inside-is same
      | in_default w ↦ rw w.self-inside-is same
    ]
