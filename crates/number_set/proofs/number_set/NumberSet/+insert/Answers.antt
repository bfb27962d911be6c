use Rattle.std.proofs.Common.{◌≡◌, ◌≤◌, ◌==◌, ◌-◌, ◌/◌, ◌^◌, length, MatchOption, true, false, sym, ◌∙◌, ap, subst, arith}
use Rattle.std.specs.FinSet as set
use Rattle.number_set.specs.Numbers.{Numbers}
use Rattle.number_set.specs.Words.{AreFull}
use Rattle.number_set.proofs.Changes.{few_kept, full_kept, full_more, match_moved, numbers_more, room_kept, set_not_full, set_word, word_read}
use Rattle.number_set.proofs.number_set.NumberSet.+insert.Goals as goal
use Rattle.number_set.proofs.number_set.NumberSet.+insert.Goals.{in-Some, in_default}

pub invariant_of-self : goal.invariant_of-self
invariant_of-self t c =
    let words = c.self.inside.words.items in
    let at = word_read c.self.inside.bound c.args.n c.index.result.now words c.args.self.now c.self.invariant.0 c.self.view_is c.requires c.index.ensures in
    let x = set_word words c.args.n c.index.result.now at.1 at.2 in
    let not_full : (x == 2 ^ 64 - 1) ≡ false = grind (arith, c.if-word.true) in
    let was_not = set_not_full words c.args.n c.index.result.now at.1 at.2 not_full in (
      room_kept c.self.inside.bound (c.args.n / 64) x words c.self.invariant.0,
      match_moved c.self.inside.full _ _ _ _ (few_kept (c.args.n / 64) x words) (λ f full. full_kept words c.args.n c.index.result.now at.1 at.2 f.value full x (not_full ∙ sym was_not)) c.self.invariant.1,
    )

pub returns-then-word : goal.returns-then-word
returns-then-word t c =
    let words = c.self.inside.words.items in
    let at = word_read c.self.inside.bound c.args.n c.index.result.now words c.args.self.now c.self.invariant.0 c.self.view_is c.requires c.index.ensures in
    numbers_more words c.args.n c.index.result.now at.1 at.2 c.self.inside.bound at.0
    ∙ ap (λ (s : Numbers). let q : Numbers = record s { members = set.insert s.members c.args.n } in q) c.self.view_is

pub invariant_of-self-2 : goal.invariant_of-self-2
invariant_of-self-2 t c =
    let words = c.self.inside.words.items in
    let at = word_read c.self.inside.bound c.args.n c.index.result.now words c.args.self.now c.self.invariant.0 c.self.view_is c.requires c.index.ensures in
    let x = set_word words c.args.n c.index.result.now at.1 at.2 in
    let is_full : (x == 2 ^ 64 - 1) ≡ true = grind (arith, c.if-word.false) in
    let room = room_kept c.self.inside.bound (c.args.n / 64) x words c.self.invariant.0 in
    elim c.match-self.branch [
      | in-Some w ↦
          let full : AreFull words w.in-Some.full.value = subst (λ o. MatchOption o (length words ≤ 1) (λ f. AreFull words f.value)) w.in-Some.is c.self.invariant.1 in
          rw (w.self-inside-is, w.insert.ensures, w.deref_mut.ensures.value) (room, full_more words c.args.n c.index.result.now at.1 at.2 w.in-Some.full.value full x is_full)
      | in_default w ↦
          let few : length words ≤ 1 = subst (λ o. MatchOption o (length words ≤ 1) (λ f. AreFull words f.value)) w.in_default.is c.self.invariant.1 in
          rw (w.self-inside-is, w.in_default.is) (room, few_kept (c.args.n / 64) x words few)
    ]

pub returns : goal.returns
returns t c =
    let words = c.self.inside.words.items in
    let at = word_read c.self.inside.bound c.args.n c.index.result.now words c.args.self.now c.self.invariant.0 c.self.view_is c.requires c.index.ensures in
    let same = numbers_more words c.args.n c.index.result.now at.1 at.2 c.self.inside.bound at.0
    ∙ ap (λ (s : Numbers). let q : Numbers = record s { members = set.insert s.members c.args.n } in q) c.self.view_is in
    elim c.match-self.branch [
      | in-Some w ↦ rw w.self-inside-is same
      | in_default w ↦ rw w.self-inside-is same
    ]
