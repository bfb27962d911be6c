use Rattle.std.proofs.Common.{◌≡◌, ◌<◌, ◌-◌, ◌+◌, ◌^◌, ◌∙◌, ℕ, ap, sym, arith, rules, subst, refl}
use Rattle.std.specs.Prelude.{slice_index_or}
use Rattle.std.specs.Option.{option_and_then}
use Rattle.flat_tables.specs.Looks.{IsCode, past_look}
use Rattle.flat_tables.specs.Walks.{walk_within, ready_home}
use Rattle.flat_tables.proofs.Looking.{PassesOn, ready_here, key_there, passes_on}
use Rattle.flat_tables.proofs.WalkSteps.{walk_none}
use Rattle.flat_tables.proofs.kept_maps.KeptMaps.code_along.Goals as goal

pub returns-then-look-way : goal.returns-then-look-way
returns-then-look-way c =
    let v = c.loop-entries.invariant in
    let small : (slice_index_or c.index.result.now c.loop-entries.next.page past_look).number < 2 ^ 32 = search rules in
    let there = v.rest ∙ ready_here c.args.self.now.looked c.requires.held c.loop-entries.next v.lives v.page c.index.ensures c.args.wanted c.number-way.ensures.value c.if-look-way.true
    (4 - c.loop-entries.entries) (omega (arith, c.loop-entries-test.true)) in
    subst (IsCode c.from-then-look-way.result) (sym there) (c.from-then-look-way.ensures, omega (arith, c.from-then-look-way.ensures, small))

pub index-requires-else-not-look-way : goal.index-requires-else-not-look-way
index-requires-else-not-look-way c =
    let v = c.loop-entries.invariant in
    let below = key_there c.args.self.now.looked c.requires.held c.loop-entries.next v.lives v.page c.index.ensures c.args.wanted c.number-way.ensures.value c.if-not-look-way.false in
    search rules

pub loop-entries-preserved : goal.loop-entries-preserved
loop-entries-preserved c =
    let s = c.args.self.now in
    let v = c.loop-entries.invariant in
    let look = slice_index_or c.index.result.now c.loop-entries.next.page past_look in
    let small : look.number < 2 ^ 32 = search rules in
    let on = subst (λ n. PassesOn s.held.items s.looks.items c.args.wanted c.loop-entries.next (record { map = n; page = look.page })) (sym c.from-in-loop-entries.ensures)
    (passes_on s.looked c.requires.held c.loop-entries.next v.lives v.page c.index.ensures c.args.wanted c.number-way.ensures.value c.if-not-look-way.false
    small c.index-else-not-look-way.ensures (c.if-index-from.false ∙ c.from.ensures)) in
    record {
      lives = on.lives;
      page = on.page;
      rest = v.rest ∙ on.rest (4 - c.loop-entries.entries) (omega (arith, c.loop-entries-test.true))
          ∙ ap (λ n. option_and_then (ready_home c.args.wanted) (walk_within n s.held.items (record { map = c.from-in-loop-entries.result; page = look.page }))) (less c.loop-entries.entries);
    }
  where
    less : (n : ℕ) → 4 - n - 1 ≡ 4 - (n + 1)
    less n = omega arith

pub returns : goal.returns
returns c =
    let s = c.args.self.now in
    let v = c.loop-entries.invariant in
    let none = v.rest ∙ ap (option_and_then (ready_home c.args.wanted)) (walk_none (4 - c.loop-entries.entries) s.held.items c.loop-entries.next (omega (arith, c.loop-entries-test.false))) in
    subst (IsCode (2 ^ 64 - 1)) (sym none) refl
