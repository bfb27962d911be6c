use Rattle.std.proofs.Common.{◌≡◌, ◌<◌, ◌≤◌, ◌^◌, ◌∙◌, ℕ, Option, None, Some, ap, sym, arith, refl, rules}
use Rattle.page_homes.specs.declared.homes.Home.{Home}
use Rattle.std.specs.Option.{option_and_then}
use Rattle.flat_tables.specs.Looks.{IsCode}
use Rattle.flat_tables.specs.Walks.{walk_within, ready_home}
use Rattle.flat_tables.proofs.Looking.{ready_here}
use Rattle.flat_tables.proofs.WalkSteps.{walk_four}
use Rattle.flat_tables.proofs.kept_maps.KeptMaps.home_for.Goals as goal

pub returns-then-look-number : goal.returns-then-look-number
returns-then-look-number c =
    let s = c.args.self.now in
    sym (ap (option_and_then (ready_home c.args.wanted)) (sym (walk_four s.held.items c.args.at))
    ∙ ready_here s.looked c.requires.held c.args.at c.requires.lives c.requires.page c.index.ensures c.args.wanted c.number.ensures.value c.if-look-number.true 4 (omega arith))

-- what a number tells of a home
none_coded : (n : ℕ) (o : Option Home) → IsCode n o → 2 ^ 32 ≤ n → o ≡ None
none_coded n None code big = refl
none_coded n (Some h) code big = absurd (omega (arith, code.1, big))

home_coded : (n : ℕ) (o : Option Home) → IsCode n o → n < 2 ^ 32 → o ≡ Some (record { 0 = n })
home_coded n None code small = absurd (omega (arith, code, small))
home_coded n (Some h) code small = ap (λ k. Some (record { 0 = k })) (sym code.0)

pub returns-then-code-from : goal.returns-then-code-from
returns-then-code-from c =
    let s = c.args.self.now in
    sym (ap (option_and_then (ready_home c.args.wanted)) (sym (walk_four s.held.items c.args.at))
    ∙ none_coded c.code_along-code.result (option_and_then (ready_home c.args.wanted) (walk_within 4 s.held.items c.args.at)) c.code_along-code.ensures (search rules))

pub returns : goal.returns
returns c =
    let s = c.args.self.now in
    sym (ap (option_and_then (ready_home c.args.wanted)) (sym (walk_four s.held.items c.args.at))
    ∙ home_coded c.code_along-code.result (option_and_then (ready_home c.args.wanted) (walk_within 4 s.held.items c.args.at)) c.code_along-code.ensures (search rules))

pub returns-in-Some : goal.returns-in-Some
returns-in-Some c = sym (ap (option_and_then (ready_home c.args.wanted)) (sym (walk_four c.args.self.now.held.items c.args.at)) ∙ c.in-Some.ensures)
