use Rattle.std.proofs.Common.{◌≡◌, false, inl, refl, sym, ◌∙◌, ap, subst, arith}
use Rattle.std.proofs.lemmas.Bool.Decides.{nat_tests}
use Rattle.std.proofs.lemmas.Option.{IfSome_then}
use Rattle.machine_names.specs.declared.names.Kind.TheVariants.{Execute}
use Rattle.page_contracts.specs.declared.answers.Touch.TheVariants.{Ready}
use Rattle.page_contracts.specs.Pages.{touch_of}
use Rattle.plain_pages.specs.References.{in_map}
use Rattle.plain_units.specs.Steps.{is_accumulator, call}
use Rattle.ka10_unit.specs.Gathers.{framed}
use Rattle.ka10_unit.proofs.AtHand.{calls_at_hand}
use Rattle.ka10_unit.proofs.at_hand.call_at_hand.Goals as goal

pub returns-in-Some-clause-told : goal.returns-in-Some-clause-told
returns-in-Some-clause-told g c d fits =
    let f = c.args.fork in
    let p = framed g.P.Pages.means c.args.pages.now d in
    let high : is_accumulator c.args.regs.now.pc ≡ false = grind (arith, nat_tests) in
    IfSome_then c.call_number.result c.call_number.ensures.told
    (λ n is. calls_at_hand f (inl c.requires.serves.terminal) p c.args.regs.now high (g.met.P.Pages.whole c.args.pages.now d fits)
    (subst (λ n. touch_of p.pages p.scene (in_map (record { fork = f; page = n })) Execute f.tty ≡ Ready) c.page_of.ensures.page (c.in-Some.ensures.told d f fits c.space-space.ensures refl f.tty (inl c.requires.serves.terminal))) _ (c.look.ensures.told d f fits c.space-space.ensures) is.0 is.1 ∙ ap call (sym is.2))
