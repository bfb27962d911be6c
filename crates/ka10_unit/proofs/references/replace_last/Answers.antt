use Rattle.std.proofs.Common.{◌≡◌, ◌∙◌, ap, sym, ◌++◌, Option, false, true}
use Rattle.std.specs.Option.{option_to_list}
use Rattle.arrayvec.specs.ArrayVec.{ArrayVec}
use Rattle.plain_units.specs.declared.unit.Reference.{Reference}
use Rattle.ka10_unit.proofs.Referring.{last_replaced, none_replaced}
use Rattle.ka10_unit.proofs.references.replace_last.Goals as goal

pub returns-in-Some : goal.returns-in-Some
returns-in-Some c = last_replaced c.args.refs.now.items c.pop.new.self.items _ c.in-Some.field-0 _ (c.pop.ensures.items ∙ ap (λ (o : Option Reference). c.pop.new.self.items ++ option_to_list o) c.in-Some.is) c.push.ensures.items

pub returns-in_default : goal.returns-in_default
returns-in_default c =
    none_replaced c.args.refs.now.items c.pop.new.self.items _ (λ less. (let no : false ≡ true = c.in_default.ensures.variant.1 less in cc no)) (sym (ap (λ (v : ArrayVec Reference). v.items) c.in_default.ensures.empty))
