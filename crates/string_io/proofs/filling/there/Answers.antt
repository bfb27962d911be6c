use Rattle.std.proofs.Common.{ℕ, Option, ◌∙◌, ap, subst}
use Rattle.std.specs.Prelude.{IsSome}
use Rattle.std.specs.FinMap as map
use Rattle.machine_names.specs.Orders.{file_page}
use Rattle.page_contracts.specs.declared.answers.Touch.TheVariants.{Ready}
use Rattle.page_contracts.specs.Pages.{absent_or}
use Rattle.ka10_unit.specs.Gathers.{framed}
use Rattle.string_io.proofs.Filled.{is_away, is_near, some_of, there_fills, there_needs, touch_there}
use Rattle.string_io.proofs.filling.there.Goals as goal

pub returns-in-Absent-clause-told : goal.returns-in-Absent-clause-told
returns-in-Absent-clause-told g c d owner fits own gathers =
    let means = g.P.Pages.means in
    let s = c.args.pages.now in
    let p = framed means s d in
    let f = file_page c.args.file.0 c.args.page in
    let there = some_of (map.get p.pages.files f) (subst (λ filed. IsSome (filed f)) (g.met.P.Pages.agrees s d fits).filed c.requires.there) in
    let home = c.in-Absent.home in
    there_needs p owner own c.args.gather.now gathers f there.0 there.1 home.0 (is_away (p.scene.page_away there.0) home.0 (c.in-Absent.ensures.told d owner fits own ∙ touch_there p.pages owner f there.0 there.1 p.scene))

pub returns-in_default : goal.returns-in_default
returns-in_default g c = record {
  told = λ d owner fits own gathers.
      let means = g.P.Pages.means in
      let s = c.args.pages.now in
      let p = framed means s d in
      let f = file_page c.args.file.0 c.args.page in
      let there = some_of (map.get p.pages.files f) (subst (λ filed. IsSome (filed f)) (g.met.P.Pages.agrees s d fits).filed c.requires.there) in
      there_fills p owner own c.args.gather.now gathers f there.0 there.1 _ (is_near (p.scene.page_away there.0) (λ home away. c.in_default.not-Absent (record { 0 = home }) (c.touch.ensures.told d owner fits own ∙ touch_there p.pages owner f there.0 there.1 p.scene ∙ ap (λ (o : Option ℕ). absent_or o Ready) away)));
  needs = tt;
}
