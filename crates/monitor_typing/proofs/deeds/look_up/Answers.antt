use Rattle.std.proofs.Common.{ℕ, Option, Some, sym, subst}
use Rattle.event_deeds.specs.declared.answer.Showing.TheVariants.{Told as Shows}
use Rattle.event_deeds.specs.declared.deed.Deed.TheVariants.{Kill}
use Rattle.event_deeds.specs.declared.deed.Purpose.TheVariants.{Run}
use Rattle.step_shown.specs.declared.echo.Told.TheVariants.{Nothing}
use Rattle.job_commands.specs.Programs.{StartsAt}
use Rattle.event_deeds.specs.Deeds.{begun}
use Rattle.monitor_typing.specs.Deeds.{Does}
use Rattle.monitor_typing.proofs.EndDid.{does_lack, does_not_start, does_start}
use Rattle.monitor_core.proofs.FileDid.{is_missing}
use Rattle.monitor_typing.proofs.deeds.look_up.Goals as goal

pub returns-in_default-clause-does : goal.returns-in_default-clause-does
returns-in_default-clause-does g c =
    let m = c.args.system.now in
    let name = c.args.name.now in
    subst (Does m m (λ s. begun s c.args.t name)) (sym c.printed.ensures) (does_lack m c.args.t name (is_missing m.files name c.find.result c.find.ensures.found c.in_default.not-Some))

pub returns-in-Ok-Some-clause-does : goal.returns-in-Ok-Some-clause-does
returns-in-Ok-Some-clause-does g c =
    let m = c.args.system.now in
    let name = c.args.name.now in
    let found = c.in-Some.ensures.found in
    subst (Does m m (λ s. begun s c.args.t name)) (sym c.printed-in-Ok-Some.ensures)
    (subst (λ a. Does m m (λ s. begun s c.args.t name) (record { showing = Shows c.args.t Nothing; next = Some (Kill c.args.t (Run name a)) })) (sym c.right.ensures.value)
    (does_start m name c.in-Some.file.0 found.0 found.1 c.args.t c.in-Ok-Some.word (λ d fits. subst (λ (o : Option ℕ). StartsAt (g.P.Pages.means.plain m.pages d) c.in-Some.file.0 o) c.in-Ok-Some.field-0-is (c.in-Ok-Some.ensures.told d fits))))

pub returns-in-Ok-None-clause-does : goal.returns-in-Ok-None-clause-does
returns-in-Ok-None-clause-does g c =
    let m = c.args.system.now in
    let name = c.args.name.now in
    let found = c.in-Some.ensures.found in
    subst (Does m m (λ s. begun s c.args.t name)) (sym c.printed-in-Ok-None.ensures)
    (does_not_start m name c.in-Some.file.0 found.0 found.1 c.args.t (λ d fits. subst (λ (o : Option ℕ). StartsAt (g.P.Pages.means.plain m.pages d) c.in-Some.file.0 o) c.in-Ok-None.field-0-is (c.in-Ok-None.ensures.told d fits)))
