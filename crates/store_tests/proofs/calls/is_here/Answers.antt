use Rattle.std.proofs.Common.{is_some, sym, ◌∙◌, ap}
use Rattle.paged_store.specs.StoreSound.{paged_sound}
use Rattle.store_tests.proofs.calls.is_here.Goals as goal

pub returns-then-taken : goal.returns-then-taken
returns-then-taken c some = sym ((paged_sound c.args.store.now).finds c.args.home.0) ∙ ap is_some (sym c.find.ensures) ∙ sym c.is_some.ensures ∙ some
