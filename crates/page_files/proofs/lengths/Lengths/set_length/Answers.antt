use Rattle.std.proofs.Common.{◌∙◌, set, ap}
use Rattle.plain_files.specs.Sizes.{PlainFile}
use Rattle.page_files.proofs.Entries.{put, put_fits}
use Rattle.page_files.proofs.lengths.Lengths.set_length.Goals as goal

pub invariant_of-self : goal.invariant_of-self
invariant_of-self c = (
  c.self.invariant.0,
  put_fits c.self.inside.files.items c.args.f.0 (record { length = c.args.length; size = c.args.size }) (c.requires.size, c.requires.room) c.self.invariant.1,
)

pub returns : goal.returns
returns c =
    let new : PlainFile = record { length = c.args.length; size = c.args.size } in
    put c.self.inside.files.items c.args.f.0 (record { length = c.args.length; size = c.args.size }) ∙ ap (λ fs. set fs c.args.f.0 new) c.self.view_is
