use Rattle.std.proofs.Common.{ap, rules}
use Rattle.drum_queue.specs.declared.transfer.Transfer.TheVariants.{Write}
use Rattle.page_residence.specs.Resident.{reads}
use Rattle.page_residence.proofs.Agreeing.{agrees}
use Rattle.page_residence.proofs.Steps.{oldest_home, oldest_is, home_taken}
use Rattle.page_residence.proofs.residence.Residence.depart.Goals as goal

pub write_from-requires-clause-taken : goal.write_from-requires-clause-taken
write_from-requires-clause-taken g c =
    let s = c.args.self.now in
    let has = oldest_home s.frames s.queue (Write c.args.f c.args.home) (agrees s.frames s.queue s.resident) c.requires.oldest in
    let some = home_taken s.frames.seats c.args.f.0 c.args.home.0 has in
    search rules

pub write_from-requires-clause-words : goal.write_from-requires-clause-words
write_from-requires-clause-words g c =
    let s = c.args.self.now in
    let r = agrees s.frames s.queue s.resident in
    let has = oldest_home s.frames s.queue (Write c.args.f c.args.home) r c.requires.oldest in
    s.resident.pages c.args.f.0 c.args.home.0 has (ap reads (oldest_is (Write c.args.f c.args.home) s.queue.queued r.once c.requires.oldest).own)
