use Rattle.std.proofs.Common.{set}
use Rattle.word36.specs.Words.{IsWord}
use Rattle.page_residence.specs.Resident.{page_in}
use Rattle.page_residence.proofs.Agreeing.{agrees, resides}
use Rattle.page_residence.proofs.Finding.{page_set}
use Rattle.page_residence.proofs.Seating.{home_below}
use Rattle.page_residence.proofs.Steps.{resident_words}
use Rattle.page_residence.proofs.Numbered.{words_aged}
use Rattle.page_residence.proofs.residence.Residence.put.Goals as goal

pub invariant_of-self : goal.invariant_of-self
invariant_of-self c =
    let s = c.args.self.now in
    let here = c.requires.here in
    let small : IsWord c.value.result = c.value.ensures.below in
    record {
      resident = rw c.put.ensures
          (resides _ _ (resident_words s.frames s.queue c.args.f.0 (set (page_in s.frames.words c.args.f.0) c.args.at c.value.result) (agrees s.frames s.queue s.resident)
          (home_below s.frames.seats c.args.f.0 here.home here.given)
          (λ still. page_set (page_in s.frames.words c.args.f.0) c.args.at c.value.result (s.resident.pages c.args.f.0 here.home here.given here.read) small)));
      aged = rw c.put.ensures (words_aged s.frames c.args.f.0 (set (page_in s.frames.words c.args.f.0) c.args.at c.value.result) s.aged);
    }
