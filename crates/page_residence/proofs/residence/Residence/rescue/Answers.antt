use Rattle.std.proofs.Common.{◌≡◌, true, false, refl, sym, ◌∙◌, rules}
use Rattle.page_residence.proofs.Agreeing.{agrees, resides}
use Rattle.page_residence.proofs.Steps.{resident_rescued}
use Rattle.page_residence.proofs.Numbered.{tenant_aged}
use Rattle.page_residence.proofs.residence.Residence.rescue.Goals as goal

pub invariant_of-self-2 : goal.invariant_of-self-2
invariant_of-self-2 c =
    let s = c.args.self.now in
    let taken : c.rescue.result ≡ true = search rules in
    record {
      resident = rw (c.set_transfer.ensures, c.rescue.ensures.gone taken)
          (resides _ _ (resident_rescued s.frames s.queue c.args.f.0 (agrees s.frames s.queue s.resident) (sym c.rescue.ensures.answer ∙ taken)));
      aged = rw c.set_transfer.ensures (tenant_aged s.frames c.args.f.0 (λ t. record t { in_transfer = false }) c.requires (λ t. refl) s.aged);
    }
