-- Outcomes as the code has them are the outcomes of operations.
use Rattle.std.proofs.Common.{◌≡◌, Option, Some, None, ap}
use Rattle.std.specs.Prelude.{option_map}
use Rattle.word36.specs.Arithmetic.{Outcome}
use Rattle.ka10_alu.specs.declared.out.Out.{Out}
use Rattle.ka10_alu.specs.Outs.{out_of}
use Rattle.ka10_deeds.specs.Done.{outcome_of}

-- what an operation gave is its outcome
pub outcome_given : (x : Option Outcome) (out : Out) → Some out ≡ option_map out_of x → Some (outcome_of out) ≡ x
outcome_given None out h = cc
outcome_given (Some o) out h =
    let same : out ≡ out_of o = cc in
    ap (λ (q : Out). Some (outcome_of q)) same

-- none was given where there is none
pub none_given : (x : Option Outcome) → option_map out_of x ≡ None → None ≡ x
none_given None h = cc
none_given (Some o) h = cc
