-- The JFN that accumulator 1 names, where it is open and where not.
use Rattle.std.proofs.Common.{◌≡◌, ℕ, Bool, true, false, cond, Result, Ok, Err, sym, ◌∙◌, ap}
use Rattle.plain_files.specs.OpenFiles.{OpenFile}
use Rattle.plain_model.specs.declared.call.TheConstants.{NOT_OPEN}
use Rattle.plain_model.specs.Calls.{and_then}
use Rattle.plain_model.specs.ByteCalls.{ByteAsked, jfn_held, jfn_open}
use Rattle.std.specs.Prelude.{if◌then◌else◌}

module _ (is_so : OpenFile → Bool) (a : ByteAsked) where
  abbrev behind : Result OpenFile ℕ → Result OpenFile ℕ
  behind r = and_then r (λ j. if is_so j then Ok j else Err NOT_OPEN)

  module _ (j : OpenFile) (held : Ok j ≡ jfn_held a) where
    pub opened : is_so j ≡ true → Ok j ≡ jfn_open is_so a
    opened h = ap (λ b. cond b (Ok j) (Err NOT_OPEN)) (sym h) ∙ ap behind held

    pub closed : is_so j ≡ false → Err NOT_OPEN ≡ jfn_open is_so a
    closed h = ap (λ b. cond b (Ok j) (Err NOT_OPEN)) (sym h) ∙ ap behind held

  pub missing : (code : ℕ) → Err code ≡ jfn_held a → Err code ≡ jfn_open is_so a
  missing code h = ap behind h
