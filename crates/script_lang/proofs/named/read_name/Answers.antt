use Rattle.std.proofs.Common.{◌≡◌, ◌∙◌, sym, ap, subst, Some, None, Option, List, ℕ}
use Rattle.std.specs.Prelude.{MatchOption}
use Rattle.machine_names.specs.Bounds.{IsFileName}
use Rattle.machine_names.specs.FileNames.{file_named, full_name}
use Rattle.script_lang.proofs.FullNames.{long_named, none_named, one_named}
use Rattle.script_lang.proofs.named.read_name.Goals as goal

read : (user extension text full : List ℕ) (r : Option (List ℕ)) → full ≡ full_name user extension text
    → MatchOption r (IsFileName full → ⊥) (λ name. (name ≡ full) × IsFileName full)
    → r ≡ file_named user extension text
read user extension text full None is none = sym (none_named user extension text (λ h. none (subst IsFileName (sym is) h)))
read user extension text full (Some name) is one = ap Some (one.0 ∙ is) ∙ sym (one_named user extension text (subst IsFileName is one.1))

pub returns-in_err-full : goal.returns-in_err-full
returns-in_err-full c = c.from_residual.ensures ∙ sym (long_named c.args.user.now c.args.extension.now c.args.text.now c.in_err-full.ensures)

pub returns : goal.returns
returns c =
    read c.args.user.now c.args.extension.now c.args.text.now c.as_slice.result.now c.file_name.result (c.as_slice.ensures.value ∙ c.in_ok-full.ensures) c.file_name.ensures
