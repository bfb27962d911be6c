-- The codes of forks that live no more, given up one after another.
use Rattle.std.proofs.Common.{◌≡◌, ℕ, ◌+◌, Bool, true, false, cond, Option, None, Some, refl, sym, ◌∙◌, ap, arith}
use Rattle.std.specs.Prelude.{is_none, is_some}
use Rattle.std.specs.Option.{option_map_or}
use Rattle.std.specs.Cmp.{nat_cmp_total}
use Rattle.std.specs.FinMap as map
use Rattle.machine_names.specs.declared.names.ForkName.{ForkName}
use Rattle.plain_typing.specs.Lines.{AreAssigned, Codes}
use Rattle.plain_model.specs.declared.fork.Fork.{Fork}
use Rattle.plain_model.specs.Forks.{ForkMap}
use Rattle.plain_model.specs.InterruptCalls.{living_codes}
use Rattle.tty_lines.proofs.Assigned.{AreBelow, below_gone, below_kept}

-- whether a code is assigned to a fork that lives no more
abbrev pub lost : ForkMap → Option (ForkName × ℕ) → Bool
lost forks o = option_map_or (λ a. is_none (map.get forks a.0)) o false

-- what a code is assigned to where those are given up
pub get_living : (forks : ForkMap) (codes : Codes) (k : ℕ) → map.get (living_codes forks codes) k ≡ cond (lost forks (map.get codes k)) None (map.get codes k)
get_living forks codes k =
    map.get-retain_keys codes stays k (λ x tied. ap (λ o. option_map_or (λ a. is_some (map.get forks a.0)) o false) (map.get_tied nat_cmp_total codes k x tied))
    ∙ by (map.get codes k)
  where
    stays : ℕ → Bool
    stays code = option_map_or (λ a. is_some (map.get forks a.0)) (map.get codes code) false

    with_fork : (a : ForkName × ℕ) (f : Option Fork) → cond (is_some f) (Some a) None ≡ cond (is_none f) None (Some a)
    with_fork a None = refl
    with_fork a (Some f) = refl

    by : (o : Option (ForkName × ℕ)) → cond (option_map_or (λ a. is_some (map.get forks a.0)) o false) o None ≡ cond (lost forks o) None o
    by None = refl
    by (Some a) = with_fork a (map.get forks a.0)

module _ (forks : ForkMap) (old now : Codes) (code : ℕ) (are : AreBelow (living_codes forks old) old now code) where
  same_code : (b : Bool) → lost forks (map.get now code) ≡ b → map.get (living_codes forks old) code ≡ cond b None (map.get old code)
  same_code b e = get_living forks old code ∙ ap (λ t. cond t None (map.get old code)) (ap (lost forks) (sym (are.left code (omega arith))) ∙ e)

  pub gives_up : lost forks (map.get now code) ≡ true → AreBelow (living_codes forks old) old (map.remove now code) (code + 1)
  gives_up e = below_gone (living_codes forks old) old now code are (same_code true e)

  pub keeps : lost forks (map.get now code) ≡ false → AreBelow (living_codes forks old) old now (code + 1)
  keeps e = below_kept (living_codes forks old) old now code are (sym (same_code false e))

-- a code that is assigned to nothing is none of a lost fork's
pub unassigned_stays : (forks : ForkMap) (codes : Codes) (k : ℕ) → map.get codes k ≡ None → map.get codes k ≡ map.get (living_codes forks codes) k
unassigned_stays forks codes k none = none ∙ sym (get_living forks codes k ∙ ap (λ o. cond (lost forks o) None o) none)

-- before the first code all are as they were
pub assigned_first : (goal old now : Codes) → AreBelow goal old now 0 → AreAssigned now → AreAssigned old
assigned_first goal old now are assigned = record { each = λ k f c e. assigned.each k f c (are.left k (omega arith) ∙ e) }
