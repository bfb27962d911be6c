-- What it means that a fork can run.
use Rattle.std.proofs.Common.{◌≡◌, Bool, true, false, Option, None, Some, refl, sym, ◌∙◌, ap}
use Rattle.std.specs.Prelude.{not, ◌&&◌}
use Rattle.std.specs.Option.{option_map_or}
use Rattle.std.specs.FinMap as map
use Rattle.machine_names.specs.declared.names.TheConstants.{MOST_FORKS}
use Rattle.machine_names.specs.declared.names.ForkName.{ForkName}
use Rattle.plain_model.specs.declared.fork.Fork.{Fork}
use Rattle.script_texts.specs.declared.status.ForkStatus.{ForkStatus}
use Rattle.script_texts.specs.declared.status.ForkStatus.TheVariants.{Run, Wait, Halted, Forced}
use Rattle.plain_model.specs.Forks.{ForkMap, IsRunnable, can_run, is_frozen, is_run}
use Rattle.fork_tree.specs.Trees.{Lives}

module _ (forks : ForkMap) where
  -- it is in the status Run, and not frozen
  abbrev pub Runs : Fork → Type 0
  Runs f = (f.body.status ≡ Run) × (is_frozen MOST_FORKS forks (Some f) ≡ false)

  pub can_runs : (f : Fork) → can_run forks f ≡ true → Runs f
  can_runs f h = by f.body.status (is_frozen MOST_FORKS forks (Some f)) h
    where
      by : (status : ForkStatus) (frozen : Bool) → (is_run status && not frozen) ≡ true → (status ≡ Run) × (frozen ≡ false)
      by Run false e = (refl, refl)
      by Run true e = absurd (cc e)
      by (Wait on) frozen e = absurd (cc e)
      by Halted frozen e = absurd (cc e)
      by (Forced channel) frozen e = absurd (cc e)

  pub runs_can : (f : Fork) → Runs f → can_run forks f ≡ true
  runs_can f h = ap (λ s. is_run s && not (is_frozen MOST_FORKS forks (Some f))) h.0 ∙ ap not h.1

  -- whoever of a name can run is a fork that lives
  pub runs_as : (name : ForkName) → IsRunnable forks name → (f : Fork) × (map.get forks name ≡ Some f) × (f.body.status ≡ Run) × (is_frozen MOST_FORKS forks (Some f) ≡ false)
  runs_as name h = by (map.get forks name) refl h
    where
      by : (o : Option Fork) → map.get forks name ≡ o → option_map_or (can_run forks) o false ≡ true → (f : Fork) × (map.get forks name ≡ Some f) × (f.body.status ≡ Run) × (is_frozen MOST_FORKS forks (Some f) ≡ false)
      by None is e = absurd (cc e)
      by (Some f) is e = let r = can_runs f e in (f, is, r.0, r.1)

  pub named_runs : (name : ForkName) (f : Fork) → map.get forks name ≡ Some f → can_run forks f ≡ true → IsRunnable forks name
  named_runs name f is can = ap (λ o. option_map_or (can_run forks) o false) is ∙ can

  -- a fork that lives can run where its name can
  pub runs_named : (f : Fork) → Lives forks f → IsRunnable forks f.name → can_run forks f ≡ true
  runs_named f lives h = sym (ap (λ o. option_map_or (can_run forks) o false) lives) ∙ h
