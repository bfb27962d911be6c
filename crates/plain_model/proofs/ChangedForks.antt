-- Forks that are all changed, or all those of a job: what stands under a name then.
use Rattle.std.proofs.Common.{◌≡◌, ◌≢◌, ◌==◌, ℕ, Bool, true, false, cond, List, [], ◌∷◌, map as each, Option, None, Some, inl, inr, refl, sym, ◌∙◌, ap}
use Rattle.std.specs.Option.{option_map}
use Rattle.std.specs.Ordering.{eq_by_cmp}
use Rattle.std.specs.FinMap as map
use Rattle.std.proofs.lemmas.Bool.{cases_Bool, eq-eqb, eqb-true}
use Rattle.machine_names.specs.Orders.{fork_cmp}
use Rattle.machine_names.specs.declared.names.ForkName.{ForkName}
use Rattle.machine_names.specs.declared.names.Tty.{Tty}
use Rattle.machine_names.proofs.OrderLemmas.{fork_cmp_total}
use Rattle.plain_model.specs.declared.fork.Fork.{Fork}
use Rattle.plain_model.specs.Forks.{ForkMap}
use Rattle.plain_model.specs.Trees.{all_changed, job_changed}

found_changed : (change : Fork → Fork) (q : ForkName) (es : List (ForkName × Fork)) → map.find fork_cmp q (each (λ e. (e.0, change e.1)) es) ≡ option_map change (map.find fork_cmp q es)
found_changed change q [] = refl
found_changed change q (e ∷ es) = by (eq_by_cmp fork_cmp q e.0) (found_changed change q es)
  where
    by : (b : Bool) → map.find fork_cmp q (each (λ x. (x.0, change x.1)) es) ≡ option_map change (map.find fork_cmp q es)
        → cond b (Some (change e.1)) (map.find fork_cmp q (each (λ x. (x.0, change x.1)) es)) ≡ option_map change (cond b (Some e.1) (map.find fork_cmp q es))
    by true rest = refl
    by false rest = rest

-- the fork that stood there, changed
pub get_changed : (change : Fork → Fork) (m : ForkMap) (q : ForkName) → map.get (all_changed change m) q ≡ option_map change (map.get m q)
get_changed change m q =
    map.get-from_entries fork_cmp_total (each (λ e. (e.0, change e.1)) (map.entries m)) q
    ∙ found_changed change q (map.entries m) ∙ ap (option_map change) (sym (map.get-entries m q))

-- from which fork one came
pub changed_from : (change : Fork → Fork) (m : ForkMap) (q : ForkName) (g : Fork) → map.get (all_changed change m) q ≡ Some g → (f : Fork) × (map.get m q ≡ Some f) × (change f ≡ g)
changed_from change m q g is = by (map.get m q) refl (sym (get_changed change m q) ∙ is)
  where
    by : (o : Option Fork) → map.get m q ≡ o → option_map change o ≡ Some g → (f : Fork) × (map.get m q ≡ Some f) × (change f ≡ g)
    by None none h = absurd (cc h)
    by (Some f) there h = (f, there, let same : change f ≡ g = cc h in same)

-- what a fork of a job is changed to, and any other is not
abbrev pub of_job : (Fork → Fork) → Tty → Fork → Fork
of_job change t f = cond (f.name.tty.0 == t.0) (change f) f

module _ (change : Fork → Fork) (t : Tty) (f : Fork) where
  pub own_changed : f.name.tty.0 ≡ t.0 → of_job change t f ≡ change f
  own_changed here = ap (λ b. cond b (change f) f) (eq-eqb f.name.tty.0 t.0 here)

  pub others_alone : f.name.tty.0 ≢ t.0 → of_job change t f ≡ f
  others_alone other = elim (cases_Bool (f.name.tty.0 == t.0)) [ inl e ↦ absurd (other (eqb-true f.name.tty.0 t.0 e)) | inr e ↦ ap (λ b. cond b (change f) f) e ]

-- a change that each fork of the job bears is one that each fork bears
pub of_job_holds : (C : Fork → Fork → Type 0) → ((f : Fork) → C f f) → (change : Fork → Fork) → ((f : Fork) → C f (change f)) → (t : Tty) (f : Fork) → C f (of_job change t f)
of_job_holds C alone change changes t f = by (f.name.tty.0 == t.0)
  where
    by : (b : Bool) → C f (cond b (change f) f)
    by true = changes f
    by false = alone f
