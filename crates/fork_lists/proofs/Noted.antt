-- What was seen of a slot is put there, and of no other slot.
use Rattle.std.proofs.Common.{◌≡◌, ◌≢◌, ◌⊎◌, ℕ, ◌*◌, ◌≤◌, List, length, Option, None, Some, refl, sym, ◌∙◌, ap, subst, inl, inr, arith}
use Rattle.std.specs.Prelude.{slice_set}
use Rattle.std.proofs.lemmas.Bool.{cases_eq}
use Rattle.std.proofs.lemmas.List.{get_or-set_other, get_or-set_same}
use Rattle.machine_names.specs.Bounds.{IsForkName, IsTerminal}
use Rattle.machine_names.specs.declared.names.ForkName.{ForkName}
use Rattle.machine_names.specs.declared.names.Tty.{Tty}
use Rattle.machine_names.specs.declared.names.TheConstants.{MOST_FORKS, TERMINALS}
use Rattle.plain_model.specs.declared.fork.Fork.{Fork}
use Rattle.plain_model.specs.Forks.{ForkMap, fork_in}
use Rattle.fork_tree.specs.Trees.{AreSlotted}
use Rattle.fork_lists.specs.Seeing.{place_at}
use Rattle.fork_tree.proofs.Slots.{in_tells}
use Rattle.fork_lists.specs.declared.seen.Seen.{Seen}
use Rattle.fork_lists.specs.Seeing.{AreNamed, nobody, seen_in, seen_of}

module _ (seen : List Seen) (room : length seen ≡ TERMINALS * MOST_FORKS) (t : Tty) (slot : ℕ) (terminal : IsTerminal t) (first : 1 ≤ slot) (last : slot ≤ MOST_FORKS) (x : Seen) where
  pub noted_here : seen_in (slice_set seen (place_at t slot) x) t slot ≡ x
  noted_here = get_or-set_same seen (place_at t slot) x nobody (omega (arith, room, terminal, first, last))

  pub noted_other : (u : Tty) (k : ℕ) → (u.0 ≢ t.0) ⊎ (k ≢ slot) → 1 ≤ k → k ≤ MOST_FORKS → seen_in (slice_set seen (place_at t slot) x) u k ≡ seen_in seen u k
  noted_other u k apart low high = get_or-set_other seen (place_at t slot) (place_at u k) x nobody (λ same. elim apart [
    | inl job ↦ job (omega (arith, same, terminal, first, last, low, high))
    | inr place ↦ place (let job : u.0 ≡ t.0 = omega (arith, same, terminal, first, last, low, high) in omega (arith, same, job, first, low))
  ])

  pub noted_named : AreNamed seen → ((f : ForkName) → x.fork ≡ Some f → IsForkName f × (f.tty.0 ≡ t.0)) → AreNamed (slice_set seen (place_at t slot) x)
  noted_named named mine u k f within low high is = elim (cases_eq u.0 t.0) [
    | inl job ↦ elim (cases_eq k slot) [
      | inl place ↦
          let there : seen_in (slice_set seen (place_at t slot) x) u k ≡ x = (λ i. seen_in (slice_set seen (place_at t slot) x) (record { 0 = job i }) (place i)) ∙ noted_here in
          let its = mine f (ap (λ (y : Seen). y.fork) (sym there) ∙ is) in (its.0, its.1 ∙ sym job)
      | inr other ↦ named u k f within low high (ap (λ (y : Seen). y.fork) (sym (noted_other u k (inr other) low high)) ∙ is)
    ]
    | inr other ↦ named u k f within low high (ap (λ (y : Seen). y.fork) (sym (noted_other u k (inl other) low high)) ∙ is)
  ]

-- what is seen of a slot names the fork in it, of that job
pub seen_named : (forks : ForkMap) → AreSlotted forks → (t : Tty) (slot : ℕ) (f : ForkName) → (seen_of (fork_in forks t slot)).fork ≡ Some f → IsForkName f × (f.tty.0 ≡ t.0)
seen_named forks slotted t slot f is = by (fork_in forks t slot) refl is
  where
    by : (o : Option Fork) → fork_in forks t slot ≡ o → (seen_of o).fork ≡ Some f → IsForkName f × (f.tty.0 ≡ t.0)
    by None found none = absurd (cc none)
    by (Some g) found its =
        let at = in_tells forks slotted t slot g found in
        let name : g.name ≡ f = cc its in
        (subst IsForkName name (slotted.named g at.0), ap (λ (y : ForkName). y.tty.0) (sym name) ∙ at.1)
