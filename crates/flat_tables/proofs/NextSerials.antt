-- The next page serials, as owners take them.
use Rattle.std.proofs.Common.{◌≡◌, ◌≢◌, ◌⊎◌, inl, inr, ℕ, ◌+◌, ◌≤◌, Bool, true, false, cond, length, refl, sym, ◌∙◌, subst, arith}
use Rattle.std.specs.Prelude.{slice_index, slice_set, ◌==◌}
use Rattle.std.proofs.lemmas.Bool.Decides.{eqb_tells}
use Rattle.std.proofs.lemmas.List.{length-set, get_or-set_other}
use Rattle.std.proofs.lemmas.Grind.{get_or-set_at}
use Rattle.machine_names.specs.declared.names.Tty.{Tty}
use Rattle.machine_names.specs.declared.names.TheConstants.{TERMINALS}
use Rattle.machine_names.specs.Bounds.{IsOwner}
use Rattle.flat_tables.specs.declared.page_serials.PageSerials.{PageSerials}
use Rattle.flat_tables.specs.Serials.{serial_of, with_next}

abbrev Tells : ℕ → ℕ → Type 0
Tells a b = (((a == b) ≡ true) × (a ≡ b)) ⊎ (((a == b) ≡ false) × (a ≢ b))

module _ (s : PageSerials) (owner : Tty) where
  pub next_own : IsOwner owner → length s.terminals ≡ TERMINALS → serial_of (with_next s owner) owner ≡ serial_of s owner + 1
  next_own own enough = by own (eqb_tells owner.0 255)
    where
      by : IsOwner owner → Tells owner.0 255 → serial_of (with_next s owner) owner ≡ serial_of s owner + 1
      by i (inl e) = rw e.0 refl
      by (inr i) (inr e) = absurd (e.1 i)
      by (inl i) (inr e) = rw e.0 (get_or-set_at s.terminals owner.0 owner.0 (slice_index s.terminals owner.0 + 1) 0 refl (omega (arith, i, enough)))

  pub next_other : (t : Tty) → t.0 ≢ owner.0 → serial_of (with_next s owner) t ≡ serial_of s t
  next_other t ne = by (eqb_tells owner.0 255) (eqb_tells t.0 255)
    where
      by : Tells owner.0 255 → Tells t.0 255 → serial_of (with_next s owner) t ≡ serial_of s t
      by (inl o) (inl e) = absurd (ne (e.1 ∙ sym o.1))
      by (inl o) (inr e) = rw (o.0, e.0) refl
      by (inr o) (inl e) = rw (o.0, e.0) refl
      by (inr o) (inr e) = rw (o.0, e.0) (get_or-set_other s.terminals owner.0 t.0 (slice_index s.terminals owner.0 + 1) 0 ne)

  pub next_later : IsOwner owner → length s.terminals ≡ TERMINALS → (t : Tty) → serial_of s t ≤ serial_of (with_next s owner) t
  next_later own enough t = by (eqb_tells t.0 owner.0)
    where
      by : Tells t.0 owner.0 → serial_of s t ≤ serial_of (with_next s owner) t
      by (inl e) = let same : t ≡ owner = λ i. record { 0 = e.1 i } in subst (λ (u : Tty). serial_of s u ≤ serial_of (with_next s owner) u) (sym same) (omega (arith, next_own own enough))
      by (inr e) = omega (arith, next_other t e.1)

  pub next_length : length (with_next s owner).terminals ≡ length s.terminals
  next_length = by (owner.0 == 255)
    where
      by : (b : Bool) → length (cond b (record s { console = s.console + 1 }) (record s { terminals = slice_set s.terminals owner.0 (slice_index s.terminals owner.0 + 1) })).terminals ≡ length s.terminals
      by true = refl
      by false = length-set s.terminals owner.0 (slice_index s.terminals owner.0 + 1)
