-- Forks by name, and by slot.
use Rattle.std.proofs.Common.{◌≡◌, ℕ, ◌&&◌, ◌==◌, Bool, true, false, cond, Option, None, Some, refl, sym, ◌∙◌, ap, ◌⊎◌, inl, inr}
use Rattle.std.proofs.lemmas.Bool.{cases_Bool, eq-eqb, eqb-true, and_from}
use Rattle.std.specs.Ordering.{eq_by_cmp}
use Rattle.std.specs.FinMap as map
use Rattle.std.specs.Option.{option_and_then}
use Rattle.machine_names.specs.Orders.{fork_cmp, same_fork}
use Rattle.plain_model.specs.Forks.{ForkMap, fork_in, superior_of}
use Rattle.machine_names.specs.declared.names.Tty.{Tty}
use Rattle.machine_names.specs.declared.names.ForkName.{ForkName}
use Rattle.plain_model.specs.declared.fork.Fork.{Fork}
use Rattle.machine_names.proofs.OrderLemmas.{fork_cmp_total, fork_cmp_apart, fork_tied}
use Rattle.plain_model.proofs.Values.{found_passes, found_holds, values_all}

pub both_first : (b c : Bool) → (b && c) ≡ true → b ≡ true
both_first true c h = refl
both_first false c h = h

pub both_second : (b c : Bool) → (b && c) ≡ true → c ≡ true
both_second true c h = h
both_second false c h = absurd (cc h)

pub names_same : (a b : ForkName) → same_fork a b ≡ true → a ≡ b
names_same a b e =
    let t : a.tty.0 ≡ b.tty.0 = eqb-true a.tty.0 b.tty.0 (both_first (a.tty.0 == b.tty.0) (a.serial == b.serial) e) in
    let s : a.serial ≡ b.serial = eqb-true a.serial b.serial (both_second (a.tty.0 == b.tty.0) (a.serial == b.serial) e) in
    λ i. record { tty = record { 0 = t i }; serial = s i }

pub same_itself : (a : ForkName) → same_fork a a ≡ true
same_itself a = and_from (a.tty.0 == a.tty.0) (a.serial == a.serial) (eq-eqb a.tty.0 a.tty.0 refl) (eq-eqb a.serial a.serial refl)

pub name_numbers : (a b : ForkName) → a.tty.0 ≡ b.tty.0 → a.serial ≡ b.serial → a ≡ b
name_numbers a b t s = λ i. record { tty = record { 0 = t i }; serial = s i }

module _ (q k : ForkName) where
  pub tied : q ≡ k → eq_by_cmp fork_cmp q k ≡ true
  tied e = fork_tied q k ∙ ap (same_fork q) (sym e) ∙ same_itself q

  pub untied : (q ≡ k → ⊥) → eq_by_cmp fork_cmp q k ≡ false
  untied ne = elim (cases_Bool (eq_by_cmp fork_cmp q k)) [ inl e ↦ absurd (ne (names_same q k (sym (fork_tied q k) ∙ e))) | inr e ↦ e ]

-- whether two names are one
pub cases_name : (q k : ForkName) → (q ≡ k) ⊎ (q ≡ k → ⊥)
cases_name q k = elim (cases_Bool (same_fork q k)) [
  | inl e ↦ inl (names_same q k e)
  | inr e ↦ inr (λ same. let t : true ≡ false = sym (ap (same_fork q) (sym same) ∙ same_itself q) ∙ e in cc t)
]

module _ {X : Type 0} (m : map.FinMap fork_cmp X) (k q : ForkName) where
  pub get_put : (f : X) → q ≡ k → map.get (map.insert m k f) q ≡ Some f
  get_put f e = map.get-insert fork_cmp_total m k f q ∙ ap (λ b. cond b (Some f) (map.get m q)) (tied q k e)

  pub get_put_other : (f : X) → (q ≡ k → ⊥) → map.get (map.insert m k f) q ≡ map.get m q
  get_put_other f ne = map.get-insert fork_cmp_total m k f q ∙ ap (λ b. cond b (Some f) (map.get m q)) (untied q k ne)

  pub get_gone : q ≡ k → map.get (map.remove m k) q ≡ None
  get_gone e = map.get-remove fork_cmp_total m k q ∙ ap (λ b. cond b None (map.get m q)) (tied q k e)

  pub get_gone_other : (q ≡ k → ⊥) → map.get (map.remove m k) q ≡ map.get m q
  get_gone_other ne = map.get-remove fork_cmp_total m k q ∙ ap (λ b. cond b None (map.get m q)) (untied q k ne)

-- maps that answer alike are one
pub same_forks : {X : Type 0} (m n : map.FinMap fork_cmp X) → ((q : ForkName) → map.get m q ≡ map.get n q) → m ≡ n
same_forks m n alike = map.same_map fork_cmp_total fork_cmp_apart m n alike

module _ {X : Type 0} (m : map.FinMap fork_cmp X) (k : ForkName) where
  -- what is put again stands in place of what was put
  pub put_again : (v w : X) → map.insert (map.insert m k v) k w ≡ map.insert m k w
  put_again v w = same_forks _ _ (λ q. elim (cases_name q k) [
    | inl e ↦ get_put (map.insert m k v) k q w e ∙ sym (get_put m k q w e)
    | inr ne ↦ get_put_other (map.insert m k v) k q w ne ∙ get_put_other m k q v ne ∙ sym (get_put_other m k q w ne)
  ])

  -- what is there, put again
  pub put_itself : (v : X) → map.get m k ≡ Some v → map.insert m k v ≡ m
  put_itself v there = same_forks _ _ (λ q. elim (cases_name q k) [
    | inl e ↦ get_put m k q v e ∙ sym there ∙ ap (map.get m) (sym e)
    | inr ne ↦ get_put_other m k q v ne
  ])

  -- what is not there, taken away
  pub gone_itself : map.get m k ≡ None → map.remove m k ≡ m
  gone_itself none = same_forks _ _ (λ q. elim (cases_name q k) [
    | inl e ↦ get_gone m k q e ∙ sym none ∙ ap (map.get m) (sym e)
    | inr ne ↦ get_gone_other m k q ne
  ])

abbrev pub is_at : Tty → ℕ → Fork → Bool
is_at t slot f = (f.name.tty.0 == t.0) && (f.slot == slot)

pub at_numbers : (t : Tty) (slot : ℕ) (f : Fork) → is_at t slot f ≡ true → (f.name.tty.0 ≡ t.0) × (f.slot ≡ slot)
at_numbers t slot f e =
    (eqb-true f.name.tty.0 t.0 (both_first (f.name.tty.0 == t.0) (f.slot == slot) e), eqb-true f.slot slot (both_second (f.name.tty.0 == t.0) (f.slot == slot) e))

pub numbers_at : (t : Tty) (slot : ℕ) (f : Fork) → f.name.tty.0 ≡ t.0 → f.slot ≡ slot → is_at t slot f ≡ true
numbers_at t slot f a b = and_from (f.name.tty.0 == t.0) (f.slot == slot) (eq-eqb f.name.tty.0 t.0 a) (eq-eqb f.slot slot b)

-- each fork stands under its own name
abbrev pub AreOwn : ForkMap → Type 0
AreOwn forks = (name : ForkName) (f : Fork) → map.get forks name ≡ Some f → f.name ≡ name

-- a fork that is found in a slot lives there
module _ (m : ForkMap) (own : AreOwn m) where
  abbrev Held : Fork → Type 0
  Held f = (k : ForkName) × (map.get m k ≡ Some f)

  pub held_there : (k : ForkName) (f : Fork) → map.get m k ≡ Some f → map.get m f.name ≡ Some f
  held_there k f e = ap (map.get m) (own k f e) ∙ e

  pub slot_tells : (t : Tty) (slot : ℕ) (f : Fork) → fork_in m t slot ≡ Some f → (map.get m f.name ≡ Some f) × (f.name.tty.0 ≡ t.0) × (f.slot ≡ slot)
  slot_tells t slot f e =
      let held = found_holds Held (is_at t slot) (map.values m) f (values_all fork_cmp fork_cmp_total Held m (λ q v there. (q, there))) e in
      let at = at_numbers t slot f (found_passes (is_at t slot) (map.values m) f e) in
      (held_there held.0 f held.1, at.0, at.1)

  -- and so does a superior
  pub superior_tells : (f g : Fork) → superior_of m f ≡ Some g → (map.get m g.name ≡ Some g) × (g.name.tty.0 ≡ f.name.tty.0) × (f.superior ≡ Some g.slot)
  superior_tells f g e = by f.superior refl e
    where
      by : (o : Option ℕ) → f.superior ≡ o → option_and_then (fork_in m f.name.tty) o ≡ Some g → (map.get m g.name ≡ Some g) × (g.name.tty.0 ≡ f.name.tty.0) × (f.superior ≡ Some g.slot)
      by None is found = absurd (cc found)
      by (Some slot) is found = let t = slot_tells f.name.tty slot g found in (t.0, t.1, is ∙ ap Some (sym t.2))
