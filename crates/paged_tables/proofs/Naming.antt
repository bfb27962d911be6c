-- The names of homes, once a home gets an owner's next name or loses its own.
use Rattle.std.proofs.Common.{◌≡◌, ◌≢◌, inl, inr, ℕ, ◌+◌, ◌-◌, ◌<◌, ◌≤◌, List, true, cond, Option, None, Some, is_some, length, sym, ◌∙◌, ap, subst, arith}
use Rattle.std.specs.Prelude.{slice_set}
use Rattle.std.proofs.lemmas.Bool.{cases_eq}
use Rattle.std.proofs.lemmas.List.{get_or-set_same, get_or-set_other}
use Rattle.std.proofs.lemmas.List.Sums.{sum_by-set}
use Rattle.machine_names.specs.declared.names.PageName.{PageName}
use Rattle.machine_names.specs.declared.names.Tty.{Tty}
use Rattle.machine_names.specs.Bounds.{IsOwner}
use Rattle.flat_tables.specs.declared.page_serials.PageSerials.{PageSerials}
use Rattle.flat_tables.specs.Serials.{serial_of, with_next}
use Rattle.flat_tables.specs.TableSteps.{next_name}
use Rattle.flat_tables.proofs.NextSerials.{next_later, next_length, next_own}
use Rattle.pager_walk.specs.PagedMaps.{name_at}
use Rattle.paged_tables.specs.PagedTables.{AreNamed}

module _ (names : List (Option PageName)) (serials : PageSerials) (taken : ℕ) (a : AreNamed names serials taken) (home : ℕ) (below : home < length names) where
  -- a home gets an owner's next name
  module _ (owner : Tty) (own : IsOwner owner) where
    abbrev new : PageName
    new = next_name serials owner

    abbrev pub names_more : List (Option PageName)
    names_more = slice_set names home (Some (next_name serials owner))

    pub name_here : name_at names_more home ≡ Some new
    name_here = get_or-set_same names home (Some new) None below

    pub name_other : (k : ℕ) → k ≢ home → name_at names_more k ≡ name_at names k
    name_other k ne = get_or-set_other names home k (Some new) None ne

    -- the name is no other's
    pub fresh : (k : ℕ) → name_at names k ≡ Some new → ⊥
    fresh k e = (let z = a.old k new e in omega (arith, z))

    once : (j k : ℕ) (n : PageName) → name_at names_more j ≡ Some n → name_at names_more k ≡ Some n → j ≡ k
    once j k n at_j at_k = elim (cases_eq j home) [
      | inl ej ↦ elim (cases_eq k home) [
        | inl ek ↦ ej ∙ sym ek
        | inr nk ↦ absurd (fresh k (sym (name_other k nk) ∙ at_k ∙ sym at_j ∙ ap (name_at names_more) ej ∙ name_here))
      ]
      | inr nj ↦ elim (cases_eq k home) [
        | inl ek ↦ absurd (fresh j (sym (name_other j nj) ∙ at_j ∙ sym at_k ∙ ap (name_at names_more) ek ∙ name_here))
        | inr nk ↦ a.once j k n (sym (name_other j nj) ∙ at_j) (sym (name_other k nk) ∙ at_k)
      ]
    ]

    old : (k : ℕ) (n : PageName) → name_at names_more k ≡ Some n → n.serial < serial_of (with_next serials owner) n.tty
    old k n e = elim (cases_eq k home) [
      | inl is ↦
          let same : new ≡ n = (let z : Some new ≡ Some n = sym name_here ∙ ap (name_at names_more) (sym is) ∙ e in cc z) in
          subst (λ (m : PageName). m.serial < serial_of (with_next serials owner) m.tty) same (omega (arith, next_own serials owner own a.owners))
      | inr ne ↦ omega (arith, a.old k n (sym (name_other k ne) ∙ e), next_later serials owner own a.owners n.tty)
    ]

    -- which had none
    pub named_more : name_at names home ≡ None → AreNamed names_more (with_next serials owner) (taken + 1)
    named_more none = record {
      once = once;
      old = old;
      owners = next_length serials owner ∙ a.owners;
      count =
          (let s = sum_by-set (λ (o : Option PageName). cond (is_some o) 1 0) names home (Some new) None below in
          let was : ◌≡◌ {A = ℕ} (cond (is_some (name_at names home)) 1 0) 0 = ap (λ o. cond (is_some o) 1 0) none in
          omega (arith, s, was, a.count));
    }

    -- which had another
    pub named_again : is_some (name_at names home) ≡ true → AreNamed names_more (with_next serials owner) taken
    named_again some = record {
      once = once;
      old = old;
      owners = next_length serials owner ∙ a.owners;
      count =
          (let s = sum_by-set (λ (o : Option PageName). cond (is_some o) 1 0) names home (Some new) None below in
          let was : ◌≡◌ {A = ℕ} (cond (is_some (name_at names home)) 1 0) 1 = ap (λ b. cond b 1 0) some in
          omega (arith, s, was, a.count));
    }

  -- a home loses its name
  abbrev pub names_less : List (Option PageName)
  names_less = slice_set names home None

  pub less_here : name_at names_less home ≡ None
  less_here = get_or-set_same names home None None below

  pub less_other : (k : ℕ) → k ≢ home → name_at names_less k ≡ name_at names k
  less_other k ne = get_or-set_other names home k None None ne

  pub less_was : (k : ℕ) (n : PageName) → name_at names_less k ≡ Some n → name_at names k ≡ Some n
  less_was k n named = elim (cases_eq k home) [
    | inl s ↦ absurd (let z : None ≡ Some n = sym less_here ∙ ap (name_at names_less) (sym s) ∙ named in cc z)
    | inr ne ↦ sym (less_other k ne) ∙ named
  ]

  pub named_less : is_some (name_at names home) ≡ true → AreNamed names_less serials (taken - 1) × (1 ≤ taken)
  named_less some =
      let s = sum_by-set (λ (o : Option PageName). cond (is_some o) 1 0) names home None None below in
      let was : ◌≡◌ {A = ℕ} (cond (is_some (name_at names home)) 1 0) 1 = ap (λ b. cond b 1 0) some in (
        record {
          once = λ j k n p q. a.once j k n (less_was j n p) (less_was k n q);
          old = λ k n e. a.old k n (less_was k n e);
          owners = a.owners;
          count = omega (arith, s, was, a.count);
        },
        omega (arith, s, was, a.count),
      )
