-- A frame that is held keeps its page.
use Rattle.std.proofs.Common.{◌≡◌, ◌≢◌, ℕ, ◌+◌, ◌-◌, inl, inr, List, [], ◌∷◌, length, Option, None, Some, is_some, Bool, true, false, cond, refl, sym, ◌∙◌, ap, arith, set}
use Rattle.std.specs.Option.{option_map, option_map_or}
use Rattle.std.proofs.lemmas.Bool.{cases_eq, cases_lt, false≢true}
use Rattle.std.proofs.lemmas.List.{get_or-set_same, get_or-set_other, get_or_past, set_past, set-get_or, set-set}
use Rattle.frame_table.specs.declared.tenant.Tenant.{Tenant}
use Rattle.frame_table.specs.Core.{Core, seat_of, home_in, is_held, is_kept, new_tenant, next_use, with_tenant}
use Rattle.frame_table.specs.Deeds.{Deed, Assigns, Frees, Holds, Releases, Pins, Unpins, Moves, Uses, Writes, after, after_all, IsAllowed, IsHeldThrough}

-- a frame that is held is taken
held_taken : (c : Core) (f : ℕ) → is_held c f ≡ true → seat_of c f ≡ None → ⊥
held_taken c f held none = false≢true (sym (ap (λ (s : Option Tenant). option_map_or is_kept s false) none) ∙ held)

home_of_kept : (g : Tenant → Tenant) (s : Option Tenant) → ((t : Tenant) → (g t).home ≡ t.home)
    → option_map (λ t. t.home) (option_map g s) ≡ option_map (λ t. t.home) s
home_of_kept g None same = refl
home_of_kept g (Some t) same = ap Some (same t)

-- a frame other than the one whose seat changes
home_other : (c : Core) (f k : ℕ) (s : Option Tenant) → f ≢ k → home_in (record c { seats = set c.seats k s }) f ≡ home_in c f
home_other c f k s other = ap (option_map (λ t. t.home)) (get_or-set_other c.seats k f s None other)

-- what a frame is taken by changes, but not its home
home_kept : (c : Core) (f k : ℕ) (g : Tenant → Tenant) → ((t : Tenant) → (g t).home ≡ t.home) → home_in (with_tenant c k g) f ≡ home_in c f
home_kept c f k g same = elim (cases_eq f k) [
  | inl e ↦ elim (cases_lt k (length c.seats)) [
    | inl below ↦
        ap (λ (n : ℕ). home_in (with_tenant c k g) n) e
        ∙ ap (option_map (λ t. t.home)) (get_or-set_same c.seats k (option_map g (seat_of c k)) None below)
        ∙ home_of_kept g (seat_of c k) same ∙ ap (home_in c) (sym e)
    | inr past ↦ ap (λ (ss : List (Option Tenant)). home_in (record c { seats = ss }) f) (set_past c.seats k (option_map g (seat_of c k)) past)
  ]
  | inr other ↦ home_other c f k (option_map g (seat_of c k)) other
]

used_aside : (b : Bool) (c q : Core) (f : ℕ) → home_in q f ≡ home_in c f → home_in (cond b q c) f ≡ home_in c f
used_aside true c q f same = same
used_aside false c q f same = refl

-- a call leaves the page of a frame that is held
stays_after : (c : Core) (d : Deed) (f : ℕ) → IsAllowed c d → is_held c f ≡ true → home_in (after c d) f ≡ home_in c f
stays_after c (Assigns k h) f allowed held = elim (cases_eq f k) [
  | inl e ↦ absurd (held_taken c f held (ap (seat_of c) e ∙ allowed.0.free))
  | inr other ↦ home_other c f k (Some (new_tenant h c.uses)) other
]
stays_after c (Frees k) f allowed held = elim (cases_eq f k) [
  | inl e ↦ absurd (false≢true (sym allowed ∙ ap (is_held c) (sym e) ∙ held))
  | inr other ↦ home_other c f k None other
]
stays_after c (Holds k) f allowed held = home_kept c f k (λ t. record t { holds = t.holds + 1 }) (λ t. refl)
stays_after c (Releases k) f allowed held = home_kept c f k (λ t. record t { holds = t.holds - 1 }) (λ t. refl)
stays_after c (Pins k) f allowed held = home_kept c f k (λ t. record t { pins = t.pins + 1 }) (λ t. refl)
stays_after c (Unpins k) f allowed held = home_kept c f k (λ t. record t { pins = t.pins - 1 }) (λ t. refl)
stays_after c (Moves k on) f allowed held = home_kept c f k (λ t. record t { in_transfer = on }) (λ t. refl)
stays_after c (Uses k) f allowed held =
    used_aside (is_some (seat_of c k)) c (record (with_tenant c k (λ t. record t { age = c.uses })) { uses = next_use c.uses }) f
    (home_kept c f k (λ t. record t { age = c.uses }) (λ t. refl))
stays_after c (Writes k ws) f allowed held = refl

pub stays_through : (c : Core) (ds : List Deed) (f : ℕ) → IsHeldThrough c ds f → home_in (after_all c ds) f ≡ home_in c f
stays_through c [] f through = refl
stays_through c (d ∷ ds) f through = stays_through (after c d) ds f through.2 ∙ stays_after c d f through.0 through.1

some_tenant : (s : Option Tenant) → is_some s ≡ true → (t : Tenant) × (s ≡ Some t)
some_tenant None some = absurd (false≢true some)
some_tenant (Some t) some = (t, refl)

-- what a frame is taken by is changed, and changed back
pub changed_back : (c : Core) (f : ℕ) (g h : Tenant → Tenant) → ((t : Tenant) → h (g t) ≡ t) → is_some (seat_of c f) ≡ true → with_tenant (with_tenant c f g) f h ≡ c
changed_back c f g h back some =
    let was = some_tenant (seat_of c f) some in
    let here : seat_of c f ≡ Some was.0 = was.1 in
    elim (cases_lt f (length c.seats)) [
      | inl below ↦
          let now : option_map h (seat_of (with_tenant c f g) f) ≡ seat_of c f =
          ap (option_map h) (get_or-set_same c.seats f (option_map g (seat_of c f)) None below ∙ ap (option_map g) here) ∙ ap Some (back was.0) ∙ sym here in
          ap (λ (ss : List (Option Tenant)). record c { seats = ss })
          (ap (set (set c.seats f (option_map g (seat_of c f))) f) now ∙ set-set c.seats f (option_map g (seat_of c f)) (seat_of c f) ∙ set-get_or c.seats f None)
      | inr past ↦ let no : None ≡ Some was.0 = sym (get_or_past c.seats f None past) ∙ here in absurd cc
    ]

pub hold_spent : (c : Core) (f : ℕ) → is_some (seat_of c f) ≡ true → after (after c (Holds f)) (Releases f) ≡ c
hold_spent c f some = changed_back c f (λ t. record t { holds = t.holds + 1 }) (λ t. record t { holds = t.holds - 1 })
    (λ t. ap (λ (n : ℕ). record t { holds = n }) (let same : t.holds + 1 - 1 ≡ t.holds = omega arith in same)) some

pub pin_taken_away : (c : Core) (f : ℕ) → is_some (seat_of c f) ≡ true → after (after c (Pins f)) (Unpins f) ≡ c
pin_taken_away c f some = changed_back c f (λ t. record t { pins = t.pins + 1 }) (λ t. record t { pins = t.pins - 1 })
    (λ t. ap (λ (n : ℕ). record t { pins = n }) (let same : t.pins + 1 - 1 ≡ t.pins = omega arith in same)) some
