-- Ages are numbers of earlier uses.
use Rattle.std.proofs.Common.{◌≡◌, ◌≢◌, ℕ, suc, ◌+◌, ◌<◌, ◌≤◌, inl, inr, List, length, replicate, Option, None, Some, is_some, Bool, true, false, cond, refl, sym, ◌∙◌, ap, subst, arith, get_or}
use Rattle.std.specs.Option.{option_map}
use Rattle.std.specs.Prelude.{nat_lt}
use Rattle.std.proofs.lemmas.Bool.{cases_eq, cases_lt, false≢true}
use Rattle.std.proofs.lemmas.Bool.Decides.{leb_tells}
use Rattle.std.proofs.lemmas.List.{get_or_past}
use Rattle.page_homes.specs.declared.homes.Home.{Home}
use Rattle.page_contracts.specs.Stores.{LAST_USE, next_use}
use Rattle.frame_table.specs.declared.tenant.Tenant.{Tenant}
use Rattle.frame_table.specs.Core.{Core, IsCore, used, with_page, with_tenant, with_words, without_page}
use Rattle.page_residence.specs.Resident.{AreAged, IsRenewed, Seats, age_in, seat}
use Rattle.page_residence.proofs.Renewing.{given_renews, used_renews}
use Rattle.page_residence.proofs.Seating.{seat_other, seat_same}

-- the number of a use is followed by the next, but the last
next_after : (n : ℕ) → n ≤ LAST_USE → (n ≤ next_use n) × (next_use n ≤ LAST_USE) × (next_use n < LAST_USE → n < next_use n)
next_after n most = elim (leb_tells (suc n) LAST_USE) [
  | inl t ↦ (let less = t.1 in let is : next_use n ≡ n + 1 = ap (λ (b : Bool). cond b (n + 1) n) t.0 in (omega (arith, is), omega (arith, is, less), λ before. omega (arith, is)))
  | inr t ↦ (let past = t.1 in let is : next_use n ≡ n = ap (λ (b : Bool). cond b (n + 1) n) t.0 in (omega (arith, is), omega (arith, is, most), λ before. absurd (omega (arith, is, past, before))))
]

-- ages and their number stay
same_aged : (c d : Core) → ((f : ℕ) → is_some (seat d.seats f) ≡ true → is_some (seat c.seats f) ≡ true) → ((f : ℕ) → is_some (seat d.seats f) ≡ true → age_in (seat d.seats f) ≡ age_in (seat c.seats f)) → d.uses ≡ c.uses → AreAged c → AreAged d
same_aged c d some ages uses aged = record {
  numbered = omega (arith, uses, aged.numbered);
  each = λ f there. (let own = aged.each f (some f there) in let same = ages f there in (omega (arith, own.0, uses, same), λ before. (let less = own.1 (omega (arith, before, uses)) in omega (arith, less, uses, same))));
}

-- one frame was used, or given to a page
renewed_aged : (c d : Core) (f : ℕ) → ((g : ℕ) → g ≢ f → is_some (seat d.seats g) ≡ true → is_some (seat c.seats g) ≡ true) → IsRenewed f c.seats d.seats c.uses d.uses → AreAged c → AreAged d
renewed_aged c d f some renewed aged = record { numbered = most (is_some (seat d.seats f)) refl; each = each }
  where
    step : (b : Bool) → is_some (seat d.seats f) ≡ b → (c.uses ≤ d.uses) × (d.uses ≤ LAST_USE) × (d.uses < LAST_USE → c.uses < LAST_USE)
    step true is =
        let next = (renewed.own is).1 in
        let after = next_after c.uses aged.numbered in
        (omega (arith, next, after.0), omega (arith, next, after.1), λ before. omega (arith, next, after.0, before))
    step false is = (let same = renewed.none is in (omega (arith, same), omega (arith, same, aged.numbered), λ before. omega (arith, same, before)))

    most : (b : Bool) → is_some (seat d.seats f) ≡ b → d.uses ≤ LAST_USE
    most b is = (step b is).1

    each : (g : ℕ) → is_some (seat d.seats g) ≡ true → (age_in (seat d.seats g) ≤ d.uses) × (d.uses < LAST_USE → age_in (seat d.seats g) < d.uses)
    each g there = elim (cases_eq g f) [
      | inl e ↦
          let own = renewed.own (subst (λ (k : ℕ). is_some (seat d.seats k) ≡ true) e there) in
          let after = next_after c.uses aged.numbered in
          let age : age_in (seat d.seats g) ≡ c.uses = ap (λ (k : ℕ). age_in (seat d.seats k)) e ∙ own.0 in
          let next = own.1 in
          (omega (arith, age, next, after.0), λ before. (let less = after.2 (omega (arith, next, before)) in omega (arith, age, next, less)))
      | inr ne ↦
          let own = aged.each g (some g ne there) in
          let age = renewed.others g ne in
          let up = step (is_some (seat d.seats f)) refl in
          (omega (arith, own.0, age, up.0), λ before. (let less = own.1 (up.2 before) in omega (arith, less, age, up.0)))
    ]

some_kept : (s : Option Tenant) (g : Tenant → Tenant) → is_some (option_map g s) ≡ is_some s
some_kept None g = refl
some_kept (Some t) g = refl

age_kept : (s : Option Tenant) (g : Tenant → Tenant) → ((t : Tenant) → (g t).age ≡ t.age) → age_in (option_map g s) ≡ age_in s
age_kept None g same = refl
age_kept (Some t) g same = same t

-- what a seat is once another was put in its place, or there is none
set_seat : (seats : Seats) (f g : ℕ) (s : Option Tenant) → is_some (seat (Rattle.std.proofs.Common.set seats f s) g) ≡ true → g ≢ f → is_some (seat seats g) ≡ true
set_seat seats f g s there ne = ap is_some (sym (seat_other seats f g s ne)) ∙ there

pub tenant_aged : (c : Core) (f : ℕ) (g : Tenant → Tenant) → f < length c.seats → ((t : Tenant) → (g t).age ≡ t.age) → AreAged c → AreAged (with_tenant c f g)
tenant_aged c f g below same aged = same_aged c (with_tenant c f g)
    (λ k there. elim (cases_eq k f) [
      | inl e ↦ ap (λ (j : ℕ). is_some (seat c.seats j)) e ∙ sym (some_kept (seat c.seats f) g) ∙ sym (ap is_some (ap (seat (with_tenant c f g).seats) e ∙ seat_same c.seats f (option_map g (seat c.seats f)) below)) ∙ there
      | inr ne ↦ set_seat c.seats f k (option_map g (seat c.seats f)) there ne
    ])
    (λ k there. elim (cases_eq k f) [
      | inl e ↦ ap age_in (ap (seat (with_tenant c f g).seats) e ∙ seat_same c.seats f (option_map g (seat c.seats f)) below) ∙ age_kept (seat c.seats f) g same ∙ ap (λ (j : ℕ). age_in (seat c.seats j)) (sym e)
      | inr ne ↦ ap age_in (seat_other c.seats f k (option_map g (seat c.seats f)) ne)
    ]) refl aged

pub words_aged : (c : Core) (f : ℕ) (ws : List ℕ) → AreAged c → AreAged (with_words c f ws)
words_aged c f ws aged = record { numbered = aged.numbered; each = aged.each }

pub free_aged : (c : Core) (f : ℕ) → f < length c.seats → AreAged c → AreAged (without_page c f)
free_aged c f below aged = same_aged c (without_page c f) (λ k there. set_seat c.seats f k None there (apart k there)) (λ k there. ap age_in (seat_other c.seats f k None (apart k there))) refl aged
  where
    apart : (k : ℕ) → is_some (seat (without_page c f).seats k) ≡ true → k ≢ f
    apart k there e = false≢true (sym (ap is_some (ap (seat (without_page c f).seats) e ∙ seat_same c.seats f None below)) ∙ there)

pub page_aged : (c : Core) (f : ℕ) (h : Home) → IsCore c → f < length c.seats → AreAged c → AreAged (with_page c f h)
page_aged c f h is below aged = renewed_aged c (with_page c f h) f (λ g ne there. set_seat c.seats f g _ there ne) (given_renews c f h is below) aged

pub used_aged : (c : Core) (f : ℕ) → IsCore c → AreAged c → AreAged (used c f)
used_aged c f is aged = renewed_aged c (used c f) f (λ g ne there. at (is_some (seat c.seats f)) refl g ne there) (used_renews c f is) aged
  where
    at : (b : Bool) → is_some (seat c.seats f) ≡ b → (g : ℕ) → g ≢ f → is_some (seat (cond b (record (with_tenant c f (λ t. record t { age = c.uses })) { uses = Rattle.frame_table.specs.Core.next_use c.uses }) c).seats g) ≡ true → is_some (seat c.seats g) ≡ true
    at true is g ne there = set_seat c.seats f g _ there ne
    at false is g ne there = there

-- no frame has a page
pub none_aged : (n : ℕ) (words : List (List ℕ)) → AreAged (record { seats = replicate n None; words = words; uses = 0 })
none_aged n words = record { numbered = omega arith; each = λ f there. absurd (false≢true (sym (none n f) ∙ there)) }
  where
    none : (n f : ℕ) → is_some (seat (replicate n None) f) ≡ false
    none Rattle.std.proofs.Common.zero f = refl
    none (suc n) Rattle.std.proofs.Common.zero = refl
    none (suc n) (suc f) = none n f
