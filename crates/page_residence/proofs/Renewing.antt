-- What a use, a page that comes and a page that goes make of the ages of frames.
use Rattle.std.proofs.Common.{◌≡◌, ◌≢◌, ℕ, suc, ◌+◌, ◌<◌, ◌≤◌, inl, inr, List, length, Option, None, Some, is_some, Bool, true, false, cond, refl, sym, ◌∙◌, ap, subst, arith, set}
use Rattle.std.specs.Option.{option_map}
use Rattle.std.specs.Prelude.{nat_lt}
use Rattle.std.proofs.Math.Nat.{min-eq_left, min-eq_right}
use Rattle.std.proofs.Math.Path.{fun_ext}
use Rattle.std.proofs.lemmas.Bool.Decides.{leb_tells}
use Rattle.std.proofs.lemmas.Bool.{cases_eq, cases_lt, false≢true, eq-eqb, ne_eqb}
use Rattle.page_homes.specs.declared.homes.Home.{Home}
use Rattle.page_contracts.specs.Stores as meaning
use Rattle.page_contracts.specs.Stores.{Renews, KeepsAges, tenant_left}
use Rattle.frame_table.specs.declared.tenant.Tenant.{Tenant}
use Rattle.frame_table.specs.Core.{Core, IsCore, LAST_USE, new_tenant, next_use, seat_of, used, with_page, with_tenant}
use Rattle.drum_queue.specs.declared.transfer.Transfer.{Transfer}
use Rattle.drum_queue.specs.Transfers.{transfer_of}
use Rattle.page_residence.specs.Resident.{Seats, seat, home_at, age_in, age_at, tenant_at, frame_for, reads, AgesStay, IsRenewed, IsSingle, IsGivenTo, IsTakenFrom}
use Rattle.page_residence.proofs.Seating.{home_below, none_has, seat_same, seat_other}
use Rattle.page_residence.proofs.Aging.{tenant_shown, tenant_hidden, tenant_given, tenant_some, tenant_none, age_shown, age_hidden, age_none}
use Rattle.page_residence.proofs.Steps.{aged, marked, home_taken}

pub ages_same : (seats : Seats) → AgesStay seats seats
ages_same seats f = refl

-- a tenant changes, but not its age
pub tenant_ages : (seats : Seats) (f : ℕ) (g : Tenant → Tenant) → f < length seats → ((t : Tenant) → (g t).age ≡ t.age) → AgesStay seats (set seats f (option_map g (seat seats f)))
tenant_ages seats f g below age k = elim (cases_eq k f) [
  | inl e ↦ ap age_in (ap (seat (set seats f (option_map g (seat seats f)))) e ∙ seat_same seats f (option_map g (seat seats f)) below) ∙ alike (seat seats f) ∙ ap (λ (n : ℕ). age_in (seat seats n)) (sym e)
  | inr other ↦ ap age_in (seat_other seats f k (option_map g (seat seats f)) other)
]
  where
    alike : (s : Option Tenant) → age_in (option_map g s) ≡ age_in s
    alike None = refl
    alike (Some t) = age t

pub marked_ages : (c : Core) (f : ℕ) (on : Bool) → f < length c.seats → AgesStay c.seats (with_tenant c f (marked on)).seats
marked_ages c f on below = tenant_ages c.seats f (marked on) below (λ t. refl)

-- the number of the next use, as the clauses have it
pub next_shown : (c : Core) → IsCore c → next_use c.uses ≡ meaning.next_use c.uses
next_shown c is = elim (leb_tells (suc c.uses) LAST_USE) [
  | inl t ↦ (let less = t.1 in let small : next_use c.uses ≡ c.uses + 1 = min-eq_left (omega (arith, less)) in small ∙ sym (ap (λ (b : Bool). cond b (c.uses + 1) c.uses) t.0))
  | inr t ↦ (let past = t.1 in let last : next_use c.uses ≡ LAST_USE = min-eq_right (omega (arith, past)) in last ∙ omega (arith, past, is.numbered) ∙ sym (ap (λ (b : Bool). cond b (c.uses + 1) c.uses) t.0))
]

-- it is no smaller one
pub next_grows : (n : ℕ) → n ≤ meaning.next_use n
next_grows n = by (nat_lt n LAST_USE)
  where
    by : (b : Bool) → n ≤ cond b (n + 1) n
    by true = omega arith
    by false = omega arith

-- a frame is used
pub used_renews : (c : Core) (f : ℕ) → IsCore c → IsRenewed f c.seats (used c f).seats c.uses (used c f).uses
used_renews c f is = at (is_some (seat_of c f)) refl
  where
    renewed : Core
    renewed = record (with_tenant c f (λ t. record t { age = c.uses })) { uses = next_use c.uses }

    aged_to : (s : Option Tenant) → is_some s ≡ true → age_in (option_map (aged c.uses) s) ≡ c.uses
    aged_to None some = absurd (false≢true some)
    aged_to (Some t) some = refl

    kept_some : (s : Option Tenant) → is_some (option_map (aged c.uses) s) ≡ is_some s
    kept_some None = refl
    kept_some (Some t) = refl

    below : is_some (seat_of c f) ≡ true → f < length c.seats
    below some = let own = Rattle.page_residence.proofs.Steps.taken_home c.seats f some in home_below c.seats f own.0 own.1

    placed : is_some (seat_of c f) ≡ true → seat renewed.seats f ≡ option_map (aged c.uses) (seat c.seats f)
    placed some = seat_same c.seats f (option_map (aged c.uses) (seat c.seats f)) (below some)

    last : is_some (seat_of c f) ≡ true → age_in (seat renewed.seats f) ≡ c.uses
    last some = ap age_in (placed some) ∙ aged_to (seat c.seats f) some

    at : (b : Bool) → is_some (seat_of c f) ≡ b → IsRenewed f c.seats (cond b renewed c).seats c.uses (cond b renewed c).uses
    at false none = record { own = λ some. absurd (false≢true (sym none ∙ some)); none = λ away. refl; grows = omega arith; others = λ g ne. refl }
    at true some = record {
      own = λ now. (last some, next_shown c is);
      none = λ away. absurd (false≢true (sym away ∙ ap is_some (placed some) ∙ kept_some (seat c.seats f) ∙ some));
      grows = subst (λ (n : ℕ). c.uses ≤ n) (sym (next_shown c is)) (next_grows c.uses);
      others = λ g ne. ap age_in (seat_other c.seats f g (option_map (aged c.uses) (seat c.seats f)) ne);
    }

-- a frame is given to a page
pub given_renews : (c : Core) (f : ℕ) (h : Home) → IsCore c → f < length c.seats → IsRenewed f c.seats (with_page c f h).seats c.uses (with_page c f h).uses
given_renews c f h is below = record {
  own = λ now. (ap age_in (seat_same c.seats f (Some (new_tenant h c.uses)) below), next_shown c is);
  none = λ away. absurd (false≢true (sym away ∙ ap is_some (seat_same c.seats f (Some (new_tenant h c.uses)) below)));
  grows = subst (λ (n : ℕ). c.uses ≤ n) (sym (next_shown c is)) (next_grows c.uses);
  others = λ g ne. ap age_in (seat_other c.seats f g (Some (new_tenant h c.uses)) ne);
}

-- before and after it ages stay
pub renewed_after : (f uses uses' : ℕ) (a b c : Seats) → AgesStay a b → IsRenewed f b c uses uses' → IsRenewed f a c uses uses'
renewed_after f uses uses' a b c stay renewed = record { own = renewed.own; none = renewed.none; grows = renewed.grows; others = λ g ne. renewed.others g ne ∙ stay g }

pub renewed_before : (f uses uses' : ℕ) (a b c : Seats) → IsRenewed f a b uses uses' → AgesStay b c → ((g : ℕ) → home_at c g ≡ home_at b g) → IsRenewed f a c uses uses'
renewed_before f uses uses' a b c renewed stay homes = record {
  own = λ some. (let k = renewed.own (sym same ∙ some) in (stay f ∙ k.0, k.1));
  none = λ away. renewed.none (sym same ∙ away);
  grows = renewed.grows;
  others = λ g ne. stay g ∙ renewed.others g ne;
}
  where
    some_home : (o : Option Tenant) → is_some o ≡ is_some (option_map (λ t. t.home.0) o)
    some_home None = refl
    some_home (Some t) = refl

    same : is_some (seat c f) ≡ is_some (seat b f)
    same = some_home (seat c f) ∙ ap is_some (homes f) ∙ sym (some_home (seat b f))

left_other : (h : ℕ) (o : Option ℕ) → (o ≡ Some h → ⊥) → tenant_left h o ≡ o
left_other h None none = refl
left_other h (Some k) none = ap (λ (b : Bool). cond b None (Some k)) (ne_eqb k h (λ e. none (ap (λ (n : ℕ). let o : Option ℕ = Some n in o) e)))

-- what clauses see of one frame is the same where its seat and its words are
module _ (seats seats' : Seats) (queue queue' : List Transfer) where
  pub tenant_same : (g : ℕ) → home_at seats' g ≡ home_at seats g → reads (transfer_of g queue') ≡ reads (transfer_of g queue) → tenant_at seats' queue' g ≡ tenant_at seats queue g
  unfolding tenant_at
  tenant_same g homes read = ap (λ (b : Bool). cond b None (home_at seats' g)) read ∙ ap (λ (o : Option ℕ). cond (reads (transfer_of g queue)) None o) homes

  pub age_same : (g : ℕ) → age_in (seat seats' g) ≡ age_in (seat seats g) → reads (transfer_of g queue') ≡ reads (transfer_of g queue) → age_at seats' queue' g ≡ age_at seats queue g
  unfolding age_at
  age_same g ages read = ap (λ (b : Bool). cond b 0 (age_in (seat seats' g))) read ∙ ap (λ (n : ℕ). cond (reads (transfer_of g queue)) 0 n) ages

  pub tenants_alike : ((g : ℕ) → home_at seats' g ≡ home_at seats g) → ((g : ℕ) → reads (transfer_of g queue') ≡ reads (transfer_of g queue)) → tenant_at seats' queue' ≡ tenant_at seats queue
  tenants_alike homes read = fun_ext (λ g. tenant_same g (homes g) (read g))

  pub ages_alike : AgesStay seats seats' → ((g : ℕ) → reads (transfer_of g queue') ≡ reads (transfer_of g queue)) → age_at seats' queue' ≡ age_at seats queue
  ages_alike ages read = fun_ext (λ g. age_same g (ages g) (read g))

  module _ (f h : ℕ) (read : (g : ℕ) → g ≢ f → reads (transfer_of g queue') ≡ reads (transfer_of g queue)) where
    -- the page of a home was used, or came into its frame
    pub renews_at : (uses uses' : ℕ) → IsSingle seats' → home_at seats' f ≡ Some h → reads (transfer_of f queue') ≡ false → IsRenewed f seats seats' uses uses'
        → Renews h (tenant_at seats' queue') (age_at seats queue) (age_at seats' queue') uses uses'
    renews_at uses uses' single given own renewed =
        let now = renewed.own (home_taken seats' f h given) in
        record {
          counted = record {
            own = λ frame has.
                let there = tenant_given seats' queue' frame h has in
                let same : frame ≡ f = single frame f h there.0 given in
                (age_shown seats' queue' frame there.1 ∙ ap (λ (n : ℕ). age_in (seat seats' n)) same ∙ now.0, now.1);
            none = λ away. absurd (away f (tenant_shown seats' queue' f own ∙ given));
            grows = renewed.grows;
          };
          others = λ frame apart.
              let ne : frame ≢ f = λ e. apart (ap (tenant_at seats' queue') e ∙ tenant_shown seats' queue' f own ∙ given) in
              age_same frame (renewed.others frame ne) (read frame ne);
        }

    -- the page of a home left its frame
    module _ (from : IsTakenFrom h f seats seats') where
      left_free : seat seats' f ≡ None
      left_free = ap (λ (ss : Seats). seat ss f) from.seats ∙ seat_same seats f None (home_below seats f h from.had)

      left_others : (g : ℕ) → g ≢ f → seat seats' g ≡ seat seats g
      left_others g ne = ap (λ (ss : Seats). seat ss g) from.seats ∙ seat_other seats f g None ne

      pub keeps_at : KeepsAges h (tenant_at seats queue) (age_at seats queue) (age_at seats' queue')
      keeps_at frame apart = elim (cases_eq frame f) [
        | inl e ↦ ap (age_at seats' queue') e ∙ age_none seats' queue' f left_free ∙ sym (ap (age_at seats queue) e ∙ at (reads (transfer_of f queue)) refl (λ has. apart (ap (tenant_at seats queue) e ∙ has)))
        | inr ne ↦ age_same frame (ap age_in (left_others frame ne)) (read frame ne)
      ]
        where
          at : (b : Bool) → reads (transfer_of f queue) ≡ b → (tenant_at seats queue f ≡ Some h → ⊥) → age_at seats queue f ≡ 0
          at true e none = age_hidden seats queue f e
          at false e none = absurd (none (tenant_shown seats queue f e ∙ from.had))

      pub tenants_left : IsSingle seats → (frame : ℕ) → tenant_at seats' queue' frame ≡ tenant_left h (tenant_at seats queue frame)
      tenants_left single frame = elim (cases_eq frame f) [
        | inl e ↦ ap (tenant_at seats' queue') e ∙ tenant_none seats' queue' f left_free ∙ sym (ap (λ (n : ℕ). tenant_left h (tenant_at seats queue n)) e ∙ at (reads (transfer_of f queue)) refl)
        | inr ne ↦
            tenant_same frame (ap (option_map (λ t. t.home.0)) (left_others frame ne)) (read frame ne)
            ∙ sym (left_other h (tenant_at seats queue frame) (λ has. ne (single frame f h (tenant_given seats queue frame h has).0 from.had)))
      ]
        where
          at : (b : Bool) → reads (transfer_of f queue) ≡ b → tenant_left h (tenant_at seats queue f) ≡ None
          at true e = ap (tenant_left h) (tenant_hidden seats queue f e)
          at false e = ap (tenant_left h) (tenant_shown seats queue f e ∙ from.had) ∙ ap (λ (b : Bool). cond b None (Some h)) (eq-eqb h h refl)

    -- a free frame was given to a home
    module _ (given : IsGivenTo h f seats seats') where
      given_others : (g : ℕ) → g ≢ f → seat seats' g ≡ seat seats g
      given_others g ne = ap (λ (ss : Seats). seat ss g) given.seats ∙ seat_other seats f g (Some given.tenant) ne

      pub given_home : home_at seats' f ≡ Some h
      given_home = ap (λ (ss : Seats). home_at ss f) given.seats ∙ ap (option_map (λ t. t.home.0)) (seat_same seats f (Some given.tenant) given.below) ∙ ap (λ (n : ℕ). let o : Option ℕ = Some n in o) given.home

      pub tenants_made : reads (transfer_of f queue') ≡ false → (frame : ℕ) → (tenant_at seats' queue' frame ≡ Some h → ⊥) → tenant_at seats' queue' frame ≡ tenant_at seats queue frame
      tenants_made own frame apart = elim (cases_eq frame f) [
        | inl e ↦ absurd (apart (ap (tenant_at seats' queue') e ∙ tenant_shown seats' queue' f own ∙ given_home))
        | inr ne ↦ tenant_same frame (ap (option_map (λ t. t.home.0)) (given_others frame ne)) (read frame ne)
      ]

      pub ages_begun : (frame : ℕ) → is_some (tenant_at seats queue frame) ≡ true → age_at seats' queue' frame ≡ age_at seats queue frame
      ages_begun frame some = elim (cases_eq frame f) [
        | inl e ↦ absurd (false≢true (sym (ap is_some (ap (seat seats) e ∙ given.vacant)) ∙ (tenant_some seats queue frame some).0))
        | inr ne ↦ age_same frame (ap age_in (given_others frame ne)) (read frame ne)
      ]

      -- while it waits for the page it shows nothing
      pub tenants_begun : reads (transfer_of f queue') ≡ true → tenant_at seats' queue' ≡ tenant_at seats queue
      tenants_begun reading = fun_ext (λ frame. elim (cases_eq frame f) [
        | inl e ↦ ap (tenant_at seats' queue') e ∙ tenant_hidden seats' queue' f reading ∙ sym (ap (tenant_at seats queue) e ∙ tenant_none seats queue f given.vacant)
        | inr ne ↦ tenant_same frame (ap (option_map (λ t. t.home.0)) (given_others frame ne)) (read frame ne)
      ])

-- a home without a frame is given up
pub tenants_kept : (seats : Seats) (queue : List Transfer) (h frame : ℕ) → frame_for seats h ≡ None → tenant_at seats queue frame ≡ tenant_left h (tenant_at seats queue frame)
tenants_kept seats queue h frame gone = sym (left_other h (tenant_at seats queue frame) (λ has. none_has seats h gone frame (tenant_given seats queue frame h has).0))
