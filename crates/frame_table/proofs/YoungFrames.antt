-- A use makes a frame the youngest.
use Rattle.std.proofs.Common.{◌≡◌, ℕ, ◌<◌, ◌&&◌, inl, inr, length, not, Option, None, Some, is_some, IsSome, Bool, true, false, cond, refl, sym, ◌∙◌, ap, subst, arith, set}
use Rattle.std.specs.Option.{option_map, option_map_or}
use Rattle.std.proofs.lemmas.Bool.{cases_lt, false≢true}
use Rattle.std.proofs.lemmas.List.{get_or-set_same, get_or-set_other, get_or_past}
use Rattle.page_homes.specs.declared.homes.Home.{Home}
use Rattle.frame_table.specs.declared.tenant.Tenant.{Tenant}
use Rattle.frame_table.specs.Ages.{OthersKeepAges, RenewsAge}
use Rattle.frame_table.specs.Core.{Core, IsCore, IsVictim, LAST_USE, can_go, is_held, is_kept, new_tenant, next_use, seat_of, used, with_page, with_tenant}

abbrev age_in : Option Tenant → ℕ
age_in o = option_map_or (λ t. t.age) o 0

taken_is : (o : Option Tenant) → is_some o ≡ true → (t : Tenant) × (o ≡ Some t)
taken_is None some = absurd (false≢true some)
taken_is (Some t) some = (t, refl)

-- where one seat alone changes, the other frames keep their ages
pub others_keep : (c : Core) (f uses : ℕ) (s : Option Tenant) → OthersKeepAges c (record c { seats = set c.seats f s; uses = uses }) f
others_keep c f uses s g other = ap age_in (get_or-set_other c.seats f g s None other)

-- a seat whose age is that of the next use makes its frame the youngest
seated_last : (c : Core) (f : ℕ) (t : Tenant) → IsCore c → c.uses < LAST_USE → f < length c.seats → t.age ≡ c.uses
    → RenewsAge c (record c { seats = set c.seats f (Some t); uses = next_use c.uses }) f
seated_last c f t is before below last = (
  λ g other some.
      let stays = get_or-set_other c.seats f g (Some t) None other in
      let was = taken_is (seat_of c g) (sym (ap is_some stays) ∙ some) in
      omega (arith, ap age_in stays, ap age_in was.1, is.aged g was.0 was.1 before, ap age_in (get_or-set_same c.seats f (Some t) None below), last),
  others_keep c f (next_use c.uses) (Some t),
)

pub page_comes : (c : Core) (f : ℕ) (h : Home) → IsCore c → c.uses < LAST_USE → f < length c.seats → RenewsAge c (with_page c f h) f
page_comes c f h is before below = seated_last c f (new_tenant h c.uses) is before below refl

taken_below : (c : Core) (f : ℕ) (t : Tenant) → seat_of c f ≡ Some t → f < length c.seats
taken_below c f t at = elim (cases_lt f (length c.seats)) [
  | inl below ↦ below
  | inr past ↦ let gone : None ≡ Some t = sym (get_or_past c.seats f None past) ∙ at in absurd (cc gone)
]

pub frame_used : (c : Core) (f : ℕ) → IsCore c → c.uses < LAST_USE → IsSome (seat_of c f) → RenewsAge c (used c f) f
frame_used c f is before some =
    let was = taken_is (seat_of c f) some in
    let renewed : Tenant = record was.0 { age = c.uses } in
    let renew : Tenant → Tenant = λ t. record t { age = c.uses } in
    let done : used c f ≡ record c { seats = set c.seats f (Some renewed); uses = next_use c.uses } =
    ap (λ (b : Bool). cond b (record (with_tenant c f renew) { uses = next_use c.uses }) c) some
    ∙ ap (λ (o : Option Tenant). record c { seats = set c.seats f (option_map renew o); uses = next_use c.uses }) was.1 in
    subst (λ (q : Core). RenewsAge c q f) (sym done) (seated_last c f renewed is before (taken_below c f was.0 was.1) refl)

goer_taken : (o : Option Tenant) → option_map_or can_go o false ≡ true → is_some o ≡ true
goer_taken None may = absurd (false≢true may)
goer_taken (Some t) may = refl

let_go : (a b : Bool) → (not a && b) ≡ true → a ≡ false
let_go true b may = absurd (false≢true may)
let_go false b may = refl

goer_let_go : (o : Option Tenant) → option_map_or can_go o false ≡ true → option_map_or is_kept o false ≡ false
goer_let_go None may = refl
goer_let_go (Some t) may = let_go (is_kept t) (not t.in_transfer) may

pub victim_taken : (c : Core) (f : ℕ) → IsVictim c f → is_some (seat_of c f) ≡ true
victim_taken c f is = goer_taken (seat_of c f) is.leaves

pub victim_let_go : (c : Core) (f : ℕ) → IsVictim c f → is_held c f ≡ false
victim_let_go c f is = goer_let_go (seat_of c f) is.leaves
