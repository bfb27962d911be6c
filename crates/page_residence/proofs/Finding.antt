-- The frame of a home, and a page found in it.
use Rattle.std.proofs.Common.{◌≡◌, ℕ, zero, suc, ◌+◌, ◌<◌, ◌≤◌, inl, inr, List, [], ◌∷◌, length, count_by, Option, None, Some, is_some, IsSome, MatchOption, Bool, true, false, cond, refl, sym, ◌∙◌, ap, subst, arith, set}
use Rattle.std.specs.Prelude.{is_none}
use Rattle.std.proofs.lemmas.Bool.{cases_eq, cases_lt, false≢true}
use Rattle.std.proofs.lemmas.List.{get_or-set_same, get_or-set_other, length-set, set_past}
use Rattle.std.proofs.lemmas.List.Sums.{sum_by-cons}
use Rattle.word36.specs.Words.{IsWord}
use Rattle.outside.specs.Drums.{IsPage}
use Rattle.page_homes.specs.declared.homes.Home.{Home}
use Rattle.page_homes.specs.declared.homes.FrameId.{FrameId}
use Rattle.page_contracts.specs.declared.answers.Found.{Found}
use Rattle.frame_table.specs.declared.tenant.Tenant.{Tenant}
use Rattle.frame_table.specs.Core.{Core, IsAway, home_in}
use Rattle.drum_queue.specs.declared.transfer.Transfer.{Transfer}
use Rattle.drum_queue.specs.Transfers.{transfer_of}
use Rattle.page_residence.specs.Resident.{Seats, seat, frame_for, found_at, found_in, reads, IsSingle}
use Rattle.page_residence.proofs.Seating.{frame_is, frame_none, none_has}
use Rattle.page_residence.proofs.Steps.{home_in_at, at_home_in}

-- a home without a frame is in none
pub away_is : (c : Core) (h : Home) → frame_for c.seats h.0 ≡ None → IsAway c h
away_is c h none f is = none_has c.seats h.0 none f (home_in_at c f h is)

-- the frame that is looked up is the one that is given to the home
pub frame_found : (c : Core) (h : Home) (o : Option FrameId) → IsSingle c.seats → MatchOption o (IsAway c h) (λ f. home_in c f.0 ≡ Some h)
    → MatchOption o (frame_for c.seats h.0 ≡ None) (λ f. frame_for c.seats h.0 ≡ Some f.0)
frame_found c h None single away = frame_none c.seats h.0 (λ f has. away f (at_home_in c f h has))
frame_found c h (Some f) single at = frame_is c.seats h.0 f.0 single (home_in_at c f.0 h at)

module _ (seats : Seats) (queue : List Transfer) (h : ℕ) where
  pub found_is : (o : Option ℕ) → frame_for seats h ≡ o → found_at seats queue h ≡ found_in queue o
  unfolding found_at
  found_is o is = ap (found_in queue) is

  pub found_none : frame_for seats h ≡ None → None ≡ found_at seats queue h
  found_none is = sym (found_is None is)

  pub found_reading : (f : ℕ) → frame_for seats h ≡ Some f → reads (transfer_of f queue) ≡ true → None ≡ found_at seats queue h
  found_reading f is r = sym (found_is (Some f) is ∙ ap (λ (b : Bool). cond b None (Some (let x : Found = record { 0 = f } in x))) r)

  pub found_there : (f : ℕ) → frame_for seats h ≡ Some f → reads (transfer_of f queue) ≡ false → Some (let x : Found = record { 0 = f } in x) ≡ found_at seats queue h
  found_there f is r = sym (found_is (Some f) is ∙ ap (λ (b : Bool). cond b None (Some (let x : Found = record { 0 = f } in x))) r)

-- a page that has a frame and isn't found is still to be read
pub found_reading_only : (seats : Seats) (queue : List Transfer) (h f : ℕ) → frame_for seats h ≡ Some f → None ≡ found_at seats queue h → reads (transfer_of f queue) ≡ true
found_reading_only seats queue h f is none = at (reads (transfer_of f queue)) refl
  where
    at : (b : Bool) → reads (transfer_of f queue) ≡ b → b ≡ true
    at true e = refl
    at false e = absurd (let no : Some (let x : Found = record { 0 = f } in x) ≡ None = found_there seats queue h f is e ∙ sym none in cc)

-- no frame is free where each is taken
pub none_vacant : (seats : Seats) → ((f : ℕ) → f < length seats → is_some (seat seats f) ≡ true) → count_by is_none seats ≡ 0
none_vacant [] all = refl
none_vacant (s ∷ seats) all =
    sum_by-cons (λ (o : Option Tenant). cond (is_none o) 1 0) s seats
    ∙ (let rest = none_vacant seats (λ f below. all (suc f) (omega arith)) in
    let own = here s (all 0 (omega arith)) in
    omega (arith, rest, own))
  where
    here : (o : Option Tenant) → is_some o ≡ true → cond {A = ℕ} (is_none o) 1 0 ≡ 0
    here None some = absurd (false≢true some)
    here (Some t) some = refl

-- a page whose word at an offset has changed
pub page_set : (ws : List ℕ) (at w : ℕ) → IsPage ws → IsWord w → IsPage (set ws at w)
page_set ws at w page small = record {
  size = length-set ws at w ∙ page.size;
  small = λ i. elim (cases_lt at (length ws)) [
    | inl below ↦ elim (cases_eq i at) [
      | inl e ↦ subst IsWord (sym (ap (λ (k : ℕ). Rattle.std.proofs.Common.get_or (set ws at w) k 0) e ∙ get_or-set_same ws at w 0 below)) small
      | inr other ↦ subst IsWord (sym (get_or-set_other ws at i w 0 other)) (page.small i)
    ]
    | inr past ↦ subst (λ (vs : List ℕ). IsWord (Rattle.std.proofs.Common.get_or vs i 0)) (sym (set_past ws at w past)) (page.small i)
  ];
}
