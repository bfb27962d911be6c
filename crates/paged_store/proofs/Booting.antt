-- What a store keeps at the beginning.
use Rattle.std.proofs.Common.{◌≡◌, arith, ℕ, zero, suc, ◌≤◌, List, [], length, replicate, None, Some, false, refl, sym, ◌∙◌, ap, subst, get_or}
use Rattle.std.specs.Option.{option_map}
use Rattle.std.proofs.lemmas.Bool.{false≢true}
use Rattle.std.proofs.lemmas.List.{length-replicate}
use Rattle.page_contracts.specs.declared.store.TheConstants.{MOST_HOLDERS}
use Rattle.page_homes.specs.declared.homes.TheConstants.{MOST_HOMES}
use Rattle.paged_store.specs.HeldHomes.{held_by, no_holds}
use Rattle.paged_store.specs.Keeping.{IsKept, is_among, is_distinct}
use Rattle.page_residence.specs.Resident.{seat, home_at}

none_held : (n k : ℕ) → get_or {A = List ℕ} (replicate n []) k [] ≡ []
none_held zero k = refl
none_held (suc n) zero = refl
none_held (suc n) (suc k) = none_held n k

pub nothing_held : (k : ℕ) → held_by no_holds k ≡ []
unfolding no_holds
nothing_held k = none_held 64 k

room_of_none : length no_holds ≡ MOST_HOLDERS
unfolding no_holds
room_of_none = refl

none_seat : (n f : ℕ) → seat (replicate n None) f ≡ None
none_seat zero f = refl
none_seat (suc n) zero = refl
none_seat (suc n) (suc f) = none_seat n f

none_home : (n f h : ℕ) → home_at (replicate n None) f ≡ Some h → ⊥
none_home n f h has = let no : None ≡ Some h = sym (ap (option_map (λ t. t.home.0)) (none_seat n f)) ∙ has in cc

pub kept_none : (frames pages : ℕ) → pages ≤ MOST_HOMES → IsKept (replicate frames None) [] (replicate pages false) no_holds (record { homes = pages; needs = [] })
kept_none frames pages few = record {
  few = subst (λ (n : ℕ). n ≤ MOST_HOMES) (sym (length-replicate pages false)) few;
  room = room_of_none;
  homes = sym (length-replicate pages false);
  framed = λ f h has. absurd (none_home frames f h has);
  held = λ k h among. absurd (false≢true (sym (ap (is_among h) (nothing_held k)) ∙ among));
  once = λ k. ap is_distinct (nothing_held k);
  few_held = λ k. (let none = ap (λ (hs : List ℕ). length hs) (nothing_held k) in omega (arith, none));
  none_held = λ k past apart. nothing_held k;
  pinned = λ f h has. absurd (none_home frames f h has);
}
