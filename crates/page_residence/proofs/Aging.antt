-- Homes and ages of frames whose words have been read, or are still to be.
use Rattle.std.proofs.Common.{◌≡◌, ℕ, List, Option, None, Some, is_some, Bool, true, false, cond, refl, ap}
use Rattle.std.specs.Option.{option_map}
use Rattle.std.proofs.lemmas.Bool.{false≢true}
use Rattle.frame_table.specs.declared.tenant.Tenant.{Tenant}
use Rattle.drum_queue.specs.declared.transfer.Transfer.{Transfer}
use Rattle.drum_queue.specs.Transfers.{transfer_of}
use Rattle.page_residence.specs.Resident.{Seats, seat, home_at, age_in, age_at, tenant_at, reads}

module _ (seats : Seats) (queue : List Transfer) (f : ℕ) where
  -- words that have been read
  pub tenant_shown : reads (transfer_of f queue) ≡ false → tenant_at seats queue f ≡ home_at seats f
  unfolding tenant_at
  tenant_shown read = ap (λ (b : Bool). cond b None (home_at seats f)) read

  pub age_shown : reads (transfer_of f queue) ≡ false → age_at seats queue f ≡ age_in (seat seats f)
  unfolding age_at
  age_shown read = ap (λ (b : Bool). cond b 0 (age_in (seat seats f))) read

  -- words that are still to be read
  pub tenant_hidden : reads (transfer_of f queue) ≡ true → tenant_at seats queue f ≡ None
  unfolding tenant_at
  tenant_hidden read = ap (λ (b : Bool). cond b None (home_at seats f)) read

  pub age_hidden : reads (transfer_of f queue) ≡ true → age_at seats queue f ≡ 0
  unfolding age_at
  age_hidden read = ap (λ (b : Bool). cond b 0 (age_in (seat seats f))) read

  -- a frame with a page has read its words
  pub tenant_given : (h : ℕ) → tenant_at seats queue f ≡ Some h → (home_at seats f ≡ Some h) × (reads (transfer_of f queue) ≡ false)
  unfolding tenant_at
  tenant_given h is = at (reads (transfer_of f queue)) refl is
    where
      at : (b : Bool) → reads (transfer_of f queue) ≡ b → cond b None (home_at seats f) ≡ Some h → (home_at seats f ≡ Some h) × (reads (transfer_of f queue) ≡ false)
      at true e has = absurd cc
      at false e has = (has, e)

  pub tenant_some : is_some (tenant_at seats queue f) ≡ true → (is_some (seat seats f) ≡ true) × (reads (transfer_of f queue) ≡ false)
  unfolding tenant_at
  tenant_some some = at (reads (transfer_of f queue)) refl some
    where
      taken : (o : Option Tenant) → is_some (option_map (λ t. t.home.0) o) ≡ true → is_some o ≡ true
      taken None e = absurd (false≢true e)
      taken (Some t) e = refl

      at : (b : Bool) → reads (transfer_of f queue) ≡ b → is_some (cond b None (home_at seats f)) ≡ true → (is_some (seat seats f) ≡ true) × (reads (transfer_of f queue) ≡ false)
      at true e has = absurd (false≢true has)
      at false e has = (taken (seat seats f) has, e)

  -- a free frame
  pub tenant_none : seat seats f ≡ None → tenant_at seats queue f ≡ None
  unfolding tenant_at
  tenant_none none = at (reads (transfer_of f queue))
    where
      at : (b : Bool) → cond b None (home_at seats f) ≡ None
      at true = refl
      at false = ap (option_map (λ t. t.home.0)) none

  pub age_none : seat seats f ≡ None → age_at seats queue f ≡ 0
  unfolding age_at
  age_none none = at (reads (transfer_of f queue))
    where
      at : (b : Bool) → cond b 0 (age_in (seat seats f)) ≡ 0
      at true = refl
      at false = ap age_in none
