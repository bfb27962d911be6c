-- A unit of a fork as it comes out, and units in a row.
use Rattle.std.specs.Prelude.{ℕ, zero, suc, Option, None, Some}
use Rattle.std.specs.Option.{option_and_then}
use Rattle.std.specs.declared.cmp.Ordering.{Ordering}
use Rattle.machine_names.specs.declared.names.ForkName.{ForkName}
use Rattle.plain_units.specs.declared.registers.Regs.{Regs}
use Rattle.plain_pages.specs.PlainPages.{PlainPages}
use Rattle.plain_units.specs.Steps.{Planned, done, stopped, call, pages_left}
use Rattle.plain_units.specs.Units.{unit_on}

-- what a unit leaves that goes through: the pages, the registers, and a channel that it posts
pub record After {K : Type 0} (file_cmp : K → K → Ordering) : Type 0 where
  pub pages : PlainPages file_cmp
  pub regs : Regs
  pub post : Option ℕ

module _ {K : Type 0} {file_cmp : K → K → Ordering} where
  -- what a unit leaves, if it goes through
  abbrev pub went_through : ForkName → Planned file_cmp ⊥ → Option (After file_cmp)
  went_through f (done t e) = Some (record { pages = pages_left f t e; regs = e.regs; post = e.post })
  went_through f (stopped why) = None
  went_through f (call number) = None

  unfoldable pub once : ForkName → PlainPages file_cmp → Regs → Option (After file_cmp)
  once f p regs = went_through f (unit_on f p regs)

  -- the same, where it posts nothing
  abbrev pub unless_posted : After file_cmp → Option (After file_cmp)
  unless_posted a = unposted a.post
    where
      unposted : Option ℕ → Option (After file_cmp)
      unposted None = Some a
      unposted (Some channel) = None

  -- what so many units in a row leave, if each goes through and posts nothing
  unfoldable pub in_a_row : ForkName → ℕ → PlainPages file_cmp → Regs → Option (After file_cmp)
  in_a_row f zero p regs = Some (record { pages = p; regs = regs; post = None })
  in_a_row f (suc n) p regs = option_and_then (λ a. option_and_then unless_posted (once f a.pages a.regs)) (in_a_row f n p regs)
