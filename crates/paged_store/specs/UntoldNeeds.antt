-- Needs by number.
use Rattle.std.specs.Prelude.{◌≡◌, ℕ, ◌+◌, ◌<◌, ◌==◌, List, length, map, Bool, false, if◌then◌else◌, slice_index_or}
use Rattle.frame_order.specs.FrameOrder.{Order, IsOrder, stands_in}
use Rattle.page_contracts.specs.declared.answers.Need.{Need}
use Rattle.page_contracts.specs.declared.answers.Need.TheVariants.{Page, Frame}

-- what is to be told of so many homes
pub record Needs : Type 0 where
  pub homes : ℕ
  pub needs : List Need

-- the need with a number
abbrev pub need_at : ℕ → ℕ → Need
need_at homes n = if n == homes then Frame else Page (record { 0 = n })

-- the number of a need
abbrev pub number_of : ℕ → Need → ℕ
number_of homes (Page home) = home.0
number_of homes Frame = homes

abbrev pub needs_view : ℕ → Order → Needs
needs_view homes o = record { homes = homes; needs = map (need_at homes) o.order }

-- a page that is needed is that of one of so many homes
abbrev pub IsBelow : ℕ → Need → Type 0
IsBelow homes (Page home) = home.0 < homes
IsBelow homes Frame = Unit {0}

-- it is known which numbers are in the order
pub record AreNoted (o : Order) (noted : List Bool) (homes : ℕ) : Type 0 where
  pub room : o.frames ≡ homes + 1
  pub size : length noted ≡ homes + 1
  pub order : IsOrder o
  pub each : (n : ℕ) → slice_index_or noted n false ≡ stands_in n o.order
