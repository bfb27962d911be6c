-- Room for pages, and the frames that they want.
use Rattle.std.proofs.Common.{◌≡◌, ℕ, ◌≤◌, List, true, false, None, Some, refl, arith}
use Rattle.std.proofs.lemmas.Bool.Decides.{nat_tests}
use Rattle.page_contracts.specs.Stores.{HomePlace, free, away, here, place, is_taken, is_here}
use Rattle.flat_tables.specs.SlotTables.{Tables}
use Rattle.flat_tables.specs.SlotTouches.{has_room}
use Rattle.page_contracts.specs.Stores.{away_at, away_home}

-- where there is room for some pages there is for one
pub room_less : (t : Tables) (n : ℕ) → 1 ≤ n → has_room t n ≡ true → has_room t 1 ≡ true
room_less t n some e = grind (arith, nat_tests, e, some)

-- a home that is taken is away, or its page is in a frame
pub away_not : (places : List HomePlace) (h : ℕ) → is_taken (place places h) ≡ true → is_here (place places h) ≡ false → away_at places h ≡ Some h
away_not places h = by (place places h)
  where
    by : (p : HomePlace) → is_taken p ≡ true → is_here p ≡ false → away_home p h ≡ Some h
    by free t n = absurd (cc t)
    by away t n = refl
    by (here words) t n = absurd (cc n)

pub away_none : (places : List HomePlace) (h : ℕ) → is_here (place places h) ≡ true → away_at places h ≡ None
away_none places h = by (place places h)
  where
    by : (p : HomePlace) → is_here p ≡ true → away_home p h ≡ None
    by free n = absurd (cc n)
    by away n = absurd (cc n)
    by (here words) n = refl

-- a home that is taken and not away is in a frame
pub here_when : (places : List HomePlace) (h : ℕ) → is_taken (place places h) ≡ true → away_at places h ≡ None → is_here (place places h) ≡ true
here_when places h = by (place places h)
  where
    by : (p : HomePlace) → is_taken p ≡ true → away_home p h ≡ None → is_here p ≡ true
    by free t n = absurd (cc t)
    by away t n = absurd (cc n)
    by (here words) t n = refl
