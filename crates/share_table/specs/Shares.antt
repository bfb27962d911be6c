-- The pages that have more than one name.
use Rattle.std.specs.Prelude.{◌≡◌, refl, ℕ, ◌+◌, ◌-◌, ◌^◌, ◌≤◌, ◌<◌, ◌==◌, Option, None, Some, if◌then◌else◌}
use Rattle.std.specs.Ordering.{nat_cmp}
use Rattle.std.specs.Coded.{Coded, code_by, coded×, coded_ℕ}
use Rattle.std.specs.FinMap as map
use Rattle.slab.specs.Slab.{Slab}
use Rattle.number_map.specs.Numbers.{held}
use Rattle.page_homes.specs.declared.homes.Home.{Home}
use Rattle.share_table.specs.declared.shares.SharedPage.{SharedPage}
use Rattle.share_table.specs.declared.shares.TheConstants.{LAST_COUNT}

-- how many shares there may be, and the page of each share that is there
pub record Shares : Type 0 where
  pub room : ℕ
  pub pages : map.FinMap nat_cmp SharedPage

-- a shared page is stored as two numbers
abbrev page_code : Coded SharedPage
page_code = code_by (ℕ × ℕ) (coded× coded_ℕ coded_ℕ) (λ p. (p.home.0, p.count)) (λ n. record { home = record { 0 = n.0 }; count = n.1 }) (λ _. refl)

-- the shares are stored with their room
abbrev pub shares_code : Coded Shares
shares_code =
    code_by (ℕ × map.FinMap nat_cmp SharedPage) (coded× coded_ℕ (map.code coded_ℕ page_code))
    (λ t. (t.room, t.pages)) (λ p. record { room = p.0; pages = p.1 }) (λ _. refl)

-- the page of a share
abbrev pub page_at : Shares → ℕ → Option SharedPage
page_at t s = map.get t.pages s

-- the page of a share becomes this
abbrev pub with_page : Shares → ℕ → SharedPage → Shares
with_page t s p = record t { pages = map.insert t.pages s p }

-- a share has gone
abbrev pub without : Shares → ℕ → Shares
without t s = record t { pages = map.remove t.pages s }

-- a count with one more; at its last value it stays there
abbrev pub one_more : ℕ → ℕ
one_more n = if n == LAST_COUNT then n else n + 1

-- a count with one fewer; at its last value it stays there
abbrev pub one_fewer : ℕ → ℕ
one_fewer n = if n == LAST_COUNT then n else n - 1

-- a share with this page has one name more; without a page nothing changes
abbrev pub joined_to : Shares → ℕ → Option SharedPage → Shares
joined_to t s None = t
joined_to t s (Some p) = with_page t s (record p { count = one_more p.count })

-- the page of a share has one name more
abbrev pub joined : Shares → ℕ → Shares
joined t s = joined_to t s (page_at t s)

-- a share with this page has one name fewer, and has gone where that was the last; without a page nothing changes
abbrev pub left_by : Shares → ℕ → Option SharedPage → Shares
left_by t s None = t
left_by t s (Some p) = if p.count == 1 then without t s else with_page t s (record p { count = one_fewer p.count })

-- the page of a share has one name fewer
abbrev pub left : Shares → ℕ → Shares
left t s = left_by t s (page_at t s)

-- the home of a page that has one name
abbrev pub last_home : Option SharedPage → Option Home
last_home None = None
last_home (Some p) = if p.count == 1 then Some p.home else None

-- each page has a name at least, the numbers of the shares are below their room, and no more are there
pub record AreCounted (t : Shares) : Type 0 where
  pub named : (s : ℕ) (p : SharedPage) → page_at t s ≡ Some p → 1 ≤ p.count
  pub below : (s : ℕ) (p : SharedPage) → page_at t s ≡ Some p → s < t.room
  pub few : map.len t.pages ≤ t.room

-- the shares of a slab
abbrev pub shares_of : ℕ → Slab SharedPage → Shares
shares_of room s = record { room = room; pages = held 0 s.slots }

-- the slab has room for just so many
pub record IsRoomy (room : ℕ) (s : Slab SharedPage) : Type 0 where
  pub small : room < 2 ^ 32
  pub capacity : s.capacity ≡ room
  pub counted : AreCounted (shares_of room s)
