-- How rows stand in four orders.
use Rattle.std.specs.Prelude.{◌≡◌, ℕ, zero, suc, ◌+◌, ◌<◌, List, [], ◌∷◌, ◌++◌, length, true, slice_index}
use Rattle.frame_order.specs.FrameOrder.{Order, IsOrder, stands_in, without}
use Rattle.job_sched.specs.declared.rows.Orders.{Orders}
use Rattle.job_sched.specs.Rows.{Rows}

-- what the orders of the rows are
abbrev pub rows_view : Orders → List ℕ → Rows
rows_view o stands = record { numbers = length stands; rows = o.free.order ∷ o.outside.order ∷ o.ready.order ∷ o.waiting.order ∷ [] }

-- one of the orders
abbrev pub order_at : Orders → ℕ → Order
order_at o zero = o.free
order_at o (suc zero) = o.outside
order_at o (suc (suc zero)) = o.ready
order_at o (suc (suc (suc zero))) = o.waiting
order_at o (suc (suc (suc (suc k)))) = record { frames = 0; order = [] }

-- one of them is another
abbrev pub with_order : Orders → ℕ → Order → Orders
with_order o zero x = record o { free = x }
with_order o (suc zero) x = record o { outside = x }
with_order o (suc (suc zero)) x = record o { ready = x }
with_order o (suc (suc (suc zero))) x = record o { waiting = x }
with_order o (suc (suc (suc (suc k)))) x = o

-- a number goes out of one of them
abbrev pub taken_from : Orders → ℕ → ℕ → Orders
taken_from o k n = with_order o k (record (order_at o k) { order = without n (order_at o k).order })

-- a number goes last into one of them
abbrev pub put_in : Orders → ℕ → ℕ → Orders
put_in o k n = with_order o k (record (order_at o k) { order = (order_at o k).order ++ n ∷ [] })

-- how many numbers stand in the four
abbrev pub tally : Orders → ℕ
tally o = length o.free.order + length o.outside.order + length o.ready.order + length o.waiting.order

-- each number is in the row that it knows, and in no other
pub record AreKept (o : Orders) (stands : List ℕ) : Type 0 where
  pub frames : (k : ℕ) → k < 4 → (order_at o k).frames ≡ length stands
  pub orders : (k : ℕ) → IsOrder (order_at o k)
  pub listed : (n : ℕ) → n < length stands → slice_index stands n < 4
  pub here : (n : ℕ) → n < length stands → stands_in n (order_at o (slice_index stands n)).order ≡ true
  pub only : (k n : ℕ) → stands_in n (order_at o k).order ≡ true → slice_index stands n ≡ k
  pub total : tally o ≡ length stands
