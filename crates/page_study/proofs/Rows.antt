-- Traces that were worked out by hand: each number is computed.
use Rattle.std.proofs.Common.{◌≡◌, refl}
use Rattle.page_study.specs.Memories.{lru, window}
use Rattle.page_study.specs.Rows.{three_fetches, one_to_another}

pub fetches : (lru three_fetches 1 ≡ 1) × (window three_fetches 1 ≡ 1) × (lru three_fetches 8192 ≡ 1) × (window three_fetches 8192 ≡ 1)
unfolding lru window
fetches = (refl, refl, refl, refl)

pub another : (lru one_to_another 1 ≡ 3) × (window one_to_another 1 ≡ 3) × (lru one_to_another 2 ≡ 2) × (window one_to_another 2 ≡ 2) × (lru one_to_another 8192 ≡ 2) × (window one_to_another 8192 ≡ 2)
unfolding lru window
another = (refl, refl, refl, refl, refl, refl)
