-- What becomes of transfers over time.
use Rattle.std.specs.Prelude.{◌≡◌, ℕ, List, [], ◌∷◌, ◌++◌, ◌⊎◌, ⊤}
use Rattle.drum_queue.specs.declared.transfer.Transfer.{Transfer}
use Rattle.drum_queue.specs.Transfers.{without}

-- what is done to a queue: a transfer begins, that of a frame is taken back, or the oldest ends
pub data Deed : Type 0 where
  Begins : Transfer → Deed
  TakenBack : ℕ → Deed
  Ends : Deed

-- what is queued after these deeds
abbrev pub left : List Transfer → List Deed → List Transfer
left ts [] = ts
left ts (Begins t ∷ ds) = left (ts ++ t ∷ []) ds
left ts (TakenBack f ∷ ds) = left (without f ts) ds
left [] (Ends ∷ ds) = left [] ds
left (t ∷ ts) (Ends ∷ ds) = left ts ds

-- the transfers that end in these deeds, in order
abbrev pub ended : List Transfer → List Deed → List Transfer
ended ts [] = []
ended ts (Begins t ∷ ds) = ended (ts ++ t ∷ []) ds
ended ts (TakenBack f ∷ ds) = ended (without f ts) ds
ended [] (Ends ∷ ds) = ended [] ds
ended (t ∷ ts) (Ends ∷ ds) = t ∷ ended ts ds

-- the transfers that begin in these deeds, in order
abbrev pub begun : List Deed → List Transfer
begun [] = []
begun (Begins t ∷ ds) = t ∷ begun ds
begun (TakenBack f ∷ ds) = begun ds
begun (Ends ∷ ds) = begun ds

-- the first transfers are among the second ones, in the same order
abbrev pub AreAmong : List Transfer → List Transfer → Type 0
AreAmong [] us = ⊤
AreAmong (t ∷ ts) [] = ⊥
AreAmong (t ∷ ts) (u ∷ us) = ((t ≡ u) × AreAmong ts us) ⊎ AreAmong (t ∷ ts) us
