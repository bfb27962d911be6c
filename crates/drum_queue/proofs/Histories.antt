-- What ended is among what began.
use Rattle.std.proofs.Common.{◌≡◌, ℕ, List, [], ◌∷◌, ◌++◌, Bool, true, false, not, cond, inl, inr, refl, sym, subst, append_assoc}
use Rattle.std.proofs.lemmas.List.{append-nil}
use Rattle.drum_queue.specs.declared.transfer.Transfer.{Transfer}
use Rattle.drum_queue.specs.Transfers.{is_of, without}
use Rattle.drum_queue.specs.History.{Deed, Begins, TakenBack, Ends, AreAmong, begun, ended, left}

among_all : (ts : List Transfer) → AreAmong ts ts
among_all [] = tt
among_all (t ∷ ts) = inl (refl, among_all ts)

among_more : (ts : List Transfer) (u : Transfer) (us : List Transfer) → AreAmong ts us → AreAmong ts (u ∷ us)
among_more [] u us among = tt
among_more (t ∷ ts) u us among = inr among

-- one more stands before those among which they are, and before some of those among which these are
among_behind : (ts : List Transfer) (u : Transfer) (us vs : List Transfer) → ((rs : List Transfer) → AreAmong rs us → AreAmong rs vs)
    → AreAmong ts (u ∷ us) → AreAmong ts (u ∷ vs)
among_behind [] u us vs further among = tt
among_behind (t ∷ ts) u us vs further (inl first) = inl (first.0, further ts first.1)
among_behind (t ∷ ts) u us vs further (inr behind) = inr (further (t ∷ ts) behind)

among_kept : (b : Bool) (ts : List Transfer) (u : Transfer) (us vs : List Transfer) → ((rs : List Transfer) → AreAmong rs us → AreAmong rs vs)
    → AreAmong ts (cond b (u ∷ us) us) → AreAmong ts (u ∷ vs)
among_kept true ts u us vs further among = among_behind ts u us vs further among
among_kept false ts u us vs further among = among_more ts u vs (further ts among)

cond_append : (b : Bool) (u : Transfer) (us vs : List Transfer) → cond b (u ∷ us) us ++ vs ≡ cond b (u ∷ (us ++ vs)) (us ++ vs)
cond_append true u us vs = refl
cond_append false u us vs = refl

-- what is among those that are left when some are taken back is among them all
among_without : (f : ℕ) (us vs : List Transfer) (ts : List Transfer) → AreAmong ts (without f us ++ vs) → AreAmong ts (us ++ vs)
among_without f [] vs ts among = among
among_without f (u ∷ us) vs ts among =
    among_kept (not (is_of f u)) ts u (without f us ++ vs) (us ++ vs) (among_without f us vs)
    (subst (AreAmong ts) (cond_append (not (is_of f u)) u (without f us) vs) among)

-- those that ended and those that are left are among those that were queued and those that began
pub end_in_order : (ts : List Transfer) (ds : List Deed) → AreAmong (ended ts ds ++ left ts ds) (ts ++ begun ds)
end_in_order ts [] = subst (AreAmong ts) (sym (append-nil ts)) (among_all ts)
end_in_order ts (Begins t ∷ ds) =
    subst (AreAmong (ended (ts ++ t ∷ []) ds ++ left (ts ++ t ∷ []) ds)) (append_assoc ts (t ∷ []) (begun ds)) (end_in_order (ts ++ t ∷ []) ds)
end_in_order ts (TakenBack f ∷ ds) = among_without f ts (begun ds) (ended (without f ts) ds ++ left (without f ts) ds) (end_in_order (without f ts) ds)
end_in_order [] (Ends ∷ ds) = end_in_order [] ds
end_in_order (t ∷ ts) (Ends ∷ ds) = inl (refl, end_in_order ts ds)
