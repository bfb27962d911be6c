-- A text is split at its first space or line feed in one way.
use Rattle.std.proofs.Common.{◌≡◌, ◌≢◌, ℕ, List, [], ◌∷◌, ◌++◌, refl, All}
use Rattle.std.proofs.lemmas.List.Elements.{All-head, All-tail}

-- a byte is not this one
abbrev pub IsNot : ℕ → ℕ → Type 0
IsNot c d = d ≢ c

pub one_split : (c : ℕ) (a b x y : List ℕ) → All (IsNot c) a → All (IsNot c) b → a ++ c ∷ x ≡ b ++ c ∷ y → (a ≡ b) × (x ≡ y)
one_split c [] [] x y p q h = (refl, cc h)
one_split c [] (e ∷ b) x y p q h = absurd (All-head (IsNot c) e b q (cc h))
one_split c (d ∷ a) [] x y p q h = absurd (All-head (IsNot c) d a p (cc h))
one_split c (d ∷ a) (e ∷ b) x y p q h =
    let heads : d ≡ e = cc h in
    let tails : a ++ c ∷ x ≡ b ++ c ∷ y = cc h in
    let rest = one_split c a b x y (All-tail (IsNot c) d a p) (All-tail (IsNot c) e b q) tails in
    (cc (heads, rest.0), rest.1)

pub no_split : (c : ℕ) (text a x : List ℕ) → All (IsNot c) text → text ≡ a ++ c ∷ x → ⊥
no_split c [] [] x p h = cc h
no_split c [] (e ∷ a) x p h = cc h
no_split c (d ∷ text) [] x p h = All-head (IsNot c) d text p (cc h)
no_split c (d ∷ text) (e ∷ a) x p h = let tails : text ≡ a ++ c ∷ x = cc h in no_split c text a x (All-tail (IsNot c) d text p) tails
