-- What a drum tells.
use Rattle.std.proofs.Common.{◌≡◌, ℕ, List, None, Some, subst}
use Rattle.outside.specs.Drums.{AreDrumPages}

-- pages that are told are as fit as those that stand there
pub all_told : {count : ℕ} {pages d : List (List ℕ)} → AreDrumPages count pages → Some pages ≡ Some d → AreDrumPages count d
all_told {count} {pages} {d} sound told =
    let same : pages ≡ d = cc in
    subst (AreDrumPages count) same sound

-- of a drum that tells no pages, whatever it were to tell would be fit
pub none_told : {count : ℕ} {d : List (List ℕ)} → None ≡ Some d → AreDrumPages count d
none_told told = absurd cc
