-- The bytes of a part tell the part, where it is known what is awaited.
use Rattle.std.proofs.Common.{◌≡◌, ◌≢◌, ℕ, zero, suc, ◌^◌, ◌<◌, ◌≤◌, List, [], ◌∷◌, ◌++◌, length, All, codes, refl, sym, ap, subst, ◌∙◌, arith, append_assoc}
use Rattle.std.specs.List.{flat_map}
use Rattle.std.proofs.Math.Nat.{div-le_self}
use Rattle.std.proofs.lemmas.List.{append_cancel_left}
use Rattle.std.proofs.lemmas.List.Elements.{All-head, All-tail}
use Rattle.byteorder.specs.Endian.{big_bytes, big_number}
use Rattle.byteorder.specs.Numbers.{big_number-reads_back}
use Rattle.machine_names.specs.declared.names.TheConstants.{MOST_FILES}
use Rattle.plain_files.specs.Bytes.{most_bytes}
use Rattle.file_image.specs.Parts.{ImagePage, FileHead, Part, header, head, page, part_bytes, parts_bytes, Awaits, a_header, files_more, pages_more, awaits_after, awaits_behind, IsComplete, MayStand, MayStandAll, FitsPage, FitsHead}

-- a number is told by its bytes
pub number_told : (k m n : ℕ) (x y : List ℕ) → m < 256 ^ k → n < 256 ^ k → big_bytes k m ++ x ≡ big_bytes k n ++ y → (m ≡ n) × (x ≡ y)
number_told k m n x y p q same =
    let is : m ≡ n = sym (big_number-reads_back k m x p) ∙ ap (λ bytes. big_number k bytes) same ∙ big_number-reads_back k n y q in
    (is, append_cancel_left (big_bytes k n) x y (ap (λ j. big_bytes k j ++ x) (sym is) ∙ same))

-- what is as long as another and begins the same text is the other
pub as_long : (a b x y : List ℕ) → length a ≡ length b → a ++ x ≡ b ++ y → (a ≡ b) × (x ≡ y)
as_long [] [] x y long same = (refl, same)
as_long [] (c ∷ b) x y long same = absurd (omega (arith, long))
as_long (c ∷ a) [] x y long same = absurd (omega (arith, long))
as_long (c ∷ a) (d ∷ b) x y long same =
    let first : c ≡ d = cc same in
    let rest : a ++ x ≡ b ++ y = cc same in
    let later = as_long a b x y (omega (arith, long)) rest in
    (λ i. first i ∷ later.0 i, later.1)

-- so are words
words_told : (ws vs : List ℕ) (x y : List ℕ) → length ws ≡ length vs → All (λ w. w < 2 ^ 36) ws → All (λ w. w < 2 ^ 36) vs → flat_map (big_bytes 8) ws ++ x ≡ flat_map (big_bytes 8) vs ++ y → (ws ≡ vs) × (x ≡ y)
words_told [] [] x y long fit fits same = (refl, same)
words_told [] (v ∷ vs) x y long fit fits same = absurd (omega (arith, long))
words_told (w ∷ ws) [] x y long fit fits same = absurd (omega (arith, long))
words_told (w ∷ ws) (v ∷ vs) x y long fit fits same =
    let small : w < 256 ^ 8 = omega (arith, All-head (λ u. u < 2 ^ 36) w ws fit) in
    let little : v < 256 ^ 8 = omega (arith, All-head (λ u. u < 2 ^ 36) v vs fits) in
    let first = number_told 8 w v (flat_map (big_bytes 8) ws ++ x) (flat_map (big_bytes 8) vs ++ y) small little
    (sym (append_assoc (big_bytes 8 w) (flat_map (big_bytes 8) ws) x) ∙ same ∙ append_assoc (big_bytes 8 v) (flat_map (big_bytes 8) vs) y) in
    let later = words_told ws vs x y (omega (arith, long)) (All-tail (λ u. u < 2 ^ 36) w ws fit) (All-tail (λ u. u < 2 ^ 36) v vs fits) first.1 in
    (λ i. first.0 i ∷ later.0 i, later.1)

length_fits : (size count : ℕ) → count ≤ most_bytes size → count < 256 ^ 8
length_fits size count few = omega (arith, few, div-le_self 36 size)

-- what stands behind the name in the head of a file
abbrev behind_name : FileHead → List ℕ
behind_name h = h.size ∷ (big_bytes 8 h.length ++ big_bytes 2 h.pages)

head_told : (g h : FileHead) (x y : List ℕ) → FitsHead g → FitsHead h → part_bytes (head g) ++ x ≡ part_bytes (head h) ++ y → (head g ≡ head h) × (x ≡ y)
head_told g h x y f k same =
    let long : length g.name ≡ length h.name = cc same in
    let rest : (g.name ++ behind_name g) ++ x ≡ (h.name ++ behind_name h) ++ y = cc same in
    let names = as_long g.name h.name (behind_name g ++ x) (behind_name h ++ y) long
    (sym (append_assoc g.name (behind_name g) x) ∙ rest ∙ append_assoc h.name (behind_name h) y) in
    let behind : behind_name g ++ x ≡ behind_name h ++ y = names.1 in
    let sizes : g.size ≡ h.size = cc behind in
    let later : (big_bytes 8 g.length ++ big_bytes 2 g.pages) ++ x ≡ (big_bytes 8 h.length ++ big_bytes 2 h.pages) ++ y = cc behind in
    let lengths = number_told 8 g.length h.length (big_bytes 2 g.pages ++ x) (big_bytes 2 h.pages ++ y) (length_fits g.size g.length f.room) (length_fits h.size h.length k.room)
    (sym (append_assoc (big_bytes 8 g.length) (big_bytes 2 g.pages) x) ∙ later ∙ append_assoc (big_bytes 8 h.length) (big_bytes 2 h.pages) y) in
    let pages = number_told 2 g.pages h.pages x y (omega (arith, f.few)) (omega (arith, k.few)) lengths.1 in
    (λ i. head (record { name = names.0 i; size = sizes i; length = lengths.0 i; pages = pages.0 i }), pages.1)

page_told : (v w : ImagePage) (x y : List ℕ) → FitsPage v → FitsPage w → part_bytes (page v) ++ x ≡ part_bytes (page w) ++ y → (page v ≡ page w) × (x ≡ y)
page_told v w x y f g same =
    let numbers = number_told 2 v.number w.number (flat_map (big_bytes 8) v.words ++ x) (flat_map (big_bytes 8) w.words ++ y) (omega (arith, f.below)) (omega (arith, g.below))
    (sym (append_assoc (big_bytes 2 v.number) (flat_map (big_bytes 8) v.words) x) ∙ same ∙ append_assoc (big_bytes 2 w.number) (flat_map (big_bytes 8) w.words) y) in
    let words = words_told v.words w.words x y (f.whole ∙ sym g.whole) f.small g.small numbers.1 in
    (λ i. page (record { number = numbers.0 i; words = words.0 i }), words.1)

header_told : (m n : ℕ) (x y : List ℕ) → m ≤ MOST_FILES → n ≤ MOST_FILES → part_bytes (header m) ++ x ≡ part_bytes (header n) ++ y → (header m ≡ header n) × (x ≡ y)
header_told m n x y few little same =
    let cut : big_bytes 4 m ++ x ≡ big_bytes 4 n ++ y =
    append_cancel_left (codes "TENEXIM1") (big_bytes 4 m ++ x) (big_bytes 4 n ++ y)
    (sym (append_assoc (codes "TENEXIM1") (big_bytes 4 m) x) ∙ same ∙ append_assoc (codes "TENEXIM1") (big_bytes 4 n) y) in
    let told = number_told 4 m n x y (omega (arith, few)) (omega (arith, little)) cut in
    (ap header told.0, told.1)

-- A PART IS TOLD BY ITS BYTES, and so is what stands behind it
pub one_part : (a : Awaits) (p q : Part) (x y : List ℕ) → MayStand a p → MayStand a q → part_bytes p ++ x ≡ part_bytes q ++ y → (p ≡ q) × (x ≡ y)
one_part a_header (header m) (header n) x y p q same = header_told m n x y p q same
one_part a_header (header m) (head h) x y p q same = absurd q
one_part a_header (header m) (page v) x y p q same = absurd q
one_part a_header (head h) q x y p r same = absurd p
one_part a_header (page v) q x y p r same = absurd p
one_part (files_more zero last) p q x y r t same = absurd r
one_part (files_more (suc files) last) (head g) (head h) x y p q same = head_told g h x y p.0 q.0 same
one_part (files_more (suc files) last) (head g) (header n) x y p q same = absurd q
one_part (files_more (suc files) last) (head g) (page v) x y p q same = absurd q
one_part (files_more (suc files) last) (header m) q x y p r same = absurd p
one_part (files_more (suc files) last) (page v) q x y p r same = absurd p
one_part (pages_more zero last files name) p q x y r t same = absurd r
one_part (pages_more (suc pages) last files name) (page v) (page w) x y p q same = page_told v w x y p.0 q.0 same
one_part (pages_more (suc pages) last files name) (page v) (header n) x y p q same = absurd q
one_part (pages_more (suc pages) last files name) (page v) (head h) x y p q same = absurd q
one_part (pages_more (suc pages) last files name) (header m) q x y p r same = absurd p
one_part (pages_more (suc pages) last files name) (head h) q x y p r same = absurd p

-- where all is there, no part may stand
pub nothing_more : (a : Awaits) (p : Part) → IsComplete a → MayStand a p → ⊥
nothing_more (files_more zero last) p whole stands = stands
nothing_more (files_more (suc files) last) p whole stands = whole
nothing_more a_header p whole stands = whole
nothing_more (pages_more pages last files name) p whole stands = whole

-- PARTS ARE TOLD BY THEIR BYTES
pub one_list_of_parts : (a : Awaits) (ps qs : List Part) → MayStandAll a ps → IsComplete (awaits_behind a ps) → MayStandAll a qs → IsComplete (awaits_behind a qs) → parts_bytes ps ≡ parts_bytes qs → ps ≡ qs
one_list_of_parts a [] [] stand whole other full same = refl
one_list_of_parts a [] (q ∷ qs) stand whole other full same = absurd (nothing_more a q whole other.0)
one_list_of_parts a (p ∷ ps) [] stand whole other full same = absurd (nothing_more a p full stand.0)
one_list_of_parts a (p ∷ ps) (q ∷ qs) stand whole other full same =
    let told = one_part a p q (parts_bytes ps) (parts_bytes qs) stand.0 other.0 same in
    let later : MayStandAll (awaits_after a p) qs = subst (λ (r : Part). MayStandAll (awaits_after a r) qs) (sym told.0) other.1 in
    let complete : IsComplete (awaits_behind (awaits_after a p) qs) = subst (λ (r : Part). IsComplete (awaits_behind (awaits_after a r) qs)) (sym told.0) full in
    let rest = one_list_of_parts (awaits_after a p) ps qs stand.1 whole later complete told.1 in
    λ i. told.0 i ∷ rest i

-- NO IMAGE IS BAD: what may stand behind a beginning of its parts stands there
pub never_bad : (a : Awaits) (ps qs : List Part) (rest : List ℕ) → MayStandAll a ps → IsComplete (awaits_behind a ps) → MayStandAll a qs → parts_bytes ps ≡ parts_bytes qs ++ rest
    → ((p : Part) (more : List ℕ) → rest ≡ part_bytes p ++ more → MayStand (awaits_behind a qs) p → ⊥) → (IsComplete (awaits_behind a qs) → rest ≢ []) → ⊥
never_bad a [] [] rest stand whole other same wrong unwanted = unwanted whole (sym same)
never_bad a (p ∷ ps) [] rest stand whole other same wrong unwanted = wrong p (parts_bytes ps) (sym same) stand.0
never_bad a [] (q ∷ qs) rest stand whole other same wrong unwanted = nothing_more a q whole other.0
never_bad a (p ∷ ps) (q ∷ qs) rest stand whole other same wrong unwanted =
    let told = one_part a p q (parts_bytes ps) (parts_bytes qs ++ rest) stand.0 other.0 (same ∙ append_assoc (part_bytes q) (parts_bytes qs) rest) in
    let later : MayStandAll (awaits_after a p) qs = subst (λ (r : Part). MayStandAll (awaits_after a r) qs) (sym told.0) other.1 in
    never_bad (awaits_after a p) ps qs rest stand.1 whole later told.1
    (subst (λ (r : Part). (v : Part) (more : List ℕ) → rest ≡ part_bytes v ++ more → MayStand (awaits_behind (awaits_after a r) qs) v → ⊥) (sym told.0) wrong)
    (subst (λ (r : Part). IsComplete (awaits_behind (awaits_after a r) qs) → rest ≢ []) (sym told.0) unwanted)
