-- What a word looks like, and what it then is.
use Rattle.std.proofs.Common.{◌≡◌, ◌≢◌, ◌==◌, ◌∙◌, refl, sym, ap, arith, ℕ, Bool, true, false, zero, suc, [], ◌∷◌, ◌++◌, Option, Some, None, codes, inl, inr, append-nil, ap₂}
use Rattle.std.specs.Prelude.{◌⊎◌, if◌then◌else◌, unwrap_or}
use Rattle.std.specs.Str.{bytes_eq}
use Rattle.std.proofs.lemmas.Bool.Decides.{nat_tests}
use Rattle.std.proofs.lemmas.Option.{none-some, option_and_then_some}
use Rattle.std.proofs.lemmas.Slice.Eq.{bytes_eq-Decides}
use Rattle.clap.specs.Lexer.{long_of, long_of_rest, name_and_value, strip_byte}
use Rattle.clap.proofs.CutLemmas.{Lacks}
use Rattle.clap.proofs.LexerLemmas.{name_and_value-at, name_and_value-without}
use Rattle.command_words.specs.Words.{Text}

-- bytes that differ
pub differ : (xs ys : Text) → (xs ≡ ys → ⊥) → bytes_eq xs ys ≡ false
differ xs ys other = by (bytes_eq xs ys) refl
  where
    by : (b : Bool) → bytes_eq xs ys ≡ b → b ≡ false
    by true e = absurd (other ((bytes_eq-Decides xs ys).0 e))
    by false e = refl

Lacks-cons : (c x : ℕ) (xs : Text) → x ≢ c → Lacks c xs → Lacks c (x ∷ xs)
Lacks-cons c x xs ne h zero lt = ne
Lacks-cons c x xs ne h (suc i) lt = h i (omega arith)

-- a text lacks the byte, or is cut at the first one
cut_text : (c : ℕ) (xs : Text) → Lacks c xs ⊎ ((a : Text) × (b : Text) × (xs ≡ a ++ c ∷ b) × Lacks c a)
cut_text c [] = inl (λ i lt. absurd (omega arith))
cut_text c (x ∷ xs) = by (x == c) refl (cut_text c xs)
  where
    by : (t : Bool) → (x == c) ≡ t → Lacks c xs ⊎ ((a : Text) × (b : Text) × (xs ≡ a ++ c ∷ b) × Lacks c a)
        → Lacks c (x ∷ xs) ⊎ ((a : Text) × (b : Text) × (x ∷ xs ≡ a ++ c ∷ b) × Lacks c a)
    by true e rest = let same : x ≡ c = grind (arith, nat_tests) in inr ([], xs, ap (λ n. n ∷ xs) same, λ i lt. absurd (omega arith))
    by false e (inl h) = let ne : x ≢ c = grind (arith, nat_tests) in inl (Lacks-cons c x xs ne h)
    by false e (inr (a, b, is, h)) = let ne : x ≢ c = grind (arith, nat_tests) in inr (x ∷ a, b, ap (λ l. x ∷ l) is, Lacks-cons c x a ne h)

-- what stands behind the name of an option in its word
abbrev pub behind_name : Option Text → Text
behind_name None = []
behind_name (Some value) = codes "=" ++ value

named : (xs : Text) (name : Text) (v : Option Text) → name_and_value xs ≡ (name, v) → xs ≡ name ++ behind_name v
named xs name v e = by (cut_text 61 xs)
  where
    by : Lacks 61 xs ⊎ ((a : Text) × (b : Text) × (xs ≡ a ++ 61 ∷ b) × Lacks 61 a) → xs ≡ name ++ behind_name v
    by (inl h) = let same = sym (name_and_value-without xs h) ∙ e in sym (append-nil xs) ∙ ap (λ (p : Text × Option Text). p.0 ++ behind_name p.1) same
    by (inr (a, b, is, h)) = let same = sym (name_and_value-at a b h) ∙ sym (ap name_and_value is) ∙ e in is ∙ ap (λ (p : Text × Option Text). p.0 ++ behind_name p.1) same

stripped : (c : ℕ) (text rest : Text) → strip_byte c text ≡ Some rest → text ≡ c ∷ rest
stripped c [] rest e = absurd (none-some rest e)
stripped c (x ∷ xs) rest e = by (x == c) refl e
  where
    by : (t : Bool) → (x == c) ≡ t → (if t then Some xs else None) ≡ Some rest → x ∷ xs ≡ c ∷ rest
    by true e f = let same : x ≡ c = grind (arith, nat_tests) in ap₂ (λ n l. n ∷ l) same (ap (λ o. unwrap_or o rest) f)
    by false e f = absurd (none-some rest f)

rest_named : (xs : Text) (name : Text) (v : Option Text) → long_of_rest xs ≡ Some (name, v) → xs ≡ name ++ behind_name v
rest_named [] name v e = absurd (none-some _ e)
rest_named (x ∷ xs) name v e = named (x ∷ xs) name v (ap (λ o. unwrap_or o (name, v)) e)

-- a word that looks like an option is that option's
pub long_word_is : (word name : Text) (v : Option Text) → long_of word ≡ Some (name, v) → word ≡ codes "--" ++ (name ++ behind_name v)
long_word_is word name v e =
    option_and_then_some long_of_rest _ (name, v) e (λ rest two looks. option_and_then_some (strip_byte 45) _ rest two (λ last one other.
    stripped 45 word last one ∙ ap (λ l. 45 ∷ l) (stripped 45 last rest other) ∙ ap (λ l. 45 ∷ 45 ∷ l) (rest_named rest name v looks)))
