-- The numbers under which symbols are kept.
use Rattle.std.proofs.Common.{◌≡◌, ℕ, suc, ◌+◌, ◌-◌, ◌*◌, ◌^◌, ◌<◌, ◌≤◌, List, [], ◌∷◌, length, get_or, drop, Bool, true, false, cond, Option, None, Some, Fits, w8, refl, sym, ◌∙◌, ap, arith, lit<}
use Rattle.std.specs.Prelude.{◌&&◌, nat_le, nat_lt, if◌then◌else◌}
use Rattle.std.specs.Ordering.{is_eq, nat_cmp}
use Rattle.std.specs.BTreeMap.{Updates, get}
use Rattle.std.specs.Str.{bytes_eq}
use Rattle.std.proofs.Math.Nat.{pow-suc, pow-le-pow_right}
use Rattle.std.proofs.Math.Seq.{drop-cons}
use Rattle.std.proofs.lemmas.Bool.{ltb-true}
use Rattle.std.proofs.lemmas.Bool.Decides.{nat_tests}
use Rattle.std.proofs.lemmas.Slice.Eq.{bytes_eq-Decides}
use Rattle.asm_core.specs.declared.symbols.Symbols.{Symbols}
use Rattle.asm_core.specs.Passes.{are_bytes, kept, key}
use Rattle.asm_core.proofs.Digits.{both}

is_byte : (c : ℕ) → c < 256 → nat_lt c 256 ≡ true
is_byte c h = grind (arith, nat_tests)

and_true : (a b : Bool) → a ≡ true → b ≡ true → (a && b) ≡ true
and_true a b h k = rw h k

-- what is read from a slice of bytes is bytes
pub bytes_read : (s : List ℕ) → ((i : ℕ) → Fits w8 (get_or s i 0)) → are_bytes s ≡ true
bytes_read [] h = refl
bytes_read (c ∷ cs) h = and_true (nat_lt c 256) (are_bytes cs) (is_byte c (h 0).fits) (bytes_read cs (λ i. h (suc i)))

digit_same : (a b c d : ℕ) → c < 256 → d < 256 → c + 1 + 257 * a ≡ d + 1 + 257 * b → c ≡ d
digit_same a b c d hc hd e = omega arith

rest_same : (a b c d : ℕ) → c < 256 → d < 256 → c + 1 + 257 * a ≡ d + 1 + 257 * b → a ≡ b
rest_same a b c d hc hd e = omega arith

-- texts of bytes with one number are the same
pub key_same : (s t : List ℕ) → are_bytes s ≡ true → are_bytes t ≡ true → key s ≡ key t → s ≡ t
key_same [] [] hs ht e = refl
key_same [] (d ∷ ds) hs ht e = absurd (omega arith)
key_same (c ∷ cs) [] hs ht e = absurd (omega arith)
key_same (c ∷ cs) (d ∷ ds) hs ht e =
    let ps = both (nat_lt c 256) (are_bytes cs) hs in
    let pt = both (nat_lt d 256) (are_bytes ds) ht in
    let first = digit_same (key cs) (key ds) c d (ltb-true c 256 ps.0) (ltb-true d 256 pt.0) e in
    let rest = key_same cs ds ps.1 pt.1 (rest_same (key cs) (key ds) c d (ltb-true c 256 ps.0) (ltb-true d 256 pt.0) e) in
    cc

-- one more character in front
pub key_step : (s : List ℕ) (place number : ℕ) → 0 < place → place ≤ length s → number ≡ key (drop place s) → number * 257 + (get_or s (place - 1) 0 + 1) ≡ key (drop (place - 1) s)
key_step s place number some within e =
    let back : suc (place - 1) ≡ place = omega arith in
    let opened : drop (place - 1) s ≡ get_or s (place - 1) 0 ∷ drop (suc (place - 1)) s = drop-cons s (place - 1) 0 (omega arith) in
    let same : key (drop (suc (place - 1)) s) ≡ number = ap (λ n. key (drop n s)) back ∙ sym e in
    let whole : key (drop (place - 1) s) ≡ get_or s (place - 1) 0 + 1 + 257 * key (drop (suc (place - 1)) s) = ap key opened in
    omega arith

-- the number stays small
pub key_small : (len place number c : ℕ) → 0 < place → place ≤ len → c < 256 → number < 257 ^ (len - place) → number * 257 + (c + 1) < 257 ^ (len - (place - 1))
key_small len place number c some within byte small =
    let more : len - (place - 1) ≡ suc (len - place) = omega arith in
    let power : 257 ^ (len - (place - 1)) ≡ 257 ^ (len - place) * 257 = ap (λ n. 257 ^ n) more ∙ pow-suc 257 (len - place) in
    omega arith

pub power_small : (len place : ℕ) → len ≤ 6 → 257 ^ (len - place) ≤ 257 ^ 6
power_small len place h = let few : len - place ≤ 6 = omega arith in pow-le-pow_right (lit< tt) few

if_none : (b : Bool) (o : Option ℕ) → o ≡ None → (if b then o else None) ≡ None
if_none true o e = e
if_none false o e = refl

at_same : (k : ℕ) → is_eq (nat_cmp k k) ≡ true
at_same k = grind (arith, nat_tests)

at_other : (k q : ℕ) → (k ≡ q → ⊥) → is_eq (nat_cmp k q) ≡ false
at_other k q ne = grind (arith, nat_tests)

abbrev is_keyed : List ℕ → Bool
is_keyed s = nat_le (length s) 6 && are_bytes s

short_is : (n : ℕ) → n ≤ 6 → nat_le n 6 ≡ true
short_is n h = grind (arith, nat_tests)

long_is : (n : ℕ) → 6 < n → nat_le n 6 ≡ false
long_is n h = grind (arith, nat_tests)

keyed : (s : List ℕ) → length s ≤ 6 → are_bytes s ≡ true → is_keyed s ≡ true
keyed s short bytes = and_true (nat_le (length s) 6) (are_bytes s) (short_is (length s) short) bytes

-- what a table keeps under a symbol
pub kept_is : (table : Symbols) (s : List ℕ) → length s ≤ 6 → are_bytes s ≡ true → get nat_cmp table.values (key s) ≡ kept table s
unfolding kept
kept_is table s short bytes = ap (λ (b : Bool). if b then get nat_cmp table.values (key s) else None) (sym (keyed s short bytes))

pub kept_long : (table : Symbols) (s : List ℕ) → 6 < length s → None ≡ kept table s
unfolding kept
kept_long table s long = ap (λ (b : Bool). if b && are_bytes s then get nat_cmp table.values (key s) else None) (sym (long_is (length s) long))

pub kept_empty : (table : Symbols) → table.values.entries ≡ [] → (s : List ℕ) → kept table s ≡ None
unfolding kept
kept_empty table e s = if_none (is_keyed s) (get nat_cmp table.values (key s)) (rw e refl)

module _ (old new : Symbols) (s : List ℕ) (v : ℕ) (short : length s ≤ 6) (bytes : are_bytes s ≡ true) (put : Updates nat_cmp old.values new.values (key s) (Some v)) where
  same_put : (t : List ℕ) → s ≡ t → get nat_cmp new.values (key t) ≡ Some v
  same_put t e =
      ap (λ r. get nat_cmp new.values (key r)) (sym e)
      ∙ (put.0 (key s) ∙ ap (λ (b : Bool). cond b (Some v) (get nat_cmp old.values (key s))) (at_same (key s)))

  other_put : (t : List ℕ) → is_keyed t ≡ true → (s ≡ t → ⊥) → get nat_cmp new.values (key t) ≡ get nat_cmp old.values (key t)
  other_put t k ne =
      let parts = both (nat_le (length t) 6) (are_bytes t) k in
      put.0 (key t) ∙ ap (λ (b : Bool). cond b (Some v) (get nat_cmp old.values (key t))) (at_other (key s) (key t) (λ e. ne (key_same s t bytes parts.1 e)))

  put_by : (t : List ℕ) (b same : Bool) → is_keyed t ≡ b → bytes_eq s t ≡ same
      → (if b then get nat_cmp new.values (key t) else None) ≡ (if same then Some v else (if b then get nat_cmp old.values (key t) else None))
  put_by t true true k e = same_put t ((bytes_eq-Decides s t).0 e)
  put_by t true false k e = other_put t k (λ is. absurd (cc (e, (bytes_eq-Decides s t).1 is)))
  put_by t false true k e =
      let is : s ≡ t = (bytes_eq-Decides s t).0 e in
      let yes : is_keyed t ≡ true = ap is_keyed (sym is) ∙ keyed s short bytes in
      absurd (cc (k, yes))
  put_by t false false k e = refl

  -- what a table keeps after a symbol was put into it
  pub kept_put : (t : List ℕ) → kept new t ≡ (if bytes_eq s t then Some v else kept old t)
  unfolding kept
  kept_put t = put_by t (is_keyed t) (bytes_eq s t) refl refl
