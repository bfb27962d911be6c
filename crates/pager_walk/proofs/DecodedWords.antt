-- Each word is that of one pointer at most, which is read from it.
use Rattle.std.proofs.Common.{◌≡◌, ℕ, ◌+◌, ◌*◌, ◌/◌, ◌%◌, ◌<◌, ◌≤◌, ◌==◌, ◌&&◌, ◌⊎◌, inl, inr, Bool, true, false, cond, Option, None, Some, nat_lt, nat_le, refl, sym, ◌∙◌, ap, subst, arith, rules}
use Rattle.std.specs.Prelude.{IfSome}
use Rattle.std.proofs.lemmas.Bool.Decides.{nat_tests, eqb_tells}
use Rattle.machine_names.specs.declared.names.Access.{Access}
use Rattle.machine_names.specs.declared.names.TheConstants.{LAST_SERIAL, SPACE_PAGES}
use Rattle.share_table.specs.declared.pointer.Pointer.{Pointer}
use Rattle.share_table.specs.declared.pointer.Pointer.TheVariants.{Empty, Private, Shared, Indirect}
use Rattle.share_table.specs.Pointers.{bit_of, access_bits, accesses, one_access, one_kind, one_page, fields, pointer_word, IsPointer}
use Rattle.pager_walk.specs.Decoding.{access_in, pointer_for, named_in, fits_word, checked, pointer_in}

-- what four bits permit comes back
bits_back : (a : Access) → access_in (access_bits a) ≡ a
bits_back a = by a.r a.w a.x a.c
  where
    by : (r w x c : Bool) → access_in (bit_of r * 8 + bit_of w * 4 + bit_of x * 2 + bit_of c) ≡ record { r = r; w = w; x = x; c = c }
    by true true true true = refl
    by true true true false = refl
    by true true false true = refl
    by true true false false = refl
    by true false true true = refl
    by true false true false = refl
    by true false false true = refl
    by true false false false = refl
    by false true true true = refl
    by false true true false = refl
    by false true false true = refl
    by false true false false = refl
    by false false true true = refl
    by false false true false = refl
    by false false false true = refl
    by false false false false = refl

bits_below : (a : Access) → access_bits a < accesses
bits_below a = by a.r a.w a.x a.c
  where
    bit : (b : Bool) → bit_of b ≤ 1
    bit true = omega arith
    bit false = omega arith

    by : (r w x c : Bool) → bit_of r * 8 + bit_of w * 4 + bit_of x * 2 + bit_of c < accesses
    by r w x c = omega (arith, bit r, bit w, bit x, bit c)

-- the fields of a word
module _ (k b p n : ℕ) (kl : k < 4) (bl : b < accesses) (pl : p < SPACE_PAGES) (nl : n < one_page) where
  kind_back : fields k b p n / one_kind ≡ k
  kind_back = omega (arith, kl, bl, pl, nl)

  bits_of : fields k b p n / one_access % accesses ≡ b
  bits_of = omega (arith, kl, bl, pl, nl)

  page_back : fields k b p n / one_page % SPACE_PAGES ≡ p
  page_back = omega (arith, kl, bl, pl, nl)

  number_back : fields k b p n % one_page ≡ n
  number_back = omega (arith, kl, bl, pl, nl)

  fields_back : named_in (fields k b p n) ≡ pointer_for k (access_in b) p n
  fields_back = λ i. pointer_for (kind_back i) (access_in (bits_of i)) (page_back i) (number_back i)

named_back : (p : Pointer) → IsPointer p → named_in (pointer_word p) ≡ p
named_back Empty is = refl
named_back (Private home a) is = fields_back 1 (access_bits a) 0 home.0 (omega arith) (bits_below a) (omega arith) (omega (arith, is)) ∙ ap (λ (x : Access). Private home x) (bits_back a)
named_back (Shared share a) is = fields_back 2 (access_bits a) 0 share.0 (omega arith) (bits_below a) (omega arith) (omega (arith, is)) ∙ ap (λ (x : Access). Shared share x) (bits_back a)
named_back (Indirect serial page a) is = fields_back 3 (access_bits a) page serial (omega arith) (bits_below a) (omega (arith, is.2)) (omega (arith, is.1)) ∙ ap (λ (x : Access). Indirect serial page x) (bits_back a)

fits_true : (p : Pointer) → IsPointer p → fits_word p ≡ true
fits_true Empty is = refl
fits_true (Private home a) is = grind (arith, nat_tests)
fits_true (Shared share a) is = grind (arith, nat_tests)
fits_true (Indirect serial page a) is = grind (arith, nat_tests, is.0, is.1, is.2)

both : (a b : Bool) → (a && b) ≡ true → (a ≡ true) × (b ≡ true)
both true b e = (refl, e)
both false b e = absurd (cc e)

fits_is : (p : Pointer) → fits_word p ≡ true → IsPointer p
fits_is Empty e = search rules
fits_is (Private home a) e = grind (arith, nat_tests)
fits_is (Shared share a) e = grind (arith, nat_tests)
fits_is (Indirect serial page a) e = let x = both (nat_le 1 serial) (nat_le serial LAST_SERIAL && nat_lt page SPACE_PAGES) e in let y = both (nat_le serial LAST_SERIAL) (nat_lt page SPACE_PAGES) x.1 in (grind (arith, nat_tests, x.0), grind (arith, nat_tests, y.0), grind (arith, nat_tests, y.1))

-- the word of a pointer stands for it
pub pointer_back : (p : Pointer) → IsPointer p → pointer_in (pointer_word p) ≡ Some p
unfolding pointer_in
pointer_back p is =
    ap (checked (pointer_word p)) (named_back p is) ∙ ap (λ b. cond (b && (pointer_word p == pointer_word p)) (Some p) None) (fits_true p is) ∙ same (eqb_tells (pointer_word p) (pointer_word p))
  where
    same : (((pointer_word p == pointer_word p) ≡ true) × (pointer_word p ≡ pointer_word p)) ⊎ (((pointer_word p == pointer_word p) ≡ false) × ((pointer_word p ≡ pointer_word p) → ⊥)) → ◌≡◌ {A = Option Pointer} (cond (pointer_word p == pointer_word p) (Some p) None) (Some p)
    same (inl t) = ap (λ b. cond b (Some p) None) t.0
    same (inr t) = absurd (t.1 refl)

-- a word that stands for a pointer is its word
pub pointer_only : (w : ℕ) (q : Pointer) → pointer_in w ≡ Some q → IsPointer q × (pointer_word q ≡ w)
unfolding pointer_in
pointer_only w q e = by (named_in w) e
  where
    chosen : (b : Bool) (p : Pointer) → ◌≡◌ {A = Option Pointer} (cond b (Some p) None) (Some q) → (b ≡ true) × (p ≡ q)
    chosen true p h = (refl, cc h)
    chosen false p h = absurd (cc h)

    same_word : (p : Pointer) → (pointer_word p == w) ≡ true → pointer_word p ≡ w
    same_word p h = elim (eqb_tells (pointer_word p) w) [ inl t ↦ t.1 | inr t ↦ absurd (let z : false ≡ true = sym t.0 ∙ h in cc z) ]

    by : (p : Pointer) → checked w p ≡ Some q → IsPointer q × (pointer_word q ≡ w)
    by p h =
        let x = chosen (fits_word p && (pointer_word p == w)) p h in
        let y = both (fits_word p) (pointer_word p == w) x.0 in
        subst (λ (r : Pointer). IsPointer r × (pointer_word r ≡ w)) x.1 (fits_is p y.0, same_word p y.1)

-- what reads each pointer from its word, and nothing else, is this
pub pointer_read : (w : ℕ) (o : Option Pointer) → ((p : Pointer) → IsPointer p → pointer_word p ≡ w → o ≡ Some p) → IfSome o (λ p. IsPointer p × (pointer_word p ≡ w)) → o ≡ pointer_in w
pointer_read w (Some p) read only = sym (pointer_back p only.0) ∙ ap pointer_in only.1
pointer_read w None read only = by (pointer_in w) refl
  where
    by : (o : Option Pointer) → pointer_in w ≡ o → None ≡ pointer_in w
    by None e = sym e
    by (Some q) e = let x = pointer_only w q e in absurd (let z : ◌≡◌ {A = Option Pointer} None (Some q) = read q x.0 x.1 in cc z)
