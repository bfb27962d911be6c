-- The fields of a line: each kind of field has no space and one value, so a text begins with one.
use Rattle.std.proofs.Common.{◌≡◌, inl, inr, ℕ, ◌≤◌, ◌<◌, ◌^◌, List, [], ◌∷◌, ◌++◌, length, take, drop, Bool, true, false, refl, sym, ◌∙◌, ap, subst, arith, lit<, All}
use Rattle.std.proofs.Math.Nat.{pow-le-pow_right}
use Rattle.std.proofs.lemmas.List.{append-nil, drop_all, drop_at, take-append-drop, take_all, take_at}
use Rattle.std.proofs.lemmas.List.Elements.{All-weaker, All-cons, All-nil, All-append}
use Rattle.word36.proofs.OctalLemmas.{octal_value-below}
use Rattle.word36.specs.Octal.{AreOctalDigits}
use Rattle.machine_names.specs.declared.names.Tty.{Tty}
use Rattle.machine_names.specs.Bounds.{IsFileName, IsNameCode, is_name_code}
use Rattle.script_texts.specs.Script.{IsDigit, IsDecimal, IsOctal, IsTty}
use Rattle.script_texts.specs.Texts.{field, on_or_off}
use Rattle.script_lang.specs.Fields.{Begins, BeginsNot, IsBehind, IsCut, IsHead, Lacks}
use Rattle.script_lang.proofs.Numbers.{decimal_value-most}
use Rattle.line_buffer.proofs.Splits.{IsNot, one_split, no_split}

-- digits are no byte below them
pub digits_lack : (c : ℕ) → c < 48 → (xs : List ℕ) → All IsDigit xs → Lacks c xs
digits_lack c low xs h = All-weaker IsDigit (IsNot c) (λ d is e. omega (arith, is.0, low, e)) xs h

pub octal_lacks : (c : ℕ) → c < 48 → (xs : List ℕ) → AreOctalDigits xs → Lacks c xs
octal_lacks c low [] h = All-nil (IsNot c)
octal_lacks c low (x ∷ xs) h = All-cons (IsNot c) x xs (λ e. omega (arith, h.0, low, e)) (octal_lacks c low xs h.2)

pub octal_below : (most : ℕ) (a : List ℕ) (n : ℕ) → IsOctal most a n → n < 8 ^ most
octal_below most a n h =
    let value = octal_value-below a h.0.2 in
    let larger : 8 ^ length a ≤ 8 ^ most = pow-le-pow_right (lit< tt) h.0.1 in
    omega (arith, h.1)

pub decimal_below : (most : ℕ) (a : List ℕ) (n : ℕ) → IsDecimal most a n → n < 10 ^ most
decimal_below most a n h = let value = decimal_value-most most a h.2 h.1 in omega (arith, h.3)

-- a character of a name is no other than these
pub name_lacks : (c : ℕ) → is_name_code c ≡ false → (xs : List ℕ) → All IsNameCode xs → Lacks c xs
name_lacks c none xs h = All-weaker IsNameCode (IsNot c) (λ d is e. absurd (cc (is, none, ap is_name_code e))) xs h

-- a kind of field has no space and one value
pub record IsField {V : Type 0} (Is : List ℕ → V → Type 0) : Type 0 where
  pub plain : (a : List ℕ) (v : V) → Is a v → Lacks 32 a
  pub once : (a : List ℕ) (v w : V) → Is a v → Is a w → v ≡ w

pub decimal_field : (most : ℕ) → IsField (IsDecimal most)
decimal_field most = record { plain = λ a n h. digits_lack 32 (lit< tt) a h.2; once = λ a m n p q. sym p.3 ∙ q.3 }

pub octal_field : (most : ℕ) → IsField (IsOctal most)
octal_field most = record { plain = λ a n h. octal_lacks 32 (lit< tt) a h.0.2; once = λ a m n p q. sym p.1 ∙ q.1 }

same_tty : (t u : Tty) → t.0 ≡ u.0 → t ≡ u
same_tty t u same i = record { 0 = same i }

pub tty_field : IsField IsTty
tty_field = record { plain = λ a t h. digits_lack 32 (lit< tt) a h.0.2; once = λ a t u p q. same_tty t u (sym p.0.3 ∙ q.0.3) }

-- nor is the full name of a file any byte below a hyphen
pub file_lacks : (c : ℕ) → is_name_code c ≡ false → c < 45 → (name : List ℕ) → IsFileName name → Lacks c name
file_lacks c none low name h =
    let part = name_lacks c none in
    let extension : Lacks c (46 ∷ h.extension) = All-cons (IsNot c) 46 h.extension (λ e. omega (arith, low, e)) (part h.extension h.extension_fits) in
    let file : Lacks c (62 ∷ (h.stem ++ 46 ∷ h.extension)) =
    All-cons (IsNot c) 62 (h.stem ++ 46 ∷ h.extension) (λ e. omega (arith, low, e)) (All-append (IsNot c) h.stem (46 ∷ h.extension) (part h.stem h.stem_fits) extension) in
    subst (Lacks c) (sym h.spelled)
    (All-cons (IsNot c) 60 (h.dir ++ 62 ∷ (h.stem ++ 46 ∷ h.extension)) (λ e. omega (arith, low, e)) (All-append (IsNot c) h.dir (62 ∷ (h.stem ++ 46 ∷ h.extension)) (part h.dir h.dir_fits.2) file))

-- a field that is the full name of a file
abbrev pub IsNamed : List ℕ → List ℕ → Type 0
IsNamed text name = (text ≡ name) × IsFileName name

pub named_field : IsField IsNamed
named_field = record { plain = λ a name h. subst (Lacks 32) (sym h.0) (file_lacks 32 refl (lit< tt) name h.1); once = λ a m n p q. sym p.0 ∙ q.0 }

pub switch_once : (on off : Bool) → on_or_off on ≡ on_or_off off → on ≡ off
switch_once true true h = refl
switch_once true false h = cc h
switch_once false true h = cc h
switch_once false false h = refl

module _ {V : Type 0} (Is : List ℕ → V → Type 0) where
  -- a text without a space begins with no field
  pub uncut : (text : List ℕ) → Lacks 32 text → BeginsNot Is text
  uncut text lacks v rest b = no_split 32 text b.front rest lacks b.whole

  pub cut_begins : (text front rest : List ℕ) (v : V) → IsCut 32 text front rest → Is front v → Begins Is text v rest
  cut_begins text front rest v cut is = record { front = front; whole = cut.whole; is = is }

module _ {V : Type 0} {Is : List ℕ → V → Type 0} (kind : IsField Is) where
  -- what stands before the first space is no such field
  pub cut_not : (text front rest : List ℕ) → IsCut 32 text front rest → ((v : V) → Is front v → ⊥) → BeginsNot Is text
  cut_not text front rest cut none v more b =
      let same = one_split 32 front b.front rest more cut.first (kind.plain b.front v b.is) (sym cut.whole ∙ b.whole) in
      none v (subst (λ a. Is a v) (sym same.0) b.is)

  -- the same text begins with one value, and has one rest
  pub begins_once : (r s : List ℕ) (v w : V) (x y : List ℕ) → r ≡ s → Begins Is r v x → Begins Is s w y → (v ≡ w) × (x ≡ y)
  begins_once r s v w x y same b c =
      let split = one_split 32 b.front c.front x y (kind.plain b.front v b.is) (kind.plain c.front w c.is) (sym b.whole ∙ (same ∙ c.whole)) in
      (kind.once c.front v w (subst (λ a. Is a v) split.0 b.is) c.is, split.1)

  -- what holds behind one value holds behind the other
  pub moved : (r : List ℕ) (v w : V) (x y : List ℕ) → Begins Is r v x → Begins Is r w y → (P : List ℕ → Type 0) → P y → P x
  moved r v w x y b c P h = subst P (sym (begins_once r r v w x y refl b c).1) h

-- what stands before the first space is the full name of a file
pub cut_named : (text front rest name : List ℕ) → IsCut 32 text front rest → (name ≡ front) × IsFileName front → Begins IsNamed text name rest
cut_named text front rest name cut is = cut_begins IsNamed text front rest name cut (sym is.0, subst IsFileName (sym is.0) is.1)

pub no_name : (text front rest : List ℕ) → IsCut 32 text front rest → (IsFileName front → ⊥) → BeginsNot IsNamed text
no_name text front rest cut none = cut_not named_field text front rest cut (λ name is. none (subst IsFileName (sym is.0) is.1))

heads : (a b x y : List ℕ) → Lacks 32 a → Lacks 32 b → IsBehind x → IsBehind y → a ++ x ≡ b ++ y → (a ≡ b) × (x ≡ y)
heads a b x y p q (inl m) (inl n) same = (sym (append-nil a) ∙ (ap (λ l. a ++ l) (sym m) ∙ (same ∙ (ap (λ l. b ++ l) n ∙ append-nil b))), m ∙ sym n)
heads a b x y p q (inl m) (inr n) same = absurd (no_split 32 a b n.0 p (sym (append-nil a) ∙ (ap (λ l. a ++ l) (sym m) ∙ (same ∙ ap (λ l. b ++ l) n.1))))
heads a b x y p q (inr m) (inl n) same = absurd (no_split 32 b a m.0 q (sym (append-nil b) ∙ (ap (λ l. b ++ l) (sym n) ∙ (sym same ∙ ap (λ l. a ++ l) m.1))))
heads a b x y p q (inr m) (inr n) same =
    let split = one_split 32 a b m.0 n.0 p q (ap (λ l. a ++ l) (sym m.1) ∙ (same ∙ ap (λ l. b ++ l) n.1)) in
    (split.0, m.1 ∙ (ap field split.1 ∙ sym n.1))

-- what stands before the first space of a text, and what from it on, is one thing
pub head_once : (r s a b x y : List ℕ) → r ≡ s → IsHead r a x → IsHead s b y → (a ≡ b) × (x ≡ y)
head_once r s a b x y same p q = heads a b x y p.plain q.plain p.behind q.behind (sym p.whole ∙ (same ∙ q.whole))

-- what a cut at the first space leaves
pub cut_head : (text front rest : List ℕ) → IsCut 32 text front rest → IsHead text (take (length front) text) (drop (length front) text)
cut_head text front rest cut =
    let before : take (length front) text ≡ front = ap (λ l. take (length front) l) cut.whole ∙ take_at front (field rest) (length front) refl in
    let behind : drop (length front) text ≡ field rest = ap (λ l. drop (length front) l) cut.whole ∙ drop_at front (field rest) (length front) refl in
    record { whole = sym (take-append-drop (length front) text); plain = subst (Lacks 32) (sym before) cut.first; behind = inr (rest, behind) }

pub whole_head : (text : List ℕ) → Lacks 32 text → IsHead text (take (length text) text) (drop (length text) text)
whole_head text lacks = record {
  whole = sym (take-append-drop (length text) text);
  plain = subst (Lacks 32) (sym (take_all (length text) text (omega arith))) lacks;
  behind = inl (drop_all (length text) text (omega arith));
}

pub split_head : (text front rest : List ℕ) (n : ℕ) → front ≡ take n text → rest ≡ drop n text → IsHead text (take n text) (drop n text) → IsHead text front rest
split_head text front rest n before behind head = subst (λ a. IsHead text a rest) (sym before) (subst (λ x. IsHead text (take n text) x) (sym behind) head)
