-- The canonical line of an event spells it.
use Rattle.std.proofs.Common.{◌≡◌, inl, inr, ℕ, ◌^◌, ◌<◌, ◌≤◌, List, [], ◌∷◌, length, take, decimal, Bool, true, false, if◌then◌else◌, ◌==◌, ◌||◌, nat_lt, refl, subst, arith, lit<, All}
use Rattle.std.specs.List.{flat_map}
use Rattle.std.proofs.lemmas.Bool.Decides.{nat_tests}
use Rattle.std.proofs.lemmas.List.Elements.{All-head, All-tail, All-take}
use Rattle.word36.specs.Octal.{octal_padded}
use Rattle.word36.proofs.OctalLemmas.{digits-octal_padded, length-octal_padded, octal_value-octal_padded}
use Rattle.machine_names.specs.declared.names.Tty.{Tty}
use Rattle.script_texts.specs.declared.event.Event.{Event}
use Rattle.script_texts.specs.declared.event.Event.TheVariants.{Login, TypeIn, File, Words, Poke, Start, Run, Tick, Evict, Drum, Auto, Examine, Forks, Page, Trace}
use Rattle.script_texts.specs.Limits.{FitsEvent}
use Rattle.machine_names.specs.Bounds.{IsTerminal, IsAddress}
use Rattle.script_texts.specs.Script.{IsDecimal, IsOctal, IsTty, Spells, Types, TypesOne, WordFields}
use Rattle.script_texts.specs.Texts.{escaped, field, line_of, octal}
use Rattle.script_lang.proofs.Spellings.{one_event, spelled_short}
use Rattle.script_lang.proofs.CanonicalDigits.{is_decimal, is_octal}

-- a terminal's digits
is_tty : (t : Tty) → IsTerminal t → IsTty (decimal t.0) t
is_tty t low = (is_decimal 2 t.0 (lit< tt) (omega (arith, low)) (omega (arith, low)), low)

is_address : (a : ℕ) → IsAddress a → IsOctal 6 (octal a) a
is_address a low = is_octal 6 a (lit< tt) (omega (arith, low)) (omega (arith, low))

is_word : (w : ℕ) → w < 2 ^ 36 → IsOctal 12 (octal w) w
is_word w low = is_octal 12 w (lit< tt) (omega (arith, low)) (omega (arith, low))

is_within : (n : ℕ) → n < 512 → IsOctal 3 (octal n) n
is_within n low = is_octal 3 n (lit< tt) (omega (arith, low)) (omega (arith, low))

is_count : (n : ℕ) → n < 10000000 → IsDecimal 7 (decimal n) n
is_count n low = is_decimal 7 n (lit< tt) (omega (arith, low)) (omega (arith, low))

is_serial : (n : ℕ) → n < 1000000 → IsDecimal 6 (decimal n) n
is_serial n low = is_decimal 6 n (lit< tt) (omega (arith, low)) (omega (arith, low))

types_at : (b : Bool) (c : ℕ) → c < 128 → (nat_lt c 32 || nat_lt 126 c || (c == 92)) ≡ b → TypesOne (if b then 92 ∷ octal_padded 3 c else c ∷ []) c
types_at true c low is =
    let long = length-octal_padded 3 c in
    inr (octal_padded 3 c, refl, long, ((omega (arith, long), omega (arith, long), digits-octal_padded 3 c), octal_value-octal_padded 3 c (omega (arith, low))), low)
types_at false c low is = inl (refl, grind (arith, nat_tests), grind (arith, nat_tests), grind (arith, nat_tests))

types : (cs : List ℕ) → All (λ c. c < 128) cs → Types (flat_map escaped cs) cs
types [] low = refl
types (c ∷ cs) low =
    (escaped c, flat_map escaped cs, refl, types_at (nat_lt c 32 || nat_lt 126 c || (c == 92)) c (All-head (λ k. k < 128) c cs low) refl, types cs (All-tail (λ k. k < 128) c cs low))

word_fields : (ws : List ℕ) → All (λ w. w < 2 ^ 36) ws → WordFields (flat_map (λ w. field (octal w)) ws) ws
word_fields [] low = refl
word_fields (w ∷ ws) low =
    (octal w, flat_map (λ v. field (octal v)) ws, refl, is_word w (All-head (λ v. v < 2 ^ 36) w ws low), word_fields ws (All-tail (λ v. v < 2 ^ 36) w ws low))

pub spells : (e : Event) → FitsEvent e → Spells (line_of e) e
spells (Login t user) h = (decimal t.0, refl, is_tty t h.0, h.1)
spells (TypeIn t text) h = (decimal t.0, flat_map escaped text, refl, is_tty t h.0, types text h.3, h.1, h.2, h.4)
spells (File name) h = (refl, h)
spells (Words name page offset row) h = (
  octal page,
  octal offset,
  flat_map (λ w. field (octal w)) (take row.count row.words),
  refl,
  h.0,
  is_within page h.1,
  is_within offset (omega (arith, h.2.some, h.2.within)),
  word_fields (take row.count row.words) (All-take (λ w. w < 2 ^ 36) row.count row.words h.2.words),
  h.2,
)
spells (Poke t address word) h = (decimal t.0, octal address, octal word, refl, is_tty t h.0, is_address address h.1, is_word word h.2)
spells (Start t address) h = (decimal t.0, octal address, refl, is_tty t h.0, is_address address h.1)
spells (Run n) h = (decimal n, refl, is_count n (omega (arith, h.1)), h.0, h.1)
spells Tick h = refl
spells (Evict n) h = (decimal n, refl, is_count n h)
spells (Drum n) h = (decimal n, refl, is_count n h)
spells (Auto on) h = refl
spells (Examine t serial address) h =
    (decimal t.0, decimal serial, octal address, refl, is_tty t h.0, is_serial serial h.1, is_address address h.2)
spells (Forks t) h = (decimal t.0, refl, is_tty t h)
spells (Page name page) h = (octal page, refl, h.0, is_within page h.1)
spells (Trace on) h = refl

-- so it is no other's, and no longer than a line
pub same_event : (e f : Event) → FitsEvent e → FitsEvent f → line_of e ≡ line_of f → e ≡ f
same_event e f p q same = one_event (line_of f) e f (subst (λ l. Spells l e) same (spells e p)) (spells f q)

pub short : (e : Event) → FitsEvent e → length (line_of e) ≤ 256
short e h = spelled_short (line_of e) e (spells e h)
