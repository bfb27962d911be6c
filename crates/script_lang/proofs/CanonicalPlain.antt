-- No line feed is in a canonical line.
use Rattle.std.proofs.Common.{◌≡◌, ◌≢◌, ℕ, ◌^◌, ◌<◌, List, [], ◌∷◌, ◌++◌, take, codes, decimal, Bool, true, false, if◌then◌else◌, ◌==◌, ◌||◌, nat_lt, refl, arith, lit<, All}
use Rattle.std.specs.List.{flat_map, list_all}
use Rattle.std.proofs.lemmas.Bool.Decides.{nat_tests}
use Rattle.std.proofs.lemmas.List.Elements.{All-append, All-cons, All-nil, All-weaker}
use Rattle.std.proofs.lemmas.List.Sums.{AllPass-from_list_all}
use Rattle.word36.specs.Octal.{octal_padded}
use Rattle.word36.proofs.OctalLemmas.{digits-octal_padded}
use Rattle.machine_names.specs.declared.names.Tty.{Tty}
use Rattle.script_texts.specs.declared.event.Event.{Event}
use Rattle.script_texts.specs.declared.event.Event.TheVariants.{Login, TypeIn, File, Words, Poke, Start, Run, Tick, Evict, Drum, Auto, Examine, Forks, Page, Trace}
use Rattle.script_texts.specs.Limits.{FitsEvent}
use Rattle.machine_names.specs.Bounds.{IsTerminal}
use Rattle.script_texts.specs.Script.{HasNoFeed}
use Rattle.script_texts.specs.Texts.{escaped, field, line_of, octal, on_or_off}
use Rattle.script_lang.specs.Fields.{Lacks}
use Rattle.script_lang.proofs.CanonicalDigits.{decimal_digits, digits-octal}
use Rattle.script_lang.proofs.Fronts.{digits_lack, file_lacks, name_lacks, octal_lacks}
use Rattle.line_buffer.proofs.Splits.{IsNot}

-- a byte below the digits is none of them
pub decimal_without : (c n : ℕ) → c < 48 → n < 2 ^ 64 → Lacks c (decimal n)
decimal_without c n low small = let h = decimal_digits n small in digits_lack c low (decimal n) h.1

abbrev Plain : List ℕ → Type 0
Plain text = All (IsNot 10) text

pub plain_word : (word text : List ℕ) → list_all (λ c. nat_lt 10 c) word ≡ true → Plain text → Plain (word ++ text)
plain_word word text h p = All-append (IsNot 10) word text (All-weaker (λ c. nat_lt 10 c ≡ true) (IsNot 10) (λ c is same. above c is same) word (AllPass-from_list_all (λ c. nat_lt 10 c) word h)) p
  where
    above : (c : ℕ) → nat_lt 10 c ≡ true → c ≢ 10
    above c is same = grind (arith, nat_tests)

pub plain_field : (text : List ℕ) → Plain text → Plain (field text)
plain_field text p = All-cons (IsNot 10) 32 text (λ same. omega (arith, same)) p

pub plain_then : (a b : List ℕ) → Plain a → Plain b → Plain (a ++ field b)
plain_then a b p q = All-append (IsNot 10) a (field b) p (plain_field b q)

escaped_at : (b : Bool) (c : ℕ) → (nat_lt c 32 || nat_lt 126 c || (c == 92)) ≡ b → Plain (if b then 92 ∷ octal_padded 3 c else c ∷ [])
escaped_at true c is = All-cons (IsNot 10) 92 (octal_padded 3 c) (λ same. omega (arith, same)) (octal_lacks 10 (lit< tt) (octal_padded 3 c) (digits-octal_padded 3 c))
escaped_at false c is = All-cons (IsNot 10) c [] (λ same. grind (arith, nat_tests)) (All-nil (IsNot 10))

plain_each : (f : ℕ → List ℕ) → ((c : ℕ) → Plain (f c)) → (cs : List ℕ) → Plain (flat_map f cs)
plain_each f each [] = All-nil (IsNot 10)
plain_each f each (c ∷ cs) = All-append (IsNot 10) (f c) (flat_map f cs) (each c) (plain_each f each cs)

plain_number : (n : ℕ) → n < 2 ^ 64 → Plain (decimal n)
plain_number n small = decimal_without 10 n (omega arith) small

plain_octal : (n : ℕ) → Plain (octal n)
plain_octal n = octal_lacks 10 (lit< tt) (octal n) (digits-octal n)

plain_tty : (t : Tty) → IsTerminal t → Plain (decimal t.0)
plain_tty t low = plain_number t.0 (omega (arith, low))

plain_switch : (on : Bool) → Plain (on_or_off on)
plain_switch true = plain_word (codes "ON") [] refl (All-nil (IsNot 10))
plain_switch false = plain_word (codes "OFF") [] refl (All-nil (IsNot 10))

pub plain_line : (e : Event) → FitsEvent e → HasNoFeed (line_of e)
plain_line (Login t user) h = plain_word (codes "LOGIN ") _ refl (plain_then (decimal t.0) user (plain_tty t h.0) (name_lacks 10 refl user h.1.2))
plain_line (TypeIn t text) h =
    plain_word (codes "TYPE ") _ refl (plain_then (decimal t.0) (flat_map escaped text) (plain_tty t h.0) (plain_each escaped (λ c. escaped_at (nat_lt c 32 || nat_lt 126 c || (c == 92)) c refl) text))
plain_line (File name) h = plain_word (codes "FILE ") name refl (file_lacks 10 refl (lit< tt) name h)
plain_line (Words name page offset row) h =
    let words = flat_map (λ w. field (octal w)) (take row.count row.words) in
    plain_word (codes "WORDS ") _ refl
    (plain_then name (octal page ++ (field (octal offset) ++ words)) (file_lacks 10 refl (lit< tt) name h.0)
    (plain_then (octal page) (octal offset ++ words) (plain_octal page)
    (All-append (IsNot 10) (octal offset) words (plain_octal offset) (plain_each (λ w. field (octal w)) (λ w. plain_field (octal w) (plain_octal w)) (take row.count row.words)))))
plain_line (Poke t address word) h =
    plain_word (codes "POKE ") _ refl (plain_then (decimal t.0) (octal address ++ field (octal word)) (plain_tty t h.0) (plain_then (octal address) (octal word) (plain_octal address) (plain_octal word)))
plain_line (Start t address) h = plain_word (codes "START ") _ refl (plain_then (decimal t.0) (octal address) (plain_tty t h.0) (plain_octal address))
plain_line (Run n) h = plain_word (codes "RUN ") (decimal n) refl (plain_number n (omega (arith, h.1)))
plain_line Tick h = plain_word (codes "TICK") [] refl (All-nil (IsNot 10))
plain_line (Evict n) h = plain_word (codes "EVICT ") (decimal n) refl (plain_number n (omega (arith, h)))
plain_line (Drum n) h = plain_word (codes "DRUM ") (decimal n) refl (plain_number n (omega (arith, h)))
plain_line (Auto on) h = plain_word (codes "AUTO ") (on_or_off on) refl (plain_switch on)
plain_line (Examine t serial address) h =
    plain_word (codes "EXAMINE ") _ refl
    (plain_then (decimal t.0) (decimal serial ++ field (octal address)) (plain_tty t h.0) (plain_then (decimal serial) (octal address) (plain_number serial (omega (arith, h.1))) (plain_octal address)))
plain_line (Forks t) h = plain_word (codes "FORKS ") (decimal t.0) refl (plain_tty t h)
plain_line (Page name page) h = plain_word (codes "PAGE ") _ refl (plain_then name (octal page) (file_lacks 10 refl (lit< tt) name h.0) (plain_octal page))
plain_line (Trace on) h = plain_word (codes "TRACE ") (on_or_off on) refl (plain_switch on)
