-- The lines that put words are lines of a script.
use Rattle.std.proofs.Common.{◌≡◌, ℕ, suc, ◌+◌, ◌*◌, ◌<◌, ◌≤◌, List, [], ◌∷◌, ◌++◌, length, take, get_or, map, All, inl, refl, ◌∙◌, sym, ap, arith, codes, length-append}
use Rattle.std.proofs.lemmas.List.{map-append, take_all, take_more}
use Rattle.std.proofs.lemmas.List.Elements.{All-head, All-push, All-same, All-tail}
use Rattle.machine_names.specs.declared.names.Tty.{Tty}
use Rattle.script_texts.specs.Limits.{FitsEvent}
use Rattle.script_texts.specs.Script.{AreLines, Gives, GiveAll, IsScript, joined, most_bytes, turns_in}
use Rattle.script_texts.specs.Texts.{field, line_of}
use Rattle.script_lang.proofs.CanonicalPlain.{plain_line}
use Rattle.script_lang.proofs.CanonicalSpells.{short, spells}
use Rattle.asm_core.specs.declared.line.Placed.{Placed}
use Rattle.asm_console.specs.Lines.{event_of, events_of, lines_text, placed_line}

module _ (t : Tty) where
  -- the line of a word, without its line feed
  bare : Placed → List ℕ
  bare p = line_of (event_of t p)

  one_gives : (p : Placed) → FitsEvent (event_of t p) → Gives (bare p) (event_of t p ∷ [])
  unfolding bare
  one_gives p h =
      let e = event_of t p in
      (record { short = short e h; no_feed = plain_line e h }, inl (e, spells e h, refl))

  all_give : (program : List Placed) → All FitsEvent (events_of t program) → GiveAll (map bare program) (events_of t program)
  all_give [] h = refl
  all_give (p ∷ ps) h =
      (event_of t p ∷ [], events_of t ps, refl, one_gives p (All-head FitsEvent _ _ h), all_give ps (All-tail FitsEvent _ _ h))

  whole : (program : List Placed) → lines_text t program ≡ joined (map bare program)
  unfolding bare
  whole [] = refl
  whole (p ∷ ps) = ap (λ l. placed_line t p ++ l) (whole ps)

  many : (program : List Placed) → length (map bare program) ≡ length program
  many [] = refl
  many (p ∷ ps) = ap suc (many ps)

  pub lines_read : (program : List Placed) → All FitsEvent (events_of t program) → AreLines (lines_text t program) (length program) (events_of t program)
  lines_read program h = record { lines = map bare program; whole = whole program; many = many program; gives = all_give program h }

-- no word asks for a turn
pub no_turns : (t : Tty) (program : List Placed) → turns_in (events_of t program) ≡ 0
no_turns t [] = refl
no_turns t (p ∷ ps) = let rest = no_turns t ps in omega (arith, rest)

-- a line that puts a word has at most 28 bytes: its word, two digits, six and twelve, each behind a space, and the line feed
line_short : (t : Tty) (p : Placed) → FitsEvent (event_of t p) → length (placed_line t p) ≤ 28
line_short t p h =
    let (a, b, c, is, (decimal, _), octal, word) = spells (event_of t p) h in
    let whole = length-append (line_of (event_of t p)) (10 ∷ []) in
    let fields = length-append a (field b ++ field c) in
    let two = length-append (field b) (field c) in
    let line = ap length is in
    let front = length-append (codes "POKE ") (a ++ (field b ++ field c)) in
    omega (arith, whole, fields, two, line, front, decimal.1, octal.0.1, word.0.1)

pub lines_short : (t : Tty) (program : List Placed) → All FitsEvent (events_of t program) → length (lines_text t program) ≤ 28 * length program
lines_short t [] h = omega arith
lines_short t (p ∷ ps) h =
    let both = length-append (placed_line t p) (lines_text t ps) in
    let one = line_short t p (All-head FitsEvent _ _ h) in
    let rest = lines_short t ps (All-tail FitsEvent _ _ h) in
    omega (arith, both, one, rest)

pub lines_script : (t : Tty) (program : List Placed) → All FitsEvent (events_of t program) → 28 * length program ≤ most_bytes → IsScript (lines_text t program) (events_of t program)
lines_script t program h few = record {
  count = length program;
  lines = lines_read t program h;
  few = let none = no_turns t program in omega (arith, none);
  short = let all = lines_short t program h in omega (arith, all, few);
}

-- the events of one word more
pub fits_more : (t : Tty) (program : List Placed) (i : ℕ) (d : Placed) → i < length program → All FitsEvent (events_of t (take i program)) → FitsEvent (event_of t (get_or program i d)) → All FitsEvent (events_of t (take (i + 1) program))
fits_more t program i d h all one =
    let more = ap (events_of t) (take_more program i d h) ∙ map-append (event_of t) (take i program) (get_or program i d ∷ []) in
    All-same FitsEvent _ _ more (All-push FitsEvent (events_of t (take i program)) (event_of t (get_or program i d)) all one)

pub fits_all : (t : Tty) (program : List Placed) (n : ℕ) → length program ≤ n → All FitsEvent (events_of t (take n program)) → All FitsEvent (events_of t program)
fits_all t program n h all = All-same FitsEvent _ _ (ap (events_of t) (sym (take_all n program h))) all
