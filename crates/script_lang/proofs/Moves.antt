-- Each stage of a generated script gives its event, and the next stage.
use Rattle.std.proofs.Common.{◌≡◌, ◌≢◌, ℕ, suc, ◌+◌, ◌-◌, ◌*◌, ◌%◌, ◌^◌, ◌<◌, [], ◌∷◌, ◌++◌, get_or, drop, true, refl, sym, ◌∙◌, ap, arith, lit<, lit≤, All}
use Rattle.std.specs.Prelude.{codes, replicate, ◌==◌, nat_lt}
use Rattle.std.proofs.Math.Seq.{drop-cons}
use Rattle.std.proofs.lemmas.Bool.{eqb-true, ltb-true}
use Rattle.std.proofs.lemmas.List.Elements.{All-cons, All-weaker}
use Rattle.std.proofs.lemmas.List.Sums.{AllPass-from_list_all}
use Rattle.script_texts.specs.declared.event.Event.{Event}
use Rattle.script_texts.specs.declared.event.Event.TheVariants.{Login, File, Words, Poke, Start as Starts, Run, Tick, Evict, Forks}
use Rattle.machine_names.specs.Bounds.{IsDirName, IsFileName, is_name_code}
use Rattle.script_texts.specs.Limits.{FitsRow}
use Rattle.machine_names.specs.FileNames.{is_file_name}
use Rattle.script_lang.specs.Generator.{big_events, drawn, first_number, generated_file, next_number, one_word, pokes, program_words, terminal}
use Rattle.script_lang.specs.Stages.{Moves, behind_code, evicting, filing, loading, rest_of}
use Rattle.script_lang.specs.declared.stages.Loading.TheVariants.{Code, Address, Turns, Stride, Start}
use Rattle.script_lang.specs.declared.stages.ScriptStage.TheVariants as at
use Rattle.script_lang.proofs.FullNames.{named_is}
use Rattle.script_lang.proofs.Generated.{begun, evicting-first, evicting-none, fills-first, fills-none, loading-none, logins-first, logins-none, shown-first, shown-none}

-- the script begins with the first login
pub opens : (seed : ℕ) → rest_of (at.Login 0) (first_number seed) ≡ big_events seed
unfolding rest_of big_events
opens seed = refl

pub over : (x : ℕ) → rest_of at.Over x ≡ []
unfolding rest_of
over x = refl

-- the names in it
user_fits : IsDirName (codes "U")
user_fits = (lit≤ tt, lit≤ tt, AllPass-from_list_all is_name_code (codes "U") refl)

is_name : is_file_name generated_file ≡ true
unfolding is_file_name
is_name = refl

file_fits : IsFileName generated_file
file_fits = named_is generated_file is_name

zeros : All (λ (w : ℕ). w ≡ 0) (replicate 7 0)
zeros = All-weaker (λ (w : ℕ). (w == 0) ≡ true) (λ w. w ≡ 0) (λ w h. eqb-true w 0 h) (replicate 7 0) (AllPass-from_list_all (λ w. w == 0) (replicate 7 0) refl)

row_fits : (w : ℕ) → w < 2 ^ 36 → FitsRow 0 (one_word w)
row_fits w small = record {
  some = lit≤ tt;
  most = lit≤ tt;
  room = refl;
  words = All-cons (λ w. w < 2 ^ 36) w (replicate 7 0) small (All-weaker (λ w. w ≡ 0) (λ w. w < 2 ^ 36) (λ w h. omega (arith, h)) (replicate 7 0) zeros);
  rest = zeros;
  within = lit≤ tt;
}

module _ (t x : ℕ) where
  pub login_last : t ≡ 7 → Moves (at.Login t) x (Login (terminal t) (codes "U")) at.MakeFile x
  unfolding rest_of
  login_last e = record {
    comes = ap (λ l. l ++ filing x) (logins-first t (8 - t) 0 (omega arith)) ∙ ap (λ l. Login (terminal t) (codes "U") ∷ (l ++ filing x)) (logins-none (t + 1));
    there = tt;
    fits = (omega arith, user_fits);
  }

  pub login_next : t < 8 → t ≢ 7 → Moves (at.Login t) x (Login (terminal t) (codes "U")) (at.Login (t + 1)) x
  unfolding rest_of
  login_next h ne = record {
    comes = ap (λ l. l ++ filing x) (logins-first t (8 - t) (8 - (t + 1)) (omega arith));
    there = omega arith;
    fits = (omega arith, user_fits);
  }

  pub fill_last : t ≡ 63 → Moves (at.Fill t) x (Words generated_file t 0 (one_word (t + 1))) (at.Load 0 (Code 0)) x
  unfolding rest_of
  fill_last e = record {
    comes = ap (λ l. l ++ loading 0 8 x) (fills-first t (64 - t) 0 (omega arith))
        ∙ (ap (λ l. Words generated_file t 0 (one_word (t + 1)) ∷ (l ++ loading 0 8 x)) (fills-none (t + 1))
        ∙ ap (λ l. Words generated_file t 0 (one_word (t + 1)) ∷ l) (begun 0 7 x refl refl));
    there = (lit< tt, lit< tt);
    fits = (file_fits, omega arith, row_fits (t + 1) (omega arith));
  }

  pub fill_next : t < 64 → t ≢ 63 → Moves (at.Fill t) x (Words generated_file t 0 (one_word (t + 1))) (at.Fill (t + 1)) x
  unfolding rest_of
  fill_next h ne = record {
    comes = ap (λ l. l ++ loading 0 8 x) (fills-first t (64 - t) (64 - (t + 1)) (omega arith));
    there = omega arith;
    fits = (file_fits, omega arith, row_fits (t + 1) (omega arith));
  }

  pub address_moves : t < 8 → Moves (at.Load t Address) x (Poke (terminal t) 2 0o20) (at.Load t Turns) x
  unfolding rest_of
  address_moves h = record { comes = refl; there = (h, tt); fits = (omega arith, lit< tt, lit< tt) }

  pub turns_move : (r : ℕ) → t < 8 → r ≡ drawn 100 x → r < 100 → Moves (at.Load t Turns) x (Poke (terminal t) 3 (300 + r)) (at.Load t Stride) (next_number x)
  unfolding rest_of
  turns_move r h e small = record {
    comes = ap (λ n. Poke (terminal t) 3 (300 + n) ∷ rest_of (at.Load t Stride) (next_number x)) (sym e);
    there = (h, tt);
    fits = (omega arith, lit< tt, omega arith);
  }

  pub stride_moves : (r : ℕ) → t < 8 → r ≡ drawn 32 x → r < 32 → Moves (at.Load t Stride) x (Poke (terminal t) 4 (2048 * (2 * r + 1))) (at.Load t Start) (next_number x)
  unfolding rest_of
  stride_moves r h e small = record {
    comes = ap (λ n. Poke (terminal t) 4 (2048 * (2 * n + 1)) ∷ rest_of (at.Load t Start) (next_number x)) (sym e);
    there = (h, tt);
    fits = (omega arith, lit< tt, omega arith);
  }

  pub start_last : t ≡ 7 → Moves (at.Load t Start) x (Starts (terminal t) 0o100) (at.Evict 0) x
  unfolding rest_of
  start_last e = record {
    comes = let none : 7 - t ≡ 0 = omega arith in ap (λ n. Starts (terminal t) 0o100 ∷ loading (t + 1) n x) none ∙ ap (λ l. Starts (terminal t) 0o100 ∷ l) (loading-none (t + 1) x);
    there = lit< tt;
    fits = (omega arith, lit< tt);
  }

  pub start_next : t < 8 → t ≢ 7 → Moves (at.Load t Start) x (Starts (terminal t) 0o100) (at.Load (t + 1) (Code 0)) x
  unfolding rest_of
  start_next h ne = record {
    comes = let more : 7 - t ≡ 8 - (t + 1) = omega arith in
        ap (λ n. Starts (terminal t) 0o100 ∷ loading (t + 1) n x) more ∙ ap (λ l. Starts (terminal t) 0o100 ∷ l) (begun (t + 1) (7 - (t + 1)) x (omega arith) refl);
    there = (omega arith, lit< tt);
    fits = (omega arith, lit< tt);
  }

  pub evict_moves : (r : ℕ) → t < 40 → r ≡ drawn 160 x → r < 160 → Moves (at.Evict t) x (Evict r) (at.Run t) (next_number x)
  unfolding rest_of
  evict_moves r h e small = record {
    comes = evicting-first 0 (40 - t) (39 - t) (omega arith) x ∙ ap (λ n. Evict n ∷ rest_of (at.Run t) (next_number x)) (sym e);
    there = h;
    fits = omega arith;
  }

  pub run_last : t ≡ 39 → Moves (at.Run t) x (Run 500) at.Tick x
  unfolding rest_of
  run_last e = record {
    comes = let none : 39 - t ≡ 0 = omega arith in ap (λ n. Run 500 ∷ evicting n x) none ∙ ap (λ l. Run 500 ∷ l) (evicting-none x);
    there = tt;
    fits = (lit≤ tt, lit≤ tt);
  }

  pub run_next : t < 40 → t ≢ 39 → Moves (at.Run t) x (Run 500) (at.Evict (t + 1)) x
  unfolding rest_of
  run_next h ne = record {
    comes = let more : 39 - t ≡ 40 - (t + 1) = omega arith in ap (λ n. Run 500 ∷ evicting n x) more;
    there = omega arith;
    fits = (lit≤ tt, lit≤ tt);
  }

  pub show_last : t ≡ 7 → Moves (at.Show t) x (Forks (terminal t)) at.Over x
  unfolding rest_of
  show_last e = record { comes = shown-first t (8 - t) 0 (omega arith) ∙ ap (λ l. Forks (terminal t) ∷ l) (shown-none (t + 1)); there = tt; fits = omega arith }

  pub show_next : t < 8 → t ≢ 7 → Moves (at.Show t) x (Forks (terminal t)) (at.Show (t + 1)) x
  unfolding rest_of
  show_next h ne = record { comes = shown-first t (8 - t) (8 - (t + 1)) (omega arith); there = omega arith; fits = omega arith }

pub file_moves : (x : ℕ) → Moves at.MakeFile x (File generated_file) (at.Fill 0) x
unfolding rest_of
file_moves x = record { comes = refl; there = lit< tt; fits = file_fits }

pub tick_moves : (x : ℕ) → Moves at.Tick x Tick (at.Show 0) x
unfolding rest_of
tick_moves x = record { comes = refl; there = lit< tt; fits = tt }

-- a word of the program
word_small : (k : ℕ) → k < 6 → get_or program_words k 0 < 2 ^ 36
word_small k h = ltb-true (get_or program_words k 0) (2 ^ 36) (AllPass-from_list_all (λ w. nat_lt w (2 ^ 36)) program_words refl k 0 h)

module _ (t k w x : ℕ) (is : w ≡ get_or program_words k 0 % 2 ^ 36) (h : t < 8) (low : k < 6) where
  abbrev this : Event
  this = Poke (terminal t) (0o100 + k) w

  first_word : pokes t (0o100 + k) (drop k program_words) ≡ this ∷ pokes t (0o100 + (k + 1)) (drop (k + 1) program_words)
  first_word =
      let small = word_small k low in
      let same : get_or program_words k 0 ≡ w = omega arith in
      let on : 0o100 + k + 1 ≡ 0o100 + (k + 1) = omega arith in
      let one : suc k ≡ k + 1 = omega arith in
      ap (pokes t (0o100 + k)) (drop-cons program_words k 0 low)
      ∙ (ap (λ v. Poke (terminal t) (0o100 + k) v ∷ pokes t (0o100 + k + 1) (drop (suc k) program_words)) same
      ∙ (ap (λ a. this ∷ pokes t a (drop (suc k) program_words)) on
      ∙ ap (λ n. this ∷ pokes t (0o100 + (k + 1)) (drop n program_words)) one))

  word_fits : w < 2 ^ 36
  word_fits = let small = word_small k low in omega arith

  pub code_next : k ≢ 5 → Moves (at.Load t (Code k)) x this (at.Load t (Code (k + 1))) x
  unfolding rest_of
  code_next ne = record {
    comes = ap (λ l. l ++ behind_code t (7 - t) x) first_word;
    there = (h, omega arith);
    fits = (omega arith, omega arith, word_fits);
  }

  pub code_last : k ≡ 5 → Moves (at.Load t (Code k)) x this (at.Load t Address) x
  unfolding rest_of
  code_last e = record {
    comes = ap (λ l. l ++ behind_code t (7 - t) x) first_word
        ∙ ap (λ n. this ∷ (pokes t (0o100 + (n + 1)) (drop (n + 1) program_words) ++ behind_code t (7 - t) x)) e;
    there = (h, tt);
    fits = (omega arith, omega arith, word_fits);
  }
