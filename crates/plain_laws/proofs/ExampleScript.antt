-- The script of the example has the example's events.
use Rattle.std.proofs.Common.{◌≡◌, ◌≢◌, ◌≤◌, inl, ℕ, List, [], ◌∷◌, length, Bool, true, false, not, ◌&&◌, ◌==◌, refl, arith, rules}
use Rattle.std.specs.Prelude.{codes, All, nat_le, nat_lt}
use Rattle.std.specs.List.{list_all}
use Rattle.std.proofs.lemmas.List.Sums.{AllPass-from_list_all}
use Rattle.machine_names.specs.declared.names.TheConstants.{TERMINALS}
use Rattle.word36.specs.Octal.{AreOctalDigits, octal_value}
use Rattle.script_texts.specs.declared.event.Event.{Event}
use Rattle.script_texts.specs.declared.event.Event.TheVariants.{Login, Poke, Start, Run}
use Rattle.machine_names.specs.Bounds.{is_name_code, IsDirName}
use Rattle.script_texts.specs.Script.{IsDigit, IsDecimal, IsOctal, IsTty, IsShort, Spells, Gives, IsScript, decimal_value}
use Rattle.plain_laws.specs.Example.{first_terminal, movei_word, pbout_word, haltf_word, example_events, example_script}

at_most : (a b : ℕ) → nat_le a b ≡ true → a ≤ b
at_most a b e = grind (arith, rules)

no_feed : (c : ℕ) → not (c == 10) ≡ true → c ≢ 10
no_feed c e = grind (arith, rules)

digit : (c : ℕ) → nat_le 48 c && nat_lt c 58 ≡ true → IsDigit c
digit c e = (grind (arith, rules), grind (arith, rules))

-- what each element passes holds of each
all_by : (p : ℕ → Bool) (P : ℕ → Type 0) → ((c : ℕ) → p c ≡ true → P c) → (xs : List ℕ) → list_all p xs ≡ true → All P xs
all_by p P f xs e = λ k d l. f _ (AllPass-from_list_all p xs e k d l)

octal_digits : (xs : List ℕ) → list_all (λ c. nat_le 48 c && nat_lt c 56) xs ≡ true → AreOctalDigits xs
octal_digits [] e = tt
octal_digits (c ∷ cs) e = (grind (arith, rules), grind (arith, rules), octal_digits cs (rest (nat_le 48 c && nat_lt c 56) (list_all (λ c. nat_le 48 c && nat_lt c 56) cs) e))
  where
    rest : (a b : Bool) → a && b ≡ true → b ≡ true
    rest true b e = e
    rest false b e = cc e

decimal_field : (most : ℕ) (text : List ℕ) (n : ℕ) → nat_le 1 (length text) ≡ true → nat_le (length text) most ≡ true → list_all (λ c. nat_le 48 c && nat_lt c 58) text ≡ true → decimal_value text ≡ n → IsDecimal most text n
decimal_field most text n some few digits value = (at_most _ _ some, at_most _ _ few, all_by (λ c. nat_le 48 c && nat_lt c 58) IsDigit digit text digits, value)

octal_field : (most : ℕ) (text : List ℕ) (n : ℕ) → nat_le 1 (length text) ≡ true → nat_le (length text) most ≡ true → list_all (λ c. nat_le 48 c && nat_lt c 56) text ≡ true → octal_value text ≡ n → IsOctal most text n
octal_field most text n some few digits value = ((at_most _ _ some, at_most _ _ few, octal_digits text digits), value)

short : (line : List ℕ) → nat_le (length line) 256 ≡ true → list_all (λ c. not (c == 10)) line ≡ true → IsShort line
short line few plain = record { short = at_most _ _ few; no_feed = all_by (λ c. not (c == 10)) (λ c. c ≢ 10) no_feed line plain }

gives : (line : List ℕ) (e : Event) → nat_le (length line) 256 ≡ true → list_all (λ c. not (c == 10)) line ≡ true → Spells line e → Gives line (e ∷ [])
gives line e few plain spelled = (short line few plain, inl (e, spelled, refl))

terminal : IsTty (codes "0") first_terminal
terminal = (decimal_field 2 (codes "0") 0 refl refl refl refl, at_most 1 TERMINALS refl)

user : IsDirName (codes "SMITH")
user = (at_most 1 5 refl, at_most 5 12 refl, AllPass-from_list_all is_name_code (codes "SMITH") refl)

line_1 : Gives (codes "LOGIN 0 SMITH") (Login first_terminal (codes "SMITH") ∷ [])
line_1 = gives (codes "LOGIN 0 SMITH") (Login first_terminal (codes "SMITH")) refl refl (codes "0", refl, terminal, user)

line_2 : Gives (codes "POKE 0 100 201040000101") (Poke first_terminal 64 movei_word ∷ [])
line_2 =
    gives (codes "POKE 0 100 201040000101") (Poke first_terminal 64 movei_word) refl refl (
      codes "0",
      codes "100",
      codes "201040000101",
      refl,
      terminal,
      octal_field 6 (codes "100") 64 refl refl refl refl,
      octal_field 12 (codes "201040000101") movei_word refl refl refl refl,
    )

line_3 : Gives (codes "POKE 0 101 104000000074") (Poke first_terminal 65 pbout_word ∷ [])
line_3 =
    gives (codes "POKE 0 101 104000000074") (Poke first_terminal 65 pbout_word) refl refl (
      codes "0",
      codes "101",
      codes "104000000074",
      refl,
      terminal,
      octal_field 6 (codes "101") 65 refl refl refl refl,
      octal_field 12 (codes "104000000074") pbout_word refl refl refl refl,
    )

line_4 : Gives (codes "POKE 0 102 104000000170") (Poke first_terminal 66 haltf_word ∷ [])
line_4 =
    gives (codes "POKE 0 102 104000000170") (Poke first_terminal 66 haltf_word) refl refl (
      codes "0",
      codes "102",
      codes "104000000170",
      refl,
      terminal,
      octal_field 6 (codes "102") 66 refl refl refl refl,
      octal_field 12 (codes "104000000170") haltf_word refl refl refl refl,
    )

line_5 : Gives (codes "START 0 100") (Start first_terminal 64 ∷ [])
line_5 = gives (codes "START 0 100") (Start first_terminal 64) refl refl (codes "0", codes "100", refl, terminal, octal_field 6 (codes "100") 64 refl refl refl refl)

line_6 : Gives (codes "RUN 5") (Run 5 ∷ [])
line_6 = gives (codes "RUN 5") (Run 5) refl refl (codes "5", refl, decimal_field 7 (codes "5") 5 refl refl refl refl, at_most 1 5 refl, at_most 5 1000000 refl)

pub example_spelled : IsScript example_script example_events
example_spelled = record {
  count = 6;
  lines = record {
    lines =
        codes "LOGIN 0 SMITH"
        ∷ codes "POKE 0 100 201040000101"
        ∷ codes "POKE 0 101 104000000074"
        ∷ codes "POKE 0 102 104000000170"
        ∷ codes "START 0 100"
        ∷ codes "RUN 5"
        ∷ [];
    whole = refl;
    many = refl;
    gives = (
      Login first_terminal (codes "SMITH") ∷ [],
      _,
      refl,
      line_1,
      (
        Poke first_terminal 64 movei_word ∷ [],
        _,
        refl,
        line_2,
        (
          Poke first_terminal 65 pbout_word ∷ [],
          _,
          refl,
          line_3,
          (Poke first_terminal 66 haltf_word ∷ [], _, refl, line_4, (Start first_terminal 64 ∷ [], Run 5 ∷ [], refl, line_5, (Run 5 ∷ [], [], refl, line_6, refl))),
        ),
      ),
    );
  };
  few = at_most 5 1099511627776 refl;
  short = at_most _ 16777216 refl;
}
