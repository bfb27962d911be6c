-- A line: the characters that are stored, and the codes that are assigned.
use Rattle.std.specs.Prelude.{◌≡◌, ◌≢◌, ℕ, ◌<◌, ◌≤◌, List, [], length, All, Bool, false, Some, refl}
use Rattle.std.specs.Ordering.{nat_cmp}
use Rattle.std.specs.Coded.{Coded, code_by, coded×, coded_list, coded_ℕ}
use Rattle.std.specs.Option.{option_map_or}
use Rattle.std.specs.FinMap as map
use Rattle.machine_names.specs.declared.names.ForkName.{ForkName}
use Rattle.plain_typing.specs.declared.typed.TheConstants.{ASSIGNABLE_CODES, CONTROL_C, MOST_STORED}

-- the fork and the channel of each code that is assigned
abbrev pub Codes : Type 0
Codes = map.FinMap nat_cmp (ForkName × ℕ)

-- the characters stored, the oldest first, and the codes assigned
pub record InputLine : Type 0 where
  pub input : List ℕ
  pub codes : Codes

-- what a code is assigned to is stored as the three numbers of the fork and the channel
abbrev pub assigned_code : Coded (ForkName × ℕ)
assigned_code =
    code_by ((ℕ × ℕ) × ℕ) (coded× (coded× coded_ℕ coded_ℕ) coded_ℕ) (λ a. ((a.0.tty.0, a.0.serial), a.1))
    (λ n. (record { tty = record { 0 = n.0.0 }; serial = n.0.1 }, n.1)) (λ _. refl)

-- a line is stored as its two parts
abbrev pub line_code : Coded InputLine
line_code =
    code_by (List ℕ × Codes) (coded× (coded_list coded_ℕ) (map.code coded_ℕ assigned_code)) (λ l. (l.input, l.codes)) (λ p. record { input = p.0; codes = p.1 }) (λ _. refl)

-- nothing is stored and no code is assigned
abbrev pub new_line : InputLine
new_line = record { input = []; codes = map.empty }

-- a code that a fork may assign: a control character, but not control-C
abbrev pub IsAssignable : ℕ → Type 0
IsAssignable code = (code < ASSIGNABLE_CODES) × (code ≢ CONTROL_C)

-- only such codes are assigned, each to a channel
pub record AreAssigned (codes : Codes) : Type 0 where
  pub each : (code : ℕ) (fork : ForkName) (channel : ℕ) → map.get codes code ≡ Some (fork, channel) → IsAssignable code × (channel < 36)

-- what always holds of a line
pub record IsLine (line : InputLine) : Type 0 where
  pub few : length line.input ≤ MOST_STORED
  pub small : All (λ c. c < 128) line.input
  pub assigned : AreAssigned line.codes

-- the codes that are assigned to forks which pass a test
abbrev pub codes_of : (ForkName → Bool) → Codes → Codes
codes_of keeps codes = map.retain_keys codes (λ code. option_map_or (λ a. keeps a.0) (map.get codes code) false)
