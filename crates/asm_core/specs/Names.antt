-- The names of instructions and monitor calls (PDP-10 handbook, "User operations"; TENEX JSYS manual).
use Rattle.std.specs.Prelude.{ℕ, ◌+◌, List, [], ◌∷◌, ◌++◌, if◌then◌else◌, Option, None, Some, codes}
use Rattle.std.specs.Str.{bytes_eq}
use Rattle.asm_core.specs.Cutting.{pieces}

-- a group of names: each is a stem with an ending behind it. The opcode of the first is given, and by how much it grows from stem to stem and from ending to ending
pub record Group : Type 0 where
  pub first : ℕ
  pub stem_step : ℕ
  pub stems : List ℕ
  pub ending_step : ℕ
  pub endings : List ℕ

-- a group of names without endings
abbrev pub plain : ℕ → List ℕ → Group
plain first stems = record { first = first; stem_step = 1; stems = stems; ending_step = 1; endings = codes " " }

-- a group of names with the modes basic, immediate, memory and both, or own
abbrev pub in_modes : List ℕ → ℕ → List ℕ → Group
in_modes modes first stems = record { first = first; stem_step = 4; stems = stems; ending_step = 1; endings = modes }

-- a group of names with a condition: never, less, equal, less or equal, always, greater or equal, not equal, greater
abbrev pub on_condition : ℕ → List ℕ → Group
on_condition first stems = record { first = first; stem_step = 8; stems = stems; ending_step = 1; endings = codes " L E LE A GE N G " }

-- a group of tests of masked bits, which skip never, where all are 0, always, or where not all are 0
abbrev pub test : ℕ → List ℕ → Group
test first stems = record { first = first; stem_step = 16; stems = stems; ending_step = 2; endings = codes " E A N " }

-- the groups; stems and endings stand with a space behind each
abbrev pub arithmetic : List Group
arithmetic =
    plain 0o133 (codes "IBP ILDB LDB IDPB DPB ") ∷
    in_modes (codes " I M S ") 0o200 (codes "MOVE MOVS MOVN MOVM ") ∷
    in_modes (codes " I M B ") 0o220 (codes "IMUL MUL IDIV DIV ") ∷
    plain 0o240 (codes "ASH ROT LSH JFFO ASHC ROTC LSHC ") ∷
    in_modes (codes " I M B ") 0o270 (codes "ADD SUB ") ∷ []

abbrev pub jumps : List Group
jumps =
    plain 0o104 (codes "JSYS ") ∷
    plain 0o250 (codes "EXCH BLT AOBJP AOBJN JRST JFCL XCT ") ∷
    plain 0o260 (codes "PUSHJ PUSH POP POPJ JSR JSP JSA JRA ") ∷
    on_condition 0o300 (codes "CAI CAM JUMP SKIP AOJ AOS SOJ SOS ") ∷ []

abbrev pub logic : List Group
logic =
    in_modes (codes " I M B ") 0o400 (codes "SETZ AND ANDCA SETM ANDCM SETA XOR IOR ANDCB EQV SETCA ORCA SETCM ORCM ORCB SETO ") ∷
    in_modes (codes " I M S ") 0o500 (codes "HLL HRL HLLZ HRLZ HLLO HRLO HLLE HRLE HRR HLR HRRZ HLRZ HRRO HLRO HRRE HLRE ") ∷
    test 0o600 (codes "TRN TRZ TRC TRO ") ∷
    test 0o601 (codes "TLN TLZ TLC TLO ") ∷
    test 0o610 (codes "TDN TDZ TDC TDO ") ∷
    test 0o611 (codes "TSN TSZ TSC TSO ") ∷ []

-- the names of one stem, with their opcodes
abbrev pub of_stem : ℕ → List ℕ → ℕ → List (List ℕ) → List (List ℕ × ℕ)
of_stem step stem op [] = []
of_stem step stem op (ending ∷ endings) = (stem ++ ending, op) ∷ of_stem step stem (op + step) endings

-- the names of some stems
abbrev pub of_stems : ℕ → List (List ℕ) → ℕ → ℕ → List (List ℕ) → List (List ℕ × ℕ)
of_stems ending_step endings stem_step op [] = []
of_stems ending_step endings stem_step op (stem ∷ stems) = of_stem ending_step stem op endings ++ of_stems ending_step endings stem_step (op + stem_step) stems

-- the names of a group
unfoldable pub of_group : Group → List (List ℕ × ℕ)
of_group g = of_stems g.ending_step (pieces 32 g.endings) g.stem_step g.first (pieces 32 g.stems)

-- what a word means by a list of names, the first that it is
abbrev pub meaning : List (List ℕ × ℕ) → List ℕ → Option ℕ
meaning [] word = None
meaning (p ∷ ps) word = if bytes_eq p.0 word then Some p.1 else meaning ps word

-- the first of two that there is
abbrev pub or_else : Option ℕ → Option ℕ → Option ℕ
or_else None other = other
or_else (Some n) other = Some n

-- what a word means by some groups, the first that has it
abbrev pub in_groups : List Group → List ℕ → Option ℕ
in_groups [] word = None
in_groups (g ∷ gs) word = or_else (meaning (of_group g) word) (in_groups gs word)

-- the names of some groups, and of all
abbrev pub of_groups : List Group → List (List ℕ × ℕ)
of_groups [] = []
of_groups (g ∷ gs) = of_group g ++ of_groups gs

unfoldable pub names : List (List ℕ × ℕ)
names = of_groups arithmetic ++ (of_groups jumps ++ of_groups logic)

-- the opcode that a word names
unfoldable pub opcode_of : List ℕ → Option ℕ
opcode_of word = or_else (in_groups arithmetic word) (or_else (in_groups jumps word) (in_groups logic word))

-- the names of the monitor calls, with their numbers
unfoldable pub calls : List (List ℕ × ℕ)
calls =
    (codes "GETER", 0o12) ∷ (codes "TIME", 0o14) ∷ (codes "RUNTM", 0o15) ∷ (codes "GTJFN", 0o20) ∷
    (codes "OPENF", 0o21) ∷ (codes "CLOSF", 0o22) ∷ (codes "RLJFN", 0o23) ∷ (codes "DELF", 0o26) ∷
    (codes "SFPTR", 0o27) ∷ (codes "SIZEF", 0o36) ∷ (codes "RFPTR", 0o43) ∷ (codes "BIN", 0o50) ∷
    (codes "BOUT", 0o51) ∷ (codes "SIN", 0o52) ∷ (codes "SOUT", 0o53) ∷ (codes "PMAP", 0o56) ∷
    (codes "RPACS", 0o57) ∷ (codes "SPACS", 0o60) ∷ (codes "RMAP", 0o61) ∷ (codes "PBIN", 0o73) ∷
    (codes "PBOUT", 0o74) ∷ (codes "PSOUT", 0o76) ∷ (codes "SIR", 0o125) ∷ (codes "EIR", 0o126) ∷
    (codes "DIR", 0o130) ∷ (codes "AIC", 0o131) ∷ (codes "IIC", 0o132) ∷ (codes "DIC", 0o133) ∷
    (codes "DEBRK", 0o136) ∷ (codes "ATI", 0o137) ∷ (codes "DTI", 0o140) ∷ (codes "CFORK", 0o152) ∷
    (codes "KFORK", 0o153) ∷ (codes "FFORK", 0o154) ∷ (codes "RFORK", 0o155) ∷ (codes "RFSTS", 0o156) ∷
    (codes "SFORK", 0o157) ∷ (codes "SFACS", 0o160) ∷ (codes "RFACS", 0o161) ∷ (codes "HFORK", 0o162) ∷
    (codes "WFORK", 0o163) ∷ (codes "DISMS", 0o167) ∷ (codes "HALTF", 0o170) ∷ []

-- the number of the monitor call that a word names
unfoldable pub call_of : List ℕ → Option ℕ
call_of word = meaning calls word
