-- Which instruction is done for an opcode.
use Rattle.std.specs.Prelude.{◌≡◌, ◌⊎◌, ℕ, ◌+◌, ◌*◌, ◌/◌, ◌%◌, List, [], ◌∷◌}
use Rattle.ka10_table.specs.declared.families.Family.{Family}
use Rattle.ka10_table.specs.declared.families.Family.TheVariants as family
use Rattle.ka10_table.specs.declared.families.OpMode.{OpMode}
use Rattle.ka10_table.specs.declared.families.OpMode.TheVariants.{Basic, Immediate, Memory, Both, Own}
use Rattle.ka10_table.specs.declared.families.TableRow.{TableRow}
use Rattle.ka10_table.specs.Rows.{row_of}
use Rattle.ka10_deeds.specs.declared.acts.Act.{Act}
use Rattle.ka10_deeds.specs.declared.acts.Act.TheVariants as act

-- an instruction: its opcode and its row
pub record Instruction : Type 0 where
  pub op : ℕ
  pub row : TableRow

-- the instruction of an opcode
abbrev pub instruction_at : ℕ → Instruction
instruction_at op = record { op = op; row = row_of op }

-- an instruction by its opcode, and the parts of its row
abbrev pub one : ℕ → Family → OpMode → ℕ → Instruction
one op f mode code = record { op = op; row = record { family = f; mode = mode; code = code } }

-- one of a family in a mode, else as it is
abbrev pub any : Family → OpMode → Instruction → Instruction
any f mode i = one i.op f mode i.row.code

-- the families of the operations of two words, and those of the shifts
abbrev pub IsOperation : Family → Type 0
IsOperation f = (f ≡ family.Imul) ⊎ (f ≡ family.Mul) ⊎ (f ≡ family.Idiv) ⊎ (f ≡ family.Div) ⊎ (f ≡ family.AddSub)

abbrev pub IsShiftOfWords : Family → Type 0
IsShiftOfWords f = (f ≡ family.Shift) ⊎ (f ≡ family.DoubleShift)

-- the instruction of an act; what an act doesn't tell is that of a given instruction, to which it is equal where the act is
-- the act of its opcode
abbrev pub acted : Act → Instruction → Instruction
acted act.Illegal i = one i.op family.Illegal Basic 0
acted act.Local i = any family.Local Basic i
acted act.Jsys i = one 0o104 family.Monitor Basic 0
acted act.Ibp i = one 0o133 family.ByteOp Basic 0
acted act.Ildb i = one 0o134 family.ByteOp Basic 1
acted act.Ldb i = one 0o135 family.ByteOp Basic 2
acted act.Idpb i = one 0o136 family.ByteOp Basic 3
acted act.Dpb i = one 0o137 family.ByteOp Basic 4
acted act.Move i = one 0o200 family.Move Basic 0
acted act.Movei i = one 0o201 family.Move Immediate 0
acted act.Movem i = one 0o202 family.Move Memory 0
acted act.Moves i = one 0o203 family.Move Own 0
acted act.Movs i = one 0o204 family.Move Basic 1
acted act.Movsi i = one 0o205 family.Move Immediate 1
acted act.Movsm i = one 0o206 family.Move Memory 1
acted act.Movss i = one 0o207 family.Move Own 1
acted act.Movn i = one 0o210 family.Move Basic 2
acted act.Movni i = one 0o211 family.Move Immediate 2
acted act.Movnm i = one 0o212 family.Move Memory 2
acted act.Movns i = one 0o213 family.Move Own 2
acted act.Movm i = one 0o214 family.Move Basic 3
acted act.Movmi i = one 0o215 family.Move Immediate 3
acted act.Movmm i = one 0o216 family.Move Memory 3
acted act.Movms i = one 0o217 family.Move Own 3
acted act.Imul i = one 0o220 family.Imul Basic 0
acted act.Imuli i = one 0o221 family.Imul Immediate 0
acted act.Imulm i = one 0o222 family.Imul Memory 0
acted act.Imulb i = one 0o223 family.Imul Both 0
acted act.Mul i = one 0o224 family.Mul Basic 0
acted act.Muli i = one 0o225 family.Mul Immediate 0
acted act.Mulm i = one 0o226 family.Mul Memory 0
acted act.Mulb i = one 0o227 family.Mul Both 0
acted act.Idiv i = one 0o230 family.Idiv Basic 0
acted act.Idivi i = one 0o231 family.Idiv Immediate 0
acted act.Idivm i = one 0o232 family.Idiv Memory 0
acted act.Idivb i = one 0o233 family.Idiv Both 0
acted act.Div i = one 0o234 family.Div Basic 0
acted act.Divi i = one 0o235 family.Div Immediate 0
acted act.Divm i = one 0o236 family.Div Memory 0
acted act.Divb i = one 0o237 family.Div Both 0
acted act.Ash i = one 0o240 family.Shift Basic 0
acted act.Rot i = one 0o241 family.Shift Basic 1
acted act.Lsh i = one 0o242 family.Shift Basic 2
acted act.Jffo i = one 0o243 family.Jffo Basic 0
acted act.Ashc i = one 0o244 family.DoubleShift Basic 0
acted act.Rotc i = one 0o245 family.DoubleShift Basic 1
acted act.Lshc i = one 0o246 family.DoubleShift Basic 2
acted act.Exch i = one 0o250 family.Exch Basic 0
acted act.Blt i = one 0o251 family.Blt Basic 0
acted act.Aobjp i = one 0o252 family.Aobj Basic 0
acted act.Aobjn i = one 0o253 family.Aobj Basic 1
acted act.Jrst i = one 0o254 family.Jrst Basic 0
acted act.Jfcl i = one 0o255 family.Jfcl Basic 0
acted act.Xct i = one 0o256 family.Xct Basic 0
acted act.Pushj i = one 0o260 family.Pushj Basic 0
acted act.Push i = one 0o261 family.PushPop Basic 0
acted act.Pop i = one 0o262 family.PushPop Basic 1
acted act.Popj i = one 0o263 family.Popj Basic 0
acted act.Jsr i = one 0o264 family.JsrJsp Basic 0
acted act.Jsp i = one 0o265 family.JsrJsp Basic 1
acted act.Jsa i = one 0o266 family.JsaJra Basic 0
acted act.Jra i = one 0o267 family.JsaJra Basic 1
acted act.Add i = one 0o270 family.AddSub Basic 0
acted act.Addi i = one 0o271 family.AddSub Immediate 0
acted act.Addm i = one 0o272 family.AddSub Memory 0
acted act.Addb i = one 0o273 family.AddSub Both 0
acted act.Sub i = one 0o274 family.AddSub Basic 1
acted act.Subi i = one 0o275 family.AddSub Immediate 1
acted act.Subm i = one 0o276 family.AddSub Memory 1
acted act.Subb i = one 0o277 family.AddSub Both 1
acted act.Cai i = one 0o300 family.Compare Basic 0
acted act.Cail i = one 0o301 family.Compare Basic 1
acted act.Caie i = one 0o302 family.Compare Basic 2
acted act.Caile i = one 0o303 family.Compare Basic 3
acted act.Caia i = one 0o304 family.Compare Basic 4
acted act.Caige i = one 0o305 family.Compare Basic 5
acted act.Cain i = one 0o306 family.Compare Basic 6
acted act.Caig i = one 0o307 family.Compare Basic 7
acted act.Cam i = one 0o310 family.Compare Basic 8
acted act.Caml i = one 0o311 family.Compare Basic 9
acted act.Came i = one 0o312 family.Compare Basic 10
acted act.Camle i = one 0o313 family.Compare Basic 11
acted act.Cama i = one 0o314 family.Compare Basic 12
acted act.Camge i = one 0o315 family.Compare Basic 13
acted act.Camn i = one 0o316 family.Compare Basic 14
acted act.Camg i = one 0o317 family.Compare Basic 15
acted act.Jump i = one 0o320 family.JumpSkip Basic 0
acted act.Jumpl i = one 0o321 family.JumpSkip Basic 1
acted act.Jumpe i = one 0o322 family.JumpSkip Basic 2
acted act.Jumple i = one 0o323 family.JumpSkip Basic 3
acted act.Jumpa i = one 0o324 family.JumpSkip Basic 4
acted act.Jumpge i = one 0o325 family.JumpSkip Basic 5
acted act.Jumpn i = one 0o326 family.JumpSkip Basic 6
acted act.Jumpg i = one 0o327 family.JumpSkip Basic 7
acted act.Skip i = one 0o330 family.JumpSkip Basic 8
acted act.Skipl i = one 0o331 family.JumpSkip Basic 9
acted act.Skipe i = one 0o332 family.JumpSkip Basic 10
acted act.Skiple i = one 0o333 family.JumpSkip Basic 11
acted act.Skipa i = one 0o334 family.JumpSkip Basic 12
acted act.Skipge i = one 0o335 family.JumpSkip Basic 13
acted act.Skipn i = one 0o336 family.JumpSkip Basic 14
acted act.Skipg i = one 0o337 family.JumpSkip Basic 15
acted act.Aoj i = one 0o340 family.AddOne Basic 0
acted act.Aojl i = one 0o341 family.AddOne Basic 1
acted act.Aoje i = one 0o342 family.AddOne Basic 2
acted act.Aojle i = one 0o343 family.AddOne Basic 3
acted act.Aoja i = one 0o344 family.AddOne Basic 4
acted act.Aojge i = one 0o345 family.AddOne Basic 5
acted act.Aojn i = one 0o346 family.AddOne Basic 6
acted act.Aojg i = one 0o347 family.AddOne Basic 7
acted act.Aos i = one 0o350 family.AddOne Basic 8
acted act.Aosl i = one 0o351 family.AddOne Basic 9
acted act.Aose i = one 0o352 family.AddOne Basic 10
acted act.Aosle i = one 0o353 family.AddOne Basic 11
acted act.Aosa i = one 0o354 family.AddOne Basic 12
acted act.Aosge i = one 0o355 family.AddOne Basic 13
acted act.Aosn i = one 0o356 family.AddOne Basic 14
acted act.Aosg i = one 0o357 family.AddOne Basic 15
acted act.Soj i = one 0o360 family.SubOne Basic 0
acted act.Sojl i = one 0o361 family.SubOne Basic 1
acted act.Soje i = one 0o362 family.SubOne Basic 2
acted act.Sojle i = one 0o363 family.SubOne Basic 3
acted act.Soja i = one 0o364 family.SubOne Basic 4
acted act.Sojge i = one 0o365 family.SubOne Basic 5
acted act.Sojn i = one 0o366 family.SubOne Basic 6
acted act.Sojg i = one 0o367 family.SubOne Basic 7
acted act.Sos i = one 0o370 family.SubOne Basic 8
acted act.Sosl i = one 0o371 family.SubOne Basic 9
acted act.Sose i = one 0o372 family.SubOne Basic 10
acted act.Sosle i = one 0o373 family.SubOne Basic 11
acted act.Sosa i = one 0o374 family.SubOne Basic 12
acted act.Sosge i = one 0o375 family.SubOne Basic 13
acted act.Sosn i = one 0o376 family.SubOne Basic 14
acted act.Sosg i = one 0o377 family.SubOne Basic 15
acted act.Boolean i = any family.Boolean Basic i
acted act.BooleanImmediate i = any family.Boolean Immediate i
acted act.BooleanMemory i = any family.Boolean Memory i
acted act.BooleanBoth i = any family.Boolean Both i
acted act.Half i = any family.Half Basic i
acted act.HalfImmediate i = any family.Half Immediate i
acted act.HalfMemory i = any family.Half Memory i
acted act.HalfOwn i = any family.Half Own i
acted act.TestImmediate i = one i.op family.Test Basic (i.row.code / 16 * 16 + i.row.code % 8)
acted act.TestMemory i = one i.op family.Test Basic (i.row.code / 16 * 16 + 8 + i.row.code % 8)

-- the instructions of acts, for instructions with these opcodes and rows
unfoldable pub all_acted : ℕ → List Act → List TableRow → List Instruction
all_acted op [] rs = []
all_acted op (a ∷ more) [] = []
all_acted op (a ∷ more) (r ∷ rs) = acted a (record { op = op; row = r }) ∷ all_acted (op + 1) more rs

-- rows as the instructions of successive opcodes
unfoldable pub listed : ℕ → List TableRow → List Instruction
listed op [] = []
listed op (r ∷ rs) = record { op = op; row = r } ∷ listed (op + 1) rs
