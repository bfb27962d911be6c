-- How calls on a JFN end that the job holds, and the changes that they may make.
use Rattle.std.proofs.Common.{◌≡◌, ℕ, ◌<◌, ◌≤◌, ◌^◌, ◌%◌, ◌*◌, ◌/◌, true, false, cond, Option, Some, Result, Ok, Err, sym, ◌∙◌, ap, subst, arith, nat_le}
use Rattle.std.specs.Prelude.{IsSome}
use Rattle.std.specs.Option.{IsSomeAnd, option_map}
use Rattle.std.specs.FinMap as map
use Rattle.std.proofs.Math.Nat.{div-le_self, mod-eq_of_lt, mul-le-mul_left}
use Rattle.outside.specs.declared.TheConstants.{PAGE_WORDS}
use Rattle.machine_names.specs.declared.names.TheConstants.{FILE_PAGES}
use Rattle.machine_names.specs.declared.names.Tty.{Tty}
use Rattle.plain_files.specs.Bytes.{IsByteSize, most_bytes}
use Rattle.plain_files.specs.Jobs.{jfns_of}
use Rattle.plain_files.specs.NamedFiles.{open_file}
use Rattle.plain_files.specs.OpenFiles.{OpenFile}
use Rattle.plain_files.specs.declared.bounds.TheConstants.{LARGEST_BYTE}
use Rattle.plain_files.specs.declared.jfn.Jfn.{Jfn}
use Rattle.plain_model.specs.declared.call.TheConstants.{BAD_POSITION}
use Rattle.plain_model.specs.declared.call.ByteChange.{ByteChange}
use Rattle.plain_model.specs.declared.call.ByteChange.TheVariants.{Move}
use Rattle.plain_model.specs.declared.call.End.{End}
use Rattle.plain_model.specs.declared.call.End.TheVariants.{Failed}
use Rattle.plain_model.specs.Calls.{ends}
use Rattle.plain_model.specs.FileCalls.{skipping}
use Rattle.plain_model.specs.ByteCalls.{ByteAsked, given_or_fails, jfn_number, moving}
use Rattle.file_tables.specs.declared.tables.FileTables.{FileTables}
use Rattle.file_tables.specs.Tables.{CanMove, jfns_at}
use Rattle.file_tables.proofs.Opened.{job_jfn}
use Rattle.file_bytes.specs.Asking.{IsOpenAs}

-- a call with two returns ends with what was named, or fails
module _ (next : OpenFile → End ByteChange) (r : Result OpenFile ℕ) where
  pub ends_with : (j : OpenFile) (e : End ByteChange) → Ok j ≡ r → e ≡ next j → ends e ≡ given_or_fails r next
  ends_with j e h is = ap ends is ∙ ap (λ (q : Result OpenFile ℕ). given_or_fails q next) h

  pub fails_with : (code : ℕ) → Err code ≡ r → ends (Failed code) ≡ given_or_fails r next
  fails_with code h = ap (λ (q : Result OpenFile ℕ). given_or_fails q next) h

module _ (a : ByteAsked) (j : OpenFile) (at : ℕ) where
  pub moves_there : nat_le at (most_bytes j.size) ≡ true → skipping (Move a.who.tty (jfn_number a) at) a.regs ≡ moving a j at
  moves_there h = ap (λ b. cond b (skipping (Move a.who.tty (jfn_number a) at) a.regs) (Failed BAD_POSITION)) (sym h)

  pub too_far : nat_le at (most_bytes j.size) ≡ false → Failed BAD_POSITION ≡ moving a j at
  too_far h = ap (λ b. cond b (skipping (Move a.who.tty (jfn_number a) at) a.regs) (Failed BAD_POSITION)) (sym h)

-- the JFN of a number, as the job holds it by name
pub held_by_name : (tables : FileTables) (t : Tty) (n : ℕ) (jfn : Jfn) → map.get (jfns_of tables.jobs t.0) n ≡ Some jfn → map.get (jfns_at tables t.0) n ≡ Some (open_file tables.dir jfn)
held_by_name tables t n jfn is = job_jfn tables.dir tables.jobs t.0 n ∙ ap (option_map (open_file tables.dir)) is

-- an open JFN may be moved as far as its file has room
pub can_move : (tables : FileTables) (t : Tty) (n : ℕ) (jfn : Jfn) (at : ℕ) → IsOpenAs tables t n jfn → at ≤ most_bytes jfn.size → CanMove tables t.0 n at
can_move tables t n jfn at held few =
    subst (λ (o : Option OpenFile). IsSomeAnd o (λ j. IsSome j.mode × (at ≤ most_bytes j.size))) (sym (held_by_name tables t n jfn held.0.1)) (held.1, few)

-- a position is a word
pub is_word : (jfn : Jfn) → IsByteSize jfn.size → jfn.at ≤ most_bytes jfn.size → jfn.at ≡ jfn.at % 2 ^ 36
is_word jfn size few =
    let per_word : LARGEST_BYTE / jfn.size ≤ LARGEST_BYTE = div-le_self LARGEST_BYTE jfn.size in
    let room : FILE_PAGES * PAGE_WORDS * (LARGEST_BYTE / jfn.size) ≤ FILE_PAGES * PAGE_WORDS * LARGEST_BYTE = mul-le-mul_left (FILE_PAGES * PAGE_WORDS) per_word in
    let small : jfn.at < 2 ^ 36 = omega (arith, few, room) in
    sym (mod-eq_of_lt small)
