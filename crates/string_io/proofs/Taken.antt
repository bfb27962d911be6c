-- The bytes that SIN takes.
use Rattle.std.proofs.Common.{◌≡◌, ℕ, ◌+◌, Bool, true, false, cond, List, [], ◌∷◌, Some, None, refl, sym, ap, nat_le}
use Rattle.std.specs.Prelude.{slice_get}
use Rattle.word36.specs.Bytes.{loaded}
use Rattle.plain_files.specs.OpenFiles.{OpenFile}
use Rattle.plain_model.specs.declared.call.ByteChange.TheVariants.{Move, Take}
use Rattle.plain_model.specs.declared.call.End.TheVariants.{Waits}
use Rattle.script_texts.specs.declared.status.WaitOn.TheVariants as on
use Rattle.plain_model.specs.Calls.{ends, reads}
use Rattle.plain_model.specs.ByteCalls.{ByteAsked, ByteTurn, byte_offset, byte_page, byte_pointer, end_for, jfn_number, page_in}
use Rattle.plain_model.specs.StringCalls.{at_end, takes_character, takes_from, takes_next}

pub oldest_taken : (a : ByteAsked) (input : List ℕ) (c : ℕ) → Some c ≡ slice_get input 0 → takes_next a (Take a.who.tty) c ≡ takes_character a input
oldest_taken a [] c h = absurd (cc h)
oldest_taken a (d ∷ ds) c h = let same : c ≡ d = cc h in ap (takes_next a (Take a.who.tty)) same

pub none_stored : (a : ByteAsked) (input : List ℕ) → None ≡ slice_get input 0 → ends (Waits on.Input) ≡ takes_character a input
none_stored a [] h = refl
none_stored a (d ∷ ds) h = absurd (cc h)

module _ (a : ByteAsked) (j : OpenFile) where
  abbrev pub far : ByteTurn
  far = reads (page_in j (byte_page j)) (byte_offset j) (λ w. takes_next a (Move a.who.tty (jfn_number a) (j.at + 1)) (loaded (byte_pointer j) w))

  abbrev branch : Bool → ByteTurn
  branch b = cond b (ends (at_end a)) far

  pub at_its_end : nat_le (end_for a j) j.at ≡ true → ends (at_end a) ≡ takes_from a j
  at_its_end h = ap branch (sym h)

  pub before_end : nat_le (end_for a j) j.at ≡ false → far ≡ takes_from a j
  before_end h = ap branch (sym h)
