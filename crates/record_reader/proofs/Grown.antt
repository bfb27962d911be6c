-- Lines that were read, and one more.
use Rattle.std.proofs.Common.{◌≡◌, ◌+◌, ◌≤◌, List, [], ◌∷◌, ◌++◌, length, refl, sym, ◌∙◌, ap, subst, arith, length-append}
use Rattle.std.specs.Prelude.{Option, None, Some}
use Rattle.std.proofs.lemmas.Grind.{flat_map-append}
use Rattle.std.proofs.lemmas.List.{append-nil}
use Rattle.script_texts.specs.Texts.{ended}
use Rattle.script_texts.specs.RecordLines.{RecordLine, said, said_all}
use Rattle.record_reader.specs.Order.{FitsLine, MayFollow, AreInOrder, AreRecordLines, GoesOnWith, last_line, turns_on, turns_on_all}
use Rattle.record_reader.specs.Verdicts.{most_record_bytes}
use Rattle.record_reader.specs.OneLine.{told, told_last}
use Rattle.record_reader.specs.Reader.{Advances, GoesOnBehind, HasRead}
use Rattle.record_reader.specs.declared.line.Said.{Said}
use Rattle.record_reader.specs.declared.reader.RecordReader.{RecordReader}

pub more_bytes : (read : List RecordLine) (l : RecordLine) → length (said_all (read ++ l ∷ [])) ≡ length (said_all read) + (length (said l) + 1)
more_bytes read l =
    omega (arith, ap length (flat_map-append (λ m. ended (said m)) read (l ∷ [])), length-append (said_all read) (ended (said l) ++ []), ap length (append-nil (ended (said l))), length-append (said l) (10 ∷ []))

more_turns : (read : List RecordLine) (l : RecordLine) → turns_on_all (read ++ l ∷ []) ≡ turns_on_all read + turns_on l
more_turns [] l = omega arith
more_turns (m ∷ read) l = omega (arith, more_turns read l)

now_last : (read : List RecordLine) (l : RecordLine) → last_line (read ++ l ∷ []) ≡ Some l
now_last [] l = refl
now_last (a ∷ []) l = refl
now_last (a ∷ b ∷ read) l = now_last (b ∷ read) l

-- the last of some lines, or what came before them
abbrev pub last_from : Option RecordLine → List RecordLine → Option RecordLine
last_from before [] = before
last_from before (l ∷ ls) = last_from (Some l) ls

last_same : (l : RecordLine) (ls : List RecordLine) → last_from (Some l) ls ≡ last_line (l ∷ ls)
last_same l [] = refl
last_same l (m ∷ ls) = last_same m ls

pub last_of_all : (read : List RecordLine) → last_line read ≡ last_from None read
last_of_all [] = refl
last_of_all (l ∷ read) = sym (last_same l read)

in_order : (before : Option RecordLine) (read : List RecordLine) (l : RecordLine) → AreInOrder before read → FitsLine l → MayFollow (last_from before read) l → AreInOrder before (read ++ l ∷ [])
in_order before [] l order fits follows = (fits, follows, tt)
in_order before (m ∷ read) l order fits follows = (order.0, order.1, in_order (Some m) read l order.2 fits follows)

pub still_lines : (read : List RecordLine) (l : RecordLine) → AreRecordLines read → GoesOnWith read l → AreRecordLines (read ++ l ∷ [])
still_lines read l right goes = record {
  in_order = in_order None read l right.in_order goes.fits (subst (λ x. MayFollow x l) (last_of_all read) goes.follows);
  few = omega (arith, more_turns read l, goes.few);
}

pub goes_with : (r : RecordReader) (read : List RecordLine) (l : RecordLine) → HasRead r read → FitsLine l → GoesOnBehind r l → GoesOnWith read l
goes_with r read l has fits goes = record {
  fits = fits;
  follows = subst (λ x. MayFollow x l) has.last goes.0;
  few = omega (arith, goes.1, has.turns);
}

pub goes_behind : (r : RecordReader) (read : List RecordLine) (l : RecordLine) → HasRead r read → GoesOnWith read l → GoesOnBehind r l
goes_behind r read l has goes = (subst (λ x. MayFollow x l) (sym has.last) goes.follows, omega (arith, goes.few, has.turns))

pub advances : (old new : RecordReader) (x : Said) → FitsLine (told x) → GoesOnBehind old (told x) → new.passed.bytes ≡ old.passed.bytes + (length (said (told x)) + 1) → new.passed.lines ≡ old.passed.lines + 1
    → new.passed.turns ≡ old.passed.turns + turns_on (told x) → new.last ≡ Some x → new.passed.bytes ≤ most_record_bytes → Advances old new (told x)
advances old new x fits goes bytes lines turns last few = record {
  goes_on = λ read has. goes_with old read (told x) has fits goes;
  has_read = λ read has. record {
    bytes = omega (arith, bytes, has.bytes, more_bytes read (told x));
    lines = omega (arith, lines, has.lines, length-append read (told x ∷ []));
    turns = omega (arith, turns, has.turns, more_turns read (told x));
    last = ap told_last last ∙ sym (now_last read (told x));
    right = still_lines read (told x) has.right (goes_with old read (told x) has fits goes);
    short = omega (arith, bytes, has.bytes, more_bytes read (told x), few);
  };
}
