-- A unit of the calls on bytes and strings takes or gives one byte at most.
use Rattle.std.proofs.Common.{◌≡◌, ℕ, ◌+◌, ◌&&◌, Bool, All, List, [], ◌∷◌, Option, None, Some, Result, Ok, Err, refl, sym, ◌∙◌, ap}
use Rattle.std.specs.Option.{option_map_or}
use Rattle.std.specs.Prelude.{◌==◌, nat_le, nat_lt}
use Rattle.std.specs.FinMap as map
use Rattle.std.proofs.lemmas.Bool.{cond_both}
use Rattle.std.proofs.lemmas.List.Elements.{All-from_recursion}
use Rattle.word36.specs.Bytes.{loaded}
use Rattle.plain_files.specs.Bytes.{most_bytes}
use Rattle.plain_files.specs.OpenFiles.{OpenFile}
use Rattle.plain_pages.specs.PlainPages.{NamedPages}
use Rattle.plain_units.specs.declared.registers.Regs.{Regs}
use Rattle.plain_units.specs.Deeds.{in_ac}
use Rattle.plain_model.specs.declared.call.ByteChange.{ByteChange}
use Rattle.plain_model.specs.declared.call.ByteChange.TheVariants.{Move, Put, Take}
use Rattle.plain_model.specs.declared.call.End.{End}
use Rattle.plain_model.specs.declared.call.End.TheVariants.{Done, Failed, Halts, Refused, Trap, Waits}
use Rattle.plain_model.specs.declared.call.TheConstants.{NOT_OPEN, NO_JFN, TERMINAL_INPUT, TERMINAL_OUTPUT}
use Rattle.plain_model.specs.declared.call.Touched.{Touched}
use Rattle.plain_model.specs.declared.call.Touched.TheVariants.{Granted, Denied, Full}
use Rattle.plain_model.specs.declared.fork.Fork.{Fork}
use Rattle.plain_model.specs.ByteCalls.{ByteAsked, ByteTurn, bin, bout, by_number, byte_pointer, end_for, if_written, jfn_held, jfn_number, jfn_open, next_byte, next_character, pbin, put_byte}
use Rattle.plain_model.specs.Calls.{given, parts_behind, turn_on}
use Rattle.plain_model.specs.Families.{asks_bytes, behind, bytes_changed, files_seen}
use Rattle.plain_model.specs.MapCalls.{is_read, is_written}
use Rattle.plain_model.specs.PointedTexts.{byte_at}
use Rattle.plain_model.specs.State.{PlainState}
use Rattle.plain_model.specs.StringCalls.{if_written_too, next_pointer, psout, prints_byte, puts_byte, sin, sout, takes_character, takes_from, takes_next, with_next}
use Rattle.plain_model.specs.Unit.{parts_of}
use Rattle.plain_model.proofs.MapKeeps.{AllOk, then_ok}
use Rattle.plain_laws.specs.JfnLaws.{Lives, turn_of}
use Rattle.plain_refusals.specs.Budgets.{TakesOneByte, byte_numbers}
use Rattle.plain_refusals.proofs.Ends.{EndsWith, address_so, comes_so, reading_with}
use Rattle.plain_refusals.proofs.FileAnswers.{byte_so}
use Rattle.plain_refusals.proofs.OneByte.{Steps, ToNext, change_steps, none_steps}

module _ (s : PlainState) (f : Fork) where
  abbrev a : ByteAsked
  a = asks_bytes (λ name. name) (parts_of s) f.name f.body.regs

  -- an end whose change moves a JFN to its next byte, if it moves one
  abbrev IsStep : End ByteChange → Type 0
  IsStep (Done change regs out post) = ToNext s.jobs change
  IsStep e = Unit {0}

  abbrev StepsOn : ByteTurn → Type 0
  StepsOn t = EndsWith (Unit {0}) IsStep t

  -- the JFN that is named
  abbrev IsNamed : OpenFile → Type 0
  IsNamed j = map.get a.held (jfn_number a) ≡ Some j

  named_jfn : (is_so : OpenFile → Bool) → AllOk IsNamed (jfn_open is_so a)
  named_jfn is_so = then_ok IsNamed IsNamed (jfn_held a) _ (by (map.get a.held (jfn_number a)) refl) (λ j named. cond_both (is_so j) (Ok j) (Err NOT_OPEN) (AllOk IsNamed) (λ is. named) (λ no. tt))
    where
      by : (o : Option OpenFile) → map.get a.held (jfn_number a) ≡ o → AllOk IsNamed (option_map_or Ok o (Err NO_JFN))
      by None is = tt
      by (Some j) is = is

  given_steps : (r : Result OpenFile ℕ) (next : OpenFile → ByteTurn) → AllOk IsNamed r → ((j : OpenFile) → IsNamed j → StepsOn (next j)) → StepsOn (given r next)
  given_steps (Ok j) next named steps = steps j named
  given_steps (Err code) next named steps = tt

  to_next : (j : OpenFile) → IsNamed j → ToNext s.jobs (Move a.who.tty (jfn_number a) (j.at + 1))
  to_next j named k held = let both : Some j ≡ Some k = sym named ∙ held in let same : j ≡ k = cc both in ap (λ (x : OpenFile). x.at + 1) same

  by_number_steps : (input output file : ByteTurn) → StepsOn input → StepsOn output → StepsOn file → StepsOn (by_number (jfn_number a) input output file)
  by_number_steps input output file i o g = cond_both (jfn_number a == TERMINAL_INPUT) _ _ StepsOn (λ is. i) (λ n1. cond_both (jfn_number a == TERMINAL_OUTPUT) _ _ StepsOn (λ is. o) (λ n2. g))

  character_steps : (n : ℕ) (input : List ℕ) → IsStep (next_character a n input)
  character_steps n [] = tt
  character_steps n (c ∷ cs) = tt

  put_steps : (byte : ℕ) (regs : Regs) (what : Touched) → IsStep (if_written (Done (Put a.who.tty (jfn_number a) byte) regs None None) what)
  put_steps byte regs Granted = tt
  put_steps byte regs Denied = tt
  put_steps byte regs Full = tt

  bin_steps : StepsOn (bin a)
  bin_steps = by_number_steps _ _ _ (character_steps 2 a.input) tt (given_steps (jfn_open is_read a) (next_byte a) (named_jfn is_read) (λ j named. cond_both (nat_le (end_for a j) j.at) _ _ StepsOn (λ over. tt) (λ more w. to_next j named)))

  bout_steps : StepsOn (bout a)
  bout_steps = by_number_steps _ _ _ tt tt (given_steps (jfn_open is_written a) (put_byte a) (named_jfn is_written) (λ j named. cond_both (nat_lt j.at (most_bytes j.size)) _ _ StepsOn (λ fits what may. put_steps _ _ what) (λ far. tt)))

  next_steps : (change : ByteChange) (byte : ℕ) → ToNext s.jobs change → StepsOn (takes_next a change byte)
  next_steps change byte next = (tt, address_so a.regs (next_pointer (in_ac a.regs 2)), λ e. (tt, λ w. tt, λ g. next))

  taken_steps : (input : List ℕ) → StepsOn (takes_character a input)
  taken_steps [] = tt
  taken_steps (c ∷ cs) = next_steps (Take a.who.tty) c tt

  sin_steps : StepsOn (sin a)
  sin_steps = by_number_steps _ _ _ (taken_steps a.input) tt (given_steps (jfn_open is_read a) (takes_from a) (named_jfn is_read)
      (λ j named. cond_both (nat_le (end_for a j) j.at) _ _ StepsOn (λ over. tt) (λ more w. next_steps (Move a.who.tty (jfn_number a) (j.at + 1)) (loaded (byte_pointer j) w) (to_next j named))))

  read_steps : (next : ℕ → ℕ → ByteTurn) → ((p byte : ℕ) → StepsOn (next p byte)) → StepsOn (with_next a next)
  read_steps next steps = let p = next_pointer (in_ac a.regs 2) in reading_with (Unit {0}) IsStep tt a.who a.regs (byte_at a.regs p) (next p) (byte_so a.regs p) (steps p)

  too_steps : (byte : ℕ) (t : ByteTurn) → StepsOn t → StepsOn (if_written_too a byte t)
  too_steps byte t steps = cond_both ((in_ac a.regs 3 == 0) && (byte == 0)) _ _ StepsOn (λ over. tt) (λ more. steps)

  sout_steps : StepsOn (sout a)
  sout_steps = by_number_steps _ _ _ tt (read_steps (prints_byte a) (λ p byte. too_steps byte _ tt)) (given_steps (jfn_open is_written a) _ (named_jfn is_written)
      (λ j named. cond_both (nat_lt j.at (most_bytes j.size)) _ _ StepsOn (λ fits. read_steps (puts_byte a j) (λ p byte. too_steps byte _ (λ what may. put_steps byte _ what))) (λ far. tt)))

  psout_steps : StepsOn (psout a)
  psout_steps = let p = next_pointer (in_ac a.regs 1) in reading_with (Unit {0}) IsStep tt a.who a.regs (byte_at a.regs p) _ (byte_so a.regs p) (λ byte. cond_both (byte == 0) _ _ IsStep (λ over. tt) (λ more. tt))

  -- what is behind such a turn
  left_steps : (e : End ByteChange) (q : NamedPages) → IsStep e → Steps s.jobs (parts_behind (bytes_changed (λ name. name)) (parts_of s) (record (parts_of s) { pages = q }) e).jobs
  unfolding parts_behind
  left_steps (Done change regs out post) q step = change_steps change (record { pages = q; files = s.files; jobs = s.jobs }) step
  left_steps (Waits on) q step = none_steps s.jobs
  left_steps Halts q step = none_steps s.jobs
  left_steps (Refused code) q step = none_steps s.jobs
  left_steps (Failed code) q step = none_steps s.jobs
  left_steps (Trap channel) q step = none_steps s.jobs

  module _ (lives : Lives s f) where
    turn_steps : (t : ByteTurn) → StepsOn t → TakesOneByte s (behind (bytes_changed (λ name. name)) (parts_of s) f.name (turn_on (files_seen (λ name. name) (parts_of s) f.name) s.pages t))
    turn_steps t steps =
        let c = turn_on (files_seen (λ name. name) (parts_of s) f.name) s.pages t in
        let left = left_steps c.end c.pages (comes_so (Unit {0}) IsStep (λ may channel is. tt) (files_seen (λ name. name) (parts_of s) f.name) (λ name. (name, refl)) t steps s.pages) in
        record { positions = left.positions; input = left.input }

    pub one_byte : All (λ number. TakesOneByte s (turn_of s f number)) byte_numbers
    one_byte = All-from_recursion (λ number. TakesOneByte s (turn_of s f number)) byte_numbers (
      turn_steps (bin a) bin_steps,
      (
        turn_steps (bout a) bout_steps,
        (
          turn_steps (pbin a) (character_steps 1 a.input),
          (
            turn_steps (sin a) sin_steps,
            (
              turn_steps (sout a) sout_steps,
              (turn_steps (psout a) psout_steps, tt),
            ),
          ),
        ),
      ),
    )
