-- How many pages a turn made.
use Rattle.std.specs.Prelude.{◌≡◌, ◌≢◌, ℕ, ◌+◌, ◌≤◌, Result, Ok, Err}
use Rattle.machine_names.specs.declared.names.Tty.{Tty}
use Rattle.page_contracts.specs.declared.answers.Need.{Need}
use Rattle.page_contracts.specs.Pages.{PagesMeaning}
use Rattle.call_turns.specs.declared.answer.Answer.{Answer}
use Rattle.call_turns.specs.declared.answer.Answer.TheVariants as answer

-- so many pages of an owner were made at most, and no fork
pub record MakesAtMost {P : Type 0} (means : PagesMeaning P) (owner : Tty) (pages : ℕ) (old new : P) : Type 0 where
  pub lives : means.lives new ≡ means.lives old
  pub forks : means.forks_of new ≡ means.forks_of old
  pub most : means.most new ≡ means.most old
  pub serial : means.serial new owner ≤ means.serial old owner + pages
  pub serials : (t : Tty) → t ≢ owner → means.serial new t ≡ means.serial old t

-- one at most; and where something was needed first pages are as they were
abbrev pub MakesOne : {P A : Type 0} → PagesMeaning P → Tty → P → P → Result A Need → Type 0
MakesOne means owner old new (Ok done) = MakesAtMost means owner 1 old new
MakesOne means owner old new (Err n) = new ≡ old

abbrev pub MakesIn : {P : Type 0} → PagesMeaning P → Tty → P → P → Answer → Type 0
MakesIn means owner old new (answer.Need n) = new ≡ old
MakesIn means owner old new a = MakesAtMost means owner 1 old new
