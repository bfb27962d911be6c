-- A turn of a call on strings, over files, the job that calls, and pages.
use Rattle.std.specs.Prelude.{◌≡◌, ℕ, ◌+◌, true}
use Rattle.machine_names.specs.declared.names.Kind.TheVariants.{Read, Write}
use Rattle.machine_names.specs.declared.names.Tty.{Tty}
use Rattle.page_contracts.specs.declared.answers.Need.{Need}
use Rattle.page_contracts.specs.Pages.{PagesMeaning, Scene}
use Rattle.plain_pages.specs.PlainPages.{NumberedPages}
use Rattle.plain_typing.specs.Lines.{InputLine}
use Rattle.plain_model.specs.ByteCalls.{ByteTurn}
use Rattle.call_turns.specs.declared.answer.Answer.{Answer}
use Rattle.call_turns.specs.Needing.{OneTouchNeeds, TurnNeeds}
use Rattle.file_tables.specs.declared.tables.FileTables.{FileTables}
use Rattle.file_tables.specs.Keys.{seen_in}
use Rattle.ka10_unit.specs.declared.taken.Stop.{Stop}
use Rattle.ka10_unit.specs.Taking.{IsTrap, StopNeeds, read_frames}
use Rattle.page_gather.specs.Gathering.{most_made}
use Rattle.text_pointers.specs.Needing.{StepsNeed}
use Rattle.file_bytes.specs.Turning.{NoNeeds, TurnedBy}

-- WHAT A TURN OF A CALL ON STRINGS NEEDS FIRST: what its references need, each on the pages that those before it leave, and the page of
-- the byte of a file that is read or written, or a frame for it
abbrev pub StringNeeds : FileTables → Scene → NumberedPages → ByteTurn → Need → Type 0
StringNeeds tables scene p t n = TurnNeeds (seen_in tables) StepsNeed OneTouchNeeds NoNeeds scene p t n

-- A TURN OF A CALL ON STRINGS, as one of a call on bytes
abbrev pub StringTurned : {P : Type 0} → PagesMeaning P → P → P → FileTables → FileTables → InputLine → InputLine → Tty → Answer → (NumberedPages → ByteTurn) → Type 0
StringTurned means old new tables tables' line line' t result turn = TurnedBy (StringNeeds tables) means old new tables tables' line line' t result turn

-- how many frames a turn may want: those of an address, one for a byte's word that is read, and two where it is written
abbrev pub string_frames : ℕ
string_frames = read_frames + most_made Read + most_made Write

-- what a turn that stops needs first is so, and it needs nothing over pages in memory
abbrev pub StringStops : {P : Type 0} → PagesMeaning P → P → Stop → Type 0
StringStops means p stop = (means.flat ≡ true → IsTrap stop) × StopNeeds means.store string_frames p stop
