-- How a turn of a call on strings is to end, before anything changes.
use Rattle.std.specs.Prelude.{◌≡◌, ℕ, ◌+◌, ◌<◌, true, Some, IsSome, Result, Ok, Err}
use Rattle.std.specs.Option.{IsSomeAnd}
use Rattle.std.specs.FinMap as map
use Rattle.machine_names.specs.declared.names.ForkName.{ForkName}
use Rattle.machine_names.specs.declared.names.Tty.{Tty}
use Rattle.page_contracts.specs.DrumWords.{DrumWords}
use Rattle.machine_names.specs.declared.names.Kind.TheVariants.{Write}
use Rattle.machine_names.specs.Orders.{FilePage}
use Rattle.page_contracts.specs.Pages.{PagesMeaning, Scene, can_settle, touch_of}
use Rattle.page_gather.specs.Gathering.{most_framed}
use Rattle.plain_files.specs.declared.jfn.Jfn.{Jfn}
use Rattle.plain_pages.specs.References.{in_file}
use Rattle.plain_pages.specs.Room.{live}
use Rattle.plain_files.specs.Bytes.{most_bytes}
use Rattle.plain_files.specs.Jobs.{jfns_of}
use Rattle.plain_pages.specs.PlainPages.{NumberedPages}
use Rattle.plain_model.specs.declared.call.ByteChange.{ByteChange}
use Rattle.plain_model.specs.declared.call.ByteChange.TheVariants.{Put}
use Rattle.plain_model.specs.declared.call.End.{End}
use Rattle.plain_model.specs.declared.call.End.TheVariants.{Done, Trap as TrapEnd}
use Rattle.plain_model.specs.ByteCalls.{ByteTurn}
use Rattle.plain_model.specs.Calls.{turn_on}
use Rattle.call_turns.specs.Turns.{FitsEnd}
use Rattle.file_tables.specs.declared.tables.FileTables.{FileTables}
use Rattle.file_tables.specs.Keys.{seen_in}
use Rattle.ka10_unit.specs.declared.taken.Stop.{Stop}
use Rattle.ka10_unit.specs.declared.taken.Stop.TheVariants.{Trap, Need}
use Rattle.ka10_unit.specs.Gathers.{Framed, framed}
use Rattle.file_bytes.specs.Planning.{CanTurn, made_for, page_for}
use Rattle.string_io.specs.declared.plan.Plan.{Plan}
use Rattle.string_io.specs.Depositing.{CanCarry, pages_planned}
use Rattle.string_io.specs.Turning.{StringNeeds}

-- a turn comes out so over the plain pages, or stops for this
abbrev pub IsPlan : FileTables → Framed → Tty → ByteTurn → Result Plan Stop → Type 0
IsPlan tables p owner t (Ok plan) = turn_on (seen_in tables) p.pages t ≡ record { end = plan.ending; pages = made_for tables owner (pages_planned p plan) plan.ending }
IsPlan tables p owner t (Err (Trap channel)) = (turn_on (seen_in tables) p.pages t).end ≡ TrapEnd channel
IsPlan tables p owner t (Err (Need n)) = StringNeeds tables p.scene p.pages t n

-- a byte can be written into a page of a file on pages that take no more frames than these and so many: it is there and in a frame, or finds one
abbrev pub CanFill : NumberedPages → Scene → ℕ → Tty → FilePage ℕ → Type 0
CanFill q scene most owner f = (after : Scene) → after.page_away ≡ scene.page_away → live q + after.free_frames ≡ most → can_settle (touch_of q after (in_file f) Write owner) ≡ true

-- so can the byte that an end writes, behind what its plan makes
abbrev pub OpensEnd : FileTables → Framed → Tty → NumberedPages → End ByteChange → Type 0
OpensEnd tables p t q (Done (Put u n byte) regs out post) = (jfn : Jfn) → map.get (jfns_of tables.jobs t.0) n ≡ Some jfn → CanFill q p.scene (most_framed p.pages p.scene) t (page_for jfn)
OpensEnd tables p t q e = Unit {0}

-- THE PLAN OF A TURN, over each drum that fits: it comes out so, and can be carried out
pub record Plans {P : Type 0} (means : PagesMeaning P) (pages : P) (tables : FileTables) (who : ForkName) (turn : NumberedPages → ByteTurn) (result : Result Plan Stop) : Type 0 where
  pub stands : (plan : Plan) (d : DrumWords) → result ≡ Ok plan → means.fits pages d → CanCarry who (framed means pages d) plan
  pub opens : (plan : Plan) (d : DrumWords) → result ≡ Ok plan → means.fits pages d → OpensEnd tables (framed means pages d) who.tty (pages_planned (framed means pages d) plan) plan.ending
  pub is : (d : DrumWords) → means.fits pages d → IsPlan tables (framed means pages d) who.tty (turn (means.plain pages d)) result

-- a change of the job at a terminal that can be made, where a page that it writes is there or can be made
abbrev pub CanEnd : FileTables → Tty → ByteChange → Type 0
CanEnd tables t (Put u n byte) = (u ≡ t) × IsSomeAnd (map.get (jfns_of tables.jobs t.0) n) (λ jfn. IsSome jfn.mode × (jfn.at < most_bytes jfn.size))
CanEnd tables t what = CanTurn tables t what

-- a plan is that of a fork, and its end is within its limits
abbrev pub FitsPlan : FileTables → ForkName → Plan → Type 0
FitsPlan tables who plan = (plan.fork ≡ who) × FitsEnd (CanEnd tables who.tty) plan.ending
