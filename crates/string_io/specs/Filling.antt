-- A page of a file that is to be written, behind references of a fork.
use Rattle.std.specs.Prelude.{◌≡◌, ℕ, Some, ⊤, Result, Ok, Err}
use Rattle.machine_names.specs.declared.names.Tty.{Tty}
use Rattle.machine_names.specs.declared.names.Kind.TheVariants.{Write}
use Rattle.machine_names.specs.Orders.{FilePage}
use Rattle.page_gather.specs.Gathering.{most_framed}
use Rattle.plain_pages.specs.PlainPages.{NumberedPages}
use Rattle.plain_pages.specs.References.{full, granted, in_file, reference, settled}
use Rattle.plain_units.specs.declared.channel.TheConstants.{DRUM_FULL}
use Rattle.call_turns.specs.Telling.{touch_need}
use Rattle.ka10_unit.specs.declared.taken.Stop.{Stop}
use Rattle.ka10_unit.specs.declared.taken.Stop.TheVariants.{Trap, Need}
use Rattle.ka10_unit.specs.Gathers.{Framed}
use Rattle.text_pointers.specs.Needing.{frames_left}
use Rattle.string_io.specs.Planning.{CanFill}

-- it is there, or can be made; or the drum is full; or the page or a frame is needed first, with the frames that are left then
abbrev pub FillsAs : Framed → NumberedPages → Tty → FilePage ℕ → Result ⊤ Stop → Type 0
FillsAs p q owner f (Ok x) = (reference q (in_file f) Write owner ≡ granted (settled q (in_file f) Write owner)) × CanFill q p.scene (most_framed p.pages p.scene) owner f
FillsAs p q owner f (Err (Trap channel)) = (channel ≡ DRUM_FULL) × (reference q (in_file f) Write owner ≡ full)
FillsAs p q owner f (Err (Need n)) = touch_need (frames_left p.scene p.pages q) q (in_file f) Write owner ≡ Some n
