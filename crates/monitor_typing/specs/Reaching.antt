-- How far a character that is typed, and a part of one, reach among the forks, whatever a drum holds.
use Rattle.std.specs.Prelude.{◌≡◌}
use Rattle.machine_names.specs.declared.names.Tty.{Tty}
use Rattle.plain_model.specs.Forks.{ForkMap}
use Rattle.event_deeds.specs.declared.answer.Showing.{Showing}
use Rattle.event_deeds.specs.declared.answer.Showing.TheVariants.{Reply, Echo, Told}
use Rattle.step_shown.specs.declared.echo.Echo.{Echo as Echoed}
use Rattle.step_shown.specs.declared.echo.Echo.TheVariants.{Bell, Ends, Nothing, Posts, Shows, Stops, Wakes}
use Rattle.monitor_core.specs.Reaching.{ChangesJob}

-- how far a character may reach that is typed at a terminal and shows this: one that wakes nobody, or is lost, leaves all as it was; one that
-- posts a channel changes forks of that fork's job, and any other those of the terminal's
abbrev pub EchoReaches : Tty → Echoed → ForkMap → ForkMap → Type 0
EchoReaches t (Shows code) old new = new ≡ old
EchoReaches t Bell old new = new ≡ old
EchoReaches t (Posts u stop) old new = ChangesJob u old new
EchoReaches t Nothing old new = ChangesJob t old new
EchoReaches t (Wakes code) old new = ChangesJob t old new
EchoReaches t Stops old new = ChangesJob t old new
EchoReaches t (Ends told) old new = ChangesJob t old new

-- and a part of a character that shows this
abbrev pub PartReaches : Showing → ForkMap → ForkMap → Type 0
PartReaches (Reply reply) old new = ⊥
PartReaches (Echo t shown) old new = EchoReaches t shown old new
PartReaches (Told t shown) old new = ChangesJob t old new
