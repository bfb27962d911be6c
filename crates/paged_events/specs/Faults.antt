-- How an event ends by what failed.
use Rattle.event_items.specs.declared.ended.Ended.{Ended}
use Rattle.event_items.specs.declared.ended.Ended.TheVariants.{DrumFault, TakerFault}
use Rattle.paged_events.specs.declared.fault.Fault.{Fault}
use Rattle.paged_events.specs.declared.fault.Fault.TheVariants.{Drum, Taker}

-- how an event ends by it
abbrev pub ended_by : Fault → Ended
ended_by Drum = DrumFault
ended_by Taker = TakerFault
