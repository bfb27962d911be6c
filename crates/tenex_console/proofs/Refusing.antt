-- What the console of a run writes where nothing is asked for.
use Rattle.std.proofs.Common.{ℕ, List, String, inl, inr, refl}
use Rattle.outside.specs.Told.{Stays}
use Rattle.texts.specs.declared.last.Status.{Status}
use Rattle.texts.specs.declared.last.Status.TheVariants.{Done, Usage, Script, DrumFault, Memory, ReadFault, WriteFault, LongScript, Illegal, Assembly, Image}
use Rattle.script_driver.specs.Observed.{Observed}
use Rattle.run_console.specs.declared.asked.Unbegun.{Unbegun}
use Rattle.run_console.specs.declared.asked.Unbegun.TheVariants.{Usage as WrongWords, Memory as NoMemory}
use Rattle.run_console.specs.Command.{IsUsage}
use Rattle.run_console.specs.Headline.{status_of}
use Rattle.run_console.specs.Statuses.{IsUsageOrBefore, Tells}
use Rattle.run_console.proofs.Asking.{not_usage}
use Rattle.text_console.specs.Statuses.{Refuses}
use Rattle.texts.specs.Ends.{closing_line}
use Rattle.texts.specs.Wrote.{WrotePartly}

module _ {Z : Type 0} (words : List (String Z)) (pages : ℕ) (told : Observed) (usage : IsUsage words pages) where
  front : (why : Unbegun) → WrotePartly told.before.out told.after.out (closing_line (status_of why) 0) → Refuses told.before.out told.after.out WriteFault
  front WrongWords wrote = inl (inr (refl, wrote))
  front NoMemory wrote = inr (inr (refl, wrote))

  pub refuses : (status : Status) → Tells words pages told status → IsUsageOrBefore status → Refuses told.before.out told.after.out status
  refuses Usage tells early = inl (inl (refl, tells.transcript_is))
  refuses Memory tells early = inr (inl (refl, tells.transcript_is))
  refuses WriteFault (inl only) early = front only.why only.transcript_front
  refuses WriteFault (inr ran) early = absurd (not_usage words pages ran.0 ran.1 usage)
  refuses Done tells early = absurd early
  refuses Script tells early = absurd early
  refuses DrumFault tells early = absurd early
  refuses ReadFault tells early = absurd early
  refuses LongScript tells early = absurd early
  refuses Illegal tells early = absurd early
  refuses Assembly tells early = absurd early
  refuses Image tells early = absurd early

  pub unwritten : (status : Status) → Tells words pages told status → IsUsageOrBefore status → Stays told.before.rec told.after.rec
  unwritten Usage tells early = tells.record_stays
  unwritten Memory tells early = tells.record_stays
  unwritten WriteFault (inl only) early = only.record_stays
  unwritten WriteFault (inr ran) early = absurd (not_usage words pages ran.0 ran.1 usage)
  unwritten Done tells early = absurd early
  unwritten Script tells early = absurd early
  unwritten DrumFault tells early = absurd early
  unwritten ReadFault tells early = absurd early
  unwritten LongScript tells early = absurd early
  unwritten Illegal tells early = absurd early
  unwritten Assembly tells early = absurd early
  unwritten Image tells early = absurd early
