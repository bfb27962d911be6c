-- What the status of a run that began tells.
use Rattle.std.proofs.Common.{◌≡◌, ◌⊎◌, inl, inr, ℕ, List, ◌++◌, Option, Some, sym, ◌∙◌, ap, subst}
use Rattle.std.proofs.lemmas.List.{append-nil}
use Rattle.script_texts.specs.declared.event.Event.{Event}
use Rattle.script_texts.specs.Script.{IsScript, IsTooLong, StopsAt}
use Rattle.command_words.specs.declared.request.EventSource.TheVariants.{Generated}
use Rattle.texts.specs.declared.last.Status.{Status}
use Rattle.texts.specs.declared.last.Status.TheVariants.{Script, LongScript}
use Rattle.script_driver.specs.declared.driver.Driven.{Driven}
use Rattle.script_driver.specs.declared.driver.Driven.TheVariants.{Done as WholeScript, Bad, Long, ReadFault as Unread, DrumFault as Unpaged, TakerFault}
use Rattle.script_driver.specs.Verdicts.{AreGenerated, AreRun, Found, Verdict}
use Rattle.script_driver.specs.Statuses.{IsOfRun, Judges, status_after}

-- what the driving found is what the status tells
pub judged_by : (script script' : Option (List ℕ)) (driven : Driven) (events : List Event) → Found script script' (Verdict driven events) → (status : Status) → status ≡ status_after driven → (bytes : List ℕ) → script ≡ Some bytes → Judges status bytes
judged_by script script' driven events found status is bytes told = subst (λ s. Judges s bytes) (sym is) (judges driven found)
  where
    judges : (d : Driven) → Found script script' (Verdict d events) → Judges (status_after d) bytes
    judges WholeScript f =
        let x = f.each bytes told in
        let all : x.0 ≡ bytes = sym (x.2 ∙ (ap (λ rest. x.0 ++ rest) x.4.1 ∙ append-nil x.0)) in
        (events, subst (λ b. IsScript b events) all x.4.0)
    judges (Bad n) f = let x = f.each bytes told in (n, events, subst (λ b. StopsAt n b events) (sym x.2) x.4)
    judges Long f = let x = f.each bytes told in (events, subst (λ b. IsTooLong b events) (sym x.2) x.4)
    judges Unread f = tt
    judges Unpaged f = tt
    judges TakerFault f = tt

-- the status of a run whose texts were closed
pub closed_began : (driven : Driven) → IsOfRun (status_after driven)
closed_began WholeScript = tt
closed_began (Bad n) = tt
closed_began Long = tt
closed_began Unread = tt
closed_began Unpaged = tt
closed_began TakerFault = tt

-- a generated script is never bad, and never too long
pub never_judged : (script script' : Option (List ℕ)) (seed : ℕ) (driven : Driven) (events : List Event) → AreRun (Generated seed) script script' driven events → (status : Status) → status ≡ status_after driven
    → (status ≡ Script → ⊥) × (status ≡ LongScript → ⊥)
never_judged script script' seed driven events found status is = (λ bad. never driven found.0 (inl (sym is ∙ bad)), λ long. never driven found.0 (inr (sym is ∙ long)))
  where
    never : (d : Driven) → AreGenerated seed d events → (status_after d ≡ Script) ⊎ (status_after d ≡ LongScript) → ⊥
    never WholeScript f (inl x) = absurd (cc x)
    never WholeScript f (inr x) = absurd (cc x)
    never (Bad n) f x = f
    never Long f x = f
    never Unread f x = f
    never Unpaged f (inl x) = absurd (cc x)
    never Unpaged f (inr x) = absurd (cc x)
    never TakerFault f (inl x) = absurd (cc x)
    never TakerFault f (inr x) = absurd (cc x)
