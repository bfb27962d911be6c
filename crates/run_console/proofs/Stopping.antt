-- What the sinks took where nothing was run.
use Rattle.std.proofs.Common.{◌≡◌, inl, inr, ℕ, List, [], ◌∷◌, ◌++◌, length, Option, None, Some, refl, ◌∙◌, ap, arith}
use Rattle.std.proofs.lemmas.List.{append-nil}
use Rattle.outside.specs.Told.{Grows, Stays}
use Rattle.texts.specs.declared.writer.Writer.{Writer}
use Rattle.texts.specs.declared.last.Last.TheVariants.{Stopped}
use Rattle.texts.specs.declared.last.Status.{Status}
use Rattle.texts.specs.declared.last.Status.TheVariants.{WriteFault}
use Rattle.texts.specs.Wrote.{WrotePartly}
use Rattle.texts.specs.Writer.{Finishes, FailsAtEnd}
use Rattle.texts.proofs.Starts.{stands_start}
use Rattle.run_console.specs.declared.asked.Unbegun.{Unbegun}
use Rattle.run_console.specs.Headline.{Stops, status_of}

-- a front of no bytes is none
front_of_none : (front rest : List ℕ) → front ++ rest ≡ [] → front ≡ []
front_of_none [] rest is = refl
front_of_none (c ∷ front) rest is = absurd (omega (arith, ap length is))

-- what took a front of no bytes stays
stays_partly : (old new : Option (List ℕ)) → WrotePartly old new [] → Stays old new
stays_partly old new wrote told is =
    let w = wrote.each told is in
    w.2 ∙ ap Some (ap (λ b. told ++ b) (front_of_none w.0 w.1 w.3) ∙ append-nil told)

-- what grew by no bytes stays
stays_grown : (old new : Option (List ℕ)) → Grows old new [] → Stays old new
stays_grown old new grows told is = grows told is ∙ ap Some (append-nil told)

module _ {T R : Type 0} (out_taken : T → Option (List ℕ)) (rec_taken : R → Option (List ℕ)) (w u : Writer T R) (line : w.line ≡ None) (run : w.run ≡ None) where
  -- nothing was run, and the line was written
  pub stopped : (why : Unbegun) (status : Status) → status ≡ status_of why → Finishes out_taken rec_taken (Stopped (status_of why) 0) w u → Stops why (out_taken w.out.now) (out_taken u.out.now) (rec_taken w.rec.now) (rec_taken u.rec.now) status
  stopped why status is finishes =
      let ends = finishes.each w [] [] (stands_start out_taken rec_taken w line run) in
      inl (is, ends.out, stays_grown (rec_taken w.rec.now) (rec_taken u.rec.now) ends.rec)

  -- nothing was run, and the line was not written
  pub unstopped : (why : Unbegun) → FailsAtEnd out_taken rec_taken (Stopped (status_of why) 0) w u → Stops why (out_taken w.out.now) (out_taken u.out.now) (rec_taken w.rec.now) (rec_taken u.rec.now) WriteFault
  unstopped why fails =
      let ends = fails.each w [] [] (stands_start out_taken rec_taken w line run) in
      inr (refl, ends.out, stays_partly (rec_taken w.rec.now) (rec_taken u.rec.now) ends.rec)
