-- What a script is found to be.
use Rattle.std.proofs.Common.{◌≡◌, ℕ, ◌≤◌, List, [], ◌++◌, Option, Some, refl, sym, ◌∙◌, ap, subst, append_assoc}
use Rattle.std.proofs.lemmas.List.{append-nil}
use Rattle.script_texts.specs.declared.event.Event.{Event}
use Rattle.script_texts.specs.Script.{BeginsWith, IsTooLong, StopsAt, most_turns, turns_in}
use Rattle.line_buffer.specs.Feeds.{AllLeft, Reads, Spends}
use Rattle.script_lang.specs.Lines.{Breaks, IsDone, IsUndecided, Passes, Takes, given, lines_given, pending, turns_given}
use Rattle.script_lang.specs.declared.lines.Lines.{Lines}
use Rattle.script_lang.proofs.Whole.{script_of_whole, stop_of_whole, long_of_whole, taken_of_whole, read_of_whole}
use Rattle.script_driver.specs.Verdicts.{Found, Verdict}
use Rattle.script_driver.specs.declared.driver.Driven.TheVariants.{Done, Bad, Long, ReadFault}

module _ {S : Type 0} {left : S → Option (List ℕ)} {first l : Lines} {s t : S} {es : List Event} (none : pending first ≡ []) (start : given first ≡ 0) (takes : Takes left first l s t es) (few : turns_in es ≤ most_turns) where
  -- lines with these events were taken, and what is pending
  pub found_begun : Found (left s) (left t) (λ taken rest. BeginsWith taken es)
  found_begun = record {
    each = λ bytes told.
        let x = takes.each bytes (bytes, told, ap (λ p. p ++ bytes) (sym none)) in
        let behind = x.behind in (
          x.front ++ pending l,
          behind.0,
          x.whole ∙ (ap (λ b. x.front ++ b) behind.2 ∙ sym (append_assoc x.front (pending l) behind.0)),
          behind.1,
          record { front = x.front; rest = pending l; count = x.count; whole = refl; lines = x.lines; few = few },
        );
  }

  module _ {u : S} where
    pub found_done : AllLeft left (pending l) t (IsDone (given l)) → Spends (left t) (left u) → Found (left s) (left u) (Verdict Done es)
    found_done all spends = record {
      each = λ bytes told.
          let x = takes.each bytes (bytes, told, ap (λ p. p ++ bytes) (sym none)) in
          (bytes, [], sym (append-nil bytes), spends x.behind.0 x.behind.1, (script_of_whole left first l s t es none start takes few bytes told all, refl));
    }

    module _ {Needs Is : List ℕ → Type 0} (reads : Reads left Needs (pending l) t u Is) where
      -- so it is of the whole bytes
      found_whole : (P : List ℕ → Type 0) → ((bytes : List ℕ) → left s ≡ Some bytes → P bytes) → Found (left s) (left u) (λ taken rest. P (taken ++ rest))
      found_whole P whole = record {
        each = λ bytes told.
            let x = taken_of_whole left first l s t es none start takes few bytes told reads in
            (x.0, x.1, x.2, x.3, subst P x.2 (whole bytes told));
      }

      pub found_bad : {n : ℕ} → lines_given first ≡ 0 → turns_given l ≡ turns_in es → AllLeft left (pending l) t (Breaks (given l) (turns_given l) (lines_given l) n) → Found (left s) (left u) (Verdict (Bad n) es)
      found_bad {n} lines turns all = found_whole (λ bytes. StopsAt n bytes es) (λ bytes told. stop_of_whole left first l s t es none start takes few bytes n told lines turns all)

      pub found_long : AllLeft left (pending l) t (Passes (given l)) → Found (left s) (left u) (Verdict Long es)
      found_long all = found_whole (λ bytes. IsTooLong bytes es) (λ bytes told. long_of_whole left first l s t es none start takes few bytes told all)

    pub found_unread : {Needs : List ℕ → Type 0} → Reads left Needs (pending l) t u (IsUndecided (given l)) → Found (left s) (left u) (Verdict ReadFault es)
    found_unread reads = record { each = λ bytes told. read_of_whole left first l s t es none start takes few bytes told reads }
