-- From what was taken and what was left to the verdict on the whole text.
use Rattle.std.proofs.Common.{◌≡◌, ℕ, ◌+◌, ◌≤◌, List, [], ◌++◌, length, sym, ◌∙◌, ap, subst, arith, append_assoc, length-append}
use Rattle.std.specs.Prelude.{Option, Some}
use Rattle.std.proofs.lemmas.List.{append-nil}
use Rattle.script_texts.specs.declared.event.Event.{Event}
use Rattle.script_texts.specs.Script.{AreLines, IsBadRest, IsLongRest, IsReadTo, IsScript, IsTooLong, StopsAt, most_turns, turns_in}
use Rattle.line_buffer.specs.Feeds.{AllLeft, IsLeft, Reads}
use Rattle.script_lang.specs.Lines.{Breaks, IsDone, IsUndecided, Passes, Takes, given, lines_given, pending, turns_given}
use Rattle.script_lang.specs.declared.lines.Lines.{Lines}
use Rattle.script_lang.proofs.Judging.{lines_both}
use Rattle.line_buffer.proofs.Reading.{reads_left}

-- lines that give events, and then lines that give none
lines_then_none : (front back : List ℕ) (m n : ℕ) (es : List Event) → AreLines front m es → AreLines back n [] → AreLines (front ++ back) (m + n) es
lines_then_none front back m n es p q = subst (λ e. AreLines (front ++ back) (m + n) e) (append-nil es) (lines_both front back m n es [] p q)

module _ {S : Type 0} (left : S → Option (List ℕ)) (first l : Lines) (s t : S) (es : List Event) (none : pending first ≡ []) (start : given first ≡ 0) (takes : Takes left first l s t es) (few : turns_in es ≤ most_turns) where
  all_of : (xs : List ℕ) → left s ≡ Some xs → IsLeft left (pending first) s xs
  all_of xs told = (xs, told, ap (λ p. p ++ xs) (sym none))

  pub script_of_whole : (xs : List ℕ) → left s ≡ Some xs → AllLeft left (pending l) t (IsDone (given l)) → IsScript xs es
  script_of_whole xs told done =
      let x = takes.each xs (all_of xs told) in
      let y = done.each x.rest x.behind in
      record {
        count = x.count + y.count;
        lines = subst (λ b. AreLines b (x.count + y.count) es) (sym x.whole) (lines_then_none x.front x.rest x.count y.count es x.lines y.lines);
        few = few;
        short = omega (arith, y.short, x.more_bytes, start, ap length x.whole, length-append x.front x.rest);
      }

  pub stop_of_whole : (xs : List ℕ) (n : ℕ) → left s ≡ Some xs → lines_given first ≡ 0 → turns_given l ≡ turns_in es → AllLeft left (pending l) t (Breaks (given l) (turns_given l) (lines_given l) n) → StopsAt n xs es
  stop_of_whole xs n told lines turns breaks =
      let x = takes.each xs (all_of xs told) in
      let y = breaks.each x.rest x.behind in
      let place : given l + length y.front ≡ length (x.front ++ y.front) = omega (arith, x.more_bytes, start, length-append x.front y.front) in
      record {
        begins = record {
          front = x.front ++ y.front;
          rest = y.rest;
          count = x.count + y.count;
          whole = x.whole ∙ (ap (λ b. x.front ++ b) y.whole ∙ sym (append_assoc x.front y.front y.rest));
          lines = lines_then_none x.front y.front x.count y.count es x.lines y.lines;
          few = few;
        };
        numbered = omega (arith, y.numbered, x.more_lines, lines);
        bad = subst (λ k. IsBadRest k (turns_in es) y.rest) place (subst (λ k. IsBadRest (given l + length y.front) k y.rest) turns y.bad);
      }

  pub long_of_whole : (xs : List ℕ) → left s ≡ Some xs → AllLeft left (pending l) t (Passes (given l)) → IsTooLong xs es
  long_of_whole xs told passes =
      let x = takes.each xs (all_of xs told) in
      let y = passes.each x.rest x.behind in
      let place : given l + length y.front ≡ length (x.front ++ y.front) = omega (arith, x.more_bytes, start, length-append x.front y.front) in
      record {
        begins = record {
          front = x.front ++ y.front;
          rest = y.rest;
          count = x.count + y.count;
          whole = x.whole ∙ (ap (λ b. x.front ++ b) y.whole ∙ sym (append_assoc x.front y.front y.rest));
          lines = lines_then_none x.front y.front x.count y.count es x.lines y.lines;
          few = few;
        };
        long = subst (λ k. IsLongRest k y.rest) place y.long;
      }

  -- how much of the whole text the source has lost, and what it has left
  pub taken_of_whole : {Needs Is : List ℕ → Type 0} {u : S} (xs : List ℕ) → left s ≡ Some xs → Reads left Needs (pending l) t u Is → (taken : List ℕ) × (rest : List ℕ) × (xs ≡ taken ++ rest) × (left u ≡ Some rest)
  taken_of_whole xs told r =
      let x = takes.each xs (all_of xs told) in
      let y = reads_left left r x.rest x.behind in
      (x.front ++ (pending l ++ r.bytes), y.0, x.whole ∙ (ap (λ b. x.front ++ b) y.2 ∙ sym (append_assoc x.front (pending l ++ r.bytes) y.0)), y.1)

  -- where a read failed, what the source has lost is the lines of these events and the beginning of one more
  pub read_of_whole : {Needs : List ℕ → Type 0} {u : S} (xs : List ℕ) → left s ≡ Some xs → Reads left Needs (pending l) t u (IsUndecided (given l))
      → (taken : List ℕ) × (rest : List ℕ) × (xs ≡ taken ++ rest) × (left u ≡ Some rest) × IsReadTo taken es
  unfolding taken_of_whole
  read_of_whole xs told r =
      let x = takes.each xs (all_of xs told) in
      let here = taken_of_whole xs told r in
      let u = r.is in
      let bytes = pending l ++ r.bytes in (
        here.0,
        here.1,
        here.2,
        here.3,
        record {
          begins = record {
            front = x.front ++ u.front;
            rest = u.rest;
            count = x.count + u.count;
            whole = ap (λ b. x.front ++ b) u.whole ∙ sym (append_assoc x.front u.front u.rest);
            lines = lines_then_none x.front u.front x.count u.count es x.lines u.lines;
            few = few;
          };
          broken = u.plain;
          within = omega (arith, u.within, x.more_bytes, start, length-append x.front bytes);
        },
      )
