-- What is written item by item is the transcript.
use Rattle.std.proofs.Common.{◌≡◌, ℕ, List, [], ◌∷◌, ◌++◌, decimal, Bool, true, false, cond, not, ◌||◌, None, Some, ◌==◌, refl, sym, ◌∙◌, ap, arith, append_assoc}
use Rattle.std.proofs.lemmas.Bool.Decides.{nat_tests}
use Rattle.std.proofs.lemmas.List.{append-nil}
use Rattle.std.specs.List.{flat_map}
use Rattle.script_texts.specs.declared.event.Item.{Item}
use Rattle.script_texts.specs.declared.event.Item.TheVariants.{Char, ForkLine, Examined, PageLine, PageWord, UnitLine, Refusal}
use Rattle.script_texts.specs.Texts.{TranscriptLine, typed, shown, put_before, lines_of, text_of, transcript, escaped, ended, shown_line}
use Rattle.texts.specs.OpenLine.{Open, text_after, line_start, line_end}

abbrev all_of : List TranscriptLine → List ℕ
all_of ls = flat_map text_of ls

abbrev typed_text : List ℕ → List ℕ
typed_text cs = flat_map escaped cs

-- what is written of these lines behind what is open
abbrev rest_of : Open → List TranscriptLine → List ℕ
rest_of None ls = all_of ls
rest_of (Some s) [] = 10 ∷ []
rest_of (Some s) (shown text ∷ ls) = 10 ∷ all_of (shown text ∷ ls)
rest_of (Some s) (typed t cs ∷ ls) = cond (s == t) (typed_text cs ++ 10 ∷ all_of ls) (10 ∷ all_of (typed t cs ∷ ls))

same_of : (t s : ℕ) → (t == s) ≡ true → s ≡ t
same_of t s e = grind (arith, nat_tests)

-- a line of characters from its start on
whole_line : (t : ℕ) (cs more : List ℕ) → text_of (typed t cs) ++ more ≡ (84 ∷ (decimal t ++ 32 ∷ [])) ++ (typed_text cs ++ 10 ∷ more)
whole_line t cs more = ap (λ l. 84 ∷ l) (regroup (decimal t) (typed_text cs))
  where
    regroup : (d x : List ℕ) → ((d ++ 32 ∷ x) ++ 10 ∷ []) ++ more ≡ (d ++ 32 ∷ []) ++ (x ++ 10 ∷ more)
    regroup d x = simp append_assoc refl

begins_at : (b : Bool) (t : ℕ) (cs more : List ℕ) → cond b (typed_text cs ++ 10 ∷ more) (10 ∷ (text_of (typed t cs) ++ more)) ≡ cond b [] (10 ∷ 84 ∷ (decimal t ++ 32 ∷ [])) ++ (typed_text cs ++ 10 ∷ more)
begins_at true t cs more = refl
begins_at false t cs more = ap (λ l. 10 ∷ l) (whole_line t cs more)

begins : (o : Open) (t : ℕ) (cs : List ℕ) (ls : List TranscriptLine) → rest_of o (typed t cs ∷ ls) ≡ line_start o t ++ (typed_text cs ++ 10 ∷ all_of ls)
begins None t cs ls = whole_line t cs (all_of ls)
begins (Some s) t cs ls = begins_at (s == t) t cs (all_of ls)

-- one character and what follows it
lone : (o : Open) (t c : ℕ) (ls : List TranscriptLine) → rest_of o (typed t (c ∷ []) ∷ ls) ≡ line_start o t ++ (escaped c ++ 10 ∷ all_of ls)
lone o t c ls = begins o t (c ∷ []) ls ∙ ap (λ l. line_start o t ++ (l ++ 10 ∷ all_of ls)) (append-nil (escaped c))

-- a line that the character ends, or that it joins, by whether it is a line feed
abbrev put_by : Bool → ℕ → ℕ → List TranscriptLine → List TranscriptLine
put_by b t c (typed s cs ∷ ls) = cond (b || not (t == s)) (typed t (c ∷ []) ∷ typed s cs ∷ ls) (typed s (c ∷ cs) ∷ ls)
put_by b t c ls = typed t (c ∷ []) ∷ ls

put_is : (t c : ℕ) (ls : List TranscriptLine) → put_by (c == 10) t c ls ≡ put_before t c ls
put_is t c [] = refl
put_is t c (shown text ∷ ls) = refl
put_is t c (typed s cs ∷ ls) = refl

ends : (o : Open) (t c : ℕ) (ls : List TranscriptLine) → rest_of o (put_by true t c ls) ≡ line_start o t ++ (escaped c ++ 10 ∷ all_of ls)
ends o t c [] = lone o t c []
ends o t c (shown text ∷ ls) = lone o t c (shown text ∷ ls)
ends o t c (typed s cs ∷ ls) = lone o t c (typed s cs ∷ ls)

joins_at : (b : Bool) (o : Open) (t c s : ℕ) (cs : List ℕ) (ls : List TranscriptLine) → (b ≡ true → s ≡ t)
    → rest_of o (cond (not b) (typed t (c ∷ []) ∷ typed s cs ∷ ls) (typed s (c ∷ cs) ∷ ls)) ≡ line_start o t ++ (escaped c ++ cond b (typed_text cs ++ 10 ∷ all_of ls) (10 ∷ all_of (typed s cs ∷ ls)))
joins_at true o t c s cs ls same =
    begins o s (c ∷ cs) ls ∙ ap (λ l. line_start o s ++ l) (append_assoc (escaped c) (typed_text cs) (10 ∷ all_of ls))
    ∙ ap (λ k. line_start o k ++ (escaped c ++ (typed_text cs ++ 10 ∷ all_of ls))) (same refl)
joins_at false o t c s cs ls same = lone o t c (typed s cs ∷ ls)

joins : (o : Open) (t c : ℕ) (ls : List TranscriptLine) → rest_of o (put_by false t c ls) ≡ line_start o t ++ (escaped c ++ rest_of (Some t) ls)
joins o t c [] = lone o t c []
joins o t c (shown text ∷ ls) = lone o t c (shown text ∷ ls)
joins o t c (typed s cs ∷ ls) = joins_at (t == s) o t c s cs ls (same_of t s)

char_at : (b : Bool) (o : Open) (t c : ℕ) (is : List Item) (ls : List TranscriptLine) → text_after None is ≡ all_of ls → text_after (Some t) is ≡ rest_of (Some t) ls
    → (line_start o t ++ (escaped c ++ cond b (10 ∷ []) [])) ++ text_after (cond b None (Some t)) is ≡ rest_of o (put_by b t c ls)
char_at true o t c is ls closed more =
    append_assoc (line_start o t) (escaped c ++ 10 ∷ []) (text_after None is)
    ∙ ap (λ l. line_start o t ++ l) (append_assoc (escaped c) (10 ∷ []) (text_after None is))
    ∙ ap (λ l. line_start o t ++ (escaped c ++ 10 ∷ l)) closed ∙ sym (ends o t c ls)
char_at false o t c is ls closed more =
    append_assoc (line_start o t) (escaped c ++ []) (text_after (Some t) is)
    ∙ ap (λ l. line_start o t ++ l) (append_assoc (escaped c) [] (text_after (Some t) is))
    ∙ ap (λ l. line_start o t ++ (escaped c ++ l)) more ∙ sym (joins o t c ls)

other : (o : Open) (text more : List ℕ) (ls : List TranscriptLine) → more ≡ all_of ls → (line_end o ++ ended text) ++ more ≡ rest_of o (shown text ∷ ls)
other None text more ls e = ap (λ l. ended text ++ l) e
other (Some s) text more ls e = ap (λ l. 10 ∷ (ended text ++ l)) e

lined_after : (is : List Item) (o : Open) → text_after o is ≡ rest_of o (lines_of is)
lined_after [] None = refl
lined_after [] (Some s) = refl
lined_after (Char t c ∷ is) o =
    char_at (c == 10) o t.0 c is (lines_of is) (lined_after is None) (lined_after is (Some t.0)) ∙ ap (rest_of o) (put_is t.0 c (lines_of is))
lined_after (ForkLine l ∷ is) o = other o (shown_line (ForkLine l)) _ (lines_of is) (lined_after is None)
lined_after (Examined t serial address word ∷ is) o = other o (shown_line (Examined t serial address word)) _ (lines_of is) (lined_after is None)
lined_after (PageLine name page ∷ is) o = other o (shown_line (PageLine name page)) _ (lines_of is) (lined_after is None)
lined_after (PageWord offset word ∷ is) o = other o (shown_line (PageWord offset word)) _ (lines_of is) (lined_after is None)
lined_after (UnitLine f address ∷ is) o = other o (shown_line (UnitLine f address)) _ (lines_of is) (lined_after is None)
lined_after (Refusal cause ∷ is) o = other o (shown_line (Refusal cause)) _ (lines_of is) (lined_after is None)

pub lined : (is : List Item) → text_after None is ≡ transcript is
lined is = lined_after is None
