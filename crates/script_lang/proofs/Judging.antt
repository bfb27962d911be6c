-- What a line at the front makes of the rest of a script, and how lines that were passed add up.
use Rattle.std.proofs.Common.{◌≡◌, ◌≢◌, ◌⊎◌, inl, inr, ℕ, ◌+◌, ◌<◌, ◌≤◌, List, [], ◌∷◌, ◌++◌, length, take, drop, refl, sym, ◌∙◌, ap, subst, arith, append_assoc, length-append}
use Rattle.std.specs.Prelude.{Option}
use Rattle.std.proofs.lemmas.Grind.{flat_map-append}
use Rattle.std.proofs.lemmas.List.{append-nil, take_at, drop_at}
use Rattle.script_texts.specs.declared.event.Event.{Event}
use Rattle.script_texts.specs.Script.{AreLines, Gives, GiveAll, HasNoFeed, IsBadLine, IsBadRest, IsBlank, IsLongRest, Spells, joined, most_bytes}
use Rattle.line_buffer.specs.Feeds.{AllLeft, EndsWithin, GoesBeyond, IsFed, Reads, StopsWithin}
use Rattle.script_lang.specs.Lines.{Breaks, FrontIsBad, FrontIsLong, GivesFront, GivesLine, IsDone, IsFinal, IsReadBy, IsUndecided, Passes, Skips, Takes, given, lines_given, pending, turns_given}
use Rattle.script_lang.specs.declared.lines.Line.{Line}
use Rattle.script_lang.specs.declared.lines.Line.TheVariants.{One, Blank, Bad, Long, End, Fault}
use Rattle.script_lang.specs.declared.lines.Lines.{Lines}
use Rattle.line_buffer.proofs.Reading.{beyond_line, feed_behind, reads_left, reads_none, reads_then}

-- what is told behind bytes that have a line feed
fed_told : (held : List ℕ) (n : ℕ) (fed : IsFed held n) (told : List ℕ) → held ++ told ≡ fed.line ++ 10 ∷ (fed.more ++ told)
fed_told held n fed told = ap (λ l. l ++ told) fed.whole ∙ append_assoc fed.line (10 ∷ fed.more) told

pub fed_line : (held : List ℕ) (n : ℕ) (fed : IsFed held n) → take n held ≡ fed.line
fed_line held n fed = ap (λ l. take n l) fed.whole ∙ take_at fed.line (10 ∷ fed.more) n fed.long

pub fed_more : (held : List ℕ) (n : ℕ) (fed : IsFed held n) → drop (n + 1) held ≡ fed.more
fed_more held n fed =
    let long : length (fed.line ++ 10 ∷ []) ≡ n + 1 = omega (arith, length-append fed.line (10 ∷ []), fed.long) in
    ap (λ l. drop (n + 1) l) (fed.whole ∙ sym (append_assoc fed.line (10 ∷ []) fed.more)) ∙ drop_at (fed.line ++ 10 ∷ []) fed.more (n + 1) long

pub long_front : (before : ℕ) (held : List ℕ) (n : ℕ) → IsFed held n → before ≤ most_bytes → most_bytes ≤ before + n → FrontIsLong before held
long_front before held n fed short over told =
    let whole = fed_told held n fed told in (
      short,
      omega (arith, ap length whole, length-append fed.line (10 ∷ (fed.more ++ told)), fed.long, over),
      (λ line more is. omega (arith, feed_behind fed.line (10 ∷ (fed.more ++ told)) line more fed.plain (sym whole ∙ is), fed.long, over)),
    )

pub bad_front : (before so_far : ℕ) (held : List ℕ) (n : ℕ) (fed : IsFed held n) → before + n < most_bytes → IsBadLine so_far fed.line → FrontIsBad before so_far held
bad_front before so_far held n fed near bad told = inl (fed.line, fed.more ++ told, fed_told held n fed told, fed.plain, omega (arith, near, fed.long), bad)

pub gives_line : (old new : Lines) (n : ℕ) (fed : IsFed (pending old) n) (events : List Event) → Gives fed.line events → pending new ≡ drop (n + 1) (pending old)
    → lines_given new ≡ lines_given old + 1 → given new ≡ given old + (n + 1) → GivesLine old new events
gives_line old new n fed events gives left lines bytes = record {
  line = fed.line;
  whole = fed.whole ∙ ap (λ l. fed.line ++ 10 ∷ l) (sym (left ∙ fed_more (pending old) n fed));
  gives = gives;
  more_lines = lines;
  more_bytes = omega (arith, bytes, fed.long);
}

pub gives_event : (line : List ℕ) (e : Event) → HasNoFeed line → length line ≤ 256 → Spells line e → Gives line (e ∷ [])
gives_event line e plain short spelled = (record { short = short; no_feed = plain }, inl (e, spelled, refl))

pub gives_none : (line : List ℕ) → HasNoFeed line → length line ≤ 256 → IsBlank line → Gives line []
gives_none line plain short blank = (record { short = short; no_feed = plain }, inr (blank, refl))

-- a first line that ends within the room, which is too long or does not
pub ends_bad : (before so_far least room : ℕ) (xs told : List ℕ) → room + before ≡ most_bytes → (256 < least) ⊎ (room < least) → EndsWithin least room xs → IsBadRest before so_far (xs ++ told)
ends_bad before so_far least room xs told whole over ends =
    let long : 256 < length ends.line = elim over [ inl h ↦ omega (arith, h, ends.far) | inr h ↦ absurd (omega (arith, h, ends.far, ends.near)) ] in
    let behind = ap (λ l. l ++ told) ends.whole ∙ append_assoc ends.line (10 ∷ ends.more) told in
    inl (ends.line, ends.more ++ told, behind, ends.plain, omega (arith, whole, ends.near), inl long)

-- a last line without a line feed
pub stops_bad : (before so_far least room : ℕ) (xs : List ℕ) → room + before ≡ most_bytes → 0 < least → StopsWithin least room xs → IsBadRest before so_far xs
stops_bad before so_far least room xs whole some stops = inr ((λ none. omega (arith, ap length none, stops.far, some)), stops.plain, omega (arith, whole, stops.near))

pub goes_long : (before room : ℕ) (xs told : List ℕ) → room + before ≡ most_bytes → GoesBeyond room xs → IsLongRest before (xs ++ told)
goes_long before room xs told whole goes =
    (omega (arith, whole), omega (arith, whole, goes.long, length-append xs told), (λ line more is. omega (arith, whole, beyond_line room xs told line more goes is)))

-- lines one after another give their events one after another
pub give_both : (ls ms : List (List ℕ)) (es fs : List Event) → GiveAll ls es → GiveAll ms fs → GiveAll (ls ++ ms) (es ++ fs)
give_both [] ms es fs p q = subst (λ l. GiveAll ms (l ++ fs)) (sym p) q
give_both (l ∷ ls) ms es fs p q = (p.0, p.1 ++ fs, ap (λ l. l ++ fs) p.2 ∙ append_assoc p.0 p.1 fs, p.3, give_both ls ms p.1 fs p.4 q)

pub lines_none : AreLines [] 0 []
lines_none = record { lines = []; whole = refl; many = refl; gives = refl }

pub lines_one : (line : List ℕ) (events : List Event) → Gives line events → AreLines (line ++ 10 ∷ []) 1 events
lines_one line events gives = record {
  lines = line ∷ [];
  whole = sym (append-nil (line ++ 10 ∷ []));
  many = refl;
  gives = (events, [], sym (append-nil events), gives, refl);
}

-- the beginning of a line, within the room
pub stops_undecided : (before least room : ℕ) (xs : List ℕ) → room + before ≡ most_bytes → StopsWithin least room xs → IsUndecided before xs
stops_undecided before least room xs whole stops = record { front = []; rest = xs; count = 0; whole = refl; lines = lines_none; plain = stops.plain; within = omega (arith, whole, stops.near) }

pub lines_both : (front back : List ℕ) (m n : ℕ) (es fs : List Event) → AreLines front m es → AreLines back n fs → AreLines (front ++ back) (m + n) (es ++ fs)
lines_both front back m n es fs p q = record {
  lines = p.lines ++ q.lines;
  whole = ap (λ l. l ++ back) p.whole ∙ (ap (λ l. joined p.lines ++ l) q.whole ∙ sym (flat_map-append (λ l. l ++ 10 ∷ []) p.lines q.lines));
  many = omega (arith, length-append p.lines q.lines, p.many, q.many);
  gives = give_both p.lines q.lines es fs p.gives q.gives;
}

-- a bad line at the front, with no line before it
pub breaks_now : (before so_far passed : ℕ) (xs : List ℕ) → IsBadRest before so_far xs → Breaks before so_far passed (passed + 1) xs
breaks_now before so_far passed xs bad = record {
  front = [];
  rest = xs;
  count = 0;
  whole = refl;
  lines = lines_none;
  numbered = omega arith;
  bad = subst (λ n. IsBadRest n so_far xs) (omega arith) bad;
}

pub passes_now : (before : ℕ) (xs : List ℕ) → IsLongRest before xs → Passes before xs
passes_now before xs long = record {
  front = [];
  rest = xs;
  count = 0;
  whole = refl;
  lines = lines_none;
  long = subst (λ n. IsLongRest n xs) (omega arith) long;
}

-- nothing is left
pub done_now : (before : ℕ) (xs : List ℕ) → before ≤ most_bytes → xs ≡ [] → IsDone before xs
done_now before xs short none = subst (IsDone before) (sym none) (record { count = 0; lines = lines_none; short = omega (arith, short) })

-- the front of what is held was given as a line
pub line_front : (old mid new : Lines) (events : List Event) → given mid ≡ given old → lines_given mid ≡ lines_given old → GivesLine mid new events → GivesFront old new events (pending mid)
line_front old mid new events bytes lines gives = record {
  front = gives.line ++ 10 ∷ [];
  count = 1;
  whole = gives.whole ∙ sym (append_assoc gives.line (10 ∷ []) (pending new));
  lines = lines_one gives.line events gives.gives;
  more_lines = gives.more_lines ∙ ap (λ n. n + 1) lines;
  more_bytes = omega (arith, gives.more_bytes, bytes, length-append gives.line (10 ∷ []));
}

pub read_by_line : (old mid new : Lines) (line : Line) → given mid ≡ given old → lines_given mid ≡ lines_given old → ((e : Event) → line ≡ One e → GivesLine mid new (e ∷ [])) → (line ≡ Blank → GivesLine mid new []) → line ≢ Fault
    → IsReadBy old new line (pending mid)
read_by_line old mid new (One e) bytes lines gives blank here = line_front old mid new (e ∷ []) bytes lines (gives e refl)
read_by_line old mid new Blank bytes lines gives blank here = line_front old mid new [] bytes lines (blank refl)
read_by_line old mid new Bad bytes lines gives blank here = tt
read_by_line old mid new Long bytes lines gives blank here = tt
read_by_line old mid new End bytes lines gives blank here = tt
read_by_line old mid new Fault bytes lines gives blank here = absurd (here refl)

pub read_by_final : (old mid new new' : Lines) (line : Line) (xs : List ℕ) → given mid ≡ given old → IsFinal line → IsReadBy mid new line xs → IsReadBy old new' line xs
read_by_final old mid new new' (One e) xs same final by = absurd final
read_by_final old mid new new' Blank xs same final by = absurd final
read_by_final old mid new new' Bad xs same final by = tt
read_by_final old mid new new' Long xs same final by = tt
read_by_final old mid new new' End xs same final by = tt
read_by_final old mid new new' Fault xs same final by = subst (λ n. IsUndecided n xs) same by

pub gives_nothing : (l : Lines) → GivesFront l l [] (pending l)
gives_nothing l = record { front = []; count = 0; whole = refl; lines = lines_none; more_lines = omega arith; more_bytes = omega arith }

pub gives_both : (a b c : Lines) (es fs : List Event) (xs ys : List ℕ) (p : GivesFront a b es xs) → GivesFront b c fs ys → GivesFront a c (es ++ fs) (p.front ++ ys)
gives_both a b c es fs xs ys p q = record {
  front = p.front ++ q.front;
  count = p.count + q.count;
  whole = ap (λ l. p.front ++ l) q.whole ∙ sym (append_assoc p.front q.front (pending c));
  lines = lines_both p.front q.front p.count q.count es fs p.lines q.lines;
  more_lines = omega (arith, p.more_lines, q.more_lines);
  more_bytes = omega (arith, p.more_bytes, q.more_bytes, length-append p.front q.front);
}

-- nothing is decided by lines without an event before these bytes
pub undecided_behind : (a b : Lines) (xs ys : List ℕ) (p : GivesFront a b [] xs) → IsUndecided (given b) ys → IsUndecided (given a) (p.front ++ ys)
undecided_behind a b xs ys p u = record {
  front = p.front ++ u.front;
  rest = u.rest;
  count = p.count + u.count;
  whole = ap (λ l. p.front ++ l) u.whole ∙ sym (append_assoc p.front u.front u.rest);
  lines = lines_both p.front u.front p.count u.count [] [] p.lines u.lines;
  plain = u.plain;
  within = omega (arith, u.within, p.more_bytes, length-append p.front ys);
}

module _ {S : Type 0} (left : S → Option (List ℕ)) where
  pub takes_read : {Needs : List ℕ → Type 0} {a b : Lines} {s t : S} {events : List Event} → Reads left Needs (pending a) s t (GivesFront a b events) → Takes left a b s t events
  takes_read {b = b} r = record {
    each = λ xs rest.
        let now = reads_left left r xs rest in
        record {
          front = r.is.front;
          rest = pending b ++ now.0;
          count = r.is.count;
          whole = now.2 ∙ (ap (λ l. l ++ now.0) r.is.whole ∙ append_assoc r.is.front (pending b) now.0);
          behind = (now.0, now.1, refl);
          lines = r.is.lines;
          more_lines = r.is.more_lines;
          more_bytes = r.is.more_bytes;
        };
  }

  -- more was read behind lines that gave no event
  pub reads_behind : {a b : Lines} {s t u : S} {Is : List ℕ → Type 0} (Is' : List ℕ → Type 0) (r : Reads left (IsUndecided (given a)) (pending a) s t (GivesFront a b [])) → Reads left (IsUndecided (given b)) (pending b) t u Is
      → ((xs : List ℕ) → Is xs → Is' (r.is.front ++ xs)) → Reads left (IsUndecided (given a)) (pending a) s u Is'
  reads_behind {a} {b} Is' r then is = reads_then left r Is' r.is.front (pending b) then r.is.whole (λ xs needs. undecided_behind a b (pending a ++ r.bytes) xs r.is needs) is

  pub takes_none : (l : Lines) (s : S) → Takes left l l s s []
  takes_none l s = takes_read (reads_none left (λ xs. Unit {0}) (GivesFront l l []) (pending l) s (gives_nothing l))

  pub takes_both : (a b c : Lines) (s t u : S) (es fs : List Event) → Takes left a b s t es → Takes left b c t u fs → Takes left a c s u (es ++ fs)
  takes_both a b c s t u es fs p q = record {
    each = λ xs rest.
        let x = p.each xs rest in
        let y = q.each x.rest x.behind in
        record {
          front = x.front ++ y.front;
          rest = y.rest;
          count = x.count + y.count;
          whole = x.whole ∙ (ap (λ l. x.front ++ l) y.whole ∙ sym (append_assoc x.front y.front y.rest));
          behind = y.behind;
          lines = lines_both x.front y.front x.count y.count es fs x.lines y.lines;
          more_lines = omega (arith, x.more_lines, y.more_lines);
          more_bytes = omega (arith, x.more_bytes, y.more_bytes, length-append x.front y.front);
        };
  }

  module _ (a b : Lines) (s t : S) (blank : Takes left a b s t []) where
    pub done_behind : AllLeft left (pending b) t (IsDone (given b)) → AllLeft left (pending a) s (IsDone (given a))
    done_behind all = record {
      each = λ xs rest.
          let x = blank.each xs rest in
          let y = all.each x.rest x.behind in
          record {
            count = x.count + y.count;
            lines = subst (λ l. AreLines l (x.count + y.count) []) (sym x.whole) (lines_both x.front x.rest x.count y.count [] [] x.lines y.lines);
            short = omega (arith, y.short, x.more_bytes, ap length x.whole, length-append x.front x.rest);
          };
    }

    pub breaks_behind : (n : ℕ) → turns_given b ≡ turns_given a → AllLeft left (pending b) t (Breaks (given b) (turns_given b) (lines_given b) n)
        → AllLeft left (pending a) s (Breaks (given a) (turns_given a) (lines_given a) n)
    breaks_behind n turns all = record {
      each = λ xs rest.
          let x = blank.each xs rest in
          let y = all.each x.rest x.behind in
          let place : given b + length y.front ≡ given a + length (x.front ++ y.front) = omega (arith, x.more_bytes, length-append x.front y.front) in
          record {
            front = x.front ++ y.front;
            rest = y.rest;
            count = x.count + y.count;
            whole = x.whole ∙ (ap (λ l. x.front ++ l) y.whole ∙ sym (append_assoc x.front y.front y.rest));
            lines = lines_both x.front y.front x.count y.count [] [] x.lines y.lines;
            numbered = omega (arith, y.numbered, x.more_lines);
            bad = subst (λ k. IsBadRest k (turns_given a) y.rest) place (subst (λ k. IsBadRest (given b + length y.front) k y.rest) turns y.bad);
          };
    }

    pub passes_behind : AllLeft left (pending b) t (Passes (given b)) → AllLeft left (pending a) s (Passes (given a))
    passes_behind all = record {
      each = λ xs rest.
          let x = blank.each xs rest in
          let y = all.each x.rest x.behind in
          let place : given b + length y.front ≡ given a + length (x.front ++ y.front) = omega (arith, x.more_bytes, length-append x.front y.front) in
          record {
            front = x.front ++ y.front;
            rest = y.rest;
            count = x.count + y.count;
            whole = x.whole ∙ (ap (λ l. x.front ++ l) y.whole ∙ sym (append_assoc x.front y.front y.rest));
            lines = lines_both x.front y.front x.count y.count [] [] x.lines y.lines;
            long = subst (λ k. IsLongRest k y.rest) place y.long;
          };
    }

  -- lines without an event were passed over, and nothing was read
  pub takes_skipped : (first a b : Lines) (s t : S) (events : List Event) → Takes left first a s t events → Skips a b → Takes left first b s t events
  takes_skipped first a b s t events takes skips =
      let blank : Takes left a b t t [] = takes_read (reads_none left (λ xs. Unit {0}) (GivesFront a b []) (pending a) t skips.blank) in
      subst (Takes left first b s t) (append-nil events) (takes_both first a b s t t events [] takes blank)
