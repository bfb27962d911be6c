-- What a source has left while bytes are read from it, held and passed over.
use Rattle.std.proofs.Common.{◌≡◌, inl, inr, ℕ, ◌+◌, ◌<◌, ◌≤◌, List, [], ◌∷◌, ◌++◌, length, take, drop, refl, sym, ◌∙◌, ap, subst, arith, append_assoc, length-append}
use Rattle.std.specs.Prelude.{Option}
use Rattle.std.proofs.lemmas.List.{append-nil, take-append-le, take-append-drop, length-take-le}
use Rattle.std.proofs.lemmas.List.Elements.{All-head, All-tail, All-append, All-take}
use Rattle.outside.specs.Told.{Loses}
use Rattle.script_texts.specs.Script.{HasNoFeed}
use Rattle.line_buffer.proofs.Splits.{IsNot}
use Rattle.line_buffer.specs.Feeds.{AllLeft, EndsWithin, Fills, GoesBeyond, IsFed, IsLeft, Reads, Spends, StopsWithin}
use Rattle.line_buffer.specs.declared.buffer.TheConstants.{ROOM}

-- a line that ends in bytes ends behind those that have no line feed
pub feed_behind : (front rest line more : List ℕ) → HasNoFeed front → front ++ rest ≡ line ++ 10 ∷ more → length front ≤ length line
feed_behind [] rest line more plain same = omega arith
feed_behind (c ∷ front) rest [] more plain same = absurd (All-head (IsNot 10) c front plain (cc same))
feed_behind (c ∷ front) rest (d ∷ line) more plain same =
    let tails : front ++ rest ≡ line ++ 10 ∷ more = cc same in
    let later : length front ≤ length line = feed_behind front rest line more (All-tail (IsNot 10) c front plain) tails in
    omega arith

pub plain_both : (front back : List ℕ) → HasNoFeed front → HasNoFeed back → HasNoFeed (front ++ back)
plain_both front back p q = All-append (IsNot 10) front back p q

-- so many bytes without a line feed
pub record IsPlain (count : ℕ) (bytes : List ℕ) : Type 0 where
  pub plain : HasNoFeed bytes
  pub long : length bytes ≡ count

pub plain_more : (gone new : List ℕ) (count n : ℕ) → IsPlain count gone → HasNoFeed new → length new ≡ n → IsPlain (count + n) (gone ++ new)
plain_more gone new count n p plain long = record { plain = plain_both gone new p.plain plain; long = omega (arith, length-append gone new, p.long) }

-- the line feed of what is held now ends the line
fed_behind : (gone new : List ℕ) (at : ℕ) (fed : IsFed new at) → gone ++ new ≡ (gone ++ fed.line) ++ 10 ∷ fed.more
fed_behind gone new at fed = ap (λ l. gone ++ l) fed.whole ∙ sym (append_assoc gone fed.line (10 ∷ fed.more))

pub plain_fed : (gone new : List ℕ) (count at least room : ℕ) → IsPlain count gone → IsFed new at → least ≤ count → count + at < room → EndsWithin least room (gone ++ new)
plain_fed gone new count at least room p fed far near =
    let long : length (gone ++ fed.line) ≡ count + at = omega (arith, length-append gone fed.line, p.long, fed.long) in
    record {
      line = gone ++ fed.line;
      more = fed.more;
      whole = fed_behind gone new at fed;
      plain = plain_both gone fed.line p.plain fed.plain;
      far = omega (arith, long, far);
      near = omega (arith, long, near);
    }

pub plain_fed_beyond : (gone new : List ℕ) (count at room : ℕ) → IsPlain count gone → IsFed new at → room ≤ count + at → GoesBeyond room (gone ++ new)
plain_fed_beyond gone new count at room p fed over =
    let line = gone ++ fed.line in
    let long : length line ≡ count + at = omega (arith, length-append gone fed.line, p.long, fed.long) in
    let whole = fed_behind gone new at fed in
    let front : take room (gone ++ new) ≡ take room line = ap (λ l. take room l) whole ∙ take-append-le room line (10 ∷ fed.more) (omega (arith, long)) in
    record {
      long = omega (arith, ap length whole, length-append line (10 ∷ fed.more), long);
      plain = subst HasNoFeed (sym front) (All-take (IsNot 10) room line (plain_both gone fed.line p.plain fed.plain));
    }

-- whatever stands behind bytes that go beyond the room, no line ends before the room does
pub beyond_line : (room : ℕ) (xs told line more : List ℕ) → GoesBeyond room xs → xs ++ told ≡ line ++ 10 ∷ more → room ≤ length line
beyond_line room xs told line more goes same =
    let long : length (take room xs) ≡ room = length-take-le room xs (omega (arith, goes.long)) in
    let whole : take room xs ++ (drop room xs ++ told) ≡ xs ++ told = sym (append_assoc (take room xs) (drop room xs) told) ∙ ap (λ l. l ++ told) (take-append-drop room xs) in
    omega (arith, long, feed_behind (take room xs) (drop room xs ++ told) line more goes.plain (whole ∙ same))

module _ {S : Type 0} (left : S → Option (List ℕ)) where
  loses_both : (s t u : S) (xs ys : List ℕ) → Loses (left s) (left t) xs → Loses (left t) (left u) ys → Loses (left s) (left u) (xs ++ ys)
  loses_both s t u xs ys p q all told =
      let first = p all told in
      let then = q first.0 first.1 in
      (then.0, then.1, first.2 ∙ (ap (λ l. xs ++ l) then.2 ∙ sym (append_assoc xs ys then.0)))

  pub reads_none : (Needs Is : List ℕ → Type 0) (held : List ℕ) (s : S) → Is held → Reads left Needs held s s Is
  reads_none Needs Is held s is = record {
    bytes = [];
    loses = λ xs told. (xs, told, refl);
    needed = inl (refl, refl);
    is = subst Is (sym (append-nil held)) is;
  }

  module _ {Needs Is : List ℕ → Type 0} {held : List ℕ} {s t : S} (r : Reads left Needs held s t Is) where
    -- one more piece was read, where it was needed
    reads_more : (Is' : List ℕ → Type 0) (u : S) (piece : List ℕ) → Needs (held ++ r.bytes) → length piece ≤ ROOM → Loses (left t) (left u) piece → Is' ((held ++ r.bytes) ++ piece) → Reads left Needs held s u Is'
    reads_more Is' u piece needs short loses is = record {
      bytes = r.bytes ++ piece;
      loses = loses_both s t u r.bytes piece r.loses loses;
      needed = inr (record { before = r.bytes; piece = piece; whole = refl; short = short; needed = needs });
      is = subst Is' (append_assoc held r.bytes piece) is;
    }

    -- more was read behind bytes that were passed over
    pub reads_then : {Needs' Is' : List ℕ → Type 0} (Is'' : List ℕ → Type 0) (front held' : List ℕ) {u : S} → Reads left Needs' held' t u Is' → held ++ r.bytes ≡ front ++ held'
        → ((xs : List ℕ) → Needs' xs → Needs (front ++ xs)) → ((xs : List ℕ) → Is' xs → Is'' (front ++ xs)) → Reads left Needs held s u Is''
    reads_then Is'' front held' {u} then whole needs is =
        let at : (bytes : List ℕ) → front ++ (held' ++ bytes) ≡ held ++ (r.bytes ++ bytes) = λ bytes. sym (append_assoc front held' bytes) ∙ (ap (λ l. l ++ bytes) (sym whole) ∙ append_assoc held r.bytes bytes) in
        record {
          bytes = r.bytes ++ then.bytes;
          loses = loses_both s t u r.bytes then.bytes r.loses then.loses;
          needed = elim then.needed [
            | inl none ↦ elim r.needed [
              | inl same ↦ inl (none.0 ∙ same.0, ap (λ l. l ++ then.bytes) same.1 ∙ none.1)
              | inr p ↦ inr (record { before = p.before; piece = p.piece; whole = ap (λ l. r.bytes ++ l) none.1 ∙ (append-nil r.bytes ∙ p.whole); short = p.short; needed = p.needed })
            ]
            | inr p ↦
                inr (record {
                  before = r.bytes ++ p.before;
                  piece = p.piece;
                  whole = ap (λ l. r.bytes ++ l) p.whole ∙ sym (append_assoc r.bytes p.before p.piece);
                  short = p.short;
                  needed = subst Needs (at p.before) (needs (held' ++ p.before) p.needed);
                })
          ];
          is = subst Is'' (at then.bytes) (is (held' ++ then.bytes) then.is);
        }

    pub reads_weaker : (Needs' Is' : List ℕ → Type 0) → ((xs : List ℕ) → Needs xs → Needs' xs) → ((xs : List ℕ) → Is xs → Is' xs) → Reads left Needs' held s t Is'
    reads_weaker Needs' Is' needs is = record {
      bytes = r.bytes;
      loses = r.loses;
      needed = elim r.needed [
        | inl same ↦ inl same
        | inr p ↦ inr (record { before = p.before; piece = p.piece; whole = p.whole; short = p.short; needed = needs (held ++ p.before) p.needed })
      ];
      is = is (held ++ r.bytes) r.is;
    }

    pub reads_left : (xs : List ℕ) → IsLeft left held s xs → IsLeft left (held ++ r.bytes) t xs
    reads_left xs rest =
        let lost = r.loses rest.0 rest.1 in
        (lost.0, lost.1, rest.2 ∙ (ap (λ l. held ++ l) lost.2 ∙ sym (append_assoc held r.bytes lost.0)))

    -- what follows from the bytes, whatever is told behind them, is so of all that was left
    pub all_read : (P : List ℕ → Type 0) → ((xs told : List ℕ) → Is xs → P (xs ++ told)) → AllLeft left held s P
    all_read P more = record { each = λ xs rest. let now = reads_left xs rest in subst P (sym now.2) (more (held ++ r.bytes) now.0 r.is) }

    -- where nothing is told behind the bytes, they are all that was left
    pub all_spent : (P : List ℕ → Type 0) → Spends (left s) (left t) → ((xs : List ℕ) → Is xs → P xs) → AllLeft left held s P
    all_spent P spends all = record {
      each = λ xs rest.
          let now = reads_left xs rest in
          let none : now.0 ≡ [] = cc (now.1, spends rest.0 rest.1) in
          subst P (sym (now.2 ∙ (ap (λ l. (held ++ r.bytes) ++ l) none ∙ append-nil (held ++ r.bytes)))) (all (held ++ r.bytes) r.is);
    }

    pub spends_behind : (u : S) → Spends (left t) (left u) → Spends (left s) (left u)
    spends_behind u spends xs told = let lost = r.loses xs told in spends lost.0 lost.1

  -- what is so of all that was left behind the bytes that are held now
  pub all_behind : {Needs : List ℕ → Type 0} {held mid : List ℕ} {s t : S} (P Q : List ℕ → Type 0) → Reads left Needs held s t (λ xs. xs ≡ mid) → ((xs : List ℕ) → P xs → Q xs) → AllLeft left mid t P → AllLeft left held s Q
  all_behind {t = t} P Q r weaker all = record { each = λ xs rest. weaker xs (all.each xs (subst (λ l. IsLeft left l t xs) r.is (reads_left r xs rest))) }

  -- all that was read is held
  module _ {Needs : List ℕ → Type 0} {held mid : List ℕ} {s t : S} (r : Reads left Needs held s t (λ xs. xs ≡ mid)) (needs : Needs mid) where
    pub reads_filled : (new : List ℕ) (u : S) (n : ℕ) → Fills left mid new t u n → length new ≤ ROOM → Reads left Needs held s u (λ xs. xs ≡ new)
    reads_filled new u n fills fits =
        let short : length fills.bytes ≤ ROOM = omega (arith, ap length fills.grown, length-append mid fills.bytes, fits) in
        reads_more r (λ xs. xs ≡ new) u fills.bytes (subst Needs (sym r.is) needs) short fills.loses (ap (λ l. l ++ fills.bytes) r.is ∙ sym fills.grown)

  -- so many bytes were passed over, and none is held
  module _ {held : List ℕ} {s t : S} {count room : ℕ} (r : Reads left (StopsWithin 0 room) held s t (IsPlain count)) (near : count ≤ room) where
    passed_needs : StopsWithin 0 room (held ++ r.bytes)
    passed_needs = record { plain = r.is.plain; far = omega arith; near = omega (arith, r.is.long) }

    pub passed_more : (Is : List ℕ → Type 0) (piece : List ℕ) (u : S) → Loses (left t) (left u) piece → length piece ≤ ROOM → ((gone : List ℕ) → IsPlain count gone → Is (gone ++ piece)) → Reads left (StopsWithin 0 room) held s u Is
    passed_more Is piece u loses fits is = reads_more r Is u piece passed_needs fits loses (is (held ++ r.bytes) r.is)
