-- How a text that is written goes on.
use Rattle.std.proofs.Common.{◌≡◌, ℕ, ◌+◌, List, [], ◌∷◌, ◌++◌, take, drop, Option, Some, sym, ◌∙◌, ap, subst, append_assoc, take-append-drop, take-add}
use Rattle.std.proofs.lemmas.List.{append-nil}
use Rattle.outside.specs.Told.{Grows, Stays}
use Rattle.texts.specs.Wrote.{GrowsPartly, Wrote, WrotePartly}

-- no bytes are written
pub grows_none : (told : Option (List ℕ)) → Grows told told []
grows_none told xs h = h ∙ ap Some (sym (append-nil xs))

-- what is taken stays
pub grows_stays : (a b c : Option (List ℕ)) (x : List ℕ) → Grows a b x → Stays b c → Grows a c x
grows_stays a b c x f g xs h = g (xs ++ x) (f xs h)

pub partly_stays : (a b c : Option (List ℕ)) (whole : List ℕ) → WrotePartly a b whole → Stays b c → WrotePartly a c whole
partly_stays a b c whole cut g = record { each = λ told h. let p = cut.each told h in (p.0, p.1, g (told ++ p.0) p.2, p.3) }

pub wrote_stays : {X : Type 0} (a b c : Option (List ℕ)) (after whole : List X → List ℕ) → Wrote a b after whole → Stays b c → Wrote a c after whole
wrote_stays a b c after whole wrote g = record { each = λ told h. let w = wrote.each told h in (w.0, g (told ++ w.0) w.1, w.2) }

-- one text after another
pub grows_then : (a b c : Option (List ℕ)) (x y : List ℕ) → Grows a b x → Grows b c y → Grows a c (x ++ y)
grows_then a b c x y f g xs h = g (xs ++ x) (f xs h) ∙ ap Some (append_assoc xs x y)

-- some bytes more of one text
pub grows_more : (a b c : Option (List ℕ)) (bytes : List ℕ) (at n : ℕ) → Grows a b (take at bytes) → Grows b c (take n (drop at bytes)) → Grows a c (take (at + n) bytes)
grows_more a b c bytes at n f g = subst (Grows a c) (sym (take-add at n bytes)) (grows_then a b c (take at bytes) (take n (drop at bytes)) f g)

-- a failure behind a front
pub partly_at : (a b c : Option (List ℕ)) (bytes : List ℕ) (at : ℕ) → Grows a b (take at bytes) → Stays b c → GrowsPartly a c bytes
partly_at a b c bytes at f g xs h = (take at bytes, drop at bytes, g (xs ++ take at bytes) (f xs h), sym (take-append-drop at bytes))

module _ {X : Type 0} (a b c : Option (List ℕ)) (after whole : List X → List ℕ) where
  -- one thing more is written
  pub wrote_more : (after' whole' : List X → List ℕ) (x : X) (bytes : List ℕ) → Wrote a b after whole → Grows b c bytes → ((xs : List X) → after (x ∷ xs) ≡ bytes ++ after' xs) → ((xs : List X) → whole' xs ≡ whole (x ∷ xs)) → Wrote a c after' whole'
  wrote_more after' whole' x bytes wrote grows text same = record {
    each = λ told h.
        let w = wrote.each told h in
        (w.0 ++ bytes, grows (told ++ w.0) w.1 ∙ ap Some (append_assoc told w.0 bytes), λ xs. append_assoc w.0 bytes (after' xs) ∙ ap (λ l. w.0 ++ l) (sym (text xs)) ∙ w.2 (x ∷ xs) ∙ sym (same xs));
  }

  -- some things more are written
  pub wrote_list : (after' whole' : List X → List ℕ) (zs : List X) (bytes : List ℕ) → Wrote a b after whole → Grows b c bytes → ((xs : List X) → after (zs ++ xs) ≡ bytes ++ after' xs) → ((xs : List X) → whole' xs ≡ whole (zs ++ xs)) → Wrote a c after' whole'
  wrote_list after' whole' zs bytes wrote grows text same = record {
    each = λ told h.
        let w = wrote.each told h in
        (w.0 ++ bytes, grows (told ++ w.0) w.1 ∙ ap Some (append_assoc told w.0 bytes), λ xs. append_assoc w.0 bytes (after' xs) ∙ ap (λ l. w.0 ++ l) (sym (text xs)) ∙ w.2 (zs ++ xs) ∙ sym (same xs));
  }

  -- a front of it is
  pub wrote_partly : (rest : List ℕ) (x : X) (xs : List X) (bytes : List ℕ) → Wrote a b after whole → GrowsPartly b c bytes → after (x ∷ xs) ≡ bytes ++ rest → WrotePartly a c (whole (x ∷ xs))
  wrote_partly rest x xs bytes wrote grows text = record {
    each = λ told h.
        let w = wrote.each told h in
        let p = grows (told ++ w.0) w.1 in
        (w.0 ++ p.0, p.1 ++ rest, p.2 ∙ ap Some (append_assoc told w.0 p.0), append_assoc w.0 p.0 (p.1 ++ rest) ∙ ap (λ l. w.0 ++ l) (sym (append_assoc p.0 p.1 rest) ∙ ap (λ l. l ++ rest) (sym p.3) ∙ sym text) ∙ w.2 (x ∷ xs));
  }

  -- the end is written, and a last line
  pub wrote_end : (last : List ℕ) → Wrote a b after whole → Grows b c (after [] ++ last) → (told : List ℕ) → a ≡ Some told → c ≡ Some (told ++ (whole [] ++ last))
  wrote_end last wrote grows told h =
      let w = wrote.each told h in
      grows (told ++ w.0) w.1 ∙ ap Some (append_assoc told w.0 (after [] ++ last) ∙ ap (λ l. told ++ l) (sym (append_assoc w.0 (after []) last) ∙ ap (λ l. l ++ last) (w.2 [])))

  pub wrote_end_partly : (last : List ℕ) → Wrote a b after whole → GrowsPartly b c (after [] ++ last) → WrotePartly a c (whole [] ++ last)
  wrote_end_partly last wrote grows = record {
    each = λ told h.
        let w = wrote.each told h in
        let p = grows (told ++ w.0) w.1 in
        (w.0 ++ p.0, p.1, p.2 ∙ ap Some (append_assoc told w.0 p.0), append_assoc w.0 p.0 p.1 ∙ ap (λ l. w.0 ++ l) (sym p.3) ∙ sym (append_assoc w.0 (after []) last) ∙ ap (λ l. l ++ last) (w.2 []));
  }

module _ {X : Type 0} (a b : Option (List ℕ)) (after whole : List X → List ℕ) where
  -- what is written is a front of whatever comes
  pub wrote_cut : (xs : List X) → Wrote a b after whole → WrotePartly a b (whole xs)
  wrote_cut xs wrote = record { each = λ told h. let w = wrote.each told h in (w.0, after xs, w.1, w.2 xs) }

-- a front of a text
pub fronted : (a c : Option (List ℕ)) (whole : List ℕ) → GrowsPartly a c whole → WrotePartly a c whole
fronted a c whole partly = record { each = λ told h. let p = partly told h in (p.0, p.1, p.2, sym p.3) }

pub cut_here : (a b : Option (List ℕ)) (whole last : List ℕ) → WrotePartly a b whole → WrotePartly a b (whole ++ last)
cut_here a b whole last cut = record { each = λ told h. let c = cut.each told h in (c.0, c.1 ++ last, c.2, sym (append_assoc c.0 c.1 last) ∙ ap (λ l. l ++ last) c.3) }

pub whole_partly : (a c : Option (List ℕ)) (whole : List ℕ) → ((told : List ℕ) → a ≡ Some told → c ≡ Some (told ++ whole)) → WrotePartly a c whole
whole_partly a c whole done = record { each = λ told h. (whole, [], done told h, append-nil whole) }
