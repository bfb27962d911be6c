-- A text that is read one piece after another, each piece of which has one value.
use Rattle.std.proofs.Common.{◌≡◌, ◌≢◌, ℕ, ◌+◌, ◌<◌, List, [], ◌∷◌, ◌++◌, length, refl, sym, ◌∙◌, ap, subst, arith, append_assoc, length-append}
use Rattle.std.proofs.lemmas.List.{append-nil}

-- how a text has a first piece of a value before a rest, and how it is pieces of values
pub record IsSequence (First : List ℕ → ℕ → List ℕ → Type 0) (Whole : List ℕ → List ℕ → Type 0) : Type 0 where
  pub nil : Whole [] []
  pub none : (text : List ℕ) → Whole text [] → text ≡ []
  pub more : (text : List ℕ) (v : ℕ) (rest vs : List ℕ) → First text v rest → Whole rest vs → Whole text (v ∷ vs)
  pub parts : (text : List ℕ) (v : ℕ) (vs : List ℕ) → Whole text (v ∷ vs) → (rest : List ℕ) × First text v rest × Whole rest vs
  pub once : (text : List ℕ) (v w : ℕ) (x y : List ℕ) → First text v x → First text w y → (v ≡ w) × (x ≡ y)
  pub some : (v : ℕ) (rest : List ℕ) → First [] v rest → ⊥

module _ {First : List ℕ → ℕ → List ℕ → Type 0} {Whole : List ℕ → List ℕ → Type 0} (s : IsSequence First Whole) where
  no_piece : (text : List ℕ) (v : ℕ) (vs : List ℕ) → text ≡ [] → Whole text (v ∷ vs) → ⊥
  no_piece text v vs none w = let p = s.parts text v vs w in s.some v p.0 (subst (λ t. First t v p.0) none p.1)

  pub one_sequence : (text vs ws : List ℕ) → Whole text vs → Whole text ws → vs ≡ ws
  one_sequence text [] [] p q = refl
  one_sequence text [] (w ∷ ws) p q = absurd (no_piece text w ws (s.none text p) q)
  one_sequence text (v ∷ vs) [] p q = absurd (no_piece text v vs (s.none text q) p)
  one_sequence text (v ∷ vs) (w ∷ ws) p q =
      let a = s.parts text v vs p in
      let b = s.parts text w ws q in
      let same = s.once text v w a.0 b.0 a.1 b.1 in
      let rest : vs ≡ ws = one_sequence a.0 vs ws a.2 (subst (λ t. Whole t ws) (sym same.1) b.2) in
      let first : v ≡ w = same.0 in
      cc (first, rest)

-- a text began with pieces of these values, and the rest is left
pub record Reaches (Whole : List ℕ → List ℕ → Type 0) (text done rest : List ℕ) : Type 0 where
  pub onto : (vs : List ℕ) → Whole rest vs → Whole text (done ++ vs)
  pub from : (vs : List ℕ) → Whole text vs → (ws : List ℕ) × (vs ≡ done ++ ws) × Whole rest ws

module _ {First : List ℕ → ℕ → List ℕ → Type 0} {Whole : List ℕ → List ℕ → Type 0} (s : IsSequence First Whole) where
  pub reaches_start : (text : List ℕ) → Reaches Whole text [] text
  reaches_start text = record { onto = λ vs h. h; from = λ vs h. (vs, refl, h) }

  -- what is left begins with one more piece
  next_piece : (rest more : List ℕ) (v : ℕ) → First rest v more → (ws : List ℕ) → Whole rest ws → (us : List ℕ) × (ws ≡ v ∷ us) × Whole more us
  next_piece rest more v first [] h = absurd (s.some v more (subst (λ t. First t v more) (s.none rest h) first))
  next_piece rest more v first (w ∷ ws) h =
      let p = s.parts rest w ws h in
      let same = s.once rest w v p.0 more p.1 first in
      let value : w ≡ v = same.0 in
      (ws, cc value, subst (λ t. Whole t ws) same.1 p.2)

  pub reaches_more : (text done rest more : List ℕ) (v : ℕ) → Reaches Whole text done rest → First rest v more → Reaches Whole text (done ++ v ∷ []) more
  reaches_more text done rest more v r first = record {
    onto = λ vs h. subst (Whole text) (sym (append_assoc done (v ∷ []) vs)) (r.onto (v ∷ vs) (s.more rest v more vs first h));
    from = λ vs h.
        let p = r.from vs h in
        let q = next_piece rest more v first p.0 p.2 in
        (q.0, p.1 ∙ (ap (λ l. done ++ l) q.1 ∙ sym (append_assoc done (v ∷ []) q.0)), q.2);
  }

  pub reaches_end : (text done rest : List ℕ) → Reaches Whole text done rest → rest ≡ [] → Whole text done
  reaches_end text done rest r none = subst (Whole text) (append-nil done) (r.onto [] (subst (λ t. Whole t []) (sym none) s.nil))

  has_piece : (rest ws : List ℕ) → rest ≢ [] → Whole rest ws → 0 < length ws
  has_piece rest [] some h = absurd (some (s.none rest h))
  has_piece rest (w ∷ ws) some h = omega arith

  -- where something is left, the text has more values than those that were read
  pub reaches_beyond : (text done rest : List ℕ) → Reaches Whole text done rest → rest ≢ [] → (vs : List ℕ) → Whole text vs → length done < length vs
  reaches_beyond text done rest r some vs h =
      let p = r.from vs h in
      let long : length vs ≡ length done + length p.0 = ap length p.1 ∙ length-append done p.0 in
      omega (arith, long, has_piece rest p.0 some p.2)

  stuck : (rest ws : List ℕ) → rest ≢ [] → ((v : ℕ) (more : List ℕ) → First rest v more → ⊥) → Whole rest ws → ⊥
  stuck rest [] some none h = some (s.none rest h)
  stuck rest (w ∷ ws) some none h = let p = s.parts rest w ws h in none w p.0 p.1

  -- where what is left begins with no piece, the text has no values
  pub reaches_nothing : (text done rest : List ℕ) → Reaches Whole text done rest → rest ≢ [] → ((v : ℕ) (more : List ℕ) → First rest v more → ⊥) → (vs : List ℕ) → Whole text vs → ⊥
  reaches_nothing text done rest r some none vs h = let p = r.from vs h in stuck rest p.0 some none p.2
