-- One reference of a unit.
use Rattle.std.proofs.Common.{◌≡◌, ℕ, ◌+◌, ◌-◌, ◌<◌, ◌≤◌, true, false, List, [], ◌∷◌, ◌++◌, length, Option, None, Some, refl, sym, ◌∙◌, ap, subst, arith, length-append}
use Rattle.std.specs.Prelude.{⊤, Result, Ok, Err, nat_le, slice_set}
use Rattle.std.proofs.lemmas.Bool.Decides.{nat_tests}
use Rattle.std.specs.Ordering.{nat_cmp}
use Rattle.machine_names.specs.declared.names.ForkName.{ForkName}
use Rattle.machine_names.specs.declared.names.Kind.{Kind}
use Rattle.machine_names.specs.declared.names.Kind.TheVariants.{Write}
use Rattle.plain_units.specs.Steps.{Progress, refers, referred, run, widened, word_taken}
use Rattle.plain_units.specs.declared.channel.TheConstants.{ILLEGAL_INSTRUCTION}
use Rattle.plain_units.specs.declared.unit.Put.{Put}
use Rattle.ka10_unit.specs.declared.taken.Taken.{Taken}
use Rattle.ka10_unit.specs.declared.taken.Stop.{Stop}
use Rattle.ka10_unit.specs.declared.taken.Stop.TheVariants.{Trap}
use Rattle.ka10_unit.specs.Gathers.{Framed}
use Rattle.page_gather.specs.Gathering.{Gathering}
use Rattle.ka10_unit.specs.Taking.{AsksAt, CanPut, Follows, HasPage, Stands, StaysOpen, pages_so_far, progress, so_far, widened_by}

at_least : (m n : ℕ) → m ≤ n → nat_le m n ≡ true
at_least m n h = grind (arith, nat_tests)

at_most : (m n : ℕ) → n < m → nat_le m n ≡ false
at_most m n h = grind (arith, nat_tests)

-- a word that is kept can be stored still
put_still : (f : ForkName) (q q' : Framed) (kept : Option Put) → StaysOpen f q q' → CanPut f q kept → CanPut f q' kept
put_still f q q' None still h = tt
put_still f q q' (Some put) still h = still put.at h

module _ (f : ForkName) (p : Framed) (ac : List ℕ) where
  pub stands_still : (t new : Taken) (at : ℕ) (kind : Kind) (result : Result ⊤ Stop) → Stands f p t → AsksAt f p t.gather new.gather at kind result → new.kept ≡ t.kept → new.fork ≡ t.fork → Stands f p new
  stands_still t new at kind result s asked kept same = record { fork = same ∙ s.fork; gathers = asked.gathers; kept = rw kept (put_still f (so_far p t) (so_far p new) t.kept asked.still s.kept) }

  -- what the unit of a taken fork asks its fork asks
  pub of_fork : (t : Taken) (new : Gathering) (at : ℕ) (kind : Kind) (result : Result ⊤ Stop) → Stands f p t → AsksAt t.fork p t.gather new at kind result → AsksAt f p t.gather new at kind result
  of_fork t new at kind result s asked = subst (λ (g : ForkName). AsksAt g p t.gather new at kind result) s.fork asked

  -- the 17th
  pub refer_full : (t : Taken) (at : ℕ) (kind : Kind) → Stands f p t → 16 ≤ length t.refs.items → Follows f p ac t t (refers at kind) (Err (Trap ILLEGAL_INSTRUCTION))
  unfolding run
  refer_full t at kind s most = record { stands = s; runs = λ next. rw (at_least 16 (length t.refs.items) most) refl }

  -- a reference that stops the unit
  pub refer_stops : (t new : Taken) (at : ℕ) (kind : Kind) (stop : Stop) → Stands f p t → length t.refs.items < 16 → AsksAt f p t.gather new.gather at kind (Err stop) → new.kept ≡ t.kept → new.fork ≡ t.fork → Follows f p ac t new (refers at kind) (Err stop)
  unfolding run
  refer_stops t new at kind stop s room asked kept same = record { stands = stands_still t new at kind (Err stop) s asked kept same; runs = λ next. rw (at_most 16 (length t.refs.items) room, asked.is) refl }

  -- a reference that goes through
  pub refer_goes : (t new : Taken) (at w : ℕ) (kind : Kind) (x : ⊤) → Stands f p t → length t.refs.items < 16 → AsksAt f p t.gather new.gather at kind (Ok x) → new.refs.items ≡ t.refs.items ++ record { address = at; kind = kind } ∷ [] → new.kept ≡ t.kept → new.fork ≡ t.fork
      → (Stands new.fork p new → HasPage new.fork (so_far p new) at → w ≡ word_taken new.fork (progress p ac new) at) → Follows f p ac t new (refers at kind) (Ok w)
  unfolding run
  refer_goes t new at w kind x s room asked refs kept same taken =
      let here = stands_still t new at kind (Ok x) s asked kept same in
      let word : w ≡ word_taken f (progress p ac new) at = subst (λ (g : ForkName). Stands g p new → HasPage g (so_far p new) at → w ≡ word_taken g (progress p ac new) at) here.fork taken here (asked.page x refl) in
      let now : progress p ac new ≡ referred (progress p ac t) at kind (pages_so_far p new) = rw (refs, kept) refl in
      let there : w ≡ word_taken f (referred (progress p ac t) at kind (pages_so_far p new)) at = word ∙ ap (λ (y : Progress nat_cmp). word_taken f y at) now in
      record { stands = here; runs = λ next. rw (at_most 16 (length t.refs.items) room, asked.is, there, now) refl }

  pub widen_stops : (t new : Taken) (at : ℕ) (stop : Stop) → Stands f p t → AsksAt f p t.gather new.gather at Write (Err stop) → new.kept ≡ t.kept → new.fork ≡ t.fork → Follows f p ac t new (widened_by at) (Err stop)
  unfolding run
  widen_stops t new at stop s asked kept same = record { stands = stands_still t new at Write (Err stop) s asked kept same; runs = λ next. rw asked.is refl }

  pub widen_goes : (t new : Taken) (at : ℕ) (x y : ⊤) → Stands f p t → AsksAt f p t.gather new.gather at Write (Ok y) → new.refs.items ≡ slice_set t.refs.items (length t.refs.items - 1) (record { address = at; kind = Write }) → new.kept ≡ t.kept → new.fork ≡ t.fork
      → Follows f p ac t new (widened_by at) (Ok x)
  unfolding run
  widen_goes t new at x y s asked refs kept same =
      let now : progress p ac new ≡ widened (progress p ac t) at (pages_so_far p new) = rw (refs, kept) refl in
      record { stands = stands_still t new at Write (Ok y) s asked kept same; runs = λ next. rw (asked.is, now) refl }

-- the last item of a list replaced
last_set : {A : Type 0} (xs : List A) (x y : A) → slice_set (xs ++ x ∷ []) (length (xs ++ x ∷ []) - 1) y ≡ xs ++ y ∷ []
last_set xs x y = ap (λ n. slice_set (xs ++ x ∷ []) n y) (by (length-append xs (x ∷ []))) ∙ at xs
  where
    by : length (xs ++ x ∷ []) ≡ length xs + 1 → length (xs ++ x ∷ []) - 1 ≡ length xs
    by h = omega arith

    at : (ys : List _) → slice_set (ys ++ x ∷ []) (length ys) y ≡ ys ++ y ∷ []
    at [] = refl
    at (z ∷ ys) = ap (λ zs. z ∷ zs) (at ys)

pub last_replaced : {A : Type 0} (old rest new : List A) (x y : A) → old ≡ rest ++ x ∷ [] → new ≡ rest ++ y ∷ [] → new ≡ slice_set old (length old - 1) y
last_replaced old rest new x y was is = is ∙ sym (last_set rest x y) ∙ ap (λ xs. slice_set xs (length xs - 1) y) (sym was)

pub none_replaced : {A : Type 0} (old new : List A) (y : A) → (0 < length old → ⊥) → old ≡ new → new ≡ slice_set old (length old - 1) y
none_replaced [] new y none same = sym same
none_replaced (x ∷ xs) new y none same = absurd (none (omega arith))
