-- The end of a unit, by where its word goes.
use Rattle.std.proofs.Common.{◌≡◌, ◌≢◌, ℕ, zero, suc, Bool, true, false, cond, List, [], ◌∷◌, Option, None, Some, refl, sym, ◌∙◌, ap, subst, arith}
use Rattle.std.specs.Prelude.{⊤, Result, Ok, Err, slice_set}
use Rattle.std.proofs.lemmas.List.{set-set}
use Rattle.word36.specs.Words.{joined}
use Rattle.machine_names.specs.declared.names.ForkName.{ForkName}
use Rattle.machine_names.specs.declared.names.Kind.TheVariants.{Read, Write}
use Rattle.plain_units.specs.declared.registers.Regs.{Regs}
use Rattle.plain_units.specs.declared.unit.Put.{Put}
use Rattle.plain_units.specs.Steps.{Ending as End, refers, ends, done, run, is_accumulator}
use Rattle.plain_units.specs.Deeds.{Deed, Store, nowhere, back, into, before}
use Rattle.plain_units.specs.Instructions.{takes, with_deed, storing, storing_first, finishes}
use Rattle.ka10_deeds.specs.declared.done.Post.{Post}
use Rattle.ka10_deeds.specs.declared.operands.Destination.{Destination}
use Rattle.ka10_unit.specs.declared.ends.Ending.{Ending}
use Rattle.ka10_unit.specs.declared.taken.Taken.{Taken}
use Rattle.ka10_unit.specs.declared.taken.Stop.{Stop}
use Rattle.ka10_deeds.specs.Done.{channel_of, store_at}
use Rattle.ka10_unit.specs.Gathers.{Framed}
use Rattle.ka10_unit.specs.Taking.{CanPut, CanWrite, Follows, IsOpenAt, Stands, progress, so_far, widened_by}
use Rattle.ka10_unit.specs.Planning.{Ends, end_of}

-- writes to two places of a list, in either order
set_apart : {A : Type 0} (xs : List A) (i j : ℕ) (a b : A) → i ≢ j → slice_set (slice_set xs i a) j b ≡ slice_set (slice_set xs j b) i a
set_apart [] i j a b ne = refl
set_apart (x ∷ xs) zero zero a b ne = absurd (ne refl)
set_apart (x ∷ xs) zero (suc j) a b ne = refl
set_apart (x ∷ xs) (suc i) zero a b ne = refl
set_apart (x ∷ xs) (suc i) (suc j) a b ne = ap (λ ys. x ∷ ys) (set_apart xs i j a b (λ e. ne (ap suc e)))

-- one of two ends
abbrev either : Bool → End → End → End
either b x y = cond b x y

-- ---- what a destination, and an end, come to

-- the store of a destination that is known
pub goes_to : (to to' : Destination) (o o' : Option ℕ) (s : Store) → store_at to o ≡ s → to ≡ to' → o ≡ o' → s ≡ store_at to' o'
goes_to to to' o o' s h e d = sym h ∙ ap (λ (t : Destination). store_at t o) e ∙ ap (λ (x : Option ℕ). store_at to' x) d

pub end_is : (x : Ending) (regs regs' : Regs) (at w : ℕ) (post post' : Option ℕ) → end_of x ≡ storing regs at w post → regs ≡ regs' → post ≡ post' → end_of x ≡ storing regs' at w post'
end_is x regs regs' at w post post' is e d = is ∙ ap (λ (r : Regs). storing r at w post) e ∙ ap (λ (c : Option ℕ). storing regs' at w c) d

pub end_bare : (x : Ending) (regs regs' : Regs) (post : Post) (post' : Option ℕ) → x.regs ≡ regs → x.put ≡ None → x.post ≡ post → regs ≡ regs' → channel_of post ≡ post' → end_of x ≡ record { regs = regs'; put = None; post = post' }
end_bare x regs regs' post post' r n q e d =
    let same : x.regs ≡ regs' = r ∙ e in
    let posted : channel_of x.post ≡ post' = ap channel_of q ∙ d in
    λ i. record { regs = same i; put = n i; post = posted i }

-- ---- the operand

module _ (f : ForkName) (p : Framed) (ac : List ℕ) where
  pub takes_none : (t : Taken) (e w : ℕ) → Stands f p t → w ≡ joined 0 e → Follows f p ac t t (takes None e) (Ok w)
  unfolding takes
  takes_none t e w s is =
      let same : w ≡ e = omega arith in
      record { stands = s; runs = λ next. rw same refl }

  pub takes_some : (t new : Taken) (e at : ℕ) (result : Result ℕ Stop) → Follows f p ac t new (refers at Read) result → Follows f p ac t new (takes (Some at) e) result
  unfolding takes
  takes_some t new e at result h = record { stands = h.stands; runs = h.runs }

  module _ (old : Regs) (n : ℕ) (deed : Deed) where
    abbrev after : Regs
    after = with_deed old n deed

    -- the word that is stored last can be stored, where a write at its address makes nothing more
    storing_put : (q : Framed) (regs : Regs) (at w : ℕ) (post : Option ℕ) → (is_accumulator at ≡ false → IsOpenAt f q at) → CanPut f q (storing regs at w post).put
    storing_put q regs at w post may = by (is_accumulator at) refl
      where
        by : (b : Bool) → is_accumulator at ≡ b → CanPut f q (either b (record { regs = record regs { ac = slice_set regs.ac at w }; put = None; post = post }) (record { regs = regs; put = Some (record { at = at; word = w }); post = post })).put
        by true is = tt
        by false is = may is

    put_of : (q : Framed) (x : Ending) (e : End) → end_of x ≡ e → CanPut f q e.put → CanPut f q x.put
    put_of q x e is h = subst (λ (o : Option Put). CanPut f q o) (sym (ap (λ (y : End). y.put) is)) h

    -- nothing is stored
    pub ends_nowhere : (t : Taken) (x : Ending) → Stands f p t → deed.store ≡ nowhere → end_of x ≡ record { regs = after; put = None; post = deed.post } → Ends f p ac t t (finishes old n deed) (Ok x)
    unfolding finishes run
    ends_nowhere t x s store is = record {
      stands = s;
      put = put_of (so_far p t) x (record { regs = after; put = None; post = deed.post }) is tt;
      runs = rw store (ap (done (progress p ac t)) (sym is));
    }

    -- the word that was taken is replaced
    pub ends_back : (t new : Taken) (x : Ending) (at w : ℕ) (y : ⊤) → deed.store ≡ back at w → Follows f p ac t new (widened_by at) (Ok y) → CanWrite {A = ⊤} f p new at (Ok y) → end_of x ≡ storing after at w deed.post
        → Ends f p ac t new (finishes old n deed) (Ok x)
    unfolding finishes run
    ends_back t new x at w y store asked may is = record {
      stands = asked.stands;
      put = put_of (so_far p new) x (storing after at w deed.post) is (storing_put (so_far p new) after at w deed.post may);
      runs = rw store (asked.runs (λ z. ends (storing after at w deed.post)) ∙ ap (done (progress p ac new)) (sym is));
    }

    pub stops_back : (t new : Taken) (stop : Stop) (at w : ℕ) → deed.store ≡ back at w → Follows f p ac t new (widened_by at) (Err stop) → Ends f p ac t new (finishes old n deed) (Err stop)
    unfolding finishes
    stops_back t new stop at w store asked = record { stands = asked.stands; put = tt; runs = rw store (asked.runs (λ z. ends (storing after at w deed.post))) }

    -- another place is written
    pub ends_into : (t new : Taken) (x : Ending) (at w v : ℕ) → deed.store ≡ into at w → Follows f p ac t new (refers at Write) (Ok v) → CanWrite {A = ℕ} f p new at (Ok v) → end_of x ≡ storing after at w deed.post
        → Ends f p ac t new (finishes old n deed) (Ok x)
    unfolding finishes run
    ends_into t new x at w v store asked may is = record {
      stands = asked.stands;
      put = put_of (so_far p new) x (storing after at w deed.post) is (storing_put (so_far p new) after at w deed.post may);
      runs = rw store (asked.runs (λ z. ends (storing after at w deed.post)) ∙ ap (done (progress p ac new)) (sym is));
    }

    pub stops_into : (t new : Taken) (stop : Stop) (at w : ℕ) → deed.store ≡ into at w → Follows f p ac t new (refers at Write) (Err stop) → Ends f p ac t new (finishes old n deed) (Err stop)
    unfolding finishes
    stops_into t new stop at w store asked = record { stands = asked.stands; put = tt; runs = rw store (asked.runs (λ z. ends (storing after at w deed.post))) }

    pub stops_before : (t new : Taken) (stop : Stop) (at w : ℕ) → deed.store ≡ before at w → Follows f p ac t new (refers at Write) (Err stop) → Ends f p ac t new (finishes old n deed) (Err stop)
    unfolding finishes
    stops_before t new stop at w store asked = record { stands = asked.stands; put = tt; runs = rw store (asked.runs (λ z. ends (storing_first old n deed at w))) }

    module _ (a : ℕ) (none : deed.next ≡ None) (some : deed.ac ≡ Some a) (at w : ℕ) where
      abbrev end_at : List ℕ → End
      end_at xs = record { regs = record { ac = xs; pc = deed.pc; flags = deed.flags }; put = None; post = deed.post }

      -- a word stored before the accumulators are written, which stays where it isn't that accumulator
      first_other : at ≢ n → storing_first old n deed at w ≡ storing after at w deed.post
      first_other ne = by (is_accumulator at)
        where
          by : (b : Bool) → either b (record { regs = with_deed (record old { ac = slice_set old.ac at w }) n deed; put = None; post = deed.post }) (record { regs = after; put = Some (record { at = at; word = w }); post = deed.post })
              ≡ either b (record { regs = record after { ac = slice_set after.ac at w }; put = None; post = deed.post }) (record { regs = after; put = Some (record { at = at; word = w }); post = deed.post })
          by true = rw (none, some) (ap end_at (set_apart old.ac at n w a ne))
          by false = refl

      first_same : at ≡ n → is_accumulator at ≡ true → storing_first old n deed at w ≡ record { regs = after; put = None; post = deed.post }
      first_same same low =
          ap (λ b. either b (record { regs = with_deed (record old { ac = slice_set old.ac at w }) n deed; put = None; post = deed.post }) (record { regs = after; put = Some (record { at = at; word = w }); post = deed.post })) low
          ∙ rw (none, some, same) (ap end_at (set-set old.ac n w a))

      pub ends_before : (t new : Taken) (x : Ending) (v : ℕ) → at ≢ n → deed.store ≡ before at w → Follows f p ac t new (refers at Write) (Ok v) → CanWrite {A = ℕ} f p new at (Ok v) → end_of x ≡ storing after at w deed.post
          → Ends f p ac t new (finishes old n deed) (Ok x)
      unfolding finishes run
      ends_before t new x v ne store asked may is = record {
        stands = asked.stands;
        put = put_of (so_far p new) x (storing after at w deed.post) is (storing_put (so_far p new) after at w deed.post may);
        runs = rw store (asked.runs (λ z. ends (storing_first old n deed at w)) ∙ ap (done (progress p ac new)) (first_other ne ∙ sym is));
      }

      pub ends_overwritten : (t new : Taken) (x : Ending) (v : ℕ) → at ≡ n → is_accumulator at ≡ true → deed.store ≡ before at w → Follows f p ac t new (refers at Write) (Ok v) → end_of x ≡ record { regs = after; put = None; post = deed.post }
          → Ends f p ac t new (finishes old n deed) (Ok x)
      unfolding finishes run
      ends_overwritten t new x v same low store asked is = record {
        stands = asked.stands;
        put = put_of (so_far p new) x (record { regs = after; put = None; post = deed.post }) is tt;
        runs = rw store (asked.runs (λ z. ends (storing_first old n deed at w)) ∙ ap (done (progress p ac new)) (first_same same low ∙ sym is));
      }
