-- How a deed ends a unit, done in place.
use Rattle.std.proofs.Common.{◌≡◌, ℕ, ◌+◌, ◌%◌, ◌<◌, ◌≤◌, true, false, List, Option, Some, None, refl, sym, ◌∙◌, ap, arith, Ordering}
use Rattle.std.specs.Prelude.{slice_set}
use Rattle.outside.specs.declared.TheConstants.{PAGE_WORDS}
use Rattle.machine_names.specs.declared.names.ForkName.{ForkName}
use Rattle.machine_names.specs.declared.names.Kind.TheVariants.{Read, Write}
use Rattle.machine_names.specs.declared.names.TheConstants.{ACCUMULATORS}
use Rattle.plain_units.specs.declared.registers.Regs.{Regs}
use Rattle.plain_units.specs.declared.unit.TheConstants.{MOST_REFERENCES}
use Rattle.plain_pages.specs.PlainPages.{PlainPages}
use Rattle.plain_pages.specs.References.{in_map, slot_at, stored}
use Rattle.plain_units.specs.Steps.{Steps, is_accumulator}
use Rattle.plain_units.specs.Deeds.{Deed, Store, nowhere, back, into, before}
use Rattle.plain_units.specs.Instructions.{finishes, finishes_by, takes}
use Rattle.ka10_deeds.specs.declared.done.Post.{Post}
use Rattle.ka10_deeds.specs.declared.done.Post.TheVariants as post
use Rattle.ka10_deeds.specs.declared.done.Done.{Done}
use Rattle.ka10_in_place.specs.declared.ending.Quick.{Quick}
use Rattle.ka10_in_place.specs.declared.ending.Quick.TheVariants as quick
use Rattle.ka10_deeds.specs.Done.{Leaves, channel_of, store_at, stored_word}
use Rattle.ka10_deeds.specs.declared.operands.Destination.TheVariants as destination
use Rattle.ka10_spots.proofs.Ready.{is_low, is_high, few}
use Rattle.ka10_spots.specs.Glide.{is_ready, glide, Takes}
use Rattle.ka10_in_place.specs.InPlace.{IfDone, IsDone, ended}
use Rattle.ka10_in_place.specs.Stores.{IsNowhere, GoesTo}

-- a fact of the post holds of the unit that ended with it
pub if_ended : (post : Post) (q : Quick) (P : Option ℕ → Type 0) → q ≡ ended post → P (channel_of post) → IfDone q P
if_ended post.Nothing q P is p = rw is p
if_ended post.Overflow q P is p = rw is p
if_ended post.Pushdown q P is p = rw is p

pub if_more : (q : Quick) (P R : Option ℕ → Type 0) → ((post : Option ℕ) → P post → R post) → IfDone q P → IfDone q R
if_more quick.Done P R f p = f _ p
if_more quick.Overflow P R f p = f _ p
if_more quick.Pushdown P R f p = f _ p
if_more quick.Slow P R f p = tt

-- what holds of each post holds of a unit
pub for_all : (q : Quick) (P : Option ℕ → Type 0) → ((post : Option ℕ) → P post) → IfDone q P
for_all quick.Done P f = f _
for_all quick.Overflow P f = f _
for_all quick.Pushdown P f = f _
for_all quick.Slow P f = tt

-- a unit that ended was done
pub is_done : (post : Post) (q : Quick) → q ≡ ended post → IsDone q
is_done post.Nothing q is = rw is tt
is_done post.Overflow q is = rw is tt
is_done post.Pushdown q is = rw is tt

pub never_slow : {A : Type 0} (post : Post) → ended post ≡ quick.Slow → A
never_slow post.Nothing h = absurd (cc h)
never_slow post.Overflow h = absurd (cc h)
never_slow post.Pushdown h = absurd (cc h)

module _ {K : Type 0} {file_cmp : K → K → Ordering} (f : ForkName) (p : PlainPages file_cmp) (ac : List ℕ) where
  -- no word is taken
  pub takes_none : (n e : ℕ) (from : Option ℕ) (next : ℕ → Steps) → from ≡ None → glide f p ac n (takes from e next) ≡ glide f p ac n (next e)
  unfolding takes
  takes_none n e from next none = rw none refl

  -- a word is taken
  pub takes_some : (n e a m : ℕ) (from : Option ℕ) (next : ℕ → Steps) → n < MOST_REFERENCES → from ≡ Some a → Takes f p ac a Read m → glide f p ac n (takes from e next) ≡ glide f p ac (n + 1) (next m)
  unfolding takes glide
  takes_some n e a m from next less some t = rw (some, few n less, t.ready, ← t.is) refl

  module _ (n : ℕ) (regs after : Regs) (ac' : ℕ) (deed : Deed) (told : Done) (left : Leaves deed ac' regs after told) where
    -- a deed that stores no word ends the unit
    pub ends_bare : IsNowhere deed.store → glide f p ac n (finishes regs ac' deed) ≡ Some (record { pages = p; regs = after; post = channel_of told.post })
    unfolding finishes glide
    ends_bare h = by deed.store refl h
      where
        by : (s : Store) → deed.store ≡ s → IsNowhere s → glide f p ac n (finishes_by deed.store regs ac' deed) ≡ Some (record { pages = p; regs = after; post = channel_of told.post })
        by nowhere is i = rw (is, left.regs, left.post) refl
        by (back at w) is i = absurd i
        by (into at w) is i = absurd i
        by (before at w) is i = absurd i

    module _ (less : n < MOST_REFERENCES) (a word : ℕ) (has : told.stored ≡ Some word) where
      stores : stored_word deed.store ≡ Some word
      stores = sym left.stored ∙ has

      -- a word that is stored in an accumulator
      pub ends_low : a < ACCUMULATORS → GoesTo a deed.store → glide f p ac n (finishes regs ac' deed) ≡ Some (record { pages = p; regs = record after { ac = slice_set after.ac a word }; post = channel_of told.post })
      unfolding finishes glide
      ends_low h at = by deed.store refl at
        where
          by : (s : Store) → deed.store ≡ s → GoesTo a s → glide f p ac n (finishes_by deed.store regs ac' deed) ≡ Some (record { pages = p; regs = record after { ac = slice_set after.ac a word }; post = channel_of told.post })
          by nowhere is i = absurd (let none : None ≡ Some word = ap stored_word (sym is) ∙ stores in cc none)
          by (back to w) is i =
              let same : Some w ≡ Some word = ap stored_word (sym is) ∙ stores in
              let here : word ≡ w = cc same in
              let low : is_accumulator to ≡ true = is_low to (omega (arith, i, h)) in
              rw (is, low, left.regs, left.post, i, here) refl
          by (into to w) is i =
              let same : Some w ≡ Some word = ap stored_word (sym is) ∙ stores in
              let here : word ≡ w = cc same in
              let low : is_accumulator to ≡ true = is_low to (omega (arith, i, h)) in
              rw (is, few n less, low, left.regs, left.post, i, here) refl
          by (before to w) is i = absurd i

      -- a word that is stored in a page
      pub ends_high : ACCUMULATORS ≤ a → is_ready f p a Write ≡ true → GoesTo a deed.store → glide f p ac n (finishes regs ac' deed) ≡ Some (record { pages = stored p (in_map (slot_at f a)) (a % PAGE_WORDS) word; regs = after; post = channel_of told.post })
      unfolding finishes glide
      ends_high h ready at = by deed.store refl at
        where
          by : (s : Store) → deed.store ≡ s → GoesTo a s → glide f p ac n (finishes_by deed.store regs ac' deed) ≡ Some (record { pages = stored p (in_map (slot_at f a)) (a % PAGE_WORDS) word; regs = after; post = channel_of told.post })
          by nowhere is i = absurd (let none : None ≡ Some word = ap stored_word (sym is) ∙ stores in cc none)
          by (back to w) is i =
              let same : Some w ≡ Some word = ap stored_word (sym is) ∙ stores in
              let here : word ≡ w = cc same in
              let high : is_accumulator a ≡ false = is_high a h in
              rw (is, i, ready, high, left.regs, left.post, here) refl
          by (into to w) is i =
              let same : Some w ≡ Some word = ap stored_word (sym is) ∙ stores in
              let here : word ≡ w = cc same in
              let high : is_accumulator a ≡ false = is_high a h in
              rw (is, few n less, i, ready, high, left.regs, left.post, here) refl
          by (before to w) is i = absurd i

-- where a destination has no word, or another one, nothing else is stored
pub bare_store : (s : Store) → store_at destination.Nowhere (stored_word s) ≡ s → IsNowhere s
bare_store nowhere h = tt
bare_store (back at w) h = absurd (cc h)
bare_store (into at w) h = absurd (cc h)
bare_store (before at w) h = absurd (cc h)

pub back_store : (a : ℕ) (s : Store) → store_at (destination.Back a) (stored_word s) ≡ s → GoesTo a s
back_store a nowhere h = tt
back_store a (back at w) h = cc h
back_store a (into at w) h = absurd (cc h)
back_store a (before at w) h = absurd (cc h)

pub into_store : (a : ℕ) (s : Store) → store_at (destination.Into a) (stored_word s) ≡ s → GoesTo a s
into_store a nowhere h = tt
into_store a (back at w) h = absurd (cc h)
into_store a (into at w) h = cc h
into_store a (before at w) h = absurd (cc h)

pub no_word : (s : Store) → stored_word s ≡ None → IsNowhere s
no_word nowhere h = tt
no_word (back at w) h = absurd (cc h)
no_word (into at w) h = absurd (cc h)
no_word (before at w) h = absurd (cc h)
