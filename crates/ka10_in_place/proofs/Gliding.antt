-- Units whose references all go through as the pages are.
use Rattle.std.proofs.Common.{◌≡◌, ℕ, ◌+◌, ◌-◌, ◌%◌, ◌<◌, Bool, true, false, cond, List, [], ◌∷◌, ◌++◌, Option, Some, None, length, refl, sym, ◌∙◌, ap, arith, Ordering}
use Rattle.std.specs.Prelude.{nat_le, slice_set, slice_index}
use Rattle.std.specs.Option.{option_map_or}
use Rattle.std.proofs.lemmas.List.{length-set, length-append, get_or-replicate}
use Rattle.outside.specs.declared.TheConstants.{PAGE_WORDS}
use Rattle.machine_names.specs.declared.names.ForkName.{ForkName}
use Rattle.machine_names.specs.declared.names.PageName.{PageName}
use Rattle.machine_names.specs.declared.names.Kind.{Kind}
use Rattle.machine_names.specs.declared.names.Kind.TheVariants.{Write}
use Rattle.plain_units.specs.declared.registers.Regs.{Regs}
use Rattle.plain_units.specs.declared.unit.Reference.{Reference}
use Rattle.plain_units.specs.declared.unit.TheConstants.{MOST_REFERENCES}
use Rattle.plain_pages.specs.PlainPages.{PlainPages}
use Rattle.plain_pages.specs.References.{Making, in_map, makings, slot_at, page_at, words_of, word_at}
use Rattle.machine_names.specs.PageWords.{zero_words}
use Rattle.plain_units.specs.Steps.{Steps, refers, widens, keeps, ends, traps, calls, is_accumulator, goes, asked_at, Progress, run, plainly, plain_asked, seen, word_taken}
use Rattle.plain_units.specs.Instructions.{instruction}
use Rattle.plain_pages.proofs.ReferencesMade.{reference_stays}
use Rattle.ka10_spots.specs.Once.{After, once, went_through}
use Rattle.ka10_spots.specs.Glide.{makes_none, is_ready, word_of, glide}

no_making : {K : Type 0} (ms : Option (List (Making K))) → makes_none ms ≡ true → ms ≡ Some []
no_making None h = absurd (cc h)
no_making (Some []) h = refl
no_making (Some (m ∷ ms)) h = absurd (cc h)

-- one that goes through was asked for
pub through : {X : Type 0} (b r : Bool) (g : Option X) (x : X) → cond b None (cond r g None) ≡ Some x → (b ≡ false) × (r ≡ true) × (g ≡ Some x)
through true r g x h = absurd (cc h)
through false true g x h = (refl, refl, h)
through false false g x h = absurd (cc h)

zero_at : (i : ℕ) → i < PAGE_WORDS → slice_index zero_words i ≡ 0
unfolding zero_words
zero_at i h = get_or-replicate PAGE_WORDS i 0 0 h

module _ {K : Type 0} {file_cmp : K → K → Ordering} (f : ForkName) (p : PlainPages file_cmp) where
  -- a reference that makes no page is granted, and leaves the pages as they are
  ready_asked : (a : ℕ) (kind : Kind) → is_ready f p a kind ≡ true → asked_at (plainly f) f p a kind ≡ goes p
  ready_asked a kind h = by (is_accumulator a) h
    where
      by : (b : Bool) → cond b true (makes_none (makings p (in_map (slot_at f a)) kind)) ≡ true → cond b (goes p) (plainly f p (slot_at f a) kind) ≡ goes p
      by true h = refl
      by false h = ap plain_asked (reference_stays p f.tty (in_map (slot_at f a)) kind (no_making (makings p (in_map (slot_at f a)) kind) h))

  -- with nothing kept a page has its words
  seen_there : (a : ℕ) → seen p f None a (page_at p (in_map (slot_at f a))) ≡ word_at p (in_map (slot_at f a)) (a % PAGE_WORDS)
  seen_there a = by (page_at p (in_map (slot_at f a)))
    where
      by : (n : Option PageName) → seen p f None a n ≡ slice_index (option_map_or (words_of p) n zero_words) (a % PAGE_WORDS)
      by None = sym (zero_at (a % PAGE_WORDS) (omega arith))
      by (Some n) = refl

  module _ (ac : List ℕ) where
    -- so many references were made, and nothing is kept
    abbrev so_far : List Reference → Progress file_cmp
    so_far refs = record { pages = p; ac = ac; refs = refs; kept = None }

    taken_there : (refs : List Reference) (a : ℕ) → word_taken f (so_far refs) a ≡ word_of f p ac a
    taken_there refs a = ap (λ w. cond (is_accumulator a) (slice_index ac a) w) (seen_there a)

    -- what the steps do as long as each reference goes through as the pages are is what they do
    glides : (k : Steps) (n : ℕ) (refs : List Reference) (x : After file_cmp) → n ≡ length refs → glide f p ac n k ≡ Some x → went_through f (run (plainly f) f k (so_far refs)) ≡ Some x
    unfolding glide run
    glides (refers a kind next) n refs x len h =
        let r = through (nat_le MOST_REFERENCES n) (is_ready f p a kind) _ x h in
        let more : n + 1 ≡ length (refs ++ record { address = a; kind = kind } ∷ []) = omega (arith, length-append refs (record { address = a; kind = kind } ∷ [])) in
        rw (← len, r.0, ready_asked a kind r.1, taken_there (refs ++ record { address = a; kind = kind } ∷ []) a) (glides (next (word_of f p ac a)) (n + 1) (refs ++ record { address = a; kind = kind } ∷ []) x more r.2)
    glides (widens a next) n refs x len h =
        let r = through false (is_ready f p a Write) _ x h in
        let same : n ≡ length (slice_set refs (length refs - 1) (record { address = a; kind = Write })) = len ∙ sym (length-set refs (length refs - 1) (record { address = a; kind = Write })) in
        rw (ready_asked a Write r.1) (glides next n (slice_set refs (length refs - 1) (record { address = a; kind = Write })) x same r.2)
    glides (keeps a w next) n refs x len h = absurd (cc h)
    glides (ends e) n refs x len h = h
    glides (traps channel) n refs x len h = absurd (cc h)
    glides (calls number) n refs x len h = absurd (cc h)

  -- a unit that goes through as the pages are is the unit
  pub once_glides : (regs : Regs) (x : After file_cmp) → glide f p regs.ac 0 (instruction regs) ≡ Some x → once f p regs ≡ Some x
  unfolding once
  once_glides regs x h = glides regs.ac (instruction regs) 0 [] x refl h
