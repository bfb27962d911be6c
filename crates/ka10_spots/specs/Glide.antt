-- A unit whose references all go through as the pages are: none makes a page.
use Rattle.std.specs.Prelude.{◌≡◌, ℕ, ◌+◌, ◌%◌, ◌<◌, Bool, true, false, List, [], ◌∷◌, Option, None, Some, nat_le, if◌then◌else◌, slice_index}
use Rattle.std.specs.declared.cmp.Ordering.{Ordering}
use Rattle.outside.specs.declared.TheConstants.{PAGE_WORDS}
use Rattle.machine_names.specs.declared.names.ForkName.{ForkName}
use Rattle.machine_names.specs.declared.names.Kind.{Kind}
use Rattle.machine_names.specs.declared.names.Kind.TheVariants.{Write}
use Rattle.plain_units.specs.declared.unit.TheConstants.{MOST_REFERENCES}
use Rattle.plain_pages.specs.PlainPages.{PlainPages}
use Rattle.plain_pages.specs.References.{Making, in_map, makings, slot_at, word_at}
use Rattle.plain_units.specs.Steps.{Steps, refers, widens, keeps, ends, traps, calls, is_accumulator, put_into}
use Rattle.plain_units.specs.Addressing.{address}
use Rattle.ka10_spots.specs.Once.{After}

-- a reference that is granted, and makes no page
abbrev pub makes_none : {K : Type 0} → Option (List (Making K)) → Bool
makes_none None = false
makes_none (Some []) = true
makes_none (Some (m ∷ ms)) = false

module _ {K : Type 0} {file_cmp : K → K → Ordering} (f : ForkName) (p : PlainPages file_cmp) where
  -- a reference to an address goes through as the pages are
  abbrev pub is_ready : ℕ → Kind → Bool
  is_ready a kind = if is_accumulator a then true else makes_none (makings p (in_map (slot_at f a)) kind)

  module _ (ac : List ℕ) where
    -- the word at an address
    abbrev pub word_of : ℕ → ℕ
    word_of a = if is_accumulator a then slice_index ac a else word_at p (in_map (slot_at f a)) (a % PAGE_WORDS)

    -- what the steps leave, done in order as long as each reference goes through as the pages are; so many references were made before
    unfoldable pub glide : ℕ → Steps → Option (After file_cmp)
    glide n (refers a kind next) = if nat_le MOST_REFERENCES n then None else (if is_ready a kind then glide (n + 1) (next (word_of a)) else None)
    glide n (widens a next) = if is_ready a Write then glide n next else None
    glide n (keeps a w next) = None
    glide n (ends e) = Some (record { pages = put_into f p e.put; regs = e.regs; post = e.post })
    glide n (traps channel) = None
    glide n (calls number) = None

    -- a word that a reference takes
    pub record Takes (a : ℕ) (kind : Kind) (w : ℕ) : Type 0 where
      pub ready : is_ready a kind ≡ true
      pub is : w ≡ word_of a

    -- the effective address of a word, with the last word taken for it, behind fewer references more than these
    pub record Addressed (before most w e last : ℕ) : Type 0 where
      pub count : ℕ
      pub few : count < before + most
      pub runs : (next : ℕ → ℕ → Steps) → glide before (address ac w next) ≡ glide count (next e last)
