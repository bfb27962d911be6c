-- The next byte of a file, over plain pages.
use Rattle.std.proofs.Common.{◌≡◌, ℕ, Bool, true, false, cond, Option, None, Some, sym, ◌∙◌, ap, subst, nat_le}
use Rattle.machine_names.specs.Orders.{file_page}
use Rattle.page_contracts.specs.declared.answers.Need.{Need}
use Rattle.page_contracts.specs.Pages.{Scene}
use Rattle.plain_files.specs.OpenFiles.{OpenFile}
use Rattle.plain_pages.specs.PlainPages.{NumberedPages}
use Rattle.plain_pages.specs.References.{Spot, in_file, word_at}
use Rattle.plain_model.specs.ByteCalls.{ByteAsked, ByteTurn, at_end, byte_offset, byte_page, end_for, next_byte, page_in, takes_byte}
use Rattle.plain_model.specs.Calls.{ends, reads, turn_on}
use Rattle.call_turns.specs.Needing.{FirstNeeds}
use Rattle.call_turns.specs.Telling.{page_need}
use Rattle.file_tables.specs.declared.tables.FileTables.{FileTables}
use Rattle.file_tables.specs.Keys.{key_of, seen_in}
use Rattle.file_bytes.specs.Turning.{ByteNeeds}

-- what is needed first
pub first_needs : (o : Option Need) (Later : Type 0) (n : Need) → o ≡ Some n → FirstNeeds o Later n
first_needs None Later n h = absurd (cc h)
first_needs (Some m) Later n h = let same : m ≡ n = cc h in sym same

module _ (tables : FileTables) (scene : Scene) (p : NumberedPages) (a : ByteAsked) (j : OpenFile) where
  abbrev far : ByteTurn
  far = reads (page_in j (byte_page j)) (byte_offset j) (λ w. ends (takes_byte a j w))

  abbrev branch : Bool → ByteTurn
  branch b = cond b (ends (at_end a)) far

  -- the end of the file
  pub ended : nat_le (end_for a j) j.at ≡ true → ends (at_end a) ≡ next_byte a j
  ended h = ap branch (sym h)

  module _ (h : nat_le (end_for a j) j.at ≡ false) (f : ℕ) (key : key_of tables j.file ≡ f) where
    abbrev spot : ℕ → Spot ℕ
    spot k = in_file (file_page k (byte_page j))

    -- a byte is there
    pub read_is : (w : ℕ) → w ≡ word_at p (spot f) (byte_offset j) → turn_on (seen_in tables) p (next_byte a j) ≡ record { end = takes_byte a j w; pages = p }
    unfolding turn_on
    read_is w is =
        ap (λ b. turn_on (seen_in tables) p (branch b)) h
        ∙ ap (λ (k : ℕ). record { end = takes_byte a j (word_at p (spot k) (byte_offset j)); pages = p }) key
        ∙ ap (λ (x : ℕ). record { end = takes_byte a j x; pages = p }) (sym is)

    -- its page is in no frame
    pub read_needs : (n : Need) → page_need scene p (spot f) ≡ Some n → ByteNeeds tables scene p (next_byte a j) n
    read_needs n is = subst (λ b. ByteNeeds tables scene p (branch b) n) (sym h) (first_needs _ _ n (ap (λ (k : ℕ). page_need scene p (spot k)) key ∙ is))
