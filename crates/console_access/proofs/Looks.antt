-- What a look at a word finds, as the word that is there.
use Rattle.std.proofs.Common.{◌≡◌, ℕ, ◌<◌, ◌≤◌, true, false, arith, nat_lt, ◌%◌, cond, Option, None, Some, refl, sym, ◌∙◌, ap, slice_index}
use Rattle.std.proofs.lemmas.Bool.Decides.{nat_tests}
use Rattle.std.specs.Option.{option_map, option_map_or}
use Rattle.outside.specs.declared.TheConstants.{PAGE_WORDS}
use Rattle.machine_names.specs.declared.names.TheConstants.{ACCUMULATORS}
use Rattle.machine_names.specs.declared.names.Slot.{Slot}
use Rattle.machine_names.specs.declared.names.PageName.{PageName}
use Rattle.page_contracts.specs.declared.answers.Peeked.{Peeked}
use Rattle.page_contracts.specs.declared.answers.Peeked.TheVariants.{Is, Absent, NoPage}
use Rattle.plain_model.specs.declared.fork.Fork.{Fork}
use Rattle.plain_pages.specs.PlainPages.{NumberedPages}
use Rattle.plain_pages.specs.References.{in_map, page_at, words_of, slot_at}
use Rattle.page_contracts.specs.Pages.{Scene, peek_of}
use Rattle.console_access.specs.Looking.{word_in}
use Rattle.console_access.proofs.ShownWords.{looked}

pub below : (a : ℕ) → a < ACCUMULATORS → nat_lt a ACCUMULATORS ≡ true
below a h = grind (arith, nat_tests)

pub not_below : (a : ℕ) → ACCUMULATORS ≤ a → nat_lt a ACCUMULATORS ≡ false
not_below a h = grind (arith, nat_tests)

-- what is found is what is there
abbrev pub found : Option ℕ → Peeked
found o = option_map_or Is o NoPage

module _ (p : NumberedPages) (scene : Scene) (f : Fork) (address : ℕ) (high : ACCUMULATORS ≤ address) where
  found_page : (n : Option PageName) → option_map_or (λ n. Is (slice_index (words_of p n) (address % PAGE_WORDS))) n NoPage ≡ found (option_map (λ n. slice_index (words_of p n) (address % PAGE_WORDS)) n)
  found_page None = refl
  found_page (Some n) = refl

  -- a look that finds a word, or no page
  pub looks : (slot : Slot) (offset : ℕ) (u : Peeked) → slot ≡ slot_at f.name address → offset ≡ address % PAGE_WORDS → ((home : ℕ) → Absent (record { 0 = home }) ≡ u → ⊥) → u ≡ peek_of p scene (in_map slot) offset → u ≡ found (word_in p f address)
  looks slot offset u is at not told =
      looked p scene (in_map slot) (address % PAGE_WORDS) u not (told ∙ ap (peek_of p scene (in_map slot)) at) ∙ found_page (page_at p (in_map slot))
      ∙ ap (λ s. found (option_map (λ n. slice_index (words_of p n) (address % PAGE_WORDS)) (page_at p (in_map s)))) is
      ∙ ap (λ b. found (cond b (Some (slice_index f.body.regs.ac address)) (option_map (λ n. slice_index (words_of p n) (address % PAGE_WORDS)) (page_at p (in_map (slot_at f.name address)))))) (sym (not_below address high))

-- the word that was found, and that none was
pub word_found : (o : Option ℕ) (word : ℕ) → Is word ≡ found o → Some word ≡ o
word_found None word e = absurd (cc e)
word_found (Some w) word e = cc e

pub none_found : (o : Option ℕ) → NoPage ≡ found o → None ≡ o
none_found None e = refl
none_found (Some w) e = absurd (cc e)
