-- The reading of the word that a delivery has stored: the word of the level, and then the one that it names.
use Rattle.std.proofs.Common.{◌≡◌, ℕ, List, [], None, refl, sym, ◌∙◌, ap, subst}
use Rattle.std.specs.Prelude.{Result, Ok, Err}
use Rattle.word36.specs.Words.{right}
use Rattle.machine_names.specs.declared.names.ForkName.{ForkName}
use Rattle.plain_units.specs.declared.registers.Regs.{Regs}
use Rattle.plain_pages.specs.PlainPages.{NumberedPages}
use Rattle.page_gather.specs.declared.reference.PageReference.{PageReference}
use Rattle.page_gather.specs.Gathering.{after_all, Gathers}
use Rattle.plain_model.specs.Inspections.{level_at}
use Rattle.plain_model.specs.InterruptCalls.{word_stored}
use Rattle.plain_model.specs.Readings.{Reading, read, word_steps, words}
use Rattle.ka10_unit.specs.declared.taken.Stop.{Stop}
use Rattle.ka10_unit.specs.Gathers.{Framed}
use Rattle.text_pointers.specs.declared.reader.Reader.{Reader}
use Rattle.text_pointers.specs.Outcomes.{read_over}
use Rattle.text_pointers.specs.Reading.{HasPage, ReadsWord, Stands, pages_so_far}
use Rattle.text_pointers.proofs.Needs.{OnlyReads}
use Rattle.text_pointers.proofs.Plainly.{plain_of}
use Rattle.text_pointers.proofs.WordReads.{word_runs}
use Rattle.psi_calls.specs.Stored.{ReadsStored, stored_ended}

-- it only reads
pub only_reads : (regs : Regs) (table level : ℕ) → OnlyReads (word_stored regs table level)
only_reads regs table level = (λ w. refl, λ w. (λ v. refl, λ v. tt))

none_left : (p : NumberedPages) (r : Reader) → r.gather.references ≡ [] → after_all p r.gather.owner r.gather.references ≡ p
unfolding after_all
none_left p r none = ap (λ (rs : List PageReference). after_all p r.gather.owner rs) none

-- a reader that has referred to nothing stands
pub new_stands : (f : ForkName) (p : Framed) (r : Reader) → r.fork ≡ f → Gathers p.pages p.scene r.gather → r.page ≡ None → Stands f p r
new_stands f p r fork gathers page = record { fork = fork; gathers = gathers; page = subst (HasPage f p (pages_so_far p r)) (sym page) tt }

module _ (f : ForkName) (p : Framed) (regs : Regs) (table level : ℕ) where
  stored_as : (new : Reader) (result : Result ℕ Stop) → ((w : ℕ) → result ≡ Ok w → Stands f p new) → read_over f p regs (word_stored regs table level) p.pages ≡ stored_ended p new result → ReadsStored f p regs table level new result
  stored_as new result stands is = record { stands = stands; is = is; plain = plain_of f p regs (word_stored regs table level) p.pages (stored_ended p new result) is }

  module _ (none mid : Reader) (empty : none.gather.references ≡ []) where
    -- what is left behind the word of the level
    abbrev Rest : ℕ → Reading ℕ
    Rest w = words (word_steps regs (right w)) (λ v. read v)

    begins : read_over f p regs (word_stored regs table level) p.pages ≡ read_over f p regs (word_stored regs table level) (pages_so_far p none)
    begins = ap (read_over f p regs (word_stored regs table level)) (sym (none_left p.pages none empty))

    -- that word stops it
    pub named_stops : (e : Stop) → ReadsWord f p regs none mid (level_at table level) (Err e) → ReadsStored f p regs table level mid (Err e)
    named_stops e word = stored_as mid (Err e) (λ s no. absurd (cc no)) (begins ∙ word_runs f p regs none mid (level_at table level) (Err e) word Rest)

    module _ (w : ℕ) (named : ReadsWord f p regs none mid (level_at table level) (Ok w)) (new : Reader) where
      goes : read_over f p regs (word_stored regs table level) p.pages ≡ read_over f p regs (Rest w) (pages_so_far p mid)
      goes = begins ∙ word_runs f p regs none mid (level_at table level) (Ok w) named Rest

      -- and so does the word that it names
      pub stored_ends : (result : Result ℕ Stop) → ReadsWord f p regs mid new (right w) result → ReadsStored f p regs table level new result
      stored_ends result word = stored_as new result word.stands (goes ∙ word.is)
