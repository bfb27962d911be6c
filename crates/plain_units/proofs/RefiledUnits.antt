-- Units of forks do not depend on what files are known by, and leave the pages of files.
use Rattle.std.proofs.Common.{◌≡◌, ℕ, ◌%◌, Bool, true, false, cond, length, Option, None, Some, refl, sym, ◌∙◌, ap, subst, Ordering}
use Rattle.std.specs.Prelude.{nat_le, slice_index}
use Rattle.std.specs.List.{sum_by}
use Rattle.std.specs.Option.{option_map_or}
use Rattle.std.specs.FinMap as map
use Rattle.outside.specs.declared.TheConstants.{PAGE_WORDS}
use Rattle.plain_units.specs.declared.channel.TheConstants.{ILLEGAL_INSTRUCTION}
use Rattle.machine_names.specs.declared.names.ForkName.{ForkName}
use Rattle.machine_names.specs.declared.names.PageName.{PageName}
use Rattle.machine_names.specs.declared.names.Slot.{Slot}
use Rattle.machine_names.specs.declared.names.Kind.{Kind}
use Rattle.machine_names.specs.declared.names.Kind.TheVariants.{Write}
use Rattle.plain_units.specs.declared.unit.Put.{Put}
use Rattle.plain_units.specs.declared.unit.TheConstants.{MOST_REFERENCES}
use Rattle.plain_pages.specs.PlainPages.{PlainPages, refiled}
use Rattle.machine_names.specs.Orders.{file_page_cmp}
use Rattle.plain_pages.specs.References.{Referred, granted, denied, full, in_map, page_at, with_word, reference, stored, slot_at}
use Rattle.plain_units.specs.Steps.{Steps, refers, widens, keeps, ends, traps, calls, Ending, Progress, Planned, done, stopped, trap, call, is_accumulator, seen, word_taken, referred, widened, goes_on, asked_at, goes, plain_asked, plainly, run, put_into, pages_left}
use Rattle.plain_units.proofs.Lookups.{looked_up}
use Rattle.plain_pages.proofs.Whole.{tally}
use Rattle.plain_pages.proofs.Refiled.{NameAlike, refiled_result, reference_refiled, reference_leaves}

module _ {K L : Type 0} {file_cmp : K → K → Ordering} (other_cmp : L → L → Ordering) (files : map.FinMap (file_page_cmp other_cmp) PageName) where
  -- the same pages with other keys
  abbrev rekeyed : PlainPages file_cmp → PlainPages other_cmp
  rekeyed p = refiled other_cmp p files

  -- how far a unit has come, with other keys
  abbrev pub refiled_progress : Progress file_cmp → Progress other_cmp
  refiled_progress t = record { pages = rekeyed t.pages; ac = t.ac; refs = t.refs; kept = t.kept }

  -- what a unit comes to, with other keys
  abbrev pub refiled_plan : {N : Type 0} → Planned file_cmp N → Planned other_cmp N
  refiled_plan (done t e) = done (refiled_progress t) e
  refiled_plan (stopped why) = stopped why
  refiled_plan (call number) = call number

  pub still_alike : (p q : PlainPages file_cmp) → NameAlike other_cmp p files → q.files ≡ p.files → NameAlike other_cmp q files
  still_alike p q alike same n = alike n ∙ ap (λ f. sum_by (tally n) (map.values f)) (sym same)

  module _ (f : ForkName) where
    seen_refiled : (p : PlainPages file_cmp) (kept : Option Put) (a : ℕ) (n : Option PageName) → seen (rekeyed p) f kept a n ≡ seen p f kept a n
    unfolding page_at
    seen_refiled p kept a None = refl
    seen_refiled p None a (Some n) = refl
    seen_refiled p (Some put) a (Some n) = refl

    taken_refiled : (t : Progress file_cmp) (a : ℕ) → word_taken f (refiled_progress t) a ≡ word_taken f t a
    unfolding page_at
    taken_refiled t a = ap (λ w. cond (is_accumulator a) (slice_index t.ac a) w) (seen_refiled t.pages t.kept a (page_at t.pages (in_map (slot_at f a))))

    module _ (t : Progress file_cmp) (alike : NameAlike other_cmp t.pages files) (a : ℕ) (kind : Kind) (next : PlainPages file_cmp → Planned file_cmp ⊥) (next_refiled : PlainPages other_cmp → Planned other_cmp ⊥) (same : (p : PlainPages file_cmp) → NameAlike other_cmp p files → next_refiled (rekeyed p) ≡ refiled_plan (next p)) where
      -- a unit that refers to an address goes on the same
      asked_refiled : goes_on (asked_at (plainly f) f (rekeyed t.pages) a kind) next_refiled ≡ refiled_plan (goes_on (asked_at (plainly f) f t.pages a kind) next)
      asked_refiled = by (is_accumulator a)
        where
          s : Slot
          s = slot_at f a

          told : (r : Referred file_cmp) → reference t.pages (in_map s) kind f.tty ≡ r → goes_on (plain_asked (refiled_result other_cmp r files)) next_refiled ≡ refiled_plan (goes_on (plain_asked r) next)
          told (granted q) is = same q (still_alike t.pages q alike (reference_leaves f.tty t.pages q s kind is))
          told (denied k) is = refl
          told full is = refl

          by : (b : Bool) → goes_on (cond b (goes (rekeyed t.pages)) (plainly f (rekeyed t.pages) s kind)) next_refiled ≡ refiled_plan (goes_on (cond b (goes t.pages) (plainly f t.pages s kind)) next)
          by true = same t.pages alike
          by false = ap (λ r. goes_on (plain_asked r) next_refiled) (reference_refiled other_cmp files f.tty t.pages s kind alike) ∙ told (reference t.pages (in_map s) kind f.tty) refl

    -- a unit comes to the same, whatever files are known by
    pub run_refiled : (k : Steps) (t : Progress file_cmp) → NameAlike other_cmp t.pages files → run (plainly f) f k (refiled_progress t) ≡ refiled_plan (run (plainly f) f k t)
    unfolding run
    run_refiled (refers a kind next) t alike = by (λ w u still. run_refiled (next w) u still) (nat_le MOST_REFERENCES (length t.refs))
      where
        later : PlainPages file_cmp → Planned file_cmp ⊥
        later p = run (plainly f) f (next (word_taken f (referred t a kind p) a)) (referred t a kind p)

        later_refiled : PlainPages other_cmp → Planned other_cmp ⊥
        later_refiled p = run (plainly f) f (next (word_taken f (referred (refiled_progress t) a kind p) a)) (referred (refiled_progress t) a kind p)

        Same : Type 0
        Same = (w : ℕ) (u : Progress file_cmp) → NameAlike other_cmp u.pages files → run (plainly f) f (next w) (refiled_progress u) ≡ refiled_plan (run (plainly f) f (next w) u)

        same : Same → (p : PlainPages file_cmp) → NameAlike other_cmp p files → later_refiled (rekeyed p) ≡ refiled_plan (later p)
        same rest p still = ap (λ w. run (plainly f) f (next w) (refiled_progress (referred t a kind p))) (taken_refiled (referred t a kind p) a) ∙ rest (word_taken f (referred t a kind p) a) (referred t a kind p) still

        by : Same → (b : Bool) → cond b (stopped (trap ILLEGAL_INSTRUCTION)) (goes_on (asked_at (plainly f) f (rekeyed t.pages) a kind) later_refiled) ≡ refiled_plan (cond b (stopped (trap ILLEGAL_INSTRUCTION)) (goes_on (asked_at (plainly f) f t.pages a kind) later))
        by rest true = refl
        by rest false = asked_refiled t alike a kind later later_refiled (same rest)
    run_refiled (widens a next) t alike = asked_refiled t alike a Write (λ p. run (plainly f) f next (widened t a p)) (λ p. run (plainly f) f next (widened (refiled_progress t) a p)) (λ p still. run_refiled next (widened t a p) still)
    run_refiled (keeps a w next) t alike = run_refiled next (record t { kept = Some (record { at = a; word = w }) }) alike
    run_refiled (ends e) t alike = refl
    run_refiled (traps channel) t alike = refl
    run_refiled (calls number) t alike = refl

    pub stored_refiled : (p : PlainPages file_cmp) (s : Slot) (offset w : ℕ) → stored (rekeyed p) (in_map s) offset w ≡ rekeyed (stored p (in_map s) offset w)
    unfolding page_at
    stored_refiled p s offset w = by (page_at p (in_map s))
      where
        by : (n : Option PageName) → option_map_or (with_word (rekeyed p) offset w) n (rekeyed p) ≡ rekeyed (option_map_or (with_word p offset w) n p)
        by None = refl
        by (Some n) = refl

    put_refiled : (p : PlainPages file_cmp) (put : Option Put) → put_into f (rekeyed p) put ≡ rekeyed (put_into f p put)
    put_refiled p None = refl
    put_refiled p (Some put) = stored_refiled p (slot_at f put.at) (put.at % PAGE_WORDS) put.word

    -- and so do the pages that it leaves
    pub left_refiled : (t : Progress file_cmp) (e : Ending) → pages_left f (refiled_progress t) e ≡ rekeyed (pages_left f t e)
    left_refiled t e = ap (λ p. put_into f p e.put) (put_refiled t.pages t.kept) ∙ put_refiled (put_into f t.pages t.kept) e.put

-- a word that is stored in a map's page leaves the pages of files
pub stored_leaves : {K : Type 0} {file_cmp : K → K → Ordering} (p : PlainPages file_cmp) (s : Slot) (offset word : ℕ) → (stored p (in_map s) offset word).files ≡ p.files
stored_leaves {file_cmp = file_cmp} p s offset word = looked_up (λ (q : PlainPages file_cmp). q.files ≡ p.files) _ p (page_at p (in_map s)) (λ n is. refl) (λ none. refl)

-- the files that a unit leaves, if it goes through
abbrev pub LeavesFiles : {K N : Type 0} {file_cmp : K → K → Ordering} → map.FinMap (file_page_cmp file_cmp) PageName → Planned file_cmp N → Type 0
LeavesFiles files (done t e) = t.pages.files ≡ files
LeavesFiles files (stopped why) = Unit {0}
LeavesFiles files (call number) = Unit {0}

module _ {K : Type 0} {file_cmp : K → K → Ordering} (f : ForkName) where
  asked_leaves : (p : PlainPages file_cmp) (a : ℕ) (kind : Kind) (next : PlainPages file_cmp → Planned file_cmp ⊥) → ((q : PlainPages file_cmp) → LeavesFiles q.files (next q)) → LeavesFiles p.files (goes_on (asked_at (plainly f) f p a kind) next)
  asked_leaves p a kind next rest = by (is_accumulator a)
    where
      told : (r : Referred file_cmp) → reference p (in_map (slot_at f a)) kind f.tty ≡ r → LeavesFiles p.files (goes_on (plain_asked r) next)
      told (granted q) is = subst (λ files. LeavesFiles files (next q)) (reference_leaves f.tty p q (slot_at f a) kind is) (rest q)
      told (denied k) is = tt
      told full is = tt

      by : (b : Bool) → LeavesFiles p.files (goes_on (cond b (goes p) (plainly f p (slot_at f a) kind)) next)
      by true = rest p
      by false = told (reference p (in_map (slot_at f a)) kind f.tty) refl

  -- the references of a unit leave the pages of files
  pub run_leaves : (k : Steps) (t : Progress file_cmp) → LeavesFiles t.pages.files (run (plainly f) f k t)
  unfolding run
  run_leaves (refers a kind next) t = by (λ w u. run_leaves (next w) u) (nat_le MOST_REFERENCES (length t.refs))
    where
      later : PlainPages file_cmp → Planned file_cmp ⊥
      later p = run (plainly f) f (next (word_taken f (referred t a kind p) a)) (referred t a kind p)

      by : ((w : ℕ) (u : Progress file_cmp) → LeavesFiles u.pages.files (run (plainly f) f (next w) u)) → (b : Bool) → LeavesFiles t.pages.files (cond b (stopped (trap ILLEGAL_INSTRUCTION)) (goes_on (asked_at (plainly f) f t.pages a kind) later))
      by rest true = tt
      by rest false = asked_leaves t.pages a kind later (λ p. rest (word_taken f (referred t a kind p) a) (referred t a kind p))
  run_leaves (widens a next) t = asked_leaves t.pages a Write (λ p. run (plainly f) f next (widened t a p)) (λ p. run_leaves next (widened t a p))
  run_leaves (keeps a w next) t = run_leaves next (record t { kept = Some (record { at = a; word = w }) })
  run_leaves (ends e) t = refl
  run_leaves (traps channel) t = tt
  run_leaves (calls number) t = tt

  put_leaves : (p : PlainPages file_cmp) (put : Option Put) → (put_into f p put).files ≡ p.files
  put_leaves p None = refl
  put_leaves p (Some put) = stored_leaves p (slot_at f put.at) (put.at % PAGE_WORDS) put.word

  -- and so do the words that it stores
  pub left_leaves : (t : Progress file_cmp) (e : Ending) → (pages_left f t e).files ≡ t.pages.files
  left_leaves t e = put_leaves (put_into f t.pages t.kept) e.put ∙ put_leaves t.pages t.kept
