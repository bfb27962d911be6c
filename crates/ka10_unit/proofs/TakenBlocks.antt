-- Blocks of words that were referred to, and stored.
use Rattle.std.proofs.Common.{◌≡◌, ℕ, suc, ◌+◌, ◌-◌, ◌^◌, ◌<◌, ◌≤◌, Bool, true, false, cond, List, [], ◌∷◌, ◌++◌, Some, None, refl, sym, ◌∙◌, ap, subst, arith, inl, inr}
use Rattle.std.specs.Prelude.{Ok, Err, Result}
use Rattle.std.proofs.lemmas.Bool.{cases_lt}
use Rattle.machine_names.specs.declared.names.ForkName.{ForkName}
use Rattle.machine_names.specs.declared.names.Kind.{Kind}
use Rattle.machine_names.specs.declared.names.Kind.TheVariants.{Write}
use Rattle.plain_units.specs.declared.registers.Regs.{Regs}
use Rattle.plain_pages.specs.PlainPages.{NumberedPages}
use Rattle.page_contracts.specs.Pages.{PagesMeaning, StaysPut}
use Rattle.plain_units.specs.Steps.{begun, is_accumulator, put_into, refers, run}
use Rattle.plain_units.specs.Blocks.{next_address, block_steps, stored_from}
use Rattle.page_gather.specs.Gathering.{after_all}
use Rattle.ka10_unit.specs.declared.taken.Taken.{Taken}
use Rattle.ka10_unit.specs.declared.taken.Stop.{Stop}
use Rattle.ka10_unit.specs.Blocks.{AreOpenAt, TakenSoFar, TakesBlock, address_behind, block_end, block_over, stored_word}
use Rattle.ka10_unit.specs.Gathers.{Framed}
use Rattle.ka10_unit.specs.Taking.{CanWrite, Follows, IsOpenAt, Stands, StaysOpen, progress, run_over, so_far}
use Rattle.ka10_unit.specs.Carrying.{StaysAway}
use Rattle.ka10_unit.proofs.Carried.{open_framed, open_still}
use Rattle.ka10_unit.proofs.Plainly.{plain_of}

-- addresses go on by one
pub first_address : (at : ℕ) → at < 2 ^ 18 → at ≡ address_behind at 0
first_address at low = omega arith

pub one_behind : (at k : ℕ) → next_address (address_behind at k) ≡ address_behind at (k + 1)
one_behind at k = omega arith

pub behind_low : (at k : ℕ) → address_behind at k < 2 ^ 18
behind_low at k = omega arith

one_more : (n i : ℕ) → i < n → n - i ≡ suc (n - (i + 1))
one_more n i h = omega arith

-- one address more
opens_more : (f : ForkName) (p q : Framed) (at i : ℕ) → AreOpenAt f p at i → StaysOpen f p q → (is_accumulator (address_behind at i) ≡ false → IsOpenAt f q (address_behind at i)) → AreOpenAt f q at (i + 1)
opens_more f p q at i old still new = λ k less high. elim (cases_lt k i) [
  | inl below ↦ still (address_behind at k) (old k below high)
  | inr upto ↦
      let same : k ≡ i = omega arith in
      subst (λ (n : ℕ). IsOpenAt f q (address_behind at n)) (sym same) (new (ap (λ (n : ℕ). is_accumulator (address_behind at n)) (sym same) ∙ high))
]

module _ (f : ForkName) (p : Framed) (regs : Regs) (at : ℕ) (kind : Kind) where
  -- a block comes to how it ends
  takes_as : (t : Taken) (result : Result (List ℕ) Stop) → Stands f p t → block_over f p regs at kind ≡ block_end p regs t result → ((words : List ℕ) → result ≡ Ok words → kind ≡ Write → AreOpenAt f (so_far p t) at 16) → TakesBlock f p regs at kind t result
  takes_as t result stands is opens = record { stands = stands; is = is; plain = plain_of f p (block_steps 16 at kind [] regs) (begun p.pages regs.ac) (block_end p regs t result) is; open_at = opens }

  -- nothing is taken yet
  pub block_begins : (t : Taken) → at < 2 ^ 18 → Stands f p t → t.gather.references ≡ [] → t.refs.items ≡ [] → t.kept ≡ None → TakenSoFar f p regs at kind t 0 []
  unfolding after_all
  block_begins t low stands gather refs kept = record {
    stands = stands;
    runs = rw (← first_address at low, gather, refs, kept) refl;
    open_at = λ writes k less. absurd (omega arith);
  }

  module _ (i : ℕ) (less : i < 16) (words : List ℕ) (t new : Taken) (before : TakenSoFar f p regs at kind t i words) where
    abbrev Next : Result ℕ Stop → Type 0
    Next result = Follows f p regs.ac t new (refers (address_behind at i) kind) result

    -- a word is taken
    pub block_goes : (w : ℕ) → Next (Ok w) → (kind ≡ Write → CanWrite {A = ℕ} f p new (address_behind at i) (Ok w)) → StaysOpen f (so_far p t) (so_far p new) → TakenSoFar f p regs at kind new (i + 1) (words ++ w ∷ [])
    block_goes w goes can still = record {
      stands = goes.stands;
      runs =
          sym (goes.runs (λ v. block_steps (16 - (i + 1)) (next_address (address_behind at i)) kind (words ++ v ∷ []) regs)
          ∙ ap (λ (a : ℕ). run_over f p (block_steps (16 - (i + 1)) a kind (words ++ w ∷ []) regs) (progress p regs.ac new)) (one_behind at i))
          ∙ sym (ap (λ (n : ℕ). run_over f p (block_steps n (address_behind at i) kind words regs) (progress p regs.ac t)) (one_more 16 i less))
          ∙ before.runs;
      open_at = λ writes. opens_more f (so_far p t) (so_far p new) at i (before.open_at writes) still (can writes);
    }

    -- one stops it
    pub block_stops : (e : Stop) → Next (Err e) → TakesBlock f p regs at kind new (Err e)
    block_stops e stops = takes_as new (Err e) stops.stands is (λ ws no. absurd (cc no))
      where
        is : block_over f p regs at kind ≡ block_end p regs new (Err e)
        is =
            sym before.runs ∙ ap (λ (n : ℕ). run_over f p (block_steps n (address_behind at i) kind words regs) (progress p regs.ac t)) (one_more 16 i less)
            ∙ stops.runs (λ v. block_steps (16 - (i + 1)) (next_address (address_behind at i)) kind (words ++ v ∷ []) regs)

  -- all are taken
  pub block_done : (i : ℕ) (words all : List ℕ) (t : Taken) → 16 ≤ i → i ≤ 16 → words ≡ all → TakenSoFar f p regs at kind t i words → TakesBlock f p regs at kind t (Ok all)
  unfolding run
  block_done i words all t most upto same before = takes_as t (Ok all) before.stands is (λ ws e writes. subst (λ (n : ℕ). AreOpenAt f (so_far p t) at n) full (before.open_at writes))
    where
      none : 16 - i ≡ 0
      none = omega arith

      full : i ≡ 16
      full = omega arith

      is : block_over f p regs at kind ≡ block_end p regs t (Ok all)
      is = sym before.runs ∙ rw (none, same) refl

-- ---- words stored

-- a word that is stored leaves each address open
pub opens_stored : (f : ForkName) (q : Framed) (a w : ℕ) → StaysOpen f q (record q { pages = stored_word f q.pages a w })
opens_stored f q a w b h = by (is_accumulator a)
  where
    by : (low : Bool) → IsOpenAt f (record q { pages = cond low q.pages (put_into f q.pages (Some (record { at = a; word = w }))) }) b
    by true = h
    by false = open_still f q (Some (record { at = a; word = w })) b h

-- in pages of which the same is in frames, each address is open still
pub opens_framed : (f : ForkName) (p q : Framed) (at n : ℕ) → q.pages ≡ p.pages → StaysAway p.scene q.scene → AreOpenAt f p at n → AreOpenAt f q at n
opens_framed f p q at n same away h = λ k less high. open_framed f p q same away (address_behind at k) (h k less high)

-- the words behind one that was stored
pub stored_on : (f : ForkName) (q : NumberedPages) (at i w : ℕ) (ws : List ℕ) → stored_from (stored_word f q (address_behind at i) w) f (address_behind at (i + 1)) ws ≡ stored_from q f (address_behind at i) (w ∷ ws)
stored_on f q at i w ws = ap (λ (a : ℕ). stored_from (stored_word f q (address_behind at i) w) f a ws) (sym (one_behind at i))

-- words stored one after another
pub stays_on : {P : Type 0} (means : PagesMeaning P) (old mid new : P) → StaysPut means old mid → StaysPut means mid new → StaysPut means old new
stays_on means old mid new g h = record {
  touched = h.touched ∙ g.touched;
  scene = h.scene ∙ g.scene;
  space = h.space ∙ g.space;
  place = h.place ∙ g.place;
  filed = h.filed ∙ g.filed;
  map_homes = h.map_homes ∙ g.map_homes;
  page_homes = h.page_homes ∙ g.page_homes;
  lives = h.lives ∙ g.lives;
  forks = h.forks ∙ g.forks;
  serials = h.serials ∙ g.serials;
  count = h.count ∙ g.count;
  most = h.most ∙ g.most;
}
