-- References that go through.
use Rattle.std.proofs.Common.{◌≡◌, ℕ, ◌/◌, ◌%◌, ◌<◌, ◌≤◌, Bool, true, false, cond, List, [], Some, refl, subst, inr, arith, Ordering}
use Rattle.std.specs.Prelude.{nat_le, slice_index}
use Rattle.std.proofs.lemmas.Bool.Decides.{nat_tests}
use Rattle.outside.specs.declared.TheConstants.{PAGE_WORDS}
use Rattle.machine_names.specs.declared.names.ForkName.{ForkName}
use Rattle.machine_names.specs.declared.names.Tty.{Tty}
use Rattle.machine_names.specs.declared.names.Kind.{Kind}
use Rattle.machine_names.specs.declared.names.TheConstants.{ACCUMULATORS}
use Rattle.plain_units.specs.declared.unit.TheConstants.{MOST_REFERENCES}
use Rattle.plain_pages.specs.PlainPages.{PlainPages}
use Rattle.page_contracts.specs.DrumWords.{DrumWords}
use Rattle.page_contracts.specs.Pages.{PagesMeaning, IsReady}
use Rattle.plain_pages.specs.References.{in_map, makings, slot_at, word_at}
use Rattle.plain_units.specs.Steps.{is_accumulator}
use Rattle.page_contracts.proofs.Touches.{ready_touch}
use Rattle.ka10_spots.specs.Glide.{makes_none, is_ready, Takes}

pub is_low : (a : ℕ) → a < ACCUMULATORS → is_accumulator a ≡ true
is_low a h = grind (arith, nat_tests)

pub is_high : (a : ℕ) → ACCUMULATORS ≤ a → is_accumulator a ≡ false
is_high a h = grind (arith, nat_tests)

pub few : (n : ℕ) → n < MOST_REFERENCES → nat_le MOST_REFERENCES n ≡ false
few n h = grind (arith, nat_tests)

-- a page that a touch finds ready is ready for a reference
pub ready_there : {P : Type 0} (means : PagesMeaning P) (s : P) (d : DrumWords) (f : ForkName) (a page : ℕ) (kind : Kind) → page ≡ a / PAGE_WORDS → IsReady means s d f page kind → is_ready f (means.plain s d) a kind ≡ true
ready_there means s d f a page kind is ready = by (is_accumulator a)
  where
    console : Tty
    console = record { 0 = 255 }

    h : IsReady means s d f (a / PAGE_WORDS) kind
    h = subst (λ (n : ℕ). IsReady means s d f n kind) is ready

    none : makings (means.plain s d) (in_map (slot_at f a)) kind ≡ Some []
    none = ready_touch (means.plain s d) (means.scene s) console (in_map (slot_at f a)) kind (h console (inr refl))

    by : (b : Bool) → cond b true (makes_none (makings (means.plain s d) (in_map (slot_at f a)) kind)) ≡ true
    by true = refl
    by false = rw none refl

module _ {K : Type 0} {file_cmp : K → K → Ordering} (f : ForkName) (p : PlainPages file_cmp) (ac : List ℕ) where
  pub takes_low : (a : ℕ) (kind : Kind) (w : ℕ) → a < ACCUMULATORS → w ≡ slice_index ac a → Takes f p ac a kind w
  takes_low a kind w h is = let low = is_low a h in record { ready = rw low refl; is = rw low is }

  pub takes_high : (a : ℕ) (kind : Kind) (w : ℕ) → ACCUMULATORS ≤ a → is_ready f p a kind ≡ true → w ≡ word_at p (in_map (slot_at f a)) (a % PAGE_WORDS) → Takes f p ac a kind w
  takes_high a kind w h ready is = let high = is_high a h in record { ready = ready; is = rw high is }
