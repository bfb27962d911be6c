-- Bursts, unit by unit.
use Rattle.std.proofs.Common.{◌≡◌, ℕ, ◌+◌, ◌<◌, ◌^◌, Some, None, refl, sym, ◌∙◌, ap, subst, add-one, arith}
use Rattle.std.specs.Ordering.{nat_cmp}
use Rattle.plain_units.specs.declared.registers.Regs.{Regs}
use Rattle.page_contracts.specs.declared.answers.SpaceHandle.{SpaceHandle}
use Rattle.machine_names.specs.declared.names.ForkName.{ForkName}
use Rattle.page_contracts.specs.Pages.{PagesMeaning}
use Rattle.page_contracts.specs.DrumWords.{DrumWords}
use Rattle.plain_pages.specs.PlainPages.{NumberedPages}
use Rattle.ka10_in_place.specs.declared.ending.Quick.{Quick}
use Rattle.ka10_in_place.specs.declared.ending.Quick.TheVariants as quick
use Rattle.ka10_in_place.specs.declared.ending.BurstEnd.TheVariants as end
use Rattle.ka10_spots.specs.Once.{After, once, in_a_row}
use Rattle.ka10_in_place.specs.declared.fetch_page.FetchPage.{FetchPage}
use Rattle.ka10_in_place.specs.InPlace.{IfDone, InPlace}
use Rattle.ka10_in_place.specs.Fetches.{CanExecute, FetchedUnit, IsThere}
use Rattle.ka10_in_place.specs.Bursts.{InRow, SoFar, and_one_more}
use Rattle.ka10_spots.proofs.Used.{of_fork, stays_on, stays_put}
use Rattle.ka10_in_place.proofs.Finishing.{if_more}
use Rattle.ka10_spots.proofs.Stored.{lost_none, lost_on}
use Rattle.ka10_in_place.proofs.Fetching.{has_none}

module _ (f : ForkName) (p : NumberedPages) (regs : Regs) where
  row_none : in_a_row f 0 p regs ≡ Some (record { pages = p; regs = regs; post = None })
  unfolding in_a_row
  row_none = refl

  -- one unit more, which posts nothing
  row_more : (n : ℕ) (a : After nat_cmp) (q : NumberedPages) (r : Regs) → in_a_row f n p regs ≡ Some a → once f a.pages a.regs ≡ Some (record { pages = q; regs = r; post = None })
      → in_a_row f (n + 1) p regs ≡ Some (record { pages = q; regs = r; post = None })
  unfolding in_a_row
  row_more n a q r h one = rw (add-one, h, one) refl

  -- and one that may post
  one_more : (n : ℕ) (a b : After nat_cmp) → in_a_row f n p regs ≡ Some a → once f a.pages a.regs ≡ Some b → and_one_more f n p regs ≡ Some b
  one_more n a b h one = rw (h, one) refl

module _ {P : Type 0} (means : PagesMeaning P) (space : SpaceHandle) where
  pub so_far_none : (s : P) (regs : Regs) (page : FetchPage) → page.length ≡ 0 → regs.pc < 2 ^ 18 → SoFar means space s s regs regs page 0
  so_far_none s regs page none pc = record {
    told = λ d f fits is. row_none f (means.plain s d) regs;
    fetches = λ d f fits is at has. has_none page at none has;
    there = λ at has. has_none page at none has;
    fits = λ d fits. fits;
    stays = stays_put means s;
    loses = lost_none means s;
    pc = pc;
    accumulators = refl;
    none = λ none. (refl, refl);
  }

  module _ (old s t : P) (regs r after : Regs) (first page : FetchPage) (n : ℕ) (before : SoFar means space old s regs r first n) where
    module _ (q : Quick) (i : InPlace means space (FetchedUnit r first page) s t r after q) where
      -- the unit behind those before
      one : (d : DrumWords) (f : ForkName) → means.fits old d → means.space old f ≡ Some space
          → IfDone q (λ post. CanExecute f (means.plain t d) page × (once f (means.plain s d) r ≡ Some (record { pages = means.plain t d; regs = after; post = post })))
      one d f fits is = if_more q _ _ (λ post u. u (before.fetches d f fits is)) (i.told d f (before.fits d fits) (of_fork means space old s f before.stays is))

    pub so_far_more : InPlace means space (FetchedUnit r first page) s t r after quick.Done → IsThere means space t page → SoFar means space old t regs after page (n + 1)
    so_far_more i there = record {
      told = λ d f fits is. row_more f (means.plain old d) regs n _ (means.plain t d) after (before.told d f fits is) (one quick.Done i d f fits is).1;
      fetches = λ d f fits is. (one quick.Done i d f fits is).0;
      there = there;
      fits = λ d fits. i.fits d (before.fits d fits);
      stays = stays_on means old s t before.stays i.stays;
      loses = lost_on means old s t before.loses i.loses;
      pc = i.pc;
      accumulators = i.accumulators ∙ before.accumulators;
      none = λ none. absurd (omega (arith, none));
    }

    module _ (most : ℕ) (less : n < most) where
      pub ends_overflow : InPlace means space (FetchedUnit r first page) s t r after quick.Overflow → InRow means space most old t regs after (record { units = n; end = end.Overflow })
      ends_overflow i = record {
        count = less;
        told = λ d f fits is. one_more f (means.plain old d) regs n _ _ (before.told d f fits is) (one quick.Overflow i d f fits is).1;
        fits = λ d fits. i.fits d (before.fits d fits);
        stays = stays_on means old s t before.stays i.stays;
        loses = lost_on means old s t before.loses i.loses;
        pc = i.pc;
        accumulators = i.accumulators ∙ before.accumulators;
        undone = λ slow. absurd (cc slow);
      }

      pub ends_pushdown : InPlace means space (FetchedUnit r first page) s t r after quick.Pushdown → InRow means space most old t regs after (record { units = n; end = end.Pushdown })
      ends_pushdown i = record {
        count = less;
        told = λ d f fits is. one_more f (means.plain old d) regs n _ _ (before.told d f fits is) (one quick.Pushdown i d f fits is).1;
        fits = λ d fits. i.fits d (before.fits d fits);
        stays = stays_on means old s t before.stays i.stays;
        loses = lost_on means old s t before.loses i.loses;
        pc = i.pc;
        accumulators = i.accumulators ∙ before.accumulators;
        undone = λ slow. absurd (cc slow);
      }

      pub ends_slow : InPlace means space (FetchedUnit r first page) s t r after quick.Slow → InRow means space most old t regs after (record { units = n; end = end.Slow })
      ends_slow i =
          let same = i.slow refl in
          rw same.0 (record {
            count = less;
            told = λ d f fits is. before.told d f fits is ∙ ap (λ (p : P). Some (record { pages = means.plain p d; regs = r; post = None })) (sym same.1);
            fits = λ d fits. i.fits d (before.fits d fits);
            stays = stays_on means old s t before.stays i.stays;
            loses = lost_on means old s t before.loses i.loses;
            pc = before.pc;
            accumulators = before.accumulators;
            undone = λ slow none. (let nothing = before.none none in (nothing.0, same.1 ∙ nothing.1));
          })

  pub ends_most : (old s : P) (regs r : Regs) (page : FetchPage) (most n : ℕ) → n ≡ most → SoFar means space old s regs r page n → InRow means space most old s regs r (record { units = most; end = end.Most })
  ends_most old s regs r page most n is before = record {
    count = refl;
    told = λ d f fits h. subst (λ (k : ℕ). in_a_row f k (means.plain old d) regs ≡ Some (record { pages = means.plain s d; regs = r; post = None })) is (before.told d f fits h);
    fits = before.fits;
    stays = before.stays;
    loses = before.loses;
    pc = before.pc;
    accumulators = before.accumulators;
    undone = λ slow. absurd (cc slow);
  }
