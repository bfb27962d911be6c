-- Pages that were used, and no more.
use Rattle.std.proofs.Common.{◌≡◌, ℕ, ◌/◌, ◌<◌, List, Option, Some, IfSome, refl, sym, ◌∙◌, ap, subst, arith}
use Rattle.outside.specs.declared.TheConstants.{PAGE_WORDS}
use Rattle.machine_names.specs.declared.names.TheConstants.{ACCUMULATORS}
use Rattle.machine_names.specs.declared.names.ForkName.{ForkName}
use Rattle.machine_names.specs.declared.names.Kind.{Kind}
use Rattle.machine_names.specs.declared.names.Place.{Place}
use Rattle.page_contracts.specs.declared.answers.Found.{Found}
use Rattle.page_contracts.specs.declared.answers.SpaceHandle.{SpaceHandle}
use Rattle.page_contracts.specs.declared.answers.Touch.{Touch}
use Rattle.page_contracts.specs.DrumWords.{DrumWords}
use Rattle.page_contracts.specs.Pages.{PagesMeaning, HasSpace, OnlyUses, StaysPut, fork_place}
use Rattle.page_contracts.specs.Stores.{IsUsed}
use Rattle.plain_pages.specs.PlainPages.{NumberedPages}
use Rattle.ka10_deeds.specs.declared.word_fields.Address.{Address}
use Rattle.ka10_spots.specs.declared.spots.Spot.{Spot}
use Rattle.ka10_spots.specs.declared.spots.Spot.TheVariants.{Accumulator, Page}
use Rattle.ka10_spots.specs.Glide.{Addressed}
use Rattle.ka10_spots.specs.Spots.{IsReached, IsSpot, LeadsTo, UsesPage}
use Rattle.ka10_spots.proofs.Stored.{lost_none, lost_on}

module _ {P : Type 0} (means : PagesMeaning P) where
  -- pages that stay as they are
  pub stays_put : (s : P) → StaysPut means s s
  stays_put s = record { touched = refl; scene = refl; space = refl; place = refl; filed = refl; map_homes = refl; page_homes = refl; lives = refl; forks = refl; serials = refl; count = refl; most = refl }

  pub stays_on : (r s t : P) → StaysPut means r s → StaysPut means s t → StaysPut means r t
  stays_on r s t g h = record {
    touched = h.touched ∙ g.touched;
    scene = h.scene ∙ g.scene;
    space = h.space ∙ g.space;
    place = h.place ∙ g.place;
    filed = h.filed ∙ g.filed;
    map_homes = h.map_homes ∙ g.map_homes;
    page_homes = h.page_homes ∙ g.page_homes;
    lives = h.lives ∙ g.lives;
    forks = h.forks ∙ g.forks;
    serials = h.serials ∙ g.serials;
    count = h.count ∙ g.count;
    most = h.most ∙ g.most;
  }

  pub uses_none : (s : P) → OnlyUses means s s
  uses_none s = record { fits = λ d. (λ h. h, λ h. h); plain = refl; put = stays_put s; loses = lost_none means s }

  pub uses_on : (r s t : P) → OnlyUses means r s → OnlyUses means s t → OnlyUses means r t
  uses_on r s t u v = record {
    fits = λ d. (λ h. (v.fits d).0 ((u.fits d).0 h), λ h. (u.fits d).1 ((v.fits d).1 h));
    plain = v.plain ∙ u.plain;
    put = stays_on r s t u.put v.put;
    loses = lost_on means r s t u.loses v.loses;
  }

  module _ (space : SpaceHandle) where
    pub of_fork : (s t : P) (f : ForkName) → StaysPut means s t → means.space s f ≡ Some space → means.space t f ≡ Some space
    of_fork s t f stays is = ap (λ (g : ForkName → Option SpaceHandle). g f) stays.space ∙ is

    -- a handle that is there stays there
    pub space_stays : (s t : P) → HasSpace means s space → StaysPut means s t → HasSpace means t space
    space_stays s t h stays = record { fork = h.fork; is = of_fork s t h.fork stays h.is }

    -- a page is used where it was found
    pub uses_page : (at page : ℕ) (found : Found) (old new : P) → page ≡ at / PAGE_WORDS → means.place old space page ≡ Some found → ((home : ℕ) → means.store.found old home ≡ Some found → IsUsed means.store home old new) → UsesPage means space at old new
    uses_page at page found old new is there uses other home high place here =
        uses home (here ∙ (sym place ∙ (sym (ap (means.place old space) is) ∙ there)))

    -- and an accumulator has none
    pub uses_low : (at : ℕ) (old new : P) → at < ACCUMULATORS → UsesPage means space at old new
    uses_low at old new low found home high place here = absurd (omega (arith, low, high))

    module _ (r s : P) (u : OnlyUses means r s) where
      pub plain_is : (d : DrumWords) → means.plain s d ≡ means.plain r d
      plain_is d = ap (λ (p : DrumWords → NumberedPages). p d) u.plain

      pub fork_before : (f : ForkName) → means.space s f ≡ Some space → means.space r f ≡ Some space
      fork_before f is = sym (ap (λ (g : ForkName → Option SpaceHandle). g f) u.put.space) ∙ is

      pub reached_still : (f : ForkName) (a : ℕ) (kind : Kind) → IsReached means r f a kind → IsReached means s f a kind
      reached_still f a kind h high = ap (λ (t : Place → Kind → Touch). t (fork_place f (a / PAGE_WORDS)) kind) u.put.touched ∙ h high

      pub placed_still : (page : ℕ) (found : Found) → means.place r space page ≡ Some found → means.place s space page ≡ Some found
      placed_still page found h = ap (λ (place : SpaceHandle → ℕ → Option Found). place space page) u.put.place ∙ h

      pub spot_still : (at : ℕ) (spot : Spot) → IsSpot means space at r spot → IsSpot means space at s spot
      spot_still at Accumulator h = h
      spot_still at (Page found) h = (h.0, placed_still (at / PAGE_WORDS) found h.1)

      -- indirect words that lead somewhere behind uses lead there before them
      pub leads_before : (ac : List ℕ) (most w : ℕ) (found : Option Address) → LeadsTo means s space ac most w found → LeadsTo means r space ac most w found
      leads_before ac most w found h d f before fits is few =
          subst (λ (q : NumberedPages). IfSome found (λ (a : Address). Addressed f q ac before most w a.e a.last)) (plain_is d) (h d f before ((u.fits d).0 fits) (of_fork r s f u.put is) few)

      module _ (Holds : ForkName → NumberedPages → Type 0) where
        -- what holds of the plain pages holds of them behind uses
        pub holds_still : ((d : DrumWords) (f : ForkName) → means.fits r d → means.space r f ≡ Some space → Holds f (means.plain r d)) → (d : DrumWords) (f : ForkName) → means.fits s d → means.space s f ≡ Some space → Holds f (means.plain s d)
        holds_still h d f fits is = subst (Holds f) (sym (plain_is d)) (h d f ((u.fits d).1 fits) (fork_before f is))

        -- and before them
        pub holds_before : ((d : DrumWords) (f : ForkName) → means.fits s d → means.space s f ≡ Some space → Holds f (means.plain s d)) → (d : DrumWords) (f : ForkName) → means.fits r d → means.space r f ≡ Some space → Holds f (means.plain r d)
        holds_before h d f fits is = subst (Holds f) (plain_is d) (h d f ((u.fits d).0 fits) (of_fork r s f u.put is))
