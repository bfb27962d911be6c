-- What stays over one call stays over several.
use Rattle.std.proofs.Common.{⊎_elim, inl, inr, ◌<◌, ℕ, refl, sym, ◌∙◌, ap, subst}
use Rattle.page_contracts.specs.DrumWords.{DrumWords}
use Rattle.page_contracts.specs.Stores.{StoreMeaning, CanKeep, StaysThere, StaysQueued, is_here, place, moves}
use Rattle.std.specs.List.{list_any}
use Rattle.page_waits.specs.Systems.{SystemMeaning, StaysTold, SameOver, StaysState}
use Rattle.page_waits.specs.Waits.{ListsMeaning, StaysSeated}

module _ {S : Type 0} (means : StoreMeaning S) where
  pub there_nil : (s : S) → StaysThere means s s
  there_nil s = record { homes = refl; framed = record { frames = refl; spare = refl; found = refl; tenant = refl; members = refl }; ages = refl; uses = refl }

  pub there_then : (a b c : S) → StaysThere means a b → StaysThere means b c → StaysThere means a c
  there_then a b c f g = record {
    homes = g.homes ∙ f.homes;
    framed = record { frames = g.framed.frames ∙ f.framed.frames; spare = g.framed.spare ∙ f.framed.spare; found = g.framed.found ∙ f.framed.found; tenant = g.framed.tenant ∙ f.framed.tenant; members = g.framed.members ∙ f.framed.members };
    ages = g.ages ∙ f.ages;
    uses = g.uses ∙ f.uses;
  }

  pub queued_nil : (s : S) → StaysQueued means s s
  queued_nil s = record { queue = refl; untold = refl }

  pub queued_then : (a b c : S) → StaysQueued means a b → StaysQueued means b c → StaysQueued means a c
  queued_then a b c f g = record { queue = g.queue ∙ f.queue; untold = g.untold ∙ f.untold }

  -- what can be held still can
  pub still_holds : (a b : S) (holder home : ℕ) → StaysThere means a b → StaysQueued means a b → CanKeep means a holder home → CanKeep means b holder home
  still_holds a b holder home there queued can = record {
    here = ap (λ ps. is_here (place ps home)) there.homes ∙ can.here;
    still = ap (list_any (moves home)) queued.queue ∙ can.still;
    member = ⊎_elim (λ m. inl (subst (λ n. holder < n) (sym there.framed.members) m)) (λ e. inr e) can.member;
  }

module _ {S : Type 0} (means : SystemMeaning S) where
  pub told_nil : (s : S) → StaysTold means s s
  told_nil s = record { tree = refl; limit = refl; homes = refl; wants = refl; within = λ n w. w }

  pub told_then : (a b c : S) → StaysTold means a b → StaysTold means b c → StaysTold means a c
  told_then a b c f g = record { tree = g.tree ∙ f.tree; limit = g.limit ∙ f.limit; homes = g.homes ∙ f.homes; wants = g.wants ∙ f.wants; within = λ n w. g.within n (f.within n w) }

  pub same_then : (a b c : S) (d e k : DrumWords) → SameOver means a b d e → SameOver means b c e k → SameOver means a c d k
  same_then a b c d e k f g = record { fits = g.fits; plain = g.plain ∙ f.plain; wants = g.wants ∙ f.wants }

  pub state_nil : (s : S) → StaysState means s s
  state_nil s = record { told = told_nil s; each = λ d f. record { fits = f; plain = refl; wants = refl }; gives = λ d what f g. g }

  pub state_then : (a b c : S) → StaysState means a b → StaysState means b c → StaysState means a c
  state_then a b c f g = record {
    told = told_then a b c f.told g.told;
    each = λ d fits. let x = f.each d fits in same_then a b c d d d x (g.each d x.fits);
    gives = λ d what fits h. g.gives d what (f.each d fits).fits (f.gives d what fits h);
  }

module _ {L : Type 0} (lists : ListsMeaning L) where
  pub seated_nil : (l : L) → StaysSeated lists l l
  seated_nil l = record { member = refl; set = refl }

  pub seated_then : (a b c : L) → StaysSeated lists a b → StaysSeated lists b c → StaysSeated lists a c
  seated_then a b c f g = record { member = g.member ∙ f.member; set = g.set ∙ f.set }
