-- A unit carried out: what touches answer on its way, and what is left to make.
use Rattle.std.proofs.Common.{◌≡◌, ℕ, ◌%◌, ◌+◌, ◌≤◌, Bool, List, [], Option, None, Some, sym, ◌∙◌, ap, subst, refl, arith}
use Rattle.std.specs.Prelude.{slice_get, slice_set}
use Rattle.std.specs.Option.{option_and_then, option_map_or}
use Rattle.std.specs.FinMap as map
use Rattle.outside.specs.declared.TheConstants.{PAGE_WORDS}
use Rattle.machine_names.specs.declared.names.Tty.{Tty}
use Rattle.machine_names.specs.declared.names.ForkName.{ForkName}
use Rattle.machine_names.specs.declared.names.PageName.{PageName}
use Rattle.machine_names.specs.declared.names.Slot.{Slot}
use Rattle.machine_names.specs.declared.names.Kind.{Kind}
use Rattle.machine_names.specs.declared.names.Kind.TheVariants.{Write}
use Rattle.page_contracts.specs.declared.answers.Touch.TheVariants.{Ready}
use Rattle.plain_units.specs.declared.unit.Put.{Put}
use Rattle.plain_pages.specs.PlainPages.{NumberedPages}
use Rattle.plain_pages.specs.References.{Spot, Making, in_map, makings, next_making, page_at, reference, slot_at, stored, words_of}
use Rattle.page_contracts.specs.Pages.{PagesMeaning, Scene, StaysPut, absent_or, announced, touch_of, touched_by}
use Rattle.plain_units.specs.Steps.{put_into}
use Rattle.plain_pages.proofs.ReferencesMade.{reference_stays}
use Rattle.page_gather.specs.Gathering.{IsNear}
use Rattle.page_gather.proofs.Settling.{near_scene}
use Rattle.ka10_unit.specs.declared.taken.Taken.{Taken}
use Rattle.ka10_unit.specs.Carrying.{Grows, StaysAway}
use Rattle.ka10_unit.specs.Gathers.{Framed, Serves}
use Rattle.page_contracts.specs.Pages.{MayLose}
use Rattle.ka10_spots.proofs.Stored.{lost_none, lost_on, makings_stored}
use Rattle.ka10_unit.specs.Taking.{CanPut, IsOpenAt, Stands}

-- a page that is in a frame, and of which nothing more is to be made, is found ready
pub ready_here : (p : NumberedPages) (scene : Scene) (s : Slot) (kind : Kind) (owner : Tty) → IsNear p scene s → makings p (in_map s) kind ≡ Some [] → touch_of p scene (in_map s) kind owner ≡ Ready
unfolding touch_of
ready_here p scene s kind owner near none =
    ap (λ (o : Option ℕ). absent_or o (touched_by p scene (in_map s) kind (reference p (in_map s) kind owner))) near.maps
    ∙ ap (touched_by p scene (in_map s) kind) (reference_stays p owner (in_map s) kind none)
    ∙ ap (λ (o : Option ℕ). absent_or o (announced p scene (next_making p (in_map s) kind))) near.page
    ∙ ap (λ (x : Option (List (Making ℕ))). announced p scene (option_and_then (λ ms. slice_get ms 0) x)) none

-- what a unit of a fork has taken is what that of its taken fork has
pub own_stands : (f : ForkName) (p : Framed) (t : Taken) → Stands f p t → Stands t.fork p t
own_stands f p t s = subst (λ (g : ForkName). Stands g p t) (sym s.fork) s

-- ---- words stored

-- a word that is stored takes no page from its frame
near_stored : (q : NumberedPages) (scene : Scene) (at : Spot ℕ) (offset word : ℕ) (s : Slot) → IsNear q scene s → IsNear (stored q at offset word) scene s
unfolding page_at
near_stored q scene at offset word s near = by (page_at q at)
  where
    by : (n : Option PageName) → IsNear (option_map_or (λ m. record q { objects = map.insert q.objects m (slice_set (words_of q m) offset word) }) n q) scene s
    by None = near
    by (Some n) = record { maps = near.maps; page = near.page }

pub open_still : (f : ForkName) (q : Framed) (put : Option Put) (a : ℕ) → IsOpenAt f q a → IsOpenAt f (record q { pages = put_into f q.pages put }) a
open_still f q None a h = record { makes = h.makes; near = h.near }
open_still f q (Some put) a h = record {
  makes = makings_stored q.pages (in_map (slot_at f put.at)) (in_map (slot_at f a)) (put.at % PAGE_WORDS) put.word Write ∙ h.makes;
  near = near_stored q.pages q.scene (in_map (slot_at f put.at)) (put.at % PAGE_WORDS) put.word (slot_at f a) h.near;
}

-- another word can be stored still
pub put_still : (f : ForkName) (q : Framed) (first second : Option Put) → CanPut f q second → CanPut f (record q { pages = put_into f q.pages first }) second
put_still f q first None h = tt
put_still f q first (Some put) h = open_still f q first put.at h

-- ---- pages of which the same is in frames

pub open_framed : (f : ForkName) (p q : Framed) → q.pages ≡ p.pages → StaysAway p.scene q.scene → (a : ℕ) → IsOpenAt f p a → IsOpenAt f q a
open_framed f p q same away a h = record {
  makes = ap (λ (x : NumberedPages). makings x (in_map (slot_at f a)) Write) same ∙ h.makes;
  near = near_scene p.scene q.scene away.maps away.pages q.pages (slot_at f a) (subst (λ (x : NumberedPages). IsNear x p.scene (slot_at f a)) (sym same) h.near);
}

pub put_framed : (f : ForkName) (p q : Framed) → q.pages ≡ p.pages → StaysAway p.scene q.scene → (put : Option Put) → CanPut f p put → CanPut f q put
put_framed f p q same away None h = tt
put_framed f p q same away (Some put) h = open_framed f p q same away put.at h

pub away_on : (old mid new : Scene) → StaysAway old mid → StaysAway mid new → StaysAway old new
away_on old mid new g h = record { maps = h.maps ∙ g.maps; pages = h.pages ∙ g.pages }

pub away_same : (old new : Scene) → new ≡ old → StaysAway old new
away_same old new same = record { maps = ap (λ (x : Scene). x.map_away) same; pages = ap (λ (x : Scene). x.page_away) same }

-- ---- pages made by several calls

module _ {P : Type 0} (means : PagesMeaning P) (owner : Tty) where
  pub grows_more : (n m : ℕ) (old mid new : P) → Grows means owner n old mid → Grows means owner m mid new → Grows means owner (n + m) old new
  grows_more n m old mid new g h = record {
    lives = h.lives ∙ g.lives;
    forks = h.forks ∙ g.forks;
    most = h.most ∙ g.most;
    serial = omega (arith, g.serial, h.serial);
    serials = λ t ne. h.serials t ne ∙ g.serials t ne;
    loses = lost_on means old mid new g.loses h.loses;
  }

  pub grows_within : (n m : ℕ) (old new : P) → n ≤ m → Grows means owner n old new → Grows means owner m old new
  grows_within n m old new l g = record { lives = g.lives; forks = g.forks; most = g.most; serial = omega (arith, l, g.serial); serials = g.serials; loses = g.loses }

  pub grows_none : (old : P) → Grows means owner 0 old old
  grows_none old = record { lives = refl; forks = refl; most = refl; serial = omega arith; serials = λ t ne. refl; loses = lost_none means old }

  -- a word stored makes no page
  pub grows_stored : (old new : P) → StaysPut means old new → MayLose means old new → Grows means owner 0 old new
  grows_stored old new s lost = record { lives = s.lives; forks = s.forks; most = s.most; serial = omega (arith, same); serials = λ t ne. ap (λ (serial : Tty → ℕ). serial t) s.serials; loses = lost }
    where
      same : means.serial new owner ≡ means.serial old owner
      same = ap (λ (serial : Tty → ℕ). serial owner) s.serials

-- pages that serve a fork serve it still
pub serves_still : {P : Type 0} (means : PagesMeaning P) (f : ForkName) (old new : P) → means.lives new ≡ means.lives old → Serves means old f → Serves means new f
serves_still means f old new same s = record { lives = ap (λ (lives : ForkName → Bool). lives f) same ∙ s.lives; terminal = s.terminal }
