-- A page that can be read: it is asked for again, and comes to the same pages.
use Rattle.std.proofs.Common.{◌≡◌, ℕ, ◌+◌, ◌≤◌, Bool, true, false, cond, List, [], ◌∷◌, Option, None, Some, refl, sym, ◌∙◌, ap, subst, arith}
use Rattle.std.specs.Prelude.{⊤, Ok, Err, nat_le}
use Rattle.std.proofs.lemmas.Bool.Decides.{nat_tests}
use Rattle.std.specs.Ordering.{nat_cmp}
use Rattle.machine_names.specs.declared.names.ForkName.{ForkName}
use Rattle.machine_names.specs.declared.names.Kind.{Kind}
use Rattle.machine_names.specs.declared.names.Kind.TheVariants.{Read}
use Rattle.machine_names.specs.declared.names.Slot.{Slot}
use Rattle.machine_names.specs.declared.names.Tty.{Tty}
use Rattle.machine_names.specs.Bounds.{IsOwner}
use Rattle.plain_pages.specs.PlainPages.{NumberedPages}
use Rattle.plain_pages.specs.Room.{live, HasRoom}
use Rattle.plain_pages.specs.References.{Making, Referred, denied, full, granted, in_map, make, make_all, makings, reference}
use Rattle.plain_pages.proofs.ReferencesMade.{reference_denied, reference_makes, reference_stays}
use Rattle.page_contracts.specs.declared.answers.Need.{Need as ANeed}
use Rattle.page_contracts.specs.declared.answers.Need.TheVariants as need
use Rattle.page_contracts.specs.Pages.{Scene, map_away, page_away}
use Rattle.plain_units.specs.declared.channel.TheConstants.{DENIED_READ, DRUM_FULL}
use Rattle.plain_units.specs.Steps.{denied_channel, goes, stops, trap}
use Rattle.page_gather.specs.declared.reference.PageReference.{PageReference}
use Rattle.page_gather.specs.declared.reference.Added.{Added}
use Rattle.page_gather.specs.declared.reference.Added.TheVariants.{Went, Need, Denied, Full}
use Rattle.page_gather.specs.Gathering.{Adds, Gathering, Gathers, answered, came_to, left_by, left_of, most_framed, page_or, referred_to}
use Rattle.page_gather.proofs.Again.{reference_leaves}
use Rattle.page_gather.proofs.Answering.{answered_goes}
use Rattle.ka10_unit.specs.declared.taken.Stop.{Stop}
use Rattle.ka10_unit.specs.declared.taken.Stop.TheVariants.{Trap, Need as StopNeed}
use Rattle.ka10_unit.specs.Gathers.{Framed, asked_by, asks}
use Rattle.ka10_unit.specs.Taking.{stop_of}
use Rattle.text_pointers.specs.declared.reader.Reader.{Reader}
use Rattle.text_pointers.specs.Reading.{HasPage, IsReadable, ReadsPage, Stands, in_space, pages_so_far}

-- as many frames are free as the references so far take
framed_so_far : (p : Framed) (g : Gathering) → Gathers p.pages p.scene g → nat_le (live (left_of p.pages g)) (most_framed p.pages p.scene) ≡ true
framed_so_far p g h = by h.changed.count h.frames
  where
    by : live (left_of p.pages g) ≡ live p.pages + g.homes → g.homes ≤ p.scene.free_frames → nat_le (live (left_of p.pages g)) (most_framed p.pages p.scene) ≡ true
    by count frames = grind (arith, nat_tests, count, frames)

-- a page that can be read is asked for again, and makes nothing
pub readable_again : (f : ForkName) (p : Framed) (g : Gathering) (page : ℕ) → Gathers p.pages p.scene g → IsReadable f p (left_of p.pages g) page → asks f p (left_of p.pages g) (in_space f page) Read ≡ goes (left_of p.pages g)
unfolding asks answered
readable_again f p g page gathers h =
    let stays = reference_stays (left_of p.pages g) f.tty (in_map (in_space f page)) Read h.makes in
    rw (h.near.maps, stays, h.near.page, framed_so_far p g gathers) refl

-- a reference that is denied is denied for what it is
not_made : (p : NumberedPages) (owner : Tty) (ms : List (Making ℕ)) (k : Kind) → make_all p owner ms ≡ denied k → ⊥
unfolding make_all
not_made p owner [] k h = cc h
not_made p owner (m ∷ ms) k h = by (not_made (make p owner m) owner ms k) (HasRoom (make p owner m) owner) h
  where
    by : (make_all (make p owner m) owner ms ≡ denied k → ⊥) → (b : Bool) → cond b (make_all (make p owner m) owner ms) full ≡ denied k → ⊥
    by rest true g = rest g
    by rest false g = cc g

denied_as : (p : NumberedPages) (owner : Tty) (s : Slot) (kind k : Kind) → reference p (in_map s) kind owner ≡ denied k → k ≡ kind
denied_as p owner s kind k h = by (makings p (in_map s) kind) refl
  where
    by : (o : Option (List (Making ℕ))) → makings p (in_map s) kind ≡ o → k ≡ kind
    by None is = cc (sym h ∙ reference_denied p owner (in_map s) kind is)
    by (Some ms) is = absurd (not_made p owner ms k (sym (reference_makes p owner (in_map s) kind ms is) ∙ h))

pub answered_as : (q : NumberedPages) (scene : Scene) (most : ℕ) (owner : Tty) (r : PageReference) (k : Kind) → Denied k ≡ answered q scene most owner r → k ≡ r.kind
unfolding answered
answered_as q scene most owner r k h = by (map_away q scene (in_map r.slot)) (reference q (in_map r.slot) r.kind owner) refl (page_away q scene (in_map r.slot)) h
  where
    here : (away : Option ℕ) (b : Bool) → Denied k ≡ page_or away (cond b Went (Need need.Frame)) → ⊥
    here None true g = cc g
    here None false g = cc g
    here (Some home) b g = cc g

    by : (way : Option ℕ) (x : Referred nat_cmp) → reference q (in_map r.slot) r.kind owner ≡ x → (away : Option ℕ) → Denied k ≡ page_or way (came_to x away most) → k ≡ r.kind
    by (Some home) x is away g = absurd (cc g)
    by None (granted y) is away g = absurd (here away (nat_le (live y) most) g)
    by None (denied l) is away g = let same : k ≡ l = cc g in same ∙ denied_as q owner r.slot r.kind l is
    by None full is away g = absurd (cc g)

-- ---- a page that is referred to

module _ (f : ForkName) (own : IsOwner f.tty) (p : Framed) (old new : Reader) (of_fork : old.gather.owner ≡ f.tty) (page : ℕ) (stands : Stands f p old) where
  abbrev r : PageReference
  r = record { slot = in_space f page; kind = Read }

  abbrev q : NumberedPages
  q = pages_so_far p old

  -- it is asked as it is answered where it is added
  asks_is : (g : Gathering) (result : Added) → Adds p.pages p.scene old.gather g r result → asks f p q (in_space f page) Read ≡ asked_by result (left_by q (referred_to q old.gather.owner r))
  unfolding asks
  asks_is g result a =
      ap (λ (t : Tty). asked_by (answered q p.scene (most_framed p.pages p.scene) t r) (left_by q (referred_to q t r))) (sym of_fork)
      ∙ ap (λ (x : Added). asked_by x (left_by q (referred_to q old.gather.owner r))) (sym a.is)

  -- it was the page of the byte before
  pub same_page : (x : ⊤) → old.page ≡ Some page → new ≡ old → ReadsPage f p old new page (Ok x)
  same_page x here same =
      let readable : IsReadable f p q page = subst (HasPage f p q) here stands.page in
      subst (λ (n : Reader). ReadsPage f p old n page (Ok x)) (sym same) (record {
        is = readable_again f p old.gather page stands.gathers readable;
        stands = λ y is. stands;
        readable = λ y is. readable;
      })

  -- another page goes through
  pub next_page : (x : ⊤) → Adds p.pages p.scene old.gather new.gather r Went → new.fork ≡ old.fork → new.page ≡ Some page → ReadsPage f p old new page (Ok x)
  next_page x a same here =
      let goes_on = a.leaves refl in
      let its_own : reference q (in_map (in_space f page)) Read f.tty ≡ granted (pages_so_far p new) = ap (reference q (in_map (in_space f page)) Read) (sym of_fork) ∙ goes_on in
      let left = reference_leaves f.tty own q (pages_so_far p new) stands.gathers.changed.whole (in_space f page) Read its_own in
      let near = a.near refl (in_space f page) (answered_goes q p.scene (most_framed p.pages p.scene) old.gather.owner r (sym a.is)).near in
      let readable : IsReadable f p (pages_so_far p new) page = record { makes = left.again; there = left.page; near = near } in
      record {
        is = asks_is new.gather Went a ∙ ap (λ (y : Referred nat_cmp). goes (left_by q y)) goes_on;
        stands = λ y is. record { fork = same ∙ stands.fork; gathers = a.gathers; page = subst (HasPage f p (pages_so_far p new)) (sym here) readable };
        readable = λ y is. readable;
      }

  -- it stops the reading
  page_stops : (e : Stop) → asks f p q (in_space f page) Read ≡ stops (stop_of e) → ReadsPage f p old new page (Err e)
  page_stops e is = record { is = is; stands = λ x no. absurd (cc no); readable = λ x no. absurd (cc no) }

  module _ (g : Gathering) where
    pub page_needs : (n : ANeed) → Adds p.pages p.scene old.gather g r (Need n) → ReadsPage f p old new page (Err (StopNeed n))
    page_needs n a = page_stops (StopNeed n) (asks_is g (Need n) a)

    pub page_denied : (k : Kind) → Adds p.pages p.scene old.gather g r (Denied k) → ReadsPage f p old new page (Err (Trap DENIED_READ))
    page_denied k a = page_stops (Trap DENIED_READ) (asks_is g (Denied k) a ∙ ap (λ (l : Kind). stops (trap (denied_channel l))) (answered_as q p.scene (most_framed p.pages p.scene) old.gather.owner r k a.is))

    pub page_full : Adds p.pages p.scene old.gather g r Full → ReadsPage f p old new page (Err (Trap DRUM_FULL))
    page_full a = page_stops (Trap DRUM_FULL) (asks_is g Full a)
