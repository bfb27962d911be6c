-- What a touch along a chain announces, and what it answers once that is made, whatever the drum.
use Rattle.std.proofs.Common.{◌≡◌, inl, inr, ℕ, ◌<◌, List, Bool, true, false, cond, Option, None, Some, is_some, refl, sym, ◌∙◌, ap, subst, arith}
use Rattle.std.specs.Prelude.{nat_lt}
use Rattle.std.specs.FinMap as fin
use Rattle.std.specs.Option.{option_map}
use Rattle.std.proofs.lemmas.Bool.Decides.{nat_tests}
use Rattle.machine_names.specs.declared.names.Kind.{Kind}
use Rattle.machine_names.specs.declared.names.Kind.TheVariants.{Read, Write, Execute}
use Rattle.machine_names.specs.declared.names.Slot.{Slot}
use Rattle.machine_names.specs.Orders.{FilePage}
use Rattle.page_homes.specs.declared.homes.Home.{Home}
use Rattle.page_contracts.specs.declared.answers.Touch.{Touch}
use Rattle.page_contracts.specs.declared.answers.Touch.TheVariants.{Ready, Zero, Copy, NeedFrame, Denied, Full}
use Rattle.page_contracts.specs.Pages.{SettlesTo, absent_or, can_settle, framed}
use Rattle.page_contracts.specs.Stores.{HomePlace, away_at, here, is_taken, place}
use Rattle.pager_walk.specs.declared.chain_walk.Walked.{Walked}
use Rattle.pager_walk.specs.declared.chain_walk.Walked.TheVariants.{Along}
use Rattle.fork_maps.specs.ChainWalks.{allows_along, copy_for}
use Rattle.pager_walk.specs.Walks.{Way, WayStands, walk_at}
use Rattle.pager_walk.specs.declared.paged_entry.Looked.{Looked}
use Rattle.pager_walk.specs.declared.paged_entry.Looked.TheVariants.{Is, Absent, Missing, Refused}
use Rattle.pager_walk.specs.declared.paged_entry.PagedEntry.TheVariants.{Empty, Page, Follows}
use Rattle.pager_walk.specs.PagedMaps.{look_at, name_at}
use Rattle.pager_walk.proofs.Looking.{taken_map}
use Rattle.flat_pages.proofs.Settled.{can_copying, copying}
use Rattle.paged_tables.specs.PagedTables.{AreKept, Beside}
use Rattle.paged_tables.specs.PagedTouches.{alone_at, alone_in, copy_touched, file_touched, has_one_name, made_touched, roomy, scene_over, walk_touched}
use Rattle.paged_tables.proofs.ReadyHomes.{words_here}
use Rattle.paged_tables.proofs.WalksSet.{Copied, page_marked}

-- a reference that makes a copy writes
pub only_write : (kind : Kind) (w : Way) (m : Slot) → copy_for kind w ≡ Some m → (kind ≡ Write) × (w.copy ≡ Some m)
only_write Read w m e = absurd (cc e)
only_write Execute w m e = absurd (cc e)
only_write Write w m e = (refl, e)

-- a page is there that needs no copy; a zero page has to be made; or a copy
pub record IsReady (b : Beside) (places : List HomePlace) (frames : ℕ) (kind : Kind) (w : Way) (h : Home) : Type 0 where
  pub is : walk_touched b places frames kind (Along w) ≡ Ready
  pub near : away_at places h.0 ≡ None

pub record IsZero (b : Beside) (places : List HomePlace) (frames : ℕ) (kind : Kind) (w : Way) : Type 0 where
  pub is : walk_touched b places frames kind (Along w) ≡ Zero
  pub room : roomy b 1 ≡ true
  pub frame : 0 < frames
  pub copy : (m : Slot) → copy_for kind w ≡ Some m → roomy b 2 ≡ true

pub record IsCopy (b : Beside) (places : List HomePlace) (frames : ℕ) (kind : Kind) (w : Way) (h : Home) (m : Slot) : Type 0 where
  pub is : walk_touched b places frames kind (Along w) ≡ Copy (alone_at b places m)
  pub near : away_at places h.0 ≡ None
  pub room : alone_at b places m ≡ false → roomy b 1 ≡ true
  pub frame : alone_at b places m ≡ false → 0 < frames

module _ (b : Beside) (places : List HomePlace) (frames : ℕ) (kind : Kind) (w : Way) (ready : can_settle (walk_touched b places frames kind (Along w)) ≡ true) where
  abbrev made : Touch
  made = made_touched (away_at places) b (scene_over b places frames) w.home (option_map (alone_at b places) (copy_for kind w))

  pub permitted : allows_along kind w ≡ true
  permitted = by (allows_along kind w) ready
    where
      by : (a : Bool) → can_settle (cond a made (Denied kind)) ≡ true → a ≡ true
      by true k = refl
      by false k = absurd (cc k)

  made_is : walk_touched b places frames kind (Along w) ≡ made
  made_is = ap (λ a. cond a made (Denied kind)) permitted

  can : can_settle made ≡ true
  can = sym (ap can_settle made_is) ∙ ready

  above : (n : ℕ) → nat_lt 0 n ≡ true → 0 < n
  above n e = grind (arith, nat_tests, e)

  abbrev Made : Option Home → Option Slot → Touch
  Made home copy = made_touched (away_at places) b (scene_over b places frames) home (option_map (alone_at b places) copy)

  two_is_one : roomy b 2 ≡ true → roomy b 1 ≡ true
  two_is_one e = grind (arith, nat_tests, e)

  pub is_ready : (h : Home) → w.home ≡ Some h → copy_for kind w ≡ None → IsReady b places frames kind w h
  is_ready h home none =
      let same : made ≡ Made (Some h) None = λ i. Made (home i) (none i) in
      let near = by (away_at places h.0) (sym (ap can_settle same) ∙ can) in
      record { is = made_is ∙ same ∙ ap (λ o. absent_or o Ready) near; near = near }
    where
      by : (o : Option ℕ) → can_settle (absent_or o Ready) ≡ true → o ≡ None
      by None k = refl
      by (Some x) k = absurd (cc k)

  both_true : (r f : Bool) → can_settle (cond r (cond f Zero NeedFrame) Full) ≡ true → (r ≡ true) × (f ≡ true)
  both_true true true e = (refl, refl)
  both_true true false e = absurd (cc e)
  both_true false f e = absurd (cc e)

  pub is_zero : w.home ≡ None → IsZero b places frames kind w
  is_zero home = by (copy_for kind w) refl
    where
      by : (o : Option Slot) → copy_for kind w ≡ o → IsZero b places frames kind w
      by None none =
          let same : made ≡ Made None None = λ i. Made (home i) (none i) in
          let r = both_true (roomy b 1) (nat_lt 0 frames) (sym (ap can_settle same) ∙ can) in
          record {
            is = made_is ∙ same ∙ (λ i. cond (r.0 i) (cond (r.1 i) Zero NeedFrame) Full);
            room = r.0;
            frame = above frames r.1;
            copy = λ m e. absurd (let z : None ≡ Some m = sym none ∙ e in cc z);
          }
      by (Some m) some =
          let same : made ≡ Made None (Some m) = λ i. Made (home i) (some i) in
          let r = both_true (roomy b 2) (nat_lt 0 frames) (sym (ap can_settle same) ∙ can) in
          record {
            is = made_is ∙ same ∙ (λ i. cond (r.0 i) (cond (r.1 i) Zero NeedFrame) Full);
            room = two_is_one r.0;
            frame = above frames r.1;
            copy = λ n e. r.0;
          }

  copying_is : (o : Option ℕ) (alone : Bool) → copy_touched b (scene_over b places frames) o alone ≡ copying o alone (roomy b 1) (nat_lt 0 frames)
  copying_is o true = refl
  copying_is o false = refl

  pub is_copy : (h : Home) (m : Slot) → w.home ≡ Some h → copy_for kind w ≡ Some m → IsCopy b places frames kind w h m
  is_copy h m home some =
      let alone = alone_at b places m in
      let same : made ≡ copying (away_at places h.0) alone (roomy b 1) (nat_lt 0 frames) = (λ i. Made (home i) (some i)) ∙ copying_is (away_at places h.0) alone in
      let k = can_copying (away_at places h.0) alone (roomy b 1) (nat_lt 0 frames) (sym (ap can_settle same) ∙ can) in
      record { is = made_is ∙ same ∙ k.is; near = k.none; room = k.room; frame = λ shared. above frames (k.frame shared) }

-- once a copy stands where the mark was
pub copied_ready : (b : Beside) (places : List HomePlace) (frames : ℕ) (x : Walked) (h : Home) → Copied x h → away_at places h.0 ≡ None → walk_touched b places frames Write x ≡ Ready
copied_ready b places frames x h c near =
    ap (walk_touched b places frames Write) c.is
    ∙ (λ i. cond (c.writes i) (made_touched (away_at places) b (scene_over b places frames) (c.home i) (option_map (alone_at b places) (c.copy i))) (Denied Write))
    ∙ ap (λ o. absent_or o Ready) near

-- once a zero page stands at the end
module _ (b b' : Beside) (places places' : List HomePlace) (frames frames' : ℕ) (kind : Kind) (w : Way) (ready : can_settle (walk_touched b places frames kind (Along w)) ≡ true) (h : Home) (near : away_at places' h.0 ≡ None) (room : roomy b 2 ≡ true → roomy b' 1 ≡ true)
    (zero : IsZero b places frames kind w) where
  abbrev filled : Way
  filled = record w { home = Some h }

  allows_same : (k : Kind) → allows_along k filled ≡ allows_along k w
  allows_same Read = refl
  allows_same Write = refl
  allows_same Execute = refl

  copy_same : (k : Kind) → copy_for k filled ≡ copy_for k w
  copy_same Read = refl
  copy_same Write = refl
  copy_same Execute = refl

  abbrev Then : Option Slot → Touch
  Then o = made_touched (away_at places') b' (scene_over b' places' frames') (Some h) (option_map (alone_at b' places') o)

  in_frame : (c : Bool) → SettlesTo Zero (cond c (Copy false) NeedFrame)
  in_frame true = inr (inl (false, refl))
  in_frame false = inr (inr refl)

  copies_then : (alone : Bool) → roomy b' 1 ≡ true → SettlesTo Zero (copy_touched b' (scene_over b' places' frames') None alone)
  copies_then true k = inr (inl (true, refl))
  copies_then false k = subst (λ c. SettlesTo Zero (cond c (framed (scene_over b' places' frames') (Copy false)) Full)) (sym k) (in_frame (nat_lt 0 frames'))

  then_is : (o : Option Slot) → copy_for kind w ≡ o → SettlesTo Zero (Then o)
  then_is None e = inl (ap (λ o. absent_or o Ready) near)
  then_is (Some m) e = subst (λ o. SettlesTo Zero (copy_touched b' (scene_over b' places' frames') o (alone_at b' places' m))) (sym near) (copies_then (alone_at b' places' m) (room (zero.copy m e)))

  pub zero_then : (x : Walked) → x ≡ Along filled → SettlesTo Zero (walk_touched b' places' frames' kind x)
  zero_then x is =
      subst (λ (y : Walked). SettlesTo Zero (walk_touched b' places' frames' kind y)) (sym is)
      (subst (λ a. SettlesTo Zero (cond a (Then (copy_for kind filled)) (Denied kind))) (sym (allows_same kind ∙ permitted b places frames kind w ready))
      (subst (λ (o : Option Slot). SettlesTo Zero (Then o)) (sym (copy_same kind)) (then_is (copy_for kind w) refl)))

-- a page of a file that can be settled is there, or has to be made
pub record IsFileZero (b : Beside) (places : List HomePlace) (frames : ℕ) (kind : Kind) : Type 0 where
  pub is : file_touched (away_at places) b (scene_over b places frames) kind None ≡ Zero
  pub writes : kind ≡ Write
  pub room : roomy b 1 ≡ true
  pub frame : 0 < frames

module _ (b : Beside) (places : List HomePlace) (frames : ℕ) where
  some_frame : (n : ℕ) → nat_lt 0 n ≡ true → 0 < n
  some_frame n e = grind (arith, nat_tests, e)

  pub file_zero : (kind : Kind) → can_settle (file_touched (away_at places) b (scene_over b places frames) kind None) ≡ true → IsFileZero b places frames kind
  file_zero Read e = absurd (cc e)
  file_zero Execute e = absurd (cc e)
  file_zero Write e = by (roomy b 1) (nat_lt 0 frames) refl refl e
    where
      by : (r f : Bool) → roomy b 1 ≡ r → nat_lt 0 frames ≡ f → can_settle (cond r (cond f Zero NeedFrame) Full) ≡ true → IsFileZero b places frames Write
      by true true room some k = record { is = (λ i. cond (room i) (cond (some i) Zero NeedFrame) Full); writes = refl; room = room; frame = some_frame frames some }
      by true false room some k = absurd (cc k)
      by false f room some k = absurd (cc k)

  pub file_ready : (kind : Kind) (h : Home) → can_settle (file_touched (away_at places) b (scene_over b places frames) kind (Some h)) ≡ true → (file_touched (away_at places) b (scene_over b places frames) kind (Some h) ≡ Ready) × (away_at places h.0 ≡ None)
  file_ready kind h = by (away_at places h.0) refl
    where
      by : (o : Option ℕ) → away_at places h.0 ≡ o → can_settle (absent_or o Ready) ≡ true → (absent_or (away_at places h.0) Ready ≡ Ready) × (away_at places h.0 ≡ None)
      by None near e = (ap (λ x. absent_or x Ready) near, near)
      by (Some x) near e = absurd (cc e)

-- a home that has a name is taken
pub named_taken : (b : Beside) (places : List HomePlace) → AreKept b places → (h : ℕ) → is_some (name_at b.tables.names h) ≡ true → is_taken (place places h) ≡ true
named_taken b places kept h named = sym (taken_map places h) ∙ kept.rooted.named h named

-- the page at the end of a chain that is used, or copied, is in a frame
module _ (b : Beside) (places : List HomePlace) (kept : AreKept b places) (frames : ℕ) (kind : Kind) (w : Way) (stands : WayStands b.tables places w) (ready : can_settle (walk_touched b places frames kind (Along w)) ≡ true) (h : Home) (home : w.home ≡ Some h) where
  taken : is_taken (place places h.0) ≡ true
  taken = named_taken b places kept h.0 (stands.named h home)

  pub used_here : copy_for kind w ≡ None → (words : List ℕ) × (place places h.0 ≡ here words)
  used_here none = words_here places h.0 taken (is_ready b places frames kind w ready h home none).near

  pub copied_here : (m : Slot) → copy_for kind w ≡ Some m → (words : List ℕ) × (place places h.0 ≡ here words)
  copied_here m some = words_here places h.0 taken (is_copy b places frames kind w ready h m home some).near

-- so is the page that a file names; and where it names none a zero page can be made
module _ (b : Beside) (places : List HomePlace) (kept : AreKept b places) (frames : ℕ) (kind : Kind) (f : FilePage ℕ) (ready : can_settle (file_touched (away_at places) b (scene_over b places frames) kind (fin.get b.files f)) ≡ true) where
  abbrev Touched : Option Home → Touch
  Touched = file_touched (away_at places) b (scene_over b places frames) kind

  pub filed_ready : (h : Home) → fin.get b.files f ≡ Some h → Touched (fin.get b.files f) ≡ Ready
  filed_ready h there = ap Touched there ∙ (file_ready b places frames kind h (ap (λ o. can_settle (Touched o)) (sym there) ∙ ready)).0

  pub filed_here : (h : Home) → fin.get b.files f ≡ Some h → (words : List ℕ) × (place places h.0 ≡ here words)
  filed_here h there = words_here places h.0 (named_taken b places kept h.0 (kept.filed f h there)) (file_ready b places frames kind h (ap (λ o. can_settle (Touched o)) (sym there) ∙ ready)).1

  pub filed_zero : fin.get b.files f ≡ None → IsFileZero b places frames kind
  filed_zero none = file_zero b places frames kind (ap (λ o. can_settle (Touched o)) (sym none) ∙ ready)

-- an entry with the mark that is the only name of its page names that at the end
pub alone_one : (b : Beside) (places : List HomePlace) (s : Slot) (w : Way) (m : Slot) (h : Home) → walk_at b.tables places s ≡ Along w → w.copy ≡ Some m → w.home ≡ Some h → alone_at b places m ≡ true → has_one_name b h.0 ≡ true
alone_one b places s w m h walks some home = by (look_at b.tables places m) refl
  where
    by : (l : Looked) → look_at b.tables places m ≡ l → alone_in b l ≡ true → has_one_name b h.0 ≡ true
    by (Is Empty) l e = absurd (cc e)
    by (Is (Page g a)) l e = let same : g ≡ h = (let z : Some g ≡ Some h = sym (page_marked b.tables places s w m g a l walks some) ∙ home in cc z) in subst (λ (x : Home). has_one_name b x.0 ≡ true) same e
    by (Is (Follows serial page a)) l e = absurd (cc e)
    by (Absent home) l e = absurd (cc e)
    by Missing l e = absurd (cc e)
    by Refused l e = absurd (cc e)
