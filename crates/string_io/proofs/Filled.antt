-- A page of a file that is to be written, behind references of a fork.
use Rattle.std.proofs.Common.{◌≡◌, ℕ, ◌+◌, ◌-◌, ◌≤◌, Bool, true, false, cond, List, [], ◌∷◌, Option, None, Some, refl, sym, ◌∙◌, ap, arith}
use Rattle.std.specs.Prelude.{⊤, Ok, Err, IsSome, nat_le, nat_lt}
use Rattle.std.specs.Ordering.{nat_cmp}
use Rattle.std.specs.Cmp.{nat_cmp_total}
use Rattle.std.specs.FinMap as map
use Rattle.std.proofs.lemmas.Bool.Decides.{nat_tests}
use Rattle.machine_names.specs.Bounds.{IsOwner}
use Rattle.machine_names.specs.declared.names.PageName.{PageName}
use Rattle.machine_names.specs.declared.names.Tty.{Tty}
use Rattle.machine_names.specs.declared.names.Kind.TheVariants.{Write}
use Rattle.machine_names.specs.Orders.{FilePage}
use Rattle.page_contracts.specs.declared.answers.Need.TheVariants as need
use Rattle.page_contracts.specs.declared.answers.Touch.TheVariants.{Ready, Zero, NeedFrame, Absent}
use Rattle.page_contracts.specs.declared.store.Room.TheVariants as room
use Rattle.page_contracts.specs.Pages.{Scene, absent_or, can_settle, room_for, touch_of}
use Rattle.page_homes.specs.declared.homes.Home.{Home}
use Rattle.page_contracts.proofs.Rooms.{room_blank}
use Rattle.page_gather.specs.Gathering.{Gathering, Gathers, after_all, left_by, left_of, most_framed, referred_to}
use Rattle.page_gather.specs.declared.reference.PageReference.{PageReference}
use Rattle.plain_pages.specs.PlainPages.{NumberedPages}
use Rattle.plain_pages.specs.Room.{HasRoom, live}
use Rattle.plain_pages.specs.References.{Referred, denied, full, granted, in_file, makings, page_at, settled}
use Rattle.plain_pages.proofs.FileWrites.{filled, written_absent, written_there}
use Rattle.plain_pages.proofs.Refiled.{reference_leaves}
use Rattle.plain_units.specs.declared.channel.TheConstants.{DRUM_FULL}
use Rattle.call_turns.specs.Telling.{need_in}
use Rattle.ka10_unit.specs.declared.taken.Stop.TheVariants.{Trap, Need}
use Rattle.ka10_unit.specs.Gathers.{Framed}
use Rattle.text_pointers.specs.Needing.{frames_left}
use Rattle.string_io.specs.Filling.{FillsAs}

-- references to pages of forks leave what files name
pub files_after : (rs : List PageReference) (p : NumberedPages) (owner : Tty) → (after_all p owner rs).files ≡ p.files
unfolding after_all
files_after [] p owner = refl
files_after (r ∷ rs) p owner = files_after rs (left_by p (referred_to p owner r)) owner ∙ by (referred_to p owner r) refl
  where
    by : (x : Referred nat_cmp) → referred_to p owner r ≡ x → (left_by p x).files ≡ p.files
    by (granted q) is = reference_leaves owner p q r.slot r.kind is
    by (denied k) is = refl
    by full is = refl

module _ (q : NumberedPages) (owner : Tty) (f : FilePage ℕ) where
  -- a page that is there is as it was
  module _ (n : PageName) (there : map.get q.files f ≡ Some n) where
    settled_there : settled q (in_file f) Write owner ≡ q
    unfolding settled makings
    settled_there = rw there refl

    pub touch_there : (scene : Scene) → touch_of q scene (in_file f) Write owner ≡ absent_or (scene.page_away n) Ready
    unfolding touch_of makings page_at
    touch_there scene = rw (written_there q owner f n there, there) refl

  -- one that isn't is made
  module _ (none : map.get q.files f ≡ None) where
    settled_absent : settled q (in_file f) Write owner ≡ filled q owner f
    unfolding settled makings
    settled_absent = rw none refl

    touch_room : (scene : Scene) → HasRoom (filled q owner f) owner ≡ true → touch_of q scene (in_file f) Write owner ≡ cond (nat_lt 0 scene.free_frames) Zero NeedFrame
    unfolding touch_of makings page_at
    touch_room scene fits = rw (written_absent q owner f none, fits, none) refl

module _ (p : Framed) (owner : Tty) (own : IsOwner owner) (g : Gathering) (h : Gathers p.pages p.scene g) (f : FilePage ℕ) where
  abbrev q : NumberedPages
  q = left_of p.pages g

  same_files : map.get q.files f ≡ map.get p.pages.files f
  same_files = ap (λ files. map.get files f) (files_after g.references p.pages g.owner)

  module _ (n : PageName) (there : map.get p.pages.files f ≡ Some n) where
    here : map.get q.files f ≡ Some n
    here = same_files ∙ there

    -- it is in a frame
    pub there_fills : (x : ⊤) → p.scene.page_away n ≡ None → FillsAs p q owner f (Ok x)
    there_fills x near = (
      written_there q owner f n here ∙ ap granted (sym (settled_there q owner f n here)),
      λ after away framed. ap can_settle (touch_there q owner f n here after ∙ ap (λ (o : Option ℕ). absent_or o Ready) (ap (λ pages. pages n) away ∙ near)),
    )

    -- or it isn't
    pub there_needs : (home : ℕ) → p.scene.page_away n ≡ Some home → FillsAs p q owner f (Err (Need (need.Page (record { 0 = home }))))
    there_needs home away = ap need_in (touch_there q owner f n here (frames_left p.scene p.pages q) ∙ ap (λ (o : Option ℕ). absent_or o Ready) away)

  module _ (none : map.get p.pages.files f ≡ None) where
    gone : map.get q.files f ≡ None
    gone = same_files ∙ none

    has_room : HasRoom (filled q owner f) owner ≡ nat_le (live p.pages + g.homes + 1) p.pages.limit
    has_room = room_blank nat_cmp_total q h.changed.whole owner own (in_file f) gone ∙ (λ i. nat_le (h.changed.count i + 1) (h.changed.limit i))

    fits_in : live p.pages + (g.homes + 1) ≤ p.pages.limit → HasRoom (filled q owner f) owner ≡ true
    fits_in few = has_room ∙ by few
      where
        by : live p.pages + (g.homes + 1) ≤ p.pages.limit → nat_le (live p.pages + g.homes + 1) p.pages.limit ≡ true
        by k = grind (arith, nat_tests, k)

    too_many : (live p.pages + (g.homes + 1) ≤ p.pages.limit → ⊥) → HasRoom (filled q owner f) owner ≡ false
    too_many more = has_room ∙ by more
      where
        by : (live p.pages + (g.homes + 1) ≤ p.pages.limit → ⊥) → nat_le (live p.pages + g.homes + 1) p.pages.limit ≡ false
        by k = grind (arith, nat_tests, k)

    -- there is room and a frame for it
    pub made_fills : (x : ⊤) → live p.pages + (g.homes + 1) ≤ p.pages.limit → g.homes + 1 ≤ p.scene.free_frames → FillsAs p q owner f (Ok x)
    made_fills x few frames = (
      written_absent q owner f gone ∙ ap (λ b. cond b (granted (filled q owner f)) full) (fits_in few) ∙ ap granted (sym (settled_absent q owner f gone)),
      λ after away framed. ap can_settle (touch_room q owner f gone after (fits_in few) ∙ ap (λ b. cond b Zero NeedFrame) (free after.free_frames framed h.changed.count)),
    )
      where
        free : (k : ℕ) → live q + k ≡ most_framed p.pages p.scene → live q ≡ live p.pages + g.homes → nat_lt 0 k ≡ true
        free k framed count = let some : 1 ≤ k = omega (arith, framed, count, frames) in grind (arith, nat_tests, some)

    -- there is room, and no frame
    pub made_needs : live p.pages + (g.homes + 1) ≤ p.pages.limit → (g.homes + 1 ≤ p.scene.free_frames → ⊥) → FillsAs p q owner f (Err (Need need.Frame))
    made_needs few frames = ap need_in (touch_room q owner f gone (frames_left p.scene p.pages q) (fits_in few) ∙ ap (λ b. cond b Zero NeedFrame) (none_free h.changed.count))
      where
        none_free : live q ≡ live p.pages + g.homes → nat_lt 0 (live p.pages + p.scene.free_frames - live q) ≡ false
        none_free count = let zero : live p.pages + p.scene.free_frames - live q ≡ 0 = omega (arith, count, frames) in grind (arith, nat_tests, zero)

    -- there is none
    pub made_full : (live p.pages + (g.homes + 1) ≤ p.pages.limit → ⊥) → FillsAs p q owner f (Err (Trap DRUM_FULL))
    made_full more = (refl, written_absent q owner f gone ∙ ap (λ b. cond b (granted (filled q owner f)) full) (too_many more))

-- what an answer says of the room
pub room_enough : (l m k n : ℕ) → room.Enough ≡ room_for l m k n → (l + n ≤ m) × (n ≤ k)
room_enough l m k n h = by (nat_le (l + n) m) (nat_le n k) refl refl h
  where
    most : (a b : ℕ) → nat_le a b ≡ true → a ≤ b
    most a b is = grind (arith, nat_tests, is)

    by : (b c : Bool) → nat_le (l + n) m ≡ b → nat_le n k ≡ c → room.Enough ≡ cond b (cond c room.Enough room.NeedFrame) room.Full → (l + n ≤ m) × (n ≤ k)
    by true true x y e = (most (l + n) m x, most n k y)
    by true false x y e = absurd (cc e)
    by false c x y e = absurd (cc e)

pub room_frames : (l m k n : ℕ) → room.NeedFrame ≡ room_for l m k n → (l + n ≤ m) × (n ≤ k → ⊥)
room_frames l m k n h = by (nat_le (l + n) m) (nat_le n k) refl refl h
  where
    most : (a b : ℕ) → nat_le a b ≡ true → a ≤ b
    most a b is = grind (arith, nat_tests, is)

    not_most : (a b : ℕ) → nat_le a b ≡ false → a ≤ b → ⊥
    not_most a b is few = absurd (let no : true ≡ false = sym (ap (λ x. x) (at_most a b few)) ∙ is in cc no)
      where
        at_most : (x y : ℕ) → x ≤ y → nat_le x y ≡ true
        at_most x y k = grind (arith, nat_tests, k)

    by : (b c : Bool) → nat_le (l + n) m ≡ b → nat_le n k ≡ c → room.NeedFrame ≡ cond b (cond c room.Enough room.NeedFrame) room.Full → (l + n ≤ m) × (n ≤ k → ⊥)
    by true true x y e = absurd (cc e)
    by true false x y e = (most (l + n) m x, not_most n k y)
    by false c x y e = absurd (cc e)

pub room_full : (l m k n : ℕ) → room.Full ≡ room_for l m k n → l + n ≤ m → ⊥
room_full l m k n h few = by (nat_le (l + n) m) (nat_le n k) (at_most (l + n) m few) h
  where
    at_most : (x y : ℕ) → x ≤ y → nat_le x y ≡ true
    at_most x y le = grind (arith, nat_tests, le)

    by : (b c : Bool) → b ≡ true → room.Full ≡ cond b (cond c room.Enough room.NeedFrame) room.Full → ⊥
    by true true x e = cc e
    by true false x e = cc e
    by false c x e = cc x

-- what a touch of a page that is there says of it
pub is_away : (o : Option ℕ) (home : ℕ) → Absent (record { 0 = home }) ≡ absent_or o Ready → o ≡ Some home
is_away None home h = absurd (cc h)
is_away (Some other) home h = let same : ◌≡◌ {A = Home} (record { 0 = home }) (record { 0 = other }) = cc h in ap Some (sym (ap (λ (x : Home). x.0) same))

pub is_near : (o : Option ℕ) → ((home : ℕ) → o ≡ Some home → ⊥) → o ≡ None
is_near None far = refl
is_near (Some home) far = absurd (far home refl)

pub some_of : {A : Type 0} (o : Option A) → IsSome o → (x : A) × (o ≡ Some x)
some_of None h = absurd (cc h)
some_of (Some x) h = (x, refl)
