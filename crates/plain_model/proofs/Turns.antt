-- What the turn of a call comes to, by its first step; and that it does not depend on what files are known by.
use Rattle.std.proofs.Common.{◌≡◌, ℕ, Bool, true, false, cond, List, Option, None, Some, refl, sym, ◌∙◌, ap, subst, arith, Ordering}
use Rattle.std.specs.Prelude.{◌&&◌, is_some, slice_index}
use Rattle.std.specs.Option.{option_map, option_map_or, option_and_then}
use Rattle.std.specs.Ordering.{is_eq, eq_by_cmp, nat_cmp, ordering_then}
use Rattle.std.specs.Cmp.{IsTotalOrder, Equal-is}
use Rattle.std.specs.declared.cmp.Ordering.TheVariants.{Less, Equal, Greater}
use Rattle.std.specs.FinMap as map
use Rattle.plain_model.specs.declared.call.End.{End}
use Rattle.plain_model.specs.declared.call.End.TheVariants.{Done, Waits, Halts, Refused, Failed, Trap}
use Rattle.plain_units.specs.declared.channel.TheConstants.{ILLEGAL_INSTRUCTION}
use Rattle.machine_names.specs.declared.names.ForkName.{ForkName}
use Rattle.machine_names.specs.declared.names.PageName.{PageName}
use Rattle.plain_pages.specs.declared.map.MapEntry.{MapEntry}
use Rattle.plain_pages.specs.declared.map.NewMap.{NewMap}
use Rattle.plain_units.specs.declared.registers.Regs.{Regs}
use Rattle.plain_pages.specs.PlainPages.{PlainPages, refiled}
use Rattle.machine_names.specs.Orders.{FilePage, file_page_cmp}
use Rattle.machine_names.specs.PageWords.{zero_words}
use Rattle.machine_names.specs.declared.names.Kind.TheVariants.{Read, Write, Execute}
use Rattle.machine_names.proofs.OrderLemmas.{file_page_total, file_page_apart}
use Rattle.plain_pages.specs.Room.{HasRoom}
use Rattle.plain_pages.specs.References.{Spot, Referred, granted, denied, full, blank, in_map, in_file, in_its_file, make, make_all, makings, next_page, page_at, reference, word_at, words_of}
use Rattle.plain_pages.specs.NewMaps.{with_map}
use Rattle.plain_units.specs.Steps.{Steps, Ending, Planned, done, call, trap, need, stopped, begun, pages_left}
use Rattle.plain_model.specs.declared.call.Touched.{Touched}
use Rattle.plain_model.specs.declared.call.Touched.TheVariants.{Granted, Denied, Full}
use Rattle.machine_names.specs.declared.names.Tty.{Tty}
use Rattle.machine_names.specs.declared.names.Slot.{Slot}
use Rattle.machine_names.specs.declared.names.Kind.{Kind}
use Rattle.plain_model.specs.Calls.{Turn, sees, finds, reads, touches, takes, adds, looks, makes, ends, Sight, Came, entry_of, spot_of, stepped, touched, with_added, turn_on}
use Rattle.plain_units.specs.Blocks.{steps_on}
use Rattle.plain_units.proofs.PageRuns.{PlanLeaves}
use Rattle.plain_pages.proofs.Counts.{total_insert}
use Rattle.plain_pages.proofs.Whole.{tally}
use Rattle.plain_pages.proofs.Refiled.{NameAlike, reference_leaves, reference_refiled, refiled_result, room_refiled}
use Rattle.plain_units.proofs.RefiledUnits.{LeavesFiles, left_leaves, left_refiled, refiled_plan, run_leaves, run_refiled, still_alike}

module _ {F C K : Type 0} {file_cmp : K → K → Ordering} (sight : Sight F K) (p : PlainPages file_cmp) (Holds : End C → PlainPages file_cmp → Type 0) where
  abbrev pub HoldsOf : Came file_cmp C → Type 0
  HoldsOf c = Holds c.end c.pages

  abbrev pub Comes : Turn F C → Type 0
  Comes t = HoldsOf (turn_on sight p t)

  -- steps go on, on pages of which this holds, or trap
  module _ (after : PlainPages file_cmp → Type 0) (f : ForkName) (regs : Regs) (steps : Steps) (next : Ending → Turn F C) where
    pub takes_comes : PlanLeaves after f (steps_on f regs steps p) → ((q : PlainPages file_cmp) (e : Ending) → after q → HoldsOf (turn_on sight q (next e))) → ((channel : ℕ) → Holds (Trap channel) p) → Comes (takes f regs steps next)
    unfolding turn_on
    takes_comes leaves goes traps = by (steps_on f regs steps p) leaves
      where
        by : (r : Planned file_cmp ⊥) → PlanLeaves after f r → HoldsOf (stepped f r (λ q e. turn_on sight q (next e)) (λ channel. record { end = Trap channel; pages = p }))
        by (done t e) holds = goes (pages_left f t e) e holds
        by (stopped (trap channel)) holds = traps channel
        by (stopped (need none)) holds = absurd none
        by (call number) holds = traps ILLEGAL_INSTRUCTION

  -- the map of a new fork is there, where there is room
  module _ (f : ForkName) (entries : NewMap) (next : Bool → Turn F C) where
    pub adds_comes : (HasRoom (with_map p f entries) f.tty ≡ true → HoldsOf (turn_on sight (with_map p f entries) (next true)))
        → (HasRoom (with_map p f entries) f.tty ≡ false → Comes (next false)) → Comes (adds f entries next)
    unfolding turn_on
    adds_comes some none = by (HasRoom (with_map p f entries) f.tty) refl
      where
        by : (b : Bool) → HasRoom (with_map p f entries) f.tty ≡ b → HoldsOf (turn_on sight (with_added p f entries b) (next b))
        by true is = some is
        by false is = none is

module _ {K L : Type 0} {file_cmp : K → K → Ordering} (other_cmp : L → L → Ordering) (files : map.FinMap (file_page_cmp other_cmp) PageName) where
  -- the same outcome, with the pages of files under other keys
  abbrev pub refiled_came : {C : Type 0} → Came file_cmp C → Came other_cmp C
  refiled_came c = record { end = c.end; pages = refiled other_cmp c.pages files }

-- a key of a turn stands for a file under both kinds of keys, and that has the same pages, or under neither
abbrev pub StandAlike : {K L : Type 0} {file_cmp : K → K → Ordering} (other_cmp : L → L → Ordering) → PlainPages file_cmp → map.FinMap (file_page_cmp other_cmp) PageName → Option K → Option L → Type 0
StandAlike other_cmp p files None None = Unit {0}
StandAlike other_cmp p files (Some k) (Some l) = (page : ℕ) → map.get files (record { file = l; page = page }) ≡ map.get p.files (record { file = k; page = page })
StandAlike other_cmp p files k l = ⊥

-- whether two keys of a turn stand for one file
abbrev pub stand_together : {K : Type 0} → (K → K → Ordering) → Option K → Option K → Bool
stand_together file_cmp (Some k) (Some l) = eq_by_cmp file_cmp k l
stand_together file_cmp k l = false

-- the order of two pairs ties where both of theirs do
tied_both : (a b : Ordering) → is_eq (ordering_then a b) ≡ (is_eq a && is_eq b)
tied_both Less b = refl
tied_both Equal b = refl
tied_both Greater b = refl

-- a turn that refers to no files but those of which this is known, and whose change is such, if it is done
abbrev pub KeepsEnd : {C : Type 0} → (C → Type 0) → End C → Type 0
KeepsEnd Allowed (Done change regs out post) = Allowed change
KeepsEnd Allowed e = Unit {0}

abbrev pub KnownSpot : {F : Type 0} → (F → Type 0) → Spot F → Type 0
KnownSpot Known (in_map s) = Unit {0}
KnownSpot Known (in_file f) = Known f.file

abbrev pub Keeps : {F C : Type 0} → (F → Type 0) → (C → Type 0) → Turn F C → Type 0
Keeps Known Allowed (sees s next) = (e : MapEntry) → Keeps Known Allowed (next e)
Keeps Known Allowed (finds at next) = KnownSpot Known at × ((n : Option PageName) → Keeps Known Allowed (next n))
Keeps Known Allowed (reads f offset next) = Known f.file × ((w : ℕ) → Keeps Known Allowed (next w))
Keeps Known Allowed (touches owner at kind next) = KnownSpot Known at × ((what : Touched) → Keeps Known Allowed (next what))
Keeps Known Allowed (takes f regs steps next) = (e : Ending) → Keeps Known Allowed (next e)
Keeps Known Allowed (adds f entries next) = (b : Bool) → Keeps Known Allowed (next b)
Keeps Known Allowed (looks name next) = (b : Bool) → Keeps Known Allowed (next b)
Keeps Known Allowed (makes name next) = (b : Bool) → Keeps Known Allowed (next b)
Keeps Known Allowed (ends e) = KeepsEnd Allowed e

-- any end is such, where any change is
pub ends_any : {C : Type 0} (e : End C) → KeepsEnd (λ c. Unit {0}) e
ends_any (Done change regs out post) = tt
ends_any (Waits on) = tt
ends_any Halts = tt
ends_any (Refused code) = tt
ends_any (Failed code) = tt
ends_any (Trap channel) = tt

-- a turn that knows no file refers to none
pub knows_none : {C : Type 0} (t : Turn ⊥ C) → Keeps (λ f. Unit {0}) (λ c. Unit {0}) t
knows_none (sees s next) = λ e. knows_none (next e)
knows_none (finds (in_map s) next) = (tt, λ n. knows_none (next n))
knows_none (finds (in_file f) next) = absurd f.file
knows_none (reads f offset next) = absurd f.file
knows_none (touches owner (in_map s) kind next) = (tt, λ what. knows_none (next what))
knows_none (touches owner (in_file f) kind next) = absurd f.file
knows_none (takes f regs steps next) = λ e. knows_none (next e)
knows_none (adds f entries next) = λ b. knows_none (next b)
knows_none (looks name next) = λ b. knows_none (next b)
knows_none (makes name next) = λ b. knows_none (next b)
knows_none (ends e) = ends_any e

module _ {F K L : Type 0} (file_cmp : K → K → Ordering) (other_cmp : L → L → Ordering) (Known : F → Type 0) (Filed : FilePage K → Type 0) (OtherFiled : FilePage L → Type 0) where
  -- two sights tell the same of which keys of known files stand together, which names there are and what room there is; where a turn
  -- knows a file, both kinds of keys are in order, and its pages are among those that may be there
  pub record TellAlike (one : Sight F K) (other : Sight F L) : Type 0 where
    pub together : (f g : F) → Known f → Known g → stand_together other_cmp (other.file_of f) (other.file_of g) ≡ stand_together file_cmp (one.file_of f) (one.file_of g)
    pub names : (name : List ℕ) → other.is_name name ≡ one.is_name name
    pub more : other.has_more ≡ one.has_more
    pub total : F → IsTotalOrder file_cmp
    pub other_total : F → IsTotalOrder other_cmp
    pub apart : F → map.IsAntisymmetric file_cmp
    pub other_apart : F → map.IsAntisymmetric other_cmp
    pub filed : (f : F) → Known f → (k : K) → one.file_of f ≡ Some k → (page : ℕ) → Filed (record { file = k; page = page })
    pub other_filed : (f : F) → Known f → (l : L) → other.file_of f ≡ Some l → (page : ℕ) → OtherFiled (record { file = l; page = page })

-- what holds of a page that is inserted and of all others holds of each
each_filed : {K : Type 0} {file_cmp : K → K → Ordering} → IsTotalOrder file_cmp → map.IsAntisymmetric file_cmp → (Filed : FilePage K → Type 0) (files : map.FinMap (file_page_cmp file_cmp) PageName) (here : FilePage K) (n : PageName)
    → Filed here → ((f : FilePage K) → map.contains_key files f ≡ true → Filed f) → (f : FilePage K) → map.contains_key (map.insert files here n) f ≡ true → Filed f
each_filed {file_cmp = file_cmp} o apart Filed files here n now old f there = by (eq_by_cmp (file_page_cmp file_cmp) f here) refl
  where
    by : (b : Bool) → eq_by_cmp (file_page_cmp file_cmp) f here ≡ b → Filed f
    by true is = subst Filed (sym (file_page_apart apart f here ((Equal-is (file_page_cmp file_cmp f here)).0 is))) now
    by false is = old f (sym (ap (λ b. is_some (cond b (Some n) (map.get files f))) is) ∙ sym (ap is_some (map.get-insert (file_page_total o) files here n f)) ∙ there)

module _ {F K L : Type 0} {file_cmp : K → K → Ordering} (other_cmp : L → L → Ordering) (Known : F → Type 0) (Filed : FilePage K → Type 0) (OtherFiled : FilePage L → Type 0) (one : Sight F K) (other : Sight F L)
    (like : TellAlike file_cmp other_cmp Known Filed OtherFiled one other) where
  -- the pages of known files under other keys are the same, and no page is there but those that may be
  pub record AreAlike (p : PlainPages file_cmp) (files : map.FinMap (file_page_cmp other_cmp) PageName) : Type 0 where
    pub names : NameAlike other_cmp p files
    pub stand : (f : F) → Known f → StandAlike other_cmp p files (one.file_of f) (other.file_of f)
    pub filed : (f : FilePage K) → map.contains_key p.files f ≡ true → Filed f
    pub other_filed : (f : FilePage L) → map.contains_key files f ≡ true → OtherFiled f

  module _ (p : PlainPages file_cmp) (files : map.FinMap (file_page_cmp other_cmp) PageName) (alike : AreAlike p files) where
    abbrev rekeyed : PlainPages other_cmp
    rekeyed = refiled other_cmp p files

    -- pages with the same files
    still : (q : PlainPages file_cmp) → q.files ≡ p.files → AreAlike q files
    still q same = record {
      names = still_alike other_cmp files p q alike.names same;
      stand = λ f known. subst (λ (x : map.FinMap (file_page_cmp file_cmp) PageName). StandAlike other_cmp (record q { files = x }) files (one.file_of f) (other.file_of f)) (sym same) (alike.stand f known);
      filed = λ f there. alike.filed f (ap (λ (x : map.FinMap (file_page_cmp file_cmp) PageName). map.contains_key x f) (sym same) ∙ there);
      other_filed = alike.other_filed;
    }

    -- the page of a spot
    found_same : (at : Spot F) → KnownSpot Known at → option_and_then (page_at rekeyed) (spot_of other at) ≡ option_and_then (page_at p) (spot_of one at)
    unfolding page_at
    found_same (in_map s) known = refl
    found_same (in_file f) known = by (one.file_of f.file) (other.file_of f.file) (alike.stand f.file known)
      where
        by : (a : Option K) (b : Option L) → StandAlike other_cmp p files a b
            → option_and_then (page_at rekeyed) (option_map (λ l. in_file (record { file = l; page = f.page })) b) ≡ option_and_then (page_at p) (option_map (λ k. in_file (record { file = k; page = f.page })) a)
        by None None h = refl
        by (Some k) (Some l) h = h f.page
        by None (Some l) h = absurd h
        by (Some k) None h = absurd h

    -- and the word at an offset of it
    word_same : (f : FilePage F) (offset : ℕ) → Known f.file → option_map_or (λ at. word_at rekeyed at offset) (spot_of other (in_file f)) 0 ≡ option_map_or (λ at. word_at p at offset) (spot_of one (in_file f)) 0
    unfolding page_at
    word_same f offset known = by (one.file_of f.file) (other.file_of f.file) (alike.stand f.file known)
      where
        by : (a : Option K) (b : Option L) → StandAlike other_cmp p files a b
            → option_map_or (λ at. word_at rekeyed at offset) (option_map (λ l. in_file (record { file = l; page = f.page })) b) 0
            ≡ option_map_or (λ at. word_at p at offset) (option_map (λ k. in_file (record { file = k; page = f.page })) a) 0
        by None None h = refl
        by (Some k) (Some l) h = ap (λ n. slice_index (option_map_or (words_of p) n zero_words) offset) (h f.page)
        by None (Some l) h = absurd h
        by (Some k) None h = absurd h

  module _ {C : Type 0} (Allowed : C → Type 0) where
    -- one outcome is the other with the pages of files under other keys, which are the same still; and it is such as may be
    abbrev pub Agree : Came file_cmp C → Came other_cmp C → Type 0
    Agree c d = (d ≡ refiled_came other_cmp d.pages.files c) × AreAlike c.pages d.pages.files × KeepsEnd Allowed c.end

    -- wherever files are the same a turn comes out the same
    abbrev pub ComesSame : Turn F C → Type 0
    ComesSame t = (p : PlainPages file_cmp) (files : map.FinMap (file_page_cmp other_cmp) PageName) → AreAlike p files → Agree (turn_on one p t) (turn_on other (refiled other_cmp p files) t)

    module _ (p : PlainPages file_cmp) (files : map.FinMap (file_page_cmp other_cmp) PageName) (alike : AreAlike p files) where
      -- what a reference comes to, and a turn that goes on with that
      module _ (next : Touched → Turn F C) (rest : (what : Touched) → ComesSame (next what)) where
        abbrev goes_on : Referred file_cmp → Came file_cmp C
        goes_on r = touched p r (λ q what. turn_on one q (next what))

        abbrev other_goes_on : Referred other_cmp → Came other_cmp C
        other_goes_on r = touched (refiled other_cmp p files) r (λ q what. turn_on other q (next what))

        touched_same : (owner : Tty) (s : Slot) (kind : Kind) → Agree (goes_on (reference p (in_map s) kind owner)) (other_goes_on (reference (refiled other_cmp p files) (in_map s) kind owner))
        touched_same owner s kind = subst (λ r. Agree (goes_on (reference p (in_map s) kind owner)) (other_goes_on r)) (sym (reference_refiled other_cmp files owner p s kind alike.names)) (by (reference p (in_map s) kind owner) refl)
          where
            by : (r : Referred file_cmp) → reference p (in_map s) kind owner ≡ r → Agree (goes_on r) (other_goes_on (refiled_result other_cmp r files))
            by (granted q) is = rest Granted q files (still p files alike q (reference_leaves owner p q s kind is))
            by (denied k) is = rest Denied p files alike
            by full is = rest Full p files alike

        -- a page of a file that is referred to
        module _ (owner : Tty) (f : FilePage F) (known : Known f.file) (k : K) (l : L) (one_is : one.file_of f.file ≡ Some k) (other_is : other.file_of f.file ≡ Some l) where
          abbrev here : FilePage K
          here = record { file = k; page = f.page }

          abbrev there : FilePage L
          there = record { file = l; page = f.page }

          abbrev made : PlainPages file_cmp
          made = make p owner (blank (in_file here))

          abbrev made_files : map.FinMap (file_page_cmp other_cmp) PageName
          made_files = map.insert files there (next_page p owner)

          stands : StandAlike other_cmp p files (Some k) (Some l)
          stands = subst (StandAlike other_cmp p files (Some k)) other_is (subst (λ a. StandAlike other_cmp p files a (other.file_of f.file)) one_is (alike.stand f.file known))

          -- it is made in both
          made_alike : map.get p.files here ≡ None → AreAlike made made_files
          unfolding make
          made_alike none = record {
            names = names;
            stand = λ g also. by g also (one.file_of g) (other.file_of g) refl refl (alike.stand g also);
            filed = each_filed (like.total f.file) (like.apart f.file) Filed p.files here (next_page p owner) (like.filed f.file known k one_is f.page) alike.filed;
            other_filed = each_filed (like.other_total f.file) (like.other_apart f.file) OtherFiled files there (next_page p owner) (like.other_filed f.file known l other_is f.page) alike.other_filed;
          }
            where
              o : IsTotalOrder (file_page_cmp file_cmp)
              o = file_page_total (like.total f.file)

              other_o : IsTotalOrder (file_page_cmp other_cmp)
              other_o = file_page_total (like.other_total f.file)

              n : PageName
              n = next_page p owner

              names : NameAlike other_cmp made made_files
              names x = omega (
                arith,
                alike.names x,
                total_insert o (tally x) p.files here n,
                total_insert other_o (tally x) files there n,
                ap (λ (d : Option PageName). option_map_or (tally x) d 0) none,
                ap (λ (d : Option PageName). option_map_or (tally x) d 0) (stands f.page ∙ none),
              )

              tied : (g : F) → Known g → (a : K) (b : L) → one.file_of g ≡ Some a → other.file_of g ≡ Some b → (page : ℕ)
                  → eq_by_cmp (file_page_cmp other_cmp) (record { file = b; page = page }) there ≡ eq_by_cmp (file_page_cmp file_cmp) (record { file = a; page = page }) here
              tied g also a b x y page =
                  tied_both (other_cmp b l) (nat_cmp page f.page)
                  ∙ ap (λ e. e && is_eq (nat_cmp page f.page))
                  (ap (λ (b : Option L). stand_together other_cmp b (Some l)) (sym y) ∙ ap (stand_together other_cmp (other.file_of g)) (sym other_is) ∙ like.together g f.file also known
                  ∙ ap (stand_together file_cmp (one.file_of g)) one_is ∙ ap (λ (b : Option K). stand_together file_cmp b (Some k)) x)
                  ∙ sym (tied_both (file_cmp a k) (nat_cmp page f.page))

              by : (g : F) → Known g → (a : Option K) (b : Option L) → one.file_of g ≡ a → other.file_of g ≡ b → StandAlike other_cmp p files a b → StandAlike other_cmp made made_files a b
              by g also None None x y h = tt
              by g also (Some a) (Some b) x y h = λ page.
                  map.get-insert other_o files there n (record { file = b; page = page })
                  ∙ ap (λ e. cond e (Some n) (map.get files (record { file = b; page = page }))) (tied g also a b x y page)
                  ∙ ap (cond (eq_by_cmp (file_page_cmp file_cmp) (record { file = a; page = page }) here) (Some n)) (h page)
                  ∙ sym (map.get-insert o p.files here n (record { file = a; page = page }))
              by g also None (Some b) x y h = absurd h
              by g also (Some a) None x y h = absurd h

          -- where there is no page a write makes one, and any other reference is denied
          none_there : (kind : Kind) → map.get p.files here ≡ None
              → Agree (goes_on (option_map_or (make_all p owner) (in_its_file kind here None) (denied kind))) (other_goes_on (option_map_or (make_all (refiled other_cmp p files) owner) (in_its_file kind there None) (denied kind)))
          unfolding make make_all
          none_there Read none = rest Denied p files alike
          none_there Execute none = rest Denied p files alike
          none_there Write none =
              subst (λ b. Agree (goes_on (cond (HasRoom made owner) (granted made) full)) (other_goes_on (cond b (granted (refiled other_cmp made made_files)) full)))
              (sym (room_refiled other_cmp made made_files (made_alike none).names owner)) (by (HasRoom made owner))
            where
              by : (b : Bool) → Agree (goes_on (cond b (granted made) full)) (other_goes_on (cond b (granted (refiled other_cmp made made_files)) full))
              by true = rest Granted made made_files (made_alike none)
              by false = rest Full p files alike

          page_same : (kind : Kind) → Agree (goes_on (reference p (in_file here) kind owner)) (other_goes_on (reference (refiled other_cmp p files) (in_file there) kind owner))
          unfolding reference makings make_all
          page_same kind = subst (λ m. Agree (goes_on (option_map_or (make_all p owner) (in_its_file kind here (map.get p.files here)) (denied kind))) (other_goes_on (option_map_or (make_all (refiled other_cmp p files) owner) (in_its_file kind there m) (denied kind))))
              (sym (stands f.page)) (by (map.get p.files here) refl)
            where
              by : (n : Option PageName) → map.get p.files here ≡ n → Agree (goes_on (option_map_or (make_all p owner) (in_its_file kind here n) (denied kind))) (other_goes_on (option_map_or (make_all (refiled other_cmp p files) owner) (in_its_file kind there n) (denied kind)))
              by None is = none_there kind is
              by (Some n) is = rest Granted p files alike

        filed_same : (owner : Tty) (f : FilePage F) → Known f.file → (kind : Kind)
            → Agree (goes_on (option_map_or (λ s. reference p s kind owner) (spot_of one (in_file f)) (denied kind))) (other_goes_on (option_map_or (λ s. reference (refiled other_cmp p files) s kind owner) (spot_of other (in_file f)) (denied kind)))
        filed_same owner f known kind = by (one.file_of f.file) (other.file_of f.file) refl refl (alike.stand f.file known)
          where
            by : (a : Option K) (b : Option L) → one.file_of f.file ≡ a → other.file_of f.file ≡ b → StandAlike other_cmp p files a b
                → Agree (goes_on (option_map_or (λ s. reference p s kind owner) (option_map (λ k. in_file (record { file = k; page = f.page })) a) (denied kind)))
                (other_goes_on (option_map_or (λ s. reference (refiled other_cmp p files) s kind owner) (option_map (λ l. in_file (record { file = l; page = f.page })) b) (denied kind)))
            by None None x y h = rest Denied p files alike
            by (Some k) (Some l) x y h = page_same owner f known k l x y kind
            by None (Some l) x y h = absurd h
            by (Some k) None x y h = absurd h

      -- steps come to the same
      stepped_same : (f : ForkName) (regs : Regs) (steps : Steps) (next : Ending → Turn F C) → ((e : Ending) → ComesSame (next e))
          → Agree (stepped f (steps_on f regs steps p) (λ q e. turn_on one q (next e)) (λ channel. record { end = Trap channel; pages = p }))
          (stepped f (steps_on f regs steps (refiled other_cmp p files)) (λ q e. turn_on other q (next e)) (λ channel. record { end = Trap channel; pages = (refiled other_cmp p files) }))
      stepped_same f regs steps next rest = subst (λ r. Agree (goes (steps_on f regs steps p)) (other_goes r)) (sym (run_refiled other_cmp files f steps (begun p regs.ac) alike.names)) (by (steps_on f regs steps p) (run_leaves f steps (begun p regs.ac)))
        where
          goes : Planned file_cmp ⊥ → Came file_cmp C
          goes r = stepped f r (λ q e. turn_on one q (next e)) (λ channel. record { end = Trap channel; pages = p })

          other_goes : Planned other_cmp ⊥ → Came other_cmp C
          other_goes r = stepped f r (λ q e. turn_on other q (next e)) (λ channel. record { end = Trap channel; pages = (refiled other_cmp p files) })

          by : (r : Planned file_cmp ⊥) → LeavesFiles p.files r → Agree (goes r) (other_goes (refiled_plan other_cmp files r))
          by (done t e) leaves = subst (λ q. Agree (turn_on one (pages_left f t e) (next e)) (turn_on other q (next e))) (sym (left_refiled other_cmp files f t e))
              (rest e (pages_left f t e) files (still p files alike (pages_left f t e) (left_leaves f t e ∙ leaves)))
          by (stopped (trap channel)) leaves = (refl, alike, tt)
          by (stopped (need none)) leaves = absurd none
          by (call number) leaves = (refl, alike, tt)

      -- the map of a new fork has the same room
      added_same : (f : ForkName) (entries : NewMap) (next : Bool → Turn F C) → ((b : Bool) → ComesSame (next b))
          → Agree (turn_on one (with_added p f entries (HasRoom (with_map p f entries) f.tty)) (next (HasRoom (with_map p f entries) f.tty)))
          (turn_on other (with_added (refiled other_cmp p files) f entries (HasRoom (with_map (refiled other_cmp p files) f entries) f.tty)) (next (HasRoom (with_map (refiled other_cmp p files) f entries) f.tty)))
      added_same f entries next rest =
          subst (λ b. Agree (turn_on one (with_added p f entries (HasRoom (with_map p f entries) f.tty)) (next (HasRoom (with_map p f entries) f.tty))) (turn_on other (with_added (refiled other_cmp p files) f entries b) (next b)))
          (sym (room_refiled other_cmp (with_map p f entries) files alike.names f.tty)) (by (HasRoom (with_map p f entries) f.tty))
        where
          by : (b : Bool) → Agree (turn_on one (with_added p f entries b) (next b)) (turn_on other (with_added (refiled other_cmp p files) f entries b) (next b))
          by true = rest true (with_map p f entries) files (still p files alike (with_map p f entries) refl)
          by false = rest false p files alike

    -- A TURN COMES OUT THE SAME, whatever files are known by: one induction for all calls
    pub came_same : (t : Turn F C) → Keeps Known Allowed t → ComesSame t
    unfolding turn_on
    came_same (sees s next) keeps p files alike = came_same (next (entry_of p s)) (keeps (entry_of p s)) p files alike
    came_same (finds at next) keeps p files alike =
        let n = option_and_then (page_at p) (spot_of one at) in
        subst (λ m. Agree (turn_on one p (next n)) (turn_on other (refiled other_cmp p files) (next m))) (sym (found_same p files alike at keeps.0)) (came_same (next n) (keeps.1 n) p files alike)
    came_same (reads f offset next) keeps p files alike =
        let w = option_map_or (λ at. word_at p at offset) (spot_of one (in_file f)) 0 in
        subst (λ x. Agree (turn_on one p (next w)) (turn_on other (refiled other_cmp p files) (next x))) (sym (word_same p files alike f offset keeps.0)) (came_same (next w) (keeps.1 w) p files alike)
    came_same (touches owner (in_map s) kind next) keeps p files alike = touched_same p files alike next (λ what. came_same (next what) (keeps.1 what)) owner s kind
    came_same (touches owner (in_file f) kind next) keeps p files alike = filed_same p files alike next (λ what. came_same (next what) (keeps.1 what)) owner f keeps.0 kind
    came_same (takes f regs steps next) keeps p files alike = stepped_same p files alike f regs steps next (λ e. came_same (next e) (keeps e))
    came_same (adds f entries next) keeps p files alike = added_same p files alike f entries next (λ b. came_same (next b) (keeps b))
    came_same (looks name next) keeps p files alike =
        subst (λ b. Agree (turn_on one p (next (one.is_name name))) (turn_on other (refiled other_cmp p files) (next b))) (sym (like.names name)) (came_same (next (one.is_name name)) (keeps (one.is_name name)) p files alike)
    came_same (makes name next) keeps p files alike =
        subst (λ b. Agree (turn_on one p (next one.has_more)) (turn_on other (refiled other_cmp p files) (next b))) (sym like.more) (came_same (next one.has_more) (keeps one.has_more) p files alike)
    came_same (ends e) keeps p files alike = (refl, alike, keeps)

-- a turn that knows no file leaves the pages of files
abbrev pub LeavesFilesAlone : {C K : Type 0} (file_cmp : K → K → Ordering) → Sight ⊥ K → Turn ⊥ C → Type 0
LeavesFilesAlone file_cmp sight t = (p : PlainPages file_cmp) → (turn_on sight p t).pages.files ≡ p.files

module _ {C K : Type 0} {file_cmp : K → K → Ordering} (sight : Sight ⊥ K) where
  pub came_leaves : (t : Turn ⊥ C) → LeavesFilesAlone file_cmp sight t
  unfolding turn_on
  came_leaves (sees s next) p = came_leaves (next (entry_of p s)) p
  came_leaves (finds (in_map s) next) p = came_leaves (next (page_at p (in_map s))) p
  came_leaves (finds (in_file f) next) p = absurd f.file
  came_leaves (reads f offset next) p = absurd f.file
  came_leaves (touches owner (in_map s) kind next) p = by (λ what. came_leaves (next what)) (reference p (in_map s) kind owner) refl
    where
      by : ((what : Touched) → LeavesFilesAlone file_cmp sight (next what)) → (r : Referred file_cmp) → reference p (in_map s) kind owner ≡ r → (touched p r (λ q what. turn_on sight q (next what))).pages.files ≡ p.files
      by rest (granted q) is = rest Granted q ∙ reference_leaves owner p q s kind is
      by rest (denied k) is = rest Denied p
      by rest full is = rest Full p
  came_leaves (touches owner (in_file f) kind next) p = absurd f.file
  came_leaves (takes f regs steps next) p = by (λ e. came_leaves (next e)) (steps_on f regs steps p) (run_leaves f steps (begun p regs.ac))
    where
      by : ((e : Ending) → LeavesFilesAlone file_cmp sight (next e)) → (r : Planned file_cmp ⊥) → LeavesFiles p.files r → (stepped f r (λ q e. turn_on sight q (next e)) (λ channel. record { end = Trap channel; pages = p })).pages.files ≡ p.files
      by rest (done t e) leaves = rest e (pages_left f t e) ∙ left_leaves f t e ∙ leaves
      by rest (stopped (trap channel)) leaves = refl
      by rest (stopped (need none)) leaves = absurd none
      by rest (call number) leaves = refl
  came_leaves (adds f entries next) p = by (λ b. came_leaves (next b)) (HasRoom (with_map p f entries) f.tty)
    where
      by : ((b : Bool) → LeavesFilesAlone file_cmp sight (next b)) → (b : Bool) → (turn_on sight (with_added p f entries b) (next b)).pages.files ≡ p.files
      by rest true = rest true (with_map p f entries)
      by rest false = rest false p
  came_leaves (looks name next) p = came_leaves (next (sight.is_name name)) p
  came_leaves (makes name next) p = came_leaves (next sight.has_more) p
  came_leaves (ends e) p = refl

-- two sights without files tell the same of names and room
pub record NamesAlike {K L : Type 0} (one : Sight ⊥ K) (other : Sight ⊥ L) : Type 0 where
  pub names : (name : List ℕ) → other.is_name name ≡ one.is_name name
  pub more : other.has_more ≡ one.has_more

module _ {K L : Type 0} (file_cmp : K → K → Ordering) (other_cmp : L → L → Ordering) (one : Sight ⊥ K) (other : Sight ⊥ L) where
  abbrev AnyFile : ⊥ → Type 0
  AnyFile f = Unit {0}

  abbrev AnyPage : {K : Type 0} → FilePage K → Type 0
  AnyPage f = Unit {0}

  alike_sights : NamesAlike one other → TellAlike file_cmp other_cmp AnyFile AnyPage AnyPage one other
  alike_sights like = record {
    together = λ f g. absurd f;
    names = like.names;
    more = like.more;
    total = λ f. absurd f;
    other_total = λ f. absurd f;
    apart = λ f. absurd f;
    other_apart = λ f. absurd f;
    filed = λ f known k is page. tt;
    other_filed = λ f known l is page. tt;
  }

-- then such a turn comes out the same, whatever files are known by
module _ {C K L : Type 0} {file_cmp : K → K → Ordering} (other_cmp : L → L → Ordering) (files : map.FinMap (file_page_cmp other_cmp) PageName) (one : Sight ⊥ K) (other : Sight ⊥ L) (like : NamesAlike one other) where
  pub came_refiled : (t : Turn ⊥ C) (p : PlainPages file_cmp) → NameAlike other_cmp p files → turn_on other (refiled other_cmp p files) t ≡ refiled_came other_cmp files (turn_on one p t)
  came_refiled t p alike =
      (came_same other_cmp (λ f. Unit {0}) (λ f. Unit {0}) (λ f. Unit {0}) one other (alike_sights file_cmp other_cmp one other like) (λ c. Unit {0}) t (knows_none t) p files (record { names = alike; stand = λ f. absurd f; filed = λ f there. tt; other_filed = λ f there. tt })).0
      ∙ ap (λ (fs : map.FinMap (file_page_cmp other_cmp) PageName). refiled_came other_cmp fs (turn_on one p t)) (came_leaves other t (refiled other_cmp p files))
