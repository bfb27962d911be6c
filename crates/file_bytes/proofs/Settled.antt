-- A page of a file that is written: once it is made, or where it was, it is ready.
use Rattle.std.proofs.Common.{◌≡◌, inl, inr, ℕ, true, List, [], Option, None, Some, refl, sym, ◌∙◌, ap, subst}
use Rattle.std.specs.Prelude.{is_some, slice_get}
use Rattle.std.specs.Option.{option_and_then, option_map}
use Rattle.std.specs.Ordering.{nat_cmp}
use Rattle.std.specs.FinMap as map
use Rattle.machine_names.specs.declared.names.PageName.{PageName}
use Rattle.machine_names.specs.declared.names.Tty.{Tty}
use Rattle.machine_names.specs.declared.names.FileNo.{FileNo}
use Rattle.machine_names.specs.declared.names.Place.TheVariants.{File}
use Rattle.machine_names.specs.declared.names.Kind.TheVariants.{Write}
use Rattle.machine_names.specs.Orders.{FilePage, file_page}
use Rattle.page_contracts.specs.declared.answers.Need.{Need}
use Rattle.page_contracts.specs.declared.answers.Need.TheVariants as need
use Rattle.page_contracts.specs.declared.answers.Touch.{Touch}
use Rattle.page_contracts.specs.declared.answers.Touch.TheVariants.{Ready, Zero, Copy, Absent, NeedFrame, Denied, Full}
use Rattle.page_contracts.specs.Pages.{FilesMade, PagesMeaning, Scene, SettlesTo, absent_or, announced, page_away, touch_of, touched_by}
use Rattle.plain_pages.specs.PlainPages.{NumberedPages}
use Rattle.plain_pages.specs.References.{Spot, in_file, Making, denied, full, granted, in_its_file, makings, next_making, reference, Referred}
use Rattle.plain_pages.proofs.ReferencesMade.{reference_stays}
use Rattle.call_turns.specs.Telling.{page_need}

module _ (q : NumberedPages) (f : FilePage ℕ) (owner : Tty) (scene : Scene) where
  abbrev at : Spot ℕ
  at = in_file f

  -- where nothing is to be made a touch finds the page, in a frame or in none
  found_at : makings q at Write ≡ Some [] → touch_of q scene at Write owner ≡ absent_or (page_away q scene at) Ready
  unfolding touch_of
  found_at none =
      ap (touched_by q scene at Write) (reference_stays q owner at Write none)
      ∙ ap (λ (m : Option (List (Making ℕ))). absent_or (page_away q scene at) (announced q scene (option_and_then (λ ms. slice_get ms 0) m))) none

  -- nothing is to be made where the file has the page
  none_made : is_some (map.get q.files f) ≡ true → makings q at Write ≡ Some []
  unfolding makings
  none_made there = by (map.get q.files f) there
    where
      by : (n : Option PageName) → is_some n ≡ true → in_its_file Write f n ≡ Some []
      by None h = absurd (cc h)
      by (Some n) h = refl

  -- a touch that found the page ready, or announced it, finds it ready once it is made
  pub is_ready : (was is : Touch) → is ≡ touch_of q scene at Write owner → SettlesTo was is → (was ≡ Zero → is_some (map.get q.files f) ≡ true) → is ≡ Ready
  is_ready Ready is new to there = to
  is_ready (Copy sole) is new to there = to
  is_ready Zero is new to there = either (page_away q scene at) is (new ∙ found_at (none_made (there refl))) to
    where
      either : (away : Option ℕ) (t : Touch) → t ≡ absent_or away Ready → SettlesTo Zero t → t ≡ Ready
      either None t e to = e
      either (Some home) t e (inl ready) = ready
      either (Some home) t e (inr (inl copied)) = (let two : Absent (record { 0 = home }) ≡ Copy copied.0 = sym e ∙ copied.1 in absurd (cc two))
      either (Some home) t e (inr (inr wants)) = (let two : Absent (record { 0 = home }) ≡ NeedFrame = sym e ∙ wants in absurd (cc two))
  is_ready (Absent home) is new to there = absurd to
  is_ready NeedFrame is new to there = absurd to
  is_ready (Denied k) is new to there = absurd to
  is_ready Full is new to there = absurd to

-- what was announced as a zero page is there once it is made
pub there_then : {P : Type 0} (means : PagesMeaning P) (old new : P) (file : FileNo) (page : ℕ) (q : NumberedPages) → FilesMade means (File file page) (means.touched old (File file page) Write) old new → means.filed new ≡ map.get q.files
    → means.touched old (File file page) Write ≡ Zero → is_some (map.get q.files (file_page file.0 page)) ≡ true
there_then means old new file page q made agrees zero =
    let one : FilesMade means (File file page) Zero old new = subst (λ (t : Touch). FilesMade means (File file page) t old new) zero made in
    ap (λ (g : FilePage ℕ → Option PageName). is_some (g (file_page file.0 page))) (sym agrees) ∙ one.set

-- the page that a touch finds ready is in a frame
pub not_needed : (p : NumberedPages) (scene : Scene) (f : FilePage ℕ) (owner : Tty) → touch_of p scene (in_file f) Write owner ≡ Ready → page_need scene p (in_file f) ≡ None
unfolding touch_of
not_needed p scene f owner h = by (reference p (in_file f) Write owner) (page_away p scene (in_file f)) h
  where
    needs : Option ℕ → Option Need
    needs away = option_map (λ home. need.Page (record { 0 = home })) away

    touched : (away : Option ℕ) → Referred nat_cmp → Touch
    touched away (granted q) = absent_or away (announced p scene (next_making p (in_file f) Write))
    touched away (denied k) = Denied k
    touched away full = Full

    by : (r : Referred nat_cmp) (away : Option ℕ) → touched away r ≡ Ready → needs away ≡ None
    by (granted q) None h = refl
    by (granted q) (Some home) h = absurd (cc h)
    by (denied k) away h = absurd (cc h)
    by full away h = absurd (cc h)
