-- A listing is whole: what comes after a file is the next file and what comes after that.
use Rattle.std.proofs.Common.{◌≡◌, ◌≢◌, ◌⊎◌, inl, inr, ◌↔◌, ℕ, List, [], ◌∷◌, Option, Some, None, sym, ◌∙◌, ap, subst, arith}
use Rattle.std.specs.Prelude.{IfSome, slice_index_or}
use Rattle.std.specs.List.{AllPairs, Contains}
use Rattle.std.proofs.lemmas.Bool.{cases_eq}
use Rattle.std.proofs.lemmas.List.Elements.{All-contains_itself, All-weaker, Contains-append_cases, Contains-append_left, Contains-append_right}
use Rattle.std.proofs.lemmas.List.Kept.{AllPairs-cons}
use Rattle.std.specs.FinMap as map
use Rattle.number_map.proofs.Keys.{get_put, get_put_other, get_gone, get_gone_other}
use Rattle.machine_names.specs.declared.names.FileNo.{FileNo}
use Rattle.plain_files.specs.Directory.{AreFiles, ComesAfter, ComesBefore, Creates, Files, IsAbsent, IsNext}
use Rattle.file_dir.specs.Listing.{IsWhole, Lists, StandsBefore}
use Rattle.file_dir.proofs.Places.{not_both, one_value}
use Rattle.file_dir.proofs.Texts.{before_both, compared}

same_file : (f g : FileNo) → f.0 ≡ g.0 → f ≡ g
same_file f g e = λ i. record { 0 = e i }

if_weaker : {A : Type 0} (P Q : A → Type 0) (o : Option A) → ((x : A) → P x → Q x) → IfSome o P → IfSome o Q
if_weaker P Q None weaker h = tt
if_weaker P Q (Some x) weaker h = weaker x h

module _ (m : Files) (a : AreFiles m) (dir : List ℕ) where
  module _ (after : Option FileNo) (f : FileNo) (n : IsNext m dir after f.0) where
    behind_it : (g : ℕ) (c : ComesAfter m dir (Some f) g) → ComesBefore n.comes.name c.name
    behind_it g c = subst (λ o. IfSome o (λ before. ComesBefore before c.name)) n.comes.stands c.behind

    later : (g : ℕ) → ComesAfter m dir (Some f) g → ComesAfter m dir after g
    later g c = record { name = c.name; stands = c.stands; within = c.within; behind = past after n.comes.behind }
      where
        past : (x : Option FileNo) → IfSome x (λ y. IfSome (map.get m y.0) (λ before. ComesBefore before n.comes.name))
            → IfSome x (λ y. IfSome (map.get m y.0) (λ before. ComesBefore before c.name))
        past None h = tt
        past (Some y) h = if_weaker (λ before. ComesBefore before n.comes.name) (λ before. ComesBefore before c.name) (map.get m y.0)
            (λ before first. before_both before n.comes.name c.name first (behind_it g c)) h

    it_or_later : (g : ℕ) → ComesAfter m dir after g → (g ≡ f.0) ⊎ ComesAfter m dir (Some f) g
    it_or_later g c = by (compared c.name n.comes.name)
      where
        by : ComesBefore c.name n.comes.name ⊎ ((c.name ≡ n.comes.name) ⊎ ComesBefore n.comes.name c.name) → (g ≡ f.0) ⊎ ComesAfter m dir (Some f) g
        by (inl sooner) = absurd (n.first g c sooner)
        by (inr (inl same)) = inl (a.once g f.0 c.name c.stands (n.comes.stands ∙ ap (λ t. Some t) (sym same)))
        by (inr (inr behind)) = inr (record {
          name = c.name;
          stands = c.stands;
          within = c.within;
          behind = subst (λ o. IfSome o (λ before. ComesBefore before c.name)) (sym n.comes.stands) behind;
        })

  -- a listing has what comes after the file where it begins
  has : (fs : List FileNo) (after : Option FileNo) → Lists m dir after fs → (g : FileNo) → ComesAfter m dir after g.0 → Contains fs g
  has [] after none g c = absurd (none g.0 c)
  has (f ∷ fs) after (n, rest) g c = by (it_or_later after f n g.0 c) (has fs (Some f) rest g)
    where
      by : (g.0 ≡ f.0) ⊎ ComesAfter m dir (Some f) g.0 → (ComesAfter m dir (Some f) g.0 → Contains fs g) → Contains (f ∷ fs) g
      by (inl e) _ = Contains-append_left (f ∷ []) fs g (0, omega arith, same_file f g (sym e))
      by (inr more) behind = Contains-append_right (f ∷ []) fs g (behind more)

  -- and no other file
  only : (fs : List FileNo) (after : Option FileNo) → Lists m dir after fs → (g : FileNo) → Contains fs g → ComesAfter m dir after g.0
  only [] after none g (k, less, is) = absurd (omega arith)
  only (f ∷ fs) after (n, rest) g there = by (Contains-append_cases (f ∷ []) fs g there) (only fs (Some f) rest g)
    where
      at_zero : (k : ℕ) → k ≡ 0 → slice_index_or (f ∷ []) k g ≡ g → f ≡ g
      at_zero k e is = subst (λ j. slice_index_or (f ∷ []) j g ≡ g) e is

      by : Contains (f ∷ []) g ⊎ Contains fs g → (Contains fs g → ComesAfter m dir (Some f) g.0) → ComesAfter m dir after g.0
      by (inl (k, less, is)) _ =
          let zero_is : k ≡ 0 = omega arith in
          let same : f ≡ g = at_zero k zero_is is in
          subst (λ (x : FileNo). ComesAfter m dir after x.0) same n.comes
      by (inr behind) more = later after f n g.0 (more behind)

  in_order : (fs : List FileNo) (after : Option FileNo) → Lists m dir after fs → AllPairs (StandsBefore m) fs
  in_order [] after none = λ i j d lt less. absurd (omega arith)
  in_order (f ∷ fs) after (n, rest) =
      AllPairs-cons (StandsBefore m) f fs (All-weaker (Contains fs) (StandsBefore m f) (λ g there. before g (only fs (Some f) rest g there)) fs
      (All-contains_itself fs)) (in_order fs (Some f) rest)
    where
      before : (g : FileNo) → ComesAfter m dir (Some f) g.0 → StandsBefore m f g
      before g c x y x_is y_is =
          subst (λ t. ComesBefore t y) (one_value (map.get m f.0) n.comes.name x n.comes.stands x_is)
          (subst (ComesBefore n.comes.name) (one_value (map.get m g.0) c.name y c.stands y_is) (behind_it after f n g.0 c))

  pub whole : (fs : List FileNo) → Lists m dir None fs → IsWhole m dir fs
  whole fs lists = record {
    each = λ f. (
      λ h. has fs None lists f (record { name = h.0; stands = h.1; within = h.2; behind = tt }),
      λ there. let c = only fs None lists f there in
          (c.name, c.stands, c.within),
    );
    in_order = in_order fs None lists;
  }

module _ (old new : Files) (f : ℕ) (name : List ℕ) (c : Creates old new f name) where
  pub others_stay : (g : ℕ) → g ≢ f → map.get new g ≡ map.get old g
  others_stay g ne = ap (λ m. map.get m g) c.put ∙ get_put_other old f g name ne

  pub found_alone : IsAbsent old name → (g : ℕ) → (map.get new g ≡ Some name) ↔ (g ≡ f)
  found_alone absent g = (λ is. by (cases_eq g f) is, λ e. ap (λ m. map.get m g) c.put ∙ get_put old f g name e)
    where
      by : (g ≡ f) ⊎ (g ≢ f) → map.get new g ≡ Some name → g ≡ f
      by (inl e) is = e
      by (inr ne) is = absurd (absent g (sym (others_stay g ne) ∙ is))

pub gone_name : (m : Files) (f : ℕ) (name : List ℕ) → AreFiles m → map.get m f ≡ Some name → IsAbsent (map.remove m f) name
gone_name m f name a is g there = by (cases_eq g f)
  where
    by : (g ≡ f) ⊎ (g ≢ f) → ⊥
    by (inl e) = not_both (map.get (map.remove m f) g) name (get_gone m f g e) there
    by (inr ne) = ne (a.once g f name (sym (get_gone_other m f g ne) ∙ there) is)
