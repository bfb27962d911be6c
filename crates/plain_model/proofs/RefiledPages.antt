-- A page that is put at one of a file's pages, or taken from there, under two kinds of keys: both kinds leave the same.
use Rattle.std.proofs.Common.{◌≡◌, ◌≢◌, ℕ, Bool, true, false, cond, Option, None, Some, refl, sym, ◌∙◌, ap, subst, Ordering}
use Rattle.std.specs.Prelude.{◌==◌, is_some}
use Rattle.std.specs.Option.{option_map_or}
use Rattle.std.specs.Ordering.{eq_by_cmp}
use Rattle.std.specs.Cmp.{IsTotalOrder}
use Rattle.std.specs.FinMap as map
use Rattle.machine_names.specs.declared.names.PageName.{PageName}
use Rattle.machine_names.specs.Orders.{FilePage, file_page_cmp}
use Rattle.plain_pages.specs.PlainPages.{PlainPages, refiled}
use Rattle.plain_pages.specs.References.{drop_unnamed}
use Rattle.plain_pages.specs.Room.{uses}
use Rattle.plain_pages.specs.FilePages.{files_with, with_file}
use Rattle.plain_pages.proofs.FilesKept.{files_apart, filed_files, set_elsewhere, set_here}
use Rattle.plain_model.proofs.Keyed.{AreKeyed, Files, page_under, totals_keyed}
use Rattle.plain_pages.proofs.Refiled.{NameAlike, uses_refiled}
use Rattle.plain_pages.proofs.Whole.{tally}

-- another page of a file of which this holds
module _ {K : Type 0} {file_cmp : K → K → Ordering} (o : IsTotalOrder file_cmp) (apart : map.IsAntisymmetric file_cmp) (Filed : FilePage K → Type 0) (p : PlainPages file_cmp) (here : FilePage K) (new : Option PageName) where
  set_filed : Filed here → ((f : FilePage K) → map.contains_key p.files f ≡ true → Filed f) → (f : FilePage K) → map.contains_key (files_with p here new) f ≡ true → Filed f
  set_filed now old f there = by (eq_by_cmp (file_page_cmp file_cmp) f here) refl
    where
      by : (c : Bool) → eq_by_cmp (file_page_cmp file_cmp) f here ≡ c → Filed f
      by true is = subst Filed (sym ((files_apart o apart f here true is).0 refl)) now
      by false is = old f (sym (ap is_some (set_elsewhere o apart p here f new ((files_apart o apart f here false is).1 refl))) ∙ there)

module _ {N K L : Type 0} {file_cmp : K → K → Ordering} {other_cmp : L → L → Ordering} (o : IsTotalOrder file_cmp) (apart : map.IsAntisymmetric file_cmp) (other_o : IsTotalOrder other_cmp) (other_apart : map.IsAntisymmetric other_cmp) (There : N → Type 0) (key : N → K) (other_key : N → L)
    (p : PlainPages file_cmp) (files : Files other_cmp) (h : AreKeyed file_cmp other_cmp There key other_key p.files files) (name : N) (there : There name) (page : ℕ) (new : Option PageName) where
  abbrev here : FilePage K
  here = page_under (key name) page

  abbrev other_here : FilePage L
  other_here = page_under (other_key name) page

  abbrev set_files : Files file_cmp
  set_files = files_with p here new

  abbrev pub other_set : Files other_cmp
  other_set = files_with (refiled other_cmp p files) other_here new

  other_there : (a : N) → There a → (n : ℕ) → page_under (key a) n ≡ here → page_under (other_key a) n ≡ other_here
  other_there a x n is =
      let one : a ≡ name = h.apart a name x there (ap (λ (f : FilePage K). f.file) is) in
      ap (λ b. page_under (other_key b) n) one ∙ ap (page_under (other_key name)) (ap (λ (f : FilePage K). f.page) is)

  there_other : (a : N) → There a → (n : ℕ) → page_under (other_key a) n ≡ other_here → page_under (key a) n ≡ here
  there_other a x n is =
      let one : a ≡ name = h.other_apart a name x there (ap (λ (f : FilePage L). f.file) is) in
      ap (λ b. page_under (key b) n) one ∙ ap (page_under (key name)) (ap (λ (f : FilePage L). f.page) is)

  set_same : (a : N) → There a → (n : ℕ) → map.get other_set (page_under (other_key a) n) ≡ map.get set_files (page_under (key a) n)
  set_same a x n = by (eq_by_cmp (file_page_cmp file_cmp) (page_under (key a) n) here) refl
    where
      by : (c : Bool) → eq_by_cmp (file_page_cmp file_cmp) (page_under (key a) n) here ≡ c → map.get other_set (page_under (other_key a) n) ≡ map.get set_files (page_under (key a) n)
      by true is =
          let at : page_under (key a) n ≡ here = (files_apart o apart (page_under (key a) n) here true is).0 refl in
          ap (map.get other_set) (other_there a x n at) ∙ set_here other_o other_apart (refiled other_cmp p files) other_here new
          ∙ sym (set_here o apart p here new) ∙ sym (ap (map.get set_files) at)
      by false is =
          let ne : page_under (key a) n ≢ here = (files_apart o apart (page_under (key a) n) here false is).1 refl in
          set_elsewhere other_o other_apart (refiled other_cmp p files) other_here (page_under (other_key a) n) new (λ e. ne (there_other a x n e))
          ∙ h.same a x n ∙ sym (set_elsewhere o apart p here (page_under (key a) n) new ne)

  -- the files that are there have the same pages then
  set_keyed : AreKeyed file_cmp other_cmp There key other_key set_files other_set
  set_keyed = record {
    apart = h.apart;
    other_apart = h.other_apart;
    same = set_same;
    filed = set_filed o apart (λ (f : FilePage K). (a : N) × There a × (key a ≡ f.file)) p here new (name, there, refl) h.filed;
    other_filed = set_filed other_o other_apart (λ (f : FilePage L). (a : N) × There a × (other_key a ≡ f.file)) (refiled other_cmp p files) other_here new (name, there, refl) h.other_filed;
  }

  pub put_keyed : AreKeyed file_cmp other_cmp There key other_key (with_file p here new).files other_set
  put_keyed = subst (λ (m : Files file_cmp). AreKeyed file_cmp other_cmp There key other_key m other_set) (sym (filed_files o apart p here new)) set_keyed

  abbrev set : PlainPages file_cmp
  set = record p { files = set_files }

  set_alike : NameAlike other_cmp set other_set
  set_alike n = totals_keyed o apart other_o other_apart There key other_key set_files other_set set_keyed (tally n)

  -- whether a page loses its last name does not depend on the keys
  drop_alike : (n : PageName) → drop_unnamed (refiled other_cmp set other_set) n ≡ refiled other_cmp (drop_unnamed set n) other_set
  drop_alike n = ap (λ k. cond (k == 0) (refiled other_cmp gone other_set) (refiled other_cmp set other_set)) (uses_refiled other_cmp set other_set set_alike n) ∙ by (uses set n == 0)
    where
      gone : PlainPages file_cmp
      gone = record set { objects = map.remove set.objects n }

      by : (b : Bool) → cond b (refiled other_cmp gone other_set) (refiled other_cmp set other_set) ≡ refiled other_cmp (cond b gone set) other_set
      by true = refl
      by false = refl

  -- and what is left is the same but for the keys
  pub put_refiled : with_file (refiled other_cmp p files) other_here new ≡ refiled other_cmp (with_file p here new) other_set
  unfolding with_file
  put_refiled = ap (λ (n : Option PageName). option_map_or (drop_unnamed (refiled other_cmp set other_set)) n (refiled other_cmp set other_set)) (h.same name there page) ∙ by (map.get p.files here)
    where
      by : (n : Option PageName) → option_map_or (drop_unnamed (refiled other_cmp set other_set)) n (refiled other_cmp set other_set) ≡ refiled other_cmp (option_map_or (drop_unnamed set) n set) other_set
      by None = refl
      by (Some n) = drop_alike n
