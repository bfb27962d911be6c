-- Texts by hand that are within the limits of events.
use Rattle.std.proofs.Common.{◌≡◌, ℕ, ◌<◌, ◌≤◌, List, ◌∷◌, ◌++◌, length, nat_lt, true, arith, All}
use Rattle.std.specs.List.{list_all}
use Rattle.std.proofs.lemmas.Bool.Decides.{nat_tests}
use Rattle.std.proofs.lemmas.List.Elements.{All-weaker}
use Rattle.std.proofs.lemmas.List.Sums.{AllPass-from_list_all}
use Rattle.machine_names.specs.Bounds.{IsFileName, is_name_code}

low_at : (c : ℕ) → nat_lt c 128 ≡ true → c < 128
low_at c h = grind (arith, nat_tests)

pub typed_low : (cs : List ℕ) → list_all (λ c. nat_lt c 128) cs ≡ true → All (λ c. c < 128) cs
typed_low cs h = All-weaker (λ c. nat_lt c 128 ≡ true) (λ c. c < 128) low_at cs (AllPass-from_list_all (λ c. nat_lt c 128) cs h)

pub is_file_name : (name dir stem extension : List ℕ) → name ≡ 60 ∷ (dir ++ 62 ∷ (stem ++ 46 ∷ extension)) → 1 ≤ length dir → length dir ≤ 12 → 1 ≤ length stem → length name ≤ 39
    → list_all is_name_code dir ≡ true → list_all is_name_code stem ≡ true → list_all is_name_code extension ≡ true → IsFileName name
is_file_name name dir stem extension spelled some few stem_some short d s e = record {
  dir = dir;
  stem = stem;
  extension = extension;
  spelled = spelled;
  dir_fits = (some, few, AllPass-from_list_all is_name_code dir d);
  stem_some = stem_some;
  stem_fits = AllPass-from_list_all is_name_code stem s;
  extension_fits = AllPass-from_list_all is_name_code extension e;
  short = short;
}
