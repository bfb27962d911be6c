-- Room for a fork with an empty map.
use Rattle.std.proofs.Common.{◌≡◌, ℕ, zero, suc, ◌+◌, ◌≤◌, ◌<◌, true, false, cond, is_some, Option, None, replicate, refl, sym, ◌∙◌, ap, arith, nat_lt, nat_le, Ordering}
use Rattle.std.specs.Option.{option_map_or}
use Rattle.std.proofs.lemmas.Bool.Decides.{nat_tests}
use Rattle.std.specs.FinMap as fin
use Rattle.machine_names.specs.declared.names.TheConstants.{SPACE_PAGES}
use Rattle.machine_names.specs.declared.names.ForkName.{ForkName}
use Rattle.machine_names.specs.declared.names.PageName.{PageName}
use Rattle.plain_pages.specs.declared.map.MapEntry.TheVariants.{Empty}
use Rattle.plain_pages.specs.declared.map.NewMap.TheVariants.{Empty as EmptyMap}
use Rattle.machine_names.specs.declared.names.Tty.{Tty}
use Rattle.plain_pages.specs.PlainPages.{PlainPages, Map}
use Rattle.plain_pages.specs.Room.{live, names, uses, HasRoom}
use Rattle.plain_pages.specs.NewMaps.{with_map, empty_map}
use Rattle.machine_names.proofs.OrderLemmas.{fork_cmp_total}
use Rattle.plain_pages.proofs.Counts.{has_count, different_same, total_insert}
use Rattle.plain_pages.proofs.Whole.{map_uses, uses_are}

no_names : (n : PageName) (k : ℕ) → map_uses n (replicate k Empty) ≡ 0
no_names n zero = refl
no_names n (suc k) = no_names n k

none_named : (n : PageName) → map_uses n empty_map ≡ 0
unfolding empty_map
none_named n = no_names n SPACE_PAGES

pub room_le : (a b : ℕ) → a ≤ b → nat_le a b ≡ true
room_le a b h = grind (arith, nat_tests)

pub no_room_le : (a b : ℕ) → b < a → nat_le a b ≡ false
no_room_le a b h = grind (arith, nat_tests)

module _ {K : Type 0} {file_cmp : K → K → Ordering} (p : PlainPages file_cmp) (f : ForkName) (absent : fin.get p.maps f ≡ None) where
  uses_stay : (n : PageName) → uses (with_map p f EmptyMap) n ≡ uses p n
  uses_stay n =
      let before : option_map_or (map_uses n) (fin.get p.maps f) 0 ≡ 0 = ap (λ (o : Option Map). option_map_or (map_uses n) o 0) absent in
      omega (arith, uses_are (with_map p f EmptyMap) n, uses_are p n, total_insert fork_cmp_total (map_uses n) p.maps f empty_map, before, none_named n)

  -- one fork more
  pub live_map : live (with_map p f EmptyMap) ≡ live p + 1
  unfolding live uses
  live_map =
      let len : fin.len (fin.insert p.maps f empty_map) ≡ fin.len p.maps + 1 = fin.len-insert fork_cmp_total p.maps f empty_map ∙ ap (λ (o : Option Map). cond (is_some o) (fin.len p.maps) (fin.len p.maps + 1)) absent in
      omega (arith, len, different_same (names (with_map p f EmptyMap)) (names p) (λ n. has_count n (names (with_map p f EmptyMap)) ∙ ap (nat_lt 0) (uses_stay n) ∙ sym (has_count n (names p))))

pub has_room : {K : Type 0} {file_cmp : K → K → Ordering} (p : PlainPages file_cmp) (owner : Tty) (n m : ℕ) → live p ≡ n → p.limit ≡ m → HasRoom p owner ≡ nat_le n m
unfolding HasRoom
has_room p owner n m h l = ap (λ k. nat_le k p.limit) h ∙ ap (nat_le n) l
