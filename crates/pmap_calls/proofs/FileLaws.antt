-- The laws of the calls on maps about pages of files.
use Rattle.std.proofs.Common.{◌≡◌, ℕ, List, Option, None, Some, sym, ◌∙◌, ap}
use Rattle.std.specs.Cmp.{nat_cmp_total}
use Rattle.std.specs.FinMap.{nat_cmp-IsAntisymmetric}
use Rattle.std.specs.Prelude.{IsSome}
use Rattle.std.specs.Option.{option_and_then, option_map_or}
use Rattle.std.specs.FinMap as map
use Rattle.machine_names.specs.declared.names.Access.{Access}
use Rattle.machine_names.specs.declared.names.PageName.{PageName}
use Rattle.machine_names.specs.declared.names.Slot.{Slot}
use Rattle.machine_names.specs.PageWords.{zero_words}
use Rattle.plain_model.specs.declared.call.MapChange.TheVariants.{Map, Put, Drop}
use Rattle.plain_model.specs.MapCalls.{entry_for, keyed, map_changed}
use Rattle.plain_pages.specs.declared.map.MapEntry.TheVariants.{Names}
use Rattle.plain_pages.specs.PlainPages.{NumberedPages}
use Rattle.plain_pages.specs.Maps.{Chain, chain, entry_at}
use Rattle.plain_pages.specs.References.{in_file, in_map, page_at, with_entry, words_at, words_of}
use Rattle.plain_pages.specs.WholePages.{AreWhole}
use Rattle.plain_pages.proofs.Chains.{chain_here}
use Rattle.plain_pages.proofs.FilesKept.{filed_files, set_here}
use Rattle.plain_pages.proofs.Kept.{entry_kept}
use Rattle.pmap_calls.specs.Laws.{HasEntry}
use Rattle.pmap_calls.proofs.MapLaws.{set_there}

-- a slot whose entry names a page ends its chain there
named_at : (p : NumberedPages) (s : Slot) (n : PageName) (a : Access) → entry_at p.maps s ≡ Some (Names n a) → page_at p (in_map s) ≡ Some n
unfolding page_at chain
named_at p s n a h = ap (option_and_then (λ (c : Chain). c.page)) (chain_here 3 (entry_at p.maps) s (Some (Names n a)) h)

in_its_file : (p : NumberedPages) (key : List ℕ → ℕ) (name : List ℕ) (page : ℕ) → page_at p (in_file (keyed key name page)) ≡ map.get p.files (keyed key name page)
unfolding page_at
in_its_file p key name page = λ i. map.get p.files (keyed key name page)

module _ (key : List ℕ → ℕ) (p : NumberedPages) (name : List ℕ) (page : ℕ) where
  module _ (w : AreWhole p) (s : Slot) (there : HasEntry p s) (a : Access) where
    map_is : (n : PageName) → map.get p.files (keyed key name page) ≡ Some n → map_changed key (Map s name page a) p ≡ with_entry p s (Names n a)
    unfolding map_changed
    map_is n is = ap (λ o. option_map_or (λ e. with_entry p s (entry_for a e (map.get p.files (keyed key name page)))) o p) there.1 ∙ ap (λ (m : Option PageName). with_entry p s (entry_for a there.0 m)) is

    pub reads_file : IsSome (map.get p.files (keyed key name page)) → words_at (map_changed key (Map s name page a) p) (in_map s) ≡ words_at (map_changed key (Map s name page a) p) (in_file (keyed key name page))
    reads_file some = by (map.get p.files (keyed key name page)) some (λ n is. at n is)
      where
        Reads : Type 0
        Reads = words_at (map_changed key (Map s name page a) p) (in_map s) ≡ words_at (map_changed key (Map s name page a) p) (in_file (keyed key name page))

        at : (n : PageName) → map.get p.files (keyed key name page) ≡ Some n → Reads
        at n is =
            let q = map_changed key (Map s name page a) p in
            let same = map_is n is in
            let slot : page_at q (in_map s) ≡ Some n = named_at q s n a (ap (λ (r : NumberedPages). entry_at r.maps s) same ∙ set_there key p w s there (Names n a)) in
            let files = ap (λ (r : NumberedPages). map.get r.files (keyed key name page)) same ∙ ap (λ (m : map.FinMap _ PageName). map.get m (keyed key name page)) (entry_kept p w s there.0 (Names n a) there.1).files in
            let file : page_at q (in_file (keyed key name page)) ≡ Some n = in_its_file q key name page ∙ files ∙ is in
            ap (λ o. option_map_or (words_of q) o zero_words) (slot ∙ sym file)

        by : (o : Option PageName) → IsSome o → ((n : PageName) → o ≡ Some n → Reads) → Reads
        by None h go = absurd (cc h)
        by (Some n) h go = go n (λ i. Some n)

  pub put_there : (s : Slot) → map.get (map_changed key (Put name page s) p).files (keyed key name page) ≡ page_at p (in_map s)
  unfolding map_changed
  put_there s =
      let n = page_at p (in_map s) in
      let f = keyed key name page in
      ap (λ (m : map.FinMap _ PageName). map.get m f) (filed_files nat_cmp_total nat_cmp-IsAntisymmetric p f n) ∙ set_here nat_cmp_total nat_cmp-IsAntisymmetric p f n

  pub drops_there : map.get (map_changed key (Drop name page) p).files (keyed key name page) ≡ None
  unfolding map_changed
  drops_there =
      let f = keyed key name page in
      ap (λ (m : map.FinMap _ PageName). map.get m f) (filed_files nat_cmp_total nat_cmp-IsAntisymmetric p f None) ∙ set_here nat_cmp_total nat_cmp-IsAntisymmetric p f None
