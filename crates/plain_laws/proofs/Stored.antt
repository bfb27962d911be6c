-- What a word that is put into a page leaves.
use Rattle.std.proofs.Common.{◌≡◌, ◌≢◌, ℕ, cond, List, Option, None, Some, inl, inr, refl, sym, ◌∙◌, ap, Ordering}
use Rattle.std.specs.Prelude.{slice_set}
use Rattle.std.specs.Option.{option_map_or, option_and_then, unwrap_or}
use Rattle.std.specs.FinMap as map
use Rattle.machine_names.specs.declared.names.PageName.{PageName}
use Rattle.machine_names.specs.Orders.{file_page_cmp}
use Rattle.machine_names.specs.PageWords.{zero_words}
use Rattle.machine_names.proofs.OrderLemmas.{page_tied, page_cmp_total}
use Rattle.plain_pages.specs.PlainPages.{PlainPages}
use Rattle.plain_pages.specs.Maps.{Chain, chain, entry_at}
use Rattle.plain_pages.specs.References.{Spot, in_map, in_file, words_of, words_at, page_at, with_word, stored}
use Rattle.plain_pages.proofs.Counts.{page_tells, same_itself}
use Rattle.plain_units.proofs.PageRuns.{stored_maps, stored_files}

module _ {K : Type 0} {file_cmp : K → K → Ordering} (p : PlainPages file_cmp) (at : Spot K) (offset word : ℕ) where
  -- a word that is put names no page
  pub stored_page : (s : Spot K) → page_at (stored p at offset word) s ≡ page_at p s
  unfolding page_at
  stored_page (in_map s) = ap (λ maps. option_and_then (λ (c : Chain). c.page) (chain (entry_at maps) s)) (stored_maps p at offset word)
  stored_page (in_file f) = ap (λ (files : map.FinMap (file_page_cmp file_cmp) PageName). map.get files f) (stored_files p at offset word)

  -- nor does it change another page
  pub stored_object : (n : PageName) → page_at p at ≢ Some n → map.get (stored p at offset word).objects n ≡ map.get p.objects n
  stored_object n other = by (page_at p at) refl
    where
      by : (m : Option PageName) → page_at p at ≡ m → map.get (option_map_or (with_word p offset word) m p).objects n ≡ map.get p.objects n
      by None is = refl
      by (Some m) is = elim (page_tells n m) [
        | inl e ↦ absurd (other (is ∙ ap Some (sym e.1)))
        | inr e ↦ map.get-insert page_cmp_total p.objects m (slice_set (words_of p m) offset word) n ∙ ap (λ b. cond b (Some (slice_set (words_of p m) offset word)) (map.get p.objects n)) (page_tied n m ∙ e.0)
      ]

  -- whoever has its page reads it
  pub stored_read : (s : Spot K) (m : PageName) → page_at p at ≡ Some m → page_at p s ≡ Some m → words_at (stored p at offset word) s ≡ slice_set (words_at p s) offset word
  stored_read s m is there = ap (λ (n : Option PageName). option_map_or (words_of q) n zero_words) (stored_page s ∙ there) ∙ by ∙ ap (λ (n : Option PageName). slice_set (option_map_or (words_of p) n zero_words) offset word) (sym there)
    where
      q : PlainPages file_cmp
      q = stored p at offset word

      by : words_of q m ≡ slice_set (words_of p m) offset word
      by = ap (λ (n : Option PageName). words_of (option_map_or (with_word p offset word) n p) m) is
          ∙ ap (λ (o : Option (List ℕ)). unwrap_or o zero_words) (map.get-insert page_cmp_total p.objects m (slice_set (words_of p m) offset word) m ∙ ap (λ b. cond b (Some (slice_set (words_of p m) offset word)) (map.get p.objects m)) (page_tied m m ∙ same_itself m))

  -- and nobody else reads another word
  pub stored_other : (s : Spot K) → page_at p s ≢ page_at p at → words_at (stored p at offset word) s ≡ words_at p s
  stored_other s apart = ap (λ (n : Option PageName). option_map_or (words_of (stored p at offset word)) n zero_words) (stored_page s) ∙ by (page_at p s) refl
    where
      by : (n : Option PageName) → page_at p s ≡ n → option_map_or (words_of (stored p at offset word)) n zero_words ≡ option_map_or (words_of p) n zero_words
      by None is = refl
      by (Some n) is = ap (λ (o : Option (List ℕ)). unwrap_or o zero_words) (stored_object n (λ there. apart (is ∙ sym there)))
