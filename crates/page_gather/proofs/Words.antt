-- The words that stand under a slot once pages are made are those of its source before.
use Rattle.std.proofs.Common.{◌≡◌, ℕ, List, Option, None, Some, refl, sym, ◌∙◌, ap, subst}
use Rattle.std.specs.Prelude.{find}
use Rattle.std.specs.Option.{option_map_or, option_and_then, unwrap_or}
use Rattle.std.specs.Cmp.{nat_cmp_total}
use Rattle.machine_names.specs.declared.names.Tty.{Tty}
use Rattle.machine_names.specs.declared.names.Slot.{Slot}
use Rattle.machine_names.specs.declared.names.PageName.{PageName}
use Rattle.machine_names.specs.declared.names.Access.{Access}
use Rattle.plain_pages.specs.declared.map.MapEntry.TheVariants.{Names}
use Rattle.plain_pages.specs.PlainPages.{NumberedPages}
use Rattle.plain_pages.specs.Maps.{Link, Chain, entry_at, chain_within}
use Rattle.plain_pages.specs.References.{in_map, page_at, words_at, words_of}
use Rattle.machine_names.specs.PageWords.{zero_words}
use Rattle.page_contracts.specs.Pages.{Scene}
use Rattle.plain_pages.specs.WholePages.{AreWhole}
use Rattle.plain_pages.proofs.Chains.{marked}
use Rattle.plain_pages.proofs.Ends.{chain_named, mark_chain}
use Rattle.page_contracts.proofs.Ways.{way_of_named, end_in_frame}
use Rattle.plain_pages.proofs.Makings.{entry_there, named_end}
use Rattle.page_gather.specs.declared.change.Change.{Change}
use Rattle.page_gather.specs.Changes.{change_of, source_of, source_words, IsChanged, AreChanged}
use Rattle.page_gather.specs.Gathering.{IsNear, AreSourcesNear}
use Rattle.page_gather.proofs.Near.{way_is, page_is}

module _ (p q : NumberedPages) (w : AreWhole p) (owner : Tty) (cs : List Change) (homes : ℕ) (h : AreChanged p q owner cs homes) where
  -- a slot that was not changed names what it named, and its words are as they were
  unchanged_words : (s : Slot) (x : PageName) (a : Access) → entry_at q.maps s ≡ Some (Names x a) → entry_at q.maps s ≡ entry_at p.maps s → words_of q x ≡ words_at p (in_map s)
  unchanged_words s x a there same =
      let before : entry_at p.maps s ≡ Some (Names x a) = sym same ∙ there in
      let kept = h.kept x (entry_there nat_cmp_total p w s x a before) (entry_there nat_cmp_total q h.whole s x a there) in
      ap (λ (o : Option (List ℕ)). unwrap_or o zero_words) kept ∙ sym (ap (λ (n : Option PageName). option_map_or (words_of p) n zero_words) (named_end nat_cmp_total p w s x a before))

  -- of a slot that names a page
  pub entry_words : (s : Slot) (x : PageName) (a : Access) → entry_at q.maps s ≡ Some (Names x a) → words_of q x ≡ source_words p (source_of cs s)
  entry_words s x a there = by (change_of cs s) (h.slots s)
    where
      by : (o : Option Change) → IsChanged p q s o → words_of q x ≡ source_words p (option_map_or (λ c. c.source) o (Some s))
      by None k = unchanged_words s x a there k
      by (Some c) k =
          let two : Some (Names x a) ≡ Some (Names k.name c.access) = sym there ∙ k.there in
          let one : x ≡ k.name = cc two in
          ap (words_of q) one ∙ k.words

  -- of the page at the end of a chain
  pub end_words : (s : Slot) (c : Chain) (x : PageName) → chain_within 4 (entry_at q.maps) s ≡ Some c → c.page ≡ Some x → words_of q x ≡ source_words p (source_of cs c.end)
  end_words s c x is page = let e = chain_named 4 (entry_at q.maps) s c x is page in entry_words c.end x e.0 e.1

  chain_page : (s : Slot) (c : Chain) → chain_within 4 (entry_at q.maps) s ≡ Some c → page_at q (in_map s) ≡ c.page
  chain_page s c is = page_is q s ∙ ap (option_and_then (λ (d : Chain). d.page)) is

  -- and of the slot on its way that has the first copy mark
  pub mark_words : (s : Slot) (c : Chain) (l : Link) (x : PageName) → chain_within 4 (entry_at q.maps) s ≡ Some c → find marked c.links ≡ Some l → c.page ≡ Some x → words_at q (in_map l.slot) ≡ source_words p (source_of cs c.end)
  mark_words s c l x is f page =
      let d = mark_chain 4 (entry_at q.maps) s c l is f in
      ap (λ (n : Option PageName). option_map_or (words_of q) n zero_words) (chain_page l.slot d.0 d.1 ∙ d.3 ∙ page) ∙ end_words s c x is page

  -- a source is in frames, where what is referred to is
  module _ (scene : Scene) (sources : AreSourcesNear p scene cs) where
    pub source_near : (s : Slot) (c : Chain) (x : PageName) (t : Slot) → chain_within 4 (entry_at q.maps) s ≡ Some c → c.page ≡ Some x → IsNear q scene s → source_of cs c.end ≡ Some t → IsNear p scene t
    source_near s c x t is page near from = by (change_of cs c.end) refl (h.slots c.end) from
      where
        e : (a : Access) × (entry_at q.maps c.end ≡ Some (Names x a))
        e = chain_named 4 (entry_at q.maps) s c x is page

        in_frame : scene.page_away x ≡ None
        in_frame = sym (ap (option_and_then scene.page_away) (chain_page s c is ∙ page)) ∙ near.page

        end_near : entry_at q.maps c.end ≡ entry_at p.maps c.end → IsNear p scene c.end
        end_near same =
            let before : entry_at p.maps c.end ≡ Some (Names x e.0) = sym same ∙ e.1 in
            record {
              maps = way_is p scene c.end ∙ way_of_named scene 4 (entry_at p.maps) c.end x e.0 (end_in_frame scene 4 (entry_at q.maps) s c (sym (way_is q scene s) ∙ near.maps) is) before;
              page = ap (option_and_then scene.page_away) (named_end nat_cmp_total p w c.end x e.0 before) ∙ in_frame;
            }

        by : (o : Option Change) → change_of cs c.end ≡ o → IsChanged p q c.end o → option_map_or (λ d. d.source) o (Some c.end) ≡ Some t → IsNear p scene t
        by None at k g = let one : c.end ≡ t = cc g in subst (λ (u : Slot). IsNear p scene u) one (end_near k)
        by (Some d) at k g = sources c.end t d at g
