-- What a word that goes through a slot leaves of the pages of files: it is in the file where the slot shares the file's page, and
-- in a copy where the slot's chain has the copy mark.
use Rattle.std.proofs.Common.{◌≡◌, ◌≢◌, ℕ, zero, suc, ◌<◌, ◌&&◌, Bool, true, false, cond, List, [], ◌∷◌, ◌++◌, Option, None, Some, inl, inr, refl, sym, ◌∙◌, ap, subst, arith, get_or-set_same, get_or-set_other}
use Rattle.std.specs.Prelude.{find, is_some, if◌then◌else◌, slice_index, slice_set}
use Rattle.std.specs.Option.{option_and_then, option_map, option_map_or, unwrap_or}
use Rattle.std.specs.Cmp.Lexicographic.{nat_list_cmp_total}
use Rattle.std.specs.FinMap as map
use Rattle.outside.specs.declared.TheConstants.{PAGE_WORDS}
use Rattle.machine_names.specs.declared.names.Access.{Access}
use Rattle.machine_names.specs.declared.names.PageName.{PageName}
use Rattle.machine_names.specs.declared.names.Slot.{Slot}
use Rattle.machine_names.specs.declared.names.Tty.{Tty}
use Rattle.machine_names.specs.declared.names.Kind.TheVariants.{Write}
use Rattle.machine_names.specs.Bounds.{IsOwner}
use Rattle.machine_names.specs.Orders.{FilePage}
use Rattle.machine_names.specs.PageWords.{zero_words}
use Rattle.plain_pages.specs.declared.map.MapEntry.TheVariants.{Empty, Names, Follows}
use Rattle.plain_pages.specs.PlainPages.{NamedPages, Maps}
use Rattle.plain_pages.specs.Maps.{Entries, Link, Chain, behind, chain, chain_within, entry_at, followed, single_link}
use Rattle.plain_pages.specs.References.{Making, along_chain, copy_in, granted, in_file, in_map, makings, page_at, private_access, reference, stored, words_at, words_of}
use Rattle.plain_pages.specs.WholePages.{AreWhole}
use Rattle.plain_pages.proofs.ChainEquations.{named_chain}
use Rattle.plain_pages.proofs.Chains.{chain_here, marked, slot_tells}
use Rattle.plain_pages.proofs.Ends.{AtEnd, Begun, at_empty, at_end, at_other, at_page, begun, ends_empty, ends_named, marked_first, no_chain_within}
use Rattle.plain_pages.proofs.Kept.{file_there}
use Rattle.plain_pages.proofs.Makings.{page_fits}
use Rattle.plain_pages.proofs.Reading.{four, is_four, page_of_chain}
use Rattle.plain_pages.proofs.ReferencesMade.{reference_stays}
use Rattle.plain_pages.proofs.Refiled.{reference_leaves}
use Rattle.plain_units.proofs.PageRuns.{stored_files, stored_maps}
use Rattle.plain_laws.specs.Laws.{HasCopy, ReadsOn}
use Rattle.plain_laws.specs.MappedLaws.{KeepsPage, Shares, TakesWord, Writes, WritesAll}
use Rattle.plain_laws.proofs.Copying.{copy_made, makes_none}
use Rattle.plain_laws.proofs.ReadsOn.{reference_reads}
use Rattle.plain_laws.proofs.RowsPut.{file_page}
use Rattle.plain_laws.proofs.Stored.{stored_other, stored_page, stored_read}

-- where the slot of a chain's first copy mark names another page, and has no mark any more, the chain ends there and has none
module _ (old new : Entries) (m end : Slot) (x : PageName) (a : Access) (here : new m ≡ Some (Names x a)) (clean : a.c ≡ false) (others : (t : Slot) → t ≢ m → t ≢ end → new t ≡ old t) where
  abbrev Comes : ℕ → Slot → Type 0
  Comes n s = (d : Chain) × (chain_within n new s ≡ Some d) × (d.page ≡ Some x) × (find marked d.links ≡ None)

  comes_to : (n : ℕ) (s : Slot) (c : Chain) (l : Link) → chain_within n old s ≡ Some c → find marked c.links ≡ Some l → l.slot ≡ m → c.end ≡ end → Comes n s
  comes_to zero s c l h f at ends = absurd (no_chain_within old s c h)
  comes_to (suc n) s c l h f at ends = elim (slot_tells s m) [
    | inl same ↦ (single_link s a (Some x), chain_here n new s (Some (Names x a)) (ap new same ∙ here), refl, ap (λ b. cond b (Some (record { slot = s; access = a })) None) clean)
    | inr ne ↦ by (λ t d g k e. comes_to n t d l g k at e) ne (begun n old s c h)
  ]
    where
      -- an entry that follows is not the last
      not_end : (serial page : ℕ) (b : Access) → old s ≡ Some (Follows serial page b) → s ≢ end
      not_end serial page b is same = by_end (at_end (suc n) old s c h)
        where
          last : old c.end ≡ Some (Follows serial page b)
          last = ap old (ends ∙ sym same) ∙ is

          by_end : AtEnd old c → ⊥
          by_end (ends_empty e none) = let no : Some Empty ≡ Some (Follows serial page b) = sym e ∙ last in cc no
          by_end (ends_named y d e named) = let no : Some (Names y d) ≡ Some (Follows serial page b) = sym e ∙ last in cc no

      alone : s ≢ m → (b : Access) (y : Option PageName) → single_link s b y ≡ c → Comes (suc n) s
      alone ne b y same = elim (marked_first s b [] l (ap (λ (d : Chain). find marked d.links) same ∙ f)) [
        | inl e ↦ absurd (ne (e ∙ at))
        | inr g ↦ absurd (cc g)
      ]

      on : ((t : Slot) (d : Chain) → chain_within n old t ≡ Some d → find marked d.links ≡ Some l → d.end ≡ end → Comes n t) → s ≢ m → (serial page : ℕ) (b : Access) (d : Chain) → old s ≡ Some (Follows serial page b)
          → chain_within n old (followed s serial page) ≡ Some d → d.end ≡ end → (mark : Bool) → b.c ≡ mark → cond mark (Some (record { slot = s; access = b })) (find marked d.links) ≡ Some l → Comes (suc n) s
      on rest ne serial page b d is g last true set k = absurd (let same : record { slot = s; access = b } ≡ l = cc k in ne (ap (λ (x : Link). x.slot) same ∙ at))
      on rest ne serial page b d is g last false set k =
          let r = rest (followed s serial page) d g k last in
          let stays = others s ne (not_end serial page b is) in
          (behind s b r.0, chain_here n new s (Some (Follows serial page b)) (stays ∙ is) ∙ ap (option_map (behind s b)) r.1, r.2, ap (λ c. cond c (Some (record { slot = s; access = b })) (find marked (r.0).links)) set ∙ r.3)

      by : ((t : Slot) (d : Chain) → chain_within n old t ≡ Some d → find marked d.links ≡ Some l → d.end ≡ end → Comes n t) → s ≢ m → Begun n old s c → Comes (suc n) s
      by rest ne (at_empty is same) = alone ne _ None same
      by rest ne (at_page y b is same) = alone ne b (Some y) same
      by rest ne (at_other serial page b d is g same) = on rest ne serial page b d is g (ap (λ (e : Chain). e.end) same ∙ ends) b.c refl (ap (λ (e : Chain). find marked e.links) same ∙ f)

-- a slot has a page of its own: its chain has no copy mark, and ends at a page that no file names
record HasOwn (p : NamedPages) (s : Slot) : Type 0 where
  way : Chain
  is : chain (entry_at p.maps) s ≡ Some way
  unmarked : find marked way.links ≡ None
  page : PageName
  ends : way.page ≡ Some page
  nobody : (f : FilePage (List ℕ)) → page_at p (in_file f) ≢ Some page

-- words that go through such a slot leave it so, and the pages of files
module _ (p : NamedPages) (s : Slot) (has : HasOwn p s) (owner : Tty) (offset word : ℕ) where
  abbrev with_it : NamedPages
  with_it = stored p (in_map s) offset word

  in_own : page_at p (in_map s) ≡ Some has.page
  in_own = page_of_chain p s has.way has.is ∙ has.ends

  own_then : HasOwn with_it s
  own_then = record {
    way = has.way;
    is = ap (λ (m : Maps). chain (entry_at m) s) (stored_maps p (in_map s) offset word) ∙ has.is;
    unmarked = has.unmarked;
    page = has.page;
    ends = has.ends;
    nobody = λ f same. has.nobody f (sym (stored_page p (in_map s) offset word (in_file f)) ∙ same);
  }

  kept_then : (f : FilePage (List ℕ)) → KeepsPage p with_it f
  kept_then f = (stored_page p (in_map s) offset word (in_file f), stored_other p (in_map s) offset word (in_file f) (λ same. has.nobody f (same ∙ in_own)))

  own_stored : (q : NamedPages) → Writes p q owner s offset word → q ≡ with_it
  own_stored q goes =
      let none = makes_none p s Write owner goes.0 has.way has.is (ap is_some has.ends) (λ l due. (let no : None ≡ Some l = sym has.unmarked ∙ due.1 in cc no)) goes.1 in
      goes.2 ∙ ap (λ (y : NamedPages). stored y (in_map s) offset word) none

kept_on : (p q r : NamedPages) (f : FilePage (List ℕ)) → KeepsPage p q f → KeepsPage q r f → KeepsPage p r f
kept_on p q r f a b = (b.0 ∙ a.0, b.1 ∙ a.1)

all_kept : (ws : List (ℕ × ℕ)) (p q : NamedPages) (owner : Tty) (s : Slot) → HasOwn p s → WritesAll p q owner s ws → (f : FilePage (List ℕ)) → KeepsPage p q f
all_kept [] p q owner s has goes f = (ap (λ (y : NamedPages). page_at y (in_file f)) goes, ap (λ (y : NamedPages). words_at y (in_file f)) goes)
all_kept (w ∷ ws) p q owner s has goes f =
    let is = own_stored p s has owner w.0 w.1 goes.0 goes.1 in
    let later = all_kept ws goes.0 q owner s (subst (λ (y : NamedPages). HasOwn y s) (sym is) (own_then p s has owner w.0 w.1)) goes.2 f in
    kept_on p goes.0 q f (subst (λ (y : NamedPages). KeepsPage p y f) (sym is) (kept_then p s has owner w.0 w.1 f)) later

-- a word that goes through along a chain with the copy mark
module _ (p r : NamedPages) (w : AreWhole p) (owner : Tty) (own : IsOwner owner) (s : Slot) (c : Chain) (l : Link) (h : chain (entry_at p.maps) s ≡ Some c) (f : find marked c.links ≡ Some l) (g : reference p (in_map s) Write owner ≡ granted r) where
  copy : HasCopy p r s c l
  copy = copy_made nat_list_cmp_total owner own p r w s c l h f g

  reads : ReadsOn owner p r
  reads = reference_reads nat_list_cmp_total owner own p r w s Write g

  -- the slot has the copy, and files name what they named
  ends_in : Comes (entry_at p.maps) (entry_at r.maps) l.slot c.end copy.page (private_access c) copy.there refl copy.others 4 s
  ends_in = comes_to (entry_at p.maps) (entry_at r.maps) l.slot c.end copy.page (private_access c) copy.there refl copy.others 4 s c l (four p s c h) f refl refl

  along : chain (entry_at r.maps) s ≡ Some ends_in.0
  along = is_four r s ends_in.0 ends_in.1

  own_page : page_at r (in_map s) ≡ Some copy.page
  own_page = page_of_chain r s ends_in.0 along ∙ ends_in.2

  still_filed : (x : FilePage (List ℕ)) → page_at r (in_file x) ≡ page_at p (in_file x)
  still_filed x = file_page r x ∙ ap (λ (m : map.FinMap _ PageName). map.get m x) (reference_leaves owner p r s Write g) ∙ sym (file_page p x)

  apart : (x : FilePage (List ℕ)) → page_at r (in_file x) ≢ page_at r (in_map s)
  apart x same =
      let there = file_there p w x copy.page (sym (file_page p x) ∙ sym (still_filed x) ∙ same ∙ own_page) in
      let no : true ≡ false = sym there ∙ copy.fresh in
      cc no

  still_words : (x : FilePage (List ℕ)) → words_at r (in_file x) ≡ words_at p (in_file x)
  still_words x = ap (λ (n : Option PageName). option_map_or (words_of r) n zero_words) (still_filed x) ∙ by (page_at p (in_file x)) refl
    where
      held : (n : PageName) → page_at p (in_file x) ≡ Some n → map.get r.objects n ≡ map.get p.objects n
      held n is = elim (reads.kept n (file_there p w x n (sym (file_page p x) ∙ is))) [
        | inl same ↦ same
        | inr gone ↦ absurd (let no : true ≡ false = sym (file_there r reads.whole x n (sym (file_page r x) ∙ still_filed x ∙ is)) ∙ gone in cc no)
      ]

      by : (n : Option PageName) → page_at p (in_file x) ≡ n → option_map_or (words_of r) n zero_words ≡ option_map_or (words_of p) n zero_words
      by None is = refl
      by (Some n) is = ap (λ (ws : Option (List ℕ)). unwrap_or ws zero_words) (held n is)

  has_own : HasOwn r s
  has_own = record { way = ends_in.0; is = along; unmarked = ends_in.3; page = copy.page; ends = ends_in.2; nobody = λ x same. apart x (same ∙ sym own_page) }

  left_then : (x : FilePage (List ℕ)) → KeepsPage p r x
  left_then x = (still_filed x, still_words x)

  module _ (offset word : ℕ) where
    read : words_at (stored r (in_map s) offset word) (in_map s) ≡ slice_set (words_at p (in_map s)) offset word
    read =
        stored_read r (in_map s) offset word (in_map s) copy.page own_page own_page
        ∙ ap (λ (ws : List ℕ). slice_set ws offset word) (ap (λ (n : Option PageName). option_map_or (words_of r) n zero_words) own_page ∙ copy.words)

-- where a copy is due files are left, however many words go through
module _ (p q : NamedPages) (w : AreWhole p) (owner : Tty) (s : Slot) (own : IsOwner owner) (c : Chain) (l : Link) (h : chain (entry_at p.maps) s ≡ Some c) (f : find marked c.links ≡ Some l) where
  pub copies_leave : (ws : List (ℕ × ℕ)) → WritesAll p q owner s ws → (x : FilePage (List ℕ)) → KeepsPage p q x
  copies_leave [] goes x = (ap (λ (y : NamedPages). page_at y (in_file x)) goes, ap (λ (y : NamedPages). words_at y (in_file x)) goes)
  copies_leave (first ∷ ws) goes x =
      let r = goes.1.0 in
      let has = has_own p r w owner own s c l h f goes.1.1 in
      let still = own_then r s has owner first.0 first.1 in
      let kept = kept_on p r (stored r (in_map s) first.0 first.1) x (left_then p r w owner own s c l h f goes.1.1 x) (kept_then r s has owner first.0 first.1 x) in
      kept_on p goes.0 q x (subst (λ (y : NamedPages). KeepsPage p y x) (sym goes.1.2) kept) (all_kept ws goes.0 q owner s (subst (λ (y : NamedPages). HasOwn y s) (sym goes.1.2) still) goes.2 x)

  pub copies_read : (offset word : ℕ) → Writes p q owner s offset word → words_at q (in_map s) ≡ slice_set (words_at p (in_map s)) offset word
  copies_read offset word goes = ap (λ (y : NamedPages). words_at y (in_map s)) goes.2 ∙ read p goes.0 w owner own s c l h f goes.1 offset word

-- and where none is, the file has the word
module _ (p q : NamedPages) (owner : Tty) (s : Slot) (offset word : ℕ) (goes : Writes p q owner s offset word) (f : FilePage (List ℕ)) (shares : Shares p s f) where
  in_slot : page_at p (in_map s) ≡ Some shares.page
  in_slot = page_of_chain p s shares.way shares.is ∙ shares.ends

  in_its_file : page_at p (in_file f) ≡ Some shares.page
  in_its_file = file_page p f ∙ shares.filed

  made_none : goes.0 ≡ p
  made_none = makes_none p s Write owner goes.0 shares.way shares.is (ap is_some shares.ends) (λ l due. (let no : None ≡ Some l = sym shares.unmarked ∙ due.1 in cc no)) goes.1

  is_stored : q ≡ stored p (in_map s) offset word
  is_stored = goes.2 ∙ ap (λ (y : NamedPages). stored y (in_map s) offset word) made_none

  words_then : words_at (stored p (in_map s) offset word) (in_file f) ≡ slice_set (words_at p (in_file f)) offset word
  words_then = stored_read p (in_map s) offset word (in_file f) shares.page in_slot in_its_file

  -- it shares the page still
  pub shares_still : Shares q s f
  shares_still = record {
    way = shares.way;
    is = ap (λ (y : NamedPages). chain (entry_at y.maps) s) is_stored ∙ ap (λ (m : Maps). chain (entry_at m) s) (stored_maps p (in_map s) offset word) ∙ shares.is;
    unmarked = shares.unmarked;
    page = shares.page;
    ends = shares.ends;
    filed = ap (λ (y : NamedPages). map.get y.files f) is_stored ∙ ap (λ (m : map.FinMap _ PageName). map.get m f) (stored_files p (in_map s) offset word) ∙ shares.filed;
  }

  module _ (w : AreWhole p) (below : offset < PAGE_WORDS) where
    stored_takes : TakesWord p (stored p (in_map s) offset word) f offset word
    stored_takes = record {
      put = ap (λ (ws : List ℕ). slice_index ws offset) words_then ∙ get_or-set_same (words_at p (in_file f)) offset word 0 (omega (arith, below, page_fits nat_list_cmp_total p w (page_at p (in_file f))));
      kept = λ at ne. ap (λ (ws : List ℕ). slice_index ws at) words_then ∙ get_or-set_other (words_at p (in_file f)) offset at word 0 ne;
      files = stored_files p (in_map s) offset word;
      others = λ g other. stored_other p (in_map s) offset word (in_file g) (λ e. other (e ∙ in_slot ∙ sym in_its_file));
    }

    pub shared_takes : TakesWord p q f offset word
    shared_takes = subst (λ (y : NamedPages). TakesWord p y f offset word) (sym is_stored) stored_takes

-- a write through an entry that names a page makes nothing, where it has the right and no copy mark
module _ (p : NamedPages) (owner : Tty) (s : Slot) (n : PageName) (a : Access) (h : entry_at p.maps s ≡ Some (Names n a)) (right : a.w ≡ true) (unmarked : a.c ≡ false) where
  makes_nothing : makings p (in_map s) Write ≡ Some []
  unfolding makings
  makes_nothing = ap (option_and_then (along_chain Write)) (named_chain (entry_at p.maps) s n a h) ∙ ap (λ b. listed b a.w) unmarked ∙ ap (listed false) right
    where
      listed : Bool → Bool → Option (List (Making (List ℕ)))
      listed c w = if cond c true (w && true) then Some ([] ++ copy_in (single_link s a (Some n)) (cond c (Some (record { slot = s; access = a })) None)) else None

  pub goes_at_once : (offset word : ℕ) → Writes p (stored p (in_map s) offset word) owner s offset word
  goes_at_once offset word = (p, reference_stays p owner (in_map s) Write makes_nothing, refl)
