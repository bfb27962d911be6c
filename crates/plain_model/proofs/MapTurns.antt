-- What a turn of a call on maps leaves: whole pages, with room for all, and the same forks.
use Rattle.std.proofs.Common.{◌≡◌, ◌≤◌, ℕ, List, Bool, true, false, cond, Option, None, Some, refl, sym, ◌∙◌, ap, arith, Ordering}
use Rattle.std.specs.Prelude.{◌==◌}
use Rattle.std.specs.Option.{option_map_or, option_and_then}
use Rattle.std.specs.FinMap as map
use Rattle.plain_model.specs.declared.call.End.{End}
use Rattle.plain_model.specs.declared.call.End.TheVariants.{Done, Waits, Halts, Refused, Failed, Trap}
use Rattle.plain_model.specs.declared.call.MapChange.{MapChange}
use Rattle.plain_model.specs.declared.call.MapChange.TheVariants.{Nothing, Unmap, Follow, Narrow, Map, Put, Drop}
use Rattle.std.specs.Cmp.{IsTotalOrder}
use Rattle.machine_names.specs.declared.names.Access.{Access}
use Rattle.machine_names.specs.declared.names.ForkName.{ForkName}
use Rattle.machine_names.specs.declared.names.PageName.{PageName}
use Rattle.machine_names.specs.declared.names.Slot.{Slot}
use Rattle.plain_pages.specs.declared.map.MapEntry.{MapEntry}
use Rattle.plain_pages.specs.declared.map.MapEntry.TheVariants.{Empty, Names, Follows}
use Rattle.plain_pages.specs.PlainPages.{PlainPages, Maps, refiled}
use Rattle.machine_names.specs.Orders.{FilePage, file_page_cmp}
use Rattle.plain_pages.specs.Maps.{Chain, chain, chain_within, entry_at, set_entry, narrow}
use Rattle.plain_pages.specs.Room.{page_in, uses, live}
use Rattle.plain_pages.specs.References.{in_map, page_at, drop_unnamed, with_entry, with_changed}
use Rattle.plain_pages.specs.FilePages.{files_with, with_file}
use Rattle.plain_pages.specs.WholePages.{AreWhole}
use Rattle.plain_model.specs.Calls.{parts_behind}
use Rattle.plain_model.specs.MapCalls.{entry_for, keyed, map_changed}
use Rattle.plain_pages.proofs.Chains.{keys_set}
use Rattle.plain_pages.proofs.Ends.{chain_named}
use Rattle.plain_pages.proofs.FilesKept.{filed_files, filed_maps, filed_still, filed_whole, live_filed}
use Rattle.plain_pages.proofs.Kept.{old_there, entry_kept, entry_maps, entry_whole, file_there, live_entry, narrow_page}
use Rattle.plain_pages.proofs.Refiled.{NameAlike, entry_refiled}

-- the page at the end of a chain is there
chain_there : {K : Type 0} {file_cmp : K → K → Ordering} (p : PlainPages file_cmp) → AreWhole p → (s : Slot) (n : PageName) → page_at p (in_map s) ≡ Some n → map.contains_key p.objects n ≡ true
unfolding page_at chain
chain_there p w s n h = by (chain_within 4 (entry_at p.maps) s) refl h
  where
    by : (c : Option Chain) → chain_within 4 (entry_at p.maps) s ≡ c → option_and_then (λ c. c.page) c ≡ Some n → map.contains_key p.objects n ≡ true
    by None is g = absurd (cc g)
    by (Some c) is g = let m = chain_named 4 (entry_at p.maps) s c n is g in old_there p w c.end (Names n m.0) Empty m.1 n refl

module _ {K : Type 0} {file_cmp : K → K → Ordering} (key : List ℕ → K) (p : PlainPages file_cmp) where
  -- what files name behind a change
  abbrev pub files_behind : MapChange → map.FinMap (file_page_cmp file_cmp) PageName
  files_behind (Put name page s) = files_with p (keyed key name page) (page_at p (in_map s))
  files_behind (Drop name page) = files_with p (keyed key name page) None
  files_behind what = p.files

  -- whole pages, of as many forks, which are no more, and of which files name these
  pub record StaysWhole (named : map.FinMap (file_page_cmp file_cmp) PageName) (q : PlainPages file_cmp) : Type 0 where
    pub whole : AreWhole q
    pub room : live q ≤ live p
    pub limit : q.limit ≡ p.limit
    pub files : q.files ≡ named
    pub keys : (f : ForkName) → map.contains_key q.maps f ≡ map.contains_key p.maps f

module _ {K : Type 0} {file_cmp : K → K → Ordering} (o : IsTotalOrder file_cmp) (same : map.IsAntisymmetric file_cmp) (key : List ℕ → K) (p : PlainPages file_cmp) (w : AreWhole p) where
  as_it_was : StaysWhole key p p.files p
  as_it_was = record { whole = w; room = omega arith; limit = refl; files = refl; keys = λ f. refl }

  -- another entry, which names a page that is there
  with_other : (s : Slot) (e y : MapEntry) → entry_at p.maps s ≡ Some e → ((n : PageName) → page_in y ≡ Some n → map.contains_key p.objects n ≡ true) → StaysWhole key p p.files (with_entry p s y)
  with_other s e y h there =
      let kept = entry_kept p w s e y h in
      record {
        whole = entry_whole p w s e y h there;
        room = omega (arith, live_entry p w s e y h there);
        limit = kept.limit;
        files = kept.files;
        keys = λ f. ap (λ (m : Maps). map.contains_key m f) (entry_maps p w s e y h) ∙ keys_set p.maps s e y h f;
      }

  where_changed : (s : Slot) (change : MapEntry → MapEntry) → ((e : MapEntry) → entry_at p.maps s ≡ Some e → (n : PageName) → page_in (change e) ≡ Some n → map.contains_key p.objects n ≡ true) → StaysWhole key p p.files (with_changed p s change)
  where_changed s change there = by (entry_at p.maps s) refl
    where
      by : (x : Option MapEntry) → entry_at p.maps s ≡ x → StaysWhole key p p.files (option_map_or (λ e. with_entry p s (change e)) x p)
      by None h = as_it_was
      by (Some e) h = with_other s e (change e) h (there e h)

  -- the page that an entry named is there, and so is that which a file names
  named_there : (s : Slot) (e : MapEntry) → entry_at p.maps s ≡ Some e → (n : PageName) → page_in e ≡ Some n → map.contains_key p.objects n ≡ true
  named_there s e h n is = old_there p w s e Empty h n is

  filed_there : (s : Slot) (f : FilePage K) (a : Access) (e : MapEntry) → entry_at p.maps s ≡ Some e → (n : PageName) → page_in (entry_for a e (map.get p.files f)) ≡ Some n → map.contains_key p.objects n ≡ true
  filed_there s f a e h n is = by (map.get p.files f) refl is
    where
      by : (m : Option PageName) → map.get p.files f ≡ m → page_in (entry_for a e m) ≡ Some n → map.contains_key p.objects n ≡ true
      by None g is = named_there s e h n is
      by (Some m) g is = let one : m ≡ n = cc is in file_there p w f n (g ∙ ap Some one)

  -- another page of a file
  with_page : (f : FilePage K) (n : Option PageName) → ((m : PageName) → n ≡ Some m → map.contains_key p.objects m ≡ true) → StaysWhole key p (files_with p f n) (with_file p f n)
  with_page f n there = record {
    whole = filed_whole o same p f n w there;
    room = live_filed o same p f n w there;
    limit = (filed_still o same p f n w).limit;
    files = filed_files o same p f n;
    keys = λ g. ap (λ (m : Maps). map.contains_key m g) (filed_maps o same p f n);
  }

  -- A CHANGE LEAVES WHOLE PAGES WHOLE
  pub change_whole : (what : MapChange) → StaysWhole key p (files_behind key p what) (map_changed key what p)
  unfolding map_changed
  change_whole Nothing = as_it_was
  change_whole (Unmap s) = where_changed s (λ e. Empty) (λ e h n is. absurd (cc is))
  change_whole (Follow s t a) = where_changed s (λ e. Follows t.fork.serial t.page a) (λ e h n is. absurd (cc is))
  change_whole (Narrow s a) = where_changed s (narrow a) (λ e h n is. named_there s e h n (sym (narrow_page a e) ∙ is))
  change_whole (Map s name page a) = where_changed s (λ e. entry_for a e (map.get p.files (keyed key name page))) (filed_there s (keyed key name page) a)
  change_whole (Put name page s) = with_page (keyed key name page) (page_at p (in_map s)) (chain_there p w s)
  change_whole (Drop name page) = with_page (keyed key name page) None (λ m is. absurd (cc is))

-- what a turn leaves, which made pages and then changed them, is whole and has room, where what it made is whole and has
module _ {K : Type 0} {file_cmp : K → K → Ordering} (o : IsTotalOrder file_cmp) (same : map.IsAntisymmetric file_cmp) (key : List ℕ → K) (old made : PlainPages file_cmp) (was : AreWhole old) (few : live old ≤ old.limit)
    (now : AreWhole made) (few_made : live made ≤ made.limit) (as_many : made.limit ≡ old.limit) (same_forks : (f : ForkName) → map.contains_key made.maps f ≡ map.contains_key old.maps f) where
  -- what files name behind the end of a turn
  abbrev pub files_left : End MapChange → map.FinMap (file_page_cmp file_cmp) PageName
  files_left (Done what regs out post) = files_behind key made what
  files_left e = old.files

  pub record LeavesWhole (e : End MapChange) (q : PlainPages file_cmp) : Type 0 where
    pub whole : AreWhole q
    pub room : live q ≤ q.limit
    pub limit : q.limit ≡ old.limit
    pub files : q.files ≡ files_left e
    pub keys : (f : ForkName) → map.contains_key q.maps f ≡ map.contains_key old.maps f

  -- A TURN LEAVES WHOLE PAGES WHOLE
  pub turn_whole : (e : End MapChange) → LeavesWhole e (parts_behind (map_changed key) old made e)
  unfolding parts_behind
  turn_whole (Done what regs out post) =
      let s = change_whole o same key made now what in
      record { whole = s.whole; room = omega (arith, s.room, s.limit, few_made); limit = s.limit ∙ as_many; files = s.files; keys = λ f. s.keys f ∙ same_forks f }
  turn_whole (Waits on) = record { whole = was; room = few; limit = refl; files = refl; keys = λ f. refl }
  turn_whole Halts = record { whole = was; room = few; limit = refl; files = refl; keys = λ f. refl }
  turn_whole (Refused code) = record { whole = was; room = few; limit = refl; files = refl; keys = λ f. refl }
  turn_whole (Failed code) = record { whole = was; room = few; limit = refl; files = refl; keys = λ f. refl }
  turn_whole (Trap channel) = record { whole = was; room = few; limit = refl; files = refl; keys = λ f. refl }

module _ {K : Type 0} {file_cmp : K → K → Ordering} (p : PlainPages file_cmp) where
  entry_leaves : (s : Slot) (e : MapEntry) → (with_entry p s e).files ≡ p.files
  unfolding with_entry
  entry_leaves s e = by (option_and_then page_in (entry_at p.maps s))
    where
      q : PlainPages file_cmp
      q = record p { maps = set_entry p.maps s e }

      dropped : (n : PageName) (b : Bool) → (cond b (record q { objects = map.remove q.objects n }) q).files ≡ p.files
      dropped n true = refl
      dropped n false = refl

      by : (n : Option PageName) → (option_map_or (drop_unnamed q) n q).files ≡ p.files
      by None = refl
      by (Some n) = dropped n (uses q n == 0)

  pub changed_leaves : (s : Slot) (change : MapEntry → MapEntry) → (with_changed p s change).files ≡ p.files
  changed_leaves s change = by (entry_at p.maps s)
    where
      by : (o : Option MapEntry) → (option_map_or (λ e. with_entry p s (change e)) o p).files ≡ p.files
      by None = refl
      by (Some e) = entry_leaves s (change e)

module _ {K L : Type 0} {file_cmp : K → K → Ordering} (other_cmp : L → L → Ordering) (files : map.FinMap (file_page_cmp other_cmp) PageName) (p : PlainPages file_cmp) where
  pub changed_refiled : NameAlike other_cmp p files → (s : Slot) (change : MapEntry → MapEntry) → with_changed (refiled other_cmp p files) s change ≡ refiled other_cmp (with_changed p s change) files
  changed_refiled alike s change = by (entry_at p.maps s)
    where
      by : (o : Option MapEntry) → option_map_or (λ e. with_entry (refiled other_cmp p files) s (change e)) o (refiled other_cmp p files) ≡ refiled other_cmp (option_map_or (λ e. with_entry p s (change e)) o p) files
      by None = refl
      by (Some e) = entry_refiled other_cmp files p s (change e) alike
