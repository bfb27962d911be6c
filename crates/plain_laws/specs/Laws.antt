-- What laws say of references to pages.
use Rattle.std.specs.Prelude.{◌≡◌, ◌⊎◌, ◌≢◌, ◌≤◌, false, true, Some}
use Rattle.std.specs.declared.cmp.Ordering.{Ordering}
use Rattle.std.specs.FinMap as map
use Rattle.machine_names.specs.declared.names.Tty.{Tty}
use Rattle.machine_names.specs.declared.names.PageName.{PageName}
use Rattle.machine_names.specs.declared.names.Slot.{Slot}
use Rattle.plain_pages.specs.declared.map.MapEntry.TheVariants.{Names}
use Rattle.plain_pages.specs.PlainPages.{PlainPages, page_serial}
use Rattle.plain_pages.specs.Maps.{Link, Chain, chain, entry_at}
use Rattle.plain_pages.specs.References.{in_map, private_access, words_of, words_at}
use Rattle.plain_pages.specs.WholePages.{AreWhole}

-- what makings leave: each slot with a chain reads what it read, and a page that was there is there with its words, or gone
pub record ReadsOn {K : Type 0} {file_cmp : K → K → Ordering} (owner : Tty) (p q : PlainPages file_cmp) : Type 0 where
  pub whole : AreWhole q
  pub later : page_serial p owner ≤ page_serial q owner
  pub words : (s : Slot) (c : Chain) → chain (entry_at p.maps) s ≡ Some c
      → (d : Chain) × (chain (entry_at q.maps) s ≡ Some d) × (words_at q (in_map s) ≡ words_at p (in_map s))
  pub kept : (n : PageName) → map.contains_key p.objects n ≡ true
      → (map.get q.objects n ≡ map.get p.objects n) ⊎ (map.contains_key q.objects n ≡ false)

-- a private copy: a page that was not there before, in a slot, with the words that were read along the chain.
pub record HasCopy {K : Type 0} {file_cmp : K → K → Ordering} (p q : PlainPages file_cmp) (s : Slot) (c : Chain) (l : Link) : Type 0 where
  pub page : PageName
  pub fresh : map.contains_key p.objects page ≡ false
  pub there : entry_at q.maps l.slot ≡ Some (Names page (private_access c))
  pub words : words_of q page ≡ words_at p (in_map s)
  pub others : (t : Slot) → t ≢ l.slot → t ≢ c.end → entry_at q.maps t ≡ entry_at p.maps t
