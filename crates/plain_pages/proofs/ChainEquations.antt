-- What the definitions of chains say that do not open by themselves, one equation each.
use Rattle.std.proofs.Common.{◌≡◌, None, Some, refl, ap}
use Rattle.machine_names.specs.declared.names.PageName.{PageName}
use Rattle.machine_names.specs.declared.names.Slot.{Slot}
use Rattle.machine_names.specs.declared.names.Access.{Access}
use Rattle.plain_pages.specs.declared.map.MapEntry.TheVariants.{Names}
use Rattle.plain_pages.specs.Maps.{Entries, single_link, chain_from, chain_within, chain}

module _ (entries : Entries) (s : Slot) where
  -- a chain of an entry that names a page, and of a slot that has none
  pub named_chain : (n : PageName) (a : Access) → entries s ≡ Some (Names n a) → chain entries s ≡ Some (single_link s a (Some n))
  unfolding chain chain_within
  named_chain n a h = ap (λ e. chain_from s e (chain_within 3 entries)) h

  pub no_chain : entries s ≡ None → chain entries s ≡ None
  unfolding chain chain_within
  no_chain h = ap (λ e. chain_from s e (chain_within 3 entries)) h

  pub chain_is_four : chain entries s ≡ chain_within 4 entries s
  unfolding chain
  chain_is_four = refl
