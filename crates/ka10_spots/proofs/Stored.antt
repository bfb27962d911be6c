-- What a word that is stored leaves, and what units lose of what is queued and held.
use Rattle.std.proofs.Common.{◌≡◌, ℕ, Option, None, Some, refl}
use Rattle.std.specs.Prelude.{slice_set}
use Rattle.std.specs.Option.{option_map_or}
use Rattle.std.specs.FinMap as map
use Rattle.machine_names.specs.declared.names.PageName.{PageName}
use Rattle.machine_names.specs.declared.names.Kind.{Kind}
use Rattle.plain_pages.specs.PlainPages.{NumberedPages}
use Rattle.plain_pages.specs.References.{Spot, makings, page_at, stored, words_of}
use Rattle.page_contracts.specs.Pages.{PagesMeaning, MayLose}
use Rattle.page_contracts.specs.Stores.{traffic}
use Rattle.page_contracts.proofs.Losing.{loses_nothing, loses_on}

-- a word that is stored changes no entry
pub makings_stored : (q : NumberedPages) (at other : Spot ℕ) (offset word : ℕ) (kind : Kind) → makings (stored q at offset word) other kind ≡ makings q other kind
unfolding makings
makings_stored q at other offset word kind = by (page_at q at)
  where
    by : (n : Option PageName) → makings (option_map_or (λ m. record q { objects = map.insert q.objects m (slice_set (words_of q m) offset word) }) n q) other kind ≡ makings q other kind
    by None = refl
    by (Some n) = refl

module _ {P : Type 0} (means : PagesMeaning P) where
  pub lost_none : (s : P) → MayLose means s s
  lost_none s = loses_nothing (traffic means.store s)

  pub lost_on : (r s t : P) → MayLose means r s → MayLose means s t → MayLose means r t
  lost_on r s t = loses_on (traffic means.store r) (traffic means.store s) (traffic means.store t)
