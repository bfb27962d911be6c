-- Where the pages of a plain state are, over the words of a drum.
use Rattle.std.specs.Prelude.{◌≡◌, ◌⊎◌, ℕ, ◌<◌, ◌≤◌, List, length, Contains, true}
use Rattle.std.specs.FinMap as map
use Rattle.machine_names.specs.declared.names.PageName.{PageName}
use Rattle.outside.specs.Drums.{page_at}
use Rattle.page_contracts.specs.DrumWords.{DrumWords}
use Rattle.plain_model.specs.State.{PlainState}
use Rattle.plain_pages.specs.References.{words_of}

-- ALL PAGES BUT SO MANY stand on a drum, word for word, each on a page of the drum that is its own.
pub record AreOnDrum (frames : ℕ) (s : PlainState) (d : DrumWords) : Type 0 where
  pub home : PageName → ℕ
  pub below : (n : PageName) → map.contains_key s.pages.objects n ≡ true → home n < s.pages.limit
  pub apart : (n m : PageName) → map.contains_key s.pages.objects n ≡ true → map.contains_key s.pages.objects m ≡ true → home n ≡ home m → n ≡ m
  pub elsewhere : List PageName
  pub few : length elsewhere ≤ frames
  pub there : (n : PageName) → map.contains_key s.pages.objects n ≡ true → Contains elsewhere n ⊎ (words_of s.pages n ≡ page_at d (home n))
