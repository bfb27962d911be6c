-- The image of files, and which texts are images.
use Rattle.std.specs.Prelude.{◌≡◌, ◌≢◌, ℕ, ◌<◌, List, [], ◌∷◌, ◌++◌, length, map as each, Option, None, Some}
use Rattle.std.specs.List.{flat_map}
use Rattle.std.specs.Option.{IfSome}
use Rattle.plain_files.specs.Directory.{ComesBefore}
use Rattle.file_image.specs.Parts.{ImagePage, FileHead, Part, header, head, page, part_bytes, parts_bytes, a_header, IsComplete, MayStand, MayStandAll, FitsHead, FitsPage, awaits_behind}

-- a file with its pages
pub record ImageFile : Type 0 where
  pub name : List ℕ
  pub size : ℕ
  pub length : ℕ
  pub pages : List ImagePage

abbrev pub head_of : ImageFile → FileHead
head_of f = record { name = f.name; size = f.size; length = f.length; pages = length f.pages }

-- the parts of a file, and of all
abbrev pub file_parts : ImageFile → List Part
file_parts f = head (head_of f) ∷ each page f.pages

abbrev pub image_parts : List ImageFile → List Part
image_parts files = header (length files) ∷ flat_map file_parts files

-- THE IMAGE OF FILES
unfoldable pub image : List ImageFile → List ℕ
image files = parts_bytes (image_parts files)

-- a text is the image of these parts
pub record IsImage (text : List ℕ) (parts : List Part) : Type 0 where
  pub whole : text ≡ parts_bytes parts
  pub right : MayStandAll a_header parts
  pub complete : IsComplete (awaits_behind a_header parts)

-- a text is no image: it begins with these parts, and behind them stands none that may, or something where nothing may
pub record IsBadImage (text : List ℕ) (parts : List Part) : Type 0 where
  pub rest : List ℕ
  pub whole : text ≡ parts_bytes parts ++ rest
  pub right : MayStandAll a_header parts
  pub wrong : (p : Part) (more : List ℕ) → rest ≡ part_bytes p ++ more → MayStand (awaits_behind a_header parts) p → ⊥
  pub unwanted : IsComplete (awaits_behind a_header parts) → rest ≢ []

-- pages in the order of their numbers, behind one of a number, if there was one
abbrev pub AreRising : Option ℕ → List ImagePage → Type 0
AreRising last [] = Unit {0}
AreRising last (p ∷ ps) = FitsPage p × IfSome last (λ before. before < p.number) × AreRising (Some p.number) ps

-- files in the order of their names, behind one of a name, if there was one, each within its limits
abbrev pub AreImageFiles : Option (List ℕ) → List ImageFile → Type 0
AreImageFiles last [] = Unit {0}
AreImageFiles last (f ∷ fs) = FitsHead (head_of f) × IfSome last (λ before. ComesBefore before f.name) × AreRising None f.pages × AreImageFiles (Some f.name) fs
