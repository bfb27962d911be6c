-- The parts of an image, as bytes, and which part may stand where. In each number the highest byte stands first.
use Rattle.std.specs.Prelude.{◌≡◌, ℕ, zero, suc, ◌<◌, ◌≤◌, ◌^◌, List, [], ◌∷◌, ◌++◌, length, codes, All, Option, None, Some}
use Rattle.std.specs.List.{flat_map}
use Rattle.std.specs.Option.{IfSome}
use Rattle.byteorder.specs.Endian.{big_bytes}
use Rattle.outside.specs.declared.TheConstants.{PAGE_WORDS}
use Rattle.machine_names.specs.declared.names.TheConstants.{MOST_FILES, FILE_PAGES}
use Rattle.machine_names.specs.Bounds.{IsFileName}
use Rattle.plain_files.specs.Bytes.{IsByteSize, most_bytes}
use Rattle.plain_files.specs.Directory.{ComesBefore}

-- a page of a file: its number in the file, and its words
pub record ImagePage : Type 0 where
  pub number : ℕ
  pub words : List ℕ

-- a file but for its pages, and how many these are
pub record FileHead : Type 0 where
  pub name : List ℕ
  pub size : ℕ
  pub length : ℕ
  pub pages : ℕ

-- a part: how many files there are; the head of a file; a page
pub data Part : Type 0 where
  header : ℕ → Part
  head : FileHead → Part
  page : ImagePage → Part

abbrev pub part_bytes : Part → List ℕ
part_bytes (header files) = codes "TENEXIM1" ++ big_bytes 4 files
part_bytes (head h) = length h.name ∷ (h.name ++ h.size ∷ (big_bytes 8 h.length ++ big_bytes 2 h.pages))
part_bytes (page p) = big_bytes 2 p.number ++ flat_map (big_bytes 8) p.words

abbrev pub parts_bytes : List Part → List ℕ
parts_bytes parts = flat_map part_bytes parts

-- what is awaited behind some parts: the header; so many files, behind one of a name, if there was one; so many pages, behind one of a
-- number, if there was one, and then so many files, behind this one of a name
pub data Awaits : Type 0 where
  a_header : Awaits
  files_more : ℕ → Option (List ℕ) → Awaits
  pages_more : ℕ → Option ℕ → ℕ → List ℕ → Awaits

-- when all is there
abbrev pub IsComplete : Awaits → Type 0
IsComplete (files_more zero last) = Unit {0}
IsComplete awaits = ⊥

-- what is awaited where so many pages of a file are
abbrev pub behind_page : ℕ → Option ℕ → ℕ → List ℕ → Awaits
behind_page zero last files name = files_more files (Some name)
behind_page (suc pages) last files name = pages_more (suc pages) last files name

abbrev pub awaits_after : Awaits → Part → Awaits
awaits_after a_header (header files) = files_more files None
awaits_after (files_more (suc files) last) (head h) = behind_page h.pages None files h.name
awaits_after (pages_more (suc pages) last files name) (page p) = behind_page pages (Some p.number) files name
awaits_after awaits part = awaits

-- the head of a file is within the limits of files
pub record FitsHead (h : FileHead) : Type 0 where
  pub name : IsFileName h.name
  pub size : IsByteSize h.size
  pub room : h.length ≤ most_bytes h.size
  pub few : h.pages ≤ FILE_PAGES

-- a page has its number in a file, and its words
pub record FitsPage (p : ImagePage) : Type 0 where
  pub below : p.number < FILE_PAGES
  pub whole : length p.words ≡ PAGE_WORDS
  pub small : All (λ w. w < 2 ^ 36) p.words

-- a part may stand where this is awaited: files in the order of their names, and pages in that of their numbers
abbrev pub MayStand : Awaits → Part → Type 0
MayStand a_header (header files) = files ≤ MOST_FILES
MayStand (files_more (suc files) last) (head h) = FitsHead h × IfSome last (λ before. ComesBefore before h.name)
MayStand (pages_more (suc pages) last files name) (page p) = FitsPage p × IfSome last (λ before. before < p.number)
MayStand awaits part = ⊥

-- each part may stand where it stands
abbrev pub MayStandAll : Awaits → List Part → Type 0
MayStandAll awaits [] = Unit {0}
MayStandAll awaits (p ∷ ps) = MayStand awaits p × MayStandAll (awaits_after awaits p) ps

abbrev pub awaits_behind : Awaits → List Part → Awaits
awaits_behind awaits [] = awaits
awaits_behind awaits (p ∷ ps) = awaits_behind (awaits_after awaits p) ps
