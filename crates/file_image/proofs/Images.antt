-- The image of files is an image, of one list of parts.
use Rattle.std.proofs.Common.{◌≡◌, ℕ, ◌≤◌, List, [], ◌∷◌, ◌++◌, length, map as each, Option, None, Some, refl, sym, ◌∙◌}
use Rattle.std.specs.List.{flat_map}
use Rattle.machine_names.specs.declared.names.TheConstants.{MOST_FILES}
use Rattle.file_image.specs.Parts.{ImagePage, Part, page, Awaits, a_header, files_more, behind_page, awaits_behind, IsComplete, MayStandAll}
use Rattle.file_image.specs.Images.{ImageFile, AreRising, AreImageFiles, file_parts, image_parts, image, IsImage, IsBadImage}
use Rattle.file_image.proofs.Parts.{one_list_of_parts, never_bad}

-- parts that may all stand, and with which all is there
abbrev IsWhole : Awaits → List Part → Type 0
IsWhole awaits parts = MayStandAll awaits parts × IsComplete (awaits_behind awaits parts)

pages_stand : (ps : List ImagePage) (last : Option ℕ) (files : ℕ) (name : List ℕ) (rest : List Part) → AreRising last ps → IsWhole (files_more files (Some name)) rest
    → IsWhole (behind_page (length ps) last files name) (each page ps ++ rest)
pages_stand [] last files name rest rising whole = whole
pages_stand (p ∷ ps) last files name rest rising whole = let later = pages_stand ps (Some p.number) files name rest rising.2 whole in (((rising.0, rising.1), later.0), later.1)

files_stand : (fs : List ImageFile) (last : Option (List ℕ)) → AreImageFiles last fs → IsWhole (files_more (length fs) last) (flat_map file_parts fs)
files_stand [] last are = (tt, tt)
files_stand (f ∷ fs) last are =
    let later = pages_stand f.pages None (length fs) f.name (flat_map file_parts fs) are.2 (files_stand fs (Some f.name) are.3) in
    (((are.0, are.1), later.0), later.1)

pub is_image : (files : List ImageFile) → AreImageFiles None files → length files ≤ MOST_FILES → IsImage (image files) (image_parts files)
unfolding image
is_image files are few = let stand = files_stand files None are in record { whole = refl; right = (few, stand.0); complete = stand.1 }

pub images_apart : (text : List ℕ) (ps qs : List Part) → IsImage text ps → IsImage text qs → ps ≡ qs
images_apart text ps qs i j = one_list_of_parts a_header ps qs i.right i.complete j.right j.complete (sym i.whole ∙ j.whole)

pub images_not_bad : (text : List ℕ) (ps qs : List Part) → IsImage text ps → IsBadImage text qs → ⊥
images_not_bad text ps qs i b = never_bad a_header ps qs b.rest i.right i.complete b.right (sym i.whole ∙ b.whole) b.wrong b.unwanted
