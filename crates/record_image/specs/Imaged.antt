-- What is written where the image of a record's files is asked for, on each way in which that ends.
use Rattle.std.specs.Prelude.{◌⊎◌, ◌≢◌, ℕ, List, Option}
use Rattle.outside.specs.Told.{Grows}
use Rattle.plain_model.specs.Run.{state_after}
use Rattle.texts.specs.Wrote.{GrowsPartly, WrotePartly}
use Rattle.file_image.specs.Files.{files_of}
use Rattle.file_image.specs.Images.{ImageFile, image}
use Rattle.record_player.specs.Plays.{Plays, start_of}
use Rattle.record_player.specs.Replays.{end_text}
use Rattle.record_player.specs.declared.replay_end.ReplayEnd.{ReplayEnd}
use Rattle.record_player.specs.declared.replay_end.ReplayEnd.TheVariants.{Done, WriteFault}

-- the files that the entries leave which were played
abbrev pub files_left : {asked : ℕ} {told : Option (List ℕ)} {how : ReplayEnd} → Plays asked told how → List ImageFile
files_left {asked} plays = files_of (state_after (start_of asked plays.read) plays.entries)

-- all entries were played, and the sink took the image of the files that they leave
pub record WritesImage (asked : ℕ) (told out out' : Option (List ℕ)) : Type 0 where
  pub plays : Plays asked told Done
  pub written : Grows out out' (image (files_left plays))

-- not all were, and the sink took the line that tells why, and nothing else
pub record WritesWhy (asked : ℕ) (told : Option (List ℕ)) (how : ReplayEnd) (out out' : Option (List ℕ)) : Type 0 where
  pub plays : Plays asked told how
  pub written : Grows out out' (end_text how)

-- the sink failed within the image
pub record CutImage (asked : ℕ) (told out out' : Option (List ℕ)) : Type 0 where
  pub plays : Plays asked told Done
  pub written : GrowsPartly out out' (image (files_left plays))

-- the sink failed within that line
pub record CutWhy (asked : ℕ) (told out out' : Option (List ℕ)) : Type 0 where
  pub how : ReplayEnd
  pub not_done : how ≢ Done
  pub plays : Plays asked told how
  pub written : WrotePartly out out' (end_text how)

-- IMAGE: what it wrote, on each way in which it ends
abbrev pub Imaged : ℕ → Option (List ℕ) → ReplayEnd → (out out' : Option (List ℕ)) → Type 0
Imaged asked told Done out out' = WritesImage asked told out out'
Imaged asked told WriteFault out out' = CutImage asked told out out' ⊎ CutWhy asked told out out'
Imaged asked told how out out' = WritesWhy asked told how out out'
