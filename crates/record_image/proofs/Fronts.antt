-- What was written of an image, where it was handed on, and where it was not.
use Rattle.std.proofs.Common.{◌≡◌, inl, ℕ, List, [], ◌++◌, length, replicate, Option, sym, subst, arith}
use Rattle.std.specs.Prelude.{Result, Ok, Err, OnErr, OnOk}
use Rattle.std.proofs.lemmas.List.{append-nil, get_or-replicate, length-replicate}
use Rattle.outside.specs.Drums.{IsPage}
use Rattle.outside.specs.Told.{Grows, Stays}
use Rattle.machine_names.specs.PageWords.{zero_words}
use Rattle.page_contracts.specs.DrumWords.{DrumWords}
use Rattle.page_contracts.specs.Stores.{FitsHomes, free}
use Rattle.flat_pages.proofs.StoredPlaces.{zeros_fit}
use Rattle.texts.specs.Wrote.{GrowsPartly}
use Rattle.plain_model.specs.Run.{state_after}
use Rattle.monitor_core.specs.declared.system.System.{System}
use Rattle.monitor_core.specs.Systems.{FitsPages, state_of}
use Rattle.file_image.specs.Files.{files_of}
use Rattle.file_image.specs.Images.{image}
use Rattle.record_player.specs.Plays.{Plays, StandsFor, pages_of, start_of}
use Rattle.record_player.specs.declared.replay_end.ReplayEnd.{ReplayEnd}
use Rattle.record_player.specs.declared.replay_end.ReplayEnd.TheVariants.{Done, WriteFault}
use Rattle.record_image.specs.Imaged.{Imaged}

-- all of a text is a front of it
pub whole_is_front : {X E : Type 0} (r : Result X E) (old mid new : Option (List ℕ)) (bytes : List ℕ) → Grows old mid bytes → Stays mid new → OnErr r (GrowsPartly old new bytes)
whole_is_front (Ok x) old mid new bytes grows stays = tt
whole_is_front (Err e) old mid new bytes grows stays = λ xs is. (bytes, [], stays _ (grows xs is), sym (append-nil bytes))

-- a drum of so many pages of zeros
abbrev zero_drum : ℕ → DrumWords
zero_drum n = replicate n zero_words

drum_fits : (n : ℕ) → FitsHomes (replicate n free) (zero_drum n)
drum_fits n = record {
  enough = omega (arith, length-replicate n free, length-replicate n zero_words);
  pages = λ home l. subst IsPage (sym (get_or-replicate n home zero_words [] (omega (arith, l, length-replicate n zero_words)))) zeros_fit;
}

module _ {P : Type 0} {b : _} (asked : ℕ) (told : Option (List ℕ)) (m : System P b) (plays : Plays asked told Done)
    (left : StandsFor m (pages_of asked plays.read) (state_after (start_of asked plays.read) plays.entries)) where
  -- what holds of the state that a system stands for over each drum holds of the last state
  of_left : (Holds : List ℕ → Type 0) → ((d : DrumWords) → FitsPages m d → Holds (image (files_of (state_of m d)))) → Holds (image (files_of (state_after (start_of asked plays.read) plays.entries)))
  of_left Holds h =
      let drum = zero_drum (pages_of asked plays.read) in
      let stands = left drum (drum_fits (pages_of asked plays.read)) in
      subst (λ s. Holds (image (files_of s))) stands.1 (h drum stands.0)

  -- the image of its files was written, or a front of it
  pub imaged : {X E : Type 0} (r : Result X E) (end : ReplayEnd) (out out' : Option (List ℕ))
      → ((d : DrumWords) → FitsPages m d → OnOk r (Grows out out' (image (files_of (state_of m d)))))
      → ((d : DrumWords) → FitsPages m d → OnErr r (GrowsPartly out out' (image (files_of (state_of m d)))))
      → OnOk r (end ≡ Done) → OnErr r (end ≡ WriteFault) → Imaged asked told end out out'
  imaged (Ok x) end out out' whole front done failed =
      subst (λ how. Imaged asked told how out out') (sym done) (record { plays = plays; written = of_left (Grows out out') whole })
  imaged (Err e) end out out' whole front done failed =
      subst (λ how. Imaged asked told how out out') (sym failed) (inl (record { plays = plays; written = of_left (GrowsPartly out out') front }))
