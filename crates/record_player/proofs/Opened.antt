-- A record that is played from the opening state.
use Rattle.std.proofs.Common.{◌≡◌, ◌≢◌, ℕ, ◌+◌, ◌<◌, ◌≤◌, List, [], ◌++◌, length, replicate, refl, sym, ◌∙◌, ap, subst, arith}
use Rattle.std.specs.Prelude.{Option, Some, Ok, Err}
use Rattle.std.specs.Option.{unwrap_or}
use Rattle.std.proofs.lemmas.List.{get_or-replicate, length-replicate}
use Rattle.outside.specs.Drums.{IsPage}
use Rattle.machine_names.specs.PageWords.{zero_words}
use Rattle.script_texts.specs.Taker.{max_steps}
use Rattle.script_texts.proofs.Takers.{goes_on_nil}
use Rattle.plain_model.specs.State.{opening}
use Rattle.plain_model.specs.Run.{items_of, state_after}
use Rattle.page_contracts.specs.DrumWords.{DrumWords}
use Rattle.page_contracts.specs.Stores.{FitsHomes, free}
use Rattle.flat_pages.proofs.StoredPlaces.{zeros_fit}
use Rattle.monitor_core.specs.declared.system.System.{System}
use Rattle.event_items.specs.Giving.{Standing}
use Rattle.record_reader.specs.declared.reader.NextStep.{NextStep}
use Rattle.record_player.specs.declared.replay_end.ReplayEnd.{ReplayEnd}
use Rattle.record_player.specs.declared.replay_end.ReplayEnd.TheVariants.{Done, Memory}
use Rattle.record_player.specs.Hearing.{size_given}
use Rattle.record_player.specs.Plays.{ArePlayedOf, Handed, Played, Plays, StandsFor, pages_of, start_of}
use Rattle.record_player.specs.Stages.{PlayedOn}

-- a drum of so many pages of zeros
zero_drum : ℕ → DrumWords
zero_drum n = replicate n zero_words

drum_fits : (n : ℕ) → FitsHomes (replicate n free) (zero_drum n)
unfolding zero_drum
drum_fits n = record {
  enough = omega (arith, length-replicate n free, length-replicate n zero_words);
  pages = λ home l. subst IsPage (sym (get_or-replicate n home zero_words [] (omega (arith, l, length-replicate n zero_words)))) zeros_fit;
}

module _ {P T : Type 0} {b : _} (stands cut : Standing T) (m m' : System P b) (out out' : T) (told : Option (List ℕ)) (first : NextStep) (how : ReplayEnd) (asked pages : ℕ)
    (size : pages ≡ unwrap_or (size_given first) asked) (opened : StandsFor m pages (opening pages)) (on : PlayedOn stands cut m m' out out' told first how) where
  pages_are : pages ≡ pages_of asked on.read
  pages_are = size ∙ ap (λ o. unwrap_or o asked) (sym on.size)

  pub to_plays : Plays asked told how
  to_plays =
      let o = opened (zero_drum pages) (drum_fits pages) in
      record {
        read = on.read;
        entries = on.entries;
        right = on.right;
        few = on.few;
        numbered = on.numbered;
        was_read = on.was_read;
        played = subst (λ s. ArePlayedOf how s on.read on.entries) (o.1 ∙ ap opening pages_are) (on.each (zero_drum pages) o.0).played;
      }

  pub to_given : Handed stands cut out out' how (items_of (start_of asked on.read) on.entries) on.entries
  to_given =
      let o = opened (zero_drum pages) (drum_fits pages) in
      subst (λ s. Handed stands cut out out' how (items_of s on.entries) on.entries) (o.1 ∙ ap opening pages_are) (on.each (zero_drum pages) o.0).given

  pub to_left : how ≡ Done → StandsFor m' (pages_of asked on.read) (state_after (start_of asked on.read) on.entries)
  to_left is =
      subst (λ n. StandsFor m' n (state_after (opening n) on.entries)) pages_are
      (λ d homes. let o = opened d homes in let x = on.left is d o.0 in (x.0, x.1 ∙ ap (λ s. state_after s on.entries) o.1))

module _ {P T : Type 0} {b : _} (stands cut : Standing T) (m m' : System P b) (out out' : T) (told : Option (List ℕ)) (first : NextStep) (asked pages : ℕ) (size : pages ≡ unwrap_or (size_given first) asked) (opened : StandsFor m pages (opening pages)) where
  pub played_whole : PlayedOn stands cut m m' out out' told first Done → Played asked told stands cut out out' (Ok m')
  unfolding to_plays to_given to_left
  played_whole on = record {
    plays = to_plays stands cut m m' out out' told first Done asked pages size opened on;
    given = to_given stands cut m m' out out' told first Done asked pages size opened on;
    left = to_left stands cut m m' out out' told first Done asked pages size opened on refl;
  }

  pub played_partly : (how : ReplayEnd) → PlayedOn stands cut m m' out out' told first how → Played {P = P} {b = b} asked told stands cut out out' (Err how)
  unfolding to_plays to_given
  played_partly how on = record {
    plays = to_plays stands cut m m' out out' told first how asked pages size opened on;
    given = to_given stands cut m m' out out' told first how asked pages size opened on;
    left = tt;
  }

-- without memory nothing was played
pub played_none : {P T : Type 0} {b : _} (stands cut : Standing T) (out : T) (asked : ℕ) (told : Option (List ℕ)) → Played {P = P} {b = b} asked told stands cut out out (Err Memory)
played_none stands cut out asked told = record {
  plays = record {
    read = [];
    entries = [];
    right = record { in_order = tt; few = omega arith };
    few = omega arith;
    numbered = tt;
    was_read = λ text is. (text, record { text_is = refl; right = record { in_order = tt; few = omega arith }; short = omega arith });
    played = refl;
  };
  given = goes_on_nil stands out;
  left = tt;
}
