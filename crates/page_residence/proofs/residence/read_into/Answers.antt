use Rattle.std.proofs.Common.{◌≡◌, ◌∙◌, ap, List, [], ℕ, length, is_some, true, arith, rules}
use Rattle.std.proofs.lemmas.List.{get_or-set_same}
use Rattle.frame_table.specs.Core.{Core, with_words, words_of}
use Rattle.page_residence.proofs.Steps.{held_changed, taken_home}
use Rattle.page_residence.proofs.Seating.{home_below}
use Rattle.page_residence.specs.Resident.{seat}
use Rattle.page_residence.proofs.residence.read_into.Goals as goal

pub returns-clause-frames : goal.returns-clause-frames
returns-clause-frames g c = (c.read-done.new.words, rw (c.release.ensures, c.hold-hold.ensures.held, c.hold-hold.ensures.frame) (held_changed c.args.frames.now c.args.f.0 c.read-done.new.words (search rules)))

words_read : (c : Core) (f : ℕ) (ws : List ℕ) → length c.words ≡ length c.seats → is_some (seat c.seats f) ≡ true → (d : Core) → d ≡ with_words c f ws → words_of d f ≡ ws
words_read c f ws worded some d is = ap (λ (e : Core). words_of e f) is ∙ get_or-set_same c.words f ws [] (let own = taken_home c.seats f some in omega (arith, home_below c.seats f own.0 own.1, worded))

pub returns-clause-page : goal.returns-clause-page
unfolding returns-clause-frames
returns-clause-page g c = rw (words_read c.args.frames.now c.args.f.0 c.read-done.new.words c.requires.worded (search (rules, c.requires.taken)) c.release.new.self (returns-clause-frames g c).1) c.read-done.ensures.page

pub returns-clause-words : goal.returns-clause-words
unfolding returns-clause-frames
returns-clause-words g c = rw (words_read c.args.frames.now c.args.f.0 c.read-done.new.words c.requires.worded (search (rules, c.requires.taken)) c.release.new.self (returns-clause-frames g c).1) c.read-done.ensures.words
