-- The parts of a character, one behind the other, are the character.
use Rattle.std.proofs.Common.{◌≡◌, ℕ, zero, suc, ◌-◌, List, [], ◌++◌, Option, None, Some, append_assoc, refl, sym, ◌∙◌, ap, subst, arith}
use Rattle.std.specs.Option.{option_map_or}
use Rattle.std.specs.FinMap as fin
use Rattle.std.proofs.lemmas.List.{append-nil}
use Rattle.ka10_spots.proofs.Stored.{lost_on}
use Rattle.deed_laws.proofs.Characters.{characters}
use Rattle.event_deeds.specs.Deeds.{DeedEffect, all_done, begun, deed, deeds, for_job, goes_on, killed_fork, most_deeds, one_killed, over, purpose_done}
use Rattle.event_deeds.specs.Leaves.{last_below}
use Rattle.event_deeds.specs.Showings.{showing_items}
use Rattle.event_deeds.specs.declared.answer.Answer.{Answer}
use Rattle.event_deeds.specs.declared.answer.Showing.{Showing}
use Rattle.event_deeds.specs.declared.answer.Showing.TheVariants.{Reply, Echo, Told}
use Rattle.event_deeds.specs.declared.deed.Deed.{Deed}
use Rattle.event_deeds.specs.declared.deed.Deed.TheVariants.{Begin, End, Kill, Outer, Typed}
use Rattle.event_deeds.specs.declared.deed.Purpose.{Purpose}
use Rattle.event_deeds.specs.declared.deed.Purpose.TheVariants.{Run}
use Rattle.plain_model.specs.Commands.{start_address, told as told_why}
use Rattle.std.specs.Prelude.{codes}
use Rattle.fork_tree.specs.Trees.{IsTree}
use Rattle.machine_names.specs.declared.character.TheConstants.{LINE_END}
use Rattle.machine_names.specs.declared.names.PageName.{PageName}
use Rattle.machine_names.specs.declared.names.Tty.{Tty}
use Rattle.page_contracts.specs.DrumWords.{DrumWords}
use Rattle.plain_pages.specs.References.{page_at}
use Rattle.plain_model.specs.FileEvents.{page_named}
use Rattle.plain_model.specs.Forks.{ForkMap}
use Rattle.plain_model.specs.State.{PlainJob, PlainState}
use Rattle.plain_model.specs.TypeEvents.{echo, typed_at}
use Rattle.plain_model.specs.Unit.{Effect}
use Rattle.plain_model.specs.declared.fork.Fork.{Fork}
use Rattle.script_texts.specs.declared.event.Item.{Item}
use Rattle.step_shown.specs.Echoes.{echo_items, told_items}
use Rattle.monitor_core.specs.Reaching.{ChangesJob}
use Rattle.monitor_typing.specs.Reaching.{PartReaches}
use Rattle.step_shown.specs.declared.echo.Echo.{Echo as Echoed}
use Rattle.step_shown.specs.declared.echo.Echo.TheVariants.{Ends}
use Rattle.step_shown.specs.declared.echo.Told.{Told as Printed}
use Rattle.step_shown.specs.declared.echo.Told.TheVariants.{Nothing as Silent}
use Rattle.monitor_core.specs.declared.system.System.{System}
use Rattle.monitor_typing.specs.Deeds.{Does, IsBehind, IsPrinted, IsShownSo, PartPrints, Prints, effect_of}
use Rattle.monitor_typing.specs.Effects.{Has}
use Rattle.monitor_core.specs.Systems.{FitsPages, state_of}
use Rattle.monitor_typing.proofs.HasDone.{has_as, has_left}
use Rattle.job_forks.proofs.Places.{came_itself}

-- the deeds behind one
abbrev later : ℕ → Option Deed → PlainState → Effect
later n next s = option_map_or (deeds n s) next (record { state = s; items = [] })

abbrev both : Effect → (PlainState → Effect) → Effect
both e g = record { state = (g e.state).state; items = e.items ++ (g e.state).items }

pub none_left : (s : PlainState) (d : Deed) → deeds zero s d ≡ record { state = s; items = [] }
unfolding deeds
none_left s d = refl

one_more : (n : ℕ) (s : PlainState) (d : Deed) → deeds (suc n) s d ≡ both (effect_of (deed s d)) (later n (deed s d).next)
unfolding deeds
one_more n s d = refl

deeds_from : (left : ℕ) (s : PlainState) (d : Deed) → (left ≡ 0 → ⊥) → deeds left s d ≡ both (effect_of (deed s d)) (later (left - 1) (deed s d).next)
deeds_from left s d some = let is : left ≡ suc (left - 1) = omega (arith, some) in ap (λ n. deeds n s d) is ∙ one_more (left - 1) s d

-- a part of a command that another follows shows nothing
module _ (s : PlainState) (t : Tty) (next : Deed) where
  abbrev Quiet : DeedEffect → Type 0
  Quiet e = e.next ≡ Some next → e.items ≡ []

  of_job : (act : PlainJob → DeedEffect) → ((j : PlainJob) → Quiet (act j)) → Quiet (for_job s t act)
  of_job act each = by (fin.get s.jobs t.0)
    where
      by : (o : Option PlainJob) → Quiet (option_map_or act o (record { state = s; items = []; next = None }))
      by None e = refl
      by (Some j) e = each j e

  quiet_begun : (name : List ℕ) → Quiet (begun s t name)
  quiet_begun name = by (page_at s.pages (page_named name 0))
    where
      by : (o : Option PageName) → Quiet (option_map_or (λ (page : PageName). goes_on s (Kill t (Run name (start_address s name)))) o (over (told_why s t (codes "?NO PROGRAM"))))
      by None e = absurd (cc e)
      by (Some n) e = refl

  quiet_kill : (purpose : Purpose) (j : PlainJob) → Quiet (one_killed s t purpose j.top)
  quiet_kill purpose j = by (last_below s.forks j.top)
    where
      by : (o : Option Fork) → Quiet (option_map_or (λ (k : Fork). goes_on (killed_fork s k.name) (Kill t purpose)) o (goes_on s (End t purpose)))
      by None e = refl
      by (Some f) e = refl

  quiet_done : (purpose : Purpose) (j : PlainJob) → Quiet (all_done s t j purpose)
  quiet_done purpose j = by (last_below s.forks j.top)
    where
      by : (o : Option Fork) → Quiet (option_map_or (λ (k : Fork). goes_on s (Kill t purpose)) o (over (record { state = purpose_done s t j purpose; items = [] })))
      by None e = refl
      by (Some f) e = refl

quiet : (s : PlainState) (t : Tty) (next : Deed) (d : Deed) → IsBehind t d → (deed s d).next ≡ Some next → (deed s d).items ≡ []
unfolding deed
quiet s t next (Begin u name) b = of_job s u next (λ j. begun s u name) (λ j. quiet_begun s u next name)
quiet s t next (Kill u purpose) b = of_job s u next (λ j. one_killed s u purpose j.top) (quiet_kill s u next purpose)
quiet s t next (End u purpose) b = of_job s u next (λ j. all_done s u j purpose) (quiet_done s u next purpose)
quiet s t next (Outer e) b = absurd b
quiet s t next (Typed u c) b = absurd b

-- what a part of a command prints
pub prints_so : (t : Tty) (d : Deed) (answer : Answer) → IsBehind t d → PartPrints d answer → Prints t answer
prints_so t (Begin u name) answer b p = subst (λ v. Prints v answer) b p
prints_so t (Kill u purpose) answer b p = subst (λ v. Prints v answer) b p
prints_so t (End u purpose) answer b p = subst (λ v. Prints v answer) b p
prints_so t (Outer e) answer b p = absurd b
prints_so t (Typed u c) answer b p = absurd b

pub printed_changes : (t : Tty) (shown : Showing) (old new : ForkMap) → IsPrinted t shown → PartReaches shown old new → ChangesJob t old new
printed_changes t (Reply reply) old new p r = absurd p
printed_changes t (Echo u shown) old new p r = absurd p
printed_changes t (Told u shown) old new p r = subst (λ v. ChangesJob v old new) p r

module _ {P : Type 0} {b : _} where
  -- the last part
  pub has_last : (m n : System P b) (left : ℕ) (d : Deed) (answer : Answer) → (left ≡ 0 → ⊥) → answer.next ≡ None → Does m n (λ s. deed s d) answer → Has m n (λ s. deeds left s d) (λ s. showing_items s answer.showing)
  has_last m n left d answer some none does =
      let has = does.has in
      record {
        each = λ words f.
            let e = has.each words f in
            let s = state_of m words in
            let whole : deeds left s d ≡ both (effect_of (deed s d)) (later (left - 1) None) = deeds_from left s d some ∙ ap (λ o. both (effect_of (deed s d)) (later (left - 1) o)) (sym (does.next words f) ∙ none) in
            (e.0, e.1 ∙ sym (ap (λ (x : Effect). x.state) whole), e.2 ∙ sym (append-nil (deed s d).items) ∙ sym (ap (λ (x : Effect). x.items) whole));
        within = has.within;
        most = has.most;
        loses = has.loses;
      }

  -- a part that shows this, and those behind it
  pub has_more : (m n l : System P b) (t : Tty) (left : ℕ) (d next : Deed) (answer : Answer) (told : Printed) (first : List Item) → (left ≡ 0 → ⊥) → answer.next ≡ Some next → Does m n (λ s. deed s d) answer
      → ((words : DrumWords) → FitsPages m words → (deed (state_of m words) d).next ≡ Some next → (deed (state_of m words) d).items ≡ first)
      → Has n l (λ s. deeds (left - 1) s next) (told_items t told) → Has m l (λ s. deeds left s d) (λ s. first ++ told_items t told s)
  has_more m n l t left d next answer told first some follows does shows rest =
      let has = does.has in
      record {
        each = λ words f.
            let e = has.each words f in
            let k = rest.each words e.0 in
            let s = state_of m words in
            let goes : (deed s d).next ≡ Some next = sym (does.next words f) ∙ follows in
            let whole : deeds left s d ≡ both (effect_of (deed s d)) (λ u. deeds (left - 1) u next) = deeds_from left s d some ∙ ap (λ o. both (effect_of (deed s d)) (later (left - 1) o)) goes in (
              k.0,
              k.1 ∙ ap (λ u. (deeds (left - 1) u next).state) e.1 ∙ sym (ap (λ (x : Effect). x.state) whole),
              ap (λ items. first ++ items) (k.2 ∙ ap (λ u. (deeds (left - 1) u next).items) e.1)
                  ∙ ap (λ items. items ++ (deeds (left - 1) (deed s d).state next).items) (sym (shows words f goes))
                  ∙ sym (ap (λ (x : Effect). x.items) whole),
            );
        within = λ entries w. rest.within entries (has.within entries w);
        most = rest.most ∙ has.most;
        loses = lost_on b.means m.pages n.pages l.pages has.loses rest.loses;
      }

  -- a part of a command, and those behind it
  pub has_behind : (m n l : System P b) (t : Tty) (left : ℕ) (d next : Deed) (answer : Answer) (told : Printed) → (left ≡ 0 → ⊥) → answer.next ≡ Some next → IsBehind t d → Does m n (λ s. deed s d) answer
      → Has n l (λ s. deeds (left - 1) s next) (told_items t told) → Has m l (λ s. deeds left s d) (told_items t told)
  has_behind m n l t left d next answer told some follows behind does rest = has_more m n l t left d next answer told [] some follows does (λ words f goes. quiet (state_of m words) t next d behind goes) rest

  -- the deeds of a character
  pub has_typed : (m l : System P b) (t : Tty) (c : ℕ) (items : PlainState → List Item) → IsTree m.tree → Has m l (λ s. deeds most_deeds s (Typed t c)) items → Has m l (λ s. typed_at s t c) items
  has_typed m l t c items tree has = has_as m l (λ s. deeds most_deeds s (Typed t c)) items (λ s. typed_at s t c) (λ d. sym (characters (state_of m d) t c tree)) has

  -- the end of a line, and what comes behind it
  pub has_ended : (m n l : System P b) (t : Tty) (c : ℕ) (next : Deed) (answer : Answer) (told : Printed) → IsTree m.tree → answer.next ≡ Some next → answer.showing ≡ Echo t (Ends Silent) → Does m n (λ s. deed s (Typed t c)) answer
      → Has n l (λ s. deeds 33 s next) (told_items t told) → Has m l (λ s. typed_at s t c) (echo_items t (Ends told))
  has_ended m n l t c next answer told tree follows shown does rest =
      has_typed m l t c (echo_items t (Ends told)) tree
      (subst (λ items. Has m l (λ s. deeds most_deeds s (Typed t c)) items) (λ i s. append_assoc (echo t LINE_END) [] (told_items t told s) i)
      (has_more m n l t most_deeds (Typed t c) next answer told (echo t LINE_END ++ []) (λ e. absurd (omega (arith, e))) follows does
      (λ words f goes. sym ((does.has.each words f).2) ∙ ap (showing_items (state_of n words)) shown) rest))

  -- a character that is over at once
  pub has_once : (m n : System P b) (t u : Tty) (c : ℕ) (shown : Echoed) (answer : Answer) → IsTree m.tree → answer.next ≡ None → answer.showing ≡ Echo u shown → u ≡ t → Does m n (λ s. deed s (Typed t c)) answer → Has m n (λ s. typed_at s t c) (echo_items t shown)
  has_once m n t u c shown answer tree none is same does =
      has_typed m n t c (echo_items t shown) tree
      (subst (λ (x : Showing). Has m n (λ s. deeds most_deeds s (Typed t c)) (λ s. showing_items s x)) (is ∙ ap (λ v. Echo v shown) same)
      (has_last m n most_deeds (Typed t c) answer (λ e. absurd (omega (arith, e))) none does))

  -- a command's last part
  pub has_told : (m n : System P b) (t u : Tty) (left : ℕ) (d : Deed) (told : Printed) (answer : Answer) → (left ≡ 0 → ⊥) → answer.next ≡ None → answer.showing ≡ Told u told → u ≡ t → Does m n (λ s. deed s d) answer → Has m n (λ s. deeds left s d) (told_items t told)
  has_told m n t u left d told answer some none is same does =
      subst (λ (x : Showing). Has m n (λ s. deeds left s d) (λ s. showing_items s x)) (is ∙ ap (λ v. Told v told) same) (has_last m n left d answer some none does)

-- no part is done
pub has_no_part : {P : Type 0} {b : _} (m : System P b) (t : Tty) (left : ℕ) (d : Deed) → left ≡ 0 → Has m m (λ s. deeds left s d) (told_items t Silent)
has_no_part m t left d none =
    has_left m m (λ s. deeds left s d) (told_items t Silent) refl refl refl (came_itself m.tree.forks) (λ words f. ap (λ n. deeds n (state_of m words) d) none ∙ none_left (state_of m words) d)

-- the end of a line behind which a command comes
pub shown_end : (t : Tty) (next : Deed) (o : Option Deed) (shown : Showing) → o ≡ Some next → IsShownSo t o shown → shown ≡ Echo t (Ends Silent)
shown_end t next o shown e h = by shown (subst (λ (x : Option Deed). IsShownSo t x shown) e h)
  where
    by : (x : Showing) → IsShownSo t (Some next) x → x ≡ Echo t (Ends Silent)
    by (Reply reply) p = absurd p
    by (Echo u echo) p = λ i. Echo (p.0 i) (p.1 i)
    by (Told u told) p = absurd p

-- a character that is over at once shows it at its terminal
pub shown_once : (t u : Tty) (o : Option Deed) (shown : Showing) (echo : Echoed) → o ≡ None → shown ≡ Echo u echo → IsShownSo t o shown → u ≡ t
shown_once t u o shown echo none is h = subst (IsShownSo t None) is (subst (λ (x : Option Deed). IsShownSo t x shown) none h)
