-- A channel that is posted to the fork of a code, as the plain machine has it.
use Rattle.std.proofs.Common.{◌≡◌, ℕ, ◌||◌, ◌&&◌, length, Bool, true, false, cond, not, List, [], None, Some, refl, sym, ◌∙◌, ap, subst}
use Rattle.std.specs.Prelude.{◌<◌}
use Rattle.std.specs.List.{list_any}
use Rattle.std.specs.Option.{option_map_or}
use Rattle.std.specs.FinMap as fin
use Rattle.machine_names.specs.declared.names.ForkName.{ForkName}
use Rattle.machine_names.specs.declared.names.Tty.{Tty}
use Rattle.page_contracts.specs.DrumWords.{DrumWords}
use Rattle.script_texts.specs.declared.status.ForkStatus.TheVariants.{Forced as AForced}
use Rattle.plain_model.proofs.ForkMaps.{AreOwn, held_there}
use Rattle.plain_model.proofs.Posted.{posted_same}
use Rattle.plain_model.specs.declared.fork.Fork.{Fork}
use Rattle.plain_model.specs.Forks.{ForkMap, with_fork, with_status}
use Rattle.plain_model.specs.Interrupts.{channel_word, channels_of, forces, is_panic, listens, pended, posted}
use Rattle.plain_model.specs.Posting.{told_if, with_all_posted}
use Rattle.plain_model.specs.State.{PlainState}
use Rattle.plain_model.specs.Trees.{PlainTree, end_told, tree_of}
use Rattle.plain_model.specs.TypeEvents.{channel_posted, posted_at, typed_so}
use Rattle.plain_model.specs.Unit.{Effect, printed, stop_text, stopped}
use Rattle.file_tables.specs.Tables.{files_of, open_of}
use Rattle.job_forks.proofs.Places.{Keep, came_itself, changed_keeps, keep_on}
use Rattle.fork_tree.specs.Trees.{IsTree, Lives}
use Rattle.fork_tree.proofs.Posted.{alone}
use Rattle.script_texts.specs.declared.event.Item.{Item}
use Rattle.plain_typing.specs.declared.typed.Typed.{Typed}
use Rattle.plain_typing.specs.declared.typed.Typed.TheVariants.{Posts as Given}
use Rattle.monitor_calls.specs.declared.job.Job.{Job}
use Rattle.step_shown.specs.declared.echo.Echo.TheVariants.{Nothing as Silence, Posts}
use Rattle.step_shown.specs.declared.shown.Stop.{Stop}
use Rattle.step_shown.specs.declared.shown.Stop.TheVariants.{GoesOn, Forced}
use Rattle.monitor_core.specs.declared.system.System.{System}
use Rattle.step_shown.specs.Echoes.{echo_items}
use Rattle.monitor_typing.specs.Effects.{Has, job_in}
use Rattle.monitor_calls.specs.Jobs.{jobs_left, jobs_of}
use Rattle.plain_model.specs.declared.fork.Psi.{Psi}
use Rattle.monitor_calls.proofs.Keeping.{panic_fits}
use Rattle.step_shown.specs.Shown.{FitsStop, is_stopped, seen_stop, stop_items}
use Rattle.monitor_core.specs.Systems.{named, state_of}
use Rattle.monitor_typing.proofs.HasDone.{has_left}
use Rattle.monitor_core.proofs.Told.{end_keeps, posted_mild}
use Rattle.monitor_core.proofs.UnitDid.{jobs_left_seen}
use Rattle.monitor_core.proofs.UnitEffect.{jobs_seen, stops_as, top_slot}

-- how a fork stands to which a channel was posted
abbrev pub stop_by : Bool → ℕ → Stop
stop_by forced channel = cond forced (Forced channel) GoesOn

-- a fork that a channel forces is forced by that
forced_status : (f : Fork) (channel : ℕ) → forces f.body.psi channel ≡ true → (posted f channel).body.status ≡ AForced channel
forced_status f channel = by (listens f.body.psi channel) (is_panic channel)
  where
    by : (takes panics : Bool) → (not takes && panics) ≡ true → (cond takes (pended f channel) (cond panics (with_status f (AForced channel)) f)).body.status ≡ AForced channel
    by true panics h = absurd (cc h)
    by false true h = refl
    by false false h = absurd (cc h)

-- which is one of the channels
pub forced_fits : (psi : Psi) (channel : ℕ) → FitsStop (stop_by (forces psi channel) channel)
forced_fits psi channel = by (listens psi channel) (is_panic channel) refl
  where
    by : (takes panics : Bool) → is_panic channel ≡ panics → FitsStop (stop_by (not takes && panics) channel)
    by true panics is = tt
    by false true panic = panic_fits channel panic
    by false false other = tt

-- one channel, as those of its word
one_posted : (forks : ForkMap) (channel : ℕ) → channel < 36 → (f : Fork) → with_all_posted forks (channels_of (channel_word channel)) f ≡ told_if (forces f.body.psi channel) forks (posted f channel)
one_posted forks channel low f = ap (λ cs. with_all_posted forks cs f) (alone channel low) ∙ ap (λ b. told_if b forks (posted f channel)) (or_none (forces f.body.psi channel))
  where
    or_none : (b : Bool) → (b || false) ≡ b
    or_none true = refl
    or_none false = refl

-- the forks keep their places
posted_keeps : (forks : ForkMap) → AreOwn forks → (channel : ℕ) (f : Fork) → Lives forks f → Keep forks (told_if (forces f.body.psi channel) forks (posted f channel))
posted_keeps forks own channel f lives = by (forces f.body.psi channel)
  where
    g : Fork
    g = posted f channel

    put : Keep forks (fin.insert forks g.name g)
    put = subst (λ (n : ForkName). Keep forks (fin.insert forks n g)) (sym (posted_same f channel).0) (changed_keeps forks own (λ k. posted k channel) (Some f) (λ k e. let is : f ≡ k = cc e in (subst (λ (x : Fork). fin.get forks x.name ≡ Some x) is lives, posted_mild channel k)))

    by : (b : Bool) → Keep forks (told_if b forks (posted f channel))
    by true = keep_on forks (fin.insert forks g.name g) (end_told (fin.insert forks g.name g) g) put (end_keeps (fin.insert forks g.name g) put.own g)
    by false = put

-- trees before and behind
module _ (old : PlainTree) (trees : IsTree old) (name : ForkName) (f : Fork) (there : fin.get old.forks name ≡ Some f) (channel bit : ℕ) (low : bit < 36) (same : posted f bit ≡ posted f channel) (alike : forces f.body.psi bit ≡ forces f.body.psi channel)
    (forced : Bool) (is : forced ≡ option_map_or (λ k. list_any (forces k.body.psi) (channels_of (channel_word bit))) (fin.get old.forks name) false)
    (now : PlainTree) (tree : now ≡ record old { forks = option_map_or (with_all_posted old.forks (channels_of (channel_word bit))) (fin.get old.forks name) old.forks }) where
  pub lives : Lives old.forks f
  lives = held_there old.forks trees.slotted.own name f there

  pub own_name : f.name ≡ name
  own_name = trees.slotted.own name f there

  pub forced_is : forced ≡ forces f.body.psi channel
  forced_is =
      is ∙ ap (λ o. option_map_or (λ (k : Fork). list_any (forces k.body.psi) (channels_of (channel_word bit))) o false) there
      ∙ ap (λ cs. list_any (forces f.body.psi) cs) (alone bit low) ∙ or_none (forces f.body.psi bit) ∙ alike
    where
      or_none : (b : Bool) → (b || false) ≡ b
      or_none true = refl
      or_none false = refl

  pub tree_is : now ≡ record old { forks = told_if (forces f.body.psi channel) old.forks (posted f channel) }
  tree_is =
      tree ∙ ap (λ o. record old { forks = option_map_or (with_all_posted old.forks (channels_of (channel_word bit))) o old.forks }) there
      ∙ ap (λ forks. record old { forks = forks }) (one_posted old.forks bit low f)
      ∙ (λ i. record old { forks = told_if (alike i) old.forks (same i) })

  pub kept : Keep old.forks now.forks
  kept = subst (λ (x : PlainTree). Keep old.forks x.forks) (sym tree_is) (posted_keeps old.forks trees.slotted.own channel f lives)

-- how its terminal shows that it stands
module _ {P : Type 0} {b : _} (m m' : System P b) (trees : IsTree m.tree) (name : ForkName) (f : Fork) (there : fin.get m.tree.forks name ≡ Some f) (channel bit : ℕ) (low : bit < 36) (same : posted f bit ≡ posted f channel) (alike : forces f.body.psi bit ≡ forces f.body.psi channel)
    (forced : Bool) (is : forced ≡ option_map_or (λ k. list_any (forces k.body.psi) (channels_of (channel_word bit))) (fin.get m.tree.forks name) false)
    (tree : m'.tree ≡ record m.tree { forks = option_map_or (with_all_posted m.tree.forks (channels_of (channel_word bit))) (fin.get m.tree.forks name) m.tree.forks }) where
  abbrev forks_are : m'.tree ≡ record m.tree { forks = told_if (forces f.body.psi channel) m.tree.forks (posted f channel) }
  forks_are = tree_is m.tree trees name f there channel bit low same alike forced is m'.tree tree

  module _ (stop seen : Stop) (stop_is : stop ≡ stop_by forced channel) (seen_is : seen ≡ seen_stop f.slot stop) (files : m'.files ≡ m.files) (pages : m'.pages ≡ m.pages) (panel : m'.panel ≡ m.panel) (typed : m'.typed.items ≡ m.typed.items)
      (jobs : m'.jobs.items ≡ jobs_left m.jobs.items name.tty.0 (is_stopped seen)) (within : name.tty.0 < length m.jobs.items) where
    module _ (d : DrumWords) where
      abbrev old : PlainState
      old = state_of m d

      abbrev g : Fork
      g = posted f channel

      -- the state with forks and jobs so
      abbrev left_by : Bool → Stop → PlainState
      left_by told shown = record old { forks = told_if told m.tree.forks (posted f channel); jobs = jobs_seen old.jobs f.name.tty (is_stopped shown) }

      now : state_of m' d ≡ left_by (forces f.body.psi channel) seen
      now =
          let held = open_of m.files in
          let jobs_are : jobs_of (open_of m'.files) m'.typed.items m'.jobs.items ≡ jobs_seen old.jobs f.name.tty (is_stopped seen) =
          (λ i. jobs_of (open_of (files i)) (typed i) (jobs i)) ∙ jobs_left_seen held m.typed.items m.jobs.items name.tty (is_stopped seen) within
          ∙ (λ i. jobs_seen old.jobs (sym (trees.slotted.own name f there) i).tty (is_stopped seen)) in
          λ i. record old { pages = named (files i).dir (b.means.plain (pages i) d); files = files_of (files i); jobs = jobs_are i; forks = (forks_are i).forks; fork_serials = (forks_are i).serials; clock = (panel i).clock; trace = (panel i).trace }

      shows : (told : Bool) → forces f.body.psi channel ≡ told → ◌≡◌ {A = Effect} (cond told (stopped old (posted f channel)) (record { state = with_fork old (posted f channel); items = [] })) (record { state = left_by told (seen_stop f.slot (stop_by told channel)); items = stop_items f.name.tty (seen_stop f.slot (stop_by told channel)) })
      shows true forces_it =
          let kept = posted_same f channel in
          stops_as old f g (Forced channel) kept.0 kept.2 (top_slot (tree_of old) trees f (held_there m.tree.forks trees.slotted.own name f there)) refl (ap (λ x. printed f.name.tty (stop_text x)) (sym (forced_status f channel forces_it)))
      shows false spares = refl

      effect_is : ◌≡◌ {A = Effect} (posted_at old name channel) (record { state = state_of m' d; items = stop_items name.tty seen })
      effect_is =
          let stands : seen_stop f.slot (stop_by (forces f.body.psi channel) channel) ≡ seen = ap (λ x. seen_stop f.slot (stop_by x channel)) (sym (forced_is m.tree trees name f there channel bit low same alike forced is m'.tree tree)) ∙ ap (seen_stop f.slot) (sym stop_is) ∙ sym seen_is in
          ap (λ o. option_map_or (channel_posted old channel) o (record { state = old; items = [] })) there
          ∙ shows (forces f.body.psi channel) refl
          ∙ (λ i. record { state = left_by (forces f.body.psi channel) (stands i); items = stop_items (trees.slotted.own name f there i).tty (stands i) })
          ∙ (λ i. record { state = sym now i; items = stop_items name.tty seen })

    pub has_posted : (t : Tty) → Has m m' (λ s. posted_at s name channel) (echo_items t (Posts name.tty seen))
    has_posted t = has_left m m' (λ s. posted_at s name channel) (echo_items t (Posts name.tty seen)) files pages panel (kept m.tree trees name f there channel bit low same alike forced is m'.tree tree).come (λ d f. effect_is d)

-- a channel that is posted, as what becomes of a character
pub has_posting : {P : Type 0} {b : _} (m m' : System P b) (t : Tty) (j : Job) (code : ℕ) (name : ForkName) (channel : ℕ) (fate : Typed) (items : PlainState → List Item) → Given name channel ≡ fate → Has m m' (λ s. posted_at s name channel) items
    → Has m m' (λ s. typed_so fate s t (job_in m t j) code) items
has_posting m m' t j code name channel fate items is has = subst (λ f. Has m m' (λ s. typed_so f s t (job_in m t j) code) items) is has

-- to a fork that lives no more nothing is posted
pub has_missed : {P : Type 0} {b : _} (m : System P b) (t : Tty) (name : ForkName) (channel : ℕ) → fin.get m.tree.forks name ≡ None → Has m m (λ s. posted_at s name channel) (echo_items t Silence)
has_missed m t name channel none =
    has_left m m (λ s. posted_at s name channel) (echo_items t Silence) refl refl refl (came_itself m.tree.forks)
    (λ d f. ap (λ o. option_map_or (channel_posted (state_of m d) channel) o (record { state = state_of m d; items = [] })) none)
