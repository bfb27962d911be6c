-- Entries that were played and given, one behind the other.
use Rattle.std.proofs.Common.{◌≡◌, ℕ, zero, suc, ◌+◌, ◌≤◌, List, [], ◌∷◌, ◌++◌, length, replicate, false, refl, sym, ◌∙◌, ap, subst, arith, length-append}
use Rattle.std.proofs.lemmas.List.{length-replicate}
use Rattle.std.specs.Prelude.{Result, Ok, Err, OnOk, OnErr}
use Rattle.machine_names.specs.declared.names.ForkName.{ForkName}
use Rattle.script_texts.specs.declared.event.Event.{Event}
use Rattle.script_texts.specs.declared.event.Item.{Item}
use Rattle.script_texts.specs.declared.event.Step.{Step}
use Rattle.script_texts.specs.declared.event.Step.TheVariants.{Outer, Unit as AUnit, Idle}
use Rattle.script_texts.specs.Taker.{GoesOn, IsCut}
use Rattle.page_contracts.specs.DrumWords.{DrumWords}
use Rattle.plain_model.specs.State.{PlainState}
use Rattle.plain_model.specs.Run.{apply, state_after, items_of, AreLegal}
use Rattle.plain_model.specs.Unit.{Effect}
use Rattle.plain_model.proofs.Equations.{apply_idle}
use Rattle.step_shown.specs.declared.reply.Reply.{Reply}
use Rattle.step_shown.specs.Replies.{reply_items}
use Rattle.monitor_core.specs.declared.system.System.{System}
use Rattle.monitor_core.specs.Systems.{CanDo, Did, DidAll, FitsPages, state_of}
use Rattle.event_items.specs.Giving.{Standing, TookOver}
use Rattle.event_items.proofs.Gave.{gave_none, gave_append, gave_cut}
use Rattle.record_player.proofs.Runnable.{did_one}
use Rattle.record_player.specs.declared.stage.Stage.{Stage}
use Rattle.record_player.specs.Stages.{Gives, CutIn, PlayedEvent}
use Rattle.record_player.proofs.Entries.{legal_unmarked}

module _ {P T : Type 0} {b : _} (stands : Standing T) where
  -- nothing is played
  pub gives_none : (m : Stage P b) (out : T) → Gives stands m m out out []
  gives_none m out = record { count = omega arith; each = λ d f. (f, gave_none stands false out (state_of m.system d)) }

  -- entries behind entries
  pub gives_append : (m mid m' : Stage P b) (out between out' : T) (xs ys : List Step) → Gives stands m mid out between xs → Gives stands mid m' between out' ys → Gives stands m m' out out' (xs ++ ys)
  gives_append m mid m' out between out' xs ys first second = record {
    count = omega (arith, first.count, second.count, length-append xs ys);
    each = λ d f.
        let x = first.each d f in
        let y = second.each d x.0 in
        (y.0, gave_append stands false out between out' (state_of m.system d) (state_of mid.system d) (state_of m'.system d) xs ys x.1 y.1);
  }

module _ {P T : Type 0} {b : _} (stands cut : Standing T) where
  -- a failure behind entries
  pub cut_append : (m mid : Stage P b) (out between out' : T) (xs ys : List Step) → Gives stands m mid out between xs → CutIn stands cut mid between out' ys → CutIn stands cut m out out' (xs ++ ys)
  cut_append m mid out between out' xs ys first second = record {
    each = λ d f.
        let x = first.each d f in
        gave_cut stands cut false out between out' (state_of m.system d) (state_of mid.system d) xs ys x.1 (second.each d x.0);
  }

  module _ (m m' : Stage P b) (out out' : T) (step : Step) (count : ℕ) (reply : Reply) (did : DidAll m.system m'.system step count reply) where
    -- equal entries that were done, given behind what they show
    pub all_given : m'.done ≡ m.done + count → ((d : DrumWords) → FitsPages m'.system d → GoesOn stands out out' (reply_items (state_of m'.system d) reply) (replicate count step)) → Gives stands m m' out out' (replicate count step)
    all_given counts given = record {
      count = omega (arith, counts, length-replicate count step);
      each = λ d f. (
        did.fits d f,
        record {
          legal = legal_unmarked (state_of m.system d) (replicate count step) (did.legal d f);
          state = did.state d f;
          given = subst (λ is. GoesOn stands out out' is (replicate count step)) (did.items d f) (given d (did.fits d f));
        },
      );
    }

  -- or the taker failed within what they show
  pub all_cut : (m : Stage P b) (later : System P b) (out out' : T) (step : Step) (count : ℕ) (reply : Reply) → DidAll m.system later step count reply
      → ((d : DrumWords) → FitsPages later d → IsCut stands cut out out' (reply_items (state_of later d) reply) (replicate count step)) → CutIn stands cut m out out' (replicate count step)
  all_cut m later out out' step count reply did given = record {
    each = λ d f. record {
      legal = legal_unmarked (state_of m.system d) (replicate count step) (did.legal d f);
      given = subst (λ is. IsCut stands cut out out' is (replicate count step)) (did.items d f) (given d (did.fits d f));
    };
  }

  -- units of a fork by another name that is the same
  pub units_given : (m m' : Stage P b) (out out' : T) (who fork : ForkName) → who ≡ fork → (count : ℕ) (reply : Reply) → DidAll m.system m'.system (AUnit who) count reply → m'.done ≡ m.done + count
      → ((d : DrumWords) → FitsPages m'.system d → GoesOn stands out out' (reply_items (state_of m'.system d) reply) (replicate count (AUnit who))) → Gives stands m m' out out' (replicate count (AUnit fork))
  units_given m m' out out' who fork same count reply did counts given = subst (λ f. Gives stands m m' out out' (replicate count (AUnit f))) same (all_given m m' out out' (AUnit who) count reply did counts given)

  pub units_cut : (m : Stage P b) (later : System P b) (out out' : T) (who fork : ForkName) → who ≡ fork → (count : ℕ) (reply : Reply) → DidAll m.system later (AUnit who) count reply
      → ((d : DrumWords) → FitsPages later d → IsCut stands cut out out' (reply_items (state_of later d) reply) (replicate count (AUnit who))) → CutIn stands cut m out out' (replicate count (AUnit fork))
  units_cut m later out out' who fork same count reply did given = subst (λ f. CutIn stands cut m out out' (replicate count (AUnit f))) same (all_cut m later out out' (AUnit who) count reply did given)

module _ {P T : Type 0} {b : _} (fault_count : T → ℕ) (onward : T → T → Type 0) (stands cut : Standing T) where
  -- an event that was done at once, given behind what it shows
  pub event_played : {X E : Type 0} (m m' : Stage P b) (out out' : T) (r : Result X E) (e : Event) (reply : Reply) → CanDo m.system (Outer e) → Did m.system m'.system (Outer e) reply
      → TookOver (FitsPages m'.system) fault_count onward stands cut out out' r (λ d. reply_items (state_of m'.system d) reply) (Outer e ∷ []) → m'.done ≡ m.done + 1 → PlayedEvent fault_count onward stands cut m m' out out' r e
  event_played {X} {E} m m' out out' r e reply can did took count = record {
    taker = took.taker;
    ok = all r (λ d f. (took.given d f).ok);
    err = part r (λ d f. (took.given d f).err);
  }
    where
      one : DidAll m.system m'.system (Outer e) 1 reply
      one = did_one m.system m'.system (Outer e) reply can did

      all : (r : Result X E) → ((d : DrumWords) → FitsPages m'.system d → OnOk r (GoesOn stands out out' (reply_items (state_of m'.system d) reply) (Outer e ∷ []))) → OnOk r (Gives stands m m' out out' (Outer e ∷ []))
      all (Err c) given = tt
      all (Ok x) given = all_given stands cut m m' out out' (Outer e) 1 reply one count given

      part : (r : Result X E) → ((d : DrumWords) → FitsPages m'.system d → OnErr r (IsCut stands cut out out' (reply_items (state_of m'.system d) reply) (Outer e ∷ []))) → OnErr r (CutIn stands cut m out out' (Outer e ∷ []))
      part (Ok x) given = tt
      part (Err c) given = all_cut stands cut m m'.system out out' (Outer e) 1 reply one given

-- ---- idle entries

-- they leave a state, and show nothing
pub record IdlesAway (s : PlainState) (n : ℕ) : Type 0 where
  pub state : state_after s (replicate n Idle) ≡ s
  pub items : items_of s (replicate n Idle) ≡ []
  pub legal : AreLegal false s (replicate n Idle)

pub idles_away : (s : PlainState) (n : ℕ) → IdlesAway s n
idles_away s zero = record { state = refl; items = refl; legal = tt }
idles_away s (suc n) =
    let rest = idles_away s n in
    let one = apply_idle s in
    record {
      state = ap (λ (e : Effect). state_after e.state (replicate n Idle)) one ∙ rest.state;
      items = ap (λ (e : Effect). e.items ++ items_of e.state (replicate n Idle)) one ∙ rest.items;
      legal = (λ on. absurd (cc on), subst (λ (e : Effect). AreLegal false e.state (replicate n Idle)) (sym one) rest.legal);
    }

module _ {P T : Type 0} {b : _} (stands cut : Standing T) (m m' : Stage P b) (out out' : T) (count : ℕ) (same : m'.system ≡ m.system) where
  pub idles_given : m'.done ≡ m.done + count → GoesOn stands out out' [] (replicate count Idle) → Gives stands m m' out out' (replicate count Idle)
  idles_given counts given = record {
    count = omega (arith, counts, length-replicate count Idle);
    each = λ d f.
        let away = idles_away (state_of m.system d) count in (
          subst (λ (s : System P b). FitsPages s d) (sym same) f,
          record {
            legal = away.legal;
            state = ap (λ (s : System P b). state_of s d) same ∙ sym away.state;
            given = subst (λ is. GoesOn stands out out' is (replicate count Idle)) (sym away.items) given;
          },
        );
  }

  pub idles_cut : IsCut stands cut out out' [] (replicate count Idle) → CutIn stands cut m out out' (replicate count Idle)
  idles_cut given = record {
    each = λ d f.
        let away = idles_away (state_of m.system d) count in
        record { legal = away.legal; given = subst (λ is. IsCut stands cut out out' is (replicate count Idle)) (sym away.items) given };
  }
