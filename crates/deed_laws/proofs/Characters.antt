-- The deeds of a character are the character.
use Rattle.std.proofs.Common.{◌≡◌, ℕ, zero, suc, ◌<◌, ◌≤◌, List, [], ◌∷◌, ◌++◌, Bool, true, false, cond, Option, None, Some, append_assoc, refl, sym, ◌∙◌, ap, subst, arith}
use Rattle.std.specs.Prelude.{◌==◌, codes}
use Rattle.std.specs.Option.{option_map_or}
use Rattle.std.specs.Ordering.{is_eq, nat_cmp}
use Rattle.std.specs.Cmp.{nat_cmp_total}
use Rattle.std.specs.FinMap as map
use Rattle.std.proofs.lemmas.Bool.Decides.{nat_tests}
use Rattle.std.proofs.lemmas.Cmp.{tied_itself}
use Rattle.machine_names.specs.Orders.{name_cmp}
use Rattle.machine_names.specs.declared.character.TheConstants.{LINE_END}
use Rattle.machine_names.specs.declared.names.ForkName.{ForkName}
use Rattle.machine_names.specs.declared.names.PageName.{PageName}
use Rattle.machine_names.specs.declared.names.TheConstants.{MOST_FORKS}
use Rattle.machine_names.specs.declared.names.Tty.{Tty}
use Rattle.plain_pages.specs.References.{page_at}
use Rattle.plain_typing.specs.Characters.{read_as}
use Rattle.plain_typing.specs.Commands.{command_of}
use Rattle.plain_typing.specs.declared.command.Command.{Command}
use Rattle.plain_typing.specs.declared.command.Command.TheVariants as command
use Rattle.plain_typing.specs.declared.typed.TheConstants.{CONTROL_C}
use Rattle.script_texts.specs.declared.event.Event.{Event}
use Rattle.script_texts.specs.declared.event.Item.{Item}
use Rattle.plain_model.specs.Events.{outer}
use Rattle.plain_model.specs.declared.fork.Fork.{Fork}
use Rattle.plain_model.specs.declared.fork.TerminalMode.{TerminalMode}
use Rattle.plain_model.specs.declared.fork.TerminalMode.TheVariants as mode
use Rattle.plain_model.specs.Commands.{commanded, forks_and_pages, logged_out, run_program, running, start_address, told, with_forks_and_pages, with_job_at}
use Rattle.plain_model.specs.FileEvents.{page_named}
use Rattle.plain_model.specs.ForkCalls.{without_inferiors}
use Rattle.plain_model.specs.State.{PlainJob, PlainState}
use Rattle.plain_model.specs.Trees.{tree_of}
use Rattle.plain_model.specs.TypeEvents.{echo, interrupted, line_ended, line_typed, typed_at, typed_one}
use Rattle.plain_model.specs.Unit.{Effect}
use Rattle.fork_tree.specs.Inferiors.{HasNoInferior, IsLeafBelow, without}
use Rattle.fork_tree.specs.Trees.{IsTree}
use Rattle.fork_tree.proofs.Kept.{killed_tree}
use Rattle.fork_tree.proofs.Killing.{below_in, fewer_counted, killed_last, leaf_first, none_counted, without_none}
use Rattle.fork_tree.proofs.Leaves.{nobodys_superior}
use Rattle.fork_tree.proofs.Upward.{tally, tally_most}
use Rattle.event_deeds.specs.declared.deed.Deed.{Deed}
use Rattle.event_deeds.specs.declared.deed.Deed.TheVariants.{Begin, End, Kill, Outer, Typed}
use Rattle.event_deeds.specs.declared.deed.Purpose.{Purpose}
use Rattle.event_deeds.specs.declared.deed.Purpose.TheVariants.{Logout, Run}
use Rattle.event_deeds.specs.Deeds.{DeedEffect, all_done, begun, command_begun, deed, deeds, for_job, goes_on, killed_fork, line_begun, most_deeds, one_killed, over, purpose_done, typed_by}
use Rattle.event_deeds.specs.Leaves.{last_below}
use Rattle.event_deeds.proofs.Leaves.{last_is_leaf, none_below}

nil_behind : {A : Type 0} (xs : List A) → xs ++ [] ≡ xs
nil_behind [] = refl
nil_behind (x ∷ xs) = ap (λ ys. x ∷ ys) (nil_behind xs)

-- what follows a deed, and both together
abbrev behind : ℕ → DeedEffect → Effect
behind n e = option_map_or (deeds n e.state) e.next (record { state = e.state; items = [] })

abbrev together : ℕ → DeedEffect → Effect
together n e = record { state = (behind n e).state; items = e.items ++ (behind n e).items }

deeds_are : (n : ℕ) (s : PlainState) (d : Deed) (e : DeedEffect) → deed s d ≡ e → deeds (suc n) s d ≡ together n e
unfolding deeds
deeds_are n s d e is = ap (together n) is

-- a deed of a terminal's job
for_job_is : (s : PlainState) (t : Tty) (j : PlainJob) (act : PlainJob → DeedEffect) → map.get s.jobs t.0 ≡ Some j → for_job s t act ≡ act j
for_job_is s t j act at = ap (λ o. option_map_or act o (record { state = s; items = []; next = None })) at

-- an event that is over with one deed
over_is : (n : ℕ) (e : Effect) → together n (over e) ≡ e
over_is n e = λ i. record { state = e.state; items = nil_behind e.items i }

-- the state without the inferiors of a fork
abbrev alone_in : PlainState → ForkName → PlainState
alone_in s top = with_forks_and_pages s (without_inferiors (forks_and_pages s) top)

module _ (t : Tty) (j : PlainJob) (purpose : Purpose) where
  -- what comes of a state's kills
  abbrev KillsAll : ℕ → PlainState → Type 0
  KillsAll n s = deeds (suc (suc n)) s (Kill t purpose) ≡ record { state = purpose_done (alone_in s j.top) t j purpose; items = [] }

  -- how many inferiors there are
  abbrev inferiors : PlainState → ℕ
  inferiors s = tally (below_in s.forks j.top) 1 MOST_FORKS

  -- one is killed, and then the others, or there is none
  one_kill : (n : ℕ) (s : PlainState) → map.get s.jobs t.0 ≡ Some j → IsTree (tree_of s) → inferiors s ≤ n
      → ((m : ℕ) (u : PlainState) → suc m ≡ n → map.get u.jobs t.0 ≡ Some j → IsTree (tree_of u) → inferiors u ≤ m → KillsAll m u) → KillsAll n s
  unfolding deed
  one_kill n s at tree few rest = by (last_below s.forks j.top) refl
    where
      follows : Option Fork → DeedEffect
      follows o = option_map_or (λ (k : Fork). goes_on (killed_fork s k.name) (Kill t purpose)) o (goes_on s (End t purpose))

      ended : Option Fork → DeedEffect
      ended o = option_map_or (λ (k : Fork). goes_on s (Kill t purpose)) o (record { state = purpose_done s t j purpose; items = []; next = None })

      kill : (o : Option Fork) → last_below s.forks j.top ≡ o → deed s (Kill t purpose) ≡ follows o
      kill o is = for_job_is s t j (λ (i : PlainJob). one_killed s t purpose i.top) at ∙ ap follows is

      by : (o : Option Fork) → last_below s.forks j.top ≡ o → KillsAll n s
      by None is =
          let whole : without_inferiors (forks_and_pages s) j.top ≡ forks_and_pages s = without_none (forks_and_pages s) j.top (none_below (tree_of s) tree j.top is) in
          deeds_are (suc n) s (Kill t purpose) (goes_on s (End t purpose)) (kill None is)
          ∙ deeds_are n s (End t purpose) (record { state = purpose_done s t j purpose; items = []; next = None }) (for_job_is s t j (λ (i : PlainJob). all_done s t i purpose) at ∙ ap ended is)
          ∙ ap (λ v. record { state = purpose_done (with_forks_and_pages s v) t j purpose; items = [] }) (sym whole)
      by (Some k) is = after n refl
        where
          leaf : IsLeafBelow s.forks j.top k
          leaf = last_is_leaf (tree_of s) tree j.top k is

          fewer : inferiors (killed_fork s k.name) < inferiors s
          fewer = fewer_counted j.top (tree_of s) tree k leaf

          still : IsTree (tree_of (killed_fork s k.name))
          still = killed_tree (tree_of s) k tree leaf.lives (nobodys_superior (tree_of s) tree k leaf.lives leaf.leaf)

          after : (i : ℕ) → n ≡ i → KillsAll i s
          after zero same = absurd (omega (arith, few, fewer, same))
          after (suc m) same =
              deeds_are (suc (suc m)) s (Kill t purpose) (goes_on (killed_fork s k.name) (Kill t purpose)) (kill (Some k) is)
              ∙ rest m (killed_fork s k.name) (sym same) at still (omega (arith, few, fewer, same))
              ∙ ap (λ v. record { state = purpose_done (with_forks_and_pages s v) t j purpose; items = [] }) (leaf_first (forks_and_pages s) j.top k tree leaf)

  -- ONE KILL AFTER ANOTHER, and then what they were for
  kills : (n : ℕ) (s : PlainState) → map.get s.jobs t.0 ≡ Some j → IsTree (tree_of s) → inferiors s ≤ n → KillsAll n s
  kills zero s at tree few = one_kill zero s at tree few (λ m u same at' tree' few'. absurd (omega (arith, same)))
  kills (suc n) s at tree few = one_kill (suc n) s at tree few (λ m u same at' tree' few'.
      let is : n ≡ m = omega (arith, same) in
      subst (λ i. KillsAll i u) is (kills n u at' tree' (omega (arith, is, few'))))

-- ---- the end of a line

-- where the next deed comes at once
next_is : (n : ℕ) (s : PlainState) (d : Deed) → together n (goes_on s d) ≡ deeds n s d
next_is n s d = refl

module _ (s : PlainState) (t : Tty) (j : PlainJob) (at : map.get s.jobs t.0 ≡ Some j) (tree : IsTree (tree_of s)) where
  -- the deeds of a program's run, from the look at its first page on
  runs : (name : List ℕ) → map.contains_key s.files name ≡ true → together 33 (goes_on s (Begin t name)) ≡ run_program s t j name
  unfolding deed
  runs name there =
      next_is 33 s (Begin t name) ∙ deeds_are 32 s (Begin t name) (begun s t name) (for_job_is s t j (λ i. begun s t name) at)
      ∙ by (page_at s.pages (page_named name 0))
      ∙ sym (ap (λ b. cond b (found (page_at s.pages (page_named name 0))) (told s t (codes "?NO FILE"))) there)
    where
      found : Option PageName → Effect
      found o = option_map_or (λ page. record { state = running s t j name (start_address s name); items = [] }) o (told s t (codes "?NO PROGRAM"))

      by : (o : Option PageName) → together 32 (option_map_or (λ page. goes_on s (Kill t (Run name (start_address s name)))) o (over (told s t (codes "?NO PROGRAM")))) ≡ found o
      by None = over_is 32 (told s t (codes "?NO PROGRAM"))
      by (Some page) =
          next_is 32 s (Kill t (Run name (start_address s name))) ∙ kills t j (Run name (start_address s name)) 30 s at tree (tally_most (below_in s.forks j.top) 1 MOST_FORKS)
          ∙ ap (λ b. record { state = cond b (running s t j name (start_address s name)) (alone_in s j.top); items = [] }) there

  -- and of a job's end
  logs_out : together 33 (goes_on s (Kill t Logout)) ≡ record { state = logged_out s t j; items = [] }
  logs_out =
      let most = tally_most (below_in s.forks j.top) 1 MOST_FORKS in
      next_is 33 s (Kill t Logout) ∙ kills t j Logout 31 s at tree (omega (arith, most))
      ∙ ap (λ v. record { state = record (with_forks_and_pages s v) { jobs = map.remove s.jobs t.0 }; items = [] }) (sym (killed_last (forks_and_pages s) j.top))

  -- a command's deeds are the command
  commands : (c : Command) → together 33 (command_begun s t j c) ≡ commanded s t j c
  unfolding commanded
  commands command.Blank = over_is 33 (commanded s t j command.Blank)
  commands (command.Run name) = by (map.contains_key s.files name) refl
    where
      by : (b : Bool) → map.contains_key s.files name ≡ b → together 33 (cond b (goes_on s (Begin t name)) (over (run_program s t j name))) ≡ run_program s t j name
      by true there = runs name there
      by false there = over_is 33 (run_program s t j name)
  commands command.Start = over_is 33 (commanded s t j command.Start)
  commands command.Continue = over_is 33 (commanded s t j command.Continue)
  commands command.Directory = over_is 33 (commanded s t j command.Directory)
  commands (command.Delete name) = over_is 33 (commanded s t j (command.Delete name))
  commands command.Logout = logs_out
  commands command.Unknown = over_is 33 (commanded s t j command.Unknown)

-- the job that was put at a terminal is there
job_put : (jobs : map.FinMap nat_cmp PlainJob) (k : ℕ) (j : PlainJob) → map.get (map.insert jobs k j) k ≡ Some j
job_put jobs k j = map.get-insert nat_cmp_total jobs k j k ∙ ap (λ r. cond (is_eq r) (Some j) (map.get jobs k)) (tied_itself nat_cmp_total k)

-- items before those of deeds
items_first : (n : ℕ) (e : DeedEffect) (c : Effect) (first : List Item) → together n e ≡ c → together n (record e { items = first ++ e.items }) ≡ record c { items = first ++ c.items }
items_first n e c first is = (λ i. record { state = (behind n e).state; items = append_assoc first e.items (behind n e).items i }) ∙ ap (λ (x : Effect). record x { items = first ++ x.items }) is

module _ (s : PlainState) (t : Tty) (j : PlainJob) (tree : IsTree (tree_of s)) where
  lines : together 33 (line_begun s t j) ≡ line_ended s t j
  lines =
      let left : PlainJob = record j { line = [] } in
      items_first 33 (command_begun (with_job_at s t left) t left (command_of j.user j.line)) (commanded (with_job_at s t left) t left (command_of j.user j.line)) (echo t LINE_END)
      (commands (with_job_at s t left) t left (job_put s.jobs t.0 left) tree (command_of j.user j.line))

  typed_is : (m : TerminalMode) (code : ℕ) → together 33 (typed_by m s t j code) ≡ typed_one m s t j code
  unfolding typed_one
  typed_is mode.Program code = over_is 33 (typed_one mode.Program s t j code)
  typed_is mode.Command code = by (code == LINE_END) refl
    where
      ends : (code == LINE_END) ≡ true → line_ended s t j ≡ typed_one mode.Command s t j code
      ends is =
          let same : code ≡ LINE_END = grind (arith, nat_tests, is) in
          let other : (code == CONTROL_C) ≡ false = grind (arith, nat_tests, same) in
          sym (ap (λ b. cond b (interrupted s t j) (cond (code == LINE_END) (line_ended s t j) (line_typed s t j code))) other ∙ ap (λ b. cond b (line_ended s t j) (line_typed s t j code)) is)

      by : (b : Bool) → (code == LINE_END) ≡ b → together 33 (cond b (line_begun s t j) (over (typed_one mode.Command s t j code))) ≡ typed_one mode.Command s t j code
      by true is = lines ∙ ends is
      by false is = over_is 33 (typed_one mode.Command s t j code)

pub characters : (s : PlainState) (t : Tty) (c : ℕ) → IsTree (tree_of s) → deeds most_deeds s (Typed t c) ≡ typed_at s t c
unfolding deed
characters s t c tree = deeds_are 33 s (Typed t c) (for_job s t (λ j. typed_by j.mode s t j (read_as c))) refl ∙ by (map.get s.jobs t.0)
  where
    by : (o : Option PlainJob) → together 33 (option_map_or (λ (j : PlainJob). typed_by j.mode s t j (read_as c)) o (record { state = s; items = []; next = None }))
        ≡ option_map_or (λ (j : PlainJob). typed_one j.mode s t j (read_as c)) o (record { state = s; items = [] })
    by None = refl
    by (Some j) = typed_is s t j tree j.mode (read_as c)

-- the deeds of an event that is one deed
pub whole_events : (s : PlainState) (e : Event) → deeds most_deeds s (Outer e) ≡ outer s e
unfolding deed
whole_events s e = deeds_are 33 s (Outer e) (over (outer s e)) refl ∙ over_is 33 (outer s e)
