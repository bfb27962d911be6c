-- A turn of CFORK that has a slot.
use Rattle.std.proofs.Common.{◌≡◌, ℕ, ◌<◌, ◌^◌, Bool, true, false, cond, List, length, Option, Some, refl, sym, ◌∙◌, ap, subst, arith, inl, inr}
use Rattle.std.specs.Prelude.{Err, IsSome, is_some, ◌==◌}
use Rattle.std.specs.Option.{option_map}
use Rattle.std.specs.Ordering.{nat_cmp}
use Rattle.std.specs.FinMap as map
use Rattle.word36.specs.Words.{right, bit}
use Rattle.plain_model.specs.declared.call.TheConstants.{NO_ROOM}
use Rattle.plain_model.specs.declared.call.End.TheVariants.{Failed}
use Rattle.plain_model.specs.declared.call.ForkChange.{ForkChange}
use Rattle.plain_model.specs.declared.call.ForkChange.TheVariants.{Make}
use Rattle.machine_names.specs.declared.names.ForkName.{ForkName}
use Rattle.plain_pages.specs.declared.map.NewMap.TheVariants.{Empty as EmptyMap, FollowAll}
use Rattle.plain_model.specs.declared.fork.Fork.{Fork}
use Rattle.script_texts.specs.declared.status.ForkStatus.TheVariants.{Run, Halted, Forced}
use Rattle.plain_pages.specs.PlainPages.{NumberedPages}
use Rattle.plain_units.specs.Deeds.{in_ac}
use Rattle.plain_model.specs.Forks.{ForkMap, psi_at_rest}
use Rattle.plain_pages.specs.NewMaps.{with_map}
use Rattle.plain_pages.specs.Room.{HasRoom}
use Rattle.page_contracts.specs.Pages.{IsNewMap, Scene, TakesMap}
use Rattle.plain_model.specs.Trees.{PlainTree, next_name, with_made}
use Rattle.plain_model.specs.Calls.{Turn, Came, no_files, turn_on, ends, with_added, Asked}
use Rattle.plain_model.specs.ForkCalls.{fork_changed, made_fork, making, map_wanted, starts, with_accumulators}
use Rattle.plain_model.proofs.ForkMaps.{cases_name, get_put, get_put_other}
use Rattle.fork_tree.proofs.Slots.{some_of}
use Rattle.ka10_unit.specs.declared.taken.Stop.{Stop}
use Rattle.ka10_unit.specs.declared.taken.Stop.TheVariants.{Trap, Need}
use Rattle.fork_calls.specs.Blocks.{GoesOnWith, TookAccumulators}
use Rattle.job_forks.specs.Holding.{ComeOrNew, IsNew, parts}
use Rattle.fork_calls.specs.Needing.{TurnNeeds}
use Rattle.fork_calls.specs.Steps.{made_where}
use Rattle.job_forks.proofs.Places.{came_itself}
use Rattle.fork_calls.proofs.TurnBlocks.{StopsSo}

module _ (a : Asked) (slot : ℕ) (p : NumberedPages) where
  abbrev mapped : NumberedPages
  mapped = with_map p (next_name a.tree a.who.tty) (map_wanted a)

  abbrev rest : Turn ⊥ ForkChange
  rest = with_accumulators a (λ words. ends (making a slot words))

  -- there is no room for the map
  pub made_full : HasRoom mapped a.who.tty ≡ false → (turn_on no_files p (made_where a slot)).end ≡ Failed NO_ROOM
  unfolding turn_on
  made_full none = ap (λ b. (turn_on no_files (with_added p (next_name a.tree a.who.tty) (map_wanted a) b) (cond b rest (ends (Failed NO_ROOM)))).end) none

  module _ (room : HasRoom mapped a.who.tty ≡ true) where
    made_comes : turn_on no_files p (made_where a slot) ≡ turn_on no_files mapped rest
    unfolding turn_on
    made_comes = ap (λ b. turn_on no_files (with_added p (next_name a.tree a.who.tty) (map_wanted a) b) (cond b rest (ends (Failed NO_ROOM)))) room

    -- the words trap, or need something first, with the map there
    pub made_stops : (before after : Scene) (r q : NumberedPages) (e : Stop) → r ≡ mapped → TakesMap before after (next_name a.tree a.who.tty) → TookAccumulators a (record { pages = r; scene = after }) q (Err e)
        → StopsSo (record { pages = p; scene = before }) a.tree.forks (made_where a slot) e
    made_stops before after r q (Trap channel) same takes took = ap (λ (c : Came nat_cmp ForkChange). c.end) made_comes ∙ ap (λ (x : NumberedPages). (turn_on no_files x rest).end) (sym same) ∙ took (λ words. ends (making a slot words))
    made_stops before after r q (Need n) same takes took =
        inr (inl (room, (after, takes, subst (λ (x : NumberedPages). TurnNeeds (record { pages = x; scene = after }) a.tree.forks rest n) same (took (λ words. ends (making a slot words))))))

    -- or the fork is made
    pub made_goes : (r q : NumberedPages) (words : List ℕ) → r ≡ mapped → GoesOnWith a r q words → turn_on no_files p (made_where a slot) ≡ record { end = making a slot words; pages = q }
    unfolding turn_on
    made_goes r q words same on = made_comes ∙ ap (λ (x : NumberedPages). turn_on no_files x rest) (sym same) ∙ on.comes (λ ws. ends (making a slot ws))

pub make_changes : (tree grown : PlainTree) (f : Fork) (p q : NumberedPages) → grown ≡ with_made tree f → parts grown q ≡ fork_changed (Make f) (record (parts tree p) { pages = q })
unfolding fork_changed
make_changes tree grown f p q is = ap (λ (t : PlainTree). parts t q) is

-- the map that is wanted follows the caller, which lives
pub wanted_new : (a : Asked) (lives : ForkName → Bool) (name : ForkName) → lives a.who ≡ true → name.tty ≡ a.who.tty → IsNewMap lives name (map_wanted a)
wanted_new a lives name there tty = by (bit (in_ac a.regs 1) 0 == 1)
  where
    by : (b : Bool) → IsNewMap lives name (cond b (FollowAll a.who) EmptyMap)
    by true = (there, sym tty)
    by false = tt

-- the fork that is made is new, below the caller, and within its limits
pub made_new : (a : Asked) (slot : ℕ) (words : List ℕ) → IsSome (map.get a.tree.forks a.who) → length words ≡ 16 → IsNew a.tree (made_fork a slot words)
unfolding psi_at_rest
made_new a slot words lives long = record {
  name = refl;
  units = refl;
  within = record { status = λ channel e. status_fits (starts a.regs) channel e; pc = pc_low (starts a.regs); accumulators = long };
  below = ap (λ (o : Option Fork). is_some (option_map (λ k. k.slot) o)) (some_of (map.get a.tree.forks a.who) lives).1;
}
  where
    status_fits : (b : Bool) (channel : ℕ) → cond b Run Halted ≡ Forced channel → channel < 36
    status_fits true channel e = absurd (cc e)
    status_fits false channel e = absurd (cc e)

    pc_low : (b : Bool) → cond b (right (in_ac a.regs 1)) 0 < 2 ^ 18
    pc_low true = omega arith
    pc_low false = omega arith

pub made_come : (tree : PlainTree) (f : Fork) → IsNew tree f → ComeOrNew tree (map.insert tree.forks f.name f)
made_come tree f new = λ g e. elim (cases_name g.name f.name) [
  | inl at ↦ let both : Some f ≡ Some g = sym (get_put tree.forks f.name g.name f at) ∙ e in let one : f ≡ g = cc both in inr (subst (IsNew tree) one new)
  | inr ne ↦ inl (came_itself tree.forks g (sym (get_put_other tree.forks f.name g.name f ne) ∙ e))
]

-- who lived lives still
pub still_there : (forks : ForkMap) (f : Fork) (who : ForkName) → map.contains_key forks who ≡ true → map.contains_key (map.insert forks f.name f) who ≡ true
still_there forks f who lives = elim (cases_name who f.name) [
  | inl at ↦ ap is_some (get_put forks f.name who f at)
  | inr ne ↦ ap is_some (get_put_other forks f.name who f ne) ∙ lives
]
