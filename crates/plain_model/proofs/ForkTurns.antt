-- What the turn of a fork call leaves: the pages of files. It does not depend on what files are known by.
use Rattle.std.proofs.Common.{◌≡◌, ℕ, ◌%◌, Bool, true, false, cond, not, List, [], ◌∷◌, Option, None, Some, refl, ◌∙◌, ap, Ordering}
use Rattle.std.specs.Option.{option_map_or}
use Rattle.std.specs.FinMap as map
use Rattle.outside.specs.declared.TheConstants.{PAGE_WORDS}
use Rattle.plain_model.specs.declared.call.ForkChange.{ForkChange}
use Rattle.plain_model.specs.declared.call.ForkChange.TheVariants.{Nothing, Make, Kill, Freeze, Become, Halt, Store}
use Rattle.machine_names.specs.declared.names.ForkName.{ForkName}
use Rattle.machine_names.specs.declared.names.PageName.{PageName}
use Rattle.plain_model.specs.declared.fork.Fork.{Fork}
use Rattle.plain_pages.specs.PlainPages.{PlainPages, refiled}
use Rattle.machine_names.specs.Orders.{file_page_cmp}
use Rattle.plain_pages.specs.References.{stored, in_map, slot_at}
use Rattle.plain_units.specs.Steps.{is_accumulator}
use Rattle.plain_model.specs.Inferiors.{is_in_branch, is_inferior}
use Rattle.plain_units.specs.Blocks.{next_address, stored_from}
use Rattle.plain_model.specs.Trees.{waiters_woken}
use Rattle.plain_model.specs.ForkCalls.{ForkParts, with_forks, without_all, without_inferiors, killed, with_halted, fork_changed}
use Rattle.plain_pages.proofs.Refiled.{NameAlike}
use Rattle.plain_model.proofs.MapsGone.{gone_leaves, gone_refiled}
use Rattle.plain_units.proofs.RefiledUnits.{stored_leaves, stored_refiled}

module _ {K : Type 0} {file_cmp : K → K → Ordering} where
  -- who is killed leaves the pages of files
  pub killed_leaves : (v : ForkParts file_cmp) (f : ForkName) → (killed v f).pages.files ≡ v.pages.files
  unfolding killed
  killed_leaves v f = ap (λ (p : PlainPages file_cmp). p.files) (gone_leaves v.pages (is_in_branch v.tree.forks f))

  pub inferiors_leave : (v : ForkParts file_cmp) (f : ForkName) → (without_inferiors v f).pages.files ≡ v.pages.files
  unfolding without_inferiors
  inferiors_leave v f = ap (λ (p : PlainPages file_cmp). p.files) (gone_leaves v.pages (is_inferior v.tree.forks f))

  stored_from_leaves : (p : PlainPages file_cmp) (f : ForkName) (at : ℕ) (words : List ℕ) → (stored_from p f at words).files ≡ p.files
  stored_from_leaves p f at [] = refl
  stored_from_leaves p f at (word ∷ words) = by (λ q. stored_from_leaves q f (next_address at) words) (is_accumulator at)
    where
      q : PlainPages file_cmp
      q = stored p (in_map (slot_at f at)) (at % PAGE_WORDS) word

      by : ((q : PlainPages file_cmp) → (stored_from q f (next_address at) words).files ≡ q.files) → (b : Bool) → (stored_from (cond b p q) f (next_address at) words).files ≡ p.files
      by rest true = rest p
      by rest false = rest q ∙ stored_leaves p (slot_at f at) (at % PAGE_WORDS) word

  -- and no change touches one
  pub changed_leaves : (change : ForkChange) (v : ForkParts file_cmp) → (fork_changed change v).pages.files ≡ v.pages.files
  unfolding fork_changed
  changed_leaves Nothing v = refl
  changed_leaves (Make f) v = refl
  changed_leaves (Kill f) v = killed_leaves v f
  changed_leaves (Freeze f on) v = refl
  changed_leaves (Become f body) v = refl
  changed_leaves (Halt f) v = by (map.get v.tree.forks f)
    where
      by : (o : Option Fork) → (option_map_or (with_halted v) o v).pages.files ≡ v.pages.files
      by None = refl
      by (Some g) = refl
  changed_leaves (Store f at words) v = stored_from_leaves v.pages f at words

module _ {K L : Type 0} {file_cmp : K → K → Ordering} (other_cmp : L → L → Ordering) (files : map.FinMap (file_page_cmp other_cmp) PageName) where
  -- the same parts, with the pages of files under other keys
  abbrev pub refiled_parts : ForkParts file_cmp → ForkParts other_cmp
  refiled_parts v = record { tree = v.tree; pages = refiled other_cmp v.pages files }

  abbrev AreAlike : ForkParts file_cmp → Type 0
  AreAlike v = NameAlike other_cmp v.pages files

  all_refiled : (v : ForkParts file_cmp) (goes : ForkName → Bool) → AreAlike v → without_all (refiled_parts v) goes ≡ refiled_parts (without_all v goes)
  all_refiled v goes alike = ap (λ (p : PlainPages other_cmp). record { tree = record v.tree { forks = map.retain_keys v.tree.forks (λ f. not (goes f)) }; pages = p }) (gone_refiled other_cmp files v.pages goes alike)

  -- nor does who is killed depend on it
  pub killed_refiled : (v : ForkParts file_cmp) (f : ForkName) → AreAlike v → killed (refiled_parts v) f ≡ refiled_parts (killed v f)
  unfolding killed
  killed_refiled v f alike = all_refiled v (is_in_branch v.tree.forks f) alike

  pub inferiors_refiled : (v : ForkParts file_cmp) (f : ForkName) → AreAlike v → without_inferiors (refiled_parts v) f ≡ refiled_parts (without_inferiors v f)
  unfolding without_inferiors
  inferiors_refiled v f alike = all_refiled v (is_inferior v.tree.forks f) alike

  stored_from_refiled : (p : PlainPages file_cmp) (f : ForkName) (at : ℕ) (words : List ℕ) → stored_from (refiled other_cmp p files) f at words ≡ refiled other_cmp (stored_from p f at words) files
  stored_from_refiled p f at [] = refl
  stored_from_refiled p f at (word ∷ words) = by (λ q. stored_from_refiled q f (next_address at) words) (is_accumulator at)
    where
      q : PlainPages file_cmp
      q = stored p (in_map (slot_at f at)) (at % PAGE_WORDS) word

      r : PlainPages other_cmp
      r = stored (refiled other_cmp p files) (in_map (slot_at f at)) (at % PAGE_WORDS) word

      by : ((q : PlainPages file_cmp) → stored_from (refiled other_cmp q files) f (next_address at) words ≡ refiled other_cmp (stored_from q f (next_address at) words) files) → (b : Bool)
          → stored_from (cond b (refiled other_cmp p files) r) f (next_address at) words ≡ refiled other_cmp (stored_from (cond b p q) f (next_address at) words) files
      by rest true = rest p
      by rest false = ap (λ x. stored_from x f (next_address at) words) (stored_refiled other_cmp files f p (slot_at f at) (at % PAGE_WORDS) word) ∙ rest q

  -- a change leaves the same
  pub change_refiled : (change : ForkChange) (v : ForkParts file_cmp) → AreAlike v → fork_changed change (refiled_parts v) ≡ refiled_parts (fork_changed change v)
  unfolding fork_changed
  change_refiled Nothing v alike = refl
  change_refiled (Make f) v alike = refl
  change_refiled (Kill f) v alike = ap (λ k. with_forks k (waiters_woken k.tree.forks f.tty)) (killed_refiled v f alike)
  change_refiled (Freeze f on) v alike = refl
  change_refiled (Become f body) v alike = refl
  change_refiled (Halt f) v alike = by (map.get v.tree.forks f)
    where
      by : (o : Option Fork) → option_map_or (with_halted (refiled_parts v)) o (refiled_parts v) ≡ refiled_parts (option_map_or (with_halted v) o v)
      by None = refl
      by (Some g) = refl
  change_refiled (Store f at words) v alike = ap (λ (p : PlainPages other_cmp). record { tree = v.tree; pages = p }) (stored_from_refiled v.pages f at words)
