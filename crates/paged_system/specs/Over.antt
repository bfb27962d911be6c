-- What the clauses of a store say of what has the store in it.
use Rattle.page_contracts.specs.Stores.{StoreMeaning}

-- of a type of which a part has this meaning
abbrev pub over : {S P : Type 0} → (S → P) → StoreMeaning P → StoreMeaning S
over part means = record {
  homes = λ s. means.homes (part s);
  frames = λ s. means.frames (part s);
  spare = λ s. means.spare (part s);
  queue = λ s. means.queue (part s);
  untold = λ s. means.untold (part s);
  holds = λ s. means.holds (part s);
  tenant = λ s. means.tenant (part s);
  victim = λ s. means.victim (part s);
  age = λ s. means.age (part s);
  uses = λ s. means.uses (part s);
  found = λ s. means.found (part s);
  members = λ s. means.members (part s);
  flat = means.flat;
}
