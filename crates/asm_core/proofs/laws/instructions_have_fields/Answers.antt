use Rattle.asm_core.proofs.Fields.{accumulator_back, address_back, index_back, indirect_back, instruction_is, opcode_back, word_small}
use Rattle.asm_core.proofs.laws.instructions_have_fields.Goals as goal

pub returns-clause-written : goal.returns-clause-written
returns-clause-written c = instruction_is

pub returns-clause-back : goal.returns-clause-back
returns-clause-back c op ac i x y ho ha hi hx hy = (
  opcode_back op ac i x y ho ha hi hx hy,
  accumulator_back op ac i x y ho ha hi hx hy,
  indirect_back op ac i x y ho ha hi hx hy,
  index_back op ac i x y ho ha hi hx hy,
  address_back op ac i x y ho ha hi hx hy,
  word_small op ac i x y ho ha hi hx hy,
)
