-- What is told of the outside before and after a run.
use Rattle.std.specs.Prelude.{◌≡◌, ◌⊎◌, ℕ, ◌-◌, ◌≤◌, List, Option}
use Rattle.outside.specs.Faults.{Rose}
use Rattle.page_contracts.specs.DrumWords.{DrumWords}
use Rattle.texts.specs.declared.last.Status.{Status}
use Rattle.texts.specs.declared.last.Status.TheVariants.{DrumFault, ReadFault, WriteFault}

-- the bytes that are left of the script, those that both sinks have taken, and the words of the drum's pages, each where they are told
pub record Contents : Type 0 where
  pub script : Option (List ℕ)
  pub out : Option (List ℕ)
  pub rec : Option (List ℕ)
  pub drum : Option DrumWords

-- the contents before and after, and how often the drum was read and written in between
pub record Observed : Type 0 where
  pub before : Contents
  pub after : Contents
  pub reads : ℕ
  pub writes : ℕ

-- the counts of faults before and after
pub record Faults : Type 0 where
  pub script : ℕ
  pub script_after : ℕ
  pub out : ℕ
  pub out_after : ℕ
  pub rec : ℕ
  pub rec_after : ℕ
  pub drum : ℕ
  pub drum_after : ℕ

module _ {S T R D : Type 0} (left : S → Option (List ℕ)) (out_taken : T → Option (List ℕ)) (rec_taken : R → Option (List ℕ)) (held : D → Option DrumWords)
    (reads writes : D → ℕ) where
  -- what a source, two sinks and a drum tell
  abbrev pub contents : S → T → R → D → Contents
  contents script out rec drum = record { script = left script; out = out_taken out; rec = rec_taken rec; drum = held drum }

  -- what they tell before and after
  abbrev pub seen : (script script' : S) → (out out' : T) → (rec rec' : R) → (drum drum' : D) → Observed
  seen script script' out out' rec rec' drum drum' =
      record { before = contents script out rec drum; after = contents script' out' rec' drum'; reads = reads drum' - reads drum; writes = writes drum' - writes drum }

module _ {S T R D : Type 0} where
  -- the counts of faults of a source, two sinks and a drum before and after
  abbrev pub faults : (S → ℕ) → (T → ℕ) → (R → ℕ) → (D → ℕ) → (script script' : S) → (out out' : T) → (rec rec' : R) → (drum drum' : D) → Faults
  faults of_script of_out of_rec of_drum script script' out out' rec rec' drum drum' = record {
    script = of_script script;
    script_after = of_script script';
    out = of_out out;
    out_after = of_out out';
    rec = of_rec rec;
    rec_after = of_rec rec';
    drum = of_drum drum;
    drum_after = of_drum drum';
  }

-- no count has fallen
pub record NoneFell (f : Faults) : Type 0 where
  pub script : f.script ≤ f.script_after
  pub out : f.out ≤ f.out_after
  pub rec : f.rec ≤ f.rec_after
  pub drum : f.drum ≤ f.drum_after

-- a fault comes only where a count rose, and no count falls; a source that fails ends the run, so no other status but that of a write follows
pub record IsCaused (status : Status) (f : Faults) : Type 0 where
  pub read : status ≡ ReadFault → Rose f.script f.script_after
  pub write : status ≡ WriteFault → Rose f.out f.out_after ⊎ Rose f.rec f.rec_after
  pub drum : status ≡ DrumFault → Rose f.drum f.drum_after
  pub later : NoneFell f
  pub unfaulted : (status ≡ ReadFault → ⊥) → (status ≡ WriteFault → ⊥) → f.script_after ≡ f.script

-- each sink has handed on all that it took, or its count of faults rose; and without a write fault both have
pub record HandedOn {T R : Type 0} (out_handed : T → Type 0) (rec_handed : R → Type 0) (out_faults : T → ℕ) (rec_faults : R → ℕ) (out out' : T) (rec rec' : R) (status : Status) : Type 0 where
  pub out_tried : out_handed out' ⊎ Rose (out_faults out) (out_faults out')
  pub rec_tried : rec_handed rec' ⊎ Rose (rec_faults rec) (rec_faults rec')
  pub out_all : (status ≡ WriteFault → ⊥) → out_handed out'
  pub rec_all : (status ≡ WriteFault → ⊥) → rec_handed rec'
