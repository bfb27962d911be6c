use Rattle.std.proofs.Common.{subst, sym, ◌∙◌, rules}
use Rattle.texts.proofs.Starts.{onward_start}
use Rattle.script_driver.specs.RunTexts.{Fronts}
use Rattle.texts.specs.declared.last.Status.TheVariants.{WriteFault}
use Rattle.script_driver.specs.Observed.{HandedOn, IsCaused, faults, seen}
use Rattle.script_driver.specs.Statuses.{IsOfRun, Ran}
use Rattle.command_words.specs.declared.request.Request.{Request}
use Rattle.script_driver.specs.Verdicts.{AreRun}
use Rattle.script_driver.proofs.Closing.{closed, cut_short, few_told, last_told, moved, opens_booted, unclosed}
use Rattle.script_driver.proofs.Causes.{caused_closed, caused_given_up, caused_unclosed, handed_closed, handed_unclosed}
use Rattle.script_driver.proofs.Statuses.{closed_began, judged_by, never_judged}
use Rattle.script_driver.proofs.whole_run.run.Goals as goal

pub returns-in_default-clause-ran : goal.returns-in_default-clause-ran
returns-in_default-clause-ran g c sizes core room told =
    let asked : Request = record { events = c.args.events; sizes = sizes } in
    let opens = opens_booted g.D.Drum.held c.args.machine.now c.args.drum.now (g.D.Drum.size c.args.drum.now) c.requires.booted c.requires.size (g.met.D.Drum.tells_pages c.args.drum.now) told in
    let w = c.new-writer.result in
    let v = c.drive-driven.new.taker in
    let u = c.give_up.new.self in
    let onward = c.give_up.ensures.onward.each w (c.drive-driven.ensures.onward.each w (onward_start g.T.Sink.fault_count g.R.Sink.fault_count w)) in
    moved (λ o o' r r'. Fronts asked (seen g.S.Source.left g.T.Sink.taken g.R.Sink.taken g.D.Drum.held g.D.Drum.read_count g.D.Drum.write_count c.args.script.now c.drive-driven.new.script o o' r r' c.args.drum.now c.drive-driven.new.drum))
    c.new-writer.ensures.out (search rules) c.new-writer.ensures.rec (search rules)
    (cut_short g.S.Source.left g.T.Sink.taken g.R.Sink.taken g.D.Drum.read_count g.D.Drum.write_count c.args.script.now c.drive-driven.new.script c.drive-driven.new.drum w v u
    opens.1 c.requires.framed c.new-writer.ensures.line c.new-writer.ensures.run c.new-writer.ensures.tally asked core room
    c.drive-driven.result (last_told c.drive-driven.result c.args.events c.reads.ensures c.reads-reads.ensures c.writes.ensures c.writes-writes.ensures c.last.ensures.last c.in_default.is) c.drive-driven.ensures.drove c.give_up.ensures.cut)

pub returns-in-Ok-clause-ran : goal.returns-in-Ok-clause-ran
returns-in-Ok-clause-ran g c sizes core room told =
    let asked : Request = record { events = c.args.events; sizes = sizes } in
    let opens = opens_booted g.D.Drum.held c.args.machine.now c.args.drum.now (g.D.Drum.size c.args.drum.now) c.requires.booted c.requires.size (g.met.D.Drum.tells_pages c.args.drum.now) told in
    let w = c.new-writer.result in
    let v = c.drive-driven.new.taker in
    let u = c.close.new.writer in
    let onward = c.close.ensures.onward.each w (c.drive-driven.ensures.onward.each w (onward_start g.T.Sink.fault_count g.R.Sink.fault_count w)) in
    moved (λ o o' r r'. Ran asked (seen g.S.Source.left g.T.Sink.taken g.R.Sink.taken g.D.Drum.held g.D.Drum.read_count g.D.Drum.write_count c.args.script.now c.drive-driven.new.script o o' r r' c.args.drum.now c.drive-driven.new.drum) c.status.result)
    c.new-writer.ensures.out (search rules) c.new-writer.ensures.rec (search rules)
    (closed g.S.Source.left g.T.Sink.taken g.R.Sink.taken g.D.Drum.read_count g.D.Drum.write_count c.args.script.now c.drive-driven.new.script c.drive-driven.new.drum w v u
    opens.1 c.requires.framed c.new-writer.ensures.line c.new-writer.ensures.run c.new-writer.ensures.tally asked core room
    c.drive-driven.result c.in-Some.last c.status.result (last_told c.drive-driven.result c.args.events c.reads.ensures c.reads-reads.ensures c.writes.ensures c.writes-writes.ensures c.last.ensures.last c.in-Some.is) c.status.ensures (few_told c.reads.ensures c.reads-reads.ensures c.last.ensures.few.0) (few_told c.writes.ensures c.writes-writes.ensures c.last.ensures.few.1) c.drive-driven.ensures.drove c.in-Ok.ensures.ok)

pub returns-in-Err-clause-ran : goal.returns-in-Err-clause-ran
returns-in-Err-clause-ran g c sizes core room told =
    let asked : Request = record { events = c.args.events; sizes = sizes } in
    let opens = opens_booted g.D.Drum.held c.args.machine.now c.args.drum.now (g.D.Drum.size c.args.drum.now) c.requires.booted c.requires.size (g.met.D.Drum.tells_pages c.args.drum.now) told in
    let w = c.new-writer.result in
    let v = c.drive-driven.new.taker in
    let u = c.close.new.writer in
    let onward = c.close.ensures.onward.each w (c.drive-driven.ensures.onward.each w (onward_start g.T.Sink.fault_count g.R.Sink.fault_count w)) in
    moved (λ o o' r r'. Fronts asked (seen g.S.Source.left g.T.Sink.taken g.R.Sink.taken g.D.Drum.held g.D.Drum.read_count g.D.Drum.write_count c.args.script.now c.drive-driven.new.script o o' r r' c.args.drum.now c.drive-driven.new.drum))
    c.new-writer.ensures.out (search rules) c.new-writer.ensures.rec (search rules)
    (unclosed g.S.Source.left g.T.Sink.taken g.R.Sink.taken g.D.Drum.read_count g.D.Drum.write_count c.args.script.now c.drive-driven.new.script c.drive-driven.new.drum w v u
    opens.1 c.requires.framed c.new-writer.ensures.line c.new-writer.ensures.run c.new-writer.ensures.tally asked core room
    c.drive-driven.result c.in-Some.last (last_told c.drive-driven.result c.args.events c.reads.ensures c.reads-reads.ensures c.writes.ensures c.writes-writes.ensures c.last.ensures.last c.in-Some.is) c.drive-driven.ensures.drove c.in-Err.ensures.err)

pub returns-in-Ok-clause-judged : goal.returns-in-Ok-clause-judged
returns-in-Ok-clause-judged g c bytes is told =
    let ran = c.drive-driven.ensures.drove in
    let found = subst (λ source. AreRun source (g.S.Source.left c.args.script.now) (g.S.Source.left c.drive-driven.new.script) c.drive-driven.result ran.events) is ran.found in
    judged_by (g.S.Source.left c.args.script.now) (g.S.Source.left c.drive-driven.new.script) c.drive-driven.result ran.events found c.status.result c.status.ensures bytes told

pub returns-in-Ok-clause-caused : goal.returns-in-Ok-clause-caused
returns-in-Ok-clause-caused g c =
    let w = c.new-writer.result in
    let v = c.drive-driven.new.taker in
    let u = c.close.new.writer in
    let onward = c.close.ensures.onward.each w (c.drive-driven.ensures.onward.each w (onward_start g.T.Sink.fault_count g.R.Sink.fault_count w)) in
    moved (λ o o' r r'. IsCaused c.status.result (faults g.S.Source.fault_count g.T.Sink.fault_count g.R.Sink.fault_count g.D.Drum.fault_count c.args.script.now c.drive-driven.new.script o o' r r' c.args.drum.now c.drive-driven.new.drum))
    c.new-writer.ensures.out (search rules) c.new-writer.ensures.rec (search rules)
    (caused_closed g.S.Source.fault_count g.T.Sink.fault_count g.R.Sink.fault_count g.D.Drum.fault_count c.args.script.now c.drive-driven.new.script c.args.drum.now c.drive-driven.new.drum w v u onward c.drive-driven.ensures.read_later c.drive-driven.ensures.drum.faults_later
    c.drive-driven.result c.args.events _ _ c.in-Some.last c.status.result (sym c.last.ensures.last ∙ c.in-Some.is) c.status.ensures c.drive-driven.ensures.read_cause c.drive-driven.ensures.drum_cause c.drive-driven.ensures.unfaulted)

pub returns-in-Err-clause-caused : goal.returns-in-Err-clause-caused
returns-in-Err-clause-caused g c =
    let w = c.new-writer.result in
    let v = c.drive-driven.new.taker in
    let u = c.close.new.writer in
    let onward = c.close.ensures.onward.each w (c.drive-driven.ensures.onward.each w (onward_start g.T.Sink.fault_count g.R.Sink.fault_count w)) in
    moved (λ o o' r r'. IsCaused WriteFault (faults g.S.Source.fault_count g.T.Sink.fault_count g.R.Sink.fault_count g.D.Drum.fault_count c.args.script.now c.drive-driven.new.script o o' r r' c.args.drum.now c.drive-driven.new.drum))
    c.new-writer.ensures.out (search rules) c.new-writer.ensures.rec (search rules)
    (caused_unclosed g.S.Source.fault_count g.T.Sink.fault_count g.R.Sink.fault_count g.D.Drum.fault_count c.args.script.now c.drive-driven.new.script c.args.drum.now c.drive-driven.new.drum w v u onward c.drive-driven.ensures.read_later c.drive-driven.ensures.drum.faults_later
    c.new-writer.ensures.faults c.in-Err.ensures.cause)

pub returns-in-Ok-clause-handed : goal.returns-in-Ok-clause-handed
returns-in-Ok-clause-handed g c =
    let w = c.new-writer.result in
    let v = c.drive-driven.new.taker in
    let u = c.close.new.writer in
    moved (λ o o' r r'. HandedOn g.T.Sink.handed_on g.R.Sink.handed_on g.T.Sink.fault_count g.R.Sink.fault_count o o' r r' c.status.result)
    c.new-writer.ensures.out (search rules) c.new-writer.ensures.rec (search rules)
    (handed_closed g.T.Sink.handed_on g.R.Sink.handed_on g.T.Sink.fault_count g.R.Sink.fault_count w v u c.status.result c.in-Ok.ensures.handed)

pub returns-in-Err-clause-handed : goal.returns-in-Err-clause-handed
returns-in-Err-clause-handed g c =
    let w = c.new-writer.result in
    let v = c.drive-driven.new.taker in
    let u = c.close.new.writer in
    let onward = c.drive-driven.ensures.onward.each w (onward_start g.T.Sink.fault_count g.R.Sink.fault_count w) in
    moved (λ o o' r r'. HandedOn g.T.Sink.handed_on g.R.Sink.handed_on g.T.Sink.fault_count g.R.Sink.fault_count o o' r r' WriteFault)
    c.new-writer.ensures.out (search rules) c.new-writer.ensures.rec (search rules)
    (handed_unclosed g.T.Sink.handed_on g.R.Sink.handed_on g.T.Sink.fault_count g.R.Sink.fault_count w v u onward c.close.ensures.tried)

pub returns-in_default-clause-caused : goal.returns-in_default-clause-caused
returns-in_default-clause-caused g c =
    let w = c.new-writer.result in
    let v = c.drive-driven.new.taker in
    let u = c.give_up.new.self in
    let onward = c.give_up.ensures.onward.each w (c.drive-driven.ensures.onward.each w (onward_start g.T.Sink.fault_count g.R.Sink.fault_count w)) in
    moved (λ o o' r r'. IsCaused WriteFault (faults g.S.Source.fault_count g.T.Sink.fault_count g.R.Sink.fault_count g.D.Drum.fault_count c.args.script.now c.drive-driven.new.script o o' r r' c.args.drum.now c.drive-driven.new.drum))
    c.new-writer.ensures.out (search rules) c.new-writer.ensures.rec (search rules)
    (caused_given_up g.S.Source.fault_count g.T.Sink.fault_count g.R.Sink.fault_count g.D.Drum.fault_count c.args.script.now c.drive-driven.new.script c.args.drum.now c.drive-driven.new.drum w v u onward c.drive-driven.ensures.read_later c.drive-driven.ensures.drum.faults_later
    c.drive-driven.result c.args.events _ _ (sym c.last.ensures.last ∙ c.in_default.is) c.new-writer.ensures.faults c.drive-driven.ensures.cause c.give_up.ensures.later)

pub returns-in_default-clause-handed : goal.returns-in_default-clause-handed
returns-in_default-clause-handed g c =
    let w = c.new-writer.result in
    let v = c.drive-driven.new.taker in
    let u = c.give_up.new.self in
    let onward = c.drive-driven.ensures.onward.each w (onward_start g.T.Sink.fault_count g.R.Sink.fault_count w) in
    moved (λ o o' r r'. HandedOn g.T.Sink.handed_on g.R.Sink.handed_on g.T.Sink.fault_count g.R.Sink.fault_count o o' r r' WriteFault)
    c.new-writer.ensures.out (search rules) c.new-writer.ensures.rec (search rules)
    (handed_unclosed g.T.Sink.handed_on g.R.Sink.handed_on g.T.Sink.fault_count g.R.Sink.fault_count w v u onward c.give_up.ensures.tried)

pub returns-in-Ok-clause-began : goal.returns-in-Ok-clause-began
returns-in-Ok-clause-began g c = subst IsOfRun (sym c.status.ensures) (closed_began c.drive-driven.result)

pub returns-in-Ok-clause-generated : goal.returns-in-Ok-clause-generated
returns-in-Ok-clause-generated g c seed is =
    let ran = c.drive-driven.ensures.drove in
    let found = subst (λ source. AreRun source (g.S.Source.left c.args.script.now) (g.S.Source.left c.drive-driven.new.script) c.drive-driven.result ran.events) is ran.found in
    never_judged (g.S.Source.left c.args.script.now) (g.S.Source.left c.drive-driven.new.script) seed c.drive-driven.result ran.events found c.status.result c.status.ensures
