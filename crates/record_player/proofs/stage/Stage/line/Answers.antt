use Rattle.std.proofs.Common.{inl, inr, ap, arith}
use Rattle.script_texts.specs.RecordLines.{counts, run, version}
use Rattle.script_texts.proofs.Takers.{onward_nil}
use Rattle.record_reader.specs.Reader.{line_given}
use Rattle.record_player.proofs.Gone.{gives_none}
use Rattle.record_player.proofs.Stops.{few_counted, few_done, halted}
use Rattle.record_player.proofs.stage.Stage.line.Goals as goal

pub entries-requires-clause-fits : goal.entries-requires-clause-fits
entries-requires-clause-fits g c = (c.requires (run c.in-Run.step c.in-Run.count) (ap line_given c.in-Run.is)).0.0

pub entries-requires-clause-count : goal.entries-requires-clause-count
entries-requires-clause-count g c = (c.requires (run c.in-Run.step c.in-Run.count) (ap line_given c.in-Run.is)).0.1

pub entries-requires-clause-few : goal.entries-requires-clause-few
entries-requires-clause-few g c =
    let fits = c.requires (run c.in-Run.step c.in-Run.count) (ap line_given c.in-Run.is) in
    omega (arith, few_counted c.in-Run.step c.in-Run.count fits.0.1, fits.1)

pub end_of-requires : goal.end_of-requires
end_of-requires g c is =
    let fits = c.requires (run c.in-Run.step c.in-Run.count) (ap line_given c.in-Run.is) in
    few_done g.T.Taker.fault_count g.T.Taker.stands g.T.Taker.cut c.args.self.now c.entries.new.self c.args.out.now c.entries.new.out c.in-Run.step c.in-Run.count c.in-Err.why is c.in-Err.ensures.err
    (omega (arith, few_counted c.in-Run.step c.in-Run.count fits.0.1, fits.1))

pub returns-in-Size : goal.returns-in-Size
returns-in-Size g c = record {
  later = omega arith;
  goes_on = onward_nil g.T.Taker.onward _;
  done = elim c.in-Size.is [
    | inl x ↦ record { line = version x.0; given = ap line_given x.1; gives = gives_none g.T.Taker.stands c.args.self.now c.args.out.now }
    | inr x ↦ record { line = counts x.0 x.1; given = ap line_given x.2; gives = gives_none g.T.Taker.stands c.args.self.now c.args.out.now }
  ];
}

pub returns-in-Ok : goal.returns-in-Ok
returns-in-Ok g c = record {
  later = c.in-Ok.ensures.later;
  goes_on = c.in-Ok.ensures.goes_on;
  done = record { line = run c.in-Run.step c.in-Run.count; given = ap line_given c.in-Run.is; gives = c.in-Ok.ensures.ok };
}

pub returns-in-Err : goal.returns-in-Err
returns-in-Err g c = record {
  later = c.in-Err.ensures.later;
  goes_on = c.in-Err.ensures.goes_on;
  done = halted g.T.Taker.fault_count g.T.Taker.stands g.T.Taker.cut c.args.self.now c.entries.new.self c.args.out.now c.entries.new.out c.in-Run.step c.in-Run.count c.args.next c.in-Err.why c.end_of.result c.in-Run.is c.end_of.ensures.illegal c.end_of.ensures.fault c.in-Err.ensures.err;
}

pub returns-in-End : goal.returns-in-End
returns-in-End g c = record { later = omega arith; goes_on = onward_nil g.T.Taker.onward _; done = record { same = c.in-End.is; gives = gives_none g.T.Taker.stands c.args.self.now c.args.out.now } }

pub returns-in-Bad : goal.returns-in-Bad
returns-in-Bad g c = record { later = omega arith; goes_on = onward_nil g.T.Taker.onward _; done = record { same = c.in-Bad.is; gives = gives_none g.T.Taker.stands c.args.self.now c.args.out.now } }

pub returns-in-Long : goal.returns-in-Long
returns-in-Long g c = record { later = omega arith; goes_on = onward_nil g.T.Taker.onward _; done = record { same = c.in-Long.is; gives = gives_none g.T.Taker.stands c.args.self.now c.args.out.now } }

pub returns-in-ReadFault : goal.returns-in-ReadFault
returns-in-ReadFault g c = record { later = omega arith; goes_on = onward_nil g.T.Taker.onward _; done = record { same = c.in-ReadFault.is; gives = gives_none g.T.Taker.stands c.args.self.now c.args.out.now } }
