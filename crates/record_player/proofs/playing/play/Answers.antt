use Rattle.std.proofs.Common.{[]}
use Rattle.record_reader.proofs.WholeReadings.{stands_first}
use Rattle.record_player.specs.Hearing.{TextHeard}
use Rattle.record_player.proofs.Hearing.{faults_first, heard_next, text_next}
use Rattle.record_player.proofs.Opened.{played_none, played_partly, played_whole}
use Rattle.record_player.proofs.playing.play.Goals as goal

pub drum_pages-requires-clause-fits : goal.drum_pages-requires-clause-fits
drum_pages-requires-clause-fits g c l given = ((c.next-first.ensures.advances l given).goes_on [] c.new-reader.ensures.read).fits

pub play_on-requires-clause-heard : goal.play_on-requires-clause-heard
play_on-requires-clause-heard g c = heard_next c.new-reader.result c.next-first.new.self [] c.next-first.result c.new-reader.ensures.read c.next-first.ensures.advances c.next-first.ensures.open c.next-first.ensures.number

pub returns-in_default-clause-played : goal.returns-in_default-clause-played
returns-in_default-clause-played g c = played_none g.T.Taker.stands g.T.Taker.cut c.args.out.now c.args.pages (g.S.Source.left c.args.input.now)

pub returns-in-Done-clause-played : goal.returns-in-Done-clause-played
returns-in-Done-clause-played g c =
    let told = g.S.Source.left c.args.input.now in
    let text : TextHeard g.S.Source.left told c.next-first.new.self c.next-first.new.s [] c.next-first.result =
    text_next g.S.Source.left told c.new-reader.result c.next-first.new.self c.args.input.now c.next-first.new.s [] c.next-first.result
    (λ t is. stands_first g.S.Source.left t c.new-reader.result c.args.input.now c.new-reader.ensures.pending c.new-reader.ensures.read is) c.next-first.ensures.stands c.next-first.ensures.decides in
    played_whole g.T.Taker.stands g.T.Taker.cut c.in-Ok.stage.system c.play_on.new.stage.system c.args.out.now c.play_on.new.out told c.next-first.result c.args.pages c.drum_pages.result c.drum_pages.ensures.pages c.in-Ok.ensures.opened (c.in-Done.ensures.played told text)

pub returns-in-Done-clause-read_later : goal.returns-in-Done-clause-read_later
returns-in-Done-clause-read_later g c =
    let base = g.S.Source.fault_count c.args.input.now in
    (c.in-Done.ensures.faults base (faults_first base (g.S.Source.fault_count c.next-first.new.s) c.next-first.result c.next-first.ensures.later c.next-first.ensures.cause c.next-first.ensures.unfaulted)).later

pub returns-in-Done-clause-unfaulted : goal.returns-in-Done-clause-unfaulted
returns-in-Done-clause-unfaulted g c other more =
    let base = g.S.Source.fault_count c.args.input.now in
    (c.in-Done.ensures.faults base (faults_first base (g.S.Source.fault_count c.next-first.new.s) c.next-first.result c.next-first.ensures.later c.next-first.ensures.cause c.next-first.ensures.unfaulted)).unfaulted other

pub returns-in_default-play_on : goal.returns-in_default-play_on
returns-in_default-play_on g c =
    let told = g.S.Source.left c.args.input.now in
    let base = g.S.Source.fault_count c.args.input.now in
    let text : TextHeard g.S.Source.left told c.next-first.new.self c.next-first.new.s [] c.next-first.result =
    text_next g.S.Source.left told c.new-reader.result c.next-first.new.self c.args.input.now c.next-first.new.s [] c.next-first.result
    (λ t is. stands_first g.S.Source.left t c.new-reader.result c.args.input.now c.new-reader.ensures.pending c.new-reader.ensures.read is) c.next-first.ensures.stands c.next-first.ensures.decides in
    let faults = c.play_on.ensures.faults base (faults_first base (g.S.Source.fault_count c.next-first.new.s) c.next-first.result c.next-first.ensures.later c.next-first.ensures.cause c.next-first.ensures.unfaulted) in
    record {
      played = played_partly g.T.Taker.stands g.T.Taker.cut c.in-Ok.stage.system c.play_on.new.stage.system c.args.out.now c.play_on.new.out told c.next-first.result c.args.pages c.drum_pages.result c.drum_pages.ensures.pages c.in-Ok.ensures.opened c.play_on.result (c.play_on.ensures.played told text);
      stops = λ is. c.in_default-play_on.not-Done is;
      read_later = faults.later;
      read_cause = faults.cause;
      unfaulted = λ other more. faults.unfaulted other;
      later = c.play_on.ensures.later;
      write_cause = c.play_on.ensures.cause;
      onward = c.play_on.ensures.onward;
    }
