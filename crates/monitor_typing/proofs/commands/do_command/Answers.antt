use Rattle.std.proofs.Common.{refl}
use Rattle.monitor_typing.proofs.Commanded.{has_blank, has_continue, has_delete, has_directory, has_no_program, has_start, has_unknown}
use Rattle.monitor_typing.proofs.commands.do_command.Goals as goal

pub returns-in-Blank-clause-has : goal.returns-in-Blank-clause-has
returns-in-Blank-clause-has g c = has_blank c.args.system.now _ c.args.t c.args.job c.args.command.now c.in-Blank.is refl refl refl refl refl refl

pub returns-in-Run-clause-has : goal.returns-in-Run-clause-has
returns-in-Run-clause-has g c = has_no_program c.args.system.now _ c.args.t c.args.job c.args.command.now _ c.in-Run.is c.requires.whole refl refl refl refl refl refl

pub returns-in-Start-clause-has : goal.returns-in-Start-clause-has
returns-in-Start-clause-has g c = has_start c.args.system.now c.start_again.new.system c.args.t c.args.job c.args.command.now c.in-Start.is c.start_again.result c.start_again.ensures.has

pub returns-in-Continue-clause-has : goal.returns-in-Continue-clause-has
returns-in-Continue-clause-has g c = has_continue c.args.system.now c.resume.new.system c.args.t c.args.job c.args.command.now c.in-Continue.is c.resume.result c.resume.ensures.has

pub returns-in-Directory-clause-has : goal.returns-in-Directory-clause-has
returns-in-Directory-clause-has g c = has_directory c.args.system.now _ c.args.t c.args.job c.args.command.now c.in-Directory.is refl refl refl refl refl refl

pub returns-in-Delete-clause-has : goal.returns-in-Delete-clause-has
returns-in-Delete-clause-has g c = has_delete c.args.system.now c.delete_file.new.system c.args.t c.args.job c.args.command.now _ c.in-Delete.is c.delete_file.result c.delete_file.ensures.has

pub returns-in-Unknown-clause-has : goal.returns-in-Unknown-clause-has
returns-in-Unknown-clause-has g c = has_unknown c.args.system.now _ c.args.t c.args.job c.args.command.now c.in-Unknown.is refl refl refl refl refl refl
