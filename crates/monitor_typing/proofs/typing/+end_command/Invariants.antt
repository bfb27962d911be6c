use Rattle.monitor_typing.proofs.typing.+end_command.Given as goal

abbrev pub decreases-end_command : goal.decreases-end_command
decreases-end_command g l = l.left
