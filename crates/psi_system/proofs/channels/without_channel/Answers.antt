use Rattle.std.proofs.Common.{◌∙◌, ap}
use Rattle.plain_model.specs.Interrupts.{without_channels}
use Rattle.psi_system.proofs.channels.without_channel.Goals as goal

pub returns : goal.returns
returns c = c.boolean.ensures ∙ ap (without_channels c.args.word) c.channel_word.ensures.word
