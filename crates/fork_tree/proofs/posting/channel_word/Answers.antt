use Rattle.std.proofs.Common.{◌≡◌, ◌-◌, ◌∙◌, ap, arith}
use Rattle.std.proofs.Math.Pow.{pow_mono}
use Rattle.plain_model.specs.Interrupts.{channel_word, channels_of}
use Rattle.fork_tree.proofs.Posted.{alone}
use Rattle.fork_tree.proofs.posting.channel_word.Goals as goal

pub returns-clause-word : goal.returns-clause-word
returns-clause-word c = omega (arith, c.wrapped.ensures, pow_mono {i = 35 - c.args.channel} {j = 35} (omega arith))

pub returns-clause-alone : goal.returns-clause-alone
returns-clause-alone c =
    let word : c.wrapped.result ≡ channel_word c.args.channel = omega (arith, c.wrapped.ensures, pow_mono {i = 35 - c.args.channel} {j = 35} (omega arith)) in
    ap channels_of word ∙ alone c.args.channel c.requires
