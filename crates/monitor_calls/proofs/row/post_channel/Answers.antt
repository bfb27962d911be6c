use Rattle.std.proofs.Common.{◌∙◌}
use Rattle.plain_model.specs.Trees.{with_body}
use Rattle.monitor_calls.proofs.row.post_channel.Goals as goal

pub returns-else-post-clause-fork : goal.returns-else-post-clause-fork
returns-else-post-clause-fork c f = c.post.ensures.fork f ∙ c.channel_of.ensures.posts (with_body c.args.body.now f)
