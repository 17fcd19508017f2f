use Rattle.std.proofs.Common.{◌∙◌}
use Rattle.groups.specs.Plans.{settings_of}
use Rattle.groups.proofs.Widths.{whole_masked}
use Rattle.groups.proofs.plan.Plan.masked_key.Goals as goal

pub returns : goal.returns
returns c = c.masked_key.ensures ∙ whole_masked (settings_of c.args.self.now) c.args.set c.args.self.now.few_keys
