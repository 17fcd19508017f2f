use Rattle.std.proofs.Common.{◌∙◌}
use Rattle.groups.specs.Plans.{settings_of}
use Rattle.groups.proofs.Widths.{whole_key}
use Rattle.groups.proofs.plan.Plan.row_key.Goals as goal

pub returns : goal.returns
returns c = c.evaluate_group_by.ensures ∙ whole_key (settings_of c.args.self.now) c.args.set c.args.self.now.few_keys _
