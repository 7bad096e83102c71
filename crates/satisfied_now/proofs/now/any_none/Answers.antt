use mathlib.Core.Path.{◌∙◌}
use Rattle.kernel.proofs.Contains.{any-contains}
use Rattle.satisfied_now.proofs.now.any_none.Goals as goal

pub returns : goal.returns
returns c = c.contains.ensures.value ∙ any-contains c.args.list.now 0
