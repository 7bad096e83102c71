use mathlib.Core.Path.{◌∙◌}
use Rattle.kernel.proofs.Contains.{any-contains}
use Rattle.signal.proofs.event.contains_id.Goals as goal

pub returns : goal.returns
returns c = c.contains.ensures.value ∙ any-contains c.args.l c.args.o.0
