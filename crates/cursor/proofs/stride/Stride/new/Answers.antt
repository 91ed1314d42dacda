use Rattle.cursor.proofs.NonZero.{made_stride}
use Rattle.cursor.proofs.stride.Stride.new.Goals as goal

pub returns-else-steps-eq0 : goal.returns-else-steps-eq0
returns-else-steps-eq0 c = made_stride c.args.steps _
