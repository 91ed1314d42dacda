use Rattle.cursor.proofs.NonZero.{made_shortfall}
use Rattle.cursor.proofs.shortfall.Shortfall.new.Goals as goal

pub returns-else-places-eq0 : goal.returns-else-places-eq0
returns-else-places-eq0 c = made_shortfall c.args.places _
