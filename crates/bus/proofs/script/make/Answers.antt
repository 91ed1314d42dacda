use Rattle.std.proofs.Common.{length, sym, ap}
use Rattle.bus.specs.Waiting.{told}
use Rattle.bus.specs.Scripts.{asking}
use Rattle.bus.proofs.Scripts.{put_laid, exchange_laid}
use Rattle.bus.proofs.script.make.Goals as goal

pub returns-in-Put-clause-done : goal.returns-in-Put-clause-done
returns-in-Put-clause-done g c = record {
  event = _;
  asked = ap (asking (length c.args.out.now)) (sym c.in-Put.is);
  goes = c.put.ensures.law;
  left = put_laid (told c.put.result) c.args.out.now;
}

pub returns-in-Exchange-clause-done : goal.returns-in-Exchange-clause-done
returns-in-Exchange-clause-done g c = record {
  event = _;
  asked = ap (asking (length c.args.out.now)) (sym c.in-Exchange.is);
  goes = c.exchange.ensures.law;
  left = exchange_laid _ _ _ _ _ _ c.exchange.ensures.done;
}
