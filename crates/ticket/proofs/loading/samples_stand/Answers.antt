use Rattle.std.proofs.Common.{List, [], ◌∷◌, length, refl, ap, inr, arith}
use Rattle.std.proofs.lemmas.Bool.Decides.{nat_tests}
use Rattle.ticket.specs.declared.record.Record.{Record}
use Rattle.ticket.specs.declared.record.Record.TheVariants.{Head, Tint, Purge, Every}
use Rattle.std.proofs.lemmas.List.Elements.{All-from_recursion}
use Rattle.ticket.specs.Records.{big, Fits}
use Rattle.ticket.specs.Lists.{Allowed}
use Rattle.ticket.specs.Samples.{pour, every_two}
use Rattle.ticket.proofs.Rights.{right_none}
use Rattle.ticket.proofs.loading.samples_stand.Goals as goal

inner : List Record
inner = Head 7 1000 ∷ Purge (pour 5 10) ∷ Tint (pour 1 100) ∷ Tint (pour 2 200) ∷ Every every_two ∷ []

pub returns : goal.returns
unfolding big inner
returns c = record {
  bytes = refl;
  lawful = λ room p t. record {
    inner = inner;
    right = record {
      headed = (refl, refl);
      unended = refl;
      fits = All-from_recursion Fits inner (omega arith);
      allowed = All-from_recursion Allowed inner (omega arith);
      once = λ k lo hi. grind (arith, nat_tests);
      purges = p;
      tints = t;
    };
    some = λ e. omega (arith, ap length e);
    ends = refl;
    short = omega arith;
  };
  says = record { purges = refl; tints = refl; can = refl; size = refl; resume = refl; limit = refl; stride = refl; first = refl };
  purges = refl;
  tints = refl;
  empty = λ room. inr (record { short = omega arith; rs = []; ys = []; right = right_none room; bytes = refl; wrong = refl });
  end_alone = λ room. inr (record { short = omega arith; rs = []; ys = 15 ∷ 0 ∷ 0 ∷ []; right = right_none room; bytes = refl; wrong = refl });
}
