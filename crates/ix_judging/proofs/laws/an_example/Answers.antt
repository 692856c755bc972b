use Rattle.std.proofs.Common.{refl}
use Rattle.ix_judging.proofs.Examples.{example_is, example_prints}
use Rattle.ix_judging.proofs.laws.an_example.Goals as goal

pub returns : goal.returns
returns c = record {
  example = record {
    is = example_is;
    prints = example_prints;
    judged = record {
      good_a = refl;
      good_b = refl;
      early = refl;
      answer = refl;
      call = refl;
      lane = refl;
      place = refl;
      head = refl;
      nothing = refl;
      front = refl;
      unended = refl;
      more = refl;
      further = refl;
      last = refl;
    };
  };
}
