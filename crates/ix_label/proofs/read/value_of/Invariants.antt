use Rattle.std.{proofs.Common.{◌≡◌, ◌≤◌, take}, specs.Str.Parse.digits_value}
use Rattle.ix_label.proofs.read.value_of.Given as goal

abbrev pub invariant-loop-digit : goal.invariant-loop-digit
invariant-loop-digit l = record {
  small : l.value ≤ l.greatest;
  so_far : l.value ≡ digits_value 10 (take l.digit-index l.digits);
}
