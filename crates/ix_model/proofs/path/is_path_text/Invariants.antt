use Rattle.std.proofs.Common.{◌≡◌, ◌≤◌, length}
use Rattle.ix_model.{specs.world.Texts.{between_slashes, is_path_text}, proofs.texts.Reading.to_read}
use Rattle.ix_model.proofs.path.is_path_text.Given as goal

abbrev pub invariant-pieces : goal.invariant-pieces
invariant-pieces l = record {
  few : l.count ≤ 16;
  is : is_path_text l.text ≡ to_read l.count (between_slashes l.rest);
}

abbrev pub decreases-pieces : goal.decreases-pieces
decreases-pieces l = length l.rest
