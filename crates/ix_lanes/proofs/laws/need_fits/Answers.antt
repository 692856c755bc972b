use Rattle.ix_lanes.proofs.serially.Needs.{next_fits, so_far_fits, whole_fits}
use Rattle.ix_lanes.proofs.laws.need_fits.Goals as goal

pub returns : goal.returns
returns c = record { whole = whole_fits; so_far = λ s events h. (so_far_fits s events h, next_fits s events h) }
