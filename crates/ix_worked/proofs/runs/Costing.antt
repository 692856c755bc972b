-- What calls cost, computed.
use Rattle.std.proofs.Common.{◌≡◌, refl, codes}
use Rattle.ix_model.specs.history.Cost.{cost_of, cost_of_history}
use Rattle.ix_model.specs.history.Events as op
use Rattle.ix_worked.specs.{Scripts.{in_root, under}, floating.TwoLevels.writing}

pub making : cost_of (op.CreateAt (in_root (codes "a"))) ≡ 130
unfolding cost_of
making = refl

pub linking : cost_of (op.LinkAt (in_root (codes "a")) (under (codes "d") (codes "key"))) ≡ 136
unfolding cost_of
linking = refl

pub writing_three : cost_of (op.WriteFd 0 (codes "abc")) ≡ 131
unfolding cost_of
writing_three = refl

pub asking_itself : cost_of op.SelfLabel ≡ 128
unfolding cost_of
asking_itself = refl

pub the_session : cost_of_history (writing (codes "AA")) ≡ 776
unfolding cost_of cost_of_history
the_session = refl
