use Rattle.std.proofs.Common.{◌≡◌, ℕ, ◌+◌, ◌<◌, length, None}
use Rattle.ix_policing.specs.{Differing.{difference_at, AllowsNoMore, AllowsMore, IsFirst, IsFirstAt}, Spelled.{IsSpelled}, Unnamed.{unnamed_user}}
use Rattle.ix_policing.specs.declared.difference.Difference.{Difference}
use Rattle.ix_policing.specs.declared.difference.Sought.TheVariants as sought
use Rattle.ix_policing.proofs.{Found.{no_more, allows_there, is_first, none_then, some_then}, Spellings.{spelled_first}}
use Rattle.ix_policing.proofs.difference.find_allowed.Goals as goal

pub returns-clause-some : goal.returns-clause-some
returns-clause-some g c =
    some_then c.first_difference.result (IsFirstAt sought.Allowed c.args.first.now c.args.second.now) (AllowsMore c.args.first.now c.args.second.now) c.first_difference.ensures.some
    (allows_there c.args.first.now c.args.second.now c.first_difference.ensures.unnamed c.first_difference.ensures.other_unnamed)

pub returns-clause-first : goal.returns-clause-first
returns-clause-first g c =
    some_then c.first_difference.result (IsFirstAt sought.Allowed c.args.first.now c.args.second.now) (IsFirst sought.Allowed c.args.first.now c.args.second.now) c.first_difference.ensures.some
    (is_first c.args.first.now c.args.second.now c.first_difference.ensures.unnamed c.first_difference.ensures.other_unnamed sought.Allowed)

pub returns-clause-none : goal.returns-clause-none
returns-clause-none g c =
    none_then c.first_difference.result
    ((k : ℕ) → k < length c.args.first.now + 1 → (l : ℕ) → l < length c.args.second.now + 1
    → difference_at sought.Allowed c.args.first.now c.args.second.now (unnamed_user c.args.first.now c.args.second.now) k l ≡ None)
    (AllowsNoMore c.args.first.now c.args.second.now) c.first_difference.ensures.none
    (no_more c.args.first.now c.args.second.now c.first_difference.ensures.unnamed c.first_difference.ensures.other_unnamed)

pub returns-clause-spelled : goal.returns-clause-spelled
returns-clause-spelled g c = λ form spelled other_spelled.
    some_then c.first_difference.result (IsFirstAt sought.Allowed c.args.first.now c.args.second.now) (λ (d : Difference). IsSpelled form d.request) c.first_difference.ensures.some
    (λ d h. spelled_first sought.Allowed form c.args.first.now c.args.second.now d h spelled other_spelled)
