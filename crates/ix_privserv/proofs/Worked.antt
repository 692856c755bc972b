-- The worked request.
use Rattle.std.proofs.Common.{◌≡◌, true, codes, Some, refl}
use Rattle.ix_label.specs.{Category.bottom, Lattice.bottom-leq}
use Rattle.ix_model.specs.{world.Privs.has_all, declared.privs.PrivSet.PrivSet}
use Rattle.ix_text.specs.Privs.{privs_of}
use Rattle.ix_policy.specs.{Deciding.{decide, decide_from, matches}, declared.request.Verdict.Verdict}
use Rattle.ix_policy.specs.declared.request.Request.TheVariants as request
use Rattle.ix_privserv.specs.{Messages.wanted, Worked.{rules, WantsDown}}

abbrev down : PrivSet
down = record { 0 = 1 }

abbrev allowed : Verdict
allowed = record { rule = 2; allow = true }

down_wanted : wanted (codes "want D") ≡ Some down
unfolding wanted privs_of
down_wanted = refl

second_allows : decide rules (request.Grant bottom down) ≡ allowed
unfolding decide decide_from matches has_all
second_allows = rw (bottom-leq bottom) refl

pub wants-down : WantsDown
wants-down = rw (down_wanted, second_allows) (refl, refl)
