-- The worked request.
use Rattle.std.proofs.Common.{◌≡◌, true, codes, Some, refl}
use Rattle.ix_label.specs.{Category.bottom, Lattice.bottom-leq}
use Rattle.ix_text.specs.Names.{is_script_name, name_of}
use Rattle.ix_policy.specs.{Deciding.{decide, decide_from, matches}, declared.request.Verdict.Verdict}
use Rattle.ix_policy.specs.declared.request.Request.TheVariants as request
use Rattle.ix_sessserv.specs.{Messages.user_in, Worked.{rules, GrantIsRefused}}

abbrev allowed : Verdict
allowed = record { rule = 1; allow = true }

ann_read : user_in (codes "login ann") ≡ Some (codes "ann")
unfolding user_in name_of is_script_name
ann_read = refl

first_allows : decide rules (request.Session (codes "ann") bottom) ≡ allowed
unfolding decide decide_from matches
first_allows = rw (bottom-leq bottom) refl

pub grant-is-refused : GrantIsRefused
grant-is-refused = rw (ann_read, first_allows) (refl, refl)
