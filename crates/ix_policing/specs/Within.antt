-- Which requests are within another: any rule that matches the greater one matches them too.
use Rattle.std.specs.Prelude.{ℕ, Bool, false, ◌&&◌, ◌||◌, List}
use Rattle.ix_label.specs.Category.{leq}
use Rattle.ix_model.specs.world.Naming.{same_bytes}
use Rattle.ix_model.specs.world.Privs.{has_all}
use Rattle.ix_policy.specs.declared.request.Request.{Request}
use Rattle.ix_policy.specs.declared.request.Request.TheVariants as request

-- whether the first request is within the second: it is of the same kind, at a label at or below that of the second, and it wants no
-- further privilege, or is of the same user; a second of the other user, whom no rule names, stands for all users
abbrev pub is_within : List ℕ → Request → Request → Bool
is_within other (request.Grant label want) (request.Grant label' want') = has_all want' want && leq label label'
is_within other (request.Grant label want) (request.Session user' label') = false
is_within other (request.Session user label) (request.Grant label' want') = false
is_within other (request.Session user label) (request.Session user' label') = (same_bytes user' user || same_bytes user' other) && leq label label'
