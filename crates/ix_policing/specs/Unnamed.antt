-- Users that no rule names.
use Rattle.std.specs.Prelude.{◌≡◌, ℕ, zero, suc, ◌+◌, ◌/◌, ◌%◌, Bool, false, not, ◌&&◌, List, [], ◌∷◌, if◌then◌else◌}
use Rattle.std.specs.Option.{option_map_or}
use Rattle.std.specs.List.{list_any}
use Rattle.ix_model.specs.world.Naming.{same_bytes}
use Rattle.ix_policy.specs.declared.rule.Rule.{Rule}

-- whether the rule names that user
abbrev pub names : List ℕ → Rule → Bool
names user r = option_map_or (λ own. same_bytes own user) r.user false

-- none of the rules names the user
abbrev pub IsUnnamed : List ℕ → List Rule → Type 0
IsUnnamed user rules = list_any (names user) rules ≡ false

-- whether no rule of two policies names the user
abbrev pub is_free : List Rule → List Rule → List ℕ → Bool
is_free a b user = not (list_any (names user) a) && not (list_any (names user) b)

-- the last decimal digit of a number
abbrev pub digit : ℕ → ℕ
digit n = 48 + n % 10

-- the spare user of a number below 1000: user000, user001 and so on
unfoldable pub spare : ℕ → List ℕ
spare n = 117 ∷ 115 ∷ 101 ∷ 114 ∷ digit (n / 100) ∷ digit (n / 10) ∷ digit n ∷ []

-- the first spare user from number n on that no rule of the two policies names, or the one after so many that are named
unfoldable pub free_from : List Rule → List Rule → ℕ → ℕ → List ℕ
free_from a b n zero = spare n
free_from a b n (suc more) = if is_free a b (spare n) then spare n else free_from a b (n + 1) more

-- the user that stands for all whom no rule of the two policies names: the first spare user that none names
unfoldable pub unnamed_user : List Rule → List Rule → List ℕ
unnamed_user a b = free_from a b 0 512
