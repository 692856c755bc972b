-- What the lines before tell, with one line more.
use Rattle.std.{proofs.Common.{◌≡◌, ℕ, ◌+◌, Bool, true, false, ◌||◌, cond, List, [], ◌∷◌, ◌++◌, Option, None, arith, refl, sym, ap, ◌∙◌, append_assoc}, specs.List.{list_any, flat_map, fold}}
use Rattle.std.proofs.lemmas.{List.{append-nil, Folds.list_any-append, Sums.{fold-append, sum_by-append}}, Grind.flat_map-append}
use Rattle.ix_script.specs.{lines.Before.{fs_told, fss_told, what_told, whats_told, limits_after, default_limits, limits_of, proc_told, proc_name_told, procs_of}, declared.line.Line.Line}
use Rattle.ix_script.specs.lines.Before.{proc_names, object_told, objects_of, is_policy, has_policy, is_phase, in_body, lane_after, lane_now, phase_lanes_after}
use Rattle.ix_script.specs.lines.Before.{phase_lanes, lanes_after, lanes_of, is_command, commands, in_lane, given, new_fds, new_procs, fds_given, procs_given}

or_false : (b : Bool) → (b || false) ≡ b
or_false true = refl
or_false false = refl

pub any_push : {A : Type 0} (test : A → Bool) (xs : List A) (x : A) → list_any test (xs ++ x ∷ []) ≡ (list_any test xs || test x)
any_push test xs x = list_any-append test xs _ ∙ ap (λ b. list_any test xs || b) (or_false _)

map_push : {A B : Type 0} (f : A → List B) (xs : List A) (x : A) → flat_map f (xs ++ x ∷ []) ≡ flat_map f xs ++ f x
map_push f xs x = flat_map-append f xs _ ∙ ap (λ ys. flat_map f xs ++ ys) (append-nil _)

-- ---- the header
pub fss_push : (xs : List Line) (x : Line) → fss_told (xs ++ x ∷ []) ≡ fss_told xs ++ fs_told x
unfolding fss_told
fss_push xs x = map_push _ xs x

pub whats_push : (xs : List Line) (x : Line) → whats_told (xs ++ x ∷ []) ≡ whats_told xs ++ what_told x
unfolding whats_told
whats_push xs x = map_push _ xs x

pub limits_push : (xs : List Line) (x : Line) → limits_of (xs ++ x ∷ []) ≡ limits_after (limits_of xs) x
unfolding limits_of
limits_push xs x = fold-append limits_after default_limits xs _

pub procs_push : (xs : List Line) (x : Line) → procs_of (xs ++ x ∷ []) ≡ procs_of xs ++ proc_told x
unfolding procs_of
procs_push xs x = map_push _ xs x

pub proc_names_push : (xs : List Line) (x : Line) → proc_names (xs ++ x ∷ []) ≡ proc_names xs ++ proc_name_told x
unfolding proc_names
proc_names_push xs x = map_push _ xs x

pub objects_push : (xs : List Line) (x : Line) → objects_of (xs ++ x ∷ []) ≡ objects_of xs ++ object_told x
unfolding objects_of
objects_push xs x = map_push _ xs x

pub policy_push : (xs : List Line) (x : Line) → has_policy (xs ++ x ∷ []) ≡ (has_policy xs || is_policy x)
unfolding has_policy
policy_push xs x = any_push _ xs x

-- ---- the body
pub body_push : (xs : List Line) (x : Line) → in_body (xs ++ x ∷ []) ≡ (in_body xs || is_phase x)
unfolding in_body
body_push xs x = any_push _ xs x

pub lane_push : (xs : List Line) (x : Line) → lane_now (xs ++ x ∷ []) ≡ lane_after (lane_now xs) x
unfolding lane_now
lane_push xs x = fold-append lane_after None xs _

pub phase_lanes_push : (xs : List Line) (x : Line) → phase_lanes (xs ++ x ∷ []) ≡ phase_lanes_after (phase_lanes xs) x
unfolding phase_lanes
phase_lanes_push xs x = fold-append phase_lanes_after [] xs _

pub lanes_push : (xs : List Line) (x : Line) → lanes_of (xs ++ x ∷ []) ≡ lanes_after (lanes_of xs) x
unfolding lanes_of
lanes_push xs x = fold-append lanes_after [] xs _

counted : (n : ℕ) (b : Bool) → n + (0 + cond b 1 0) ≡ cond b (n + 1) n
counted n true = omega arith
counted n false = omega arith

pub commands_push : (xs : List Line) (x : Line) → commands (xs ++ x ∷ []) ≡ cond (is_command x) (commands xs + 1) (commands xs)
unfolding commands
commands_push xs x = sum_by-append (λ l. cond _ 1 0) xs _ ∙ counted _ _

given_push : (new : Line → List (List ℕ)) (at : Option (List ℕ)) (xs : List Line) (x : Line) → given new at (xs ++ x ∷ []) ≡ given new at xs ++ in_lane (fold lane_after at xs) (new x)
given_push new at [] x = append-nil _
given_push new at (y ∷ xs) x = ap (λ ys. in_lane at (new y) ++ ys) (given_push _ _ xs x)
    ∙ sym (append_assoc (in_lane at (new y)) (given new (lane_after at y) xs) (in_lane (fold lane_after _ xs) (new x)))

pub fds_push : (xs : List Line) (x : Line) → fds_given (xs ++ x ∷ []) ≡ fds_given xs ++ in_lane (lane_now xs) (new_fds x)
unfolding fds_given lane_now
fds_push xs x = given_push _ _ xs x

pub procs_given_push : (xs : List Line) (x : Line) → procs_given (xs ++ x ∷ []) ≡ procs_given xs ++ in_lane (lane_now xs) (new_procs x)
unfolding procs_given lane_now
procs_given_push xs x = given_push _ _ xs x
