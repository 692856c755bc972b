-- A plan of more and more lines.
use Rattle.std.proofs.Common.{◌≡◌, ℕ, zero, suc, ◌+◌, ◌-◌, ◌<◌, ◌≤◌, false, true, arith, drop, List, [], ◌∷◌, ◌++◌, length, take, get_or, Option, Some, None, refl, sym, ap}
use Rattle.std.proofs.{Common.{◌∙◌, subst, add-one, inl, inr}, Math.Seq.{get_or-append_seam, take-suc}}
use Rattle.std.specs.{List.{position_from, slice_get}, Option.option_map_or}
use Rattle.std.proofs.lemmas.{Bool.{cases_Bool, cases_lt, false≢true}, List.{append-nil, drop_all, get_or_append_left, length-append, take_all}}
use Rattle.std.proofs.lemmas.Option.{none-some, slice_get_past, slice_get-get_or, get_or_from_slice_get}
use Rattle.ix_model.specs.declared.config.Limits.{Limits}
use Rattle.ix_script.specs.lines.{Before.{fs_told, limits_after, proc_told, object_told, is_policy}, Roles.{EndsHeader, IsHeaderEnd, role_of, in_header, is_header, header_only}}
use Rattle.ix_script.specs.{scripts.Held.IsPlan, declared.{plan.Plan.Plan, line.Line.Line, role.Role.Role}}
use Rattle.ix_script.proofs.reader.{Pushed.{fss_push, limits_push, procs_push, objects_push}, Walking.policy_later}
use Rattle.ix_script.specs.declared.line.Line.TheVariants as line
use Rattle.ix_script.specs.declared.role.Role.TheVariants as role

-- ---- lines of the header, and others
-- a line that tells nothing of the machine that starts
record TellsNothing (l : Line) : Type 0 where
  fs : fs_told l ≡ []
  limits : (limits : Limits) → limits_after limits l ≡ limits
  proc : proc_told l ≡ []
  object : object_told l ≡ []
  policy : is_policy l ≡ false

tells_nothing : (l : Line) → in_header l ≡ false → TellsNothing l
unfolding role_of
tells_nothing (line.Limit w n) h = absurd (false≢true (sym h))
tells_nothing (line.Fs name ceiling blocks inodes) h = absurd (false≢true (sym h))
tells_nothing (line.Proc name label ceiling cap lic) h = absurd (false≢true (sym h))
tells_nothing (line.Dir path label frozen) h = absurd (false≢true (sym h))
tells_nothing (line.File path label frozen cap lic bytes) h = absurd (false≢true (sym h))
tells_nothing (line.Policy text) h = absurd (false≢true (sym h))
tells_nothing _ h = record { fs = refl; limits = λ limits. refl; proc = refl; object = refl; policy = refl }

other : (l : Line) → header_only (Some l) ≡ None → in_header l ≡ false
other l h = elim (cases_Bool (in_header l)) [
  | inl e ↦ absurd (none-some l (sym (rw e at h)))
  | inr e ↦ e
]

pub not_header : (found : Option Line) → header_only found ≡ None → option_map_or is_policy found false ≡ false
not_header None h = refl
not_header (Some l) h = (tells_nothing l (other l h)).policy

-- ---- where the header ends
pub other_role : (r : Role) → (r ≡ role.Header → ⊥) → is_header r ≡ false
other_role role.Header none = absurd (none refl)
other_role _ none = refl

ends_same : (lines : List Line) (x : Line) (n : ℕ) → in_header x ≡ false → EndsHeader n lines → EndsHeader n (lines ++ x ∷ [])
ends_same [] x n none ends zero low = rw none refl
ends_same [] x n none ends (suc i) low = refl
ends_same (y ∷ lines) x n none ends zero low = ends zero low
ends_same (y ∷ lines) x n none ends (suc i) low = ends_same lines x (n - 1) none (λ j less. ends (suc j) (omega (arith, less))) i (omega (arith, low))

-- behind another line it ends where it ended
pub end_same : (lines : List Line) (x : Line) (n : ℕ) → in_header x ≡ false → IsHeaderEnd n lines → IsHeaderEnd n (lines ++ x ∷ [])
end_same lines x n none was = record {
  within = omega (arith, was.within, length-append lines (x ∷ []));
  ends = ends_same lines x n none was.ends;
  last = λ some. ap in_header (get_or_append_left lines _ _ _ (omega (arith, some, was.within))) ∙ was.last some;
}

-- and behind one of the header there
pub end_more : (lines : List Line) (x : Line) → in_header x ≡ true → IsHeaderEnd (length lines + 1) (lines ++ x ∷ [])
end_more lines x is = record {
  within = omega (arith, length-append lines (x ∷ []));
  ends = λ i low. ap header_only (slice_get_past _ i (omega (arith, low, length-append lines (x ∷ []))));
  last = λ some. ap (λ k. in_header (get_or (lines ++ x ∷ []) k line.Skipped)) (omega arith) ∙ ap in_header (get_or-append_seam lines x [] line.Skipped) ∙ is;
}

-- ---- line after line
here : (lines : List Line) (i : ℕ) (x : Line) → i < length lines → slice_get lines i ≡ Some x → take (i + 1) lines ≡ take i lines ++ x ∷ []
here lines i x low is = ap (λ n. take n lines) (add-one i) ∙ take-suc lines i x low ∙ ap (λ y. take i lines ++ y ∷ []) (get_or_from_slice_get lines i x x is)

pub plan_more : (lines : List Line) (i : ℕ) (x : Line) (p : Plan) → i < length lines → slice_get lines i ≡ Some x → IsPlan p (take i lines ++ x ∷ []) → IsPlan p (take (i + 1) lines)
plan_more lines i x p low is was = subst (λ ls. IsPlan p ls) (sym (here _ i x low is)) was

same_with : (lines : List Line) (x : Line) (p : Plan) → TellsNothing x → IsPlan p lines → IsPlan p (lines ++ x ∷ [])
same_with lines x p none was = record {
  fss = was.fss ∙ sym (rw none.fs at (fss_push lines x) ∙ append-nil _);
  limits = was.limits ∙ sym (limits_push _ x ∙ none.limits _);
  procs = was.procs ∙ sym (rw none.proc at (procs_push lines x) ∙ append-nil _);
  objects = was.objects ∙ sym (rw none.object at (objects_push lines x) ∙ append-nil _);
}

pub plan_same : (lines : List Line) (i : ℕ) (p : Plan) → i < length lines → header_only (slice_get lines i) ≡ None → IsPlan p (take i lines) → IsPlan p (take (i + 1) lines)
plan_same lines i p low none was =
    let x = get_or lines i line.Skipped in
    let is = slice_get-get_or lines i line.Skipped low in
    plan_more _ i x p low is (same_with _ x p (tells_nothing x (other x (ap header_only (sym is) ∙ none))) was)

plan_left : (lines : List Line) (n k i : ℕ) (p : Plan) → EndsHeader n lines → n ≤ i → length lines ≤ i + k → IsPlan p (take i lines) → IsPlan p lines
plan_left lines n zero i p ends low past was = subst (λ ls. IsPlan p ls) (take_all i lines (omega (arith, past))) was
plan_left lines n (suc k) i p ends low past was = elim (cases_lt i (length lines)) [
  | inl within ↦ plan_left lines n k (i + 1) p ends (omega (arith, low)) (omega (arith, past)) (plan_same lines i p within (ends i low) was)
  | inr out ↦ subst (λ ls. IsPlan p ls) (take_all i lines out) was
]

pub plan_all : (lines : List Line) (n i : ℕ) (p : Plan) → EndsHeader n lines → n ≤ i → IsPlan p (take i lines) → IsPlan p lines
plan_all lines n i p ends low was = plan_left lines n (length lines) i p ends low (omega arith) was

policy_left : (lines : List Line) (n k i : ℕ) → EndsHeader n lines → n ≤ i → length lines ≤ i + k → position_from is_policy i (drop i lines) ≡ None
policy_left lines n zero i ends low past = ap (position_from is_policy i) (drop_all i lines (omega (arith, past)))
policy_left lines n (suc k) i ends low past = elim (cases_lt i (length lines)) [
  | inl within ↦ policy_later lines i within (not_header _ (ends i low)) ∙ policy_left lines n k (i + 1) ends (omega (arith, low)) (omega (arith, past))
  | inr out ↦ ap (position_from is_policy i) (drop_all i lines out)
]

pub policy_past : (lines : List Line) (n i : ℕ) → EndsHeader n lines → n ≤ i → position_from is_policy i (drop i lines) ≡ None
policy_past lines n i ends low = policy_left lines n (length lines) i ends low (omega arith)
