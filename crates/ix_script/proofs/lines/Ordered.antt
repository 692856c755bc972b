-- What a header line that is in order finds before it.
use Rattle.std.{proofs.{Common.{◌≡◌, ℕ, nat_lt, Bool, true, false, ◌||◌, List, [], ◌∷◌, ◌++◌, max, refl, ap, ◌∙◌, arith}, lemmas.Bool.Decides.nat_tests}, specs.List.{list_any, flat_map}}
use Rattle.ix_script.{specs.{lines.Before.{group, object_told, objects_of, proc_told, procs_of}, declared.line.Line.Line}, proofs.reader.Pushed.any_push}
use Rattle.ix_script.specs.declared.line.Line.TheVariants as line

-- neither of two tests that aren't met
pub neither : (a b : Bool) → (a || b) ≡ false → (a ≡ false) × (b ≡ false)
neither true b h = cc
neither false b h = (refl, h)

-- ---- no object and no process before a `limit` or an `fs` line
no_object : (b : Line) → nat_lt 3 (group b) ≡ false → object_told b ≡ []
no_object (line.Dir path label frozen) h = let k = h in absurd (cc)
no_object (line.File path label frozen cap lic bytes) h = let k = h in absurd (cc)
no_object _ h = refl

no_proc : (b : Line) → nat_lt 3 (group b) ≡ false → proc_told b ≡ []
no_proc (line.Proc name label ceiling cap lic) h = let k = h in absurd (cc)
no_proc _ h = refl

objects_none : (lines : List Line) → list_any (λ b. nat_lt 3 (group b)) lines ≡ false → flat_map object_told lines ≡ []
objects_none [] h = refl
objects_none (b ∷ lines) h =
    let p = neither _ _ h in
    rw (no_object b p.0, objects_none lines p.1) refl

procs_none : (lines : List Line) → list_any (λ b. nat_lt 3 (group b)) lines ≡ false → flat_map proc_told lines ≡ []
procs_none [] h = refl
procs_none (b ∷ lines) h =
    let p = neither _ _ h in
    rw (no_proc b p.0, procs_none lines p.1) refl

pub no_objects : (lines : List Line) → list_any (λ b. nat_lt 3 (group b)) lines ≡ false → objects_of lines ≡ []
unfolding objects_of
no_objects lines h = objects_none lines h

pub no_procs : (lines : List Line) → list_any (λ b. nat_lt 3 (group b)) lines ≡ false → procs_of lines ≡ []
unfolding procs_of
no_procs lines h = procs_none lines h

lower : (n : ℕ) → nat_lt 2 n ≡ false → nat_lt 3 n ≡ false
lower n h = grind (arith, nat_tests)

pub earlier : (lines : List Line) → list_any (λ b. nat_lt 2 (group b)) lines ≡ false → list_any (λ b. nat_lt 3 (group b)) lines ≡ false
earlier [] h = refl
earlier (b ∷ lines) h =
    let p = neither _ _ h in
    rw (lower (group b) p.0) (earlier lines p.1)

-- ---- the last group so far
greater : (g a b : ℕ) → (nat_lt g a || nat_lt g b) ≡ nat_lt g (max a b)
greater g a b = grind (arith, nat_tests)

pub latest_push : (g latest : ℕ) (lines : List Line) (x : Line) → list_any (λ b. nat_lt g (group b)) lines ≡ nat_lt g latest
    → list_any (λ b. nat_lt g (group b)) (lines ++ x ∷ []) ≡ nat_lt g (max latest (group x))
latest_push g latest lines x h = any_push (λ b. nat_lt g _) lines x ∙ ap (λ t. t || nat_lt g (group x)) h ∙ greater g _ _
