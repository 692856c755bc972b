-- One step on in the loops that tell whether a config fits.
use Rattle.std.proofs.Common.{◌≡◌, ℕ, zero, suc, ◌+◌, ◌-◌, ◌<◌, ◌≤◌, ◌==◌, Bool, true, false, ◌&&◌, not, List, [], ◌∷◌, length, map, take, drop, get_or, refl}
use Rattle.std.{proofs.{Common.{sym, ap, ◌∙◌, arith, if◌then◌else◌, sum}, lemmas.List.{at_drop_more, take_rest, Sums.sum_by-cons}}, specs.List.list_any}
use Rattle.ix_model.specs.{world.Naming.same_bytes, rows.Telling.blocks_for, opening.Valid.{all_differ, fs_of, lying_on, blocks_taken}, declared.config.{FsSpec.FsSpec, ObjSpec.ObjSpec}}

list_any-map : {X Y : Type 0} (p : Y → Bool) (h : X → Y) (xs : List X) → list_any p (map h xs) ≡ list_any (λ x. p (h x)) xs
list_any-map p h [] = refl
list_any-map p h (x ∷ xs) = rw (list_any-map p h xs) refl

-- names differ from a place on where the name there is none of the rest, and the rest differ
pub all_differ_step : (fss : List FsSpec) (i : ℕ) (s : FsSpec) (named : Bool) → i < length fss → s ≡ get_or fss i s
    → named ≡ list_any (λ t. same_bytes s.name t.name) (take (length fss - (i + 1)) (drop (i + 1) fss))
    → all_differ (map (λ t. t.name) (drop i fss)) ≡ (not named && all_differ (map (λ t. t.name) (drop (i + 1) fss)))
all_differ_step fss i s named low here is =
    let rest : List FsSpec = drop (i + 1) fss in
    at_drop_more (λ (xs : List FsSpec). all_differ (map (λ t. t.name) xs)) fss i s low
    ∙ ap (λ (x : FsSpec). all_differ (map (λ t. t.name) (x ∷ rest))) (sym here)
    ∙ ap (λ (b : Bool). not b && all_differ (map (λ t. t.name) rest)) (list_any-map (same_bytes s.name) (λ t. t.name) rest
    ∙ sym (is ∙ ap (list_any (λ (t : FsSpec). same_bytes s.name t.name)) (take_rest fss (i + 1))))

-- ---- blocks
pub taken-cons : (fss : List FsSpec) (k : ℕ) (b : ObjSpec) (lines : List ObjSpec) → blocks_taken fss k (b ∷ lines) ≡ (if fs_of fss b.path.names == k then
    blocks_for (length b.bytes) else 0) + blocks_taken fss k lines
taken-cons fss k b lines = go _
  where
    go : (on : Bool) → sum (map (λ x. blocks_for (length x.bytes)) (if on then b ∷ lying_on fss k lines else lying_on fss k lines)) ≡ (if on then
        blocks_for (length b.bytes) else 0) + blocks_taken fss k lines
    go true = sum_by-cons (λ x. x) _ (map (λ x. blocks_for (length x.bytes)) (lying_on fss k lines))
    go false = omega arith

-- the lines before one that lies on a file system, and it, take no more than all lines
pub taken_more : (fss : List FsSpec) (k : ℕ) (lines : List ObjSpec) (i : ℕ) (b : ObjSpec) → i < length lines → b ≡ get_or lines i b
    → (fs_of fss b.path.names == k) ≡ true → blocks_taken fss k (take i lines) + blocks_for (length b.bytes) ≤ blocks_taken fss k lines
taken_more fss k [] i b low here on = absurd (omega arith)
taken_more fss k (x ∷ lines) zero b low here on =
    rw (← here) (let first =
    taken-cons fss k b lines ∙ ap (λ (t : Bool). (if t then blocks_for (length b.bytes) else 0) + blocks_taken fss k lines) on in omega (arith, first))
taken_more fss k (x ∷ lines) (suc i) b low here on =
    let rest : blocks_taken fss k (take i lines) + blocks_for (length b.bytes) ≤ blocks_taken fss k lines = taken_more fss k lines i b (omega arith) here on in
    omega (arith, taken-cons fss k x lines, taken-cons fss k x (take i lines))
