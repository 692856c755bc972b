-- Names with their places, one at a time.
use Rattle.std.proofs.Common.{◌≡◌, ℕ, Bool, true, false, cond, List, [], ◌∷◌, Option, Some, None, is_some, Result, Ok, Err, OnOk, OnErr, refl, sym, ap, subst}
use Rattle.std.proofs.Common.{◌∙◌}
use Rattle.std.specs.{Option.option_flatten, Ordering.{eq_by_cmp, nat_cmp}, Cmp.{Lexicographic.{slice_cmp, nat_list_cmp_total}, eq_by_cmp_equiv}}
use Rattle.std.specs.FinMap.{find, get, insert, remove, empty, entries, contains_key, get-empty, get-entries, get-insert, get-remove, same_map}
use Rattle.std.specs.FinMap.{nat_cmp-IsAntisymmetric, slice_cmp-IsAntisymmetric}
use Rattle.ix_lanes.{specs.asking.Places.{ByName, filled, given, KeepsNames}, proofs.found.Keyed.{by_bytes, same_name}}

-- ---- what stands in a place
flatten-cond : {X : Type 0} (b : Bool) (x : Option X) (o : Option (Option X)) → option_flatten (cond b (Some x) o) ≡ cond b x (option_flatten o)
flatten-cond true x o = refl
flatten-cond false x o = refl

get-filled : {X : Type 0} (es : List (List ℕ × Option X)) (q : List ℕ) → get (filled es) q ≡ option_flatten (find by_bytes q es)
get-filled {X} [] q = get-empty by_bytes q
get-filled {X} (e ∷ es) q = go (get-filled es q) e.1
  where
    go : get (filled es) q ≡ option_flatten (find by_bytes q es) → (o : Option X) → get (elim o [
      | None ↦ remove (filled es) e.0
      | Some x ↦ insert (filled es) e.0 x
    ]) q ≡ option_flatten (cond (eq_by_cmp by_bytes q e.0) (Some o) (find by_bytes q es))
    go more None = get-remove nat_list_cmp_total (filled es) e.0 q ∙ ap (cond (eq_by_cmp by_bytes q e.0) None) more ∙ sym (flatten-cond (eq_by_cmp by_bytes q e.0) None (find by_bytes q es))
    go more (Some x) = get-insert nat_list_cmp_total (filled es) e.0 x q ∙ ap (cond (eq_by_cmp by_bytes q e.0) (Some x)) more
        ∙ sym (flatten-cond (eq_by_cmp by_bytes q e.0) (Some x) (find by_bytes q es))

pub get-given : {X : Type 0} (m : ByName (Option X)) (q : List ℕ) → get (given m) q ≡ option_flatten (get m q)
unfolding given
get-given m q = get-filled (entries m) q ∙ ap option_flatten (sym (get-entries m q))

pub given-empty : {X : Type 0} → given (empty {X = Option X} {R = slice_cmp nat_cmp}) ≡ empty
given-empty {X} =
    same_map nat_list_cmp_total (slice_cmp-IsAntisymmetric nat_cmp-IsAntisymmetric) _ _
    (λ q. get-given empty q ∙ ap option_flatten (get-empty by_bytes q) ∙ sym (get-empty by_bytes q))

-- a number is put in a name's place
pub given-filled : {X : Type 0} (m : ByName (Option X)) (name : List ℕ) (x : X) → given (insert m name (Some x)) ≡ insert (given m) name x
given-filled {X} m name x =
    same_map nat_list_cmp_total (slice_cmp-IsAntisymmetric nat_cmp-IsAntisymmetric) _ _
    (λ q. get-given (insert m name (Some x)) q ∙ ap option_flatten (get-insert nat_list_cmp_total m name (Some x) q)
    ∙ flatten-cond (eq_by_cmp by_bytes q name) (Some x) (get m q)
    ∙ ap (cond (eq_by_cmp by_bytes q name) (Some x)) (sym (get-given m q)) ∙ sym (get-insert nat_list_cmp_total (given m) name x q))

nothing : {X : Type 0} (o : Option X) → is_some o ≡ false → o ≡ None
nothing None h = refl
nothing (Some x) h = cc

-- a place is found for a name that has none
pub given-added : {X : Type 0} (m : ByName (Option X)) (name : List ℕ) → contains_key m name ≡ false → given (insert m name None) ≡ given m
given-added {X} m name none =
    same_map nat_list_cmp_total (slice_cmp-IsAntisymmetric nat_cmp-IsAntisymmetric) _ _
    (λ q. get-given (insert m name None) q ∙ ap option_flatten (get-insert nat_list_cmp_total m name None q)
    ∙ flatten-cond (eq_by_cmp by_bytes q name) None (get m q)
    ∙ here q (eq_by_cmp by_bytes q name) refl ∙ sym (get-given m q))
  where
    here : (q : List ℕ) (b : Bool) → eq_by_cmp by_bytes q name ≡ b → cond b None (option_flatten (get m q)) ≡ option_flatten (get m q)
    here q true is = sym (ap option_flatten (ap (get m) (same_name q name is) ∙ nothing (get m name) none))
    here q false is = refl

-- ---- which names have places
has-cond : {X : Type 0} (b : Bool) (x : X) (o : Option X) → is_some o ≡ true → is_some (cond b (Some x) o) ≡ true
has-cond true x o h = refl
has-cond false x o h = h

pub has-inserted : {X : Type 0} (m : ByName X) (name : List ℕ) (x : X) → contains_key (insert m name x) name ≡ true
has-inserted m name x =
    ap is_some (get-insert nat_list_cmp_total m name x name ∙ ap (λ b. cond b (Some x) (get m name)) ((eq_by_cmp_equiv nat_list_cmp_total).refl name))

pub keeps-inserted : {X : Type 0} (m : ByName X) (name : List ℕ) (x : X) → KeepsNames m (insert m name x)
keeps-inserted m name x q h = ap is_some (get-insert nat_list_cmp_total m name x q) ∙ has-cond (eq_by_cmp by_bytes q name) x (get m q) h

pub keeps-not : {X : Type 0} (m : ByName X) → KeepsNames m m
keeps-not m q h = h

-- ---- a name is added, or there was no memory
module _ {X A E : Type 0} (old new : ByName (Option X)) (name : List ℕ) (r : Result A E) (ok : OnOk r (new ≡ insert old name None)) (err : OnErr r (new ≡ old)) where
  pub added-same : contains_key old name ≡ false → given new ≡ given old
  added-same none = go r ok err
    where
      go : (q : Result A E) → OnOk q (new ≡ insert old name None) → OnErr q (new ≡ old) → given new ≡ given old
      go (Ok x) done kept = ap given done ∙ given-added old name none
      go (Err e) done kept = ap given kept

  pub added-place : OnOk r (contains_key new name ≡ true)
  added-place = go r ok
    where
      go : (q : Result A E) → OnOk q (new ≡ insert old name None) → OnOk q (contains_key new name ≡ true)
      go (Ok x) done = ap (λ m. contains_key m name) done ∙ has-inserted old name None
      go (Err e) done = tt

  pub added-keeps : KeepsNames old new
  added-keeps = go r ok err
    where
      go : (q : Result A E) → OnOk q (new ≡ insert old name None) → OnErr q (new ≡ old) → KeepsNames old new
      go (Ok x) done kept = subst (λ (m : ByName (Option X)). KeepsNames old m) (sym done) (keeps-inserted old name None)
      go (Err e) done kept = subst (λ (m : ByName (Option X)). KeepsNames old m) (sym kept) (keeps-not old)
