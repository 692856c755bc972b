-- Of an object that stands in two tables: its file system, and whether it is a pipe or a directory.
use Rattle.std.proofs.Common.{◌≡◌, ℕ, List, Option, Some, None, refl, sym, ap, ◌∙◌, subst, inl, inr}
use Rattle.ix_model.{specs.world.World.{Object, at, put, change, is_dir, is_pipe}, proofs.{tables.{Tables.{SameBut, back}, Finds.{at_put, at_change}}, frames.Floats.object_but}}

-- an object is a pipe, a directory or neither as another is, and on the same file system
pub record SameKind (x y : Object) : Type 0 where
  pub pipe : is_pipe y ≡ is_pipe x
  pub dir : is_dir y ≡ is_dir x
  pub fs : y.fs ≡ x.fs

same_kind_again : (x y z : Object) → SameKind x y → SameKind y z → SameKind x z
same_kind_again x y z a b = record { pipe = b.pipe ∙ a.pipe; dir = b.dir ∙ a.dir; fs = b.fs ∙ a.fs }

-- what stands in both tables is of the same kind
pub record Kinds (t u : List (Option Object)) : Type 0 where
  pub same : (o : ℕ) (x y : Object) → at t o ≡ Some x → at u o ≡ Some y → SameKind x y

pub kinds_itself : (t : List (Option Object)) → Kinds t t
kinds_itself t = record {
  same = λ o x y is here. let e = sym is ∙ here in let one : x ≡ y = cc in
      subst (λ z. SameKind x z) one (search);
}

module _ (t u : List (Option Object)) (r : Kinds t u) where
  pub kinds_floats : (v : List (Option Object)) → SameBut object_but u v → Kinds t v
  kinds_floats v s = record {
    same = λ o x y is here.
        let b = back _ (λ z. refl) u v s o y here in
        same_kind_again x _ y (r.same o x b.was is b.is_was) (record { pipe = ap is_pipe b.same; dir = ap is_dir b.same; fs = ap (λ z. z.fs) b.same });
  }

  pub kinds_change : (o : ℕ) (h : Object → Object) → ((x : Object) → SameKind x (h x)) → Kinds t (change u o h)
  kinds_change o h same = record {
    same = λ n x y is here. elim (at_change u o h n y here) [
      | inl c ↦ subst (λ z. SameKind x z) (sym c.same) (same_kind_again x _ _ (r.same n x c.was is (ap (at u) c.here ∙ c.is_was)) (same _))
      | inr other ↦ r.same n x y is other.1
    ];
  }

  pub kinds_gone : (o : ℕ) → Kinds t (put u o None)
  kinds_gone o = record {
    same = λ n x y is here. elim (at_put u o n _ y here) [
      | inl new ↦ let e = new.1 in cc
      | inr other ↦ r.same n x y is other.1
    ];
  }

  -- at a number that was free
  pub kinds_new : (o : ℕ) (x : Option Object) → at t o ≡ None → Kinds t (put u o x)
  kinds_new o x free = record {
    same = λ n y z is here. elim (at_put u o n x z here) [
      | inl new ↦ let e = sym free ∙ ap (at t) (sym new.0) ∙ is in cc
      | inr other ↦ r.same n y z is other.1
    ];
  }
