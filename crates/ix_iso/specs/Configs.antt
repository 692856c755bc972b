-- Two configs that differ in what high files hold.
use Rattle.std.specs.Prelude.{◌≡◌, List, [], ◌∷◌, true, length}
use Rattle.ix_label.specs.Category.{Categories, leq}
use Rattle.ix_model.specs.opening.Opening.{opening_world}
use Rattle.ix_model.specs.two_runs.TwoRuns.{Alike}
use Rattle.ix_model.specs.two_runs.EqualLengths.{AlikeInLength}
use Rattle.ix_model.specs.declared.config.Config.{Config}
use Rattle.ix_model.specs.declared.config.ObjSpec.{ObjSpec}

-- two object lines are one but for the bytes of a file that isn't at or below L
pub record SameLine (l : Categories) (a b : ObjSpec) : Type 0 where
  pub but_bytes : record a { bytes = [] } ≡ record b { bytes = [] }
  pub low : leq a.label l ≡ true → a.bytes ≡ b.bytes

-- so are all lines of two lists
abbrev pub SameLines : Categories → List ObjSpec → List ObjSpec → Type 0
SameLines l [] [] = Unit {0}
SameLines l [] (b ∷ ys) = ⊥
SameLines l (a ∷ xs) [] = ⊥
SameLines l (a ∷ xs) (b ∷ ys) = SameLine l a b × SameLines l xs ys

-- two configs differ only in the bytes of files that aren't at or below L
pub record DifferAbove (l : Categories) (c d : Config) : Type 0 where
  pub fss : c.fss ≡ d.fss
  pub limits : c.limits ≡ d.limits
  pub procs : c.procs ≡ d.procs
  pub objects : SameLines l c.objects d.objects

-- the bytes of each line are as many as those of the other's
abbrev pub SameLengths : List ObjSpec → List ObjSpec → Type 0
SameLengths [] [] = Unit {0}
SameLengths [] (b ∷ ys) = ⊥
SameLengths (a ∷ xs) [] = ⊥
SameLengths (a ∷ xs) (b ∷ ys) = (length a.bytes ≡ length b.bytes) × SameLengths xs ys

-- two configs that differ so, valid or not, open worlds that are alike at L; where the lengths are equal too, they are alike in length
pub record OpenAlike (l : Categories) (c d : Config) : Type 0 where
  pub alike : Alike l (opening_world c) (opening_world d)
  pub in_length : SameLengths c.objects d.objects → AlikeInLength l (opening_world c) (opening_world d)

abbrev pub ConfigsOpenAlike : Type 0
ConfigsOpenAlike = (l : Categories) (c d : Config) → DifferAbove l c d → OpenAlike l c d
