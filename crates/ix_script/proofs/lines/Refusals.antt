-- The least of the rules on what a line says that it breaks.
use Rattle.std.proofs.Common.{◌≡◌, ℕ, Bool, true, false, true≢false, List, [], ◌∷◌, Some, refl, sym}
use Rattle.ix_label.specs.Category.{Categories}
use Rattle.ix_model.specs.{declared.privs.PrivSet.PrivSet, world.Naming.PathOf}
use Rattle.ix_script.specs.{lines.{Faults.said_fault, Rules.{first_of, is_one_too_many, lacks_policy}}, declared.line.{Line.Line, What.What}}
use Rattle.ix_script.specs.declared.line.Line.TheVariants as line

pub broken : (n : ℕ) (a : Bool) (rules : List (ℕ × Bool)) → a ≡ true → first_of ((n, a) ∷ rules) ≡ Some n
broken n true rules h = refl
broken n false rules h = absurd (true≢false (sym h))

pub kept : (n : ℕ) (a : Bool) (rules : List (ℕ × Bool)) → a ≡ false → first_of ((n, a) ∷ rules) ≡ first_of rules
kept n true rules h = absurd (true≢false h)
kept n false rules h = refl

-- a line that tells no process, directory or file, and has no place in the header's order
pub other_said : (before : List Line) (x : Line) → ((name : List ℕ) (label ceiling : Categories) (cap lic : PrivSet) → x ≡ line.Proc name label ceiling cap lic → ⊥)
    → ((path : PathOf) (label : Categories) (frozen : Bool) → x ≡ line.Dir path label frozen → ⊥)
    → ((path : PathOf) (label : Categories) (frozen : Bool) (cap lic : PrivSet) (bytes : List ℕ) → x ≡ line.File path label frozen cap lic bytes → ⊥)
    → ((what : What) (number : ℕ) → x ≡ line.Limit what number → ⊥) → ((name : List ℕ) (ceiling : Categories) (blocks inodes : ℕ) → x ≡ line.Fs name ceiling blocks inodes → ⊥)
    → said_fault before x ≡ first_of ((26, is_one_too_many before x) ∷ (28, lacks_policy before x) ∷ [])
unfolding said_fault
other_said before (line.Proc name label ceiling cap lic) a b c d e = absurd (a _ _ _ _ lic refl)
other_said before (line.Dir path label frozen) a b c d e = absurd (b path label frozen refl)
other_said before (line.File path label frozen cap lic bytes) a b c d e = absurd (c _ _ _ cap lic bytes refl)
other_said before (line.Limit what number) a b c d e = absurd (d what number refl)
other_said before (line.Fs name ceiling blocks inodes) a b c d e = absurd (e name ceiling blocks inodes refl)
other_said before _ a b c d e = refl
