-- A line is a command by its role.
use Rattle.std.proofs.Common.{◌≡◌, ◌⊎◌, Bool, true, false, refl, ap, inl, inr}
use Rattle.ix_script.specs.{lines.{Before.is_command, Roles.role_of}, declared.{line.Line.Line, role.Role.Role}}
use Rattle.ix_script.specs.declared.line.Line.TheVariants as line
use Rattle.ix_script.specs.declared.role.Role.TheVariants as role

abbrev pub command_role : Role → Bool
command_role role.Naming = true
command_role role.Server = true
command_role role.Command = true
command_role _ = false

pub command_by_role : (l : Line) → command_role (role_of l) ≡ is_command l
unfolding role_of
command_by_role line.Phase = refl
command_by_role (line.Lane name) = refl
command_by_role _ = refl

pub command_is : (r : Role) → (r ≡ role.Naming) ⊎ ((r ≡ role.Server) ⊎ (r ≡ role.Command)) → command_role r ≡ true
command_is r (inl h) = ap command_role h
command_is r (inr (inl h)) = ap command_role h
command_is r (inr (inr h)) = ap command_role h

pub other_role : (r : Role) → (r ≡ role.Naming → ⊥) → (r ≡ role.Server → ⊥) → (r ≡ role.Command → ⊥) → command_role r ≡ false
other_role role.Naming a b c = absurd (a refl)
other_role role.Server a b c = absurd (b refl)
other_role role.Command a b c = absurd (c refl)
other_role _ a b c = refl
