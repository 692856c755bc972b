-- The name of a `lane` line stands behind its word and a space.
use Rattle.std.proofs.Common.{◌≡◌, ℕ, ◌≤◌, false, List, ◌++◌, length, drop, Some, option_map, refl, sym, ap, ◌∙◌, arith}
use Rattle.std.{specs.{Prelude.codes, List.slice_get}, proofs.lemmas.{Bool.false≢true, List.append-nil, Option.same_Some}}
use Rattle.ix_script.specs.{lines.Roles.role_of, scripts.{Canonical.{line_words, line_text, may_be_respelled}, Packed.{IsLine, line_in}}, declared.{line.Line.Line, role.Role.Role}}
use Rattle.ix_script.proofs.{reader.Scheduling.lane_role, back.TextBack.own_text}
use Rattle.ix_label.specs.declared.form.Form as spelled
use Rattle.ix_script.specs.declared.line.Line.TheVariants as line
use Rattle.ix_script.specs.declared.role.Role.TheVariants as role

lane_is : (l : Line) → role_of l ≡ role.Lane → (name : List ℕ) × (l ≡ line.Lane name)
unfolding role_of
lane_is (line.Lane name) is = (name, refl)
lane_is _ is = let other = ap lane_role is in absurd (false≢true other)

pub record LaneText (labels : spelled.Form) (text : List ℕ) : Type 0 where
  pub says : line_in labels text ≡ line.Lane (drop 5 text)
  pub long : 5 ≤ length text

pub lane_text : (labels : spelled.Form) (text : List ℕ) → IsLine labels text → role_of (line_in labels text) ≡ role.Lane → LaneText labels text
unfolding line_words may_be_respelled
lane_text labels text k is =
    let lane = lane_is (line_in labels text) is in
    let plain : may_be_respelled (line_in labels text) ≡ false = ap may_be_respelled lane.1 in
    let own : line_text labels (line.Lane lane.0) ≡ text = sym (ap (line_text labels) lane.1) ∙ own_text labels k.before text (line_in labels text) k.told k.said k.faultless plain in
    let whole : codes "lane " ++ lane.0 ≡ text = sym (ap (λ t. codes "lane " ++ t) (append-nil lane.0)) ∙ own in
    let name : lane.0 ≡ drop 5 text = ap (drop 5) whole in
    record { says = lane.1 ∙ ap (λ n. line.Lane n) name; long = omega (arith, ap length whole) }

-- of the line at an index, whose role is known
pub lane_at : (labels : spelled.Form) (lines : List Line) (i : ℕ) (text : List ℕ) (r : Role) → IsLine labels text → slice_get lines i ≡ Some (line_in labels text)
    → Some r ≡ option_map role_of (slice_get lines i) → r ≡ role.Lane → LaneText labels text
lane_at labels lines i text r k at told is =
    lane_text labels text k (sym (same_Some r (role_of (line_in labels text)) (told ∙ ap (option_map role_of) at)) ∙ is)
