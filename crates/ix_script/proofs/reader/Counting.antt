-- There are no more commands than lines, at most 200,000 of them, and at most 64 lanes.
use Rattle.std.proofs.Common.{◌≡◌, ℕ, ◌+◌, ◌<◌, ◌≤◌, ◌&&◌, not, nat_le, Bool, true, false, cond, List, [], ◌∷◌, ◌++◌, length, None, arith, refl, length-append}
use Rattle.std.proofs.lemmas.{Bool.Decides.nat_tests, List.Sums.count_by-le-length}
use Rattle.ix_script.specs.{lines.{Before.{is_command, commands, lanes_after, lanes_of}, Faults.said_fault, Rules.is_one_too_many}, declared.line.Line.Line}
use Rattle.ix_script.proofs.{lines.Follows.follows, reader.Pushed.{commands_push, lanes_push}}
use Rattle.ix_script.specs.declared.line.Line.TheVariants as line

pub few_commands : (lines : List Line) → commands lines ≤ length lines
unfolding commands
few_commands lines = count_by-le-length is_command lines

-- ---- at most 200,000
room_for_one : (n : ℕ) → nat_le 200000 n ≡ false → n < 200000
room_for_one n h = grind (arith, nat_tests)

one_more : (command : Bool) (n : ℕ) → (command && nat_le 200000 n) ≡ false → n ≤ 200000 → cond command (n + 1) n ≤ 200000
one_more true n h few = omega (arith, room_for_one n h)
one_more false n h few = few

not_full : (before : List Line) (l : Line) → is_one_too_many before l ≡ false → (is_command l && nat_le 200000 (commands before)) ≡ false
not_full before (line.Fs name ceiling blocks inodes) h = refl
not_full before (line.Lane name) h = refl
not_full before _ h = h

pub no_commands : commands [] ≤ 200000
unfolding commands
no_commands = omega arith

pub commands_stay_few : (before : List Line) (l : Line) → said_fault before l ≡ None → commands before ≤ 200000 → commands (before ++ l ∷ []) ≤ 200000
commands_stay_few before l h few = rw (commands_push) (one_more _ _ (not_full _ l (follows _ l h).many) few)

-- ---- at most 64 lanes
room_for_lane : (n : ℕ) → nat_le 64 n ≡ false → n + 1 ≤ 64
room_for_lane n h = grind (arith, nat_tests)

lane_more : (known : Bool) (names : List (List ℕ)) (name : List ℕ) → (not known && nat_le 64 (length names)) ≡ false → length names ≤ 64
    → length (cond known names (names ++ name ∷ [])) ≤ 64
lane_more true names name h few = few
lane_more false names name h few = omega (arith, length-append names (name ∷ []), room_for_lane (length names) h)

lanes_after_few : (before : List Line) (l : Line) → is_one_too_many before l ≡ false → length (lanes_of before) ≤ 64 → length (lanes_after (lanes_of before) l) ≤ 64
lanes_after_few before (line.Lane name) h few = lane_more _ _ _ h few
lanes_after_few before _ h few = few

pub no_lanes : length (lanes_of []) ≤ 64
unfolding lanes_of
no_lanes = omega arith

pub lanes_stay_few : (before : List Line) (l : Line) → said_fault before l ≡ None → length (lanes_of before) ≤ 64 → length (lanes_of (before ++ l ∷ [])) ≤ 64
lanes_stay_few before l h few = rw (lanes_push) (lanes_after_few _ l (follows _ l h).many few)
