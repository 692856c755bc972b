-- Names of scripts are names of the machine.
use Rattle.std.proofs.Common.{◌≡◌, ℕ, true, false, ◌&&◌, not, ◌==◌, nat_le, nat_lt, List, [], ◌∷◌, length, refl, arith}
use Rattle.std.{specs.List.list_all, proofs.lemmas.Bool.{Decides.nat_tests, lt-ltb}}
use Rattle.ix_model.specs.world.Naming.{is_name, may_stand_in_name, same_bytes}
use Rattle.ix_text.{specs.{Bytes.is_letter, Names.{may_stand_in_script_name, is_reserved, is_script_name}}, proofs.Tests.{both, join_tests, list_all_weaker}}

unlike : (b c : ℕ) (bytes text : List ℕ) → (b == c) ≡ false → not (same_bytes (b ∷ bytes) (c ∷ text)) ≡ true
unlike b c bytes text h = rw h refl

byte_is_plain : (b : ℕ) → may_stand_in_script_name b ≡ true → may_stand_in_name b ≡ true
byte_is_plain b h = grind (arith, nat_tests)

letter_is_no_dot : (b : ℕ) → is_letter b ≡ true → (b == 46) ≡ false
letter_is_no_dot b h = grind (arith, nat_tests)

pub script_name_is_name : (word : List ℕ) → is_script_name word ≡ true → is_name word ≡ true
unfolding is_script_name is_name
script_name_is_name [] h = cc
script_name_is_name (b ∷ bytes) h =
    let one = both (is_letter b && nat_le (length (b ∷ bytes)) 16 && list_all may_stand_in_script_name (b ∷ bytes)) (not (is_reserved (b ∷ bytes))) h in
    let two = both (is_letter b && nat_le (length (b ∷ bytes)) 16) (list_all may_stand_in_script_name (b ∷ bytes)) one.0 in
    let three = both (is_letter b) (nat_le (length (b ∷ bytes)) 16) two.0 in
    let plain : list_all may_stand_in_name (b ∷ bytes) ≡ true = list_all_weaker may_stand_in_script_name may_stand_in_name byte_is_plain (b ∷ bytes) two.1 in
    let no_dot : (b == 46) ≡ false = letter_is_no_dot b three.0 in
    let some : nat_lt 0 (length (b ∷ bytes)) ≡ true = lt-ltb 0 (length (b ∷ bytes)) (omega arith) in
    let few : nat_le (length (b ∷ bytes)) 28 ≡ true = grind (arith, nat_tests) in
    join_tests _ _ (join_tests _ _ (join_tests _ _ (join_tests _ _ some few) (unlike b 46 bytes [] no_dot)) (unlike b 46 bytes (46 ∷ []) no_dot)) plain
