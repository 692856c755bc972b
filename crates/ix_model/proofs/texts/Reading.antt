-- Reading a text, piece by piece.
use Rattle.std.proofs.Common.{◌≡◌, ℕ, zero, suc, ◌+◌, ◌-◌, ◌≤◌, ◌<◌, ◌==◌, Bool, true, false, ◌&&◌, nat_le, List, [], ◌∷◌, ◌++◌, length, take, drop, get_or, ap}
use Rattle.std.{proofs.Common.{refl, sym, ◌∙◌, arith, drop-cons, Some, None, slice_get}, specs.{List.list_all, Prelude.{Option, is_some, MatchOption}, Option.option_map}}
use Rattle.std.proofs.lemmas.{Bool.{eqb-true, le-leb, lt-leb}, List.{take-append-drop, drop_all}}
use Rattle.ix_model.{specs.{declared.name_ref.NameRef.NameRef, world.{Naming.is_name, Texts.{between_slashes, is_path_text}}}, proofs.texts.Joining.slash_append}

-- what is still to be read, after so many names
abbrev pub to_read : ℕ → List (List ℕ) → Bool
to_read count pieces = list_all is_name pieces && nat_le (count + length pieces) 16

pub is_text_of_none : is_path_text [] ≡ true
unfolding is_path_text
is_text_of_none = refl

pub begin : (text : List ℕ) → 0 < length text → is_path_text text ≡ to_read 0 (between_slashes text)
unfolding is_path_text
begin [] h = absurd (omega arith)
begin (b ∷ text) h = ap (λ n. list_all is_name (between_slashes (b ∷ text)) && nat_le n 16) (omega arith)

pub step : (count : ℕ) (pieces more : List (List ℕ)) (word : List ℕ) → pieces ≡ word ∷ more → is_name word ≡ true → to_read count pieces ≡ to_read (count + 1) more
step count pieces more word h k = rw (h, k) (ap (λ n. list_all is_name more && nat_le n 16) (omega arith))

pub wrong : (count : ℕ) (pieces more : List (List ℕ)) (word : List ℕ) → pieces ≡ word ∷ more → is_name word ≡ false → to_read count pieces ≡ false
wrong count pieces more word h k = rw (h, k) refl

false_right : (a b : Bool) → b ≡ false → (a && b) ≡ false
false_right true b h = h
false_right false b h = refl

pub full : (count : ℕ) (pieces more : List (List ℕ)) (word : List ℕ) → pieces ≡ word ∷ more → 16 ≤ count → to_read count pieces ≡ false
full count pieces more word h k = rw h (false_right (list_all is_name (word ∷ more)) _ (lt-leb _ 16 (omega arith)))

pub done : (count : ℕ) (pieces : List (List ℕ)) (word : List ℕ) → pieces ≡ word ∷ [] → is_name word ≡ true → count < 16 → to_read count pieces ≡ true
done count pieces word h k few = rw (h, k) (le-leb _ 16 (omega arith))

-- ---- from behind
pub at_end : (text : List ℕ) → between_slashes (drop (length text) text) ≡ drop (length text) text ∷ []
unfolding between_slashes
at_end text = rw (drop_all (length text) text (omega arith)) refl

less_one : (k : ℕ) → 0 < k → suc (k - 1) ≡ k
less_one k h = omega arith

pub no_slash : (text : List ℕ) (k : ℕ) → 0 < k → k ≤ length text → (get_or text (k - 1) 0 == 47) ≡ false → between_slashes (drop k text) ≡ drop k text ∷ []
    → between_slashes (drop (k - 1) text) ≡ drop (k - 1) text ∷ []
unfolding between_slashes
no_slash text k some within h rest =
    let here = drop-cons text (k - 1) 0 (omega arith) ∙ ap (λ n. get_or text (k - 1) 0 ∷ drop n text) (less_one k some) in
    rw (here, h, rest) refl

pub at_slash : (text : List ℕ) (k : ℕ) → 0 < k → k ≤ length text → (get_or text (k - 1) 0 == 47) ≡ true → between_slashes (drop k text) ≡ drop k text ∷ []
    → between_slashes text ≡ between_slashes (take (k - 1) text) ++ drop (k - 1 + 1) text ∷ []
at_slash text k some within h rest =
    let here = drop-cons text _ 0 (omega arith) ∙ ap (λ n. get_or text (k - 1) 0 ∷ drop n text) (less_one k some) in
    let byte = eqb-true _ 47 h in
    let front = take _ _ in
    let whole = ap (λ b. front ++ b ∷ drop k text) (sym byte) ∙ ap (λ t. front ++ t) (sym here) ∙ take-append-drop _ text in
    let last : k ≡ k - 1 + 1 = omega arith in
    sym (ap between_slashes whole) ∙ slash_append _ _ ∙ ap (λ ps. between_slashes front ++ ps) rest ∙ ap (λ n. between_slashes front ++ drop n text ∷ []) last

-- ---- the names in turn
pub past : (names : List (List ℕ)) (k i : ℕ) → drop k names ≡ [] → k ≤ i → slice_get names i ≡ None
past [] k i h few = refl
past (x ∷ names) zero i h few = cc
past (x ∷ names) (suc k) zero h few = absurd (omega arith)
past (x ∷ names) (suc k) (suc i) h few = past _ k i h (omega arith)

pub here : (names more : List (List ℕ)) (name : List ℕ) (i : ℕ) → drop i names ≡ name ∷ more → slice_get names i ≡ Some name
here [] more name zero h = cc
here [] more name (suc i) h = cc
here (x ∷ names) more name zero h = cc
here (x ∷ names) more name (suc i) h = here _ _ _ i h

pub behind : (names more : List (List ℕ)) (name : List ℕ) (i : ℕ) → drop i names ≡ name ∷ more → more ≡ drop (i + 1) names
behind [] more name zero h = cc
behind [] more name (suc i) h = cc
behind (x ∷ names) more name zero h = sym (ap (drop 1) h)
behind (x ∷ names) more name (suc i) h =
    let one = behind _ _ _ i h in
    let two : suc (i + 1) ≡ suc i + 1 = omega arith in
    one ∙ ap (λ n. drop n (x ∷ names)) two

-- what the next name tells
pub told : (names left new : List (List ℕ)) (i : ℕ) (o : Option NameRef) → MatchOption o ((left ≡ []) × (new ≡ [])) (λ n. left ≡ n.bytes.now ∷ new)
    → left ≡ drop i names → option_map (λ n. n.bytes.now) o ≡ slice_get names i
told names left new i (Some n) h k = sym (here _ _ _ i (sym k ∙ h))
told names left new i None h k = sym (past _ i i (sym k ∙ h.0) (omega arith))

pub ended : (names left new : List (List ℕ)) (k i : ℕ) (o : Option NameRef) → MatchOption o ((left ≡ []) × (new ≡ [])) (λ n. left ≡ n.bytes.now ∷ new)
    → left ≡ drop k names → is_some o ≡ false → k ≤ i → slice_get names i ≡ None
ended names left new k i (Some n) h l none few = cc
ended names left new k i None h l none few = past _ k i (sym l ∙ h.0) few

pub went : (names left new : List (List ℕ)) (k : ℕ) (o : Option NameRef) → MatchOption o ((left ≡ []) × (new ≡ [])) (λ n. left ≡ n.bytes.now ∷ new)
    → left ≡ drop k names → is_some o ≡ true → new ≡ drop (k + 1) names
went names left new k (Some n) h l some = behind _ _ _ k (sym l ∙ h)
went names left new k None h l some = cc

pub none_is : (text : List ℕ) → length text ≡ 0 → is_path_text text ≡ true
none_is [] h = is_text_of_none
none_is (b ∷ text) h = absurd (omega arith)
