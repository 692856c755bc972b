-- Messages, and how far they are requests.
use Rattle.std.specs.Prelude.{ℕ, zero, suc, Bool, List, length, take, drop, Option, Some, None, if◌then◌else◌}
use Rattle.ix_model.specs.world.Naming.{same_bytes}

-- what stands after a word at the front of a text, where it begins with the word
abbrev pub after_word : List ℕ → List ℕ → Option (List ℕ)
after_word word text = if same_bytes (take (length word) text) word then Some (drop (length word) text) else None

-- whether a text is a front of the word
abbrev pub is_front_of : List ℕ → List ℕ → Bool
is_front_of word text = same_bytes text (take (length text) word)

-- of the fronts of a text that have at most n bytes, the length of the longest that passes the test; 0 where none does
abbrev pub longest_up_to : ℕ → (List ℕ → Bool) → List ℕ → ℕ
longest_up_to zero test text = 0
longest_up_to (suc n) test text = if test (take (suc n) text) then suc n else longest_up_to n test text

-- of all fronts
abbrev pub longest_front : (List ℕ → Bool) → List ℕ → ℕ
longest_front test text = longest_up_to (length text) test text
