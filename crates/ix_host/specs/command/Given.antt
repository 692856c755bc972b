-- The words that a program is called with.
use Rattle.std.specs.Prelude.{ℕ, List, [], map, drop, String, string_bytes, Result, Ok, Err}
use Rattle.std.specs.declared.vec.IntoIter.{IntoIter}

-- all words but the first, which is the program's name; none where they can't be told
abbrev pub words_of : {A E : Type 0} → Result (IntoIter (String A) A) E → List (List ℕ)
words_of (Ok args) = map string_bytes (drop 1 args.rest.items)
words_of (Err e) = []
