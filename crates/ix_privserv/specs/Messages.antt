-- The messages to the privilege server: a request is `want ` and a set that isn't `-`.
use Rattle.std.specs.Prelude.{ℕ, Bool, ◌||◌, List, Option, None, option_and_then, is_some, if◌then◌else◌, codes}
use Rattle.ix_model.specs.world.Naming.{same_bytes}
use Rattle.ix_model.specs.declared.privs.PrivSet.{PrivSet}
use Rattle.ix_text.specs.Privs.{privs_of}
use Rattle.ix_asking.specs.serving.Messages.{after_word, is_front_of, longest_front}

-- the set that a word spells, other than `-`
abbrev pub set_of : List ℕ → Option PrivSet
set_of word = if same_bytes word (codes "-") then None else privs_of word

-- the set that a message wants
unfoldable pub wanted : List ℕ → Option PrivSet
wanted message = option_and_then set_of (after_word (codes "want ") message)

-- whether some request begins with the text: it is a front of `want `, or a request, since the letters of a set begin with a set's
unfoldable pub begins_request : List ℕ → Bool
begins_request text = is_front_of (codes "want ") text || is_some (wanted text)

-- how many bytes of a message begin a request
abbrev pub bad_at : List ℕ → ℕ
bad_at message = longest_front begins_request message
