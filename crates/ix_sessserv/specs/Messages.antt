-- The messages to the session server: a request is `login ` and a user's name.
use Rattle.std.specs.Prelude.{ℕ, Bool, false, ◌||◌, List, Option, option_and_then, is_some, codes}
use Rattle.std.specs.Option.{option_map_or}
use Rattle.ix_text.specs.Names.{is_reserved, name_of}
use Rattle.ix_asking.specs.serving.Messages.{after_word, is_front_of, longest_front}

-- what stands after `login `
abbrev pub after_login : List ℕ → Option (List ℕ)
after_login message = after_word (codes "login ") message

-- the user for whom a message asks for a session
unfoldable pub user_in : List ℕ → Option (List ℕ)
user_in message = option_and_then name_of (after_login message)

-- whether the text is `login ` and a word that is no name, but with which names begin
abbrev pub is_reserved_login : List ℕ → Bool
is_reserved_login text = option_map_or is_reserved (after_login text) false

-- whether some request begins with the text: it is a front of `login `, or a request, since the fronts of names are names, or such a word
unfoldable pub begins_request : List ℕ → Bool
begins_request text = is_front_of (codes "login ") text || is_some (user_in text) || is_reserved_login text

-- how many bytes of a message begin a request
abbrev pub bad_at : List ℕ → ℕ
bad_at message = longest_front begins_request message
