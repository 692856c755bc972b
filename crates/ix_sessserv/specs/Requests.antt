-- What the requests to the session server are, and how a message is read.
use Rattle.std.specs.Prelude.{◌≡◌, ℕ, true, List, ◌++◌, codes, Option, Some, None}
use Rattle.ix_text.specs.Names.{is_script_name}
use Rattle.ix_asking.specs.serving.Requests.{IsLongest}
use Rattle.ix_sessserv.specs.Messages.{bad_at}

-- The message asks for a session of this user: it is `login ` and the user's name.
abbrev pub LogsIn : List ℕ → List ℕ → Type 0
LogsIn user message = (message ≡ codes "login " ++ user) × (is_script_name user ≡ true)

abbrev pub IsRequest : List ℕ → Type 0
IsRequest message = (user : List ℕ) × LogsIn user message

-- A user is read where the message asks for a session of that user. A message of which none is read is no request, and its longest
-- front that some request begins with has so many bytes.
abbrev pub IsRead : List ℕ → Option (List ℕ) → Type 0
IsRead message (Some user) = LogsIn user message
IsRead message None = (IsRequest message → ⊥) × IsLongest IsRequest message (bad_at message)
