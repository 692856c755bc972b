-- What the requests to the privilege server are, and how a message is read.
use Rattle.std.specs.Prelude.{◌≡◌, ◌≢◌, ℕ, List, ◌++◌, codes, Option, Some, None}
use Rattle.ix_model.specs.declared.privs.PrivSet.{PrivSet}
use Rattle.ix_text.specs.Privs.{privs_of}
use Rattle.ix_asking.specs.serving.Requests.{IsLongest}
use Rattle.ix_privserv.specs.Messages.{bad_at}

-- The message wants this set: it is `want ` and a word for the set other than `-`.
abbrev pub Wants : PrivSet → List ℕ → Type 0
Wants set message = (word : List ℕ) × (message ≡ codes "want " ++ word) × (word ≢ codes "-") × (privs_of word ≡ Some set)

abbrev pub IsRequest : List ℕ → Type 0
IsRequest message = (set : PrivSet) × Wants set message

-- A set is read where the message wants it. A message of which none is read is no request, and its longest front that some request
-- begins with has so many bytes.
abbrev pub IsRead : List ℕ → Option PrivSet → Type 0
IsRead message (Some set) = Wants set message
IsRead message None = (IsRequest message → ⊥) × IsLongest IsRequest message (bad_at message)
