-- The bytes that a call gives.
use Rattle.std.specs.Prelude.{◌≡◌, ◌≤◌, ℕ, List, [], length}
use Rattle.ix_model.specs.declared.reply.Reply.{Reply}
use Rattle.ix_model.specs.declared.reply.Reply.TheVariants as reply

-- as many bytes as the reply says, at most 4,096, and none where it isn't Bytes
abbrev pub AreShown : Reply → List ℕ → Type 0
AreShown (reply.Bytes k) bytes = (length bytes ≡ k) × (k ≤ 4096)
AreShown _ bytes = bytes ≡ []
