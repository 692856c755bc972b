-- What a read or a write came to, as a reply.
use Rattle.ix_model.specs.declared.reply.Reply.{Reply}
use Rattle.ix_model.specs.declared.reply.Reply.TheVariants as reply
use Rattle.ix_fcalls.specs.declared.moved.Moved.{Moved}
use Rattle.ix_fcalls.specs.declared.moved.Moved.TheVariants as moved

-- the bytes that were read, the number that was written, or the refusal
abbrev pub reply_of : Moved → Reply
reply_of (moved.Read count) = reply.Bytes count
reply_of (moved.Written count) = reply.Number count
reply_of (moved.No why) = reply.No why
