use Rattle.ix_privserv.proofs.Requests.{messages-read}
use Rattle.ix_privserv.proofs.laws.messages_are_read.Goals as goal

pub returns : goal.returns
returns c = messages-read
