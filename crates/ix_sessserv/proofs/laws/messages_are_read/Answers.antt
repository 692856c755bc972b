use Rattle.ix_sessserv.proofs.Requests.{messages-read}
use Rattle.ix_sessserv.proofs.laws.messages_are_read.Goals as goal

pub returns : goal.returns
returns c = messages-read
