use Rattle.ix_fcalls.proofs.Sharing.{AreShared}
use Rattle.ix_fcalls.proofs.taking.share_all.Given as goal

-- the descriptors so far are owners
abbrev pub invariant-loop-fd : goal.invariant-loop-fd
invariant-loop-fd l = AreShared l.fds l.fd l.fn.tables l.tables
