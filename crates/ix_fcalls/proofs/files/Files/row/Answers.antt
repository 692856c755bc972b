use Rattle.std.proofs.Common.{refl}
use Rattle.ix_fcalls.proofs.Deciding.{leaves_kept, leaves_carried}
use Rattle.ix_fcalls.proofs.files.Files.row.Goals as goal

pub returns-in-CreateAt-clause-content : goal.returns-in-CreateAt-clause-content
returns-in-CreateAt-clause-content g c = leaves_kept _ _ _ _ _ _ _ _ c.in-CreateAt.is refl c.make.ensures.kept

pub returns-in-OpenAt-clause-content : goal.returns-in-OpenAt-clause-content
returns-in-OpenAt-clause-content g c = leaves_kept _ _ _ _ _ _ _ _ c.in-OpenAt.is refl c.open_at.ensures.kept

pub returns-in-ReadFd-clause-content : goal.returns-in-ReadFd-clause-content
returns-in-ReadFd-clause-content g c = leaves_kept _ _ _ _ _ _ _ _ c.in-ReadFd.is refl c.read_fd.ensures.kept

pub returns-in-WriteFd-clause-content : goal.returns-in-WriteFd-clause-content
returns-in-WriteFd-clause-content g c = leaves_kept _ _ _ _ _ _ _ _ c.in-WriteFd.is refl c.write_fd.ensures.kept

pub returns-in-CutFd-clause-content : goal.returns-in-CutFd-clause-content
returns-in-CutFd-clause-content g c = leaves_kept _ _ _ _ _ _ _ _ c.in-CutFd.is refl c.cut_fd.ensures.kept

pub returns-in-SeekFd-clause-content : goal.returns-in-SeekFd-clause-content
returns-in-SeekFd-clause-content g c = leaves_kept _ _ _ _ _ _ _ _ c.in-SeekFd.is refl c.seek_fd.ensures.kept

pub returns-in-DupFd-clause-content : goal.returns-in-DupFd-clause-content
returns-in-DupFd-clause-content g c = leaves_kept _ _ _ _ _ _ _ _ c.in-DupFd.is refl c.dup_fd.ensures.kept

pub returns-in-CloseFd-clause-content : goal.returns-in-CloseFd-clause-content
returns-in-CloseFd-clause-content g c = leaves_carried _ _ _ _ _ _ _ _ c.in-CloseFd.is refl c.close_fd.ensures.content

pub returns-in-MakePipe-clause-content : goal.returns-in-MakePipe-clause-content
returns-in-MakePipe-clause-content g c = leaves_kept _ _ _ _ _ _ _ _ c.in-MakePipe.is refl c.make_pipe.ensures.kept

pub returns-in-LinkAt-clause-content : goal.returns-in-LinkAt-clause-content
returns-in-LinkAt-clause-content g c = leaves_kept _ _ _ _ _ _ _ _ c.in-LinkAt.is refl c.link_at.ensures.kept

pub returns-in-UnlinkAt-clause-content : goal.returns-in-UnlinkAt-clause-content
returns-in-UnlinkAt-clause-content g c = leaves_carried _ _ _ _ _ _ _ _ c.in-UnlinkAt.is refl c.unlink_at.ensures.content

pub returns-in-RemoveDir-clause-content : goal.returns-in-RemoveDir-clause-content
returns-in-RemoveDir-clause-content g c = leaves_carried _ _ _ _ _ _ _ _ c.in-RemoveDir.is refl c.remove_dir.ensures.content

pub returns-in-ChangeDir-clause-content : goal.returns-in-ChangeDir-clause-content
returns-in-ChangeDir-clause-content g c = leaves_kept _ _ _ _ _ _ _ _ c.in-ChangeDir.is refl c.change_dir.ensures.kept

pub returns-in-StatAt-clause-content : goal.returns-in-StatAt-clause-content
returns-in-StatAt-clause-content g c = leaves_kept _ _ _ _ _ _ _ _ c.in-StatAt.is refl c.stat_at.ensures.kept

pub returns-in-ListAt-clause-content : goal.returns-in-ListAt-clause-content
returns-in-ListAt-clause-content g c = leaves_kept _ _ _ _ _ _ _ _ c.in-ListAt.is refl c.list_at.ensures.kept
