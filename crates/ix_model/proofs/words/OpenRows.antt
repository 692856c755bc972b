-- The rows of all calls, down to the words that they are made of: where this is unfolded, each row is.
use Rattle.std.proofs.Common.{ℕ}
use Rattle.ix_model.specs.{rows.{Outcomes.Row, Table.row, OnProcesses.{fork, exec, exit, wait_child}}, history.Events.Op, declared.reply.Reply.Reply}
use Rattle.ix_model.specs.rows.OnPaths.{make, create_at, make_dir, open_at, link_at, unlink_at, remove_dir, change_dir, stat_at, list_at}
use Rattle.ix_model.specs.rows.OnDescriptors.{LengthChecks, read_fd, write_fd, cut_fd, seek_fd, dup_fd, close_fd, make_pipe, pex, unpex}
use Rattle.ix_model.specs.rows.OnLabels.{label_of, self_label, set_label, set_self, freeze, freeze_self, thaw, thaw_self, set_priv, drop_lic, grant_lic, set_ceiling, read_log}

unfoldable pub open_row : LengthChecks → ℕ → ℕ → Op → Row Reply
unfolding row create_at make_dir make link_at unlink_at remove_dir open_at change_dir stat_at list_at read_fd write_fd cut_fd seek_fd dup_fd close_fd make_pipe pex unpex fork exec exit
    wait_child label_of self_label set_label set_self freeze freeze_self thaw thaw_self set_priv drop_lic grant_lic set_ceiling read_log
open_row = row
