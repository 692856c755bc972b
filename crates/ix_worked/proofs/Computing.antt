-- The words that the sessions are evaluated through. All words on labels stay closed.
use Rattle.std.proofs.Common.{ℕ}
use Rattle.ix_model.specs.{rows.Rows.{◌>>=◌, ◌>>◌, on_pass, need, some, only_if, pass, refuse, frame, process, object, record_of, change_process, change_object}, history.Step.step}
use Rattle.ix_model.specs.rows.{Rows.{put_object, put_process, add_process, put_open, change_open, observe, affect}, Telling.{told_of_read, told_of_write, told_of_cut, told}}
use Rattle.ix_model.specs.rows.{Walks.{walked_to, found_object, object_at, found_spot, spot_at, vacant, missing, behind, opened}, Table.{row, verdict}}
use Rattle.ix_model.specs.rows.{Lifetimes.{let_go_object, let_go_open, let_go_claim, let_go, let_go_if_held, let_go_each, let_go_all}, OnLabels.{grant_lic, set_ceiling, read_log}}
use Rattle.ix_model.specs.rows.{Auditing.{entitled, log_has_room, exercise, logged}, OnProcesses.{fork, exec, end_process, exit, wait_child}}
use Rattle.ix_model.specs.world.{Numbers.{free_inode, free_pipe}, Directories.has_room_for_a_name, Privs.{has_all, either_of, without}}
use Rattle.ix_model.specs.opening.{Opening.{opening_world, bare_objects, with_object}, Valid.{is_valid, fss_fit, limits_fit, procs_fit, object_fits}}
use Rattle.ix_model.specs.rows.OnPaths.{make, create_at, make_dir, link_at, unlink_at, remove_dir, open_at, change_dir, stat_at, list_at}
use Rattle.ix_model.specs.rows.OnDescriptors.{float_entry, read_fd, write_fd, cut_fd, seek_fd, dup_fd, close_fd, make_pipe, claimed, pex, unpex}
use Rattle.ix_model.specs.rows.OnLabels.{label_of, self_label, allowed, movable, set_label, set_self, freeze, freeze_self, thaw, thaw_self, set_priv, drop_lic}
use Rattle.ix_model.specs.world.Contents.{keep, carried, readable, after_read, after_write, after_cut, after_seek, after_exit, emptied}
use Rattle.ix_model.specs.history.Step.{plainly, read_answer, write_answer, cut_answer, seek_answer, stat_answer, exit_answer, wait_answer, pex_answer, answer}
use Rattle.ix_model.specs.history.AuditLog.{object_of_path, label_at, of_process, exercises, line_of_act, is_licensed, lines_added, audit_log}

-- Whoever unfolds one of these unfolds what is named with it.
-- the words of the rows
unfoldable pub wording : ℕ
unfolding ◌>>=◌ ◌>>◌ on_pass need some only_if pass refuse frame process object record_of change_process change_object
    put_object put_process add_process put_open change_open observe affect walked_to found_object object_at found_spot spot_at vacant missing behind
    opened let_go_object let_go_open let_go_claim let_go let_go_if_held let_go_each let_go_all entitled log_has_room
    exercise logged free_inode free_pipe has_room_for_a_name has_all either_of without
wording = 0

-- the rows
unfoldable pub deciding : ℕ
unfolding float_entry make create_at make_dir link_at unlink_at remove_dir open_at change_dir stat_at list_at read_fd write_fd
    cut_fd seek_fd dup_fd close_fd make_pipe claimed pex unpex fork exec end_process exit wait_child label_of self_label
    allowed movable set_label set_self freeze freeze_self thaw thaw_self set_priv drop_lic grant_lic set_ceiling read_log
    row verdict
deciding = 0

-- the steps
unfoldable pub stepping : ℕ
unfolding keep carried readable after_read after_write after_cut after_seek after_exit emptied told_of_read
    told_of_write told_of_cut told plainly read_answer write_answer cut_answer seek_answer stat_answer exit_answer
    wait_answer pex_answer answer step
stepping = 0

-- an opening world and its histories
unfoldable pub running : ℕ
unfolding wording deciding stepping opening_world bare_objects with_object
running = 0

-- the lines of the audit log
unfoldable pub auditing : ℕ
unfolding object_of_path label_at of_process exercises line_of_act
auditing = 0

-- a whole audit log
unfoldable pub licensing : ℕ
unfolding auditing is_licensed lines_added audit_log
licensing = 0

-- what makes a config valid
unfoldable pub fitting : ℕ
unfolding is_valid fss_fit limits_fit procs_fit object_fits
fitting = 0
