-- The words that a line is read through. Those on labels, and those on the lines before, stay closed.
use Rattle.std.proofs.Common.{ℕ}
use Rattle.ix_model.specs.world.{Naming.is_name, Texts.{between_slashes, is_path_text}}
use Rattle.ix_script.specs.{texts.Cutting.{pieces, words_of, is_closed, is_policy_line}, lines.Kinds.{bounds, first_broken, places_fault}}
use Rattle.ix_script.specs.{lines.Rules.{is_too_long, is_unprintable, has_empty_word, has_open_quote}, lines.Said.{version_of, line_of}}
use Rattle.ix_script.specs.texts.Words.{value, is_numeral, number_of, is_path_word, path_of, made_path_of, mode_of, state_of, what_of, fd_of, keep_of}
use Rattle.ix_text.specs.{Names.{is_script_name, name_of}, Privs.privs_of}
use Rattle.ix_script.specs.texts.Payloads.{digit_of, pair_of, pairs_of, escaped_byte, escape_step, quoted_from, times_from, times_of, payload_of}
use Rattle.ix_script.specs.lines.Forms.{plain_of, on_path_of, on_fd_of, counted_of, frame_form, group_form, file_form, process_form, form_of}
use Rattle.ix_script.specs.lines.Before.{fss_told, default_fs, whats_told, default_limits, limits_of, procs_of, proc_names, objects_of, has_policy, in_body}
use Rattle.ix_script.specs.lines.Before.{lane_now, phase_lanes, lanes_of, commands, fds_given, procs_given}
use Rattle.ix_script.specs.lines.Faults.{text_fault, words_fault, stand_fault, names_fault, said_fault, form_fault, command_fault, policy_fault, body_fault}
use Rattle.ix_script.specs.lines.Faults.{first_line_fault, line_fault}

-- Whoever unfolds one of these unfolds what is named with it.
-- what a line says
unfoldable pub saying : ℕ
unfolding is_name pieces words_of is_closed is_policy_line is_script_name name_of value is_numeral number_of privs_of
    between_slashes is_path_text is_path_word path_of made_path_of mode_of state_of what_of fd_of keep_of digit_of pair_of pairs_of
    escaped_byte escape_step quoted_from times_from times_of payload_of bounds plain_of on_path_of on_fd_of counted_of frame_form
    group_form file_form process_form form_of version_of line_of
saying = 0

-- and its fault
unfoldable pub judging : ℕ
unfolding saying first_broken places_fault is_too_long is_unprintable has_empty_word has_open_quote text_fault words_fault stand_fault
    names_fault said_fault form_fault command_fault policy_fault first_line_fault body_fault line_fault
judging = 0

-- what lines tell
unfoldable pub telling : ℕ
unfolding fss_told default_fs whats_told default_limits limits_of procs_of proc_names objects_of has_policy in_body
    lane_now phase_lanes lanes_of commands fds_given procs_given
telling = 0
