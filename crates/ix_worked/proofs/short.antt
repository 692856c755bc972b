-- What the short histories tell, entry by entry.
use Rattle.std.proofs.Common.{◌≡◌, true, false, List, [], ◌∷◌, ◌++◌, ◌∙◌, map, replicate, Some, None, refl, ap, codes}
use Rattle.ix_label.specs.Category.{bottom, top}
use Rattle.ix_model.specs.{history.{Events.Event, Step.{step, run}}, opening.Opening.opening_world}
use Rattle.ix_model.specs.world.{Directories.{with_name, without_name}, Privs.{to_lower, to_thaw, to_read_the_log, no_privileges}, World.{World, put}}
use Rattle.ix_worked.specs.{Scripts.{three, five, seven, three_and_five, in_root, by, log_line}, Sessions.{line_of, lines_of, log_of, calls, Goes}}
use Rattle.ix_worked.{proofs.{Chains.lines_more, Computing.{running, auditing}, Labels.labels}, specs.short.OnPaths.{looking_around, working_in_a_directory, sharing_blocks}}
use Rattle.ix_worked.specs.short.OnDescriptors.{asking_too_much, desk, copying, long_desk, using_none, reading_a_writer, writing_a_reader, going_too_far}
use Rattle.ix_worked.specs.short.OnDescriptors.{claiming_a_file, cutting_a_pipe, letting_go, using_all, opening_all, making_pipes, reading_nothing}
use Rattle.ix_worked.specs.short.OnDescriptors.{writing_into_a_broken_pipe, claiming_both, closing_a_claimed_end, writing_in_the_middle, using_numbers_again}
use Rattle.ix_worked.specs.short.OnEntries.{shared_desk, seeking_high, writing_high, writing_high_log, cutting_high, reading_nothing_high, draining_high}
use Rattle.ix_worked.specs.short.OnLabels.{towers, looking_in_vain, reading_each_line, stiff_house, moving_what_is_frozen, two_steps, program, walking_too_high}
use Rattle.ix_worked.specs.short.OnLabels.{handing_on, handing_on_log, levels, no_lines, officers, heights, low_house, pair, chest, holding_down, freezing}
use Rattle.ix_worked.specs.short.OnLabels.{setting_labels, setting_ceilings, acting_without_a_line, acting, acting_log, finding_what_is_high, setting_high}
use Rattle.ix_worked.specs.short.OnLabels.{looking_into_an_empty_pipe, making_names_high, raising_ceilings, raising_ceilings_log}
use Rattle.ix_worked.specs.short.OnPaths.{attic, naming_high, crowded, poor, making_without_room, asking_without_room, full_with_a_root, making_one_name_more}
use Rattle.ix_worked.specs.short.OnPaths.{freeing_blocks, unlinking_one_of_two, shelves, furnished, full, tight, seeking, looking_into_a_file, making_again}
use Rattle.ix_worked.specs.short.OnPaths.{using_a_directory, crossing, removing_a_home, making_files, making_names, asking_for_objects, unlinking_an_open_file}
use Rattle.ix_worked.specs.short.OnProcesses.{house, forking_as_it_is, ending_with_a_pipe, keeping_some, family, calling_as_nobody, calling_after_the_end}
use Rattle.ix_worked.specs.short.OnProcesses.{forking_often, waiting_for_a_child, ending_first, ending_out_of_order}
use Rattle.ix_worked.proofs.Moves.{Move, GoesBy, number, bytes, answers, done, refuses, refuses_at, same, back_to, ◌▸◌, goes, tells, tells_by, logs_by}
use Rattle.ix_worked.proofs.Worlds.{marked, with_made, with_process, with_object, with_line, floated, raised, opened, with_entry, with_fd, without_entry, moved}
use Rattle.ix_worked.proofs.Worlds.{holding, with_new, with_pipe, claimed_by, with_child, with_ended, without_process}
use Rattle.ix_model.specs.history.Events as op
use Rattle.ix_model.specs.declared.audit.Act.TheVariants as act
use Rattle.ix_model.specs.declared.call.Mode.TheVariants as mode
use Rattle.ix_model.specs.declared.refusal.Refusal.TheVariants as refusal
use Rattle.ix_model.specs.declared.reply.Kind.TheVariants as kind
use Rattle.ix_model.specs.declared.reply.Reply.TheVariants as reply

-- a pipe under the first two descriptors
abbrev pipes : Move
pipes = answers (reply.Two (record { 0 = 0 }) (record { 0 = 1 })) (with_pipe 1 4 0 1 0 1)

-- ---- all descriptors are used: the first entry and the last are taken by themselves, and those between them at once
one_used : World
one_used = with_entry 1 0 0 (opened 1 mode.Read) (opening_world long_desk)

all_used : World
all_used = with_process 1 (λ p. record p { fds = replicate 32 (Some 0) }) one_used

abbrev opening_it : Event
opening_it = by 1 (op.OpenAt (in_root (codes "n")) mode.Read)

opens_the_first : step (opening_world long_desk) 1 1 opening_it.op ≡ number 0 (with_entry 1 0 0 (opened 1 mode.Read)) (opening_world long_desk)
unfolding running
opens_the_first = simp labels refl

copies : run one_used 2 (calls copying) ≡ all_used
unfolding running one_used all_used
copies = refl

has_none_left : step all_used 36 1 opening_it.op ≡ refuses refusal.NoFd all_used
unfolding running one_used all_used
has_none_left = simp labels refl

pub using_all_ran : Goes long_desk using_all
unfolding running one_used all_used
using_all_ran =
    ap (λ g. line_of opening_it g ∷ lines_of g.world 2 (calls copying ++ opening_it ∷ [])) opens_the_first
    ∙ ap (λ ls. line_of opening_it (number 0 same one_used) ∷ ls) (lines_more one_used 2 (calls copying) (opening_it ∷ [])
    ∙ ap (λ w. lines_of one_used 2 (calls copying) ++ lines_of w 36 (opening_it ∷ [])) copies
    ∙ ap (λ g. lines_of one_used 2 (calls copying) ++ line_of opening_it g ∷ []) has_none_left)

-- ---- on processes
pub calling_as_nobody_ran : Goes family calling_as_nobody
unfolding running
calling_as_nobody_ran = tells family calling_as_nobody
    (replicate 4 (refuses refusal.NoProcess) ++ done (without_process 1) ∷ refuses refusal.NoProcess ∷ [])
    refl refl

pub calling_after_the_end_ran : Goes family calling_after_the_end
unfolding running
calling_after_the_end_ran = tells family calling_after_the_end
    (number 2 (with_child 1) ∷ done (with_ended 2 3) ∷ replicate 2 (refuses refusal.NoProcess)
    ++ answers (reply.Child (record { 0 = 2 }) 3) (without_process 2) ∷ refuses refusal.NoProcess ∷ [])
    (simp labels refl) refl

pub forking_often_ran : Goes family forking_often
unfolding running
forking_often_ran = tells family forking_often
    (number 2 (with_child 1) ∷ number 3 (with_child 1) ∷ refuses refusal.NoSlot ∷ done (with_ended 2 3) ∷ refuses refusal.NoSlot
    ∷ answers (reply.Child (record { 0 = 2 }) 3) (without_process 2) ∷ number 4 (with_child 1) ∷ [])
    (simp labels refl) refl

pub waiting_for_a_child_ran : Goes family waiting_for_a_child
unfolding running
waiting_for_a_child_ran = tells family waiting_for_a_child
    (refuses refusal.NoChild ∷ number 2 (with_child 1) ∷ number 3 (with_child 2) ∷ done (with_ended 3 3) ∷ refuses refusal.Again
    ∷ answers (reply.Child (record { 0 = 3 }) 3) (without_process 3) ∷ done (with_ended 2 4)
    ∷ answers (reply.Child (record { 0 = 2 }) 4) (without_process 2) ∷ refuses refusal.NoChild ∷ [])
    (simp labels refl) refl

pub ending_first_ran : Goes family ending_first
unfolding running
ending_first_ran = tells family ending_first
    (number 2 (with_child 1) ∷ refuses refusal.ChildrenLive ∷ done (with_ended 2 3) ∷ refuses refusal.ChildrenLive
    ∷ answers (reply.Child (record { 0 = 2 }) 3) (without_process 2) ∷ done (without_process 1) ∷ [])
    (simp labels refl) refl

pub ending_out_of_order_ran : Goes family ending_out_of_order
unfolding running
ending_out_of_order_ran = tells family ending_out_of_order
    (number 2 (with_child 1) ∷ number 3 (with_child 1) ∷ done (with_ended 3 5) ∷ done (with_ended 2 3)
    ∷ answers (reply.Child (record { 0 = 2 }) 3) (without_process 2) ∷ answers (reply.Child (record { 0 = 3 }) 5) (without_process 3) ∷ [])
    (simp labels refl) refl

pub ending_with_a_pipe_ran : Goes family ending_with_a_pipe
unfolding running
ending_with_a_pipe_ran = tells family ending_with_a_pipe
    (number 2 (with_child 1) ∷ answers (reply.Two (record { 0 = 0 }) (record { 0 = 1 })) (with_pipe 2 4 0 1 0 1) ∷ refuses refusal.NoInode
    ∷ done (without_entry 0 ▸ without_entry 1 ▸ with_new 4 None ▸ with_ended 2 3)
    ∷ pipes ∷ [])
    refl refl

pub keeping_some_ran : Goes family keeping_some
unfolding running
keeping_some_ran = tells family keeping_some
    (pipes
    ∷ number 2 (with_child 1 ▸ with_process 2 (λ p. record p { fds = replicate 32 None }))
    ∷ number 3 (with_child 1 ▸ with_process 3 (λ p. record p { fds = put (replicate 32 None) 1 (Some 1) }))
    ∷ map refuses (refusal.BadFd ∷ refusal.BadFd ∷ refusal.Again ∷ []))
    (simp labels refl) refl

pub forking_as_it_is_ran : Goes house forking_as_it_is
unfolding running
forking_as_it_is_ran = tells house forking_as_it_is
    (done (floated 1 three) ∷ done (with_process 1 (λ p. record p { ceiling = three })) ∷ done (with_process 1 (λ p. record p { cwd = 1 }))
    ∷ number 2 (with_child 1) ∷ answers (reply.Lab three) same ∷ refuses refusal.ProcCeiling ∷ done (with_process 1 (λ p. record p { frozen = true }))
    ∷ number 3 (with_child 1) ∷ refuses refusal.ProcFrozen ∷ [])
    (simp labels refl) refl

-- ---- on descriptors
pub using_none_ran : Goes desk using_none
unfolding running
using_none_ran = tells desk using_none (replicate 9 (refuses refusal.BadFd)) refl refl

pub reading_a_writer_ran : Goes desk reading_a_writer
unfolding running
reading_a_writer_ran = tells desk reading_a_writer
    (number 0 (with_entry 1 0 0 (opened 1 mode.Write)) ∷ refuses refusal.NotReadable ∷ [])
    (simp labels refl) refl

pub writing_a_reader_ran : Goes desk writing_a_reader
unfolding running
writing_a_reader_ran = tells desk writing_a_reader
    (number 0 (with_entry 1 0 0 (opened 1 mode.Read)) ∷ replicate 2 (refuses refusal.NotWritable))
    (simp labels refl) refl

pub going_too_far_ran : Goes desk going_too_far
unfolding running
going_too_far_ran = tells desk going_too_far
    (number 0 (with_entry 1 0 0 (opened 1 mode.Both))
    ∷ map refuses (refusal.TooBig ∷ refusal.TooBig ∷ refusal.TooBig ∷ refusal.NoSpace ∷ refusal.TooBig ∷ []) ++ done (moved 0 1048576)
    ∷ refuses refusal.TooBig ∷ [])
    (simp labels refl) refl

pub claiming_a_file_ran : Goes desk claiming_a_file
unfolding running
claiming_a_file_ran = tells desk claiming_a_file
    (number 0 (with_entry 1 0 0 (opened 1 mode.Both)) ∷ replicate 2 (refuses refusal.NotPipe))
    (simp labels refl) refl

pub cutting_a_pipe_ran : Goes desk cutting_a_pipe
unfolding running
cutting_a_pipe_ran = tells desk cutting_a_pipe (pipes ∷ replicate 2 (refuses refusal.IsPipe)) refl refl

pub letting_go_ran : Goes desk letting_go
unfolding running
letting_go_ran = tells desk letting_go
    (pipes ∷ refuses refusal.NotClaimed
    ∷ answers reply.Half (claimed_by 4 (Some 1) None) ∷ number 2 (with_child 1)
    ∷ map refuses (refusal.NotClaimed ∷ refusal.PexHeld ∷ refusal.PexHeld ∷ []) ++ done (claimed_by 4 None None)
    ∷ answers reply.Half (claimed_by 4 (Some 2) None) ∷ [])
    refl refl

pub opening_all_ran : Goes desk opening_all
unfolding running
opening_all_ran = tells desk opening_all
    (number 0 (with_entry 1 0 0 (opened 1 mode.Read)) ∷ number 1 (with_entry 1 1 1 (opened 1 mode.Read))
    ∷ number 2 (with_entry 1 2 2 (opened 1 mode.Read)) ∷ refuses refusal.NoOpen ∷ number 3 (with_entry 1 3 3 (opened 1 mode.Read))
    ∷ replicate 2 (refuses refusal.NoOpen) ++ number 4 (with_fd 1 4 (Some 0)) ∷ number 2 (with_child 1) ∷ [])
    (simp labels refl) refl

pub making_pipes_ran : Goes desk making_pipes
unfolding running
making_pipes_ran = tells desk making_pipes
    (pipes ∷ refuses refusal.NoInode
    ∷ done (with_fd 1 0 None ▸ without_entry 0) ∷ refuses refusal.NoInode ∷ done (back_to desk)
    ∷ pipes ∷ [])
    refl refl

pub reading_nothing_ran : Goes desk reading_nothing
unfolding running
reading_nothing_ran = tells desk reading_nothing
    (pipes ∷ refuses refusal.Again ∷ number 1 (holding 4 (codes "x") [])
    ∷ bytes [] same ∷ bytes (codes "x") (holding 4 [] []) ∷ refuses refusal.Again ∷ done (with_fd 1 1 None ▸ without_entry 1) ∷ bytes [] same ∷ [])
    (simp labels refl) refl

pub writing_into_a_broken_pipe_ran : Goes desk writing_into_a_broken_pipe
unfolding running
writing_into_a_broken_pipe_ran = tells desk writing_into_a_broken_pipe
    (pipes ∷ number 4096 (holding 4 [] (replicate 4096 65))
    ∷ refuses refusal.PipeFull ∷ done (with_fd 1 1 None ▸ without_entry 1) ∷ refuses refusal.Broken ∷ [])
    (simp labels refl) refl

pub claiming_both_ran : Goes desk claiming_both
unfolding running
claiming_both_ran = tells desk claiming_both
    (pipes ∷ answers reply.Half (claimed_by 4 (Some 1) None)
    ∷ number 1 (holding 4 [] (codes "x"))
    ∷ answers (reply.Whole (record { 0 = 1 }) bottom no_privileges) (holding 4 [] [] ▸ claimed_by 4 (Some 1) (Some 1)) ∷ refuses refusal.Again
    ∷ number 1 (holding 4 [] (codes "y")) ∷ answers (reply.Whole (record { 0 = 1 }) bottom no_privileges) same ∷ bytes (codes "y") (holding 4 [] [])
    ∷ [])
    (simp labels refl) refl

pub closing_a_claimed_end_ran : Goes desk closing_a_claimed_end
unfolding running
closing_a_claimed_end_ran = tells desk closing_a_claimed_end
    (pipes ∷ number 2 (with_child 1)
    ∷ answers reply.Half (claimed_by 4 (Some 1) None) ∷ number 2 (with_fd 1 2 (Some 0)) ∷ done (with_fd 1 0 None) ∷ refuses refusal.PexHeld
    ∷ done (with_fd 1 2 None ▸ claimed_by 4 None None) ∷ number 1 (holding 4 [] (codes "x")) ∷ [])
    (simp labels refl) refl

pub writing_in_the_middle_ran : Goes desk writing_in_the_middle
unfolding running
writing_in_the_middle_ran = tells desk writing_in_the_middle
    (number 0 (with_entry 1 0 0 (opened 1 mode.Both)) ∷ done (moved 0 1) ∷ number 1 (holding 1 (codes "aXc") [] ▸ moved 0 2)
    ∷ done (holding 1 (codes "aX") []) ∷ done (holding 1 (97 ∷ 88 ∷ 0 ∷ 0 ∷ []) []) ∷ bytes (0 ∷ 0 ∷ []) (moved 0 4) ∷ done (moved 0 9)
    ∷ number 0 same ∷ done (moved 0 0) ∷ bytes (97 ∷ 88 ∷ 0 ∷ 0 ∷ []) (moved 0 4) ∷ [])
    (simp labels refl) refl

pub using_numbers_again_ran : Goes desk using_numbers_again
unfolding running
using_numbers_again_ran = tells desk using_numbers_again
    (number 0 (with_entry 1 0 0 (opened 1 mode.Read)) ∷ bytes (codes "ab") (moved 0 2) ∷ done (back_to desk)
    ∷ number 0 (with_entry 1 0 0 (opened 1 mode.Read)) ∷ bytes (codes "abc") (moved 0 3) ∷ done (back_to desk)
    ∷ pipes ∷ number 1 (holding 4 [] (codes "x"))
    ∷ done (with_fd 1 0 None ▸ without_entry 0) ∷ done (back_to desk)
    ∷ pipes ∷ refuses refusal.Again ∷ [])
    (simp labels refl) refl

pub asking_too_much_ran : Goes desk asking_too_much
unfolding running
asking_too_much_ran = tells desk asking_too_much
    (pipes ∷ replicate 2 (refuses refusal.IsPipe)
    ++ done (with_fd 1 1 None ▸ without_entry 1) ∷ refuses refusal.TooBig ∷ answers reply.Half (claimed_by 4 (Some 1) None) ∷ number 2 (with_child 1)
    ∷ replicate 2 (refuses refusal.PexHeld) ++ number 1 (with_entry 2 1 1 (opened 1 mode.Read)) ∷ replicate 2 (refuses refusal.NotWritable))
    (simp labels refl) refl

-- ---- on paths
pub seeking_ran : Goes shelves seeking
unfolding running
seeking_ran = tells shelves seeking (replicate 8 (refuses refusal.NotFound)) (simp labels refl) refl

pub looking_into_a_file_ran : Goes shelves looking_into_a_file
unfolding running
looking_into_a_file_ran = tells shelves looking_into_a_file (replicate 7 (refuses refusal.NotDir)) (simp labels refl) refl

pub using_a_directory_ran : Goes shelves using_a_directory
unfolding running
using_a_directory_ran = tells shelves using_a_directory (replicate 6 (refuses refusal.IsDir)) (simp labels refl) refl

pub making_again_ran : Goes shelves making_again
unfolding running
making_again_ran = tells shelves making_again (replicate 6 (refuses refusal.Exists)) (simp labels refl) refl

pub crossing_ran : Goes shelves crossing
unfolding running
crossing_ran = tells shelves crossing (replicate 3 (refuses refusal.CrossFs)) (simp labels refl) refl

pub removing_a_home_ran : Goes shelves removing_a_home
unfolding running
removing_a_home_ran = tells shelves removing_a_home
    (done (with_process 1 (λ p. record p { cwd = 2 })) ∷ replicate 2 (refuses refusal.InUse) ++ done (back_to shelves)
    ∷ done (with_new 2 None ▸ with_object 0 (without_name (codes "d"))) ∷ [])
    (simp labels refl) refl

pub making_files_ran : Goes shelves making_files
unfolding running
making_files_ran = tells shelves making_files
    (number 3 (with_made kind.File 0 0 (codes "a") 3) ∷ replicate 2 (refuses refusal.NoInode) ++ number 5 (with_made kind.File 1 4 (codes "b") 5)
    ∷ refuses refusal.NoInode ∷ [])
    (simp labels refl) refl

pub making_names_ran : Goes full making_names
unfolding running
making_names_ran = tells full making_names
    (replicate 3 (refuses refusal.NoEntry) ++ done (with_new 1 None ▸ with_object 0 (without_name (codes "a")))
    ∷ done (with_object 0 (with_name (codes "a") 2)) ∷ [])
    (simp labels refl) refl

pub asking_for_objects_ran : Goes shelves asking_for_objects
unfolding running
asking_for_objects_ran = tells shelves asking_for_objects
    (answers (reply.Stat (record { 0 = 1 }) kind.File 3 1 false no_privileges no_privileges) same ∷ done (with_object 2 (with_name (codes "k") 1))
    ∷ answers (reply.Stat (record { 0 = 1 }) kind.File 3 2 false no_privileges no_privileges) same
    ∷ answers (reply.Stat (record { 0 = 2 }) kind.Dir 0 1 false no_privileges no_privileges) same
    ∷ answers (reply.Named (codes "vol") (record { 0 = 4 })) same ∷ answers (reply.Named (codes "n") (record { 0 = 1 })) same
    ∷ answers (reply.Named (codes "k") (record { 0 = 1 })) same ∷ refuses refusal.EndOfList ∷ [])
    (simp labels refl) refl

pub unlinking_an_open_file_ran : Goes shelves unlinking_an_open_file
unfolding running
unlinking_an_open_file_ran = tells shelves unlinking_an_open_file
    (number 0 (with_entry 1 0 0 (opened 1 mode.Read)) ∷ done (with_object 0 (without_name (codes "n"))) ∷ refuses refusal.NotFound
    ∷ number 3 (with_made kind.File 0 0 (codes "m") 3) ∷ bytes (codes "abc") (moved 0 3)
    ∷ done (with_new 1 None ▸ holding 1 [] [] ▸ with_fd 1 0 None ▸ without_entry 0) ∷ number 1 (with_made kind.File 0 0 (codes "k") 1)
    ∷ number 0 (with_entry 1 0 0 (opened 1 mode.Read)) ∷ bytes [] same ∷ [])
    (simp labels refl) refl

pub looking_around_ran : Goes furnished looking_around
unfolding running
looking_around_ran = tells furnished looking_around
    (answers (reply.Stat (record { 0 = 1 }) kind.Dir 0 1 false no_privileges no_privileges) same
    ∷ answers (reply.Stat (record { 0 = 2 }) kind.File 3 1 false no_privileges no_privileges) same
    ∷ answers (reply.Stat (record { 0 = 6 }) kind.Dir 0 1 false no_privileges no_privileges) same
    ∷ answers (reply.Stat (record { 0 = 7 }) kind.File 0 1 false no_privileges no_privileges) same
    ∷ answers (reply.Stat (record { 0 = 3 }) kind.File 1 1 true no_privileges no_privileges) same
    ∷ answers (reply.Named (codes "vol") (record { 0 = 6 })) same ∷ answers (reply.Named (codes "d") (record { 0 = 1 })) same
    ∷ answers (reply.Named (codes "o") (record { 0 = 3 })) same ∷ answers (reply.Named (codes "m") (record { 0 = 7 })) same ∷ [])
    (simp labels refl) refl

pub working_in_a_directory_ran : Goes shelves working_in_a_directory
unfolding running
working_in_a_directory_ran = tells shelves working_in_a_directory
    (done (with_process 1 (λ p. record p { cwd = 2 })) ∷ number 3 (with_made kind.File 0 2 (codes "x") 3)
    ∷ answers (reply.Stat (record { 0 = 3 }) kind.File 0 1 false no_privileges no_privileges) same
    ∷ map refuses (refusal.NotFound ∷ refusal.NotEmpty ∷ []) ++ done (with_new 3 None ▸ with_object 2 (without_name (codes "x"))) ∷ [])
    (simp labels refl) refl

pub sharing_blocks_ran : Goes tight sharing_blocks
unfolding running
sharing_blocks_ran = tells tight sharing_blocks
    (number 0 (with_entry 1 0 0 (opened 2 mode.Write)) ∷ refuses refusal.NoSpace ∷ number 512 (holding 2 (replicate 512 65) [] ▸ moved 0 512)
    ∷ done (moved 0 0) ∷ number 512 (holding 2 (replicate 512 66) [] ▸ moved 0 512) ∷ refuses refusal.NoSpace ∷ done same
    ∷ number 5 (with_made kind.File 1 4 (codes "k") 5) ∷ number 1 (with_entry 1 1 1 (opened 5 mode.Write)) ∷ refuses refusal.NoSpace
    ∷ number 512 (holding 5 (replicate 512 65) [] ▸ moved 1 512) ∷ [])
    (simp labels refl) refl

pub making_one_name_more_ran : Goes full_with_a_root making_one_name_more
unfolding running
making_one_name_more_ran = tells full_with_a_root making_one_name_more
    (refuses refusal.NoEntry ∷ done (with_new 1 None ▸ with_object 0 (without_name (codes "a")))
    ∷ number 33 (with_made kind.File 1 32 (codes "q") 33) ∷ [])
    (simp labels refl) refl

pub freeing_blocks_ran : Goes tight freeing_blocks
unfolding running
freeing_blocks_ran = tells tight freeing_blocks
    (number 0 (with_entry 1 0 0 (opened 2 mode.Write)) ∷ refuses refusal.NoSpace
    ∷ done (holding 1 [] [] ▸ with_new 1 None ▸ with_object 0 (without_name (codes "n")))
    ∷ number 1024 (holding 2 (replicate 1024 65) [] ▸ moved 0 1024) ∷ [])
    (simp labels refl) refl

pub unlinking_one_of_two_ran : Goes shelves unlinking_one_of_two
unfolding running
unlinking_one_of_two_ran = tells shelves unlinking_one_of_two
    (done (with_object 2 (with_name (codes "k") 1)) ∷ done (with_object 0 (without_name (codes "n")))
    ∷ answers (reply.Stat (record { 0 = 1 }) kind.File 3 1 false no_privileges no_privileges) same
    ∷ done (holding 1 [] [] ▸ with_new 1 None ▸ with_object 2 (without_name (codes "k"))) ∷ number 1 (with_made kind.File 0 0 (codes "x") 1) ∷ [])
    (simp labels refl) refl

pub making_without_room_ran : Goes crowded making_without_room
unfolding running
making_without_room_ran = tells crowded making_without_room
    (map refuses (refusal.Exists ∷ refusal.NoInode ∷ refusal.IsDir ∷ refusal.NotFound ∷ refusal.Exists ∷ refusal.CrossFs ∷ refusal.CrossFs ∷ []))
    (simp labels refl) refl

pub asking_without_room_ran : Goes poor asking_without_room
unfolding running
asking_without_room_ran = tells poor asking_without_room
    (number 0 (with_entry 1 0 0 (opened 1 mode.Read))
    ∷ map refuses (refusal.IsDir ∷ refusal.NotFound ∷ refusal.NoOpen ∷ refusal.NoInode ∷ refusal.BadFd ∷ refusal.NoSlot ∷ []))
    (simp labels refl) refl

pub naming_high_ran : Goes attic naming_high
unfolding running
naming_high_ran = tells attic naming_high
    (done (with_object 1 (λ d. with_name (codes "k") 2 (record d { label = three }))) ∷ answers (reply.Lab three) same
    ∷ answers (reply.Lab bottom) same ∷ done (with_new 3 None ▸ with_object 0 (λ d. without_name (codes "e") (record d { label = three })))
    ∷ answers (reply.Lab three) same ∷ refuses refusal.NotFound ∷ number 3 (with_made kind.Dir 0 0 (codes "e") 3) ∷ [])
    (simp labels refl) refl

-- ---- on labels, privileges, ceilings and the log
pub holding_down_ran : Goes levels holding_down
unfolding running
holding_down_ran = tells levels holding_down
    (number 0 (with_entry 2 0 0 (opened 2 mode.Read)) ∷ done (with_process 2 (λ p. record p { frozen = true }))
    ∷ replicate 2 (refuses refusal.ProcFrozen) ++ done same ∷ answers (reply.Lab bottom) same ∷ [])
    (simp labels refl) refl

pub setting_labels_ran : Goes levels setting_labels
unfolding running
setting_labels_ran = tells levels setting_labels
    (replicate 2 (refuses refusal.NotAbove) ++ done same ∷ refuses refusal.FileFrozen ∷ done (raised 1 three) ∷ answers (reply.Lab three) same ∷ [])
    (simp labels refl) refl

pub setting_ceilings_ran : Goes levels setting_ceilings
unfolding running
setting_ceilings_ran = tells levels setting_ceilings
    (map refuses (refusal.BelowLabel ∷ refusal.BelowLabel ∷ refusal.NoCapability ∷ []) ++ done (with_process 1 (λ p. record p { ceiling = three }))
    ∷ refuses refusal.NoCapability ∷ number 4 (with_child 2) ∷ done (with_process 4 (λ p. record p { ceiling = bottom }))
    ∷ refuses refusal.NoCapability ∷ number 5 (with_child 4) ∷ refuses refusal.NoCapability ∷ [])
    (simp labels refl) refl

pub freezing_ran : Goes levels freezing
unfolding running
freezing_ran = tells levels freezing
    (done (with_object 1 (λ x. record x { label = three; frozen = true })) ∷ done same ∷ done same ∷ refuses refusal.FileFrozen
    ∷ answers (reply.Lab three) same ∷ [])
    (simp labels refl) refl

pub acting_without_a_line_ran : Goes no_lines acting_without_a_line
unfolding running
acting_without_a_line_ran = tells no_lines acting_without_a_line
    (done (with_process 1 (λ p. record p { frozen = true }))
    ∷ replicate 7 (refuses refusal.LogFull) ++ refuses refusal.EndOfList ∷ [])
    (simp labels refl) refl

abbrev acting_moves : List Move
acting_moves =
    refuses refusal.NoLicence ∷ done (with_process 1 (λ p. record p { frozen = true }))
    ∷ map refuses (refusal.ProcFrozen ∷ refusal.FileFrozen ∷ [])
    ++ done (with_process 1 (λ p. record p { frozen = false }) ▸ with_line (log_line 5 1 act.ThawSelf 1 three three))
    ∷ done (with_object 1 (λ x. record x { label = three; cap = to_lower; lic = to_thaw }) ▸ with_line (record (log_line 6 1 act.SetPriv 1 bottom three) { cap = to_lower; lic = to_thaw }))
    ∷ answers (reply.Stat (record { 0 = 1 }) kind.File 3 1 false to_lower to_thaw) same
    ∷ done (with_process 2 (λ p. record p { lic = to_read_the_log }) ▸ with_line (record (log_line 8 1 act.Grant 2 bottom bottom) { lic = to_read_the_log }))
    ∷ answers (reply.LogLine (log_line 5 1 act.ThawSelf 1 three three)) (with_line (log_line 9 2 act.ReadLog 0 bottom bottom))
    ∷ done (with_process 1 (λ p. record p { cap = to_lower; own = to_thaw })) ∷ refuses refusal.NoCapability
    ∷ done (floated 1 bottom ▸ with_line (log_line 12 1 act.DownSelf 1 three bottom))
    ∷ done (with_process 1 (λ p. record p { cap = no_privileges; lic = record { 0 = 30 } })) ∷ refuses refusal.NoCapability ∷ []

acting_go : GoesBy officers (calls acting) acting_moves
unfolding running
acting_go = goes officers (calls acting) acting_moves (simp labels refl) refl

pub acting_ran : Goes officers acting
unfolding running
acting_ran = tells_by officers acting acting_moves acting_go

pub acting_logged : log_of officers (calls acting) ≡ acting_log
unfolding running auditing
acting_logged = logs_by officers (calls acting) acting_moves acting_go ∙ simp labels refl

pub finding_what_is_high_ran : Goes heights finding_what_is_high
unfolding running
finding_what_is_high_ran = tells heights finding_what_is_high
    (answers (reply.Lab five) same ∷ number 0 (with_entry 1 0 0 (opened 1 mode.Read)) ∷ done (with_process 1 (λ p. record p { cwd = 2 })) ∷ done same
    ∷ done (with_object 1 (λ x. record x { frozen = true })) ∷ map refuses (refusal.IsDir ∷ refusal.NotDir ∷ refusal.NotDir ∷ [])
    ++ answers (reply.Stat (record { 0 = 1 }) kind.File 0 1 true no_privileges no_privileges) (floated 1 five)
    ∷ refuses_at refusal.EndOfList (floated 2 five)
    ∷ answers (reply.Stat (record { 0 = 2 }) kind.Dir 0 1 false no_privileges no_privileges) (floated 3 five)
    ∷ done (with_process 4 (λ p. record p { label = five })) ∷ refuses refusal.InUse ∷ [])
    (simp labels refl) refl

pub setting_high_ran : Goes low_house setting_high
unfolding running
setting_high_ran = tells low_house setting_high
    (refuses refusal.FsCeiling ∷ done (raised 1 three) ∷ refuses refusal.ProcCeiling ∷ done (floated 1 three) ∷ answers (reply.Lab three) same ∷ [])
    (simp labels refl) refl

pub looking_into_an_empty_pipe_ran : Goes pair looking_into_an_empty_pipe
unfolding running
looking_into_an_empty_pipe_ran = tells pair looking_into_an_empty_pipe
    (pipes ∷ number 2 (with_child 1)
    ∷ number 2 (with_entry 2 2 2 (opened 1 mode.Read)) ∷ bytes [] (floated 2 five ▸ marked 2 five) ∷ number 0 (raised 4 five)
    ∷ refuses_at refusal.Again (floated 1 five) ∷ [])
    (simp labels refl) refl

pub making_names_high_ran : Goes chest making_names_high
unfolding running
making_names_high_ran = tells chest making_names_high
    (number 2 (with_made kind.File 0 1 (codes "x") 2 ▸ raised 1 three) ∷ answers (reply.Lab three) same ∷ answers (reply.Lab bottom) same
    ∷ done (with_object 1 (λ x. record x { frozen = true })) ∷ replicate 2 (refuses refusal.FileFrozen)
    ++ number 3 (with_made kind.File 0 1 (codes "y") 3) ∷ [])
    (simp labels refl) refl

abbrev raising_ceilings_moves : List Move
raising_ceilings_moves =
    done (with_process 2 (λ p. record p { ceiling = three }) ▸ with_line (log_line 1 1 act.Ceiling 2 top three))
    ∷ done (with_process 2 (λ p. record p { ceiling = top }) ▸ with_line (log_line 2 1 act.Ceiling 2 three top)) ∷ number 3 (with_child 1)
    ∷ done (with_process 3 (λ p. record p { ceiling = three }))
    ∷ done (with_process 3 (λ p. record p { ceiling = top }) ▸ with_line (log_line 5 1 act.Ceiling 3 three top))
    ∷ done (with_process 1 (λ p. record p { ceiling = three })) ∷ []

raising_ceilings_go : GoesBy officers (calls raising_ceilings) raising_ceilings_moves
unfolding running
raising_ceilings_go = goes officers (calls raising_ceilings) raising_ceilings_moves (simp labels refl) refl

pub raising_ceilings_ran : Goes officers raising_ceilings
unfolding running
raising_ceilings_ran = tells_by officers raising_ceilings raising_ceilings_moves raising_ceilings_go

pub raising_ceilings_logged : log_of officers (calls raising_ceilings) ≡ raising_ceilings_log
unfolding running auditing
raising_ceilings_logged = logs_by officers (calls raising_ceilings) raising_ceilings_moves raising_ceilings_go ∙ simp labels refl

pub walking_too_high_ran : Goes two_steps walking_too_high
unfolding running
walking_too_high_ran = tells two_steps walking_too_high
    (replicate 2 (refuses refusal.ProcCeiling) ++ refuses_at refusal.NotFound (floated 1 three) ∷ [])
    (simp labels refl) refl

abbrev handing_on_moves : List Move
handing_on_moves =
    number 0 (with_entry 1 0 0 (opened 1 mode.Both)) ∷ refuses refusal.Trusted
    ∷ done (with_process 1 (λ p. record p { cap = to_thaw; own = to_thaw }))
    ∷ number 2 (with_child 1 ▸ with_process 2 (λ p. record p { fds = replicate 32 None }))
    ∷ done (with_object 2 (λ x. record x { frozen = false }) ▸ with_line (log_line 5 2 act.ThawFile 2 bottom bottom))
    ∷ done (with_process 2 (λ p. record p { cap = no_privileges; own = no_privileges })) ∷ refuses refusal.NoCapability
    ∷ done (with_line (log_line 8 1 act.ThawFile 2 bottom bottom)) ∷ []

handing_on_go : GoesBy program (calls handing_on) handing_on_moves
unfolding running
handing_on_go = goes program (calls handing_on) handing_on_moves (simp labels refl) refl

pub handing_on_ran : Goes program handing_on
unfolding running
handing_on_ran = tells_by program handing_on handing_on_moves handing_on_go

pub handing_on_logged : log_of program (calls handing_on) ≡ handing_on_log
unfolding running auditing
handing_on_logged = logs_by program (calls handing_on) handing_on_moves handing_on_go

pub moving_what_is_frozen_ran : Goes stiff_house moving_what_is_frozen
unfolding running
moving_what_is_frozen_ran = tells stiff_house moving_what_is_frozen
    (number 0 (with_entry 1 0 0 (opened 1 mode.Write))
    ∷ map refuses (refusal.FileFrozen ∷ refusal.FileFrozen ∷ refusal.FileFrozen ∷ refusal.FsCeiling ∷ refusal.FsCeiling ∷ refusal.NotFound ∷ refusal.NoCapability ∷ refusal.ProcCeiling ∷ [])
    ++ done (with_process 2 (λ p. record p { frozen = true })) ∷ refuses refusal.ProcFrozen ∷ [])
    (simp labels refl) refl

pub looking_in_vain_ran : Goes towers looking_in_vain
unfolding running
looking_in_vain_ran = tells towers looking_in_vain
    (refuses_at refusal.NotDir (floated 1 five) ∷ refuses_at refusal.IsDir (floated 2 five) ∷ refuses_at refusal.Exists (floated 3 five)
    ∷ refuses_at refusal.NotEmpty (floated 4 five) ∷ refuses_at refusal.CrossFs (floated 5 five) ∷ refuses_at refusal.NotFound (floated 6 five) ∷ [])
    (simp labels refl) refl

pub reading_each_line_ran : Goes officers reading_each_line
unfolding running
reading_each_line_ran = tells officers reading_each_line
    (done (with_object 1 (λ x. record x { label = three; cap = to_lower; lic = to_thaw }) ▸ with_line (record (log_line 1 1 act.SetPriv 1 bottom three) { cap = to_lower; lic = to_thaw }))
    ∷ done (raised 1 three_and_five) ∷ done (floated 1 three_and_five)
    ∷ done (with_process 2 (λ p. record p { ceiling = three }) ▸ with_line (log_line 4 1 act.Ceiling 2 top three))
    ∷ done (with_object 2 (λ x. record x { frozen = false }) ▸ with_line (log_line 5 1 act.ThawFile 2 bottom bottom))
    ∷ answers (reply.Stat (record { 0 = 2 }) kind.File 0 1 false no_privileges no_privileges) same
    ∷ answers (reply.LogLine (record (log_line 1 1 act.SetPriv 1 bottom three) { cap = to_lower; lic = to_thaw })) (with_line (log_line 7 1 act.ReadLog 0 three_and_five three_and_five))
    ∷ answers (reply.LogLine (log_line 4 1 act.Ceiling 2 top three)) (with_line (log_line 8 1 act.ReadLog 1 three_and_five three_and_five))
    ∷ answers (reply.LogLine (log_line 5 1 act.ThawFile 2 bottom bottom)) (with_line (log_line 9 1 act.ReadLog 2 three_and_five three_and_five))
    ∷ refuses refusal.EndOfList ∷ [])
    (simp labels refl) refl

-- ---- on the labels of open entries
abbrev pub seeking_high_moves : List Move
seeking_high_moves =
    number 0 (with_entry 1 0 0 (opened 1 mode.Both)) ∷ bytes (codes "a") (moved 0 1) ∷ number 2 (with_child 1) ∷ done (floated 2 seven)
    ∷ done (marked 0 seven) ∷ done (holding 1 (codes "ab") []) ∷ answers (reply.Lab bottom) same ∷ done (moved 0 0)
    ∷ bytes (codes "ab") (moved 0 2 ▸ floated 1 seven) ∷ []

pub seeking_high_go : GoesBy shared_desk (calls seeking_high) seeking_high_moves
unfolding running
seeking_high_go = goes shared_desk (calls seeking_high) seeking_high_moves (simp labels refl) refl

pub seeking_high_ran : Goes shared_desk seeking_high
unfolding running
seeking_high_ran = tells_by shared_desk seeking_high seeking_high_moves seeking_high_go

abbrev writing_high_moves : List Move
writing_high_moves =
    number 0 (with_entry 1 0 0 (opened 1 mode.Both)) ∷ number 2 (with_child 1) ∷ done (floated 2 seven)
    ∷ number 1 (holding 1 (codes "xbc") [] ▸ moved 0 1 ▸ raised 1 seven ▸ marked 0 seven)
    ∷ done (raised 1 bottom ▸ with_line (log_line 5 1 act.DownFile 1 seven bottom))
    ∷ number 1 (holding 1 (codes "xyc") [] ▸ moved 0 2 ▸ raised 1 seven) ∷ answers (reply.Lab seven) same
    ∷ done (raised 1 bottom ▸ with_line (log_line 8 1 act.DownFile 1 seven bottom)) ∷ bytes (codes "c") (moved 0 3 ▸ floated 1 seven) ∷ []

writing_high_go : GoesBy shared_desk (calls writing_high) writing_high_moves
unfolding running
writing_high_go = goes shared_desk (calls writing_high) writing_high_moves (simp labels refl) refl

pub writing_high_ran : Goes shared_desk writing_high
unfolding running
writing_high_ran = tells_by shared_desk writing_high writing_high_moves writing_high_go

pub writing_high_logged : log_of shared_desk (calls writing_high) ≡ writing_high_log
unfolding running auditing
writing_high_logged = logs_by shared_desk (calls writing_high) writing_high_moves writing_high_go ∙ simp labels refl

pub cutting_high_ran : Goes shared_desk cutting_high
unfolding running
cutting_high_ran = tells shared_desk cutting_high
    (number 0 (with_entry 1 0 0 (opened 1 mode.Both)) ∷ number 2 (with_child 1) ∷ done (floated 2 seven)
    ∷ done (holding 1 (codes "ab") [] ▸ raised 1 seven) ∷ answers (reply.Lab seven) same ∷ number 1 (with_entry 1 1 1 (opened 1 mode.Read))
    ∷ done (raised 1 bottom ▸ with_line (log_line 7 1 act.DownFile 1 seven bottom)) ∷ bytes (codes "ab") (moved 0 2) ∷ bytes (codes "a") (moved 1 1)
    ∷ [])
    (simp labels refl) refl

pub reading_nothing_high_ran : Goes shared_desk reading_nothing_high
unfolding running
reading_nothing_high_ran = tells shared_desk reading_nothing_high
    (number 0 (with_entry 1 0 0 (opened 1 mode.Read)) ∷ number 2 (with_child 1) ∷ done (floated 2 seven) ∷ bytes [] (marked 0 seven)
    ∷ number 1 (with_entry 1 1 1 (opened 1 mode.Read)) ∷ bytes (codes "a") (moved 1 1) ∷ bytes (codes "a") (moved 0 1 ▸ floated 1 seven) ∷ [])
    (simp labels refl) refl

pub draining_high_ran : Goes shared_desk draining_high
unfolding running
draining_high_ran = tells shared_desk draining_high
    (pipes ∷ number 2 (with_child 1)
    ∷ number 2 (holding 4 (codes "xy") []) ∷ done (floated 2 seven) ∷ bytes (codes "x") (holding 4 (codes "y") [])
    ∷ bytes (codes "y") (holding 4 [] []) ∷ [])
    (simp labels refl) refl
