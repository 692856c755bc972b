-- What the worked sessions show, entry by entry.
use Rattle.std.proofs.Common.{◌≡◌, ℕ, true, false, List, [], ◌∷◌, ◌++◌, ◌∙◌, Some, None, replicate, take, drop, refl, sym, ap, codes}
use Rattle.ix_label.specs.Category.{bottom}
use Rattle.ix_model.specs.{world.{Directories.without_name, Privs.{to_lower, to_thaw, to_grant, to_read_the_log, no_privileges}, World.{World, put}}, opening.Opening.opening_world}
use Rattle.ix_worked.specs.{Sessions.{shown, log_of}, Scripts.{three, four, seven, three_and_five, two_and_five, log_line}, processes.SharedOffset.writing_frozen_shows}
use Rattle.ix_worked.specs.floating.{Untouched.{untouched, no_entries, untouched_shows}, Floating.{reading_up, reading, floating_shows, stopped_shows}}
use Rattle.ix_worked.specs.floating.{FileCeiling.{low_files, writing_down, writing_down_shows}, LooksAnew.{reading_twice, reading_twice_shows}}
use Rattle.ix_worked.specs.floating.{FrozenFile.{a_frozen_file, writing_to_it, writing_to_it_shows}, TwoLevels.{two_levels, writing, writing_shows}}
use Rattle.ix_worked.specs.{floating.HighDirectory.{a_high_directory, looking_into_it, looking_into_it_shows}, privileges.Login.{office, asking, asking_shows}}
use Rattle.ix_worked.{specs.privileges.{Downgrading.{one_line, lowering, lowering_shows}, Executing.{programs, executing, executing_shows}}, proofs.Moves.{goes, shows, shows_by, logs_by}}
use Rattle.ix_worked.specs.{privileges.ReadingTheLog.{two_lines, reading_the_log, reading_the_log_shows}, files.FewBlocks.{two_blocks, filling, filling_shows}}
use Rattle.ix_worked.specs.{privileges.TrustedFile.{writing_a_program, writing_a_program_shows}, files.SharedEntry.{one_file, sharing, sharing_shows}}
use Rattle.ix_worked.specs.{files.Trees.{two_file_systems, naming, naming_shows}, processes.Inheriting.{letters, inheriting, inheriting_shows}}
use Rattle.ix_worked.specs.processes.{Waiting.{a_secret, waiting, waiting_shows}, WaitingLow.{waiting_low, waiting_low_shows}}
use Rattle.ix_worked.specs.pipes.{Claims.{claiming, claiming_shows}, Copying.{copying, copying_shows}, FullPipe.{one_process, piping, piping_shows}}
use Rattle.ix_worked.specs.processes.SharedOffset.{one_shared, below_seven, reading_on, reading_on_shows, writing_on, writing_on_shows, writing_frozen}
use Rattle.ix_worked.proofs.{Chains.Gives, Computing.{running, auditing}, Labels.labels, TwoBytes.two_bytes}
use Rattle.ix_worked.proofs.Moves.{Move, GoesBy, given, left_by, each_gives, goes_on, number, bytes, answers, done, refuses, refuses_at, same, back_to, ◌▸◌}
use Rattle.ix_worked.proofs.Worlds.{marked, with_made, with_process, with_object, with_line, floated, raised, opened, with_entry, with_fd, without_entry, moved}
use Rattle.ix_worked.proofs.Worlds.{holding, with_new, with_pipe, claimed_by, with_child, with_ended, without_process}
use Rattle.ix_model.specs.declared.audit.Act.TheVariants as act
use Rattle.ix_model.specs.declared.call.Mode.TheVariants as mode
use Rattle.ix_model.specs.declared.refusal.Refusal.TheVariants as refusal
use Rattle.ix_model.specs.declared.reply.Kind.TheVariants as kind
use Rattle.ix_model.specs.declared.reply.Reply.TheVariants as reply
use Rattle.ix_worked.specs.floating.LooksAnew as anew

-- ---- nothing is called
pub is_untouched : shown untouched no_entries ≡ untouched_shows
unfolding running
is_untouched = refl

-- ---- a reader floats up to its ceiling, and not past it
pub floats_up : shown (reading_up three) reading ≡ floating_shows
unfolding running
floats_up = simp labels refl

pub stops_there : shown (reading_up three_and_five) reading ≡ stopped_shows
unfolding running
stops_there = simp labels refl

-- ---- a file would pass the ceiling of its file system
pub written_down : shown low_files writing_down ≡ writing_down_shows
unfolding running
written_down = shows low_files writing_down
    (number 0 (with_entry 1 0 0 (opened 1 mode.Both)) ∷ refuses refusal.FsCeiling ∷ bytes (codes "old") (moved 0 3 ▸ marked 0 three) ∷ [])
    (simp labels refl) refl

-- ---- a high process writes
pub two_as : shown two_levels (writing (codes "AA")) ≡ writing_shows (codes "AA")
two_as = two_bytes 65 65

pub two_bs : shown two_levels (writing (codes "BB")) ≡ writing_shows (codes "BB")
two_bs = two_bytes 66 66

pub same_low : take 5 (shown two_levels (writing (codes "BB"))).lines ≡ take 5 (shown two_levels (writing (codes "AA"))).lines
same_low = ap (λ s. take 5 s.lines) two_bs ∙ ap (λ s. take 5 s.lines) (sym two_as)

-- ---- a file is raised between two reads
abbrev pub twice_moves : List Move
twice_moves =
    number 0 (with_entry 2 0 0 (opened 1 mode.Write)) ∷ number 0 (with_entry 1 0 1 (opened 1 mode.Read)) ∷ bytes (codes "x") (moved 1 1)
    ∷ number 1 (holding 1 (codes "Zy") [] ▸ raised 1 seven ▸ moved 0 1 ▸ marked 0 seven) ∷ refuses refusal.ProcCeiling ∷ []

pub twice_goes : GoesBy anew.held_low reading_twice twice_moves
unfolding running
twice_goes = goes anew.held_low reading_twice twice_moves (simp labels refl) refl

pub raised_between : shown anew.held_low reading_twice ≡ reading_twice_shows
unfolding running
raised_between = shows_by anew.held_low reading_twice twice_moves twice_goes

-- ---- a frozen file
pub frozen_stays : shown a_frozen_file writing_to_it ≡ writing_to_it_shows
unfolding running
frozen_stays = shows a_frozen_file writing_to_it
    (number 0 (with_entry 1 0 0 (opened 1 mode.Write)) ∷ number 1 (holding 1 (codes "A") [] ▸ moved 0 1 ▸ marked 0 three)
    ∷ number 0 (with_entry 2 0 1 (opened 1 mode.Write)) ∷ refuses refusal.FileFrozen ∷ [])
    (simp labels refl) refl

-- ---- a high directory is looked into
pub looked_into : shown a_high_directory looking_into_it ≡ looking_into_it_shows
unfolding running
looked_into = shows a_high_directory looking_into_it (refuses_at refusal.NotFound (floated 1 seven) ∷ []) (simp labels refl) refl

-- ---- a label is lowered
abbrev pub lowering_moves : List Move
lowering_moves =
    refuses refusal.NoCapability ∷ refuses refusal.NoLicence ∷ done (raised 1 bottom ▸ with_line (log_line 3 3 act.DownFile 1 three bottom))
    ∷ refuses refusal.LogFull ∷ []

pub lowering_goes : GoesBy one_line lowering lowering_moves
unfolding running
lowering_goes = goes one_line lowering lowering_moves (simp labels refl) refl

pub lowered_once : shown one_line lowering ≡ lowering_shows
unfolding running
lowered_once = shows_by one_line lowering lowering_moves lowering_goes

pub logged_once : log_of one_line lowering ≡ lowering_shows.log
unfolding running auditing
logged_once = simp (logs_by one_line lowering lowering_moves lowering_goes, labels) refl

-- ---- the log is read
abbrev reading_log : List Move
reading_log =
    refuses refusal.EndOfList ∷ done (floated 1 bottom ▸ with_line (log_line 2 1 act.DownSelf 1 three bottom))
    ∷ answers (reply.LogLine (log_line 2 1 act.DownSelf 1 three bottom)) (with_line (log_line 3 1 act.ReadLog 0 bottom bottom))
    ∷ refuses refusal.EndOfList ∷ refuses refusal.LogFull ∷ []

log_goes : GoesBy two_lines reading_the_log reading_log
unfolding running
log_goes = goes two_lines reading_the_log reading_log (simp labels refl) refl

pub log_read : shown two_lines reading_the_log ≡ reading_the_log_shows
unfolding running
log_read = shows_by two_lines reading_the_log reading_log log_goes

pub readings_logged : log_of two_lines reading_the_log ≡ reading_the_log_shows.log
unfolding running auditing
readings_logged = simp (logs_by two_lines reading_the_log reading_log log_goes, labels) refl

-- ---- programs bring privileges
abbrev executes : List Move
executes =
    done (with_process 1 (λ p. record p { cap = to_thaw; own = to_thaw }))
    ∷ done (with_object 3 (λ x. record x { frozen = false }) ▸ with_line (log_line 2 1 act.ThawFile 3 bottom bottom))
    ∷ done (with_process 1 (λ p. record p { cap = no_privileges; own = no_privileges })) ∷ refuses refusal.NoCapability ∷ []

execution_goes : GoesBy programs executing executes
unfolding running
execution_goes = goes programs executing executes (simp labels refl) refl

pub executed : shown programs executing ≡ executing_shows
unfolding running
executed = shows_by programs executing executes execution_goes

pub thawing_logged : log_of programs executing ≡ executing_shows.log
unfolding running auditing
thawing_logged = logs_by programs executing executes execution_goes

-- ---- a file carries privileges
pub trusted_stays : shown programs writing_a_program ≡ writing_a_program_shows
unfolding running
trusted_stays = shows programs writing_a_program (number 0 (with_entry 1 0 0 (opened 1 mode.Write)) ∷ refuses refusal.Trusted ∷ []) (simp labels refl) refl

-- ---- blocks run out
pub filled_up : shown two_blocks filling ≡ filling_shows
unfolding running
filled_up = shows two_blocks filling
    (number 0 (with_entry 1 0 0 (opened 1 mode.Both)) ∷ refuses refusal.NoSpace ∷ number 1024 (holding 1 (replicate 1024 65) [] ▸ moved 0 1024)
    ∷ done (holding 1 [] []) ∷ done (moved 0 5) ∷ number 1 (holding 1 (0 ∷ 0 ∷ 0 ∷ 0 ∷ 0 ∷ 66 ∷ []) [] ▸ moved 0 6) ∷ done (moved 0 0)
    ∷ bytes (0 ∷ 0 ∷ 0 ∷ 0 ∷ 0 ∷ 66 ∷ []) (moved 0 6) ∷ [])
    (simp labels refl) refl

-- ---- names come and go
pub named : shown two_file_systems naming ≡ naming_shows
unfolding running
named = shows two_file_systems naming
    (number 2 (with_made kind.Dir 0 0 (codes "d") 2) ∷ number 3 (with_made kind.File 0 2 (codes "n") 3) ∷ refuses refusal.CrossFs
    ∷ refuses refusal.NotEmpty ∷ done (with_new 3 None ▸ with_object 2 (without_name (codes "n"))) ∷ done (back_to two_file_systems)
    ∷ answers (reply.Named (codes "vol") (record { 0 = 8 })) same ∷ number 2 (floated 1 seven ▸ with_made kind.File 0 1 (codes "q") 2)
    ∷ refuses refusal.FsCeiling ∷ [])
    (simp labels refl) refl

-- ---- two descriptors share an open entry
abbrev pub sharing_moves : List Move
sharing_moves =
    number 0 (with_entry 1 0 0 (opened 1 mode.Read)) ∷ number 1 (with_fd 1 1 (Some 0)) ∷ bytes (codes "a") (moved 0 1) ∷ bytes (codes "b") (moved 0 2)
    ∷ done (with_fd 1 0 None) ∷ refuses refusal.TooBig ∷ bytes (codes "c") (moved 0 3) ∷ []

pub sharing_goes : GoesBy one_file sharing sharing_moves
unfolding running
sharing_goes = goes one_file sharing sharing_moves (simp labels refl) refl

pub shared : shown one_file sharing ≡ sharing_shows
unfolding running
shared = shows_by one_file sharing sharing_moves sharing_goes

-- ---- a parent waits for its child
-- the child reads what is secret, and ends
abbrev ends_high : List Move
ends_high =
    number 2 (with_child 1)
    ∷ number 0 (with_entry 2 0 0 (opened 1 mode.Read))
    ∷ bytes (codes "k") (floated 2 four ▸ moved 0 1 ▸ marked 0 four)
    ∷ done (without_entry 0 ▸ with_ended 2 9)
    ∷ []

pub waited_for : shown a_secret waiting ≡ waiting_shows
unfolding running
waited_for = shows a_secret waiting (ends_high ++ answers (reply.Child (record { 0 = 2 }) 9) (floated 1 four ▸ without_process 2) ∷ []) (simp labels refl) refl

-- ---- a parent has to stay below its child
abbrev stays_low : List Move
stays_low = ends_high ++ done (with_process 1 (λ p. record p { ceiling = bottom })) ∷ refuses refusal.ProcCeiling ∷ []

stays : GoesBy a_secret waiting_low stays_low
unfolding running
stays = goes a_secret waiting_low stays_low (simp labels refl) refl

pub held_low : shown a_secret waiting_low ≡ waiting_low_shows
unfolding running
held_low = shows_by a_secret waiting_low stays_low stays

pub lowering_logs_nothing : log_of a_secret waiting_low ≡ waiting_low_shows.log
unfolding running auditing
lowering_logs_nothing = simp (logs_by a_secret waiting_low stays_low stays, labels) refl

-- ---- a child shares an open entry
pub inherited : shown letters inheriting ≡ inheriting_shows
unfolding running
inherited = shows letters inheriting
    (number 0 (with_entry 1 0 0 (opened 1 mode.Read))
    ∷ number 2 (with_child 1)
    ∷ bytes (codes "abcd") (moved 0 4)
    ∷ bytes (codes "efgh") (moved 0 8)
    ∷ done (with_fd 1 0 None)
    ∷ bytes [] same
    ∷ [])
    (simp labels refl) refl

-- ---- a high child reads on through an open entry that it shares
-- the file is open
abbrev opens_it : Move
opens_it = number 0 (with_entry 1 0 0 (opened 1 mode.Both))

-- the child reads what is secret, and then on in the file
abbrev reads_far : List Move
reads_far =
    number 2 (with_child 1)
    ∷ number 1 (with_entry 2 1 1 (opened 2 mode.Read))
    ∷ bytes (codes "zz") (floated 2 seven ▸ moved 1 2 ▸ marked 1 seven)
    ∷ bytes (codes "abcd") (moved 0 4 ▸ marked 0 seven)
    ∷ []

pub read_on : shown one_shared reading_on ≡ reading_on_shows
unfolding running
read_on = shows one_shared reading_on (opens_it ∷ reads_far ++ bytes (codes "e") (moved 0 5 ▸ floated 1 seven) ∷ []) (simp labels refl) refl

pub written_on : shown one_shared writing_on ≡ writing_on_shows
unfolding running
written_on = shows one_shared writing_on (opens_it ∷ reads_far ++ number 1 (holding 1 (codes "abcdxfgh") [] ▸ moved 0 5 ▸ raised 1 seven) ∷ []) (simp labels refl) refl

pub refused_there : shown below_seven writing_frozen ≡ writing_frozen_shows
unfolding running
refused_there = shows below_seven writing_frozen
    (opens_it ∷ done (with_object 1 (λ x. record x { frozen = true })) ∷ reads_far ++ refuses refusal.FileFrozen ∷ [])
    (simp labels refl) refl

-- ---- a pipe fills and breaks
pub piped_through : shown one_process piping ≡ piping_shows
unfolding running
piped_through = shows one_process piping
    (answers (reply.Two (record { 0 = 0 }) (record { 0 = 1 })) (with_pipe 1 256 0 1 0 1) ∷ number 4096 (holding 256 [] (replicate 4096 65))
    ∷ refuses refusal.PipeFull ∷ bytes (replicate 4096 65) (holding 256 [] []) ∷ refuses refusal.Again ∷ done (with_fd 1 0 None ▸ without_entry 0)
    ∷ bytes [] same ∷ refuses refusal.Broken ∷ [])
    (simp labels refl) refl

-- ---- a path is claimed
pub claimed_whole : shown one_process claiming ≡ claiming_shows
unfolding running
claimed_whole = shows one_process claiming
    (answers (reply.Two (record { 0 = 0 }) (record { 0 = 1 })) (with_pipe 1 256 0 1 0 1) ∷ number 2 (with_child 1) ∷ number 3 (with_child 1)
    ∷ answers reply.Half (claimed_by 256 (Some 1) None) ∷ answers (reply.Whole (record { 0 = 1 }) bottom no_privileges) (claimed_by 256 (Some 1) (Some 2))
    ∷ refuses refusal.PexHeld ∷ answers (reply.Whole (record { 0 = 2 }) bottom no_privileges) same
    ∷ done (claimed_by 256 (Some 1) None ▸ with_ended 2 0) ∷ answers reply.Half same ∷ [])
    refl refl

-- ---- bytes are copied
pub copied : shown one_file copying ≡ copying_shows
unfolding running
copied = shows one_file copying
    (number 0 (with_entry 1 0 0 (opened 1 mode.Read)) ∷ answers (reply.Two (record { 0 = 1 }) (record { 0 = 2 })) (with_pipe 1 256 1 2 1 2)
    ∷ bytes (codes "abc") (moved 0 3) ∷ number 3 (holding 256 [] (codes "abc")) ∷ bytes [] same ∷ bytes (codes "abc") (holding 256 [] []) ∷ [])
    (simp labels refl) refl

-- ---- servers act for their users
-- a process drops its capabilities and licences
abbrev bare : ℕ → Move
bare pid = done (with_process pid (λ p. record p { cap = no_privileges; lic = no_privileges }))

-- a child with one descriptor, and its ceiling
abbrev forks_for : ℕ → ℕ → ℕ → Move
forks_for pid fd e = number pid (with_child 1 ▸ with_process pid (λ p. record p { fds = put (replicate 32 None) fd (Some e) }))

abbrev held : ℕ → Move
held pid = done (with_process pid (λ p. record p { ceiling = two_and_five }))

-- the other end of a path belongs to a process
abbrev whole_with : ℕ → Move
whole_with pid = answers (reply.Whole (record { 0 = pid }) bottom no_privileges) same

-- a user asks
abbrev asks : List Move
asks =
    answers (reply.Two (record { 0 = 0 }) (record { 0 = 1 })) (with_pipe 1 256 0 1 0 1)
    ∷ answers (reply.Two (record { 0 = 2 }) (record { 0 = 3 })) (with_pipe 1 257 2 3 2 3) ∷ forks_for 2 1 1 ∷ bare 2
    ∷ answers reply.Half (claimed_by 256 (Some 1) None) ∷ answers (reply.Whole (record { 0 = 1 }) bottom to_grant) (claimed_by 256 (Some 1) (Some 2))
    ∷ number 9 (holding 256 (codes "login ann") []) ∷ whole_with 2 ∷ bytes (codes "login ann") (holding 256 [] []) ∷ []

-- a session for ann, and one for bob
abbrev serves_ann : List Move
serves_ann =
    forks_for 3 3 3 ∷ bare 3 ∷ held 3
    ∷ done (with_process 3 (λ p. record p { lic = to_read_the_log }) ▸ with_line (record (log_line 13 1 act.Grant 3 bottom bottom) { lic = to_read_the_log }))
    ∷ number 9 (holding 256 [] (codes "granted 1")) ∷ done (claimed_by 256 None (Some 2)) ∷ bytes (codes "granted 1") (holding 256 [] []) ∷ []

abbrev serves_bob : List Move
serves_bob =
    answers (reply.Whole (record { 0 = 2 }) bottom no_privileges) (claimed_by 256 (Some 1) (Some 2)) ∷ number 9 (holding 256 (codes "login bob") [])
    ∷ whole_with 2 ∷ bytes (codes "login bob") (holding 256 [] []) ∷ forks_for 4 3 3 ∷ bare 4 ∷ held 4
    ∷ number 9 (holding 256 [] (codes "granted 2")) ∷ done (claimed_by 256 None (Some 2)) ∷ []

-- they work
abbrev work : List Move
work =
    number 5 (with_made kind.File 0 1 (codes "m1") 5) ∷ number 0 (with_entry 3 0 4 (opened 4 mode.Read))
    ∷ bytes (codes "q3") (floated 3 two_and_five ▸ moved 4 2 ▸ marked 4 two_and_five) ∷ refuses refusal.FileFrozen
    ∷ number 6 (with_made kind.File 0 2 (codes "rep") 6) ∷ number 1 (with_entry 3 1 5 (opened 6 mode.Write))
    ∷ number 8 (holding 6 (codes "q3 is up") [] ▸ moved 5 8 ▸ raised 6 two_and_five ▸ marked 5 two_and_five)
    ∷ done (with_process 3 (λ p. record p { cap = to_lower; own = no_privileges })) ∷ refuses refusal.NoLicence ∷ []

-- ann asks for a licence, and lowers her report
abbrev grants : List Move
grants =
    answers reply.Half (claimed_by 257 (Some 1) None) ∷ answers (reply.Whole (record { 0 = 1 }) bottom to_grant) (claimed_by 257 (Some 1) (Some 3))
    ∷ number 6 (holding 257 (codes "want D") [] ▸ raised 257 two_and_five) ∷ answers (reply.Whole (record { 0 = 3 }) two_and_five to_read_the_log) same
    ∷ bytes (codes "want D") (holding 257 [] [] ▸ floated 1 two_and_five)
    ∷ done (with_process 3 (λ p. record p { lic = record { 0 = 17 } }) ▸ with_line (record (log_line 40 1 act.Grant 3 two_and_five two_and_five) { lic = to_lower }))
    ∷ number 9 (holding 257 [] (codes "granted 3")) ∷ done (claimed_by 257 None (Some 3))
    ∷ done (raised 6 bottom ▸ with_line (log_line 43 3 act.DownFile 6 two_and_five bottom)) ∷ []

-- the worlds between
abbrev asked : World
asked = left_by (opening_world office) asks

abbrev ann_there : World
ann_there = left_by asked serves_ann

abbrev both_there : World
both_there = left_by ann_there serves_bob

abbrev worked_on : World
worked_on = left_by both_there work

asking_goes : Gives (opening_world office) 1 (take 9 asking) (given (opening_world office) asks)
unfolding running
asking_goes = each_gives (opening_world office) 1 (take 9 asking) asks (simp labels refl) refl

ann_goes : Gives asked 10 (take 7 (drop 9 asking)) (given asked serves_ann)
unfolding running
ann_goes = each_gives asked 10 (take 7 (drop 9 asking)) serves_ann (simp labels refl) refl

bob_goes : Gives ann_there 17 (take 9 (drop 16 asking)) (given ann_there serves_bob)
unfolding running
bob_goes = each_gives ann_there 17 (take 9 (drop 16 asking)) serves_bob (simp labels refl) refl

work_goes : Gives both_there 26 (take 9 (drop 25 asking)) (given both_there work)
unfolding running
work_goes = each_gives both_there 26 (take 9 (drop 25 asking)) work (simp labels refl) refl

grants_go : Gives worked_on 35 (drop 34 asking) (given worked_on grants)
unfolding running
grants_go = each_gives worked_on 35 (drop 34 asking) grants (simp labels refl) refl

abbrev serves : List Move
serves = asks ++ serves_ann ++ serves_bob ++ work ++ grants

serving_goes : GoesBy office asking serves
serving_goes =
    goes_on (opening_world office) 1 (take 9 asking) (drop 9 asking) asks (serves_ann ++ serves_bob ++ work ++ grants) refl asking_goes
    (goes_on asked 10 (take 7 (drop 9 asking)) (drop 16 asking) serves_ann (serves_bob ++ work ++ grants) refl ann_goes
    (goes_on ann_there 17 (take 9 (drop 16 asking)) (drop 25 asking) serves_bob (work ++ grants) refl bob_goes
    (goes_on both_there 26 (take 9 (drop 25 asking)) (drop 34 asking) work grants refl work_goes grants_go)))

pub logged_in : shown office asking ≡ asking_shows
unfolding running
logged_in = shows_by office asking serves serving_goes

pub grants_logged : log_of office asking ≡ asking_shows.log
unfolding running auditing
grants_logged = simp (logs_by office asking serves serving_goes, labels) refl
