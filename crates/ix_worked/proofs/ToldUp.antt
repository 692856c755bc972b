-- What a high process does comes to one that was low, entry by entry.
use Rattle.std.{proofs.{Common.{◌≡◌, ℕ, suc, Bool, true, false, List, [], ◌∷◌, ◌++◌, ◌&&◌, refl, sym, subst₂, codes}, lemmas.Bool.and_parts}, specs.Option.option_map_or}
use Rattle.ix_label.specs.Category.{Categories, bottom, leq}
use Rattle.ix_model.specs.{world.{World.{World, at, living}, Privs.no_privileges}, opening.Opening.opening_world, history.{Events.Event, Lowering.Crosses}}
use Rattle.ix_model.specs.{two_runs.TwoRuns.{Agree, AgreeAt, IsHigh, is_one_kind}, declared.config.Config.Config}
use Rattle.ix_worked.{specs.{short.OnProcesses.family, PairsOfRuns.{before, after, BothAgree}, Scripts.{seven, log_line}, Sessions.{calls, Goes}}, proofs.Labels.{labels, leq-with_bottom}}
use Rattle.ix_worked.specs.ToldUp.{waiting_for_high, piping_from_high, notebook, sharing_with_high, drawer, looking_at_high, bureau, letting_down}
use Rattle.ix_worked.proofs.{runs.{Agreeing.{agree_on, high_of}, Falling.object_crosses}, Chains.{◌⨾◌, Chained, Gives}, Computing.running}
use Rattle.ix_worked.proofs.Moves.{Move, GoesBy, given, number, bytes, answers, done, ◌▸◌, goes, tells_by, world_after, comes_to}
use Rattle.ix_worked.proofs.Worlds.{with_line, with_pipe, with_entry, opened, floated, raised, marked, moved, holding, with_child, with_ended, without_process}
use Rattle.ix_model.specs.two_runs.TwoRuns as runs
use Rattle.ix_model.specs.declared.audit.Act.TheVariants as act
use Rattle.ix_model.specs.declared.call.Mode.TheVariants as mode
use Rattle.ix_model.specs.declared.reply.Kind.TheVariants as kind
use Rattle.ix_model.specs.declared.reply.Reply.TheVariants as reply

-- ---- two histories side by side
-- the entries of two histories agree, of which the first goes by these moves
abbrev AgreeBy : Categories → World → List Event → List Event → List Move → Type 0
AgreeBy l w [] [] moves = Unit
AgreeBy l w [] (f ∷ others) moves = ⊥
AgreeBy l w (e ∷ events) [] moves = ⊥
AgreeBy l w (e ∷ events) (f ∷ others) [] = ⊥
AgreeBy l w (e ∷ events) (f ∷ others) (m ∷ moves) = Chained (AgreeAt l w.frame e f) (AgreeBy l (m w).world events others moves)

-- the replies by these moves are of one kind
abbrev one_kinds : World → World → List Move → List Move → Bool
one_kinds v w [] ns = true
one_kinds v w (m ∷ ms) [] = true
one_kinds v w (m ∷ ms) (n ∷ ns) = is_one_kind (m v).reply (n w).reply && one_kinds (m v).world (n w).world ms ns

agreed_from : (l : Categories) (v w : World) (place : ℕ) (events others : List Event) (ms ns : List Move) → Gives v place events (given v ms)
    → Gives w place others (given w ns) → AgreeBy l v events others ms → one_kinds v w ms ns ≡ true → Agree l v w place events others
agreed_from l v w place [] [] ms ns g h a k = tt
agreed_from l v w place [] (f ∷ others) ms ns g h a k = absurd a
agreed_from l v w place (e ∷ events) [] ms ns g h a k = absurd a
agreed_from l v w place (e ∷ events) (f ∷ others) [] ns g h a k = absurd g
agreed_from l v w place (e ∷ events) (f ∷ others) (m ∷ ms) [] g h a k = absurd h
agreed_from l v w place (e ∷ events) (f ∷ others) (m ∷ ms) (n ∷ ns) (g ⨾ gs) (h ⨾ hs) (a ⨾ rest) k =
    agree_on l v w place e f (m v) (n w) events others g h a (and_parts _ _ k).0
    (agreed_from l (m v).world (n w).world (suc place) events others ms ns gs hs rest (and_parts _ _ k).1)

agreed : (l : Categories) (c : Config) (events others : List Event) (ms ns : List Move) → GoesBy c events ms → GoesBy c others ns
    → AgreeBy l (opening_world c) events others ms → one_kinds (opening_world c) (opening_world c) ms ns ≡ true → BothAgree l c events others
agreed l c events others ms ns g h a k = agreed_from l _ _ 1 _ _ ms ns g h a k

-- a process above bottom
high_in : (w : World) (pid : ℕ) → option_map_or (λ q. leq q.label bottom) (living (at w.frame.processes pid)) true ≡ false → IsHigh bottom w.frame pid
high_in w pid h = high_of _ _ _ _ refl h

-- a child that rises
abbrev rises : List Move
rises = number 2 (with_child 1) ∷ done (floated 2 seven) ∷ []

-- ---- a status
abbrev status_moves : ℕ → List Move
status_moves status = rises ++ done (with_ended 2 status) ∷ answers (reply.Child (record { 0 = 2 }) status) (floated 1 seven ▸ without_process 2) ∷ []

status_goes : (status : ℕ) → GoesBy family (calls (waiting_for_high status)) (status_moves status)
unfolding running
status_goes status = goes family (calls (waiting_for_high status)) (status_moves status) (simp labels refl) refl

child_is_high : IsHigh bottom (floated 2 seven (with_child 1 (opening_world family))).frame 2
unfolding running
child_is_high = high_in (floated 2 seven (with_child 1 (opening_world family))) 2 (leq-with_bottom bottom 7)

pub waited_for_high : (status : ℕ) → Goes family (waiting_for_high status)
unfolding running
waited_for_high status = tells_by family (waiting_for_high status) (status_moves status) (status_goes status)

pub statuses_agree : (a b : ℕ) → BothAgree bottom family (calls (waiting_for_high a)) (calls (waiting_for_high b))
statuses_agree a b = agreed bottom family (calls (waiting_for_high a)) (calls (waiting_for_high b)) (status_moves a) (status_moves b) (status_goes a) (status_goes b)
    (runs.AgreeAt.Same ⨾ runs.AgreeAt.Same ⨾ runs.AgreeAt.Other child_is_high runs.Replaced.Exited ⨾ runs.AgreeAt.Same ⨾ tt) refl

-- ---- a pipe
abbrev pipe_moves : ℕ → List Move
pipe_moves byte =
    answers (reply.Two (record { 0 = 0 }) (record { 0 = 1 })) (with_pipe 1 4 0 1 0 1)
    ∷ rises ++ number 1 (holding 4 [] (byte ∷ []) ▸ raised 4 seven) ∷ bytes (byte ∷ []) (holding 4 [] [] ▸ floated 1 seven) ∷ []

pipe_goes : (byte : ℕ) → GoesBy family (calls (piping_from_high byte)) (pipe_moves byte)
unfolding running
pipe_goes byte = goes family (calls (piping_from_high byte)) (pipe_moves byte) (simp labels refl) refl

writer_is_high : IsHigh bottom (floated 2 seven (with_child 1 (with_pipe 1 4 0 1 0 1 (opening_world family)))).frame 2
unfolding running
writer_is_high = high_in (floated 2 seven (with_child 1 (with_pipe 1 4 0 1 0 1 (opening_world family)))) 2 (leq-with_bottom bottom 7)

pub piped_from_high : (byte : ℕ) → Goes family (piping_from_high byte)
unfolding running
piped_from_high byte = tells_by family (piping_from_high byte) (pipe_moves byte) (pipe_goes byte)

pub pipes_agree : (a b : ℕ) → BothAgree bottom family (calls (piping_from_high a)) (calls (piping_from_high b))
pipes_agree a b = agreed bottom family (calls (piping_from_high a)) (calls (piping_from_high b)) (pipe_moves a) (pipe_moves b) (pipe_goes a) (pipe_goes b)
    (runs.AgreeAt.Same ⨾ runs.AgreeAt.Same ⨾ runs.AgreeAt.Same ⨾ runs.AgreeAt.Other writer_is_high runs.Replaced.Written ⨾ runs.AgreeAt.Same ⨾ tt) refl

-- ---- a shared offset
-- so many bytes are written, then the file holds these, and this is read next
abbrev note_moves : ℕ → List ℕ → List ℕ → List Move
note_moves n held next =
    number 0 (with_entry 1 0 0 (opened 1 mode.Both)) ∷ rises ++ number n (holding 1 held [] ▸ raised 1 seven ▸ moved 0 n ▸ marked 0 seven)
    ∷ bytes next (moved 0 (suc n) ▸ floated 1 seven) ∷ []

one_goes : GoesBy notebook (calls (sharing_with_high (codes "x") (codes "b"))) (note_moves 1 (codes "xbcde") (codes "b"))
unfolding running
one_goes = goes notebook (calls (sharing_with_high (codes "x") (codes "b"))) (note_moves 1 (codes "xbcde") (codes "b")) (simp labels refl) refl

three_go : GoesBy notebook (calls (sharing_with_high (codes "xyz") (codes "d"))) (note_moves 3 (codes "xyzde") (codes "d"))
unfolding running
three_go = goes notebook (calls (sharing_with_high (codes "xyz") (codes "d"))) (note_moves 3 (codes "xyzde") (codes "d")) (simp labels refl) refl

sharer_is_high : IsHigh bottom (floated 2 seven (with_child 1 (with_entry 1 0 0 (opened 1 mode.Both) (opening_world notebook)))).frame 2
unfolding running
sharer_is_high = high_in (floated 2 seven (with_child 1 (with_entry 1 0 0 (opened 1 mode.Both) (opening_world notebook)))) 2 (leq-with_bottom bottom 7)

pub shared_with_one : Goes notebook (sharing_with_high (codes "x") (codes "b"))
unfolding running
shared_with_one = tells_by notebook (sharing_with_high (codes "x") (codes "b")) (note_moves 1 (codes "xbcde") (codes "b")) one_goes

pub shared_with_three : Goes notebook (sharing_with_high (codes "xyz") (codes "d"))
unfolding running
shared_with_three = tells_by notebook (sharing_with_high (codes "xyz") (codes "d")) (note_moves 3 (codes "xyzde") (codes "d")) three_go

pub offsets_agree : BothAgree bottom notebook (calls (sharing_with_high (codes "x") (codes "b"))) (calls (sharing_with_high (codes "xyz") (codes "d")))
offsets_agree = agreed bottom notebook (calls (sharing_with_high (codes "x") (codes "b"))) (calls (sharing_with_high (codes "xyz") (codes "d")))
    (note_moves 1 (codes "xbcde") (codes "b")) (note_moves 3 (codes "xyzde") (codes "d")) one_goes three_go
    (runs.AgreeAt.Same ⨾ runs.AgreeAt.Same ⨾ runs.AgreeAt.Same ⨾ runs.AgreeAt.Other sharer_is_high runs.Replaced.Written ⨾ runs.AgreeAt.Same ⨾ tt) refl

-- ---- a size
-- so many bytes are written, and then the file holds these
abbrev size_moves : ℕ → List ℕ → List Move
size_moves n held =
    number 0 (with_entry 2 0 0 (opened 1 mode.Write)) ∷ number n (holding 1 held [] ▸ raised 1 seven ▸ moved 0 n ▸ marked 0 seven)
    ∷ answers (reply.Stat (record { 0 = 1 }) kind.File n 1 false no_privileges no_privileges) (floated 1 seven) ∷ []

two_are_looked_at : GoesBy drawer (calls (looking_at_high (codes "AA"))) (size_moves 2 (codes "AA"))
unfolding running
two_are_looked_at = goes drawer (calls (looking_at_high (codes "AA"))) (size_moves 2 (codes "AA")) (simp labels refl) refl

three_are_looked_at : GoesBy drawer (calls (looking_at_high (codes "ABC"))) (size_moves 3 (codes "ABC"))
unfolding running
three_are_looked_at = goes drawer (calls (looking_at_high (codes "ABC"))) (size_moves 3 (codes "ABC")) (simp labels refl) refl

filler_is_high : IsHigh bottom (with_entry 2 0 0 (opened 1 mode.Write) (opening_world drawer)).frame 2
unfolding running
filler_is_high = high_in (with_entry 2 0 0 (opened 1 mode.Write) (opening_world drawer)) 2 (leq-with_bottom bottom 7)

pub looked_at_two : Goes drawer (looking_at_high (codes "AA"))
unfolding running
looked_at_two = tells_by drawer (looking_at_high (codes "AA")) (size_moves 2 (codes "AA")) two_are_looked_at

pub looked_at_three : Goes drawer (looking_at_high (codes "ABC"))
unfolding running
looked_at_three = tells_by drawer (looking_at_high (codes "ABC")) (size_moves 3 (codes "ABC")) three_are_looked_at

pub sizes_agree : BothAgree bottom drawer (calls (looking_at_high (codes "AA"))) (calls (looking_at_high (codes "ABC")))
sizes_agree = agreed bottom drawer (calls (looking_at_high (codes "AA"))) (calls (looking_at_high (codes "ABC"))) (size_moves 2 (codes "AA")) (size_moves 3 (codes "ABC"))
    two_are_looked_at three_are_looked_at (runs.AgreeAt.Same ⨾ runs.AgreeAt.Other filler_is_high runs.Replaced.Written ⨾ runs.AgreeAt.Same ⨾ tt) refl

-- ---- a lowered file, and the log
abbrev down_moves : ℕ → List Move
down_moves byte =
    number 0 (with_entry 1 0 0 (opened 1 mode.Write)) ∷ number 1 (holding 1 (byte ∷ []) [] ▸ moved 0 1 ▸ marked 0 seven)
    ∷ done (raised 1 bottom ▸ with_line (log_line 3 1 act.DownFile 1 seven bottom))
    ∷ answers (reply.LogLine (log_line 3 1 act.DownFile 1 seven bottom)) (with_line (log_line 4 2 act.ReadLog 0 bottom bottom))
    ∷ number 0 (with_entry 2 0 1 (opened 1 mode.Read)) ∷ bytes (byte ∷ []) (moved 1 1) ∷ []

down_goes : (byte : ℕ) → GoesBy bureau (calls (letting_down byte)) (down_moves byte)
unfolding running
down_goes byte = goes bureau (calls (letting_down byte)) (down_moves byte) (simp labels refl) refl

clerk_is_high : IsHigh bottom (with_entry 1 0 0 (opened 1 mode.Write) (opening_world bureau)).frame 1
unfolding running
clerk_is_high = high_in (with_entry 1 0 0 (opened 1 mode.Write) (opening_world bureau)) 1 (leq-with_bottom bottom 7)

pub let_down : (byte : ℕ) → Goes bureau (letting_down byte)
unfolding running
let_down byte = tells_by bureau (letting_down byte) (down_moves byte) (down_goes byte)

pub lowered_files_agree : (a b : ℕ) → BothAgree bottom bureau (calls (letting_down a)) (calls (letting_down b))
lowered_files_agree a b = agreed bottom bureau (calls (letting_down a)) (calls (letting_down b)) (down_moves a) (down_moves b) (down_goes a) (down_goes b)
    (runs.AgreeAt.Same ⨾ runs.AgreeAt.Other clerk_is_high runs.Replaced.Written ⨾ runs.AgreeAt.Same ⨾ runs.AgreeAt.Same ⨾ runs.AgreeAt.Same ⨾ runs.AgreeAt.Same ⨾ tt) refl

crosses_there : (byte : ℕ) → Crosses bottom (world_after bureau (calls (letting_down byte)) (down_moves byte) 2).frame (world_after bureau (calls (letting_down byte)) (down_moves byte) 3).frame
unfolding running
crosses_there byte =
    let v : World = world_after bureau (calls (letting_down byte)) (down_moves byte) 2 in
    let w : World = world_after bureau (calls (letting_down byte)) (down_moves byte) 3 in
    object_crosses bottom v.frame w.frame 1 (at v.frame.objects 1) (at w.frame.objects 1) refl refl (simp labels refl) (simp labels refl)

pub third_crosses_bottom : (byte : ℕ) → Crosses bottom (before bureau (calls (letting_down byte)) 3).frame (after bureau (calls (letting_down byte)) 3).frame
third_crosses_bottom byte =
    subst₂ (λ (v w : World). Crosses bottom v.frame w.frame) (sym (comes_to bureau (calls (letting_down byte)) (down_moves byte) 2 (down_goes byte)))
    (sym (comes_to bureau (calls (letting_down byte)) (down_moves byte) 3 (down_goes byte))) (crosses_there byte)
