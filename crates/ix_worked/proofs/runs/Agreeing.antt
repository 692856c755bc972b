-- Which histories agree, and which don't.
use Rattle.std.{proofs.Common.{◌≡◌, ◌⊎◌, inl, inr, ℕ, suc, ◌==◌, Bool, true, false, true≢false, List, [], ◌∷◌, length, replicate, slice_index_or, Option, Some}, specs.Option.option_map_or}
use Rattle.std.proofs.Common.{None, refl, sym, ap, ◌∙◌, subst, codes}
use Rattle.ix_label.specs.Category.{Categories, bottom, leq}
use Rattle.ix_model.specs.{world.World.{Process, Frame, World, at, living}, opening.Opening.opening_world, history.{Step.{Given, step_of}, Events.{Op, Event}}}
use Rattle.ix_model.specs.two_runs.{EqualLengths.{AgreeInLength, AgreeInLengthAt}, TwoRuns.{Agree, AgreeAt, IsHigh, IsLow, is_one_kind}}
use Rattle.ix_worked.specs.{short.{OnDescriptors.desk, OnProcesses.family}, Scripts.{seven, in_root, by}, floating.TwoLevels.{two_levels, writing}}
use Rattle.ix_worked.specs.PairsOfRuns.{BothAgree, BothAgreeInLength, is_read, LowRead, LowReadAlone, writing_low, leaving_high}
use Rattle.ix_worked.proofs.{Chains.{Steps, number, bytes, refused, done, stepped}, Computing.running, Labels.{labels, leq-with_bottom}}
use Rattle.ix_worked.proofs.Worlds.{floated, opened, with_entry, with_child, with_ended}
use Rattle.ix_model.specs.history.Events as op
use Rattle.ix_model.specs.two_runs.EqualLengths as equal
use Rattle.ix_model.specs.two_runs.TwoRuns as runs
use Rattle.ix_model.specs.declared.call.Keep.TheVariants as keep
use Rattle.ix_model.specs.declared.call.Mode.TheVariants as mode
use Rattle.ix_model.specs.declared.refusal.Refusal.TheVariants as refusal
use Rattle.ix_worked.proofs.TwoBytes as two

-- ---- who is high, and who is low
pub high_of : (l : Categories) (f : Frame) (pid : ℕ) (o : Option Process) → living (at f.processes pid) ≡ o → option_map_or (λ q. leq q.label l) o true ≡ false → IsHigh l f pid
high_of l f pid None is h = absurd (true≢false h)
high_of l f pid (Some q) is h = search

low_of : (l : Categories) (f : Frame) (pid : ℕ) (o : Option Process) → living (at f.processes pid) ≡ o → option_map_or (λ q. leq q.label l) o false ≡ true → IsLow l f pid
low_of l f pid None is h = absurd (true≢false (sym h))
low_of l f pid (Some q) is h = search

not_high : (l : Categories) (f : Frame) (pid : ℕ) → option_map_or (λ q. leq q.label l) (living (at f.processes pid)) true ≡ true → IsHigh l f pid → ⊥
not_high l f pid h high = true≢false (sym h ∙ ap (λ o. option_map_or (λ q. leq q.label l) o true) high.lives ∙ high.high)

not_low : (l : Categories) (f : Frame) (pid : ℕ) → option_map_or (λ q. leq q.label l) (living (at f.processes pid)) false ≡ false → IsLow l f pid → ⊥
not_low l f pid h low = true≢false (sym low.low ∙ ap (λ o. option_map_or (λ q. leq q.label l) o false) (sym low.lives) ∙ h)

-- ---- one place after another
pub agree_on : (l : Categories) (v w : World) (place : ℕ) (e f : Event) (g h : Given) (events others : List Event) → Steps v place e.pid e.op g
    → Steps w place f.pid f.op h → AgreeAt l v.frame e f → is_one_kind g.reply h.reply ≡ true → Agree l g.world h.world (suc place) events others
    → Agree l v w place (e ∷ events) (f ∷ others)
agree_on l v w place e f g h events others first second here kind rest =
    subst (λ x. AgreeAt l v.frame e f × is_one_kind x.reply (step_of w place f).reply ≡ true
    × Agree l x.world (step_of w place f).world (suc place) events others) (sym (stepped v _ _ _ g first))
    (subst (λ y. AgreeAt l v.frame e f × is_one_kind g.reply y.reply ≡ true × Agree l g.world y.world (suc place) events others)
    (sym (stepped w _ _ _ h second)) (here, kind, rest))

agree_past : (l : Categories) (v w : World) (place : ℕ) (e f : Event) (g h : Given) (events others : List Event) → Steps v place e.pid e.op g
    → Steps w place f.pid f.op h → Agree l v w place (e ∷ events) (f ∷ others) → is_one_kind g.reply h.reply ≡ true
    × Agree l g.world h.world (suc place) events others
agree_past l v w place e f g h events others first second agree =
    subst (λ y. is_one_kind g.reply y.reply ≡ true × Agree l g.world y.world (suc place) events others) (stepped w _ _ _ h second)
    (subst (λ x. is_one_kind x.reply (step_of w place f).reply ≡ true × Agree l x.world (step_of w place f).world (suc place) events others)
    (stepped v _ _ _ g first) (agree.1, agree.2))

equal_on : (l : Categories) (w : World) (place : ℕ) (e f : Event) (g : Given) (events others : List Event) → Steps w place e.pid e.op g
    → AgreeInLengthAt l w.frame e f → AgreeInLength l g.world (suc place) events others → AgreeInLength l w place (e ∷ events) (f ∷ others)
equal_on l w place e f g events others link here rest =
    subst (λ x. AgreeInLengthAt l w.frame e f × AgreeInLength l x.world (suc place) events others) (sym (stepped w _ _ _ g link)) (here, rest)

equal_past : (l : Categories) (w : World) (place : ℕ) (e f : Event) (g : Given) (events others : List Event) → Steps w place e.pid e.op g
    → AgreeInLength l w place (e ∷ events) (f ∷ others) → AgreeInLength l g.world (suc place) events others
equal_past l w place e f g events others link agree = subst (λ x. AgreeInLength l x.world (suc place) events others) (stepped w _ _ _ g link) agree.1

-- ---- where entries agree they are equal, or the caller is high
agrees_as : {l : Categories} {f : Frame} {e g : Event} → AgreeAt l f e g → (e ≡ g) ⊎ IsHigh l f e.pid
agrees_as runs.AgreeAt.Same = inl refl
agrees_as (runs.AgreeAt.Other high replaced) = inr high

agrees_in_length_as : {l : Categories} {f : Frame} {e g : Event} → AgreeInLengthAt l f e g → (e ≡ g) ⊎ IsHigh l f e.pid
agrees_in_length_as equal.AgreeInLengthAt.Same = inl refl
agrees_in_length_as (equal.AgreeInLengthAt.Other high replaced) = inr high

-- what an entry writes
written_by : Op → List ℕ
written_by (op.WriteFd fd new) = new
written_by o = []

abbrev begins : Event → ℕ → Bool
begins e byte = slice_index_or (written_by e.op) 0 0 == byte

-- where the lengths are equal, so are those of what is written
equal_lengths : {l : Categories} {f : Frame} {e g : Event} → AgreeInLengthAt l f e g → length (written_by e.op) ≡ length (written_by g.op)
unfolding written_by
equal_lengths equal.AgreeInLengthAt.Same = refl
equal_lengths (equal.AgreeInLengthAt.Other high (equal.ReplacedInLength.Written same)) = same
equal_lengths (equal.AgreeInLengthAt.Other high equal.ReplacedInLength.Exited) = refl

differ : (l : Categories) (f : Frame) (e g : Event) (byte : ℕ) → begins e byte ≡ true → begins g byte ≡ false → (IsHigh l f e.pid → ⊥) → (e ≡ g) ⊎ IsHigh l f e.pid → ⊥
differ l f e g byte is isnt low (inl same) = true≢false (sym is ∙ ap (λ x. begins x byte) same ∙ isnt)
differ l f e g byte is isnt low (inr high) = low high

-- ---- other bytes by a high process
writer_is_high : IsHigh bottom two.all_open.frame 2
unfolding two.all_open
writer_is_high = high_of _ _ 2 _ refl (leq-with_bottom _ 7)

writer_is_low_at_seven : IsHigh seven two.all_open.frame 2 → ⊥
unfolding two.all_open
writer_is_low_at_seven = not_high _ _ 2 (simp labels refl)

-- three bytes
unfoldable pub written_three : World
written_three = two.world bottom (1 ∷ 2 ∷ []) (0 ∷ []) seven (codes "ABC") (two.writes_d seven 3 ∷ two.on_d bottom 0 ∷ two.on_e 0 ∷ [])

three_read_low : World
three_read_low = two.world bottom (1 ∷ 2 ∷ []) (0 ∷ []) seven (codes "ABC") (two.writes_d seven 3 ∷ two.on_d bottom 0 ∷ two.on_e 2 ∷ [])

three_read_high : World
three_read_high = two.world seven (1 ∷ 2 ∷ []) (0 ∷ []) seven (codes "ABC") (two.writes_d seven 3 ∷ two.on_d seven 2 ∷ two.on_e 2 ∷ [])

pub writes_three : Steps two.all_open 4 2 (op.WriteFd 0 (codes "ABC")) (number written_three 3)
unfolding running two.all_open written_three
writes_three = (simp labels refl, refl)

three_reads_e : Steps written_three 5 1 (op.ReadFd 1 2) (bytes three_read_low (codes "ok"))
unfolding running written_three three_read_low
three_reads_e = (simp labels refl, refl)

three_reads_d : Steps three_read_low 6 1 (op.ReadFd 0 2) (bytes three_read_high (codes "AB"))
unfolding running three_read_low three_read_high
three_reads_d = (simp labels refl, refl)

-- too many
writes_too_many : Steps two.all_open 4 2 (op.WriteFd 0 (replicate 4097 65)) (refused two.all_open refusal.TooBig)
unfolding running two.all_open
writes_too_many = (refl, refl)

-- the first three entries are equal
agree_before : (l : Categories) (new other : List ℕ) → Agree l two.all_open two.all_open 4 (two.past_3 new) (two.past_3 other) → Agree l two.at_first two.at_first 1 (writing new) (writing other)
agree_before l new other h =
    agree_on l two.at_first two.at_first 1 two.opening_d_high two.opening_d_high (number two.one_open 0) (number two.one_open 0) (two.past_1 new)
    (two.past_1 other) two.opens_d_high two.opens_d_high runs.AgreeAt.Same refl
    (agree_on l two.one_open two.one_open 2 two.opening_d_low two.opening_d_low (number two.two_open 0) (number two.two_open 0) (two.past_2 new)
    (two.past_2 other) two.opens_d_low two.opens_d_low runs.AgreeAt.Same refl
    (agree_on l two.two_open two.two_open 3 two.opening_e_low two.opening_e_low (number two.all_open 1) (number two.all_open 1) (two.past_3 new)
    (two.past_3 other) two.opens_e_low two.opens_e_low runs.AgreeAt.Same refl h))

agree_after : (l : Categories) (new other : List ℕ) → BothAgree l two_levels (writing new) (writing other) → Agree l two.all_open two.all_open 4 (two.past_3 new) (two.past_3 other)
agree_after l new other h =
    let a : Agree l two.at_first two.at_first 1 (writing new) (writing other) = subst (λ w. Agree l w w 1 (writing new) (writing other)) two.opening h in
    let b : is_one_kind (number two.one_open 0).reply (number two.one_open 0).reply ≡ true × Agree l two.one_open two.one_open 2 (two.past_1 new) (two.past_1 other) =
    agree_past l two.at_first two.at_first 1 two.opening_d_high two.opening_d_high (number two.one_open 0) (number two.one_open 0) (two.past_1 new)
    (two.past_1 other) two.opens_d_high two.opens_d_high a in
    let c : is_one_kind (number two.two_open 0).reply (number two.two_open 0).reply ≡ true × Agree l two.two_open two.two_open 3 (two.past_2 new) (two.past_2 other) =
    agree_past l two.one_open two.one_open 2 two.opening_d_low two.opening_d_low (number two.two_open 0) (number two.two_open 0) (two.past_2 new)
    (two.past_2 other) two.opens_d_low two.opens_d_low b.1 in
    (agree_past l two.two_open two.two_open 3 two.opening_e_low two.opening_e_low (number two.all_open 1) (number two.all_open 1) (two.past_3 new)
    (two.past_3 other) two.opens_e_low two.opens_e_low c.1).1

equal_after : (l : Categories) (new other : List ℕ) → BothAgreeInLength l two_levels (writing new) (writing other) → AgreeInLength l two.all_open 4 (two.past_3 new) (two.past_3 other)
equal_after l new other h =
    equal_past l two.two_open 3 two.opening_e_low two.opening_e_low (number two.all_open 1) (two.past_3 new) (two.past_3 other) two.opens_e_low
    (equal_past l two.one_open 2 two.opening_d_low two.opening_d_low (number two.two_open 0) (two.past_2 new) (two.past_2 other) two.opens_d_low
    (equal_past l two.at_first 1 two.opening_d_high two.opening_d_high (number two.one_open 0) (two.past_1 new) (two.past_1 other) two.opens_d_high
    (subst (λ w. AgreeInLength l w 1 (writing new) (writing other)) two.opening h)))

pub other_bytes_agree : BothAgree bottom two_levels (writing (codes "AA")) (writing (codes "BB"))
other_bytes_agree = subst (λ w. Agree bottom w w 1 (writing (codes "AA")) (writing (codes "BB"))) (sym two.opening)
    (agree_before bottom (codes "AA") (codes "BB")
    (agree_on bottom two.all_open two.all_open 4 (two.writes (codes "AA")) (two.writes (codes "BB")) (number (two.written 65 65) 2)
    (number (two.written 66 66) 2) two.past_4 two.past_4 (two.writes_d_high 65 65) (two.writes_d_high 66 66)
    (runs.AgreeAt.Other writer_is_high runs.Replaced.Written) refl
    (agree_on bottom (two.written 65 65) (two.written 66 66) 5 two.reading_e_low two.reading_e_low (bytes (two.read_low 65 65) (codes "ok"))
    (bytes (two.read_low 66 66) (codes "ok")) two.past_5 two.past_5 (two.reads_e_low 65 65) (two.reads_e_low 66 66) runs.AgreeAt.Same refl
    (agree_on bottom (two.read_low 65 65) (two.read_low 66 66) 6 two.reading_d_low two.reading_d_low (bytes (two.read_high 65 65) (codes "AA"))
    (bytes (two.read_high 66 66) (codes "BB")) [] [] (two.reads_d_low 65 65) (two.reads_d_low 66 66) runs.AgreeAt.Same refl tt))))

pub other_bytes_agree_in_length : BothAgreeInLength bottom two_levels (writing (codes "AA")) (writing (codes "BB"))
other_bytes_agree_in_length = subst (λ w. AgreeInLength bottom w 1 (writing (codes "AA")) (writing (codes "BB"))) (sym two.opening)
    (equal_on bottom two.at_first 1 two.opening_d_high two.opening_d_high (number two.one_open 0) (two.past_1 (codes "AA")) (two.past_1 (codes "BB")) two.opens_d_high equal.AgreeInLengthAt.Same
    (equal_on bottom two.one_open 2 two.opening_d_low two.opening_d_low (number two.two_open 0) (two.past_2 (codes "AA")) (two.past_2 (codes "BB")) two.opens_d_low equal.AgreeInLengthAt.Same
    (equal_on bottom two.two_open 3 two.opening_e_low two.opening_e_low (number two.all_open 1) (two.past_3 (codes "AA")) (two.past_3 (codes "BB")) two.opens_e_low equal.AgreeInLengthAt.Same
    (equal_on bottom two.all_open 4 (two.writes (codes "AA")) (two.writes (codes "BB")) (number (two.written 65 65) 2) two.past_4 two.past_4
    (two.writes_d_high 65 65) (equal.AgreeInLengthAt.Other writer_is_high (equal.ReplacedInLength.Written refl))
    (equal_on bottom (two.written 65 65) 5 two.reading_e_low two.reading_e_low (bytes (two.read_low 65 65) (codes "ok")) two.past_5 two.past_5 (two.reads_e_low 65 65) equal.AgreeInLengthAt.Same
    (equal_on bottom (two.read_low 65 65) 6 two.reading_d_low two.reading_d_low (bytes (two.read_high 65 65) (codes "AA")) [] [] (two.reads_d_low 65 65) equal.AgreeInLengthAt.Same tt))))))

pub more_bytes_agree : BothAgree bottom two_levels (writing (codes "AA")) (writing (codes "ABC"))
more_bytes_agree = subst (λ w. Agree bottom w w 1 (writing (codes "AA")) (writing (codes "ABC"))) (sym two.opening)
    (agree_before bottom (codes "AA") (codes "ABC")
    (agree_on bottom two.all_open two.all_open 4 (two.writes (codes "AA")) (two.writes (codes "ABC")) (number (two.written 65 65) 2) (number written_three 3)
    two.past_4 two.past_4 (two.writes_d_high 65 65) writes_three (runs.AgreeAt.Other writer_is_high runs.Replaced.Written) refl
    (agree_on bottom (two.written 65 65) written_three 5 two.reading_e_low two.reading_e_low (bytes (two.read_low 65 65) (codes "ok"))
    (bytes three_read_low (codes "ok")) two.past_5 two.past_5 (two.reads_e_low 65 65) three_reads_e runs.AgreeAt.Same refl
    (agree_on bottom (two.read_low 65 65) three_read_low 6 two.reading_d_low two.reading_d_low (bytes (two.read_high 65 65) (codes "AA"))
    (bytes three_read_high (codes "AB")) [] [] (two.reads_d_low 65 65) three_reads_d runs.AgreeAt.Same refl tt))))

pub more_bytes_do_not_in_length : BothAgreeInLength bottom two_levels (writing (codes "AA")) (writing (codes "ABC")) → ⊥
unfolding written_by
more_bytes_do_not_in_length h =
    let now = (equal_after _ _ _ h).0 in
    true≢false (ap (λ n. n == 2) (equal_lengths now))

pub too_many_do_not : BothAgree bottom two_levels (writing (codes "AA")) (writing (replicate 4097 65)) → ⊥
too_many_do_not h =
    let past : is_one_kind (number (two.written 65 65) 2).reply (refused two.all_open refusal.TooBig).reply ≡ true × Agree bottom (two.written 65 65) two.all_open 5 (two.past_4) (two.past_4) =
    agree_past bottom two.all_open two.all_open 4 (two.writes (codes "AA")) (two.writes (replicate 4097 65)) (number (two.written 65 65) 2)
    (refused two.all_open refusal.TooBig) two.past_4 two.past_4 (two.writes_d_high 65 65) writes_too_many
    (agree_after bottom (codes "AA") (replicate 4097 65) h) in
    true≢false (sym past.0)

-- ---- at its own label the writer is low
pub own_bytes_do_not : BothAgree seven two_levels (writing (codes "AA")) (writing (codes "BB")) → ⊥
unfolding written_by
own_bytes_do_not h =
    differ _ _ _ _ 65 refl refl writer_is_low_at_seven (agrees_as ((agree_after _ _ _ h).0))

pub own_bytes_do_not_in_length : BothAgreeInLength seven two_levels (writing (codes "AA")) (writing (codes "BB")) → ⊥
unfolding written_by
own_bytes_do_not_in_length h =
    differ _ _ _ _ 65 refl refl writer_is_low_at_seven (agrees_in_length_as ((equal_after _ _ _ h).0))

-- ---- a low process
desk_opens : World
desk_opens = with_entry 1 0 0 (opened 1 mode.Write) (opening_world desk)

abbrev opening_n : Event
opening_n = by 1 (op.OpenAt (in_root (codes "n")) mode.Write)

abbrev writes_n : List ℕ → Event
writes_n new = by 1 (op.WriteFd 0 new)

opens_desk : Steps (opening_world desk) 1 1 (op.OpenAt (in_root (codes "n")) mode.Write) (number desk_opens 0)
unfolding running desk_opens
opens_desk = (simp labels refl, refl)

one_is_low : IsHigh bottom desk_opens.frame 1 → ⊥
unfolding running desk_opens
one_is_low = not_high _ _ 1 (simp labels refl)

pub low_bytes_do_not : BothAgree bottom desk (writing_low (codes "x")) (writing_low (codes "y")) → ⊥
unfolding written_by
low_bytes_do_not h =
    let past : is_one_kind (number desk_opens 0).reply (number desk_opens 0).reply ≡ true × Agree bottom desk_opens desk_opens 2 (writes_n (codes "x") ∷ []) (writes_n (codes "y") ∷ []) =
    agree_past bottom (opening_world desk) (opening_world desk) 1 opening_n opening_n (number desk_opens 0) (number desk_opens 0) (writes_n (codes "x")
    ∷ []) (writes_n (codes "y") ∷ []) opens_desk opens_desk h in
    differ bottom desk_opens.frame (writes_n (codes "x")) (writes_n (codes "y")) 120 refl refl one_is_low (agrees_as past.1.0)

pub low_bytes_do_not_in_length : BothAgreeInLength bottom desk (writing_low (codes "x")) (writing_low (codes "y")) → ⊥
unfolding written_by
low_bytes_do_not_in_length h =
    let past : AgreeInLength bottom desk_opens 2 (writes_n (codes "x") ∷ []) (writes_n (codes "y") ∷ []) =
    equal_past bottom (opening_world desk) 1 opening_n opening_n (number desk_opens 0) (writes_n (codes "x") ∷ []) (writes_n (codes "y") ∷ []) opens_desk h in
    differ bottom desk_opens.frame (writes_n (codes "x")) (writes_n (codes "y")) 120 refl refl one_is_low (agrees_in_length_as past.0)

-- ---- another status
alone : World
alone = opening_world family

with_two : World
with_two = with_child 1 alone

two_high : World
two_high = floated 2 seven with_two

forks : Steps alone 1 1 (op.Fork keep.Nothing) (number with_two 2)
unfolding running alone with_two
forks = (refl, refl)

rises : Steps with_two 2 2 (op.SetSelf seven) (done two_high)
unfolding running alone with_two two_high
rises = (simp labels refl, refl)

ends : (status : ℕ) → Steps two_high 3 2 (op.Exit status) (done (with_ended 2 status two_high))
unfolding running alone with_two two_high
ends status = (refl, refl)

two_is_high : IsHigh bottom two_high.frame 2
unfolding running alone with_two two_high
two_is_high = high_of bottom two_high.frame 2 (living (at two_high.frame.processes 2)) refl (leq-with_bottom bottom 7)

pub statuses_agree : BothAgree bottom family (leaving_high 3) (leaving_high 4)
unfolding alone
statuses_agree =
    agree_on bottom alone alone 1 (by 1 (op.Fork keep.Nothing)) (by 1 (op.Fork keep.Nothing)) (number with_two 2) (number with_two 2) (by 2 (op.SetSelf seven)
    ∷ by 2 (op.Exit 3) ∷ []) (by 2 (op.SetSelf seven) ∷ by 2 (op.Exit 4) ∷ []) forks forks runs.AgreeAt.Same refl
    (agree_on bottom with_two with_two 2 (by 2 (op.SetSelf seven)) (by 2 (op.SetSelf seven)) (done two_high) (done two_high) (by 2 (op.Exit 3)
    ∷ []) (by 2 (op.Exit 4) ∷ []) rises rises runs.AgreeAt.Same refl
    (agree_on bottom two_high two_high 3 (by 2 (op.Exit 3)) (by 2 (op.Exit 4)) (done (with_ended 2 3 two_high)) (done (with_ended 2 4 two_high)) [] [] (ends 3)
    (ends 4) (runs.AgreeAt.Other two_is_high runs.Replaced.Exited) refl tt))

pub statuses_agree_in_length : BothAgreeInLength bottom family (leaving_high 3) (leaving_high 4)
unfolding alone
statuses_agree_in_length =
    equal_on bottom alone 1 (by 1 (op.Fork keep.Nothing)) (by 1 (op.Fork keep.Nothing)) (number with_two 2) (by 2 (op.SetSelf seven) ∷ by 2 (op.Exit 3)
    ∷ []) (by 2 (op.SetSelf seven) ∷ by 2 (op.Exit 4) ∷ []) forks equal.AgreeInLengthAt.Same
    (equal_on bottom with_two 2 (by 2 (op.SetSelf seven)) (by 2 (op.SetSelf seven)) (done two_high) (by 2 (op.Exit 3) ∷ []) (by 2 (op.Exit 4) ∷ []) rises equal.AgreeInLengthAt.Same
    (equal_on bottom two_high 3 (by 2 (op.Exit 3)) (by 2 (op.Exit 4)) (done (with_ended 2 3 two_high)) [] [] (ends 3) (equal.AgreeInLengthAt.Other two_is_high equal.ReplacedInLength.Exited) tt))

-- ---- low reads
abbrev LowReadOf : Bool → Categories → Given → Event → Type 0
LowReadOf true l g e = (is_read e.op ≡ true) × IsLow l g.world.frame e.pid
LowReadOf false l g e = (is_read e.op ≡ true) → IsLow l g.world.frame e.pid → ⊥

as_low_read : (b : Bool) (l : Categories) (w : World) (place : ℕ) (e : Event) → LowReadOf b l (step_of w place e) e → LowRead b l w place e
as_low_read true l w place e h = h
as_low_read false l w place e h = h

low_read_on : (l : Categories) (chosen : ℕ) (w : World) (place : ℕ) (e : Event) (g : Given) (events : List Event) → Steps w place e.pid e.op g
    → LowReadOf (place == chosen) l g e → LowReadAlone l chosen g.world (suc place) events → LowReadAlone l chosen w place (e ∷ events)
low_read_on l chosen w place e g events link here rest =
    let s : g ≡ step_of w place e = sym (stepped w place e.pid e.op g link) in
    (as_low_read (place == chosen) l w place e (subst (λ x. LowReadOf (place == chosen) l x e) s here), subst (λ (x : Given). LowReadAlone l chosen x.world (suc place) events) s rest)

reader_is_low : IsLow bottom (two.read_low 65 65).frame 1
unfolding two.read_low
reader_is_low = low_of bottom (two.read_low 65 65).frame 1 (living (at (two.read_low 65 65).frame.processes 1)) refl (simp labels refl)

reader_is_high : IsLow bottom (two.read_high 65 65).frame 1 → ⊥
unfolding two.read_high
reader_is_high = not_low bottom (two.read_high 65 65).frame 1 (leq-with_bottom bottom 7)

no_read : {A : Type 0} → false ≡ true → A → ⊥
no_read h a = true≢false (sym h)

pub reads_low_once : LowReadAlone bottom 5 (opening_world two_levels) 1 (writing (codes "AA"))
reads_low_once = subst (λ w. LowReadAlone bottom 5 w 1 (writing (codes "AA"))) (sym two.opening)
    (low_read_on bottom 5 two.at_first 1 two.opening_d_high (number two.one_open 0) (two.past_1 (codes "AA")) two.opens_d_high no_read
    (low_read_on bottom 5 two.one_open 2 two.opening_d_low (number two.two_open 0) (two.past_2 (codes "AA")) two.opens_d_low no_read
    (low_read_on bottom 5 two.two_open 3 two.opening_e_low (number two.all_open 1) (two.past_3 (codes "AA")) two.opens_e_low no_read
    (low_read_on bottom 5 two.all_open 4 (two.writes (codes "AA")) (number (two.written 65 65) 2) two.past_4 (two.writes_d_high 65 65) no_read
    (low_read_on bottom 5 (two.written 65 65) 5 two.reading_e_low (bytes (two.read_low 65 65) (codes "ok")) two.past_5 (two.reads_e_low 65 65) (refl, reader_is_low)
    (low_read_on bottom 5 (two.read_low 65 65) 6 two.reading_d_low (bytes (two.read_high 65 65) (codes "AA")) [] (two.reads_d_low 65 65) (λ is. reader_is_high) tt))))))
