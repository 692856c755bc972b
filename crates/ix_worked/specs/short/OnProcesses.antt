-- Short histories of the calls on processes.
use Rattle.std.specs.Prelude.{List, [], ◌∷◌, codes}
use Rattle.ix_label.specs.Category.{bottom, top}
use Rattle.ix_model.specs.history.Events.{Event}
use Rattle.ix_model.specs.history.Events as op
use Rattle.ix_model.specs.world.Privs.{to_lower}
use Rattle.ix_model.specs.declared.call.Keep.TheVariants as keep
use Rattle.ix_model.specs.declared.config.Config.{Config}
use Rattle.ix_model.specs.declared.refusal.Refusal.TheVariants as refusal
use Rattle.ix_model.specs.declared.reply.Reply.TheVariants as reply
use Rattle.ix_worked.specs.Scripts.{three, three_and_five, in_root, here, proc, dir, gives, ends, by, refuses, unknown, small}
use Rattle.ix_worked.specs.Sessions.{Line}

-- proc a - * - -
abbrev pub family : Config
family = small (proc bottom top ∷ []) []

-- pid 0 never lives, and pid 1 no more once it has ended
abbrev pub calling_as_nobody : List (Event × Line)
calling_as_nobody =
    (by 0 op.SelfLabel, unknown)
    ∷ (by 7 op.SelfLabel, unknown)
    ∷ (by 1 (op.GrantLic 0 to_lower), refuses refusal.NoProcess bottom)
    ∷ (by 1 (op.SetCeiling 7 top), refuses refusal.NoProcess bottom)
    ∷ (by 1 (op.Exit 0), ends)
    ∷ (by 1 op.SelfLabel, unknown)
    ∷ []

-- before the wait and after it
abbrev pub calling_after_the_end : List (Event × Line)
calling_after_the_end =
    (by 1 (op.Fork keep.All), gives (reply.Number 2) [] bottom)
    ∷ (by 2 (op.Exit 3), gives reply.Done [] bottom)
    ∷ (by 2 op.SelfLabel, refuses refusal.NoProcess bottom)
    ∷ (by 1 (op.GrantLic 2 to_lower), refuses refusal.NoProcess bottom)
    ∷ (by 1 op.WaitChild, gives (reply.Child (record { 0 = 2 }) 3) [] bottom)
    ∷ (by 2 op.SelfLabel, unknown)
    ∷ []

-- there are three slots
abbrev pub forking_often : List (Event × Line)
forking_often =
    (by 1 (op.Fork keep.All), gives (reply.Number 2) [] bottom)
    ∷ (by 1 (op.Fork keep.Nothing), gives (reply.Number 3) [] bottom)
    ∷ (by 1 (op.Fork keep.All), refuses refusal.NoSlot bottom)
    ∷ (by 2 (op.Exit 3), gives reply.Done [] bottom)
    ∷ (by 1 (op.Fork keep.All), refuses refusal.NoSlot bottom)
    ∷ (by 1 op.WaitChild, gives (reply.Child (record { 0 = 2 }) 3) [] bottom)
    ∷ (by 1 (op.Fork keep.All), gives (reply.Number 4) [] bottom)
    ∷ []

-- the grandchild ends first
abbrev pub waiting_for_a_child : List (Event × Line)
waiting_for_a_child =
    (by 1 op.WaitChild, refuses refusal.NoChild bottom)
    ∷ (by 1 (op.Fork keep.All), gives (reply.Number 2) [] bottom)
    ∷ (by 2 (op.Fork keep.All), gives (reply.Number 3) [] bottom)
    ∷ (by 3 (op.Exit 3), gives reply.Done [] bottom)
    ∷ (by 1 op.WaitChild, refuses refusal.Again bottom)
    ∷ (by 2 op.WaitChild, gives (reply.Child (record { 0 = 3 }) 3) [] bottom)
    ∷ (by 2 (op.Exit 4), gives reply.Done [] bottom)
    ∷ (by 1 op.WaitChild, gives (reply.Child (record { 0 = 2 }) 4) [] bottom)
    ∷ (by 1 op.WaitChild, refuses refusal.NoChild bottom)
    ∷ []

-- and it ends once it has waited
abbrev pub ending_first : List (Event × Line)
ending_first =
    (by 1 (op.Fork keep.All), gives (reply.Number 2) [] bottom)
    ∷ (by 1 (op.Exit 0), refuses refusal.ChildrenLive bottom)
    ∷ (by 2 (op.Exit 3), gives reply.Done [] bottom)
    ∷ (by 1 (op.Exit 0), refuses refusal.ChildrenLive bottom)
    ∷ (by 1 op.WaitChild, gives (reply.Child (record { 0 = 2 }) 3) [] bottom)
    ∷ (by 1 (op.Exit 0), ends)
    ∷ []

-- the second ends first
abbrev pub ending_out_of_order : List (Event × Line)
ending_out_of_order =
    (by 1 (op.Fork keep.All), gives (reply.Number 2) [] bottom)
    ∷ (by 1 (op.Fork keep.All), gives (reply.Number 3) [] bottom)
    ∷ (by 3 (op.Exit 5), gives reply.Done [] bottom)
    ∷ (by 2 (op.Exit 3), gives reply.Done [] bottom)
    ∷ (by 1 op.WaitChild, gives (reply.Child (record { 0 = 2 }) 3) [] bottom)
    ∷ (by 1 op.WaitChild, gives (reply.Child (record { 0 = 3 }) 5) [] bottom)
    ∷ []

-- the child makes the only pipe there is, and ends
abbrev pub ending_with_a_pipe : List (Event × Line)
ending_with_a_pipe =
    (by 1 (op.Fork keep.All), gives (reply.Number 2) [] bottom)
    ∷ (by 2 op.MakePipe, gives (reply.Two (record { 0 = 0 }) (record { 0 = 1 })) [] bottom)
    ∷ (by 1 op.MakePipe, refuses refusal.NoInode bottom)
    ∷ (by 2 (op.Exit 3), gives reply.Done [] bottom)
    ∷ (by 1 op.MakePipe, gives (reply.Two (record { 0 = 0 }) (record { 0 = 1 })) [] bottom)
    ∷ []

-- one child has none of its parent's descriptors, and another has the second
abbrev pub keeping_some : List (Event × Line)
keeping_some =
    (by 1 op.MakePipe, gives (reply.Two (record { 0 = 0 }) (record { 0 = 1 })) [] bottom)
    ∷ (by 1 (op.Fork keep.Nothing), gives (reply.Number 2) [] bottom)
    ∷ (by 1 (op.Fork (keep.One (record { 0 = 1 }))), gives (reply.Number 3) [] bottom)
    ∷ (by 2 (op.ReadFd 1 1), refuses refusal.BadFd bottom)
    ∷ (by 3 (op.ReadFd 0 1), refuses refusal.BadFd bottom)
    ∷ (by 3 (op.ReadFd 1 1), refuses refusal.Again bottom)
    ∷ []

-- proc a - * - -
-- dir /d 3 free
abbrev pub house : Config
house = small (proc bottom top ∷ []) (dir (codes "d") three ∷ [])

-- the parent is raised, has a low ceiling and is in /d; it forks, is frozen, and forks again
abbrev pub forking_as_it_is : List (Event × Line)
forking_as_it_is =
    (by 1 (op.SetSelf three), gives reply.Done [] three)
    ∷ (by 1 (op.SetCeiling 1 three), gives reply.Done [] three)
    ∷ (by 1 (op.ChangeDir (in_root (codes "d"))), gives reply.Done [] three)
    ∷ (by 1 (op.Fork keep.Nothing), gives (reply.Number 2) [] three)
    ∷ (by 2 (op.LabelOf here), gives (reply.Lab three) [] three)
    ∷ (by 2 (op.SetSelf three_and_five), refuses refusal.ProcCeiling three)
    ∷ (by 1 op.FreezeSelf, gives reply.Done [] three)
    ∷ (by 1 (op.Fork keep.Nothing), gives (reply.Number 3) [] three)
    ∷ (by 3 (op.SetSelf three_and_five), refuses refusal.ProcFrozen three)
    ∷ []
