-- In a sound world a walk finds no pipe.
use Rattle.std.{proofs.Common.{◌≡◌, ℕ, Bool, true, false, not, List, Option, Some, None, is_some, unwrap_or, refl, subst}, specs.Option.option_map_or}
use Rattle.ix_model.specs.{world.{Naming.{PathOf, last_name}, World.{World, Frame, Object, at, is_dir, is_pipe}}, declared.{reply.Kind.Kind, ids.Obj.Obj}}
use Rattle.ix_model.specs.{rows.{Outcomes.Pass, Walks.{Sought, node, walk, walked_to}}, laws.Sound.{NamesSound, Sound}}
use Rattle.ix_model.specs.declared.reply.Kind.TheVariants as kind
use Rattle.ix_model.specs.rows.Walks as sought
use Rattle.ix_model.proofs.{words.Ends.{known_passed, Ends, Anything, ends_bind, ends_then, ends_caller, ends_frame, ends_pass}, words.Looks.ends_observe}
use Rattle.ix_model.proofs.{words.There.child_named, words.Walked.{Leads, walks}}
use Rattle.ix_machine.specs.Views.{is_inode}
use Rattle.ix_fcalls.specs.{Views.sought_of, declared.walks.Outcome.{Outcome as Ending}}
use Rattle.ix_fcalls.specs.declared.walks.Outcome.TheVariants as ending

-- what is found is there, and no pipe
abbrev Lands : List (Option Object) → Sought → Type 0
Lands objects (sought.Found o dir) = is_inode (at objects o) ≡ true
Lands objects _ = Unit {0}

dir_no_pipe : (o : Option Object) → option_map_or is_dir o false ≡ true → is_inode o ≡ true
dir_no_pipe None h = cc
dir_no_pipe (Some x) h = go x.kind h
  where
    go : (k : Kind) → elim k [ kind.Dir ↦ true | _ ↦ false ] ≡ true → not (elim k [ kind.Pipe ↦ true | _ ↦ false ]) ≡ true
    go kind.File h = refl
    go kind.Dir h = refl
    go kind.Pipe h = cc

leads_lands : (f : Frame) (name : List ℕ) (s : Sought) → NamesSound f → Leads f name s → Lands f.objects s
leads_lands f name (sought.Found o None) n h = dir_no_pipe (at f.objects o) h
leads_lands f name (sought.Found o (Some d)) n h = n.living d o h.dir h.is (child_named h.dir.names name o h.leads)
leads_lands f name (sought.Missing d) n h = tt
leads_lands f name sought.NotFound n h = tt
leads_lands f name sought.NotDir n h = tt

walk_ends : (w : World) (pid : ℕ) (path : PathOf) → Sound w → Ends (walked_to pid path w.frame) Anything (λ s g. Lands g.objects s)
unfolding walked_to
walk_ends w pid path s =
    let f : Frame = w.frame in
    let Q : Sought → Frame → Type 0 = λ s g. Lands g.objects s in
    ends_bind _ _ f Anything Q (ends_caller pid f Anything _ (λ p lives.
    let here : Lands f.objects (walk f.objects p path).outcome = leads_lands f (last_name path.names) _ s.names (walks f p path s.names.root (s.processes.home pid p lives)) in
    ends_bind _ _ f Anything Q (ends_frame f Anything _ (
    ends_then _ _ f Anything Q (ends_observe pid _ f Anything _ (λ r. tt)
    (ends_pass _ f Anything Q here)
    (λ q alive low. ends_pass _ _ Anything Q here)))))
    tt)

pub landed : (w : World) (pid : ℕ) (path : PathOf) (g : Frame) (e : Ending) (o : ℕ) (dir : Option Obj) → Sound w
    → walked_to pid path w.frame ≡ Pass (sought_of e) g → e ≡ ending.Found (record { 0 = o }) dir → is_inode (at g.objects o) ≡ true
landed w pid path g e o dir s is ends =
    let h = known_passed (walked_to pid path w.frame) (sought_of e) g (λ s g. Lands g.objects s) is (walk_ends w pid path s) in
    subst (λ (x : Ending). Lands g.objects (sought_of x)) ends h

-- ---- what stands at a number at which a file or a directory stands
pub inode_stands : (objects : List (Option Object)) (n : ℕ) → is_inode (at objects n) ≡ true → is_some (at objects n) ≡ true
inode_stands objects n h = go (at objects n) h
  where
    go : (o : Option Object) → is_inode o ≡ true → is_some o ≡ true
    go None k = cc
    go (Some x) k = refl

pub inode_no_pipe : (objects : List (Option Object)) (n : ℕ) → is_inode (at objects n) ≡ true → is_pipe (node objects n) ≡ false
inode_no_pipe objects n h = go (at objects n) h
  where
    raised : (b : Bool) → not b ≡ true → b ≡ false
    raised true k = cc
    raised false k = refl

    go : (o : Option Object) → is_inode o ≡ true → is_pipe (unwrap_or o sought.nothing) ≡ false
    go None k = cc
    go (Some x) k = raised (is_pipe x) k

pub ruleset standing = (inode_stands, inode_no_pipe)
