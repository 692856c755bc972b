-- Which call a step is, and how it stands in the whole world.
use Rattle.std.proofs.Common.{◌≡◌, ℕ, true, List, Option, refl, sym, ap, subst, ◌∙◌}
use Rattle.ix_model.specs.{world.World.{World, Process}, history.{Calls.op_of, Events.Op, Step.step}, declared.{call.Call.Call, reply.Reply.Reply}}
use Rattle.ix_model.specs.declared.call.Call.TheVariants as call
use Rattle.ix_tables.specs.Parts.{Parts, parts_of}
use Rattle.ix_fcalls.specs.{Around.{Around, around, world_of}, Counted.IsCounted, Filed.{Answers, is_filed, is_plain}}

-- a call that the files answer, and none of those that look at what is held or edit it
pub plain_left : (c : Call) → is_filed (op_of c) ≡ true
    → ((fd : _) (count : _) → c ≡ call.ReadFd fd count → ⊥) → ((fd : _) (bytes : _) → c ≡ call.WriteFd fd bytes → ⊥)
    → ((fd : _) (len : _) → c ≡ call.CutFd fd len → ⊥) → ((fd : _) (offset : _) → c ≡ call.SeekFd fd offset → ⊥)
    → ((path : _) → c ≡ call.StatAt path → ⊥) → is_plain (op_of c) ≡ true
plain_left (call.ReadFd fd count) filed read write cut seek look = absurd (read fd count refl)
plain_left (call.WriteFd fd bytes) filed read write cut seek look = absurd (write fd bytes refl)
plain_left (call.CutFd fd len) filed read write cut seek look = absurd (cut fd len refl)
plain_left (call.SeekFd fd offset) filed read write cut seek look = absurd (seek fd offset refl)
plain_left (call.StatAt path) filed read write cut seek look = absurd (look path refl)
plain_left _ filed read write cut seek look = filed

-- a world is its parts with what is around them
pub world_there : (place pid : ℕ) (w : World) (t : Parts) (ps : List (Option Process)) → t ≡ parts_of w → ps ≡ w.frame.processes → world_of (around place pid w) t ps ≡ w
world_there place pid w t ps parts same = λ i. world_of (around place pid w) (parts i) (same i)

pub answers_there : (place pid : ℕ) (w : World) (c : Op) (t : Parts) (ps : List (Option Process)) (v : World) (r : Reply) (before after : List ℕ) → t ≡ parts_of w → ps ≡ w.frame.processes
    → Answers (step (world_of (around place pid w) t ps) place pid c) v r before after → Answers (step w place pid c) v r before after
answers_there place pid w c t ps v r before after parts same = subst (λ x. Answers (step x place pid c) v r before after) (world_there place pid w t ps parts same)

-- what a call is answered is what it is answered by its kind
pub answers_as : (w v : World) (place pid : ℕ) (c d : Call) (r : Reply) (before after : List ℕ) → c ≡ d → Answers (step w place pid (op_of d)) v r before after
    → Answers (step w place pid (op_of c)) v r before after
answers_as w v place pid c d r before after is = subst (λ x. Answers (step w place pid (op_of x)) v r before after) (sym is)

-- parts that are counted are those of their world
pub parts_after : (a : Around) (t : Parts) (ps : List (Option Process)) (w : World) → world_of a t ps ≡ w → IsCounted t ps → t ≡ parts_of w
parts_after a t ps w is c = (λ i. record t { owners = c.owners i; homes = c.homes i }) ∙ ap parts_of is
