-- The lowest free inode of a file system.
use Rattle.std.proofs.Common.{◌≡◌, ◌+◌, ◌≤◌, true, false, cond, ℕ, List, [], ◌∷◌, ◌++◌, map, length, take, drop, Option, Some, None, is_none, option_map, refl}
use Rattle.std.proofs.Common.{nat_lt, sym, ap, ◌∙◌, arith}
use Rattle.std.{specs.List.{drop-map, take-map, position_or_len}, proofs.lemmas.List.{drop-append-le, take-append-le, length-drop, length-map}}
use Rattle.ix_model.proofs.tables.{FreeNumbers.{IsFreeInode, free_inode_is}, Inodes.first_within}
use Rattle.ix_model.specs.{world.{World.{Object, lowest_free, fs_at}, Numbers.{first_inode, free_inode}}, declared.config.Limits.Limits}
use Rattle.ix_inode.specs.{Nodes.{Nodes, vacant_in}, declared.node.Node.Node}
use Rattle.ix_name.specs.Directories.{Directories}
use Rattle.ix_open.specs.Table.{OpenTable}
use Rattle.ix_pipe.specs.Pipe.{Pipe}
use Rattle.ix_tables.specs.{Parts.Parts, Views.{vacant_inode, frame_alone}, Joined.{objects_of, object_of_pipe, joined, AreJoined}}
use Rattle.ix_tables.proofs.Joining.{Lists, length-objects}

tests : {A : Type 0} (t : List (Option A)) → position_or_len is_none t ≡ position_or_len (λ b. b) (map is_none t)
tests [] = refl
tests (None ∷ t) = refl
tests (Some x ∷ t) = ap (λ n. 1 + n) (tests t)

-- the lowest free number, by where nothing stands
pub free_by : {A B : Type 0} (t : List (Option A)) (u : List (Option B)) → map is_none t ≡ map is_none u → lowest_free t ≡ lowest_free u
free_by {A} {B} t u same =
    let long : length t ≡ length u = sym (length-map t is_none) ∙ ap length same ∙ length-map u is_none in
    let first : position_or_len is_none t ≡ position_or_len is_none u = tests t ∙ ap (position_or_len (λ b. b)) same ∙ sym (tests u) in
    λ i. cond (nat_lt (first i) (long i)) (Some (first i)) None

none_objects : (xs : List (Option Node)) (ls : Lists) → map is_none (objects_of xs ls) ≡ map is_none xs
none_objects [] ls = refl
none_objects (None ∷ xs) [] = ap (λ bs. true ∷ bs) (none_objects xs [])
none_objects (Some x ∷ xs) [] = ap (λ bs. false ∷ bs) (none_objects xs [])
none_objects (None ∷ xs) (l ∷ ls) = ap (λ bs. true ∷ bs) (none_objects xs ls)
none_objects (Some x ∷ xs) (l ∷ ls) = ap (λ bs. false ∷ bs) (none_objects xs ls)

-- the part of a list before its end
part_of : {A : Type 0} (f i : ℕ) (xs ys : List A) → f + i ≤ length xs → take i (drop f (xs ++ ys)) ≡ take i (drop f xs)
part_of f i xs ys low = ap (take i) (drop-append-le f xs ys (omega (arith, low))) ∙ take-append-le i (drop f xs) ys (omega (arith, low, length-drop f xs))

pub vacant_is : (limits : Limits) (nodes : Nodes) (names : Directories) (pipes : List (Option Pipe)) (es : OpenTable) (hs : List ℕ) (now : Parts)
    → AreJoined limits nodes names pipes es hs → joined limits nodes names pipes es hs ≡ now
    → (k : ℕ) → vacant_inode now.fss now.objects k ≡ vacant_in k nodes
vacant_is limits nodes names pipes es hs now j view k =
    let f = first_inode nodes.fss k in let i = (fs_at nodes.fss k).inodes in
    let os = objects_of nodes.nodes names.lists in
    let within : f + i ≤ length os = omega (arith, first_within nodes.fss k, j.first, length-objects nodes.nodes names.lists) in
    let same : map is_none (take i (drop f os)) ≡ map is_none (take i (drop f nodes.nodes)) =
    sym (take-map is_none i (drop f os)) ∙ ap (take i) (sym (drop-map is_none f os)) ∙ ap (λ bs. take i (drop f bs)) (none_objects nodes.nodes names.lists)
    ∙ ap (take i) (drop-map is_none f nodes.nodes) ∙ take-map is_none i (drop f nodes.nodes) in
    ap (λ (v : Parts). vacant_inode v.fss v.objects k) (sym view)
    ∙ ap (λ (t : List (Option Object)). option_map (λ n. f + n) (lowest_free t)) (part_of f i os (map (option_map object_of_pipe) pipes) within)
    ∙ ap (option_map (λ n. f + n)) (free_by (take i (drop f os)) (take i (drop f nodes.nodes)) same)

-- it is free
pub vacant_free : (now : Parts) (k o : ℕ) → vacant_inode now.fss now.objects k ≡ Some o → IsFreeInode (frame_alone now) k o
unfolding free_inode
vacant_free now k o is = free_inode_is (frame_alone now) k o is
