-- How many names an object is told to have.
use Rattle.std.proofs.Common.{◌≡◌, ◌≤◌, ◌∙◌, ℕ, Bool, true, false, List, length, Option, Some, None, option_map, if◌then◌else◌, refl, sym, ap, subst}
use Rattle.std.proofs.lemmas.List.{get_or_past}
use Rattle.ix_model.specs.{world.{World.at, Owners.times_named}, declared.config.Limits.Limits}
use Rattle.ix_inode.specs.{Nodes.{Nodes, told_at}, Shown.{kind_of, is_dir_kind}, declared.node.{Inode.Inode, Node.Node}}
use Rattle.ix_name.specs.Directories.{Directories}
use Rattle.ix_open.specs.Table.{OpenTable}
use Rattle.ix_pipe.specs.Pipe.{Pipe}
use Rattle.ix_tables.{specs.{Parts.Parts, Joined.{joined, names_for, HasLinks, HasNames, AreJoined}}, proofs.Naming.all_times}

-- by whether it is a directory
by_kind : (b : Bool) (links k : ℕ) → HasLinks b links k → (if is_dir_kind (kind_of b) then 1 else links) ≡ (if is_dir_kind (kind_of b) then 1 else k)
by_kind true links k h = refl
by_kind false links k h = h

module _ (l : Limits) (nodes : Nodes) (names : Directories) (ps : List (Option Pipe)) (es : OpenTable) (hs : List ℕ) (now : Parts)
    (j : AreJoined l nodes names ps es hs) (view : joined l nodes names ps es hs ≡ now) (n : ℕ) where
  pub links_shown : (i : Inode) → Some i ≡ option_map (told_at n nodes) (at nodes.nodes n) → (if is_dir_kind i.kind then 1 else i.links) ≡ (if is_dir_kind i.kind then 1 else times_named now.objects n)
  links_shown i is = go (at nodes.nodes n) refl is
    where
      go : (x : Option Node) → at nodes.nodes n ≡ x → Some i ≡ option_map (told_at n nodes) x
          → (if is_dir_kind i.kind then 1 else i.links) ≡ (if is_dir_kind i.kind then 1 else times_named now.objects n)
      go None e h = cc
      go (Some x) e h =
          let same : i ≡ told_at n nodes x = cc in
          let tied : HasLinks x.dir x.links (names_for n names.lists) = subst (λ (o : Option Node). HasNames o (names_for n names.lists)) e (j.links n) in
          subst (λ (k : Inode). (if is_dir_kind k.kind then 1 else k.links) ≡ (if is_dir_kind k.kind then 1 else times_named now.objects n)) (sym same)
          (by_kind x.dir x.links (names_for n names.lists) tied ∙ ap (λ k. if is_dir_kind (kind_of x.dir) then 1 else k) (sym (all_times l nodes names ps es hs now j view n)))

  -- nothing names a pipe
  pub pipe_unnamed : length nodes.nodes ≤ n → 0 ≡ times_named now.objects n
  pipe_unnamed past =
      let none : names_for n names.lists ≡ 0 = subst (λ (o : Option Node). HasNames o (names_for n names.lists)) (get_or_past nodes.nodes n None past) (j.links n) in
      sym (all_times l nodes names ps es hs now j view n ∙ none)
