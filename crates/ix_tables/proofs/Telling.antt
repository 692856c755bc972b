-- What is told of the objects that inodes and pipes make.
use Rattle.std.proofs.Common.{◌≡◌, ◌+◌, ◌-◌, ◌<◌, true, false, Bool, IfSome, ℕ, List, length, Option, Some, None, is_some, option_map, unwrap_or, refl, sym, ap}
use Rattle.std.proofs.{Common.{subst, ◌∙◌, arith, inl, inr}, lemmas.Bool.cases_lt}
use Rattle.std.specs.Option.{option_map_or}
use Rattle.ix_label.specs.Category.{Categories, bottom, top}
use Rattle.ix_model.{proofs.tables.Finds.in_table, specs.{world.World.{Object, at, is_dir, is_file, is_pipe}, rows.Walks.{node, nothing}, declared.{privs.PrivSet.PrivSet, reply.Kind.Kind}}}
use Rattle.ix_model.specs.declared.reply.Kind.TheVariants as kind
use Rattle.ix_inode.specs.{Nodes.{Nodes, told_at}, Shown.{kind_of, is_dir_kind}, declared.node.{Inode.Inode, Node.Node}}
use Rattle.ix_name.specs.Directories.{Directories, names_of}
use Rattle.ix_pipe.specs.Pipe.{Pipe}
use Rattle.ix_tables.specs.{Joined.{object_of, object_of_pipe, all_objects}, Views.{Shows, object_by}, declared.row.ObjectRow.ObjectRow}
use Rattle.ix_tables.proofs.Joining.{at_inode, at_pipe}

-- what stands is told
pub shows_node : (objects : List (Option Object)) (n : ℕ) (x : ObjectRow) → Shows objects n (Some x) → node objects n ≡ object_by (node objects n) x
shows_node objects n x shows = ap (λ (o : Option Object). unwrap_or o nothing) shows

pub shows_within : (objects : List (Option Object)) (n : ℕ) (r : Option ObjectRow) → Shows objects n r → IfSome r (λ x. n < length objects)
shows_within objects n None shows = tt
shows_within objects n (Some x) shows = in_table objects n (object_by (node objects n) x) shows

-- a row of the same object is told where the object is
told : (objects : List (Option Object)) (n : ℕ) (o : Object) (x : ObjectRow) → at objects n ≡ Some o → o ≡ object_by o x → Shows objects n (Some x)
told objects n o x here same = here ∙ ap Some same ∙ ap (λ (p : Option Object). Some (object_by (unwrap_or p nothing) x)) (sym here)

-- an inode's row
abbrev pub row_of : Inode → ObjectRow
row_of x = record { kind = x.kind; fs = Some x.fs; float = x.float; cap = x.cap; lic = x.lic; links = x.links; size = x.size }

-- a pipe's row
abbrev row_of_pipe : Categories → PrivSet → PrivSet → ObjectRow
row_of_pipe label cap lic = record { kind = kind.Pipe; fs = None; float = record { label = label; ceiling = top; frozen = false }; cap = cap; lic = lic; links = 0; size = 0 }

module _ (nodes : Nodes) (names : Directories) (pipes : List (Option Pipe)) (objects : List (Option Object)) (view : all_objects nodes names pipes ≡ objects) where
  inode_at : (n : ℕ) (x : Option Node) → n < length nodes.nodes → at nodes.nodes n ≡ x → at objects n ≡ option_map (object_of (names_of names n)) x
  inode_at n x low e = ap (λ t. at t n) (sym view) ∙ at_inode nodes names pipes n low ∙ ap (option_map (object_of (names_of names n))) e

  pub inode_shows : (n : ℕ) (r : Option Inode) → n < length nodes.nodes → r ≡ option_map (told_at n nodes) (at nodes.nodes n) → Shows objects n (option_map row_of r)
  inode_shows n r low is = subst (λ (s : Option Inode). Shows objects n (option_map row_of s)) (sym is) (go (at nodes.nodes n) refl)
    where
      go : (x : Option Node) → at nodes.nodes n ≡ x → Shows objects n (option_map row_of (option_map (told_at n nodes) x))
      go None e = inode_at n None low e
      go (Some x) e = told objects n (object_of (names_of names n) x) (row_of (told_at n nodes x)) (inode_at n (Some x) low e) refl

  -- the object that an inode is
  module _ (n : ℕ) (x : Node) (here : Some x ≡ at nodes.nodes n) where
    stands : at objects n ≡ Some (object_of (names_of names n) x)
    stands = inode_at n (Some x) (in_table nodes.nodes n x (sym here)) (sym here)

    pub inode_within : n < length objects
    inode_within = in_table objects n (object_of (names_of names n) x) stands

    pub inode_label : x.label ≡ (node objects n).label
    inode_label = ap (λ o. (unwrap_or o nothing).label) (sym stands)

    pub inode_dir : x.dir ≡ is_dir (node objects n)
    inode_dir = by_kind x.dir ∙ ap (λ o. is_dir (unwrap_or o nothing)) (sym stands)
      where
        by_kind : (dir : Bool) → dir ≡ is_dir (record (object_of (names_of names n) x) { kind = kind_of dir })
        by_kind true = refl
        by_kind false = refl

  behind : (p : ℕ) → at objects (length nodes.nodes + p) ≡ option_map object_of_pipe (at pipes p)
  behind p =
      ap (λ t. at t (length nodes.nodes + p)) (sym view) ∙ at_pipe nodes names pipes (length nodes.nodes) (length nodes.nodes + p) refl (omega arith)
      ∙ ap (λ k. option_map object_of_pipe (at pipes k)) (let back : length nodes.nodes + p - length nodes.nodes ≡ p = omega arith in back)

  pub pipe_shows : (p : ℕ) (label : Categories) (c l : PrivSet) → option_map (λ q. q.label) (at pipes p) ≡ Some label → c.0 ≡ 0 → l.0 ≡ 0
      → Shows objects (length nodes.nodes + p) (Some (row_of_pipe label c l))
  pipe_shows p label c l is none none2 = go (at pipes p) refl is
    where
      go : (x : Option Pipe) → at pipes p ≡ x → option_map (λ q. q.label) x ≡ Some label → Shows objects (length nodes.nodes + p) (Some (row_of_pipe label c l))
      go None e h = cc
      go (Some q) e h =
          let same : q.label ≡ label = cc in
          told objects (length nodes.nodes + p) (object_of_pipe q) (row_of_pipe label c l) (behind p ∙ ap (option_map object_of_pipe) e)
          (λ i. record (object_of_pipe q) { label = same i; cap = record { 0 = sym none i }; lic = record { 0 = sym none2 i } })

  pub no_pipe_shows : (p : ℕ) → is_some (at pipes p) ≡ false → at objects (length nodes.nodes + p) ≡ None
  no_pipe_shows p dead = behind p ∙ go (at pipes p) dead
    where
      go : (x : Option Pipe) → is_some x ≡ false → option_map object_of_pipe x ≡ None
      go None h = refl
      go (Some q) h = cc

  -- a pipe's label
  pub pipe_label : (p : ℕ) (label : Categories) → option_map (λ q. q.label) (at pipes p) ≡ Some label → label ≡ (node objects (length nodes.nodes + p)).label
  pipe_label p label is = go (at pipes p) is ∙ ap (λ o. (unwrap_or o nothing).label) (sym (behind p))
    where
      go : (x : Option Pipe) → option_map (λ q. q.label) x ≡ Some label → label ≡ (unwrap_or (option_map object_of_pipe x) nothing).label
      go None e = cc
      go (Some q) e = let same : label ≡ q.label = cc in same

  -- where no inode stands there is no directory
  pub no_dir : (n : ℕ) → None ≡ at nodes.nodes n → false ≡ is_dir (node objects n)
  no_dir n none = elim (cases_lt n (length nodes.nodes)) [
    | inl low ↦ ap (λ o. is_dir (unwrap_or o nothing)) (sym (inode_at n None low (sym none)))
    | inr high ↦ go (at pipes (n - length nodes.nodes)) ∙ ap (λ o. is_dir (unwrap_or o nothing)) (sym (ap (λ t. at t n) (sym view)
        ∙ at_pipe nodes names pipes (length nodes.nodes) n refl high))
  ]
    where
      go : (x : Option Pipe) → false ≡ is_dir (unwrap_or (option_map object_of_pipe x) nothing)
      go None = refl
      go (Some q) = refl

  -- nor a label
  pub no_label : (n : ℕ) → n < length nodes.nodes → None ≡ at nodes.nodes n → bottom ≡ (node objects n).label
  no_label n low none = ap (λ o. (unwrap_or o nothing).label) (sym (inode_at n None low (sym none)))

  -- no inode is a pipe, and behind the inodes there are pipes alone
  pub inode_no_pipe : (n : ℕ) → n < length nodes.nodes → option_map_or is_pipe (at objects n) false ≡ false
  inode_no_pipe n low = ap (λ t. option_map_or is_pipe (at t n) false) (sym view) ∙ ap (λ (o : Option Object). option_map_or is_pipe o false) (at_inode nodes names pipes n low) ∙ go (at nodes.nodes n)
    where
      go : (x : Option Node) → option_map_or is_pipe (option_map (object_of (names_of names n)) x) false ≡ false
      go None = refl
      go (Some x) = by_kind x.dir
        where
          by_kind : (dir : Bool) → is_pipe (record (object_of (names_of names n) x) { kind = kind_of dir }) ≡ false
          by_kind true = refl
          by_kind false = refl

  pub pipe_is_pipe : (p : ℕ) → option_map_or is_pipe (at objects (length nodes.nodes + p)) false ≡ is_some (at pipes p)
  pipe_is_pipe p = ap (λ (o : Option Object). option_map_or is_pipe o false) (behind p) ∙ go (at pipes p)
    where
      go : (x : Option Pipe) → option_map_or is_pipe (option_map object_of_pipe x) false ≡ is_some x
      go None = refl
      go (Some q) = refl

-- ---- kinds
pub not_file : (k : Kind) → (k ≡ kind.File → ⊥) → false ≡ is_file (record nothing { kind = k })
not_file kind.File other = absurd (other refl)
not_file k other = refl

pub not_dir : (k : Kind) → (k ≡ kind.Dir → ⊥) → false ≡ is_dir_kind k
not_dir kind.Dir other = absurd (other refl)
not_dir k other = refl

pub not_pipe : (k : Kind) → (k ≡ kind.Pipe → ⊥) → false ≡ is_pipe (record nothing { kind = k })
not_pipe kind.Pipe other = absurd (other refl)
not_pipe k other = refl
