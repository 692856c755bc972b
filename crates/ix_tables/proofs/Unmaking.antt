-- Files and directories that go.
use Rattle.std.proofs.Common.{◌≡◌, ◌-◌, ◌<◌, ◌≤◌, ◌==◌, ◌&&◌, ◌||◌, Bool, true, false, not, ℕ, nat_eq, List, [], length, Option, Some, None, is_some, refl, sym}
use Rattle.std.proofs.Common.{if◌then◌else◌, option_map, ap, subst, ◌∙◌, arith, inl, inr}
use Rattle.std.{specs.Option.option_map_or, proofs.lemmas.Bool.Decides.eqb_tells}
use Rattle.ix_model.specs.{world.{World.{Object, at, held, is_pipe}, Numbers.first_pipe, Owners.times_named}, rows.Lifetimes.stays}
use Rattle.ix_model.specs.declared.{config.Limits.Limits, reply.Kind.Kind}
use Rattle.ix_model.specs.declared.reply.Kind.TheVariants as kind
use Rattle.ix_inode.specs.{Nodes.{Nodes, without, told_at}, Shown.kind_of, declared.node.{Inode.Inode, Node.Node}}
use Rattle.ix_name.specs.Directories.{Directories, names_of}
use Rattle.ix_open.specs.Table.{OpenTable}
use Rattle.ix_pipe.specs.Pipe.{Pipe}
use Rattle.ix_tables.specs.{Parts.Parts, Views.{frame_alone, without_object, object_let_go}}
use Rattle.ix_tables.specs.Joined.{object_of, object_of_pipe, joined, names_for, HasLinks, HasNames, AreJoined}
use Rattle.ix_tables.proofs.{Joining.{at_inode, at_pipe}, Naming.all_times, Placing.{inode_put, joined_put}}

-- whether something of that kind, with so many links, goes
abbrev pub goes : Kind → ℕ → Bool → Bool
goes k links opened = elim k [ kind.File ↦ (links == 0) && not opened | _ ↦ false ]

pub only_files : (k : Kind) (links : ℕ) (opened : Bool) → (k ≡ kind.File → ⊥) → goes k links opened ≡ false
only_files kind.File links opened other = absurd (other refl)
only_files kind.Dir links opened other = refl
only_files kind.Pipe links opened other = refl

neither : (t h : Bool) → not ((not t || h) || false) ≡ (t && not h)
neither true true = refl
neither true false = refl
neither false true = refl
neither false false = refl

pub some_links : (k : ℕ) → (k ≡ 0 → ⊥) → nat_eq k 0 ≡ false
some_links k other = elim (eqb_tells k 0) [ inl e ↦ absurd (other e.1) | inr e ↦ e.0 ]

-- what goes is a file without links
goes_by : (b : Bool) (k : ℕ) (h : Bool) → goes (kind_of b) k h ≡ true → (b ≡ false) × (k ≡ 0)
goes_by true k h is = cc
goes_by false k h is = elim (eqb_tells k 0) [ inl e ↦ (refl, e.1) | inr e ↦ absurd (no (k == 0) (not h) e.0 is) ]
  where
    no : (a b : Bool) → a ≡ false → (a && b) ≡ true → ⊥
    no true b e h = cc
    no false b e h = cc

module _ (limits : Limits) (nodes : Nodes) (names : Directories) (pipes : List (Option Pipe)) (es : OpenTable) (hs : List ℕ) (now : Parts)
    (j : AreJoined limits nodes names pipes es hs) (view : joined limits nodes names pipes es hs ≡ now) where
  -- ---- what goes by itself
  low : (n : ℕ) → n < first_pipe now.fss → n < length nodes.nodes
  low n below = let first = ap (λ (v : Parts). first_pipe v.fss) (sym view) ∙ j.first in omega (arith, first, below)

  idle_told : (n : ℕ) (x : Node) → at nodes.nodes n ≡ Some x → not (stays (frame_alone now) n (object_of (names_of names n) x)) ≡ goes (kind_of x.dir) x.links (held now.opens n 0)
  idle_told n x here = by_kind x.dir refl
    where
      Told : Bool → Type 0
      Told b = let o : Object = record (object_of (names_of names n) x) { kind = kind_of b } in not (stays (frame_alone now) n o) ≡ goes (kind_of b) x.links (held now.opens n 0)

      by_kind : (b : Bool) → x.dir ≡ b → Told x.dir
      by_kind true e = subst Told (sym e) refl
      by_kind false e =
          let tied : HasLinks x.dir x.links (names_for n names.lists) = subst (λ (o : Option Node). HasNames o (names_for n names.lists)) here (j.links n) in
          let links : x.links ≡ names_for n names.lists = subst (λ b. HasLinks b x.links (names_for n names.lists)) e tied in
          let times : (times_named now.objects n == 0) ≡ (x.links == 0) = ap (λ k. k == 0) (all_times limits nodes names pipes es hs now j view n ∙ sym links) in
          subst Told (sym e) (neither (times_named now.objects n == 0) (held now.opens n 0) ∙ ap (λ b. b && not (held now.opens n 0)) times)

  pub idle_is : (n : ℕ) (i : Inode) → n < first_pipe now.fss → Some i ≡ option_map (told_at n nodes) (at nodes.nodes n)
      → option_map_or (λ x. not (stays (frame_alone now) n x)) (at now.objects n) false ≡ goes i.kind i.links (held now.opens n 0)
  idle_is n i below is = go (at nodes.nodes n) refl is
    where
      go : (x : Option Node) → at nodes.nodes n ≡ x → Some i ≡ option_map (told_at n nodes) x
          → option_map_or (λ y. not (stays (frame_alone now) n y)) (at now.objects n) false ≡ goes i.kind i.links (held now.opens n 0)
      go None e h = cc
      go (Some x) e h =
          let same : told_at n nodes x ≡ i = cc in
          ap (λ (o : Option Object). option_map_or (λ y. not (stays (frame_alone now) n y)) o false) (ap (λ (v : Parts). at v.objects n) (sym view)
          ∙ at_inode nodes names pipes n (low n below) ∙ ap (option_map (object_of (names_of names n))) e)
          ∙ idle_told n x e ∙ ap (λ (u : Inode). goes u.kind u.links (held now.opens n 0)) same

  pub none_idle : (n : ℕ) → n < first_pipe now.fss → None ≡ option_map (told_at n nodes) (at nodes.nodes n) → option_map_or (λ x. not (stays (frame_alone now) n x)) (at now.objects n) false ≡ false
  none_idle n below is = go (at nodes.nodes n) refl is
    where
      go : (x : Option Node) → at nodes.nodes n ≡ x → None ≡ option_map (told_at n nodes) x → option_map_or (λ y. not (stays (frame_alone now) n y)) (at now.objects n) false ≡ false
      go None e h = ap (λ (o : Option Object). option_map_or (λ y. not (stays (frame_alone now) n y)) o false) (ap (λ (v : Parts). at v.objects n) (sym view)
          ∙ at_inode nodes names pipes n (low n below) ∙ ap (option_map (object_of (names_of names n))) e)
      go (Some x) e h = cc

  pub piped : (n : ℕ) → length nodes.nodes ≤ n → option_map_or is_pipe (at now.objects n) true ≡ true
  piped n high = ap (λ (o : Option Object). option_map_or is_pipe o true) (ap (λ (v : Parts). at v.objects n) (sym view)
      ∙ at_pipe nodes names pipes (length nodes.nodes) n refl high) ∙ go (at pipes (n - length nodes.nodes))
    where
      go : (p : Option Pipe) → option_map_or is_pipe (option_map object_of_pipe p) true ≡ true
      go None = refl
      go (Some p) = refl

  -- ---- a file that goes by itself
  pub idle_bare : (n : ℕ) → n < length nodes.nodes → option_map_or (λ x. not (stays (frame_alone now) n x)) (at now.objects n) false ≡ true
      → (is_some (at nodes.nodes n) ≡ true) × ((names_of names n ≡ []) × (names_for n names.lists ≡ 0))
  idle_bare n within idle = go (at nodes.nodes n) refl
    where
      here : (x : Option Node) → at nodes.nodes n ≡ x → option_map_or (λ y. not (stays (frame_alone now) n y)) (option_map (object_of (names_of names n)) x) false ≡ true
      here x e = ap (λ (o : Option Object). option_map_or (λ y. not (stays (frame_alone now) n y)) o false) (sym (ap (λ (v : Parts). at v.objects n) (sym view)
          ∙ at_inode nodes names pipes n within ∙ ap (option_map (object_of (names_of names n))) e)) ∙ idle

      go : (x : Option Node) → at nodes.nodes n ≡ x → (is_some (at nodes.nodes n) ≡ true) × ((names_of names n ≡ []) × (names_for n names.lists ≡ 0))
      go None e = let no = here None e in cc
      go (Some x) e =
          let file = goes_by x.dir x.links (held now.opens n 0) (sym (idle_told n x e) ∙ here (Some x) e) in
          let tied : HasLinks x.dir x.links (names_for n names.lists) = subst (λ (o : Option Node). HasNames o (names_for n names.lists)) e (j.links n) in
          let links : x.links ≡ names_for n names.lists = subst (λ b. HasLinks b x.links (names_for n names.lists)) file.0 tied in
          (ap is_some e, (j.bare n (ap (λ (o : Option Node). option_map_or (λ y. y.dir) o false) e ∙ file.0), sym links ∙ file.1))

  pub idle_joined : (nodes2 : Nodes) (n : ℕ) → n < length nodes.nodes → option_map_or (λ x. not (stays (frame_alone now) n x)) (at now.objects n) false ≡ true
      → nodes2 ≡ without n nodes → AreJoined limits nodes2 names pipes es hs
  idle_joined nodes2 n within idle is =
      let b = idle_bare n within idle in
      subst (λ (u : Nodes). AreJoined limits u names pipes es hs) (sym is) (joined_put j names n None within refl refl (λ o h. h) b.1.0 b.1.1 (λ o ne. refl))

  pub idle_gone : (nodes2 : Nodes) (n : ℕ) → n < length nodes.nodes → option_map_or (λ x. not (stays (frame_alone now) n x)) (at now.objects n) false ≡ true
      → nodes2 ≡ without n nodes → joined limits nodes2 names pipes es hs ≡ object_let_go n now
  idle_gone nodes2 n within idle is = inode_put limits nodes nodes2 names pipes es hs now j.bytes view n None within is ∙ sym (ap (λ b. if b then without_object n now else now) idle)
