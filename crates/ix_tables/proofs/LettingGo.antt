-- A pipe that goes, unless an open entry is on an end of it.
use Rattle.std.proofs.Common.{◌≡◌, ◌-◌, ◌<◌, ◌≤◌, ℕ, Bool, true, false, not, ◌&&◌, ◌||◌, List, length, Option, Some, None, is_some, option_map, refl, sym, ap}
use Rattle.std.proofs.Common.{◌∙◌, arith, if◌then◌else◌}
use Rattle.std.specs.Option.{option_map_or}
use Rattle.ix_model.specs.{world.World.{Object, at, put, is_pipe, held}, rows.Lifetimes.stays, declared.config.Limits.Limits}
use Rattle.ix_inode.specs.{declared.node.Node.Node, Nodes.Nodes, Shown.kind_of}
use Rattle.ix_name.specs.Directories.{Directories, names_of}
use Rattle.ix_open.specs.Table.{OpenTable}
use Rattle.ix_pipe.specs.Pipe.{Pipe}
use Rattle.ix_tables.specs.{Parts.Parts, Views.{frame_alone, without_object, object_let_go}, Joined.{object_of, object_of_pipe, joined, AreJoined}}
use Rattle.ix_tables.proofs.{Joining.{at_inode, at_pipe}, Piping.piped}

abbrev gone_or_not : ℕ → Parts → Bool → Parts
gone_or_not n v gone = if gone then without_object n v else v

pub second_held : (a b : Bool) → b ≡ true → (a || b) ≡ true
second_held true b h = refl
second_held false b h = h

abbrev goes : ℕ → Parts → Option Object → Bool
goes n v o = option_map_or (λ x. not (stays (frame_alone v) n x)) o false

-- an inode is no pipe
none_if_pipe : (names : List (List ℕ × ℕ)) (x : Option Node) → option_map_or is_pipe (option_map (object_of names) x) true ≡ true → option_map (object_of names) x ≡ None
none_if_pipe names None h = refl
none_if_pipe names (Some x) h = go x.dir h
  where
    go : (b : Bool) → is_pipe (record (object_of names x) { kind = kind_of b }) ≡ true → Some (object_of names x) ≡ None
    go true h = absurd (cc h)
    go false h = absurd (cc h)

pipe_goes : (n : ℕ) (v : Parts) (x : Option Pipe) → goes n v (option_map object_of_pipe x) ≡ (is_some x && not (held v.opens n 0 || held v.opens n 1))
pipe_goes n v None = refl
pipe_goes n v (Some p) = refl

module _ (l : Limits) (nodes : Nodes) (names : Directories) (ps : List (Option Pipe)) (es : OpenTable) (hs : List ℕ) (now : Parts) (first : ℕ)
    (inv : AreJoined l nodes names ps es hs × (first ≡ length nodes.nodes)) (view : joined l nodes names ps es hs ≡ now) (n : ℕ) where
  -- none stands below the first pipe where only a pipe can
  pub none_goes : n < first → option_map_or is_pipe (at now.objects n) true ≡ true → now ≡ object_let_go n now
  none_goes low h =
      let here : at now.objects n ≡ option_map (object_of (names_of names n)) (at nodes.nodes n) = ap (λ (v : Parts). at v.objects n) (sym view)
      ∙ at_inode nodes names ps n (omega (arith, low, inv.1)) in
      let none : at now.objects n ≡ None = here ∙ none_if_pipe (names_of names n) (at nodes.nodes n) (ap (λ (o : Option Object). option_map_or is_pipe o true) (sym here) ∙ h) in
      ap (λ (o : Option Object). gone_or_not n now (goes n now o)) (sym none)

  module _ (past : first ≤ n) where
    by_tests : gone_or_not n now (is_some (at ps (n - first)) && not (held es.opens n 0 || held es.opens n 1)) ≡ object_let_go n now
    by_tests =
        let here : at now.objects n ≡ option_map object_of_pipe (at ps (n - first)) = ap (λ (v : Parts). at v.objects n) (sym view) ∙ at_pipe nodes names ps first n inv.1 past in
        let opens : es.opens ≡ now.opens = ap (λ (v : Parts). v.opens) view in
        ap (λ os. gone_or_not n now (is_some (at ps (n - first)) && not (held os n 0 || held os n 1))) opens
        ∙ ap (gone_or_not n now) (sym (ap (goes n now) here ∙ pipe_goes n now (at ps (n - first))))

    pub goes_there : is_some (at ps (n - first)) ≡ true → held es.opens n 0 ≡ false → held es.opens n 1 ≡ false → joined l nodes names (put ps (n - first) None) es hs ≡ object_let_go n now
    goes_there lives h k =
        piped nodes names ps first n inv.1 None past l es hs inv.0.bytes ∙ ap (without_object n) view
        ∙ (λ i. gone_or_not n now (sym lives i && not (sym h i || sym k i))) ∙ by_tests

    pub none_there : is_some (at ps (n - first)) ≡ false → now ≡ object_let_go n now
    none_there dead = ap (λ b. gone_or_not n now (b && not (held es.opens n 0 || held es.opens n 1))) (sym dead) ∙ by_tests

    pub held_there : (held es.opens n 0 || held es.opens n 1) ≡ true → now ≡ object_let_go n now
    held_there h = go (is_some (at ps (n - first))) ∙ ap (λ b. gone_or_not n now (is_some (at ps (n - first)) && not b)) (sym h) ∙ by_tests
      where
        go : (b : Bool) → now ≡ gone_or_not n now (b && false)
        go true = refl
        go false = refl
