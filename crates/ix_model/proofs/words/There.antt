-- What `found` finds in a sound world is there.
use Rattle.std.proofs.Common.{◌≡◌, ◌<◌, ◌+◌, ◌==◌, ℕ, Bool, true, false, not, List, [], ◌∷◌, count_by, find, cond, Option, Some, None, is_some, option_map, sym}
use Rattle.std.{proofs.{Common.{unwrap_or, if◌then◌else◌, refl, ap, ◌∙◌, arith}, lemmas.{Bool.eq-eqb, List.Sums.sum_by-cons}}, specs.Option.option_map_or}
use Rattle.ix_model.specs.{world.{Naming.{PathOf, same_bytes}, World.{Frame, World, Object, Process, at, is_dir, is_pipe}}, laws.{Sound.{NamesSound, Sound}, Laws.ObjectsThere}}
use Rattle.ix_model.{specs.rows.Walks.{behind, node, child, lacking, looking_into, walk_from, walk, walked_to, object_at}, proofs.words.{Looks.ends_observe, Standing.{behind_is, stands}}}
use Rattle.ix_model.proofs.words.Ends.{known_passed, Ends, Anything, ends_bind, ends_then, ends_caller, ends_frame, ends_pass, ends_there}
use Rattle.ix_model.specs.rows.Walks as sought

-- ---- children
pub counted : (o : ℕ) (e : List ℕ × ℕ) (es : List (List ℕ × ℕ)) → count_by (λ n. n.1 == o) (e ∷ es) ≡ cond {A = ℕ} (e.1 == o) 1 0 + count_by (λ n. n.1 == o) es
counted o e es = sum_by-cons (λ n. cond _ 1 0) e es

pub child_named : (es : List (List ℕ × ℕ)) (name : List ℕ) (o : ℕ) → option_map (λ e. e.1) (find (λ e. same_bytes e.0 name) es) ≡ Some o → 0 < count_by (λ n. n.1 == o) es
child_named [] name o h = cc
child_named (e ∷ es) name o h = go _ h (child_named es _ o)
  where
    go : (b : Bool) → option_map (λ x. x.1) (if b then Some e else find (λ x. same_bytes x.0 name) es) ≡ Some o
        → (option_map (λ x. x.1) (find (λ x. same_bytes x.0 name) es) ≡ Some o → 0 < count_by (λ n. n.1 == o) es) → 0 < count_by (λ n. n.1 == o) (e ∷ es)
    go true k next =
        let same : e.1 ≡ o = cc in
        let one = ap (λ b. cond {A = ℕ} b 1 0) (eq-eqb e.1 o same) in
        omega (arith, counted o e es)
    go false k next =
        let more = next k in
        omega (arith, counted o e es)

no_pipe_there : (o : Option Object) → option_map_or (λ y. not (is_pipe y)) o false ≡ true → is_some o ≡ true
no_pipe_there None h = cc
no_pipe_there (Some x) h = refl

dir_there : (o : Option Object) → option_map_or is_dir o false ≡ true → is_some o ≡ true
dir_there None h = cc
dir_there (Some x) h = refl

-- ---- walks
module _ (f : Frame) (s : NamesSound f) where
  child_there : (n o : ℕ) (name : List ℕ) → is_some (at f.objects n) ≡ true → child (node f.objects n) name ≡ Some o → is_some (at f.objects o) ≡ true
  child_there n o name there h = go (at f.objects n) refl there
    where
      go : (x : Option Object) → at f.objects n ≡ x → is_some x ≡ true → is_some (at f.objects o) ≡ true
      go None is k = cc
      go (Some x) is k =
          let same : child x name ≡ Some o = ap (λ y. child (unwrap_or y sought.nothing) name) (sym is) ∙ h in
          no_pipe_there _ (s.living n o x is (child_named x.names name o same))

  pub walk_there : (names : List (List ℕ)) (n : ℕ) (before : Option ℕ) (o : ℕ) (dir : Option ℕ) → is_some (at f.objects n) ≡ true
      → (walk_from f.objects n before names).outcome ≡ sought.Found o dir → is_some (at f.objects o) ≡ true
  walk_there [] n before o dir there h = let same : n ≡ o = cc in ap (λ m. is_some (at f.objects m)) (sym same) ∙ there
  walk_there (name ∷ names) n before o dir there h =
      branch (is_dir (node f.objects n)) (child (node f.objects n) name) refl h (λ m k. walk_there names m _ o _ k)
    where
      lacks : (rest : List (List ℕ)) → (lacking n rest).outcome ≡ sought.Found o dir → is_some (at f.objects o) ≡ true
      lacks [] k = cc
      lacks (r ∷ rest) k = cc

      blocked : sought.Walk
      blocked = record { outcome = sought.NotDir; looked = [] }

      branch : (b : Bool) (c : Option ℕ) → child (node f.objects n) name ≡ c
          → (if b then looking_into (node f.objects n) (option_map_or (λ m. walk_from f.objects m (Some n) names) c (lacking n names)) else blocked).outcome
          ≡ sought.Found o dir → ((m : ℕ) → is_some (at f.objects m) ≡ true → (walk_from f.objects m (Some n) names).outcome ≡ sought.Found o dir
          → is_some (at f.objects o) ≡ true) → is_some (at f.objects o) ≡ true
      branch false c is k next = cc
      branch true None is k next = lacks names k
      branch true (Some m) is k next = next m (child_there n m _ there is) k

pub start_there : (f : Frame) (p : Process) (absolute : Bool) → NamesSound f → option_map_or is_dir (at f.objects p.cwd) false ≡ true → is_some (at f.objects (if absolute then 0 else p.cwd)) ≡ true
start_there f p true s home = dir_there _ s.root
start_there f p false s home = dir_there _ home

-- ---- the laws
found_ends : (w : World) (pid : ℕ) (path : PathOf) → Sound w → Ends (object_at pid path w.frame) Anything (λ o g. is_some (at g.objects o) ≡ true)
unfolding object_at walked_to
found_ends w pid path s =
    let f = w.frame in
    let Q : ℕ → Frame → Type 0 = λ o g. is_some _ ≡ true in
    ends_bind _ _ f _ Q (
    ends_bind _ _ f _ _ (ends_caller _ f _ _ (λ p lives.
    let here : (o : ℕ) (dir : Option ℕ) → (walk f.objects p path).outcome ≡ sought.Found o dir → is_some (at f.objects o) ≡ true =
    λ o dir is. walk_there f s.names _ _ _ o dir (start_there f p _ s.names (s.processes.home pid p lives)) is in
    ends_bind _ _ f _ _ (ends_frame f _ _ (
    ends_then _ _ f _ _ (ends_observe _ _ f _ _ (λ r. tt)
    (ends_pass _ f _ _ (ends_there _ f _ Q here tt tt))
    (λ q alive low. ends_pass _ _ _ _ (ends_there _ _ _ Q here tt tt)))))) tt))

pub objects_there : (w : World) → Sound w → ObjectsThere w
objects_there w s = record {
  behind = λ pid fd e is. ap is_some (stands w.frame e.id e.entry s.opens (behind_is w.frame pid fd e is)).is_object;
  object_at = λ pid o path g is. known_passed (object_at pid path w.frame) o g _ is (found_ends w pid path s);
}
