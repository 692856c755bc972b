-- The frame that looks leave: the caller's label joined with what it has looked at.
use Rattle.std.{proofs.Common.{◌≡◌, ℕ, Bool, true, false, not, Option, Some, None, option_map, refl, sym, ap, ◌∙◌, subst}, specs.Option.option_map_or}
use Rattle.ix_label.specs.{Category.{Categories, bottom, join, same}, Lattice.{join-absorbs, join-assoc, join-comm, bottom-leq, same-decides}}
use Rattle.ix_model.{specs.{world.{Naming.PathOf, World.{Frame, Process, at, change, living}}, history.AuditLog.object_of_path, laws.Looked.along}, proofs.words.Ends.ends_change_object}
use Rattle.ix_model.specs.{rows.{Refusals.keeps_label, Rows.{observe, affect}, Walks.{Sought, walk, join_all, walked_to}}, declared.refusal.Refusal.Refusal}
use Rattle.ix_model.proofs.{tables.Tables.{at_changed, change_same, change_twice}, words.Living.{is_living, not_ended, lives_as}}
use Rattle.ix_model.proofs.words.Ends.{Ends, ends_bind, ends_then, ends_pass, ends_frame, ends_caller, ends_object, ends_only_if, ends_need, ends_change_caller}
use Rattle.ix_model.specs.rows.Walks as sought

-- ---- joins with bottom
pub join_nothing : (a : Categories) → join a bottom ≡ a
join_nothing a = join-absorbs _ a (bottom-leq a)

pub nothing_joined : (a : Categories) → join bottom a ≡ a
nothing_joined a = join-comm _ a ∙ join_nothing a

-- ---- frames
pub record Seen (pid : ℕ) (f : Frame) (seen : Categories) (g : Frame) : Type 0 where
  pub is : g ≡ record f { processes = change f.processes pid (λ p. record p { label = join p.label seen }) }

module _ (pid : ℕ) (f : Frame) where
  joined : Categories → Process → Process
  joined l p = record p { label = join p.label l }

  pub seen_nothing : Seen pid f bottom f
  unfolding joined
  seen_nothing = record {
    is = ap (λ t. let k : Frame = record f { processes = t } in
        k) (sym (change_same _ _ _ (λ x here. (λ i. record x { label = join_nothing x.label i }))));
  }

  -- a look more
  seen_joined : (s l : Categories) (g : Frame) → Seen pid f s g → Seen pid f (join s l) (record g { processes = change g.processes pid (λ p. record p { label = join p.label l }) })
  unfolding joined
  seen_joined s l g r = record {
    is = ap (λ h. let k : Frame = record h { processes = change h.processes pid (joined l) } in k) r.is
        ∙ ap (λ t. let k : Frame = record f { processes = t } in k) (change_twice _ _ _ _)
        ∙ (λ i. record f { processes = change f.processes pid (λ p. record p { label = join-assoc p.label s l i }) });
  }

  -- or one that adds nothing
  seen_already : (s l : Categories) (g : Frame) (p : Process) → living (at g.processes pid) ≡ Some p → join p.label l ≡ p.label → Seen pid f s g → Seen pid f (join s l) g
  unfolding joined
  seen_already s l g p lives nothing r = record {
    is = ap (λ t. let k : Frame = record g { processes = t } in k) (sym (change_same _ _ _ (λ x here.
        let e = sym (is_living _ p lives) ∙ here in
        let one : p ≡ x = cc in
        subst (λ y. joined l y ≡ y) one (λ i. record p { label = nothing i }))))
        ∙ (seen_joined s l g r).is;
  }

  -- ---- looking
  pub ends_seen : (s l : Categories) (g : Frame) (P : Refusal → Frame → Type 0) (Q : Unit {0} → Frame → Type 0) → Seen pid f s g
      → ((r : Refusal) (h : Frame) → keeps_label r ≡ false → P r h) → ((h : Frame) → Seen pid f (join s l) h → Q tt h) → Ends (observe pid l g) P Q
  unfolding observe
  ends_seen s l g P Q r refused next =
      ends_bind _ _ g P Q (ends_caller _ g P _ (λ p lives. ends_only_if _ _ g P Q
      (λ raises. ends_then _ _ g P Q (ends_need _ _ g P _
      (λ free. ends_then _ _ g P Q (ends_need _ _ g P _
      (λ low. ends_change_caller _ _ g P Q (next _ (seen_joined s l g r)))
      (refused _ _ refl)))
      (refused _ _ refl)))
      (λ nothing. next g (seen_already s l g p lives (is_same _ _ nothing) r)))
      (refused _ _ refl))
    where
      is_same : (a b : Categories) → not (same a b) ≡ false → a ≡ b
      is_same a b h = (same-decides a b).0 (go _ h)
        where
          go : (x : Bool) → not x ≡ false → x ≡ true
          go true h = refl
          go false h = sym h

  -- ---- walking
  -- a path leads where it led before the looks
  pub record Before (s : Categories) (g : Frame) (p : Process) : Type 0 where
    pub was : Process
    pub lived : living (at f.processes pid) ≡ Some was
    pub is : p ≡ record was { label = join was.label s }

  pub lived_before : (s : Categories) (g : Frame) (p : Process) → Seen pid f s g → living (at g.processes pid) ≡ Some p → Before s g p
  unfolding joined
  lived_before s g p r lives = go _ refl (sym (ap (λ h. at h.processes pid) r.is ∙ at_changed f.processes pid (joined s)) ∙ is_living _ p lives)
    where
      go : (o : Option Process) → at f.processes pid ≡ o → option_map (joined s) o ≡ Some p → Before s g p
      go None is h = cc
      go (Some q) is h =
          let same : joined s q ≡ p = cc in
          record { was = q; lived = lives_as _ q is (ap (λ x. x.ended) same ∙ not_ended _ p lives); is = sym same }

  leads_to : (o : ℕ) (path : PathOf) (p : Process) (dir : Option ℕ) → living (at f.processes pid) ≡ Some p → (walk f.objects p path).outcome ≡ sought.Found o dir → object_of_path f pid path ≡ Some o
  unfolding object_of_path
  leads_to o path p dir lives ends = rw (lives, ends) refl

  walk_again : (s : Categories) (g : Frame) (p : Process) (path : PathOf) → Seen pid f s g → (b : Before s g p) → walk g.objects p path ≡ walk f.objects b.was path
  walk_again s g p path r b = (λ i. walk (r.is i).objects (b.is i) path)

  pub ends_seen_walk : (path : PathOf) (s : Categories) (g : Frame) (P : Refusal → Frame → Type 0) (Q : Sought → Frame → Type 0) → Seen pid f s g
      → ((r : Refusal) (h : Frame) → keeps_label r ≡ false → P r h) → ((w : Sought) (h : Frame) → Seen pid f (join s (along f pid path)) h
      → ((o : ℕ) (dir : Option ℕ) → w ≡ sought.Found o dir → object_of_path f pid path ≡ Some o) → Q w h) → Ends (walked_to pid path g) P Q
  unfolding walked_to along
  ends_seen_walk path s g P Q r refused next =
      ends_bind _ _ g P Q (ends_caller _ g P _ (λ p lives.
      let b = lived_before s g p r lives in
      let same = walk_again s g p _ r b in
      let met =
      ap (λ o. option_map_or (λ q. join_all (walk f.objects q path).looked) o bottom) b.lived ∙ sym (λ i. join_all (same i).looked) in
      ends_bind _ _ g P Q (ends_frame g P _ (
      ends_then _ _ g P Q (ends_seen s _ g P _ r refused (λ h there.
      ends_pass _ h P Q (next _ h (subst (λ l. Seen pid f (join s l) h) (sym met) there) (λ o dir ends. leads_to o _ _ _ b.lived (sym (λ i. (same i).outcome) ∙ ends))))))))
      (refused _ _ refl))

  -- ---- affecting
  -- whatever becomes of the object
  pub ends_moved : (o : ℕ) (l : Categories) (g : Frame) (P : Refusal → Frame → Type 0) (Q : Unit {0} → Frame → Type 0)
      → ((r : Refusal) (h : Frame) → keeps_label r ≡ false → P r h) → ((h : Frame) → Q tt h) → Ends (affect pid o l g) P Q
  unfolding affect
  ends_moved o l g P Q refused next =
      ends_bind _ _ g P Q (ends_caller pid g P _ (λ p lives.
      ends_bind _ _ g P Q (ends_object o g P _ (λ x is.
      ends_bind _ _ g P Q (ends_frame g P _ (ends_only_if _ _ g P Q
      (λ raises. ends_then _ _ g P Q (ends_need _ _ g P _
      (λ free. ends_then _ _ g P Q (ends_need _ _ g P _
      (λ low. ends_change_object o _ g P Q (next _))
      (refused _ _ refl)))
      (refused _ _ refl)))
      (λ same. next g))))
      (refused _ _ refl)))
      (refused _ _ refl))
