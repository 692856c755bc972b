-- A new open entry, and a new descriptor on an open entry that stands.
use Rattle.std.proofs.Common.{◌≡◌, ◌≢◌, ◌<◌, ◌==◌, ℕ, Bool, true, false, true≢false, not, ◌&&◌, ◌||◌, List, length, sum, count_by, map, replicate, Option, Some}
use Rattle.std.{proofs.Common.{None, is_some, is_none, option_map, cond, refl, sym, ap, ◌∙◌, subst, arith, inl, inr, length-set}, specs.{Option.option_map_or, List.list_any}}
use Rattle.std.proofs.lemmas.{Bool.{Decides.eqb_tells, eq-eqb}, List.{get_or-set_same, get_or-set_other, length-replicate, Folds.list_any_at, Sums.sum-map}}
use Rattle.ix_model.specs.world.World.{Frame, Process, Open, at, put, change, living, is_dir, is_pipe, is_on, held}
use Rattle.ix_model.specs.{world.Owners.{is_at, owns, owned}, laws.Sound.{LivesSound, OpensSound, ProcessesSound, ClaimsSound, WithinLimits}}
use Rattle.ix_model.proofs.tables.Tables.{none_is, SameBut, Back, back, same_itself, same_changed, seen_changed, map_changed, at_changed, any_put, any_more}
use Rattle.ix_model.proofs.{tables.Finds.in_table, words.{Lasts.some_put, Living.{is_living, not_ended, lives_as}}, frames.Floated.has_on}

no_none : {A : Type 0} (p : Option A → Bool) (o : Option A) → p None ≡ false → o ≡ None → p o ≡ true → ⊥
no_none p o none is h = true≢false (sym h ∙ ap p is ∙ none)

pub or_more : (a b c : Bool) → (b ≡ true → c ≡ true) → (a || b) ≡ true → (a || c) ≡ true
or_more true b c more h = refl
or_more false b c more h = more h

pub and_more : (a b c : Bool) → (b ≡ true → c ≡ true) → (a && b) ≡ true → (a && c) ≡ true
and_more true b c more h = more h
and_more false b c more h = h

pub either_more : (a b c d : Bool) → (a ≡ true → c ≡ true) → (b ≡ true → d ≡ true) → (a || b) ≡ true → (c || d) ≡ true
either_more true b c d one two h = let e = one refl in rw e refl
either_more false b c d one two h = go c
  where
    go : (x : Bool) → (x || d) ≡ true
    go true = refl
    go false = two h

-- what holds of open entries where one has no owner yet, or no more
pub record OpensBut (but : ℕ) (f : Frame) : Type 0 where
  pub descriptor : (p : ℕ) (q : Process) (fd e : ℕ) → living (at f.processes p) ≡ Some q → at q.fds fd ≡ Some e → is_some (at f.opens e) ≡ true
  pub owned : (e : ℕ) → e ≢ but → is_some (at f.opens e) ≡ true → owned f.processes e ≡ true
  pub target : (e : ℕ) (x : Open) → at f.opens e ≡ Some x → option_map_or (λ y. not (is_dir y)) (at f.objects x.object) false ≡ true
  pub end : (e : ℕ) (x : Open) → at f.opens e ≡ Some x → (x.end == 0 || x.end == 1 && option_map_or is_pipe (at f.objects x.object) false) ≡ true

pub opens_but : (but : ℕ) (f : Frame) → OpensSound f → OpensBut but f
opens_but but f r = record { descriptor = r.descriptor; owned = λ e other. r.owned e; target = r.target; end = r.end }

-- ---- a new open entry
abbrev pub entered : Frame → ℕ → Open → Frame
entered f e x = record f { opens = put f.opens e (Some x) }

module _ (f : Frame) (e : ℕ) (x : Open) (e_in : e < length f.opens) (e_none : at f.opens e ≡ None) where
  new_at : at (put f.opens e (Some x)) e ≡ Some x
  new_at = get_or-set_same f.opens e _ None e_in

  pub held_more : (o end : ℕ) → held f.opens o end ≡ true → held (put f.opens e (Some x)) o end ≡ true
  held_more o end h = any_put _ _ e _ (λ on. absurd (no_none (is_on o end) _ refl e_none on)) h

  -- the new entry is on its end
  pub held_here : (o end : ℕ) → is_on o end (Some x) ≡ true → held (put f.opens e (Some x)) o end ≡ true
  held_here o end on =
      let low : e < length (put f.opens e (Some x)) = omega (arith, length-set f.opens e (Some x), e_in) in
      list_any_at _ _ e None low (ap (is_on o end) new_at ∙ on)

  pub lives_entered : LivesSound f → LivesSound (entered f e x)
  lives_entered l = record {
    file = λ o y is file. or_more _ _ _ (held_more o 0) (l.file o y is file);
    pipe = λ o y is pipe. either_more _ _ _ _ (held_more o 0) (held_more o 1) (l.pipe o y is pipe);
  }

  -- what holds of the new entry and of each that was there
  each_entry : (P : Open → Type 0) → P x → ((k : ℕ) (y : Open) → at f.opens k ≡ Some y → P y) → (k : ℕ) (y : Open) → at (put f.opens e (Some x)) k ≡ Some y → P y
  each_entry P new old k y is = elim (eqb_tells k e) [
    | inl same ↦
        let h = sym new_at ∙ ap (λ m. at (put f.opens e (Some x)) m) (sym same.1) ∙ is in
        let i : x ≡ y = cc in
        subst P i new
    | inr other ↦ old k y (sym (get_or-set_other f.opens e k _ None other.1) ∙ is)
  ]

  pub opens_entered : option_map_or (λ y. not (is_dir y)) (at f.objects x.object) false ≡ true
      → (x.end == 0 || x.end == 1 && option_map_or is_pipe (at f.objects x.object) false) ≡ true → OpensSound f → OpensBut e (entered f e x)
  opens_entered no_dir at_end r = record {
    descriptor = λ p q fd k lives is. some_put _ e x k (r.descriptor p q fd k lives is);
    owned = λ k other stands. r.owned k (ap is_some (sym (get_or-set_other f.opens e k _ None other)) ∙ stands);
    target = each_entry _ no_dir r.target;
    end = each_entry _ at_end r.end;
  }

  on_more : (o end : ℕ) (d : Option ℕ) → option_map_or (λ k. is_on o end (at f.opens k)) d false ≡ true → option_map_or (λ k. is_on o end (at (put f.opens e (Some x)) k)) d false ≡ true
  on_more o end None h = h
  on_more o end (Some k) h = elim (eqb_tells k e) [
    | inl same ↦ absurd (no_none (is_on o end) _ refl e_none (ap (λ m. is_on o end (at f.opens m)) (sym same.1) ∙ h))
    | inr other ↦ ap (is_on o end) (get_or-set_other f.opens e k _ None other.1) ∙ h
  ]

  has_more : (o end : ℕ) (q : Option Process) → has_on f.opens o end q ≡ true → has_on (put f.opens e (Some x)) o end q ≡ true
  has_more o end None h = h
  has_more o end (Some q) h = and_more (not q.ended) _ _ (any_more _ _ q.fds (on_more o end)) h

  pub claims_entered : ClaimsSound f → ClaimsSound (entered f e x)
  claims_entered c = record { claimant = λ o end n y is claim. has_more o end (at f.processes n) (c.claimant o end n y is claim) }

  pub limits_entered : WithinLimits f → WithinLimits (entered f e x)
  limits_entered l = let opens = length-set f.opens e (Some x) ∙ l.opens in search

-- ---- a new descriptor
abbrev pub given : Frame → ℕ → ℕ → ℕ → Frame
given f pid fd e = record f { processes = change f.processes pid (λ q. record q { fds = put q.fds fd (Some e) }) }

-- a process without what is in its descriptors
abbrev pub emptied : Process → Process
emptied p = record p { fds = replicate (length p.fds) None }

emptied_twice : (p : Process) → emptied (emptied p) ≡ emptied p
emptied_twice p = ap (λ n. record p { fds = replicate n None }) (length-replicate _ None)

-- whatever is put in a descriptor
module _ (f : Frame) (pid fd : ℕ) (d : Option ℕ) where
  puts : Process → Process
  puts q = record q { fds = put q.fds fd d }

  put_same : SameBut emptied f.processes (change f.processes pid puts)
  unfolding puts
  put_same = same_changed _ _ _ _ _ (λ q. ap (λ n. record q { fds = replicate n None }) (length-set q.fds fd d)) (same_itself _ _)

  put_was : (n : ℕ) (q : Process) → at (change f.processes pid puts) n ≡ Some q → Back emptied f.processes n q
  put_was n q is = back _ emptied_twice _ _ put_same n q is

  pub processes_put_fd : ProcessesSound f → ProcessesSound (record f { processes = change f.processes pid (λ q. record q { fds = put q.fds fd d }) })
  unfolding puts
  processes_put_fd r = record {
    none = none_is _ (seen_changed is_none puts (λ y. refl) f.processes pid 0 ∙ ap is_none r.none);
    home = λ n q alive.
        let w = put_was n q (is_living _ q alive) in
        ap (λ y. option_map_or is_dir (at f.objects y.cwd) false) w.same ∙ r.home n w.was (lives_as _ _ w.is_was (sym (ap (λ y. y.ended) w.same) ∙ not_ended _ q alive));
    parent = λ n k q is parent.
        let w = put_was n q is in
        seen_changed (λ y. option_map_or (λ z. not z.ended) y false) puts (λ y. refl) f.processes pid k ∙ r.parent n k w.was w.is_was (sym (ap (λ y. y.parent) w.same) ∙ parent);
    descriptors = λ n q is.
        let w = put_was n q is in
        sym (length-replicate _ None) ∙ ap (λ y. length y.fds) w.same ∙ length-replicate _ None ∙ r.descriptors n w.was w.is_was;
  }

  pub limits_put_fd : WithinLimits f → WithinLimits (record f { processes = change f.processes pid (λ q. record q { fds = put q.fds fd d }) })
  unfolding puts
  limits_put_fd l =
      let count : (t : List (Option Process)) → count_by is_some t ≡ sum (map (λ q. cond (is_some q) 1 0) t) = λ t. sym (sum-map (λ q. cond _ 1 0) t) in
      let same = count (change f.processes pid puts)
      ∙ ap sum (map_changed (λ q. cond _ 1 0) puts (λ y. refl) f.processes pid) ∙ sym (count f.processes) in
      record { objects = l.objects; pipes = l.pipes; past = l.past; numbers = l.numbers; opens = l.opens; processes = omega (arith, same, l.processes); names = l.names; log = l.log }

module _ (f : Frame) (pid : ℕ) (p : Process) (fd e : ℕ) (lives : living (at f.processes pid) ≡ Some p) (fd_in : fd < length p.fds) (fd_none : at p.fds fd ≡ None) where
  give : Process → Process
  give q = record q { fds = put q.fds fd (Some e) }

  given_at : at (change f.processes pid give) pid ≡ Some (give p)
  unfolding give
  given_at = at_changed f.processes pid give ∙ ap (option_map give) (is_living _ p lives)

  -- the process lives with its new descriptor
  pub given_lives : living (at (given f pid fd e).processes pid) ≡ Some (record p { fds = put p.fds fd (Some e) })
  unfolding give
  given_lives = lives_as _ _ given_at (not_ended _ p lives)

  inside : pid < length (change f.processes pid give)
  inside = in_table _ _ _ given_at

  given_is : (q : Process) → at (change f.processes pid give) pid ≡ Some q → give p ≡ q
  given_is q here = let h = sym given_at ∙ here in cc

  -- ---- open entries
  module _ (but : OpensBut e f) (stands : is_some (at f.opens e) ≡ true) where
    descriptor_here : (fd2 e2 : ℕ) → at (put p.fds fd (Some e)) fd2 ≡ Some e2 → is_some (at f.opens e2) ≡ true
    descriptor_here fd2 e2 is = elim (eqb_tells fd2 fd) [
      | inl same ↦
          let h = sym (get_or-set_same p.fds fd _ None fd_in) ∙ ap (λ k. at (put p.fds fd (Some e)) k) (sym same.1) ∙ is in
          let k : e ≡ e2 = cc in
          ap (λ m. is_some (at f.opens m)) (sym k) ∙ stands
      | inr other ↦ but.descriptor pid p fd2 e2 lives (sym (get_or-set_other p.fds fd fd2 _ None other.1) ∙ is)
    ]

    descriptor_given : (n : ℕ) (q : Process) (fd2 e2 : ℕ) → living (at (change f.processes pid give) n) ≡ Some q → at q.fds fd2 ≡ Some e2 → is_some (at f.opens e2) ≡ true
    unfolding give
    descriptor_given n q fd2 e2 alive is = elim (eqb_tells n pid) [
      | inl same ↦
          let here = ap (λ k. at (change f.processes pid give) k) (sym same.1) ∙ is_living _ q alive in
          descriptor_here _ e2 (ap (λ y. at y.fds fd2) (given_is q here) ∙ is)
      | inr other ↦ but.descriptor n q fd2 e2 (ap living (sym (get_or-set_other f.processes pid n _ None other.1)) ∙ alive) is
    ]

    owns_more : (e2 : ℕ) → owns e2 (at f.processes pid) ≡ true → owns e2 (option_map give (at f.processes pid)) ≡ true
    unfolding give
    owns_more e2 h =
        let alive = not_ended _ p lives in
        let before = ap (owns e2) (sym (is_living _ p lives)) ∙ h in
        ap (λ o. owns e2 (option_map give o)) (is_living _ p lives)
        ∙ ap (λ b. not b && list_any (is_at e2) (put p.fds fd (Some e))) alive
        ∙ any_put (is_at e2) p.fds fd (Some e) (λ on. absurd (no_none (is_at e2) _ refl fd_none on)) (ap (λ b. not b && list_any (is_at e2) p.fds) (sym alive) ∙ before)

    owned_here : owned (change f.processes pid give) e ≡ true
    unfolding give
    owned_here =
        let alive = not_ended _ p lives in
        let low : fd < length (put p.fds fd (Some e)) = omega (arith, length-set p.fds fd (Some e), fd_in) in
        let at_fd = list_any_at (is_at e) _ fd None low (ap (is_at e) (get_or-set_same p.fds fd _ None fd_in) ∙ eq-eqb e e refl) in
        list_any_at _ _ pid None inside (ap (owns e) given_at ∙ ap (λ b. not b && list_any (is_at e) (put p.fds fd (Some e))) alive ∙ at_fd)

    pub opens_given : OpensSound (given f pid fd e)
    unfolding give
    opens_given = record {
      descriptor = descriptor_given;
      owned = λ e2 is. elim (eqb_tells e2 e) [
        | inl same ↦ ap (owned (change f.processes pid give)) same.1 ∙ owned_here
        | inr other ↦ any_put (owns e2) f.processes pid _ (owns_more e2) (but.owned e2 other.1 is)
      ];
      target = but.target;
      end = but.end;
    }

  -- ---- claims
  gives_more : (o end : ℕ) → has_on f.opens o end (at f.processes pid) ≡ true → has_on f.opens o end (option_map give (at f.processes pid)) ≡ true
  unfolding give
  gives_more o end h =
      let t = f.opens in
      let before = ap (has_on t o end) (sym (is_living _ p lives)) ∙ h in
      ap (λ q. has_on t o end (option_map give q)) (is_living _ p lives)
      ∙ and_more _ _ _ (any_put _ _ fd _
      (λ on. absurd (no_none (λ d. option_map_or (λ k. is_on o end (at t k)) d false) _ refl fd_none on))) before

  pub claims_given : ClaimsSound f → ClaimsSound (given f pid fd e)
  unfolding give
  claims_given c = record {
    claimant = λ o end n y is claim. elim (eqb_tells n pid) [
      | inl same ↦ ap (λ k. has_on f.opens o end (at (change f.processes pid give) k)) same.1 ∙ ap (has_on f.opens o end) (at_changed f.processes pid give)
          ∙ gives_more o _ (ap (λ k. has_on f.opens o end (at f.processes k)) (sym same.1) ∙ c.claimant o end n y is claim)
      | inr other ↦ ap (has_on f.opens o end) (get_or-set_other f.processes pid n _ None other.1) ∙ c.claimant o end n y is claim
    ];
  }
