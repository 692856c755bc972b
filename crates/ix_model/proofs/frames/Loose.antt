-- A descriptor is given up, and with it what it alone kept.
use Rattle.std.{proofs.Common.{◌≡◌, ◌==◌, ◌&&◌, ◌||◌, ℕ, Bool, true, false, not, Option, Some, None, option_map, refl, sym, ap, ◌∙◌, inl, inr}, specs.{Option.option_map_or, List.list_any}}
use Rattle.std.proofs.lemmas.{Bool.{and_parts, eqb-true, eq-eqb, not-false, Decides.eqb_tells}, List.get_or-set_other}
use Rattle.ix_model.specs.{world.{World.{Frame, Object, Process, at, put, change, is_dir, is_pipe, is_on}, Owners.{is_at, owns, has_end}}, rows.{Walks.OpenFile, Lifetimes.has_lost}}
use Rattle.ix_model.specs.laws.Sound.{LabelsBelow, NamesSound, LivesSound, ProcessesSound, ClaimsSound, WithinLimits}
use Rattle.ix_model.proofs.{tables.{Tables.{at_changed, seen_changed, any_put}, Finds.{at_put, at_change, any_into}}, frames.Frames.FrameSound}
use Rattle.ix_model.proofs.{tables.Labels.{labels_object, labels_process}, words.Living.{is_living, not_ended, lives_as}, frames.Claimants.IsBehind}
use Rattle.ix_model.proofs.frames.{Floats.{floats_itself, floats_object}, Given.{OpensBut, and_more, processes_put_fd, limits_put_fd}}
use Rattle.ix_model.proofs.frames.Floated.{has_on, names_floated, lives_floated, processes_floated, limits_floated}

-- all claims but one are claimants'
pub record ClaimsBut (pid o end : ℕ) (f : Frame) : Type 0 where
  pub claimant : (m k p : ℕ) (x : Object) → at f.objects m ≡ Some x → at x.claims k ≡ Some p → ((m ≡ o) × (k ≡ end) × (p ≡ pid) → ⊥) → has_end f m k p ≡ true

-- sound, but that an open entry may have no owner any more
pub record Loose (e : ℕ) (f : Frame) : Type 0 where
  pub labels : LabelsBelow f
  pub names : NamesSound f
  pub lives : LivesSound f
  pub opens : OpensBut e f
  pub processes : ProcessesSound f
  pub claims : ClaimsSound f
  pub limits : WithinLimits f

-- ---- the descriptor
module _ (f : Frame) (s : FrameSound f) (pid fd : ℕ) (e : OpenFile) (b : IsBehind f pid fd e) where
  abbrev take : Process → Process
  take q = record q { fds = put q.fds fd None }

  abbrev taken : Frame
  taken = record f { processes = change f.processes pid (λ q. record q { fds = put q.fds fd None }) }

  at_taken : at (change f.processes pid take) pid ≡ Some (take b.process)
  at_taken = at_changed f.processes pid take ∙ ap (option_map take) (is_living _ _ b.lives)

  -- a test of a living process's descriptors that doesn't pass at the one that goes
  still_any : (p : Option ℕ → Bool) → (p (Some e.id) ≡ true → ⊥) → (n : ℕ) → option_map_or (λ q. not q.ended && list_any p q.fds) (at f.processes n) false
      ≡ true → option_map_or (λ q. not q.ended && list_any p q.fds) (at (change f.processes pid take) n) false ≡ true
  still_any p off n h = elim (eqb_tells n pid) [
    | inl same ↦
        let F : Option Process → Bool = λ o. option_map_or (λ q. not q.ended && list_any p q.fds) o false in
        let before : (not b.process.ended && list_any p b.process.fds) ≡ true =
        ap (λ o. option_map_or (λ q. not q.ended && list_any p q.fds) o false) (sym (is_living _ b.process b.lives))
        ∙ ap (λ k. option_map_or (λ q. not q.ended && list_any p q.fds) (at f.processes k) false) (sym same.1) ∙ h in
        ap (λ k. option_map_or (λ q. not q.ended && list_any p q.fds) (at (change f.processes pid take) k) false) same.1
        ∙ ap (λ o. option_map_or (λ q. not q.ended && list_any p q.fds) o false) at_taken
        ∙ and_more (not b.process.ended) _ _ (any_put p b.process.fds fd None (λ on. absurd (off (ap p (sym b.descriptor) ∙ on)))) before
    | inr apart ↦ ap (λ o. option_map_or (λ q. not q.ended && list_any p q.fds) o false) (get_or-set_other f.processes pid n _ None apart.1) ∙ h
  ]

  opens_taken : OpensBut e.id taken
  opens_taken = record {
    descriptor = λ n q fd2 e2 lives is. elim (at_change _ _ _ n q (is_living _ q lives)) [
      | inl c ↦
          let here = ap (λ y. at y.fds fd2) (sym c.same) ∙ is in
          elim (at_put _ fd _ _ e2 here) [
            | inl none ↦ let h = none.1 in cc
            | inr old ↦ s.opens.descriptor pid c.was fd2 e2 (lives_as _ _ c.is_was (ap (λ y. y.ended) (sym c.same) ∙ not_ended _ q lives)) old.1
          ]
      | inr other ↦ s.opens.descriptor n q fd2 e2 (lives_as _ q other.1 (not_ended _ q lives)) is
    ];
    owned = λ e2 other stands. any_into (owns e2) (owns e2) refl refl f.processes (change f.processes pid take)
        (still_any (is_at e2) (λ on. other (sym (eqb-true e.id e2 on)))) (s.opens.owned e2 stands);
    target = s.opens.target;
    end = s.opens.end;
  }

  claims_taken : ClaimsBut pid e.entry.object e.entry.end taken
  claims_taken = record {
    claimant = λ m k n x is claim but. elim (eqb_tells n pid) [
      | inl same ↦ still_any _
          (λ on.
          let p = and_parts _ _ (ap (is_on m k) (sym b.stands) ∙ on) in
          but (sym (eqb-true e.entry.object m p.0), sym (eqb-true e.entry.end k p.1), same.1)) n (s.claims.claimant m k n x is claim)
      | inr apart ↦ ap (has_on f.opens m k) (get_or-set_other f.processes pid n _ None apart.1) ∙ s.claims.claimant m k n x is claim
    ];
  }

  names_taken : NamesSound taken
  names_taken = search

  lives_taken : LivesSound taken
  lives_taken = search

  pub loose_taken : ClaimsSound taken → Loose e.id taken
  loose_taken claims = record {
    labels = labels_process f s.labels _ _ (λ q here. s.labels.processes pid q here);
    names = names_taken;
    lives = lives_taken;
    opens = opens_taken;
    processes = processes_put_fd f _ fd _ s.processes;
    claims = claims;
    limits = limits_put_fd f _ fd _ s.limits;
  }

  -- ---- the claim
  abbrev unclaiming : Object → Object
  unclaiming x = record x { claims = put x.claims e.entry.end None }

  abbrev unclaimed : Frame
  unclaimed = record f {
    processes = change f.processes pid (λ q. record q { fds = put q.fds fd None });
    objects =
        change f.objects e.entry.object (λ x. record x { claims = put x.claims e.entry.end None });
  }

  claims_unclaimed : ClaimsSound unclaimed
  claims_unclaimed = record {
    claimant = λ m k p x is claim. elim (at_change _ _ _ m x is) [
      | inl c ↦ elim (at_put _ _ k _ p (ap (λ y. at y.claims k) (sym c.same) ∙ claim)) [
        | inl none ↦ let h = none.1 in cc
        | inr old ↦ claims_taken.claimant m k p c.was (ap (at f.objects) c.here ∙ c.is_was) old.1 (λ one. old.0 one.1)
      ]
      | inr other ↦ claims_taken.claimant m k p x other.1 claim (λ one. other.0 one.0)
    ];
  }

  -- it is the process's own where it isn't lost
  pub claims_kept : has_lost taken pid e.entry.object e.entry.end ≡ false → ClaimsSound taken
  claims_kept kept = record {
    claimant = λ m k p x is claim. elim (eqb_tells p pid) [
      | inr apart ↦ claims_taken.claimant m k p x is claim (λ one. apart.1 one.2)
      | inl same ↦ elim (eqb_tells m e.entry.object) [
        | inr apart ↦ claims_taken.claimant m k p x is claim (λ one. apart.1 one.0)
        | inl same_object ↦ elim (eqb_tells k e.entry.end) [
          | inr apart ↦ claims_taken.claimant m k p x is claim (λ one. apart.1 one.1)
          | inl same_end ↦
              let there = ap (at f.objects) (sym same_object.1) ∙ is in
              let claimed = ap (at x.claims) (sym same_end.1) ∙ claim in
              let own =
              ap (λ o. option_map_or (λ y. option_map_or (λ n. n == pid) (at y.claims e.entry.end) false) o false) there
              ∙ ap (λ c. option_map_or (λ n. n == pid) c false) claimed ∙ eq-eqb p pid same.1 in
              let left = not-false _ (ap (λ t. t && not (has_end taken e.entry.object e.entry.end pid)) (sym own) ∙ kept) in
              (λ i. has_end taken (same_object.1 i) (same_end.1 i) (same.1 i)) ∙ left
        ]
      ]
    ];
  }

  pub loose_unclaimed : Loose e.id unclaimed
  loose_unclaimed =
      let r = floats_object _ _ _ _ (λ y. refl) (floats_itself _) in
      let below = labels_process f s.labels _ _ (λ q here. s.labels.processes pid q here) in
      record {
        labels = labels_object _ below _ _ (λ x is. s.labels.objects e.entry.object x is);
        names = names_floated _ _ r names_taken;
        lives = lives_floated _ _ r lives_taken;
        opens = record {
          descriptor = opens_taken.descriptor;
          owned = opens_taken.owned;
          target = λ n y is. seen_changed (λ z. option_map_or (λ v. not (is_dir v)) z false) unclaiming (λ z. refl) f.objects e.entry.object y.object ∙ s.opens.target n y is;
          end = λ n y is. ap (λ t. y.end == 0 || y.end == 1 && t) (seen_changed (λ z. option_map_or is_pipe z false) unclaiming (λ z. refl) f.objects e.entry.object y.object) ∙ s.opens.end n y is;
        };
        processes = processes_floated _ _ r (λ n. refl) (processes_put_fd f _ fd _ s.processes);
        claims = claims_unclaimed;
        limits = limits_floated _ _ r s.limits.log (limits_put_fd f _ fd _ s.limits);
      }
