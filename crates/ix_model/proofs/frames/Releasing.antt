-- An open entry without an owner goes, and with it the object that it alone kept.
use Rattle.std.{proofs.Common.{◌≡◌, ◌≢◌, ◌==◌, ℕ, true, false, not, List, Option, Some, None, is_some, refl, sym, ap, ◌∙◌, inl, inr, length-set}, specs.{Option.option_map_or, List.list_any}}
use Rattle.std.proofs.lemmas.{Bool.{and_from, and_parts, eq-eqb, eqb-true, not-true, not-false, Decides.eqb_tells}, List.get_or-set_other}
use Rattle.ix_model.specs.{world.{World.{Frame, Object, Process, Open, at, put, change, living, is_dir, is_on, held}, Owners.{is_at, owns, owned}}, declared.refusal.Refusal.Refusal}
use Rattle.ix_model.specs.rows.{Walks.{OpenFile, behind}, Rows.{◌>>◌, put_open}, Lifetimes.{has_lost, let_go_claim, let_go_open, let_go_object, let_go}}
use Rattle.ix_model.proofs.{tables.{Tables.seen_changed, Finds.{at_put, any_by, any_into, no_any, passes_some}}, frames.Floated.has_on}
use Rattle.ix_model.proofs.{tables.SameKinds.{Kinds, kinds_floats, kinds_gone}, words.Living.{is_living, not_ended, lives_as}, frames.Gone.object_released}
use Rattle.ix_model.proofs.{words.Ends.{Ends, ends_then, ends_only_if, ends_change_object, ends_change_caller, ends_put_open}, frames.Claimants.is_behind}
use Rattle.ix_model.proofs.frames.{Floats.{floats_itself, floats_object}, Frames.{FrameSound, Follows}, Given.{or_more, either_more}}
use Rattle.ix_model.proofs.frames.{Awaiting.{Awaiting, awaiting, names_but}, Loose.{Loose, loose_taken, loose_unclaimed, claims_kept}}

-- ---- the open entry
module _ (e : ℕ) (f : Frame) (l : Loose e f) where
  owned_sound : owned f.processes e ≡ true → FrameSound f
  owned_sound own = record {
    labels = l.labels;
    names = l.names;
    lives = l.lives;
    opens = record {
      descriptor = l.opens.descriptor;
      owned = λ e2 stands. elim (eqb_tells e2 e) [
        | inl same ↦ ap (owned f.processes) same.1 ∙ own
        | inr other ↦ l.opens.owned e2 other.1 stands
      ];
      target = l.opens.target;
      end = l.opens.end;
    };
    processes = l.processes;
    claims = l.claims;
    limits = l.limits;
  }

  module _ (y : Open) (there : at f.opens e ≡ Some y) (lost : owned f.processes e ≡ false) where
    abbrev left : List (Option Open)
    left = put f.opens e None

    not_on : (n : ℕ) (q : Process) (fd : ℕ) → living (at f.processes n) ≡ Some q → at q.fds fd ≡ Some e → ⊥
    not_on n q fd lives on = no_any (owns e) refl f.processes lost n (ap (owns e) (is_living _ q lives)
        ∙ and_from _ _ (ap not (not_ended _ q lives)) (any_by (is_at e) refl q.fds fd (ap (is_at e) on ∙ eq-eqb e e refl)))

    elsewhere : (n : ℕ) → n ≢ e → at left n ≡ at f.opens n
    elsewhere n other = get_or-set_other f.opens e n None None other

    stood : (n : ℕ) (z : Open) → at left n ≡ Some z → (n ≢ e) × (at f.opens n ≡ Some z)
    stood n z is = elim (at_put _ e n _ z is) [
      | inl here ↦ let h = here.1 in cc
      | inr apart ↦ apart
    ]

    held_left : (m k : ℕ) → m ≢ y.object → held f.opens m k ≡ true → held left m k ≡ true
    held_left m k other h = any_into (is_on m k) (is_on m k) refl refl f.opens left (λ n on. elim (eqb_tells n e) [
      | inl same ↦
          let p = and_parts (y.object == m) (y.end == k) (ap (is_on m k) (sym there) ∙ ap (λ j. is_on m k (at f.opens j)) (sym same.1) ∙ on) in
          absurd (other (sym (eqb-true y.object m p.0)))
      | inr apart ↦ ap (is_on m k) (elsewhere n apart.1) ∙ on
    ]) h

    on_left : (n : ℕ) (q : Process) (m k : ℕ) → living (at f.processes n) ≡ Some q → list_any (λ d. option_map_or (λ j. is_on m k (at f.opens j)) d false) q.fds
        ≡ true → list_any (λ d. option_map_or (λ j. is_on m k (at left j)) d false) q.fds ≡ true
    on_left n q m k lives h = any_into (λ d. option_map_or (λ j. is_on m k (at f.opens j)) d false) (λ d. option_map_or (λ j. is_on m k (at left j)) d false) refl refl q.fds q.fds (λ fd on.
        let d = passes_some (λ d. option_map_or (λ j. is_on m k (at f.opens j)) d false) refl _ on in
        let apart : d.0 ≢ e = λ same. not_on n q fd lives (d.1 ∙ ap Some same) in
        ap (λ o. option_map_or (λ j. is_on m k (at left j)) o false) d.1 ∙ ap (is_on m k) (elsewhere _ apart) ∙ ap (λ o. option_map_or (λ j. is_on m k (at f.opens j)) o false) (sym d.1) ∙ on) h

    has_left : (n m k : ℕ) → has_on f.opens m k (at f.processes n) ≡ true → has_on left m k (at f.processes n) ≡ true
    has_left n m k h =
        let q = passes_some (has_on f.opens m k) refl (at f.processes n) h in
        let p = and_parts _ (list_any (λ d. option_map_or (λ j. is_on m k (at f.opens j)) d false) q.0.fds) (ap (has_on f.opens m k) (sym q.1) ∙ h) in
        ap (has_on left m k) q.1 ∙ and_from _ _ p.0 (on_left n _ m k (lives_as _ _ q.1 (not-true _ p.0)) p.1)

    awaiting_left : Awaiting y.object (record f { opens = left })
    awaiting_left = record {
      labels = search;
      names =
          let n = names_but _ f l.names in
          record { root = n.root; in_directories = n.in_directories; living = n.living; differ = n.differ; once = n.once };
      lives = record {
        file = λ m x other is kind. or_more _ _ _ (held_left m 0 other) (l.lives.file m x is kind);
        pipe = λ m x other is kind. either_more _ _ _ _ (held_left m 0 other) (held_left m 1 other) (l.lives.pipe m x is kind);
      };
      opens = record {
        descriptor = λ n q fd e2 lives is.
            let apart : e2 ≢ e = λ same. not_on n q fd lives (is ∙ ap Some same) in
            ap is_some (elsewhere e2 apart) ∙ l.opens.descriptor n q fd e2 lives is;
        owned = λ e2 stands.
            let z = passes_some is_some refl _ stands in
            let w = stood e2 _ z.1 in
            l.opens.owned e2 w.0 (ap is_some w.1);
        target = λ n z is. l.opens.target n z (stood n z is).1;
        end = λ n z is. l.opens.end n z (stood n z is).1;
      };
      processes = search;
      claims = record { claimant = λ m k n x is claim. has_left n m k (l.claims.claimant m k n x is claim) };
      limits = let opens = length-set f.opens e None ∙ l.limits.opens in search;
    }

-- ---- the whole
no_directory : (o : Option Object) → option_map_or (λ y. not (is_dir y)) o false ≡ true → option_map_or is_dir o false ≡ false
no_directory None h = refl
no_directory (Some x) h = not-true _ h

-- from a loose frame, the open entry and the object
module _ (base : Frame) (P : Refusal → Frame → Type 0) (Q : Unit {0} → Frame → Type 0) where
  released : (e : ℕ) (f : Frame) → Loose e f → (y : Open) → at f.opens e ≡ Some y → option_map_or is_dir (at f.objects y.object) false ≡ false
      → Kinds base.objects f.objects → ((h : Frame) → Follows base h → h.processes ≡ f.processes → Q tt h)
      → Ends (◌>>◌ (let_go_open e) (let_go_object y.object) f) P Q
  unfolding let_go_open
  released e f l y there no_dir kinds next = ends_then _ _ f P Q (ends_only_if _ (put_open e None) f P _
      (λ lost.
      let g : Frame = record f { opens = put f.opens e None } in
      ends_put_open e _ f P _ (object_released g _ P Q (awaiting_left e f l y there (not-true _ lost)) no_dir
      (λ sound. next _ (record { sound = sound; kinds = kinds }) refl)
      (λ sound. next _ (record { sound = sound; kinds = kinds_gone base.objects f.objects kinds y.object }) refl)))
      (λ own.
      let s = owned_sound e f l (not-false _ own) in
      object_released f _ P Q (awaiting _ f s) no_dir
      (λ sound. next f (record { sound = sound; kinds = kinds }) refl)
      (λ sound. next _ (record { sound = sound; kinds = kinds_gone base.objects f.objects kinds y.object }) refl)))

  -- a descriptor, its claim, its open entry and the object
  pub descriptor_released : (f : Frame) (pid fd : ℕ) (e : OpenFile) → behind f pid fd ≡ Some e → Follows base f
      → ((h : Frame) → Follows base h → h.processes ≡ change f.processes pid (λ q. record q { fds = put q.fds fd None }) → Q tt h)
      → Ends (let_go pid fd e f) P Q
  unfolding let_go let_go_claim
  descriptor_released f pid fd e is k next =
      let b = is_behind f pid fd e is in
      let s = k.sound in
      let no_dir : option_map_or is_dir (at f.objects e.entry.object) false ≡ false = no_directory (at f.objects e.entry.object) (s.opens.target e.id e.entry b.stands) in
      let taken : Frame = record f { processes = change f.processes pid (λ q. record q { fds = put q.fds fd None }) } in
      let unclaiming : Object → Object = λ x. record x { claims = put x.claims e.entry.end None } in
      ends_then _ _ f P Q (ends_change_caller pid _ f P _ (
      ends_then _ _ taken P Q (ends_only_if (has_lost taken pid e.entry.object e.entry.end) _ taken P _
      (λ lost. ends_change_object e.entry.object _ taken P _ (
      released e.id (record taken { objects = change f.objects e.entry.object unclaiming }) (loose_unclaimed f s pid fd e b) e.entry b.stands
      (seen_changed (λ y. option_map_or is_dir y false) unclaiming (λ y. refl) f.objects e.entry.object e.entry.object ∙ no_dir)
      (kinds_floats base.objects f.objects k.kinds _ (floats_object taken taken e.entry.object unclaiming (λ y. refl) (floats_itself taken)).objects) next))
      (λ kept. released e.id taken (loose_taken f s pid fd e b (claims_kept f s pid fd e b kept)) e.entry b.stands no_dir k.kinds next))))
