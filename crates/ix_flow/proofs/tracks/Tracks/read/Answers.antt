use Rattle.std.proofs.Common.{◌≡◌, ◌≤◌, ◌∙◌, ℕ, Bool, true, false, Option, Some, None, option_map, if◌then◌else◌, refl, sym, ap, subst}
use Rattle.ix_flow.{specs.{Marks.marks_of, Tracking.{AreSides, AreTracks}}, proofs.{ReadTracks.{followed, has_side, idle, is_opened}, tracks.Tracks.read.Goals.{then-piped, else-piped}}}
use Rattle.ix_model.specs.declared.reply.Reply.TheVariants as reply
use Rattle.ix_flow.proofs.tracks.Tracks.read.Goals as goal

none_given : (count k : ℕ) → count ≡ 0 → reply.Bytes count ≡ reply.Bytes k → k ≡ 0
none_given count k none same = cc

none_of : {A : Type 0} (o : Option A) → ((x : A) → o ≡ Some x → ⊥) → o ≡ None
none_of None isnt = refl
none_of (Some x) isnt = absurd (isnt x refl)

begins : (b piped : Bool) (at front first rest : ℕ) → at ≡ first → ((piped ≡ b) × (first ≡ (if b then front else rest))) → at ≡ (if piped then front else rest)
begins b piped at front first rest is known = is ∙ known.1 ∙ ap (λ x. if x then front else rest) (sym known.0)

pub returns-in_default-clause-follows : goal.returns-in_default-clause-follows
returns-in_default-clause-follows c = λ seat line limit before step are.
    idle _ _ _ _ _ _ step refl _ are
    (subst (λ n. n ≤ 6800000) c.requires.place c.requires.few) _
    (λ k bytes. absurd (c.in_default.not-Bytes k bytes))

pub returns-then-count-eq0-clause-follows : goal.returns-then-count-eq0-clause-follows
returns-then-count-eq0-clause-follows c = λ seat line limit before step are.
    idle _ _ _ _ _ _ step refl _ are
    (subst (λ n. n ≤ 6800000) c.requires.place c.requires.few) _
    (λ k bytes. none_given _ k c.if-count-eq0.true (sym c.in-Bytes.is ∙ bytes))

pub returns-in_default-opened-clause-follows : goal.returns-in_default-opened-clause-follows
returns-in_default-opened-clause-follows c = λ seat line limit before step are.
    absurd (is_opened _ _ _ _ _ _ step refl _ are
    (subst (λ n. n ≤ 6800000) c.requires.place c.requires.few)
    _ c.in-Bytes.is c.if-count-eq0.false _ (sym c.opened.ensures ∙ none_of _ c.in_default-opened.not-Some))

pub returns-in_default-get-clause-follows : goal.returns-in_default-get-clause-follows
returns-in_default-get-clause-follows c = λ seat line limit before step are.
    absurd (has_side _ _ _ _ _ _ step refl _ are
    (subst (λ n. n ≤ 6800000) c.requires.place c.requires.few)
    _ c.in-Bytes.is c.if-count-eq0.false _ _ (λ b. refl) (λ b. refl) (λ b. refl) (sym c.opened.ensures ∙ c.in-Some.is)
    (sym c.get.ensures ∙ ap (option_map (λ s. s.now)) (none_of _ c.in_default-get.not-Some)))

pub returns-clause-follows : goal.returns-clause-follows
returns-clause-follows c = λ seat line limit before step are.
    let same = ap (λ t. t.sides) c.in_ok-count.ensures in
    let all = followed _ _ _ _ _ _ step refl _ are (subst (λ (n : ℕ). n ≤ 6800000) c.requires.place c.requires.few)
    _ c.in-Bytes.is c.if-count-eq0.false _ _ (λ b. refl) (λ b. refl) (λ b. refl) (sym c.opened.ensures ∙ c.in-Some.is)
    _ (sym c.get.ensures ∙ ap (option_map (λ s. s.now)) c.in-Some-get.is) _ c.is_pipe-piped.ensures _
    (elim c.if-piped.branch [
      | then-piped w ↦ begins true _ _ _ _ _ w.from-is (w.if-piped.true, w.front-from.ensures)
      | else-piped w ↦ begins false _ _ _ _ _ w.from-is (w.if-piped.false, w.saturating_sub-from.ensures)
    ])
    _ _ _ _ _ _ c.requires.place c.in_ok-lines.ensures.text c.in_ok-lines.ensures.lines c.in_ok-count.ensures
    (λ labels past stand there. c.in_ok-take.ensures.sides labels past (subst (λ s. AreSides s labels past (marks_of past)) (sym same) stand) there) in
    (subst (λ t. AreTracks t c.args.core.now) (sym c.in_ok-take.ensures.rest) all.0, all.1)
