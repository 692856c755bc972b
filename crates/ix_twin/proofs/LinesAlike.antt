-- How two scripts begin.
use Rattle.std.proofs.Common.{◌≡◌, ℕ, true, true≢false, List, refl, sym, zero, suc, ◌+◌, [], ◌∷◌, take, Some, ap, ◌∙◌, arith, subst, slice_get, option_map, ◌<◌, ◌-◌, Option}
use Rattle.std.{proofs.{Common.{None, IfSome, slice_index_or, unwrap_or, inl, inr}, lemmas.{Bool.Decides.{Decides-and, Decides-like}, Option.slice_get_within}}, specs.Bool.Decides}
use Rattle.ix_label.specs.{Category.Categories, declared.form.Form.Form}
use Rattle.ix_model.specs.{history.{Events.Event, Step.{step_of, run}}, two_runs.TwoRuns.{Alike, Low, Agree}, world.{Naming.same_names, World.{World, Process, at}}}
use Rattle.ix_model.proofs.tables.Alike.{names_are, names_itself}
use Rattle.ix_iso.{specs.{Configs.ConfigsOpenAlike, Laws.NoneCrosses}, proofs.{Counts.shape_frames, Histories.shape_events, Lowerings.low_is_same, Steps.alike_events}}
use Rattle.ix_script.specs.{declared.line.Line.Line, lines.Before.{form_told, lanes_of}, scripts.Scripts.config_of}
use Rattle.ix_twin.specs.{Laws.{BeginningsAreAlike, TwinLines}, Lines.{BeginAlike, begin_alike, have_same_lanes, same_form, world_opened}, Parting.IsLeastPart}
use Rattle.ix_twin.{specs.Parting.{PartAt, parting}, proofs.{Parted.{agree_before, least}, SameConfigs.configs_decide}}
use Rattle.ix_report.specs.LineText.{entry_line}
use Rattle.ix_replay.specs.report.Report.{lane_name, entry_text, entry_lines}
use Rattle.ix_lanes.specs.histories.Serial.{serial}
use Rattle.ix_label.specs.declared.form.Form.TheVariants as form

form_is : (a b : Form) → same_form a b ≡ true → a ≡ b
form_is form.One form.One h = refl
form_is form.Two form.Two h = refl
form_is form.One form.Two h = absurd (true≢false (sym h))
form_is form.Two form.One h = absurd (true≢false (sym h))

form_itself : (a : Form) → same_form a a ≡ true
form_itself form.One = refl
form_itself form.Two = refl

forms_decide : (a b : Form) → Decides (same_form a b) (a ≡ b)
forms_decide a b = (form_is a b, λ e. rw e (form_itself b))

names_decide : (a b : List (List ℕ)) → Decides (same_names a b) (a ≡ b)
names_decide a b = (names_are a b, λ e. rw e (names_itself b))

-- what is looked at tells how two scripts begin
pub begin_decides : (l : Categories) (s t : List Line) → Decides (begin_alike l s t) (BeginAlike l s t)
unfolding begin_alike have_same_lanes
begin_decides l s t =
    Decides-like _ (λ p. record { form = p.0.0; lanes = p.0.1; configs = p.1 }) (λ h. ((h.form, h.lanes), h.configs))
    (Decides-and _ _ (Decides-and _ _ (forms_decide _ _) (names_decide _ _)) (configs_decide l _ _))

pub beginnings_are_alike : ConfigsOpenAlike → BeginningsAreAlike
beginnings_are_alike law l s t begin = (law l (config_of s) (config_of t) begin.configs).alike

-- The lines of low entries are the same in the reports of two runs that agree.
module _ (l : Categories) (form : Form) (lanes : List (List ℕ)) where
  -- ---- one line
  one_line : (v w : World) (place : ℕ) (e f : Event) → Alike l v w → Agree l v w place (e ∷ []) (f ∷ []) → Low l v place e → entry_text form lanes place v e ≡ entry_text form lanes place w f
  one_line v w place e f alike agree low =
      let same = low_is_same l v _ e f agree.0 low in
      let told = (alike_events l v w _ e f alike agree.0 agree.1).replies low in
      λ i. entry_line form place (lane_name lanes (same i).seat) (same i) (told.0 i) (told.1 i)
      (option_map (λ (p : Process). p.label) (at ((shape_frames _ _ (shape_events l v w _ e f alike.shapes agree.0 agree.1).shapes) i).processes
      (same i).pid))

  -- ---- all lines
  -- of an entry up to which the two agree
  pub lines_along : (v w : World) (place : ℕ) (events others : List Event) (n : ℕ) (e : Event) → Alike l v w → Agree l v w place (take (suc n) events) (take (suc n) others)
      → slice_get events n ≡ Some e → NoneCrosses l v place (take n events) → Low l (run v place (take n events)) (place + n) e
      → slice_get (entry_lines form lanes place v events) n ≡ slice_get (entry_lines form lanes place w others) n
  lines_along v w place [] others n e alike agree is none low = cc
  lines_along v w place (a ∷ events) [] n e alike agree is none low = absurd agree
  lines_along v w place (a ∷ events) (b ∷ others) zero e alike agree is none low =
      let here : e ≡ a = cc in
      ap Some (one_line v w _ a b alike (agree.0, agree.1, tt) (subst (λ k. Low l v k a) (omega arith) (subst (λ x. Low l v (place + 0) x) here low)))
  lines_along v w place (a ∷ events) (b ∷ others) (suc n) e alike agree is none low =
      let next : suc place ≡ place + 1 = omega arith in
      let later : place + suc n ≡ suc place + n = omega arith in
      let there = run _ (suc place) (take n _) in
      let rest = lines_along (step_of v place a).world (step_of w place b).world (suc place) events others n e
      ((alike_events l v w _ a b alike agree.0 agree.1).worlds none.0) agree.2 is none.1 (subst (λ k. Low l there k e) later low) in
      subst (λ k. slice_get (entry_lines form lanes k (step_of v place a).world events) n ≡ slice_get (entry_lines form lanes k (step_of w place b).world others) n) next rest

-- runs that agree do so up to any place
pub agree_up_to : (l : Categories) (v w : World) (place n : ℕ) (events others : List Event) → Agree l v w place events others → Agree l v w place (take n events) (take n others)
agree_up_to l v w place zero events others agree = tt
agree_up_to l v w place (suc n) [] [] agree = tt
agree_up_to l v w place (suc n) [] (b ∷ others) agree = absurd agree
agree_up_to l v w place (suc n) (a ∷ events) [] agree = absurd agree
agree_up_to l v w place (suc n) (a ∷ events) (b ∷ others) agree =
    (agree.0, agree.1, agree_up_to l (step_of v place a).world (step_of w place b).world (suc place) n events others agree.2)

-- At each place that is shown the lines of both reports are equal.

-- what comes before the least place at which two part comes before the place that is found
before_found : (l : Categories) (v w : World) (events others : List Event) (n : Option ℕ) (place : ℕ) → IsLeastPart l v w events others n → IfSome n (λ k. place < k)
    → IfSome (parting l v w 1 events others) (λ k. place < k)
before_found l v w events others n place is before = go _ (least l v w _ _)
  where
    by_least : (m : ℕ) → PartAt l v w events others m → (o : Option ℕ) → IsLeastPart l v w events others o → IfSome o (λ k. place < k) → place < m
    by_least m part None none before = absurd (none m part)
    by_least m part (Some k) some before = omega (arith, some.1 m part, before)

    go : (o : Option ℕ) → IsLeastPart l v w events others o → IfSome o (λ k. place < k)
    go None h = tt
    go (Some m) h = by_least m h.0 n is before

indexed : {A : Type 0} (xs : List A) (n : ℕ) (d : A) → slice_index_or xs n d ≡ unwrap_or (slice_get xs n) d
indexed [] n d = refl
indexed (x ∷ xs) zero d = refl
indexed (x ∷ xs) (suc n) d = indexed xs n d

-- an element by its index, where that is told
index_as : {A : Type 0} (xs ys : List A) (n : ℕ) (d : A) → slice_get xs n ≡ slice_get ys n → slice_index_or xs n d ≡ slice_index_or ys n d
index_as xs ys n d same = indexed xs n d ∙ ap (λ o. unwrap_or o d) same ∙ sym (indexed ys n d)

pub twin_lines : ConfigsOpenAlike → TwinLines
twin_lines law l s t n place (inl none) shown = absurd (omega (arith, rw none.0 at shown.before))
twin_lines law l s t n place (inr is) shown =
    let begin = is.0 in
    let v = world_opened s in
    let w = world_opened t in
    let k = place - 1 in
    let at : place ≡ 1 + k = omega (arith, shown.from) in
    let within = slice_get_within _ k shown.entry shown.there in
    let agree =
    agree_before l v w 1 _ (serial t) k (subst (λ p. IfSome (parting l v w 1 (serial s) (serial t)) (λ m. p < m)) at (before_found l v w _ _ n _ is.1 shown.before)) within in
    let same = lines_along l _ _ v w 1 _ (serial t) k _ (beginnings_are_alike law l s t begin) agree shown.there shown.clear
    (subst (λ p. Low l (run v 1 (take k (serial s))) p shown.entry) at shown.low) in
    index_as _ (entry_lines (form_told s) (lanes_of s) 1 w (serial t)) k [] same
    ∙ (λ i. slice_index_or (entry_lines (begin.form i) (begin.lanes i) 1 w (serial t)) k [])
