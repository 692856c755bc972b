use Rattle.std.proofs.{Common.{◌≡◌, ◌+◌, ◌++◌, ◌&&◌, [], length, refl, sym, ap, ◌∙◌, append-nil, if◌then◌else◌}, lemmas.Bool.Decides.same_from_decides}
use Rattle.ix_model.specs.history.{Calls.event_of, History.world_of}
use Rattle.ix_lanes.proofs.phased.InOrder.{entries_next}
use Rattle.ix_serial.proofs.Stepping.{has_room}
use Rattle.ix_twin.{specs.Running.{Aside, WereMade, pair_next}, proofs.turn.make_both.Goals.{else-low, else-shown, then-low, then-shown+in_ok-push_pair-in-Same}}
use Rattle.ix_twin.proofs.{Crossing.clear_decides, SameCalls.low_decides, Alongside.{ends_apart, ends_first, ends_over, ends_second, given_as, shown_as}}
use Rattle.ix_twin.proofs.turn.make_both.Goals as goal

pub step-requires-clause-first : goal.step-requires-clause-first
step-requires-clause-first c = has_room c.args.twin.now.first c.args.first.now.calls (event_of c.in-Some-Some.e) c.requires.aside.first_stands (sym c.in-Some-Some.ensures.entry)

pub step-requires-clause-second : goal.step-requires-clause-second
step-requires-clause-second c = has_room c.args.twin.now.second c.args.second.now.calls (event_of c.in-Some-Some.d) c.requires.aside.second_stands (sym c.in-Some-Some.ensures'.entry)

pub push_pair-requires-clause-made : goal.push_pair-requires-clause-made
push_pair-requires-clause-made c =
    let both = c.in-Same.ensures in (
      c.args.twin.now,
      record {
        made = both.entries;
        first_answer = given_as _ _ _ _ _ both.first_given;
        second_answer = given_as _ _ _ _ _ both.second_given;
      },
    )

pub returns-in-None-None : goal.returns-in-None-None
returns-in-None-None c =
    let one = c.in-None-None.ensures.none refl _ _ in
    let two = c.in-None-None.ensures'.none refl _ _ in
    (ends_over (record { twins = c.args.twin.now; first = c.args.first.now.calls; second = c.args.second.now.calls }) one two, one, refl)

pub returns-in-Apart : goal.returns-in-Apart
returns-in-Apart c =
    let a : Aside = record { twins = c.args.twin.now; first = c.args.first.now.calls; second = c.args.second.now.calls } in
    let e = event_of c.in-Some-Some.e in
    let d = event_of c.in-Some-Some.d in
    let two = entries_next a.second d (sym c.in-Some-Some.ensures'.entry) (world_of a.twins.second) (length a.twins.second.events + 1) in (
      ends_apart a c.requires.aside.place c.requires.aside.agreed e d _ _ (entries_next a.first e (sym c.in-Some-Some.ensures.entry) (world_of a.twins.first)
          (length a.twins.first.events + 1)).1 two.1 c.in-Apart.ensures,
      refl,
    )

pub returns-in-Some-None : goal.returns-in-Some-None
returns-in-Some-None c =
    let a : Aside = record { twins = c.args.twin.now; first = c.args.first.now.calls; second = c.args.second.now.calls } in
    let e = event_of c.in-Some-None.field-0-0 in
    let two = c.in-Some-None.ensures'.none refl _ _ in
    (ends_first a e _ (entries_next a.first e (sym c.in-Some-None.ensures.entry) (world_of a.twins.first) (length a.twins.first.events + 1)).1 two, refl)

pub returns-in-None-Some : goal.returns-in-None-Some
returns-in-None-Some c =
    let a : Aside = record { twins = c.args.twin.now; first = c.args.first.now.calls; second = c.args.second.now.calls } in
    let d = event_of c.in-None-Some.field-0-1 in
    let two = entries_next a.second d (sym c.in-None-Some.ensures'.entry) (world_of a.twins.second) (length a.twins.second.events + 1) in
    (ends_second a d _ (c.in-None-Some.ensures.none refl _ _) two.1, refl)

pub returns-after-shown : goal.returns-after-shown
returns-after-shown c =
    let a : Aside = record { twins = c.args.twin.now; first = c.args.first.now.calls; second = c.args.second.now.calls } in
    let e = event_of c.in-Some-Some.e in
    let d = event_of c.in-Some-Some.d in
    let t = c.args.twin.now in
    let both = c.in-Same.ensures in
    let were : WereMade t c.step.new.self e d c.in-Same.one c.in-Same.two c.step.new.buf1 c.step.new.buf2 = record {
      made = both.entries;
      first_answer = given_as _ e _ _ _ both.first_given;
      second_answer = given_as _ d _ _ _ both.second_given;
    } in
    let clear =
    same_from_decides _ _ both.clear_before (clear_decides _ _ 1 _) in
    let shown : c.if-low.shown ≡ (c.in-Same.low && c.in-Same.clear) = elim c.if-low.branch [
      | then-low w ↦ w.shown-is ∙ ap (λ b. b && c.in-Same.clear) (sym w.if-low.true)
      | else-low w ↦ w.shown-is ∙ w.if-low.false ∙ ap (λ b. b && c.in-Same.clear) (sym w.if-low.false)
    ] in
    record {
      one = e;
      two = d;
      first_next = sym c.in-Some-Some.ensures.entry;
      second_next = sym c.in-Some-Some.ensures'.entry;
      were = were;
      agree = both.agree;
      shown_is = shown_as t e _ _ _ (same_from_decides _ _ both.low_after (low_decides _ _ _)) clear shown;
      lines = elim c.if-shown.branch [
        | then-shown+in_ok-push_pair-in-Same w ↦
            rw w.lines-is (w.in_ok-push_pair-in-Same.ensures t were ∙ ap (λ b. c.args.lines.now.items ++ (if b then pair_next a e d else [])) (sym w.if-shown.true))
        | else-shown w ↦
            rw w.lines-is (sym (append-nil _) ∙ ap (λ b. c.args.lines.now.items ++ (if b then pair_next a e d else [])) (sym w.if-shown.false))
      ];
    }
