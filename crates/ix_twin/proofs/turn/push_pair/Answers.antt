use Rattle.std.proofs.Common.{◌+◌, ◌++◌, List, length, sym, ap, ◌∙◌}
use Rattle.ix_model.specs.history.{Calls.event_of, Events.Event, History.{History, world_of}}
use Rattle.ix_script.specs.{lines.Before.{form_told, lanes_of}, declared.line.Line.Line}
use Rattle.ix_replay.specs.report.Report.{entry_text}
use Rattle.ix_twin.{specs.Lines.pair_of, proofs.Alongside.{heard_shown, on_ok, pair_pushed}}
use Rattle.ix_twin.proofs.turn.push_pair.Goals as goal

pub push_line-requires : goal.push_line-requires
push_line-requires c =
    record { shown = heard_shown _ (event_of c.args.one.0.now) _ _ c.requires.made.1.first_answer }

pub push_line-requires-2 : goal.push_line-requires-2
push_line-requires-2 c =
    record { shown = heard_shown _ (event_of c.args.two.0.now) _ _ c.requires.made.1.second_answer }

pub returns : goal.returns
returns c before made =
    let e = event_of c.args.one.0.now in
    let d = event_of c.args.two.0.now in
    let two = c.push_line-2.ensures before.second (record {
      history = c.second.ensures ∙ ap (λ t. t.second) made.made;
      reply = sym (ap (λ a. a.reply) made.second_answer);
      bytes = sym (ap (λ a. a.bytes) made.second_answer);
    }) in
    let text = λ (s : List Line) (h : History) (x : Event). entry_text (form_told s) (lanes_of s) (length h.events + 1) (world_of h) x in
    let out = c.args.out.now.items in
    on_ok c.push_line-2.result (λ more.
    pair_pushed _ _ _ _ (text c.args.second.now.script.now before.second d) (c.in_ok-push_line.ensures before.first (record {
      history = c.first.ensures ∙ ap (λ t. t.first) made.made;
      reply = sym (ap (λ a. a.reply) made.first_answer);
      bytes = sym (ap (λ a. a.bytes) made.first_answer);
    })) more
    ∙ (λ i. out ++ pair_of (text (sym c.requires.first i) before.first e) (text (sym c.requires.second i) before.second d))) two
