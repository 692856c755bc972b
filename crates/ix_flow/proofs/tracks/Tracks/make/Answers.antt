use Rattle.std.proofs.Common.{◌∙◌, ℕ, refl, sym, ap}
use Rattle.ix_model.specs.history.Events as op
use Rattle.ix_model.specs.{history.{Events.Op, Made.entry}, declared.ids.Pid.Pid}
use Rattle.ix_model.specs.declared.reply.Reply.TheVariants as reply
use Rattle.ix_flow.{specs.{Following.Follows, declared.tracks.Tracks.Tracks}, proofs.{Writes.{few_then, led}, Making.{MakesOne, File, Dir, not_told, told_one}}}
use Rattle.ix_flow.proofs.tracks.Tracks.make.Goals as goal

pub returns-in_default : goal.returns-in_default
returns-in_default c =
    let none : (seat line : ℕ) (pid : Pid) (o : Op) → MakesOne o → Follows c.args.self.now c.args.self.now c.args.core.now c.args.reply.now (entry seat line pid o) = λ seat line pid o one h step are.
    let e = entry seat line pid o in
    led _ h _ e _ step.history
    (not_told h _ _ _ o one (few_then h _ e step.history c.requires.few) _ are (λ n gives. c.in_default.not-Number n (step.reply ∙ gives))) in
    record {
      file = λ seat line pid path. none _ _ pid (op.CreateAt path) (File _ refl);
      dir = λ seat line pid path. none _ _ pid (op.MakeDir path) (Dir _ refl);
    }

pub returns : goal.returns
returns c =
    let made : Tracks = record c.args.self.now { sides = c.forget.new.self } in
    let one : (seat line : ℕ) (pid : Pid) (o : Op) → MakesOne o → Follows c.args.self.now made c.args.core.now c.args.reply.now (entry seat line pid o) = λ seat line pid o makes h step are.
    let e = entry seat line pid o in
    led _ h _ e _ step.history
    (told_one h _ _ _ o makes (few_then h _ e step.history c.requires.few) _ are _
    (sym step.reply ∙ c.in-Number.is ∙ ap reply.Number (sym c.in-Ok.ensures.1)) _
    c.forget.ensures.none c.forget.ensures.others) in
    record {
      file = λ seat line pid path. one _ line pid (op.CreateAt path) (File _ refl);
      dir = λ seat line pid path. one _ line pid (op.MakeDir path) (Dir _ refl);
    }
