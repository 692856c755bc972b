use Rattle.std.proofs.{Common.{◌<◌, length, sym, ◌∙◌, arith}, lemmas.Option.slice_get_within}
use Rattle.ix_replay.{specs.report.Telling.last_world, proofs.piecewise.Pieces.{line_told, log_told}}
use Rattle.ix_replay.proofs.reporting.closing.Closing.tell_log.Goals as goal

pub overflow_add-self : goal.overflow_add-self
overflow_add-self c =
    let within : c.args.n < length (last_world c.args.self.now).frame.log = slice_get_within (last_world c.args.self.now).frame.log c.args.n _ (sym c.in-Some.ensures) in
    omega (arith, within, c.log_len-lines.ensures.len)

pub returns : goal.returns
returns c = line_told c.args.self.now c.args.out.now.items c.audit_line.new.out.items c.args.n _ c.requires (sym c.in-Some.ensures) c.in_ok-audit_line.ensures.ok

pub returns-in_default : goal.returns-in_default
returns-in_default c =
    log_told c.args.self.now c.args.out.now.items c.tail.new.out.items c.args.n c.requires (sym c.log_line.ensures ∙ c.in_default.is)
    (rw (← c.len.ensures.len, ← c.log_len-lines.ensures.len) c.in_ok-tail.ensures.ok)
