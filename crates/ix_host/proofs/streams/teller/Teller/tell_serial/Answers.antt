use Rattle.std.proofs.Common.{refl, ◌∙◌}
use Rattle.ix_host.proofs.piecewise.Stands.{ends_out, ends_report, front_none, stands_begun}
use Rattle.ix_host.proofs.streams.teller.Teller.tell_serial.Goals as goal

pub returns-in-Ok : goal.returns-in-Ok
returns-in-Ok g c =
    let old = c.args.self.now in
    let known = c.in-Ok.ensures.seen old (refl, refl, record { stands = stands_begun _ _ old.script.now old.waiting.now.items _ c.requires.begun.0 }) in record {
      same = c.close.ensures.same ∙ known.0;
      ends = ends_report old.script.now _ old.waiting.now.items c.in-Ok.history _ known.1 c.in-Ok.ensures.config c.requires.begun.1 c.in-Ok.ensures.serial (c.close.ensures.ends _ _ _ known.2.stands);
    }

pub returns-in-Err : goal.returns-in-Err
returns-in-Err g c = rw c.in-Err.ensures.unseen (record { same = refl; ends = ends_out _ _ _ _ _ _ (front_none _ _) })
