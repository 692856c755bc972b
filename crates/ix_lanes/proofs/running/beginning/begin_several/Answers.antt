use Rattle.std.proofs.Common.{ap, sym, ◌∙◌, option_map}
use Rattle.ix_privserv.specs.Places as privileges_at
use Rattle.ix_privserv.specs.Serving as privileges
use Rattle.ix_privserv.specs.declared.server.PrivServer.{PrivServer}
use Rattle.ix_sessserv.specs.Places as sessions_at
use Rattle.ix_sessserv.specs.Serving as sessions
use Rattle.ix_sessserv.specs.declared.server.SessServer.{SessServer}
use Rattle.ix_asking.specs.Asking.{mapped}
use Rattle.ix_lanes.specs.{asking.{Handing.who_in, LineAsks.{by_rules, gives_nothing}}}
use Rattle.ix_lanes.proofs.phased.{Served.{copy_asks, login_asks, login_none, priv_asks, priv_none}}
use Rattle.ix_lanes.proofs.running.beginning.begin_several.Goals as goal

pub returns-in_default-policy-clause-asks : goal.returns-in_default-policy-clause-asks
returns-in_default-policy-clause-asks c = sym (priv_none _ _ _ c.args.number _ _ _ c.in-Priv.is (ap (option_map (λ q. q.now)) c.in_default-policy.is))

pub returns-in_default-policy-2-clause-asks : goal.returns-in_default-policy-2-clause-asks
returns-in_default-policy-2-clause-asks c = sym (login_none _ _ _ c.args.number _ _ _ _ _ c.in-Login.is (ap (option_map (λ q. q.now)) c.in_default-policy-2.is))

pub returns-in-Copy-clause-asks : goal.returns-in-Copy-clause-asks
returns-in-Copy-clause-asks c =
    ap gives_nothing c.begin.ensures.asks ∙ sym (copy_asks _ _ _ c.args.number _ _ _ _ _ _ _ _ c.in-Copy.is c.pid-pid.ensures c.fd-from.ensures c.fd-to.ensures)

pub returns-in-Some-clause-asks : goal.returns-in-Some-clause-asks
returns-in-Some-clause-asks c =
    ap (λ (m : PrivServer). gives_nothing (privileges_at.asks_at m.policy.now (record { line = m.line; pid = m.server.0; fd = m.fd.0 }) m.at)) c.new.ensures
    ∙ sym (ap (λ o. by_rules (option_map (λ q. q.now) o) (λ r. gives_nothing (privileges.serves r (record { line = c.args.number; pid = c.pid-server.result.0; fd = c.fd-fd.result.0 })))) c.in-Some.is)
    ∙ sym (priv_asks _ _ _ c.args.number _ _ _ _ _ c.in-Priv.is c.pid-server.ensures c.fd-fd.ensures)

pub returns-in-Some-policy-clause-asks : goal.returns-in-Some-policy-clause-asks
returns-in-Some-policy-clause-asks c =
    ap (λ (m : SessServer). mapped who_in (sessions_at.asks_at m.policy.now (record { line = m.line; pid = m.server.0; fd = m.fd.0 }) m.hand m.at)) c.new-in-Login.ensures
    ∙ sym (ap (λ o. by_rules (option_map (λ q. q.now) o)
    (λ r. mapped who_in (sessions.serves r (record { line = c.args.number; pid = c.pid-server-in-Login.result.0; fd = c.fd-fd-in-Login.result.0 })
    c.fd-hand.result))) c.in-Some-policy.is)
    ∙ sym (login_asks _ _ _ c.args.number _ _ _ _ _ _ _ _ c.in-Login.is c.pid-server-in-Login.ensures c.fd-fd-in-Login.ensures c.fd-hand.ensures)
