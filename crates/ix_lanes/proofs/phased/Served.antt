-- What the lines ask for that make more calls than one.
use Rattle.std.proofs.Common.{◌≡◌, ℕ, List, Option, None, refl, ap, sym, ◌∙◌}
use Rattle.ix_policy.specs.declared.rule.Rule.{Rule}
use Rattle.ix_asking.specs.{Asking.mapped, Copies.copies}
use Rattle.ix_asking.specs.Asking as asking
use Rattle.ix_privserv.specs.Serving as privileges
use Rattle.ix_sessserv.specs.Serving as sessions
use Rattle.ix_script.specs.declared.line.{Line.Line, FdWord.FdWord}
use Rattle.ix_script.specs.declared.line.Line.TheVariants as line
use Rattle.ix_lanes.specs.asking.{Asked.{Names, Numbers, asked, fd_of, pid_of}, Handing.who_in, LineAsks.{by_rules, gives_nothing, line_asks, one_call}}
use Rattle.ix_lanes.specs.declared.asking.handed.Handed.TheVariants as handed

pub one_asks : (rules : Option (List Rule)) (header : Numbers) (names : Names) (n : ℕ) (l : Line) → ((proc : List ℕ) (from to : FdWord) (count : ℕ) → l ≡ line.Copy proc from to count → ⊥)
    → ((proc : List ℕ) (fd : FdWord) → l ≡ line.Priv proc fd → ⊥) → ((proc : List ℕ) (fd hand : FdWord) (q : Option (List ℕ)) → l ≡ line.Login proc fd hand q → ⊥)
    → line_asks rules header names n l ≡ one_call (asked header names n l)
unfolding line_asks
one_asks rules header names n (line.Copy proc from to count) no_copy no_priv no_login = absurd (no_copy proc from to count refl)
one_asks rules header names n (line.Priv proc fd) no_copy no_priv no_login = absurd (no_priv proc fd refl)
one_asks rules header names n (line.Login proc fd hand q) no_copy no_priv no_login = absurd (no_login proc fd hand q refl)
one_asks rules header names n l no_copy no_priv no_login = refl

module _ (rules : Option (List Rule)) (header : Numbers) (names : Names) (n : ℕ) (l : Line) where
  pub copy_asks : (proc : List ℕ) (from to : FdWord) (count pid source target : ℕ) → l ≡ line.Copy proc from to count
      → pid ≡ pid_of header names proc → source ≡ fd_of names from → target ≡ fd_of names to
      → line_asks rules header names n l ≡ gives_nothing (copies n (record { 0 = pid }) (record { 0 = source }) (record { 0 = target }) count)
  unfolding line_asks
  copy_asks proc from to count pid source target is by reads writes =
      ap (line_asks rules header names n) is ∙ (λ i. gives_nothing (copies n (record { 0 = sym by i }) (record { 0 = sym reads i }) (record { 0 = sym writes i }) count))

  pub priv_asks : (proc : List ℕ) (fd : FdWord) (pid end : ℕ) → l ≡ line.Priv proc fd → pid ≡ pid_of header names proc → end ≡ fd_of names fd
      → line_asks rules header names n l ≡ by_rules rules (λ r. gives_nothing (privileges.serves r (record { line = n; pid = pid; fd = end })))
  unfolding line_asks
  priv_asks proc fd pid end is by at =
      ap (line_asks rules header names n) is ∙ (λ i. by_rules rules (λ r. gives_nothing (privileges.serves r (record { line = n; pid = sym by i; fd = sym at i }))))

  pub login_asks : (proc : List ℕ) (fd hand : FdWord) (q : Option (List ℕ)) (pid end gives : ℕ) → l ≡ line.Login proc fd hand q
      → pid ≡ pid_of header names proc → end ≡ fd_of names fd → gives ≡ fd_of names hand
      → line_asks rules header names n l ≡ by_rules rules (λ r. mapped who_in (sessions.serves r (record { line = n; pid = pid; fd = end }) (record { 0 = gives })))
  unfolding line_asks
  login_asks proc fd hand q pid end gives is by at to =
      ap (line_asks rules header names n) is ∙ (λ i. by_rules rules (λ r. mapped who_in (sessions.serves r (record { line = n; pid = sym by i; fd = sym at i }) (record { 0 = sym to i }))))

  -- without a policy neither is served
  pub priv_none : (proc : List ℕ) (fd : FdWord) → l ≡ line.Priv proc fd → rules ≡ None → line_asks rules header names n l ≡ asking.Done handed.Nothing
  priv_none proc fd is none = priv_asks proc fd _ _ is refl refl
      ∙ ap (λ o. by_rules o (λ r. gives_nothing (privileges.serves r (record { line = n; pid = pid_of header names proc; fd = fd_of names fd })))) none

  pub login_none : (proc : List ℕ) (fd hand : FdWord) (q : Option (List ℕ)) → l ≡ line.Login proc fd hand q → rules ≡ None → line_asks rules header names n l ≡ asking.Done handed.Nothing
  login_none proc fd hand q is none = login_asks proc fd hand q _ _ _ is refl refl refl
      ∙ ap (λ o. by_rules o (λ r. mapped who_in (sessions.serves r (record { line = n; pid = pid_of header names proc; fd = fd_of names fd }) (record { 0 = fd_of names hand })))) none
