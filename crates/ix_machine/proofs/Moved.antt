-- The machine after a call of its files.
use Rattle.std.proofs.Common.{◌≡◌, ◌≤◌, ℕ, List, Option, length, sym, ap, subst, ◌∙◌}
use Rattle.ix_model.specs.{world.{World.{World, Process, change}, Callers.with_caller}, history.{Events.Op, Step.step}}
use Rattle.ix_model.specs.declared.{config.Limits.Limits, views.Caller.Caller}
use Rattle.ix_model.proofs.words.Fixed.{fixed_step}
use Rattle.ix_audit.specs.Lines.{Lines}
use Rattle.ix_proc.specs.Table.{ProcTable}
use Rattle.ix_tables.specs.Parts.{Parts, parts_of, owners_of, homes_of}
use Rattle.ix_fcalls.specs.Around.{with_who, around, world_of}
use Rattle.ix_machine.specs.Joined.{joined, AreJoined}

-- the files have the parts of the machine's world
pub parts_joined : (t : Parts) (p : ProcTable) (l : Lines) (w : World) → AreJoined t p l → joined t p l ≡ w → t ≡ parts_of w
parts_joined t p l w j here =
    let e : t ≡ parts_of (joined t p l) = λ i. record {
      limits = t.limits;
      fss = t.fss;
      objects = t.objects;
      opens = t.opens;
      holdings = t.holdings;
      offsets =
          t.offsets;
      owners = j.counted.owners i;
      homes = j.counted.homes i;
    } in
    e ∙ ap parts_of here

pub moved : (t x : Parts) (p q : ProcTable) (l : Lines) (w : World) (place pid : ℕ) (c : Op) (who : Caller) → joined t p l ≡ w → AreJoined t p l → x ≡ parts_of (step w place pid c).world
    → world_of (around place pid w) x (with_who w.frame.processes who) ≡ (step w place pid c).world → q ≡ record p { processes = change p.processes who.pid.0 (with_caller who) } → AreJoined x q l
moved t x p q l w place pid c who here j parts whole put =
    let ps : w.frame.processes ≡ p.processes = ap (λ (u : World). u.frame.processes) (sym here) in
    let qs : (step w place pid c).world.frame.processes ≡ q.processes = ap (λ (u : World). u.frame.processes) (sym whole)
    ∙ ap (λ (rs : List (Option Process)). with_who rs who) ps ∙ ap (λ (u : ProcTable). u.processes) (sym put) in
    let os : (step w place pid c).world.frame.objects ≡ x.objects = ap (λ (u : World). u.frame.objects) (sym whole) in
    let es : (step w place pid c).world.frame.opens ≡ x.opens = ap (λ (u : World). u.frame.opens) (sym whole) in
    let limits : x.limits ≡ t.limits = ap (λ (u : World). u.frame.limits) whole ∙ (fixed_step w place pid c).limits ∙ ap (λ (u : World). u.frame.limits) (sym here) in
    record {
      counted = record {
        owners = ap (λ (u : Parts). u.owners) parts ∙ (λ i. owners_of (length (es i)) (qs i));
        homes = ap (λ (u : Parts). u.homes) parts ∙ (λ i. homes_of (length (os i)) (qs i));
      };
      procs = ap (λ (u : ProcTable). u.limit) put ∙ j.procs ∙ sym (ap (λ (m : Limits). m.procs) limits);
      log = j.log ∙ sym (ap (λ (m : Limits). m.log) limits);
      few = subst (λ (m : Limits). m.procs ≤ 1024) (sym limits) j.few;
    }

-- the same where the process stays as it is
pub moved_still : (t x : Parts) (p : ProcTable) (l : Lines) (w : World) (place pid : ℕ) (c : Op) (who : Caller) → joined t p l ≡ w → AreJoined t p l → x ≡ parts_of (step w place pid c).world
    → with_who w.frame.processes who ≡ w.frame.processes → world_of (around place pid w) x w.frame.processes ≡ (step w place pid c).world → AreJoined x p l
moved_still t x p l w place pid c who here j parts shown whole =
    let ps : w.frame.processes ≡ p.processes = ap (λ (u : World). u.frame.processes) (sym here) in
    let stays : with_who p.processes who ≡ p.processes = subst (λ (rs : List (Option Process)). with_who rs who ≡ rs) ps shown in
    moved t x p p l w place pid c who here j parts (ap (λ (rs : List (Option Process)). world_of (around place pid w) x rs) shown ∙ whole) (λ i. record p { processes = sym stays i })
