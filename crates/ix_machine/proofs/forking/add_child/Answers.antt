use Rattle.std.proofs.Common.{◌≡◌, ◌<◌, ◌++◌, ◌∷◌, [], Some, sym, ap, subst, ◌∙◌, length}
use Rattle.ix_fcalls.specs.Counted.{IsCounted}
use Rattle.ix_model.{specs.world.World.{at, living}, proofs.words.Living.is_living}
use Rattle.ix_machine.proofs.Births.{child_entry, child_home, child_lives, child_counted, parent_of}
use Rattle.ix_machine.proofs.forking.add_child.Goals as goal

pub take_up-requires : goal.take_up-requires
take_up-requires g c =
    let p = parent_of _ (living (at g.processes c.args.parent.0)) c.requires.1.1.1.1.0 in
    let here : living (at c.args.procs.now.processes c.args.parent.0) ≡ Some p.0 = ap (λ ps. living (at ps c.args.parent.0)) c.requires.0 ∙ p.1 in
    let adds = c.in_ok-child.ensures p.0 (is_living _ p.0 here) in (
      c.requires.1.0,
      (
        c.requires.1.1.1.0,
        (
          c.requires.1.1.1.1.1.0,
          (
            (λ fd e is. c.requires.1.1.1.1.1.1.0 p.0 fd e p.1 (child_entry c.args.procs.now c.fork.new.self c.args.parent.0 c.args.keep p.0 c.in_ok-child.child
                here adds c.in-Some.who.now c.in-Some.ensures fd e is)),
            subst (λ n. n < length c.args.files.now.objects)
                (sym (child_home _ _ _ _ p.0 _ here adds _ c.in-Some.ensures)) (c.requires.1.1.1.1.1.1.1 p.0 p.1),
          ),
        ),
      ),
    )

pub unreachable-requires : goal.unreachable-requires
unreachable-requires g c =
    let p = parent_of _ (living (at g.processes c.args.parent.0)) c.requires.1.1.1.1.0 in
    let here : living (at c.args.procs.now.processes c.args.parent.0) ≡ Some p.0 = ap (λ ps. living (at ps c.args.parent.0)) c.requires.0 ∙ p.1 in
    child_lives _ _ _ _ p.0 _ here (c.in_ok-child.ensures p.0 (is_living _ p.0 here)) c.in-None.ensures

pub returns-clause-adds : goal.returns-clause-adds
returns-clause-adds g c = λ p alive. c.in_ok-child.ensures p (ap (λ ps. at ps c.args.parent.0) c.requires.0 ∙ is_living _ p alive)

pub returns-clause-counted : goal.returns-clause-counted
returns-clause-counted g c =
    let p = parent_of _ (living (at g.processes c.args.parent.0)) c.requires.1.1.1.1.0 in
    let here : living (at c.args.procs.now.processes c.args.parent.0) ≡ Some p.0 = ap (λ ps. living (at ps c.args.parent.0)) c.requires.0 ∙ p.1 in
    child_counted _ _ _ _ p.0 _ here (c.in_ok-child.ensures p.0 (is_living _ p.0 here)) _ _ c.in-Some.ensures
    (λ q fds cwd ended. subst (λ ps. IsCounted c.take_up.new.self (ps ++ Some q ∷ [])) (sym c.requires.0) (c.take_up.ensures.counted q fds cwd ended))
