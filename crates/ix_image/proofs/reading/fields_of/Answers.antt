use Rattle.std.proofs.{Common.{List, Err, sym, ap, subst, ◌∙◌, arith}, lemmas.Result.err_from_is_err_and}
use Rattle.ix_model.specs.declared.config.FsSpec.{FsSpec}
use Rattle.ix_image.{specs.{Reading.nodes_at, Meant.Stops}, proofs.{Steps.{no_count, stopped, more_left, none_left}, Whole.fields_take}}
use Rattle.ix_image.proofs.reading.fields_of.Goals as goal

pub returns-in_err-count-2-clause-read : goal.returns-in_err-count-2-clause-read
returns-in_err-count-2-clause-read c =
    let p = err_from_is_err_and c.from_residual-in_err-count-2.result c.from_residual-in_err-count-2.ensures.1 in
    rw (p.1, p.2) (no_count c.args.bytes.now c.in_ok-rest.rest.now c.in_ok-count.rest.now c.in_ok-fss.rest.now c.in_ok-count.count c.inodes_in.result c.in_ok-fss.fss.items c.deref.result.now
    c.in_ok-rest.ensures c.in_ok-count.ensures.read c.in_ok-fss.ensures.read c.deref.ensures.value c.inodes_in.ensures.is c.in_err-count-2.field-0.0 c.in_err-count-2.ensures.read)

pub returns-in_err-nodes-clause-read : goal.returns-in_err-nodes-clause-read
returns-in_err-nodes-clause-read c =
    let p = err_from_is_err_and c.from_residual-in_err-nodes.result c.from_residual-in_err-nodes.ensures.1 in
    rw (p.1, p.2) (stopped c.args.bytes.now c.in_ok-rest.rest.now c.in_ok-count.rest.now c.in_ok-fss.rest.now c.in_ok-count.count c.inodes_in.result c.in_ok-fss.fss.items c.deref.result.now
    c.in_ok-rest.ensures c.in_ok-count.ensures.read c.in_ok-fss.ensures.read c.deref.ensures.value c.inodes_in.ensures.is c.in_ok-count-2.count c.in_ok-count-2.rest.now c.in_err-nodes.field-0.0
    c.in_ok-count-2.ensures.read
    (subst (λ (xs : List FsSpec). Stops c.in_err-nodes.field-0.0 (nodes_at xs 0 c.in_ok-count-2.count c.in_ok-count-2.rest.now)) (c.deref-2.ensures.value ∙ sym c.deref.ensures.value)
    c.in_err-nodes.ensures))

pub returns-then-not-is_empty-clause-read : goal.returns-then-not-is_empty-clause-read
returns-then-not-is_empty-clause-read c =
    more_left _ _ _ _ _ _ _ _
    c.in_ok-rest.ensures c.in_ok-count.ensures.read c.in_ok-fss.ensures.read c.deref.ensures.value c.inodes_in.ensures.is _ _
    _ _
    c.in_ok-count-2.ensures.read (ap (λ xs. nodes_at xs 0 c.in_ok-count-2.count c.in_ok-count-2.rest.now) (c.deref.ensures.value ∙ sym c.deref-2.ensures.value)
    ∙ c.in_ok-nodes.ensures) (sym c.is_empty.ensures ∙ c.if-not-is_empty.true)
    ∙ ap (λ f. Err f) (sym c.here.ensures)

pub returns-clause-read : goal.returns-clause-read
returns-clause-read c =
    none_left _ _ _ _ _ _ _ _
    c.in_ok-rest.ensures c.in_ok-count.ensures.read c.in_ok-fss.ensures.read c.deref.ensures.value c.inodes_in.ensures.is _ _
    _ _
    c.in_ok-count-2.ensures.read (ap (λ xs. nodes_at xs 0 c.in_ok-count-2.count c.in_ok-count-2.rest.now) (c.deref.ensures.value ∙ sym c.deref-2.ensures.value)
    ∙ c.in_ok-nodes.ensures) (sym c.is_empty.ensures ∙ c.if-not-is_empty.false)

pub returns-clause-tree : goal.returns-clause-tree
returns-clause-tree c =
    (fields_take _ _ (λ i. omega (arith, c.type_inv.bytes i))
    (none_left _ _ _ _ _ _ _ _
    c.in_ok-rest.ensures c.in_ok-count.ensures.read c.in_ok-fss.ensures.read c.deref.ensures.value c.inodes_in.ensures.is _ _
    _ _
    c.in_ok-count-2.ensures.read (ap (λ xs. nodes_at xs 0 c.in_ok-count-2.count c.in_ok-count-2.rest.now) (c.deref.ensures.value ∙ sym c.deref-2.ensures.value)
    ∙ c.in_ok-nodes.ensures) (sym c.is_empty.ensures ∙ c.if-not-is_empty.false))).0
