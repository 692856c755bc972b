use Rattle.std.proofs.Common.{sym, ap, ◌∙◌, arith}
use Rattle.ix_name.{specs.{Buckets.bucket_of, declared.entry.Entry.Entry}, proofs.Indexed.{index_within, count_fits, indexed_more, shown_more}}
use Rattle.ix_name.proofs.names.Names.add.Goals as goal

pub index_mut-requires : goal.index_mut-requires
index_mut-requires c = omega (
  arith,
  index_within _ _ _ _ _ c.self.invariant c.is_pool.ensures c.is_pool-2.ensures _ c.self.view_is c.in-Some.index
      (sym c.in-Some.ensures.moved),
  c.self.inside.entries.ok,
)

pub overflow_add-index_mut : goal.overflow_add-index_mut
overflow_add-index_mut c =
    let e : Entry = record { dir = c.args.dir.0; name = c.args.name; obj = c.args.obj } in
    omega (
      arith,
      count_fits _ _ _ _ _ c.self.invariant c.is_pool.ensures c.is_pool-2.ensures _ c.self.view_is c.in-Some.index c.index_mut-2.result.now e
          (sym c.in-Some.ensures.moved) c.requires.dir c.index_mut-2.ensures.value,
    )

pub invariant_of-self-2 : goal.invariant_of-self-2
invariant_of-self-2 c =
    let e : Entry = record { dir = c.args.dir.0; name = c.args.name; obj = c.args.obj } in
    indexed_more _ _ _ _ _ c.self.invariant c.is_pool.ensures c.is_pool-2.ensures _ c.self.view_is c.in-Some.index c.index_mut-2.result.now e
    (sym c.in-Some.ensures.moved) c.requires.dir c.index_mut-2.ensures.value
    c.bucket_of-bucket.result c.push_back.new.self c.push_back-2.new.self (c.bucket_of-bucket.ensures.bucket
    ∙ ap (bucket_of c.self.inside.width c.args.dir.0) c.as_ref.ensures) c.push_back.ensures.pushed c.push_back-2.ensures.pushed c.requires.absent

pub returns-clause-add : goal.returns-clause-add
returns-clause-add c =
    let e : Entry = record { dir = c.args.dir.0; name = c.args.name; obj = c.args.obj } in
    shown_more _ _ _ _ _ c.self.invariant c.is_pool.ensures c.is_pool-2.ensures _ c.self.view_is c.in-Some.index c.index_mut-2.result.now e
    (sym c.in-Some.ensures.moved) c.requires.dir c.index_mut-2.ensures.value c.push_back.new.self c.push_back.ensures.pushed
