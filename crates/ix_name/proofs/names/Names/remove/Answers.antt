use Rattle.std.proofs.Common.{sym, ap, ◌∙◌, arith, option_map}
use Rattle.ix_name.{specs.Directories.removed, proofs.Found.{missed, hit_within, hit_some, hit_is, hit_its, hit_named}}
use Rattle.ix_name.proofs.Indexed.{chain_there, count_there, dir_held, bucket_held, count_some, indexed_fewer, shown_fewer}
use Rattle.ix_name.proofs.names.Names.remove.Goals as goal

pub returns-in_err-index-clause-found : goal.returns-in_err-index-clause-found
returns-in_err-index-clause-found c = ap (option_map _) c.from_residual.ensures
    ∙ sym (missed _ _ _ _ _ c.self.invariant _ c.self.view_is _ c.args.dir.0 c.args.name.now.bytes.now _ c.bucket_of-bucket.ensures.bucket c.deref.ensures.value
    c.in_err-index.ensures)

pub returns-in_err-index-clause-left : goal.returns-in_err-index-clause-left
returns-in_err-index-clause-left c =
    ap (λ o. removed o c.args.dir.0 c.args.name.now.bytes.now c.args.self.now)
    (sym (missed _ _ _ _ _ c.self.invariant _ c.self.view_is _ c.args.dir.0 c.args.name.now.bytes.now _ c.bucket_of-bucket.ensures.bucket c.deref.ensures.value
    c.in_err-index.ensures))

pub index-requires : goal.index-requires
index-requires c = omega (
  arith,
  hit_within _ _ _ _ _ c.self.invariant _ c.self.view_is _ c.args.dir.0 c.args.name.now.bytes.now _
      c.bucket_of-bucket.ensures.bucket c.deref.ensures.value c.in_ok-index.index c.in_ok-index.ensures,
  c.self.inside.entries.ok,
)

pub returns-in_err-entry-clause-found : goal.returns-in_err-entry-clause-found
returns-in_err-entry-clause-found c =
    absurd (hit_some _ _ _ _ _ c.self.invariant _ c.self.view_is _ c.args.dir.0 c.args.name.now.bytes.now _ c.bucket_of-bucket.ensures.bucket
    c.deref.ensures.value c.in_ok-index.index c.in_ok-index.ensures c.index.result.now c.index.ensures c.in_err-entry.was)

pub returns-in_err-entry-clause-left : goal.returns-in_err-entry-clause-left
returns-in_err-entry-clause-left c =
    absurd (hit_some _ _ _ _ _ c.self.invariant _ c.self.view_is _ c.args.dir.0 c.args.name.now.bytes.now _ c.bucket_of-bucket.ensures.bucket
    c.deref.ensures.value c.in_ok-index.index c.in_ok-index.ensures c.index.result.now c.index.ensures c.in_err-entry.was)

pub remove-requires-clause-chain : goal.remove-requires-clause-chain
remove-requires-clause-chain c =
    let is = hit_is _ _ _ _ _ c.self.invariant _ c.self.view_is _ c.args.dir.0 c.args.name.now.bytes.now _ c.bucket_of-bucket.ensures.bucket
    c.deref.ensures.value c.in_ok-index.index c.in_ok-index.ensures c.index.result.now c.in_ok-entry.entry c.index.ensures c.in_ok-entry.was in
    let its = hit_its _ _ _ _ _ c.self.invariant _ c.self.view_is _ c.args.dir.0 c.args.name.now.bytes.now _ c.bucket_of-bucket.ensures.bucket
    c.deref.ensures.value c.in_ok-index.index c.in_ok-index.ensures c.index.result.now c.in_ok-entry.entry c.index.ensures c.in_ok-entry.was in
    chain_there _ _ _ _ _ c.self.invariant c.is_pool.ensures c.is_pool-2.ensures _ c.self.view_is c.in_ok-index.index c.in_ok-entry.entry is c.args.dir.0 c.args.name.now.bytes.now its

pub remove-requires-clause-held : goal.remove-requires-clause-held
remove-requires-clause-held c =
    let is = hit_is _ _ _ _ _ c.self.invariant _ c.self.view_is _ c.args.dir.0 c.args.name.now.bytes.now _ c.bucket_of-bucket.ensures.bucket
    c.deref.ensures.value c.in_ok-index.index c.in_ok-index.ensures c.index.result.now c.in_ok-entry.entry c.index.ensures c.in_ok-entry.was in
    let its = hit_its _ _ _ _ _ c.self.invariant _ c.self.view_is _ c.args.dir.0 c.args.name.now.bytes.now _ c.bucket_of-bucket.ensures.bucket
    c.deref.ensures.value c.in_ok-index.index c.in_ok-index.ensures c.index.result.now c.in_ok-entry.entry c.index.ensures c.in_ok-entry.was in
    dir_held _ _ _ _ _ c.self.invariant c.is_pool.ensures c.is_pool-2.ensures _ c.self.view_is c.in_ok-index.index c.in_ok-entry.entry is c.args.dir.0 c.args.name.now.bytes.now its

pub remove-requires-2-clause-held : goal.remove-requires-2-clause-held
remove-requires-2-clause-held c =
    let is = hit_is _ _ _ _ _ c.self.invariant _ c.self.view_is _ c.args.dir.0 c.args.name.now.bytes.now _ c.bucket_of-bucket.ensures.bucket
    c.deref.ensures.value c.in_ok-index.index c.in_ok-index.ensures c.index.result.now c.in_ok-entry.entry c.index.ensures c.in_ok-entry.was in
    let its = hit_its _ _ _ _ _ c.self.invariant _ c.self.view_is _ c.args.dir.0 c.args.name.now.bytes.now _ c.bucket_of-bucket.ensures.bucket
    c.deref.ensures.value c.in_ok-index.index c.in_ok-index.ensures c.index.result.now c.in_ok-entry.entry c.index.ensures c.in_ok-entry.was in
    bucket_held _ _ _ _ _ c.self.invariant c.is_pool.ensures c.is_pool-2.ensures _ c.self.view_is c.in_ok-index.index c.in_ok-entry.entry is c.args.dir.0
    c.args.name.now.bytes.now its c.bucket_of-bucket.result c.bucket_of-bucket.ensures.bucket

pub index_mut-requires : goal.index_mut-requires
index_mut-requires c = omega (
  arith,
  hit_within _ _ _ _ _ c.self.invariant _ c.self.view_is _ c.args.dir.0 c.args.name.now.bytes.now _
      c.bucket_of-bucket.ensures.bucket c.deref.ensures.value c.in_ok-index.index c.in_ok-index.ensures,
  c.self.inside.entries.ok,
)

pub index_mut-requires-2 : goal.index_mut-requires-2
index_mut-requires-2 c =
    let is = hit_is _ _ _ _ _ c.self.invariant _ c.self.view_is _ c.args.dir.0 c.args.name.now.bytes.now _ c.bucket_of-bucket.ensures.bucket
    c.deref.ensures.value c.in_ok-index.index c.in_ok-index.ensures c.index.result.now c.in_ok-entry.entry c.index.ensures c.in_ok-entry.was in
    let its = hit_its _ _ _ _ _ c.self.invariant _ c.self.view_is _ c.args.dir.0 c.args.name.now.bytes.now _ c.bucket_of-bucket.ensures.bucket
    c.deref.ensures.value c.in_ok-index.index c.in_ok-index.ensures c.index.result.now c.in_ok-entry.entry c.index.ensures c.in_ok-entry.was in
    omega (
      arith,
      count_there _ _ _ _ _ c.self.invariant c.is_pool.ensures c.is_pool-2.ensures _ c.self.view_is c.in_ok-index.index c.in_ok-entry.entry is
          c.args.dir.0 c.args.name.now.bytes.now its,
      c.self.inside.counts.ok,
    )

pub overflow_sub-index_mut : goal.overflow_sub-index_mut
overflow_sub-index_mut c =
    let is = hit_is _ _ _ _ _ c.self.invariant _ c.self.view_is _ c.args.dir.0 c.args.name.now.bytes.now _ c.bucket_of-bucket.ensures.bucket
    c.deref.ensures.value c.in_ok-index.index c.in_ok-index.ensures c.index.result.now c.in_ok-entry.entry c.index.ensures c.in_ok-entry.was in
    let its = hit_its _ _ _ _ _ c.self.invariant _ c.self.view_is _ c.args.dir.0 c.args.name.now.bytes.now _ c.bucket_of-bucket.ensures.bucket
    c.deref.ensures.value c.in_ok-index.index c.in_ok-index.ensures c.index.result.now c.in_ok-entry.entry c.index.ensures c.in_ok-entry.was in
    omega (
      arith,
      count_some _ _ _ _ _ c.self.invariant c.is_pool.ensures c.is_pool-2.ensures _ c.self.view_is c.in_ok-index.index c.in_ok-entry.entry is
          c.args.dir.0 c.args.name.now.bytes.now its c.index_mut-2.result.now c.index_mut-2.ensures.value,
    )

pub invariant_of-self : goal.invariant_of-self
invariant_of-self c =
    let is = hit_is _ _ _ _ _ c.self.invariant _ c.self.view_is _ c.args.dir.0 c.args.name.now.bytes.now _ c.bucket_of-bucket.ensures.bucket
    c.deref.ensures.value c.in_ok-index.index c.in_ok-index.ensures c.index.result.now c.in_ok-entry.entry c.index.ensures c.in_ok-entry.was in
    let its = hit_its _ _ _ _ _ c.self.invariant _ c.self.view_is _ c.args.dir.0 c.args.name.now.bytes.now _ c.bucket_of-bucket.ensures.bucket
    c.deref.ensures.value c.in_ok-index.index c.in_ok-index.ensures c.index.result.now c.in_ok-entry.entry c.index.ensures c.in_ok-entry.was in
    indexed_fewer _ _ _ _ _ c.self.invariant c.is_pool.ensures c.is_pool-2.ensures _ c.self.view_is c.in_ok-index.index c.in_ok-entry.entry is c.args.dir.0
    c.args.name.now.bytes.now its c.bucket_of-bucket.result c.index_mut-2.result.now c.remove.new.self c.remove-2.new.self c.bucket_of-bucket.ensures.bucket
    c.index_mut-2.ensures.value c.remove.ensures c.remove-2.ensures

pub returns-clause-found : goal.returns-clause-found
returns-clause-found c =
    sym (hit_named _ _ _ _ _ c.self.invariant _ c.self.view_is _ c.args.dir.0 c.args.name.now.bytes.now _ c.bucket_of-bucket.ensures.bucket
    c.deref.ensures.value c.in_ok-index.index c.in_ok-index.ensures c.index.result.now c.in_ok-entry.entry c.index.ensures c.in_ok-entry.was)

pub returns-clause-left : goal.returns-clause-left
returns-clause-left c =
    let is = hit_is _ _ _ _ _ c.self.invariant _ c.self.view_is _ c.args.dir.0 c.args.name.now.bytes.now _ c.bucket_of-bucket.ensures.bucket
    c.deref.ensures.value c.in_ok-index.index c.in_ok-index.ensures c.index.result.now c.in_ok-entry.entry c.index.ensures c.in_ok-entry.was in
    let its = hit_its _ _ _ _ _ c.self.invariant _ c.self.view_is _ c.args.dir.0 c.args.name.now.bytes.now _ c.bucket_of-bucket.ensures.bucket
    c.deref.ensures.value c.in_ok-index.index c.in_ok-index.ensures c.index.result.now c.in_ok-entry.entry c.index.ensures c.in_ok-entry.was in
    shown_fewer _ _ _ _ _ c.self.invariant c.is_pool.ensures c.is_pool-2.ensures _ c.self.view_is c.in_ok-index.index c.in_ok-entry.entry is c.args.dir.0
    c.args.name.now.bytes.now its c.remove.new.self c.remove.ensures ∙ ap (λ o. removed o c.args.dir.0 c.args.name.now.bytes.now c.args.self.now)
    (sym (hit_named _ _ _ _ _ c.self.invariant _ c.self.view_is _ c.args.dir.0 c.args.name.now.bytes.now _ c.bucket_of-bucket.ensures.bucket
    c.deref.ensures.value c.in_ok-index.index c.in_ok-index.ensures c.index.result.now c.in_ok-entry.entry c.index.ensures c.in_ok-entry.was))
