use Rattle.std.proofs.Common.{sym, ap, ◌∙◌, ◌+◌, arith, option_map}
use Rattle.ix_name.proofs.Found.{hit_within, behind_missed, behind_at, behind_within, none_behind, held_some, held_named}
use Rattle.ix_name.proofs.names.Names.after.Goals as goal

pub returns-in_err-index : goal.returns-in_err-index
returns-in_err-index c =
    λ place o h. absurd (behind_missed _ _ _ _ _ c.self.invariant _ c.self.view_is _ c.args.dir.0 c.args.name.now.bytes.now _ c.bucket_of-bucket.ensures.bucket
    c.deref.ensures.value place o h c.in_err-index.ensures)

pub next-requires : goal.next-requires
next-requires c = omega (
  arith,
  hit_within _ _ _ _ _ c.self.invariant _ c.self.view_is _ c.args.dir.0 c.args.name.now.bytes.now _
      c.bucket_of-bucket.ensures.bucket c.deref.ensures.value c.in_ok-index.index c.in_ok-index.ensures,
  c.self.invariant.dirs_pool,
)

pub returns-in_err-next : goal.returns-in_err-next
returns-in_err-next c = λ place o h.
    ap (option_map _) c.from_residual-in_err-next.ensures
    ∙ none_behind _ _ _ _ _ c.self.invariant _ c.self.view_is c.args.dir.0 (place + 1)
    (sym (c.in_err-next.ensures.chain c.args.dir.0 place (behind_at _ _ _ _ _ c.self.invariant _ c.self.view_is _ c.args.dir.0 c.args.name.now.bytes.now _
    c.bucket_of-bucket.ensures.bucket c.deref.ensures.value place o h c.in_ok-index.index c.in_ok-index.ensures)))

pub index-requires : goal.index-requires
index-requires c =
    omega (
      arith,
      behind_within _ _ _ _ _ c.self.invariant _ c.self.view_is _ c.args.dir.0 c.args.name.now.bytes.now _ c.bucket_of-bucket.ensures.bucket
          c.deref.ensures.value c.in_ok-index.index c.in_ok-next.next c.in_ok-index.ensures c.in_ok-next.ensures.chain,
      c.self.inside.entries.ok,
    )

pub returns-in_err-entry : goal.returns-in_err-entry
returns-in_err-entry c = λ place o h.
    absurd (held_some _ _ _ _ _ c.self.invariant _ c.self.view_is c.args.dir.0 (place + 1) c.in_ok-next.next
    (c.in_ok-next.ensures.chain c.args.dir.0 place (behind_at _ _ _ _ _ c.self.invariant _ c.self.view_is _ c.args.dir.0 c.args.name.now.bytes.now _
    c.bucket_of-bucket.ensures.bucket c.deref.ensures.value place o h c.in_ok-index.index c.in_ok-index.ensures)) c.index.result.now c.index.ensures
    c.in_err-entry.was)

pub returns : goal.returns
returns c = λ place o h.
    sym (held_named _ _ _ _ _ c.self.invariant _ c.self.view_is c.args.dir.0 (place + 1) c.in_ok-next.next
    (c.in_ok-next.ensures.chain c.args.dir.0 place (behind_at _ _ _ _ _ c.self.invariant _ c.self.view_is _ c.args.dir.0 c.args.name.now.bytes.now _
    c.bucket_of-bucket.ensures.bucket c.deref.ensures.value place o h c.in_ok-index.index c.in_ok-index.ensures)) c.index.result.now c.in_ok-entry.entry
    c.index.ensures c.in_ok-entry.was)
