use Rattle.std.proofs.Common.{◌≡◌, ◌+◌, ◌∙◌, sym, ap, subst, true, ℕ, List, length, take, is_some, slice_set, arith}
use Rattle.ix_model.specs.{world.World.at, history.Step.put_front}
use Rattle.ix_tables.specs.Parts.{Parts}
use Rattle.ix_fcalls.proofs.{Serving.{serves_pipe, serves_file}, Edits.{edited_frame, edited_counted, readable_pipe, readable_file, took, moved_past}}
use Rattle.ix_fcalls.proofs.files.Files.read_bytes.Goals as goal

pub take_bytes-requires-clause-pipe : goal.take_bytes-requires-clause-pipe
take_bytes-requires-clause-pipe g c = serves_pipe _ _ c.requires.serves (sym c.is_on_pipe.ensures ∙ c.if-is_on_pipe.true)

pub take_bytes-requires-clause-end : goal.take_bytes-requires-clause-end
take_bytes-requires-clause-end g c = c.requires.serves.end

pub returns-then-is_on_pipe-clause-count : goal.returns-then-is_on_pipe-clause-count
returns-then-is_on_pipe-clause-count g c = c.take_bytes.ensures.count ∙ sym (ap (λ (xs : List ℕ). length (take c.args.count xs)) (readable_pipe g.R.Others.rest c.args.self.now _ c.args.e.now
    (sym c.is_on_pipe.ensures ∙ c.if-is_on_pipe.true)))

pub returns-then-is_on_pipe-clause-bytes : goal.returns-then-is_on_pipe-clause-bytes
returns-then-is_on_pipe-clause-bytes g c = c.take_bytes.ensures.bytes ∙ sym
    (ap (λ (xs : List ℕ). put_front (take c.args.count xs) c.args.buf.now) (readable_pipe g.R.Others.rest c.args.self.now _ c.args.e.now
    (sym c.is_on_pipe.ensures ∙ c.if-is_on_pipe.true)))

pub returns-then-is_on_pipe-clause-frame : goal.returns-then-is_on_pipe-clause-frame
returns-then-is_on_pipe-clause-frame g c = edited_frame c.args.self.now _ _ _ c.take_bytes.ensures.rest g.R.Others.rest _

pub returns-then-is_on_pipe-clause-content : goal.returns-then-is_on_pipe-clause-content
returns-then-is_on_pipe-clause-content g c = took g.R.Others.rest _ _ c.args.e.now _ _ (sym c.is_on_pipe.ensures ∙ c.if-is_on_pipe.true) c.take_bytes.ensures.rest

pub returns-then-is_on_pipe-clause-counted : goal.returns-then-is_on_pipe-clause-counted
returns-then-is_on_pipe-clause-counted g c = edited_counted _ _ _ _ c.take_bytes.ensures.rest _ c.requires.counted

pub copy_bytes-k-requires-clause-file : goal.copy_bytes-k-requires-clause-file
copy_bytes-k-requires-clause-file g c = serves_file _ _ c.requires.serves (sym c.is_on_pipe.ensures ∙ c.if-is_on_pipe.false)

pub overflow_add-past : goal.overflow_add-past
overflow_add-past g c = omega (arith, c.requires.serves.low, c.copy_bytes-k.ensures.few)

pub seek-requires : goal.seek-requires
seek-requires g c = subst (λ (v : Parts). is_some (at v.opens c.args.e.now.id) ≡ true) (sym c.self.view_is) c.requires.serves.entry

pub returns-clause-count : goal.returns-clause-count
returns-clause-count g c = c.copy_bytes-k.ensures.count ∙ sym (ap (λ (xs : List ℕ). length (take c.args.count xs)) (readable_file g.R.Others.rest _ _ _ c.requires.serves
    (sym c.is_on_pipe.ensures ∙ c.if-is_on_pipe.false)))

pub returns-clause-bytes : goal.returns-clause-bytes
returns-clause-bytes g c = c.copy_bytes-k.ensures.bytes ∙ sym (ap (λ (xs : List ℕ). put_front (take c.args.count xs) c.args.buf.now) (readable_file g.R.Others.rest _ _ _
    c.requires.serves (sym c.is_on_pipe.ensures ∙ c.if-is_on_pipe.false)))

pub returns-clause-frame : goal.returns-clause-frame
returns-clause-frame g c = edited_frame c.args.self.now _ _ _
    (c.seek.ensures ∙ ap (λ (v : Parts). let w : Parts = record v { offsets = slice_set v.offsets c.args.e.now.id (c.args.e.now.offset + c.copy_bytes-k.result) } in w) c.self.view_is)
    g.R.Others.rest _

pub returns-clause-content : goal.returns-clause-content
returns-clause-content g c =
    moved_past g.R.Others.rest _ _ _ _ _ c.requires.serves (sym c.is_on_pipe.ensures ∙ c.if-is_on_pipe.false)
    (c.seek.ensures ∙ ap (λ (v : Parts). let w : Parts = record v { offsets = slice_set v.offsets c.args.e.now.id (c.args.e.now.offset + c.copy_bytes-k.result) } in w) c.self.view_is)

pub returns-clause-counted : goal.returns-clause-counted
returns-clause-counted g c = edited_counted _ _ _ _
    (c.seek.ensures ∙ ap (λ (v : Parts). let w : Parts = record v { offsets = slice_set v.offsets c.args.e.now.id (c.args.e.now.offset + c.copy_bytes-k.result) } in w) c.self.view_is)
    _ c.requires.counted
