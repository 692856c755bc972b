use Rattle.std.{proofs.Common.{◌≡◌, ◌+◌, ◌-◌, ◌≤◌, ◌∙◌, ◌++◌, ℕ, List, sym, ap, subst, true, false, length, is_some, slice_set, slice_index_or, arith}, specs.Option.option_map_or}
use Rattle.ix_model.specs.{world.{World.{at, is_pipe, is_file}, Contents.{holds_nothing, side, with_side, spliced}}, rows.{Telling.length_then, Walks.node}}
use Rattle.ix_tables.specs.{Views.has_room, Parts.Parts}
use Rattle.ix_fcalls.proofs.{Serving.{serves_pipe, serves_file}, Lengths.{pipe_room, write_few, write_ends, write_low, write_has_room}}
use Rattle.ix_fcalls.proofs.Edits.{edited_frame, edited_counted, appended, written}
use Rattle.ix_fcalls.proofs.files.Files.write_bytes.Goals as goal

-- bytes sent to an end of a pipe
abbrev with_sent : ℕ → ℕ → List ℕ → Parts → Parts
with_sent o end bytes v =
    record v { holdings = slice_set v.holdings o (with_side end (side end (slice_index_or v.holdings o holds_nothing) ++ bytes) (slice_index_or v.holdings o holds_nothing)) }

-- bytes written into a file, and an offset
abbrev with_bytes : ℕ → ℕ → List ℕ → Parts → Parts
with_bytes o offset bytes v =
    record v { holdings = slice_set v.holdings o (with_side 0 (spliced offset bytes (slice_index_or v.holdings o holds_nothing).first) (slice_index_or v.holdings o holds_nothing)) }

abbrev with_offset : ℕ → ℕ → Parts → Parts
with_offset e offset v = record v { offsets = slice_set v.offsets e offset }

pub append-requires-clause-pipe : goal.append-requires-clause-pipe
append-requires-clause-pipe g c = subst (λ v. is_pipe (node v.objects c.args.e.now.object) ≡ true) (sym c.self.view_is)
    (serves_pipe _ _ c.requires.serves (sym c.is_on_pipe.ensures ∙ c.if-is_on_pipe.true))

pub append-requires-clause-end : goal.append-requires-clause-end
append-requires-clause-end g c = c.requires.serves.end

pub append-requires-clause-room : goal.append-requires-clause-room
append-requires-clause-room g c =
    subst (λ (v : Parts). length (side (1 - c.args.e.now.end) (slice_index_or v.holdings c.args.e.now.object holds_nothing)) + length c.args.bytes.now ≤ 4096) (sym c.self.view_is)
    (pipe_room g.R.Others.rest c.args.self.now _ c.args.e.now (length c.args.bytes.now) c.requires.room (sym c.is_on_pipe.ensures ∙ c.if-is_on_pipe.true))

pub returns-then-is_on_pipe-clause-frame : goal.returns-then-is_on_pipe-clause-frame
returns-then-is_on_pipe-clause-frame g c = edited_frame c.args.self.now _ _ _ (c.append.ensures ∙ ap (with_sent c.args.e.now.object (1 - c.args.e.now.end) c.args.bytes.now) c.self.view_is)
    g.R.Others.rest _

pub returns-then-is_on_pipe-clause-content : goal.returns-then-is_on_pipe-clause-content
returns-then-is_on_pipe-clause-content g c =
    appended g.R.Others.rest _ _ c.args.e.now _ _ (sym c.is_on_pipe.ensures ∙ c.if-is_on_pipe.true)
    (c.append.ensures ∙ ap (with_sent c.args.e.now.object (1 - c.args.e.now.end) c.args.bytes.now) c.self.view_is)

pub returns-then-is_on_pipe-clause-counted : goal.returns-then-is_on_pipe-clause-counted
returns-then-is_on_pipe-clause-counted g c = edited_counted _ _ _ _
    (c.append.ensures ∙ ap (with_sent c.args.e.now.object (1 - c.args.e.now.end) c.args.bytes.now) c.self.view_is)
    _ c.requires.counted

pub overflow_cast-n : goal.overflow_cast-n
overflow_cast-n g c =
    let few = write_few g.R.Others.rest _ _ _ (length c.args.bytes.now) c.requires.room c.requires.serves (sym c.is_on_pipe.ensures ∙ c.if-is_on_pipe.false) in
    omega (arith, few)

pub overflow_add-past : goal.overflow_add-past
overflow_add-past g c =
    let ends = write_ends g.R.Others.rest _ _ _ (length c.args.bytes.now) c.requires.room c.requires.serves (sym c.is_on_pipe.ensures ∙ c.if-is_on_pipe.false) in
    omega (arith, ends)

pub write-requires-clause-file : goal.write-requires-clause-file
write-requires-clause-file g c = subst (λ (v : Parts). option_map_or is_file (at v.objects c.args.e.now.object) false ≡ true) (sym c.self.view_is)
    (serves_file _ _ c.requires.serves (sym c.is_on_pipe.ensures ∙ c.if-is_on_pipe.false))

pub write-requires-clause-most : goal.write-requires-clause-most
write-requires-clause-most g c =
    subst (λ (v : Parts). length_then c.args.e.now.offset (length c.args.bytes.now) (length (slice_index_or v.holdings c.args.e.now.object holds_nothing).first) ≤ 1048576) (sym c.self.view_is)
    (write_low g.R.Others.rest _ _ _ (length c.args.bytes.now) c.requires.room c.requires.serves (sym c.is_on_pipe.ensures ∙ c.if-is_on_pipe.false))

pub write-requires-clause-room : goal.write-requires-clause-room
write-requires-clause-room g c = subst (λ (v : Parts). has_room c.args.e.now.object (length_then c.args.e.now.offset (length c.args.bytes.now)
    (length (slice_index_or v.holdings c.args.e.now.object holds_nothing).first)) v ≡ true) (sym c.self.view_is)
    (write_has_room g.R.Others.rest _ _ _ (length c.args.bytes.now) c.requires.room c.requires.serves (sym c.is_on_pipe.ensures ∙ c.if-is_on_pipe.false))

pub seek-requires : goal.seek-requires
seek-requires g c = subst (λ (v : Parts). is_some (at v.opens c.args.e.now.id) ≡ true) (sym c.write.ensures)
    (subst (λ (v : Parts). is_some (at v.opens c.args.e.now.id) ≡ true) (sym c.self.view_is) c.requires.serves.entry)

pub returns-clause-frame : goal.returns-clause-frame
returns-clause-frame g c = edited_frame c.args.self.now _ _ _ (c.seek.ensures ∙ ap (with_offset c.args.e.now.id (c.args.e.now.offset + length c.args.bytes.now))
    (c.write.ensures ∙ ap (with_bytes c.args.e.now.object c.args.e.now.offset c.args.bytes.now) c.self.view_is)) g.R.Others.rest _

pub returns-clause-content : goal.returns-clause-content
returns-clause-content g c =
    written g.R.Others.rest _ _ _ _ _ c.requires.serves (sym c.is_on_pipe.ensures ∙ c.if-is_on_pipe.false)
    (c.seek.ensures ∙ ap (with_offset c.args.e.now.id (c.args.e.now.offset + length c.args.bytes.now))
    (c.write.ensures ∙ ap (with_bytes c.args.e.now.object c.args.e.now.offset c.args.bytes.now) c.self.view_is))

pub returns-clause-counted : goal.returns-clause-counted
returns-clause-counted g c = edited_counted _ _ _ _ (c.seek.ensures ∙ ap (with_offset c.args.e.now.id (c.args.e.now.offset + length _))
    (c.write.ensures ∙ ap (with_bytes c.args.e.now.object c.args.e.now.offset c.args.bytes.now) c.self.view_is))
    _ c.requires.counted
