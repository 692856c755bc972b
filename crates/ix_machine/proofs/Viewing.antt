-- What stands behind a descriptor, with its offset and its owners, and how much an object holds, in the files' parts and in the world.
use Rattle.std.proofs.Common.{◌≡◌, ◌<◌, ℕ, Bool, true, false, not, length, slice_index_or, if◌then◌else◌, Option, Some, None, option_map, refl, ap, ◌∙◌}
use Rattle.std.specs.Option.{option_map_or}
use Rattle.ix_model.specs.{world.World.{World, Process, at, living, lives}, history.Views.{size_at, bytes_inside}, declared.views.Caller.Caller}
use Rattle.ix_model.specs.rows.Walks.{OpenFile, behind, behind_of}
use Rattle.ix_model.proofs.{tables.Finds.in_table, words.Standing.behind_is}
use Rattle.ix_audit.specs.Lines.{Lines}
use Rattle.ix_proc.specs.Table.{ProcTable}
use Rattle.ix_open.specs.declared.view.OpenView.{OpenView}
use Rattle.ix_tables.specs.Parts.{Parts}
use Rattle.ix_fcalls.{specs.{Claiming.entry_of, Counted.IsCounted, Spots.{size_in, bytes_in, view_in, view_through, viewed}}, proofs.Counting.owners_at}
use Rattle.ix_machine.{specs.Joined.joined, proofs.Standing.behind_by}

-- no descriptor of a process that doesn't live stands for anything
pub no_view : (w : World) (pid fd : ℕ) → lives w.frame pid ≡ false → None ≡ option_map (view_through w) (behind w.frame pid fd)
unfolding behind
no_view w pid fd h = go (at w.frame.processes pid) h
  where
    ended : (b : Bool) (p : Process) → not b ≡ false → None ≡ option_map (view_through w) (behind_of (if b then None else Some p) w.frame fd)
    ended true p h = refl
    ended false p h = cc

    go : (o : Option Process) → option_map_or (λ p. not p.ended) o false ≡ false → None ≡ option_map (view_through w) (behind_of (living o) w.frame fd)
    go None h = refl
    go (Some p) h = ended p.ended p h

module _ (t : Parts) (p : ProcTable) (l : Lines) (w : World) (here : joined t p l ≡ w) where
  one_view : IsCounted t p.processes → (e : OpenFile) → e.id < length t.opens → view_in t e ≡ view_through (joined t p l) e
  one_view counted e low = ap (λ n. viewed (slice_index_or t.offsets e.id 0) n e) (owners_at t p.processes counted e.id low)

  views : IsCounted t p.processes → (o : Option OpenFile) → ((e : OpenFile) → o ≡ Some e → e.id < length t.opens) → option_map (view_in t) o ≡ option_map (view_through (joined t p l)) o
  views counted None low = refl
  views counted (Some e) low = ap Some (one_view counted e (low e refl))

  pub view_is : (pid fd : ℕ) (c : Caller) (q : Process) (r : Option OpenView) → IsCounted t p.processes → living (at w.frame.processes pid) ≡ Some q
      → q.fds ≡ c.fds → r ≡ option_map (view_in t) (entry_of c fd t) → r ≡ option_map (view_through w) (behind w.frame pid fd)
  view_is pid fd c q r counted is fds h =
      h ∙ ap (option_map (view_in t)) (behind_by t p l pid fd c q (ap (λ (v : World). living (at v.frame.processes pid)) here ∙ is) fds)
      ∙ views counted (behind (joined t p l).frame pid fd) (λ e there. in_table t.opens e.id e.entry (behind_is (joined t p l).frame pid fd e there))
      ∙ ap (λ (v : World). option_map (view_through v) (behind v.frame pid fd)) here

  pub size_is : (o end : ℕ) → size_in t o end ≡ size_at w o end
  unfolding size_in size_at
  size_is o end = ap (λ (v : World). size_at v o end) here

  pub bytes_are : (o offset : ℕ) → bytes_in t o offset ≡ bytes_inside w o offset
  unfolding bytes_in bytes_inside
  bytes_are o offset = ap (λ (v : World). bytes_inside v o offset) here
