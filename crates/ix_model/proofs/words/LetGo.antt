-- What lets go of descriptors keeps what its words keep.
use Rattle.std.{proofs.Common.{ℕ, List, [], ◌∷◌, Option, Some, None}, specs.Option.option_map_or}
use Rattle.ix_model.specs.{world.World.{Frame, put}, rows.{Rows.{pass, change_object, change_process, put_object, put_open}, Walks.OpenFile}}
use Rattle.ix_model.proofs.words.Keeps.{Keeps, keeps_then, keeps_pass, keeps_only_if}
use Rattle.ix_model.specs.rows.Lifetimes.{let_go_object, let_go_open, let_go_claim, let_go, let_go_if_held, let_go_each, let_go_all}

-- the words: a descriptor is free, a claim ends, and an open entry and an object are gone
pub record LetsGo (R : Frame → Type 0) (pid : ℕ) : Type 0 where
  pub free : (fd : ℕ) → Keeps R (change_process pid (λ p. record p { fds = put p.fds fd None }))
  pub unclaim : (o end : ℕ) → Keeps R (change_object o (λ x. record x { claims = put x.claims end None }))
  pub close : (e : ℕ) → Keeps R (put_open e None)
  pub gone : (o : ℕ) → Keeps R (put_object o None)

module _ (R : Frame → Type 0) (pid : ℕ) (w : LetsGo R pid) where
  pub keeps_let_go_object : (o : ℕ) → Keeps R (let_go_object o)
  unfolding let_go_object
  keeps_let_go_object o = record { led = λ g. (keeps_only_if R _ (put_object o None) (w.gone o)).led g }

  keeps_let_go_open : (e : ℕ) → Keeps R (let_go_open e)
  unfolding let_go_open
  keeps_let_go_open e = record { led = λ g. (keeps_only_if R _ (put_open e None) (w.close e)).led g }

  keeps_let_go_claim : (o end : ℕ) → Keeps R (let_go_claim pid o end)
  unfolding let_go_claim
  keeps_let_go_claim o end = record { led = λ g. (keeps_only_if R _ _ (w.unclaim o end)).led g }

  pub keeps_let_go : (fd : ℕ) (e : OpenFile) → Keeps R (let_go pid fd e)
  unfolding let_go
  keeps_let_go fd e =
      keeps_then R _ _ (w.free fd)
      (keeps_then R _ _ (keeps_let_go_claim _ _)
      (keeps_then R _ _ (keeps_let_go_open _) (keeps_let_go_object _)))

  keeps_let_go_if_held : (fd : ℕ) → Keeps R (let_go_if_held pid fd)
  unfolding let_go_if_held
  keeps_let_go_if_held fd = record { led = λ g r. (go _).led g r }
    where
      go : (b : Option OpenFile) → Keeps R (option_map_or (let_go pid fd) b (pass tt))
      go None = keeps_pass R tt
      go (Some e) = keeps_let_go fd e

  keeps_let_go_each : (fds : List ℕ) → Keeps R (let_go_each pid fds)
  unfolding let_go_each
  keeps_let_go_each [] = keeps_pass R tt
  keeps_let_go_each (fd ∷ fds) = keeps_then R _ _ (keeps_let_go_if_held fd) (keeps_let_go_each fds)

  pub keeps_let_go_all : Keeps R (let_go_all pid)
  unfolding let_go_all
  keeps_let_go_all = keeps_let_go_each _
