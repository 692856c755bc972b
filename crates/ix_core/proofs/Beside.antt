-- A fact that speaks of the processes alone is kept by all words but those on processes.
use Rattle.std.proofs.Common.{◌≡◌, ℕ, Bool, true, None, refl, ap}
use Rattle.ix_model.specs.{world.World.{Frame, Process}, rows.{Auditing.logged, OnProcesses.end_process}}
use Rattle.ix_model.specs.rows.Rows.{put_object, put_open, put_process, add_process, change_object, change_process, change_open}
use Rattle.ix_model.proofs.words.{Keeps.{Holds, Keeps}, Rowwise.{Change, Forking, Ending, Words}}

pub words_beside : (can : Change → Bool) (R : Frame → Type 0) → ((f g : Frame) → f.processes ≡ g.processes → R f → R g) → (pid : ℕ)
    → ((p : ℕ) (h : Process → Process) → ((q : Process) → (h q).ended ≡ q.ended) → Keeps R (change_process p h)) → (can Forking ≡ true → (p : Process) → Keeps R (add_process p))
    → (can Ending ≡ true → Keeps R (end_process pid)) → (can Ending ≡ true → (p : ℕ) → Keeps R (put_process p None)) → Words can pid R
unfolding change_object put_object change_open put_open logged Holds
words_beside can R same pid process fork end collect = record {
  object = λ o h is. record { led = λ g r. same g _ refl r };
  process = λ p h is. process p h (λ q. ap (λ x. x.ended) (is q));
  float = λ h is. process _ h (λ q. ap (λ x. x.ended) (is q));
  entry = λ e x low. record { led = λ g r. same g _ refl r };
  through = λ moves e l. record { led = λ g r. same g _ refl r };
  unclaim = λ o end. record { led = λ g r. same g _ refl r };
  relabel = λ moves o h is. record { led = λ g r. same g _ refl r };
  claim = λ claims o h is. record { led = λ g r. same g _ refl r };
  log = λ logs l. record { led = λ g r. same g _ refl r };
  inode = λ makes f o k kind r free. record { led = λ g s. same g _ refl s };
  pipe = λ makes f o r free. record { led = λ g s. same g _ refl s };
  gone_object = λ goes o. record { led = λ g r. same g _ refl r };
  gone_open = λ goes e. record { led = λ g r. same g _ refl r };
  fork = fork;
  end = end;
  collect = collect;
}
