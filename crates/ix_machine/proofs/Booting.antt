-- The opening world, in its three parts.
use Rattle.std.proofs.Common.{◌≡◌, ◌<◌, ◌≤◌, ◌+◌, ◌-◌, ◌^◌, ℕ, true, false, List, [], ◌∷◌, ◌++◌, length, map, take, replicate, get_or, count_by, cond, nat_lt}
use Rattle.std.proofs.Common.{Option, Some, None, is_some, refl, sym, ap, subst, ◌∙◌, arith}
use Rattle.std.proofs.{lemmas.Bool.ltb-false, lemmas.List.{take_more, length-take, length-map, length-append, map-append, replicate-append-replicate}}
use Rattle.std.proofs.lemmas.List.Sums.{sum_by-cons, count_by-le-length}
use Rattle.ix_model.specs.{world.World.{World, Process}, opening.{Opening.{process_of, opening_world}, Valid.is_valid}}
use Rattle.ix_model.specs.declared.config.{Config.Config, ProcSpec.ProcSpec}
use Rattle.ix_model.proofs.{opening.{OpenedWorlds.world_with, Validity.valid_parts}, sound.Reaching.opening_is_built}
use Rattle.ix_audit.specs.Lines.{Lines}
use Rattle.ix_proc.specs.Table.{ProcTable, starting, with_process}
use Rattle.ix_tables.specs.Parts.{Parts, parts_of}
use Rattle.ix_machine.specs.{Joined.{joined, AreJoined}, Opened.opened}

-- ---- processes, one by one
abbrev lines : List ProcSpec → List (Option Process)
lines ss = map (λ s. Some (process_of s)) ss

pub opened_next : (ss : List ProcSpec) (n limit : ℕ) → length ss ≤ limit → limit ≤ 1024 → length (opened (take n ss) limit).processes < 2 ^ 32 - 1
opened_next ss n limit room few = omega (arith, length-map (take n ss) (λ s. Some (process_of s)), length-take n ss)

pub opened_room : (ss : List ProcSpec) (n limit : ℕ) → length ss ≤ limit → n < length ss → nat_lt (count_by is_some (opened (take n ss) limit).processes) limit ≡ false → ⊥
opened_room ss n limit room low full =
    absurd (omega (
      arith,
      ltb-false (count_by is_some (opened (take n ss) limit).processes) limit full,
      sum_by-cons (λ (q : Option Process). cond {A = ℕ} (is_some q) 1 0) None (lines (take n ss)),
      count_by-le-length is_some (lines (take n ss)),
      length-map (take n ss) (λ s. Some (process_of s)),
      length-take n ss,
    ))

zeros_more : (k : ℕ) → ◌≡◌ {A = List ℕ} (replicate (k + 1) 0) (replicate k 0 ++ 0 ∷ [])
zeros_more k = sym (replicate-append-replicate {A = ℕ} k 1 0)

pub opened_more : (ss : List ProcSpec) (n limit : ℕ) (s : ProcSpec) (t : ProcTable) → n < length ss → get_or ss n s ≡ s
    → t ≡ with_process (starting s) (opened (take n ss) limit) → t ≡ opened (take (n + 1) ss) limit
opened_more ss n limit s t low here is =
    let more : take (n + 1) ss ≡ take n ss ++ s ∷ [] = take_more ss n s low ∙ ap (λ x. take n ss ++ x ∷ []) here in
    let ps : lines (take (n + 1) ss) ≡ lines (take n ss) ++ Some (process_of s) ∷ [] = ap lines more ∙ map-append (λ x. Some (process_of x)) (take n ss) (s ∷ []) in
    let long : length (take (n + 1) ss) ≡ length (take n ss) + 1 = ap length more ∙ length-append (take n ss) (s ∷ []) in
    let zeros : ◌≡◌ {A = List ℕ} (replicate (length (take (n + 1) ss) + 1) 0) (replicate (length (take n ss) + 1) 0 ++ 0 ∷ []) =
    ap (λ (k : ℕ). let zs : List ℕ = replicate (k + 1) 0 in zs) long ∙ zeros_more (length (take n ss) + 1) in
    let last : with_process (starting s) (opened (take n ss) limit) ≡ opened (take (n + 1) ss) limit = λ i. record { processes = None ∷ sym ps i; statuses = sym zeros i; limit = limit } in
    is ∙ last

-- ---- the whole
pub valid_room : (c : Config) → is_valid c ≡ true → length c.procs ≤ c.limits.procs
valid_room c valid = (valid_parts c valid).procs.few

pub valid_few : (c : Config) → is_valid c ≡ true → c.limits.procs ≤ 1024
valid_few c valid = (valid_parts c valid).limits.procs

pub record Opens (c : Config) (t : Parts) (p : ProcTable) (l : Lines) : Type 0 where
  pub view : joined t p l ≡ opening_world c
  pub joins : AreJoined t p l

pub opens : (c : Config) (t : Parts) (p : ProcTable) (l : Lines) → is_valid c ≡ true → t ≡ parts_of (opening_world c) → p ≡ opened c.procs c.limits.procs
    → l ≡ record { cap = c.limits.log; lines = [] } → Opens c t p l
opens c t p l valid files procs log =
    let v = valid_parts c valid in
    let b = opening_is_built c v in
    let w : World = world_with c b.objects b.holdings in
    let ts : t ≡ parts_of w = files ∙ ap parts_of b.is in
    let none : Lines = record { cap = c.limits.log; lines = [] } in
    let base : AreJoined (parts_of w) (opened c.procs c.limits.procs) none = record { counted = record { owners = refl; homes = refl }; procs = refl; log = refl; few = v.limits.procs } in
    let here : joined (parts_of w) (opened c.procs c.limits.procs) none ≡ w = refl in
    record {
      view = (λ i. joined (ts i) (procs i) (log i)) ∙ here ∙ sym b.is;
      joins =
          subst (λ (x : Parts). AreJoined x p l) (sym ts)
          (subst (λ (x : ProcTable). AreJoined (parts_of w) x l) (sym procs) (subst (λ (x : Lines). AreJoined (parts_of w) (opened c.procs c.limits.procs) x) (sym log) base));
    }

pub ruleset booting = (opened_next, opened_room, opened_more)
