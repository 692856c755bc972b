-- The loops that read names, file systems and objects.
use Rattle.std.{proofs.{Common.{◌≡◌, ℕ, zero, suc, ◌+◌, ◌-◌, ◌<◌, ◌≤◌, true, List, [], ◌∷◌, ◌++◌, Ok, Err, refl, sym, ap, ◌∙◌}, lemmas.List.map-append}, specs.Result.is_ok}
use Rattle.ix_model.specs.declared.config.FsSpec.{FsSpec}
use Rattle.ix_image.specs.{declared.{fault.Fault.Fault, node.Node.Node}, Trees.{LinkOf, NodeOf}, Meant.{links_read, node_of, nodes_of}}
use Rattle.ix_image.specs.Reading.{Read, ◌>>=◌, link_at, links_at, file_system_at, file_systems_at, node_at, nodes_at}
use Rattle.ix_image.proofs.{Looping.{with_front, goes_on, ends_at, all_read, none_read_yet}, Objects.{no_more, one_more}}

-- ---- names
-- names that were read, and those that are left, are all
pub record LinksSoFar (n i : ℕ) (bytes rest : List ℕ) : Type 0 where
  pub front : List LinkOf
  pub whole : with_front front (links_at (n - i) rest) ≡ links_at n bytes

pub links_begin : (n : ℕ) (bytes : List ℕ) → LinksSoFar n 0 bytes bytes
links_begin n bytes = record { front = []; whole = none_read_yet (λ s. link_at) (λ l. tt {0}) (λ s. links_at) (λ s. no_more link_at) (λ s. one_more link_at) n (tt) bytes }

pub links_go_on : (n i : ℕ) (bytes rest after : List ℕ) (l : LinkOf) → i < n → link_at rest ≡ Ok (l, after) → LinksSoFar n i bytes rest → LinksSoFar n (i + 1) bytes after
links_go_on n i bytes rest after l low h so_far =
    record {
      front = so_far.front ++ l ∷ [];
      whole = goes_on (λ s. link_at) (λ l. tt {0}) (λ s. links_at) (λ s. no_more link_at) (λ s. one_more link_at) so_far.front n i (tt) rest l _
          (links_at n bytes) low h so_far.whole;
    }

pub links_end : (n i : ℕ) (bytes rest : List ℕ) (f : Fault) → i < n → link_at rest ≡ Err f → LinksSoFar n i bytes rest → links_at n bytes ≡ Err f
links_end n i bytes rest f low h so_far =
    ends_at (λ s. link_at) (λ l. tt {0}) (λ s. links_at) (λ s. no_more link_at) (λ s. one_more link_at) so_far.front n i (tt) rest f (links_at n bytes) low h so_far.whole

all_links : (n i : ℕ) (bytes rest : List ℕ) (so_far : LinksSoFar n i bytes rest) → n ≤ i → links_at n bytes ≡ Ok (so_far.front, rest)
all_links n i bytes rest so_far high = all_read (λ s. link_at) (λ l. tt {0}) (λ s. links_at) (λ s. no_more link_at) (λ s. one_more link_at) _ n i (tt) _ (links_at n bytes) high so_far.whole

pub links_readable : (n i : ℕ) (bytes rest : List ℕ) → LinksSoFar n i bytes rest → n ≤ i → is_ok (links_at n bytes) ≡ true
links_readable n i bytes rest so_far high = ap is_ok (all_links n i _ _ so_far high)

pub links_are : (n i : ℕ) (bytes rest : List ℕ) → LinksSoFar n i bytes rest → n ≤ i → links_at n bytes ≡ Ok (links_read (links_at n bytes), rest)
links_are n i bytes rest so_far high =
    let e = all_links n i _ _ so_far high in
    e ∙ ap (λ xs. Ok (xs, rest)) (sym (ap links_read e))

-- ---- file systems
pub systems_begin : (n : ℕ) (bytes : List ℕ) → with_front [] (file_systems_at (n - 0) bytes) ≡ file_systems_at n bytes
systems_begin n bytes = none_read_yet (λ s. file_system_at) (λ l. tt {0}) (λ s. file_systems_at) (λ s. no_more file_system_at) (λ s. one_more file_system_at) n (tt) bytes

pub systems_go_on : (front : List FsSpec) (n i : ℕ) (bytes : List ℕ) (x : FsSpec) (after : List ℕ) (total : Read (List FsSpec)) → i < n → file_system_at bytes ≡ Ok (x, after)
    → with_front front (file_systems_at (n - i) bytes) ≡ total → with_front (front ++ x ∷ []) (file_systems_at (n - (i + 1)) after) ≡ total
systems_go_on front n i bytes = goes_on (λ s. file_system_at) (λ l. tt {0}) (λ s. file_systems_at) (λ s. no_more file_system_at) (λ s. one_more file_system_at) front n i (tt) bytes

pub systems_end : (front : List FsSpec) (n i : ℕ) (bytes : List ℕ) (f : Fault) (total : Read (List FsSpec)) → i < n → file_system_at bytes ≡ Err f
    → with_front front (file_systems_at (n - i) bytes) ≡ total → total ≡ Err f
systems_end front n i bytes = ends_at (λ s. file_system_at) (λ l. tt {0}) (λ s. file_systems_at) (λ s. no_more file_system_at) (λ s. one_more file_system_at) front n i (tt) bytes

pub all_systems : (front : List FsSpec) (n i : ℕ) (bytes : List ℕ) (total : Read (List FsSpec)) → n ≤ i → with_front front (file_systems_at (n - i) bytes) ≡ total → total ≡ Ok (front, bytes)
all_systems front n i bytes = all_read (λ s. file_system_at) (λ l. tt {0}) (λ s. file_systems_at) (λ s. no_more file_system_at) (λ s. one_more file_system_at) _ n i (tt) _

-- ---- objects
module _ (fss : List FsSpec) where
  nodes_none : (least : ℕ) (bytes : List ℕ) → nodes_at fss least zero bytes ≡ Ok ([], bytes)
  unfolding nodes_at
  nodes_none least bytes = refl

  nodes_more : (least n : ℕ) (bytes : List ℕ) → nodes_at fss least (suc n) bytes
      ≡ (node_at fss least bytes >>= λ first. nodes_at fss (first.0.number + 1) n first.1 >>= λ others. Ok (first.0 ∷ others.0, others.1))
  unfolding nodes_at
  nodes_more least n bytes = refl

  pub nodes_begin : (n : ℕ) (bytes : List ℕ) → with_front [] (nodes_at fss 0 (n - 0) bytes) ≡ nodes_at fss 0 n bytes
  nodes_begin n bytes = none_read_yet (node_at _) (λ x. x.number + 1) (nodes_at fss) nodes_none nodes_more n 0 bytes

  pub nodes_go_on : (front : List Node) (n i least : ℕ) (bytes : List ℕ) (x : Node) (after : List ℕ) (total : Read (List NodeOf)) → i < n → node_at fss least bytes ≡ Ok (node_of x, after)
      → with_front (nodes_of front) (nodes_at fss least (n - i) bytes) ≡ total → with_front (nodes_of (front ++ x ∷ [])) (nodes_at fss (x.number + 1) (n - (i + 1)) after) ≡ total
  nodes_go_on front n i least bytes x after total low h so_far =
      ap (λ xs. with_front xs (nodes_at fss (x.number + 1) (n - (i + 1)) after)) (map-append node_of front _)
      ∙ goes_on (node_at _) (λ x. x.number + 1) (nodes_at fss) nodes_none nodes_more (nodes_of front) n i least bytes _ _ total low h so_far

  pub nodes_end : (front : List Node) (n i least : ℕ) (bytes : List ℕ) (f : Fault) (total : Read (List NodeOf)) → i < n → node_at fss least bytes ≡ Err f
      → with_front (nodes_of front) (nodes_at fss least (n - i) bytes) ≡ total → total ≡ Err f
  nodes_end front n i least bytes = ends_at (node_at _) (λ x. x.number + 1) (nodes_at fss) nodes_none nodes_more (nodes_of front) n i least bytes

  pub all_nodes : (front : List Node) (n i least : ℕ) (bytes : List ℕ) (total : Read (List NodeOf)) → n ≤ i → with_front (nodes_of front) (nodes_at fss least (n - i) bytes) ≡ total → total
      ≡ Ok (nodes_of front, bytes)
  all_nodes front n i least bytes = all_read (node_at _) (λ x. x.number + 1) (nodes_at fss) nodes_none nodes_more _ n i least _
