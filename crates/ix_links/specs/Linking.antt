-- Single changes of links.
use Rattle.std.specs.Prelude.{ℕ, ◌<◌, List, length, set, get_or, Option, Some, None}
use Rattle.ix_links.specs.declared.link.Link.{Link}
use Rattle.ix_links.specs.declared.link.Ends.{Ends}

-- an item in no chain
abbrev pub loose : Link
loose = record { previous = None; next = None }

abbrev pub link_at : List Link → ℕ → Link
link_at items i = get_or items i loose

-- it is none or an item
abbrev pub Within : List Link → Option ℕ → Type 0
Within items None = Unit {0}
Within items (Some i) = i < length items

-- another follower of an item
abbrev pub next_set : List Link → Option ℕ → Option ℕ → List Link
next_set items None q = items
next_set items (Some i) q = set items i (record { previous = (link_at items i).previous; next = q })

-- another item before an item
abbrev pub previous_set : List Link → Option ℕ → Option ℕ → List Link
previous_set items None p = items
previous_set items (Some i) p = set items i (record { previous = p; next = (link_at items i).next })

-- another first item where none stands before
abbrev pub first_set : Ends → Option ℕ → Option ℕ → Ends
first_set e None q = record { first = q; last = e.last }
first_set e (Some i) q = e

-- another last item where none stands behind
abbrev pub last_set : Ends → Option ℕ → Option ℕ → Ends
last_set e None p = record { first = e.first; last = p }
last_set e (Some i) p = e

-- the items once the neighbours of one are neighbours
abbrev pub unlinked_items : List Link → Link → List Link
unlinked_items items l = previous_set (next_set items l.previous l.next) l.next l.previous

abbrev pub unlinked_ends : Ends → Link → Ends
unlinked_ends e l = last_set (first_set e l.previous l.next) l.next l.previous

-- the items once one stands between two
abbrev pub inserted_items : List Link → ℕ → Link → List Link
inserted_items items i l = previous_set (next_set (set items i l) l.previous (Some i)) l.next (Some i)

abbrev pub inserted_ends : Ends → ℕ → Link → Ends
inserted_ends e i l = last_set (first_set e l.previous (Some i)) l.next (Some i)
