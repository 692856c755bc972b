-- The entries stay indexed where one comes and where one goes.
use Rattle.std.proofs.Common.{◌≡◌, ℕ, ◌+◌, ◌-◌, ◌<◌, ◌^◌, nat_lt, if◌then◌else◌, false, true, List, [], ◌∷◌, ◌++◌, length, map, drop, get_or, set, Option, Some}
use Rattle.std.proofs.Common.{None, refl, sym, ap, ◌∙◌, subst, arith, slice_get, length-append}
use Rattle.std.specs.{List.Contains, Cmp.Lexicographic.same_text}
use Rattle.std.proofs.lemmas.{Bool.Decides.nat_tests, List.{length-set, length-map, length-drop, map-set, get_or_read}, Option.slice_get_within}
use Rattle.std.proofs.Math.ListN.{get_or-map}
use Rattle.ix_links.specs.{Chains.{Chains, chain_of, pushed_back, removed, without}, Whole.IsPool}
use Rattle.ix_links.proofs.{Listing.part-le-total, Held.{free_below, pool-pushed_back, pool-removed, length-without}, Members.{dropped, without_once}}
use Rattle.ix_links.proofs.Pooled.{once, stands_within, stands_contained, fresh, pushed}
use Rattle.ix_name.specs.{declared.entry.Entry.Entry, Directories.{Directories, with_more, with_fewer, names_of, under}, Buckets.{bucket_of, bucket_in}}
use Rattle.ix_name.specs.{Entries.{entry_at, is_of, pair_at, stands_in, lists_of, AreFiled}, Indexed.{directories, AreIndexed}}
use Rattle.ix_name.proofs.{Filed.{filed_more, lists_more, unique_more, filed_fewer, lists_fewer, unique_fewer, stands, is_of_parts}, Searched.none_of}

-- there is a count for each chain
counts_all : (counts : List ℕ) (dirs : Chains) → counts ≡ map length dirs.chains → length counts ≡ length dirs.chains
counts_all counts dirs is = ap length is ∙ length-map dirs.chains (length {A = ℕ})

-- the count that was read is how many indices the chain has
pub count_of : (counts : List ℕ) (dirs : Chains) → counts ≡ map length dirs.chains → (d n : ℕ) → d < length dirs.chains → n ≡ get_or counts d n → n ≡ length (chain_of d dirs)
count_of counts dirs is d n low read =
    get_or_read counts d n (omega (arith, low, counts_all counts dirs is)) read 0 ∙ ap (λ ns. get_or ns d 0) is ∙ get_or-map length dirs.chains d []

same_directories : (a b : Directories) → a.lists ≡ b.lists → a.free ≡ b.free → a ≡ b
same_directories a b lists free =
    let with_lists : List (List (List ℕ × ℕ)) → Directories = λ xs. record { lists = xs; free = a.free } in
    let with_free : ℕ → Directories = λ n. record { lists = b.lists; free = n } in
    ap with_lists lists ∙ ap with_free free

pub dir_within : (es : List (Option Entry)) (dirs : Chains) (v : Directories) → directories es dirs ≡ v → (d : ℕ) → d < length v.lists → d < length dirs.chains
dir_within es dirs v shown d low = omega (arith, low, ap (λ (w : Directories). length w.lists) shown, length-map dirs.chains (map (pair_at es)))

module _ (es : List (Option Entry)) (dirs buckets : Chains) (counts : List ℕ) (width : ℕ) (old : AreIndexed es dirs buckets counts width)
    (dirs_pooled : IsPool dirs) (buckets_pooled : IsPool buckets) (v : Directories) (shown : directories es dirs ≡ v) where
  counted_set : (d n : ℕ) (xs : List ℕ) → n ≡ length xs → set counts d n ≡ map length (set dirs.chains d xs)
  counted_set d n xs is = ap (λ ns. set ns d n) old.counted ∙ ap (set (map length dirs.chains) d) is ∙ sym (map-set length dirs.chains d xs)

  bucket_low : (e : Entry) → bucket_in width e < length buckets.chains
  bucket_low e = omega (arith, old.some, old.wide)

  count_at : (d n : ℕ) → d < length dirs.chains → n ≡ get_or counts d n → n ≡ length (chain_of d dirs)
  count_at d n low read = count_of counts dirs old.counted d n low read

  pub index_within : (i : ℕ) → slice_get dirs.free 0 ≡ Some i → i < length es
  index_within i first = omega (arith, free_below dirs 0 i dirs_pooled first, old.dirs_pool)

  -- an entry more, at the first free index
  module _ (i n : ℕ) (e : Entry) (first : slice_get dirs.free 0 ≡ Some i) (within : e.dir < length v.lists) (read : n ≡ get_or counts e.dir n) where
    low : e.dir < length dirs.chains
    low = dir_within es dirs v shown e.dir within

    pub count_fits : n + 1 < 2 ^ 32
    count_fits = omega (arith, count_at e.dir n low read, part-le-total length dirs.chains e.dir low, slice_get_within dirs.free 0 i first, dirs_pooled.few)

    first_in_buckets : slice_get buckets.free 0 ≡ Some i
    first_in_buckets = ap (λ free. slice_get free 0) old.alike ∙ first

    more : ((j : ℕ) (a : Entry) → entry_at es j ≡ Some a → is_of e.dir e.name a ≡ false)
        → AreIndexed (set es i (Some e)) (pushed_back e.dir dirs) (pushed_back (bucket_in width e) buckets) (set counts e.dir (n + 1)) width
    more absent =
        let at_dir = pushed e.dir i dirs first in
        let at_bucket = pushed (bucket_in width e) i buckets first_in_buckets in
        record {
          by_dir = subst (λ chains. AreFiled (λ x. x.dir) chains (set es i (Some e))) (sym at_dir.chains)
              (filed_more es dirs.chains e.dir i e (index_within i first) (fresh dirs dirs_pooled i first) (λ x. x.dir) refl low old.by_dir);
          by_bucket = subst (λ chains. AreFiled (bucket_in width) chains (set es i (Some e))) (sym at_bucket.chains)
              (filed_more es buckets.chains (bucket_in width e) i e (index_within i first) (fresh buckets buckets_pooled i first_in_buckets) (bucket_in width)
              refl (bucket_low e) old.by_bucket);
          unique = unique_more es i e (index_within i first) absent old.unique;
          alike = at_bucket.free ∙ ap (drop 1) old.alike ∙ sym at_dir.free;
          counted = counted_set e.dir (n + 1) (chain_of e.dir dirs ++ i ∷ []) (omega (
            arith,
            count_at e.dir n low read,
            length-append (chain_of e.dir dirs) (i ∷ []),
          )) ∙ ap (map length) (sym at_dir.chains);
          wide = ap length at_bucket.chains ∙ length-set buckets.chains _ _ ∙ old.wide;
          some = old.some;
          dirs_pool = pool-pushed_back e.dir dirs low ∙ old.dirs_pool ∙ sym (length-set es i (Some e));
          buckets_pool = pool-pushed_back (bucket_in width e) buckets (bucket_low e) ∙ old.buckets_pool ∙ sym (length-set es i (Some e));
        }

    pub indexed_more : (b : ℕ) (dirs' buckets' : Chains) → b ≡ bucket_in width e → dirs' ≡ pushed_back e.dir dirs → buckets' ≡ pushed_back b buckets
        → under e.name (names_of v e.dir) ≡ None → AreIndexed (set es i (Some e)) dirs' buckets' (set counts e.dir (n + 1)) width
    indexed_more b dirs' buckets' home at_dirs at_buckets absent =
        let is : buckets' ≡ pushed_back (bucket_in width e) buckets = at_buckets ∙ ap (λ k. pushed_back k buckets) home in
        let none : under e.name (names_of (directories es dirs) e.dir) ≡ None = ap (λ w. under e.name (names_of w e.dir)) shown ∙ absent in
        let done = more (none_of es dirs.chains old.by_dir e.dir e.name none) in
        let one = subst (λ t. AreIndexed (set es i (Some e)) t (pushed_back (bucket_in width e) buckets) (set counts e.dir (n + 1)) width) (sym at_dirs) done in
        subst (λ t. AreIndexed (set es i (Some e)) dirs' t (set counts e.dir (n + 1)) width) (sym is) one

    pub shown_more : (dirs' : Chains) → dirs' ≡ pushed_back e.dir dirs → directories (set es i (Some e)) dirs' ≡ (if nat_lt 0 v.free then with_more e.dir e.name e.obj.0 v else v)
    shown_more dirs' at_dirs =
        let at_dir = pushed e.dir i dirs first in
        let lists : lists_of (set es i (Some e)) (pushed_back e.dir dirs).chains ≡ (with_more e.dir e.name e.obj.0 (directories es dirs)).lists =
        ap (lists_of (set es i (Some e))) at_dir.chains ∙ lists_more es dirs.chains e.dir i e (index_within i first) (fresh dirs dirs_pooled i first) in
        let free : length (pushed_back e.dir dirs).free ≡ length dirs.free - 1 = ap length at_dir.free ∙ length-drop 1 dirs.free in
        let done : directories (set es i (Some e)) dirs' ≡ with_more e.dir e.name e.obj.0 v = ap (directories (set es i (Some e))) at_dirs
        ∙ same_directories _ _ lists free ∙ ap (with_more e.dir e.name e.obj.0) shown in
        let some : 0 < v.free = omega (arith, ap (λ (w : Directories). w.free) shown, slice_get_within dirs.free 0 i first) in
        let room : nat_lt 0 v.free ≡ true = grind (arith, nat_tests) in
        done ∙ rw room refl

  -- an entry fewer
  module _ (i : ℕ) (e : Entry) (is : entry_at es i ≡ Some e) where
    in_dir : stands_in dirs.chains e.dir i ≡ true
    in_dir = stands (λ x. x.dir) dirs.chains es old.by_dir i e is

    in_bucket : stands_in buckets.chains (bucket_in width e) i ≡ true
    in_bucket = stands (bucket_in width) buckets.chains es old.by_bucket i e is

    dir_low : e.dir < length dirs.chains
    dir_low = stands_within dirs dirs_pooled e.dir i in_dir

    held : Contains (chain_of e.dir dirs) i
    held = stands_contained dirs dirs_pooled e.dir i in_dir

    held_in_bucket : Contains (chain_of (bucket_in width e) buckets) i
    held_in_bucket = stands_contained buckets buckets_pooled (bucket_in width e) i in_bucket

    dir_fewer : (removed e.dir i dirs).chains ≡ set dirs.chains e.dir (dropped i (chain_of e.dir dirs))
    dir_fewer = ap (set dirs.chains e.dir) (without_once i (chain_of e.dir dirs) (once dirs dirs_pooled e.dir i in_dir))

    bucket_fewer : (removed (bucket_in width e) i buckets).chains ≡ set buckets.chains (bucket_in width e) (dropped i (chain_of (bucket_in width e) buckets))
    bucket_fewer = ap (set buckets.chains (bucket_in width e)) (without_once i (chain_of (bucket_in width e) buckets) (once buckets buckets_pooled (bucket_in width e) i in_bucket))

    fewer : (n : ℕ) → n ≡ get_or counts e.dir n → AreIndexed (set es i None) (removed e.dir i dirs) (removed (bucket_in width e) i buckets) (set counts e.dir (n - 1)) width
    fewer n read = record {
      by_dir = subst (λ chains. AreFiled (λ x. x.dir) chains (set es i None)) (sym dir_fewer) (filed_fewer es dirs.chains e.dir i e is dir_low (λ x. x.dir) refl old.by_dir);
      by_bucket = subst (λ chains. AreFiled (bucket_in width) chains (set es i None)) (sym bucket_fewer) (filed_fewer es buckets.chains (bucket_in width e) i e
          is (bucket_low e) (bucket_in width) refl old.by_bucket);
      unique = unique_fewer es dirs.chains e.dir i e is dir_low old.unique;
      alike = ap (λ free. i ∷ free) old.alike;
      counted = counted_set e.dir (n - 1) (without i (chain_of e.dir dirs)) (omega (arith, count_at e.dir n dir_low read, length-without i (chain_of e.dir dirs) held));
      wide = length-set buckets.chains _ _ ∙ old.wide;
      some = old.some;
      dirs_pool = pool-removed e.dir i dirs dir_low held ∙ old.dirs_pool ∙ sym (length-set es i None);
      buckets_pool = pool-removed (bucket_in width e) i buckets (bucket_low e) held_in_bucket ∙ old.buckets_pool ∙ sym (length-set es i None);
    }

    shown_here : directories (set es i None) (removed e.dir i dirs) ≡ with_fewer e.dir e.name v
    shown_here =
        let lists : lists_of (set es i None) (removed e.dir i dirs).chains ≡ (with_fewer e.dir e.name (directories es dirs)).lists =
        ap (lists_of (set es i None)) dir_fewer ∙ lists_fewer es dirs.chains e.dir i e is dir_low old.by_dir old.unique refl in
        let free : length (removed e.dir i dirs).free ≡ length dirs.free + 1 = omega arith in
        same_directories _ _ lists free ∙ ap (with_fewer e.dir e.name) shown

    -- where it was looked for by its directory and name
    module _ (d : ℕ) (name : List ℕ) (its : is_of d name e ≡ true) where
      at : e.dir ≡ d
      at = (is_of_parts d name e its).0

      named : e.name ≡ name
      named = same_text e.name name (sym (is_of_parts d name e its).1)

      home : (b : ℕ) → b ≡ bucket_of width d name → b ≡ bucket_in width e
      home b is = is ∙ ap (λ k. bucket_of width k name) (sym at) ∙ ap (bucket_of width e.dir) (sym named)

      pub chain_there : d < length dirs.chains
      chain_there = subst (λ k. k < length dirs.chains) at dir_low

      pub count_there : d < length counts
      count_there = omega (arith, chain_there, counts_all counts dirs old.counted)

      pub dir_held : Contains (chain_of d dirs) i
      dir_held = subst (λ k. Contains (chain_of k dirs) i) at held

      pub bucket_held : (b : ℕ) → b ≡ bucket_of width d name → Contains (chain_of b buckets) i
      bucket_held b is = subst (λ k. Contains (chain_of k buckets) i) (sym (home b is)) held_in_bucket

      count_here : (n : ℕ) → n ≡ get_or counts d n → n ≡ get_or counts e.dir n
      count_here n read = read ∙ ap (λ k. get_or counts k n) (sym at)

      pub count_some : (n : ℕ) → n ≡ get_or counts d n → 0 < n
      count_some n read = omega (arith, count_at e.dir n dir_low (count_here n read), held.1)

      pub indexed_fewer : (b n : ℕ) (dirs' buckets' : Chains) → b ≡ bucket_of width d name → n ≡ get_or counts d n → dirs' ≡ removed d i dirs
          → buckets' ≡ removed b i buckets → AreIndexed (set es i None) dirs' buckets' (set counts d (n - 1)) width
      indexed_fewer b n dirs' buckets' is read at_dirs at_buckets =
          let in_dirs : dirs' ≡ removed e.dir i dirs = at_dirs ∙ ap (λ k. removed k i dirs) (sym at) in
          let in_buckets : buckets' ≡ removed (bucket_in width e) i buckets = at_buckets ∙ ap (λ k. removed k i buckets) (home b is) in
          let one = subst (λ t. AreIndexed (set es i None) t (removed (bucket_in width e) i buckets) (set counts e.dir (n - 1)) width) (sym in_dirs) (fewer n (count_here n read)) in
          let two = subst (λ t. AreIndexed (set es i None) dirs' t (set counts e.dir (n - 1)) width) (sym in_buckets) one in
          subst (λ k. AreIndexed (set es i None) dirs' buckets' (set counts k (n - 1)) width) at two

      pub shown_fewer : (dirs' : Chains) → dirs' ≡ removed d i dirs → directories (set es i None) dirs' ≡ with_fewer d name v
      shown_fewer dirs' at_dirs =
          ap (directories (set es i None)) (at_dirs ∙ ap (λ k. removed k i dirs) (sym at))
          ∙ shown_here ∙ ap (λ k. with_fewer k e.name v) at ∙ ap (λ t. with_fewer d t v) named
