-- File systems, names and objects: what is read is what was written, and what was written is read.
use Rattle.std.proofs.Common.{◌≡◌, ℕ, zero, suc, ◌<◌, ◌≤◌, Bool, true, false, ◌==◌, List, [], ◌∷◌, ◌++◌, length, Ok, refl, sym, ap, subst, ◌∙◌, arith, append_assoc}
use Rattle.std.{specs.List.{flat_map, AllByRecursion}, proofs.lemmas.{Bool.{and_parts, leb-true}, List.Concat.flat_map-cons}}
use Rattle.ix_model.specs.{opening.Valid.is_within, world.Naming.is_name, declared.{config.FsSpec.FsSpec, privs.PrivSet.PrivSet}}
use Rattle.ix_text.specs.Names.{is_script_name}
use Rattle.ix_image.specs.{declared.marks.Marks.Marks, Trees.{LinkOf, Holds, Bytes, Links, are_links}, Labelled.label_bytes, Laws.AreBytes, Image.{is_size_of_file_system, is_count_of_names}}
use Rattle.ix_image.specs.{Image.{four, name_bytes, file_system_bytes, link_bytes, held_bytes, flag, marks_bytes, IsFileSystem, IsLink, AreHeld, is_size_of_file}, Reading.{set_at, marks_at}}
use Rattle.ix_image.specs.Reading.{Read, ◌>>=◌, number_at, name_at, many_at, file_system_at, file_systems_at, link_at, links_at, file_at, directory_at, held_at, flag_at}
use Rattle.ix_image.proofs.Fielding.{OneField, Took, took_both, stepped, bind_ok, taken, bytes_field, word_field, number_field, small_field, name_field, label_field}

-- ---- tests
-- what is within a range is at most the greatest
pub most_within : (low high n : ℕ) → is_within low high n ≡ true → n ≤ high
most_within low high n h = leb-true n high (and_parts _ _ h).1

few_in_script_name : (x : List ℕ) → is_script_name x ≡ true → length x < 256
unfolding is_script_name
few_in_script_name x h =
    let low = leb-true (length x) 16 (and_parts _ _ (and_parts _ _ (and_parts _ _ h).0).0).1 in
    omega arith

few_in_name : (x : List ℕ) → is_name x ≡ true → length x < 256
unfolding is_name
few_in_name x h =
    let d = and_parts _ _ (and_parts _ _ (and_parts _ _ (and_parts _ _ h).0).0).0 in
    omega (arith, leb-true (length x) 28 d.1)

pub size_field : OneField (number_at is_size_of_file_system) four (λ n. is_size_of_file_system n ≡ true)
size_field = number_field _ (λ n h. omega (arith, most_within 1 _ n h))

-- ---- many of one kind
module _ {A : Type 0} (read : List ℕ → Read A) where
  pub no_more : (bytes : List ℕ) → many_at read zero bytes ≡ Ok ([], bytes)
  unfolding many_at
  no_more bytes = refl

  pub one_more : (n : ℕ) (bytes : List ℕ) → many_at read (suc n) bytes ≡ (read bytes >>= λ first. many_at read n first.1 >>= λ others. Ok (first.0 ∷ others.0, others.1))
  unfolding many_at
  one_more n bytes = refl

module _ {A : Type 0} (read : List ℕ → Read A) (write : A → List ℕ) (may : A → Type 0) (one : OneField read write may) where
  pub many_take : (n : ℕ) (bytes : List ℕ) (xs : List A) (rest : List ℕ) → AreBytes bytes → many_at read n bytes ≡ Ok (xs, rest) → Took bytes (flat_map write xs) rest
      × ((length xs ≡ n) × AllByRecursion may xs)
  many_take zero bytes xs rest are e =
      let whole : Took bytes [] bytes = record { parts = refl; are_bytes = are } in
      taken _ ([], bytes) (xs, rest) (flat_map write) (λ x. (length x ≡ 0) × AllByRecursion may x) (sym (no_more read _) ∙ e) (whole, (refl, tt))
  many_take (suc n) bytes xs rest are e =
      let s = stepped one _ _ _ are (sym (one_more read n bytes) ∙ e) in
      let b = bind_ok _ _ _ s.next in
      let t = many_take n _ _ _ s.took.are_bytes b.1 in
      taken bytes (s.value ∷ b.0.0, b.0.1) (xs, rest) (flat_map write) (λ x. (length x ≡ suc n) × AllByRecursion may x) b.2
      (subst (λ (x : List ℕ). Took bytes x b.0.1) (sym (flat_map-cons write s.value b.0.0)) (took_both s.took t.0), (ap suc t.1.0, (s.allowed, t.1.1)))

  pub many_again : (xs : List A) (rest : List ℕ) → AllByRecursion may xs → many_at read (length xs) (flat_map write xs ++ rest) ≡ Ok (xs, rest)
  many_again [] rest all = no_more read _
  many_again (x ∷ xs) rest all =
      one_more read (length xs) (flat_map write (x ∷ xs) ++ rest) ∙ rw (
        ap (λ b. b ++ rest) (flat_map-cons write x xs)
            ∙ append_assoc (write x) (flat_map write xs) rest,
        one.again x (flat_map write xs ++ rest) all.0,
        many_again xs rest all.1,
      ) refl

  pub many_field : (n : ℕ) → OneField (many_at read n) (flat_map write) (λ xs. (length xs ≡ n) × AllByRecursion may xs)
  many_field n = record {
    takes = many_take n;
    again = λ xs rest is. ap (λ k. many_at read k (flat_map write xs ++ rest)) (sym is.0) ∙ many_again xs _ is.1;
  }

-- ---- file systems
scripted : OneField (name_at is_script_name) name_bytes (λ x. is_script_name x ≡ true)
scripted = name_field _ few_in_script_name

pub file_system_field : OneField file_system_at file_system_bytes IsFileSystem
unfolding file_system_at
file_system_field = record { takes = takes; again = again }
  where
    takes : (bytes : List ℕ) (s : FsSpec) (rest : List ℕ) → AreBytes bytes → file_system_at bytes ≡ Ok (s, rest) → Took bytes (file_system_bytes s) rest × IsFileSystem s
    takes bytes s rest are e =
        let a = stepped scripted _ _ _ are e in
        let b = stepped label_field _ _ _ a.took.are_bytes a.next in
        let c = stepped size_field _ _ _ b.took.are_bytes b.next in
        let d = stepped size_field _ _ _ c.took.are_bytes c.next in
        let bd = took_both b.took (took_both c.took d.took) in
        taken bytes (record { name = a.value; ceiling = b.value; blocks = c.value; inodes = d.value }, d.rest) (s, rest) file_system_bytes IsFileSystem d.next
        (took_both a.took bd, record { name = a.allowed; ceiling = b.allowed; blocks = c.allowed; inodes = d.allowed })

    again : (s : FsSpec) (rest : List ℕ) → IsFileSystem s → file_system_at (file_system_bytes s ++ rest) ≡ Ok (s, rest)
    again s rest is =
        let regrouped : file_system_bytes s ++ rest ≡ name_bytes s.name ++ (label_bytes s.ceiling ++ (four s.blocks ++ (four s.inodes ++ rest))) =
        append_assoc (name_bytes s.name) (label_bytes s.ceiling ++ (four s.blocks ++ four s.inodes)) rest
        ∙ ap (λ (x : List ℕ). name_bytes s.name ++ x) (append_assoc (label_bytes s.ceiling) (four s.blocks ++ four s.inodes) rest
        ∙ ap (λ (x : List ℕ). label_bytes s.ceiling ++ x) (append_assoc (four s.blocks) (four s.inodes) rest)) in
        ap file_system_at regrouped ∙ rw (
          scripted.again s.name (label_bytes s.ceiling ++ (four s.blocks ++ (four s.inodes ++ rest))) is.name,
          label_field.again s.ceiling (four s.blocks ++ (four s.inodes ++ rest)) is.ceiling,
          size_field.again s.blocks (four s.inodes ++ rest) is.blocks,
          size_field.again s.inodes rest is.inodes,
        ) refl

pub file_systems_field : (n : ℕ) → OneField (file_systems_at n) (flat_map file_system_bytes) (λ xs. (length xs ≡ n) × AllByRecursion IsFileSystem xs)
file_systems_field = many_field _ file_system_bytes IsFileSystem file_system_field

-- ---- names
named : OneField (name_at is_name) name_bytes (λ x. is_name x ≡ true)
named = name_field _ few_in_name

pub link_field : OneField link_at link_bytes IsLink
unfolding link_at
link_field = record { takes = takes; again = again }
  where
    takes : (bytes : List ℕ) (l : LinkOf) (rest : List ℕ) → AreBytes bytes → link_at bytes ≡ Ok (l, rest) → Took bytes (link_bytes l) rest × IsLink l
    takes bytes l rest are e =
        let a = stepped named _ _ _ are e in
        let b = stepped word_field _ _ _ a.took.are_bytes a.next in
        taken _ ((a.value, b.value), b.rest) (l, rest) link_bytes IsLink b.next (took_both a.took b.took, record { name = a.allowed; object = b.allowed })

    again : (l : LinkOf) (rest : List ℕ) → IsLink l → link_at (link_bytes l ++ rest) ≡ Ok (l, rest)
    again l rest is =
        ap link_at (append_assoc (name_bytes l.0) _ rest) ∙ rw (named.again l.0 (four l.1 ++ rest) is.name, word_field.again l.1 rest is.object) refl

pub links_field : (n : ℕ) → OneField (links_at n) (flat_map link_bytes) (λ xs. (length xs ≡ n) × AllByRecursion IsLink xs)
links_field = many_field _ link_bytes IsLink link_field

-- ---- what objects hold
file_size_field : OneField (number_at is_size_of_file) four (λ n. is_size_of_file n ≡ true)
file_size_field = number_field _ (λ n h. omega (arith, most_within 0 _ n h))

name_count_field : OneField (number_at is_count_of_names) four (λ n. is_count_of_names n ≡ true)
name_count_field = number_field _ (λ n h. omega (arith, most_within 0 _ n h))

file_takes : (bytes : List ℕ) (h : Holds) (rest : List ℕ) → AreBytes bytes → file_at bytes ≡ Ok (h, rest) → Took bytes (held_bytes h) rest × (AreHeld h × (are_links h ≡ false))
unfolding file_at
file_takes bytes h rest are e =
    let a = stepped file_size_field _ _ _ are e in
    let b = stepped (bytes_field _) _ _ _ a.took.are_bytes a.next in
    taken _ (Bytes _, b.rest) (h, rest) held_bytes (λ x. AreHeld x × (are_links x ≡ false)) b.next (
      subst (λ n. Took bytes (four n ++ b.value) b.rest)
          (sym b.allowed) (took_both a.took b.took),
      (ap is_size_of_file b.allowed ∙ a.allowed, refl),
    )

directory_takes : (bytes : List ℕ) (h : Holds) (rest : List ℕ) → AreBytes bytes → directory_at bytes ≡ Ok (h, rest) → Took bytes (held_bytes h) rest × (AreHeld h × (are_links h ≡ true))
unfolding directory_at
directory_takes bytes h rest are e =
    let a = stepped name_count_field _ _ _ are e in
    let b = stepped (links_field _) _ _ _ a.took.are_bytes a.next in
    taken _ (Links _, b.rest) (h, rest) held_bytes (λ x. AreHeld x × (are_links x ≡ true)) b.next (
      subst (λ n. Took bytes (four n ++ flat_map link_bytes b.value) b.rest) (sym b.allowed.0) (took_both a.took b.took),
      ((ap is_count_of_names b.allowed.0 ∙ a.allowed, b.allowed.1), refl),
    )

file_again : (x rest : List ℕ) → is_size_of_file (length x) ≡ true → file_at (held_bytes (Bytes x) ++ rest) ≡ Ok (Bytes x, rest)
unfolding file_at
file_again x rest few =
    ap file_at (append_assoc (four (length x)) x rest) ∙ rw (file_size_field.again, (bytes_field (length x)).again x rest refl) refl

directory_again : (xs : List LinkOf) (rest : List ℕ) → is_count_of_names (length xs) ≡ true → AllByRecursion IsLink xs → directory_at (held_bytes (Links xs) ++ rest) ≡ Ok (Links xs, rest)
unfolding directory_at
directory_again xs rest few all =
    ap directory_at (append_assoc (four (length xs)) _ rest) ∙ rw (name_count_field.again, (links_field (length xs)).again xs rest (refl, all)) refl

pub held_field : (is_dir : Bool) → OneField (held_at is_dir) held_bytes (λ h. AreHeld h × (are_links h ≡ is_dir))
unfolding held_at
held_field is_dir = record { takes = takes _; again = again _ }
  where
    takes : (is_dir : Bool) (bytes : List ℕ) (h : Holds) (rest : List ℕ) → AreBytes bytes → held_at is_dir bytes ≡ Ok (h, rest) → Took bytes (held_bytes h) rest × (AreHeld h × (are_links h ≡ is_dir))
    takes true bytes h rest are e = directory_takes _ h _ are e
    takes false bytes h rest are e = file_takes _ h _ are e

    again : (is_dir : Bool) (h : Holds) (rest : List ℕ) → (AreHeld h × (are_links h ≡ is_dir)) → held_at is_dir (held_bytes h ++ rest) ≡ Ok (h, rest)
    again true (Bytes x) rest is = absurd (cc)
    again false (Bytes x) rest is = file_again x _ is.0
    again true (Links xs) rest is = directory_again xs _ is.0.0 is.0.1
    again false (Links xs) rest is = absurd (cc)

-- ---- marks
flag_back : (n : ℕ) → n ≤ 1 → flag (n == 1) ≡ n
flag_back zero low = refl
flag_back (suc zero) low = refl
flag_back (suc (suc n)) low = absurd (omega arith)

flag_again : (b : Bool) → (flag b == 1) ≡ b
flag_again true = refl
flag_again false = refl

flag_low : (b : Bool) → flag b ≤ 1
flag_low true = omega arith
flag_low false = omega arith

flag_field : OneField flag_at (λ b. flag b ∷ []) (λ _. Unit {0})
unfolding flag_at
flag_field = record { takes = takes; again = again }
  where
    takes : (bytes : List ℕ) (b : Bool) (rest : List ℕ) → AreBytes bytes → flag_at bytes ≡ Ok (b, rest) → Took bytes (flag b ∷ []) rest × Unit {0}
    takes bytes b rest are e =
        let s = stepped (small_field 1) _ _ _ are e in
        taken _ (s.value == 1, s.rest) (b, rest) (λ x. flag x ∷ []) (λ x. Unit) s.next (subst (λ n. Took bytes (n ∷ []) s.rest) (sym (flag_back _ s.allowed)) s.took, tt)

    again : (b : Bool) (rest : List ℕ) → Unit {0} → flag_at ((flag b ∷ []) ++ rest) ≡ Ok (b, rest)
    again b rest is = rw ((small_field 1).again (flag b) rest (flag_low b), flag_again) refl

below_32 : (n : ℕ) → n ≤ 31 → n < 32
below_32 n low = omega arith

most_31 : (n : ℕ) → n < 32 → n ≤ 31
most_31 n low = omega arith

set_field : OneField set_at (λ s. s.0 ∷ []) (λ s. s.0 < 32)
unfolding set_at
set_field = record { takes = takes; again = again }
  where
    takes : (bytes : List ℕ) (set : PrivSet) (rest : List ℕ) → AreBytes bytes → set_at bytes ≡ Ok (set, rest) → Took bytes (set.0 ∷ []) rest × (set.0 < 32)
    takes bytes set rest are e =
        let s = stepped (small_field 31) _ _ _ are e in
        taken _ (record { 0 = s.value }, s.rest) (set, rest) (λ x. x.0 ∷ []) (λ x. x.0 < 32) s.next (s.took, below_32 _ s.allowed)

    again : (set : PrivSet) (rest : List ℕ) → set.0 < 32 → set_at ((set.0 ∷ []) ++ rest) ≡ Ok (set, rest)
    again set rest is = rw ((small_field 31).again set.0 rest (most_31 _ is)) refl

-- both sets have no privileges but the five
abbrev pub AreMarks : Marks → Type 0
AreMarks m = (m.cap.0 < 32) × (m.lic.0 < 32)

pub marks_field : OneField marks_at marks_bytes AreMarks
unfolding marks_at
marks_field = record { takes = takes; again = again }
  where
    takes : (bytes : List ℕ) (m : Marks) (rest : List ℕ) → AreBytes bytes → marks_at bytes ≡ Ok (m, rest) → Took bytes (marks_bytes m) rest × AreMarks m
    takes bytes m rest are e =
        let a = stepped flag_field _ _ _ are e in
        let b = stepped flag_field _ _ _ a.took.are_bytes a.next in
        let c = stepped set_field _ _ _ b.took.are_bytes b.next in
        let d = stepped set_field _ _ _ c.took.are_bytes c.next in
        let made : Marks × List ℕ = (record { is_dir = a.value; frozen = b.value; cap = c.value; lic = d.value }, d.rest) in
        let bd = took_both b.took (took_both c.took d.took) in
        taken _ made (m, rest) marks_bytes AreMarks d.next (took_both a.took bd, (c.allowed, d.allowed))

    again : (m : Marks) (rest : List ℕ) → AreMarks m → marks_at (marks_bytes m ++ rest) ≡ Ok (m, rest)
    again m rest is = rw (
      flag_field.again,
      flag_field.again,
      set_field.again m.cap (m.lic.0 ∷ rest) is.0,
      set_field.again m.lic rest is.1,
    ) refl
