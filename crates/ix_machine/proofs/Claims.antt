-- What a claim, and the end of one, make of a sound world.
use Rattle.std.proofs.Common.{◌≡◌, ◌≢◌, ◌==◌, ◌-◌, ◌&&◌, ◌||◌, ℕ, Bool, true, false, true≢false, not, Option, Some, None, unwrap_or, Result, Ok, refl, sym, ap}
use Rattle.std.proofs.Common.{subst, ◌∙◌, if◌then◌else◌, arith}
use Rattle.std.{specs.{Option.option_map_or, List.list_any}, proofs.lemmas.{Bool.eqb-true, List.get_or-set_other}}
use Rattle.ix_model.specs.world.World.{World, Frame, Content, Object, Process, at, put, change, is_pipe, living, lives, claimed_by, claimed_by_another, is_on}
use Rattle.ix_model.specs.{world.{Contents.{carried, emptied}, Owners.has_end}, laws.Sound.Sound, history.Step.{pex_answer, is_whole}}
use Rattle.ix_model.specs.{rows.OnDescriptors.{pex, unpex, claimed}, rows.Outcomes.{Refuse, Pass}, rows.Walks.{OpenFile, behind, opened, node, nothing}}
use Rattle.ix_model.specs.rows.Rows.{◌>>=◌, ◌>>◌, on_pass, need, some, refuse, pass, frame, object, process, change_object}
use Rattle.ix_model.specs.declared.{refusal.Refusal.Refusal, reply.Reply.Reply, views.Caller.Caller}
use Rattle.ix_model.specs.declared.refusal.Refusal.TheVariants as refusal
use Rattle.ix_model.specs.declared.reply.Reply.TheVariants as reply
use Rattle.ix_model.proofs.{clean.Carrying.carried_same, words.{Lasts.{lasting_itself, lasting_change}, Standing.{stands, behind_is}}}
use Rattle.ix_audit.specs.Lines.{Lines}
use Rattle.ix_pipe.specs.{Claims.{claim_answer, shared_with}, declared.claim.Claim.Claim}
use Rattle.ix_pipe.specs.declared.claim.Claim.TheVariants as claim
use Rattle.ix_proc.specs.Table.{ProcTable}
use Rattle.ix_tables.specs.{Parts.Parts, Views.{frame_alone, with_claim, emptied as parts_emptied}}
use Rattle.ix_fcalls.{specs.Claiming.{entry_of, Claims, ClaimsAt, ClaimsBehind, Unclaims, UnclaimsAt, UnclaimsBehind}, proofs.Counting.counted_changed}
use Rattle.ix_machine.{specs.{Claimed.{ClaimedIs, UnclaimedIs, AnswersPex}, Joined.{joined, AreJoined}}, proofs.Standing.behind_by}

-- ---- the row of a claim
module _ (f : Frame) (pid fd : ℕ) (e : OpenFile) (x : Object) (is : behind f pid fd ≡ Some e) (there : at f.objects e.entry.object ≡ Some x) where
  pex_no_pipe : is_pipe x ≡ false → pex pid fd f ≡ Refuse refusal.NotPipe f
  unfolding pex opened ◌>>=◌ ◌>>◌ on_pass need some refuse pass frame object
  pex_no_pipe other = rw (is, there, other) refl

  pex_held : is_pipe x ≡ true → claimed_by_another x e.entry.end pid ≡ true → pex pid fd f ≡ Refuse refusal.PexHeld f
  unfolding pex opened ◌>>=◌ ◌>>◌ on_pass need some refuse pass frame object
  pex_held pipe held = rw (is, there, pipe, held) refl

  pex_half : is_pipe x ≡ true → claimed_by_another x e.entry.end pid ≡ false → at (put x.claims e.entry.end (Some pid)) (1 - e.entry.end) ≡ None
      → (g : Frame) → record f { objects = change f.objects e.entry.object (λ y. record y { claims = put y.claims e.entry.end (Some pid) }) } ≡ g → pex pid fd f ≡ Pass reply.Half g
  unfolding pex opened claimed ◌>>=◌ ◌>>◌ on_pass need some refuse pass frame object change_object
  pex_half pipe free other g same = rw (is, there, pipe, free, other) (ap (Pass reply.Half) same)

  pex_whole : (q : ℕ) (r : Process) → is_pipe x ≡ true → claimed_by_another x e.entry.end pid ≡ false
      → at (put x.claims e.entry.end (Some pid)) (1 - e.entry.end) ≡ Some q → living (at f.processes q) ≡ Some r
      → (g : Frame) → record f { objects = change f.objects e.entry.object (λ y. record y { claims = put y.claims e.entry.end (Some pid) }) } ≡ g
      → pex pid fd f ≡ Pass (reply.Whole (record { 0 = q }) r.label r.lic) g
  unfolding pex opened claimed ◌>>=◌ ◌>>◌ on_pass need some refuse pass frame object process change_object
  pex_whole q r pipe free other alive g same = rw (is, there, pipe, free, other, alive) (ap (Pass (reply.Whole (record { 0 = q }) r.label r.lic)) same)

pex_none : (f : Frame) (pid fd : ℕ) → behind f pid fd ≡ None → pex pid fd f ≡ Refuse refusal.BadFd f
unfolding pex opened ◌>>=◌ on_pass some refuse frame pass
pex_none f pid fd is = rw is refl

unpex_none : (f : Frame) (pid fd : ℕ) → behind f pid fd ≡ None → unpex pid fd f ≡ Refuse refusal.BadFd f
unfolding unpex opened ◌>>=◌ on_pass some refuse frame pass
unpex_none f pid fd is = rw is refl

-- ---- the parts, and the world
other_end : (n : ℕ) (b : Bool) → (n == 0 || n == 1 && b) ≡ true → 1 - n ≢ n
other_end n b h = go (n == 0) (n == 1) refl refl h
  where
    go : (x y : Bool) → (n == 0) ≡ x → (n == 1) ≡ y → (x || y && b) ≡ true → 1 - n ≢ n
    go true y first second k = let here : n ≡ 0 = eqb-true n 0 first in λ same. absurd (omega (arith, here, same))
    go false true first second k = let here : n ≡ 1 = eqb-true n 1 second in λ same. absurd (omega (arith, here, same))
    go false false first second k = absurd (true≢false (sym k))

has_end_lives : (f : Frame) (o end q : ℕ) → has_end f o end q ≡ true → lives f q ≡ true
has_end_lives f o end q h = go (at f.processes q) (λ (y : Process). list_any (λ (d : Option ℕ). option_map_or (λ n. is_on o end (at f.opens n)) d false) y.fds) h
  where
    go : (r : Option Process) (on : Process → Bool) → option_map_or (λ y. not y.ended && on y) r false ≡ true → option_map_or (λ y. not y.ended) r false ≡ true
    go None on k = k
    go (Some y) on k = both (not y.ended) (on y) k
      where
        both : (a b : Bool) → (a && b) ≡ true → a ≡ true
        both true b k = refl
        both false b k = k

module _ (t : Parts) (p : ProcTable) (l : Lines) (s : Sound (joined t p l)) (pid fd : ℕ) where
  abbrev Claimed : Result Claim Refusal → Parts → Type 0
  Claimed r u = ClaimedIs r pid fd (joined t p l) (joined u p l)

  abbrev Unclaimed : Result (Unit {0}) Refusal → Parts → Type 0
  Unclaimed r u = UnclaimedIs r pid fd (joined t p l) (joined u p l)

  module _ (e : OpenFile) (x : Object) (is : behind (joined t p l).frame pid fd ≡ Some e) (there : at t.objects e.entry.object ≡ Some x) where
    abbrev claims_it : Object → Object
    claims_it y = record y { claims = put y.claims e.entry.end (Some pid) }

    abbrev with_it : Parts
    with_it = with_claim e.entry.object e.entry.end (Some pid) t

    abbrev framed : Frame
    framed = record (joined t p l).frame { objects = change t.objects e.entry.object claims_it }

    abbrev becomes_whole : Bool
    becomes_whole = is_whole (frame_alone with_it) e.entry.object && not (is_whole (frame_alone t) e.entry.object)

    abbrev after : Bool → Parts
    after b = if b then parts_emptied e.entry.object with_it else with_it

    kept : carried (joined t p l).frame framed (joined t p l).content ≡ (joined t p l).content
    kept = carried_same (joined t p l) framed (record {
      objects =
          lasting_change t.objects t.objects e.entry.object claims_it (lasting_itself t.objects);
      opens = lasting_itself t.opens;
      processes =
          record { stays = λ m h. h; count = refl };
    }) s.holdings.clean

    frame_after : (b : Bool) → (joined (after b) p l).frame ≡ framed
    frame_after true = refl
    frame_after false = refl

    -- the content where a path may become whole
    after_answer : (r : Reply) (b : Bool) → becomes_whole ≡ b → joined (after b) p l ≡ (pex_answer (joined t p l) (Some e) r (joined (after b) p l).frame).world
    unfolding pex_answer emptied
    after_answer r true h =
        let edit : Bool → Content = λ y. if y then emptied e.entry.object (carried (joined t p l).frame framed (joined t p l).content) else
        carried (joined t p l).frame framed (joined t p l).content in
        let same : emptied e.entry.object (joined t p l).content ≡ edit becomes_whole = sym (ap (emptied e.entry.object) kept) ∙ sym (ap edit h) in
        λ i. record { frame = framed; content = same i }
    after_answer r false h =
        let edit : Bool → Content = λ y. if y then emptied e.entry.object (carried (joined t p l).frame framed (joined t p l).content) else
        carried (joined t p l).frame framed (joined t p l).content in
        let same : (joined t p l).content ≡ edit becomes_whole = sym kept ∙ sym (ap edit h) in
        λ i. record { frame = framed; content = same i }

    answers_pex : (r : Reply) (u : Parts) → u ≡ after becomes_whole → AnswersPex pid fd r (joined t p l) (joined u p l)
    answers_pex r u same =
        subst (λ (v : Parts). AnswersPex pid fd r (joined t p l) (joined v p l)) (sym same)
        (after_answer r becomes_whole refl ∙ ap (λ (o : Option OpenFile). (pex_answer (joined t p l) o r (joined (after becomes_whole) p l).frame).world) (sym is))

    frame_is : (u : Parts) → u ≡ after becomes_whole → framed ≡ (joined u p l).frame
    frame_is u same = sym (ap (λ (v : Parts). (joined v p l).frame) same ∙ frame_after becomes_whole)

    others : at (put x.claims e.entry.end (Some pid)) (1 - e.entry.end) ≡ at x.claims (1 - e.entry.end)
    others = get_or-set_other x.claims e.entry.end (1 - e.entry.end) (Some pid) None
        (other_end e.entry.end (option_map_or is_pipe (at t.objects e.entry.object) false)
        (s.opens.end e.id e.entry (behind_is (joined t p l).frame pid fd e is)))

    free : (r : Result Claim Refusal) (u : Parts) (other : Option ℕ) → is_pipe x ≡ true → claimed_by_another x e.entry.end pid ≡ false
        → at x.claims (1 - e.entry.end) ≡ other → r ≡ Ok (shared_with other) → u ≡ after becomes_whole → Claimed r u
    free r u None pipe mine other_is answer same =
        subst (λ v. Claimed v u) (sym answer)
        (pex_half _ _ _ _ _ is there pipe mine (others ∙ other_is) (joined u p l).frame (frame_is u same), answers_pex reply.Half u same)
    free r u (Some k) pipe mine other_is answer same =
        let alive : lives (joined t p l).frame k ≡ true =
        has_end_lives (joined t p l).frame e.entry.object (1 - e.entry.end) k (s.claims.claimant e.entry.object (1 - e.entry.end) k x there other_is) in
        subst (λ v. Claimed v u) (sym answer)
        (alive, (λ y here. pex_whole _ _ _ _ _ is there k y pipe mine (others ∙ other_is) here (joined u p l).frame (frame_is u same)), (λ y. answers_pex y u same))

    held_or_free : (r : Result Claim Refusal) (u : Parts) (m : Option ℕ) → is_pipe x ≡ true → at x.claims e.entry.end ≡ m → r ≡ Ok (claim_answer pid m (at x.claims (1 - e.entry.end)))
        → u ≡ (if option_map_or (λ y. not (y == pid)) m false then t else after becomes_whole) → Claimed r u
    held_or_free r u None pipe m answer same = free r u (at x.claims (1 - e.entry.end)) pipe (ap (λ (o : Option ℕ). option_map_or (λ y. not (y == pid)) o false) m) refl answer same
    held_or_free r u (Some k) pipe m answer same = go (k == pid) refl answer same
      where
        go : (b : Bool) → (k == pid) ≡ b → r ≡ Ok (if b then shared_with (at x.claims (1 - e.entry.end)) else claim.Held (record { 0 = k }))
            → u ≡ (if not b then t else after becomes_whole) → Claimed r u
        go true h answer same = free r u (at x.claims (1 - e.entry.end)) pipe (ap (λ (o : Option ℕ). option_map_or (λ y. not (y == pid)) o false) m ∙ ap not h) refl answer same
        go false h answer same =
            subst (λ v. Claimed v u) (sym answer)
            (pex_held _ _ _ _ _ is there pipe (ap (λ (o : Option ℕ). option_map_or (λ y. not (y == pid)) o false) m ∙ ap not h), ap (λ (v : Parts). joined v p l) same)

    by_kind : (r : Result Claim Refusal) (u : Parts) (b : Bool) → is_pipe x ≡ b → ClaimsAt b r pid e t u → Claimed r u
    by_kind r u false pipe h =
        subst (λ v. Claimed v u) (sym h.0) (pex_no_pipe _ _ _ _ _ is there pipe, ap (λ (v : Parts). joined v p l) h.1)
    by_kind r u true pipe h =
        let is_node : node t.objects e.entry.object ≡ x = ap (λ (o : Option Object). unwrap_or o nothing) there in
        let said : Object → Result Claim Refusal = λ y. Ok (claim_answer pid (at y.claims e.entry.end) (at y.claims (1 - e.entry.end))) in
        held_or_free r u (at x.claims e.entry.end) pipe refl
        (h.0 ∙ ap said is_node)
        (h.1 ∙ ap (λ (y : Object). if claimed_by_another y e.entry.end pid then t else after becomes_whole) is_node)

    by_claim : (r : Result (Unit {0}) Refusal) (u : Parts) (a b : Bool) → is_pipe x ≡ a → claimed_by x e.entry.end pid ≡ b → UnclaimsAt a b r e t u → Unclaimed r u
    unfolding unpex opened ◌>>=◌ ◌>>◌ on_pass need some refuse pass frame object change_object
    by_claim r u false b pipe so h = subst (λ v. Unclaimed v u) (sym h.0) (rw (is, there, pipe) refl, ap (λ (v : Parts). joined v p l) h.1)
    by_claim r u true false pipe so h = subst (λ v. Unclaimed v u) (sym h.0) (rw (is, there, pipe, so) refl, ap (λ (v : Parts). joined v p l) h.1)
    by_claim r u true true pipe so h =
        subst (λ v. Unclaimed v u) (sym h.0)
        (rw (is, there, pipe, so) (ap (λ (v : Parts). Pass reply.Done (joined v p l).frame) (sym h.1)), ap (λ (v : Parts). (joined v p l).content) h.1)

  by_entry : (r : Result Claim Refusal) (u : Parts) (b : Option OpenFile) → behind (joined t p l).frame pid fd ≡ b → ClaimsBehind b r pid t u → Claimed r u
  by_entry r u None is h =
      subst (λ v. Claimed v u) (sym h.0) (pex_none _ _ _ is, ap (λ (v : Parts). joined v p l) h.1)
  by_entry r u (Some e) is h =
      let st = stands (joined t p l).frame e.id e.entry s.opens (behind_is (joined t p l).frame pid fd e is) in
      by_kind e st.object is st.is_object r u (is_pipe st.object) refl (subst (λ (y : Object). ClaimsAt (is_pipe y) r pid e t u) (ap (λ (o : Option Object). unwrap_or o nothing) st.is_object) h)

  by_claimed : (r : Result (Unit {0}) Refusal) (u : Parts) (b : Option OpenFile) → behind (joined t p l).frame pid fd ≡ b → UnclaimsBehind b r pid t u
      → Unclaimed r u
  by_claimed r u None is h =
      subst (λ v. Unclaimed v u) (sym h.0) (unpex_none _ _ _ is, ap (λ (v : Parts). joined v p l) h.1)
  by_claimed r u (Some e) is h =
      let st = stands (joined t p l).frame e.id e.entry s.opens (behind_is (joined t p l).frame pid fd e is) in
      by_claim e st.object is st.is_object r u (is_pipe st.object) (claimed_by st.object e.entry.end pid) refl refl
      (subst (λ (y : Object). UnclaimsAt (is_pipe y) (claimed_by y e.entry.end pid) r e t u) (ap (λ (o : Option Object). unwrap_or o nothing) st.is_object)
      h)

  claimed_there : (r : Result Claim Refusal) (c : Caller) (q : Process) (u : Parts) → living (at p.processes pid) ≡ Some q → q.fds ≡ c.fds → c.pid.0 ≡ pid
      → Claims r c fd t u → Claimed r u
  claimed_there r c q u is fds id h =
      by_entry r u (behind (joined t p l).frame pid fd) refl (subst (λ (b : Option OpenFile). ClaimsBehind b r pid t u) (behind_by t p l pid fd c q is fds)
      (subst (λ (n : ℕ). ClaimsBehind (entry_of c fd t) r n t u) id h))

  unclaimed_there : (r : Result (Unit {0}) Refusal) (c : Caller) (q : Process) (u : Parts) → living (at p.processes pid) ≡ Some q → q.fds ≡ c.fds
      → c.pid.0 ≡ pid → Unclaims r c fd t u → Unclaimed r u
  unclaimed_there r c q u is fds id h =
      by_claimed r u (behind (joined t p l).frame pid fd) refl (subst (λ (b : Option OpenFile). UnclaimsBehind b r pid t u) (behind_by t p l pid fd c q is fds)
      (subst (λ (n : ℕ). UnclaimsBehind (entry_of c fd t) r n t u) id h))

-- ---- what is counted
claimed_joined : (t : Parts) (p : ProcTable) (l : Lines) (o end pid : ℕ) (held whole : Bool) → AreJoined t p l
    → AreJoined (if held then t else (if whole then parts_emptied o (with_claim o end (Some pid) t) else with_claim o end (Some pid) t)) p l
claimed_joined t p l o end pid true whole j = j
claimed_joined t p l o end pid false true j = let k = counted_changed t p.processes o (λ x. record x { claims = put x.claims end (Some pid) }) j.counted in
    record { counted = record { owners = k.owners; homes = k.homes }; procs = j.procs; log = j.log; few = j.few }
claimed_joined t p l o end pid false false j = let k = counted_changed t p.processes o (λ x. record x { claims = put x.claims end (Some pid) }) j.counted in
    record { counted = record { owners = k.owners; homes = k.homes }; procs = j.procs; log = j.log; few = j.few }

pub claims_joined : (t u : Parts) (p : ProcTable) (l : Lines) (r : Result Claim Refusal) (c : Caller) (fd : ℕ) → AreJoined t p l → Claims r c fd t u → AreJoined u p l
claims_joined t u p l r c fd j h = go (entry_of c fd t) h
  where
    at_end : (e : OpenFile) (b : Bool) → ClaimsAt b r c.pid.0 e t u → AreJoined u p l
    at_end e false h = subst (λ (v : Parts). AreJoined v p l) (sym h.1) j
    at_end e true h =
        let v : Parts = with_claim e.entry.object e.entry.end (Some c.pid.0) t in
        subst (λ (v : Parts). AreJoined v p l) (sym h.1) (claimed_joined t p l e.entry.object e.entry.end c.pid.0
        (claimed_by_another (node t.objects e.entry.object) e.entry.end c.pid.0) (is_whole (frame_alone v) e.entry.object
        && not (is_whole (frame_alone t) e.entry.object)) j)

    go : (b : Option OpenFile) → ClaimsBehind b r c.pid.0 t u → AreJoined u p l
    go None h = subst (λ (v : Parts). AreJoined v p l) (sym h.1) j
    go (Some e) h = at_end e (is_pipe (node t.objects e.entry.object)) h

pub unclaims_joined : (t u : Parts) (p : ProcTable) (l : Lines) (r : Result (Unit {0}) Refusal) (c : Caller) (fd : ℕ) → AreJoined t p l → Unclaims r c fd t u → AreJoined u p l
unclaims_joined t u p l r c fd j h = go (entry_of c fd t) h
  where
    at_end : (e : OpenFile) (a b : Bool) → UnclaimsAt a b r e t u → AreJoined u p l
    at_end e false b h = subst (λ (v : Parts). AreJoined v p l) (sym h.1) j
    at_end e true false h = subst (λ (v : Parts). AreJoined v p l) (sym h.1) j
    at_end e true true h =
        let k = counted_changed t p.processes e.entry.object (λ x. record x { claims = put x.claims e.entry.end None }) j.counted in
        subst (λ (v : Parts). AreJoined v p l) (sym h.1) (record { counted = record { owners = k.owners; homes = k.homes }; procs = j.procs; log = j.log; few = j.few })

    go : (b : Option OpenFile) → UnclaimsBehind b r c.pid.0 t u → AreJoined u p l
    go None h = subst (λ (v : Parts). AreJoined v p l) (sym h.1) j
    go (Some e) h = at_end e (is_pipe (node t.objects e.entry.object)) (claimed_by (node t.objects e.entry.object) e.entry.end c.pid.0) h

-- ---- in the machine's world
pub claimed_is : (t u : Parts) (p : ProcTable) (l : Lines) (w : World) (pid fd : ℕ) (r : Result Claim Refusal) (c : Caller) (q : Process) → joined t p l ≡ w
    → Sound w → living (at w.frame.processes pid) ≡ Some q → q.fds ≡ c.fds → c.pid.0 ≡ pid → Claims r c fd t u → ClaimedIs r pid fd w (joined u p l)
claimed_is t u p l w pid fd r c q here s is fds id h =
    subst (λ (v : World). ClaimedIs r pid fd v (joined u p l)) here
    (claimed_there t p l (subst (λ (v : World). Sound v) (sym here) s) pid fd r c q u (ap (λ (v : World). living (at v.frame.processes pid)) here ∙ is) fds id h)

pub unclaimed_is : (t u : Parts) (p : ProcTable) (l : Lines) (w : World) (pid fd : ℕ) (r : Result (Unit {0}) Refusal) (c : Caller) (q : Process)
    → joined t p l ≡ w → Sound w → living (at w.frame.processes pid) ≡ Some q → q.fds ≡ c.fds → c.pid.0 ≡ pid → Unclaims r c fd t u
    → UnclaimedIs r pid fd w (joined u p l)
unclaimed_is t u p l w pid fd r c q here s is fds id h =
    subst (λ (v : World). UnclaimedIs r pid fd v (joined u p l)) here
    (unclaimed_there t p l (subst (λ (v : World). Sound v) (sym here) s) pid fd r c q u (ap (λ (v : World). living (at v.frame.processes pid)) here ∙ is) fds id h)
