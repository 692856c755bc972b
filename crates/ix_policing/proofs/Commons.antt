-- The greatest request that two rules both match.
use Rattle.std.proofs.Common.{◌≡◌, ℕ, Bool, true, false, true≢false, not, ◌&&◌, ◌||◌, cond, List, Option, Some, None, refl, sym, ap, ◌∙◌}
use Rattle.std.proofs.lemmas.Bool.{and_from, not-true, false_from_ne_true}
use Rattle.ix_label.specs.{Category.{Categories, leq, meet}, Lattice.{leq-trans, leq-meet_left, leq-meet_right, meet-greatest}}
use Rattle.ix_model.specs.world.{Naming.{same_bytes}, Privs.{has_all, is_empty}}
use Rattle.ix_model.specs.declared.privs.PrivSet.{PrivSet}
use Rattle.ix_policy.specs.Deciding.{is_grant, is_session, matches}
use Rattle.ix_policy.specs.declared.{request.Request.Request, rule.{Act.Act, Rule.Rule}}
use Rattle.ix_policy.specs.declared.request.Request.TheVariants as request
use Rattle.ix_policy.specs.declared.rule.Act.TheVariants as act
use Rattle.ix_policing.specs.{Common.{both_of, common, common_for, common_user, grant_of, greatest, session_of}, Outcomes.is_asked, Unnamed.names, Within.is_within}
use Rattle.ix_policing.proofs.Matches.{grant_is, session_is, on_grant, from_grant, on_session, from_session, OnGrant, OnSession}
use Rattle.ix_policing.proofs.{Privs.{has_all-trans, within_both, both_left, both_right, both_same, within_none}, Users.{common_left, common_right, common_there, common_self, covered, within_common}}

-- ---- what the common request is
common_grants : (r s : Rule) (other : List ℕ) → r.act ≡ act.Grant → s.act ≡ act.Grant → common r s other ≡ grant_of (meet r.clear s.clear) (both_of r.privs s.privs)
unfolding common
common_grants r s other h k = ap (λ a. common_for a s.act r s other) h ∙ ap (λ b. common_for act.Grant b r s other) k

common_sessions : (r s : Rule) (other : List ℕ) → r.act ≡ act.Session → s.act ≡ act.Session
    → common r s other ≡ session_of (meet r.clear s.clear) (common_user r.user s.user other)
unfolding common
common_sessions r s other h k = ap (λ a. common_for a s.act r s other) h ∙ ap (λ b. common_for act.Session b r s other) k

pub grant_parts : (b : Bool) (label : Categories) (want : PrivSet) (t : Request) → cond b None (Some (request.Grant label want)) ≡ Some t → (b ≡ false) × (request.Grant label want ≡ t)
grant_parts true label want t h = cc
grant_parts false label want t h = (refl, cc)

pub session_parts : (label : Categories) (user : Option (List ℕ)) (t : Request) → session_of label user ≡ Some t
    → (name : List ℕ) × (user ≡ Some name) × (request.Session name label ≡ t)
session_parts label None t h = cc
session_parts label (Some name) t h = (name, refl, cc)

-- ---- its laws
grant_below : (r s x : Rule) (other : List ℕ) (t : Request) (label : Categories) (want : PrivSet) → common r s other ≡ Some t
    → OnGrant r label want → OnGrant s label want → matches x t ≡ true → matches x (request.Grant label want) ≡ true
grant_below r s x other t label want is h k on =
    let both = both_of r.privs s.privs in
    let all = meet r.clear s.clear in
    let p = grant_parts (is_empty both) all both t (sym (common_grants r s other (grant_is r.act h.grants) (grant_is s.act k.grants)) ∙ is) in
    let o = on_grant x all both (ap (matches x) p.1 ∙ on) in
    from_grant x label want (record {
      grants = o.grants;
      within = has_all-trans x.privs both want o.within (within_both r.privs s.privs want h.within k.within);
      below = leq-trans label all x.clear (meet-greatest r.clear s.clear label h.below k.below) o.below;
    })

session_below : (r s x : Rule) (other : List ℕ) (t : Request) (label : Categories) (name : List ℕ) → common r s other ≡ Some t
    → OnSession r label name → OnSession s label name → names other x ≡ false → matches x t ≡ true → matches x (request.Session name label) ≡ true
session_below r s x other t label name is h k unnamed on =
    let all = meet r.clear s.clear in
    let p = session_parts all (common_user r.user s.user other) t (sym (common_sessions r s other (session_is r.act h.opens) (session_is s.act k.opens)) ∙ is) in
    let o = on_session x all p.0 (ap (matches x) p.2 ∙ on) in
    from_session x label name (record {
      opens = o.opens;
      on = covered x.user r.user s.user other p.0 name p.1 h.on k.on unnamed o.on;
      below = leq-trans label all x.clear (meet-greatest r.clear s.clear label h.below k.below) o.below;
    })

-- a rule that matches the common request, and doesn't name the other user, matches each request that the two match
pub below_common : (r s x : Rule) (other : List ℕ) (t q : Request) → common r s other ≡ Some t → matches r q ≡ true → matches s q ≡ true
    → names other x ≡ false → matches x t ≡ true → matches x q ≡ true
below_common r s x other t (request.Grant label want) is h k unnamed on =
    grant_below r s x other t label want is (on_grant r label want h) (on_grant s label want k) on
below_common r s x other t (request.Session name label) is h k unnamed on =
    session_below r s x other t label name is (on_session r label name h) (on_session s label name k) unnamed on

grant_within : (r s : Rule) (other : List ℕ) (t : Request) (label : Categories) (want : PrivSet) → common r s other ≡ Some t
    → OnGrant r label want → OnGrant s label want → is_within other (request.Grant label want) t ≡ true
grant_within r s other t label want is h k =
    let both = both_of r.privs s.privs in
    let all = meet r.clear s.clear in
    let p = grant_parts (is_empty both) all both t (sym (common_grants r s other (grant_is r.act h.grants) (grant_is s.act k.grants)) ∙ is) in
    ap (is_within other (request.Grant label want)) (sym p.1)
    ∙ and_from (has_all both want) (leq label all) (within_both r.privs s.privs want h.within k.within) (meet-greatest r.clear s.clear label h.below k.below)

session_within : (r s : Rule) (other : List ℕ) (t : Request) (label : Categories) (name : List ℕ) → common r s other ≡ Some t
    → OnSession r label name → OnSession s label name → is_within other (request.Session name label) t ≡ true
session_within r s other t label name is h k =
    let all = meet r.clear s.clear in
    let p = session_parts all (common_user r.user s.user other) t (sym (common_sessions r s other (session_is r.act h.opens) (session_is s.act k.opens)) ∙ is) in
    ap (is_within other (request.Session name label)) (sym p.2)
    ∙ and_from (same_bytes p.0 name || same_bytes p.0 other) (leq label all) (within_common r.user s.user other p.0 name p.1 h.on k.on) (meet-greatest r.clear s.clear label h.below k.below)

-- each request that two rules match is within their common one
pub common_within : (r s : Rule) (other : List ℕ) (t q : Request) → common r s other ≡ Some t → matches r q ≡ true → matches s q ≡ true → is_within other q t ≡ true
common_within r s other t (request.Grant label want) is h k = grant_within r s other t label want is (on_grant r label want h) (on_grant s label want k)
common_within r s other t (request.Session name label) is h k = session_within r s other t label name is (on_session r label name h) (on_session s label name k)

-- the two match their common request
pub record IsCommon (r s : Rule) (other : List ℕ) (t : Request) : Type 0 where
  pub is : common r s other ≡ Some t
  pub left : matches r t ≡ true
  pub right : matches s t ≡ true

grant_there : (r s : Rule) (other : List ℕ) (label : Categories) (want : PrivSet) → not (is_empty want) ≡ true → OnGrant r label want → OnGrant s label want
    → (t : Request) × IsCommon r s other t
grant_there r s other label want asked h k =
    let both = both_of r.privs s.privs in
    let all = meet r.clear s.clear in
    let some : is_empty both ≡ false =
    false_from_ne_true (is_empty both) (λ none. true≢false (sym (within_none both want none (within_both r.privs s.privs want h.within k.within)) ∙ not-true (is_empty want) asked)) in (
      request.Grant all both,
      record {
        is = common_grants r s other (grant_is r.act h.grants) (grant_is s.act k.grants) ∙ ap (λ b. cond b None (Some (request.Grant all both))) some;
        left = from_grant r all both (record { grants = h.grants; within = both_left r.privs s.privs; below = leq-meet_left r.clear s.clear });
        right = from_grant s all both (record { grants = k.grants; within = both_right r.privs s.privs; below = leq-meet_right r.clear s.clear });
      },
    )

session_there : (r s : Rule) (other : List ℕ) (label : Categories) (name : List ℕ) → OnSession r label name → OnSession s label name → (t : Request) × IsCommon r s other t
session_there r s other label name h k =
    let all = meet r.clear s.clear in
    let u = common_there r.user s.user other name h.on k.on in (
      request.Session u.0 all,
      record {
        is = common_sessions r s other (session_is r.act h.opens) (session_is s.act k.opens) ∙ ap (session_of all) u.1;
        left = from_session r all u.0 (record { opens = h.opens; on = common_left r.user s.user other u.0 u.1; below = leq-meet_left r.clear s.clear });
        right = from_session s all u.0 (record { opens = k.opens; on = common_right r.user s.user other u.0 u.1; below = leq-meet_right r.clear s.clear });
      },
    )

-- where two rules match what a client asks, they have a common request
pub common_from : (r s : Rule) (other : List ℕ) (q : Request) → is_asked q ≡ true → matches r q ≡ true → matches s q ≡ true → (t : Request) × IsCommon r s other t
common_from r s other (request.Grant label want) asked h k = grant_there r s other label want asked (on_grant r label want h) (on_grant s label want k)
common_from r s other (request.Session name label) asked h k = session_there r s other label name (on_session r label name h) (on_session s label name k)

asked_for : (a b : Act) (r s : Rule) (other : List ℕ) (t : Request) → common_for a b r s other ≡ Some t → is_asked t ≡ true
asked_for act.Grant act.Grant r s other t h =
    let both = both_of r.privs s.privs in
    let p = grant_parts (is_empty both) (meet r.clear s.clear) both t h in
    ap is_asked (sym p.1) ∙ ap not p.0
asked_for act.Grant act.Session r s other t h = cc
asked_for act.Session act.Grant r s other t h = cc
asked_for act.Session act.Session r s other t h =
    let p = session_parts (meet r.clear s.clear) (common_user r.user s.user other) t h in
    ap is_asked (sym p.2)

-- a client can ask it
pub common_asked : (r s : Rule) (other : List ℕ) (t : Request) → common r s other ≡ Some t → is_asked t ≡ true
unfolding common
common_asked r s other t h = asked_for r.act s.act r s other t h

matched_for : (a b : Act) (r s : Rule) (other : List ℕ) (t : Request) → r.act ≡ a → common_for a b r s other ≡ Some t → matches r t ≡ true
matched_for act.Grant act.Grant r s other t ra h =
    let both = both_of r.privs s.privs in
    let all = meet r.clear s.clear in
    let p = grant_parts (is_empty both) all both t h in
    ap (matches r) (sym p.1)
    ∙ from_grant r all both (record { grants = ap is_grant ra; within = both_left r.privs s.privs; below = leq-meet_left r.clear s.clear })
matched_for act.Grant act.Session r s other t ra h = cc
matched_for act.Session act.Grant r s other t ra h = cc
matched_for act.Session act.Session r s other t ra h =
    let all = meet r.clear s.clear in
    let p = session_parts all (common_user r.user s.user other) t h in
    ap (matches r) (sym p.2)
    ∙ from_session r all p.0 (record { opens = ap is_session ra; on = common_left r.user s.user other p.0 p.1; below = leq-meet_left r.clear s.clear })

-- the first rule matches it
pub common_matched : (r s : Rule) (other : List ℕ) (t : Request) → common r s other ≡ Some t → matches r t ≡ true
unfolding common
common_matched r s other t h = matched_for r.act s.act r s other t refl h

empty_grant : (b : Bool) (label : Categories) (want : PrivSet) → ◌≡◌ {A = Option Request} (cond b None (Some (request.Grant label want))) None → b ≡ true
empty_grant true label want h = refl
empty_grant false label want h = cc

nothing_for : (a : Act) (r : Rule) (other : List ℕ) → common_for a a r r other ≡ None → (is_grant a && is_empty r.privs) ≡ true
nothing_for act.Grant r other h =
    sym (both_same r.privs) ∙ empty_grant (is_empty (both_of r.privs r.privs)) (meet r.clear r.clear) (both_of r.privs r.privs) h
nothing_for act.Session r other h =
    let u = common_self r.user other in
    let e = sym (ap (session_of (meet r.clear r.clear)) u.1) ∙ h in cc

-- a rule without a request of its own grants nothing
pub common_none : (r : Rule) (other : List ℕ) → common r r other ≡ None → (is_grant r.act && is_empty r.privs) ≡ true
unfolding common
common_none r other h = nothing_for r.act r other h

-- a client can ask what is greatest
pub greatest_asked : (x y : Option Rule) (other : List ℕ) (t : Request) → greatest x y other ≡ Some t → is_asked t ≡ true
unfolding greatest
greatest_asked None None other t h = cc
greatest_asked (Some r) None other t h = common_asked r r other t h
greatest_asked None (Some s) other t h = common_asked s s other t h
greatest_asked (Some r) (Some s) other t h = common_asked r s other t h
