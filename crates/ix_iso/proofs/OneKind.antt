-- Replies of one kind, by number.
use Rattle.std.proofs.{Common.{◌≡◌, ◌+◌, ℕ, true, false, true≢false, [], ◌∷◌, ◌⊎◌, inl, inr, refl, sym, ap, ◌∙◌, arith, slice_index_or}, lemmas.Bool.Decides.eqb_tells}
use Rattle.ix_model.specs.{rows.Refusals.number_of, two_runs.TwoRuns.is_one_kind, declared.{refusal.Refusal.Refusal, reply.Reply.Reply}}
use Rattle.ix_iso.specs.Laws.{but_status}
use Rattle.ix_model.specs.declared.refusal.Refusal.TheVariants as refusal
use Rattle.ix_model.specs.declared.reply.Reply.TheVariants as reply

-- ---- refusals
-- the refusals by their numbers
unfoldable of_number : ℕ → Refusal
of_number n = slice_index_or (refusal.NoProcess ∷ refusal.NoProcess ∷ refusal.BadFd ∷ refusal.NotReadable ∷ refusal.NotWritable ∷ refusal.NotFound
    ∷ refusal.NotDir ∷ refusal.IsDir ∷ refusal.Exists ∷ refusal.NotEmpty ∷ refusal.CrossFs ∷ refusal.ProcFrozen ∷ refusal.ProcCeiling ∷ refusal.FileFrozen
    ∷ refusal.FsCeiling ∷ refusal.Trusted ∷ refusal.NoCapability ∷ refusal.NoLicence ∷ refusal.NotAbove ∷ refusal.BelowLabel ∷ refusal.PexHeld ∷ refusal.NotPipe
    ∷ refusal.NotClaimed ∷ refusal.NoSpace ∷ refusal.NoInode ∷ refusal.NoEntry ∷ refusal.NoSlot ∷ refusal.NoFd ∷ refusal.NoOpen ∷ refusal.TooBig
    ∷ refusal.PipeFull ∷ refusal.Broken ∷ refusal.NoChild ∷ refusal.ChildrenLive ∷ refusal.LogFull ∷ refusal.Again ∷ refusal.EndOfList ∷ refusal.IsPipe
    ∷ refusal.InUse ∷ []) n refusal.NoProcess

of_its_number : (r : Refusal) → of_number (number_of r) ≡ r
unfolding of_number
of_its_number refusal.NoProcess = refl
of_its_number _ = refl

pub one_refusal : (q r : Refusal) → number_of q ≡ number_of r → q ≡ r
one_refusal q r h = sym (of_its_number q) ∙ ap of_number h ∙ of_its_number r

-- ---- kinds
abbrev pub kind_number : Reply → ℕ
kind_number reply.Done = 0
kind_number (reply.Number n) = 1
kind_number (reply.Two a b) = 2
kind_number (reply.Bytes k) = 3
kind_number (reply.Stat o kind size links frozen x y) = 4
kind_number (reply.Lab a) = 5
kind_number (reply.Named name o) = 6
kind_number reply.Half = 7
kind_number (reply.Whole p a x) = 8
kind_number (reply.LogLine x) = 9
kind_number (reply.Child p x) = 10
kind_number (reply.No why) = 11 + number_of why

-- two replies are of one kind where their numbers are equal
kinds_compared : (a b : Reply) → ((is_one_kind a b ≡ true) × (kind_number a ≡ kind_number b)) ⊎ ((is_one_kind a b ≡ false) × (kind_number a ≡ kind_number b → ⊥))
kinds_compared (reply.No why) (reply.No other) = elim (eqb_tells (number_of why) (number_of other)) [
  | inl same ↦ inl (same.0, ap (λ n. 11 + n) same.1)
  | inr apart ↦ inr (apart.0, λ h. apart.1 (omega (arith, h)))
]
kinds_compared reply.Done reply.Done = inl (refl, refl)
kinds_compared (reply.Number m) (reply.Number n) = inl (refl, refl)
kinds_compared (reply.Two a b) (reply.Two c d) = inl (refl, refl)
kinds_compared (reply.Bytes m) (reply.Bytes n) = inl (refl, refl)
kinds_compared (reply.Stat o kind size links frozen x y) (reply.Stat o2 kind2 size2 links2 frozen2 x2 y2) = inl (refl, refl)
kinds_compared (reply.Lab a) (reply.Lab b) = inl (refl, refl)
kinds_compared (reply.Named m n) (reply.Named name o) = inl (refl, refl)
kinds_compared reply.Half reply.Half = inl (refl, refl)
kinds_compared (reply.Whole p a x) (reply.Whole q b y) = inl (refl, refl)
kinds_compared (reply.LogLine x) (reply.LogLine y) = inl (refl, refl)
kinds_compared (reply.Child p x) (reply.Child q y) = inl (refl, refl)
kinds_compared a b = inr (refl, λ h. absurd (omega (arith, h)))

pub kinds_equal : (a b : Reply) → is_one_kind a b ≡ true → kind_number a ≡ kind_number b
kinds_equal a b h = elim (kinds_compared a b) [ inl one ↦ one.1 | inr apart ↦ absurd (true≢false (sym h ∙ apart.0)) ]

pub equal_kinds : (a b : Reply) → kind_number a ≡ kind_number b → is_one_kind a b ≡ true
equal_kinds a b h = elim (kinds_compared a b) [ inl one ↦ one.0 | inr apart ↦ absurd (apart.1 h) ]

-- replies that are equal but for a status are of one kind
kind_but_status : (r : Reply) → kind_number (but_status r) ≡ kind_number r
kind_but_status (reply.Child p x) = refl
kind_but_status r = refl

pub one_kind : (a b : Reply) → but_status a ≡ but_status b → is_one_kind a b ≡ true
one_kind a b h = equal_kinds a b (sym (kind_but_status a) ∙ ap kind_number h ∙ kind_but_status b)
