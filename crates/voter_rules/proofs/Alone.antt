-- Of what may be answered of a view's requests one alone is right.
use Rattle.std.proofs.Common.{◌≡◌, ℕ, refl, sym, ◌∙◌, subst, ap, arith}
use mathlib.Core.Bool.{true≢false}
use Rattle.std.specs.Prelude.{None, is_some}
use Rattle.std.proofs.lemmas.Option.{same_Some}
use Rattle.types_core.specs.declared.proposal.Proposal.{Proposal}
use Rattle.voter_history.specs.Known.{Known}
use Rattle.voter_rules.specs.Ancestry.{Member, Supports, IsFirstUncovered, IsInvalidParent, LacksPayload}
use Rattle.voter_rules.specs.Asking.{Finds, Decides}
use Rattle.voter_rules.specs.Laws.{OneIsFound, OneIsDecided}
use Rattle.voter_rules.specs.Requests.{WaitsForParent, VerifyIsDue, IsInvalid, NullificationIsWanted, NotarizationIsWanted, CertifyIsDue, CertifyWaits, IsPutOff, CertificateIsWanted}
use Rattle.voter_rules.specs.declared.requests.VerifyRequest.{VerifyRequest}
use Rattle.voter_rules.specs.declared.requests.VerifyRequest.TheVariants as verify
use Rattle.voter_rules.specs.declared.requests.CertifyRequest.{CertifyRequest}
use Rattle.voter_rules.specs.declared.requests.CertifyRequest.TheVariants as certify
use Rattle.voter_rules.proofs.Asking.{one_first, one_is_open, not_ready, spans_nothing}
use Rattle.voter_rules.proofs.Single.{one_supports}

module _ {D : Type 0} (m : Member) (k : Known D) (view : ℕ) where
  same : (p q : Proposal D) → WaitsForParent m k view p → WaitsForParent m k view q → p ≡ q
  same p q a b = same_Some p q (sym a.held ∙ b.held)

  due_or_invalid : (p q : Proposal D) (x : D) → VerifyIsDue m k view p x → IsInvalid m k view q → ⊥
  due_or_invalid p q x due bad =
      spans_nothing m k view p.parent (subst (λ (v : Proposal D). IsInvalidParent m k view v.parent) (same q p bad.waits due.waits) bad.invalid) due.parent.span

  due_or_uncovered : (p q : Proposal D) (x : D) (u : ℕ) → VerifyIsDue m k view p x → NullificationIsWanted m k view q u → ⊥
  due_or_uncovered p q x u due wanted =
      let first = subst (λ (v : Proposal D). IsFirstUncovered m k v.parent view u) (same q p wanted.waits due.waits) wanted.uncovered in
      first.bare (due.parent.span.covered u first.after first.before)

  due_or_lacks : (p q : Proposal D) (x : D) → VerifyIsDue m k view p x → NotarizationIsWanted m k view q → ⊥
  due_or_lacks p q x due wanted =
      let lacks = subst (λ (v : Proposal D). LacksPayload m k view v.parent) (same q p wanted.waits due.waits) wanted.lacks in lacks.missing x due.parent.supports

  uncovered_or_invalid : (p q : Proposal D) (u : ℕ) → NullificationIsWanted m k view p u → IsInvalid m k view q → ⊥
  uncovered_or_invalid p q u wanted bad = wanted.valid (subst (λ (v : Proposal D). IsInvalidParent m k view v.parent) (same q p bad.waits wanted.waits) bad.invalid)

  lacks_or_invalid : (p q : Proposal D) → NotarizationIsWanted m k view p → IsInvalid m k view q → ⊥
  lacks_or_invalid p q wanted bad =
      spans_nothing m k view p.parent (subst (λ (v : Proposal D). IsInvalidParent m k view v.parent) (same q p bad.waits wanted.waits) bad.invalid) wanted.lacks.span

  lacks_or_uncovered : (p q : Proposal D) (u : ℕ) → NotarizationIsWanted m k view p → NullificationIsWanted m k view q u → ⊥
  lacks_or_uncovered p q u wanted other =
      let first = subst (λ (v : Proposal D). IsFirstUncovered m k v.parent view u) (same q p other.waits wanted.waits) other.uncovered in
      first.bare (wanted.lacks.span.covered u first.after first.before)

  found : (a b : VerifyRequest D) → Finds m k view a → Finds m k view b → a ≡ b
  found (verify.Ready p x) (verify.Ready q y) a b =
      let one = same p q a.waits b.waits in
      let payload = one_supports m k view q.parent x y (subst (λ (v : Proposal D). Supports m k view v.parent x) one a.parent.supports) b.parent.supports in
      λ i. verify.Ready (one i) (payload i)
  found (verify.Ready p x) verify.Invalid a b = absurd (due_or_invalid p b.0 x a b.1)
  found (verify.Ready p x) (verify.Nullification u) a b = absurd (due_or_uncovered p b.0 x u a b.1)
  found (verify.Ready p x) (verify.Notarization u) a b = absurd (due_or_lacks p b.0 x a b.1)
  found (verify.Ready p x) verify.Wait a b = absurd (b.asks.no_verify p x a)
  found verify.Invalid (verify.Ready q y) a b = absurd (due_or_invalid q a.0 y b a.1)
  found verify.Invalid verify.Invalid a b = refl
  found verify.Invalid (verify.Nullification u) a b = absurd (uncovered_or_invalid b.0 a.0 u b.1 a.1)
  found verify.Invalid (verify.Notarization u) a b = absurd (lacks_or_invalid b.0 a.0 b.1 a.1)
  found verify.Invalid verify.Wait a b = absurd (b.not_invalid a.0 a.1)
  found (verify.Nullification u) (verify.Ready q y) a b = absurd (due_or_uncovered q a.0 y u b a.1)
  found (verify.Nullification u) verify.Invalid a b = absurd (uncovered_or_invalid a.0 b.0 u a.1 b.1)
  found (verify.Nullification u) (verify.Nullification w) a b =
      ap verify.Nullification (one_first m k view b.0.parent u w (subst (λ (v : Proposal D). IsFirstUncovered m k v.parent view u) (same a.0 b.0 a.1.waits b.1.waits) a.1.uncovered) b.1.uncovered)
  found (verify.Nullification u) (verify.Notarization w) a b = absurd (lacks_or_uncovered b.0 a.0 u b.1 a.1)
  found (verify.Nullification u) verify.Wait a b = absurd (b.asks.no_nullification a.0 u a.1)
  found (verify.Notarization u) (verify.Ready q y) a b = absurd (due_or_lacks q a.0 y b a.1)
  found (verify.Notarization u) verify.Invalid a b = absurd (lacks_or_invalid a.0 b.0 a.1 b.1)
  found (verify.Notarization u) (verify.Nullification w) a b = absurd (lacks_or_uncovered a.0 b.0 w a.1 b.1)
  found (verify.Notarization u) (verify.Notarization w) a b =
      ap verify.Notarization (sym a.2 ∙ ap (λ (v : Proposal D). v.parent) (same a.0 b.0 a.1.waits b.1.waits) ∙ b.2)
  found (verify.Notarization u) verify.Wait a b = absurd (b.asks.no_notarization a.0 a.1)
  found verify.Wait (verify.Ready q y) a b = absurd (a.asks.no_verify q y b)
  found verify.Wait verify.Invalid a b = absurd (a.not_invalid b.0 b.1)
  found verify.Wait (verify.Nullification w) a b = absurd (a.asks.no_nullification b.0 w b.1)
  found verify.Wait (verify.Notarization w) a b = absurd (a.asks.no_notarization b.0 b.1)
  found verify.Wait verify.Wait a b = refl

  -- a verdict that is due waits for nothing
  due_or_put_off : (p : Proposal D) (u : ℕ) → CertifyIsDue m k view p → CertifyWaits m k view u → ⊥
  due_or_put_off p u due waits = not_ready m k view waits.proposal waits.opens u waits.requires_it waits.missing p due

  -- one parent is required
  same_required : (u w : ℕ) → CertifyWaits m k view u → CertifyWaits m k view w → u ≡ w
  same_required u w a b = omega (arith, a.requires_it.next, b.requires_it.next)

  -- a verdict that was put off isn't put off again
  put_off_again : (u : ℕ) → IsPutOff m k view u → Decides m k view certify.Wait → ⊥
  put_off_again u is wait = true≢false (sym (wait is.waits.proposal is.waits.opens).0 ∙ is.first)

  wanted_is_put_off : (u : ℕ) → CertificateIsWanted m k view u → IsPutOff m k view u
  wanted_is_put_off u wanted = record { waits = wanted.waits; first = wanted.first }

  decided : (a b : CertifyRequest D) → Decides m k view a → Decides m k view b → a ≡ b
  decided (certify.Ready p) (certify.Ready q) a b = ap certify.Ready (one_is_open m k view q p b.opens a.opens)
  decided (certify.Ready p) (certify.Fetch u) a b = absurd (due_or_put_off p u a b.waits)
  decided (certify.Ready p) (certify.PutOff u) a b = absurd (due_or_put_off p u a b.0.waits)
  decided (certify.Ready p) certify.Wait a b = let w = (b p a.opens).1 in absurd (due_or_put_off p w.0 a w.1)
  decided (certify.Fetch u) (certify.Ready q) a b = absurd (due_or_put_off q u b a.waits)
  decided (certify.Fetch u) (certify.Fetch w) a b = ap certify.Fetch (same_required u w a.waits b.waits)
  decided (certify.Fetch u) (certify.PutOff w) a b =
      absurd (true≢false (sym b.1 ∙ ap is_some (subst (λ (v : ℕ). k.notarized v ≡ None) (same_required u w a.waits b.0.waits) a.absent)))
  decided (certify.Fetch u) certify.Wait a b = absurd (put_off_again u (wanted_is_put_off u a) b)
  decided (certify.PutOff u) (certify.Ready q) a b = absurd (due_or_put_off q u b a.0.waits)
  decided (certify.PutOff u) (certify.Fetch w) a b =
      absurd (true≢false (sym a.1 ∙ ap is_some (subst (λ (v : ℕ). k.notarized v ≡ None) (same_required w u b.waits a.0.waits) b.absent)))
  decided (certify.PutOff u) (certify.PutOff w) a b = ap certify.PutOff (same_required u w a.0.waits b.0.waits)
  decided (certify.PutOff u) certify.Wait a b = absurd (put_off_again u a.0 b)
  decided certify.Wait (certify.Ready q) a b = let w = (a q b.opens).1 in absurd (due_or_put_off q w.0 b w.1)
  decided certify.Wait (certify.Fetch w) a b = absurd (put_off_again w (wanted_is_put_off w b) a)
  decided certify.Wait (certify.PutOff w) a b = absurd (put_off_again w b.0 a)
  decided certify.Wait certify.Wait a b = refl

pub one_is_found : {D : Type 0} → OneIsFound D
one_is_found m k view a b = found m k view a b

pub one_is_decided : {D : Type 0} → OneIsDecided D
one_is_decided m k view a b = decided m k view a b
