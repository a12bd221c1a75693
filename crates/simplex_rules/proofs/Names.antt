-- More reports take no name away.
use Rattle.std.proofs.Common.{◌≡◌, ℕ, List, ◌∷◌, ◌++◌, Option, Some, None, refl, sym, ap, subst}
use Rattle.std.specs.Prelude.{Contains}
use Rattle.std.specs.List.{flat_map}
use Rattle.std.specs.declared.cmp.Ordering.{Ordering}
use Rattle.std.proofs.lemmas.List.Elements.{Contains-append_right}
use Rattle.types_core.specs.declared.attestation.Attestation.{Attestation}
use Rattle.types_core.specs.declared.proposal.Proposal.{Proposal}
use Rattle.types_core.specs.Subject.{Statement, notarize, finalize}
use Rattle.types_quorum.specs.Counting.{Contains-head}
use Rattle.simplex_messages.specs.declared.activity.Activity.{Activity}
use Rattle.simplex_messages.specs.declared.activity.Activity.TheVariants as activity
use Rattle.messages_certificates.specs.declared.nullify.Nullify.{Nullify}
use Rattle.messages_certificates.specs.declared.proposal_vote.ProposalVote.{ProposalVote}
use Rattle.messages_certificates.specs.ProposalVote.{Finalize}
use Rattle.simplex_messages.specs.Guilt.{notarizes_in, nullifies_in, finalizes_in, notarizes_of, nullifies_of, finalizes_of, IsGuilty, IsLeastEvidence, IsGuiltyBeside, IsLeastBeside}
use Rattle.simplex_rules.specs.Audit.{Accusation, IsAccused, IsLeast, IsVerdict, accused}
use Rattle.simplex_rules.proofs.Lists.{Contains-flat_map, in-flat_map}

-- what stands between two parts of a list is in it
stands : {A : Type 0} (whole before after : List A) (x : A) → whole ≡ before ++ x ∷ after → Contains whole x
stands {A} whole before after x is = subst (λ (xs : List A). Contains xs x) (sym is) (Contains-append_right before (x ∷ after) x (Contains-head x after))

-- the accusation that is there
abbrev told : Accusation → Option Accusation → Accusation
told x None = x
told x (Some y) = y

module _ {K S D P G C : Type 0} (states : Proposal D → Statement D) (attests : ℕ → Statement D → G → Type 0) (cmp : D → D → Ordering) where
  -- whose two votes are evidence is guilty also where there are more votes
  guilty-from_least : (votes more : List (ProposalVote K S D P G C)) → ((v : ProposalVote K S D P G C) → Contains votes v → Contains more v)
      → (a b : ProposalVote K S D P G C) → IsLeastEvidence states attests cmp votes a b → IsGuilty states attests more a.proposal.round a.attestation.signer
  guilty-from_least votes more among a b least = record {
    first = a;
    second = b;
    first_is_there = among a (stands votes least.first.before least.first.after a least.first.whole);
    second_is_there = among b (stands votes least.second.before least.second.after b least.second.whole);
    first_verifies = least.first.verifies;
    second_verifies = least.second.verifies;
    first_is_theirs = record { round_is = refl; signer_is = refl };
    contradict = least.contradict;
  }

module _ {S D P G C : Type 0} (attests : ℕ → Statement D → G → Type 0) (cmp : D → D → Ordering) where
  -- the same of a nullify and a finalize
  beside-from_least : (nullifies nulls : List (Nullify S D P G C)) (finalizes finals : List (Finalize S D P G C))
      → ((v : Nullify S D P G C) → Contains nullifies v → Contains nulls v) → ((v : Finalize S D P G C) → Contains finalizes v → Contains finals v)
      → (a : Nullify S D P G C) (b : Finalize S D P G C) → IsLeastBeside attests cmp nullifies finalizes a b → IsGuiltyBeside attests nulls finals a.round a.attestation.signer
  beside-from_least nullifies nulls finalizes finals among_nulls among_finals a b least = record {
    first = a;
    second = b;
    first_is_there = among_nulls a (stands nullifies least.first.before least.first.after a least.first.whole);
    second_is_there = among_finals b (stands finalizes least.second.before least.second.after b least.second.whole);
    first_verifies = least.first.verifies;
    second_verifies = least.second.verifies;
    round_is = refl;
    signer_is = refl;
    beside = least.beside;
  }

module _ {S D P G C : Type 0} (lists : C → List (Attestation G)) (attests : ℕ → Statement D → G → Type 0) (cmp : D → D → Ordering)
    (reports more evidence others : List (Activity S D P G C)) (within : (a : Activity S D P G C) → Contains reports a → Contains more a)
    (verdict : IsVerdict lists attests cmp more others) where
  -- what is in some of the reports is in more of them
  among : {V : Type 0} (votes_in : Activity S D P G C → List V) (v : V) → Contains (flat_map votes_in reports) v → Contains (flat_map votes_in more) v
  among votes_in v there = let found = Contains-flat_map votes_in reports v there in in-flat_map votes_in more found.0 v (within found.0 found.1) found.2

  -- a piece of evidence from some of the reports accuses of what one from more of them does
  accused-again : (a : Activity S D P G C) → IsLeast lists attests cmp reports a → (x : Accusation) → accused a ≡ Some x → IsAccused others x
  accused-again (activity.Notarize v) least x is = absurd least
  accused-again (activity.Notarization c) least x is = absurd least
  accused-again (activity.Certification c) least x is = absurd least
  accused-again (activity.Nullify v) least x is = absurd least
  accused-again (activity.Nullification c) least x is = absurd least
  accused-again (activity.Finalize v) least x is = absurd least
  accused-again (activity.Finalization c) least x is = absurd least
  accused-again (activity.ConflictingNotarize e) least x is =
      subst (IsAccused others) (ap (told x) is) (verdict.two_notarizes e.0.proposal.round e.0.attestation.signer (guilty-from_least notarize attests cmp (notarizes_of lists reports) (notarizes_of lists more) (among (notarizes_in lists)) e.0 e.1 least))
  accused-again (activity.ConflictingFinalize e) least x is =
      subst (IsAccused others) (ap (told x) is) (verdict.two_finalizes e.0.proposal.round e.0.attestation.signer (guilty-from_least finalize attests cmp (finalizes_of lists reports) (finalizes_of lists more) (among (finalizes_in lists)) e.0 e.1 least))
  accused-again (activity.NullifyFinalize e) least x is =
      subst (IsAccused others) (ap (told x) is)
      (verdict.nullify_beside e.0.round e.0.attestation.signer (beside-from_least attests cmp (nullifies_of lists reports) (nullifies_of lists more) (finalizes_of lists reports) (finalizes_of lists more) (among (nullifies_in lists)) (among (finalizes_in lists)) e.0 e.1 least))

  -- whom the audit of some reports names, the audit of more of them names too
  pub names-stay : IsVerdict lists attests cmp reports evidence → (x : Accusation) → IsAccused evidence x → IsAccused others x
  names-stay before x named = accused-again named.0 (before.sound named.0 named.1) x named.2
