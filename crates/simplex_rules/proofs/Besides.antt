-- A nullify beside a finalize, by the first of the one and the least of the other.
use Rattle.std.proofs.Common.{◌≡◌, ℕ, List, Some, None, sym, ap, ◌∙◌}
use Rattle.std.specs.declared.cmp.Ordering.{Ordering}
use Rattle.types_core.specs.declared.position.Round.{Round}
use Rattle.types_core.specs.Subject.{Statement, finalize}
use Rattle.messages_certificates.specs.declared.nullify.Nullify.{Nullify}
use Rattle.messages_certificates.specs.ProposalVote.{Finalize}
use Rattle.simplex_messages.specs.Guilt.{IsGuiltyBeside}
use Rattle.messages_certificates.specs.StandsBeside.{StandsBeside}
use Rattle.simplex_rules.specs.declared.cast.Suspect.{Suspect}
use Rattle.simplex_rules.specs.Tally.{nullify_suspect, suspect_of, IsFirstOf, IsLeastOf, IsBesideOf}
use Rattle.simplex_rules.proofs.Judging.{suspect_from}

-- a nullify and a finalize of one suspect stand beside each other
pub one_suspect-beside : {S D P G C : Type 0} (q : Suspect) (a : Nullify S D P G C) (b : Finalize S D P G C) → nullify_suspect a ≡ q → suspect_of b ≡ q → StandsBeside a b
one_suspect-beside q a b first second = record {
  one_round = ap (λ (s : Suspect). s.round) (first ∙ sym second);
  one_signer = ap (λ (s : Suspect). s.signer) (first ∙ sym second);
}

-- in whose name the two votes of the guilty are
module _ {S D P G C : Type 0} (attests : ℕ → Statement D → G → Type 0) (nullifies : List (Nullify S D P G C)) (finalizes : List (Finalize S D P G C)) (q : Suspect) where
  pub first_is : (g : IsGuiltyBeside attests nullifies finalizes q.round q.signer) → nullify_suspect g.first ≡ q
  first_is g = ap (λ (r : Round). suspect_from r g.first.attestation.signer) g.round_is ∙ ap (λ (i : ℕ). suspect_from q.round i) g.signer_is

  pub second_is : (g : IsGuiltyBeside attests nullifies finalizes q.round q.signer) → suspect_of g.second ≡ q
  second_is g = ap (λ (r : Round). suspect_from r g.second.attestation.signer) (sym g.beside.one_round) ∙ ap (λ (i : ℕ). suspect_from g.first.round i) (sym g.beside.one_signer) ∙ first_is g

module _ {S D P G C : Type 0} (attests : ℕ → Statement D → G → Type 0) (cmp : D → D → Ordering) (nullifies : List (Nullify S D P G C)) (finalizes : List (Finalize S D P G C)) (q : Suspect) where
  -- without a nullify that verifies there is no guilt
  pub beside-no_nullify : IsFirstOf attests nullifies q None → IsBesideOf attests cmp nullifies finalizes q None
  beside-no_nullify none = λ g. none g.first g.first_is_there g.first_verifies (first_is attests nullifies finalizes q g)

  -- nor without such a finalize
  pub beside-no_finalize : IsLeastOf finalize attests cmp finalizes q None → IsBesideOf attests cmp nullifies finalizes q None
  beside-no_finalize none = λ g. none g.second g.second_is_there g.second_verifies (second_is attests nullifies finalizes q g)

  pub beside-both : (a : Nullify S D P G C) (b : Finalize S D P G C) → nullify_suspect a ≡ q → suspect_of b ≡ q → IsFirstOf attests nullifies q (Some a) → IsLeastOf finalize attests cmp finalizes q (Some b) → IsBesideOf attests cmp nullifies finalizes q (Some (a, b))
  beside-both a b first second is_first is_least = (
    first,
    record {
      beside = one_suspect-beside q a b first second;
      first = is_first;
      second = is_least.0;
      least = λ v there verifies theirs. is_least.1 v there verifies (record {
        round_is = theirs.round_is ∙ ap (λ (s : Suspect). s.round) second;
        signer_is = theirs.signer_is ∙ ap (λ (s : Suspect). s.signer) second;
      });
    },
  )
