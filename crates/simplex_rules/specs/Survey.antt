-- Of whom an audit weighs the votes.
use Rattle.std.specs.Prelude.{◌≡◌, ◌⊎◌, ℕ, List, Contains, IsTrue, Some}
use Rattle.std.specs.BTreeSet.{BTreeSet, IsSubset, contains}
use Rattle.types_core.specs.declared.attestation.Attestation.{Attestation}
use Rattle.types_core.specs.declared.position.Round.{Round}
use Rattle.types_core.specs.Subject.{Statement, notarize, finalize}
use Rattle.simplex_messages.specs.declared.activity.Activity.{Activity}
use Rattle.messages_certificates.specs.declared.nullify.Nullify.{Nullify}
use Rattle.messages_certificates.specs.declared.proposal_vote.ProposalVote.{ProposalVote}
use Rattle.simplex_messages.specs.Guilt.{notarizes_in, nullifies_in, finalizes_in, notarizes_of, nullifies_of, finalizes_of, IsGuilty, IsGuiltyBeside}
use Rattle.simplex_rules.specs.declared.cast.Choice.{Choice}
use Rattle.simplex_rules.specs.declared.cast.Suspect.{Suspect}
use Rattle.simplex_rules.specs.declared.survey.Survey.{Survey}
use Rattle.simplex_rules.specs.Choices.{Extends, choice_in}
use Rattle.simplex_rules.specs.Kept.{suspect_cmp}
use Rattle.simplex_rules.specs.Tally.{cast_of, suspect_of, nullify_suspect}

module _ {K S D P G C : Type 0} where
  -- the vote is for its round's choice, or else its suspect is contested
  abbrev pub IsNoted : List (Round × Choice D) → BTreeSet Suspect → ProposalVote K S D P G C → Type 0
  IsNoted chosen contested v = IsTrue (contains suspect_cmp contested (suspect_of v)) ⊎ (choice_in chosen v.proposal.round ≡ Some (cast_of v).choice)

  -- each of these votes is for its round's choice, or else its suspect is contested
  abbrev pub AreNoted : List (Round × Choice D) → BTreeSet Suspect → List (ProposalVote K S D P G C) → Type 0
  AreNoted chosen contested votes = (v : ProposalVote K S D P G C) → Contains votes v → IsNoted chosen contested v

  -- these votes were noted, and what was noted before stays so
  pub record Notes (m n : List (Round × Choice D)) (s t : BTreeSet Suspect) (votes : List (ProposalVote K S D P G C)) : Type 0 where
    pub extends : Extends m n
    pub stay : IsSubset suspect_cmp s t
    pub noted : AreNoted n t votes

module _ {S D P G C : Type 0} where
  -- the suspect of each of these nullifies is in the set
  abbrev pub AreGivenUp : BTreeSet Suspect → List (Nullify S D P G C) → Type 0
  AreGivenUp nullified votes = (v : Nullify S D P G C) → Contains votes v → IsTrue (contains suspect_cmp nullified (nullify_suspect v))

  module _ (lists : C → List (Attestation G)) where
    -- all votes of these reports were noted
    pub record AreSurveyed (reports : List (Activity S D P G C)) (survey : Survey D) : Type 0 where
      pub notarizes : AreNoted survey.notarized survey.contested (notarizes_of lists reports)
      pub finalizes : AreNoted survey.finalized survey.contested (finalizes_of lists reports)
      pub nullifies : AreGivenUp survey.nullified (nullifies_of lists reports)

    -- the votes of this report were noted, and what was noted before stays so
    pub record SurveysOne (report : Activity S D P G C) (old new : Survey D) : Type 0 where
      pub notarized : Extends old.notarized new.notarized
      pub finalized : Extends old.finalized new.finalized
      pub nullified : IsSubset suspect_cmp old.nullified new.nullified
      pub contested : IsSubset suspect_cmp old.contested new.contested
      pub notarizes : AreNoted new.notarized new.contested (notarizes_in lists report)
      pub finalizes : AreNoted new.finalized new.contested (finalizes_in lists report)
      pub nullifies : AreGivenUp new.nullified (nullifies_in lists report)

    -- the set has each signer in a round who is guilty by these reports
    pub record HasGuilty (attests : ℕ → Statement D → G → Type 0) (reports : List (Activity S D P G C)) (contested : BTreeSet Suspect) : Type 0 where
      pub two_notarizes : (round : Round) (signer : ℕ) → IsGuilty notarize attests (notarizes_of lists reports) round signer → IsTrue (contains suspect_cmp contested (record { round = round; signer = signer }))
      pub two_finalizes : (round : Round) (signer : ℕ) → IsGuilty finalize attests (finalizes_of lists reports) round signer → IsTrue (contains suspect_cmp contested (record { round = round; signer = signer }))
      pub nullify_beside : (round : Round) (signer : ℕ) → IsGuiltyBeside attests (nullifies_of lists reports) (finalizes_of lists reports) round signer → IsTrue (contains suspect_cmp contested (record { round = round; signer = signer }))
