-- Whom a node blocks: whose packet it refuses, and whose vote a construction finds false.
use Rattle.std.proofs.Common.{ℕ, [], ◌∷◌, Option, Some, None, refl, ap, subst, arith}
use Rattle.std.specs.Prelude.{Contains}
use Rattle.types_core.specs.declared.scheme.Scheme.{Ghosts}
use Rattle.simplex_messages.specs.declared.vote.Vote.TheVariants as vote
use Rattle.simplex_member.specs.Deeds.{Deed, Sends, Blocks, deeds_of}
use Rattle.simplex_member.specs.Packet.{Formats, of_vote}
use Rattle.simplex_member.specs.Point.{Point, Constructs, Votes, Repeats, History}
use Rattle.simplex_member.specs.Setup.{Setup}
use Rattle.simplex_member.proofs.Handing.{PassesBy, among-first, first_deeds}
use Rattle.simplex_member.proofs.Lists.{Contains-mapped, lacks-absurd, lacks-one, some-is}

module _ {S D P G C : Type 0} where
  -- whom a deed blocks
  abbrev pub block_in : Deed S D P G C → Option ℕ
  block_in (Blocks j) = Some j
  block_in d = None

  pub blocks-alone : PassesBy block_in
  blocks-alone = record {
    certificates = λ to c. refl;
    asks = λ to view. refl;
    serves = λ member bytes. refl;
    builds = λ number handoff context. refl;
    verifies = λ number context p. refl;
    certifies = λ p. refl;
    hands = λ payload way. refl;
    finalizes = λ p. refl;
    reports = λ a. refl;
  }

module _ {S D P G C : Type 0} (g : Ghosts S D P G C) (f : Formats S D P G C) (s : Setup S D C) where
  -- whom a construction blocks
  abbrev IsInvalid : Point S D P G C → ℕ → Type 0
  IsInvalid (Constructs view kind batch) j = Contains batch.invalid.items j
  IsInvalid p j = ⊥

  first-blocks : (p : Point S D P G C) (j : ℕ) → Contains (first_deeds p) (Blocks j) → IsInvalid p j
  first-blocks (Constructs view kind batch) j here =
      let k = Contains-mapped Blocks batch.invalid.items (Blocks j) here in
      subst (λ (x : ℕ). Contains batch.invalid.items x) (some-is k.0 j (ap block_in k.2)) k.1
  first-blocks (Votes w) j here = absurd (lacks-absurd block_in (Sends None (of_vote w) ∷ []) (Blocks j) j (lacks-one block_in (Sends None (of_vote w)) refl) refl here)
  first-blocks (Repeats w best) j here = absurd (lacks-absurd block_in (Sends None (of_vote (vote.Nullify w)) ∷ []) (Blocks j) j (lacks-one block_in (Sends None (of_vote (vote.Nullify w))) refl) refl here)
  first-blocks p j here = absurd (omega (arith, here.1))

  -- no point blocks but a construction
  pub block-here : (h : History S D P G C) (p : Point S D P G C) (j : ℕ) → Contains (deeds_of g f s h p) (Blocks j) → IsInvalid p j
  block-here h p j here = first-blocks p j (among-first block_in blocks-alone g f s h p (Blocks j) j refl here)
