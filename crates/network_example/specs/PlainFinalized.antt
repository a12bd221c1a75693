-- The committee of one under the plain scheme.
use Rattle.std.specs.Prelude.{◌≡◌, ◌+◌, ℕ, List, [], ◌∷◌, Some}
use Rattle.std.specs.declared.vec.Vec.{Vec}
use Rattle.std.specs.declared.alloc.Global.{Global}
use Rattle.types_core.specs.declared.attestation.Attestation.{Attestation}
use Rattle.types_core.specs.declared.proposal.Proposal.{Proposal}
use Rattle.types_core.specs.declared.scheme.Scheme.{Ghosts}
use Rattle.types_core.specs.Subject.{Statement, finalize, notarize}
use Rattle.simplex_types.specs.Plain.{Committee, signature}
use Rattle.simplex_member.specs.Packet.{Formats}
use Rattle.network_example.specs.Finalized.{IsFinalizing, Lone, round_of}

-- the only member's view of its committee
abbrev pub member_of_one : List ℕ → Committee
member_of_one base = record { base = base; participants = 1; me = Some 0 }

module _ {D : Type 0} (spelling : D → List ℕ) (base : List ℕ) (payload : ℕ → D) where
  -- its attestation of a statement; what it proposes in the view behind this one
  abbrev pub own_attestation : Statement D → Attestation (List ℕ)
  own_attestation t = record { signer = 0; signature = signature spelling base 0 t }

  abbrev pub plain_proposal : ℕ → Proposal D
  plain_proposal view = record { round = round_of (view + 1); parent = view; payload = payload (view + 1) }

  -- the example, of these payloads: each certificate is its one attestation
  abbrev pub plain_lone : Vec ℕ Global → Lone Committee D (List ℕ) (List (Attestation (List ℕ)))
  plain_lone nobody = record {
    own = member_of_one base;
    payload = payload;
    agrees = λ view. (own_attestation (notarize (plain_proposal view))).signature;
    ends = λ view. (own_attestation (finalize (plain_proposal view))).signature;
    agreed = λ view. own_attestation (notarize (plain_proposal view)) ∷ [];
    ended = λ view. own_attestation (finalize (plain_proposal view)) ∷ [];
    nobody = nobody;
  }

-- so it finalizes two views, whatever the payloads are, where they can be spelled
abbrev pub PlainViewsAreFinalized : {D P : Type 0} → Ghosts Committee D P (List ℕ) (List (Attestation (List ℕ)))
    → Formats Committee D P (List ℕ) (List (Attestation (List ℕ))) → (D → List ℕ) → (D → Type 0) → Type 0
PlainViewsAreFinalized {D} {P} g f spelling Fits = (base : List ℕ) (payload : ℕ → D) (nobody : Vec ℕ Global) → ((view : ℕ) → Fits (payload view))
    → nobody.items ≡ []
    → IsFinalizing g (plain_lone spelling base payload nobody) f (member_of_one base)
