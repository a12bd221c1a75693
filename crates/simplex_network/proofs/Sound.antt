-- Each verifying certificate that is there is sound.
use Rattle.std.proofs.Common.{⊎_elim, ℕ, subst}
use Rattle.types_core.specs.declared.scheme.Scheme.{Ghosts}
use Rattle.types_core.specs.Quorum.{IsQuorum}
use Rattle.types_core.specs.Subject.{Statement}
use Rattle.messages_certificates.specs.declared.certificate.Certificate.{Certificate}
use Rattle.messages_certificates.specs.Certificate.{certificate_statement, certified_by}
use Rattle.simplex_record.specs.World.{World, IsCorrect, IsHonest, IsSound}
use Rattle.simplex_member.specs.Laws.{MadeAreSound}
use Rattle.simplex_member.specs.Lives.{LiveByNodes, Members}
use Rattle.simplex_member.specs.Packet.{Formats, of_certificate}
use Rattle.simplex_network.specs.Agreement.{AllAreSound}

module _ {S D P G C : Type 0} (g : Ghosts S D P G C) (f : Formats S D P G C)
    (backed : (own : S) (x : Statement D) (c : C) → g.certifies own x c → IsQuorum (g.size own) (λ i a. g.attests own i x a) (g.lists c)) where
  -- a certificate that verifies by a correct member's scheme, and is honest
  honest-sound : (scheme : S) (m : Members S D P G C) (world : World S D P G C) → LiveByNodes g f scheme m world → (i : ℕ) → IsCorrect world i → (c : Certificate S D P G C)
      → IsHonest (g.attests scheme) g.lists world c → g.certifies (m.setup i).voter.scheme (certificate_statement c) (certified_by c) → IsSound (g.attests scheme) g.lists world c
  honest-sound scheme m world w i correct c honest verifies =
      let alike = w.alike i correct in
      let own = backed (m.setup i).voter.scheme (certificate_statement c) (certified_by c) verifies in
      let q = subst (λ (n : ℕ). IsQuorum n (λ j a. g.attests (m.setup i).voter.scheme j (certificate_statement c) a) (g.lists (certified_by c))) alike.size_is own in
      record {
        backed = record { distinct = q.distinct; members = q.members; enough = q.enough; attesting = λ k d l. alike.attests_too _ _ _ (q.attesting k d l) };
        honest = honest;
      }

  pub all-sound : MadeAreSound g f → AllAreSound g f
  all-sound made scheme m world w c there = ⊎_elim
      (λ came. honest-sound scheme m world w came.member came.correct c (⊎_elim
      (λ by. w.honest came.member by.0 came.correct (of_certificate c) by.1)
      (λ floor. w.floors came.member came.correct c floor)
      came.handed) came.verifies)
      (λ others. ⊎_elim
      (λ by. made scheme m world w by.member by.correct by.life by.h by.reached by.view by.kind by.batch by.allowed c by.made)
      (λ else_. honest-sound scheme m world w else_.member else_.correct c else_.honest else_.verifies)
      others)
      there
