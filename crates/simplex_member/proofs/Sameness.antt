-- What setups of one member have in common.
use Rattle.std.proofs.Common.{◌≡◌, ◌∙◌, ℕ, List, Option, Some, None, sym, ap, subst}
use Rattle.types_core.specs.declared.scheme.Scheme.{Ghosts}
use Rattle.messages_certificates.specs.declared.artifact.Artifact.{Artifact}
use Rattle.simplex_record.specs.declared.owner.Owner.{Owner}
use Rattle.simplex_record.specs.Lawful.{IsLawful}
use Rattle.simplex_record.specs.World.{World, IsAlike, IsCorrect}
use Rattle.voter_history.specs.History.{by_schedule, scheduled_leader}
use Rattle.simplex_member.specs.Lives.{LiveByNodes, Members}
use Rattle.simplex_member.specs.Packet.{Formats}
use Rattle.simplex_member.specs.Setup.{IsOfOneMember, Setup, owner_of}

module _ {S D P G C : Type 0} (g : Ghosts S D P G C) (s t : Setup S D C) (same : IsOfOneMember s t) where
  pub same-turned : IsOfOneMember t s
  same-turned = record {
    scheme = sym same.scheme;
    me = sym same.me;
    voter_me = sym same.voter_me;
    epoch = sym same.epoch;
    length = sym same.length;
    genesis = λ payload more first second. sym (same.genesis more payload second first);
    mode = sym same.mode;
    elect = λ view certificate. sym (same.elect view certificate);
  }

  pub same-owner : owner_of t ≡ owner_of s
  same-owner = λ k. record { epoch = same.epoch k; term_length = same.length k; signer = same.me k }

  same-leader : (view : ℕ) → scheduled_leader t.voter view ≡ scheduled_leader s.voter view
  same-leader view = λ k. by_schedule (same.mode k) (same.elect view None k)

  -- a record that is lawful by the one is so by the other
  pub lawful-by : (r : List (Artifact S D P G C)) → IsLawful (g.attests t.voter.scheme) (g.certifies t.voter.scheme) (owner_of t) r → IsLawful (g.attests s.voter.scheme) (g.certifies s.voter.scheme) (owner_of s) r
  lawful-by r lawful = subst (λ (o : Owner). IsLawful (g.attests s.voter.scheme) (g.certifies s.voter.scheme) o r) same-owner
      (subst (λ (own : S). IsLawful (g.attests own) (g.certifies own) (owner_of t) r) same.scheme lawful)

  -- what rests on size, length of terms, schedule and index is as well
  pub ground-by : (Stands : ℕ → ℕ → (ℕ → Option ℕ) → ℕ → Type 0) → Stands (g.size t.voter.scheme) t.voter.length (scheduled_leader t.voter) t.me → Stands (g.size s.voter.scheme) s.voter.length (scheduled_leader s.voter) s.me
  ground-by Stands is =
      let by_size = subst (λ (own : S). Stands (g.size own) t.voter.length (scheduled_leader t.voter) t.me) same.scheme is in
      let by_length = subst (λ (n : ℕ). Stands (g.size s.voter.scheme) n (scheduled_leader t.voter) t.me) same.length by_size in
      let by_leader = subst (λ (l : ℕ → Option ℕ). Stands (g.size s.voter.scheme) s.voter.length l t.me) (λ k view. same-leader view k) by_length in
      subst (λ (n : ℕ). Stands (g.size s.voter.scheme) s.voter.length (scheduled_leader s.voter) n) same.me by_leader

-- of a setup of a correct member
module _ {S D P G C : Type 0} (g : Ghosts S D P G C) (f : Formats S D P G C) (scheme : S) (m : Members S D P G C) (world : World S D P G C) (w : LiveByNodes g f scheme m world) (i : ℕ) (correct : IsCorrect world i)
    (t : Setup S D C) (same : IsOfOneMember (m.setup i) t) where
  pub like-of : IsAlike world.size (g.attests scheme) (g.size t.voter.scheme) (g.attests t.voter.scheme)
  like-of = subst (λ (own : S). IsAlike world.size (g.attests scheme) (g.size own) (g.attests own)) (sym same.scheme) (w.alike i correct)

  pub mine-of : t.me ≡ i
  mine-of = same.me ∙ ap (λ (o : Owner). o.signer) (w.owner i correct)
