-- Each vote that is sent was due, and none is due where a life has answered.
use Rattle.std.proofs.Common.{⊎_elim, ℕ, List, [], ◌∷◌, ◌++◌, Option, refl, sym, subst}
use Rattle.std.specs.Prelude.{Contains}
use Rattle.types_quorum.specs.Counting.{Contains-cases, Contains-nil}
use Rattle.types_core.specs.declared.scheme.Scheme.{Ghosts}
use Rattle.messages_certificates.specs.declared.artifact.Artifact.{Artifact}
use Rattle.simplex_messages.specs.declared.vote.Vote.{Vote}
use Rattle.simplex_record.specs.World.{World, IsCorrect}
use Rattle.simplex_member.specs.Deeds.{Sends}
use Rattle.simplex_member.specs.Lives.{Course, Life, Broken, Lasting, Turn, Refuses, Rewrites, Went, HandedOut, Lived, LiveByNodes, Members, Turns}
use Rattle.simplex_member.specs.Member.{NoneDue, after}
use Rattle.simplex_member.specs.Packet.{Formats, of_vote}
use Rattle.simplex_member.specs.Point.{Rewrote, History}
use Rattle.simplex_member.specs.Sent.{WasCastDue, answers_of, turns_answer}
use Rattle.simplex_member.specs.Setup.{Setup}
use Rattle.simplex_member.proofs.Blame.{after-goes, refused-none}
use Rattle.simplex_member.proofs.Lists.{lacks-absurd}
use Rattle.simplex_member.proofs.Sending.{due-here, is-sent, vote_in}
use Rattle.simplex_member.proofs.Walking.{deed-done, of-correct}

module _ {S D P G C : Type 0} (g : Ghosts S D P G C) (f : Formats S D P G C) (s : Setup S D C) where
  turns-rest : (h : History S D P G C) (turns : List (Turn S D P G C)) (end : History S D P G C) → Turns g f s h turns end → NoneDue g f s h
      → (k : History S D P G C) → Contains (turns_answer h turns) k → NoneDue g f s k
  turns-rest h [] end t none k here = absurd (Contains-nil k here)
  turns-rest h (Refuses e r ∷ turns) end t none k here = ⊎_elim
      (λ is. subst (λ (x : History S D P G C). NoneDue g f s x) is none)
      (λ later. turns-rest h turns end t.1 none k later)
      (Contains-cases h (turns_answer h turns) k here)
  turns-rest h (Went e points ∷ turns) end t none k here =
      let at = after-goes g f s h points t.0 t.2.goes in
      let then_ = subst (λ (x : History S D P G C). NoneDue g f s x) (sym at) t.2.none_due in
      ⊎_elim
      (λ is. subst (λ (x : History S D P G C). NoneDue g f s x) is then_)
      (λ later. turns-rest (after h points) turns end (subst (λ (x : History S D P G C). Turns g f s x turns end) (sym at) t.3) then_ k later)
      (Contains-cases (after h points) (turns_answer (after h points) turns) k here)
  turns-rest h (Rewrites c ∷ turns) end t none k here = ⊎_elim
      (λ is. subst (λ (x : History S D P G C). NoneDue g f s x) is t.0.none_due)
      (λ later. turns-rest (Rewrote c ∷ h) turns end t.1 t.0.none_due k later)
      (Contains-cases (Rewrote c ∷ h) (turns_answer (Rewrote c ∷ h) turns) k here)

  life-rests : (found : List (Artifact S D P G C)) (life : Course S D P G C) (end : History S D P G C) → Lived g f s found life end → (k : History S D P G C) → Contains (answers_of life) k → NoneDue g f s k
  life-rests found (Broken now points) end lived k here = absurd (Contains-nil k here)
  life-rests found (Lasting now points turns cut) end lived k here =
      let at = after-goes g f s [] points lived.0 lived.3.goes in
      let opened = subst (λ (x : History S D P G C). NoneDue g f s x) (sym at) lived.3.none_due in
      ⊎_elim
      (λ is. subst (λ (x : History S D P G C). NoneDue g f s x) is opened)
      (λ later. turns-rest (after [] points) turns lived.1 (subst (λ (x : History S D P G C). Turns g f s x turns lived.1) (sym at) lived.4) opened k later)
      (Contains-cases (after [] points) (turns_answer (after [] points) turns) k here)

module _ {S D P G C : Type 0} (g : Ghosts S D P G C) (f : Formats S D P G C) (scheme : S) (m : Members S D P G C) (world : World S D P G C) (w : LiveByNodes g f scheme m world) (i : ℕ) (correct : IsCorrect world i) where
  pub sent-due : (to : Option ℕ) (v : Vote S D P G C) → HandedOut g f scheme m world i (Sends to (of_vote v)) → WasCastDue g f m i v
  sent-due to v out = ⊎_elim
      (λ at. record {
        life = at.life;
        h = at.h;
        p = at.p;
        next = at.next;
        due = due-here g f at.life.setup at.h at.p v at.allowed (is-sent g f at.life.setup at.h at.p to v at.done);
      })
      (λ at. absurd (lacks-absurd vote_in _ (Sends to (of_vote v)) v (refused-none g f at.life.setup at.h at.e at.r) refl at.done))
      (deed-done g f scheme m world i w correct (Sends to (of_vote v)) out)

  pub none-left : (life : Life S D P G C) → Contains (m.lives i) life → (h : History S D P G C) → Contains (answers_of life.course) h → NoneDue g f life.setup h
  none-left life among h here =
      let lived = of-correct g f scheme m world i w correct life among in
      life-rests g f life.setup (lived.found ++ life.founded) life.course lived.end lived.lived h here
